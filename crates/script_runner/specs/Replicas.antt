-- Whether a replica follows the lock table, and the counts of the link to it, call by call.
use Rattle.std.specs.Prelude.{◌≡◌, ◌⊎◌, ◌≤◌, ℕ, Bool, true, false, List, [], ◌∷◌}
use Rattle.enq_base.specs.Causes.{Rose}
use Rattle.hall_model.specs.Calls.{call_of, renews_replica}
use Rattle.hall_model.specs.Devices.{is_doubt}
use Rattle.hall_calls.specs.Serving.{HasLinkCause}
use Rattle.hall_model.specs.State.{State}
use Rattle.hall_model.specs.declared.command.PastEntry.{PastEntry}

-- in how many calls a link failed, and in how many it found no memory
pub record LinkCounts : Type 0 where
  pub faults : ℕ
  pub refusals : ℕ

abbrev pub link_counts : {L : Type 0} → (faults refusals : L → ℕ) → L → LinkCounts
link_counts faults refusals link = record { faults = faults link; refusals = refusals link }

-- neither has fallen
pub record AreLater (before now : LinkCounts) : Type 0 where
  pub faults : before.faults ≤ now.faults
  pub refusals : before.refusals ≤ now.refusals

-- one of them has risen
abbrev pub OneRose : LinkCounts → LinkCounts → Type 0
OneRose before now = Rose before.faults now.faults ⊎ Rose before.refusals now.refusals

-- a replica followed, and behind this call it doesn't, though the call brings no other or none, and leaves the server
-- in no doubt
pub record IsLost (attached : Bool) (e : PastEntry) : Type 0 where
  pub before : attached ≡ true
  pub now : e.after.attached ≡ false
  pub other : renews_replica (call_of e.command) ≡ false
  pub calm : is_doubt e.after.condition ≡ false

-- what a call may come to, by what the link's counts did in it
pub record CountsLink (attached : Bool) (e : PastEntry) (before now : LinkCounts) : Type 0 where
  pub later : AreLater before now
  -- that the link failed is answered only where it did
  pub failed : HasLinkCause before.faults now.faults e.reply
  -- a replica is lost only where it failed or found no memory
  pub lost : IsLost attached e → OneRose before now

-- the same of each of these calls, one behind the other
abbrev pub CountsLinkEach : (attached : Bool) → List PastEntry → (before now : LinkCounts) → Type 0
CountsLinkEach attached [] before now = AreLater before now
CountsLinkEach attached (e ∷ past) before now =
    (between : LinkCounts) × (CountsLink attached e before between × CountsLinkEach e.after.attached past between now)

-- whether a replica follows behind these calls
abbrev pub follows_behind : (attached : Bool) → List PastEntry → Bool
follows_behind attached [] = attached
follows_behind attached (e ∷ past) = follows_behind e.after.attached past

-- the same of each call of the history, from these counts and a replica that follows or doesn't on; and it tells
-- whether one follows now
pub record HasLinked (attached : Bool) (first : LinkCounts) (s : State) (now : LinkCounts) : Type 0 where
  pub counted : CountsLinkEach attached s.past first now
  pub follows : follows_behind attached s.past ≡ s.attached

-- where it held of each call of the history, it holds of each that came to it too
abbrev pub GoesOnLinked : (old new : State) → (before now : LinkCounts) → Type 0
GoesOnLinked old new before now = (attached : Bool) → (first : LinkCounts) → HasLinked attached first old before
    → HasLinked attached first new now
