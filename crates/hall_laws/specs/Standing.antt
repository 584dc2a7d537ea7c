-- How long the locks of a unit that was committed stand.
use Rattle.std.specs.Prelude.{◌≡◌, ◌≢◌, Bool, true, false, List, [], ◌∷◌, ◌++◌, Contains, IsTrue}
use Rattle.std.specs.List.{list_any}
use Rattle.enq_base.specs.Owners.{same_unit}
use Rattle.enq_base.specs.declared.condition.Condition.TheVariants.{Up}
use Rattle.enq_base.specs.declared.owner.Owner.TheVariants.{Upd}
use Rattle.enq_base.specs.declared.owner.UnitKey.{UnitKey}
use Rattle.enq_base.specs.declared.refusal.Refusal.TheVariants as refusal
use Rattle.lock_entry.specs.declared.entry.Entry.{Entry}
use Rattle.mode_rules.specs.declared.Mode.TheVariants.{O}
use Rattle.ledger_steps.specs.Posts.{entries_of}
use Rattle.ledger_steps.specs.Steps.{IsOpenUnit}
use Rattle.hall_model.specs.declared.command.PastEntry.{PastEntry}
use Rattle.hall_model.specs.declared.command.Reply.{Reply}
use Rattle.hall_model.specs.declared.command.Reply.TheVariants as reply
use Rattle.hall_model.specs.Calls.{Call, OfSession, OfAdmin, Cancels, Commits, Resubmits, call_of, is_of_server}
use Rattle.hall_model.specs.Kept.{WhileUp}
use Rattle.hall_model.specs.Recall.{Made, state_after}
use Rattle.hall_model.specs.State.{State, is_honest}

abbrev pub is_commit : Call → Bool
is_commit (OfSession session (Commits parts stock)) = true
is_commit _ = false

-- the call is the commit that recorded this unit
pub record IsCommitOf (unit : UnitKey) (call : PastEntry) : Type 0 where
  pub commits : IsTrue (is_commit (call_of call.command))
  pub answered : call.reply ≡ reply.Unit unit

-- the server is up, and the unit waits for its V1 part
pub record StillWaits (unit : UnitKey) (s : State) : Type 0 where
  pub up : s.condition ≡ Up
  pub waits : IsOpenUnit s.stored unit

-- the call is to cancel this unit
abbrev pub cancels : UnitKey → Call → Bool
cancels unit (OfAdmin (Cancels other)) = same_unit other unit
cancels unit _ = false

abbrev pub is_resubmission_of : UnitKey → Call → Bool
is_resubmission_of unit (OfAdmin (Resubmits other)) = same_unit other unit
is_resubmission_of unit _ = false

-- by this call a refused part of the unit is tried again
pub record IsResubmissionOf (unit : UnitKey) (call : PastEntry) : Type 0 where
  pub resubmits : is_resubmission_of unit (call_of call.command) ≡ true
  pub answered : call.reply ≡ reply.Unit unit

-- with this call and its answer the unit waits no more: its V1 part was posted or refused, it was cancelled, or the
-- store or the disk of the backup file failed
abbrev pub ends_wait : UnitKey → Call → Reply → Bool
ends_wait unit c (reply.Posted other) = same_unit other unit
ends_wait unit c (reply.Bad other index reason) = same_unit other unit
ends_wait unit c (reply.Unit other) = cancels unit c
ends_wait unit c (reply.Refused refusal.StoreFault) = true
ends_wait unit c (reply.Refused refusal.BackupFault) = true
ends_wait unit c _ = false

-- none of these calls does
abbrev pub NoneEndsWait : UnitKey → List Made → Type 0
NoneEndsWait unit made =
    list_any (λ (m : Made). ends_wait unit (call_of m.call.command) m.call.reply) made ≡ false

-- none of these calls ends the lock server or makes one anew
abbrev pub NoneOfServer : List Made → Type 0
NoneOfServer made = list_any (λ (m : Made). is_of_server (call_of m.call.command)) made ≡ false

-- ---- locks of a unit

-- a lock of the unit that its commit hands over to the update; the optimistic ones go
pub record IsFirm (unit : UnitKey) (e : Entry) : Type 0 where
  pub owner : e.owner ≡ Upd unit
  pub mode : e.mode ≢ O

abbrev pub with_handed : Entry → Entry
with_handed e = record e { handed = true }

-- from one state to another the unit's firm locks are handed over
abbrev pub FirmAreHanded : UnitKey → State → State → Type 0
FirmAreHanded unit s t = (e : Entry) → IsFirm unit e → Contains s.locks e → Contains t.locks (with_handed e)

-- ---- through a history

-- From the state before its commit on, the unit waits. There is a lock server where none of these calls ended it; and
-- while there is one it has the locks that it had, where the locks can be told from the calls.
pub record WaitsLocked (unit : UnitKey) (calls : List Made) (before now : State) : Type 0 where
  pub waits : IsOpenUnit now.stored unit
  pub up : NoneOfServer calls → now.condition ≡ Up
  pub locks : IsTrue (is_honest before) → IsTrue (is_honest now)
      → WhileUp now.condition (FirmAreHanded unit before now)

-- A committed unit waits for its V1 part, and its locks stand where they can be told, until a call ends that. A lock
-- server that is made anew has them again.
abbrev pub LocksStand : State → List Made → Type 0
LocksStand first made =
    (earlier between later : List Made) (m : Made) (unit : UnitKey)
    → made ≡ earlier ++ m ∷ (between ++ later) → IsCommitOf unit m.call → NoneEndsWait unit between
    → WaitsLocked unit between (state_after first earlier) (state_after first (earlier ++ m ∷ between))

-- The unit waits; and while there is a lock server, where the locks can be told from the calls, those stand that were
-- stored with it when its V1 part was tried again.
pub record ReturnsLocked (unit : UnitKey) (calls : List Made) (begun now : State) : Type 0 where
  pub waits : IsOpenUnit now.stored unit
  pub up : NoneOfServer calls → now.condition ≡ Up
  pub locks : IsTrue (is_honest now)
      → WhileUp now.condition ((e : Entry) → Contains (entries_of begun.stored.units unit) e → Contains now.locks e)

-- where a unit waits for its V1 part again its stored locks stand where they can be told, until a call ends that
abbrev pub LocksReturn : State → List Made → Type 0
LocksReturn first made =
    (earlier between later : List Made) (m : Made) (unit : UnitKey)
    → made ≡ earlier ++ m ∷ (between ++ later) → IsResubmissionOf unit m.call → NoneEndsWait unit between
    → StillWaits unit (state_after first (earlier ++ m ∷ []))
    → ReturnsLocked unit between (state_after first (earlier ++ m ∷ [])) (state_after first (earlier ++ m ∷ between))
