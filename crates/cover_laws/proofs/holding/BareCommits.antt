-- A commit without effects ends no unit.
use Rattle.std.proofs.Common.{◌≡◌, true≢false, ℕ, Bool, true, false, not, List, [], ◌++◌, refl, sym, ◌∙◌}
use Rattle.std.specs.Prelude.{if◌then◌else◌, nat_lt, Some}
use Rattle.std.proofs.lemmas.Bool.{false≢true}
use Rattle.enq_base.specs.declared.refusal.Refusal.{Refusal}
use Rattle.enq_base.specs.declared.unit.Num.{Num}
use Rattle.enq_base.specs.declared.unit.Parts.{Parts}
use Rattle.lock_entry.specs.declared.entry.Asked.{Asked}
use Rattle.hall_model.specs.declared.command.Reply.TheVariants as reply
use Rattle.hall_model.specs.declared.command.Session.{Session}
use Rattle.hall_model.specs.Calls.{Call, OfSession, Commits}
use Rattle.hall_model.specs.Numbers.{stocked}
use Rattle.hall_model.specs.Sessions.{session_at}
use Rattle.hall_model.specs.State.{State}
use Rattle.hall_model.specs.Step.{Found, Verdict, Refuses, Leaves, call_verdict, effects_in, numbered}
use Rattle.cover_laws.proofs.calls.QuietCalls.{by_commit, by_session}

-- it is refused, leaves nothing, or records numbers alone
pub bare_commit : (Q : Verdict → Type 0) (found : Found) (s : State) (name : List ℕ) (parts : Parts) (stock : List Num)
    → nat_lt 0 (effects_in parts) ≡ false → ((r : Refusal) → Q (Refuses r)) → Q (Leaves (stocked stock s) reply.Done)
    → ((x : Session) → session_at s.sessions name ≡ Some x → Q (Leaves (stocked stock (numbered s x (x.draws ++ stock))) reply.Done))
    → Q (call_verdict found s (OfSession name (Commits parts stock)))
bare_commit Q found s name parts stock none refuse nothing numbers =
    by_session Q found s name (Commits parts stock) refuse
    (λ x at. by_commit Q s x parts stock (record {
      refuses = refuse;
      nothing = λ e. nothing;
      numbers = λ e. numbers x at;
      records = λ some. absurd (true≢false (sym some ∙ none));
    }))

-- a commit of a unit without effects
abbrev pub is_bare : Call → Bool
is_bare (OfSession name (Commits parts stock)) = not (nat_lt 0 (effects_in parts))
is_bare call = false

pub no_effects : (b : Bool) → not b ≡ true → b ≡ false
no_effects true h = absurd (false≢true h)
no_effects false h = refl

-- what such a one moves, and what another
pub without_effects : (b : Bool) (held now : List Asked) → not b ≡ true → now ≡ (if b then [] else held) → now ≡ held
without_effects true held now h e = absurd (false≢true h)
without_effects false held now h e = e

pub with_effects : (b : Bool) (held now : List Asked) → not b ≡ false → now ≡ (if b then [] else held) → now ≡ []
with_effects true held now h e = e
with_effects false held now h e = absurd (true≢false h)
