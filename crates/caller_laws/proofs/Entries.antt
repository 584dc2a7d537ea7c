-- The answer of a call, in a history that goes on.
use Rattle.std.proofs.Common.{◌≡◌, ℕ, zero, suc, ◌+◌, ◌-◌, List, [], ◌∷◌, ◌++◌, length, refl, ap, ◌∙◌, arith}
use Rattle.std.specs.Prelude.{Option, Some, None}
use Rattle.std.specs.List.{slice_get}
use Rattle.std.specs.Option.{option_map}
use Rattle.hall_model.specs.declared.command.PastEntry.{PastEntry}
use Rattle.hall_model.specs.declared.command.Reply.{Reply}
use Rattle.hall_model.specs.Recall.{HasBegun}
use Rattle.script_runner.specs.Faults.{answer_at}

abbrev answer_of : Option PastEntry → Option Reply
answer_of o = option_map (λ (e : PastEntry). e.reply) o

no_answer : (r : Reply) → ◌≡◌ {A = Option Reply} None (Some r) → ⊥
no_answer r e = cc

entry_again : (past more : List PastEntry) (i : ℕ) (r : Reply) → answer_of (slice_get past i) ≡ Some r → answer_of (slice_get (past ++ more) i) ≡ Some r
entry_again [] more i r is = absurd (no_answer r is)
entry_again (e ∷ past) more zero r is = is
entry_again (e ∷ past) more (suc i) r is = entry_again past more i r is

-- a call that was answered is answered so in each history that goes on from there
pub answered_again : (past later : List PastEntry) (k : ℕ) (r : Reply) → HasBegun past later → answer_at past k ≡ Some r → answer_at later k ≡ Some r
answered_again past later k r begun is = ap (λ p. answer_at p k) begun.1 ∙ entry_again past begun.0 (k - 1) r is

last_entry : (past : List PastEntry) (e : PastEntry) → slice_get (past ++ e ∷ []) (length past) ≡ Some e
last_entry [] e = refl
last_entry (x ∷ past) e = last_entry past e

place_of : (n : ℕ) → n + 1 - 1 ≡ n
place_of n = omega arith

-- the last call has its own answer
pub last_call : (past : List PastEntry) (e : PastEntry) → answer_at (past ++ e ∷ []) (length past + 1) ≡ Some e.reply
last_call past e =
    ap (λ i. answer_of (slice_get (past ++ e ∷ []) i)) (place_of (length past)) ∙ ap answer_of (last_entry past e)
