-- The units that wait, told one by one.
use Rattle.std.proofs.Common.{◌≡◌, ℕ, zero, suc, ◌+◌, ◌-◌, true, false, nat_eq, List, [], ◌∷◌, ◌++◌, map, take, Some, None, if◌then◌else◌, refl, sym, ap, ◌∙◌, arith}
use Rattle.std.specs.List.{slice_get}
use Rattle.std.specs.Option.{unwrap_or}
use Rattle.std.proofs.lemmas.Bool.{eqb-true}
use Rattle.enq_base.specs.declared.owner.UnitKey.{UnitKey}
use Rattle.lock_entry.specs.declared.entry.UnitLocks.{UnitLocks}
use Rattle.update_records.specs.Ledger.{Ledger}
use Rattle.ledger_steps.specs.Steps.{at_place, waiting_for}
use Rattle.ledger_steps.specs.Views.{locks_of}
use Rattle.ledger_steps.specs.declared.part.Part.TheVariants.{V1}

taken : {X Y : Type 0} (f : X → Y) (xs : List X) (i : ℕ) (x : X) → slice_get xs i ≡ Some x → map f (take (suc i) xs) ≡ map f (take i xs) ++ f x ∷ []
taken f [] i x h = cc
taken f (y ∷ ys) zero x h = ap (λ o. f (unwrap_or o x) ∷ []) h
taken f (y ∷ ys) (suc i) x h = ap (λ r. f y ∷ r) (taken f ys i x h)

at_next : {X : Type 0} (xs : List X) (i : ℕ) → at_place (i + 1) xs ≡ slice_get xs i
at_next xs i =
    let back : (i + 1) - 1 ≡ i = omega arith in
    elim (nat_eq (i + 1) 0) as (λ b. nat_eq (i + 1) 0 ≡ b → (if b then None else slice_get xs ((i + 1) - 1)) ≡ slice_get xs i) [
      | true ↦ λ e. let none : i + 1 ≡ 0 = eqb-true (i + 1) 0 e in absurd (omega (arith, none))
      | false ↦ λ e. ap (slice_get xs) back
    ] refl

next : (i : ℕ) → suc i ≡ i + 1
next i = omega arith

-- one unit more
pub open_more : (ledger : Ledger) (i : ℕ) (unit : UnitKey) (locks : UnitLocks) (before now : List UnitLocks)
    → at_place (i + 1) (waiting_for V1 ledger) ≡ Some unit → locks ≡ locks_of ledger unit
    → before ≡ map (locks_of ledger) (take i (waiting_for V1 ledger)) → now ≡ before ++ locks ∷ []
    → now ≡ map (locks_of ledger) (take (i + 1) (waiting_for V1 ledger))
open_more ledger i unit locks before now at is so_far pushed =
    let units = waiting_for V1 ledger in
    pushed ∙ ap (λ l. before ++ l ∷ []) is ∙ ap (λ b. b ++ locks_of ledger unit ∷ []) so_far
    ∙ sym (taken (locks_of ledger) units i unit (sym (at_next units i) ∙ at)) ∙ ap (λ n. map (locks_of ledger) (take n units)) (next i)
