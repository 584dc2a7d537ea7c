use Rattle.std.proofs.Common.{◌≡◌, true, false, refl, subst}
use Rattle.std.specs.Prelude.{IsTrue}
use Rattle.hall_model.specs.Devices.{IsAsBefore}
use Rattle.hall_calls.proofs.remaking.taken_up.Goals as goal

not_so : (result : _) (P : Type 0) → result ≡ false → (P → IsTrue result) → P → ⊥
not_so true P off back h = cc
not_so false P off back h = let odd : false ≡ true = back h in cc

is_so : (result : _) (P : Type 0) → result ≡ true → (IsTrue result → P) → P
is_so true P on h = h refl
is_so false P on h = absurd (cc)

pub returns-then-not-is_as_before-clause-refused : goal.returns-then-not-is_as_before-clause-refused
returns-then-not-is_as_before-clause-refused c =
    let told = c.taken-taken.ensures in (
      refl,
      subst (λ t. IsAsBefore c.args.found t → ⊥) told
          (not_so c.is_as_before.result (IsAsBefore c.args.found c.taken-taken.result) c.if-not-is_as_before.true c.is_as_before.ensures.1),
    )

pub returns-in-Ok-clause-taken : goal.returns-in-Ok-clause-taken
returns-in-Ok-clause-taken c = record {
  all = refl;
  known = subst (IsAsBefore c.args.found) c.taken-taken.ensures
      (is_so c.is_as_before.result (IsAsBefore c.args.found c.taken-taken.result) c.if-not-is_as_before.false c.is_as_before.ensures.0);
  waiting = c.in-Ok.ensures;
}

pub returns-in-Err-clause-refused : goal.returns-in-Err-clause-refused
returns-in-Err-clause-refused c = (
  refl,
  c.taken-taken.ensures,
  subst (IsAsBefore c.args.found) c.taken-taken.ensures
      (is_so c.is_as_before.result (IsAsBefore c.args.found c.taken-taken.result) c.if-not-is_as_before.false c.is_as_before.ensures.0),
)
