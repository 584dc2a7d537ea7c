-- Intervals of other digits have other names.
use Rattle.std.proofs.Common.{◌≡◌, Bool, true, false, [], ◌∷◌, refl}
use Rattle.std.specs.Prelude.{◌&&◌, ◌||◌}
use Rattle.std.specs.Str.{bytes_eq}
use Rattle.ledger_steps.specs.Levels.{AreIntervals, IsUnused}
use Rattle.number_ranges.specs.Intervals.{is_named}
use Rattle.number_ranges.specs.declared.interval.Interval.{Interval}

and_off : (a b : Bool) → b ≡ false → (a && b) ≡ false
and_off true b h = h
and_off false b h = refl

other : (i j : Interval) → bytes_eq j.nr i.nr ≡ false → is_named i.object i.nr j ≡ false
other i j off = and_off (bytes_eq j.object i.object) (bytes_eq j.nr i.nr) off

pub three_apart : (i j k : Interval) → IsUnused i → IsUnused j → IsUnused k → i.nr ≡ 48 ∷ 49 ∷ [] → j.nr ≡ 48 ∷ 50 ∷ [] → k.nr ≡ 48 ∷ 51 ∷ []
    → AreIntervals (i ∷ j ∷ k ∷ [])
three_apart i j k a b c one two three = record {
  each = (a, (b, (c, tt)));
  apart = (
    (λ x. other i j (λ y. bytes_eq (two y) (one y)) x || (other i k ((λ y. bytes_eq (three y) (one y))) x || false)),
    ((λ x. other j k ((λ y. bytes_eq (three y) (two y))) x || false), (refl, tt)),
  );
}
