-- Names of intervals that are one stand for each other, as maps want it of them.
use Rattle.std.specs.Cmp.{IsEquivalence, IsPartialEquivalence, and_equiv, on_equiv, partial_equiv_from_equiv}
use Rattle.std.specs.Cmp.Lexicographic.{nat_list_eq_equiv}
use Rattle.range_list.specs.RangePlaces.{same_range}
use Rattle.range_list.specs.declared.range_id.RangeId.{RangeId}

pub ranges_equiv : IsEquivalence same_range
ranges_equiv =
    and_equiv (on_equiv (λ (a : RangeId). a.object) nat_list_eq_equiv)
    (on_equiv (λ (a : RangeId). a.nr) nat_list_eq_equiv)

pub ranges_partial : IsPartialEquivalence same_range
ranges_partial = partial_equiv_from_equiv ranges_equiv
