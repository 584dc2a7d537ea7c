-- Names that are one stand for each other, as maps want it of them.
use Rattle.std.specs.Cmp.{IsEquivalence, IsPartialEquivalence, and_equiv, on_equiv, partial_equiv_from_equiv}
use Rattle.std.specs.Cmp.Lexicographic.{nat_list_eq_equiv}
use Rattle.business_rows.specs.Keys.{same_key}
use Rattle.business_rows.specs.declared.business_key.BusinessKey.{BusinessKey}

pub keys_equiv : IsEquivalence same_key
keys_equiv =
    and_equiv (on_equiv (λ (a : BusinessKey). a.table) nat_list_eq_equiv)
    (on_equiv (λ (a : BusinessKey). a.key) nat_list_eq_equiv)

pub keys_partial : IsPartialEquivalence same_key
keys_partial = partial_equiv_from_equiv keys_equiv
