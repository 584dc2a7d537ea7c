-- The order of the keys of a tree.
use Rattle.std.specs.Prelude.{Bool}
use Rattle.std.specs.Cmp.{IsEquivalence, IsPartialEquivalence, IsPartialOrder, IsTotalOrder, eq_by_cmp_equiv, on_total}
use Rattle.std.specs.Cmp.{partial_equiv_from_equiv, partial_order_from_total}
use Rattle.std.specs.Ordering.{as_partial_cmp, eq_by_cmp}
use Rattle.std.specs.declared.cmp.Ordering.{Ordering}
use Rattle.keeper_api.specs.Rows.{Spot, spot_cmp}
use Rattle.keeper_api.specs.RowLaws.{spots_total}
use Rattle.row_tree.specs.declared.row_key.RowKey.{RowKey}

abbrev pub spot : RowKey → Spot
spot k = (k.table, k.key)

abbrev pub key_at : Spot → RowKey
key_at s = record { table = s.0; key = s.1 }

abbrev pub key_cmp : RowKey → RowKey → Ordering
key_cmp a b = spot_cmp (spot a) (spot b)

abbrev pub same_key : RowKey → RowKey → Bool
same_key a b = eq_by_cmp key_cmp a b

pub keys_total : IsTotalOrder key_cmp
keys_total = on_total spot spots_total

pub keys_equiv : IsEquivalence same_key
keys_equiv = eq_by_cmp_equiv keys_total

pub keys_partial : IsPartialEquivalence same_key
keys_partial = partial_equiv_from_equiv keys_equiv

pub keys_order : IsPartialOrder same_key (as_partial_cmp key_cmp)
keys_order = partial_order_from_total keys_total
