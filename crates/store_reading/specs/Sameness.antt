-- Keys that are one stand for each other, as sets want it of them.
use Rattle.std.specs.Cmp.{IsEquivalence, IsPartialEquivalence, IsPartialOrder, IsTotalOrder, and_equiv, eq_by_cmp_equiv}
use Rattle.std.specs.Cmp.{nat_eq_equiv, on_equiv, on_total, partial_equiv_from_equiv, partial_order_from_total}
use Rattle.std.specs.Cmp.Lexicographic.{nat_list_cmp_total, nat_list_eq_equiv}
use Rattle.std.specs.Ordering.{as_partial_cmp}
use Rattle.store_reading.specs.Ids.{same_interval, same_lock, same_part, same_text, text_cmp, text_name}
use Rattle.enq_base.specs.Ids.{ids_equiv}
use Rattle.store_reading.specs.declared.interval_id.IntervalId.{IntervalId}
use Rattle.store_reading.specs.declared.lock_id.LockId.{LockId}
use Rattle.store_reading.specs.declared.part_id.PartId.{PartId}

pub locks_equiv : IsEquivalence same_lock
locks_equiv =
    and_equiv (on_equiv (λ (a : LockId). a.unit) ids_equiv)
    (and_equiv (and_equiv (on_equiv (λ (a : LockId). a.table) nat_list_eq_equiv)
    (on_equiv (λ (a : LockId). a.pattern) nat_list_eq_equiv))
    (on_equiv (λ (a : LockId). a.mode) nat_eq_equiv))

pub locks_partial : IsPartialEquivalence same_lock
locks_partial = partial_equiv_from_equiv locks_equiv

pub intervals_equiv : IsEquivalence same_interval
intervals_equiv =
    and_equiv (on_equiv (λ (a : IntervalId). a.object) nat_list_eq_equiv)
    (on_equiv (λ (a : IntervalId). a.nr) nat_list_eq_equiv)

pub intervals_partial : IsPartialEquivalence same_interval
intervals_partial = partial_equiv_from_equiv intervals_equiv

pub parts_equiv : IsEquivalence same_part
parts_equiv = and_equiv (on_equiv (λ (a : PartId). a.unit) ids_equiv) (on_equiv (λ (a : PartId). a.part) nat_eq_equiv)

pub parts_partial : IsPartialEquivalence same_part
parts_partial = partial_equiv_from_equiv parts_equiv

pub texts_total : IsTotalOrder text_cmp
texts_total = on_total text_name nat_list_cmp_total

pub texts_equiv : IsEquivalence same_text
texts_equiv = eq_by_cmp_equiv texts_total

pub texts_partial : IsPartialEquivalence same_text
texts_partial = partial_equiv_from_equiv texts_equiv

pub texts_order : IsPartialOrder same_text (as_partial_cmp text_cmp)
texts_order = partial_order_from_total texts_total
