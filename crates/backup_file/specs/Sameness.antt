-- Ids that are one stand for each other, as sets want it of them.
use Rattle.std.specs.Cmp.{IsEquivalence, IsPartialEquivalence, and_equiv, nat_eq_equiv, on_equiv}
use Rattle.std.specs.Cmp.{partial_equiv_from_equiv}
use Rattle.std.specs.Cmp.Lexicographic.{nat_list_eq_equiv}
use Rattle.enq_base.specs.Ids.{ids_equiv}
use Rattle.backup_file.specs.Ids.{same_lock}
use Rattle.backup_file.specs.declared.ids.LockId.{LockId}

pub locks_equiv : IsEquivalence same_lock
locks_equiv =
    and_equiv (and_equiv (on_equiv (λ (a : LockId). a.kind) nat_eq_equiv)
    (on_equiv (λ (a : LockId). a.numbers) ids_equiv))
    (and_equiv (and_equiv (on_equiv (λ (a : LockId). a.table) nat_list_eq_equiv)
    (on_equiv (λ (a : LockId). a.pattern) nat_list_eq_equiv))
    (on_equiv (λ (a : LockId). a.mode) nat_eq_equiv))

pub locks_partial : IsPartialEquivalence same_lock
locks_partial = partial_equiv_from_equiv locks_equiv
