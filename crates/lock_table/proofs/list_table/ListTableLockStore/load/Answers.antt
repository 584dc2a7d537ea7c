use Rattle.std.proofs.Common.{◌≡◌, Some, None, sym, ◌∙◌, ap}
use Rattle.lock_entry.specs.Sound.{first_clash}
use Rattle.lock_laws.proofs.Loads.{first_clash-sound, first_clash-unsound}
use Rattle.lock_table.proofs.list_table.ListTableLockStore.load.Goals as goal

pub invariant_of-result : goal.invariant_of-result
invariant_of-result c =
    let none : first_clash c.args.entries.items ≡ None = ap first_clash (sym c.as_slice.ensures.value) ∙ sym c.in-None.ensures in
    record { sound = first_clash-sound c.args.entries.items none; within = c.requires; limit_fits = c.ranges.limit.fits }

pub returns-in-None-clause-good : goal.returns-in-None-clause-good
returns-in-None-clause-good c = invariant_of-result c

pub returns-in-Some-clause-fault : goal.returns-in-Some-clause-fault
returns-in-Some-clause-fault c =
    let clash : first_clash c.args.entries.items ≡ Some (c.in-Some.first, c.in-Some.second) =
    ap first_clash (sym c.as_slice.ensures.value) ∙ sym c.first_clash.ensures ∙ c.in-Some.is in
    (first_clash-unsound c.args.entries.items (c.in-Some.first, c.in-Some.second) clash, clash)
