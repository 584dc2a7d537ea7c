use Rattle.std.proofs.Common.{rules}
use Rattle.std.proofs.lemmas.List.Sorted.{IsPartitionPoint-from_clause}
use Rattle.module_effects.specs.Rows.{RowName}
use Rattle.ledger_steps.specs.Intervals.{is_before}
use Rattle.posting.proofs.RowOrder.{parted}
use Rattle.posting.proofs.StoredIntervals.{place_found}
use Rattle.posting.proofs.interval_list.place_of.Goals as goal

pub returns-clause-place : goal.returns-clause-place
returns-clause-place c = λ kept.
    let name : RowName = (c.args.object.now, c.args.nr) in
    let items = c.args.items.now in
    place_found name items c.partition_point.result c.partition_point.ensures.bound
    (IsPartitionPoint-from_clause (is_before name) items c.partition_point.result c.partition_point.ensures.partitioned (parted name items kept)
    (λ a r f called. search rules))
