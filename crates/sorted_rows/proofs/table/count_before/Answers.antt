use Rattle.std.proofs.Common.{rules}
use Rattle.std.proofs.lemmas.List.Sorted.{IsPartitionPoint-from_clause}
use Rattle.keeper_api.specs.Rows.{is_below}
use Rattle.keeper_api.specs.declared.rows.Row.{Row}
use Rattle.sorted_rows.proofs.table.count_before.Goals as goal

pub returns-clause-parted : goal.returns-clause-parted
returns-clause-parted c = λ kept.
    IsPartitionPoint-from_clause (λ (row : Row). is_below row.key c.args.key.now) c.args.rows.now c.partition_point.result c.partition_point.ensures.partitioned
    kept (λ a r f called. search rules)
