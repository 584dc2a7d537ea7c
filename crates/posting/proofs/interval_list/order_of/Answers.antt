use Rattle.module_effects.specs.Rows.{RowName}
use Rattle.update_records.specs.Intervals.{named}
use Rattle.posting.proofs.RowOrder.{keys_compared}
use Rattle.posting.proofs.interval_list.order_of.Goals as goal

pub returns : goal.returns
returns c =
    let name : RowName = (c.args.object.now, c.args.nr) in
    rw (
      c.then-2.ensures,
      c.then.ensures,
      c.cmp-lengths.ensures,
      c.cmp-bytes.ensures,
      c.cmp-digits.ensures,
      c.as_slice.ensures,
      c.as_slice-2.ensures,
      c.bytes-object.ensures.same,
      c.bytes-other.ensures.same,
    ) (keys_compared name (named c.args.item.now))
