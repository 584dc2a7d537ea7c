use Rattle.std.proofs.Common.{arith}
use Rattle.row_tree.proofs.Pages.{behind_between}
use Rattle.row_tree.proofs.places.page_behind.Goals as goal

pub loop-rest-init : goal.loop-rest-init
loop-rest-init c = record {
  rows = rw (c.new-page.ensures.items, c.range-rest.ensures.between tt, c.in_ok-key_of.ensures)
      (behind_between c.args.table c.args.after.now c.end_of.result c.end_of.ensures.inside c.args.places.now.entries);
  few = rw c.new-page.ensures.items (omega arith);
}
