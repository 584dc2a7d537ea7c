use Rattle.whole_script.proofs.Adding.{adds_bad, adds_known, reads_part}
use Rattle.whole_script.proofs.script.add_line.Goals as goal

pub add_read-requires : goal.add_read-requires
add_read-requires c = record { part = reads_part c.args.line.now c.in-Ok.line c.in-Ok.ensures.found }

pub returns-in-Ok : goal.returns-in-Ok
returns-in-Ok c = record { adds = adds_known _ _ _ _ _ _ c.in-Ok.ensures.exact c.add_read.ensures.adds }

pub returns-in-Err-BadLine : goal.returns-in-Err-BadLine
returns-in-Err-BadLine c = record {
  adds = adds_bad c.args.number c.args.line.now c.args.script.now (rw c.in-Err-BadLine.field-0-is at c.in-Err-BadLine.ensures.exact);
}
