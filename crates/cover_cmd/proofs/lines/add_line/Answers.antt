use Rattle.cover_cmd.proofs.Walking.{adds_bad, adds_known}
use Rattle.cover_cmd.proofs.lines.add_line.Goals as goal

pub returns-in-Ok : goal.returns-in-Ok
returns-in-Ok c = record { adds = λ os ls h. adds_known os ls _ _ _ _ _ c.in-Ok.ensures.exact (c.add_read.ensures.adds os ls h) }

pub returns-in-Err-BadLine : goal.returns-in-Err-BadLine
returns-in-Err-BadLine c = record {
  adds = λ os ls h. adds_bad os ls c.args.number c.args.line.now c.args.cover.now (rw c.in-Err-BadLine.field-0-is at c.in-Err-BadLine.ensures.exact);
}
