use Rattle.std.proofs.Common.{sym, ◌∙◌, ap, option_map, arith}
use Rattle.std.proofs.lemmas.Grind.{common_steps}
use Rattle.enq_base.proofs.lemmas.Cuts.{cut-position, around}
use Rattle.enq_base.proofs.cut.parts_at.Goals as goal

pub returns-in_err-at : goal.returns-in_err-at
returns-in_err-at c =
    rw c.from_residual.ensures (ap (option_map (around c.args.bytes.now)) (c.in_err-at.ensures) ∙ sym (cut-position c.args.separator c.args.bytes.now))

pub returns : goal.returns
returns c = grind (arith, common_steps, ap (option_map (around c.args.bytes.now)) (c.in_ok-at.ensures) ∙ sym (cut-position c.args.separator c.args.bytes.now))
