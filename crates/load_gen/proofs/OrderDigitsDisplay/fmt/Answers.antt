use Rattle.std.proofs.Common.{subst}
use Rattle.std.specs.Fmt.{HasWritten}
use Rattle.load_gen.proofs.Scripts.{ten_digits}
use Rattle.load_gen.proofs.OrderDigitsDisplay.fmt.Goals as goal

pub returns-clause-writes : goal.returns-clause-writes
returns-clause-writes g c plain ok =
    subst (λ text. HasWritten {W = g.row.W.Denot} g.W.Write.write_str_gives c.args.f.now text c.write.new.self) (ten_digits c.args.self.now.0)
    (rw c.laid_out.ensures at (c.write.ensures.writes plain ok))
