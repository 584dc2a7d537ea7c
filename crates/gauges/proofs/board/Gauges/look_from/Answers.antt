use Rattle.std.proofs.Common.{refl}
use Rattle.gauges.proofs.board.Gauges.look_from.Goals as goal

pub loop-init : goal.loop-init
loop-init c = record { own = refl; found = (c.args.seat.now.me.0.sequence, c.args.seat.now.me.0.words, refl) }
