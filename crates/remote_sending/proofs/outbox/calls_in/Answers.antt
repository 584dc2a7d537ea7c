use Rattle.std.proofs.Common.{◌≡◌, None, Some, refl, sym, subst, arith}
use Rattle.remote_sending.proofs.Reading.{ReadSoFar, all_read, bad_read, none_read, one_more_read}
use Rattle.remote_sending.proofs.outbox.calls_in.Goals as goal

pub loop-i-init : goal.loop-i-init
loop-i-init c = subst (ReadSoFar c.args.rows.now 0) (sym c.new-calls.ensures.items) (none_read c.args.rows.now)
