use Rattle.std.proofs.Common.{get_or, ap, arith}
use Rattle.std.proofs.lemmas.List.Edits.{map_over_more}
use Rattle.enq_server.specs.Server.{with_user}
use Rattle.enq_server.proofs.server.put_under.Goals as goal

pub loop-entry-preserved : goal.loop-entry-preserved
loop-entry-preserved c =
    let xs = c.loop-entry.entries in
    let i = c.loop-entry.entry-index in
    map_over_more (with_user c.args.user.now) c.args.entries.now xs i (get_or xs i c.entry-item.result) (omega arith) c.loop-entry.invariant
    (ap (get_or xs i) c.entry-item.is)
