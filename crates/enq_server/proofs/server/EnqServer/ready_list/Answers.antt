use Rattle.std.proofs.Common.{length, sym, ◌∙◌, arith}
use Rattle.std.proofs.lemmas.Bool.{eqb-false}
use Rattle.enq_server.proofs.server.EnqServer.ready_list.Goals as goal

pub returns-in-Ok-clause-ready : goal.returns-in-Ok-clause-ready
returns-in-Ok-clause-ready g c =
    let some = eqb-false (length c.args.entries.now) 0 (sym c.is_empty.ensures ∙ c.if-is_empty.false) in
    (omega (arith, some), c.in-Ok.ensures.ready)
