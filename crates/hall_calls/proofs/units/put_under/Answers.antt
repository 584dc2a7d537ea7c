use Rattle.std.proofs.Common.{sym, ap, ◌∙◌, slice_set, arith}
use Rattle.std.proofs.lemmas.List.Edits.{map_over_more}
use Rattle.enq_server.specs.Server.{with_user}
use Rattle.hall_calls.proofs.units.put_under.Goals as goal

pub loop-entry-preserved : goal.loop-entry-preserved
loop-entry-preserved c =
    let user = c.args.user.now in
    ap (λ e. slice_set c.loop-entry.entries c.loop-entry.entry-index (with_user user e)) (sym c.entry-item.is)
    ∙ map_over_more (with_user user) c.args.entries.now c.loop-entry.entries c.loop-entry.entry-index c.entry-item.result (omega arith)
    c.loop-entry.invariant c.entry-item.is
