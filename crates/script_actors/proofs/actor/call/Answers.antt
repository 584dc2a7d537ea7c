use Rattle.std.proofs.Common.{List, sym, ap, subst, ◌∙◌}
use Rattle.script_actors.specs.Carried.{Knows}
use Rattle.script_actors.specs.Drawings.{DeskEntry, capped, count_left, stock_left}
use Rattle.script_actors.specs.declared.uncommitted.Settling.{Settling}
use Rattle.script_actors.proofs.Numbers.{knows_call}
use Rattle.script_actors.proofs.actor.call.Goals as goal

pub returns-clause-called : goal.returns-clause-called
returns-clause-called g c = record {
  reply = c.call-reply.result;
  comes = c.called_as.ensures;
  follows = c.follow.ensures;
  told = λ i. record { entries = c.call-reply.ensures.told i; full_at = c.call-reply.ensures.full_at i };
}

pub returns-clause-knows : goal.returns-clause-knows
returns-clause-knows g c =
    let r = c.call-reply.result in
    let was = c.args.carried.now.drawn in
    let now = c.follow_call.new.self in
    let settled = c.settling_of-settling.ensures in
    subst (λ (es : List DeskEntry). Knows es now.stock.items now.count) (sym c.call-reply.ensures.told)
    (knows_call (g.K.Desk.entries c.args.desk.now) c.args.numbered.now.number c.args.command r was.stock.items was.count now.stock.items now.count
    c.requires.knows (c.follow_call.ensures.stock ∙ ap (λ (s : Settling). stock_left was.stock.items s r) settled)
    (λ k is. c.follow_call.ensures.count k is ∙ ap (λ (s : Settling). capped (count_left k s r)) settled))
