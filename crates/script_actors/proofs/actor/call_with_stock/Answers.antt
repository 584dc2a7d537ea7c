use Rattle.std.proofs.Common.{inl, inr, refl, sym, subst}
use Rattle.hall_model.specs.declared.command.Command.{Command}
use Rattle.script_actors.specs.Actors.{MayAskIn, desk_view}
use Rattle.script_actors.specs.Carried.{IsCalled}
use Rattle.script_actors.proofs.actor.call_with_stock.Goals as goal

pub call-requires-clause-allowed : goal.call-requires-clause-allowed
call-requires-clause-allowed g c =
    subst (MayAskIn (g.K.Desk.intervals c.args.desk.now) (g.K.Desk.entries c.args.desk.now)) (sym c.in-Ok.ensures) c.requires.allowed

pub returns-in-Ok-clause-called : goal.returns-in-Ok-clause-called
returns-in-Ok-clause-called g c =
    let desk = desk_view g.K.Desk.entries g.K.Desk.full_at c.args.desk.now in
    let desk_now = desk_view g.K.Desk.entries g.K.Desk.full_at c.call.new.desk in
    inr
    (subst
    (λ (x : Command). IsCalled c.args.numbered.now x c.args.carried.now.sides.items desk c.call.new.carried.sides.items desk_now c.call.result)
    c.in-Ok.ensures c.call.ensures.called)

pub returns-in-Err-clause-called : goal.returns-in-Err-clause-called
returns-in-Err-clause-called g c = inl (refl, refl)
