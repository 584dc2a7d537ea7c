use Rattle.std.proofs.Common.{List, refl, sym, subst}
use Rattle.dialogue_session.specs.Private.{Private}
use Rattle.ledger_steps.specs.Levels.{intervals_of}
use Rattle.script_runner.specs.Lines.{grows}
use Rattle.script_runner.specs.declared.preparing.Prepared.TheVariants.{Changed}
use Rattle.script_actors.specs.Actors.{ComesTo, desk_view, DoneAs, land_of}
use Rattle.script_actors.specs.Carried.{AsksLine}
use Rattle.script_actors.proofs.LineSteps.{does_asked, does_change, does_refused, may_make, room_any}
use Rattle.script_actors.proofs.Numbers.{leaves_all}
use Rattle.script_actors.proofs.actor.do_line.Goals as goal

pub ask-requires-clause-may : goal.ask-requires-clause-may
ask-requires-clause-may g c =
    let prepared = c.in-Ok-Call.ensures.prepared in
    let facts = rw c.in-Ok-Call.field-0-is at prepared in
    may_make c.args.objects.now (intervals_of c.args.ranges.now) c.args.who.now c.args.numbered.now c.args.carried.now.sides.items
    (g.K.Desk.left c.args.desk.now) c.in-Ok-Call.command facts.0 c.requires.done c.requires.enough

pub ask-requires-clause-room : goal.ask-requires-clause-room
ask-requires-clause-room g c = room_any c.args.numbered.now.line c.in-Ok-Call.field-0 Changed c.prepare.new.sides c.in-Ok-Call.ensures.room

pub returns-in-Ok-Call-clause-done : goal.returns-in-Ok-Call-clause-done
returns-in-Ok-Call-clause-done g c =
    let prepared = c.in-Ok-Call.ensures.prepared in
    let facts = rw c.in-Ok-Call.field-0-is at prepared in
    let desk = desk_view g.K.Desk.entries g.K.Desk.full_at c.args.desk.now in
    let desk_now = desk_view g.K.Desk.entries g.K.Desk.full_at c.ask.new.desk in
    does_asked c.args.objects.now (intervals_of c.args.ranges.now) c.args.who.now c.args.numbered.now c.args.carried.now.sides.items desk
    c.ask.new.carried.sides.items desk_now c.in-Ok-Call.command c.ask.result facts.0
    (subst
    (λ (sides : List Private). ComesTo (AsksLine (intervals_of c.args.ranges.now) c.args.who.now c.args.numbered.now c.in-Ok-Call.command)
    c.args.numbered.now sides desk c.ask.new.carried.sides.items desk_now c.ask.result) facts.1 c.ask.ensures.done)

pub returns-in-Ok-Changed-clause-done : goal.returns-in-Ok-Changed-clause-done
returns-in-Ok-Changed-clause-done g c =
    let prepared = c.in-Ok-Changed.ensures.prepared in
    let is = rw c.in-Ok-Changed.field-0-is at prepared in
    let desk = desk_view g.K.Desk.entries g.K.Desk.full_at c.args.desk.now in
    does_change c.args.objects.now (intervals_of c.args.ranges.now) c.args.who.now c.args.numbered.now c.args.carried.now.sides.items desk
    c.prepare.new.sides.items desk is refl

pub returns-in-Ok-Changed-clause-left : goal.returns-in-Ok-Changed-clause-left
returns-in-Ok-Changed-clause-left g c = leaves_all c.args.who.now c.args.numbered.now _ _ refl

pub returns-in-Err-clause-done : goal.returns-in-Err-clause-done
returns-in-Err-clause-done g c =
    let desk = desk_view g.K.Desk.entries g.K.Desk.full_at c.args.desk.now in
    let land = land_of c.args.objects.now (intervals_of c.args.ranges.now) in
    let l = c.args.numbered.now in
    subst (DoneAs land c.args.who.now l c.args.carried.now.sides.items desk c.prepare.new.sides.items desk) (sym c.refused_as.ensures)
    (does_refused c.args.objects.now (intervals_of c.args.ranges.now) c.args.who.now l c.args.carried.now.sides.items desk c.prepare.new.sides.items desk
    (grows l.line) c.in-Err.refusal (c.in-Err.ensures.prepared) refl)

pub returns-in-Err-clause-left : goal.returns-in-Err-clause-left
returns-in-Err-clause-left g c = leaves_all c.args.who.now c.args.numbered.now _ _ refl
