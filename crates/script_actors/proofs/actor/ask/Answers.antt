use Rattle.std.proofs.Common.{List, ℕ, refl, sym, ap, subst, ◌∙◌}
use Rattle.enq_base.specs.declared.unit.Num.{Num}
use Rattle.ledger_steps.specs.Levels.{intervals_of}
use Rattle.number_ranges.specs.declared.interval.Interval.{Interval}
use Rattle.script_actors.specs.Actors.{MayAskIn, desk_view, session_of}
use Rattle.script_actors.specs.Carried.{CanDraw, DrewFor, IsCalledOrWanting}
use Rattle.script_actors.specs.Drawings.{Makes, with_stock}
use Rattle.script_actors.proofs.LineSteps.{comes_called, comes_declined, comes_drawn}
use Rattle.script_actors.proofs.Numbers.{can_draw, draw_leaves, leaves_all, may_ask, wanted_call}
use Rattle.script_actors.proofs.actor.ask.Goals as goal

pub call_with_stock-requires-clause-allowed : goal.call_with_stock-requires-clause-allowed
call_with_stock-requires-clause-allowed g c =
    let entries = g.K.Desk.entries c.args.desk.now in
    let intervals = intervals_of c.args.ranges.now in
    let wanted = c.in-Ok-Call.ensures.wanted entries c.requires.knows in
    let is = rw c.in-Ok-Call.field-0-is at wanted in
    let made = with_stock (c.wanted_of.new.drawn.stock.items) c.args.command in
    let stock = c.wanted_of.ensures.stock ∙ c.requires.knows.0 in
    subst (λ (is : List Interval). MayAskIn is entries made) (sym c.requires.intervals)
    (may_ask intervals entries c.args.command made
    (wanted_call intervals c.args.who.now c.args.numbered.now entries (g.K.Desk.left c.args.desk.now) c.args.command is
    ∙ ap (λ (nums : List Num). Makes (with_stock nums c.args.command)) (sym stock)))

pub returns-in-Ok-Call-clause-done : goal.returns-in-Ok-Call-clause-done
returns-in-Ok-Call-clause-done g c =
    let entries = g.K.Desk.entries c.args.desk.now in
    let wanted = c.in-Ok-Call.ensures.wanted entries c.requires.knows in
    let is = rw c.in-Ok-Call.field-0-is at wanted in
    let desk = desk_view g.K.Desk.entries g.K.Desk.full_at c.args.desk.now in
    let desk_now = desk_view g.K.Desk.entries g.K.Desk.full_at c.call_with_stock.new.desk in
    let stock = c.wanted_of.ensures.stock ∙ c.requires.knows.0 in
    comes_called (intervals_of c.args.ranges.now) c.args.who.now c.args.numbered.now c.args.carried.now.sides.items desk
    c.call_with_stock.new.carried.sides.items desk_now c.call_with_stock.result c.args.command is
    (subst
    (λ (nums : List Num). IsCalledOrWanting c.args.numbered.now (with_stock nums c.args.command) c.args.carried.now.sides.items desk
    c.call_with_stock.new.carried.sides.items desk_now c.call_with_stock.result) stock c.call_with_stock.ensures.called)

pub returns-in-Ok-Call-clause-left : goal.returns-in-Ok-Call-clause-left
returns-in-Ok-Call-clause-left g c = leaves_all c.args.who.now c.args.numbered.now _ _ c.call_with_stock.ensures.left

pub draw-requires-clause-can : goal.draw-requires-clause-can
draw-requires-clause-can g c =
    let entries = g.K.Desk.entries c.args.desk.now in
    let left = g.K.Desk.left c.args.desk.now in
    let wanted = c.in-Ok-Number.ensures.wanted entries c.requires.knows in
    let is = rw c.in-Ok-Number.field-0-is at wanted in
    subst (λ (is : List Interval). CanDraw is left c.args.command) (sym c.requires.intervals)
    (can_draw (intervals_of c.args.ranges.now) c.args.who.now c.args.numbered.now entries left c.args.command is c.requires.may)

pub draw-requires-clause-place : goal.draw-requires-clause-place
draw-requires-clause-place g c = let room = c.in-Ok-Number.ensures.room in rw c.in-Ok-Number.field-0-is at room

pub returns-in-Ok-Number-clause-done : goal.returns-in-Ok-Number-clause-done
returns-in-Ok-Number-clause-done g c =
    let entries = g.K.Desk.entries c.args.desk.now in
    let wanted = c.in-Ok-Number.ensures.wanted entries c.requires.knows in
    let is = rw c.in-Ok-Number.field-0-is at wanted in
    let l = c.args.numbered.now in
    let sides = c.args.carried.now.sides.items in
    let sides_now = c.draw.new.carried.sides.items in
    let desk = desk_view g.K.Desk.entries g.K.Desk.full_at c.args.desk.now in
    let desk_now = desk_view g.K.Desk.entries g.K.Desk.full_at c.draw.new.desk in
    comes_drawn (intervals_of c.args.ranges.now) c.args.who.now l sides desk sides_now desk_now c.draw.result c.args.command is
    (subst (λ (is : List Interval). DrewFor (session_of c.args.who.now) is l sides desk sides_now desk_now c.draw.result c.args.command) c.requires.intervals
    (subst (λ (session : List ℕ). DrewFor session (g.K.Desk.intervals c.args.desk.now) l sides desk sides_now desk_now c.draw.result c.args.command)
    c.requires.own c.draw.ensures.drew))

pub returns-in-Ok-Number-clause-left : goal.returns-in-Ok-Number-clause-left
returns-in-Ok-Number-clause-left g c =
    let entries = g.K.Desk.entries c.args.desk.now in
    let wanted = c.in-Ok-Number.ensures.wanted entries c.requires.knows in
    let is = rw c.in-Ok-Number.field-0-is at wanted in
    draw_leaves (intervals_of c.args.ranges.now) c.args.who.now c.args.numbered.now entries (g.K.Desk.left c.args.desk.now) c.args.command _ is
    c.requires.may c.draw.ensures.left

pub returns-in-Ok-TooMany-clause-done : goal.returns-in-Ok-TooMany-clause-done
returns-in-Ok-TooMany-clause-done g c =
    let wanted = c.in-Ok-TooMany.ensures.wanted (g.K.Desk.entries c.args.desk.now) c.requires.knows in
    let is = rw c.in-Ok-TooMany.field-0-is at wanted in
    comes_declined (intervals_of c.args.ranges.now) c.args.who.now c.args.numbered.now c.args.carried.now.sides.items
    (desk_view g.K.Desk.entries g.K.Desk.full_at c.args.desk.now) c.args.command is

pub returns-in-Ok-TooMany-clause-left : goal.returns-in-Ok-TooMany-clause-left
returns-in-Ok-TooMany-clause-left g c = leaves_all c.args.who.now c.args.numbered.now _ _ refl

pub returns-in-Err-clause-left : goal.returns-in-Err-clause-left
returns-in-Err-clause-left g c = leaves_all c.args.who.now c.args.numbered.now _ _ refl
