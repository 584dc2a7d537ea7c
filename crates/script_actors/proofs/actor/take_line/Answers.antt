use Rattle.std.proofs.Common.{inl, inr, false, true, refl, sym, ◌++◌, ◌∷◌, []}
use Rattle.ledger_steps.specs.Levels.{intervals_of}
use Rattle.script_actors.specs.Actors.{desk_view, deeds, land_of, saying}
use Rattle.script_actors.proofs.ActorLines.{on_err, replied, takes_answered, takes_other, takes_own}
use Rattle.script_actors.proofs.Numbers.{leaves_all}
use Rattle.script_actors.proofs.actor.take_line.Goals as goal

pub returns-then-not-is_done_by-clause-takes : goal.returns-then-not-is_done_by-clause-takes
returns-then-not-is_done_by-clause-takes g c =
    takes_other (land_of c.args.objects.now (intervals_of c.args.ranges.now)) c.args.who.now c.args.numbered.now
    (deeds c.args.carried.now.sides.items (desk_view g.K.Desk.entries g.K.Desk.full_at c.args.desk.now) c.args.said.now.items false)
    (sym c.if-not-is_done_by.ensures)

pub returns-then-not-is_done_by-clause-left : goal.returns-then-not-is_done_by-clause-left
returns-then-not-is_done_by-clause-left g c = leaves_all c.args.who.now c.args.numbered.now _ _ refl

pub do_line-requires-clause-replied : goal.do_line-requires-clause-replied
do_line-requires-clause-replied g c = replied c.args.who.now c.args.numbered.now.line (sym c.if-not-is_done_by.ensures)

pub returns-in-Called-clause-takes : goal.returns-in-Called-clause-takes
returns-in-Called-clause-takes g c =
    let said = c.args.said.now.items in
    takes_own (land_of c.args.objects.now (intervals_of c.args.ranges.now)) c.args.who.now c.args.numbered.now
    (deeds c.args.carried.now.sides.items (desk_view g.K.Desk.entries g.K.Desk.full_at c.args.desk.now) said false)
    (deeds c.do_line.new.carried.sides.items (desk_view g.K.Desk.entries g.K.Desk.full_at c.do_line.new.desk) said false)
    (sym c.if-not-is_done_by.ensures) (c.in-Called.ensures.done said)

pub returns-in_ok-say-in-Answered-clause-takes : goal.returns-in_ok-say-in-Answered-clause-takes
returns-in_ok-say-in-Answered-clause-takes g c =
    let said = c.args.said.now.items in
    takes_answered (land_of c.args.objects.now (intervals_of c.args.ranges.now)) c.args.who.now c.args.numbered.now
    (deeds c.args.carried.now.sides.items (desk_view g.K.Desk.entries g.K.Desk.full_at c.args.desk.now) said false) c.do_line.new.carried.sides.items
    (desk_view g.K.Desk.entries g.K.Desk.full_at c.do_line.new.desk) c.in-Answered.reply c.say.new.said.items (sym c.if-not-is_done_by.ensures)
    (c.in-Answered.ensures.done said) c.in_ok-say-in-Answered.ensures

pub returns-in_err-say-in-Answered-clause-wanting : goal.returns-in_err-say-in-Answered-clause-wanting
returns-in_err-say-in-Answered-clause-wanting g c =
    let said = c.args.said.now.items in
    let l = c.args.numbered.now in
    let new = deeds c.do_line.new.carried.sides.items (desk_view g.K.Desk.entries g.K.Desk.full_at c.do_line.new.desk)
    (said ++ saying l.number c.in-Answered.reply ∷ []) false in
    on_err c.from_residual.result
    (inr (
      new,
      takes_own (land_of c.args.objects.now (intervals_of c.args.ranges.now)) c.args.who.now l
          (deeds c.args.carried.now.sides.items (desk_view g.K.Desk.entries g.K.Desk.full_at c.args.desk.now) said false) new (sym c.if-not-is_done_by.ensures)
          (c.in-Answered.ensures.done said),
      refl,
    ))

pub returns-in-Stopped-clause-takes : goal.returns-in-Stopped-clause-takes
returns-in-Stopped-clause-takes g c =
    let said = c.args.said.now.items in
    takes_own (land_of c.args.objects.now (intervals_of c.args.ranges.now)) c.args.who.now c.args.numbered.now
    (deeds c.args.carried.now.sides.items (desk_view g.K.Desk.entries g.K.Desk.full_at c.args.desk.now) said false)
    (deeds c.do_line.new.carried.sides.items (desk_view g.K.Desk.entries g.K.Desk.full_at c.do_line.new.desk) said true)
    (sym c.if-not-is_done_by.ensures) (c.in-Stopped.ensures.done said)

pub returns-in-Wanting-clause-wanting : goal.returns-in-Wanting-clause-wanting
returns-in-Wanting-clause-wanting g c = inl c.in-Wanting.ensures.done
