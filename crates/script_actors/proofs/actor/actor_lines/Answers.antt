use Rattle.std.proofs.Common.{◌≡◌, ◌∙◌, false, true, List, ap, refl, sym, subst}
use Rattle.std.specs.List.{AllByRecursion}
use Rattle.std.proofs.lemmas.List.{nil_from_length}
use Rattle.ledger_steps.specs.Levels.{intervals_of}
use Rattle.script_runner.specs.Preparing.{has_part}
use Rattle.script_actors.specs.Actors.{HasEnough, desk_view, deeds, land_of, lines_of_actor, no_deeds}
use Rattle.script_actors.specs.Carried.{Knows}
use Rattle.script_actors.specs.Drawings.{DeskEntry}
use Rattle.script_actors.specs.declared.line.NumberedLine.{NumberedLine}
use Rattle.script_actors.proofs.ActorLines.{GoesOn, ends_begun, ends_stopped, ends_whole, goes_first, goes_on}
use Rattle.script_actors.proofs.Numbers.{enough_first, enough_later, knows_none}
use Rattle.script_actors.proofs.actor.actor_lines.Goals as goal

pub rest-init : goal.rest-init
rest-init g c = record {
  done =
      goes_first (land_of c.args.objects.now (intervals_of c.args.ranges.now)) c.args.who.now (lines_of_actor c.args.who.now c.args.lines.now)
      c.new.result.items
      (desk_view g.K.Desk.entries g.K.Desk.full_at c.args.desk.now) c.new-said.result.items c.new.ensures c.new-said.ensures.items;
  parts = c.requires.parts;
  own = c.requires.own;
  intervals = c.requires.intervals;
  enough = c.requires.enough;
  knows = knows_none _ _ _ c.requires.none c.new-2.ensures.stock c.new-2.ensures.count;
}

pub take_line-requires : goal.take_line-requires
take_line-requires g c =
    let enough = subst (λ (rest : List NumberedLine). HasEnough (intervals_of c.args.ranges.now) c.args.who.now rest (g.K.Desk.left c.rest.desk))
    c.in-Some.ensures.cases.0 c.rest.invariant.enough in
    record {
      part = (subst (AllByRecursion (λ (x : NumberedLine). has_part x.line ≡ true)) c.in-Some.ensures.cases.0 c.rest.invariant.parts).0;
      own = c.rest.invariant.own;
      intervals = c.rest.invariant.intervals;
      enough = enough_first (intervals_of c.args.ranges.now) c.args.who.now c.in-Some.numbered.now c.in-Some.later.now _ enough;
      knows = c.rest.invariant.knows;
    }

pub rest-preserved : goal.rest-preserved
rest-preserved g c =
    let w = c.args.who.now in
    let land = land_of c.args.objects.now (intervals_of c.args.ranges.now) in
    let all = lines_of_actor w c.args.lines.now in
    let start = no_deeds (desk_view g.K.Desk.entries g.K.Desk.full_at c.args.desk.now) in
    let old = deeds c.rest.carried.sides.items (desk_view g.K.Desk.entries g.K.Desk.full_at c.rest.desk) c.rest.said.items false in
    let new = deeds c.take_line.new.carried.sides.items (desk_view g.K.Desk.entries g.K.Desk.full_at c.take_line.new.desk)
    c.take_line.new.said.items false in
    let enough = subst (λ (rest : List NumberedLine). HasEnough (intervals_of c.args.ranges.now) w rest (g.K.Desk.left c.rest.desk))
    c.in-Some.ensures.cases.0 c.rest.invariant.enough in
    record {
      done =
          goes_on land w all c.in-Some.numbered.now c.in-Some.later.now start old new
          (subst (λ (rest : List NumberedLine). GoesOn land w all (lines_of_actor w rest) start old) c.in-Some.ensures.cases.0
          c.rest.invariant.done)
          (rw c.in-Ok-true.field-0-test at c.in-Ok-true.ensures.takes);
      parts = (subst (AllByRecursion (λ (x : NumberedLine). has_part x.line ≡ true)) c.in-Some.ensures.cases.0 c.rest.invariant.parts).1;
      own = c.take_line.ensures.session ∙ c.rest.invariant.own;
      intervals = c.take_line.ensures.intervals ∙ c.rest.invariant.intervals;
      enough = enough_later (intervals_of c.args.ranges.now) w c.in-Some.numbered.now c.in-Some.later.now _ _ enough c.take_line.ensures.left;
      knows = c.take_line.ensures.knows;
    }

pub returns-in-Ok-false-clause-done : goal.returns-in-Ok-false-clause-done
returns-in-Ok-false-clause-done g c =
    let w = c.args.who.now in
    let land = land_of c.args.objects.now (intervals_of c.args.ranges.now) in
    let all = lines_of_actor w c.args.lines.now in
    let desk = desk_view g.K.Desk.entries g.K.Desk.full_at c.args.desk.now in
    let start = no_deeds desk in
    let old = deeds c.rest.carried.sides.items (desk_view g.K.Desk.entries g.K.Desk.full_at c.rest.desk) c.rest.said.items false in
    let new = deeds c.take_line.new.carried.sides.items (desk_view g.K.Desk.entries g.K.Desk.full_at c.take_line.new.desk)
    c.take_line.new.said.items true in
    ends_stopped land w c.args.lines.now desk (lines_of_actor w c.in-Some.later.now) c.take_line.new.carried.sides.items
    (desk_view g.K.Desk.entries g.K.Desk.full_at c.take_line.new.desk) c.take_line.new.said.items
    (goes_on land w all c.in-Some.numbered.now c.in-Some.later.now start old new
    (subst (λ (rest : List NumberedLine). GoesOn land w all (lines_of_actor w rest) start old) c.in-Some.ensures.cases.0 c.rest.invariant.done)
    (rw c.in-Ok-false.field-0-test at c.in-Ok-false.ensures.takes))

pub returns-in-Err-clause-begun : goal.returns-in-Err-clause-begun
returns-in-Err-clause-begun g c =
    let w = c.args.who.now in
    let land = land_of c.args.objects.now (intervals_of c.args.ranges.now) in
    let all = lines_of_actor w c.args.lines.now in
    let desk = desk_view g.K.Desk.entries g.K.Desk.full_at c.args.desk.now in
    let old = deeds c.rest.carried.sides.items (desk_view g.K.Desk.entries g.K.Desk.full_at c.rest.desk) c.rest.said.items false in
    ends_begun land w c.args.lines.now desk c.in-Some.numbered.now c.in-Some.later.now old
    (desk_view g.K.Desk.entries g.K.Desk.full_at c.take_line.new.desk)
    (subst (λ (rest : List NumberedLine). GoesOn land w all (lines_of_actor w rest) (no_deeds desk) old) c.in-Some.ensures.cases.0 c.rest.invariant.done)
    c.in-Err.ensures.wanting

pub returns-clause-done : goal.returns-clause-done
returns-clause-done g c =
    let w = c.args.who.now in
    let land = land_of c.args.objects.now (intervals_of c.args.ranges.now) in
    let all = lines_of_actor w c.args.lines.now in
    let desk = desk_view g.K.Desk.entries g.K.Desk.full_at c.args.desk.now in
    let old = deeds c.rest.carried.sides.items (desk_view g.K.Desk.entries g.K.Desk.full_at c.rest.desk) c.rest.said.items false in
    ends_whole land w c.args.lines.now desk c.rest.carried.sides.items (desk_view g.K.Desk.entries g.K.Desk.full_at c.rest.desk) c.rest.said.items
    (subst (λ (rest : List NumberedLine). GoesOn land w all (lines_of_actor w rest) (no_deeds desk) old)
    (nil_from_length c.rest.rest.now c.in_default.ensures.cases) c.rest.invariant.done)
