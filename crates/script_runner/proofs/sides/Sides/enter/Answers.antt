use Rattle.std.proofs.Common.{◌≤◌, ap, sym, ◌∙◌, subst, arith}
use Rattle.hall_calls.specs.Named.{AreNamed}
use Rattle.script_runner.specs.Sides.{SidesView, side_of, with_new_side}
use Rattle.script_runner.proofs.Dialogues.{named_added, not_found, owner, side_added, side_found, sides_in}
use Rattle.script_runner.proofs.SideLemmas.{none_of, where_done}
use Rattle.script_runner.proofs.sides.Sides.enter.Goals as goal

pub invariant_of-self : goal.invariant_of-self
invariant_of-self c =
    let m = c.self.inside.by_name in
    let s = c.args.session in
    let free = not_found s m.entries (side_found s m.entries c.self.invariant ∙ ap (λ v. side_of v.items s) c.self.view_is ∙ none_of _ c.requires.free) in
    let room = subst (λ (v : SidesView). 1 ≤ v.room) (sym c.self.view_is) c.requires.room in
    let is = where_done c.insert.result (c.insert.ensures.succeeds (omega (arith, room))) c.insert.ensures.entries in
    subst (AreNamed owner) (sym is) (named_added m s c.new.result c.new.ensures free c.self.invariant)

pub returns : goal.returns
returns c =
    let m = c.self.inside.by_name in
    let s = c.args.session in
    let free = not_found s m.entries (side_found s m.entries c.self.invariant ∙ ap (λ v. side_of v.items s) c.self.view_is ∙ none_of _ c.requires.free) in
    let room = subst (λ (v : SidesView). 1 ≤ v.room) (sym c.self.view_is) c.requires.room in
    let is = where_done c.insert.result (c.insert.ensures.succeeds (omega (arith, room))) c.insert.ensures.entries in
    ap sides_in is ∙ side_added m s c.new.result c.new.ensures free ∙ ap (λ v. with_new_side s v.items) c.self.view_is
