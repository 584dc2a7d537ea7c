use Rattle.std.proofs.Common.{◌≡◌, ◌≤◌, None, Some, arith, ap, sym, ◌∙◌, subst}
use Rattle.std.specs.Option.{option_copied_mut}
use Rattle.dialogue_session.specs.Private.{Private, with_variable}
use Rattle.hall_calls.specs.Named.{AreNamed}
use Rattle.hall_calls.proofs.lemmas.NamedValues.{are_named_changed}
use Rattle.script_runner.specs.Sides.{SidesView, variable_room, with_side}
use Rattle.script_runner.proofs.Dialogues.{owner, room_found, side_changed, sides_in}
use Rattle.script_runner.proofs.sides.Sides.set_variable.Goals as goal

pub unreachable-requires : goal.unreachable-requires
unreachable-requires c =
    let n = c.args.name.now in
    let none = sym (ap option_copied_mut c.in_default.is) ∙ c.get_mut.ensures.value in
    let room = subst (λ (v : SidesView). 1 ≤ variable_room v n) (sym c.self.view_is) c.requires.room in
    let wrong : 1 ≤ 0 = room_found n c.self.inside.by_name.entries None c.self.invariant none room in
    omega (arith, wrong)

pub invariant_of-self : goal.invariant_of-self
invariant_of-self c =
    let x = c.in-Some.side.now in
    let y = c.set_variable.new.self in
    let at = sym (ap option_copied_mut c.in-Some.is) ∙ c.get_mut.ensures.value in
    let same : y.side.session ≡ x.side.session = ap (λ (p : Private). p.session) c.set_variable.ensures in
    subst (AreNamed owner) (sym (c.get_mut.follows.holds y).0)
    (are_named_changed owner c.args.name.now c.self.inside.by_name.entries x y c.self.invariant at same)

pub set_variable-requires-clause-room : goal.set_variable-requires-clause-room
set_variable-requires-clause-room c =
    let n = c.args.name.now in
    let at = sym (ap option_copied_mut c.in-Some.is) ∙ c.get_mut.ensures.value in
    let room = subst (λ (v : SidesView). 1 ≤ variable_room v n) (sym c.self.view_is) c.requires.room in
    room_found n c.self.inside.by_name.entries (Some c.in-Some.side.now) c.self.invariant at room

pub returns : goal.returns
returns c =
    let change : Private → Private = with_variable c.args.variable c.args.text.now in
    let x = c.in-Some.side.now in
    let y = c.set_variable.new.self in
    let at = sym (ap option_copied_mut c.in-Some.is) ∙ c.get_mut.ensures.value in
    ap sides_in (c.get_mut.follows.holds y).0
    ∙ side_changed c.args.name.now change c.self.inside.by_name.entries x y c.self.invariant at c.set_variable.ensures
    ∙ ap (λ v. with_side c.args.name.now change v.items) c.self.view_is
