use Rattle.std.proofs.Common.{◌≡◌, ap, sym, ◌∙◌, subst}
use Rattle.std.specs.Option.{option_copied_mut, option_map}
use Rattle.dialogue_session.specs.Private.{Private}
use Rattle.hall_calls.specs.Named.{AreNamed}
use Rattle.hall_calls.proofs.lemmas.NamedValues.{are_named_changed}
use Rattle.script_runner.specs.Sides.{side_of}
use Rattle.script_runner.proofs.Dialogues.{owner, room_made, side, side_found, side_kept, sides_in}
use Rattle.script_runner.proofs.SideLemmas.{side_is_missing}
use Rattle.script_runner.proofs.sides.Sides.make_variable_room.Goals as goal

pub unreachable-requires : goal.unreachable-requires
unreachable-requires c =
    let n = c.args.name.now in
    let found = side_found n c.self.inside.by_name.entries c.self.invariant ∙ ap (λ v. side_of v.items n) c.self.view_is in
    side_is_missing n c.args.self.now.items (sym found ∙ ap (option_map side) (sym c.get_mut.ensures.value ∙ ap option_copied_mut c.in_default.is)) c.requires

pub invariant_of-self : goal.invariant_of-self
invariant_of-self c =
    let x = c.in-Some.side.now in
    let y = c.make_room.new.self in
    let at = sym (ap option_copied_mut c.in-Some.is) ∙ c.get_mut.ensures.value in
    let same : y.side.session ≡ x.side.session = ap (λ (p : Private). p.session) c.make_room.ensures.side in
    subst (AreNamed owner) (sym (c.get_mut.follows.holds y).0)
    (are_named_changed owner c.args.name.now c.self.inside.by_name.entries x y c.self.invariant at same)

pub returns-clause-items : goal.returns-clause-items
returns-clause-items c =
    let x = c.in-Some.side.now in
    let y = c.make_room.new.self in
    let at = sym (ap option_copied_mut c.in-Some.is) ∙ c.get_mut.ensures.value in
    ap sides_in (c.get_mut.follows.holds y).0
    ∙ side_kept c.args.name.now c.self.inside.by_name.entries x y c.self.invariant at c.make_room.ensures.side
    ∙ ap (λ v. v.items) c.self.view_is

pub returns-clause-room : goal.returns-clause-room
returns-clause-room c =
    let x = c.in-Some.side.now in
    let y = c.make_room.new.self in
    let at = sym (ap option_copied_mut c.in-Some.is) ∙ c.get_mut.ensures.value in
    room_made c.args.name.now c.self.inside.by_name.entries (c.get_mut.follows.lender y).entries x y c.make_room.result c.self.invariant at
    c.make_room.ensures.side
    (c.get_mut.follows.holds y).0 c.make_room.ensures.room
