use Rattle.std.proofs.Common.{◌≡◌, ap, sym, ◌∙◌, subst, map}
use Rattle.std.specs.Map.{set_value}
use Rattle.std.specs.Option.{option_copied_mut, option_map}
use Rattle.dialogue_session.specs.Private.{DialogueView, Private}
use Rattle.hall_calls.specs.Named.{AreNamed}
use Rattle.hall_calls.proofs.lemmas.NamedValues.{are_named_changed, kept_by_name, name_eq}
use Rattle.script_runner.specs.Sides.{side_of, with_side}
use Rattle.script_runner.proofs.Dialogues.{owner, side, side_changed, side_found, sides_in}
use Rattle.script_runner.proofs.LoggedSides.{effect_session}
use Rattle.script_runner.proofs.SideLemmas.{registers, either_way, side_is_missing, when_refused}
use Rattle.script_runner.proofs.sides.Sides.register.Goals as goal

pub unreachable-requires : goal.unreachable-requires
unreachable-requires c =
    let n = c.args.name.now in
    let found = side_found n c.self.inside.by_name.entries c.self.invariant ∙ ap (λ v. side_of v.items n) c.self.view_is in
    side_is_missing n c.args.self.now.items (sym found ∙ ap (option_map side) (sym c.get_mut.ensures.value ∙ ap option_copied_mut c.in_default.is))
    c.requires.side

pub invariant_of-self : goal.invariant_of-self
invariant_of-self c =
    let x = c.in-Some.side.now in
    let y = c.effect.new.self in
    let at = sym (ap option_copied_mut c.in-Some.is) ∙ c.get_mut.ensures.value in
    let same : y.side.session ≡ x.side.session = either_way c.effect.result c.effect.ensures.registered c.effect.ensures.unchanged
    (λ e. ap (λ (p : Private). p.session) e ∙ effect_session c.args.part c.args.effect x.side) (λ e. ap (λ (d : DialogueView). d.side.session) e) in
    subst (AreNamed owner) (sym (c.get_mut.follows.holds y).0)
    (are_named_changed owner c.args.name.now c.self.inside.by_name.entries x y c.self.invariant at same)

pub returns-clause-given : goal.returns-clause-given
returns-clause-given c =
    let n = c.args.name.now in
    let es = c.self.inside.by_name.entries in
    let x = c.in-Some.side.now in
    let y = c.effect.new.self in
    let at = sym (ap option_copied_mut c.in-Some.is) ∙ c.get_mut.ensures.value in
    let found = ap (option_map side) at ∙ side_found n es c.self.invariant ∙ ap (λ v. side_of v.items n) c.self.view_is in
    registers n c.args.part c.args.effect c.args.self.now.items x.side y.side (sides_in (c.get_mut.follows.lender y).entries) c.effect.result (sym found)
    (λ change e.
    ap sides_in (c.get_mut.follows.holds y).0 ∙ side_changed n change es x y c.self.invariant at e
    ∙ ap (λ v. with_side n change v.items) c.self.view_is)
    c.effect.ensures.registered c.effect.ensures.full c.effect.ensures.refused

pub returns-clause-unchanged : goal.returns-clause-unchanged
returns-clause-unchanged c =
    let n = c.args.name.now in
    let es = c.self.inside.by_name.entries in
    let x = c.in-Some.side.now in
    let y = c.effect.new.self in
    let at = sym (ap option_copied_mut c.in-Some.is) ∙ c.get_mut.ensures.value in
    when_refused c.effect.result
    (λ (e : y ≡ x).
    ap sides_in ((c.get_mut.follows.holds y).0 ∙ ap (set_value (name_eq n) es) e) ∙ ap (map side) (kept_by_name owner n es x at)
    ∙ ap (λ v. v.items) c.self.view_is)
    c.effect.ensures.unchanged
