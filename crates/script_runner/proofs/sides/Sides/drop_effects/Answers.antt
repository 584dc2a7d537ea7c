use Rattle.std.proofs.Common.{◌≡◌, None, ap, sym, ◌∙◌, subst}
use Rattle.std.specs.Map.{lookup}
use Rattle.std.specs.Option.{option_copied_mut}
use Rattle.dialogue_session.specs.Private.{Private, without_effects}
use Rattle.hall_calls.specs.Named.{AreNamed}
use Rattle.hall_calls.proofs.lemmas.NamedValues.{are_named_changed, name_eq}
use Rattle.script_runner.specs.Sides.{with_side}
use Rattle.script_runner.proofs.Dialogues.{owner, side_changed, side_unchanged, sides_in}
use Rattle.script_runner.proofs.sides.Sides.drop_effects.Goals as goal
use Rattle.script_runner.proofs.sides.Sides.drop_effects.Goals.{in-Some, in_default}

pub invariant_of-self : goal.invariant_of-self
invariant_of-self c =
    let es = c.self.inside.by_name.entries in
    elim c.match-get_mut.branch [
      | in-Some w ↦
          let at = sym (ap option_copied_mut w.in-Some.is) ∙ c.get_mut.ensures.value in
          let is = ap (λ s. s.by_name.entries) w.self-inside-is ∙ (c.get_mut.follows.holds w.drop_effects.new.self).0 in
          subst (AreNamed owner) (sym is)
          (are_named_changed owner c.args.name.now es w.in-Some.side.now w.drop_effects.new.self c.self.invariant at
          (ap (λ (p : Private). p.session) w.drop_effects.ensures))
      | in_default w ↦
          let is = ap (λ s. s.by_name.entries) w.self-inside-is ∙ ap (λ m. m.entries) c.get_mut.follows.holds-at-none in
          subst (AreNamed owner) (sym is) c.self.invariant
    ]

pub returns : goal.returns
returns c =
    let es = c.self.inside.by_name.entries in
    let change : Private → Private = without_effects in
    elim c.match-get_mut.branch [
      | in-Some w ↦
          let at = sym (ap option_copied_mut w.in-Some.is) ∙ c.get_mut.ensures.value in
          let is = ap (λ s. s.by_name.entries) w.self-inside-is ∙ (c.get_mut.follows.holds w.drop_effects.new.self).0 in
          ap sides_in is
          ∙ side_changed c.args.name.now change es w.in-Some.side.now w.drop_effects.new.self c.self.invariant at w.drop_effects.ensures
          ∙ ap (λ v. with_side c.args.name.now change v.items) c.self.view_is
      | in_default w ↦
          let none : lookup (name_eq c.args.name.now) es ≡ None = sym c.get_mut.ensures.value ∙ ap option_copied_mut w.in_default.is in
          let is = ap (λ s. s.by_name.entries) w.self-inside-is ∙ ap (λ m. m.entries) c.get_mut.follows.holds-at-none in
          ap sides_in is ∙ side_unchanged c.args.name.now change es c.self.invariant none
          ∙ ap (λ v. with_side c.args.name.now change v.items) c.self.view_is
    ]
