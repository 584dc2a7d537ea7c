use Rattle.std.proofs.Common.{◌≡◌, ◌∷◌, [], None, refl, ap, sym, ◌∙◌, subst}
use Rattle.std.specs.Map.{lookup, values_of}
use Rattle.std.specs.Option.{option_copied_mut}
use Rattle.hall_calls.specs.Named.{AreNamed}
use Rattle.hall_model.specs.Sessions.{without_draws, with_session}
use Rattle.hall_calls.proofs.lemmas.NamedValues.{are_named_changed, changed_by_name, name_eq, unchanged_by_name}
use Rattle.hall_calls.proofs.sessions.Sessions.settle_draws.Goals as goal
use Rattle.hall_calls.proofs.sessions.Sessions.settle_draws.Goals.{in-Some, in_default}

pub invariant_of-self : goal.invariant_of-self
invariant_of-self c =
    let es = c.self.inside.by_name.entries in
    elim c.match-get_mut.branch [
      | in-Some w ↦
          let x = w.in-Some.session.now in
          let at = sym (ap option_copied_mut w.in-Some.is) ∙ c.get_mut.ensures.value in
          let is =
          ap (λ s. s.by_name.entries) w.self-inside-is
          ∙ ap (λ d. (c.get_mut.follows.lender (record x { draws = d })).entries) w.no_numbers.ensures
          ∙ (c.get_mut.follows.holds (without_draws x)).0 in
          subst (AreNamed (λ x. x.name)) (sym is) (are_named_changed (λ x. x.name) c.args.name.now es x (without_draws x) c.self.invariant at refl)
      | in_default w ↦
          let is = ap (λ s. s.by_name.entries) w.self-inside-is ∙ ap (λ m. m.entries) c.get_mut.follows.holds-at-none in
          subst (AreNamed (λ x. x.name)) (sym is) c.self.invariant
    ]

pub returns : goal.returns
returns c =
    let es = c.self.inside.by_name.entries in
    elim c.match-get_mut.branch [
      | in-Some w ↦
          let x = w.in-Some.session.now in
          let at = sym (ap option_copied_mut w.in-Some.is) ∙ c.get_mut.ensures.value in
          let is =
          ap (λ s. s.by_name.entries) w.self-inside-is
          ∙ ap (λ d. (c.get_mut.follows.lender (record x { draws = d })).entries) w.no_numbers.ensures
          ∙ (c.get_mut.follows.holds (without_draws x)).0 in
          ap values_of is ∙ changed_by_name (λ x. x.name) c.args.name.now without_draws es x (without_draws x) c.self.invariant at refl
          ∙ ap (with_session c.args.name.now without_draws) c.self.view_is
      | in_default w ↦
          let none : lookup (name_eq c.args.name.now) es ≡ None = sym c.get_mut.ensures.value ∙ ap option_copied_mut w.in_default.is in
          let is = ap (λ s. s.by_name.entries) w.self-inside-is ∙ ap (λ m. m.entries) c.get_mut.follows.holds-at-none in
          ap values_of is ∙ unchanged_by_name (λ x. x.name) c.args.name.now (λ x. without_draws x ∷ []) es c.self.invariant none
          ∙ ap (with_session c.args.name.now without_draws) c.self.view_is
    ]
