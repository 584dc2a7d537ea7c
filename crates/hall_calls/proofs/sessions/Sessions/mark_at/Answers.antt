use Rattle.std.proofs.Common.{◌≡◌, None, Some, ap, sym, ◌∙◌, refl, subst, set, slice_get}
use Rattle.std.specs.Map.{values_of}
use Rattle.std.specs.Option.{option_copied_mut}
use Rattle.hall_calls.specs.Named.{AreNamed}
use Rattle.hall_model.specs.Sessions.{has_one_of}
use Rattle.hall_model.specs.State.{unhanded}
use Rattle.hall_model.specs.declared.command.Session.{Session}
use Rattle.hall_calls.proofs.restarting.LostLocks.{are_named_set, values_set}
use Rattle.hall_calls.proofs.sessions.Sessions.mark_at.Goals as goal
use Rattle.hall_calls.proofs.sessions.Sessions.mark_at.Goals.{in-Some, in_default}

pub invariant_of-self : goal.invariant_of-self
invariant_of-self g c =
    let es = c.self.inside.by_name.entries in
    elim c.match-get_index_mut.branch [
      | in-Some w ↦
          let x = w.in-Some.session.now in
          let at = sym c.get_index_mut.ensures.value ∙ ap option_copied_mut w.in-Some.is in
          let changed : Session = record x { marked = w.has_own_lock-session.result } in
          subst (AreNamed (λ x. x.name)) (sym (ap (λ s. s.by_name.entries) w.self-inside-is))
          (are_named_set (λ x. x.name) es c.args.place x changed c.self.invariant at refl)
      | in_default w ↦ subst (AreNamed (λ x. x.name)) (sym (ap (λ s. s.by_name.entries) w.self-inside-is)) c.self.invariant
    ]

pub returns : goal.returns
returns g c = λ x at.
    let es = c.self.inside.by_name.entries in
    let seen = ap (λ vs. slice_get vs c.args.place) c.self.view_is ∙ at in
    elim c.match-get_index_mut.branch [
      | in-Some w ↦
          let y = w.in-Some.session.now in
          let found : Some y ≡ Some x = sym (ap option_copied_mut w.in-Some.is) ∙ c.get_index_mut.ensures.value ∙ seen in
          let same : y ≡ x = cc in
          let changed : Session = record y { marked = w.has_own_lock-session.result } in
          let mark = w.has_own_lock-session.ensures ∙ ap (has_one_of c.args.start (unhanded c.args.locks.now.table.entries)) same in
          ap (λ s. values_of s.by_name.entries) w.self-inside-is ∙ values_set es c.args.place changed
          ∙ (λ i. set (c.self.view_is i) c.args.place (record (same i) { marked = mark i }))
      | in_default w ↦
          let none : None ≡ Some x = sym (ap option_copied_mut w.in_default.is) ∙ c.get_index_mut.ensures.value ∙ seen in
          absurd (cc)
    ]
