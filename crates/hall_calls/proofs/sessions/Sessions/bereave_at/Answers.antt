use Rattle.std.proofs.Common.{◌≡◌, None, Some, ap, sym, ◌∙◌, subst, set, slice_get}
use Rattle.std.specs.Map.{values_of}
use Rattle.std.specs.Option.{option_copied_mut}
use Rattle.hall_calls.specs.Named.{AreNamed}
use Rattle.hall_model.specs.Sessions.{bereft_if}
use Rattle.hall_model.specs.declared.command.Session.{Session}
use Rattle.hall_calls.proofs.restarting.LostLocks.{are_named_set, bereft_named, values_set}
use Rattle.hall_calls.proofs.sessions.Sessions.bereave_at.Goals as goal
use Rattle.hall_calls.proofs.sessions.Sessions.bereave_at.Goals.{in-Some, in_default}

pub invariant_of-self : goal.invariant_of-self
invariant_of-self c =
    let es = c.self.inside.by_name.entries in
    elim c.match-get_index_mut.branch [
      | in-Some w ↦
          let x = w.in-Some.session.now in
          let at = sym c.get_index_mut.ensures.value ∙ ap option_copied_mut w.in-Some.is in
          let name = ap (λ (y : Session). y.name) w.lose_if.ensures ∙ bereft_named c.args.caller.now x in
          subst (AreNamed (λ x. x.name)) (sym (ap (λ s. s.by_name.entries) w.self-inside-is))
          (are_named_set (λ x. x.name) es c.args.place x w.lose_if.new.session c.self.invariant at name)
      | in_default w ↦ subst (AreNamed (λ x. x.name)) (sym (ap (λ s. s.by_name.entries) w.self-inside-is)) c.self.invariant
    ]

pub returns : goal.returns
returns c = λ x at.
    let es = c.self.inside.by_name.entries in
    let seen = ap (λ vs. slice_get vs c.args.place) c.self.view_is ∙ at in
    elim c.match-get_index_mut.branch [
      | in-Some w ↦
          let y = w.in-Some.session.now in
          let found : Some y ≡ Some x = sym (ap option_copied_mut w.in-Some.is) ∙ c.get_index_mut.ensures.value ∙ seen in
          let same : y ≡ x = cc in
          let lost = w.lose_if.ensures ∙ ap (bereft_if c.args.caller.now) same in
          ap (λ s. values_of s.by_name.entries) w.self-inside-is ∙ values_set es c.args.place w.lose_if.new.session
          ∙ (λ i. set (c.self.view_is i) c.args.place (lost i))
      | in_default w ↦
          let none : None ≡ Some x = sym (ap option_copied_mut w.in_default.is) ∙ c.get_index_mut.ensures.value ∙ seen in
          absurd (cc)
    ]
