use Rattle.std.proofs.Common.{ap, ◌∙◌}
use Rattle.hall_model.specs.Sessions.{session_at}
use Rattle.hall_calls.proofs.lemmas.NamedValues.{found_by_name}
use Rattle.hall_calls.proofs.sessions.Sessions.find.Goals as goal

pub returns : goal.returns
returns c =
    c.get.ensures.value ∙ found_by_name (λ x. x.name) c.args.name.now c.self.inside.by_name.entries c.self.invariant
    ∙ ap (λ xs. session_at xs c.args.name.now) c.self.view_is
