use Rattle.std.proofs.Common.{◌≡◌, sym, ◌∙◌, subst}
use Rattle.std.specs.Prelude.{None}
use Rattle.hall_calls.proofs.ending.Answering.{answered_as, other_answered, refused_answered, served_answered}
use Rattle.hall_calls.proofs.lemmas.WithHistory.{never_restarts}
use Rattle.hall_calls.specs.Serving.{IsAnswered, with_calls}
use Rattle.hall_model.specs.Calls.{call_of}
use Rattle.hall_model.specs.Step.{unavailable}
use Rattle.hall_model.specs.declared.command.Answer.{Answer}
use Rattle.hall_calls.proofs.present.Present.answer.Goals as goal

pub returns-in-Some : goal.returns-in-Some
returns-in-Some g c =
    subst (λ (a : Answer). IsAnswered g.K.Keeper.held g.K.Keeper.may_leave g.K.Keeper.faults g.D.Disk.tells g.D.Disk.faults g.L.Link.gives g.L.Link.applied
    g.L.Link.faults g.L.Link.refusals c.args.self.now c.args.self.now c.args.past.now.items c.args.command.now a) (sym c.of.ensures)
    (refused_answered c.args.self.now c.args.past.now.items c.args.command.now c.in-Some.refusal (sym c.unavailable.ensures ∙ c.in-Some.is)
    c.requires.kept.sound.table c.read_invariant.ensures.link)

pub returns-in-Restart : goal.returns-in-Restart
returns-in-Restart g c =
    let served = c.restart.ensures in
    answered_as c.in-Restart.is
    (served_answered served.serves (subst (λ x. unavailable (with_calls c.args.self.now.state c.args.past.now.items) (call_of x) ≡ None) c.in-Restart.is
    (sym c.unavailable.ensures ∙ c.in-None.is))
    c.requires.kept.sound.table c.read_invariant.ensures.link served.taken served.good_file served.good_store)

pub returns-in_default : goal.returns-in_default
returns-in_default g c =
    subst (λ (a : Answer). IsAnswered g.K.Keeper.held g.K.Keeper.may_leave g.K.Keeper.faults g.D.Disk.tells g.D.Disk.faults g.L.Link.gives g.L.Link.applied
    g.L.Link.faults g.L.Link.refusals c.args.self.now c.act.new.self c.args.past.now.items c.args.command.now a) (sym c.of-in_default.ensures)
    (other_answered c.act.ensures (sym c.unavailable.ensures ∙ c.in-None.is) c.requires.kept.sound.table c.read_invariant.ensures.link
    (never_restarts c.args.command.now c.in_default.not-Restart))
