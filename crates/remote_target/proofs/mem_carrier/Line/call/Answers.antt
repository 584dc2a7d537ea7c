use Rattle.std.proofs.Common.{◌≡◌, false, cond, option_map, sym, ap, subst, ◌∙◌}
use Rattle.remote_target.specs.Carrying.{Carries, HasPast, IsLine, executed_by, is_store_fault}
use Rattle.remote_target.specs.Executed.{executed_in}
use Rattle.remote_target.proofs.Batches.{key_long}
use Rattle.remote_target.proofs.Lines.{IsCalled, called_carries, called_line}
use Rattle.remote_target.proofs.mem_carrier.Line.call.Goals as goal

pub invariant_of-self : goal.invariant_of-self
invariant_of-self g c =
    let K = g.K.Keeper in
    let t = c.self.inside.target in
    let s = c.execute-outcome.new.self in
    let sound : c.self.inside.failed ≡ false = ap (λ l. l.failed) c.self.view_is ∙ c.requires in
    let past : HasPast K.held t = subst (λ b. HasPast K.held (cond b c.self.inside.before.value t)) sound c.self.invariant.past in
    let called : IsCalled K.held K.may_leave K.is_open t s (record { tid = c.args.tid.now; text = c.args.text.now }) c.execute-outcome.result = record {
      outcome = c.execute-outcome.ensures.outcome;
      done = c.execute-outcome.ensures.done;
      rows = c.execute-outcome.ensures.rows;
      left = c.execute-outcome.ensures.left;
      opened = c.execute-outcome.ensures.opened;
      unchanged = c.execute-outcome.ensures.unchanged;
      count = c.execute-outcome.ensures.count;
      told = c.execute-outcome.ensures.told;
    } in
    subst (λ b. IsLine K.held K.may_leave K.is_open (record { target = s; before = b; failed = c.is_store_fault-self-inside.result })) (sym c.of.ensures)
    (subst (λ f. IsLine K.held K.may_leave K.is_open (record { target = s; before = t; failed = f })) (sym c.is_store_fault-self-inside.ensures)
    (called_line K.held K.may_leave K.is_open g.met.K.Keeper.settled t s (record { tid = c.args.tid.now; text = c.args.text.now }) c.has_few.ensures
    (key_long c.args.tid.now c.bytes-key.ensures.grammar) c.execute-outcome.result called past))

pub returns : goal.returns
returns g c =
    let K = g.K.Keeper in
    let t = c.self.inside.target in
    let s = c.execute-outcome.new.self in
    let sound : c.self.inside.failed ≡ false = ap (λ l. l.failed) c.self.view_is ∙ c.requires in
    let past : HasPast K.held t = subst (λ b. HasPast K.held (cond b c.self.inside.before.value t)) sound c.self.invariant.past in
    let called : IsCalled K.held K.may_leave K.is_open t s (record { tid = c.args.tid.now; text = c.args.text.now }) c.execute-outcome.result = record {
      outcome = c.execute-outcome.ensures.outcome;
      done = c.execute-outcome.ensures.done;
      rows = c.execute-outcome.ensures.rows;
      left = c.execute-outcome.ensures.left;
      opened = c.execute-outcome.ensures.opened;
      unchanged = c.execute-outcome.ensures.unchanged;
      count = c.execute-outcome.ensures.count;
      told = c.execute-outcome.ensures.told;
    } in
    let was : option_map executed_in (K.held t.keeper) ≡ executed_by K.held c.args.self.now =
    sym (ap (λ b. option_map executed_in (K.held (cond b c.self.inside.before.value t).keeper)) sound) ∙ ap (executed_by K.held) c.self.view_is in
    subst (λ b. Carries (executed_by K.held c.args.self.now)
    (executed_by K.held (record { target = s; before = b; failed = c.is_store_fault-self-inside.result })) c.answer_of.result) (sym c.of.ensures)
    (subst (λ f. Carries (executed_by K.held c.args.self.now) (executed_by K.held (record { target = s; before = t; failed = f })) c.answer_of.result)
    (sym c.is_store_fault-self-inside.ensures)
    (subst (λ a. Carries a (executed_by K.held (record { target = s; before = t; failed = is_store_fault c.execute-outcome.result })) c.answer_of.result) was
    (called_carries K.held K.may_leave K.is_open g.met.K.Keeper.settled t s (record { tid = c.args.tid.now; text = c.args.text.now }) c.has_few.ensures
    (key_long c.args.tid.now c.bytes-key.ensures.grammar) c.execute-outcome.result called past c.answer_of.result
    c.answer_of.ensures)))
