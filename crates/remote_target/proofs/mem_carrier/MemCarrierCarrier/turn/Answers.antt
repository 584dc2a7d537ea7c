use Rattle.std.proofs.Common.{None, Ok, refl, sym, ap, subst, ◌∙◌}
use Rattle.remote_target.specs.Carrying.{Carries, RisesUnless, executed_by}
use Rattle.remote_target.proofs.Lines.{carries_none}
use Rattle.remote_target.proofs.mem_carrier.MemCarrierCarrier.turn.Goals as goal

pub returns-in_err-turn-clause-told : goal.returns-in_err-turn-clause-told
returns-in_err-turn-clause-told g c =
    let held = g.K.Keeper.held in
    (carries_none (executed_by held c.args.self.now.line) (executed_by held c.note.new.self.line) (Ok None)
    (ap (λ v. executed_by held v.line) c.note.ensures) refl).told

pub returns-in_err-turn-clause-kept : goal.returns-in_err-turn-clause-kept
returns-in_err-turn-clause-kept g c =
    let held = g.K.Keeper.held in
    (carries_none (executed_by held c.args.self.now.line) (executed_by held c.note.new.self.line) (Ok None)
    (ap (λ v. executed_by held v.line) c.note.ensures) refl).kept

pub returns-in_err-answer-clause-told : goal.returns-in_err-answer-clause-told
returns-in_err-answer-clause-told g c =
    let held = g.K.Keeper.held in
    (subst (λ v. Carries (executed_by held v.line) (executed_by held c.arrive.new.self.line) c.arrive.result) c.note.ensures c.arrive.ensures.carries).told

pub returns-in_err-answer-clause-kept : goal.returns-in_err-answer-clause-kept
returns-in_err-answer-clause-kept g c =
    let held = g.K.Keeper.held in
    (subst (λ v. Carries (executed_by held v.line) (executed_by held c.arrive.new.self.line) c.arrive.result) c.note.ensures c.arrive.ensures.carries).kept

pub returns-clause-cause : goal.returns-clause-cause
returns-clause-cause g c =
    let same = c.arrive.ensures.misses ∙ ap (λ v. v.misses) c.note.ensures in
    subst (λ b. RisesUnless b c.args.self.now.misses c.count.new.self.misses) c.is_own.ensures
    (subst (λ m. RisesUnless c.is_own.result m c.count.new.self.misses) same c.count.ensures.misses)

pub returns-clause-told : goal.returns-clause-told
returns-clause-told g c =
    let held = g.K.Keeper.held in
    (subst (λ l. Carries (executed_by held c.args.self.now.line) (executed_by held l) (Ok c.in_ok-answer.answer)) (sym c.count.ensures.line)
    (subst (λ v. Carries (executed_by held v.line) (executed_by held c.arrive.new.self.line) (Ok c.in_ok-answer.answer)) c.note.ensures
    c.in_ok-answer.ensures.carries)).told

pub returns-clause-kept : goal.returns-clause-kept
returns-clause-kept g c =
    let held = g.K.Keeper.held in
    (subst (λ l. Carries (executed_by held c.args.self.now.line) (executed_by held l) (Ok c.in_ok-answer.answer)) (sym c.count.ensures.line)
    (subst (λ v. Carries (executed_by held v.line) (executed_by held c.arrive.new.self.line) (Ok c.in_ok-answer.answer)) c.note.ensures
    c.in_ok-answer.ensures.carries)).kept

pub returns-clause-answered : goal.returns-clause-answered
returns-clause-answered g c =
    let held = g.K.Keeper.held in
    (subst (λ l. Carries (executed_by held c.args.self.now.line) (executed_by held l) (Ok c.in_ok-answer.answer)) (sym c.count.ensures.line)
    (subst (λ v. Carries (executed_by held v.line) (executed_by held c.arrive.new.self.line) (Ok c.in_ok-answer.answer)) c.note.ensures
    c.in_ok-answer.ensures.carries)).answered
