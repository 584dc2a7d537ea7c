use Rattle.std.proofs.Common.{◌≡◌, true, false, cond, option_map, None, Ok, IfOk, sym, ap, subst, ◌∙◌}
use Rattle.std.specs.Result.{is_err}
use Rattle.remote_target.specs.Carrying.{Carries, IsLine, executed_by}
use Rattle.remote_target.specs.Executed.{executed_in}
use Rattle.remote_target.proofs.Lines.{IsReopened, reopened_carries, reopened_line}
use Rattle.remote_target.proofs.mem_carrier.Line.open_again.Goals as goal

pub invariant_of-self : goal.invariant_of-self
invariant_of-self g c =
    let K = g.K.Keeper in
    let t = c.self.inside.target in
    let s = c.reopen-opened.new.self in
    let before = c.self.inside.before.value in
    let failed : c.self.inside.failed ≡ true = ap (λ l. l.failed) c.self.view_is ∙ c.requires in
    let line : IsLine K.held K.may_leave K.is_open (record { target = t; before = before; failed = true }) =
    subst (λ f. IsLine K.held K.may_leave K.is_open (record { target = t; before = before; failed = f })) failed c.self.invariant in
    let reopened : IsReopened K.held K.may_leave K.is_open t s c.reopen-opened.result = record {
      opened = c.reopen-opened.ensures.opened;
      stands = c.reopen-opened.ensures.stands;
      found = c.reopen-opened.ensures.found;
      told = c.reopen-opened.ensures.told;
      left = c.reopen-opened.ensures.left;
    } in
    subst (λ f. IsLine K.held K.may_leave K.is_open (record { target = s; before = before; failed = f })) (sym c.is_fault-self-inside.ensures)
    (reopened_line K.held K.may_leave K.is_open g.met.K.Keeper.settled t s before line c.reopen-opened.result reopened)

pub returns-clause-ready : goal.returns-clause-ready
returns-clause-ready g c = subst (λ f. IfOk c.is_opened.result (λ ready. ready ≡ true → f ≡ false)) (sym c.is_fault-self-inside.ensures) c.is_opened.ensures

pub returns-clause-carries : goal.returns-clause-carries
returns-clause-carries g c =
    let K = g.K.Keeper in
    let t = c.self.inside.target in
    let s = c.reopen-opened.new.self in
    let before = c.self.inside.before.value in
    let failed : c.self.inside.failed ≡ true = ap (λ l. l.failed) c.self.view_is ∙ c.requires in
    let line : IsLine K.held K.may_leave K.is_open (record { target = t; before = before; failed = true }) =
    subst (λ f. IsLine K.held K.may_leave K.is_open (record { target = t; before = before; failed = f })) failed c.self.invariant in
    let reopened : IsReopened K.held K.may_leave K.is_open t s c.reopen-opened.result = record {
      opened = c.reopen-opened.ensures.opened;
      stands = c.reopen-opened.ensures.stands;
      found = c.reopen-opened.ensures.found;
      told = c.reopen-opened.ensures.told;
      left = c.reopen-opened.ensures.left;
    } in
    let was : option_map executed_in (K.held before.keeper) ≡ executed_by K.held c.args.self.now =
    sym (ap (λ b. option_map executed_in (K.held (cond b before t).keeper)) failed) ∙ ap (executed_by K.held) c.self.view_is in
    subst (λ f. Carries (executed_by K.held c.args.self.now) (executed_by K.held (record { target = s; before = before; failed = f })) (Ok None))
    (sym c.is_fault-self-inside.ensures)
    (subst (λ a. Carries a (executed_by K.held (record { target = s; before = before; failed = is_err c.reopen-opened.result })) (Ok None)) was
    (reopened_carries K.held K.may_leave K.is_open g.met.K.Keeper.settled t s before line c.reopen-opened.result reopened))
