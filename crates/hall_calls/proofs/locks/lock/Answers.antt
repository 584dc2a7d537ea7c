use Rattle.std.proofs.Common.{sym, ap, ◌∙◌, subst}
use Rattle.hall_model.specs.Acts.{Admits}
use Rattle.hall_model.specs.declared.command.Command.TheVariants as command
use Rattle.hall_calls.proofs.verdicts.EachCall.{act_as, same_sessions}
use Rattle.hall_calls.proofs.locks.lock.Goals as goal

pub returns-in-Logoff-clause-act : goal.returns-in-Logoff-clause-act
returns-in-Logoff-clause-act g c s started sessions locks limit room =
    let is = c.in-Logoff.is in
    act_as is (c.log_off.ensures.act s started sessions locks (subst (Admits s) is room))

pub returns-in-Ask-clause-act : goal.returns-in-Ask-clause-act
returns-in-Ask-clause-act g c s started sessions locks limit room =
    let is = c.in-Ask.is ∙ ap (command.Ask c.in-Ask.session) (sym c.as_slice.ensures) in
    act_as is (same_sessions sessions (c.ask.ensures.act s started sessions locks limit (subst (Admits s) is room)))

pub returns-in-Free-clause-act : goal.returns-in-Free-clause-act
returns-in-Free-clause-act g c s started sessions locks limit room =
    let is = c.in-Free.is ∙ ap (command.Free c.in-Free.session) (sym c.as_slice-in-Free.ensures) in
    act_as is (same_sessions sessions (c.free.ensures.act s started sessions locks (subst (Admits s) is room)))

pub returns-in-FreeAll-clause-act : goal.returns-in-FreeAll-clause-act
returns-in-FreeAll-clause-act g c s started sessions locks limit room =
    let is = c.in-FreeAll.is in
    act_as is (same_sessions sessions (c.free_all.ensures.act s started sessions locks (subst (Admits s) is room)))

pub returns-in-Convert-clause-act : goal.returns-in-Convert-clause-act
returns-in-Convert-clause-act g c s started sessions locks limit room =
    let is = c.in-Convert.is ∙ ap (command.Convert c.in-Convert.session) (sym c.as_slice-in-Convert.ensures) in
    act_as is (same_sessions sessions (c.convert.ensures.act s started sessions locks (subst (Admits s) is room)))

pub returns-in-Rollback-clause-act : goal.returns-in-Rollback-clause-act
returns-in-Rollback-clause-act g c s started sessions locks limit room =
    let is = c.in-Rollback.is in
    act_as is (c.roll_back.ensures.act s started sessions locks (subst (Admits s) is room))
