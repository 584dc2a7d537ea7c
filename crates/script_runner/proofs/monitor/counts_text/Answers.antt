use Rattle.std.proofs.Common.{◌≡◌, ◌∙◌, subst}
use Rattle.std.specs.Prelude.{IfOk}
use Rattle.monitors.specs.Monitors.{audit_text}
use Rattle.script_runner.proofs.monitor.counts_text.Goals as goal

pub returns : goal.returns
returns g c =
    subst (λ shown. IfOk c.audit.result (λ text. text ≡ shown))
    (λ i. audit_text c.args.number (c.condition-condition.ensures i) ((c.as_slice.ensures.value ∙ c.in_ok-units.ensures.shown) i) (c.marks-marks.ensures i)
    (c.numbers-numbers.ensures i))
    c.audit.ensures
