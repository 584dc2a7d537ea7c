use Rattle.std.proofs.Common.{Option, None, Some, sym, ◌∙◌}
use Rattle.std.specs.Prelude.{IfNone}
use Rattle.ledger_steps.specs.Levels.{fits, intervals_of}
use Rattle.draw_laws.proofs.FittingLevels.{none_fails}
use Rattle.range_list.proofs.ranges.Ranges.first_unfit.Goals as goal

always : {X : Type 0} (found : Option X) (P : Type 0) → P → IfNone found P
always None P h = h
always (Some x) P h = tt

pub returns-in_err-before-clause-none : goal.returns-in_err-before-clause-none
returns-in_err-before-clause-none c =
    always c.from_residual.result _ (none_fails (fits (intervals_of c.args.self.now)) c.args.rows.now (sym c.unfit_place.ensures.place ∙ c.in_err-before.was))
