use Rattle.draw_laws.proofs.FittingLevels.{fit_levels, present_good}
use Rattle.draw_laws.proofs.laws.rows_fit_by_name.Goals as goal

pub returns-clause-levels : goal.returns-clause-levels
returns-clause-levels c = fit_levels

pub returns-clause-present : goal.returns-clause-present
returns-clause-present c = present_good
