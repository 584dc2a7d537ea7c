use Rattle.std.proofs.Common.{◌∷◌, [], ap, map, sym, ◌∙◌}
use Rattle.enq_base.specs.declared.condition.Readings.{Readings}
use Rattle.ledger_steps.specs.Levels.{intervals_of}
use Rattle.turn_desks.specs.Stocks.{fact_of}
use Rattle.thread_runner.proofs.Acted.{covered}
use Rattle.thread_runner.proofs.running.act_as.Goals as goal

pub act_shown-requires-clause-shows : goal.act_shown-requires-clause-shows
act_shown-requires-clause-shows g c κs within = c.in-Ok-new.ensures.told.1 ∙ c.readings.ensures

pub act_shown-requires-clause-shown : goal.act_shown-requires-clause-shown
act_shown-requires-clause-shown g c κs within = c.in-Ok-new.ensures.told.0 ∙ ap (λ (r : Readings). r ∷ []) c.readings.ensures

pub act_shown-requires-clause-cover : goal.act_shown-requires-clause-cover
act_shown-requires-clause-cover g c κs within =
    covered (intervals_of c.args.served.hall.state.ranges) (map fact_of c.in-Ok.stocks.list.items) (map fact_of c.as_slice-in-Ok-new-2.result.now)
    c.as_slice.result.now c.as_slice-in-Ok-new.result.now (ap (map fact_of) (sym c.as_slice-in-Ok-new-2.ensures.value))
    (c.as_slice.ensures.value ∙ sym c.as_slice-in-Ok-new.ensures.value) c.in-Ok.ensures.cover
