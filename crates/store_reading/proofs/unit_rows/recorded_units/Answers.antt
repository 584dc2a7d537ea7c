use Rattle.std.proofs.Common.{◌||◌, take, ap, sym, subst, ◌∙◌}
use Rattle.std.proofs.lemmas.List.{take_all}
use Rattle.std.proofs.lemmas.List.Folds.{list_any_more}
use Rattle.store_reading.specs.Units.{is_recorded, records_unit}
use Rattle.store_reading.specs.Standings.{AreRecorded}
use Rattle.store_reading.proofs.unit_rows.recorded_units.Goals as goal

pub loop-stored-preserved : goal.loop-stored-preserved
loop-stored-preserved c = λ key.
    c.in_ok-add_recorded.ensures key
    ∙ ap (λ b. b || records_unit key c.stored-item.result) (c.loop-stored.invariant key)
    ∙ ap (λ r. is_recorded (take c.loop-stored.stored-index c.args.marks.now) key || records_unit key r) c.stored-item.is
    ∙ sym (list_any_more (records_unit key) c.args.marks.now c.loop-stored.stored-index c.stored-item.result c.loop-stored-test.true)

pub returns : goal.returns
returns c = subst (AreRecorded c.loop-stored.recorded) (take_all c.loop-stored.stored-index c.args.marks.now c.loop-stored-test.false) c.loop-stored.invariant
