use Rattle.std.proofs.Common.{◌||◌, take, ap, sym, subst, ◌∙◌}
use Rattle.std.proofs.lemmas.List.{take_all}
use Rattle.std.proofs.lemmas.List.Folds.{list_any_more}
use Rattle.store_reading.specs.Units.{has_row, is_row}
use Rattle.store_reading.specs.Standings.{AreRows}
use Rattle.store_reading.proofs.unit_rows.rows_of.Goals as goal

pub loop-stored-preserved : goal.loop-stored-preserved
loop-stored-preserved c = λ key part n.
    c.in_ok-add_row.ensures key part n
    ∙ ap (λ b. b || is_row key part n c.stored-item.result) (c.loop-stored.invariant key part n)
    ∙ ap (λ r. has_row (take c.loop-stored.stored-index c.args.records.now) key part n || is_row key part n r) c.stored-item.is
    ∙ sym (list_any_more (is_row key part n) c.args.records.now c.loop-stored.stored-index c.stored-item.result c.loop-stored-test.true)

pub returns : goal.returns
returns c = subst (AreRows c.loop-stored.rows) (take_all c.loop-stored.stored-index c.args.records.now c.loop-stored-test.false) c.loop-stored.invariant
