use Rattle.std.proofs.Common.{ap, sym, ◌∙◌}
use Rattle.update_records.specs.declared.records.MarkKind.{MarkKind}
use Rattle.update_records.specs.declared.stored.Record.TheVariants as rec
use Rattle.store_reading.specs.Units.{is_right_unit}
use Rattle.store_reading.proofs.Whole.{whole_same}
use Rattle.store_reading.proofs.unit_rule.UnitIndex.is_right.Goals as goal

pub returns-in-Rec : goal.returns-in-Rec
returns-in-Rec c = λ headers modules steps locks index.
    let m = c.in-Mark.mark in
    c.is_whole.ensures
    ∙ whole_same c.args.self.now.counts c.args.self.now.modules c.args.self.now.steps c.args.self.now.locks c.args.self.now.twins headers modules steps locks
    index m.unit
    ∙ ap (λ (kind : MarkKind). is_right_unit headers modules steps locks (rec.Mark (record m { kind = kind }))) (sym c.in-Rec.is)
    ∙ ap (is_right_unit headers modules steps locks) (sym c.in-Mark.is)
