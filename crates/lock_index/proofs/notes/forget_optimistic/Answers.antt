use Rattle.lock_index.proofs.MadeExclusive.{shown-exclusive, shown-dialogue}
use Rattle.lock_index.proofs.notes.forget_optimistic.Goals as goal

pub returns-in-Dlg : goal.returns-in-Dlg
returns-in-Dlg c = λ slots shown at mild. shown-dialogue slots c.args.map.now shown c.args.entry.now c.args.place _ _ c.in-Dlg.is at mild

pub returns-in-Upd : goal.returns-in-Upd
returns-in-Upd c = λ slots shown at mild. shown-exclusive slots c.args.map.now shown c.take.new.map c.args.entry.now c.args.place c.in-Upd.unit c.in-Upd.is at
    mild (rw c.optimistic_key_of.ensures at c.take.ensures)
