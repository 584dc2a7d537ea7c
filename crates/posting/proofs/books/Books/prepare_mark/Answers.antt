use Rattle.std.proofs.Common.{sym, subst}
use Rattle.update_records.specs.Growing.{next_mark}
use Rattle.business_rows.proofs.TouchedRows.{no_rows}
use Rattle.ledger_steps.specs.Posts.{HasDistinctRows, IsNote}
use Rattle.posting.proofs.AppliedParts.{note_by_hand}
use Rattle.posting.proofs.books.Books.prepare_mark.Goals as goal

pub prepare_note-requires-clause-distinct : goal.prepare_note-requires-clause-distinct
prepare_note-requires-clause-distinct g c = subst HasDistinctRows (sym c.new.ensures.items) no_rows

pub prepare_note-requires-clause-note : goal.prepare_note-requires-clause-note
prepare_note-requires-clause-note g c =
    let ledger = c.args.self.now.ledger in
    subst (IsNote ledger (next_mark ledger c.args.unit.now c.args.kind)) (sym c.new.ensures.items)
    (note_by_hand ledger c.args.unit.now c.args.kind c.requires.kind)
