use Rattle.std.proofs.Common.{◌≡◌, IfOk, IfSome, sym, subst}
use Rattle.std.specs.FinMap.{get}
use Rattle.module_effects.specs.Rows.{RowName}
use Rattle.update_records.specs.Business.{tables_of}
use Rattle.update_records.specs.Ledger.{StandFor}
use Rattle.posting.specs.BooksView.{BooksView}
use Rattle.posting.proofs.lemmas.HeldRows.{all_read}
use Rattle.posting.proofs.books.Books.read.Goals as goal

pub returns-clause-text : goal.returns-clause-text
returns-clause-text g c =
    let held = g.K.Keeper.held in
    let name : RowName = (c.args.table.now, c.args.key.now) in
    let stands = subst (λ (s : BooksView g.row.K.Denot). IfSome (held s.keeper) (λ rows. StandFor rows s.ledger))
    (sym c.self.view_is) c.requires.usable.stands in
    subst (λ (s : BooksView g.row.K.Denot). IfOk c.read_text.result
    (λ text. IfSome (held s.keeper) (λ _. text ≡ get (tables_of s.ledger.units s.ledger.marks) name))) c.self.view_is
    (all_read c.read_text.result (held c.self.inside.keeper) c.self.inside.mirror.ledger name stands c.read_text.ensures.text)
