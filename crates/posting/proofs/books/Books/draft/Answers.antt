use Rattle.std.proofs.Common.{IfOk, sym, subst}
use Rattle.ledger_steps.specs.Steps.{IsOpenUnit}
use Rattle.posting.specs.BooksView.{BooksView}
use Rattle.posting.specs.Drafts.{IsDrafted}
use Rattle.posting.proofs.books.Books.draft.Goals as goal

pub draft_part-requires : goal.draft_part-requires
draft_part-requires g c = subst (λ (s : BooksView g.row.K.Denot). IsOpenUnit s.ledger c.args.unit.now) (sym c.self.view_is) c.requires

pub returns : goal.returns
returns g c = subst (λ (s : BooksView g.row.K.Denot). IfOk c.draft_part.result (IsDrafted s.ledger c.args.unit.now)) c.self.view_is c.draft_part.ensures
