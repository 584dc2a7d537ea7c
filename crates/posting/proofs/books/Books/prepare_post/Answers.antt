use Rattle.std.proofs.Common.{ap}
use Rattle.posting.specs.BooksView.{BooksView}
use Rattle.posting.proofs.AppliedParts.{post_noted, post_outcome}
use Rattle.posting.proofs.books.Books.prepare_post.Goals as goal

pub prepare_note-requires-clause-note : goal.prepare_note-requires-clause-note
prepare_note-requires-clause-note g c =
    post_noted c.args.part c.self.inside.mirror.ledger c.args.self.now.ledger c.args.unit.now c.in_ok-spots.outcome c.in_ok-spots.spots.items
    c.kind_for-kind.result (ap (λ (s : BooksView _). s.ledger) c.self.view_is) c.kind_for-kind.ensures c.in_ok-spots.ensures.post

pub returns-clause-outcome : goal.returns-clause-outcome
returns-clause-outcome g c =
    post_outcome c.args.part c.self.inside.mirror.ledger c.args.self.now.ledger c.args.unit.now c.in_ok-spots.outcome c.in_ok-spots.spots.items
    (ap (λ (s : BooksView _). s.ledger) c.self.view_is) c.in_ok-spots.ensures.post
