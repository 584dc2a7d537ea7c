use Rattle.std.proofs.Common.{false, IfSome, refl, subst}
use Rattle.posting.specs.Reopening.{HasStood}
use Rattle.ledger_steps.specs.Starts.{IsRaised}
use Rattle.posting.specs.BooksView.{BooksView}
use Rattle.posting.proofs.lemmas.LedgerNumbers.{sound_numbers}
use Rattle.posting.proofs.FoundLedger.{opened_usable, stood_now}
use Rattle.posting.proofs.books.Books.reopen.Goals as goal

pub returns-clause-usable : goal.returns-clause-usable
returns-clause-usable g c =
    opened_usable g.K.Keeper.held g.K.Keeper.is_open (g.K.Keeper.may_leave c.self.inside.keeper) c.in-Ok.mirror.ledger _
    c.in-Ok.ensures.opened refl c.in-Ok.ensures.stands

pub returns-clause-ledger : goal.returns-clause-ledger
returns-clause-ledger g c =
    let held = g.K.Keeper.held c.open_mirror.new.keeper in
    let read = c.in-Ok.mirror.ledger in
    subst (λ (s : BooksView g.row.K.Denot). IfSome held (λ _. IsRaised (HasStood (g.K.Keeper.may_leave s.keeper)) false read)) c.self.view_is
    (stood_now held held (g.K.Keeper.may_leave c.self.inside.keeper) false read read refl refl c.in-Ok.ensures.stands)

pub returns-clause-sound : goal.returns-clause-sound
returns-clause-sound g c = (c.in-Ok.mirror.ledger, c.in-Ok.ensures.sound, refl)

pub returns-clause-numbers : goal.returns-clause-numbers
returns-clause-numbers g c = sound_numbers c.in-Ok.mirror.ledger c.in-Ok.ensures.sound
