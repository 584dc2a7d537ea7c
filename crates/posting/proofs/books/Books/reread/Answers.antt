use Rattle.std.proofs.Common.{◌≡◌, IfErr, IfOk, IfSome, sym, subst}
use Rattle.std.specs.Option.{option_copied}
use Rattle.std.proofs.lemmas.Result.{IfErr-weaker, IfOk-weaker}
use Rattle.store_reading.specs.Good.{IsSound}
use Rattle.update_records.specs.Ledger.{StandFor}
use Rattle.posting.specs.BooksView.{BooksView}
use Rattle.posting.specs.Numbers.{AreNumbersRight}
use Rattle.posting.specs.Reopening.{HasStood}
use Rattle.posting.specs.Settling.{FoundAnew, IsSettled, IsUnlike}
use Rattle.posting.proofs.FoundLedger.{opened_usable}
use Rattle.posting.proofs.lemmas.LedgerNumbers.{sound_numbers}
use Rattle.posting.proofs.lemmas.SettledDoubt.{stood_here, unlike_counts, unlike_fault, unlike_found, unlike_other, unlike_untold}
use Rattle.posting.proofs.books.Books.reread.Goals as goal

-- ---- a ledger was found that was looked for

pub returns-clause-usable : goal.returns-clause-usable
returns-clause-usable g c =
    let read = c.in-Ok.mirror.ledger in
    IfOk-weaker c.found_anew.result (λ (found : FoundAnew). found.ledger ≡ read) _
    (λ found is. opened_usable g.K.Keeper.held g.K.Keeper.is_open (g.K.Keeper.may_leave c.self.inside.keeper) read _
    c.in-Ok.ensures.opened is c.in-Ok.ensures.stands) c.found_anew.ensures.ledger

pub returns-clause-found : goal.returns-clause-found
returns-clause-found g c =
    subst (λ (s : BooksView g.row.K.Denot). IfOk c.found_anew.result
    (λ (found : FoundAnew). IsSettled s.ledger (option_copied c.args.change) found.taken found.ledger)) c.self.view_is c.found_anew.ensures.settled

pub returns-clause-stood : goal.returns-clause-stood
returns-clause-stood g c =
    let held = g.K.Keeper.held c.open_mirror.new.keeper in
    let read = c.in-Ok.mirror.ledger in
    IfOk-weaker c.found_anew.result (λ (found : FoundAnew). found.ledger ≡ read) _
    (λ found is. subst (λ (s : BooksView g.row.K.Denot). IfSome held (λ _. HasStood (g.K.Keeper.may_leave s.keeper) found.ledger)) c.self.view_is
    (stood_here held (g.K.Keeper.may_leave c.self.inside.keeper) read found.ledger is c.in-Ok.ensures.stands)) c.found_anew.ensures.ledger

pub returns-clause-sound : goal.returns-clause-sound
returns-clause-sound g c =
    IfOk-weaker c.found_anew.result (λ (found : FoundAnew). found.ledger ≡ c.in-Ok.mirror.ledger) (λ (found : FoundAnew). IsSound found.ledger)
    (λ found is. subst IsSound (sym is) c.in-Ok.ensures.sound) c.found_anew.ensures.ledger

pub returns-clause-numbers : goal.returns-clause-numbers
returns-clause-numbers g c =
    IfOk-weaker c.found_anew.result (λ (found : FoundAnew). found.ledger ≡ c.in-Ok.mirror.ledger) (λ (found : FoundAnew). AreNumbersRight found.ledger)
    (λ found is. subst AreNumbersRight (sym is) (sound_numbers c.in-Ok.mirror.ledger c.in-Ok.ensures.sound)) c.found_anew.ensures.ledger

pub returns-clause-counts : goal.returns-clause-counts
returns-clause-counts g c =
    let now = g.K.Keeper.faults c.open_mirror.new.keeper in
    IfOk-weaker c.found_anew.result (λ (found : FoundAnew). found.ledger ≡ c.in-Ok.mirror.ledger) (λ _. now ≡ g.K.Keeper.faults c.args.self.now.keeper)
    (λ found is. subst (λ (s : BooksView g.row.K.Denot). now ≡ g.K.Keeper.faults s.keeper) c.self.view_is c.in-Ok.ensures.counts) c.found_anew.ensures.ledger

-- ---- none was

pub returns-clause-fault : goal.returns-clause-fault
returns-clause-fault g c =
    let old = c.self.inside.mirror.ledger in
    let change = option_copied c.args.change in
    let read = c.in-Ok.mirror.ledger in
    IfErr-weaker c.found_anew.result (IsUnlike old change read) _ (unlike_fault old change read (g.K.Keeper.held c.open_mirror.new.keeper))
    c.found_anew.ensures.unlike

pub returns-clause-untold_fault : goal.returns-clause-untold_fault
returns-clause-untold_fault g c =
    let old = c.self.inside.mirror.ledger in
    let change = option_copied c.args.change in
    let read = c.in-Ok.mirror.ledger in
    IfErr-weaker c.found_anew.result (IsUnlike old change read) _ (unlike_untold old change read) c.found_anew.ensures.unlike

pub returns-clause-other : goal.returns-clause-other
returns-clause-other g c =
    let held = g.K.Keeper.held c.open_mirror.new.keeper in
    let change = option_copied c.args.change in
    let read = c.in-Ok.mirror.ledger in
    let unlike = subst (λ (s : BooksView g.row.K.Denot). IfErr c.found_anew.result (IsUnlike s.ledger change read)) c.self.view_is
    c.found_anew.ensures.unlike in
    IfErr-weaker c.found_anew.result (IsUnlike c.args.self.now.ledger change read) _
    (unlike_other c.args.self.now.ledger change read held (g.K.Keeper.may_leave c.self.inside.keeper) c.in-Ok.ensures.stands) unlike

pub returns-clause-found_rows : goal.returns-clause-found_rows
returns-clause-found_rows g c =
    let held = g.K.Keeper.held c.open_mirror.new.keeper in
    let old = c.self.inside.mirror.ledger in
    let change = option_copied c.args.change in
    let read = c.in-Ok.mirror.ledger in
    let stands = subst (λ (s : BooksView g.row.K.Denot). IfSome held (λ rows. g.K.Keeper.may_leave s.keeper rows × StandFor rows read)) c.self.view_is
    c.in-Ok.ensures.stands in
    IfErr-weaker c.found_anew.result (IsUnlike old change read) _
    (unlike_found old change read held (g.K.Keeper.may_leave c.args.self.now.keeper) stands) c.found_anew.ensures.unlike

pub returns-clause-cause : goal.returns-clause-cause
returns-clause-cause g c =
    let old = c.self.inside.mirror.ledger in
    let change = option_copied c.args.change in
    let read = c.in-Ok.mirror.ledger in
    let now = g.K.Keeper.faults c.open_mirror.new.keeper in
    let same = subst (λ (s : BooksView g.row.K.Denot). now ≡ g.K.Keeper.faults s.keeper) c.self.view_is c.in-Ok.ensures.counts in
    IfErr-weaker c.found_anew.result (IsUnlike old change read) _
    (λ fault. unlike_counts old change read (g.K.Keeper.faults c.args.self.now.keeper) now fault same) c.found_anew.ensures.unlike
