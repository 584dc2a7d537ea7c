use Rattle.std.proofs.Common.{true, IfSome, refl, ap, sym, subst, ◌∙◌}
use Rattle.keeper_api.specs.Rows.{Rows}
use Rattle.posting.specs.Opening.{OnBad}
use Rattle.ledger_steps.specs.Starts.{raised}
use Rattle.posting.specs.Reopening.{IsOpeningFault, MayBeLeftBy}
use Rattle.posting.specs.Numbers.{AreNumbersRight}
use Rattle.posting.proofs.lemmas.LedgerNumbers.{raised_numbers, sound_numbers}
use Rattle.posting.proofs.FoundLedger.{left_by, opened_usable, raise_fault, raise_found, stood_now}
use Rattle.posting.proofs.books.Books.open.Goals as goal

pub returns-then-not-raise-clause-usable : goal.returns-then-not-raise-clause-usable
returns-then-not-raise-clause-usable g c =
    opened_usable g.K.Keeper.held g.K.Keeper.is_open (g.K.Keeper.may_leave c.args.keeper)
    c.in-Ok.mirror.ledger _ c.in-Ok.ensures.opened refl c.in-Ok.ensures.stands

pub raise-requires : goal.raise-requires
raise-requires g c = record {
  usable = opened_usable g.K.Keeper.held g.K.Keeper.is_open (g.K.Keeper.may_leave c.args.keeper)
      c.in-Ok.mirror.ledger _ c.in-Ok.ensures.opened refl c.in-Ok.ensures.stands;
}

pub returns-then-not-raise-clause-ledger : goal.returns-then-not-raise-clause-ledger
returns-then-not-raise-clause-ledger g c =
    let same = ap (λ b. raised b c.in-Ok.mirror.ledger) (sym c.if-not-raise.true) in
    stood_now (g.K.Keeper.held c.open_mirror.new.keeper) (g.K.Keeper.held c.open_mirror.new.keeper) (g.K.Keeper.may_leave c.args.keeper) c.args.raise
    c.in-Ok.mirror.ledger c.in-Ok.mirror.ledger refl same
    c.in-Ok.ensures.stands

pub returns-then-not-raise-clause-sound : goal.returns-then-not-raise-clause-sound
returns-then-not-raise-clause-sound g c =
    (c.in-Ok.mirror.ledger, c.in-Ok.ensures.sound, ap (λ b. raised b c.in-Ok.mirror.ledger) (sym c.if-not-raise.true))

pub returns-in-Ok-raise-clause-ledger : goal.returns-in-Ok-raise-clause-ledger
returns-in-Ok-raise-clause-ledger g c =
    let same = c.in-Ok-raise.ensures.ledger ∙ ap (λ b. raised b c.in-Ok.mirror.ledger) (sym c.if-not-raise.false) in
    stood_now (g.K.Keeper.held c.raise.new.self.keeper) (g.K.Keeper.held c.open_mirror.new.keeper) (g.K.Keeper.may_leave c.args.keeper) c.args.raise
    c.in-Ok.mirror.ledger c.raise.new.self.ledger
    c.in-Ok-raise.ensures.told same c.in-Ok.ensures.stands

pub returns-in-Ok-raise-clause-sound : goal.returns-in-Ok-raise-clause-sound
returns-in-Ok-raise-clause-sound g c = (
  c.in-Ok.mirror.ledger,
  c.in-Ok.ensures.sound,
  c.in-Ok-raise.ensures.ledger ∙ ap (λ b. raised b c.in-Ok.mirror.ledger) (sym c.if-not-raise.false),
)

pub returns-in-Ok-raise-clause-left : goal.returns-in-Ok-raise-clause-left
returns-in-Ok-raise-clause-left g c =
    left_by (g.K.Keeper.held c.raise.new.self.keeper) (g.K.Keeper.held c.open_mirror.new.keeper) (g.K.Keeper.may_leave c.args.keeper)
    (g.K.Keeper.may_leave c.open_mirror.new.keeper) (g.K.Keeper.may_leave c.raise.new.self.keeper)
    c.args.raise c.in-Ok.mirror.ledger c.in-Ok.mirror.ledger c.in-Ok-raise.ensures.told c.if-not-raise.false refl
    c.in-Ok.ensures.crash c.in-Ok.ensures.stands c.in-Ok-raise.ensures.left

pub returns-in-Err-raise-clause-fault : goal.returns-in-Err-raise-clause-fault
returns-in-Err-raise-clause-fault g c =
    subst (λ k. IfSome (g.K.Keeper.held k) (λ rows. IsOpeningFault c.args.raise rows c.in-Err-raise.fault)) (sym c.into_keeper.ensures)
    (raise_fault (g.K.Keeper.held c.raise.new.self.keeper) (g.K.Keeper.held c.open_mirror.new.keeper) (g.K.Keeper.may_leave c.args.keeper) c.args.raise
    c.in-Ok.mirror.ledger c.in-Ok.mirror.ledger c.in-Err-raise.fault
    c.if-not-raise.false refl c.in-Err-raise.ensures.fault c.in-Err-raise.ensures.rows c.in-Ok.ensures.stands)

pub returns-in-Err-raise-clause-left_after : goal.returns-in-Err-raise-clause-left_after
returns-in-Err-raise-clause-left_after g c =
    subst (λ k. IfSome (g.K.Keeper.held k)
    (λ _. (left : Rows) → g.K.Keeper.may_leave k left → MayBeLeftBy (g.K.Keeper.may_leave c.args.keeper) c.args.raise left)) (sym c.into_keeper.ensures)
    (left_by (g.K.Keeper.held c.raise.new.self.keeper) (g.K.Keeper.held c.open_mirror.new.keeper) (g.K.Keeper.may_leave c.args.keeper)
    (g.K.Keeper.may_leave c.open_mirror.new.keeper) (g.K.Keeper.may_leave c.raise.new.self.keeper)
    c.args.raise c.in-Ok.mirror.ledger c.in-Ok.mirror.ledger c.in-Err-raise.ensures.told c.if-not-raise.false refl
    c.in-Ok.ensures.crash c.in-Ok.ensures.stands c.in-Err-raise.ensures.left)

pub returns-then-not-raise-clause-numbers : goal.returns-then-not-raise-clause-numbers
returns-then-not-raise-clause-numbers g c = sound_numbers c.in-Ok.mirror.ledger c.in-Ok.ensures.sound

pub returns-in-Ok-raise-clause-numbers : goal.returns-in-Ok-raise-clause-numbers
returns-in-Ok-raise-clause-numbers g c =
    subst AreNumbersRight (sym c.in-Ok-raise.ensures.ledger)
    (raised_numbers true c.in-Ok.mirror.ledger (sound_numbers c.in-Ok.mirror.ledger c.in-Ok.ensures.sound))

pub returns-in-Err-raise-clause-found : goal.returns-in-Err-raise-clause-found
returns-in-Err-raise-clause-found g c =
    let before = g.K.Keeper.may_leave c.args.keeper in
    subst (λ k. OnBad c.in-Err-raise.fault (IfSome (g.K.Keeper.held k) before)) (sym c.into_keeper.ensures)
    (raise_found (g.K.Keeper.held c.raise.new.self.keeper) (g.K.Keeper.held c.open_mirror.new.keeper) before
    c.in-Ok.mirror.ledger c.in-Ok.mirror.ledger c.in-Err-raise.fault
    c.in-Err-raise.ensures.fault c.in-Err-raise.ensures.rows c.in-Ok.ensures.stands)
