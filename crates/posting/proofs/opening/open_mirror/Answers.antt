use Rattle.std.proofs.Common.{false, IfSome, subst, sym}
use Rattle.store_reading.specs.Good.{IsSound}
use Rattle.update_records.specs.Ledger.{StandFor}
use Rattle.posting.proofs.FoundLedger.{any_fault}
use Rattle.posting.proofs.opening.open_mirror.Goals as goal

pub returns-in-Ok-restored-clause-stands : goal.returns-in-Ok-restored-clause-stands
returns-in-Ok-restored-clause-stands g c =
    subst (λ l. IfSome (g.K.Keeper.held c.open_ledger.new.keeper) (λ rows. g.K.Keeper.may_leave c.args.keeper.now rows × StandFor rows l))
    (sym c.in-Ok-restored.ensures) c.in-Ok.ensures.stands

pub returns-in-Ok-restored-clause-sound : goal.returns-in-Ok-restored-clause-sound
returns-in-Ok-restored-clause-sound g c = subst IsSound (sym c.in-Ok-restored.ensures) c.in-Ok.ensures.sound

pub returns-in-Err-restored-clause-fault : goal.returns-in-Err-restored-clause-fault
returns-in-Err-restored-clause-fault g c = (any_fault (g.K.Keeper.held c.open_ledger.new.keeper) false).1
