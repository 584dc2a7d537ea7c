-- The lists of the open units in the backup file.
use Rattle.std.specs.Prelude.{◌≡◌, List}
use Rattle.std.specs.List.{All}
use Rattle.backup_file.specs.declared.handed.Handed.{Handed}
use Rattle.enq_server.specs.Recovery.{Agrees, lists_among}
use Rattle.ledger_steps.specs.Views.{open_locks}
use Rattle.update_records.specs.Ledger.{Ledger}

-- each open unit has a list with just its locks, and none where it has no locks
abbrev pub AgreeAll : Ledger → List Handed → Type 0
AgreeAll ledger lists = All (Agrees lists) (open_locks ledger)

-- and no list is of another unit
pub record AreOpenLists (ledger : Ledger) (lists : List Handed) : Type 0 where
  pub agree : AgreeAll ledger lists
  pub only : lists ≡ lists_among (open_locks ledger) lists
