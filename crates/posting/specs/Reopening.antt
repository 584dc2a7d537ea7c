-- What is found in a store of any rows that is opened, and what an opening leaves.
use Rattle.std.specs.Prelude.{◌≡◌, ◌⊎◌, ◌≤◌, ◌<◌, Bool, true, IsTrue}
use Rattle.keeper_api.specs.Rows.{Rows}
use Rattle.store_reading.specs.Good.{IsBadPlace}
use Rattle.store_reading.specs.declared.fault.ReadingFault.{ReadingFault}
use Rattle.store_reading.specs.declared.fault.ReadingFault.TheVariants as reading
use Rattle.update_records.specs.Ledger.{Ledger, StandFor}
use Rattle.ledger_steps.specs.Starts.{raised}
use Rattle.posting.specs.declared.opening.BooksFault.{BooksFault}
use Rattle.posting.specs.declared.opening.BooksFault.TheVariants.{StoreFault, BadStore, NoStart, NoMemory}

abbrev pub opening_fault : ReadingFault → BooksFault
opening_fault reading.Failed = StoreFault
opening_fault (reading.Bad table row) = BadStore table row
opening_fault reading.NoMemory = NoMemory

-- rows that may have been left before stand for the ledger
abbrev pub HasStood : (Rows → Type 0) → Ledger → Type 0
HasStood before ledger = (rows : Rows) × before rows × StandFor rows ledger

-- why a store with these rows isn't opened: a bad store at its first bad place, and one at the last start that there is
abbrev pub IsOpeningFault : Bool → Rows → BooksFault → Type 0
IsOpeningFault raise rows StoreFault = Unit {0}
IsOpeningFault raise rows (BadStore table row) = IsBadPlace rows table row
IsOpeningFault raise rows NoStart = IsTrue raise × (ledger : Ledger) × StandFor rows ledger
    × (ledger.start ≡ 4294967295)
IsOpeningFault raise rows NoMemory = Unit {0}

-- the same of rows that aren't told
abbrev pub MayBeOpeningFault : Bool → BooksFault → Type 0
MayBeOpeningFault raise StoreFault = Unit {0}
MayBeOpeningFault raise (BadStore table row) = (table < 8) × (1 ≤ row)
MayBeOpeningFault raise NoStart = IsTrue raise
MayBeOpeningFault raise NoMemory = Unit {0}

-- rows that may have been left before, or those of the next start of a good store, where one was asked for
abbrev pub MayBeLeftBy : (Rows → Type 0) → Bool → Rows → Type 0
MayBeLeftBy before raise left =
    before left ⊎ (IsTrue raise × (ledger : Ledger) × HasStood before ledger × StandFor left (raised true ledger))
