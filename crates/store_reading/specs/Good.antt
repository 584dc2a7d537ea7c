-- The ledger of a store that is good, and the place where one that isn't is wrong.
use Rattle.std.specs.Prelude.{ℕ, ◌≡◌, ◌⊎◌, List, Some}
use Rattle.keeper_api.specs.Rows.{Rows}
use Rattle.update_records.specs.Ledger.{Ledger, IsLawful, no_ledger}
use Rattle.update_records.specs.declared.stored.Record.{Record}
use Rattle.update_records.specs.Intervals.{levels_of}
use Rattle.store_reading.specs.Stores.{store_fault}
use Rattle.store_reading.specs.Told.{IsFirstBadRow, SpellAll}
use Rattle.store_reading.specs.declared.ledger.StoredLedger.{StoredLedger}

-- the ledger that was read
abbrev pub ledger_of : StoredLedger → Ledger
ledger_of stored =
    record {
      start = stored.start;
      units = stored.units.items;
      marks = stored.marks.items;
      levels =
          levels_of stored.levels.items;
    }

-- a ledger that a store may stand for
abbrev pub IsSound : Ledger → Type 0
IsSound ledger = (ledger ≡ no_ledger) ⊎ IsLawful ledger

-- the rows spell records that break a rule, first of all at this place
abbrev pub IsFirstFault : Rows → ℕ → ℕ → Type 0
IsFirstFault rows table row = (records : List (List Record)) × SpellAll rows records
    × (store_fault records ≡ Some (record { table = table; row = row }))

-- the first row outside the grammar, and where there is none the first place that breaks a rule
abbrev pub IsBadPlace : Rows → ℕ → ℕ → Type 0
IsBadPlace rows table row = IsFirstBadRow rows table row ⊎ IsFirstFault rows table row
