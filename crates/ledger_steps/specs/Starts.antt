-- The ledger of a start.
use Rattle.std.specs.Prelude.{◌+◌, Bool, if◌then◌else◌, ◌≡◌}
use Rattle.update_records.specs.Growing.{with_start}
use Rattle.update_records.specs.Ledger.{Ledger}

-- a ledger that was opened: at its next start, where one is raised
abbrev pub raised : Bool → Ledger → Ledger
raised raise ledger = if raise then with_start ledger (ledger.start + 1) else ledger

-- the ledger is that of a store that is good, at its next start where one is raised
abbrev pub IsRaised : (Ledger → Type 0) → Bool → Ledger → Type 0
IsRaised stood raise opened = (ledger : Ledger) × stood ledger × (opened ≡ raised raise ledger)
