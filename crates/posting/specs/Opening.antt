-- What is found in a store that is opened, and what an opening leaves.
use Rattle.std.specs.Prelude.{ℕ, ◌≡◌, ◌≤◌}
use Rattle.enq_base.specs.Causes.{Rose}
use Rattle.keeper_api.specs.declared.fault.KeepFault.{KeepFault}
use Rattle.keeper_api.specs.declared.fault.KeepFault.TheVariants as keep
use Rattle.update_records.specs.Ledger.{Ledger}
use Rattle.posting.specs.declared.opening.BooksFault.{BooksFault}
use Rattle.posting.specs.declared.opening.BooksFault.TheVariants.{StoreFault, BadStore, NoStart, NoMemory}

abbrev pub books_fault : KeepFault → BooksFault
books_fault keep.Failed = StoreFault
books_fault keep.NoMemory = NoMemory

-- the count of faults has risen just where the fault is the store's
abbrev pub CountsFault : BooksFault → ℕ → ℕ → Type 0
CountsFault StoreFault before now = (before ≤ now) × Rose before now
CountsFault (BadStore table row) before now = now ≡ before
CountsFault NoStart before now = now ≡ before
CountsFault NoMemory before now = now ≡ before

-- a store that is refused keeps its rows
abbrev pub OnRefused : BooksFault → Type 0 → Type 0
OnRefused StoreFault P = Unit {0}
OnRefused (BadStore table row) P = P
OnRefused NoStart P = P
OnRefused NoMemory P = P

-- what is said of a store that isn't good, or that is at the last start
abbrev pub OnBad : BooksFault → Type 0 → Type 0
OnBad StoreFault P = Unit {0}
OnBad (BadStore table row) P = P
OnBad NoStart P = P
OnBad NoMemory P = Unit {0}

-- the faults of raising the start number: there is none behind the last
abbrev pub IsRaiseFault : Ledger → BooksFault → Type 0
IsRaiseFault ledger StoreFault = Unit {0}
IsRaiseFault ledger (BadStore table row) = ⊥
IsRaiseFault ledger NoStart = ledger.start ≡ 4294967295
IsRaiseFault ledger NoMemory = Unit {0}
