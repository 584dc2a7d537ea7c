-- What is told of the units of a ledger.
use Rattle.std.specs.Prelude.{◌≡◌, Bool, true, false, List, length, map, is_some}
use Rattle.std.specs.Option.{unwrap_or}
use Rattle.enq_base.specs.declared.owner.UnitKey.{UnitKey}
use Rattle.enq_base.specs.declared.unit.Status.{Status}
use Rattle.enq_base.specs.declared.unit.Status.TheVariants.{Open, Bad, Bad2}
use Rattle.lock_entry.specs.declared.entry.UnitLocks.{UnitLocks}
use Rattle.update_records.specs.Ledger.{Ledger}
use Rattle.update_records.specs.Marks.{status_of}
use Rattle.update_records.specs.declared.records.Unit.{Unit as UnitOfWork}
use Rattle.ledger_steps.specs.Posts.{entries_of}
use Rattle.ledger_steps.specs.Errors.{error_of}
use Rattle.ledger_steps.specs.Steps.{waiting_for}
use Rattle.update_records.specs.declared.view.UnitView.{UnitView}
use Rattle.ledger_steps.specs.declared.part.Part.TheVariants.{V1}

-- a recorded unit always has a status, that of its last mark
abbrev pub view_of : Ledger → UnitOfWork → UnitView
view_of ledger unit = record {
  key = unit.key;
  user = unit.user;
  status = unwrap_or (status_of ledger.units ledger.marks unit.key) Open;
  v1 = length unit.parts.v1;
  v2 = length unit.parts.v2;
  locks = length unit.entries;
  numbers = length unit.numbers;
  error = error_of ledger.marks unit.key;
}

-- the recorded units, in the order of recording
abbrev pub views_of : Ledger → List UnitView
views_of ledger = map (view_of ledger) ledger.units

-- whether a part of a unit with this status was refused
abbrev pub was_refused : Status → Bool
was_refused Bad = true
was_refused Bad2 = true
was_refused status = false

-- a refusal is told of the unit just where its status is that of one
abbrev pub TellsRefusal : UnitView → Type 0
TellsRefusal unit = is_some unit.error ≡ was_refused unit.status

abbrev pub locks_of : Ledger → UnitKey → UnitLocks
locks_of ledger key = record { unit = key; entries = entries_of ledger.units key }

-- the units that wait for their V1 part, the one whose last mark is oldest first, with their locks
abbrev pub open_locks : Ledger → List UnitLocks
open_locks ledger = map (locks_of ledger) (waiting_for V1 ledger)
