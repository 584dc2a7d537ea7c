-- The rows of an outbox, and the calls of a sending system.
use Rattle.std.specs.Prelude.{ℕ, ◌+◌, Bool, ◌&&◌, nat_eq, List, [], ◌∷◌, codes, filter_map, drop, length, is_none}
use Rattle.std.specs.Prelude.{is_some, if◌then◌else◌, Option, Some, None, option_map}
use Rattle.std.specs.List.{starts_with}
use Rattle.std.specs.Str.{bytes_eq}
use Rattle.std.specs.FinMap.{insert}
use Rattle.enq_base.specs.Number.{◌>>=◌}
use Rattle.enq_base.specs.Grammar.{is_key, is_text}
use Rattle.keeper_api.specs.declared.rows.Change.{Change}
use Rattle.keeper_api.specs.declared.rows.Change.TheVariants.{Put}
use Rattle.keeper_api.specs.declared.rows.Row.{Row}
use Rattle.keeper_api.specs.Rows.{Rows, value_at}
use Rattle.remote_target.specs.Rows.{outcome_codes, outcome_coded}
use Rattle.table_reading.specs.Tables.{rows_in}
use Rattle.remote_target.specs.declared.call.CallOutcome.{CallOutcome}
use Rattle.remote_sending.specs.declared.outbox.OutboxCall.{OutboxCall}

-- ---- a call's value: its state, and its text

-- the two bytes of a state; an open call has no outcome
abbrev pub state_codes : Option CallOutcome → ℕ × ℕ
state_codes None = (0, 0)
state_codes (Some outcome) = outcome_codes outcome

abbrev pub outbox_value : Option CallOutcome → List ℕ → List ℕ
outbox_value outcome text = (state_codes outcome).0 ∷ (state_codes outcome).1 ∷ text

-- the state of these two bytes
abbrev pub state_coded : ℕ → ℕ → Option (Option CallOutcome)
state_coded number reason = if nat_eq number 0 && nat_eq reason 0 then Some None else option_map Some
    (outcome_coded number reason)

abbrev pub call_with : List ℕ → List ℕ → Option CallOutcome → OutboxCall
call_with tid text outcome = record { tid = tid; text = text; outcome = outcome }

-- the call with this identifier that a value spells
abbrev pub call_under : List ℕ → List ℕ → Option OutboxCall
call_under tid [] = None
call_under tid (number ∷ []) = None
call_under tid (number ∷ reason ∷ text) = if is_key tid
    && is_text text then option_map (call_with tid text) (state_coded number reason) else None

-- ---- rows

abbrev pub call_in : Row → Option OutboxCall
call_in row = call_under row.key row.value

-- the calls of an outbox, in the order of their identifiers
abbrev pub outbox_calls : Rows → List OutboxCall
outbox_calls rows = filter_map call_in (rows_in rows 0)

-- the place of the first row that spells no call, where the first row of all has this place
abbrev pub first_bad_from : ℕ → List Row → Option ℕ
first_bad_from place [] = None
first_bad_from place (row ∷ rows) = if is_some (call_in row) then first_bad_from (place + 1) rows else Some place

-- the first row outside an outbox's grammar, counted from 1
abbrev pub first_bad : Rows → Option ℕ
first_bad rows = first_bad_from 1 (rows_in rows 0)

-- the outcome that an outbox has for an identifier
abbrev pub outcome_at : Rows → List ℕ → Option CallOutcome
outcome_at rows tid = value_at rows 0 tid >>= λ value. call_under tid value >>= λ (call : OutboxCall). call.outcome

-- the change that stores a call
abbrev pub outbox_change : List ℕ → List ℕ → Option CallOutcome → Change
outbox_change tid text outcome = Put 0 tid (outbox_value outcome text)

-- the rows with a call stored
abbrev pub with_call : List ℕ → List ℕ → Option CallOutcome → Rows → Rows
with_call tid text outcome rows = insert rows (0, tid) (outbox_value outcome text)

-- ---- the calls of a sending system

-- the business table of calls, with its length in front
abbrev pub call_table : List ℕ
call_table = 7 ∷ codes "TRFCOUT"

abbrev pub call_if : List ℕ → List ℕ → Option OutboxCall
call_if tid text = if is_key tid && is_text text then Some (call_with tid text None) else None

-- a row under this table and a key is a call where its value is a text
abbrev pub system_call : Row → Option OutboxCall
system_call row = if starts_with nat_eq row.key call_table then call_if (drop 8 row.key) row.value else None

-- the calls among the business rows
abbrev pub system_calls : Rows → List OutboxCall
system_calls rows = filter_map system_call (rows_in rows 6)
