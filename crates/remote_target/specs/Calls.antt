-- The texts of calls, and what executing a call comes to.
use Rattle.std.specs.Prelude.{ℕ, ◌&&◌, List, codes, if◌then◌else◌, Option, Some, None, option_map, Result, Ok, Err}
use Rattle.std.specs.Str.{bytes_eq}
use Rattle.std.specs.FinMap.{get}
use Rattle.enq_base.specs.Cut.{cut}
use Rattle.enq_base.specs.Number.{◌>>=◌}
use Rattle.enq_base.specs.Grammar.{is_key, is_name, is_text}
use Rattle.enq_base.specs.declared.unit.Reason.{Reason}
use Rattle.enq_base.specs.declared.unit.Deed.{Deed}
use Rattle.enq_base.specs.declared.unit.Deed.TheVariants.{Put, Ins, Del, Add}
use Rattle.enq_base.specs.declared.unit.Effect.{Effect}
use Rattle.module_effects.specs.Effects.{row_after}
use Rattle.module_effects.specs.Integers.{integer_of}
use Rattle.module_effects.specs.Rows.{Tables, row_of, with_row}
use Rattle.remote_target.specs.declared.call.CallOutcome.{CallOutcome}
use Rattle.remote_target.specs.declared.call.CallOutcome.TheVariants.{Done, BadText, Refused}

-- ---- texts

abbrev pub text_if : List ℕ → Option (List ℕ)
text_if bytes = if is_text bytes then Some bytes else None

-- the effect on a row, where its table and its key are such
abbrev pub effect_on : List ℕ → List ℕ → Deed → Option Effect
effect_on table key deed = if is_name table && is_key key then Some
    (record { table = table; key = key; deed = deed }) else None

-- what is done to a row with the bytes behind its key
abbrev pub deed_with : List ℕ → List ℕ → Option Deed
deed_with verb bytes =
    if bytes_eq verb (codes "PUT") then option_map Put (text_if bytes) else
    if bytes_eq verb (codes "INS") then option_map Ins (text_if bytes) else
    if bytes_eq verb (codes "ADD") then option_map Add (integer_of bytes) else None

-- `key text` or `key number`
abbrev pub keyed_effect : List ℕ → List ℕ → List ℕ → Option Effect
keyed_effect verb table rest = do
  parts ← cut 32 rest
  deed ← deed_with verb (parts.1)
  effect_on table (parts.0) deed

abbrev pub verb_effect : List ℕ → List ℕ → List ℕ → Option Effect
verb_effect verb table rest = if bytes_eq verb (codes "DEL") then effect_on table rest Del else keyed_effect verb table
    rest

-- the effect that a call's text spells: `PUT table key text`, `INS table key text`, `DEL table key` or `ADD table key
-- number`
unfoldable pub effect_of : List ℕ → Option Effect
effect_of text = do
  verb ← cut 32 text
  table ← cut 32 (verb.1)
  verb_effect (verb.0) (table.0) (table.1)

-- ---- executing

abbrev pub outcome_after : Result (Option (List ℕ)) Reason → CallOutcome
outcome_after (Ok row) = Done
outcome_after (Err reason) = Refused reason

-- what an effect comes to in these tables; a text that spells none is bad
abbrev pub outcome_by : Option Effect → Tables → CallOutcome
outcome_by None tables = BadText
outcome_by (Some effect) tables = outcome_after (row_after (get tables (row_of effect)) effect.deed)

abbrev pub tables_in : Effect → Tables → Result (Option (List ℕ)) Reason → Tables
tables_in effect tables (Ok row) = with_row tables (row_of effect) row
tables_in effect tables (Err reason) = tables

-- the tables after an effect, which changes none where it is refused
abbrev pub tables_by : Option Effect → Tables → Tables
tables_by None tables = tables
tables_by (Some effect) tables = tables_in effect tables (row_after (get tables (row_of effect)) effect.deed)

-- what executing a text comes to
abbrev pub outcome_of : List ℕ → Tables → CallOutcome
outcome_of text tables = outcome_by (effect_of text) tables

-- the tables after executing a text
abbrev pub tables_with : List ℕ → Tables → Tables
tables_with text tables = tables_by (effect_of text) tables
