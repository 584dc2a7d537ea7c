-- What a target executed, and what one call more makes of it.
use Rattle.std.specs.Prelude.{ℕ, List, [], ◌∷◌, ◌++◌, if◌then◌else◌, Option, Some, None}
use Rattle.std.specs.Str.{bytes_eq}
use Rattle.std.specs.FinMap.{empty}
use Rattle.module_effects.specs.Rows.{Tables}
use Rattle.remote_target.specs.declared.call.CallOutcome.{CallOutcome}
use Rattle.remote_target.specs.Calls.{outcome_of, tables_with}

pub record Call : Type 0 where
  pub tid : List ℕ
  pub text : List ℕ

-- a call that a target executed
pub record Execution : Type 0 where
  pub tid : List ℕ
  pub text : List ℕ
  pub outcome : CallOutcome

-- the calls that a target executed, by place, and its business rows
pub record Ran : Type 0 where
  pub executed : List Execution
  pub tables : Tables

abbrev pub nothing_ran : Ran
nothing_ran = record { executed = []; tables = empty }

-- the outcome with which an identifier was executed
abbrev pub executed_as : List ℕ → List Execution → Option CallOutcome
executed_as tid [] = None
executed_as tid (x ∷ xs) = if bytes_eq x.tid tid then Some x.outcome else executed_as tid xs

-- a call as it is executed now
abbrev pub execution : Call → Ran → Execution
execution call r = record { tid = call.tid; text = call.text; outcome = outcome_of call.text r.tables }

-- a call is executed where its identifier isn't known, else nothing happens
abbrev pub ran_if : Option CallOutcome → Call → Ran → Ran
ran_if (Some outcome) call r = r
ran_if None call r = record { executed = r.executed ++ execution call r ∷ []; tables = tables_with call.text r.tables }

-- a target after a call has come
abbrev pub ran : Call → Ran → Ran
ran call r = ran_if (executed_as call.tid r.executed) call r
