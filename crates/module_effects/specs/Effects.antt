-- What effects do to business tables.
use Rattle.std.specs.Prelude.{◌≡◌, ℕ, ◌+◌, ◌^◌, nat_lt, List, [], ◌∷◌, if◌then◌else◌, Option, Some, None, is_some}
use Rattle.std.specs.Prelude.{Result, Ok, Err, ℤ, pos, ◌+ℤ◌}
use Rattle.std.specs.Fmt.{signed_decimal}
use Rattle.std.specs.FinMap.{get}
use Rattle.enq_base.specs.declared.unit.Reason.{Reason}
use Rattle.enq_base.specs.declared.unit.Reason.TheVariants.{Duplicate, Missing, NotNumber, Overflow}
use Rattle.enq_base.specs.declared.unit.Deed.{Deed}
use Rattle.enq_base.specs.declared.unit.Deed.TheVariants.{Put, Ins, Del, Add}
use Rattle.enq_base.specs.declared.unit.Effect.{Effect}
use Rattle.module_effects.specs.Integers.{is_i64, integer_of}
use Rattle.module_effects.specs.Rows.{Tables, with_row, row_of}
use Rattle.module_effects.specs.declared.fault.DeedFault.{DeedFault}
use Rattle.module_effects.specs.declared.fault.DeedFault.TheVariants as deed
use Rattle.module_effects.specs.declared.fault.EffectFault.{EffectFault}
use Rattle.module_effects.specs.declared.fault.EffectFault.TheVariants as fault

-- what a number is added to: a row that isn't there counts as 0
abbrev pub addend_in : Option (List ℕ) → Option ℤ
addend_in None = Some (pos 0)
addend_in (Some text) = integer_of text

abbrev pub sum_row : ℤ → Result (Option (List ℕ)) Reason
sum_row sum = if is_i64 sum then Ok (Some (signed_decimal sum)) else Err Overflow

abbrev pub added_row : Option ℤ → ℤ → Result (Option (List ℕ)) Reason
added_row None n = Err NotNumber
added_row (Some m) n = sum_row (m +ℤ n)

-- what a deed makes of a row, or why it is refused
abbrev pub row_after : Option (List ℕ) → Deed → Result (Option (List ℕ)) Reason
row_after row (Put text) = Ok (Some text)
row_after row (Ins text) = if is_some row then Err Duplicate else Ok (Some text)
row_after row Del = if is_some row then Ok None else Err Missing
row_after row (Add n) = added_row (addend_in row) n

-- the effects in order, of which the first has this number
abbrev pub applied_from : ℕ → List Effect → Tables → Result Tables EffectFault
applied_from index [] tables = Ok tables
applied_from index (effect ∷ effects) tables =
    elim (row_after (get tables (row_of effect)) effect.deed) [
      | Ok row ↦ applied_from (index + 1) effects (with_row tables (row_of effect) row)
      | Err reason ↦ Err (fault.Refused index reason)
    ]

-- The tables after the effects, or the first effect that is refused, counted from 1.
abbrev pub applied : List Effect → Tables → Result Tables EffectFault
applied effects tables = applied_from 1 effects tables

-- the fault is the answer's, or want of memory
abbrev pub IsFaultOf : Result Tables EffectFault → EffectFault → Type 0
IsFaultOf answer (fault.Refused index reason) = answer ≡ Err (fault.Refused index reason)
IsFaultOf answer fault.NoMemory = Unit {0}

-- what the code makes of one row is as defined, or it meets want of memory
abbrev pub IsRowAfter : Result (Option (List ℕ)) Reason → Result (Option (List ℕ)) DeedFault → Type 0
IsRowAfter defined (Ok row) = defined ≡ Ok row
IsRowAfter defined (Err (deed.Refused reason)) = defined ≡ Err reason
IsRowAfter defined (Err deed.NoMemory) = Unit {0}

-- a deed's fault as that of the effect with this number, which is below 2^32
abbrev pub fault_at : ℕ → DeedFault → EffectFault
fault_at index (deed.Refused reason) = if nat_lt index (2 ^ 32) then fault.Refused index reason else fault.NoMemory
fault_at index deed.NoMemory = fault.NoMemory
