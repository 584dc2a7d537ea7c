-- The turns in which units wait for a part: each mark takes one.
use Rattle.std.specs.Prelude.{ℕ, suc, not, ◌&&◌, List, [], ◌∷◌, if◌then◌else◌, Option, Some, None}
use Rattle.std.specs.List.{list_any}
use Rattle.std.specs.Option.{option_map, option_or}
use Rattle.enq_base.specs.declared.owner.UnitKey.{UnitKey}
use Rattle.enq_base.specs.declared.unit.Status.{Status}
use Rattle.update_records.specs.declared.records.Mark.{Mark}
use Rattle.update_records.specs.declared.records.Unit.{Unit as UnitOfWork}
use Rattle.update_records.specs.Marks.{has_no_v2, given, decides, has_status}

-- at the turn of each mark its unit, where no later mark decides of it and this one gives it the status
abbrev pub turns_of : Status → List UnitOfWork → List Mark → List (Option UnitKey)
turns_of status units [] = []
turns_of status units (m ∷ marks) =
    (if has_status status (given (has_no_v2 units m.unit) m.kind None) && not (list_any (decides m.unit) marks)
    then Some m.unit
    else None) ∷ turns_of status units marks

-- the turn of the last mark that decides of a unit, counted from 0
abbrev pub last_turn : UnitKey → List Mark → Option ℕ
last_turn key [] = None
last_turn key (m ∷ marks) = option_or (option_map suc (last_turn key marks)) (if decides key m then Some 0 else None)
