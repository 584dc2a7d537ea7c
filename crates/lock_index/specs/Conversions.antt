-- Counts that a conversion would add.
use Rattle.std.specs.Prelude.{◌+◌, Bool, false, nat_lt, List}
use Rattle.std.specs.List.{find}
use Rattle.std.specs.Option.{option_map_or}
use Rattle.enq_base.specs.declared.owner.Owner.{Owner}
use Rattle.mode_rules.specs.declared.Mode.TheVariants.{E, O}
use Rattle.lock_entry.specs.declared.entry.Asked.{Asked}
use Rattle.lock_entry.specs.declared.entry.Entry.{Entry}
use Rattle.lock_entry.specs.Names.{has_name, count_at}
use Rattle.lock_entry.specs.Turning.{name_at}

-- the owner's E entry at the table and the argument would exceed 9,999 with the count of its O entry there
abbrev pub exceeds_at : List Entry → Owner → Asked → Bool
exceeds_at entries owner a =
    option_map_or (λ e. nat_lt 9999 (e.count + count_at entries (name_at O owner a.table a.pattern)))
    (find (has_name (name_at E owner a.table a.pattern)) entries) false
