-- What a table answers where optimistic locks are to become exclusive ones.
use Rattle.std.specs.Prelude.{◌+◌, Bool, not, ◌&&◌, cond, nat_lt, List, [], ◌∷◌, Option, None, Result, Ok, Err}
use Rattle.std.specs.List.{list_any, filter, find}
use Rattle.std.specs.Option.{option_or}
use Rattle.mode_rules.specs.declared.Mode.TheVariants.{E, O}
use Rattle.mode_rules.specs.Modes.{same_mode}
use Rattle.lock_entry.specs.declared.entry.Asked.{Asked}
use Rattle.lock_entry.specs.declared.entry.Asker.{Asker}
use Rattle.lock_entry.specs.declared.entry.Entry.{Entry}
use Rattle.lock_entry.specs.declared.fault.AskFault.{AskFault}
use Rattle.lock_entry.specs.declared.fault.AskFault.TheVariants.{Count, Lost}
use Rattle.lock_entry.specs.Names.{asked_of, same_place, count_at}
use Rattle.lock_entry.specs.Pairs.{in_pair}
use Rattle.lock_entry.specs.Barring.{places_meet}
use Rattle.lock_entry.specs.Granting.{unless_barred}
use Rattle.lock_entry.specs.Turning.{name_in, turned}

-- an entry of the pair with just the table and argument of one of those asked for
abbrev pub turns : Asker → List Asked → Entry → Bool
turns asker asked e = in_pair asker e.owner && list_any (λ a. same_place a (asked_of e)) asked

-- an O entry of the pair with just this table and argument
abbrev pub is_optimistic : Asker → Asked → Entry → Bool
is_optimistic asker a e = same_mode e.mode O && (in_pair asker e.owner && same_place a (asked_of e))

-- for some argument the pair has no such entry
abbrev pub is_lost : List Entry → Asker → List Asked → Bool
is_lost entries asker asked = list_any (λ a. not (list_any (is_optimistic asker a) entries)) asked

-- an S, E or X entry outside the pair that meets the argument
abbrev pub withstands : Asker → Asked → Entry → Bool
withstands asker a e = not (in_pair asker e.owner) && (not (same_mode e.mode O) && places_meet (asked_of e) a)

-- the oldest entry that withstands the first argument that is withstood
abbrev pub first_withstanding : List Entry → Asker → List Asked → Option Entry
first_withstanding entries asker [] = None
first_withstanding entries asker (a ∷ rest) = option_or (find (withstands asker a) entries)
    (first_withstanding entries asker rest)

-- the sum of an E entry's count and that of the O entry that goes into it would exceed 9,999
abbrev pub sum_exceeds : List Entry → Asker → List Asked → Bool
sum_exceeds entries asker asked =
    list_any (λ e. turns asker asked e
    && (same_mode e.mode E && nat_lt 9999 (e.count + count_at entries (name_in O e)))) entries

-- an O entry outside the pair that meets an argument
abbrev pub gives_way : Asker → List Asked → Entry → Bool
gives_way asker asked e = not (in_pair asker e.owner) &&
    (same_mode e.mode O && list_any (places_meet (asked_of e)) asked)

-- the entries afterwards, and those of others that went
pub record Conversion : Type 0 where
  pub entries : List Entry
  pub removed : List Entry

-- the pair's O entries at the arguments turn, and those of others that meet an argument go
abbrev pub conversion : List Entry → Asker → List Asked → Conversion
conversion entries asker asked = record {
  entries = filter (λ e. not (gives_way asker asked e)) (turned entries (turns asker asked));
  removed = filter (gives_way asker asked) entries;
}

-- Conversion: what stands after the call, or its refusal.
unfoldable pub converted : List Entry → Asker → List Asked → Result Conversion AskFault
converted entries asker asked =
    cond (is_lost entries asker asked) (Err Lost)
    (unless_barred (first_withstanding entries asker asked)
    (cond (sum_exceeds entries asker asked) (Err Count) (Ok (conversion entries asker asked))))
