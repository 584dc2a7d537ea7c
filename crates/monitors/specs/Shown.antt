-- The lines of the monitors.
use Rattle.std.specs.Prelude.{ℕ, Bool, true, false, List, [], ◌∷◌, ◌++◌, Option, Some, None, codes, decimal}
use Rattle.enq_base.specs.Text.{◌␣◌, owner_text, reason_text, status_text, unit_text}
use Rattle.enq_base.specs.declared.owner.Owner.{Owner}
use Rattle.enq_base.specs.declared.owner.Owner.TheVariants.{Dlg, Upd}
use Rattle.enq_base.specs.declared.unit.Reason.{Reason}
use Rattle.lock_entry.specs.declared.entry.Entry.{Entry}
use Rattle.mode_rules.specs.Modes.{mode_text}
use Rattle.monitors.specs.declared.views.Counts.{Counts}
use Rattle.number_ranges.specs.declared.interval.Interval.{Interval}
use Rattle.update_records.specs.declared.view.UnitView.{UnitView}

-- a line of a monitor: the number of the script line, a space, the text, and the line's end
abbrev pub shown_line : ℕ → List ℕ → List ℕ
shown_line n text = decimal n ␣ (text ++ 10 ∷ [])

-- the last line of a monitor
abbrev pub end_line : ℕ → List ℕ
end_line n = shown_line n (codes "END")

-- the line before it, where the server is in doubt since command k
abbrev pub doubt_line : ℕ → ℕ → List ℕ
doubt_line n k = shown_line n (codes "DOUBT" ␣ decimal k)

abbrev pub replica_text : Bool → List ℕ
replica_text true = codes "ATTACHED"
replica_text false = codes "DETACHED"

-- the dialogue owner's counter and the update owner's: that of the owner that isn't the entry's is 0
abbrev pub counters_text : Owner → ℕ → List ℕ
counters_text (Dlg start session) count = decimal count ␣ codes "0"
counters_text (Upd unit) count = codes "0" ␣ decimal count

-- whether an entry is handed
abbrev pub flag_text : Bool → List ℕ
flag_text true = codes "H"
flag_text false = codes "-"

-- owner, user, table, mode, counters, flag and argument of an entry
abbrev pub entry_text : Entry → List ℕ
entry_text e =
    owner_text e.owner ␣ e.user ␣ e.table ␣ mode_text e.mode
    ␣ counters_text e.owner e.count ␣ flag_text e.handed ␣ e.pattern

-- a refused effect, where the unit has one
abbrev pub error_text : Option (ℕ × Reason) → List ℕ
error_text None = []
error_text (Some e) = codes " ERROR" ␣ decimal (e.0) ␣ reason_text (e.1)

-- a unit, its user and its status, and how many effects, lock rows and numbers it has
abbrev pub unit_line_text : UnitView → List ℕ
unit_line_text u =
    unit_text u.key ␣ u.user ␣ status_text u.status ␣ codes "V1" ␣ decimal u.v1 ␣ codes "V2" ␣ decimal u.v2
    ␣ codes "LOCKS" ␣ decimal u.locks ␣ codes "NUMBERS" ␣ (decimal u.numbers ++ error_text u.error)

-- who holds an interval, where a session does
abbrev pub holder_text : Option (List ℕ) → List ℕ
holder_text None = []
holder_text (Some session) = codes " BY " ++ session

-- an interval and its numbers, its present level, block size and percentage, and who holds it
abbrev pub range_text : Interval → Option (List ℕ) → List ℕ
range_text i holder =
    i.object ␣ i.nr ␣ decimal i.from ␣ decimal i.to ␣ codes "LEVEL" ␣ decimal i.level
    ␣ codes "BUFFER" ␣ decimal i.buffer ␣ codes "PERCENT" ␣ (decimal i.percent ++ holder_text holder)

-- how many units there are, in all and by status, and how many marks and numbers
abbrev pub counts_text : Counts → List ℕ
counts_text c =
    codes "UNITS" ␣ decimal c.units ␣ codes "OPEN" ␣ decimal c.«open» ␣ codes "POSTED" ␣ decimal c.posted
    ␣ codes "BAD" ␣ decimal c.bad ␣ codes "CLOSED" ␣ decimal c.closed ␣ codes "BAD2" ␣ decimal c.bad2
    ␣ codes "CANCELLED" ␣ decimal c.cancelled ␣ codes "MARKS" ␣ decimal c.marks ␣ codes "NUMBERS" ␣ decimal c.numbers
