-- Units, the marks that they get, and what these make of them.
use Rattle.std.specs.Prelude.{◌≡◌, Bool, true, false, not, ◌&&◌, List, [], ◌∷◌, ◌++◌, if◌then◌else◌, Option, Some, None}
use Rattle.std.specs.List.{find, list_any}
use Rattle.std.specs.Option.{option_map_or}
use Rattle.enq_base.specs.Owners.{same_unit}
use Rattle.enq_base.specs.declared.owner.UnitKey.{UnitKey}
use Rattle.enq_base.specs.declared.unit.Effect.{Effect}
use Rattle.enq_base.specs.declared.unit.Status.{Status}
use Rattle.enq_base.specs.declared.unit.Status.TheVariants.{Open, Posted, Bad, Closed, Bad2 as BadSecond, Cancelled}
use Rattle.update_records.specs.declared.records.Mark.{Mark}
use Rattle.update_records.specs.declared.records.MarkKind.{MarkKind}
use Rattle.update_records.specs.declared.records.MarkKind.TheVariants.{Num, Rec, V1, Bad1, Again1, V2, Bad2, Again2}
use Rattle.update_records.specs.declared.records.MarkKind.TheVariants.{Gone}
use Rattle.update_records.specs.declared.records.Unit.{Unit as UnitOfWork}

-- the unit of this key
abbrev pub unit_at : List UnitOfWork → UnitKey → Option UnitOfWork
unit_at units key = find (λ unit. same_unit unit.key key) units

-- a unit that isn't there has no effects
abbrev pub v1_of : List UnitOfWork → UnitKey → List Effect
v1_of units key = option_map_or (λ unit. unit.parts.v1) (unit_at units key) []

abbrev pub v2_of : List UnitOfWork → UnitKey → List Effect
v2_of units key = option_map_or (λ unit. unit.parts.v2) (unit_at units key) []

abbrev pub is_empty_part : List Effect → Bool
is_empty_part [] = true
is_empty_part (effect ∷ effects) = false

-- whether the unit of this key has no V2 part
abbrev pub has_no_v2 : List UnitOfWork → UnitKey → Bool
has_no_v2 units key = is_empty_part (v2_of units key)

-- the status that a mark gives, by the one before it; numbers alone give none
abbrev pub given : Bool → MarkKind → Option Status → Option Status
given no_v2 (Num numbers) before = before
given no_v2 Rec before = Some Open
given no_v2 V1 before = Some (if no_v2 then Closed else Posted)
given no_v2 (Bad1 index reason) before = Some Bad
given no_v2 Again1 before = Some Open
given no_v2 V2 before = Some Closed
given no_v2 (Bad2 index reason) before = Some BadSecond
given no_v2 Again2 before = Some Posted
given no_v2 Gone before = Some Cancelled

-- the status of a unit after more marks
abbrev pub status_after : Bool → UnitKey → Option Status → List Mark → Option Status
status_after no_v2 key status [] = status
status_after no_v2 key status (m ∷ marks) =
    status_after no_v2 key (if same_unit m.unit key then given no_v2 m.kind status else status) marks

-- what the last mark of a unit gives it
abbrev pub status_of : List UnitOfWork → List Mark → UnitKey → Option Status
status_of units marks key = status_after (has_no_v2 units key) key None marks

-- whether a mark may follow where its unit has this status
abbrev pub may_follow : Option Status → MarkKind → Bool
may_follow None (Num numbers) = true
may_follow None Rec = true
may_follow None kind = false
may_follow (Some Open) V1 = true
may_follow (Some Open) (Bad1 index reason) = true
may_follow (Some Open) Gone = true
may_follow (Some Open) kind = false
may_follow (Some Posted) V2 = true
may_follow (Some Posted) (Bad2 index reason) = true
may_follow (Some Posted) kind = false
may_follow (Some Bad) Again1 = true
may_follow (Some Bad) Gone = true
may_follow (Some Bad) kind = false
may_follow (Some BadSecond) Again2 = true
may_follow (Some BadSecond) Gone = true
may_follow (Some BadSecond) kind = false
may_follow (Some Closed) kind = false
may_follow (Some Cancelled) kind = false

-- each mark follows, in the marks before it, the status that it needs
abbrev pub IsLegalAfter : List UnitOfWork → List Mark → List Mark → Type 0
IsLegalAfter units before [] = Unit {0}
IsLegalAfter units before (m ∷ marks) =
    (may_follow (status_of units before m.unit) m.kind ≡ true) × IsLegalAfter units (before ++ m ∷ []) marks

abbrev pub IsLegal : List UnitOfWork → List Mark → Type 0
IsLegal units marks = IsLegalAfter units [] marks

abbrev pub is_rec : MarkKind → Bool
is_rec Rec = true
is_rec kind = false

abbrev pub draws_alone : MarkKind → Bool
draws_alone (Num numbers) = true
draws_alone kind = false

-- whether a mark gives this unit a status
abbrev pub decides : UnitKey → Mark → Bool
decides key m = same_unit m.unit key && not (draws_alone m.kind)

abbrev pub same_status : Status → Status → Bool
same_status Open Open = true
same_status Posted Posted = true
same_status Bad Bad = true
same_status Closed Closed = true
same_status BadSecond BadSecond = true
same_status Cancelled Cancelled = true
same_status a b = false

abbrev pub has_status : Status → Option Status → Bool
has_status status None = false
has_status status (Some other) = same_status status other

-- the units that have this status, in the order of the marks that gave it
abbrev pub units_with : Status → List UnitOfWork → List Mark → List UnitKey
units_with status units [] = []
units_with status units (m ∷ marks) =
    if has_status status (given (has_no_v2 units m.unit) m.kind None) && not (list_any (decides m.unit) marks)
    then m.unit ∷ units_with status units marks
    else units_with status units marks

-- the units that wait for their V1 part, the one whose last mark is oldest first
abbrev pub waiting : List UnitOfWork → List Mark → List UnitKey
waiting units marks = units_with Open units marks

-- the units that wait for their V2 part
abbrev pub waiting_again : List UnitOfWork → List Mark → List UnitKey
waiting_again units marks = units_with Posted units marks
