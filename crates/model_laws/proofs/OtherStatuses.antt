-- What a recorded unit or a mark leaves of the statuses of other units.
use Rattle.std.proofs.Common.{◌≡◌, inl, inr, Bool, true, false, not, ◌&&◌, ◌||◌, List, [], ◌∷◌, ◌++◌, refl, sym, ap, ◌∙◌, subst}
use Rattle.std.specs.Prelude.{if◌then◌else◌, Option, Some, None}
use Rattle.std.specs.List.{AllByRecursion, list_any}
use Rattle.enq_base.specs.Owners.{same_unit}
use Rattle.enq_base.specs.declared.owner.UnitKey.{UnitKey}
use Rattle.enq_base.specs.declared.unit.Num.{Num as Number}
use Rattle.enq_base.specs.declared.unit.Status.{Status}
use Rattle.enq_base.specs.declared.unit.Status.TheVariants.{Open, Posted, Bad, Closed, Bad2, Cancelled}
use Rattle.record_laws.proofs.Status.{none_of, one_unit, status_grows, status_push, unit_refl}
use Rattle.ledger_steps.specs.Steps.{IsOpenUnit, waiting_for}
use Rattle.hall_model.specs.Kept.{IsWaiting}
use Rattle.update_records.specs.Growing.{next_mark, with_mark, with_unit}
use Rattle.update_records.specs.Ledger.{Ledger}
use Rattle.update_records.specs.Marks.{decides, draws_alone, given, has_no_v2, has_status, same_status, status_after, status_of, units_with, waiting, waiting_again}
use Rattle.update_records.specs.declared.records.Mark.{Mark}
use Rattle.update_records.specs.declared.records.MarkKind.{MarkKind}
use Rattle.update_records.specs.declared.records.MarkKind.TheVariants.{Num, Rec, V1, Bad1, Again1, V2, Bad2 as BadSecond, Again2, Gone}
use Rattle.update_records.specs.declared.records.Unit.{Unit as UnitOfWork}
use Rattle.ledger_steps.specs.declared.part.Part.{Part}
use Rattle.ledger_steps.specs.Parts.{is_first}

-- the status of a unit in a ledger
abbrev pub status_in : Ledger → UnitKey → Option Status
status_in ledger key = status_of ledger.units ledger.marks key

pub marked_other : (ledger : Ledger) (key other : UnitKey) (kind : MarkKind) → same_unit key other ≡ false
    → status_in (with_mark ledger key kind) other ≡ status_in ledger other
marked_other ledger key other kind apart =
    let b = has_no_v2 ledger.units other in
    status_push b other None ledger.marks (next_mark ledger key kind)
    ∙ ap (λ t. if t then given b kind (status_after b other None ledger.marks) else status_after b other None ledger.marks) apart

pub recorded_other : (ledger : Ledger) (unit : UnitOfWork) (other : UnitKey) → status_in ledger unit.key ≡ None → same_unit unit.key other ≡ false
    → status_in (with_unit ledger unit) other ≡ status_in ledger other
recorded_other ledger unit other fresh apart =
    let units = ledger.units ++ unit ∷ [] in
    let b = has_no_v2 units other in
    status_push b other None ledger.marks (next_mark ledger unit.key Rec)
    ∙ ap (λ t. if t then given b Rec (status_after b other None ledger.marks) else status_after b other None ledger.marks) apart
    ∙ status_grows ledger.units unit ledger.marks other (none_of (has_no_v2 ledger.units unit.key) unit.key ledger.marks fresh)

by_test : (P : Type 0) (b : Bool) → (b ≡ true → P) → (b ≡ false → P) → P
by_test P true f g = f refl
by_test P false f g = g refl

some_or_none : {X : Type 0} (o : Option X) (x : X) → o ≡ Some x → o ≡ None → ⊥
some_or_none None x h k = cc
some_or_none (Some y) x h k = cc

-- units of two statuses are two
pub apart_by_status : (ledger : Ledger) (key other : UnitKey) (s : Status) → status_in ledger key ≡ Some s → status_in ledger other ≡ None
    → same_unit key other ≡ false
apart_by_status ledger key other s here none =
    by_test _ (same_unit key other)
    (λ same. absurd (some_or_none (status_in ledger key) s here (ap (status_in ledger) (one_unit key other same) ∙ none)))
    (λ apart. apart)

apart_the_other_way : (ledger : Ledger) (key other : UnitKey) (s : Status) → status_in ledger key ≡ None → status_in ledger other ≡ Some s
    → same_unit key other ≡ false
apart_the_other_way ledger key other s none here =
    by_test _ (same_unit key other)
    (λ same. absurd (some_or_none (status_in ledger other) s here (ap (status_in ledger) (sym (one_unit key other same)) ∙ none)))
    (λ apart. apart)

pub two_statuses : (o : Option Status) (a b : Status) → o ≡ Some a → o ≡ Some b → a ≡ b
two_statuses None a b h k = cc
two_statuses (Some s) a b h k = cc

-- units of two statuses are two
pub apart_by : (ledger : Ledger) (key other : UnitKey) (a b : Status) → status_in ledger key ≡ Some a → status_in ledger other ≡ Some b → (a ≡ b → ⊥)
    → same_unit key other ≡ false
apart_by ledger key other a b here there differ =
    by_test _ (same_unit key other)
    (λ same. absurd (differ (two_statuses (status_in ledger other) a b (ap (status_in ledger) (sym (one_unit key other same)) ∙ here) there)))
    (λ apart. apart)

-- one that waits for no part is another than those that wait
pub apart_from_waiting : (ledger : Ledger) (key other : UnitKey) (status : Status) → status_in ledger key ≡ Some status → (status ≡ Open → ⊥)
    → (status ≡ Posted → ⊥) → IsWaiting ledger other → same_unit other key ≡ false
apart_from_waiting ledger key other status here no_open no_posted (inl waits) = apart_by ledger other key Open status waits here (λ e. no_open (sym e))
apart_from_waiting ledger key other status here no_open no_posted (inr waits) = apart_by ledger other key Posted status waits here (λ e. no_posted (sym e))

-- a mark of a unit that was heard of leaves the unheard unheard
pub marked_unheard : (ledger : Ledger) (key other : UnitKey) (kind : MarkKind) (s : Status) → status_in ledger key ≡ Some s → status_in ledger other ≡ None
    → status_in (with_mark ledger key kind) other ≡ None
marked_unheard ledger key other kind s here none =
    marked_other ledger key other kind (apart_by_status ledger key other s here none) ∙ none

recorded_status : (ledger : Ledger) (unit : UnitOfWork) (other : UnitKey) (s : Status) → status_in ledger unit.key ≡ None → status_in ledger other ≡ Some s
    → status_in (with_unit ledger unit) other ≡ Some s
recorded_status ledger unit other s fresh here =
    recorded_other ledger unit other fresh (apart_the_other_way ledger unit.key other s fresh here) ∙ here

-- a unit of which nothing was heard leaves the open ones open
pub recorded_open : (ledger : Ledger) (unit : UnitOfWork) (other : UnitKey) → status_in ledger unit.key ≡ None → IsOpenUnit ledger other
    → IsOpenUnit (with_unit ledger unit) other
recorded_open ledger unit other fresh here = recorded_status ledger unit other Open fresh here

-- and those that wait for a part still wait for it
pub recorded_waiting : (ledger : Ledger) (unit : UnitOfWork) (other : UnitKey) → status_in ledger unit.key ≡ None → IsWaiting ledger other
    → IsWaiting (with_unit ledger unit) other
recorded_waiting ledger unit other fresh (inl here) = inl (recorded_status ledger unit other Open fresh here)
recorded_waiting ledger unit other fresh (inr here) = inr (recorded_status ledger unit other Posted fresh here)

-- a mark of another unit leaves those that wait for a part
pub marked_waiting : (ledger : Ledger) (key other : UnitKey) (kind : MarkKind) → same_unit key other ≡ false → IsWaiting ledger other
    → IsWaiting (with_mark ledger key kind) other
marked_waiting ledger key other kind apart (inl here) = inl (marked_other ledger key other kind apart ∙ here)
marked_waiting ledger key other kind apart (inr here) = inr (marked_other ledger key other kind apart ∙ here)

-- numbers that are recorded alone leave every unit's status
pub numbers_leave : (ledger : Ledger) (key other : UnitKey) (numbers : List Number)
    → status_in (with_mark ledger key (Num numbers)) other ≡ status_in ledger other
numbers_leave ledger key other numbers =
    let b = has_no_v2 ledger.units other in
    let before = status_after b other None ledger.marks in
    status_push b other None ledger.marks (next_mark ledger key (Num numbers))
    ∙ elim (same_unit key other) as (λ t. (if t then given b (Num numbers) before else before) ≡ before) [ true ↦ refl | false ↦ refl ]

-- ---- those that wait

of_same : (a b : Status) → same_status a b ≡ true → a ≡ b
of_same Open Open h = refl
of_same Posted Posted h = refl
of_same Bad Bad h = refl
of_same Closed Closed h = refl
of_same Bad2 Bad2 h = refl
of_same Cancelled Cancelled h = refl
of_same _ _ h = cc

pub of_has : (status : Status) (o : Option Status) → has_status status o ≡ true → o ≡ Some status
of_has status None h = cc
of_has status (Some other) h = ap Some (sym (of_same status other h))

-- what a mark gives doesn't hang on the status before it, but where it gives none
given_any : (b : Bool) (kind : MarkKind) (before : Option Status) (s : Status) → given b kind None ≡ Some s → given b kind before ≡ Some s
given_any b (Num numbers) before s h = cc
given_any b Rec before s h = h
given_any b V1 before s h = h
given_any b (Bad1 i r) before s h = h
given_any b Again1 before s h = h
given_any b V2 before s h = h
given_any b (BadSecond i r) before s h = h
given_any b Again2 before s h = h
given_any b Gone before s h = h

given_alone : (b : Bool) (kind : MarkKind) (before : Option Status) → draws_alone kind ≡ true → given b kind before ≡ before
given_alone b (Num numbers) before h = refl
given_alone b Rec before h = cc
given_alone b V1 before h = cc
given_alone b (Bad1 i r) before h = cc
given_alone b Again1 before h = cc
given_alone b V2 before h = cc
given_alone b (BadSecond i r) before h = cc
given_alone b Again2 before h = cc
given_alone b Gone before h = cc

alone_by : (d : Bool) → not d ≡ false → d ≡ true
alone_by true e = refl
alone_by false e = cc

undecided_once : (b : Bool) (key : UnitKey) (before : Option Status) (m : Mark) → decides key m ≡ false
    → (if same_unit m.unit key then given b m.kind before else before) ≡ before
undecided_once b key before m h =
    by_test _ (same_unit m.unit key)
    (λ same. ap (λ t. if t then given b m.kind before else before) same
    ∙ given_alone b m.kind before (alone_by (draws_alone m.kind) (sym (ap (λ t. t && not (draws_alone m.kind)) same) ∙ h)))
    (λ apart. ap (λ t. if t then given b m.kind before else before) apart)

no_or : (a b : Bool) → (a || b) ≡ false → (a ≡ false) × (b ≡ false)
no_or true b h = (cc, cc)
no_or false b h = (refl, h)

-- marks that decide nothing of a unit leave its status
pub undecided : (b : Bool) (key : UnitKey) (before : Option Status) (marks : List Mark) → list_any (decides key) marks ≡ false
    → status_after b key before marks ≡ before
undecided b key before [] h = refl
undecided b key before (m ∷ marks) h =
    let parts = no_or (decides key m) (list_any (decides key) marks) h in
    ap (λ o. status_after b key o marks) (undecided_once b key before m parts.0) ∙ undecided b key before marks parts.1

-- whatever stood before
abbrev pub Ends : List UnitOfWork → List Mark → Status → UnitKey → Type 0
Ends units marks status key = (before : Option Status) → status_after (has_no_v2 units key) key before marks ≡ Some status

ends_more : (units : List UnitOfWork) (m : Mark) (marks : List Mark) (status : Status) (keys : List UnitKey) → AllByRecursion (Ends units marks status) keys
    → AllByRecursion (Ends units (m ∷ marks) status) keys
ends_more units m marks status [] h = tt
ends_more units m marks status (key ∷ keys) h =
    ((λ before. h.0 (if same_unit m.unit key then given (has_no_v2 units key) m.kind before else before)), ends_more units m marks status keys h.1)

first_of : (a b : Bool) → (a && b) ≡ true → a ≡ true
first_of true b h = refl
first_of false b h = cc

second_of : (a b : Bool) → (a && not b) ≡ true → b ≡ false
second_of true true h = cc
second_of true false h = refl
second_of false b h = cc

ends_here : (units : List UnitOfWork) (m : Mark) (marks : List Mark) (status : Status)
    → (has_status status (given (has_no_v2 units m.unit) m.kind None) && not (list_any (decides m.unit) marks)) ≡ true → Ends units (m ∷ marks) status m.unit
ends_here units m marks status h before =
    let b = has_no_v2 units m.unit in
    let here : given b m.kind before ≡ Some status = given_any b m.kind before status (of_has status (given b m.kind None) (first_of _ _ h)) in
    ap (λ t. status_after b m.unit (if t then given b m.kind before else before) marks) (unit_refl m.unit)
    ∙ ap (λ o. status_after b m.unit o marks) here
    ∙ undecided b m.unit (Some status) marks (second_of _ _ h)

pub ends_with : (status : Status) (units : List UnitOfWork) (marks : List Mark) → AllByRecursion (Ends units marks status) (units_with status units marks)
ends_with status units [] = tt
ends_with status units (m ∷ marks) =
    let rest = ends_more units m marks status (units_with status units marks) (ends_with status units marks) in
    let test = has_status status (given (has_no_v2 units m.unit) m.kind None) && not (list_any (decides m.unit) marks) in
    elim test as (λ t. test ≡ t → AllByRecursion (Ends units (m ∷ marks) status)
    (if t then m.unit ∷ units_with status units marks else units_with status units marks)) [
      | true ↦ λ e. (ends_here units m marks status e, rest)
      | false ↦ λ e. rest
    ] refl

all_wait : (ledger : Ledger) (status : Status) (keys : List UnitKey) → ((key : UnitKey) → status_in ledger key ≡ Some status → IsWaiting ledger key)
    → AllByRecursion (Ends ledger.units ledger.marks status) keys → AllByRecursion (IsWaiting ledger) keys
all_wait ledger status [] each h = tt
all_wait ledger status (key ∷ keys) each h = (each key (h.0 None), all_wait ledger status keys each h.1)

wait_either : (ledger : Ledger) (first : Bool) → AllByRecursion (IsWaiting ledger)
    (if first then waiting ledger.units ledger.marks else waiting_again ledger.units ledger.marks)
wait_either ledger true = all_wait ledger Open _ (λ key h. inl h) (ends_with Open ledger.units ledger.marks)
wait_either ledger false = all_wait ledger Posted _ (λ key h. inr h) (ends_with Posted ledger.units ledger.marks)

-- those that are offered for a part wait for one
pub all_waiting : (part : Part) (ledger : Ledger) → AllByRecursion (IsWaiting ledger) (waiting_for part ledger)
all_waiting part ledger = wait_either ledger (is_first part)

-- ---- a mark that ends the V1 part

-- behind it the unit isn't open, whatever it was before
abbrev pub EndsFirst : MarkKind → Type 0
EndsFirst kind = (b : Bool) (before : Option Status) → given b kind before ≡ Some Open → ⊥

-- the status that a mark gives its own unit
pub status_marked : (ledger : Ledger) (key : UnitKey) (kind : MarkKind) → status_in (with_mark ledger key kind) key ≡ given (has_no_v2 ledger.units key) kind
    (status_in ledger key)
status_marked ledger key kind =
    let b = has_no_v2 ledger.units key in
    status_push b key None ledger.marks (next_mark ledger key kind)
    ∙ ap (λ t. if t then given b kind (status_after b key None ledger.marks) else status_after b key None ledger.marks) (unit_refl key)

-- another unit is open than the one whose part ended
pub apart_from_ended : (ledger : Ledger) (key other : UnitKey) (kind : MarkKind) → EndsFirst kind → IsOpenUnit (with_mark ledger key kind) other
    → same_unit key other ≡ false
apart_from_ended ledger key other kind ends waits =
    by_test _ (same_unit key other)
    (λ same.
    absurd (ends (has_no_v2 ledger.units key) (status_in ledger key)
    (sym (status_marked ledger key kind) ∙ subst (IsOpenUnit (with_mark ledger key kind)) (sym (one_unit key other same)) waits)))
    (λ apart. apart)
