-- What is kept in memory agrees with the units and marks after one thing more.
use Rattle.std.proofs.Common.{◌+◌, ◌≡◌, ℕ, zero, suc, ◌≤◌, ◌<◌, Bool, true, false, not, ◌&&◌, List, [], ◌∷◌, ◌++◌, length, if◌then◌else◌, Option, Some, None}
use Rattle.std.proofs.Common.{IfSome, IsSome, slice_set, refl, sym, ap, ◌∙◌, subst, arith, length-append, get_or}
use Rattle.std.specs.List.{slice_get}
use Rattle.std.specs.Option.{option_map, option_map_or, option_and_then}
use Rattle.std.proofs.lemmas.List.Elements.{All-push}
use Rattle.enq_base.specs.Owners.{same_unit}
use Rattle.enq_base.specs.declared.owner.UnitKey.{UnitKey}
use Rattle.enq_base.specs.declared.unit.Reason.{Reason}
use Rattle.enq_base.specs.declared.unit.Status.{Status}
use Rattle.enq_base.specs.declared.unit.Status.TheVariants.{Open, Posted}
use Rattle.update_records.specs.declared.records.Mark.{Mark}
use Rattle.update_records.specs.declared.records.MarkKind.TheVariants.{Num, Rec}
use Rattle.update_records.specs.declared.records.Unit.{Unit as UnitOfWork}
use Rattle.update_records.specs.Marks.{unit_at, has_no_v2, is_empty_part, given, status_of, may_follow, draws_alone, same_status, has_status, is_rec}
use Rattle.update_records.specs.declared.records.MarkKind.{MarkKind}
use Rattle.update_records.specs.Ledger.{Ledger, Levels}
use Rattle.ledger_steps.specs.Steps.{HasMarksLeft, IsNewUnit, MayGet, IsDrawing}
use Rattle.posting.specs.Standings.{Standings, standing_at, IsRegister, IsSmall}
use Rattle.ledger_steps.specs.Errors.{told, error_after, error_of}
use Rattle.std.proofs.lemmas.Bool.{false≢true}
use Rattle.enq_base.specs.declared.unit.Num.{Num as Number}
use Rattle.update_records.specs.Business.{numbers_of}
use Rattle.record_laws.proofs.CommittedNumbers.{draws_nothing, numbers_push, numbers_recorded, numbers_same}
use Rattle.posting.specs.declared.register.Standing.{Standing}
use Rattle.record_laws.proofs.Status.{NoneOf, none_of, one_unit, status_push, status_grows, unit_other, unit_new, given_same, not_alone, not_rec}
use Rattle.posting.specs.Turns.{last_turn, turns_of}
use Rattle.posting.proofs.WaitingTurns.{cleared, last_drawn, last_push, one_each, turns_drawn, turns_first, turns_grow, turns_push}

abbrev status_in : Standing → Status
status_in s = s.status

pub no_standing : (o : Option Standing) → option_map status_in o ≡ None → o ≡ None
no_standing None h = refl
no_standing (Some s) h = cc

slice_get_push : {X : Type 0} (xs : List X) (x : X) (i : ℕ) → i < length xs → slice_get (xs ++ x ∷ []) i ≡ slice_get xs i
slice_get_push [] x i h = absurd (omega arith)
slice_get_push (y ∷ ys) x zero h = refl
slice_get_push (y ∷ ys) x (suc i) h = slice_get_push ys x i (omega arith)

slice_get_last : {X : Type 0} (xs : List X) (x : X) → slice_get (xs ++ x ∷ []) (length xs) ≡ Some x
slice_get_last [] x = refl
slice_get_last (y ∷ ys) x = slice_get_last ys x

-- the standings with one more
abbrev pub Sets : {S : Type 0} → Standings S → Standings S → UnitKey → Standing → Type 0
Sets old new key standing = (other : UnitKey) → standing_at new other ≡ (if same_unit key other then Some standing else standing_at old other)

unit_still : (units : List UnitOfWork) (u : UnitOfWork) (o : Option Standing) → IfSome o (λ (s : Standing). s.place < length units)
    → option_and_then (λ (s : Standing). slice_get (units ++ u ∷ []) s.place) o ≡ option_and_then (λ (s : Standing). slice_get units s.place) o
unit_still units u None h = refl
unit_still units u (Some s) h = slice_get_push units u s.place h

placed_still : (units : List UnitOfWork) (u : UnitOfWork) (o : Option Standing) → IfSome o (λ (s : Standing). s.place < length units)
    → IfSome o (λ (s : Standing). s.place < length (units ++ u ∷ []))
placed_still units u None h = tt
placed_still units u (Some s) h = let n = length-append units (u ∷ []) in omega (arith, n, h)

abbrev pub open_at : ℕ → ℕ → Standing
open_at place turn = record { place = place; turn = turn; status = Open; error = None }

abbrev pub rec_of : ℕ → UnitKey → Mark
rec_of seq key = record { seq = seq; unit = key; kind = Rec }

abbrev error_in : Standing → Option (ℕ × Reason)
error_in s = s.error

pub error_push : (key : UnitKey) (error : Option (ℕ × Reason)) (marks : List Mark) (m : Mark)
    → error_after key error (marks ++ m ∷ []) ≡ (if same_unit m.unit key then told m.kind (error_after key error marks) else error_after key error marks)
error_push key error [] m = refl
error_push key error (x ∷ marks) m = error_push key (if same_unit x.unit key then told x.kind error else error) marks m

recorded_error : {S : Type 0} (marks : List Mark) (old new : Standings S) (key : UnitKey) (place turn seq : ℕ)
    → ((other : UnitKey) → option_and_then error_in (standing_at old other) ≡ error_of marks other) → Sets old new key (open_at place turn)
    → (other : UnitKey) → option_and_then error_in (standing_at new other) ≡ error_of (marks ++ rec_of seq key ∷ []) other
recorded_error marks old new key place turn seq known sets other =
    ap (option_and_then error_in) (sets other)
    ∙ elim (same_unit key other)
    as (λ b. option_and_then error_in (if b then Some (open_at place turn) else standing_at old other)
    ≡ (if b then told Rec (error_of marks other) else error_of marks other)) [
      | true ↦ refl
      | false ↦ known other
    ]
    ∙ sym (error_push other None marks (rec_of seq key))

recorded_status : {S : Type 0} (units : List UnitOfWork) (marks : List Mark) (old new : Standings S) (unit : UnitOfWork) (turn seq : ℕ) → NoneOf unit.key marks
    → ((key : UnitKey) → option_map status_in (standing_at old key) ≡ status_of units marks key) → Sets old new unit.key (open_at (length units) turn)
    → (key : UnitKey) → option_map status_in (standing_at new key) ≡ status_of (units ++ unit ∷ []) (marks ++ rec_of seq unit.key ∷ []) key
recorded_status units marks old new unit turn seq none known sets key =
    let before = status_of (units ++ unit ∷ []) marks key in
    let here : option_map status_in (if same_unit unit.key key then Some (open_at (length units) turn) else standing_at old key)
    ≡ (if same_unit unit.key key then Some Open else before) =
    elim (same_unit unit.key key)
    as (λ b. option_map status_in (if b then Some (open_at (length units) turn) else standing_at old key) ≡ (if b then Some Open else before)) [
      | true ↦ refl
      | false ↦ known key ∙ sym (status_grows units unit marks key none)
    ] in
    ap (option_map status_in) (sets key) ∙ here ∙ sym (status_push (has_no_v2 (units ++ unit ∷ []) key) key None marks (rec_of seq unit.key))

recorded_unit : {S : Type 0} (units : List UnitOfWork) (old new : Standings S) (unit : UnitOfWork) (turn : ℕ) → unit_at units unit.key ≡ None
    → ((key : UnitKey) → option_and_then (λ (s : Standing). slice_get units s.place) (standing_at old key) ≡ unit_at units key)
    → ((key : UnitKey) → IfSome (standing_at old key) (λ (s : Standing). s.place < length units)) → Sets old new unit.key (open_at (length units) turn)
    → (key : UnitKey) → option_and_then (λ (s : Standing). slice_get (units ++ unit ∷ []) s.place) (standing_at new key) ≡ unit_at (units ++ unit ∷ []) key
recorded_unit units old new unit turn none known placed sets key =
    let all = units ++ unit ∷ [] in
    ap (option_and_then (λ (s : Standing). slice_get all s.place)) (sets key)
    ∙ elim (same_unit unit.key key)
    as (λ b. same_unit unit.key key ≡ b → option_and_then (λ (s : Standing). slice_get all s.place)
    (if b then Some (open_at (length units) turn) else standing_at old key) ≡ unit_at all key) [
      | true ↦ λ e. slice_get_last units unit ∙ sym (unit_new units unit none) ∙ ap (unit_at all) (one_unit unit.key key e)
      | false ↦ λ e. unit_still units unit (standing_at old key) (placed key) ∙ known key ∙ sym (unit_other units unit key e)
    ] refl

recorded_placed : {S : Type 0} (units : List UnitOfWork) (old new : Standings S) (unit : UnitOfWork) (turn : ℕ)
    → ((key : UnitKey) → IfSome (standing_at old key) (λ (s : Standing). s.place < length units)) → Sets old new unit.key (open_at (length units) turn)
    → (key : UnitKey) → IfSome (standing_at new key) (λ (s : Standing). s.place < length (units ++ unit ∷ []))
recorded_placed units old new unit turn placed sets key =
    let all = units ++ unit ∷ [] in
    let n = length-append units (unit ∷ []) in
    let last : length units < length all = omega (arith, n) in
    subst (λ o. IfSome o (λ (s : Standing). s.place < length all)) (sym (sets key))
    (elim (same_unit unit.key key)
    as (λ b. IfSome (if b then Some (open_at (length units) turn) else standing_at old key) (λ (s : Standing). s.place < length all)) [
      | true ↦ last
      | false ↦ placed_still units unit (standing_at old key) (placed key)
    ])

abbrev pub turn_in : Standing → ℕ
turn_in s = s.turn

-- the turn of each unit, where a mark decides of one
pub turns_kept : {S : Type 0} (marks : List Mark) (old new : Standings S) (m : Mark) (s : Standing) → draws_alone m.kind ≡ false → s.turn ≡ length marks
    → ((other : UnitKey) → option_map turn_in (standing_at old other) ≡ last_turn other marks) → Sets old new m.unit s
    → (other : UnitKey) → option_map turn_in (standing_at new other) ≡ last_turn other (marks ++ m ∷ [])
turns_kept marks old new m s alone at known sets other =
    ap (option_map turn_in) (sets other)
    ∙ elim (same_unit m.unit other)
    as (λ b. option_map turn_in (if b then Some s else standing_at old other) ≡ (if b && not false then Some (length marks) else last_turn other marks)) [
      | true ↦ ap Some at
      | false ↦ known other
    ]
    ∙ ap (λ d. if same_unit m.unit other && not d then Some (length marks) else last_turn other marks) (sym alone)
    ∙ sym (last_push other marks m)

recorded_turns : (status : Status) (units : List UnitOfWork) (marks : List Mark) (v1_queue : List (Option UnitKey)) (unit : UnitOfWork) (seq : ℕ)
    → NoneOf unit.key marks → v1_queue ≡ turns_of status units marks
    → v1_queue ++ (if has_status status (Some Open) then Some unit.key else None) ∷ [] ≡ turns_of status (units ++ unit ∷ [])
    (marks ++ rec_of seq unit.key ∷ [])
recorded_turns status units marks v1_queue unit seq none is =
    ap (λ q. q ++ (if has_status status (Some Open) then Some unit.key else None) ∷ []) (is ∙ sym (turns_grow status units unit marks none))
    ∙ sym (turns_first status (units ++ unit ∷ []) marks (rec_of seq unit.key) refl none)

pub recorded_register : {S : Type 0} (start : ℕ) (units : List UnitOfWork) (marks : List Mark) (v1_queue v2_queue : List (Option UnitKey))
    (old new : Standings S) (unit : UnitOfWork) (seq numbers : ℕ)
    → IsRegister start units marks old v1_queue v2_queue numbers → IsSmall unit → length marks < 1048576 → 1 ≤ start → status_of units marks unit.key ≡ None
    → Sets old new unit.key (open_at (length units) (length marks))
    → IsRegister start (units ++ unit ∷ []) (marks ++ rec_of seq unit.key ∷ []) new (v1_queue ++ Some unit.key ∷ []) (v2_queue ++ None ∷ [])
    (numbers + length unit.numbers)
recorded_register start units marks v1_queue v2_queue old new unit seq numbers reg small few begun fresh sets =
    let none : NoneOf unit.key marks = none_of _ unit.key marks fresh in
    let absent : standing_at old unit.key ≡ None = no_standing (standing_at old unit.key) (reg.status unit.key ∙ fresh) in
    let no_unit : unit_at units unit.key ≡ None = sym (reg.unit unit.key) ∙ ap (option_and_then (λ (s : Standing). slice_get units s.place)) absent in
    let n = length-append marks (rec_of seq unit.key ∷ []) in
    record {
      begun = λ h. begun;
      few = omega (arith, n, few);
      status = recorded_status units marks old new unit (length marks) seq none reg.status sets;
      error = recorded_error marks old new unit.key (length units) (length marks) seq reg.error sets;
      unit = recorded_unit units old new unit (length marks) no_unit reg.unit reg.placed sets;
      placed = recorded_placed units old new unit (length marks) reg.placed sets;
      turn = turns_kept marks old new (rec_of seq unit.key) (open_at (length units) (length marks)) refl refl reg.turn sets;
      waits = recorded_turns Open units marks v1_queue unit seq none reg.waits;
      waits_again = recorded_turns Posted units marks v2_queue unit seq none reg.waits_again;
      counted = ap (λ k. k + length unit.numbers) reg.counted ∙ sym (length-append (numbers_of units marks) unit.numbers)
          ∙ ap length (sym (numbers_recorded units unit marks seq none no_unit));
      few_numbers = omega (arith, n, small.few_numbers, reg.few_numbers);
      small = All-push IsSmall units unit reg.small small;
    }

-- ---- one more mark of a recorded unit

abbrev pub mark_of : ℕ → UnitKey → MarkKind → Mark
mark_of seq key kind = record { seq = seq; unit = key; kind = kind }

abbrev pub stands_at : ℕ → ℕ → Status → Option (ℕ × Reason) → Standing
stands_at place turn status error = record { place = place; turn = turn; status = status; error = error }

-- the status that a mark of a unit gives it, by the one before it
abbrev pub Gave : UnitOfWork → MarkKind → Status → Status → Type 0
Gave unit kind before after = Some after ≡ given (is_empty_part unit.parts.v2) kind (Some before)

has_part : (units : List UnitOfWork) (key : UnitKey) (unit : UnitOfWork) → unit_at units key ≡ Some unit → is_empty_part unit.parts.v2 ≡ has_no_v2 units key
has_part units key unit there = ap (λ o. is_empty_part (option_map_or (λ (x : UnitOfWork). x.parts.v2) o [])) (sym there)

pub noted_status : {S : Type 0} (units : List UnitOfWork) (marks : List Mark) (old new : Standings S) (unit : UnitOfWork) (key : UnitKey) (kind : MarkKind)
    (place turn seq : ℕ) (before after : Status) (error : Option (ℕ × Reason)) → unit_at units key ≡ Some unit
    → ((other : UnitKey) → option_map status_in (standing_at old other) ≡ status_of units marks other) → Some before ≡ status_of units marks key
    → Gave unit kind before after → Sets old new key (stands_at place turn after error)
    → (other : UnitKey) → option_map status_in (standing_at new other) ≡ status_of units (marks ++ mark_of seq key kind ∷ []) other
noted_status units marks old new unit key kind place turn seq before after error there known was gave sets other =
    let now = λ (k : UnitKey). status_of units marks k in
    ap (option_map status_in) (sets other)
    ∙ elim (same_unit key other)
    as (λ b. same_unit key other ≡ b → option_map status_in (if b then Some (stands_at place turn after error) else standing_at old other)
    ≡ (if b then given (has_no_v2 units other) kind (now other) else now other)) [
      | true ↦ λ e. gave ∙ ap (λ b. given b kind (Some before)) (has_part units key unit there) ∙ ap (given (has_no_v2 units key) kind) was
          ∙ ap (λ k. given (has_no_v2 units k) kind (now k)) (one_unit key other e)
      | false ↦ λ e. known other
    ] refl
    ∙ sym (status_push (has_no_v2 units other) other None marks (mark_of seq key kind))

pub noted_error : {S : Type 0} (marks : List Mark) (old new : Standings S) (key : UnitKey) (kind : MarkKind) (turn seq : ℕ) (s : Standing) (after : Status)
    (error : Option (ℕ × Reason)) → standing_at old key ≡ Some s
    → ((other : UnitKey) → option_and_then error_in (standing_at old other) ≡ error_of marks other) → error ≡ told kind s.error
    → Sets old new key (stands_at s.place turn after error)
    → (other : UnitKey) → option_and_then error_in (standing_at new other) ≡ error_of (marks ++ mark_of seq key kind ∷ []) other
noted_error marks old new key kind turn seq s after error stands known gave sets other =
    let was : s.error ≡ error_of marks key = sym (ap (option_and_then error_in) stands) ∙ known key in
    ap (option_and_then error_in) (sets other)
    ∙ elim (same_unit key other)
    as (λ b. same_unit key other ≡ b → option_and_then error_in (if b then Some (stands_at s.place turn after error) else standing_at old other)
    ≡ (if b then told kind (error_of marks other) else error_of marks other)) [
      | true ↦ λ e. gave ∙ ap (told kind) was ∙ ap (λ k. told kind (error_of marks k)) (one_unit key other e)
      | false ↦ λ e. known other
    ] refl
    ∙ sym (error_push other None marks (mark_of seq key kind))

pub noted_turns : (status : Status) (units : List UnitOfWork) (marks : List Mark) (v1_queue : List (Option UnitKey)) (unit : UnitOfWork) (m : Mark)
    (before after : Status) (turn : ℕ) → unit_at units m.unit ≡ Some unit → draws_alone m.kind ≡ false
    → Gave unit m.kind before after → last_turn m.unit marks ≡ Some turn → v1_queue ≡ turns_of status units marks
    → slice_set v1_queue turn None ++ (if same_status status after then Some m.unit else None) ∷ [] ≡ turns_of status units (marks ++ m ∷ [])
noted_turns status units marks v1_queue unit m before after turn there alone gave last is =
    let turns = turns_of status units marks in
    let gives : has_status status (given (has_no_v2 units m.unit) m.kind None) ≡ same_status status after =
    ap (has_status status)
    (given_same (has_no_v2 units m.unit) m.kind (Some before) alone ∙ ap (λ b. given b m.kind (Some before)) (sym (has_part units m.unit unit there))
    ∙ sym gave) in
    ap (λ q. slice_set q turn None ++ (if same_status status after then Some m.unit else None) ∷ []) is
    ∙ ap (λ o. cleared turns o ++ (if same_status status after then Some m.unit else None) ∷ []) (sym last)
    ∙ ap (λ b. cleared turns (last_turn m.unit marks) ++ (if b then Some m.unit else None) ∷ []) (sym gives)
    ∙ sym (turns_push status units marks m alone)

-- the turn that a unit gives back
pub turn_known : {S : Type 0} (marks : List Mark) (old : Standings S) (key : UnitKey) (s : Standing)
    → ((other : UnitKey) → option_map turn_in (standing_at old other) ≡ last_turn other marks) → standing_at old key ≡ Some s
    → last_turn key marks ≡ Some s.turn
turn_known marks old key s known is = sym (known key) ∙ ap (option_map turn_in) is

pub noted_unit : {S : Type 0} (units : List UnitOfWork) (old new : Standings S) (unit : UnitOfWork) (key : UnitKey) (place turn : ℕ) (status : Status)
    (error : Option (ℕ × Reason)) → slice_get units place ≡ Some unit → unit_at units key ≡ Some unit
    → ((other : UnitKey) → option_and_then (λ (s : Standing). slice_get units s.place) (standing_at old other) ≡ unit_at units other)
    → Sets old new key (stands_at place turn status error)
    → (other : UnitKey) → option_and_then (λ (s : Standing). slice_get units s.place) (standing_at new other) ≡ unit_at units other
noted_unit units old new unit key place turn status error at there known sets other =
    ap (option_and_then (λ (s : Standing). slice_get units s.place)) (sets other)
    ∙ elim (same_unit key other)
    as (λ b. same_unit key other ≡ b → option_and_then (λ (s : Standing). slice_get units s.place)
    (if b then Some (stands_at place turn status error) else standing_at old other) ≡ unit_at units other) [
      | true ↦ λ e. at ∙ sym there ∙ ap (unit_at units) (one_unit key other e)
      | false ↦ λ e. known other
    ] refl

pub noted_placed : {S : Type 0} (units : List UnitOfWork) (old new : Standings S) (key : UnitKey) (place turn : ℕ) (status : Status)
    (error : Option (ℕ × Reason)) → place < length units
    → ((other : UnitKey) → IfSome (standing_at old other) (λ (s : Standing). s.place < length units)) → Sets old new key (stands_at place turn status error)
    → (other : UnitKey) → IfSome (standing_at new other) (λ (s : Standing). s.place < length units)
noted_placed units old new key place turn status error in_range placed sets other =
    subst (λ o. IfSome o (λ (s : Standing). s.place < length units)) (sym (sets other))
    (elim (same_unit key other)
    as (λ b. IfSome (if b then Some (stands_at place turn status error) else standing_at old other) (λ (s : Standing). s.place < length units)) [
      | true ↦ in_range
      | false ↦ placed other
    ])

-- where a unit stands it has its place
pub place_known : {S : Type 0} (units : List UnitOfWork) (old : Standings S) (key : UnitKey) (s : Standing) (d : UnitOfWork)
    → ((other : UnitKey) → option_and_then (λ (t : Standing). slice_get units t.place) (standing_at old other) ≡ unit_at units other)
    → standing_at old key ≡ Some s → slice_get units s.place ≡ Some d → unit_at units key ≡ Some d
place_known units old key s d known is at = sym (known key) ∙ ap (option_and_then (λ (t : Standing). slice_get units t.place)) is ∙ at

pub in_range : {S : Type 0} (units : List UnitOfWork) (old : Standings S) (key : UnitKey) (s : Standing)
    → ((other : UnitKey) → IfSome (standing_at old other) (λ (t : Standing). t.place < length units)) → standing_at old key ≡ Some s → s.place < length units
in_range units old key s placed is = subst (λ o. IfSome o (λ (t : Standing). t.place < length units)) is (placed key)

pub noted_register : {S : Type 0} (start : ℕ) (units : List UnitOfWork) (marks : List Mark) (v1_queue v2_queue : List (Option UnitKey)) (old new : Standings S)
    (unit : UnitOfWork) (key : UnitKey) (kind : MarkKind) (s : Standing) (seq numbers : ℕ) (after : Status) (error : Option (ℕ × Reason))
    → IsRegister start units marks old v1_queue v2_queue numbers → (kind ≡ Rec → ⊥) → length marks < 1048576 → 1 ≤ start → standing_at old key ≡ Some s
    → slice_get units s.place ≡ Some unit → draws_alone kind ≡ false
    → Gave unit kind s.status after → error ≡ told kind s.error → Sets old new key (stands_at s.place (length marks) after error)
    → IsRegister start units (marks ++ mark_of seq key kind ∷ []) new
    (slice_set v1_queue s.turn None ++ (if same_status Open after then Some key else None) ∷ [])
    (slice_set v2_queue s.turn None ++ (if same_status Posted after then Some key else None) ∷ []) numbers
noted_register start units marks v1_queue v2_queue old new unit key kind s seq numbers after error reg no_rec few begun stands at alone gave tells sets =
    let there = place_known units old key s unit reg.unit stands at in
    let n = length-append marks (mark_of seq key kind ∷ []) in
    let was : Some s.status ≡ status_of units marks key = sym (ap (option_map status_in) stands) ∙ reg.status key in
    let turn = turn_known marks old key s reg.turn stands in
    record {
      begun = λ h. begun;
      few = omega (arith, n, few);
      status = noted_status units marks old new unit key kind s.place (length marks) seq s.status after error there reg.status was gave sets;
      error = noted_error marks old new key kind (length marks) seq s after error stands reg.error tells sets;
      unit = noted_unit units old new unit key s.place (length marks) after error at there reg.unit sets;
      placed = noted_placed units old new key s.place (length marks) after error (in_range units old key s reg.placed stands) reg.placed sets;
      turn = turns_kept marks old new (mark_of seq key kind) (stands_at s.place (length marks) after error) alone refl reg.turn sets;
      waits = noted_turns Open units marks v1_queue unit (mark_of seq key kind) s.status after s.turn there alone gave turn reg.waits;
      waits_again = noted_turns Posted units marks v2_queue unit (mark_of seq key kind) s.status after s.turn there alone gave turn reg.waits_again;
      counted = reg.counted ∙ ap length (sym (numbers_same units marks (mark_of seq key kind) (draws_nothing units seq key kind alone no_rec)));
      few_numbers = omega (arith, n, reg.few_numbers);
      small = reg.small;
    }

pub within_get : {X : Type 0} (xs : List X) (i : ℕ) (x : X) → i < length xs → x ≡ get_or xs i x → slice_get xs i ≡ Some x
within_get [] i x h is = absurd (omega arith)
within_get (y ∷ ys) zero x h is = ap Some (sym is)
within_get (y ∷ ys) (suc i) x h is = within_get ys i x (omega arith) is

-- a unit that is open has a mark, so the start number was raised
pub has_marks : (units : List UnitOfWork) (marks : List Mark) (key : UnitKey) (s : Status) → status_of units marks key ≡ Some s → 1 ≤ length marks
has_marks units [] key s h = cc
has_marks units (m ∷ marks) key s h = omega arith

-- the same of what the code has at hand
pub recorded_anew : {S : Type 0} (start : ℕ) (units : List UnitOfWork) (marks : List Mark) (v1_queue v2_queue : List (Option UnitKey)) (old new : Standings S)
    (unit : UnitOfWork) (seq numbers numbers' : ℕ) (levels : Levels) (ledger : Ledger)
    (place turn : ℕ) (units' : List UnitOfWork) (marks' : List Mark) (v1_queue' v2_queue' : List (Option UnitKey))
    → (record { start = start; units = units; marks = marks; levels = levels }) ≡ ledger → IsRegister start units marks old v1_queue v2_queue numbers
    → HasMarksLeft ledger × IsNewUnit ledger unit
    → Sets old new unit.key (open_at place turn) → place ≡ length units → turn ≡ length marks → units' ≡ units ++ unit ∷ []
    → marks' ≡ marks ++ rec_of seq unit.key ∷ [] → v1_queue' ≡ v1_queue ++ Some unit.key ∷ [] → v2_queue' ≡ v2_queue ++ None ∷ []
    → numbers' ≡ numbers + length unit.numbers → IsRegister start units' marks' new v1_queue' v2_queue' numbers'
recorded_anew start units marks v1_queue v2_queue old new unit seq numbers numbers' levels ledger place turn units' marks' v1_queue' v2_queue' is reg may sets
    at turns u m q a count =
    let same_marks : ledger.marks ≡ marks = ap (λ (l : Ledger). l.marks) (sym is) in
    let same_units : ledger.units ≡ units = ap (λ (l : Ledger). l.units) (sym is) in
    let same_start : ledger.start ≡ start = ap (λ (l : Ledger). l.start) (sym is) in
    let few : length marks < 1048576 = subst (λ (ms : List Mark). length ms < 1048576) same_marks may.0 in
    let begun : 1 ≤ start = omega (arith, may.1.first, may.1.last, same_start) in
    let fresh : status_of units marks unit.key ≡ None = ap (λ us. status_of us marks unit.key) (sym same_units)
    ∙ ap (λ ms. status_of ledger.units ms unit.key) (sym same_marks) ∙ may.1.fresh in
    let set : Sets old new unit.key (open_at (length units) (length marks)) =
    subst (λ p. Sets old new unit.key (open_at (length units) p)) turns (subst (λ p. Sets old new unit.key (open_at p turn)) at sets) in
    let done = recorded_register start units marks v1_queue v2_queue old new unit seq numbers reg
    (record { few = may.1.few; few_numbers = may.1.few_numbers; few_entries = may.1.few_entries }) few begun fresh set in
    subst (IsRegister start units' marks' new v1_queue' v2_queue') (sym count)
    (subst (λ us. IsRegister start us marks' new v1_queue' v2_queue' (numbers + length unit.numbers)) (sym u)
    (subst (λ ms. IsRegister start (units ++ unit ∷ []) ms new v1_queue' v2_queue' (numbers + length unit.numbers)) (sym m)
    (subst (λ w. IsRegister start (units ++ unit ∷ []) (marks ++ rec_of seq unit.key ∷ []) new w v2_queue' (numbers + length unit.numbers)) (sym q)
    (subst (λ w. IsRegister start (units ++ unit ∷ []) (marks ++ rec_of seq unit.key ∷ []) new (v1_queue ++ Some unit.key ∷ []) w
    (numbers + length unit.numbers)) (sym a) done))))

has_marks_of : (units : List UnitOfWork) (marks : List Mark) (key : UnitKey) (o : Option Status) → status_of units marks key ≡ o → IsSome o → 1 ≤ length marks
has_marks_of units marks key None e h = cc
has_marks_of units marks key (Some s) e h = has_marks units marks key s e

follows_alone : (o : Option Status) (kind : MarkKind) → IsSome o → may_follow o kind ≡ true → draws_alone kind ≡ false
follows_alone None kind h f = cc
follows_alone (Some s) kind h f = not_alone s kind f

-- a mark that a recorded unit may get is none of numbers alone
pub may_not_draw : (ledger : Ledger) (key : UnitKey) (kind : MarkKind) → MayGet ledger key kind → draws_alone kind ≡ false
may_not_draw ledger key kind may = follows_alone (status_of ledger.units ledger.marks key) kind may.recorded may.follows

follows_no_rec : (o : Option Status) (kind : MarkKind) → IsSome o → may_follow o kind ≡ true → kind ≡ Rec → ⊥
follows_no_rec None kind h f e = cc
follows_no_rec (Some s) kind h f e = false≢true (sym (not_rec s kind f) ∙ ap is_rec e)

not_recording : (ledger : Ledger) (key : UnitKey) (kind : MarkKind) → MayGet ledger key kind → kind ≡ Rec → ⊥
not_recording ledger key kind may = follows_no_rec (status_of ledger.units ledger.marks key) kind may.recorded may.follows

pub noted_anew : {S : Type 0} (start : ℕ) (units : List UnitOfWork) (marks : List Mark) (v1_queue v2_queue : List (Option UnitKey)) (old new : Standings S)
    (unit : UnitOfWork) (key : UnitKey) (kind : MarkKind) (s : Standing) (seq numbers : ℕ) (levels : Levels) (ledger : Ledger)
    (turn : ℕ) (status : Status) (error : Option (ℕ × Reason)) (o : Option Standing) (opened posted : Bool) (marks' : List Mark)
    (v1_queue' v2_queue' : List (Option UnitKey))
    → (record { start = start; units = units; marks = marks; levels = levels }) ≡ ledger → IsRegister start units marks old v1_queue v2_queue numbers
    → HasMarksLeft ledger × MayGet ledger key kind
    → o ≡ Some s → o ≡ standing_at old key → unit ≡ get_or units s.place unit → Gave unit kind s.status status → error ≡ told kind s.error
    → opened ≡ same_status Open status → posted ≡ same_status Posted status
    → Sets old new key (stands_at s.place turn status error) → turn ≡ length marks
    → marks' ≡ marks ++ mark_of seq key kind ∷ [] → v1_queue' ≡ slice_set v1_queue s.turn None ++ (if opened then Some key else None) ∷ []
    → v2_queue' ≡ slice_set v2_queue s.turn None ++ (if posted then Some key else None) ∷ []
    → IsRegister start units marks' new v1_queue' v2_queue' numbers
noted_anew start units marks v1_queue v2_queue old new unit key kind s seq numbers levels ledger turn status error o opened posted marks' v1_queue' v2_queue' is
    reg may some found at gave tells is_open is_posted sets turns m q a =
    let same_marks : ledger.marks ≡ marks = ap (λ (l : Ledger). l.marks) (sym is) in
    let few : length marks < 1048576 = subst (λ (ms : List Mark). length ms < 1048576) same_marks may.0 in
    let n : 1 ≤ length marks = subst (λ (ms : List Mark). 1 ≤ length ms) same_marks
    (has_marks_of ledger.units ledger.marks key (status_of ledger.units ledger.marks key) refl may.1.recorded) in
    let stands : standing_at old key ≡ Some s = sym found ∙ some in
    let there : slice_get units s.place ≡ Some unit = within_get units s.place unit (in_range units old key s reg.placed stands) at in
    let set : Sets old new key (stands_at s.place (length marks) status error) = subst (λ p. Sets old new key (stands_at s.place p status error)) turns sets in
    let done = noted_register start units marks v1_queue v2_queue old new unit key kind s seq numbers status error reg (not_recording ledger key kind may.1) few
    (reg.begun n) stands there (may_not_draw ledger key kind may.1) gave tells set in
    let q' = q ∙ ap (λ b. slice_set v1_queue s.turn None ++ (if b then Some key else None) ∷ []) is_open in
    let a' = a ∙ ap (λ b. slice_set v2_queue s.turn None ++ (if b then Some key else None) ∷ []) is_posted in
    subst (λ ms. IsRegister start units ms new v1_queue' v2_queue' numbers) (sym m)
    (subst (λ w. IsRegister start units (marks ++ mark_of seq key kind ∷ []) new w v2_queue' numbers) (sym q')
    (subst (λ w. IsRegister start units (marks ++ mark_of seq key kind ∷ []) new
    (slice_set v1_queue s.turn None ++ (if same_status Open status then Some key else None) ∷ []) w numbers) (sym a') done))

-- ---- one more mark of numbers alone

same_again : {X : Type 0} (b : Bool) (x : X) → (if b then x else x) ≡ x
same_again true x = refl
same_again false x = refl

drawn_register : {S : Type 0} (start : ℕ) (units : List UnitOfWork) (marks : List Mark) (v1_queue v2_queue : List (Option UnitKey)) (standings : Standings S)
    (key : UnitKey) (drawn : List Number) (seq numbers : ℕ)
    → IsRegister start units marks standings v1_queue v2_queue numbers → length drawn ≤ 64 → length marks < 1048576 → 1 ≤ start
    → IsRegister start units (marks ++ mark_of seq key (Num drawn) ∷ []) standings (v1_queue ++ None ∷ []) (v2_queue ++ None ∷ []) (numbers + length drawn)
drawn_register start units marks v1_queue v2_queue standings key drawn seq numbers reg few_drawn few begun =
    let m = mark_of seq key (Num drawn) in
    let n = length-append marks (m ∷ []) in
    record {
      begun = λ h. begun;
      few = omega (arith, n, few);
      status = λ other. reg.status other
          ∙ sym (status_push (has_no_v2 units other) other None marks m ∙ same_again (same_unit key other) (status_of units marks other));
      error = λ other. reg.error other ∙ sym (error_push other None marks m ∙ same_again (same_unit key other) (error_of marks other));
      unit = reg.unit;
      placed = reg.placed;
      turn = λ other. reg.turn other ∙ sym (last_drawn other marks m refl);
      waits = ap (λ q. q ++ None ∷ []) reg.waits ∙ sym (turns_drawn Open units marks m refl);
      waits_again = ap (λ q. q ++ None ∷ []) reg.waits_again ∙ sym (turns_drawn Posted units marks m refl);
      counted = ap (λ k. k + length drawn) reg.counted ∙ sym (length-append (numbers_of units marks) drawn) ∙ ap length (sym (numbers_push units marks m));
      few_numbers = omega (arith, n, few_drawn, reg.few_numbers);
      small = reg.small;
    }

pub drawn_anew : {S : Type 0} (start : ℕ) (units : List UnitOfWork) (marks marks' : List Mark) (v1_queue v2_queue : List (Option UnitKey))
    (standings : Standings S) (key : UnitKey) (drawn : List Number) (seq numbers numbers' : ℕ) (levels : Levels) (ledger : Ledger)
    (v1_queue' v2_queue' : List (Option UnitKey))
    → (record { start = start; units = units; marks = marks; levels = levels }) ≡ ledger → IsRegister start units marks standings v1_queue v2_queue numbers
    → HasMarksLeft ledger × IsDrawing ledger key drawn
    → marks' ≡ marks ++ mark_of seq key (Num drawn) ∷ [] → v1_queue' ≡ v1_queue ++ None ∷ [] → v2_queue' ≡ v2_queue ++ None ∷ []
    → numbers' ≡ numbers + length drawn
    → IsRegister start units marks' standings v1_queue' v2_queue' numbers'
drawn_anew start units marks marks' v1_queue v2_queue standings key drawn seq numbers numbers' levels ledger v1_queue' v2_queue' is reg may m q a count =
    let same_start : ledger.start ≡ start = ap (λ (l : Ledger). l.start) (sym is) in
    let few : length marks < 1048576 = subst (λ (ms : List Mark). length ms < 1048576) (ap (λ (l : Ledger). l.marks) (sym is)) may.0 in
    let begun : 1 ≤ start = omega (arith, may.1.first, may.1.last, same_start) in
    let done = drawn_register start units marks v1_queue v2_queue standings key drawn seq numbers reg may.1.few few begun in
    subst (IsRegister start units marks' standings v1_queue' v2_queue') (sym count)
    (subst (λ ms. IsRegister start units ms standings v1_queue' v2_queue' (numbers + length drawn)) (sym m)
    (subst (λ w. IsRegister start units (marks ++ mark_of seq key (Num drawn) ∷ []) standings w v2_queue' (numbers + length drawn)) (sym q)
    (subst (λ w. IsRegister start units (marks ++ mark_of seq key (Num drawn) ∷ []) standings (v1_queue ++ None ∷ []) w (numbers + length drawn))
    (sym a) done)))

-- a turn more can be counted where a mark more may come
pub turn_left : {S : Type 0} (start : ℕ) (units : List UnitOfWork) (marks : List Mark) (v1_queue v2_queue : List (Option UnitKey)) (standings : Standings S)
    (numbers : ℕ) (levels : Levels) (ledger : Ledger)
    → (record { start = start; units = units; marks = marks; levels = levels }) ≡ ledger → IsRegister start units marks standings v1_queue v2_queue numbers
    → HasMarksLeft ledger
    → (length v1_queue < 1048576) × (length v2_queue < 1048576)
turn_left start units marks v1_queue v2_queue standings numbers levels ledger is reg left =
    let few : length marks < 1048576 = subst (λ (ms : List Mark). length ms < 1048576) (ap (λ (l : Ledger). l.marks) (sym is)) left in
    let first = ap length reg.waits ∙ one_each Open units marks in
    let second = ap length reg.waits_again ∙ one_each Posted units marks in
    (omega (arith, few, first), omega (arith, few, second))
