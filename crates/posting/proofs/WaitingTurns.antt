-- What one mark or one unit more makes of the turns in which units wait.
use Rattle.std.proofs.Common.{◌≡◌, ℕ, suc, Bool, true, false, not, ◌&&◌, ◌||◌, List, [], ◌∷◌, ◌++◌, length, if◌then◌else◌, Option, Some, None, is_some, slice_set, refl, sym, ap, ◌∙◌, subst}
use Rattle.std.specs.List.{list_any}
use Rattle.std.specs.Option.{option_map, option_or}
use Rattle.enq_base.specs.Owners.{same_unit}
use Rattle.enq_base.specs.declared.owner.UnitKey.{UnitKey}
use Rattle.enq_base.specs.declared.unit.Status.{Status}
use Rattle.turn_list.specs.Turns.{waiting_in}
use Rattle.update_records.specs.declared.records.Mark.{Mark}
use Rattle.update_records.specs.declared.records.MarkKind.{MarkKind}
use Rattle.update_records.specs.declared.records.MarkKind.TheVariants.{Num, Rec, V1, Bad1, Again1, V2, Bad2, Again2, Gone}
use Rattle.update_records.specs.declared.records.Unit.{Unit as UnitOfWork}
use Rattle.update_records.specs.Marks.{has_no_v2, given, draws_alone, decides, has_status, units_with}
use Rattle.record_laws.proofs.Status.{NoneOf, flip, one_unit, unit_refl, v2_other}
use Rattle.posting.specs.Turns.{last_turn, turns_of}

-- whether a mark gives its unit this status
abbrev pub gives : Status → List UnitOfWork → Mark → Bool
gives status units m = has_status status (given (has_no_v2 units m.unit) m.kind None)

-- the turns that are left where a unit gives back its own
abbrev pub cleared : List (Option UnitKey) → Option ℕ → List (Option UnitKey)
cleared turns None = turns
cleared turns (Some turn) = slice_set turns turn None

-- the last turn
abbrev pub newest : Status → List UnitOfWork → Mark → Option UnitKey
newest status units m = if gives status units m then Some m.unit else None

alone_gives : (status : Status) (b : Bool) (kind : MarkKind) → draws_alone kind ≡ true → has_status status (given b kind None) ≡ false
alone_gives status b (Num numbers) h = refl
alone_gives status b Rec h = cc
alone_gives status b V1 h = cc
alone_gives status b (Bad1 i r) h = cc
alone_gives status b Again1 h = cc
alone_gives status b V2 h = cc
alone_gives status b (Bad2 i r) h = cc
alone_gives status b Again2 h = cc
alone_gives status b Gone h = cc

pub turns_waiting : (status : Status) (units : List UnitOfWork) (marks : List Mark) → waiting_in (turns_of status units marks) ≡ units_with status units marks
turns_waiting status units [] = refl
turns_waiting status units (m ∷ marks) =
    elim (gives status units m && not (list_any (decides m.unit) marks))
    as (λ b. waiting_in ((if b then Some m.unit else None) ∷ turns_of status units marks)
    ≡ (if b then m.unit ∷ units_with status units marks else units_with status units marks)) [
      | true ↦ ap (λ r. m.unit ∷ r) (turns_waiting status units marks)
      | false ↦ turns_waiting status units marks
    ]

-- each mark has one turn
pub one_each : (status : Status) (units : List UnitOfWork) (marks : List Mark) → length (turns_of status units marks) ≡ length marks
one_each status units [] = refl
one_each status units (m ∷ marks) = ap suc (one_each status units marks)

-- the last turn of a unit, with one mark more
pub last_push : (key : UnitKey) (marks : List Mark) (m : Mark) → last_turn key
    (marks ++ m ∷ []) ≡ (if decides key m then Some (length marks) else last_turn key marks)
last_push key [] m = refl
last_push key (x ∷ marks) m =
    let first : Option ℕ = if decides key x then Some 0 else None in
    ap (λ o. option_or (option_map suc o) first) (last_push key marks m)
    ∙ elim (decides key m)
    as (λ b. option_or (option_map suc (if b then Some (length marks) else last_turn key marks))
    first ≡ (if b then Some (suc (length marks)) else option_or (option_map suc (last_turn key marks)) first)) [
      | true ↦ refl
      | false ↦ refl
    ]

some_first : (b : Bool) (o : Option ℕ) → (b || is_some o) ≡ is_some (option_or (option_map suc o) (if b then Some 0 else None))
some_first true None = refl
some_first true (Some i) = refl
some_first false None = refl
some_first false (Some i) = refl

any_last : (key : UnitKey) (marks : List Mark) → list_any (decides key) marks ≡ is_some (last_turn key marks)
any_last key [] = refl
any_last key (m ∷ marks) = ap (λ b. decides key m || b) (any_last key marks) ∙ some_first (decides key m) (last_turn key marks)

-- a unit of which no mark decides has no turn
pub no_turn : (key : UnitKey) (marks : List Mark) → NoneOf key marks → last_turn key marks ≡ None
no_turn key [] none = refl
no_turn key (m ∷ marks) none =
    ap (λ o. option_or (option_map suc o) (if decides key m then Some 0 else None)) (no_turn key marks none.1)
    ∙ ap (λ b. if b then Some 0 else None) none.0

or_false : (b : Bool) → (b || false) ≡ b
or_false true = refl
or_false false = refl

or_assoc : (a b c : Bool) → (a || (b || c)) ≡ ((a || b) || c)
or_assoc true b c = refl
or_assoc false b c = refl

any_push : (key : UnitKey) (marks : List Mark) (m : Mark) → list_any (decides key) (marks ++ m ∷ []) ≡ (list_any (decides key) marks || decides key m)
any_push key [] m = or_false (decides key m)
any_push key (x ∷ marks) m = ap (λ b. decides key x || b) (any_push key marks m) ∙ or_assoc (decides key x) (list_any (decides key) marks) (decides key m)

either_way : (u v : UnitKey) → same_unit u v ≡ same_unit v u
either_way u v = elim (same_unit v u) as (λ b. same_unit v u ≡ b → same_unit u v ≡ b) [
  | true ↦ λ e. subst (λ w. same_unit w v ≡ true) (one_unit v u e) (unit_refl v)
  | false ↦ λ e. flip u v e
] refl

-- the first turn and the others, where a mark of the same unit or of another comes last
first_cleared : (a later same alone : Bool) (last : Option ℕ) (key : UnitKey) (turns new : List (Option UnitKey)) → (same ≡ true → later ≡ is_some last)
    → (alone ≡ true → a ≡ false)
    → ((if a && not (later || same) then Some key else None) ∷ (cleared turns last ++ new))
    ≡ cleared ((if a && not later then Some key else None) ∷ turns) (option_or (option_map suc last) (if same && not alone then Some 0 else None)) ++ new
first_cleared false later same alone (Some i) key turns new one none = refl
first_cleared false later true true None key turns new one none = refl
first_cleared false later true false None key turns new one none = refl
first_cleared false later false alone None key turns new one none = refl
first_cleared true true same alone (Some i) key turns new one none = refl
first_cleared true true true alone None key turns new one none = let e = one refl in cc
first_cleared true true false alone None key turns new one none = refl
first_cleared true false true alone (Some i) key turns new one none = let e = one refl in cc
first_cleared true false false alone (Some i) key turns new one none = refl
first_cleared true false true true None key turns new one none = let e = none refl in cc
first_cleared true false true false None key turns new one none = refl
first_cleared true false false alone None key turns new one none = refl

and_true : (b : Bool) → (b && true) ≡ b
and_true true = refl
and_true false = refl

-- a mark that decides of its unit takes from it the turn that it had
pub turns_push : (status : Status) (units : List UnitOfWork) (marks : List Mark) (m : Mark) → draws_alone m.kind ≡ false
    → turns_of status units (marks ++ m ∷ []) ≡ cleared (turns_of status units marks) (last_turn m.unit marks) ++ newest status units m ∷ []
turns_push status units [] m h = ap (λ b. (if b then Some m.unit else None) ∷ []) (and_true (gives status units m))
turns_push status units (x ∷ marks) m h =
    let a = gives status units x in
    let later = list_any (decides x.unit) marks in
    let last = last_turn m.unit marks in
    let same = same_unit m.unit x.unit in
    let turns = turns_of status units marks in
    let new = newest status units m ∷ [] in
    let here : decides x.unit m ≡ same = ap (λ d. same && not d) h ∙ and_true same in
    let one : same ≡ true → later ≡ is_some last = λ e. ap (λ k. list_any (decides k) marks) (sym (one_unit m.unit x.unit e)) ∙ any_last m.unit marks in
    ap (λ b. (if a && not b then Some x.unit else None) ∷ turns_of status units (marks ++ m ∷ [])) (any_push x.unit marks m)
    ∙ ap (λ b. (if a && not (later || b) then Some x.unit else None) ∷ turns_of status units (marks ++ m ∷ [])) here
    ∙ ap (λ ts. (if a && not (later || same) then Some x.unit else None) ∷ ts) (turns_push status units marks m h)
    ∙ first_cleared a later same (draws_alone x.kind) last x.unit turns new one (alone_gives status (has_no_v2 units x.unit) x.kind)
    ∙ ap (λ b. cleared ((if a && not later then Some x.unit else None) ∷ turns)
    (option_or (option_map suc last) (if b && not (draws_alone x.kind) then Some 0 else None)) ++ new) (either_way m.unit x.unit)

-- the first mark that decides of its unit takes no other turn away
pub turns_first : (status : Status) (units : List UnitOfWork) (marks : List Mark) (m : Mark) → draws_alone m.kind ≡ false → NoneOf m.unit marks
    → turns_of status units (marks ++ m ∷ []) ≡ turns_of status units marks ++ newest status units m ∷ []
turns_first status units marks m h none =
    turns_push status units marks m h ∙ ap (λ o. cleared (turns_of status units marks) o ++ newest status units m ∷ []) (no_turn m.unit marks none)

never_decides : (b d : Bool) → d ≡ true → (b && not d) ≡ false
never_decides true d h = ap not h
never_decides false d h = refl

-- numbers alone leave each turn as it was
pub turns_drawn : (status : Status) (units : List UnitOfWork) (marks : List Mark) (m : Mark) → draws_alone m.kind ≡ true
    → turns_of status units (marks ++ m ∷ []) ≡ turns_of status units marks ++ None ∷ []
turns_drawn status units [] m h = ap (λ b. (if b && true then Some m.unit else None) ∷ []) (alone_gives status (has_no_v2 units m.unit) m.kind h)
turns_drawn status units (x ∷ marks) m h =
    let later = list_any (decides x.unit) marks in
    ap (λ b. (if gives status units x && not b then Some x.unit else None) ∷ turns_of status units (marks ++ m ∷ []))
    (any_push x.unit marks m ∙ ap (λ b. later || b) (never_decides (same_unit m.unit x.unit) (draws_alone m.kind) h) ∙ or_false later)
    ∙ ap (λ ts. (if gives status units x && not later then Some x.unit else None) ∷ ts) (turns_drawn status units marks m h)

-- and each unit its last turn
pub last_drawn : (key : UnitKey) (marks : List Mark) (m : Mark) → draws_alone m.kind ≡ true → last_turn key (marks ++ m ∷ []) ≡ last_turn key marks
last_drawn key marks m h = last_push key marks m ∙ ap (λ b. if b then Some (length marks) else last_turn key marks)
    (never_decides (same_unit m.unit key) (draws_alone m.kind) h)

alone_of : (b : Bool) → not b ≡ false → b ≡ true
alone_of true h = refl
alone_of false h = cc

gives_grows : (status : Status) (units : List UnitOfWork) (u : UnitOfWork) (m : Mark) → decides u.key m ≡ false
    → gives status (units ++ u ∷ []) m ≡ gives status units m
gives_grows status units u m none =
    elim (same_unit m.unit u.key) as (λ b. same_unit m.unit u.key ≡ b → gives status (units ++ u ∷ []) m ≡ gives status units m) [
      | true ↦ λ is.
          let alone : draws_alone m.kind ≡ true = alone_of (draws_alone m.kind) (sym (ap (λ t. t && not (draws_alone m.kind)) is) ∙ none) in
          alone_gives status _ m.kind alone ∙ sym (alone_gives status _ m.kind alone)
      | false ↦ λ is. ap (λ b. has_status status (given b m.kind None)) (v2_other units u m.unit (flip u.key m.unit is))
    ] refl

-- a unit of which no mark decides changes no turn
pub turns_grow : (status : Status) (units : List UnitOfWork) (u : UnitOfWork) (marks : List Mark) → NoneOf u.key marks
    → turns_of status (units ++ u ∷ []) marks ≡ turns_of status units marks
turns_grow status units u [] none = refl
turns_grow status units u (m ∷ marks) none =
    ap (λ b. (if b && not (list_any (decides m.unit) marks) then Some m.unit else None) ∷ turns_of status (units ++ u ∷ []) marks)
    (gives_grows status units u m none.0)
    ∙ ap (λ ts. (if gives status units m && not (list_any (decides m.unit) marks) then Some m.unit else None) ∷ ts) (turns_grow status units u marks none.1)
