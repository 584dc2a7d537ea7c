-- How far a loop over effects has come.
use Rattle.std.proofs.Common.{◌≡◌, ℕ, ◌+◌, ◌<◌, ◌≤◌, ◌^◌, suc, zero, Bool, true, false, not, cond, nat_lt, ◌||◌, List, [], ◌∷◌, map, length, get_or, set, drop, Option, Some, None, Result, Ok, Err, refl, sym, ap, ◌∙◌, subst, arith}
use Rattle.std.specs.List.{list_any, position, position_or_len}
use Rattle.std.specs.FinMap.{get}
use Rattle.std.proofs.lemmas.List.{at_drop_more, at_drop_all, map-set, set-get_or}
use Rattle.std.proofs.lemmas.List.Quantifiers.{position-Some}
use Rattle.std.proofs.lemmas.Bool.{false≢true}
use Rattle.std.proofs.lemmas.Bool.Decides.{nat_tests}
use Rattle.std.proofs.lemmas.Option.{none-some}
use Rattle.enq_base.specs.declared.unit.Reason.{Reason}
use Rattle.enq_base.specs.declared.unit.Effect.{Effect}
use Rattle.module_effects.specs.Effects.{applied, applied_from, row_after, IsFaultOf, IsRowAfter, fault_at}
use Rattle.module_effects.specs.Rows.{RowName, Tables, with_row, row_of}
use Rattle.module_effects.specs.Spots.{row_at, is_at, with_spots, Agree, IsDone, IsRefused, IsDoneOver, IsRefusedOver}
use Rattle.module_effects.specs.declared.spot.Spot.{Spot}
use Rattle.module_effects.specs.declared.fault.EffectFault.{EffectFault}
use Rattle.module_effects.specs.declared.fault.EffectFault.TheVariants.{Refused}
use Rattle.module_effects.specs.declared.fault.EffectFault.TheVariants as fault
use Rattle.module_effects.specs.declared.fault.DeedFault.{DeedFault}
use Rattle.module_effects.specs.declared.fault.DeedFault.TheVariants as deed
use Rattle.module_effects.proofs.lemmas.Tables.{is_at-Decides, get-with_spot, with_row-with_row, with_row_swap, with_row_same}

abbrev pub Text : Type 0
Text = Option (List ℕ)

abbrev pub with_text : Spot → Text → Spot
with_text spot text = record spot { text = text }

-- the first spot of the row stands at i
pub record IsFirstAt (row : RowName) (spots : List Spot) (i : ℕ) (spot : Spot) : Type 0 where
  pub within : i < length spots
  pub here : is_at row (get_or spots i spot) ≡ true
  pub before : (k : ℕ) → k < i → is_at row (get_or spots k spot) ≡ false

-- what the row has is what its first spot has
pub get-with_spots : (row : RowName) (spots : List Spot) (i : ℕ) (d : Spot) (tables : Tables) → IsFirstAt row spots i d
    → get (with_spots spots tables) row ≡ (get_or spots i d).text
get-with_spots row [] i d tables first = absurd (omega (arith, first.within))
get-with_spots row (spot ∷ spots) zero d tables first =
    get-with_spot (with_spots spots tables) spot row ∙ ap (λ b. cond b spot.text (get (with_spots spots tables) row)) first.here
get-with_spots row (spot ∷ spots) (suc i) d tables first =
    get-with_spot (with_spots spots tables) spot row
    ∙ ap (λ b. cond b spot.text (get (with_spots spots tables) row)) (first.before 0 (omega arith))
    ∙ get-with_spots row spots i d tables
    (record { within = omega (arith, first.within); here = first.here; before = λ k h. first.before (suc k) (omega arith) })

-- a new text of the row is one in its first spot
pub with_spots-set : (row : RowName) (spots : List Spot) (i : ℕ) (d : Spot) (text : Text) (tables : Tables) → IsFirstAt row spots i d
    → with_row (with_spots spots tables) row text ≡ with_spots (set spots i (with_text (get_or spots i d) text)) tables
with_spots-set row [] i d text tables first = absurd (omega (arith, first.within))
with_spots-set row (spot ∷ spots) zero d text tables first =
    let same : row ≡ row_at spot = (is_at-Decides row spot).0 first.here in
    ap (λ r. with_row (with_row (with_spots spots tables) (row_at spot) spot.text) r text) same
    ∙ with_row-with_row (with_spots spots tables) (row_at spot) spot.text text
with_spots-set row (spot ∷ spots) (suc i) d text tables first =
    with_row_swap (with_spots spots tables) (row_at spot) row spot.text text
    (λ e. false≢true (sym (first.before 0 (omega arith)) ∙ (is_at-Decides row spot).1 (sym e)))
    ∙ ap (λ (t : Tables). with_row t (row_at spot) spot.text)
    (with_spots-set row spots i d text tables
    (record { within = omega (arith, first.within); here = first.here; before = λ k h. first.before (suc k) (omega arith) }))

pub with_spots_same : (spots : List Spot) (tables : Tables) → Agree spots tables → with_spots spots tables ≡ tables
with_spots_same [] tables agree = refl
with_spots_same (spot ∷ spots) tables agree =
    ap (λ (t : Tables). with_row t (row_at spot) spot.text) (with_spots_same spots tables (λ k d h. agree (suc k) d (omega arith)))
    ∙ with_row_same tables (row_at spot) spot.text (agree 0 spot (omega arith))

-- whether a row has a spot is a matter of the spots' rows
pub any_at : RowName → List RowName → Bool
any_at row [] = false
any_at row (r ∷ rows) = is_at row (record { table = r.0; key = r.1; text = None }) || any_at row rows

any_at-map : (row : RowName) (spots : List Spot) → any_at row (map row_at spots) ≡ list_any (is_at row) spots
unfolding any_at
any_at-map row [] = refl
any_at-map row (spot ∷ spots) = ap (λ b. is_at row spot || b) (any_at-map row spots)

pub any_at_same : (row : RowName) (spots others : List Spot) → map row_at spots ≡ map row_at others → list_any (is_at row) spots ≡ list_any (is_at row) others
any_at_same row spots others e = sym (any_at-map row spots) ∙ ap (any_at row) e ∙ any_at-map row others

-- the effects from the i-th on do to the spots as they are now what all of them do to the spots at first
pub record Progress (spots : List Spot) (effects : List Effect) (now : List Spot) (i : ℕ) : Type 0 where
  pub rows : map row_at now ≡ map row_at spots
  pub rest : (tables : Tables) → applied_from (i + 1) (drop i effects) (with_spots now tables) ≡ applied effects (with_spots spots tables)

pub progress_none : (spots : List Spot) (effects : List Effect) → Progress spots effects spots 0
progress_none spots effects = record { rows = refl; rest = λ tables. refl }

-- what the effects from one on do, by what that one makes of its row
abbrev pub after_one : ℕ → List Effect → Tables → RowName → Result Text Reason → Result Tables EffectFault
after_one n effects tables row r = elim r [ Ok text ↦ applied_from (n + 1) effects (with_row tables row text) | Err reason ↦ Err (Refused n reason) ]

apply_next : (effects : List Effect) (i n : ℕ) (effect : Effect) (tables : Tables) → i < length effects → effect ≡ get_or effects i effect
    → applied_from n (drop i effects) tables ≡ after_one n (drop (i + 1) effects) tables (row_of effect) (row_after (get tables (row_of effect)) effect.deed)
apply_next effects i n effect tables h is =
    at_drop_more (λ es. applied_from n es tables) effects i effect h
    ∙ ap (λ (e : Effect). after_one n (drop (i + 1) effects) tables (row_of e) (row_after (get tables (row_of e)) e.deed)) (sym is)

same_rows : (now : List Spot) (place : ℕ) (spot : Spot) (text : Text) → spot ≡ get_or now place spot
    → map row_at (set now place (with_text spot text)) ≡ map row_at now
same_rows now place spot text here =
    map-set row_at now place (with_text spot text)
    ∙ sym (map-set row_at now place spot)
    ∙ ap (λ (s : Spot). map row_at (set now place s)) here
    ∙ ap (map row_at) (set-get_or now place spot)

pub progress_more : (spots : List Spot) (effects : List Effect) (now : List Spot) (i : ℕ) (effect : Effect) (place : ℕ) (spot : Spot) (text : Text)
    → i < length effects → effect ≡ get_or effects i effect → IsFirstAt (row_of effect) now place spot → spot ≡ get_or now place spot
    → row_after spot.text effect.deed ≡ Ok text → Progress spots effects now i → Progress spots effects (set now place (with_text spot text)) (i + 1)
progress_more spots effects now i effect place spot text h is first here done so =
    record {
      rows = same_rows now place spot text here ∙ so.rows;
      rest = λ tables.
          ap (λ (s : Spot). applied_from (i + 1 + 1) (drop (i + 1) effects) (with_spots (set now place (with_text s text)) tables)) here
          ∙ ap (applied_from (i + 1 + 1) (drop (i + 1) effects)) (sym (with_spots-set (row_of effect) now place spot text tables first))
          ∙ ap (after_one (i + 1) (drop (i + 1) effects) (with_spots now tables) (row_of effect))
          (sym (ap (λ (t : Text). row_after t effect.deed)
          (get-with_spots (row_of effect) now place spot tables first ∙ ap (λ (s : Spot). s.text) (sym here)) ∙ done))
          ∙ sym (apply_next effects i (i + 1) effect (with_spots now tables) h is)
          ∙ so.rest tables;
    }

refused_there : (spots : List Spot) (effects : List Effect) (now : List Spot) (i : ℕ) (effect : Effect) (place : ℕ) (spot : Spot) (reason : Reason)
    → i < length effects → effect ≡ get_or effects i effect → IsFirstAt (row_of effect) now place spot → spot ≡ get_or now place spot
    → row_after spot.text effect.deed ≡ Err reason → Progress spots effects now i → (tables : Tables)
    → applied effects (with_spots spots tables) ≡ Err (Refused (i + 1) reason)
refused_there spots effects now i effect place spot reason h is first here refused so tables =
    sym (so.rest tables)
    ∙ apply_next effects i (i + 1) effect (with_spots now tables) h is
    ∙ ap (after_one (i + 1) (drop (i + 1) effects) (with_spots now tables) (row_of effect))
    (ap (λ (t : Text). row_after t effect.deed) (get-with_spots (row_of effect) now place spot tables first ∙ ap (λ (s : Spot). s.text) (sym here))
    ∙ refused)

-- a number past 2^32 - 1 is told as want of memory
fault_told : (b : Bool) (answer : Result Tables EffectFault) (index : ℕ) (reason : Reason) → answer ≡ Err (Refused index reason)
    → IsFaultOf answer (cond b (Refused index reason) fault.NoMemory)
fault_told true answer index reason e = e
fault_told false answer index reason e = tt

pub progress_refused : (spots : List Spot) (effects : List Effect) (now : List Spot) (i : ℕ) (effect : Effect) (place : ℕ) (spot : Spot) (fault : DeedFault)
    → i < length effects → effect ≡ get_or effects i effect → IsFirstAt (row_of effect) now place spot → spot ≡ get_or now place spot
    → IsRowAfter (row_after spot.text effect.deed) (Err fault) → Progress spots effects now i → IsRefusedOver spots effects (fault_at (i + 1) fault)
progress_refused spots effects now i effect place spot (deed.Refused reason) h is first here refused so tables =
    fault_told (nat_lt (i + 1) (2 ^ 32)) (applied effects (with_spots spots tables)) (i + 1) reason
    (refused_there spots effects now i effect place spot reason h is first here refused so tables)
progress_refused spots effects now i effect place spot deed.NoMemory h is first here refused so tables = tt

pub progress_all : (spots : List Spot) (effects : List Effect) (now : List Spot) (i : ℕ) → length effects ≤ i → Progress spots effects now i
    → IsDoneOver spots effects now
progress_all spots effects now i h so tables =
    sym (so.rest tables) ∙ at_drop_all (λ es. applied_from (i + 1) es (with_spots now tables)) effects i h

-- tables that agree with the spots are themselves with the spots laid over them
pub done_from_over : (spots : List Spot) (effects : List Effect) (after : List Spot) → IsDoneOver spots effects after → IsDone spots effects after
done_from_over spots effects after over tables agree = ap (applied effects) (sym (with_spots_same spots tables agree)) ∙ over tables

pub refused_from_over : (spots : List Spot) (effects : List Effect) (fault : EffectFault) → IsRefusedOver spots effects fault → IsRefused spots effects fault
refused_from_over spots effects fault over tables agree = subst (λ t. IsFaultOf (applied effects t) fault) (with_spots_same spots tables agree) (over tables)

pub first_from_position : (row : RowName) (spots : List Spot) (i : ℕ) (d : Spot) → position (is_at row) spots ≡ Some i → IsFirstAt row spots i d
first_from_position row spots i d e =
    let p = position-Some (is_at row) spots i d e in
    record { within = p.0; here = p.1; before = p.2 }

one_further : (m n : ℕ) → nat_lt (1 + m) (suc n) ≡ nat_lt m n
one_further m n = grind (arith, nat_tests)

above_zero : (n : ℕ) → true ≡ nat_lt 0 (suc n)
above_zero n = grind (arith, nat_tests)

any_by_position : (p : Spot → Bool) (spots : List Spot) → list_any p spots ≡ nat_lt (position_or_len p spots) (length spots)
any_by_position p [] = refl
any_by_position p (spot ∷ spots) =
    elim (p spot) as (λ b. (b || list_any p spots) ≡ nat_lt (cond (not b) (1 + position_or_len p spots) 0) (suc (length spots))) [
      | true ↦ above_zero (length spots)
      | false ↦ any_by_position p spots ∙ sym (one_further (position_or_len p spots) (length spots))
    ]

-- a row that has a spot has a first one
pub position_there : (p : Spot → Bool) (spots : List Spot) → list_any p spots ≡ true → position p spots ≡ None → ⊥
position_there p spots any none =
    none-some _ (sym none ∙ ap (λ b. cond b (Some (position_or_len p spots)) None) (sym (any_by_position p spots) ∙ any))
