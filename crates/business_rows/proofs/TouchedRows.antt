-- Rows that effects touch, one after the other.
use Rattle.std.proofs.Common.{◌≡◌, ℕ, ◌+◌, ◌<◌, ◌≤◌, Bool, true, false, ◌||◌, ◌&&◌, List, [], ◌∷◌, ◌++◌, map, length, take, get_or, Option, IsTrue, refl, sym, ap, subst, ◌∙◌}
use Rattle.std.specs.FinMap.{get}
use Rattle.std.specs.List.{AllByRecursion, list_any, IsDistinct}
use Rattle.std.proofs.lemmas.Bool.{false≢true}
use Rattle.std.proofs.lemmas.List.{take_all, take_more}
use Rattle.std.proofs.lemmas.List.Elements.{All-push, All-nil}
use Rattle.std.proofs.lemmas.List.Folds.{list_any-append, list_all_more}
use Rattle.std.proofs.lemmas.Map.Keys.{IsDistinct-cons, IsDistinct-head, IsDistinct-tail}
use Rattle.enq_base.specs.declared.unit.Effect.{Effect}
use Rattle.module_effects.proofs.lemmas.Tables.{is_at-Decides, same_row, same_row-Decides}
use Rattle.module_effects.specs.Rows.{RowName, Tables, row_of}
use Rattle.module_effects.specs.Spots.{Agree, covers, is_at, row_at}
use Rattle.module_effects.specs.declared.spot.Spot.{Spot}
use Rattle.business_rows.specs.Touched.{HasRowsOnce}

and_first : (a b : Bool) → (a && b) ≡ true → a ≡ true
and_first true b h = refl
and_first false b h = cc

and_second : (a b : Bool) → (a && b) ≡ true → b ≡ true
and_second true b h = h
and_second false b h = cc

and_both : (a b : Bool) → a ≡ true → b ≡ true → (a && b) ≡ true
and_both true b h k = k
and_both false b h k = cc

or_true : (a b : Bool) → a ≡ true → (a || b) ≡ true
or_true true b h = refl
or_true false b h = cc

true_or : (a b : Bool) → b ≡ true → (a || b) ≡ true
true_or true b h = refl
true_or false b h = h

abbrev pub spot_of : Effect → Option (List ℕ) → Spot
spot_of effect text = record { table = effect.table; key = effect.key; text = text }

-- ---- one spot more

pub any_last : (spots : List Spot) (effect : Effect) (text : Option (List ℕ))
    → list_any (is_at (row_of effect)) (spots ++ spot_of effect text ∷ []) ≡ true
any_last spots effect text =
    let spot = spot_of effect text in
    list_any-append (is_at (row_of effect)) spots (spot ∷ [])
    ∙ true_or (list_any (is_at (row_of effect)) spots) (list_any (is_at (row_of effect)) (spot ∷ []))
    (or_true (is_at (row_of effect) spot) false ((is_at-Decides (row_of effect) spot).1 refl))

pub any_kept : (spots : List Spot) (spot : Spot) (row : RowName) → list_any (is_at row) spots ≡ true → list_any (is_at row) (spots ++ spot ∷ []) ≡ true
any_kept spots spot row h =
    list_any-append (is_at row) spots (spot ∷ []) ∙ or_true (list_any (is_at row) spots) (list_any (is_at row) (spot ∷ [])) h

or_none : (a b : Bool) → (a || b) ≡ false → (a ≡ false) × (b ≡ false)
or_none true b h = (cc, cc)
or_none false b h = (refl, h)

is_no_row : (row : RowName) (spot : Spot) → is_at row spot ≡ false → same_row (row_at spot) row ≡ false
is_no_row row spot h =
    elim (same_row (row_at spot) row) as (λ b. same_row (row_at spot) row ≡ b → b ≡ false) [
      | true ↦ λ e. absurd (false≢true (sym h ∙ (is_at-Decides row spot).1 (sym ((same_row-Decides (row_at spot) row).0 e))))
      | false ↦ λ e. refl
    ] refl

apart_more : (row : RowName) (names : List RowName) (new : RowName) → AllByRecursion (λ n. same_row row n ≡ false) names → same_row row new ≡ false
    → AllByRecursion (λ n. same_row row n ≡ false) (names ++ new ∷ [])
apart_more row [] new all h = (h, tt)
apart_more row (n ∷ names) new all h = (all.0, apart_more row names new all.1 h)

map_more : (spots : List Spot) (spot : Spot) → map row_at (spots ++ spot ∷ []) ≡ map row_at spots ++ row_at spot ∷ []
map_more [] spot = refl
map_more (s ∷ spots) spot = ap (λ r. row_at s ∷ r) (map_more spots spot)

pub once_more : (spots : List Spot) (spot : Spot) → list_any (is_at (row_at spot)) spots ≡ false → HasRowsOnce spots
    → HasRowsOnce (spots ++ spot ∷ [])
once_more [] spot none h = IsDistinct-cons same_row (row_at spot) [] tt h
once_more (s ∷ spots) spot none h =
    let p = or_none (is_at (row_at spot) s) (list_any (is_at (row_at spot)) spots) none in
    IsDistinct-cons same_row (row_at s) (map row_at (spots ++ spot ∷ []))
    (subst (λ ns. AllByRecursion (λ n. same_row (row_at s) n ≡ false) ns) (sym (map_more spots spot))
    (apart_more (row_at s) (map row_at spots) (row_at spot) (IsDistinct-head same_row (row_at s) (map row_at spots) h) (is_no_row (row_at spot) s p.0)))
    (once_more spots spot p.1 (IsDistinct-tail same_row (row_at s) (map row_at spots) h))

pub no_rows : HasRowsOnce []
unfolding IsDistinct
no_rows = tt

pub agree_more : (tables : Tables) (spots : List Spot) (spot : Spot) → get tables (row_at spot) ≡ spot.text → Agree spots tables
    → Agree (spots ++ spot ∷ []) tables
agree_more tables spots spot h all = All-push (λ (s : Spot). get tables (row_at s) ≡ s.text) spots spot all h

pub none_agree : (tables : Tables) → Agree [] tables
none_agree tables = All-nil (λ (s : Spot). get tables (row_at s) ≡ s.text)

all_kept : (spots now : List Spot) (effects : List Effect) → ((row : RowName) → list_any (is_at row) spots ≡ true → list_any (is_at row) now ≡ true)
    → covers spots effects ≡ true → covers now effects ≡ true
all_kept spots now [] kept h = refl
all_kept spots now (e ∷ effects) kept h = and_both (list_any (is_at (row_of e)) now) (covers now effects) (kept (row_of e) (and_first _ _ h))
    (all_kept spots now effects kept (and_second (list_any (is_at (row_of e)) spots) _ h))

-- the effects up to one more have their rows
pub covers_more : (spots now : List Spot) (effects : List Effect) (i : ℕ) (effect : Effect) → i < length effects → effect ≡ get_or effects i effect
    → list_any (is_at (row_of effect)) now ≡ true
    → ((row : RowName) → list_any (is_at row) spots ≡ true → list_any (is_at row) now ≡ true) → IsTrue (covers spots (take i effects))
    → IsTrue (covers now (take (i + 1) effects))
covers_more spots now effects i effect h is here kept all =
    list_all_more (λ e. list_any (is_at (row_of e)) now) effects i effect h
    ∙ and_both (covers now (take i effects)) (list_any (is_at (row_of (get_or effects i effect))) now) (all_kept spots now (take i effects) kept all)
    (subst (λ (e : Effect). list_any (is_at (row_of e)) now ≡ true) is here)

-- ---- spots that agree, one after the other

pub agree_next : (tables : Tables) (spots : List Spot) (i : ℕ) (spot : Spot) → i < length spots → spot ≡ get_or spots i spot
    → get tables (row_at spot) ≡ spot.text → Agree (take i spots) tables → Agree (take (i + 1) spots) tables
agree_next tables spots i spot within is h all =
    subst (λ ss. Agree ss tables) (sym (take_more spots i spot within))
    (agree_more tables (take i spots) (get_or spots i spot) (subst (λ (s : Spot). get tables (row_at s) ≡ s.text) is h) all)

pub agree_all : (tables : Tables) (spots : List Spot) (i : ℕ) → length spots ≤ i → Agree (take i spots) tables → Agree spots tables
agree_all tables spots i within all = subst (λ ss. Agree ss tables) (take_all i spots within) all
