-- The room of tables, as they are changed.
use Rattle.std.proofs.Common.{Vec, Global, ◌≡◌, ℕ, suc, zero, ◌+◌, ◌<◌, ◌≤◌, List, [], ◌∷◌, ◌++◌, length, get_or, set, refl, sym, ap, ◌∙◌, subst, arith, vec_len, vec_capacity}
use Rattle.keeper_api.specs.Batch.{spot_of}
use Rattle.keeper_api.specs.declared.rows.Change.{Change}
use Rattle.keeper_api.specs.declared.rows.Row.{Row}
use Rattle.sorted_rows.specs.Places.{entries_in}
use Rattle.sorted_rows.specs.Tables.{entries_from, HasPlace, HasRoom}

pub place_less : (m n other : ℕ) (tables : List (Vec Row Global)) → n ≤ m → HasPlace m other tables → HasPlace n other tables
place_less m n other [] h place = place
place_less m n zero (rows ∷ more) h place = omega arith
place_less m n (suc other) (rows ∷ more) h place = place_less m n other more h place

pub place_within : (n table : ℕ) (tables : List (Vec Row Global)) → HasPlace n table tables → table < length tables
place_within n table [] place = absurd place
place_within n zero (rows ∷ more) place = omega arith
place_within n (suc table) (rows ∷ more) place = let rest = place_within n table more place in omega arith

pub place_there : (n table : ℕ) (tables : List (Vec Row Global)) (old : Vec Row Global) → HasPlace n table tables → old ≡ get_or tables table old
    → vec_len old + n ≤ vec_capacity old
place_there n table [] old place was = absurd place
place_there n zero (rows ∷ more) old place was = subst (λ (w : Vec Row Global). vec_len w + n ≤ vec_capacity w) (sym was) place
place_there n (suc table) (rows ∷ more) old place was = place_there n table more old place was

-- another list in the place of a table
pub place_set : (m n table other : ℕ) (tables : List (Vec Row Global)) (old new : Vec Row Global) → n ≤ m → old ≡ get_or tables table old
    → (vec_len old + m ≤ vec_capacity old → vec_len new + n ≤ vec_capacity new) → HasPlace m other tables → HasPlace n other (set tables table new)
place_set m n table other [] old new h was one place = absurd place
place_set m n zero zero (rows ∷ more) old new h was one place = one (subst (λ (w : Vec Row Global). vec_len w + m ≤ vec_capacity w) (sym was) place)
place_set m n zero (suc other) (rows ∷ more) old new h was one place = place_less m n other more h place
place_set m n (suc table) zero (rows ∷ more) old new h was one place = omega arith
place_set m n (suc table) (suc other) (rows ∷ more) old new h was one place = place_set m n table other more old new h was one place

pub place_taken : (n table : ℕ) (tables : List (Vec Row Global)) (new : Vec Row Global) → table < length tables → vec_len new + n ≤ vec_capacity new
    → HasPlace n table (set tables table new)
place_taken n table [] new h place = absurd (omega arith)
place_taken n zero (rows ∷ more) new h place = place
place_taken n (suc table) (rows ∷ more) new h place = place_taken n table more new (omega arith) place

pub place_push : (n other : ℕ) (tables : List (Vec Row Global)) (new : Vec Row Global) → HasPlace n other tables → HasPlace n other (tables ++ new ∷ [])
place_push n other [] new place = absurd place
place_push n zero (rows ∷ more) new place = place
place_push n (suc other) (rows ∷ more) new place = place_push n other more new place

nothing_more : {A : Type 0} (xs : List A) → xs ++ [] ≡ xs
nothing_more [] = refl
nothing_more (x ∷ xs) = ap (λ rest. x ∷ rest) (nothing_more xs)

-- a table without rows
pub entries_push : (first : ℕ) (tables : List (Vec Row Global)) (new : Vec Row Global) → new.items ≡ []
    → entries_from first (tables ++ new ∷ []) ≡ entries_from first tables
entries_push first [] new none = nothing_more (entries_in first new.items) ∙ ap (entries_in first) none
entries_push first (rows ∷ more) new none = ap (λ es. entries_in first rows.items ++ es) (entries_push (suc first) more new none)

-- a table with the rows that it had
pub entries_same : (first table : ℕ) (tables : List (Vec Row Global)) (old new : Vec Row Global) → table < length tables → old ≡ get_or tables table old
    → new.items ≡ old.items → entries_from first (set tables table new) ≡ entries_from first tables
entries_same first table [] old new h was same = absurd (omega arith)
entries_same first zero (rows ∷ more) old new h was same =
    ap (λ items. entries_in first items ++ entries_from (suc first) more) same
    ∙ ap (λ (w : Vec Row Global). entries_in first w.items ++ entries_from (suc first) more) was
entries_same first (suc table) (rows ∷ more) old new h was same = ap (λ es. entries_in first rows.items ++ es)
    (entries_same (suc first) table more old new (omega arith) was same)

pub room_kept : (m n : ℕ) (changes : List Change) (old new : List (Vec Row Global)) → ((table : ℕ) → HasPlace m table old → HasPlace n table new)
    → HasRoom m changes old → HasRoom n changes new
room_kept m n [] old new kept room = tt
room_kept m n (change ∷ changes) old new kept room = (kept (spot_of change).0 room.0, room_kept m n changes old new kept room.1)

pub room_more : (n : ℕ) (changes : List Change) (last : Change) (tables : List (Vec Row Global)) → HasRoom n changes tables → HasPlace n (spot_of last).0 tables
    → HasRoom n (changes ++ last ∷ []) tables
room_more n [] last tables room place = (place, tt)
room_more n (change ∷ changes) last tables room place = (room.0, room_more n changes last tables room.1 place)

-- the first change of a batch has room for its row, and once it was made the others still have theirs
pub room_first : (waiting : List Change) (change : Change) (rest : List Change) (tables : List (Vec Row Global)) → waiting ≡ change ∷ rest
    → HasRoom (length waiting) waiting tables → HasPlace 1 (spot_of change).0 tables
room_first waiting change rest tables is room =
    let both : HasRoom (suc (length rest)) (change ∷ rest) tables = subst (λ cs. HasRoom (length cs) cs tables) is room in
    place_less (suc (length rest)) 1 (spot_of change).0 tables (omega arith) both.0

pub room_after : (waiting : List Change) (change : Change) (rest : List Change) (old new : List (Vec Row Global)) → waiting ≡ change ∷ rest
    → HasRoom (length waiting) waiting old → ((n other : ℕ) → HasPlace (n + 1) other old → HasPlace n other new) → HasRoom (length rest) rest new
room_after waiting change rest old new is room kept =
    let both : HasRoom (suc (length rest)) (change ∷ rest) old = subst (λ cs. HasRoom (length cs) cs old) is room in
    room_kept (suc (length rest)) (length rest) rest old new
    (λ table place. kept (length rest) table (place_less (suc (length rest)) (length rest + 1) table old (omega arith) place)) both.1
