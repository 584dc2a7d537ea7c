-- How many wait before a turn.
use Rattle.std.proofs.Common.{◌≡◌, ◌<◌, ◌≤◌, ◌+◌, ◌++◌, ◌∷◌, ℕ, zero, suc, List, Option, Some, None, [], length, take, get_or, set, slice_get, ap, refl, arith, ◌∙◌}
use Rattle.std.specs.List.{cons_option}
use Rattle.std.proofs.lemmas.List.{take-append-le, take-set-le, take_all, take_more, length-append}
use Rattle.std.proofs.lemmas.List.Elements.{filter_map-append}
use Rattle.enq_base.specs.declared.owner.UnitKey.{UnitKey}
use Rattle.turn_list.specs.Turns.{waiting_in}
use Rattle.turn_list.specs.Counts.{before, waits}

pub before_all : (turns : List (Option UnitKey)) → before turns (length turns) ≡ length (waiting_in turns)
before_all turns = ap (λ ts. length (waiting_in ts)) (take_all (length turns) turns (omega arith))

one_more : (unit : Option UnitKey) (units : List UnitKey) → length (cons_option unit units) ≡ waits unit + length units
one_more None units = omega arith
one_more (Some _) units = omega arith

-- a turn at the end
pub waiting_push : (turns : List (Option UnitKey)) (unit : Option UnitKey)
    → length (waiting_in (turns ++ unit ∷ [])) ≡ length (waiting_in turns) + waits unit
waiting_push turns unit =
    ap length (filter_map-append (λ t. t) turns (unit ∷ [])) ∙ length-append (waiting_in turns) (waiting_in (unit ∷ []))
    ∙ ap (λ n. length (waiting_in turns) + n) (one_more unit [] ∙ omega arith)

pub before_push : (turns : List (Option UnitKey)) (unit : Option UnitKey) (p : ℕ) → p ≤ length turns
    → before (turns ++ unit ∷ []) p ≡ before turns p
before_push turns unit p h = ap (λ ts. length (waiting_in ts)) (take-append-le p turns (unit ∷ []) h)

-- one turn on
before_cons : (unit : Option UnitKey) (turns : List (Option UnitKey)) (p : ℕ) → before (unit ∷ turns) (suc p) ≡ waits unit + before turns p
before_cons unit turns p = one_more unit (waiting_in (take p turns))

pub before_next : (turns : List (Option UnitKey)) (p : ℕ) → p < length turns
    → before turns (p + 1) ≡ before turns p + waits (get_or turns p None)
before_next turns p h = ap (λ ts. length (waiting_in ts)) (take_more turns p None h) ∙ waiting_push (take p turns) (get_or turns p None)

-- further on at least as many
pub before_on : (turns : List (Option UnitKey)) (p q : ℕ) → p ≤ q → before turns p ≤ before turns q
before_on turns zero q h = omega arith
before_on [] (suc p) q h = omega arith
before_on (unit ∷ turns) (suc p) zero h = omega arith
before_on (unit ∷ turns) (suc p) (suc q) h =
    let rest = before_on turns p q (omega arith) in
    let one = before_cons unit turns p in
    let other = before_cons unit turns q in
    omega arith

-- where a unit no longer waits
pub before_set : (turns : List (Option UnitKey)) (turn p : ℕ) → p ≤ turn → before (set turns turn None) p ≡ before turns p
before_set turns turn p h = ap (λ ts. length (waiting_in ts)) (take-set-le p turns turn None h)

pub past_set : (turns : List (Option UnitKey)) (turn p : ℕ) (unit : UnitKey) → get_or turns turn None ≡ Some unit → turn < p
    → before (set turns turn None) p + 1 ≡ before turns p
past_set [] turn p unit e h = cc
past_set (x ∷ turns) turn zero unit e h = omega arith
past_set (x ∷ turns) zero (suc p) unit e h =
    let was = before_cons x turns p in
    let is : before (None ∷ turns) (suc p) ≡ before turns p = refl in
    let one : waits x ≡ 1 = ap waits e in
    omega arith
past_set (x ∷ turns) (suc turn) (suc p) unit e h =
    let rest = past_set turns turn p unit e (omega arith) in
    let was = before_cons x turns p in
    let is = before_cons x (set turns turn None) p in
    omega arith

-- the turn at which the one at a place waits
pub found_at : (turns : List (Option UnitKey)) (p place : ℕ) → before turns p ≤ place → place < before turns (suc p)
    → slice_get (waiting_in turns) place ≡ get_or turns p None
found_at [] p place from to = let low : place < 0 = to in let none : ⊥ = omega arith in absurd none
found_at (None ∷ turns) zero place from to = let low : place < 0 = to in let none : ⊥ = omega arith in absurd none
found_at (Some unit ∷ turns) zero zero from to = refl
found_at (Some unit ∷ turns) zero (suc place) from to = let low : suc place < 1 = to in let none : ⊥ = omega arith in absurd none
found_at (None ∷ turns) (suc p) place from to = found_at turns p place from to
found_at (Some unit ∷ turns) (suc p) zero from to = let low : suc (before turns p) ≤ 0 = from in let none : ⊥ = omega arith in absurd none
found_at (Some unit ∷ turns) (suc p) (suc place) from to =
    let low : suc (before turns p) ≤ suc place = from in
    let high : suc place < suc (before turns (suc p)) = to in
    found_at turns p place (omega arith) (omega arith)

-- no more than there are turns
pub before_few : (turns : List (Option UnitKey)) (p : ℕ) → before turns p ≤ p
before_few turns zero = omega arith
before_few [] (suc p) = omega arith
before_few (None ∷ turns) (suc p) = let rest = before_few turns p in omega arith
before_few (Some _ ∷ turns) (suc p) = let rest = before_few turns p in omega arith

pub one_waits : (turn : Option UnitKey) → waits turn ≡ 1 → (unit : UnitKey) × (turn ≡ Some unit)
one_waits None h = let no : ⊥ = omega arith in absurd no
one_waits (Some unit) h = (unit, refl)
