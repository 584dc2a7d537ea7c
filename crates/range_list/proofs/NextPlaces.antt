-- Which places a number isn't of, by the place that it is of.
use Rattle.std.proofs.Common.{◌≡◌, ℕ, zero, suc, ◌+◌, ◌<◌, ◌≤◌, nat_le, inl, inr, Bool, true, false, cond, ◌||◌, List, [], ◌∷◌, ◌++◌, length, take, get_or}
use Rattle.std.proofs.Common.{Option, Some, None, refl, sym, ap, ◌∙◌, subst, arith}
use Rattle.std.specs.List.{list_any, position_from, slice_get}
use Rattle.std.specs.Prelude.{min}
use Rattle.std.proofs.lemmas.Bool.{cases_Bool, leb-true, leb-false}
use Rattle.std.proofs.lemmas.List.{take_more}
use Rattle.enq_base.specs.declared.unit.Num.{Num}
use Rattle.number_ranges.specs.Intervals.{is_named}
use Rattle.number_ranges.specs.declared.interval.Interval.{Interval}
use Rattle.ledger_steps.specs.Drawn.{drawn_of}
use Rattle.ledger_steps.specs.Levels.{AreApart, intervals_of, range_at}
use Rattle.ledger_steps.specs.declared.range.NumberRange.{NumberRange}
use Rattle.draw_laws.proofs.Counting.{bit, count_append, count_cons}
use Rattle.draw_laws.proofs.IntervalNames.{named_is}

or_parts : (a b : Bool) → (a || b) ≡ false → (a ≡ false) × (b ≡ false)
or_parts true b h = cc
or_parts false b h = (refl, h)

-- where no interval has the name, none at a place has it
none_at : (object nr : List ℕ) (ranges : List NumberRange) (k : ℕ) (r : NumberRange) → list_any (is_named object nr) (intervals_of ranges) ≡ false
    → slice_get ranges k ≡ Some r → is_named object nr r.interval ≡ false
none_at object nr [] k r none at = cc
none_at object nr (x ∷ ranges) zero r none at = let same : x ≡ r = cc in
    subst (λ (y : NumberRange). is_named object nr y.interval ≡ false) same (or_parts _ _ none).0
none_at object nr (x ∷ ranges) (suc k) r none at = none_at object nr ranges k r (or_parts (is_named object nr x.interval) _ none).1 at

-- the interval of a name stands at one place
abbrev IsOnlyAt : Option ℕ → ℕ → Type 0
IsOnlyAt None k = ⊥
IsOnlyAt (Some place) k = place ≡ k

only_from : (object nr : List ℕ) (ranges : List NumberRange) (first k : ℕ) (r : NumberRange) → AreApart (intervals_of ranges) → slice_get ranges k ≡ Some r
    → is_named object nr r.interval ≡ true
    → IsOnlyAt (position_from (is_named object nr) first (intervals_of ranges)) (first + k)
only_from object nr [] first k r apart at named = cc
only_from object nr (x ∷ ranges) first zero r apart at named =
    let same : x ≡ r = cc in
    let here : is_named object nr x.interval ≡ true = subst (λ (y : NumberRange). is_named object nr y.interval ≡ true) (sym same) named in
    subst (λ b. IsOnlyAt (cond b (Some first) (position_from (is_named object nr) (first + 1) (intervals_of ranges))) (first + 0)) (sym here) (omega arith)
only_from object nr (x ∷ ranges) first (suc k) r apart at named =
    let next : first + 1 + k ≡ first + suc k = omega arith in
    elim (is_named object nr x.interval)
    as (λ b. is_named object nr x.interval ≡ b → IsOnlyAt (cond b (Some first) (position_from (is_named object nr) (first + 1) (intervals_of ranges)))
    (first + suc k)) [
      | true ↦ λ e.
          let name = named_is object nr x.interval e in
          let none : list_any (is_named object nr) (intervals_of ranges) ≡ false =
          subst (λ n. list_any (is_named n.0 n.1) (intervals_of ranges) ≡ false) name apart.0 in
          absurd (not_both (is_named object nr r.interval) named (none_at object nr ranges k r none at))
      | false ↦ λ e. subst (IsOnlyAt (position_from (is_named object nr) (first + 1) (intervals_of ranges))) next
          (only_from object nr ranges (first + 1) k r apart.1 at named)
    ] refl
  where
    not_both : (b : Bool) → b ≡ true → b ≡ false → ⊥
    not_both true e f = cc
    not_both false e f = cc

-- no other place has the name
pub not_named : (object nr : List ℕ) (ranges : List NumberRange) (found : Option ℕ) (k : ℕ) (r : NumberRange) → AreApart (intervals_of ranges)
    → position_from (is_named object nr) 0 (intervals_of ranges) ≡ found
    → (IsOnlyAt found k → ⊥) → slice_get ranges k ≡ Some r → is_named object nr r.interval ≡ false
not_named object nr ranges found k r apart is other at =
    let here : 0 + k ≡ k = omega arith in
    elim (is_named object nr r.interval) as (λ b. is_named object nr r.interval ≡ b → b ≡ false) [
      | true ↦ λ e. absurd
          (other (subst (λ o. IsOnlyAt o k) is
          (subst (IsOnlyAt (position_from (is_named object nr) 0 (intervals_of ranges))) here (only_from object nr ranges 0 k r apart at e))))
      | false ↦ λ e. refl
    ] refl

-- one number more that isn't of an interval
pub none_more : (i : Interval) (numbers : List Num) (k : ℕ) (num : Num) → k < length numbers → num ≡ get_or numbers k num → drawn_of i (take k numbers) ≡ 0
    → is_named num.object num.nr i ≡ false → drawn_of i (take (k + 1) numbers) ≡ 0
none_more i numbers k num within at none apart =
    let whole : take (k + 1) numbers ≡ take k numbers ++ num ∷ [] = take_more numbers k num within ∙ ap (λ x. take k numbers ++ x ∷ []) (sym at) in
    let test = λ (n : Num). is_named n.object n.nr i in
    let more = count_append test (take k numbers) (num ∷ []) in
    let one = count_cons test num [] in
    let not : bit (test num) ≡ 0 = ap bit apart in
    ap (drawn_of i) whole ∙ (let sum : drawn_of i (take k numbers ++ num ∷ []) ≡ 0 = omega (arith, more, one, not, none) in sum)

-- the range that is found by a name has it
pub named_found : (ranges : List NumberRange) (object nr : List ℕ) (r : NumberRange) → range_at ranges object nr ≡ Some r → is_named object nr r.interval ≡ true
named_found [] object nr r h = cc
named_found (x ∷ ranges) object nr r h =
    elim (is_named object nr x.interval)
    as (λ b. is_named object nr x.interval ≡ b → cond b (Some x) (range_at ranges object nr) ≡ Some r → is_named object nr r.interval ≡ true) [
      | true ↦ λ e is. let same : x ≡ r = cc in subst (λ (y : NumberRange). is_named object nr y.interval ≡ true) same e
      | false ↦ λ e is. named_found ranges object nr r is
    ] refl h

-- no range stands behind all
pub none_behind : (ranges : List NumberRange) (r : NumberRange) → slice_get ranges (length ranges) ≡ Some r → ⊥
none_behind [] r at = cc
none_behind (x ∷ ranges) r at = none_behind ranges r at

-- one number more, and the first of two places: a number so far is of the range at the one, and this number of that at the other
pub some_more : (ranges : List NumberRange) (numbers : List Num) (k : ℕ) (num : Num) (next place : ℕ) → k < length numbers → num ≡ get_or numbers k num
    → ((r : NumberRange) → slice_get ranges next ≡ Some r → 1 ≤ drawn_of r.interval (take k numbers))
    → ((r : NumberRange) → slice_get ranges place ≡ Some r → is_named num.object num.nr r.interval ≡ true)
    → (r : NumberRange) → slice_get ranges (min next place) ≡ Some r → 1 ≤ drawn_of r.interval (take (k + 1) numbers)
some_more ranges numbers k num next place within is first second r at =
    let whole : take (k + 1) numbers ≡ take k numbers ++ num ∷ [] = take_more numbers k num within ∙ ap (λ x. take k numbers ++ x ∷ []) (sym is) in
    let test = λ (n : Num). is_named n.object n.nr r.interval in
    let more = count_append test (take k numbers) (num ∷ []) in
    let one = count_cons test num [] in
    let grown : 1 ≤ drawn_of r.interval (take k numbers ++ num ∷ []) =
    elim (cases_Bool (nat_le next place)) [
      | inl e ↦
          let below : next ≤ place = leb-true next place e in
          let least : min next place ≡ next = omega (arith, below) in
          let had = first r (ap (slice_get ranges) (sym least) ∙ at) in omega (arith, more, one, had)
      | inr e ↦
          let above : place < next = leb-false next place e in
          let least : min next place ≡ place = omega (arith, above) in
          let counts : bit (test num) ≡ 1 = ap bit (second r (ap (slice_get ranges) (sym least) ∙ at)) in omega (arith, more, one, counts)
    ] in
    subst (λ l. 1 ≤ drawn_of r.interval l) (sym whole) grown
