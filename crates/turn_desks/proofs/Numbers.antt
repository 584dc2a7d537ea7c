-- Numbers of stocks, stock by stock, with one drawing more.
use Rattle.std.proofs.Common.{◌≡◌, ℕ, zero, suc, ◌+◌, ◌-◌, ◌≤◌, Bool, true, false, true≢false, List, [], ◌∷◌, ◌++◌, append-nil, map, take, refl, sym, ap, ◌∙◌, subst, arith}
use Rattle.std.specs.Prelude.{◌&&◌, ◌||◌, if◌then◌else◌, not, MatchBool, Some, slice_get, sum_by}
use Rattle.std.specs.List.{find, list_any}
use Rattle.std.proofs.lemmas.Bool.{and_parts}
use Rattle.std.proofs.lemmas.List.{map-append}
use Rattle.std.proofs.lemmas.List.Sums.{sum_by-cons}
use Rattle.enq_base.specs.declared.unit.Num.{Num}
use Rattle.hall_model.specs.declared.command.Reply.{Reply}
use Rattle.hall_model.specs.declared.command.Reply.TheVariants as reply
use Rattle.draw_laws.proofs.IntervalNames.{is_named_so, named_is}
use Rattle.draw_laws.proofs.OwnNumbers.{others_same, own_more}
use Rattle.ledger_steps.specs.Drawn.{num_of}
use Rattle.ledger_steps.specs.Levels.{name_of}
use Rattle.number_ranges.specs.Intervals.{is_named}
use Rattle.number_ranges.specs.declared.interval.Interval.{Interval}
use Rattle.script_actors.specs.Drawings.{interval_at, number_in}
use Rattle.turn_desks.proofs.lemmas.Seating.{none_is_not, one_some}
use Rattle.turn_desks.specs.Draws.{add_at, one_number, used_at}
use Rattle.turn_desks.specs.Stocks.{StockFact, are_apart, are_of_stocks, is_of_stock, left_in, numbered, numbers_by}

neither : (a b : Bool) → (a || b) ≡ false → (a ≡ false) × (b ≡ false)
neither true b h = cc
neither false b h = (refl, h)

not_so : (b : Bool) → not b ≡ true → b ≡ false
not_so true h = cc
not_so false h = refl

not_true : (b : Bool) → (b ≡ true → ⊥) → b ≡ false
not_true true h = absurd (h refl)
not_true false h = refl

pub is_so : (b : Bool) → (b ≡ false → ⊥) → b ≡ true
is_so true h = refl
is_so false h = absurd (h refl)

any_at : {X : Type 0} (test : X → Bool) (xs : List X) (k : ℕ) (x : X) → slice_get xs k ≡ Some x → test x ≡ true → list_any test xs ≡ true
any_at test [] k x at is = absurd (none_is_not x at)
any_at test (y ∷ xs) zero x at is = ap (λ b. b || list_any test xs) (ap test (one_some y x at) ∙ is)
any_at test (y ∷ xs) (suc k) x at is = or_right (test y) (list_any test xs) (any_at test xs k x at is)
  where
    or_right : (a b : Bool) → b ≡ true → (a || b) ≡ true
    or_right true b h = refl
    or_right false b h = h

-- ---- names

pub same_name : (object nr : List ℕ) (i j : Interval) → is_named object nr i ≡ true → is_named object nr j ≡ true → name_of i ≡ name_of j
same_name object nr i j one other = named_is object nr i one ∙ sym (named_is object nr j other)

-- no stock has the name of this one at another place
apart_from : (f g : StockFact) (fs : List StockFact) (k : ℕ) → slice_get fs k ≡ Some f → are_apart (g ∷ fs) ≡ true → name_of f.interval ≡ name_of g.interval → ⊥
apart_from f g fs k at apart same =
    let none = not_so _ (and_parts (not (is_of_stock fs g.interval.object g.interval.nr)) (are_apart fs) apart).0 in
    true≢false (sym (any_at (λ (x : StockFact). is_named g.interval.object g.interval.nr x.interval) fs k f at
    (is_named_so g.interval.object g.interval.nr f.interval same)) ∙ none)

rest_apart : (g : StockFact) (fs : List StockFact) → are_apart (g ∷ fs) ≡ true → are_apart fs ≡ true
rest_apart g fs apart = (and_parts (not (is_of_stock fs g.interval.object g.interval.nr)) (are_apart fs) apart).1

none_behind : (g : StockFact) (fs : List StockFact) → are_apart (g ∷ fs) ≡ true → is_of_stock fs g.interval.object g.interval.nr ≡ false
none_behind g fs apart = not_so _ (and_parts (not (is_of_stock fs g.interval.object g.interval.nr)) (are_apart fs) apart).0

pub found_named : (object nr : List ℕ) (is : List Interval) (i : Interval) → interval_at is object nr ≡ Some i → is_named object nr i ≡ true
found_named object nr [] i at = absurd (none_is_not i at)
found_named object nr (j ∷ is) i at = go (λ later. found_named object nr is i later) (is_named object nr j) refl
  where
    go : (interval_at is object nr ≡ Some i → is_named object nr i ≡ true) → (b : Bool) → is_named object nr j ≡ b → is_named object nr i ≡ true
    go rest true e = ap (is_named object nr) (sym (one_some j i (sym (ap (λ b. if b then Some j else find (is_named object nr) is) e) ∙ at))) ∙ e
    go rest false e = rest (sym (ap (λ b. if b then Some j else find (is_named object nr) is) e) ∙ at)

-- ---- numbers

others_all : (i : Interval) (fs : List StockFact) (nums : List Num) (n : ℕ) → is_of_stock fs i.object i.nr ≡ false
    → numbers_by fs (nums ++ num_of i n ∷ []) ≡ numbers_by fs nums
others_all i [] nums n none = refl
others_all i (g ∷ fs) nums n none =
    let two = neither (is_named i.object i.nr g.interval) (is_of_stock fs i.object i.nr) none in
    λ k. others_same i g.interval nums n (λ same. true≢false (sym (is_named_so i.object i.nr g.interval (sym same)) ∙ two.0)) k ∷ others_all i fs nums n two.1 k

one_more : (facts : List StockFact) (place : ℕ) (f : StockFact) (nums : List Num) (n : ℕ) → slice_get facts place ≡ Some f → are_apart facts ≡ true
    → numbers_by facts (nums ++ num_of f.interval n ∷ []) ≡ add_at place (n ∷ []) (numbers_by facts nums)
one_more [] place f nums n at apart = absurd (none_is_not f at)
one_more (g ∷ fs) zero f nums n at apart =
    subst (λ (x : StockFact). numbers_by (g ∷ fs) (nums ++ num_of x.interval n ∷ []) ≡ add_at zero (n ∷ []) (numbers_by (g ∷ fs) nums)) (one_some g f at)
    (λ k. own_more g.interval nums n k ∷ others_all g.interval fs nums n (none_behind g fs apart) k)
one_more (g ∷ fs) (suc place) f nums n at apart =
    λ k. others_same f.interval g.interval nums n (apart_from f g fs place at apart) k ∷ one_more fs place f nums n at (rest_apart g fs apart) k

add_none : (place : ℕ) (tss : List (List ℕ)) → add_at place [] tss ≡ tss
add_none place [] = refl
add_none zero (ts ∷ tss) = ap (λ l. l ∷ tss) (append-nil ts)
add_none (suc place) (ts ∷ tss) = ap (λ l. ts ∷ l) (add_none place tss)

no_more : (facts : List StockFact) (place : ℕ) (nums : List Num) → numbers_by facts (nums ++ []) ≡ add_at place [] (numbers_by facts nums)
no_more facts place nums = ap (numbers_by facts) (append-nil nums) ∙ sym (add_none place (numbers_by facts nums))

-- what a drawing of the stock at this place adds
pub more_by : (facts : List StockFact) (place : ℕ) (f : StockFact) (nums : List Num) (r : Reply) → slice_get facts place ≡ Some f → are_apart facts ≡ true
    → numbers_by facts (nums ++ number_in f.interval.object f.interval.nr r) ≡ add_at place (one_number r) (numbers_by facts nums)
more_by facts place f nums (reply.Number n code) at apart = one_more facts place f nums n at apart
more_by facts place f nums _ at apart = no_more facts place nums

pub numbered_more : (facts : List StockFact) (place : ℕ) (f : StockFact) (ts : List ℕ) (tss : List (List ℕ)) → slice_get facts place ≡ Some f
    → numbered facts (add_at place ts tss) ≡ add_at place (map (λ t. f.base + t) ts) (numbered facts tss)
numbered_more [] place f ts tss at = absurd (none_is_not f at)
numbered_more (g ∷ fs) place f ts [] at = refl
numbered_more (g ∷ fs) zero f ts (us ∷ uss) at =
    ap (λ l. l ∷ numbered fs uss) (map-append (λ t. g.base + t) us ts)
    ∙ ap (λ (x : StockFact). (map (λ t. g.base + t) us ++ map (λ t. x.base + t) ts) ∷ numbered fs uss) (one_some g f at)
numbered_more (g ∷ fs) (suc place) f ts (us ∷ uss) at = ap (λ l. map (λ t. g.base + t) us ∷ l) (numbered_more fs place f ts uss at)

all_more : (facts : List StockFact) (xs ys : List Num) → are_of_stocks facts xs ≡ true → are_of_stocks facts ys ≡ true → are_of_stocks facts (xs ++ ys) ≡ true
all_more facts [] ys one other = other
all_more facts (x ∷ xs) ys one other =
    let two = and_parts (is_of_stock facts x.object x.nr) (are_of_stocks facts xs) one in
    both (is_of_stock facts x.object x.nr) (are_of_stocks facts (xs ++ ys)) two.0 (all_more facts xs ys two.1 other)
  where
    both : (a b : Bool) → a ≡ true → b ≡ true → (a && b) ≡ true
    both true b x y = y
    both false b x y = x

number_of_stock : (facts : List StockFact) (object nr : List ℕ) (r : Reply) → is_of_stock facts object nr ≡ true
    → are_of_stocks facts (number_in object nr r) ≡ true
number_of_stock facts object nr (reply.Number n code) is = ap (λ b. b && true) is
number_of_stock facts object nr _ is = refl

pub stock_at : (facts : List StockFact) (place : ℕ) (f : StockFact) (object nr : List ℕ) → slice_get facts place ≡ Some f → is_named object nr f.interval ≡ true
    → is_of_stock facts object nr ≡ true
stock_at facts place f object nr at is = any_at (λ (x : StockFact). is_named object nr x.interval) facts place f at is

pub known_more : (facts : List StockFact) (nums : List Num) (object nr : List ℕ) (r : Reply) → are_of_stocks facts nums ≡ true
    → is_of_stock facts object nr ≡ true
    → are_of_stocks facts (nums ++ number_in object nr r) ≡ true
known_more facts nums object nr r known is = all_more facts nums (number_in object nr r) known (number_of_stock facts object nr r is)

-- ---- draws

-- an interval of whose numbers one may be drawn has a stock
pub left_some : (facts : List StockFact) (draws : List ℕ) (i : Interval) → 1 ≤ left_in facts draws i → is_of_stock facts i.object i.nr ≡ true
left_some [] draws i one = absurd (omega (arith, one))
left_some (f ∷ fs) [] i one = absurd (omega (arith, one))
left_some (f ∷ fs) (n ∷ ns) i one = go (λ some. left_some fs ns i some) (is_named i.object i.nr f.interval) refl
  where
    go : (1 ≤ left_in fs ns i → is_of_stock fs i.object i.nr ≡ true) → (b : Bool) → is_named i.object i.nr f.interval ≡ b
        → (b || is_of_stock fs i.object i.nr) ≡ true
    go rest true e = refl
    go rest false e = rest (subst (λ m. 1 ≤ m) (ap (λ b. if b then n else left_in fs ns i) e) one)

-- how many may be drawn of the stock at this place
pub left_at : (facts : List StockFact) (draws : List ℕ) (place : ℕ) (f : StockFact) (n : ℕ) (i : Interval) → slice_get facts place ≡ Some f
    → slice_get draws place ≡ Some n → are_apart facts ≡ true → is_named i.object i.nr f.interval ≡ true → left_in facts draws i ≡ n
left_at [] draws place f n i at there apart is = absurd (none_is_not f at)
left_at (g ∷ fs) [] place f n i at there apart is = absurd (none_is_not n there)
left_at (g ∷ fs) (d ∷ ds) zero f n i at there apart is =
    ap (λ b. if b then d else left_in fs ds i) (ap (λ (x : StockFact). is_named i.object i.nr x.interval) (one_some g f at) ∙ is) ∙ one_some d n there
left_at (g ∷ fs) (d ∷ ds) (suc place) f n i at there apart is =
    go (left_at fs ds place f n i at there (rest_apart g fs apart) is) (is_named i.object i.nr g.interval) refl
  where
    go : left_in fs ds i ≡ n → (b : Bool) → is_named i.object i.nr g.interval ≡ b → left_in (g ∷ fs) (d ∷ ds) i ≡ n
    go rest true e = absurd (apart_from f g fs place at apart (same_name i.object i.nr f.interval g.interval is e))
    go rest false e = ap (λ b. if b then d else left_in fs ds i) e ∙ rest

takes_few : (facts : List StockFact) (draws : List ℕ) (place : ℕ) (i : Interval) → left_in facts draws i ≤ left_in facts (used_at place draws) i + 1
takes_few [] draws place i = omega arith
takes_few (g ∷ fs) [] place i = omega arith
takes_few (g ∷ fs) (d ∷ ds) zero i =
    elim (is_named i.object i.nr g.interval) as (λ b. (if b then d else left_in fs ds i) ≤ (if b then d - 1 else left_in fs ds i) + 1) [
      | true ↦ omega arith
      | false ↦ omega arith
    ]
takes_few (g ∷ fs) (d ∷ ds) (suc place) i =
    let rest = takes_few fs ds place i in
    elim (is_named i.object i.nr g.interval) as (λ b. (if b then d else left_in fs ds i) ≤ (if b then d else left_in fs (used_at place ds) i) + 1) [
      | true ↦ omega arith
      | false ↦ rest
    ]

takes_none : (facts : List StockFact) (draws : List ℕ) (place : ℕ) (f : StockFact) (i : Interval) → slice_get facts place ≡ Some f
    → is_named i.object i.nr f.interval ≡ false → left_in facts (used_at place draws) i ≡ left_in facts draws i
takes_none [] draws place f i at none = refl
takes_none (g ∷ fs) [] place f i at none = refl
takes_none (g ∷ fs) (d ∷ ds) zero f i at none =
    let off : is_named i.object i.nr g.interval ≡ false = ap (λ (x : StockFact). is_named i.object i.nr x.interval) (one_some g f at) ∙ none in
    ap (λ b. if b then d - 1 else left_in fs ds i) off ∙ sym (ap (λ b. if b then d else left_in fs ds i) off)
takes_none (g ∷ fs) (d ∷ ds) (suc place) f i at none =
    ap (λ n. if is_named i.object i.nr g.interval then d else n) (takes_none fs ds place f i at none)

-- one draw of the interval is taken, and none of another
pub takes_one : (facts : List StockFact) (draws : List ℕ) (place : ℕ) (f : StockFact) (object nr : List ℕ) → slice_get facts place ≡ Some f
    → is_named object nr f.interval ≡ true → (i : Interval)
    → MatchBool (is_named object nr i) (left_in facts draws i ≤ left_in facts (used_at place draws) i + 1)
    (left_in facts (used_at place draws) i ≡ left_in facts draws i)
takes_one facts draws place f object nr at is i = go (is_named object nr i) refl
  where
    other : is_named object nr i ≡ false → is_named i.object i.nr f.interval ≡ false
    other off = not_true (is_named i.object i.nr f.interval)
        (λ on. true≢false (sym (is_named_so object nr i (sym (named_is i.object i.nr f.interval on) ∙ named_is object nr f.interval is)) ∙ off))

    go : (b : Bool) → is_named object nr i ≡ b → MatchBool b (left_in facts draws i ≤ left_in facts (used_at place draws) i + 1)
        (left_in facts (used_at place draws) i ≡ left_in facts draws i)
    go true e = takes_few facts draws place i
    go false e = takes_none facts draws place f i at (other e)

pub used_sum : (draws : List ℕ) (place n : ℕ) → slice_get draws place ≡ Some n → 1 ≤ n → sum_by (λ m. m) (used_at place draws) + 1 ≡ sum_by (λ m. m) draws
used_sum [] place n at one = absurd (none_is_not n at)
used_sum (d ∷ ds) zero n at one =
    let same : d ≡ n = one_some d n at in
    omega (arith, same, one, sum_by-cons (λ m. m) (d - 1) ds, sum_by-cons (λ m. m) d ds)
used_sum (d ∷ ds) (suc place) n at one =
    let rest = used_sum ds place n at one in
    omega (arith, rest, sum_by-cons (λ m. m) d (used_at place ds), sum_by-cons (λ m. m) d ds)

-- no stock of this name is among the first, with one more
none_suc : (facts : List StockFact) (k : ℕ) (f : StockFact) (object nr : List ℕ) → slice_get facts k ≡ Some f → is_of_stock (take k facts) object nr ≡ false
    → is_named object nr f.interval ≡ false → is_of_stock (take (suc k) facts) object nr ≡ false
none_suc [] k f object nr at none off = refl
none_suc (g ∷ fs) zero f object nr at none off = ap (λ b. b || false) (ap (λ (x : StockFact). is_named object nr x.interval) (one_some g f at) ∙ off)
none_suc (g ∷ fs) (suc k) f object nr at none off =
    let two = neither (is_named object nr g.interval) (is_of_stock (take k fs) object nr) none in
    ap (λ b. b || is_of_stock (take (suc k) fs) object nr) two.0 ∙ none_suc fs k f object nr at two.1 off

pub none_more : (facts : List StockFact) (k : ℕ) (f : StockFact) (object nr : List ℕ) → slice_get facts k ≡ Some f
    → is_of_stock (take k facts) object nr ≡ false
    → is_named object nr f.interval ≡ false → is_of_stock (take (k + 1) facts) object nr ≡ false
none_more facts k f object nr at none off =
    subst (λ n. is_of_stock (take n facts) object nr ≡ false) (let one : suc k ≡ k + 1 = omega arith in one) (none_suc facts k f object nr at none off)
