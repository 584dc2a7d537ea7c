-- The numbers of all deeds, told by the seats that were joined.
use Rattle.std.proofs.Common.{◌≡◌, inl, inr, ◌⊎◌, ℕ, zero, suc, ◌+◌, ◌-◌, ◌<◌, ◌≤◌, ◌==◌, Bool, true, false, true≢false, cond, List, [], ◌∷◌, ◌++◌, All, get_or}
use Rattle.std.proofs.Common.{length, map, reverse, refl, sym, ap, ◌∙◌, subst, arith}
use Rattle.std.proofs.lemmas.Bool.{and_parts}
use Rattle.std.proofs.lemmas.Bool.Decides.{nat_tests}
use Rattle.std.proofs.lemmas.List.{map-append}
use Rattle.std.proofs.lemmas.List.Sorted.{IsPermutation-reverse, IsPermutation-sym, sum_by-IsPermutation}
use Rattle.std.proofs.lemmas.List.Sums.{sum_by-cons}
use Rattle.std.specs.Prelude.{◌||◌, Contains, Option, Some, None, slice_get}
use Rattle.std.specs.List.{AllByRecursion, list_all, list_any, sum_by}
use Rattle.std.specs.List.Sorted.{IsPermutation}
use Rattle.draw_laws.proofs.IntervalNames.{contains_first, contains_more, named_is, one_interval}
use Rattle.draw_laws.proofs.OwnNumbers.{none_from, numbers_append}
use Rattle.enq_base.specs.declared.unit.Num.{Num}
use Rattle.hall_model.specs.State.{State}
use Rattle.hall_model.specs.declared.command.Who.{Who}
use Rattle.hall_model.specs.declared.command.Who.TheVariants as caller
use Rattle.ledger_steps.specs.Drawn.{drawn_from}
use Rattle.ledger_steps.specs.Levels.{AreApart, level_in, name_of}
use Rattle.number_ranges.specs.Intervals.{is_buffered, is_named}
use Rattle.number_ranges.specs.declared.interval.Interval.{Interval}
use Rattle.number_stock.specs.Seats.{hand}
use Rattle.number_stock.specs.declared.seat.StockSeat.{StockSeat}
use Rattle.script_actors.specs.Drawings.{interval_at}
use Rattle.script_actors.specs.declared.drawing.Drawing.{Drawing}
use Rattle.seat_sums.specs.Sums.{IsDistinct, one_if, times}
use Rattle.seat_sums.proofs.lemmas.Totals.{times_append, times_cons}
use Rattle.actor_threads.specs.Working.{AllSeats, AreSeatsOf}
use Rattle.actor_threads.specs.declared.actor.Deed.{Deed}
use Rattle.caller_laws.specs.Doing.{Left}
use Rattle.update_records.specs.Business.{interval_of}
use Rattle.turn_desks.specs.Stocks.{AreLots, AreLotsBy, AreOfLand, AreRightsAt, StockFact, answered_of, are_of_stocks, drawn_of, is_of_stock, limits_of, lot_of, numbered, numbers_by}
use Rattle.thread_runner.specs.Hiring.{left_of}
use Rattle.thread_runner.specs.Numbers.{AreWithin, drawn_by, numbers_of}
use Rattle.thread_runner.proofs.Begun.{found_named}
use Rattle.thread_runner.specs.Stocking.{AreOnceAt, AreWithinStocks, IsWithinStock, drawn_in_deeds, told_at}

-- ---- numbers of an interval, counted

abbrev nums : List Drawing → List Num
nums drawn = map (λ (d : Drawing). d.num) drawn

numbers_join : (i : Interval) (xs ys : List Drawing) → numbers_of i (xs ++ ys) ≡ numbers_of i xs ++ numbers_of i ys
numbers_join i xs ys = ap (drawn_from i) (map-append (λ (d : Drawing). d.num) xs ys) ∙ numbers_append (name_of i) (nums xs) (nums ys)

-- how often a number of the interval is among these
abbrev weighed : Interval → ℕ → Drawing → ℕ
weighed i n d = times n (numbers_of i (d ∷ []))

counted : (i : Interval) (n : ℕ) (drawn : List Drawing) → times n (numbers_of i drawn) ≡ sum_by (weighed i n) drawn
counted i n [] = refl
counted i n (d ∷ drawn) =
    ap (times n) (numbers_join i (d ∷ []) drawn) ∙ times_append n (numbers_of i (d ∷ [])) (numbers_of i drawn)
    ∙ (λ k. weighed i n d + counted i n drawn k) ∙ sym (sum_by-cons (weighed i n) d drawn)

-- the same in another order
counted_same : (i : Interval) (n : ℕ) (xs ys : List Drawing) → IsPermutation xs ys → times n (numbers_of i ys) ≡ times n (numbers_of i xs)
counted_same i n xs ys same = counted i n ys ∙ sum_by-IsPermutation (weighed i n) xs ys same ∙ sym (counted i n xs)

-- of all deeds
abbrev of_deed : Interval → ℕ → Deed → ℕ
of_deed i n d = times n (numbers_of i (drawn_by d.who (left_of d)))

of_deeds : (i : Interval) (n : ℕ) (ds : List Deed) → times n (numbers_of i (drawn_in_deeds ds)) ≡ sum_by (of_deed i n) ds
of_deeds i n [] = refl
of_deeds i n (d ∷ ds) =
    ap (times n) (numbers_join i (drawn_by d.who (left_of d)) (drawn_in_deeds ds))
    ∙ times_append n (numbers_of i (drawn_by d.who (left_of d))) (numbers_of i (drawn_in_deeds ds))
    ∙ (λ k. of_deed i n d + of_deeds i n ds k) ∙ sym (sum_by-cons (of_deed i n) d ds)

-- ---- numbers of tickets

shifted : (base t : ℕ) (ts : List ℕ) → times (base + t) (map (λ x. base + x) ts) ≡ times t ts
shifted base t [] = refl
shifted base t (x ∷ ts) =
    times_cons (base + t) (base + x) (map (λ y. base + y) ts)
    ∙ (λ k. one_if (same_test k) + shifted base t ts k) ∙ sym (times_cons t x ts)
  where
    same_test : (base + t == base + x) ≡ (t == x)
    same_test = grind (arith, nat_tests)

below_none : (base n : ℕ) (ts : List ℕ) → n < base → times n (map (λ x. base + x) ts) ≡ 0
below_none base n [] less = refl
below_none base n (x ∷ ts) less =
    times_cons n (base + x) (map (λ y. base + y) ts) ∙ (λ k. one_if (other k) + below_none base n ts less k)
  where
    other : (n == base + x) ≡ false
    other = grind (arith, nat_tests, less)

-- ---- one stock's place

heads : {X : Type 0} (a b : X) (xs ys : List X) → (a ∷ xs) ≡ (b ∷ ys) → a ≡ b
heads a b xs ys e = cc

tails : {X : Type 0} (a b : X) (xs ys : List X) → (a ∷ xs) ≡ (b ∷ ys) → xs ≡ ys
tails a b xs ys e = cc

no_list : {X : Type 0} (a : X) (xs : List X) → (a ∷ xs) ≡ [] → ⊥
no_list a xs e = cc

no_fact : (f : StockFact) → None ≡ Some f → ⊥
no_fact f e = cc

one_fact : (g f : StockFact) → Some g ≡ Some f → g ≡ f
one_fact g f e = cc

-- what the seats remember there are the numbers of the stock's interval
pub record AreAt (f : StockFact) (place : ℕ) (seats : List StockSeat) (ns : List ℕ) : Type 0 where
  pub up : (ticket : ℕ) → times (f.base + ticket) ns ≡ told_at place ticket seats
  pub down : (n : ℕ) → n < f.base → times n ns ≡ 0

at_place : (facts : List StockFact) (seats : List StockSeat) (place : ℕ) (f : StockFact) (all : List Num) → slice_get facts place ≡ Some f
    → numbers_by facts all ≡ numbered facts (drawn_of seats) → AreAt f place seats (drawn_from f.interval all)
at_place [] seats place f all at same = absurd (no_fact f at)
at_place (g ∷ facts) [] place f all at same = absurd (no_list _ _ same)
at_place (g ∷ facts) (x ∷ seats) zero f all at same =
    let own : drawn_from g.interval all ≡ map (λ t. g.base + t) (hand x).drawn = heads _ _ _ _ same in
    subst (λ (h : StockFact). AreAt h zero (x ∷ seats) (drawn_from h.interval all)) (one_fact g f at) (record {
      up = λ ticket. ap (times (g.base + ticket)) own ∙ shifted g.base ticket (hand x).drawn;
      down = λ n less. ap (times n) own ∙ below_none g.base n (hand x).drawn less;
    })
at_place (g ∷ facts) (x ∷ seats) (suc place) f all at same =
    let rest = at_place facts seats place f all at (tails _ _ _ _ same) in
    record { up = rest.up; down = rest.down }

-- a worker's deed has none, another's has what its seats remember
deed_up : (facts : List StockFact) (place : ℕ) (f : StockFact) (d : Deed) (x : List StockSeat) (ticket : ℕ) → slice_get facts place ≡ Some f
    → AreSeatsOf facts d x → of_deed f.interval (f.base + ticket) d ≤ told_at place ticket x
deed_up facts place f d x ticket at h = by d.who
  where
    same : times (f.base + ticket) (numbers_of f.interval d.drawn.items) ≡ told_at place ticket x
    same = (at_place facts x place f (nums d.drawn.items) at h.numbers).up ticket

    by : (w : Who) → times (f.base + ticket) (numbers_of f.interval (drawn_by w (left_of d))) ≤ told_at place ticket x
    by (caller.Session s) = omega (arith, same)
    by w = omega arith

deed_down : (facts : List StockFact) (place : ℕ) (f : StockFact) (d : Deed) (x : List StockSeat) (n : ℕ) → slice_get facts place ≡ Some f
    → AreSeatsOf facts d x → n < f.base → of_deed f.interval n d ≡ 0
deed_down facts place f d x n at h less = by d.who
  where
    same : times n (numbers_of f.interval d.drawn.items) ≡ 0
    same = (at_place facts x place f (nums d.drawn.items) at h.numbers).down n less

    by : (w : Who) → times n (numbers_of f.interval (drawn_by w (left_of d))) ≡ 0
    by (caller.Session s) = same
    by w = refl

deeds_up : (facts : List StockFact) (place : ℕ) (f : StockFact) (ds : List Deed) (xs : List (List StockSeat)) (ticket : ℕ) → slice_get facts place ≡ Some f
    → AllSeats facts ds xs → sum_by (of_deed f.interval (f.base + ticket)) ds ≤ sum_by (told_at place ticket) xs
deeds_up facts place f [] [] ticket at h = omega arith
deeds_up facts place f [] (x ∷ xs) ticket at h = absurd h
deeds_up facts place f (d ∷ ds) [] ticket at h = absurd h
deeds_up facts place f (d ∷ ds) (x ∷ xs) ticket at h =
    omega (
      arith,
      sum_by-cons (of_deed f.interval (f.base + ticket)) d ds,
      sum_by-cons (told_at place ticket) x xs,
      deed_up facts place f d x ticket at h.0,
      deeds_up facts place f ds xs ticket at h.1,
    )

deeds_down : (facts : List StockFact) (place : ℕ) (f : StockFact) (ds : List Deed) (xs : List (List StockSeat)) (n : ℕ) → slice_get facts place ≡ Some f
    → AllSeats facts ds xs → n < f.base → sum_by (of_deed f.interval n) ds ≡ 0
deeds_down facts place f [] [] n at h less = refl
deeds_down facts place f [] (x ∷ xs) n at h less = absurd h
deeds_down facts place f (d ∷ ds) [] n at h less = absurd h
deeds_down facts place f (d ∷ ds) (x ∷ xs) n at h less =
    omega (arith, sum_by-cons (of_deed f.interval n) d ds, deed_down facts place f d x n at h.0 less, deeds_down facts place f ds xs n at h.1 less)

-- ---- the level

lot_level : (s : State) (facts : List StockFact) (rights : List StockSeat) (place : ℕ) (f : StockFact) (r : StockSeat) → slice_get facts place ≡ Some f
    → slice_get rights place ≡ Some r → AreLotsBy s facts rights → f.base + (hand r).limit ≤ level_in s.stored.levels f.interval + 1
lot_level s [] rights place f r at there lots = absurd (no_fact f at)
lot_level s (g ∷ facts) [] place f r at there lots = absurd (none_seat r there)
  where
    none_seat : (x : StockSeat) → None ≡ Some x → ⊥
    none_seat x e = cc
lot_level s (g ∷ facts) (x ∷ rights) zero f r at there lots =
    subst (λ (h : StockFact). h.base + (hand r).limit ≤ level_in s.stored.levels h.interval + 1) (one_fact g f at)
    (subst (λ (y : StockSeat). g.base + (hand y).limit ≤ level_in s.stored.levels g.interval + 1) (one_seat x r there) lots.0.level)
  where
    one_seat : (y z : StockSeat) → Some y ≡ Some z → y ≡ z
    one_seat y z e = cc
lot_level s (g ∷ facts) (x ∷ rights) (suc place) f r at there lots = lot_level s facts rights place f r at there lots.1

-- ---- all numbers of a list

-- what holds of each number that is there holds of all
all_there : (P : ℕ → Type 0) (xs : List ℕ) → ((n : ℕ) → 0 < times n xs → P n) → All P xs
all_there P [] h = none
  where
    none : (k d : ℕ) → k < length {A = ℕ} [] → P (get_or [] k d)
    none k d less = absurd (omega (arith, less))
all_there P (x ∷ xs) h =
    go (h x (let one : one_if (x == x) ≡ 1 = grind (arith, nat_tests) in omega (arith, times_cons x x xs)))
    (all_there P xs (λ n some. h n (omega (arith, times_cons n x xs, some))))
  where
    go : P x → All P xs → (k d : ℕ) → k < length (x ∷ xs) → P (get_or (x ∷ xs) k d)
    go first later zero d less = first
    go first later (suc k) d less = later k d (omega (arith, less))

module _ (s : State) (facts : List StockFact) (rights : List StockSeat) (ds : List Deed) (xs : List (List StockSeat)) (drawn : List Drawing)
    (long : length rights ≡ length facts) (lots : AreLotsBy s facts rights) (once : AreOnceAt rights xs) (all : AllSeats facts (reverse ds) xs)
    (same : IsPermutation (drawn_in_deeds ds) drawn) where
  total : (i : Interval) (n : ℕ) → times n (numbers_of i drawn) ≡ sum_by (of_deed i n) (reverse ds)
  total i n =
      counted_same i n (drawn_in_deeds ds) drawn same ∙ of_deeds i n ds ∙ sym (sum_by-IsPermutation (of_deed i n) ds (reverse ds) (IsPermutation-reverse ds))

  stock_within : (place : ℕ) (f : StockFact) (r : StockSeat) → slice_get facts place ≡ Some f → slice_get rights place ≡ Some r → IsWithinStock s drawn f
  stock_within place f r at there = record {
    once = λ n. by n (below n f.base);
    low = all_there (λ n. f.base ≤ n) (numbers_of f.interval drawn) (λ n some. low n some (below n f.base));
    high = all_there (λ n. n ≤ level_in s.stored.levels f.interval) (numbers_of f.interval drawn) (λ n some. high n some (below n f.base));
  }
    where
      below : (n base : ℕ) → (n < base) ⊎ (base ≤ n)
      below n base = split (nat_less n base)
        where
          nat_less : (a b : ℕ) → (a < b) ⊎ (b ≤ a)
          nat_less a zero = inr (omega arith)
          nat_less zero (suc b) = inl (omega arith)
          nat_less (suc a) (suc b) = elim (nat_less a b) as (λ _. (suc a < suc b) ⊎ (suc b ≤ suc a)) [ inl x ↦ inl (omega (arith, x)) | inr x ↦ inr (omega (arith, x)) ]

          split : (n < base) ⊎ (base ≤ n) → (n < base) ⊎ (base ≤ n)
          split x = x

      none_below : (n : ℕ) → n < f.base → times n (numbers_of f.interval drawn) ≡ 0
      none_below n less = total f.interval n ∙ deeds_down facts place f (reverse ds) xs n at all less

      few : (t : ℕ) → times (f.base + t) (numbers_of f.interval drawn) ≤ sum_by (told_at place t) xs
      few t = let e = total f.interval (f.base + t) in let le = deeds_up facts place f (reverse ds) xs t at all in omega (arith, e, le)

      ticket : (n : ℕ) → f.base ≤ n → f.base + (n - f.base) ≡ n
      ticket n le = omega (arith, le)

      few_at : (n : ℕ) → f.base ≤ n → times n (numbers_of f.interval drawn) ≤ sum_by (told_at place (n - f.base)) xs
      few_at n le = subst (λ m. times m (numbers_of f.interval drawn) ≤ sum_by (told_at place (n - f.base)) xs) (ticket n le) (few (n - f.base))

      by : (n : ℕ) → (n < f.base) ⊎ (f.base ≤ n) → times n (numbers_of f.interval drawn) < 2
      by n (inl less) = let z = none_below n less in omega (arith, z)
      by n (inr le) = let a = few_at n le in let b = (once place (n - f.base) r there).0 in omega (arith, a, b)

      low : (n : ℕ) → 0 < times n (numbers_of f.interval drawn) → (n < f.base) ⊎ (f.base ≤ n) → f.base ≤ n
      low n some (inl less) = absurd (let z = none_below n less in omega (arith, z, some))
      low n some (inr le) = le

      high : (n : ℕ) → 0 < times n (numbers_of f.interval drawn) → (n < f.base) ⊎ (f.base ≤ n) → n ≤ level_in s.stored.levels f.interval
      high n some (inl less) = absurd (let z = none_below n less in omega (arith, z, some))
      high n some (inr le) =
          let a = few_at n le in
          let b : n - f.base < (hand r).limit = (once place (n - f.base) r there).1 (omega (arith, a, some)) in
          let c = lot_level s facts rights place f r at there lots in
          omega (arith, b, c, le)

  -- ---- of all stocks

  right_at : (place : ℕ) (f : StockFact) → slice_get facts place ≡ Some f → (r : StockSeat) × (slice_get rights place ≡ Some r)
  right_at place f at = got rights place (let less = within facts place f at in omega (arith, less, long))
    where
      got : (zs : List StockSeat) (k : ℕ) → k < length zs → (r : StockSeat) × (slice_get zs k ≡ Some r)
      got [] k less = absurd (omega (arith, less))
      got (z ∷ zs) zero less = (z, refl)
      got (z ∷ zs) (suc k) less = got zs k (omega (arith, less))

      within : (gs : List StockFact) (k : ℕ) (g : StockFact) → slice_get gs k ≡ Some g → k < length gs
      within [] k g h = absurd (no_fact g h)
      within (x ∷ gs) zero g h = omega arith
      within (x ∷ gs) (suc k) g h = let less = within gs k g h in omega (arith, less)

  no_numbers : (i : Interval) → is_of_stock facts i.object i.nr ≡ false → numbers_of i drawn ≡ []
  no_numbers i none = empty (numbers_of i drawn) (λ n. total i n ∙ nothing (reverse ds) xs n all)
    where
      empty : (ns : List ℕ) → ((n : ℕ) → times n ns ≡ 0) → ns ≡ []
      empty [] h = refl
      empty (n ∷ ns) h = absurd (let one : one_if (n == n) ≡ 1 = grind (arith, nat_tests) in omega (arith, times_cons n n ns, h n))

      no_name : (ns : List Num) → are_of_stocks facts ns ≡ true → AllByRecursion (λ (num : Num). interval_of num ≡ name_of i → ⊥) ns
      no_name [] h = tt
      no_name (num ∷ ns) h =
          let p = and_parts (is_of_stock facts num.object num.nr) (are_of_stocks facts ns) h in
          ((λ e. true≢false (sym p.0 ∙ ((λ k. is_of_stock facts (e k).0 (e k).1) ∙ none))), no_name ns p.1)

      deed_none : (d : Deed) (x : List StockSeat) (n : ℕ) → AreSeatsOf facts d x → of_deed i n d ≡ 0
      deed_none d x n h = by d.who
        where
          own : times n (numbers_of i d.drawn.items) ≡ 0
          own = ap (times n) (none_from (name_of i) (nums d.drawn.items) (no_name (nums d.drawn.items) h.known))

          by : (w : Who) → times n (numbers_of i (drawn_by w (left_of d))) ≡ 0
          by (caller.Session s') = own
          by w = refl

      nothing : (es : List Deed) (ys : List (List StockSeat)) (n : ℕ) → AllSeats facts es ys → sum_by (of_deed i n) es ≡ 0
      nothing [] ys n h = refl
      nothing (d ∷ es) [] n h = absurd h
      nothing (d ∷ es) (y ∷ ys) n h = omega (arith, sum_by-cons (of_deed i n) d es, deed_none d y n h.0, nothing es ys n h.1)

  pub within_stocks : AreWithinStocks s facts drawn
  within_stocks = record {
    each = every facts (λ place f at. let r = right_at place f at in stock_within place f r.0 at r.1);
    known = no_numbers;
  }
    where
      every : (gs : List StockFact) → ((place : ℕ) (f : StockFact) → slice_get gs place ≡ Some f → IsWithinStock s drawn f)
          → AllByRecursion (IsWithinStock s drawn) gs
      every [] h = tt
      every (g ∷ gs) h = (h 0 g refl, every gs (λ place f at. h (suc place) f at))

-- ---- of the intervals of the landscape

either : (b : Bool) → (b ≡ true) ⊎ (b ≡ false)
either true = inl refl
either false = inr refl

-- the stock of a name
stock_of_name : (facts : List StockFact) (s : State) (drawn : List Drawing) (object nr : List ℕ) → is_of_stock facts object nr ≡ true
    → (P : StockFact → Type 0) → AllByRecursion P facts → (f : StockFact) × (is_named object nr f.interval ≡ true) × P f
stock_of_name [] s drawn object nr h P all = absurd (true≢false (sym h))
stock_of_name (g ∷ facts) s drawn object nr h P all = by (is_named object nr g.interval) refl h (λ later. stock_of_name facts s drawn object nr later P all.1)
  where
    by : (b : Bool) → is_named object nr g.interval ≡ b → (b || is_of_stock facts object nr) ≡ true
        → (is_of_stock facts object nr ≡ true → (f : StockFact) × (is_named object nr f.interval ≡ true) × P f)
        → (f : StockFact) × (is_named object nr f.interval ≡ true) × P f
    by true on either later = (g, on, all.0)
    by false off either later = later either

-- a fact of each stock beside another
beside : (P Q : StockFact → Type 0) (facts : List StockFact) → AllByRecursion P facts → AllByRecursion Q facts
    → AllByRecursion (λ (f : StockFact). P f × Q f) facts
beside P Q [] h k = tt
beside P Q (f ∷ facts) h k = ((h.0, k.0), beside P Q facts h.1 k.1)

-- two lists of what each stock has
each_same : {X : Type 0} (p q : StockFact → X) (facts : List StockFact) → map p facts ≡ map q facts → AllByRecursion (λ (f : StockFact). p f ≡ q f) facts
each_same p q [] h = tt
each_same p q (f ∷ facts) h = (heads _ _ _ _ h, each_same p q facts (tails _ _ _ _ h))

pub within_land : (is : List Interval) (facts : List StockFact) (first s : State) (drawn : List Drawing) → AreApart is → AreOfLand is facts
    → map (λ (f : StockFact). f.base) facts ≡ map (λ (f : StockFact). level_in first.stored.levels f.interval + 1) facts
    → AreWithinStocks s facts drawn → (i : Interval) → Contains is i → is_buffered i ≡ true → AreWithin first s drawn i
within_land is facts first s drawn apart land bases w i there buffered = by (either (is_of_stock facts i.object i.nr))
  where
    Found : StockFact → Type 0
    Found f = interval_at is f.interval.object f.interval.nr ≡ Some f.interval

    Based : StockFact → Type 0
    Based f = f.base ≡ level_in first.stored.levels f.interval + 1

    Whole : StockFact → Type 0
    Whole f = IsWithinStock s drawn f × (Found f × Based f)

    all : AllByRecursion Whole facts
    all = beside (IsWithinStock s drawn) (λ f. Found f × Based f) facts w.each
        (beside Found Based facts (each_same (λ (f : StockFact). interval_at is f.interval.object f.interval.nr) (λ (f : StockFact). Some f.interval) facts land.0)
        (each_same (λ (f : StockFact). f.base) (λ (f : StockFact). level_in first.stored.levels f.interval + 1) facts bases))

    of_stock : (f : StockFact) → f.interval ≡ i → Whole f → AreWithin first s drawn i
    of_stock f same h = subst (AreWithin first s drawn) same (record {
      once = h.0.once;
      above = λ k d less. let a = h.0.low k d less in let b = h.1.1 in omega (arith, a, b);
      within = h.0.high;
    })

    by : (is_of_stock facts i.object i.nr ≡ true) ⊎ (is_of_stock facts i.object i.nr ≡ false) → AreWithin first s drawn i
    by (inl on) =
        let f = stock_of_name facts s drawn i.object i.nr on Whole all in
        let name : name_of f.0.interval ≡ name_of i = named_is i.object i.nr f.0.interval f.1 in
        let member : Contains is f.0.interval = (found_named f.0.interval.object f.0.interval.nr is f.0.interval f.2.1.0).1 in
        of_stock f.0 (one_interval is f.0.interval i apart member there name) f.2
    by (inr off) =
        let none = w.known i off in record {
          once = λ n. let z : times n (numbers_of i drawn) ≡ 0 = ap (times n) none in omega (arith, z);
          above = subst (All (λ n. level_in first.stored.levels i < n)) (sym none) (λ k d less. absurd (omega (arith, less)));
          within = subst (All (λ n. n ≤ level_in s.stored.levels i)) (sym none) (λ k d less. absurd (omega (arith, less)));
        }
