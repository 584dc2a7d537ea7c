-- One stock more, before the first call.
use Rattle.std.proofs.Common.{◌≡◌, inl, inr, ℕ, suc, ◌+◌, Bool, true, false, true≢false, cond, List, [], ◌∷◌, ◌++◌, length, map, refl, sym, ap, ◌∙◌, subst, arith}
use Rattle.std.proofs.lemmas.Bool.{or_parts}
use Rattle.std.proofs.lemmas.Bool.Decides.{nat_tests}
use Rattle.std.proofs.lemmas.List.{map-append}
use Rattle.std.proofs.lemmas.List.Folds.{list_all-append, list_any-append}
use Rattle.std.specs.Prelude.{◌&&◌, ◌||◌, not, Contains, Some, None}
use Rattle.std.specs.List.{find}
use Rattle.std.specs.Option.{option_map}
use Rattle.draw_laws.proofs.Counting.{count_append, count_none}
use Rattle.draw_laws.proofs.IntervalNames.{contains_cases, contains_first, contains_more, contains_none, is_named_so, named_is, one_interval}
use Rattle.hall_model.specs.State.{State, opened}
use Rattle.ledger_steps.specs.Levels.{AreApart, AreIntervals, FitRows, first_range, intervals_of, level_in, name_of, range_at}
use Rattle.ledger_steps.specs.Starts.{IsRaised}
use Rattle.ledger_steps.specs.declared.range.NumberRange.{NumberRange}
use Rattle.number_ranges.specs.Intervals.{is_buffered, is_named}
use Rattle.number_ranges.specs.declared.interval.Interval.{Interval}
use Rattle.number_stock.specs.Seats.{hand}
use Rattle.number_stock.specs.declared.seat.StockSeat.{StockSeat}
use Rattle.script_actors.specs.Actors.{is_number_of}
use Rattle.script_actors.specs.Drawings.{interval_at}
use Rattle.script_actors.specs.declared.line.NumberedLine.{NumberedLine}
use Rattle.script_lang.specs.declared.script_line.ScriptLine.{ScriptLine}
use Rattle.script_lang.specs.declared.script_line.ScriptLine.TheVariants as line
use Rattle.stock_laws.specs.Stocked.{IsStocked, first_lot}
use Rattle.store_reading.specs.Good.{IsSound}
use Rattle.turn_desks.specs.Stocks.{AreLots, StockFact, answered_of, are_apart, fact_of, is_of_stock, limits_of, lot_of}
use Rattle.turn_desks.specs.declared.stocks.IntervalStock.{IntervalStock}
use Rattle.update_records.specs.Ledger.{Ledger}
use Rattle.thread_runner.specs.Stocking.{AreBegun, Cover, IsOpened}
use Rattle.thread_runner.proofs.Opening.{opened_intervals, opened_next, range_interval}

-- ---- names

some_same : {X : Type 0} (x y : X) → Some x ≡ Some y → x ≡ y
some_same x y e = cc

none_not : {X : Type 0} (x : X) → None ≡ Some x → ⊥
none_not x e = cc

-- what is found has the name, and is one of them
pub found_named : (object nr : List ℕ) (is : List Interval) (i : Interval) → interval_at is object nr ≡ Some i → (name_of i ≡ (object, nr)) × Contains is i
found_named object nr [] i h = absurd (none_not i h)
found_named object nr (x ∷ is) i h = by (is_named object nr x) refl h (λ e. found_named object nr is i e)
  where
    by : (b : Bool) → is_named object nr x ≡ b → cond b (Some x) (find (is_named object nr) is) ≡ Some i
        → (interval_at is object nr ≡ Some i → (name_of i ≡ (object, nr)) × Contains is i) → (name_of i ≡ (object, nr)) × Contains (x ∷ is) i
    by true named e later =
        let same : x ≡ i = some_same x i e in
        (ap name_of (sym same) ∙ named_is object nr x named, subst (Contains (x ∷ is)) same (contains_first is x))
    by false off e later = let rest = later e in (rest.0, contains_more is x i rest.1)

-- of intervals with names of their own each is found by its name
pub interval_found : (is : List Interval) (i : Interval) → AreApart is → Contains is i → interval_at is i.object i.nr ≡ Some i
interval_found [] i apart there = absurd (contains_none i there)
interval_found (x ∷ is) i apart there = by (is_named i.object i.nr x) refl (λ rest. interval_found is i apart.1 rest)
  where
    by : (b : Bool) → is_named i.object i.nr x ≡ b → (Contains is i → find (is_named i.object i.nr) is ≡ Some i)
        → cond b (Some x) (find (is_named i.object i.nr) is) ≡ Some i
    by true named later = ap (λ (y : Interval). Some y) (one_interval (x ∷ is) x i apart (contains_first is x) there (named_is i.object i.nr x named))
    by false off later = elim (contains_cases x is i there) as (λ _. find (is_named i.object i.nr) is ≡ Some i) [
      | inl e ↦ absurd (true≢false (sym (is_named_so i.object i.nr x (ap name_of e)) ∙ off))
      | inr rest ↦ later rest
    ]

-- ---- stocks of intervals with names of their own

same_name : (i j : Interval) → name_of i ≡ name_of j → is_named i.object i.nr j ≡ true
same_name i j e = is_named_so i.object i.nr j (sym e)

abbrev of_stock : StockFact → StockFact → Bool
of_stock f g = is_named f.interval.object f.interval.nr g.interval

-- a name that no stock has is none of theirs, told from the other side
apart_more : (facts : List StockFact) (f : StockFact) → is_of_stock facts f.interval.object f.interval.nr ≡ false → are_apart facts ≡ true
    → are_apart (facts ++ f ∷ []) ≡ true
apart_more [] f none apart = refl
apart_more (g ∷ facts) f none apart =
    let p = or_parts (of_stock f g) (is_of_stock facts f.interval.object f.interval.nr) none in
    let q = and_of (not (is_of_stock facts g.interval.object g.interval.nr)) (are_apart facts) apart in
    both (not (is_of_stock (facts ++ f ∷ []) g.interval.object g.interval.nr)) (are_apart (facts ++ f ∷ []))
    (ap not (list_any-append (λ (x : StockFact). is_named g.interval.object g.interval.nr x.interval) facts (f ∷ [])
    ∙ (λ k. is_of_stock facts g.interval.object g.interval.nr || (turned p.0 k || false)) ∙ none_more (is_of_stock facts g.interval.object g.interval.nr) q.0))
    (apart_more facts f p.1 q.1)
  where
    and_of : (a b : Bool) → (a && b) ≡ true → (a ≡ true) × (b ≡ true)
    and_of true b h = (refl, h)
    and_of false b h = absurd (true≢false (sym h))

    both : (a b : Bool) → a ≡ true → b ≡ true → (a && b) ≡ true
    both a b x y = rw (x, y) refl

    none_more : (a : Bool) → not a ≡ true → (a || (false || false)) ≡ false
    none_more true h = absurd (true≢false (sym h))
    none_more false h = refl

    turned : of_stock f g ≡ false → of_stock g f ≡ false
    turned off = by (of_stock g f) refl
      where
        by : (b : Bool) → of_stock g f ≡ b → of_stock g f ≡ false
        by true on =
            absurd (true≢false
            (sym (is_named_so f.interval.object f.interval.nr g.interval (sym (named_is g.interval.object g.interval.nr f.interval on))) ∙ off))
        by false off = off

-- ---- lots

abbrev pub LotLaw : Type 0
LotLaw = (max_locks mark_limit : ℕ) (intervals : List Interval) (told link_told : Bool) (ledger : Ledger) (i : Interval) → AreIntervals intervals
    → FitRows intervals ledger.levels → IsRaised IsSound true ledger → Contains intervals i → is_buffered i ≡ true
    → IsStocked (opened max_locks mark_limit intervals told link_told ledger) (first_lot ledger.levels i)

lot_begun : LotLaw → (s : State) (o : IsOpened s) (f : StockFact) (limit : ℕ) (handed : List ℕ) → Contains o.intervals f.interval
    → is_buffered f.interval ≡ true → f.base ≡ level_in s.stored.levels f.interval + 1 → limit ≡ 0 → handed ≡ [] → IsStocked s (lot_of f limit handed)
lot_begun law s o f limit handed there buffered base none unhanded =
    subst (IsStocked s) (λ k. record { interval = f.interval; base = sym base k; limit = sym none k; handed = sym unhanded k })
    (subst (λ x. IsStocked x (first_lot s.stored.levels f.interval)) (sym o.is)
    (law o.max_locks o.mark_limit o.intervals o.told o.linked s.stored f.interval o.known o.fits o.sound there buffered))

lots_more : (s : State) (facts : List StockFact) (limits : List ℕ) (handed : List (List ℕ)) (f : StockFact) (n : ℕ) (hs : List ℕ)
    → length limits ≡ length facts → length handed ≡ length facts → AreLots s facts limits handed → IsStocked s (lot_of f n hs)
    → AreLots s (facts ++ f ∷ []) (limits ++ n ∷ []) (handed ++ hs ∷ [])
lots_more s [] [] [] f n hs long tall lots one = (one, tt)
lots_more s [] [] (h ∷ handed) f n hs long tall lots one = absurd (omega (arith, tall))
lots_more s [] (m ∷ limits) handed f n hs long tall lots one = absurd (omega (arith, long))
lots_more s (g ∷ facts) [] handed f n hs long tall lots one = absurd (omega (arith, long))
lots_more s (g ∷ facts) (m ∷ limits) [] f n hs long tall lots one = absurd (omega (arith, tall))
lots_more s (g ∷ facts) (m ∷ limits) (h ∷ handed) f n hs long tall lots one =
    (lots.0, lots_more s facts limits handed f n hs (omega (arith, long)) (omega (arith, tall)) lots.1 one)

pub mapped_long : {X Y Z : Type 0} (p : X → Z) (q : Y → Z) (xs : List X) (ys : List Y) → map p xs ≡ map q ys → length xs ≡ length ys
mapped_long p q xs ys e = sym (long p xs) ∙ (ap length e ∙ long q ys)
  where
    long : {V W : Type 0} (f : V → W) (vs : List V) → length (map f vs) ≡ length vs
    long f [] = refl
    long f (v ∷ vs) = ap suc (long f vs)

map_long : {V W : Type 0} (f : V → W) (vs : List V) → length (map f vs) ≡ length vs
map_long f [] = refl
map_long f (v ∷ vs) = ap suc (map_long f vs)

-- ---- one stock more

-- a right that was just made, of a stock of this interval
pub record IsNewStock (s : State) (f : StockFact) (right : StockSeat) : Type 0 where
  pub base : f.base ≡ level_in s.stored.levels f.interval + 1
  pub table : right.seat.table_id ≡ f.table
  pub raises : (hand right).raises ≡ true
  pub limit : (hand right).limit ≡ 0
  pub answered : (hand right).answered ≡ []

pub begun_more : LotLaw → (s : State) → IsOpened s → (facts : List StockFact) (rights : List StockSeat) (f : StockFact) (right : StockSeat) (object nr : List ℕ)
    → interval_at (intervals_of s.ranges) object nr ≡ Some f.interval → is_buffered f.interval ≡ true → is_of_stock facts object nr ≡ false
    → IsNewStock s f right
    → AreBegun s (intervals_of s.ranges) facts rights → AreBegun s (intervals_of s.ranges) (facts ++ f ∷ []) (rights ++ right ∷ [])
begun_more law s o facts rights f right object nr found buffered none new b =
    let is = intervals_of s.ranges in
    let named = found_named object nr is f.interval found in
    let at : interval_at is f.interval.object f.interval.nr ≡ Some f.interval = (λ k. interval_at is (named.0 k).0 (named.0 k).1) ∙ found in
    let there : Contains o.intervals f.interval = subst (λ l. Contains l f.interval) (opened_intervals s o) named.1 in
    let long : length rights ≡ length facts = mapped_long _ _ rights facts b.rights in
    record {
      land = (
        map-append (λ (x : StockFact). interval_at is x.interval.object x.interval.nr) facts (f ∷ [])
            ∙ (λ k. b.land.0 k ++ at k ∷ []) ∙ sym (map-append (λ (x : StockFact). Some x.interval) facts (f ∷ [])),
        list_all-append (λ (x : StockFact). is_buffered x.interval) facts (f ∷ [])
            ∙ (λ k. b.land.1 k && (buffered k && true)),
        apart_more facts f ((λ k. is_of_stock facts (named.0 k).0 (named.0 k).1) ∙ none) b.land.2,
      );
      rights =
          map-append (λ (x : StockSeat). (x.seat.table_id, (hand x).raises)) rights (right ∷ [])
          ∙ (λ k. b.rights k ++ (new.table k, new.raises k) ∷ [])
          ∙ sym (map-append (λ (x : StockFact). (x.table, true)) facts (f ∷ []));
      lots =
          subst (λ hs. AreLots s (facts ++ f ∷ []) (limits_of (rights ++ right ∷ [])) hs)
          (sym (map-append (λ (x : StockSeat). (hand x).answered) rights (right ∷ [])))
          (subst (λ ns. AreLots s (facts ++ f ∷ []) ns (answered_of rights ++ (hand right).answered ∷ []))
          (sym (map-append (λ (x : StockSeat). (hand x).limit) rights (right ∷ [])))
          (lots_more s facts (limits_of rights) (answered_of rights) f (hand right).limit (hand right).answered
          (map_long (λ (x : StockSeat). (hand x).limit) rights ∙ long) (map_long (λ (x : StockSeat). (hand x).answered) rights ∙ long) b.lots
          (lot_begun law s o f (hand right).limit (hand right).answered there buffered new.base new.limit new.answered)));
      bases =
          map-append (λ (x : StockFact). x.base) facts (f ∷ []) ∙ (λ k. b.bases k ++ new.base k ∷ [])
          ∙ sym (map-append (λ (x : StockFact). level_in s.stored.levels x.interval + 1) facts (f ∷ []));
    }

-- what was of a stock still is
or_still : (a b : Bool) → a ≡ true → (a || b) ≡ true
or_still true b h = refl
or_still false b h = absurd (true≢false (sym h))

or_last : (a b : Bool) → b ≡ true → (a || (b || false)) ≡ true
or_last true b h = refl
or_last false true h = refl
or_last false false h = h

pub stock_still : (facts : List StockFact) (f : StockFact) (object nr : List ℕ) → is_of_stock facts object nr ≡ true
    → is_of_stock (facts ++ f ∷ []) object nr ≡ true
stock_still facts f object nr h =
    list_any-append (λ (x : StockFact). is_named object nr x.interval) facts (f ∷ [])
    ∙ or_still (is_of_stock facts object nr) (is_of_stock (f ∷ []) object nr) h

-- and the new one's name is one
pub stock_new : (facts : List StockFact) (f : StockFact) (is : List Interval) (object nr : List ℕ) → interval_at is object nr ≡ Some f.interval
    → is_of_stock (facts ++ f ∷ []) object nr ≡ true
stock_new facts f is object nr found =
    list_any-append (λ (x : StockFact). is_named object nr x.interval) facts (f ∷ [])
    ∙ or_last (is_of_stock facts object nr) (is_named object nr f.interval) (is_named_so object nr f.interval (found_named object nr is f.interval found).0)

-- ---- as it is added

-- none yet
pub begun_none : (s : State) (is : List Interval) (stocks : List IntervalStock) (rights : List StockSeat) → stocks ≡ [] → rights ≡ []
    → AreBegun s is (map fact_of stocks) rights
begun_none s is stocks rights none empty =
    subst (λ (x : List IntervalStock × List StockSeat). AreBegun s is (map fact_of x.0) x.1) (λ i. (sym none i, sym empty i))
    (record { land = (refl, refl, refl); rights = refl; lots = tt; bases = refl })

-- what is found of ranges with these intervals
found_in : (own rs : List NumberRange) (object nr : List ℕ) (r : NumberRange) (i : Interval) → intervals_of own ≡ intervals_of rs
    → range_at own object nr ≡ Some r → r.interval ≡ i → interval_at (intervals_of rs) object nr ≡ Some i
found_in own rs object nr r i owned at is =
    ap (λ l. interval_at l object nr) (sym owned)
    ∙ (sym (range_interval own object nr) ∙ (ap (option_map (λ (x : NumberRange). x.interval)) at ∙ ap (λ (j : Interval). Some j) is))

-- a stock that was just made, with its right
pub record IsMade (new : IntervalStock) (right : StockSeat) : Type 0 where
  pub own : right.seat.table_id ≡ new.stock.table.shared.table_id
  pub raises : (hand right).raises ≡ true
  pub limit : (hand right).limit ≡ 0
  pub answered : (hand right).answered ≡ []

pub begun_added : LotLaw → (s : State) → IsOpened s → (found own : List NumberRange) (stocks now : List IntervalStock) (rights rights_now : List StockSeat)
    (r : NumberRange) (new : IntervalStock) (right : StockSeat) (object nr : List ℕ) → found ≡ s.ranges → intervals_of own ≡ intervals_of s.ranges
    → range_at own object nr ≡ Some r → r.interval ≡ new.interval → is_buffered new.interval ≡ true → is_of_stock (map fact_of stocks) object nr ≡ false
    → ((x : NumberRange) → range_at found object nr ≡ Some x → new.base ≡ x.next) → IsMade new right → now ≡ stocks ++ new ∷ []
    → rights_now ≡ rights ++ right ∷ [] → AreBegun s (intervals_of s.ranges) (map fact_of stocks) rights
    → AreBegun s (intervals_of s.ranges) (map fact_of now) rights_now
begun_added law s o found own stocks now rights rights_now r new right object nr same owned at is buffered none next made are righted begun =
    let i = new.interval in
    let there : interval_at (intervals_of s.ranges) object nr ≡ Some i = found_in own s.ranges object nr r i owned at is in
    let behind : range_at found object nr ≡ Some (first_range s.stored.levels i) =
    ap (λ rs. range_at rs object nr) same ∙ opened_next s o object nr i there in
    let one : IsNewStock s (fact_of new) right = record {
      base = next (first_range s.stored.levels i) behind;
      table = made.own;
      raises = made.raises;
      limit = made.limit;
      answered = made.answered;
    } in
    let facts : map fact_of stocks ++ fact_of new ∷ [] ≡ map fact_of now = sym (ap (map fact_of) are ∙ map-append fact_of stocks (new ∷ [])) in
    subst (λ (x : List StockFact × List StockSeat). AreBegun s (intervals_of s.ranges) x.0 x.1) (λ k. (facts k, sym righted k))
    (begun_more law s o (map fact_of stocks) rights (fact_of new) right object nr there buffered none one begun)

pub still_there : (stocks now : List IntervalStock) (new : IntervalStock) → now ≡ stocks ++ new ∷ [] → (object nr : List ℕ)
    → is_of_stock (map fact_of stocks) object nr ≡ true → is_of_stock (map fact_of now) object nr ≡ true
still_there stocks now new are object nr h =
    ap (λ fs. is_of_stock fs object nr) (ap (map fact_of) are ∙ map-append fact_of stocks (new ∷ []))
    ∙ stock_still (map fact_of stocks) (fact_of new) object nr h

pub new_there : (own : List NumberRange) (stocks now : List IntervalStock) (r : NumberRange) (new : IntervalStock) → now ≡ stocks ++ new ∷ []
    → (object nr : List ℕ) → range_at own object nr ≡ Some r → r.interval ≡ new.interval → is_of_stock (map fact_of now) object nr ≡ true
new_there own stocks now r new are object nr at is =
    ap (λ fs. is_of_stock fs object nr) (ap (map fact_of) are ∙ map-append fact_of stocks (new ∷ []))
    ∙ stock_new (map fact_of stocks) (fact_of new) (intervals_of own) object nr (found_in own own object nr r new.interval refl at is)

-- where there is no interval of the name
pub none_there : (own : List NumberRange) (object nr : List ℕ) (i : Interval) → range_at own object nr ≡ None
    → interval_at (intervals_of own) object nr ≡ Some i → ⊥
none_there own object nr i none at =
    none_not i (sym (ap (option_map (λ (x : NumberRange). x.interval)) none) ∙ (range_interval own object nr ∙ at))

-- or one without a buffer
pub same_there : (own : List NumberRange) (object nr : List ℕ) (r : NumberRange) (i : Interval) → range_at own object nr ≡ Some r
    → interval_at (intervals_of own) object nr ≡ Some i → r.interval ≡ i
same_there own object nr r i there at =
    some_same r.interval i (sym (ap (option_map (λ (x : NumberRange). x.interval)) there) ∙ (range_interval own object nr ∙ at))

pub without_buffer : (i : Interval) → i.buffer ≡ 0 → is_buffered i ≡ false
without_buffer i h = grind (arith, nat_tests)

pub with_buffer : (i : Interval) → (i.buffer ≡ 0 → ⊥) → is_buffered i ≡ true
with_buffer i h = grind (arith, nat_tests)

-- ---- which lines are covered

abbrev asks_for : Interval → NumberedLine → Bool
asks_for i l = is_number_of i l.line

pub cover_more : (is : List Interval) (old new : List StockFact) (lines : List NumberedLine) (l : NumberedLine)
    → ((object nr : List ℕ) → is_of_stock old object nr ≡ true → is_of_stock new object nr ≡ true)
    → ((i : Interval) → Contains is i → is_buffered i ≡ true → is_of_stock new i.object i.nr ≡ false → is_number_of i l.line ≡ false)
    → Cover is old lines → Cover is new (lines ++ l ∷ [])
cover_more is old new lines l grows one cover i there buffered none =
    let was : is_of_stock old i.object i.nr ≡ false = not_yet (is_of_stock old i.object i.nr) refl in
    count_append (asks_for i) lines (l ∷ [])
    ∙ (λ k. cover i there buffered was k + count_none (asks_for i) (l ∷ []) (one i there buffered none, tt) k)
  where
    not_yet : (b : Bool) → is_of_stock old i.object i.nr ≡ b → is_of_stock old i.object i.nr ≡ false
    not_yet true on = absurd (true≢false (sym (grows i.object i.nr on) ∙ none))
    not_yet false off = off

-- a line whose interval has a stock asks for no other
pub asks_none : (is : List Interval) (facts : List StockFact) (object nr : List ℕ) (i : Interval) → AreApart is → Contains is i
    → is_of_stock facts i.object i.nr ≡ false
    → ((j : Interval) → interval_at is object nr ≡ Some j → is_buffered j ≡ true → is_of_stock facts object nr ≡ true) → is_buffered i ≡ true
    → is_named object nr i ≡ false
asks_none is facts object nr i apart there none has buffered = by (is_named object nr i) refl
  where
    by : (b : Bool) → is_named object nr i ≡ b → is_named object nr i ≡ false
    by true on =
        let name : name_of i ≡ (object, nr) = named_is object nr i on in
        let at : interval_at is object nr ≡ Some i = (λ k. interval_at is (sym name k).0 (sym name k).1) ∙ interval_found is i apart there in
        absurd (true≢false (sym (has i at buffered) ∙ ((λ k. is_of_stock facts (sym name k).0 (sym name k).1) ∙ none)))
    by false off = off

pub num_covered : (is : List Interval) (facts : List StockFact) (s object nr variable : List ℕ) (l : NumberedLine) → AreApart is
    → l.line ≡ line.Num s object nr variable
    → ((j : Interval) → interval_at is object nr ≡ Some j → is_buffered j ≡ true → is_of_stock facts object nr ≡ true)
    → (i : Interval) → Contains is i → is_buffered i ≡ true → is_of_stock facts i.object i.nr ≡ false → is_number_of i l.line ≡ false
num_covered is facts s object nr variable l apart e has i there buffered none =
    ap (is_number_of i) e ∙ asks_none is facts object nr i apart there none has buffered

-- nor does one of another kind
pub other_covered : (i : Interval) (l : ScriptLine) → ((s object nr variable : List ℕ) → l ≡ line.Num s object nr variable → ⊥) → is_number_of i l ≡ false
other_covered i (line.Num s object nr variable) other = absurd (other s object nr variable refl)
other_covered i l other = refl
