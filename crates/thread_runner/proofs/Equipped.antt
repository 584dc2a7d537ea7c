-- Seats that have as many draws as an actor's lines ask for.
use Rattle.std.proofs.Common.{◌≡◌, ◌≤◌, Bool, true, false, true≢false, cond, List, [], ◌∷◌, ◌++◌, map, refl, sym, ap, ◌∙◌, subst, arith}
use Rattle.std.proofs.lemmas.List.{map_push}
use Rattle.std.specs.Prelude.{◌||◌, Contains, Some, count_by}
use Rattle.std.specs.List.{AllByRecursion, filter}
use Rattle.draw_laws.proofs.Counting.{count_none, none_counted}
use Rattle.draw_laws.proofs.IntervalNames.{named_is, one_interval}
use Rattle.hall_model.specs.declared.command.PastEntry.{PastEntry}
use Rattle.hall_model.specs.declared.command.Who.{Who}
use Rattle.hall_model.specs.declared.command.Who.TheVariants as caller
use Rattle.ledger_steps.specs.Levels.{AreApart}
use Rattle.number_ranges.specs.Intervals.{is_named}
use Rattle.number_ranges.specs.declared.interval.Interval.{Interval}
use Rattle.number_stock.specs.declared.seat.StockSeat.{StockSeat}
use Rattle.script_actors.specs.Actors.{HasEnough, is_number_of, lines_of_actor, numbers_asked}
use Rattle.script_actors.specs.Doers.{is_done_by}
use Rattle.script_actors.specs.Drawings.{interval_at}
use Rattle.script_actors.specs.declared.line.NumberedLine.{NumberedLine}
use Rattle.script_lang.specs.declared.script_line.ScriptLine.{ScriptLine}
use Rattle.script_lang.specs.declared.script_line.ScriptLine.TheVariants as line
use Rattle.turn_desks.specs.Stocks.{AreFresh, AreOfLand, AreSeatsAt, StockFact, draws_of, is_of_stock, is_session, left_in}
use Rattle.turn_lock.specs.declared.history.History.{Ghosts}
use Rattle.thread_runner.specs.Kits.{IsKitFor}
use Rattle.thread_runner.specs.Stocking.{AreSeatsFor, Cover, asked_of}
use Rattle.thread_runner.specs.declared.equipping.Kit.{Kit}
use Rattle.thread_runner.proofs.Begun.{found_named}

-- ---- lines of another ask for nothing

not_number : (i : Interval) (w : Who) → is_session w ≡ false → (l : ScriptLine) → is_done_by w l ≡ true → is_number_of i l ≡ false
not_number i (caller.Session s) none l own = absurd (true≢false none)
not_number i (caller.Worker w) none (line.Num s object nr variable) own = absurd (true≢false (sym own))
not_number i caller.Admin none (line.Num s object nr variable) own = absurd (true≢false (sym own))
not_number i w none l own = refl

abbrev NoNumber : Interval → NumberedLine → Type 0
NoNumber i l = is_number_of i l.line ≡ false

others_none : (i : Interval) (w : Who) → is_session w ≡ false → (lines : List NumberedLine) → AllByRecursion (NoNumber i) (lines_of_actor w lines)
others_none i w none [] = tt
others_none i w none (l ∷ lines) = by (is_done_by w l.line) refl (others_none i w none lines)
  where
    by : (b : Bool) → is_done_by w l.line ≡ b → AllByRecursion (NoNumber i) (lines_of_actor w lines)
        → AllByRecursion (NoNumber i) (cond b (l ∷ lines_of_actor w lines) (lines_of_actor w lines))
    by true own rest = (not_number i w none l.line own, rest)
    by false off rest = rest

none_asked : (i : Interval) (w : Who) (lines : List NumberedLine) → is_session w ≡ false → numbers_asked i w lines ≡ 0
none_asked i w lines none = count_none (λ (l : NumberedLine). is_number_of i l.line) (lines_of_actor w lines) (others_none i w none lines)

left_none : (facts : List StockFact) (w : Who) (lines : List NumberedLine) (i : Interval) → is_session w ≡ false → left_in facts (asked_of facts w lines) i ≡ 0
left_none [] w lines i none = refl
left_none (f ∷ facts) w lines i none = by (is_named i.object i.nr f.interval) (left_none facts w lines i none)
  where
    by : (b : Bool) → left_in facts (asked_of facts w lines) i ≡ 0 → cond b (numbers_asked f.interval w lines) (left_in facts (asked_of facts w lines) i) ≡ 0
    by true rest = none_asked f.interval w lines none
    by false rest = rest

-- ---- lines of an interval without a stock

all_filtered : {X : Type 0} (P : X → Type 0) (q : X → Bool) (xs : List X) → AllByRecursion P xs → AllByRecursion P (filter q xs)
all_filtered P q [] h = tt
all_filtered P q (x ∷ xs) h = by (q x) (all_filtered P q xs h.1)
  where
    by : (b : Bool) → AllByRecursion P (filter q xs) → AllByRecursion P (cond b (x ∷ filter q xs) (filter q xs))
    by true rest = (h.0, rest)
    by false rest = rest

none_covered : (i : Interval) (w : Who) (lines : List NumberedLine) → count_by (λ (l : NumberedLine). is_number_of i l.line) lines ≡ 0
    → numbers_asked i w lines ≡ 0
none_covered i w lines none =
    count_none (λ (l : NumberedLine). is_number_of i l.line) (lines_of_actor w lines)
    (all_filtered (NoNumber i) (λ (l : NumberedLine). is_done_by w l.line) lines (none_counted (λ (l : NumberedLine). is_number_of i l.line) lines none))

-- ---- all intervals

abbrev Found : List Interval → StockFact → Type 0
Found is f = interval_at is f.interval.object f.interval.nr ≡ Some f.interval

heads : {X : Type 0} (a b : X) (xs ys : List X) → (a ∷ xs) ≡ (b ∷ ys) → a ≡ b
heads a b xs ys e = cc

tails : {X : Type 0} (a b : X) (xs ys : List X) → (a ∷ xs) ≡ (b ∷ ys) → xs ≡ ys
tails a b xs ys e = cc

all_found : (is : List Interval) (facts : List StockFact)
    → map (λ (f : StockFact). interval_at is f.interval.object f.interval.nr) facts ≡ map (λ (f : StockFact). Some f.interval) facts
    → AllByRecursion (Found is) facts
all_found is [] h = tt
all_found is (f ∷ facts) h = (heads _ _ _ _ h, all_found is facts (tails _ _ _ _ h))

left_asked : (is : List Interval) (facts : List StockFact) (w : Who) (lines : List NumberedLine) (i : Interval) → AreApart is → Contains is i
    → AllByRecursion (Found is) facts → is_of_stock facts i.object i.nr ≡ true → left_in facts (asked_of facts w lines) i ≡ numbers_asked i w lines
left_asked is [] w lines i apart there found has = absurd (true≢false (sym has))
left_asked is (f ∷ facts) w lines i apart there found has =
    by (is_named i.object i.nr f.interval) refl has (λ later. left_asked is facts w lines i apart there found.1 later)
  where
    by : (b : Bool) → is_named i.object i.nr f.interval ≡ b → (b || is_of_stock facts i.object i.nr) ≡ true
        → (is_of_stock facts i.object i.nr ≡ true → left_in facts (asked_of facts w lines) i ≡ numbers_asked i w lines)
        → cond b (numbers_asked f.interval w lines) (left_in facts (asked_of facts w lines) i) ≡ numbers_asked i w lines
    by true on either later =
        let member : Contains is f.interval = (found_named f.interval.object f.interval.nr is f.interval found.0).1 in
        ap (λ j. numbers_asked j w lines) (one_interval is f.interval i apart member there (named_is i.object i.nr f.interval on))
    by false off either later = later either

enough_for : (is : List Interval) (facts : List StockFact) (lines : List NumberedLine) (w : Who) → AreApart is → AreOfLand is facts → Cover is facts lines
    → HasEnough is w lines (left_in facts (asked_of facts w lines))
enough_for is facts lines w apart land cover i there buffered = by (is_of_stock facts i.object i.nr) refl
  where
    by : (b : Bool) → is_of_stock facts i.object i.nr ≡ b → numbers_asked i w lines ≤ left_in facts (asked_of facts w lines) i
    by true on = let same = left_asked is facts w lines i apart there (all_found is facts land.0) on in omega (arith, same)
    by false off = let none = none_covered i w lines (cover i there buffered off) in omega (arith, none)

pub seats_for : (is : List Interval) (facts : List StockFact) (lines : List NumberedLine) (w : Who) (seats : List StockSeat) → AreApart is
    → AreOfLand is facts → Cover is facts lines → AreSeatsAt facts seats → AreFresh seats → draws_of seats ≡ asked_of facts w lines
    → AreSeatsFor is facts lines w seats
seats_for is facts lines w seats apart land cover own fresh draws = record {
  own = own;
  fresh = fresh;
  enough = subst (λ ns. HasEnough is w lines (left_in facts ns)) (sym draws) (enough_for is facts lines w apart land cover);
  drawer = λ none i. ap (λ ns. left_in facts ns i) draws ∙ left_none facts w lines i none;
}

-- ---- one kit more

all_last : {X : Type 0} (P : X → Type 0) (xs : List X) (x : X) → AllByRecursion P xs → P x → AllByRecursion P (xs ++ x ∷ [])
all_last P [] x each one = (one, tt)
all_last P (y ∷ ys) x each one = (each.0, all_last P ys x each.1 one)

module _ {S : Type 0} {g : Ghosts S PastEntry} where
  pub kits_who : (kits now : List (Kit S g)) (k : Kit S g) (ws : List Who) (w : Who) → now ≡ kits ++ k ∷ [] → map (λ (x : Kit S g). x.who) kits ≡ ws
      → k.who ≡ w → map (λ (x : Kit S g). x.who) now ≡ ws ++ w ∷ []
  kits_who kits now k ws w is was own =
      ap (map (λ (x : Kit S g). x.who)) is ∙ (map_push (λ (x : Kit S g). x.who) kits k ∙ (λ i. was i ++ own i ∷ []))

  pub kits_more : (intervals : List Interval) (facts : List StockFact) (lines : List NumberedLine) (kits now : List (Kit S g)) (k : Kit S g)
      → now ≡ kits ++ k ∷ [] → AllByRecursion (IsKitFor intervals facts lines) kits → IsKitFor intervals facts lines k
      → AllByRecursion (IsKitFor intervals facts lines) now
  kits_more intervals facts lines kits now k is each one =
      subst (AllByRecursion (IsKitFor intervals facts lines)) (sym is) (all_last (IsKitFor intervals facts lines) kits k each one)
