-- What may be asked with the numbers of a desk.
use Rattle.std.proofs.Common.{◌≡◌, ℕ, Bool, true, false, true≢false, List, [], ◌∷◌, map, refl, sym, ap, ◌∙◌, subst}
use Rattle.std.specs.Prelude.{◌||◌, IfSome, Option, Some}
use Rattle.std.specs.List.{list_all}
use Rattle.std.proofs.lemmas.Bool.{and_parts, false≢true}
use Rattle.hall_model.specs.declared.command.Command.{Command}
use Rattle.hall_model.specs.declared.command.Command.TheVariants as command
use Rattle.draw_laws.proofs.IntervalNames.{named_is}
use Rattle.module_effects.specs.Rows.{RowName}
use Rattle.number_ranges.specs.Intervals.{is_buffered, is_named}
use Rattle.number_ranges.specs.declared.interval.Interval.{Interval}
use Rattle.number_stock.specs.declared.seat.StockSeat.{StockSeat}
use Rattle.order_workers.specs.Orders.{is_of_worker}
use Rattle.script_actors.specs.Actors.{MayAskIn}
use Rattle.script_actors.specs.Drawings.{DeskEntry, interval_at, stock_of}
use Rattle.turn_desks.specs.Stocks.{AreOfLand, IsStockOf, MayServe, StockFact, answered_of, are_of_stocks, is_of_stock, numbered, numbers_by}

-- a worker commits nothing
pub worker_may : (w : ℕ) (facts : List StockFact) (seats : List StockSeat) (c : Command) → is_of_worker w c ≡ true → MayServe facts seats c
worker_may w facts seats (command.Take1 x) h = tt
worker_may w facts seats (command.Take2 x) h = tt
worker_may w facts seats (command.Do1 x) h = tt
worker_may w facts seats (command.Do2 x) h = tt
worker_may w facts seats (command.DropOrder x) h = tt
worker_may w facts seats _ h = absurd (false≢true h)

-- of an interval by its name
pub at_name : (intervals : List Interval) (object nr : List ℕ) (i : Interval) → is_named object nr i ≡ true
    → interval_at intervals object nr ≡ interval_at intervals i.object i.nr
at_name intervals object nr i is = ap (λ (n : RowName). interval_at intervals n.0 n.1) (sym (named_is object nr i is))

plain_is_not : (intervals : List Interval) (object nr : List ℕ) (i : Interval) → interval_at intervals object nr ≡ Some i → is_buffered i ≡ true
    → IfSome (interval_at intervals object nr) (λ j. is_buffered j ≡ false) → ⊥
plain_is_not intervals object nr i at is plain =
    true≢false (sym is ∙ subst (λ (o : Option Interval). IfSome o (λ j. is_buffered j ≡ false)) at plain)

heads : {X : Type 0} (x y : X) (xs ys : List X) → (x ∷ xs) ≡ (y ∷ ys) → x ≡ y
heads x y xs ys e = cc

tails : {X : Type 0} (x y : X) (xs ys : List X) → (x ∷ xs) ≡ (y ∷ ys) → xs ≡ ys
tails x y xs ys e = cc

-- a number without a buffer is of no stock
plain_number : (intervals : List Interval) (facts : List StockFact) (object nr : List ℕ)
    → map (λ (f : StockFact). interval_at intervals f.interval.object f.interval.nr) facts ≡ map (λ (f : StockFact). Some f.interval) facts
    → list_all (λ (f : StockFact). is_buffered f.interval) facts ≡ true
    → IfSome (interval_at intervals object nr) (λ i. is_buffered i ≡ false) → is_of_stock facts object nr ≡ false
plain_number intervals [] object nr found buffered plain = refl
plain_number intervals (f ∷ fs) object nr found buffered plain =
    let two = and_parts (is_buffered f.interval) (list_all (λ (x : StockFact). is_buffered x.interval) fs) buffered in
    go two.0 (plain_number intervals fs object nr (tails _ _ _ _ found) two.1 plain) (is_named object nr f.interval) refl
  where
    go : is_buffered f.interval ≡ true → is_of_stock fs object nr ≡ false → (b : Bool) → is_named object nr f.interval ≡ b
        → (b || is_of_stock fs object nr) ≡ false
    go is rest true e = absurd (plain_is_not intervals object nr f.interval (at_name intervals object nr f.interval e ∙ heads _ _ _ _ found) is plain)
    go is rest false e = rest

pub may_ask : (intervals : List Interval) (facts : List StockFact) (seats : List StockSeat) (entries : List DeskEntry) (c : Command)
    → AreOfLand intervals facts → are_of_stocks facts (stock_of entries) ≡ true → numbers_by facts (stock_of entries) ≡ numbered facts (answered_of seats)
    → MayAskIn intervals entries c → MayServe facts seats c
may_ask intervals facts seats entries (command.Commit session parts stock) land known pending may =
    subst (IsStockOf facts (answered_of seats)) (sym may) (known, pending)
may_ask intervals facts seats entries (command.Number session object nr) land known pending may = plain_number intervals facts object nr land.0 land.1 may
may_ask intervals facts seats entries _ land known pending may = tt
