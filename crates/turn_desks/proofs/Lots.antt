-- What the rights say of the server, behind each call.
use Rattle.std.proofs.Common.{◌≡◌, ◌⊎◌, inl, inr, ℕ, zero, suc, ◌+◌, ◌-◌, ◌<◌, ◌≤◌, max, Bool, true, false, true≢false, List, [], ◌∷◌, ◌++◌, All, length, map, set, refl, sym, ap, ◌∙◌, subst, arith}
use Rattle.std.specs.Prelude.{◌||◌, Contains, IsSomeAnd, Option, Some, None, slice_get}
use Rattle.std.specs.Coded.{Coded-set, coded_bool, coded_ℕ, le_prop, Unit-prop}
use Rattle.std.specs.List.{AllByRecursion-prop, find, list_any}
use Rattle.std.proofs.lemmas.Bool.{and_parts}
use Rattle.enq_base.specs.declared.refusal.Refusal.TheVariants as refusal
use Rattle.enq_base.specs.declared.unit.Num.{Num}
use Rattle.enq_base.specs.declared.unit.Parts.{Parts}
use Rattle.draw_laws.proofs.Counting.{bit, count_cons}
use Rattle.draw_laws.proofs.IntervalNames.{named_is, none_named, one_interval}
use Rattle.hall_model.specs.Calls.{Call, Commits, LogsOn, OfAdmin, OfSession, OfWorker, SessionCall, call_of}
use Rattle.hall_model.specs.History.{IsStep}
use Rattle.hall_model.specs.Kept.{IsKept}
use Rattle.hall_model.specs.State.{State}
use Rattle.hall_model.specs.Stocks.{IsStockIn, MayCall, SessionMayCall}
use Rattle.hall_model.specs.declared.command.Command.{Command}
use Rattle.hall_model.specs.declared.command.Command.TheVariants as command
use Rattle.hall_model.specs.declared.command.Reply.{Reply}
use Rattle.hall_model.specs.declared.command.Reply.TheVariants as reply
use Rattle.ledger_steps.specs.Drawn.{AreOfOne, IsReserved, IsUpToLevel, drawn_from, drawn_of}
use Rattle.ledger_steps.specs.Levels.{intervals_of, level_in}
use Rattle.number_ranges.specs.Intervals.{is_named}
use Rattle.number_ranges.specs.declared.interval.Interval.{Interval}
use Rattle.script_actors.specs.Drawings.{is_done, may_be_committed, settles, settling_of}
use Rattle.number_stock.specs.declared.seat.StockSeat.{StockSeat}
use Rattle.seat_sums.specs.Sums.{IsDistinct}
use Rattle.stock_laws.specs.Stocked.{HasLot, HasReached, IsOfLots, IsShare, IsStocked, Lot, Respects, answers_commit, handing, is_undone, limited}
use Rattle.update_records.specs.Ledger.{Levels}
use Rattle.turn_desks.specs.Handing.{AreFree, FreeFor, handed_then, with_handed}
use Rattle.turn_desks.specs.Stocks.{AreLots, IsStockOf, MayServe, StockFact, answered_of, are_of_stocks, is_of_stock, lot_of, numbered, numbers_by}
use Rattle.turn_desks.proofs.lemmas.Seating.{all_behind, none_is_not, one_some}

-- ---- whether a stock may be committed has one proof

up_prop : (levels : Levels) (number : ℕ) (i : Interval) → IsProp (IsUpToLevel levels number i)
up_prop levels number i = λ a b k. record {
  buffered = Coded-set coded_bool _ _ a.buffered b.buffered k;
  first = le_prop a.first b.first k;
  last = le_prop a.last b.last k;
}

some_prop : (P : Interval → Type 0) → ((i : Interval) → IsProp (P i)) → (o : Option Interval) → IsProp (IsSomeAnd o P)
some_prop P each None = λ a b. absurd a
some_prop P each (Some i) = each i

stock_prop : (s : State) (stock : List Num) → IsProp (IsStockIn s stock)
stock_prop s stock = λ a b k. record {
  reserved = AllByRecursion-prop (IsReserved (intervals_of s.ranges) s.stored.levels)
      (λ num. some_prop (IsUpToLevel s.stored.levels num.number) (up_prop s.stored.levels num.number)
      (find (is_named num.object num.nr) (intervals_of s.ranges))) stock a.reserved b.reserved k;
  once = λ i among number. le_prop (a.once i among number) (b.once i among number) k;
  fresh = λ i among number some. Coded-set coded_ℕ _ _ (a.fresh i among number some) (b.fresh i among number some) k;
}

session_prop : (s : State) (call : SessionCall) → IsProp (SessionMayCall s call)
session_prop s (Commits parts stock) = stock_prop s stock
session_prop s _ = Unit-prop

pub may_prop : (s : State) (call : Call) → IsProp (MayCall s call)
may_prop s (LogsOn session user) = Unit-prop
may_prop s (OfSession session call) = session_prop s call
may_prop s (OfWorker worker call) = Unit-prop
may_prop s (OfAdmin call) = Unit-prop

-- ---- the stock of a COMMIT

no_length : (n : ℕ) → 0 ≡ suc n → ⊥
no_length n e = cc

differ : {X : Type 0} (x : X) (xs : List X) → (x ∷ xs) ≡ [] → ⊥
differ x xs e = cc

head_of : {X : Type 0} (x y : X) (xs ys : List X) → (x ∷ xs) ≡ (y ∷ ys) → x ≡ y
head_of x y xs ys e = cc

tail_of : {X : Type 0} (x y : X) (xs ys : List X) → (x ∷ xs) ≡ (y ∷ ys) → xs ≡ ys
tail_of x y xs ys e = cc

less_long : (m n : ℕ) → suc m ≡ suc n → m ≡ n
less_long m n e = omega (arith, e)

-- a lot of this name, and what the stock has of it
record IsAt (s : State) (stock : List Num) (object nr : List ℕ) : Type 0 where
  lot : Lot
  named : is_named object nr lot.interval ≡ true
  stocked : IsStocked s lot
  share : IsShare lot stock

share_of : (s : State) (stock : List Num) (f : StockFact) (n : ℕ) (hs ts : List ℕ) → IsDistinct (hs ++ ts) × All (λ t. t < n) (hs ++ ts)
    → drawn_from f.interval stock ≡ map (λ t. f.base + t) ts → IsShare (lot_of f n hs) stock
share_of s stock f n hs ts free numbers = record {
  tickets = ts;
  numbers = numbers;
  below = all_behind (λ t. t < n) hs ts free.1;
  distinct = free.0;
}

share_at : (s : State) (facts : List StockFact) (limits : List ℕ) (handed tickets : List (List ℕ)) (stock : List Num) (object nr : List ℕ)
    → length limits ≡ length facts → length handed ≡ length facts → AreLots s facts limits handed → AreFree limits handed tickets
    → numbers_by facts stock ≡ numbered facts tickets → is_of_stock facts object nr ≡ true → IsAt s stock object nr
share_at s [] limits handed tickets stock object nr long tall lots free same is = absurd (true≢false (sym is))
share_at s (f ∷ fs) [] handed tickets stock object nr long tall lots free same is = absurd (no_length (length fs) long)
share_at s (f ∷ fs) (n ∷ ns) [] tickets stock object nr long tall lots free same is = absurd (no_length (length fs) tall)
share_at s (f ∷ fs) (n ∷ ns) (hs ∷ hss) [] stock object nr long tall lots free same is = absurd (differ _ _ same)
share_at s (f ∷ fs) (n ∷ ns) (hs ∷ hss) (ts ∷ tss) stock object nr long tall lots free same is =
    go (λ later. share_at s fs ns hss tss stock object nr (less_long _ _ long) (less_long _ _ tall) lots.1 free.1 (tail_of _ _ _ _ same) later)
    (is_named object nr f.interval) refl
  where
    go : (is_of_stock fs object nr ≡ true → IsAt s stock object nr) → (b : Bool) → is_named object nr f.interval ≡ b → IsAt s stock object nr
    go rest true e = record {
      lot = lot_of f n hs;
      named = e;
      stocked = lots.0;
      share = share_of s stock f n hs ts free.0 (head_of _ _ _ _ same);
    }
    go rest false e = rest (sym (ap (λ b. b || is_of_stock fs object nr) e) ∙ is)

-- a number of an interval names it
record IsIn (facts : List StockFact) (i : Interval) : Type 0 where
  object : List ℕ
  nr : List ℕ
  named : is_named object nr i ≡ true
  is : is_of_stock facts object nr ≡ true

in_some : (facts : List StockFact) (i : Interval) (nums : List Num) → are_of_stocks facts nums ≡ true → 1 ≤ drawn_of i nums → IsIn facts i
in_some facts i [] known some = absurd (omega (arith, some))
in_some facts i (x ∷ xs) known some =
    let parts = and_parts (is_of_stock facts x.object x.nr) (are_of_stocks facts xs) known in
    go parts.0 (λ more. in_some facts i xs parts.1 more) (is_named x.object x.nr i) refl
  where
    go : is_of_stock facts x.object x.nr ≡ true → (1 ≤ drawn_of i xs → IsIn facts i) → (b : Bool) → is_named x.object x.nr i ≡ b → IsIn facts i
    go is rest true e = record { object = x.object; nr = x.nr; named = e; is = is }
    go is rest false e =
        let none : bit (is_named x.object x.nr i) ≡ 0 = ap bit e in
        rest (omega (arith, some, none, count_cons (λ (num : Num). is_named num.object num.nr i) x xs))

is_so : (b : Bool) → (b ≡ false → ⊥) → b ≡ true
is_so true h = refl
is_so false h = absurd (h refl)

module _ (s : State) (facts : List StockFact) (limits : List ℕ) (handed tickets : List (List ℕ)) (stock : List Num) (kept : IsKept s)
    (long : length limits ≡ length facts) (tall : length handed ≡ length facts) (lots : AreLots s facts limits handed) (free : AreFree limits handed tickets)
    (same : numbers_by facts stock ≡ numbered facts tickets) where
  at_name : (object nr : List ℕ) → is_of_stock facts object nr ≡ true → IsAt s stock object nr
  at_name object nr is = share_at s facts limits handed tickets stock object nr long tall lots free same is

  of_one : (object nr : List ℕ) → is_of_stock facts object nr ≡ true → list_any (is_named object nr) (intervals_of s.ranges) ≡ true
  of_one object nr is =
      let a = at_name object nr is in
      is_so _ (λ none. none_named object nr (intervals_of s.ranges) a.lot.interval none a.stocked.one (named_is object nr a.lot.interval a.named))

  all_of_one : (nums : List Num) → are_of_stocks facts nums ≡ true → AreOfOne (intervals_of s.ranges) nums
  all_of_one [] known = tt
  all_of_one (x ∷ xs) known =
      let two = and_parts (is_of_stock facts x.object x.nr) (are_of_stocks facts xs) known in
      (of_one x.object x.nr two.0, all_of_one xs two.1)

  lot_for : are_of_stocks facts stock ≡ true → (i : Interval) → Contains (intervals_of s.ranges) i → 1 ≤ drawn_of i stock → HasLot s stock i
  lot_for known i among some =
      let there = in_some facts i stock known some in
      let a = at_name there.object there.nr there.is in
      record {
        lot = a.lot;
        own = one_interval (intervals_of s.ranges) a.lot.interval i kept.steady.drawn.intervals.apart a.stocked.one among
            (named_is there.object there.nr a.lot.interval a.named ∙ sym (named_is there.object there.nr i there.named));
        stocked = a.stocked;
        share = a.share;
      }

  pub of_lots : are_of_stocks facts stock ≡ true → IsOfLots s stock
  of_lots known = record { known = all_of_one stock known; lots = lot_for known }

-- ---- behind a call

-- what is known of lots and calls
abbrev pub KeptLaw : Type 0
KeptLaw = (s t : State) (line : ℕ) (c : Command) (r : Reply) (b : Lot) → IsKept s → IsStocked s b → (is_undone r ≡ false → Respects b (call_of c))
    → IsStep s t line c r → IsStocked t b

abbrev pub HandedLaw : Type 0
HandedLaw = (s : State) (b : Lot) (tickets : List ℕ) → IsStocked s b → IsStocked s (handing tickets b)

abbrev pub ShareLaw : Type 0
ShareLaw = (b : Lot) (stock : List Num) (share : IsShare b stock) (session : List ℕ) (parts : Parts)
    → Respects (handing share.tickets b) (OfSession session (Commits parts stock))

abbrev pub MayLaw : Type 0
MayLaw = (s : State) (stock : List Num) → IsKept s → IsOfLots s stock → IsStockIn s stock

abbrev pub AnswersLaw : Type 0
AnswersLaw = (s t : State) (line : ℕ) (session : List ℕ) (parts : Parts) (stock : List Num) (r : Reply) → IsStep s t line (command.Commit session parts stock) r
    → answers_commit r ≡ true

-- what may be asked, by the tickets of the caller
abbrev pub MayAsk : List StockFact → List (List ℕ) → Command → Type 0
MayAsk facts tickets (command.Commit session parts stock) = IsStockOf facts tickets stock
MayAsk facts tickets (command.Number session object nr) = is_of_stock facts object nr ≡ false
MayAsk facts tickets c = Unit {0}

-- a COMMIT has none that was handed over
abbrev pub IsFreeFor : List ℕ → List (List ℕ) → List (List ℕ) → Command → Type 0
IsFreeFor limits handed tickets (command.Commit session parts stock) = AreFree limits handed tickets
IsFreeFor limits handed tickets c = Unit {0}

pub may_serve : MayLaw → (s : State) (facts : List StockFact) (limits : List ℕ) (handed tickets : List (List ℕ)) (c : Command) → IsKept s
    → length limits ≡ length facts → length handed ≡ length facts → AreLots s facts limits handed → IsFreeFor limits handed tickets c
    → MayAsk facts tickets c → MayCall s (call_of c)
may_serve law s facts limits handed tickets (command.Commit session parts stock) kept long tall lots free may =
    law s stock kept (of_lots s facts limits handed tickets stock kept long tall lots free may.1 may.0)
may_serve law s facts limits handed tickets _ kept long tall lots free may = tt

neither : (a b : Bool) → (a || b) ≡ false → (a ≡ false) × (b ≡ false)
neither true b h = cc
neither false b h = (refl, h)

-- a call that respects each lot
abbrev RespectsAll : List StockFact → Call → Type 0
RespectsAll [] call = Unit {0}
RespectsAll (f ∷ fs) call = ((n : ℕ) (hs : List ℕ) → Respects (lot_of f n hs) call) × RespectsAll fs call

module _ (law : KeptLaw) (s t : State) (line : ℕ) (c : Command) (r : Reply) (kept : IsKept s) (step : IsStep s t line c r) where
  -- that was refused and is undone
  pub undone_lots : (facts : List StockFact) (limits : List ℕ) (handed : List (List ℕ)) → is_undone r ≡ true → AreLots s facts limits handed
      → AreLots t facts limits handed
  undone_lots [] limits handed undone lots = tt
  undone_lots (f ∷ fs) [] handed undone lots = tt
  undone_lots (f ∷ fs) (n ∷ ns) [] undone lots = tt
  undone_lots (f ∷ fs) (n ∷ ns) (hs ∷ hss) undone lots = (
    law s t line c r (lot_of f n hs) kept lots.0 (λ off. absurd (true≢false (sym undone ∙ off))) step,
    undone_lots fs ns hss undone lots.1,
  )

  -- that draws no number of a stock by the server, and commits none
  pub quiet_lots : (facts : List StockFact) (limits : List ℕ) (handed : List (List ℕ)) → RespectsAll facts (call_of c) → AreLots s facts limits handed
      → AreLots t facts limits handed
  quiet_lots [] limits handed each lots = tt
  quiet_lots (f ∷ fs) [] handed each lots = tt
  quiet_lots (f ∷ fs) (n ∷ ns) [] each lots = tt
  quiet_lots (f ∷ fs) (n ∷ ns) (hs ∷ hss) each lots =
      (law s t line c r (lot_of f n hs) kept lots.0 (λ off. each.0 n hs) step, quiet_lots fs ns hss each.1 lots.1)

-- a commit, once its tickets are handed over
pub commit_lots : KeptLaw → HandedLaw → ShareLaw → (s t : State) (line : ℕ) (session : List ℕ) (parts : Parts) (stock : List Num) (r : Reply) → IsKept s
    → IsStep s t line (command.Commit session parts stock) r → (facts : List StockFact) (limits : List ℕ) (handed tickets : List (List ℕ))
    → AreLots s facts limits handed → AreFree limits handed tickets → numbers_by facts stock ≡ numbered facts tickets
    → AreLots t facts limits (with_handed handed tickets)
unfolding share_of
commit_lots law hand share s t line session parts stock r kept step [] limits handed tickets lots free same = tt
commit_lots law hand share s t line session parts stock r kept step (f ∷ fs) [] handed tickets lots free same = tt
commit_lots law hand share s t line session parts stock r kept step (f ∷ fs) (n ∷ ns) [] tickets lots free same = tt
commit_lots law hand share s t line session parts stock r kept step (f ∷ fs) (n ∷ ns) (hs ∷ hss) [] lots free same = absurd (differ _ _ same)
commit_lots law hand share s t line session parts stock r kept step (f ∷ fs) (n ∷ ns) (hs ∷ hss) (ts ∷ tss) lots free same =
    let b = lot_of f n hs in
    let own = share_of s stock f n hs ts free.0 (head_of _ _ _ _ same) in (
      law s t line (command.Commit session parts stock) r (handing ts b) kept (hand s b ts lots.0) (λ off. share b stock own session parts) step,
      commit_lots law hand share s t line session parts stock r kept step fs ns hss tss lots.1 free.1 (tail_of _ _ _ _ same),
    )

-- more may be handed over at any time
pub more_lots : HandedLaw → (t : State) (facts : List StockFact) (limits : List ℕ) (handed tickets : List (List ℕ)) → AreLots t facts limits handed
    → AreLots t facts limits (with_handed handed tickets)
more_lots hand t [] limits handed tickets lots = tt
more_lots hand t (f ∷ fs) [] handed tickets lots = tt
more_lots hand t (f ∷ fs) (n ∷ ns) [] tickets lots = tt
more_lots hand t (f ∷ fs) (n ∷ ns) (hs ∷ hss) [] lots = tt
more_lots hand t (f ∷ fs) (n ∷ ns) (hs ∷ hss) (ts ∷ tss) lots = (hand t (lot_of f n hs) ts lots.0, more_lots hand t fs ns hss tss lots.1)

-- ---- what each call respects

all_respect : (facts : List StockFact) (call : Call) → ((f : StockFact) (n : ℕ) (hs : List ℕ) → Respects (lot_of f n hs) call) → RespectsAll facts call
all_respect [] call each = tt
all_respect (f ∷ fs) call each = (each f, all_respect fs call each)

number_respects : (facts : List StockFact) (session object nr : List ℕ) → is_of_stock facts object nr ≡ false
    → RespectsAll facts (call_of (command.Number session object nr))
number_respects [] session object nr none = tt
number_respects (f ∷ fs) session object nr none =
    let two = neither (is_named object nr f.interval) (is_of_stock fs object nr) none in
    ((λ n hs. two.0), number_respects fs session object nr two.1)

-- any call but a commit
abbrev pub IsNoCommit : Command → Type 0
IsNoCommit (command.Commit session parts stock) = ⊥
IsNoCommit c = Unit {0}

others_respect : (facts : List StockFact) (tickets : List (List ℕ)) (c : Command) → IsNoCommit c → MayAsk facts tickets c → RespectsAll facts (call_of c)
others_respect facts tickets (command.Commit session parts stock) off may = absurd off
others_respect facts tickets (command.Number session object nr) off may = number_respects facts session object nr may
others_respect facts tickets c off may = all_respect facts (call_of c) (λ f n hs. tt)

commit_either : (r : Reply) → answers_commit r ≡ true → (may_be_committed r ≡ true) ⊎ ((may_be_committed r ≡ false) × (is_undone r ≡ true))
commit_either reply.Done h = inl refl
commit_either (reply.Unit unit) h = inl refl
commit_either (reply.Refused refusal.StoreFault) h = inl refl
commit_either (reply.Refused x) h = inr (refl, refl)
commit_either r h = absurd (true≢false (sym h))

-- ---- the lots behind any call

module _ (law : KeptLaw) (hand : HandedLaw) (share : ShareLaw) (answers : AnswersLaw) (s t : State) (line : ℕ) (r : Reply) (kept : IsKept s)
    (facts : List StockFact) (limits : List ℕ) (handed tickets : List (List ℕ)) (lots : AreLots s facts limits handed) where
  abbrev Then : Bool → Type 0
  Then settled = AreLots t facts limits (handed_then settled handed tickets)

  given_up : (b : Bool) → AreLots t facts limits handed → Then b
  given_up true h = more_lots hand t facts limits handed tickets h
  given_up false h = h

  of_commit : (session : List ℕ) (parts : Parts) (stock : List Num) → IsStep s t line (command.Commit session parts stock) r → AreFree limits handed tickets
      → IsStockOf facts tickets stock → Then (may_be_committed r)
  of_commit session parts stock step free may =
      elim (commit_either r (answers s t line session parts stock r step)) as (λ _. Then (may_be_committed r)) [
        | inl on ↦ subst Then (sym on) (commit_lots law hand share s t line session parts stock r kept step facts limits handed tickets lots free may.1)
        | inr off ↦ subst Then (sym off.0)
            (undone_lots law s t line (command.Commit session parts stock) r kept step facts limits handed off.1 lots)
      ]

  quiet : (c : Command) → IsNoCommit c → IsStep s t line c r → MayAsk facts tickets c → AreLots t facts limits handed
  quiet c off step may = quiet_lots law s t line c r kept step facts limits handed (others_respect facts tickets c off may) lots

  pub served_lots : (c : Command) → IsStep s t line c r → IsFreeFor limits handed tickets c → MayAsk facts tickets c → Then (settles (settling_of c) r)
  served_lots (command.Commit session parts stock) step free may = of_commit session parts stock step free may
  served_lots (command.Rollback session) step free may = given_up (is_done r) (quiet (command.Rollback session) tt step may)
  served_lots (command.Logoff session) step free may = given_up (is_done r) (quiet (command.Logoff session) tt step may)
  served_lots c step free may = quiet c tt step may

pub free_for : (limits : List ℕ) (handed tickets : List (List ℕ)) (c : Command) → FreeFor (settling_of c) limits handed tickets
    → IsFreeFor limits handed tickets c
free_for limits handed tickets (command.Commit session parts stock) free = free
free_for limits handed tickets _ free = tt

pub may_of : (facts : List StockFact) (seats : List StockSeat) (c : Command) → MayServe facts seats c → MayAsk facts (answered_of seats) c
may_of facts seats (command.Commit session parts stock) may = may
may_of facts seats (command.Number session object nr) may = may
may_of facts seats _ may = tt

-- of any call but a COMMIT
pub quiet_any : KeptLaw → (s t : State) (line : ℕ) (c : Command) (r : Reply) → IsKept s → (facts : List StockFact) (limits : List ℕ)
    (handed tickets : List (List ℕ)) → IsStep s t line c r → IsNoCommit c → MayAsk facts tickets c → AreLots s facts limits handed
    → AreLots t facts limits handed
quiet_any law s t line c r kept facts limits handed tickets step off may lots =
    quiet_lots law s t line c r kept step facts limits handed (others_respect facts tickets c off may) lots

-- ---- a reservation

abbrev pub LimitLaw : Type 0
LimitLaw = (s : State) (b : Lot) (limit : ℕ) → IsStocked s b → b.base + limit ≤ level_in s.stored.levels b.interval + 1 → IsStocked s (limited limit b)

abbrev pub ReservedLaw : Type 0
ReservedLaw = (s t : State) (line : ℕ) (session : List ℕ) (i : Interval) (upto level : ℕ) → IsKept s → Contains (intervals_of s.ranges) i
    → IsStep s t line (command.Reserve session i.object i.nr upto) (reply.Level level) → HasReached s.stored.levels t.stored.levels i upto level

-- the stock at this place has a lot
pub among_at : (s : State) (facts : List StockFact) (limits : List ℕ) (handed : List (List ℕ)) (place : ℕ) (f : StockFact) → length limits ≡ length facts
    → length handed ≡ length facts → AreLots s facts limits handed → slice_get facts place ≡ Some f → Contains (intervals_of s.ranges) f.interval
among_at s [] limits handed place f long tall lots at = absurd (none_is_not f at)
among_at s (g ∷ fs) [] handed place f long tall lots at = absurd (no_length (length fs) long)
among_at s (g ∷ fs) (n ∷ ns) [] place f long tall lots at = absurd (no_length (length fs) tall)
among_at s (g ∷ fs) (n ∷ ns) (hs ∷ hss) zero f long tall lots at =
    subst (λ (x : StockFact). Contains (intervals_of s.ranges) x.interval) (one_some g f at) lots.0.one
among_at s (g ∷ fs) (n ∷ ns) (hs ∷ hss) (suc place) f long tall lots at =
    among_at s fs ns hss place f (less_long _ _ long) (less_long _ _ tall) lots.1 at

-- the limit at one place is raised up to the level
pub raised_lots : LimitLaw → (t : State) (facts : List StockFact) (limits : List ℕ) (handed : List (List ℕ)) (place : ℕ) (f : StockFact) (n level : ℕ)
    → slice_get facts place ≡ Some f → slice_get limits place ≡ Some n → level_in t.stored.levels f.interval ≡ level → f.base ≤ level
    → AreLots t facts limits handed → AreLots t facts (set limits place (max n (level + 1 - f.base))) handed
raised_lots law t [] limits handed place f n level at there stands low lots = tt
raised_lots law t (g ∷ fs) [] handed place f n level at there stands low lots = tt
raised_lots law t (g ∷ fs) (m ∷ ns) [] zero f n level at there stands low lots = tt
raised_lots law t (g ∷ fs) (m ∷ ns) [] (suc place) f n level at there stands low lots = tt
raised_lots law t (g ∷ fs) (m ∷ ns) (hs ∷ hss) zero f n level at there stands low lots =
    let same : m ≡ n = one_some m n there in
    let P : StockFact → Type 0 = λ x. level_in t.stored.levels x.interval ≡ level → x.base ≤ level → IsStocked t (lot_of x (max n (level + 1 - x.base)) hs) in
    let own : P g = λ stands low.
    let was = lots.0.level in
    law t (lot_of g m hs) (max n (level + 1 - g.base)) lots.0 (omega (arith, was, same, stands, low)) in
    let f_is = one_some g f at in (
      subst (λ (x : StockFact). IsStocked t (lot_of g (max n (level + 1 - x.base)) hs)) f_is
          (own (ap (λ (x : StockFact). level_in t.stored.levels x.interval) f_is ∙ stands) (subst (λ (x : StockFact). x.base ≤ level) (sym f_is) low)),
      lots.1,
    )
raised_lots law t (g ∷ fs) (m ∷ ns) (hs ∷ hss) (suc place) f n level at there stands low lots =
    (lots.0, raised_lots law t fs ns hss place f n level at there stands low lots.1)
