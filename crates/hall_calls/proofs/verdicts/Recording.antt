-- What a commit records: the rows of the settled intervals, a unit, and numbers alone.
use Rattle.std.proofs.Common.{◌≡◌, ℕ, zero, suc, ◌+◌, ◌-◌, ◌≤◌, ◌<◌, Bool, true, false, cond, List, [], ◌∷◌, ◌++◌, map, length, take, get_or, refl, sym, ap, ◌∙◌, subst, arith}
use Rattle.std.specs.Prelude.{◌&&◌, ◌||◌, not, nat_eq, nat_le, nat_lt, Contains, Some}
use Rattle.std.specs.List.{All, AllByRecursion, filter, slice_get}
use Rattle.std.proofs.lemmas.Bool.Decides.{nat_tests}
use Rattle.std.proofs.lemmas.List.{length-append, map-append, take_more}
use Rattle.std.proofs.lemmas.List.Elements.{filter-append}
use Rattle.enq_base.specs.declared.owner.UnitKey.{UnitKey}
use Rattle.enq_base.specs.declared.refusal.Refusal.TheVariants as refusal
use Rattle.enq_base.specs.declared.unit.Num.{Num as Number}
use Rattle.enq_base.specs.declared.unit.Parts.{Parts}
use Rattle.lock_entry.proofs.lemmas.Naming.{bytes_eq-same}
use Rattle.lock_entry.specs.declared.entry.Entry.{Entry}
use Rattle.number_ranges.specs.Intervals.{is_buffered}
use Rattle.number_ranges.specs.declared.interval.Interval.{Interval}
use Rattle.ledger_steps.specs.Intervals.{MayStore, with_intervals}
use Rattle.ledger_steps.specs.Steps.{IsDrawing, after_step}
use Rattle.ledger_steps.specs.declared.step.Step.TheVariants.{Draw, Record}
use Rattle.draw_laws.proofs.Drawing.{interval_among}
use Rattle.draw_laws.proofs.OverSessions.{session_may_commit_stock, session_stock_digits, session_stock_fits}
use Rattle.ledger_steps.specs.Drawn.{AreDrawnRight, IsStock, drawn_of, is_settled_by, settled_rows, stored_as, with_level_behind}
use Rattle.ledger_steps.specs.Levels.{intervals_of, level_in, present}
use Rattle.ledger_steps.specs.declared.range.NumberRange.{NumberRange}
use Rattle.update_records.specs.Business.{numbers_of}
use Rattle.update_records.specs.Grammar.{HasDigits}
use Rattle.update_records.specs.Growing.{with_mark, with_unit}
use Rattle.update_records.specs.Ledger.{Ledger, Levels}
use Rattle.update_records.specs.declared.records.MarkKind.TheVariants.{Num}
use Rattle.update_records.specs.declared.records.Unit.{Unit as UnitOfWork}
use Rattle.update_records.specs.declared.stored.StoredInterval.{StoredInterval}
use Rattle.hall_model.specs.declared.command.Command.TheVariants as command
use Rattle.hall_model.specs.declared.command.Reply.TheVariants as reply
use Rattle.hall_model.specs.declared.command.Session.{Session}
use Rattle.hall_calls.specs.declared.units.Written.{Written}
use Rattle.hall_calls.specs.declared.units.Written.TheVariants.{Answered, Failed, Unfiled}
use Rattle.hall_model.specs.Acts.{IsAct}
use Rattle.hall_calls.specs.Written.{IsWritten, ranges_behind}
use Rattle.hall_calls.specs.Commits.{RecordsNumbers, RecordsUnit}
use Rattle.hall_model.specs.Kept.{IsAhead, draws_in}
use Rattle.hall_model.specs.Sessions.{is_called, session_at, unit_key, with_next_unit, with_session, without_draws}
use Rattle.hall_model.specs.State.{State}
use Rattle.hall_model.specs.Step.{effects_in, unit_of}
use Rattle.model_laws.proofs.FoundSessions.{found_in as found_all_in, found_name}
use Rattle.hall_calls.proofs.verdicts.UnitCalls.{IsCommitAt, commits, commits_in_doubt, commits_unfiled, commits_numbers, commits_wanting, is_nothing, is_too_much, numbers_in_doubt}

-- ---- the rows of the settled intervals

is_one : (n : ℕ) → 1 ≤ n → nat_lt 0 n ≡ true
is_one n h = grind (arith, nat_tests)

is_none : (n : ℕ) → n ≡ 0 → nat_lt 0 n ≡ false
is_none n h = grind (arith, nat_tests)

no_both : (b : Bool) → (b && false) ≡ false
no_both true = refl
no_both false = refl

-- an interval without a buffer of which there are numbers
settled_yes : (i : Interval) (nums : List Number) (drawn : ℕ) → i.buffer ≡ 0 → 1 ≤ drawn → drawn ≡ drawn_of i nums → is_settled_by nums i ≡ true
settled_yes i nums drawn none some is =
    λ k. not (is_none i.buffer none k) && is_one (drawn_of i nums) (subst (λ n. 1 ≤ n) is some) k

settled_not_buffered : (i : Interval) (nums : List Number) → 1 ≤ i.buffer → is_settled_by nums i ≡ false
settled_not_buffered i nums some = ap (λ b. not b && nat_lt 0 (drawn_of i nums)) (is_one i.buffer some)

settled_not_drawn : (i : Interval) (nums : List Number) (drawn : ℕ) → drawn ≡ 0 → drawn ≡ drawn_of i nums → is_settled_by nums i ≡ false
settled_not_drawn i nums drawn none is =
    ap (λ b. not (nat_lt 0 i.buffer) && b) (is_none (drawn_of i nums) (sym is ∙ none)) ∙ no_both (not (nat_lt 0 i.buffer))

module _ (levels : Levels) (nums : List Number) where
  abbrev row_of : Interval → StoredInterval
  row_of i = stored_as (with_level_behind nums i)

  settled_last : (ranges : List NumberRange) (r : NumberRange) (b : Bool) → is_settled_by nums (present levels r.interval) ≡ b
      → settled_rows levels (ranges ++ r ∷ []) nums ≡ settled_rows levels ranges nums ++ map row_of (cond b (present levels r.interval ∷ []) [])
  settled_last ranges r b is =
      let here = map (present levels) (intervals_of ranges) in
      ap (λ is. map row_of (filter (is_settled_by nums) (map (present levels) is))) (map-append (λ (x : NumberRange). x.interval) ranges (r ∷ []))
      ∙ ap (λ is. map row_of (filter (is_settled_by nums) is)) (map-append (present levels) (intervals_of ranges) (r.interval ∷ []))
      ∙ ap (map row_of) (filter-append (is_settled_by nums) here (present levels r.interval ∷ []))
      ∙ map-append row_of (filter (is_settled_by nums) here) (filter (is_settled_by nums) (present levels r.interval ∷ []))
      ∙ ap (λ c. settled_rows levels ranges nums ++ map row_of (cond c (present levels r.interval ∷ []) [])) is

  settled_next : (ranges : List NumberRange) (k : ℕ) (r : NumberRange) (b : Bool)
      → k < length ranges → r ≡ get_or ranges k r → is_settled_by nums (present levels r.interval) ≡ b
      → settled_rows levels (take (k + 1) ranges) nums ≡ settled_rows levels (take k ranges) nums ++ map row_of (cond b (present levels r.interval ∷ []) [])
  settled_next ranges k r b within at is =
      ap (λ rs. settled_rows levels rs nums) (take_more ranges k r within ∙ ap (λ x. take k ranges ++ x ∷ []) (sym at))
      ∙ settled_last (take k ranges) r b is

  -- one row more
  pub settled_more : (ranges : List NumberRange) (k : ℕ) (r : NumberRange) (drawn : ℕ) (before now : List StoredInterval) (row : StoredInterval)
      → k < length ranges → r ≡ get_or ranges k r
      → r.interval.buffer ≡ 0 → 1 ≤ drawn → drawn ≡ drawn_of (present levels r.interval) nums → before ≡ settled_rows levels (take k ranges) nums
      → row ≡ row_of (present levels r.interval) → now ≡ before ++ row ∷ [] → now ≡ settled_rows levels (take (k + 1) ranges) nums
  settled_more ranges k r drawn before now row within at none some is so_far same pushed =
      pushed
      ∙ (λ i. so_far i ++ same i ∷ [])
      ∙ sym (settled_next ranges k r true within at (settled_yes (present levels r.interval) nums drawn none some is))

  append_none : (xs : List StoredInterval) → xs ++ [] ≡ xs
  append_none [] = refl
  append_none (x ∷ xs) = ap (λ ys. x ∷ ys) (append_none xs)

  settled_same : (ranges : List NumberRange) (k : ℕ) (r : NumberRange) (before now : List StoredInterval)
      → k < length ranges → r ≡ get_or ranges k r
      → is_settled_by nums (present levels r.interval) ≡ false → before ≡ settled_rows levels (take k ranges) nums → now ≡ before
      → now ≡ settled_rows levels (take (k + 1) ranges) nums
  settled_same ranges k r before now within at is so_far same =
      same ∙ so_far ∙ sym (settled_next ranges k r false within at is ∙ append_none (settled_rows levels (take k ranges) nums))

  -- an interval with a buffer has none
  pub settled_buffered : (ranges : List NumberRange) (k : ℕ) (r : NumberRange) (before now : List StoredInterval)
      → k < length ranges → r ≡ get_or ranges k r
      → 1 ≤ r.interval.buffer → before ≡ settled_rows levels (take k ranges) nums → now ≡ before → now ≡ settled_rows levels (take (k + 1) ranges) nums
  settled_buffered ranges k r before now within at some so_far same =
      settled_same ranges k r before now within at (settled_not_buffered (present levels r.interval) nums some) so_far same

  -- and neither has one of which there are no numbers
  pub settled_none : (ranges : List NumberRange) (k : ℕ) (r : NumberRange) (drawn : ℕ) (before now : List StoredInterval)
      → k < length ranges → r ≡ get_or ranges k r
      → drawn ≡ 0 → drawn ≡ drawn_of (present levels r.interval) nums
      → before ≡ settled_rows levels (take k ranges) nums → now ≡ before → now ≡ settled_rows levels (take (k + 1) ranges) nums
  settled_none ranges k r drawn before now within at none is so_far same =
      settled_same ranges k r before now within at (settled_not_drawn (present levels r.interval) nums drawn none is) so_far same

-- ---- intervals without numbers

record IsElement {X : Type 0} (xs : List X) (k : ℕ) (x : X) : Type 0 where
  found : slice_get xs k ≡ Some x
  read : x ≡ get_or xs k x

element_at : {X : Type 0} (xs : List X) (k : ℕ) → k < length xs → (x : X) × IsElement xs k x
element_at [] k within = absurd (omega (arith, within))
element_at (x ∷ xs) zero within = (x, record { found = refl; read = refl })
element_at (x ∷ xs) (suc k) within = let e = element_at xs k (omega (arith, within)) in (e.0, record { found = e.1.found; read = e.1.read })

module _ (levels : Levels) (nums : List Number) (ranges : List NumberRange) where
  -- there are no numbers of the intervals of these places
  abbrev pub AreNone : ℕ → ℕ → Type 0
  AreNone from to = (k : ℕ) (r : NumberRange) → from ≤ k → k < to → slice_get ranges k ≡ Some r → drawn_of r.interval nums ≡ 0

  none_of_next : (from n : ℕ) → from + n ≤ length ranges → AreNone from (from + n)
      → settled_rows levels (take from ranges) nums ≡ settled_rows levels (take (from + n) ranges) nums
  none_of_next from zero within none = let same : from ≡ from + zero = omega arith in ap (λ k. settled_rows levels (take k ranges) nums) same
  none_of_next from (suc n) within none =
      let e = element_at ranges (from + n) (omega (arith, within)) in
      let r = e.0 in
      let last : from + n + 1 ≡ from + suc n = omega arith in
      let drawn : 0 ≡ drawn_of r.interval nums = sym (none (from + n) r (omega arith) (omega arith) e.1.found) in
      none_of_next from n (omega (arith, within)) (λ k x low high at. none k x low (omega (arith, high)) at)
      ∙ settled_same levels nums ranges (from + n) r (settled_rows levels (take (from + n) ranges) nums) (settled_rows levels (take (from + n) ranges) nums)
      (omega (arith, within)) e.1.read
      (settled_not_drawn (present levels r.interval) nums 0 refl drawn) refl refl
      ∙ ap (λ k. settled_rows levels (take k ranges) nums) last

  -- the rows up to a place are those up to a later one where there are no numbers between
  pub settled_between : (from to : ℕ) → from ≤ to → to ≤ length ranges → AreNone from to
      → settled_rows levels (take from ranges) nums ≡ settled_rows levels (take to ranges) nums
  settled_between from to low high none =
      let n : ℕ = to - from in
      let same : from + n ≡ to = omega (arith, low) in
      none_of_next from n (omega (arith, same, high)) (subst (AreNone from) (sym same) none)
      ∙ ap (λ k. settled_rows levels (take k ranges) nums) same

-- ---- what a session has drawn, with numbers of a stock

module _ (sessions : List Session) (name : List ℕ) (x : Session) (found : session_at sessions name ≡ Some x) (ledger : Ledger) (ranges : List NumberRange)
    (stock : List Number)
    (h : AreDrawnRight ranges ledger.levels (draws_in sessions) (numbers_of ledger.units ledger.marks))
    (fits : IsStock (intervals_of ranges) ledger.levels (draws_in sessions) (numbers_of ledger.units ledger.marks) stock) where
  abbrev committed : List Number
  committed = numbers_of ledger.units ledger.marks

  abbrev taken : List Number
  taken = x.draws ++ stock

  -- they fit their intervals
  pub rows_fit : (nums : List Number) → nums ≡ taken → (r : NumberRange) → Contains ranges r → is_buffered r.interval ≡ false
      → level_in ledger.levels r.interval + drawn_of (present ledger.levels r.interval) nums ≤ r.interval.to
  rows_fit nums is r among plain =
      subst (λ ns. level_in ledger.levels r.interval + drawn_of (present ledger.levels r.interval) ns ≤ r.interval.to) (sym is)
      (session_stock_fits (λ (y : Session). y.draws) (is_called name) (λ y. y) sessions x found ranges ledger.levels committed stock fits h r.interval
      (interval_among ranges r among) plain)

  -- they may be stored with their levels
  pub draws_stored : (levels : List StoredInterval) (nums : List Number) → levels ≡ settled_rows ledger.levels ranges taken → nums ≡ taken
      → MayStore ledger levels nums
  draws_stored levels nums rows is =
      subst (λ ns. MayStore ledger levels ns) (sym is)
      (subst (λ ls. MayStore ledger ls taken) (sym rows)
      (session_may_commit_stock (λ (y : Session). y.draws) (is_called name) (λ y. y) sessions x found ledger ranges stock fits h))

  pub draws_digits : (nums : List Number) → nums ≡ taken → All HasDigits nums
  draws_digits nums is =
      subst (All HasDigits) (sym is)
      (session_stock_digits (λ (y : Session). y.draws) (is_called name) (λ y. y) sessions x found ranges ledger.levels committed stock fits h)

  -- numbers alone may be recorded of the session's open unit
  pub may_draw : (start : ℕ) (key : UnitKey) (nums : List Number) → start ≡ ledger.start → key ≡ unit_key start x → nums ≡ taken
      → 1 ≤ ledger.start → AllByRecursion (IsAhead ledger) sessions
      → 1 ≤ length nums → length nums ≤ 64 → IsDrawing ledger key nums
  may_draw start key nums same is drawn started ahead some few =
      subst (λ k. IsDrawing ledger k nums) (sym (is ∙ ap (λ n. unit_key n x) same))
      (record {
        fresh = found_all_in (IsAhead ledger) (is_called name) sessions x found ahead x.luw (omega arith);
        first = started;
        last = omega arith;
        some = some;
        few = few;
        digits = draws_digits nums drawn;
      })

-- ---- the change in flight

pub unit_in_flight : (ledger : Ledger) (unit : UnitOfWork) (rows levels : List StoredInterval) → levels ≡ rows
    → after_step ledger (Record unit rows) ≡ after_step ledger (Record unit levels)
unit_in_flight ledger unit rows levels is = ap (λ ls. with_intervals ls (with_unit ledger unit)) (sym is)

pub numbers_in_flight : (ledger : Ledger) (key : UnitKey) (drawn nums : List Number) (rows levels : List StoredInterval) → nums ≡ drawn → levels ≡ rows
    → after_step ledger (Draw key drawn rows) ≡ after_step ledger (Draw key nums levels)
numbers_in_flight ledger key drawn nums rows levels a b = λ i. with_intervals (sym b i) (with_mark ledger key (Num (sym a i)))

-- ---- how much there is to record

pub together : (draws got stock : List Number) → got ≡ draws → length got + length stock ≡ length (draws ++ stock)
together draws got stock is = ap (λ ns. length ns + length stock) is ∙ sym (length-append draws stock)

pub too_many : (nums : List Number) (parts : Parts) (n : ℕ) → n ≡ length nums → 64 < n → is_too_much nums parts ≡ true
too_many nums parts n is many = ap (λ b. b || nat_lt 200 (effects_in parts)) (above (length nums) (subst (λ k. 64 < k) is many))
  where
    above : (k : ℕ) → 64 < k → nat_lt 64 k ≡ true
    above k h = grind (arith, nat_tests)

pub too_large : (nums : List Number) (parts : Parts) (e : ℕ) → e ≡ effects_in parts → 200 < e → is_too_much nums parts ≡ true
too_large nums parts e is large = ap (λ b. nat_lt 64 (length nums) || b) (above (effects_in parts) (subst (λ k. 200 < k) is large))
    ∙ or_true (nat_lt 64 (length nums))
  where
    above : (k : ℕ) → 200 < k → nat_lt 200 k ≡ true
    above k h = grind (arith, nat_tests)

    or_true : (b : Bool) → (b || true) ≡ true
    or_true true = refl
    or_true false = refl

pub few_enough : (nums : List Number) (parts : Parts) (n e : ℕ) → n ≡ length nums → e ≡ effects_in parts → n ≤ 64 → e ≤ 200 → is_too_much nums parts ≡ false
few_enough nums parts n e a b few small =
    λ i. within (length nums) (subst (λ k. k ≤ 64) a few) i || inside (effects_in parts) (subst (λ k. k ≤ 200) b small) i
  where
    within : (k : ℕ) → k ≤ 64 → nat_lt 64 k ≡ false
    within k h = grind (arith, nat_tests)

    inside : (k : ℕ) → k ≤ 200 → nat_lt 200 k ≡ false
    inside k h = grind (arith, nat_tests)

is_zero : (k : ℕ) → k ≡ 0 → nat_eq k 0 ≡ true
is_zero k h = grind (arith, nat_tests)

is_more : (k : ℕ) → 1 ≤ k → nat_eq k 0 ≡ false
is_more k h = grind (arith, nat_tests)

pub nothing_there : (nums : List Number) (parts : Parts) (n e : ℕ) → n ≡ length nums → e ≡ effects_in parts → n ≡ 0 → e ≡ 0 → is_nothing nums parts ≡ true
nothing_there nums parts n e a b none without = λ i. is_zero (effects_in parts) (sym b ∙ without) i && is_zero (length nums) (sym a ∙ none) i

pub some_numbers : (nums : List Number) (parts : Parts) (n : ℕ) → n ≡ length nums → 1 ≤ n → is_nothing nums parts ≡ false
some_numbers nums parts n a some = ap (λ b. nat_eq (effects_in parts) 0 && b) (is_more (length nums) (subst (λ k. 1 ≤ k) a some))
    ∙ no_both (nat_eq (effects_in parts) 0)

pub some_effects : (nums : List Number) (parts : Parts) (e : ℕ) → e ≡ effects_in parts → 1 ≤ e → is_nothing nums parts ≡ false
some_effects nums parts e b some = ap (λ c. c && nat_eq (length nums) 0) (is_more (effects_in parts) (subst (λ k. 1 ≤ k) b some))

pub no_effects : (parts : Parts) (e : ℕ) → e ≡ effects_in parts → e ≡ 0 → nat_eq (effects_in parts) 0 ≡ true
no_effects parts e b none = is_zero (effects_in parts) (sym b ∙ none)

pub with_effects : (parts : Parts) (e : ℕ) → e ≡ effects_in parts → 1 ≤ e → nat_eq (effects_in parts) 0 ≡ false
with_effects parts e b some = is_more (effects_in parts) (subst (λ k. 1 ≤ k) b some)

-- ---- what was recorded is what the call leaves

module _ (s : State) (sessions : List Session) (ranges : List NumberRange) (entries : List Entry) (ledger : Ledger) (limit : ℕ) (name : List ℕ) (x : Session)
    (parts : Parts) (stock : List Number)
    (at : IsCommitAt s sessions ranges entries ledger limit name x (command.Commit name parts stock)) (few : is_too_much (x.draws ++ stock) parts ≡ false)
    (some : is_nothing (x.draws ++ stock) parts ≡ false)
    (space : nat_le limit (length ledger.marks) ≡ false) where
  called_so : x.name ≡ name
  called_so = bytes_eq-same _ _ (found_name name sessions x at.found)

  abbrev left_as : List Session → List Entry → Ledger → Written → State
  left_as after left now w = record s { sessions = after; ranges = ranges_behind stock ranges w; locks = left; stored = now }

  pub unit_recorded : nat_eq (effects_in parts) 0 ≡ false → (unit : UnitOfWork) (levels : List StoredInterval)
      → unit ≡ unit_of ledger.start entries x parts (x.draws ++ stock)
      → levels ≡ settled_rows ledger.levels ranges (x.draws ++ stock) → (after : List Session) (left : List Entry) (now : Ledger) (w : Written)
      → RecordsUnit sessions after entries left ledger now name unit levels w → IsWritten s (command.Commit name parts stock) (left_as after left now w) w
  unit_recorded effects unit levels is rows after left now (Answered (reply.Unit key)) h =
      commits s sessions ranges entries ledger limit name x parts stock at few effects some space after left now key
      (h.0 ∙ ap (λ (u : UnitOfWork). u.key) is) (h.1 ∙ ap (λ n. with_session n with_next_unit sessions) (sym called_so)) h.2
      (h.3 ∙ (λ i. with_intervals (rows i) (with_unit ledger (is i))))
  unit_recorded effects unit levels is rows after left now (Answered (reply.Refused refusal.NoMemory)) h =
      subst (λ ss. IsAct s (command.Commit name parts stock) (left_as ss left now (Answered (reply.Refused refusal.NoMemory))) (reply.Refused refusal.NoMemory))
      (sym h.0)
      (subst (λ es. IsAct s (command.Commit name parts stock) (left_as sessions es now (Answered (reply.Refused refusal.NoMemory)))
      (reply.Refused refusal.NoMemory)) (sym h.1)
      (commits_wanting s sessions ranges entries ledger limit name x parts stock at now h.2))
  unit_recorded effects unit levels is rows after left now (Failed (Some (Record recorded kept))) h =
      commits_in_doubt s sessions ranges entries ledger limit name x parts stock at few effects some space recorded kept (h.0 ∙ is) (h.1 ∙ rows)
  unit_recorded effects unit levels is rows after left now Unfiled h =
      commits_unfiled s sessions ranges entries ledger limit name x parts stock at few effects some space unit.key
      (ap (λ (u : UnitOfWork). u.key) is) h.1 now h.0
  unit_recorded effects unit levels is rows after left now _ h = absurd h

  pub numbers_recorded : nat_eq (effects_in parts) 0 ≡ true → (key : UnitKey) (nums : List Number) (levels : List StoredInterval)
      → key ≡ unit_key ledger.start x → nums ≡ (x.draws ++ stock)
      → levels ≡ settled_rows ledger.levels ranges (x.draws ++ stock) → (after : List Session) (now : Ledger) (w : Written)
      → RecordsNumbers sessions after ledger now name key nums levels w → IsWritten s (command.Commit name parts stock) (left_as after entries now w) w
  numbers_recorded alone key nums levels k is rows after now (Answered reply.Done) h =
      commits_numbers s sessions ranges entries ledger limit name x parts stock at few alone some space after now
      (h.0 ∙ ap (λ n. with_session n without_draws sessions) (sym called_so))
      (h.1 ∙ (λ i. with_intervals (rows i) (with_mark ledger (k i) (Num (is i)))))
  numbers_recorded alone key nums levels k is rows after now (Answered (reply.Refused refusal.NoMemory)) h =
      subst (λ ss. IsAct s (command.Commit name parts stock) (left_as ss entries now (Answered (reply.Refused refusal.NoMemory)))
      (reply.Refused refusal.NoMemory)) (sym h.0)
      (commits_wanting s sessions ranges entries ledger limit name x parts stock at now h.1)
  numbers_recorded alone key nums levels k is rows after now (Failed (Some (Draw drawn_key drawn kept))) h =
      let key_is : drawn_key ≡ unit_key s.stored.start x = h.0 ∙ k ∙ ap (λ (l : Ledger). unit_key l.start x) (sym at.own_ledger) in
      subst (λ l. IsWritten s (command.Commit name parts stock) (left_as after entries now (Failed (Some l))) (Failed (Some l)))
      (λ i. Draw (sym key_is i) (sym (h.1 ∙ is) i) kept)
      (numbers_in_doubt s sessions ranges entries ledger limit name x parts stock at few alone some space kept (h.2 ∙ rows))
  numbers_recorded alone key nums levels k is rows after now _ h = absurd h
