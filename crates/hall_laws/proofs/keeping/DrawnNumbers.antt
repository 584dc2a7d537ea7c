-- What each call leaves of the names of the sessions, and of the numbers that they have drawn.
use Rattle.std.proofs.Common.{◌≡◌, ℕ, ◌+◌, ◌≤◌, Bool, true, false, cond, List, [], ◌∷◌, ◌++◌, refl, sym, ap, ◌∙◌, subst, arith}
use Rattle.std.specs.Prelude.{Contains, count_by, sum_by, if◌then◌else◌, is_some, nat_le, nat_lt, not, ◌&&◌, Option, Some, None}
use Rattle.std.specs.List.{AllByRecursion, filter, find}
use Rattle.std.specs.Str.{bytes_eq}
use Rattle.std.proofs.lemmas.Bool.Decides.{nat_tests}
use Rattle.std.proofs.lemmas.List.{append-nil, map-append}
use Rattle.enq_base.specs.Owners.{same_unit}
use Rattle.enq_base.specs.declared.owner.UnitKey.{UnitKey}
use Rattle.enq_base.specs.declared.unit.Num.{Num}
use Rattle.enq_base.specs.declared.unit.Status.{Status}
use Rattle.lock_entry.proofs.lemmas.Naming.{bytes_eq-same}
use Rattle.number_ranges.specs.Intervals.{block_level, is_buffered, with_level}
use Rattle.number_ranges.specs.declared.interval.Interval.{Interval}
use Rattle.record_laws.proofs.CommittedNumbers.{numbers_push, numbers_recorded, numbers_same}
use Rattle.ledger_steps.specs.Intervals.{with_intervals, with_levels}
use Rattle.ledger_steps.specs.Posts.{kind_for}
use Rattle.ledger_steps.specs.declared.step.Outcome.{Outcome}
use Rattle.ledger_steps.specs.declared.step.Outcome.TheVariants as outcome
use Rattle.draw_laws.proofs.Counting.{bit, count_append, count_cons, count_none}
use Rattle.draw_laws.proofs.Drawing.{interval_among, range_found, sum_split}
use Rattle.draw_laws.proofs.FittingLevels.{found_level, level_fits}
use Rattle.draw_laws.proofs.OverSessions.{session_commits_stock, session_draws_buffered, session_draws_plain, session_gives_back}
use Rattle.draw_laws.proofs.Recording.{raised_drawn}
use Rattle.draw_laws.proofs.SessionDraws.{fewer_drawn, fewer_last, fewer_left, fewer_without}
use Rattle.draw_laws.proofs.SettledRows.{insert_own}
use Rattle.draw_laws.proofs.Stocks.{no_stock, stock_drawn}
use Rattle.ledger_steps.specs.Drawn.{AreDrawnRight, IsStock, times, drawn_of, handed_out, num_of, passed, settled_rows, stored_as}
use Rattle.ledger_steps.specs.Levels.{intervals_of, level_in, name_of, present}
use Rattle.ledger_steps.specs.declared.range.NumberRange.{NumberRange}
use Rattle.record_laws.proofs.Status.{none_of, one_unit, status_push, unit_other}
use Rattle.update_records.specs.Business.{numbers_in, numbers_of}
use Rattle.update_records.specs.Growing.{next_mark, with_mark, with_unit}
use Rattle.update_records.specs.Intervals.{level_of}
use Rattle.update_records.specs.Ledger.{Ledger}
use Rattle.update_records.specs.Marks.{given, has_no_v2, status_after, unit_at}
use Rattle.update_records.specs.declared.records.MarkKind.{MarkKind}
use Rattle.update_records.specs.declared.records.MarkKind.TheVariants as mark
use Rattle.update_records.specs.declared.records.Unit.{Unit as UnitOfWork}
use Rattle.hall_model.specs.Kept.{HaveMarks, HaveOwnNames, IsDrawn, draws_in}
use Rattle.hall_model.specs.Numbers.{holds, next_number, raised_to, stocked}
use Rattle.hall_model.specs.Sessions.{is_called, session_at, unit_key, with_draw, with_session, without_draws}
use Rattle.hall_model.specs.State.{State}
use Rattle.hall_model.specs.Stocks.{IsStockIn}
use Rattle.hall_model.specs.Step.{numbered}
use Rattle.hall_model.specs.declared.command.Session.{Session}
use Rattle.model_laws.proofs.ByCall.{CanDraw}
use Rattle.model_laws.proofs.OtherStatuses.{recorded_other, status_in}
use Rattle.model_laws.proofs.EachLock.{recorded_here}
use Rattle.model_laws.proofs.BlockLevels.{AreRightIn, blocks, up_to}
use Rattle.ledger_steps.specs.declared.part.Part.{Part}
use Rattle.ledger_steps.specs.Parts.{is_first}

abbrev draws_of : Session → List Num
draws_of x = x.draws

-- ---- names

none_called : (p : Session → Bool) (xs : List Session) → is_some (find p xs) ≡ false → AllByRecursion (λ (x : Session). p x ≡ false) xs
none_called p [] h = tt
none_called p (x ∷ xs) h =
    elim (p x) as (λ b. p x ≡ b → is_some (cond b (Some x) (find p xs)) ≡ false → (p x ≡ false) × AllByRecursion (λ (y : Session). p y ≡ false) xs) [
      | true ↦ λ e k. cc
      | false ↦ λ e k. (e, none_called p xs k)
    ] refl h

pub named_push : (name : List ℕ) (xs : List Session) (y : Session) → y.name ≡ name → is_some (session_at xs name) ≡ false → HaveOwnNames xs
    → HaveOwnNames (xs ++ y ∷ [])
named_push name xs y is free h other =
    let whole : count_by (is_called other) (xs ++ y ∷ []) ≡ count_by (is_called other) xs + (bit (is_called other y) + 0) =
    count_append (is_called other) xs (y ∷ []) ∙ ap (λ k. count_by (is_called other) xs + k) (count_cons (is_called other) y []) in
    elim (is_called other y) as (λ b. is_called other y ≡ b → count_by (is_called other) (xs ++ y ∷ []) ≤ 1) [
      | true ↦ λ e.
          let same : other ≡ name = sym (bytes_eq-same y.name other e) ∙ is in
          let none : count_by (is_called other) xs ≡ 0 =
          subst (λ n. count_by (is_called n) xs ≡ 0) (sym same) (count_none (is_called name) xs (none_called (is_called name) xs free)) in
          let one : bit (is_called other y) ≡ 1 = ap bit e in
          omega (arith, whole, none, one)
      | false ↦ λ e.
          let nothing : bit (is_called other y) ≡ 0 = ap bit e in
          let few = h other in
          omega (arith, whole, nothing, few)
    ] refl

fewer_counted : (p q : Session → Bool) (xs : List Session) → count_by p (filter q xs) ≤ count_by p xs
fewer_counted p q [] = omega arith
fewer_counted p q (x ∷ xs) =
    let rest = fewer_counted p q xs in
    let whole = count_cons p x xs in
    let kept = count_cons p x (filter q xs) in
    elim (q x) as (λ b. count_by p (cond b (x ∷ filter q xs) (filter q xs)) ≤ count_by p (x ∷ xs)) [
      | true ↦ omega (arith, rest, whole, kept)
      | false ↦ omega (arith, rest, whole)
    ]

pub named_filter : (q : Session → Bool) (xs : List Session) → HaveOwnNames xs → HaveOwnNames (filter q xs)
named_filter q xs h name =
    let fewer = fewer_counted (is_called name) q xs in
    let one = h name in
    omega (arith, fewer, one)

count_with : (change : Session → Session) → ((x : Session) → (change x).name ≡ x.name) → (name other : List ℕ) (xs : List Session)
    → count_by (is_called other) (with_session name change xs) ≡ count_by (is_called other) xs
count_with change keeps name other [] = refl
count_with change keeps name other (x ∷ xs) =
    elim (is_called name x)
    as (λ b. count_by (is_called other) (cond b (change x ∷ xs) (x ∷ with_session name change xs)) ≡ count_by (is_called other) (x ∷ xs)) [
      | true ↦ count_cons (is_called other) (change x) xs ∙ ap (λ n. bit (bytes_eq n other) + count_by (is_called other) xs) (keeps x)
          ∙ sym (count_cons (is_called other) x xs)
      | false ↦
          count_cons (is_called other) x (with_session name change xs) ∙ ap (λ k. bit (is_called other x) + k) (count_with change keeps name other xs)
          ∙ sym (count_cons (is_called other) x xs)
    ]

pub named_with : (change : Session → Session) → ((x : Session) → (change x).name ≡ x.name) → (name : List ℕ) (xs : List Session) → HaveOwnNames xs
    → HaveOwnNames (with_session name change xs)
named_with change keeps name xs h other = subst (λ n. n ≤ 1) (sym (count_with change keeps name other xs)) (h other)

-- ---- sessions that come, go, and give back what they drew

-- with these draws of the sessions
abbrev pub IsDrawnBy : State → List (List Num) → Type 0
IsDrawnBy s draws = AreDrawnRight s.ranges s.stored.levels draws (numbers_of s.stored.units s.stored.marks)

pub drawn_entered : (s : State) (y : Session) → y.draws ≡ [] → IsDrawn s → IsDrawnBy s (draws_in (s.sessions ++ y ∷ []))
drawn_entered s y none h =
    subst (IsDrawnBy s) (sym (map-append draws_of s.sessions (y ∷ []) ∙ ap (λ d. draws_in s.sessions ++ d ∷ []) none))
    (fewer_drawn s.ranges s.stored.levels (draws_in s.sessions) (draws_in s.sessions ++ [] ∷ []) (numbers_of s.stored.units s.stored.marks)
    (fewer_last (draws_in s.sessions)) h)

pub drawn_left : (s : State) (p : Session → Bool) → IsDrawn s → IsDrawnBy s (draws_in (filter p s.sessions))
drawn_left s p h = fewer_drawn s.ranges s.stored.levels (draws_in s.sessions) (draws_in (filter p s.sessions)) (numbers_of s.stored.units s.stored.marks)
    (fewer_left draws_of p s.sessions) h

pub drawn_back : (s : State) (name : List ℕ) (x : Session) (change : Session → Session) → session_at s.sessions name ≡ Some x → (change x).draws ≡ []
    → IsDrawn s → IsDrawnBy s (draws_in (with_session name change s.sessions))
drawn_back s name x change at none h = session_gives_back draws_of (is_called name) change s.sessions x at s.ranges s.stored.levels
    (numbers_of s.stored.units s.stored.marks) none h

-- ---- marks

-- a mark of this kind commits no number
abbrev pub CommitsNone : MarkKind → Type 0
CommitsNone kind = (units : List UnitOfWork) (seq : ℕ) (key : UnitKey) → numbers_in units (record { seq = seq; unit = key; kind = kind }) ≡ []

pub post_commits_none : (part : Part) (o : Outcome) → CommitsNone (kind_for part o)
post_commits_none part outcome.Done units seq key = elim (is_first part)
    as (λ b. numbers_in units (record { seq = seq; unit = key; kind = if b then mark.V1 else mark.V2 }) ≡ []) [ true ↦ refl | false ↦ refl ]
post_commits_none part (outcome.Refused index reason) units seq key =
    elim (is_first part) as (λ b. numbers_in units (record { seq = seq; unit = key; kind = if b then mark.Bad1 index reason else mark.Bad2 index reason }) ≡ [])
    [ true ↦ refl | false ↦ refl ]

pub drawn_marked : (s : State) (key : UnitKey) (kind : MarkKind) → CommitsNone kind → IsDrawn s
    → AreDrawnRight s.ranges s.stored.levels (draws_in s.sessions) (numbers_of s.stored.units (with_mark s.stored key kind).marks)
drawn_marked s key kind none h =
    subst (AreDrawnRight s.ranges s.stored.levels (draws_in s.sessions))
    (sym (numbers_same s.stored.units s.stored.marks (next_mark s.stored key kind) (none s.stored.units (next_mark s.stored key kind).seq key))) h

was_none : (b : Bool) (kind : MarkKind) (before : Option Status) → given b kind before ≡ None → before ≡ None
was_none b (mark.Num numbers) before h = h
was_none b mark.Rec before h = cc
was_none b mark.V1 before h = cc
was_none b (mark.Bad1 index reason) before h = cc
was_none b mark.Again1 before h = cc
was_none b mark.V2 before h = cc
was_none b (mark.Bad2 index reason) before h = cc
was_none b mark.Again2 before h = cc
was_none b mark.Gone before h = cc

pub marks_marked : (ledger : Ledger) (key : UnitKey) (kind : MarkKind) → HaveMarks ledger → HaveMarks (with_mark ledger key kind)
marks_marked ledger key kind h other none =
    let b = has_no_v2 ledger.units other in
    let before = status_after b other None ledger.marks in
    h other
    (elim (same_unit key other) as (λ t. (if t then given b kind before else before) ≡ None → before ≡ None) [ true ↦ was_none b kind before | false ↦ λ e. e ]
    (sym (status_push b other None ledger.marks (next_mark ledger key kind)) ∙ none))

-- ---- numbers of a stock

-- there is nothing to be shown of no numbers
pub no_stock_in : (s : State) → IsStockIn s []
no_stock_in s = no_stock (intervals_of s.ranges) s.stored.levels (draws_in s.sessions) (numbers_of s.stored.units s.stored.marks)

-- memory goes behind the numbers of a stock
pub drawn_stocked : (s : State) (stock : List Num) → IsStockIn s stock → IsDrawn s → IsDrawn (stocked stock s)
drawn_stocked s stock fits h =
    let levels = s.stored.levels in
    let draws = draws_in s.sessions in
    let committed = numbers_of s.stored.units s.stored.marks in
    let more : AreDrawnRight s.ranges levels (draws ++ [] ∷ []) committed =
    fewer_drawn s.ranges levels draws (draws ++ [] ∷ []) committed (fewer_last draws) h in
    let also : IsStock (intervals_of s.ranges) levels (draws ++ [] ∷ []) committed stock = record {
      reserved = fits.reserved;
      once = fits.once;
      fresh = λ i among n some.
          let before = fits.fresh i among n some in
          let whole : sum_by (times i n) (draws ++ [] ∷ []) ≡ sum_by (times i n) draws + (0 + 0) = sum_split (times i n) draws [] [] in
          omega (arith, before, whole);
    } in
    subst (λ ds. AreDrawnRight (passed stock s.ranges) levels ds committed) (append-nil draws)
    (fewer_drawn (passed stock s.ranges) levels (draws ++ stock ∷ []) (draws ++ []) committed (fewer_without draws stock [])
    (stock_drawn s.ranges levels draws [] [] committed stock also more))

-- ---- a unit that is recorded with its numbers

some_or_none : {X : Type 0} (o : Option X) (x : X) → o ≡ Some x → o ≡ None → ⊥
some_or_none None x h k = cc
some_or_none (Some y) x h k = cc

pub marks_recorded : (ledger : Ledger) (unit : UnitOfWork) → status_in ledger unit.key ≡ None → HaveMarks ledger → HaveMarks (with_unit ledger unit)
marks_recorded ledger unit fresh h other none =
    elim (same_unit unit.key other) as (λ b. same_unit unit.key other ≡ b → unit_at (ledger.units ++ unit ∷ []) other ≡ None) [
      | true ↦ λ same.
          absurd (some_or_none (status_in (with_unit ledger unit) unit.key) _ (recorded_here ledger unit)
          (ap (status_in (with_unit ledger unit)) (one_unit unit.key other same) ∙ none))
      | false ↦ λ apart. unit_other ledger.units unit other apart ∙ h other (sym (recorded_other ledger unit other fresh apart) ∙ none)
    ] refl

-- what sessions have drawn where one of them has committed what it drew and these numbers of a stock
abbrev AreRightBehind : State → Session → List Num → List Session → List Num → Type 0
AreRightBehind s x stock sessions committed =
    AreDrawnRight (passed stock s.ranges) (with_levels (settled_rows s.stored.levels s.ranges (x.draws ++ stock)) s.stored.levels) (draws_in sessions) committed

pub drawn_recorded : (s : State) (x : Session) (stock : List Num) (change : Session → Session) (unit : UnitOfWork) → session_at s.sessions x.name ≡ Some x
    → (change x).draws ≡ [] → unit.numbers ≡ x.draws ++ stock → status_in s.stored unit.key ≡ None → HaveMarks s.stored
    → IsStockIn s stock → IsDrawn s → AreRightBehind s x stock (with_session x.name change s.sessions)
    (numbers_of (s.stored.units ++ unit ∷ []) (with_unit s.stored unit).marks)
drawn_recorded s x stock change unit at none is fresh marks fits h =
    let units = s.stored.units in
    let old = s.stored.marks in
    subst (AreRightBehind s x stock (with_session x.name change s.sessions))
    (sym (numbers_recorded units unit old (next_mark s.stored unit.key mark.Rec).seq (none_of (has_no_v2 units unit.key) unit.key old fresh)
    (marks unit.key fresh) ∙ ap (λ n. numbers_of units old ++ n) is))
    (session_commits_stock draws_of (is_called x.name) change s.sessions x at s.ranges s.stored.levels (numbers_of units old) stock fits h none)

pub drawn_numbered : (s : State) (x : Session) (stock : List Num) → session_at s.sessions x.name ≡ Some x → IsStockIn s stock → IsDrawn s
    → IsDrawn (stocked stock (numbered s x (x.draws ++ stock)))
drawn_numbered s x stock at fits h =
    let units = s.stored.units in
    let old = s.stored.marks in
    subst (AreRightBehind s x stock (with_session x.name without_draws s.sessions))
    (sym (numbers_push units old (next_mark s.stored (unit_key s.stored.start x) (mark.Num (x.draws ++ stock)))))
    (session_commits_stock draws_of (is_called x.name) without_draws s.sessions x at s.ranges s.stored.levels (numbers_of units old) stock fits h refl)

-- ---- a level that is raised

not_past : (m n : ℕ) → nat_lt m n ≡ false → n ≤ m
not_past m n h = grind (arith, nat_tests)

-- what sessions have drawn is right with a raised level, and the level reaches the number
record IsRaisedWell (s : State) (i : Interval) (upto : ℕ) (ledger : Ledger) : Type 0 where
  drawn : AreRightIn s.ranges s.sessions ledger
  reached : upto ≤ level_in ledger.levels i

raised_well : (s : State) (i : Interval) (upto : ℕ) → Contains (intervals_of s.ranges) i → is_buffered i ≡ true → upto ≤ i.to → IsDrawn s
    → IsRaisedWell s i upto (raised_to (present s.stored.levels i) upto s.stored)
raised_well s i upto among is within h =
    let levels = s.stored.levels in
    let j = present levels i in
    let level = block_level j upto in
    let row = stored_as (with_level level i) in
    let block = blocks j upto is (level_fits (intervals_of s.ranges) levels i h.intervals h.fit among) within in
    elim (nat_le upto j.level) as (λ b. nat_le upto j.level ≡ b → IsRaisedWell s i upto (if b then s.stored else with_intervals (row ∷ []) s.stored)) [
      | true ↦ λ e. record { drawn = h; reached = up_to upto j.level e }
      | false ↦ λ e. record {
        drawn = raised_drawn s.ranges levels (draws_in s.sessions) (numbers_of s.stored.units s.stored.marks) i level among is block.risen block.within h;
        reached = subst (λ n. upto ≤ n) (sym (found_level (with_levels (row ∷ []) levels) i (Some (level_of row)) (insert_own row levels (name_of i) refl)))
            block.reached;
      }
    ] refl

pub drawn_raised : (s : State) (i : Interval) (upto : ℕ) → Contains (intervals_of s.ranges) i → is_buffered i ≡ true → upto ≤ i.to → IsDrawn s
    → AreRightIn s.ranges s.sessions (raised_to (present s.stored.levels i) upto s.stored)
drawn_raised s i upto among is within h = (raised_well s i upto among is within h).drawn

-- ---- a number that is drawn

-- the interval of a range that numbers can be drawn from
can_among : (s : State) (x : Session) (object nr : List ℕ) (r : NumberRange) → CanDraw s x object nr r → Contains s.ranges r
can_among s x object nr r can = (range_found s.ranges object nr r can.range).among

pub drawn_plain : (s : State) (x : Session) (object nr : List ℕ) (r : NumberRange) (number : ℕ) → session_at s.sessions x.name ≡ Some x
    → CanDraw s x object nr r → number ≡ next_number r (present s.stored.levels r.interval) x → is_buffered r.interval ≡ false → HaveOwnNames s.sessions
    → IsDrawn s
    → IsDrawnBy s (draws_in (with_session x.name (with_draw (num_of r.interval number)) s.sessions))
drawn_plain s x object nr r number at can is_next is names h =
    let i = r.interval in
    session_draws_plain draws_of (is_called x.name) (with_draw (num_of i number)) s.sessions x at s.ranges s.stored.levels
    (numbers_of s.stored.units s.stored.marks) i number
    (interval_among s.ranges r (can_among s x object nr r can)) is (names x.name)
    (subst (λ b. (if b then None else find (λ (y : Session). not (is_called x.name y) && holds i y) s.sessions) ≡ None) is can.free)
    (is_next ∙ ap (λ b. if b then r.next else level_in s.stored.levels i + drawn_of i x.draws + 1) is)
    (subst (λ n. n ≤ i.to) (sym is_next) (not_past i.to _ can.within)) refl h

pub drawn_buffered : (s : State) (x : Session) (object nr : List ℕ) (r : NumberRange) (number : ℕ) → session_at s.sessions x.name ≡ Some x
    → CanDraw s x object nr r → number ≡ next_number r (present s.stored.levels r.interval) x → is_buffered r.interval ≡ true → IsDrawn s
    → AreRightIn (handed_out r.interval s.ranges) (with_session x.name (with_draw (num_of r.interval number)) s.sessions)
    (raised_to (present s.stored.levels r.interval) number s.stored)
drawn_buffered s x object nr r number at can is_next is h =
    let i = r.interval in
    let among = can_among s x object nr r can in
    let next : number ≡ r.next = is_next ∙ ap (λ b. if b then r.next else level_in s.stored.levels i + drawn_of i x.draws + 1) is in
    let raised = raised_well s i number (interval_among s.ranges r among) is (subst (λ n. n ≤ i.to) (sym is_next) (not_past i.to _ can.within)) h in
    let ledger = raised_to (present s.stored.levels i) number s.stored in
    subst (λ n. AreRightIn (handed_out i s.ranges) (with_session x.name (with_draw (num_of i n)) s.sessions) ledger) (sym next)
    (session_draws_buffered draws_of (is_called x.name) (with_draw (num_of i r.next)) s.sessions x at s.ranges ledger.levels
    (numbers_of ledger.units ledger.marks) r among is (subst (λ n. n ≤ level_in ledger.levels i) next raised.reached) refl raised.drawn)
