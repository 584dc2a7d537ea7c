-- A reservation that is answered with a level has raised the interval's level to it.
use Rattle.std.proofs.Common.{◌≡◌, ℕ, ◌≤◌, Bool, true, false, true≢false, List, refl, sym, ap, subst, ◌∙◌, arith}
use Rattle.std.specs.Prelude.{Contains, Option, Some, None, if◌then◌else◌, nat_lt, not}
use Rattle.std.proofs.lemmas.Bool.Decides.{nat_tests}
use Rattle.enq_base.specs.declared.refusal.Refusal.{Refusal}
use Rattle.enq_base.specs.declared.refusal.Refusal.TheVariants as refusal
use Rattle.number_ranges.specs.Intervals.{block_level, is_buffered}
use Rattle.number_ranges.specs.declared.interval.Interval.{Interval}
use Rattle.ledger_steps.specs.Levels.{intervals_of, level_in, present, range_at}
use Rattle.ledger_steps.specs.declared.range.NumberRange.{NumberRange}
use Rattle.draw_laws.proofs.Drawing.{interval_among, range_found}
use Rattle.draw_laws.proofs.IntervalNames.{one_interval}
use Rattle.model_laws.proofs.ByCall.{CanReserve, by_event}
use Rattle.model_laws.proofs.NotedCalls.{by_noting}
use Rattle.hall_model.specs.Calls.{OfSession, Reserves}
use Rattle.hall_model.specs.Devices.{DeviceOutcome}
use Rattle.hall_model.specs.History.{IsStep, Served, judged, served, step, takes_flight}
use Rattle.hall_model.specs.Kept.{IsKept, IsSteady}
use Rattle.hall_model.specs.Numbers.{raised_to}
use Rattle.hall_model.specs.Sessions.{session_at}
use Rattle.hall_model.specs.State.{State}
use Rattle.hall_model.specs.Step.{Found, Verdict, Refuses, Leaves, call_verdict, called, own_verdict, reserving, unavailable, unless_refused}
use Rattle.hall_model.specs.declared.command.Command.TheVariants as command
use Rattle.hall_model.specs.declared.command.Reply.{Reply}
use Rattle.hall_model.specs.declared.command.Reply.TheVariants as reply
use Rattle.hall_model.specs.declared.command.Session.{Session}
use Rattle.stock_laws.proofs.Levels.{raised_own, raised_reached}
use Rattle.stock_laws.specs.Stocked.{HasReached, answers_reservation}

not_past : (m n : ℕ) → nat_lt m n ≡ false → n ≤ m
not_past m n h = grind (arith, nat_tests)

not_not : (b : Bool) → not b ≡ false → b ≡ true
not_not true h = refl
not_not false h = absurd (true≢false h)

-- ---- what a reservation comes to

-- it is refused, or numbers of a range are reserved
record OfReserve (Q : Verdict → Type 0) (s : State) (object nr : List ℕ) (upto : ℕ) : Type 0 where
  refuses : (r : Refusal) → Q (Refuses r)
  reserves : (r : NumberRange) → CanReserve s object nr upto r
      → Q (Leaves (record s { stored = raised_to (present s.stored.levels r.interval) upto s.stored })
      (reply.Level (block_level (present s.stored.levels r.interval) upto)))

pub one_of : (Q : Verdict → Type 0) (b : Bool) (v w : Verdict) → (b ≡ true → Q v) → (b ≡ false → Q w) → Q (if b then v else w)
one_of Q true v w p q = p refl
one_of Q false v w p q = q refl

module _ (Q : Verdict → Type 0) (s : State) (object nr : List ℕ) (upto : ℕ) (each : OfReserve Q s object nr upto) where
  by_range : (o : Option NumberRange) → range_at s.ranges object nr ≡ o
      → Q (elim o [ None ↦ Refuses refusal.IntervalNotFound | Some r ↦ reserving s (present s.stored.levels r.interval) upto ])
  by_range None at = each.refuses refusal.IntervalNotFound
  by_range (Some r) at =
      one_of Q (not (is_buffered r.interval)) _ _ (λ e. each.refuses refusal.IntervalNotFound)
      (λ buffered. one_of Q (nat_lt r.interval.to upto) _ _ (λ e. each.refuses (refusal.IntervalOverflow r.interval.to))
      (λ within. each.reserves r (record { range = at; buffered = buffered; within = within })))

  by_session : (found : Found) (o : Option Session) → Q (called found s (Reserves object nr upto) o)
  by_session found None = each.refuses refusal.UnknownSession
  by_session found (Some x) = by_range (range_at s.ranges object nr) refl

  by_reserve : (found : Found) (name : List ℕ) → Q (call_verdict found s (OfSession name (Reserves object nr upto)))
  unfolding call_verdict
  by_reserve found name =
      let call = OfSession name (Reserves object nr upto) in
      elim (unavailable s call) as (λ o. Q (unless_refused o (own_verdict found s call))) [
        | None ↦ by_session found (session_at s.sessions name)
        | Some r ↦ each.refuses r
      ]

-- ---- the level

same_level : (a b : ℕ) → reply.Level a ≡ reply.Level b → a ≡ b
same_level a b e = cc

refused_level : (r : Refusal) (level : ℕ) → reply.Refused r ≡ reply.Level level → ⊥
refused_level r level e = cc

module _ (s : State) (steady : IsSteady s) (i : Interval) (upto level : ℕ) (among : Contains (intervals_of s.ranges) i) where
  -- where it is told a level
  abbrev TellsLevel : Served → Type 0
  TellsLevel r = r.reply ≡ reply.Level level → HasReached s.stored.levels r.state.stored.levels i upto level

  reserves_level : (r : NumberRange) → CanReserve s i.object i.nr upto r
      → TellsLevel (judged s (Leaves (record s { stored = raised_to (present s.stored.levels r.interval) upto s.stored })
      (reply.Level (block_level (present s.stored.levels r.interval) upto))))
  reserves_level r can told =
      let range = range_found s.ranges i.object i.nr r can.range in
      let there = interval_among s.ranges r range.among in
      let one : r.interval ≡ i = one_interval (intervals_of s.ranges) r.interval i steady.drawn.intervals.apart there among range.name in
      let j = r.interval in
      let ledger = raised_to (present s.stored.levels j) upto s.stored in
      let is = not_not (is_buffered j) can.buffered in
      let within = not_past j.to upto can.within in
      let intervals = steady.drawn.intervals in
      let fit = steady.drawn.fit in
      let same : block_level (present s.stored.levels j) upto ≡ level = same_level _ _ told in
      let own : level_in ledger.levels j ≡ block_level (present s.stored.levels j) upto =
      raised_own s.ranges s.stored j upto intervals fit there is within in
      let high : upto ≤ block_level (present s.stored.levels j) upto = raised_reached s.ranges s.stored j upto intervals fit there is within in
      record {
        reached = subst (λ n. upto ≤ n) same high;
        stands = ap (level_in ledger.levels) (sym one) ∙ (own ∙ same);
        blocks = sym same ∙ ap (λ x. block_level (present s.stored.levels x) upto) one;
      }

  verdict_level : (found : Found) (session : List ℕ) → TellsLevel (judged s (call_verdict found s (OfSession session (Reserves i.object i.nr upto))))
  verdict_level found session = by_reserve (λ v. TellsLevel (judged s v)) s i.object i.nr upto
      (record { refuses = λ r told. absurd (refused_level r level told); reserves = reserves_level }) found session

  step_level : (o : DeviceOutcome) (line : ℕ) (session : List ℕ) → TellsLevel (step o s line (command.Reserve session i.object i.nr upto))
  step_level o line session =
      let c = command.Reserve session i.object i.nr upto in
      let k : TellsLevel (served o s c) =
      by_event TellsLevel o s c (λ lost r k. k) (λ found. verdict_level found session)
      (λ told. absurd (refused_level _ level told)) (λ told. absurd (refused_level _ level told)) (λ reading told. absurd (refused_level _ level told))
      (λ reading told. absurd (refused_level _ level told)) (λ read r told. absurd (refused_level _ level told)) in
      by_noting TellsLevel line c (takes_flight o) (served o s c) k k

pub level_reserved : (s t : State) (line : ℕ) (session : List ℕ) (i : Interval) (upto level : ℕ) → IsKept s → Contains (intervals_of s.ranges) i
    → IsStep s t line (command.Reserve session i.object i.nr upto) (reply.Level level) → HasReached s.stored.levels t.stored.levels i upto level
level_reserved s t line session i upto level kept among made =
    subst (TellsLevel s kept.steady i upto level among) (sym made.same) (step_level s kept.steady i upto level among made.outcome line session) refl

-- ---- all others are refused

abbrev Answers : Served → Type 0
Answers r = answers_reservation r.reply ≡ true

pub reservation_answers : (s t : State) (line : ℕ) (session object nr : List ℕ) (upto : ℕ) (r : Reply)
    → IsStep s t line (command.Reserve session object nr upto) r → answers_reservation r ≡ true
reservation_answers s t line session object nr upto r made =
    let c = command.Reserve session object nr upto in
    let o = made.outcome in
    let each : OfReserve (λ v. Answers (judged s v)) s object nr upto = record { refuses = λ x. refl; reserves = λ x can. refl } in
    let k : Answers (served o s c) =
    by_event Answers o s c (λ lost x k. k) (λ found. by_reserve (λ v. Answers (judged s v)) s object nr upto each found session)
    refl refl (λ reading. refl) (λ reading. refl) (λ read x. refl) in
    subst Answers (sym made.same) (by_noting Answers line c (takes_flight o) (served o s c) k k)
