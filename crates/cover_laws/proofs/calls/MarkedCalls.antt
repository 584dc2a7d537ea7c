-- What a call leaves stored, by the mark that it adds.
use Rattle.std.proofs.Common.{◌≡◌, ℕ, Bool, true, false, List, [], ◌∷◌, ◌++◌, refl, sym, subst}
use Rattle.std.specs.Prelude.{not, if◌then◌else◌, nat_le, Some, None}
use Rattle.enq_base.specs.declared.owner.UnitKey.{UnitKey}
use Rattle.enq_base.specs.declared.unit.Num.{Num}
use Rattle.enq_base.specs.declared.unit.Parts.{Parts}
use Rattle.enq_base.specs.declared.unit.Status.{Status}
use Rattle.enq_base.specs.declared.unit.Status.TheVariants as status
use Rattle.number_ranges.specs.Intervals.{block_level, is_buffered, with_level}
use Rattle.number_ranges.specs.declared.interval.Interval.{Interval}
use Rattle.ledger_steps.specs.Drawn.{handed_out, num_of, stored_as}
use Rattle.ledger_steps.specs.Intervals.{with_intervals}
use Rattle.ledger_steps.specs.Levels.{present}
use Rattle.ledger_steps.specs.Posts.{WaitsFor, kind_for}
use Rattle.update_records.specs.Growing.{with_mark, with_unit}
use Rattle.update_records.specs.Ledger.{Ledger, Levels}
use Rattle.update_records.specs.Marks.{status_of}
use Rattle.update_records.specs.declared.records.MarkKind.TheVariants as mark
use Rattle.hall_laws.proofs.histories.WithoutServer.{anew_as_before}
use Rattle.model_laws.proofs.ByCall.{OfEach, by_call}
use Rattle.model_laws.proofs.PartOrders.{held_for}
use Rattle.hall_model.specs.Calls.{Call, OfSession, OfWorker, OfAdmin, Cancels, Commits, Posts, Resubmits, Restarts}
use Rattle.hall_model.specs.Numbers.{from_memory, next_number, raised_to}
use Rattle.hall_model.specs.Orders.{order_of}
use Rattle.hall_model.specs.Sessions.{session_at, unit_key, with_draw, with_session}
use Rattle.hall_model.specs.State.{State}
use Rattle.hall_model.specs.Step.{Found, call_verdict, is_taken, may_cancel, posted_reply, unit_of}
use Rattle.hall_model.specs.declared.command.Reply.{Reply}
use Rattle.hall_model.specs.declared.command.Reply.TheVariants as reply
use Rattle.hall_model.specs.declared.command.Session.{Session}
use Rattle.cover_laws.proofs.calls.QuietCalls.{Leaving}
use Rattle.ledger_steps.specs.declared.part.Part.{Part}

abbrev pub is_by_session : Call → Bool
is_by_session (OfSession name call) = true
is_by_session call = false

-- the answer may be that of a call which adds no mark
abbrev pub may_be_unmarked : Reply → Call → Bool
may_be_unmarked (reply.Posted unit) call = false
may_be_unmarked (reply.Bad unit index reason) call = false
may_be_unmarked (reply.Closed unit) call = false
may_be_unmarked (reply.Bad2 unit index reason) call = false
may_be_unmarked (reply.Unit unit) call = not (is_by_session call)
may_be_unmarked r call = true

-- What is shown of a call, of what it leaves stored and of its answer, for each mark that it may add.
pub record OfMarks (P : Call → Ledger → Reply → Type 0) (found : Found) (s : State) : Type 0 where
  -- nothing is marked, and at most a level is raised
  pub none : (call : Call) (levels : Levels) (r : Reply) → may_be_unmarked r call ≡ true → P call (record s.stored { levels = levels }) r
  pub numbers : (call : Call) (key : UnitKey) (numbers : List Num) (levels : Levels)
      → P call (record (with_mark s.stored key (mark.Num numbers)) { levels = levels }) reply.Done
  pub records : (name : List ℕ) (x : Session) (parts : Parts) (stock : List Num) (levels : Levels) → session_at s.sessions name ≡ Some x
      → P (OfSession name (Commits parts stock))
      (record (with_unit s.stored (unit_of s.stored.start s.locks x parts (x.draws ++ stock))) { levels = levels })
      (reply.Unit (unit_key s.stored.start x))
  pub posts : (worker : ℕ) (part : Part) (unit : UnitKey) → WaitsFor part s.stored unit
      → P (OfWorker worker (Posts part)) (with_mark s.stored unit (kind_for part (found.part part unit)))
      (posted_reply part unit (found.part part unit))
  pub cancels : (unit : UnitKey) (was : Status) → status_of s.stored.units s.stored.marks unit ≡ Some was → may_cancel was ≡ true
      → P (OfAdmin (Cancels unit)) (with_mark s.stored unit mark.Gone) (reply.Unit unit)
  pub reopens : (unit : UnitKey) → status_of s.stored.units s.stored.marks unit ≡ Some status.Bad
      → P (OfAdmin (Resubmits unit)) (with_mark s.stored unit mark.Again1) (reply.Unit unit)
  pub reposts : (unit : UnitKey) → status_of s.stored.units s.stored.marks unit ≡ Some status.Bad2
      → P (OfAdmin (Resubmits unit)) (with_mark s.stored unit mark.Again2) (reply.Unit unit)

module _ (P : Call → Ledger → Reply → Type 0) (found : Found) (s : State) (nothing : s.in_flight ≡ None) (each : OfMarks P found s) where
  raised : (call : Call) (i : Interval) (upto : ℕ) (r : Reply) → may_be_unmarked r call ≡ true → P call (raised_to i upto s.stored) r
  raised call i upto r none =
      elim (nat_le upto i.level)
      as (λ b. P call (if b then s.stored else with_intervals (stored_as (with_level (block_level i upto) i) ∷ []) s.stored) r) [
        | true ↦ each.none call s.stored.levels r none
        | false ↦ each.none call _ r none
      ]

  -- a number that is drawn raises the level of an interval with a buffer
  given : (call : Call) (i : Interval) (number : ℕ) (sessions : List Session) (r : Reply) → may_be_unmarked r call ≡ true
      → P call (from_memory i number (record s { sessions = sessions })).stored r
  given call i number sessions r none =
      let t = record s { sessions = sessions } in
      elim (is_buffered i)
      as (λ b. P call (if b then record t { ranges = handed_out i t.ranges; stored = raised_to i number t.stored } else t).stored r) [
        | true ↦ raised call i number r none
        | false ↦ each.none call s.stored.levels r none
      ]

  same : (call : Call) (r : Reply) → may_be_unmarked r call ≡ true → P call s.stored r
  same call r none = each.none call s.stored.levels r none

  each_verdict : OfEach (λ call v. Leaving (P call) s v) found s
  each_verdict = record {
    refuses = λ call r plain. same call _ refl;
    enters = λ name user free. same _ _ refl;
    logs_off = λ name x at. same _ _ refl;
    grants = λ name x rs locks at e. same _ _ refl;
    lowers = λ name x rs at. same _ _ refl;
    frees = λ name x at. same _ _ refl;
    converts = λ name x wanted c at e. same _ _ refl;
    draws = λ name x object nr r at can.
        let i = present s.stored.levels r.interval in
        let number = next_number r i x in
        given _ i number (with_session x.name (with_draw (num_of i number)) s.sessions) _ refl;
    reserves = λ name x object nr upto r at can. raised _ (present s.stored.levels r.interval) upto _ refl;
    reads = λ name x table key at. same _ _ refl;
    commits_nothing = λ name x parts stock at. same _ _ refl;
    commits_numbers = λ name x parts stock at. each.numbers _ (unit_key s.stored.start x) (x.draws ++ stock) _;
    commits = λ name x parts stock at. each.records name x parts stock _ at;
    rolls_back = λ name x at. same _ _ refl;
    takes = λ worker part unit free e. same _ _ refl;
    posts = λ worker part unit e. each.posts worker part unit (held_for part s.stored (order_of s.orders worker) unit e).1;
    drops = λ worker unit e. same _ _ refl;
    kills = λ up. same _ _ refl;
    fails_over = λ can. same _ _ refl;
    strays = λ first second stray. same _ _ refl;
    restarts = λ off.
        subst (λ ledger. P (OfAdmin Restarts) ledger reply.Done) (sym (anew_as_before (is_taken found.anew) s nothing)) (same _ _ refl);
    attaches = λ up. same _ _ refl;
    cancels = λ unit was can. each.cancels unit was can.recorded can.allowed;
    reopens = λ unit es here stand. each.reopens unit here;
    reposts = λ unit here. each.reposts unit here;
  }

-- any call, where nothing is in flight
pub by_marks : (P : Call → Ledger → Reply → Type 0) (found : Found) (s : State) → s.in_flight ≡ None → OfMarks P found s → (call : Call)
    → Leaving (P call) s (call_verdict found s call)
by_marks P found s nothing each call =
    by_call (λ call v. Leaving (P call) s v) found s (each_verdict P found s nothing each) call
