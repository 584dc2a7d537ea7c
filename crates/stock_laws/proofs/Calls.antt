-- What each call leaves of a lot, where the devices do well.
use Rattle.std.proofs.Common.{◌≡◌, ℕ, ◌≤◌, Bool, true, false, true≢false, List, [], ◌∷◌, ◌++◌, map, le_refl, refl, sym, subst, ◌∙◌, arith}
use Rattle.std.specs.Prelude.{Contains, Option, Some, None, if◌then◌else◌, nat_le, nat_lt, not}
use Rattle.std.specs.List.{AllByRecursion}
use Rattle.std.proofs.lemmas.Bool.Decides.{nat_tests}
use Rattle.enq_base.specs.declared.owner.UnitKey.{UnitKey}
use Rattle.enq_base.specs.declared.unit.Num.{Num}
use Rattle.enq_base.specs.declared.unit.Parts.{Parts}
use Rattle.number_ranges.specs.Intervals.{block_level, is_buffered, is_named, with_level}
use Rattle.number_ranges.specs.declared.interval.Interval.{Interval}
use Rattle.record_laws.proofs.Status.{none_of}
use Rattle.update_records.specs.Business.{numbers_of}
use Rattle.update_records.specs.Growing.{next_mark, with_mark}
use Rattle.update_records.specs.Ledger.{Ledger, Levels}
use Rattle.update_records.specs.Marks.{has_no_v2}
use Rattle.update_records.specs.declared.records.MarkKind.{MarkKind}
use Rattle.update_records.specs.declared.records.MarkKind.TheVariants as mark
use Rattle.record_laws.proofs.CommittedNumbers.{numbers_push, numbers_recorded, numbers_same}
use Rattle.ledger_steps.specs.Drawn.{handed_out, num_of, passed, stored_as}
use Rattle.ledger_steps.specs.Intervals.{with_intervals}
use Rattle.ledger_steps.specs.Levels.{intervals_of, level_in, name_of, present}
use Rattle.ledger_steps.specs.Posts.{kind_for}
use Rattle.ledger_steps.specs.declared.range.NumberRange.{NumberRange}
use Rattle.draw_laws.proofs.Drawing.{interval_among, range_found}
use Rattle.draw_laws.proofs.HandedOut.{handed_intervals, passed_intervals}
use Rattle.draw_laws.proofs.IntervalNames.{is_named_so}
use Rattle.draw_laws.proofs.OwnNumbers.{others_same, same_drawn}
use Rattle.model_laws.proofs.ByCall.{CanDraw, CanReserve, OfEach}
use Rattle.model_laws.proofs.EachLock.{every_append, every_filter, every_map}
use Rattle.hall_model.specs.Calls.{Call}
use Rattle.hall_model.specs.Kept.{IsSteady}
use Rattle.hall_model.specs.Numbers.{drawn, next_number, raised_to, stocked}
use Rattle.hall_model.specs.OpenUnits.{OfInFlight}
use Rattle.hall_model.specs.Sessions.{bereft_if, begun, session_at, unit_key, with_draw, with_fresh_unit, with_mark as with_flag, with_next_unit, with_session, without_draws}
use Rattle.hall_model.specs.State.{State}
use Rattle.hall_model.specs.Step.{Found, Verdict, committed, has_lock, is_taken, numbered, restarted, stored_anew, unit_of}
use Rattle.hall_model.specs.History.{judged}
use Rattle.hall_model.specs.declared.command.Session.{Session}
use Rattle.hall_laws.proofs.keeping.DrawnNumbers.{CommitsNone, post_commits_none}
use Rattle.hall_laws.proofs.keeping.UnitsToCome.{open_unheard}
use Rattle.stock_laws.proofs.Given.{bereft_none, commit_given, every_with, found_none}
use Rattle.stock_laws.proofs.Levels.{raised_risen, settled_level}
use Rattle.stock_laws.specs.Stocked.{AreGiven, GoesOn, HasNone, IsStocked, Lot, Respects, is_undone}

-- what is left of it, by ranges, sessions and a ledger that come after these levels
pub record IsLedTo (b : Lot) (levels : Levels) (ranges : List NumberRange) (sessions : List Session) (ledger : Ledger) : Type 0 where
  pub one : Contains (intervals_of ranges) b.interval
  pub undrawn : AllByRecursion (HasNone b.interval) sessions
  pub goes : GoesOn b levels ledger

abbrev pub Leads : Lot → State → State → Type 0
Leads b s t = IsLedTo b s.stored.levels t.ranges t.sessions t.stored

-- where the call respects the lot, or was refused and is undone
abbrev pub LeadsOn : Lot → State → Call → Verdict → Type 0
LeadsOn b s call v = (is_undone (judged s v).reply ≡ false → Respects b call) → Leads b s (judged s v).state

not_past : (m n : ℕ) → nat_lt m n ≡ false → n ≤ m
not_past m n h = grind (arith, nat_tests)

not_not : (b : Bool) → not b ≡ false → b ≡ true
not_not true h = refl
not_not false h = absurd (true≢false h)

anew_goes : (b : Lot) (taken : Bool) (stored : Ledger) (in_flight : Option Ledger) → GoesOn b stored.levels stored
    → OfInFlight in_flight (GoesOn b stored.levels) → GoesOn b stored.levels (stored_anew taken stored in_flight)
anew_goes b false stored in_flight same h = same
anew_goes b true stored None same h = same
anew_goes b true stored (Some changed) same h = h

module _ (b : Lot) (s : State) (steady : IsSteady s) (h : IsStocked s b) where
  pub same_goes : GoesOn b s.stored.levels s.stored
  same_goes = record { risen = le_refl (level_in s.stored.levels b.interval); given = h.committed }

  -- other sessions alone
  beside : (sessions : List Session) → AllByRecursion (HasNone b.interval) sessions → IsLedTo b s.stored.levels s.ranges sessions s.stored
  beside sessions none = record { one = h.one; undrawn = none; goes = same_goes }

  same : Leads b s s
  same = beside s.sessions h.undrawn

  changed : (name : List ℕ) (change : Session → Session) → ((x : Session) → HasNone b.interval x → HasNone b.interval (change x))
      → AllByRecursion (HasNone b.interval) (with_session name change s.sessions)
  changed name change keeps = every_with (HasNone b.interval) name change s.sessions keeps h.undrawn

  flagged : (had : Session → Bool) → AllByRecursion (HasNone b.interval) (map (with_flag had) s.sessions)
  flagged had = every_map (HasNone b.interval) (HasNone b.interval) (with_flag had) (λ x k. k) s.sessions h.undrawn

  -- a mark that commits no number
  pub mark_goes : (key : UnitKey) (kind : MarkKind) → CommitsNone kind → GoesOn b s.stored.levels (with_mark s.stored key kind)
  mark_goes key kind none = record {
    risen = le_refl (level_in s.stored.levels b.interval);
    given = subst (AreGiven b)
        (sym (numbers_same s.stored.units s.stored.marks (next_mark s.stored key kind) (none s.stored.units (next_mark s.stored key kind).seq key)))
        h.committed;
  }

  marked : (key : UnitKey) (kind : MarkKind) → CommitsNone kind → IsLedTo b s.stored.levels s.ranges s.sessions (with_mark s.stored key kind)
  marked key kind none = record { one = h.one; undrawn = h.undrawn; goes = mark_goes key kind none }

  -- ---- numbers

  raised_goes : (i : Interval) (upto : ℕ) → Contains (intervals_of s.ranges) i → is_buffered i ≡ true → upto ≤ i.to
      → GoesOn b s.stored.levels (raised_to (present s.stored.levels i) upto s.stored)
  raised_goes i upto among is within =
      let now = present s.stored.levels i in
      let raised = with_intervals (stored_as (with_level (block_level now upto) now) ∷ []) s.stored in
      record {
        risen = raised_risen s.ranges s.stored i upto steady.drawn.intervals steady.drawn.fit among is within b.interval h.one;
        given = elim (nat_le upto now.level)
            as (λ c. AreGiven b (numbers_of (if c then s.stored else raised).units (if c then s.stored else raised).marks)) [
              | true ↦ h.committed
              | false ↦ h.committed
            ];
      }

  drawn_led : (x : Session) (object nr : List ℕ) (r : NumberRange) → CanDraw s x object nr r → is_named object nr b.interval ≡ false
      → Leads b s (drawn s x (present s.stored.levels r.interval) (next_number r (present s.stored.levels r.interval) x))
  drawn_led x object nr r can other =
      let i = present s.stored.levels r.interval in
      let number = next_number r i x in
      let range = range_found s.ranges object nr r can.range in
      let apart : name_of r.interval ≡ name_of b.interval → ⊥ =
      λ one. true≢false (sym (is_named_so object nr b.interval (sym one ∙ range.name)) ∙ other) in
      let none : AllByRecursion (HasNone b.interval) (with_session x.name (with_draw (num_of i number)) s.sessions) =
      changed x.name (with_draw (num_of i number))
      (λ y k. same_drawn b.interval (y.draws ++ num_of r.interval number ∷ []) y.draws (others_same r.interval b.interval y.draws number apart) ∙ k) in
      let t : State = record s { sessions = with_session x.name (with_draw (num_of i number)) s.sessions } in
      let behind : Bool → State = λ c. if c then record t { ranges = handed_out i t.ranges; stored = raised_to i number t.stored } else t in
      elim (is_buffered i) as (λ c. is_buffered r.interval ≡ c → Leads b s (behind c)) [
        | true ↦ λ is. record {
          one = subst (λ js. Contains js b.interval) (sym (handed_intervals i.object i.nr s.ranges)) h.one;
          undrawn = none;
          goes = raised_goes r.interval number (interval_among s.ranges r range.among) is (not_past r.interval.to number can.within);
        }
        | false ↦ λ is. record { one = h.one; undrawn = none; goes = same_goes }
      ] refl

  reserved_led : (object nr : List ℕ) (upto : ℕ) (r : NumberRange) → CanReserve s object nr upto r
      → Leads b s (record s { stored = raised_to (present s.stored.levels r.interval) upto s.stored })
  reserved_led object nr upto r can = record {
    one = h.one;
    undrawn = h.undrawn;
    goes = raised_goes r.interval upto (interval_among s.ranges r (range_found s.ranges object nr r can.range).among)
        (not_not (is_buffered r.interval) can.buffered) (not_past r.interval.to upto can.within);
  }

  -- the intervals stay, and so does the level of one with a buffer
  stock_one : (stock : List Num) → Contains (intervals_of (passed stock s.ranges)) b.interval
  stock_one stock = subst (λ js. Contains js b.interval) (sym (passed_intervals stock s.ranges)) h.one

  numbered_led : (name : List ℕ) (x : Session) (stock : List Num) → session_at s.sessions name ≡ Some x → AreGiven b stock
      → Leads b s (stocked stock (numbered s x (x.draws ++ stock)))
  numbered_led name x stock at given =
      let numbers = x.draws ++ stock in
      let units = s.stored.units in
      let old = s.stored.marks in
      record {
        one = stock_one stock;
        undrawn = changed x.name without_draws (λ y k. refl);
        goes = record {
          risen = subst (λ n. level_in s.stored.levels b.interval ≤ n)
              (sym (settled_level s.stored.levels s.ranges numbers b.interval steady.drawn.intervals.apart h.one h.buffered))
              (le_refl (level_in s.stored.levels b.interval));
          given = subst (AreGiven b) (sym (numbers_push units old (next_mark s.stored (unit_key s.stored.start x) (mark.Num numbers))))
              (commit_given b (numbers_of units old) x.draws stock h.committed (found_none b.interval name s.sessions x at h.undrawn) given);
        };
      }

  committed_led : (name : List ℕ) (x : Session) (parts : Parts) (stock : List Num) → session_at s.sessions name ≡ Some x → AreGiven b stock
      → Leads b s (stocked stock (committed s x parts (x.draws ++ stock)))
  committed_led name x parts stock at given =
      let numbers = x.draws ++ stock in
      let units = s.stored.units in
      let old = s.stored.marks in
      let unit = unit_of s.stored.start s.locks x parts numbers in
      let fresh = open_unheard s name x at steady.fresh in
      record {
        one = stock_one stock;
        undrawn = changed x.name with_next_unit (λ y k. refl);
        goes = record {
          risen = subst (λ n. level_in s.stored.levels b.interval ≤ n)
              (sym (settled_level s.stored.levels s.ranges numbers b.interval steady.drawn.intervals.apart h.one h.buffered))
              (le_refl (level_in s.stored.levels b.interval));
          given = subst (AreGiven b)
              (sym (numbers_recorded units unit old (next_mark s.stored unit.key mark.Rec).seq (none_of (has_no_v2 units unit.key) unit.key old fresh)
              (steady.marked unit.key fresh)))
              (commit_given b (numbers_of units old) x.draws stock h.committed (found_none b.interval name s.sessions x at h.undrawn) given);
        };
      }

  -- ---- a lock server made anew

  pub anew_led : (taken : Bool) → Leads b s (restarted taken s)
  anew_led taken = record {
    one = h.one;
    undrawn = every_map (HasNone b.interval) (HasNone b.interval) (bereft_if s.failed_caller) (bereft_none b.interval s.failed_caller) s.sessions h.undrawn;
    goes = anew_goes b taken s.stored s.in_flight same_goes h.flight_goes;
  }

  pub each : (found : Found) → OfEach (LeadsOn b s) found s
  each found = record {
    refuses = λ call r plain may. same;
    enters = λ name user free may. beside (s.sessions ++ begun name user s.next_session ∷ [])
        (every_append (HasNone b.interval) s.sessions (begun name user s.next_session ∷ []) h.undrawn (refl, tt));
    logs_off = λ name x at may. beside _ (every_filter (HasNone b.interval) _ s.sessions h.undrawn);
    grants = λ name x rs locks at e may. same;
    lowers = λ name x rs at may. same;
    frees = λ name x at may. same;
    converts = λ name x wanted c at e may. same;
    draws = λ name x object nr r at can may. drawn_led x object nr r can (may refl);
    reserves = λ name x object nr upto r at can may. reserved_led object nr upto r can;
    reads = λ name x table key at may. same;
    commits_nothing = λ name x parts stock at may. same;
    commits_numbers = λ name x parts stock at may. numbered_led name x stock at (may refl);
    commits = λ name x parts stock at may. committed_led name x parts stock at (may refl);
    rolls_back = λ name x at may. beside _ (changed x.name with_fresh_unit (λ y k. refl));
    takes = λ worker part unit free e may. same;
    posts = λ worker part unit e may. marked unit (kind_for part (found.part part unit)) (post_commits_none part (found.part part unit));
    drops = λ worker unit e may. same;
    kills = λ up may. beside _ (flagged (has_lock s));
    fails_over = λ can may. beside _ (flagged (λ x. false));
    strays = λ first second stray may. same;
    attaches = λ up may. same;
    restarts = λ off may. anew_led (is_taken found.anew);
    cancels = λ unit status can may. marked unit mark.Gone (λ units seq key. refl);
    reopens = λ unit es here stand may. marked unit mark.Again1 (λ units seq key. refl);
    reposts = λ unit here may. marked unit mark.Again2 (λ units seq key. refl);
  }
