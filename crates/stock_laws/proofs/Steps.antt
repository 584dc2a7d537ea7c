-- What each step leaves of a lot, whatever the devices do.
use Rattle.std.proofs.Common.{◌≡◌, ℕ, Bool, false, List, refl, sym, subst, arith}
use Rattle.std.specs.Prelude.{Contains, Option, None, Some, if◌then◌else◌, true}
use Rattle.std.specs.List.{AllByRecursion}
use Rattle.enq_base.specs.declared.owner.UnitKey.{UnitKey}
use Rattle.enq_base.specs.declared.unit.Num.{Num}
use Rattle.update_records.specs.Growing.{with_mark}
use Rattle.update_records.specs.Ledger.{Ledger}
use Rattle.update_records.specs.declared.records.MarkKind.{MarkKind}
use Rattle.update_records.specs.declared.records.MarkKind.TheVariants as mark
use Rattle.ledger_steps.specs.Posts.{kind_for}
use Rattle.ledger_steps.specs.declared.range.NumberRange.{NumberRange}
use Rattle.draw_laws.proofs.HandedOut.{passed_intervals}
use Rattle.model_laws.proofs.ByCall.{by_call, by_doubt, by_event, by_filing, by_stock}
use Rattle.model_laws.proofs.EachLock.{every_map}
use Rattle.model_laws.proofs.NotedCalls.{by_noting}
use Rattle.hall_model.specs.Calls.{Call, OfSession, Commits, call_of, only_reads}
use Rattle.hall_model.specs.Devices.{DeviceOutcome, Reading, found_by}
use Rattle.hall_model.specs.History.{IsStep, Served, doubted, had_lock, in_flight_after, judged, read_anew, served, step, stored_before_file, takes_flight, unfiled, without_stock}
use Rattle.hall_model.specs.Kept.{IsKept, IsSteady}
use Rattle.hall_model.specs.Numbers.{stocked}
use Rattle.hall_model.specs.OpenUnits.{OfInFlight}
use Rattle.hall_model.specs.Sessions.{with_mark as with_flag, with_marks}
use Rattle.hall_model.specs.State.{State}
use Rattle.hall_model.specs.Step.{Found, Verdict, Refuses, Leaves, call_verdict, is_taken, restarted}
use Rattle.hall_model.specs.declared.command.Command.{Command}
use Rattle.hall_model.specs.declared.command.Reply.{Reply}
use Rattle.hall_model.specs.declared.command.Session.{Session}
use Rattle.hall_laws.proofs.keeping.DrawnNumbers.{CommitsNone, post_commits_none}
use Rattle.hall_laws.proofs.keeping.EachCall.{by_condition}
use Rattle.hall_laws.proofs.keeping.Unchanged.{verdict_in_flight}
use Rattle.stock_laws.proofs.Calls.{IsLedTo, Leads, LeadsOn, anew_led, each, mark_goes}
use Rattle.stock_laws.proofs.Given.{none_flies}
use Rattle.stock_laws.specs.Stocked.{GoesOn, HasNone, IsLotOf, IsStocked, Lot, Respects, is_undone}

-- a state after a call has the lot still
lot_behind : (b : Lot) (s : State) (ranges : List NumberRange) (sessions : List Session) (ledger : Ledger) (in_flight : Option Ledger) → IsStocked s b
    → IsLedTo b s.stored.levels ranges sessions ledger → OfInFlight in_flight (GoesOn b ledger.levels) → IsLotOf ranges sessions ledger in_flight b
lot_behind b s ranges sessions ledger in_flight h led flying = record {
  one = led.one;
  buffered = h.buffered;
  first = h.first;
  level = let before = h.level in let risen = led.goes.risen in omega (arith, before, risen);
  committed = led.goes.given;
  flight_goes = flying;
  undrawn = led.undrawn;
}

-- the change that is in flight where the store fails: that of the call, or the one before
flying_after : (Q : Ledger → Type 0) (s : State) (call : Call) (v : Verdict) → OfInFlight s.in_flight Q → Q (judged s v).state.stored
    → OfInFlight (in_flight_after s call v) Q
flying_after Q s call (Refuses r) h new = h
flying_after Q s call (Leaves after r) h new =
    elim (only_reads call) as (λ c. OfInFlight (if c then s.in_flight else Some after.stored) Q) [ true ↦ h | false ↦ new ]

-- what is shown of a call that is served
abbrev pub LeavesLot : Lot → Call → Served → Type 0
LeavesLot b call r = (is_undone r.reply ≡ false → Respects b call) → IsStocked r.state b

module _ (b : Lot) (s : State) (steady : IsSteady s) (h : IsStocked s b) where
  flagged : (had : Session → Bool) → AllByRecursion (HasNone b.interval) (with_marks had s.sessions)
  flagged had = every_map (HasNone b.interval) (HasNone b.interval) (with_flag had) (λ x k. k) s.sessions h.undrawn

  -- in doubt
  doubts : (call : Call) (read : Option Bool) (in_flight : Option Ledger) → OfInFlight in_flight (GoesOn b s.stored.levels)
      → IsStocked (doubted s call read in_flight) b
  doubts call read in_flight flying = record {
    one = h.one;
    buffered = h.buffered;
    first = h.first;
    level = h.level;
    committed = h.committed;
    flight_goes = flying;
    undrawn = flagged (had_lock s);
  }

  -- and numbers of a stock are passed
  doubts_stocked : (stock : List Num) (call : Call) (in_flight : Option Ledger) → OfInFlight in_flight (GoesOn b s.stored.levels)
      → IsStocked (doubted (stocked stock s) call None in_flight) b
  doubts_stocked stock call in_flight flying = record {
    one = subst (λ js. Contains js b.interval) (sym (passed_intervals stock s.ranges)) h.one;
    buffered = h.buffered;
    first = h.first;
    level = h.level;
    committed = h.committed;
    flight_goes = flying;
    undrawn = flagged (had_lock (stocked stock s));
  }

  abbrev StaysInDoubt : Call → State → Type 0
  StaysInDoubt call t = (in_flight : Option Ledger) → OfInFlight in_flight (GoesOn b s.stored.levels) → IsStocked (doubted t call None in_flight) b

  fails : (reading : Reading) (call : Call) → Respects b call
      → IsStocked (doubted (without_stock call s) call None (in_flight_after s call (call_verdict (found_by reading s) s call))) b
  fails reading call respects =
      let found = found_by reading s in
      let v = call_verdict found s call in
      let led : Leads b s (judged s v).state = by_call (LeadsOn b s) found s (each b s steady h found) call (λ sure. respects) in
      by_stock StaysInDoubt s (λ name parts stock. doubts_stocked stock (OfSession name (Commits parts stock))) (λ other. doubts other None) call
      (in_flight_after s call v)
      (flying_after (GoesOn b s.stored.levels) s call v h.flight_goes led.goes)

  -- the disk of the backup file fails: a mark may stand already
  marked : (call : Call) (read : Option Bool) (key : UnitKey) (kind : MarkKind) → CommitsNone kind
      → IsStocked (unfiled s call read (with_mark s.stored key kind)) b
  marked call read key kind none = record {
    one = h.one;
    buffered = h.buffered;
    first = h.first;
    level = h.level;
    committed = (mark_goes b s steady h key kind none).given;
    flight_goes = h.flight_goes;
    undrawn = flagged (had_lock s);
  }

  unfiles : (reading : Reading) (call : Call)
      → IsStocked (unfiled s call (read_anew reading) (stored_before_file s call (call_verdict (found_by reading s) s call))) b
  unfiles reading call =
      let found = found_by reading s in
      let read = read_anew reading in
      by_filing (λ ledger. IsStocked (unfiled s call read ledger) b) found s call (doubts call read s.in_flight h.flight_goes)
      (λ worker part unit e. marked call read unit (kind_for part (found.part part unit)) (post_commits_none part (found.part part unit)))
      (λ unit status can. marked call read unit mark.Gone (λ units seq key. refl))

  -- nothing fails
  done : (found : Found) (call : Call) → LeavesLot b call (judged s (call_verdict found s call))
  done found call may =
      let t = (judged s (call_verdict found s call)).state in
      by_condition (IsStocked t b) s steady
      (λ quiet. lot_behind b s t.ranges t.sessions t.stored t.in_flight h (by_call (LeadsOn b s) found s (each b s steady h found) call may)
      (none_flies t.in_flight (GoesOn b t.stored.levels) (verdict_in_flight (λ o. o ≡ None) found s call quiet.in_flight refl)))
      (λ n down. by_doubt (λ c v. IsStocked (judged s v).state b) found s n call down (λ c r. h)
      (let anew = restarted (is_taken found.anew) s in
      lot_behind b s anew.ranges anew.sessions anew.stored None h (anew_led b s steady h (is_taken found.anew)) tt))

  served_lot : (o : DeviceOutcome) (c : Command) → LeavesLot b (call_of c) (served o s c)
  served_lot o c =
      let call = call_of c in
      by_event (LeavesLot b call) o s c (λ lost r k. k) (λ found. done found call) (λ may. h) (λ may. h)
      (λ reading may. fails reading call (may refl)) (λ reading may. unfiles reading call) (λ read r may. doubts call read s.in_flight h.flight_goes)

  step_lot : (o : DeviceOutcome) (line : ℕ) (c : Command) → LeavesLot b (call_of c) (step o s line c)
  step_lot o line c = by_noting (LeavesLot b (call_of c)) line c (takes_flight o) (served o s c) (served_lot o c) (served_lot o c)

pub lot_kept : (s t : State) (line : ℕ) (c : Command) (r : Reply) (b : Lot) → IsKept s → IsStocked s b → (is_undone r ≡ false → Respects b (call_of c))
    → IsStep s t line c r → IsStocked t b
lot_kept s t line c r b kept h may made =
    subst (LeavesLot b (call_of c)) (sym made.same) (step_lot b s kept.steady h made.outcome line c) may
