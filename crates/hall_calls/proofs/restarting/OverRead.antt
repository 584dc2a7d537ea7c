-- A lock server that is made anew over what was read, or that isn't since its backup file isn't.
use Rattle.std.proofs.Common.{◌≡◌, ◌⊎◌, inl, ℕ, Bool, true, false, refl, sym, ap, subst}
use Rattle.std.specs.Prelude.{Option, Some, None, IfSome}
use Rattle.std.specs.Option.{option_map}
use Rattle.enq_base.specs.declared.condition.Condition.{Condition}
use Rattle.enq_base.specs.declared.condition.Condition.TheVariants as condition
use Rattle.keeper_api.specs.Keeping.{IsOnly}
use Rattle.keeper_api.specs.Rows.{Rows}
use Rattle.posting.specs.Settling.{FoundAnew}
use Rattle.posting.specs.BooksView.{IsUsable, BooksView}
use Rattle.ledger_steps.specs.Steps.{after_step}
use Rattle.update_records.specs.Ledger.{Ledger, StandFor}
use Rattle.hall_model.specs.Devices.{is_doubt, MayFind}
use Rattle.hall_model.specs.Kept.{OutsideDoubt}
use Rattle.hall_model.specs.OpenUnits.{OfInFlight}
use Rattle.hall_calls.specs.Remaking.{IsReadAs, IsUsableAs, LeavesKnown, flight_over, ledger_read, taken_in, taken_read}
use Rattle.hall_calls.specs.Serving.{DoesStore, MayReread}
use Rattle.hall_model.specs.State.{State}
use Rattle.hall_model.specs.Step.{is_taken, stored_anew}
use Rattle.hall_calls.specs.declared.units.Failure.{Failure}
use Rattle.hall_calls.proofs.ending.AfterStop.{answered_leaves}
use Rattle.hall_calls.proofs.restarting.MadeAnew.{IsReadRight}
use Rattle.hall_calls.proofs.restarting.NotMade.{IsOf, may_find}

-- ---- what was read

pub taken_same : (found : Option FoundAnew) → is_taken (taken_in found) ≡ taken_read found
taken_same None = refl
taken_same (Some found) = refl

no_flight_over : (ledger : Ledger) (failure : Failure) → failure.in_flight ≡ None → flight_over ledger failure ≡ None
no_flight_over ledger failure none = ap (option_map (after_step ledger)) none

right_found : (before : Ledger) (failure : Failure) (found : Option FoundAnew) → IsReadAs (condition.Doubt 0) before failure found
    → IsReadRight (taken_in found) failure.found before (flight_over before failure)
right_found before failure None h = absurd h
right_found before failure (Some found) h = (h.flight, h.known)

pub read_right : (k : Condition) (before : Ledger) (failure : Failure) (found : Option FoundAnew) → (k ≡ condition.Up → ⊥) → IsReadAs k before failure found
    → OutsideDoubt k (failure.in_flight ≡ None) → OutsideDoubt k (failure.found ≡ None)
    → IsReadRight (taken_in found) failure.found before (flight_over before failure)
read_right condition.Up before failure found down h settled unknown = absurd (down refl)
read_right condition.NoServer before failure found down h settled unknown =
    subst (λ f. IsReadRight (taken_in f) failure.found before (flight_over before failure)) (sym h) (no_flight_over before failure settled, unknown)
read_right (condition.Doubt n) before failure found down h settled unknown = right_found before failure found h

found_ledger : (before : Ledger) (failure : Failure) (found : Option FoundAnew) → IsReadAs (condition.Doubt 0) before failure found
    → ledger_read before found ≡ stored_anew (is_taken (taken_in found)) before (flight_over before failure)
found_ledger before failure None h = absurd h
found_ledger before failure (Some found) h = h.ledger

pub read_ledger : (k : Condition) (before : Ledger) (failure : Failure) (found : Option FoundAnew) → IsReadAs k before failure found
    → ledger_read before found ≡ stored_anew (is_taken (taken_in found)) before (flight_over before failure)
read_ledger condition.Up before failure found h =
    subst (λ f. ledger_read before f ≡ stored_anew (is_taken (taken_in f)) before (flight_over before failure)) (sym h) refl
read_ledger condition.NoServer before failure found h =
    subst (λ f. ledger_read before f ≡ stored_anew (is_taken (taken_in f)) before (flight_over before failure)) (sym h) refl
read_ledger (condition.Doubt n) before failure found h = found_ledger before failure found h

pub may_have_read : (s : State) (before : Ledger) (failure : Failure) (read : Option Bool) → IsOf s before failure
    → IsReadRight read failure.found before (flight_over before failure) → IfSome read (MayFind s)
may_have_read s before failure None own right = tt
may_have_read s before failure (Some taken) own right = may_find s before failure own taken right.0 right.1

-- ---- what is left of the store

stands_alone : (held : Option Rows) (may_leave : Rows → Type 0) (ledger : Ledger) → IfSome held (λ _. (left : Rows) → may_leave left → StandFor left ledger)
    → IfSome held (λ _. (left : Rows) → may_leave left → StandFor left ledger ⊎ ⊥)
stands_alone None may_leave ledger h = tt
stands_alone (Some rows) may_leave ledger h = λ left may. inl (h left may)

module _ {K : Type 0} (held : K → Option Rows) (is_open : K → Type 0) (may_leave : K → Rows → Type 0) (faults : K → ℕ) where
  usable_found : (mid new : BooksView K) (found : FoundAnew) → IsUsable held is_open (record mid { ledger = found.ledger }) → new.ledger ≡ found.ledger
      → new.keeper ≡ mid.keeper
      → IsUsable held is_open new
  usable_found mid new found h is kept = record {
    opened = subst is_open (sym kept) h.opened;
    stands = subst (λ k. IfSome (held k) (λ rows. StandFor rows new.ledger)) (sym kept)
        (subst (λ l. IfSome (held mid.keeper) (λ rows. StandFor rows l)) (sym is) h.stands);
  }

  usable_read : (mid new : BooksView K) (found : Option FoundAnew) → IsUsable held is_open mid → IsUsableAs held is_open mid found → (found ≡ None → new ≡ mid)
      → new.ledger ≡ ledger_read mid.ledger found → new.keeper ≡ mid.keeper → IsUsable held is_open new
  usable_read mid new None before h same is kept = subst (IsUsable held is_open) (sym (same refl)) before
  usable_read mid new (Some found) before h same is kept = usable_found mid new found h is kept

  usable_anew : (mid new : BooksView K) (before : Ledger) (failure : Failure) (found : Option FoundAnew) → IsReadAs (condition.Doubt 0) before failure found
      → IsUsableAs held is_open mid found
      → new.ledger ≡ ledger_read mid.ledger found → new.keeper ≡ mid.keeper → IsUsable held is_open new
  usable_anew mid new before failure None was h is kept = absurd was
  usable_anew mid new before failure (Some found) was h is kept = usable_found mid new found h is kept

  pub usable_made : (k : Condition) (failure : Failure) (old mid new : BooksView K) (found : Option FoundAnew) → (k ≡ condition.Up → ⊥)
      → IsReadAs k old.ledger failure found
      → OutsideDoubt k (IsUsable held is_open old) → (is_doubt k ≡ false → mid ≡ old) → IsUsableAs held is_open mid found → (found ≡ None → new ≡ mid)
      → new.ledger ≡ ledger_read mid.ledger found → new.keeper ≡ mid.keeper → IsUsable held is_open new
  usable_made condition.Up failure old mid new found down was before apart h same is kept = absurd (down refl)
  usable_made condition.NoServer failure old mid new found down was before apart h same is kept =
      usable_read mid new found (subst (IsUsable held is_open) (sym (apart refl)) before) h same is kept
  usable_made (condition.Doubt n) failure old mid new found down was before apart h same is kept = usable_anew mid new old.ledger failure found was h is kept

  pub made_leaves : (new : BooksView K) → ((keeper : K) → is_open keeper → IfSome (held keeper) (λ rows. IsOnly rows (may_leave keeper)))
      → IsUsable held is_open new
      → LeavesKnown held may_leave new.keeper None new.ledger None
  made_leaves new settled usable =
      stands_alone (held new.keeper) (may_leave new.keeper) new.ledger (answered_leaves held is_open may_leave new settled usable)

  -- a restart that was done, or that failed behind its reading
  pub read_store : (k : Condition) (old new : K) (r : _) → (is_doubt k ≡ false → new ≡ old) → (is_doubt k ≡ true → MayReread held may_leave faults old new r)
      → DoesStore held may_leave faults true (is_doubt k) old new r
  read_store condition.Up old new r apart reread = apart refl
  read_store condition.NoServer old new r apart reread = apart refl
  read_store (condition.Doubt n) old new r apart reread = reread refl

-- the joined locks of what was found
pub found_sound : (P : Ledger → Type 0) (taken : Bool) (stored : Ledger) (in_flight : Option Ledger) → P stored → OfInFlight in_flight P
    → P (stored_anew taken stored in_flight)
found_sound P false stored in_flight h flight = h
found_sound P true stored None h flight = h
found_sound P true stored (Some changed) h flight = flight

-- what holds of a change in flight under a premise that is given
pub in_flight_under : (T : Type 0) (in_flight : Option Ledger) (P : Ledger → Type 0) → T → OfInFlight in_flight (λ ledger. T → P ledger)
    → OfInFlight in_flight P
in_flight_under T None P given h = tt
in_flight_under T (Some changed) P given h = h given
