-- A store that is read anew in doubt: what it has, and why it isn't read.
use Rattle.std.proofs.Common.{◌≡◌, ◌⊎◌, inl, inr, ℕ, Bool, true, false, refl, sym, ap, ◌∙◌, subst}
use Rattle.std.specs.Prelude.{◌≢◌, List, Option, Some, None, IfSome, IsSomeAnd, IsTrue, is_some}
use Rattle.std.specs.Option.{option_map}
use Rattle.keeper_api.specs.Rows.{Rows}
use Rattle.keeper_api.specs.Keeping.{IsOnly, IsWithin}
use Rattle.ledger_laws.proofs.OneLedger.{one_ledger}
use Rattle.posting.proofs.lemmas.SettledDoubt.{StandForOneOf, not_unsound}
use Rattle.posting.specs.Reopening.{HasStood, IsOpeningFault}
use Rattle.posting.specs.Settling.{CountsSettling, FoundAnew, IsSettled, OnBooks, OnFound, OnOther, StandForOther}
use Rattle.posting.specs.BooksView.{IsUsable, BooksView}
use Rattle.ledger_steps.specs.Steps.{after_step}
use Rattle.ledger_steps.specs.declared.step.Step.{Step}
use Rattle.posting.specs.declared.settling.SettleFault.{SettleFault}
use Rattle.posting.specs.declared.settling.SettleFault.TheVariants.{Books, Other}
use Rattle.posting.specs.declared.opening.BooksFault.{BooksFault}
use Rattle.posting.specs.declared.opening.BooksFault.TheVariants as books
use Rattle.enq_base.specs.declared.refusal.Refusal.{Refusal}
use Rattle.number_ranges.specs.declared.interval.Interval.{Interval}
use Rattle.store_laws.proofs.Faultfree.{good_rules_kept, not_both}
use Rattle.store_laws.proofs.LedgerRows.{good_rows_spelled}
use Rattle.store_reading.specs.Stores.{store_fault}
use Rattle.store_reading.specs.Good.{IsBadPlace}
use Rattle.update_records.specs.Ledger.{IsGood, Ledger, StandFor}
use Rattle.hall_model.specs.Devices.{IsAsBefore}
use Rattle.hall_model.specs.Kept.{IsInFlight, IsKnownRight}
use Rattle.hall_calls.specs.Leaving.{HasStoreCause, StandForInFlight, StandForKnown}
use Rattle.hall_calls.specs.Remaking.{IsNotTaken, IsReadFault, IsStoreRefusal, IsUnreadInDoubt, LeavesKnown, books_refusal, flight_over, remade_reply}
use Rattle.hall_model.specs.Step.{stored_anew}
use Rattle.hall_model.specs.Unsound.{is_unsound_store}
use Rattle.hall_model.specs.declared.command.Reply.TheVariants as reply
use Rattle.hall_calls.specs.declared.remaking.Remade.{Remade}
use Rattle.hall_calls.specs.declared.remaking.Remade.TheVariants.{Done, Refused, InDoubt}
use Rattle.hall_calls.specs.declared.units.Failure.{Failure}
use Rattle.hall_calls.proofs.ending.AfterStop.{answered_leaves}

-- a good store has no bad place
pub bad_is_not_good : (rows : Rows) (table row : ℕ) → IsBadPlace rows table row → IsGood rows → ⊥
bad_is_not_good rows table row (inl outside) good = good_rows_spelled rows good table row outside
bad_is_not_good rows table row (inr first) good =
    not_both (store_fault first.0) (record { table = table; row = row }) (good_rules_kept rows first.0 good first.1) first.2

-- ---- what rows stand for that a stop may leave

step_stands : (rows : Rows) (old : Ledger) (change : Option Step) → StandForInFlight rows (option_map (after_step old) change)
    → IsSomeAnd change (λ step. StandFor rows (after_step old step))
step_stands rows old None h = h
step_stands rows old (Some step) h = h

one_of_known : (found : Option Bool) (rows : Rows) (old : Ledger) (change : Option Step)
    → StandForKnown found rows old (option_map (after_step old) change) → StandForOneOf rows old change
one_of_known None rows old change (inl was) = inl was
one_of_known None rows old change (inr has) = inr (step_stands rows old change has)
one_of_known (Some false) rows old change was = inl was
one_of_known (Some true) rows old change has = inr (step_stands rows old change has)

-- where rows are told, what is said of those that may be left
pub told_rows : (held : Option Rows) (P : Type 0) → is_some held ≡ true → IfSome held (λ _. P) → P
told_rows None P told h = absurd (cc)
told_rows (Some rows) P told h = h

-- ---- why it isn't read

-- what is told: why, and the store's fault only where its count of faults has risen
abbrev pub IsTold : (before now : ℕ) → Refusal → Type 0
IsTold before now r = IsReadFault r None × HasStoreCause before now (reply.Refused r)

pub unread_told : (intervals : List Interval) (fault : SettleFault) (r : Refusal) (before now : ℕ) → IsStoreRefusal intervals fault r
    → CountsSettling fault before now → IsTold before now r
unread_told intervals (Books books.StoreFault) r before now is counts = subst (IsTold before now) (sym is) (refl, counts)
unread_told intervals (Books (books.BadStore table row)) r before now is counts = subst (IsTold before now) (sym is) (tt, counts)
unread_told intervals (Books books.NoStart) r before now is counts = subst (IsTold before now) (sym is) (tt, counts)
unread_told intervals (Books books.NoMemory) r before now is counts = subst (IsTold before now) (sym is) (tt, counts)
unread_told intervals (Other ledger) r before now (inl unfit) counts = subst (IsTold before now) (sym unfit.2) (tt, counts)
unread_told intervals (Other ledger) r before now (inr fit) counts = subst (IsTold before now) (sym fit.1) (tt, counts)

not_found : (intervals : List Interval) (fault : SettleFault) (why : BooksFault) (r : Refusal) → IsStoreRefusal intervals fault r → fault ≡ Books why
    → r ≡ books_refusal why
not_found intervals fault why r is same = subst (λ f. IsStoreRefusal intervals f r) same is

refused_so : (intervals : List Interval) (fault : SettleFault) (r : Refusal) → IsStoreRefusal intervals fault r
    → (fault ≡ Books books.StoreFault) ⊎ (fault ≡ Books books.NoMemory) → is_unsound_store (reply.Refused r) ≡ false
refused_so intervals fault r is (inl why) = ap (λ x. is_unsound_store (reply.Refused x)) (not_found intervals fault books.StoreFault r is why)
refused_so intervals fault r is (inr why) = ap (λ x. is_unsound_store (reply.Refused x)) (not_found intervals fault books.NoMemory r is why)

-- a store that tells its rows is refused for none of them
pub read_sound : (held was : Option Rows) (before : Rows → Type 0) (old : Ledger) (failure : Failure) (intervals : List Interval) (fault : SettleFault)
    (r : Refusal) → IsStoreRefusal intervals fault r → is_some held ≡ is_some was → is_some was ≡ true
    → IfSome was (λ _. (rows : Rows) → before rows → StandForKnown failure.found rows old (flight_over old failure))
    → OnFound fault (IfSome held before) → OnBooks fault (λ f. IfSome held (λ rows. IsOpeningFault false rows f))
    → OnOther fault (λ ledger. IfSome held (λ rows. StandForOther rows old failure.in_flight ledger)) → is_unsound_store (reply.Refused r) ≡ false
read_sound held was before old failure intervals fault r is same told stand found bad other =
    refused_so intervals fault r is (not_unsound held before old failure.in_flight fault one_ledger bad_is_not_good (same ∙ told)
    (λ rows may. one_of_known failure.found rows old failure.in_flight
    (told_rows was ((left : Rows) → before left → StandForKnown failure.found left old (flight_over old failure)) told stand rows may))
    found bad other)

-- ---- what was read of it before

taken_differs : (old ledger : Ledger) (change : Option Step) → IsSettled old change true ledger → ledger ≢ old
taken_differs old ledger None h = absurd h
taken_differs old ledger (Some step) h = h.1

flight_stands : (rows : Rows) (old ledger : Ledger) (change : Option Step) → StandFor rows ledger → ledger ≡ old
    → StandForInFlight rows (option_map (after_step old) change) → IsInFlight old (option_map (after_step old) change) → ⊥
flight_stands rows old ledger None stands is has differs = has
flight_stands rows old ledger (Some step) stands is has differs = differs (one_ledger rows (after_step old step) ledger has stands ∙ is)

as_known : (known taken : Bool) (rows : Rows) (old ledger : Ledger) (change : Option Step) → StandFor rows ledger → IsSettled old change taken ledger
    → StandForKnown (Some known) rows old (option_map (after_step old) change) → IsKnownRight (Some known) old (option_map (after_step old) change)
    → taken ≡ known
as_known false false rows old ledger change stands is h right = refl
as_known true true rows old ledger change stands is h right = refl
as_known false true rows old ledger change stands is h right =
    absurd (taken_differs old ledger change is (one_ledger rows ledger old stands h))
as_known true false rows old ledger change stands is h right =
    absurd (flight_stands rows old ledger change stands is h (right refl))

-- a store that tells its rows has what was read of it before
pub known_before : (held was : Option Rows) (before : Rows → Type 0) (old ledger : Ledger) (failure : Failure) (taken : Bool)
    → is_some held ≡ is_some was → is_some was ≡ true
    → IfSome was (λ _. (rows : Rows) → before rows → StandForKnown failure.found rows old (flight_over old failure))
    → IfSome held (λ _. HasStood before ledger) → IsSettled old failure.in_flight taken ledger
    → IsKnownRight failure.found old (flight_over old failure) → IsAsBefore failure.found taken
known_before held was before old ledger failure taken same told stand stood is right =
    let stands = told_rows held (HasStood before ledger) (same ∙ told) stood in
    let all = told_rows was ((rows : Rows) → before rows → StandForKnown failure.found rows old (flight_over old failure)) told stand in
    elim failure.found as (λ found. ((rows : Rows) → before rows → StandForKnown found rows old (flight_over old failure))
    → IsKnownRight found old (flight_over old failure) → IsAsBefore found taken) [
      | None ↦ λ h k. tt
      | Some known ↦ λ h k. as_known known taken stands.0 old ledger failure.in_flight stands.2 is (h stands.0 stands.1) k
    ] all right

-- ---- what it has

pub differs : (old ledger : Ledger) (change : Option Step) (taken : Bool) → IsSettled old change taken ledger → IsTrue taken
    → IsInFlight old (option_map (after_step old) change)
differs old ledger None true h t = h
differs old ledger (Some step) true h t = λ same. h.1 (h.0 ∙ same)
differs old ledger None false h t = let odd : false ≡ true = t in absurd (cc)
differs old ledger (Some step) false h t = let odd : false ≡ true = t in absurd (cc)

stands_known : (rows : Rows) (old ledger : Ledger) (change : Option Step) (taken : Bool) → IsSettled old change taken ledger → StandFor rows ledger
    → StandForKnown (Some taken) rows old (option_map (after_step old) change)
stands_known rows old ledger None true h stands = h
stands_known rows old ledger (Some step) true h stands = subst (StandFor rows) h.0 stands
stands_known rows old ledger change false h stands = subst (StandFor rows) h stands

all_known : (held : Option Rows) (may_leave : Rows → Type 0) (old ledger : Ledger) (change : Option Step) (taken : Bool) → IsSettled old change taken ledger
    → IfSome held (λ _. (left : Rows) → may_leave left → StandFor left ledger)
    → IfSome held (λ _. (left : Rows) → may_leave left → StandForKnown (Some taken) left old (option_map (after_step old) change))
all_known None may_leave old ledger change taken is h = tt
all_known (Some rows) may_leave old ledger change taken is h = λ left may. stands_known left old ledger change taken is (h left may)

-- what a stop may leave of a store that was read
pub read_leaves : {K : Type 0} (held : K → Option Rows) (is_open : K → Type 0) (may_leave : K → Rows → Type 0) (shelf : BooksView K)
    → ((keeper : K) → is_open keeper → IfSome (held keeper) (λ rows. IsOnly rows (may_leave keeper)))
    → (old ledger : Ledger) (change : Option Step) (taken : Bool) → IsUsable held is_open (record shelf { ledger = ledger }) → IsSettled old change taken ledger
    → LeavesKnown held may_leave shelf.keeper (Some taken) old (option_map (after_step old) change)
read_leaves held is_open may_leave shelf settled old ledger change taken usable is =
    all_known (held shelf.keeper) (may_leave shelf.keeper) old ledger change taken is
    (answered_leaves held is_open may_leave (record shelf { ledger = ledger }) settled usable)

-- nothing new may be left of one that wasn't
pub unread_known : {K : Type 0} (held : K → Option Rows) (may_leave : K → Rows → Type 0) (old new : K) (found : Option Bool) (stored : Ledger)
    (in_flight : Option Ledger)
    → is_some (held new) ≡ is_some (held old) → IsWithin (may_leave new) (may_leave old) → LeavesKnown held may_leave old found stored in_flight
    → LeavesKnown held may_leave new found stored in_flight
unread_known held may_leave old new found stored in_flight told within h =
    by_case (held new) (held old) told h
  where
    by_case : (now was : Option Rows) → is_some now ≡ is_some was
        → IfSome was (λ _. (left : Rows) → may_leave old left → StandForKnown found left stored in_flight)
        → IfSome now (λ _. (left : Rows) → may_leave new left → StandForKnown found left stored in_flight)
    by_case None was e h = tt
    by_case (Some rows) None e h = absurd (cc)
    by_case (Some rows) (Some other) e h = λ left may. h left (within left may)

-- ---- what was read is taken up, or isn't

pub settled_anew : (old ledger : Ledger) (change : Option Step) (taken : Bool) → IsSettled old change taken ledger
    → ledger ≡ stored_anew taken old (option_map (after_step old) change)
settled_anew old ledger None true h = absurd h
settled_anew old ledger (Some step) true h = h.0
settled_anew old ledger change false h = h

module _ {K : Type 0} (held : K → Option Rows) (may_leave : K → Rows → Type 0) (faults : K → ℕ) (failure : Failure) (old new : BooksView K) (found : FoundAnew)
    (is : IsSettled old.ledger failure.in_flight found.taken found.ledger) where
  -- it is told with what was read, if that is as before
  pub not_taken : is_some (held new.keeper) ≡ is_some (held old.keeper) → IsWithin (may_leave new.keeper) (may_leave old.keeper)
      → faults new.keeper ≡ faults old.keeper
      → LeavesKnown held may_leave old.keeper failure.found old.ledger (flight_over old.ledger failure)
      → LeavesKnown held may_leave new.keeper (Some found.taken) old.ledger (flight_over old.ledger failure)
      → (remade : Remade) → IsNotTaken failure.found found.taken remade → IsUnreadInDoubt held may_leave faults failure old new remade
  not_taken told within counts was left (Done done) h = absurd h
  not_taken told within counts was left (Refused r) h = absurd h
  not_taken told within counts was left (InDoubt r None) h = record {
    why = subst (λ x. IsReadFault x None) (sym h.0) tt;
    flight = tt;
    known = tt;
    cause = subst (λ x. HasStoreCause (faults old.keeper) (faults new.keeper) (reply.Refused x)) (sym h.0) counts;
    left = unread_known held may_leave old.keeper new.keeper failure.found old.ledger (flight_over old.ledger failure) told within was;
  }
  not_taken told within counts was left (InDoubt r (Some read)) h =
      let same : found.taken ≡ read = sym h.1 in
      record {
        why = subst (λ x. IsReadFault x (Some read)) (sym h.0) tt;
        flight = subst (λ t. IsTrue t → IsInFlight old.ledger (flight_over old.ledger failure)) same
            (differs old.ledger found.ledger failure.in_flight found.taken is);
        known = subst (IsAsBefore failure.found) same h.2;
        cause = subst (λ x. HasStoreCause (faults old.keeper) (faults new.keeper) (reply.Refused x)) (sym h.0) counts;
        left = subst (λ t. LeavesKnown held may_leave new.keeper (Some t) old.ledger (flight_over old.ledger failure)) same left;
      }

  -- a store that tells its rows isn't bad then
  pub not_taken_sound : is_some (held new.keeper) ≡ is_some (held old.keeper) → is_some (held old.keeper) ≡ true
      → LeavesKnown held may_leave old.keeper failure.found old.ledger (flight_over old.ledger failure)
      → IfSome (held new.keeper) (λ _. HasStood (may_leave old.keeper) found.ledger)
      → IsKnownRight failure.found old.ledger (flight_over old.ledger failure)
      → (remade : Remade) → IsNotTaken failure.found found.taken remade → is_unsound_store (remade_reply remade) ≡ false
  not_taken_sound same told was stood right (Done done) h = absurd h
  not_taken_sound same told was stood right (Refused r) h = absurd h
  not_taken_sound same told was stood right (InDoubt r None) h =
      absurd (h.1 (known_before (held new.keeper) (held old.keeper) (may_leave old.keeper) old.ledger found.ledger failure found.taken same told was stood is
      right))
  not_taken_sound same told was stood right (InDoubt r (Some read)) h = ap (λ x. is_unsound_store (reply.Refused x)) h.0
