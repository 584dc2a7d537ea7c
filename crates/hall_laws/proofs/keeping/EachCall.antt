-- What each call keeps.
use Rattle.std.proofs.Common.{◌≡◌, ℕ, ◌+◌, ◌≤◌, Bool, true, false, List, [], ◌∷◌, ◌++◌, length, fold, set, refl, sym, ap, ◌∙◌, subst, arith, cond}
use Rattle.std.specs.Prelude.{◌&&◌, ◌||◌, if◌then◌else◌, is_some, nat_le, nat_lt, not, Option, Some, None, Ok}
use Rattle.std.specs.List.{AllByRecursion, filter, find, list_all}
use Rattle.std.proofs.lemmas.List.{length-set}
use Rattle.std.proofs.lemmas.Bool.{and_parts, false≢true, or_from}
use Rattle.std.proofs.lemmas.Bool.Decides.{nat_tests}
use Rattle.enq_base.specs.Owners.{same_unit}
use Rattle.enq_base.specs.declared.condition.Condition.{Condition}
use Rattle.enq_base.specs.declared.condition.Condition.TheVariants as condition
use Rattle.enq_base.specs.declared.owner.Owner.{Owner}
use Rattle.enq_base.specs.declared.owner.Owner.TheVariants.{Upd}
use Rattle.enq_base.specs.declared.owner.UnitKey.{UnitKey}
use Rattle.enq_base.specs.declared.unit.Num.{Num as Number}
use Rattle.enq_base.specs.declared.unit.Parts.{Parts}
use Rattle.enq_base.specs.declared.unit.Status.{Status}
use Rattle.enq_base.specs.declared.unit.Status.TheVariants.{Open, Posted, Bad, Closed, Bad2, Cancelled}
use Rattle.lock_entry.proofs.lemmas.Naming.{bytes_eq-same}
use Rattle.lock_entry.specs.declared.entry.Asked.{Asked}
use Rattle.lock_entry.specs.declared.entry.Entry.{Entry}
use Rattle.lock_entry.specs.declared.entry.Request.{Request}
use Rattle.lock_entry.specs.Converting.{Conversion, conversion, converted}
use Rattle.lock_entry.specs.Freeing.{freed, freed_owner, handed_over}
use Rattle.lock_entry.specs.Granting.{asked, readmitted}
use Rattle.lock_entry.specs.Names.{halves, is_of}
use Rattle.ledger_steps.specs.Posts.{entries_of, kind_for, status_for}
use Rattle.update_records.specs.Growing.{with_mark, with_unit}
use Rattle.update_records.specs.Business.{numbers_of}
use Rattle.update_records.specs.Ledger.{Ledger, Levels}
use Rattle.update_records.specs.declared.records.Mark.{Mark}
use Rattle.update_records.specs.declared.records.MarkKind.{MarkKind}
use Rattle.update_records.specs.declared.records.MarkKind.TheVariants.{Again1, Again2, Gone, Num}
use Rattle.ledger_steps.specs.Steps.{waiting_for}
use Rattle.hall_model.specs.declared.command.Command.{Command}
use Rattle.hall_model.specs.declared.command.PastEntry.{PastEntry}
use Rattle.hall_model.specs.declared.command.Session.{Session}
use Rattle.hall_model.specs.Devices.{DeviceOutcome, Event, AllWell, Wanting, StoreFails, BackupFails, LinkFails, NotRemade, IsAllowed, IsTold, MayRead}
use Rattle.hall_model.specs.Devices.{found_by, Reading, AsKnown, Shows, Reopens, Hands}
use Rattle.hall_model.specs.History.{doubted, ends_in, had_lock, in_flight_after, judged, known_behind, read_anew, served, stored_before_file, unfiled, without_stock}
use Rattle.number_ranges.specs.Intervals.{block_level, is_buffered, with_level}
use Rattle.number_ranges.specs.declared.interval.Interval.{Interval}
use Rattle.ledger_steps.specs.Intervals.{with_levels}
use Rattle.draw_laws.proofs.Drawing.{interval_among, range_found}
use Rattle.ledger_steps.specs.Drawn.{AreDrawnRight, handed_out, num_of, passed, settled_rows, stored_as}
use Rattle.ledger_steps.specs.Levels.{present, range_at}
use Rattle.ledger_steps.specs.declared.range.NumberRange.{NumberRange}
use Rattle.hall_model.specs.Numbers.{drawn, next_number, raised_to, stocked}
use Rattle.hall_model.specs.Kept.{draws_in, AreOrders, HasFew, HasGoodLocks, HasItsUser, HasStateInFlight, HasOpenUnits, HasSoundLocks, IsAhead, IsKnown}
use Rattle.hall_model.specs.Kept.{IsKnownRight, IsOwned, IsSteady, IsWaiting, IsYoung, MayHold, OfLock, OfStored, OutsideDoubt, may_hold}
use Rattle.hall_model.specs.OpenUnits.{OfInFlight}
use Rattle.hall_model.specs.Orders.{first_unclaimed, is_claimed, order_for, order_of, without_order}
use Rattle.hall_model.specs.Sessions.{begun, with_marks, without_marks, is_called, owners_of, pair_of, session_at, unit_key, with_draw, with_fresh_unit}
use Rattle.hall_model.specs.Sessions.{with_next_unit, with_session, without_draws, without_session}
use Rattle.hall_model.specs.Calls.{Call, Commits, OfAdmin, OfSession, Restarts, call_of}
use Rattle.hall_model.specs.State.{State, is_honest, table_for}
use Rattle.hall_model.specs.Stocks.{IsStockIn, MayCall}
use Rattle.hall_model.specs.Step.{Found, Verdict, call_verdict, cancelled, committed, detached, entered, followed_over, has_lock, is_taken, killed}
use Rattle.hall_model.specs.Step.{locks_behind, locks_without, marked, numbered, reopened, reposted, restarted, stored_anew, taken, unit_of}
use Rattle.hall_laws.proofs.keeping.SessionsAlike.{AreAlike, HaveOneStatus, ahead_alike, alike_all, alike_self, alike_with, count_alike, marked_few}
use Rattle.hall_laws.proofs.keeping.SessionsAlike.{marked_steady, numbered_alike, orders_alike, owned_alike, with_other_marks, with_others, young_alike}
use Rattle.model_laws.proofs.HandedLocks.{handed_good}
use Rattle.lock_entry.proofs.lemmas.Naming.{same_owner-same}
use Rattle.model_laws.proofs.ByCall.{CanDraw, IsHandedOver, OfEach, by_anew, by_doubt, by_filing, by_made, by_restart, by_stock, in_flight_stays}
use Rattle.model_laws.proofs.Cancels.{CanBeCancelled, unclaimed}
use Rattle.hall_laws.proofs.keeping.WorkerOrders.{found_all, orders_marked, orders_posted, orders_recorded, orders_with, orders_without, outside_more}
use Rattle.model_laws.proofs.PartOrders.{held_for}
use Rattle.model_laws.proofs.BlockLevels.{AreRightIn}
use Rattle.hall_laws.proofs.keeping.DrawnNumbers.{CommitsNone, drawn_back, drawn_buffered, drawn_entered, drawn_left, drawn_marked, drawn_numbered, drawn_plain}
use Rattle.hall_laws.proofs.keeping.DrawnNumbers.{drawn_raised, drawn_recorded, drawn_stocked, marks_marked, marks_recorded, named_filter, named_push}
use Rattle.hall_laws.proofs.keeping.DrawnNumbers.{named_with, post_commits_none}
use Rattle.hall_laws.proofs.keeping.Unchanged.{list_told, may_find, reads_none}
use Rattle.model_laws.proofs.FoundSessions.{found_name}
use Rattle.hall_laws.proofs.keeping.UnitsToCome.{fresh_committed, fresh_entered, fresh_left, fresh_marked, fresh_next, number_below, open_unheard}
use Rattle.model_laws.proofs.OtherStatuses.{all_waiting, apart_from_waiting, numbers_leave, status_in}
use Rattle.model_laws.proofs.LockLists.{allowed, Allows, asked_allows, converted_allows}
use Rattle.hall_laws.proofs.keeping.Owners.{owned_back, owned_beside, owned_by_none, owned_entered, owned_freed, owned_left, owned_locks, owned_next, owned_recorded}
use Rattle.model_laws.proofs.Resubmissions.{readmitted_is, table_in}
use Rattle.hall_laws.proofs.keeping.Restarts.{restart_in_flight, restarted_few, restarted_steady}
use Rattle.hall_laws.proofs.histories.LockUsers.{every_conversion, every_freed, every_freed_owner, every_granted, known_dialogue, known_update, one_number, only_dialogue, only_update}
use Rattle.model_laws.proofs.EachLock.{every_handed}
use Rattle.ledger_steps.specs.declared.part.Part.{Part}
use Rattle.ledger_steps.specs.Parts.{is_first}

young_more : (n m : ℕ) (xs : List Session) → n ≤ m → AllByRecursion (IsYoung n) xs → AllByRecursion (IsYoung m) xs
young_more n m [] h k = tt
young_more n m (x ∷ xs) h k = (omega (arith, h, k.0), young_more n m xs h k.1)

young_push : (n : ℕ) (xs : List Session) (y : Session) → AllByRecursion (IsYoung n) xs → y.luw ≤ n → AllByRecursion (IsYoung n) (xs ++ y ∷ [])
young_push n [] y k h = (h, tt)
young_push n (x ∷ xs) y k h = (k.0, young_push n xs y k.1 h)

young_filter : (n : ℕ) (p : Session → Bool) (xs : List Session) → AllByRecursion (IsYoung n) xs → AllByRecursion (IsYoung n) (filter p xs)
young_filter n p [] k = tt
young_filter n p (x ∷ xs) k =
    elim (p x) as (λ b. AllByRecursion (IsYoung n) (cond b (x ∷ filter p xs) (filter p xs)))
    [ true ↦ (k.0, young_filter n p xs k.1) | false ↦ young_filter n p xs k.1 ]

-- a change that opens the next unit
young_next : (change : Session → Session) → ((x : Session) → (change x).luw ≡ x.luw + 1) → (n : ℕ) (name : List ℕ) (xs : List Session)
    → AllByRecursion (IsYoung n) xs → AllByRecursion (IsYoung (n + 1)) (with_session name change xs)
young_next change opens n name [] k = tt
young_next change opens n name (x ∷ xs) k =
    elim (is_called name x) as (λ b. AllByRecursion (IsYoung (n + 1)) (cond b (change x ∷ xs) (x ∷ with_session name change xs))) [
      | true ↦ (subst (λ m. m ≤ n + 1) (sym (opens x)) (omega (arith, k.0)), young_more n (n + 1) xs (omega arith) k.1)
      | false ↦ (omega (arith, k.0), young_next change opens n name xs k.1)
    ]

-- what is kept, but for the length of the history
pub record Holds (n : ℕ) (s : State) : Type 0 where
  pub few : HasFew n s
  pub steady : IsSteady s

few_more : (n : ℕ) (s : State) → HasFew n s → HasFew (n + 1) s
few_more n s h = record { sessions = omega (arith, h.sessions); units = young_more (n + 1) (n + 1 + 1) s.sessions (omega arith) h.units }

holds_more : (n : ℕ) (s : State) → Holds n s → Holds (n + 1) s
holds_more n s h = record { few = few_more n s h.few; steady = h.steady }

-- where nothing was read, nothing wrong is known
unread_known : (found : Option Bool) (stored : Ledger) (in_flight : Option Ledger) → found ≡ None → IsKnownRight found stored in_flight
unread_known found stored in_flight unread = subst (λ o. IsKnownRight o stored in_flight) (sym unread) tt

-- outside doubt nothing is in flight
pub record IsQuiet (s : State) : Type 0 where
  pub in_flight : s.in_flight ≡ None
  pub found : s.found ≡ None

-- the server is in doubt, or nothing is in flight
by_condition_is : (P : Type 0) (s : State) (k : Condition) → s.condition ≡ k → IsSteady s → (IsQuiet s → P) → ((n : ℕ) → s.condition ≡ condition.Doubt n → P)
    → P
by_condition_is P s condition.Up is h quiet down =
    quiet (record {
      in_flight = subst (λ c. OutsideDoubt c (s.in_flight ≡ None)) is h.settled;
      found = subst (λ c. OutsideDoubt c (s.found ≡ None)) is h.unknown;
    })
by_condition_is P s condition.NoServer is h quiet down =
    quiet (record {
      in_flight = subst (λ c. OutsideDoubt c (s.in_flight ≡ None)) is h.settled;
      found = subst (λ c. OutsideDoubt c (s.found ≡ None)) is h.unknown;
    })
by_condition_is P s (condition.Doubt n) is h quiet down = down n is

pub by_condition : (P : Type 0) (s : State) → IsSteady s → (IsQuiet s → P) → ((n : ℕ) → s.condition ≡ condition.Doubt n → P) → P
by_condition P s h quiet down = by_condition_is P s s.condition refl h quiet down

-- whose these locks are, with the rest of the state
abbrev AreOwned : State → List Entry → Type 0
AreOwned s locks = IsOwned (is_honest s) s.stored s.next_session s.sessions locks

-- what holds of the locks so far holds of these, which follow from them by owner and user alone
owned_by : (s : State) (locks : List Entry) → ((Q : Owner → List ℕ → Type 0) → AllByRecursion (OfLock Q) s.locks → AllByRecursion (OfLock Q) locks) → IsSteady s
    → AreOwned s locks
owned_by s locks keeps steady = owned_locks (is_honest s) s.stored s.next_session s.sessions s.locks locks keeps steady.owned

-- other locks
holds_locks : (n : ℕ) (s : State) (locks : List Entry) → AreOwned s locks → Holds n s → Holds (n + 1) (record s { locks = locks })
holds_locks n s locks own h =
    let few = few_more n s h.few in
    let steady = h.steady in
    record {
      few = record { sessions = few.sessions; units = few.units };
      steady = record {
        started = steady.started;
        limited = steady.limited;
        locks_fit = steady.locks_fit;
        named = steady.named;
        drawn = steady.drawn;
        marked = steady.marked;
        settled = steady.settled;
        unknown = steady.unknown;
        unfailed = steady.unfailed;
        known = steady.known;
        fresh = record { numbered = steady.fresh.numbered; ahead = steady.fresh.ahead; later = steady.fresh.later };
        places = steady.places;
        orders = steady.orders;
        owned = own;
      };
    }

left-holds : (n : ℕ) (s : State) (name : List ℕ) (locks : List Entry) → AreOwned s locks → Holds n s
    → Holds (n + 1) (record s { sessions = without_session name s.sessions; locks = locks })
left-holds n s name locks own h =
    let p : Session → Bool = λ y. not (is_called name y) in
    let few = few_more n s h.few in
    let steady = h.steady in
    let fresh = fresh_left s p steady.fresh in
    record {
      few = record { sessions = few.sessions; units = young_filter (n + 1 + 1) p s.sessions few.units };
      steady = record {
        started = steady.started;
        limited = steady.limited;
        locks_fit = steady.locks_fit;
        named = named_filter p s.sessions steady.named;
        drawn = drawn_left s p steady.drawn;
        marked = steady.marked;
        settled = steady.settled;
        unknown = steady.unknown;
        unfailed = steady.unfailed;
        known = steady.known;
        fresh = record { numbered = fresh.numbered; ahead = fresh.ahead; later = fresh.later };
        places = steady.places;
        orders = steady.orders;
        owned = owned_left (is_honest s) s.stored s.next_session s.sessions p locks own;
      };
    }

-- a rollback opens the next unit as a commit does
renewed_alike : (name : List ℕ) (xs : List Session) → AreAlike (with_session name with_next_unit xs) (with_session name with_fresh_unit xs)
renewed_alike name [] = tt
renewed_alike name (x ∷ xs) =
    elim (is_called name x)
    as (λ b. AreAlike (cond b (with_next_unit x ∷ xs) (x ∷ with_session name with_next_unit xs))
    (cond b (with_fresh_unit x ∷ xs) (x ∷ with_session name with_fresh_unit xs))) [
      | true ↦ (record { name = refl; user = refl; number = refl; luw = refl }, alike_all xs)
      | false ↦ (alike_self x, renewed_alike name xs)
    ]

renewed_draws : (name : List ℕ) (xs : List Session) → draws_in (with_session name with_fresh_unit xs) ≡ draws_in (with_session name with_next_unit xs)
renewed_draws name [] = refl
renewed_draws name (x ∷ xs) =
    elim (is_called name x)
    as (λ b. draws_in (cond b (with_fresh_unit x ∷ xs) (x ∷ with_session name with_fresh_unit xs)) ≡ draws_in
    (cond b (with_next_unit x ∷ xs) (x ∷ with_session name with_next_unit xs))) [
      | true ↦ refl
      | false ↦ ap (λ ds. x.draws ∷ ds) (renewed_draws name xs)
    ]

-- sessions that differ in what they have drawn alone, and in having lost locks, over other levels and marks by which each
-- unit has the same status
alike-holds : (n : ℕ) (s : State) (sessions : List Session) (ranges : List NumberRange) (levels : Levels) (marks : List Mark) → AreAlike s.sessions sessions
    → HaveOneStatus s.stored marks → AreDrawnRight ranges levels (draws_in sessions) (numbers_of s.stored.units marks)
    → IsKnownRight s.found (with_others s.stored levels marks) s.in_flight → Holds n s
    → Holds n (record s { sessions = sessions; ranges = ranges; stored = with_others s.stored levels marks })
alike-holds n s sessions ranges levels marks alike same drawn known h =
    let steady = h.steady in
    record {
      few = record { sessions = h.few.sessions; units = young_alike (n + 1) s.sessions sessions alike h.few.units };
      steady = record {
        started = steady.started;
        limited = steady.limited;
        locks_fit = steady.locks_fit;
        named = λ name. subst (λ k. k ≤ 1) (sym (count_alike name s.sessions sessions alike)) (steady.named name);
        drawn = drawn;
        marked = λ key none. steady.marked key (sym (same key) ∙ none);
        settled = steady.settled;
        unknown = steady.unknown;
        unfailed = steady.unfailed;
        known = known;
        fresh = record {
          numbered = numbered_alike s.next_session s.sessions sessions alike steady.fresh.numbered;
          ahead = ahead_alike s.stored levels marks same s.sessions sessions alike steady.fresh.ahead;
          later = λ session luw from. same (record { start = s.stored.start; session = session; luw = luw }) ∙ steady.fresh.later session luw from;
        };
        places = steady.places;
        orders = outside_more s.condition (λ k. orders_alike s.stored levels marks same s.orders k) steady.orders;
        owned = owned_alike s.stored levels marks same (is_honest s) s.next_session s.sessions sessions s.locks alike steady.owned;
      };
    }

next-holds : (n : ℕ) (s : State) (name : List ℕ) (x : Session) (locks : List Entry) → session_at s.sessions name ≡ Some x → AreOwned s locks → Holds n s
    → Holds (n + 1) (record s { sessions = with_session name with_next_unit s.sessions; locks = locks })
next-holds n s name x locks at own h =
    let few = few_more n s h.few in
    let steady = h.steady in
    let fresh = fresh_next s name steady.fresh in
    record {
      few = record { sessions = few.sessions; units = young_next with_next_unit (λ x. refl) (n + 1) name s.sessions h.few.units };
      steady = record {
        started = steady.started;
        limited = steady.limited;
        locks_fit = steady.locks_fit;
        named = named_with with_next_unit (λ x. refl) name s.sessions steady.named;
        drawn = drawn_back s name x with_next_unit at refl steady.drawn;
        marked = steady.marked;
        settled = steady.settled;
        unknown = steady.unknown;
        unfailed = steady.unfailed;
        known = steady.known;
        fresh = record { numbered = fresh.numbered; ahead = fresh.ahead; later = fresh.later };
        places = steady.places;
        orders = steady.orders;
        owned = owned_next (is_honest s) s.stored s.next_session name s.sessions locks own;
      };
    }

rolled-holds : (n : ℕ) (s : State) (name : List ℕ) (x : Session) (locks : List Entry) → session_at s.sessions name ≡ Some x → AreOwned s locks → Holds n s
    → Holds (n + 1) (record s { sessions = with_session name with_fresh_unit s.sessions; locks = locks })
rolled-holds n s name x locks at own h =
    let t : State = record s { sessions = with_session name with_next_unit s.sessions; locks = locks } in
    let next = next-holds n s name x locks at own h in
    alike-holds (n + 1) t (with_session name with_fresh_unit s.sessions) s.ranges s.stored.levels s.stored.marks (renewed_alike name s.sessions) (λ key. refl)
    (subst (λ ds. AreDrawnRight s.ranges s.stored.levels ds (numbers_of s.stored.units s.stored.marks)) (sym (renewed_draws name s.sessions)) next.steady.drawn)
    next.steady.known next

-- what is said of the unit's owner and the session's user is said of the locks that are stored with the unit
of_unit : (Q : Owner → List ℕ → Type 0) (key : UnitKey) (user : List ℕ) (es : List Entry) → list_all (is_of (Upd key)) es ≡ true
    → AllByRecursion (λ (e : Entry). e.user ≡ user) es → Q (Upd key) user → AllByRecursion (OfLock Q) es
of_unit Q key user [] own used h = tt
of_unit Q key user (e ∷ es) own used h =
    let parts = and_parts (is_of (Upd key) e) (list_all (is_of (Upd key)) es) own in (
      subst (λ o. Q o e.user) (sym (same_owner-same e.owner (Upd key) parts.0))
          (subst (λ u. Q (Upd key) u) (sym used.0) h),
      of_unit Q key user es parts.1 used.1 h,
    )

-- the session that commits is the one of that name
commit-holds : (n : ℕ) (s : State) (x : Session) (parts : Parts) (stock : List Number) → session_at s.sessions x.name ≡ Some x → IsStockIn s stock
    → s.found ≡ None → HasSoundLocks s → Holds n s → Holds (n + 1) (stocked stock (committed s x parts (x.draws ++ stock)))
commit-holds n s x parts stock at fits unread sound h =
    let few = few_more n s h.few in
    let steady = h.steady in
    let key = unit_key s.stored.start x in
    let unit = unit_of s.stored.start s.locks x parts (x.draws ++ stock) in
    let recorded_ledger = with_unit s.stored unit in
    let levels = with_levels (settled_rows s.stored.levels s.ranges (x.draws ++ stock)) s.stored.levels in
    let sessions = with_session x.name with_next_unit s.sessions in
    let unheard = open_unheard s x.name x at steady.fresh in
    let start = s.stored.start in
    let good = handed_good (table_in s) start x parts (x.draws ++ stock) sound.table in
    let its : (Q : Owner → List ℕ → Type 0) → Q (Upd key) x.user → OfStored Q unit =
    λ Q k. of_unit Q key x.user unit.entries good.own.owners good.used k in
    let below = number_below s.next_session x.name x s.sessions at steady.fresh.numbered in
    let recorded =
    owned_recorded (is_honest s) s.stored s.next_session s.sessions (handed_over s.locks key) unit unheard
    (its (λ owner user. IsKnown start s.next_session owner) (known_update start s.next_session x below))
    (its (HasItsUser start s.sessions)
    (one_number start s.next_session x.name x (Upd key) s.sessions (only_update start x) at steady.fresh.numbered))
    (owned_by s (handed_over s.locks key) (λ Q k. every_handed Q s.locks key k) steady) in
    let fresh = fresh_committed s unit x.name x at refl steady.fresh in
    record {
      few = record { sessions = few.sessions; units = young_next with_next_unit (λ x. refl) (n + 1) x.name s.sessions h.few.units };
      steady = record {
        started = steady.started;
        limited = steady.limited;
        locks_fit = steady.locks_fit;
        named = named_with with_next_unit (λ x. refl) x.name s.sessions steady.named;
        drawn = drawn_recorded s x stock with_next_unit unit at refl refl unheard steady.marked fits steady.drawn;
        marked = marks_recorded s.stored unit unheard steady.marked;
        settled = steady.settled;
        unknown = steady.unknown;
        unfailed = steady.unfailed;
        known = unread_known s.found _ s.in_flight unread;
        fresh = record { numbered = fresh.numbered; ahead = fresh.ahead; later = fresh.later };
        places = steady.places;
        orders = outside_more s.condition
            (λ k. orders_alike recorded_ledger levels recorded_ledger.marks (λ other. refl) s.orders (orders_recorded s.stored unit s.orders unheard k))
            steady.orders;
        owned = owned_alike recorded_ledger levels recorded_ledger.marks (λ other. refl) (is_honest s) s.next_session sessions sessions
            (handed_over s.locks key)
            (alike_all sessions)
            (owned_next (is_honest s) recorded_ledger s.next_session x.name s.sessions (handed_over s.locks key) recorded);
      };
    }

-- ---- the locks of a session's calls

granted-owned : (s : State) (name : List ℕ) (x : Session) (rs : List Request) → find (is_called name) s.sessions ≡ Some x → IsSteady s
    → Allows (AreOwned s) (asked (table_in s) (pair_of s.stored.start x) x.user rs)
granted-owned s name x rs found steady =
    let pair = pair_of s.stored.start x in
    let below = number_below s.next_session name x s.sessions found steady.fresh.numbered in
    let start = s.stored.start in
    let own = steady.owned in
    asked_allows (AreOwned s) (table_in s) pair x.user rs (record {
      known = λ t. every_granted (λ owner user. IsKnown start s.next_session owner) s.locks x.user pair rs (known_dialogue start s.next_session x below)
          (known_update start s.next_session x below) (own.known t);
      users = λ t. every_granted (HasItsUser start s.sessions) s.locks x.user pair rs
          (one_number start s.next_session name x pair.dialogue s.sessions (only_dialogue start x) found steady.fresh.numbered)
          (one_number start s.next_session name x pair.update s.sessions (only_update start x) found steady.fresh.numbered) (own.users t);
      holders = λ t. every_granted (λ owner user. MayHold s.stored owner) s.locks x.user pair rs tt
          (ap may_hold (open_unheard s name x found steady.fresh)) (own.holders t);
      stored_known = own.stored_known;
      stored_users = own.stored_users;
    })

converted-owned : (s : State) (x : Session) (wanted : List Asked) → IsSteady s
    → Allows (λ (c : Conversion). AreOwned s c.entries) (converted s.locks (pair_of s.stored.start x) wanted)
converted-owned s x wanted steady =
    let pair = pair_of s.stored.start x in
    converted_allows (λ (c : Conversion). AreOwned s c.entries) s.locks pair wanted
    (owned_by s (conversion s.locks pair wanted).entries (λ Q k. every_conversion Q s.locks pair wanted k) steady)

both-owned : (s : State) (x : Session) → IsSteady s
    → AreOwned s (freed_owner (freed_owner s.locks (pair_of s.stored.start x).dialogue) (pair_of s.stored.start x).update)
both-owned s x steady =
    let pair = pair_of s.stored.start x in
    owned_by s (freed_owner (freed_owner s.locks pair.dialogue) pair.update)
    (λ Q k. every_freed_owner Q (freed_owner s.locks pair.dialogue) pair.update (every_freed_owner Q s.locks pair.dialogue k)) steady

-- a session is found by its own name
own_name : (s : State) (name : List ℕ) (x : Session) → session_at s.sessions name ≡ Some x → session_at s.sessions x.name ≡ Some x
own_name s name x at = subst (λ m. session_at s.sessions m ≡ Some x) (sym (bytes_eq-same _ _ (found_name name s.sessions x at))) at

entered-holds : (n : ℕ) (s : State) (name user : List ℕ) → is_some (session_at s.sessions name) ≡ false → Holds n s → Holds (n + 1) (entered s name user)
entered-holds n s name user free h =
    let few = few_more n s h.few in
    let steady = h.steady in
    let y : Session = begun name user s.next_session in
    let fresh = fresh_entered s y refl steady.fresh in
    record {
      few = record { sessions = omega (arith, h.few.sessions); units = young_push (n + 1 + 1) s.sessions y few.units (omega arith) };
      steady = record {
        started = steady.started;
        limited = steady.limited;
        locks_fit = steady.locks_fit;
        named = named_push name s.sessions y refl free steady.named;
        drawn = drawn_entered s y refl steady.drawn;
        marked = steady.marked;
        settled = steady.settled;
        unknown = steady.unknown;
        unfailed = steady.unfailed;
        known = steady.known;
        fresh = record { numbered = fresh.numbered; ahead = fresh.ahead; later = fresh.later };
        places = steady.places;
        orders = steady.orders;
        owned = owned_entered (is_honest s) s.stored s.sessions y s.locks steady.owned;
      };
    }

-- ---- orders

holds_orders : (n : ℕ) (s : State) (worker : ℕ) (o : Option UnitKey) → IsSteady (record s { orders = set s.orders worker o }) → Holds n s
    → Holds (n + 1) (record s { orders = set s.orders worker o })
holds_orders n s worker o steady h =
    let few = few_more n s h.few in
    record { few = record { sessions = few.sessions; units = few.units }; steady = steady }

not_yes : (b : Bool) → not b ≡ true → b ≡ false
not_yes true h = cc
not_yes false h = refl

not_no : (b : Bool) → not b ≡ false → b ≡ true
not_no true h = refl
not_no false h = cc

not_past : (m n : ℕ) → nat_lt m n ≡ false → n ≤ m
not_past m n h = grind (arith, nat_tests)

taken-holds : (n : ℕ) (part : Part) (s : State) (worker : ℕ) (unit : UnitKey) → first_unclaimed s.orders (waiting_for part s.stored) ≡ Some unit → Holds n s
    → Holds (n + 1) (taken s worker unit)
taken-holds n part s worker unit e h =
    let steady = h.steady in
    let found = found_all (IsWaiting s.stored) (λ key. not (is_claimed s.orders key)) (waiting_for part s.stored) unit e (all_waiting part s.stored) in
    holds_orders n s worker (Some unit) (record {
      started = steady.started;
      limited = steady.limited;
      locks_fit = steady.locks_fit;
      named = steady.named;
      drawn = steady.drawn;
      marked = steady.marked;
      settled = steady.settled;
      unknown = steady.unknown;
      unfailed = steady.unfailed;
      known = steady.known;
      fresh = record { numbered = steady.fresh.numbered; ahead = steady.fresh.ahead; later = steady.fresh.later };
      places = length-set s.orders worker (Some unit) ∙ steady.places;
      orders = outside_more s.condition (λ k. orders_with s.stored s.orders worker unit k found.0 (not_yes (is_claimed s.orders unit) found.1)) steady.orders;
      owned = steady.owned;
    }) h

dropped-holds : (n : ℕ) (s : State) (worker : ℕ) → Holds n s → Holds (n + 1) (record s { orders = without_order s.orders worker })
dropped-holds n s worker h =
    let steady = h.steady in
    holds_orders n s worker None (record {
      started = steady.started;
      limited = steady.limited;
      locks_fit = steady.locks_fit;
      named = steady.named;
      drawn = steady.drawn;
      marked = steady.marked;
      settled = steady.settled;
      unknown = steady.unknown;
      unfailed = steady.unfailed;
      known = steady.known;
      fresh = record { numbered = steady.fresh.numbered; ahead = steady.fresh.ahead; later = steady.fresh.later };
      places = length-set s.orders worker None ∙ steady.places;
      orders = outside_more s.condition (λ k. orders_without s.stored s.orders worker k) steady.orders;
      owned = steady.owned;
    }) h

-- with the V1 part of a unit its locks go; one that waits for its V2 part has none
behind_marked : (s : State) (part : Part) (unit : UnitKey) (kind : MarkKind) → status_in s.stored unit ≡ Some (status_for part) → AreOwned s s.locks
    → IsOwned (is_honest s) (with_mark s.stored unit kind) s.next_session s.sessions (locks_behind part s.locks unit)
behind_marked s part unit kind waits own =
    elim (is_first part)
    as (λ b. status_in s.stored unit ≡ Some (if b then Open else Posted)
    → IsOwned (is_honest s) (with_mark s.stored unit kind) s.next_session s.sessions (if b then freed_owner s.locks (Upd unit) else s.locks)) [
      | true ↦ λ w. owned_freed (is_honest s) s.stored s.next_session s.sessions s.locks unit kind own
      | false ↦ λ w. owned_beside (is_honest s) s.stored s.next_session s.sessions s.locks unit kind Posted w refl own
    ] waits

marked-holds : (n : ℕ) (part : Part) (s : State) (worker : ℕ) (unit : UnitKey) (kind : MarkKind) → CommitsNone kind
    → order_for part s.stored s.orders worker ≡ Some unit → s.found ≡ None → Holds n s → Holds (n + 1) (marked part s worker unit kind)
marked-holds n part s worker unit kind none e unread h =
    let held = held_for part s.stored (order_of s.orders worker) unit e in
    let few = few_more n s h.few in
    let steady = h.steady in
    let fresh = fresh_marked s unit kind (status_for part) held.1 steady.fresh in
    record {
      few = record { sessions = few.sessions; units = few.units };
      steady = record {
        started = steady.started;
        limited = steady.limited;
        locks_fit = steady.locks_fit;
        named = steady.named;
        drawn = drawn_marked s unit kind none steady.drawn;
        marked = marks_marked s.stored unit kind steady.marked;
        settled = steady.settled;
        unknown = steady.unknown;
        unfailed = steady.unfailed;
        known = unread_known s.found _ s.in_flight unread;
        fresh = record { numbered = fresh.numbered; ahead = fresh.ahead; later = fresh.later };
        places = length-set s.orders worker None ∙ steady.places;
        orders = outside_more s.condition (λ k. orders_posted s.stored s.orders worker unit kind k held.0) steady.orders;
        owned = behind_marked s part unit kind held.1 steady.owned;
      };
    }

-- ---- cancelling

without_marked : (s : State) (unit : UnitKey) (status : Status) → status_in s.stored unit ≡ Some status → AreOwned s s.locks
    → IsOwned (is_honest s) (with_mark s.stored unit Gone) s.next_session s.sessions (locks_without status s.locks unit)
without_marked s unit Open here own = owned_freed (is_honest s) s.stored s.next_session s.sessions s.locks unit Gone own
without_marked s unit Posted here own = owned_beside (is_honest s) s.stored s.next_session s.sessions s.locks unit Gone Posted here refl own
without_marked s unit Bad here own = owned_beside (is_honest s) s.stored s.next_session s.sessions s.locks unit Gone Bad here refl own
without_marked s unit Closed here own = owned_beside (is_honest s) s.stored s.next_session s.sessions s.locks unit Gone Closed here refl own
without_marked s unit Bad2 here own = owned_beside (is_honest s) s.stored s.next_session s.sessions s.locks unit Gone Bad2 here refl own
without_marked s unit Cancelled here own = owned_beside (is_honest s) s.stored s.next_session s.sessions s.locks unit Gone Cancelled here refl own

cancelled-holds : (n : ℕ) (s : State) (unit : UnitKey) (status : Status) → CanBeCancelled s.stored s.orders s.mark_limit unit status → s.found ≡ None
    → Holds n s → Holds (n + 1) (cancelled s unit status)
cancelled-holds n s unit status can unread h =
    let few = few_more n s h.few in
    let steady = h.steady in
    let fresh = fresh_marked s unit Gone status can.recorded steady.fresh in
    record {
      few = record { sessions = few.sessions; units = few.units };
      steady = record {
        started = steady.started;
        limited = steady.limited;
        locks_fit = steady.locks_fit;
        named = steady.named;
        drawn = drawn_marked s unit Gone (λ us seq key. refl) steady.drawn;
        marked = marks_marked s.stored unit Gone steady.marked;
        settled = steady.settled;
        unknown = steady.unknown;
        unfailed = steady.unfailed;
        known = unread_known s.found _ s.in_flight unread;
        fresh = record { numbered = fresh.numbered; ahead = fresh.ahead; later = fresh.later };
        places = steady.places;
        orders = outside_more s.condition (λ k. orders_marked s.stored unit Gone s.orders (unclaimed s.orders unit can.free) k) steady.orders;
        owned = without_marked s unit status can.recorded steady.owned;
      };
    }

-- ---- trying again

-- a unit that waits for no part has no order
not_claimed : (ledger : Ledger) (orders : List (Option UnitKey)) (unit : UnitKey) (status : Status) → status_in ledger unit ≡ Some status → (status ≡ Open → ⊥)
    → (status ≡ Posted → ⊥) → AreOrders ledger orders → is_claimed orders unit ≡ false
not_claimed ledger [] unit status here no_open no_posted h = refl
not_claimed ledger (None ∷ orders) unit status here no_open no_posted h = not_claimed ledger orders unit status here no_open no_posted h
not_claimed ledger (Some other ∷ orders) unit status here no_open no_posted h =
    or_from (same_unit other unit) (is_claimed orders unit)
    (apart_from_waiting ledger unit other status here no_open no_posted h.0)
    (not_claimed ledger orders unit status here no_open no_posted h.2)

reopened-holds : (n : ℕ) (s : State) (unit : UnitKey) (es : List Entry) → status_in s.stored unit ≡ Some Bad
    → IsOwned (is_honest s) (with_mark s.stored unit Again1) s.next_session s.sessions es → s.found ≡ None → Holds n s → Holds (n + 1) (reopened s unit es)
reopened-holds n s unit es here own unread h =
    let few = few_more n s h.few in
    let steady = h.steady in
    let fresh = fresh_marked s unit Again1 Bad here steady.fresh in
    record {
      few = record { sessions = few.sessions; units = few.units };
      steady = record {
        started = steady.started;
        limited = steady.limited;
        locks_fit = steady.locks_fit;
        named = steady.named;
        drawn = drawn_marked s unit Again1 (λ us seq key. refl) steady.drawn;
        marked = marks_marked s.stored unit Again1 steady.marked;
        settled = steady.settled;
        unknown = steady.unknown;
        unfailed = steady.unfailed;
        known = unread_known s.found _ s.in_flight unread;
        fresh = record { numbered = fresh.numbered; ahead = fresh.ahead; later = fresh.later };
        places = steady.places;
        orders = outside_more s.condition
            (λ k. orders_marked s.stored unit Again1 s.orders (not_claimed s.stored s.orders unit Bad here (λ e. cc) (λ e. cc) k) k) steady.orders;
        owned = own;
      };
    }

reposted-holds : (n : ℕ) (s : State) (unit : UnitKey) → status_in s.stored unit ≡ Some Bad2 → s.found ≡ None → Holds n s → Holds (n + 1) (reposted s unit)
reposted-holds n s unit here unread h =
    let few = few_more n s h.few in
    let steady = h.steady in
    let fresh = fresh_marked s unit Again2 Bad2 here steady.fresh in
    record {
      few = record { sessions = few.sessions; units = few.units };
      steady = record {
        started = steady.started;
        limited = steady.limited;
        locks_fit = steady.locks_fit;
        named = steady.named;
        drawn = drawn_marked s unit Again2 (λ us seq key. refl) steady.drawn;
        marked = marks_marked s.stored unit Again2 steady.marked;
        settled = steady.settled;
        unknown = steady.unknown;
        unfailed = steady.unfailed;
        known = unread_known s.found _ s.in_flight unread;
        fresh = record { numbered = fresh.numbered; ahead = fresh.ahead; later = fresh.later };
        places = steady.places;
        orders = outside_more s.condition
            (λ k. orders_marked s.stored unit Again2 s.orders (not_claimed s.stored s.orders unit Bad2 here (λ e. cc) (λ e. cc) k) k) steady.orders;
        owned = owned_beside (is_honest s) s.stored s.next_session s.sessions s.locks unit Again2 Bad2 here refl steady.owned;
      };
    }

-- the locks of the unit stand behind those of the others
back-owned : (s : State) (unit : UnitKey) (es : List Entry) → AllByRecursion HasGoodLocks s.stored.units
    → readmitted (table_in s) (owners_of unit) (entries_of s.stored.units unit) ≡ Ok es → AreOwned s s.locks
    → IsOwned (is_honest s) (with_mark s.stored unit Again1) s.next_session s.sessions es
back-owned s unit es good stand own =
    subst (IsOwned (is_honest s) (with_mark s.stored unit Again1) s.next_session s.sessions)
    (sym (readmitted_is (table_in s) (owners_of unit) (entries_of s.stored.units unit) es stand))
    (owned_back (is_honest s) s.stored s.next_session s.sessions s.locks unit good own)

-- ---- numbers

beside-holds : (n : ℕ) (s : State) (sessions : List Session) (ranges : List NumberRange) (levels : Levels) (marks : List Mark) → AreAlike s.sessions sessions
    → HaveOneStatus s.stored marks → AreDrawnRight ranges levels (draws_in sessions) (numbers_of s.stored.units marks) → s.found ≡ None → Holds n s
    → Holds (n + 1) (record s { sessions = sessions; ranges = ranges; stored = with_others s.stored levels marks })
beside-holds n s sessions ranges levels marks alike same drawn unread h =
    holds_more n (record s { sessions = sessions; ranges = ranges; stored = with_others s.stored levels marks })
    (alike-holds n s sessions ranges levels marks alike same drawn (unread_known s.found (with_others s.stored levels marks) s.in_flight unread) h)

-- the same with a level that is raised
raised-holds : (n : ℕ) (s : State) (sessions : List Session) (ranges : List NumberRange) (i : Interval) (upto : ℕ) → AreAlike s.sessions sessions
    → AreRightIn ranges sessions (raised_to i upto s.stored) → s.found ≡ None → Holds n s
    → Holds (n + 1) (record s { sessions = sessions; ranges = ranges; stored = raised_to i upto s.stored })
raised-holds n s sessions ranges i upto alike drawn unread h =
    let levels = with_levels (stored_as (with_level (block_level i upto) i) ∷ []) s.stored.levels in
    let with_ledger : Ledger → State = λ ledger. record s { sessions = sessions; ranges = ranges; stored = ledger } in
    elim (nat_le upto i.level)
    as (λ b. AreRightIn ranges sessions (if b then s.stored else with_others s.stored levels s.stored.marks)
    → Holds (n + 1) (with_ledger (if b then s.stored else with_others s.stored levels s.stored.marks))) [
      | true ↦ λ d. beside-holds n s sessions ranges s.stored.levels s.stored.marks alike (λ key. refl) d unread h
      | false ↦ λ d. beside-holds n s sessions ranges levels s.stored.marks alike (λ key. refl) d unread h
    ] drawn

draws-holds : (n : ℕ) (s : State) (x : Session) (object nr : List ℕ) (r : NumberRange) → session_at s.sessions x.name ≡ Some x → CanDraw s x object nr r
    → s.found ≡ None → Holds n s
    → Holds (n + 1) (drawn s x (present s.stored.levels r.interval) (next_number r (present s.stored.levels r.interval) x))
draws-holds n s x object nr r at can unread h =
    let i = present s.stored.levels r.interval in
    let number = next_number r i x in
    let draw = with_draw (num_of i number) in
    let sessions = with_session x.name draw s.sessions in
    let alike = alike_with draw (λ y. record { name = refl; user = refl; number = refl; luw = refl }) x.name s.sessions in
    let t : State = record s { sessions = sessions } in
    elim (is_buffered i)
    as (λ b. is_buffered r.interval ≡ b
    → Holds (n + 1) (if b then record t { ranges = handed_out i t.ranges; stored = raised_to i number t.stored } else t)) [
      | true ↦ λ is.
          raised-holds n s sessions (handed_out i s.ranges) i number alike (drawn_buffered s x object nr r number at can refl is h.steady.drawn) unread h
      | false ↦ λ is.
          beside-holds n s sessions s.ranges s.stored.levels s.stored.marks alike (λ key. refl)
          (drawn_plain s x object nr r number at can refl is h.steady.named h.steady.drawn) unread h
    ] refl

-- a level alone
pub raises-holds : (n : ℕ) (s : State) (object nr : List ℕ) (upto : ℕ) (r : NumberRange) → range_at s.ranges object nr ≡ Some r
    → is_buffered r.interval ≡ true → nat_lt r.interval.to upto ≡ false → s.found ≡ None → Holds n s
    → Holds (n + 1) (record s { stored = raised_to (present s.stored.levels r.interval) upto s.stored })
raises-holds n s object nr upto r chosen buffered within unread h =
    raised-holds n s s.sessions s.ranges (present s.stored.levels r.interval) upto (alike_all s.sessions)
    (drawn_raised s r.interval upto (interval_among s.ranges r (range_found s.ranges object nr r chosen).among)
    buffered (not_past r.interval.to upto within) h.steady.drawn) unread h

numbered-holds : (n : ℕ) (s : State) (x : Session) (stock : List Number) → session_at s.sessions x.name ≡ Some x → IsStockIn s stock → s.found ≡ None
    → Holds n s → Holds (n + 1) (stocked stock (numbered s x (x.draws ++ stock)))
numbered-holds n s x stock at fits unread h =
    let key = unit_key s.stored.start x in
    let numbers = x.draws ++ stock in
    beside-holds n s (with_session x.name without_draws s.sessions) (passed stock s.ranges)
    (with_levels (settled_rows s.stored.levels s.ranges numbers) s.stored.levels) (with_mark s.stored key (Num numbers)).marks
    (alike_with without_draws (λ y. record { name = refl; user = refl; number = refl; luw = refl }) x.name s.sessions)
    (λ other. numbers_leave s.stored key other numbers) (drawn_numbered s x stock at fits h.steady.drawn) unread h

-- ---- the lock server

listed_owned : (follows honest : Bool) (ledger : Ledger) (next : ℕ) (sessions : List Session) (es : List Entry) → IsOwned honest ledger next sessions es
    → IsOwned honest ledger next sessions (if follows then es else [])
listed_owned true honest ledger next sessions es h = h
listed_owned false honest ledger next sessions es h = owned_by_none honest ledger next sessions es h

killed-holds : (n : ℕ) (s : State) → s.condition ≡ condition.Up → Holds n s → Holds (n + 1) (killed s)
killed-holds n s up h =
    let few = few_more n (with_other_marks (has_lock s) s) (marked_few n (has_lock s) s h.few) in
    let steady = marked_steady (has_lock s) s h.steady in
    record {
      few = record { sessions = few.sessions; units = few.units };
      steady = record {
        started = steady.started;
        limited = steady.limited;
        locks_fit = steady.locks_fit;
        named = steady.named;
        drawn = steady.drawn;
        marked = steady.marked;
        settled = subst (λ c. OutsideDoubt c (s.in_flight ≡ None)) up steady.settled;
        unknown = subst (λ c. OutsideDoubt c (s.found ≡ None)) up steady.unknown;
        unfailed = subst (λ c. OutsideDoubt c (s.failed_caller ≡ None)) up steady.unfailed;
        known = steady.known;
        fresh = record { numbered = steady.fresh.numbered; ahead = steady.fresh.ahead; later = steady.fresh.later };
        places = steady.places;
        orders = subst (λ c. OutsideDoubt c (AreOrders s.stored s.orders)) up steady.orders;
        owned = listed_owned (s.attached && s.link_told) (is_honest s) s.stored s.next_session (with_marks (has_lock s) s.sessions) s.locks steady.owned;
      };
    }

-- a list that the link tells is the table's
over_owned : (told over : Bool) (ledger : Ledger) (next : ℕ) (sessions : List Session) (es list : List Entry) → IsTold told (list ≡ es)
    → IsOwned (told || not over) ledger next sessions es → IsOwned (told || not true) ledger next sessions list
over_owned true over ledger next sessions es list same h = subst (IsOwned true ledger next sessions) (sym same) h
over_owned false over ledger next sessions es list same h = record {
  known = λ t. absurd (false≢true t);
  users = λ t. absurd (false≢true t);
  holders = λ t. absurd (false≢true t);
  stored_known = h.stored_known;
  stored_users = h.stored_users;
}

over-holds : (n : ℕ) (found : Found) (s : State) → IsHandedOver found s → IsTold s.link_told (found.list ≡ s.locks) → Holds n s
    → Holds (n + 1) (followed_over found.list s)
over-holds n found s can told h =
    let none : Session → Bool = λ x. false in
    let few = few_more n (with_other_marks none s) (marked_few n none s h.few) in
    let steady = marked_steady none s h.steady in
    record {
      few = record { sessions = few.sessions; units = few.units };
      steady = record {
        started = steady.started;
        limited = steady.limited;
        locks_fit = steady.locks_fit;
        named = steady.named;
        drawn = steady.drawn;
        marked = steady.marked;
        settled = subst (λ c. OutsideDoubt c (s.in_flight ≡ None)) can.none steady.settled;
        unknown = subst (λ c. OutsideDoubt c (s.found ≡ None)) can.none steady.unknown;
        unfailed = subst (λ c. OutsideDoubt c (s.failed_caller ≡ None)) can.none steady.unfailed;
        known = steady.known;
        fresh = record { numbered = steady.fresh.numbered; ahead = steady.fresh.ahead; later = steady.fresh.later };
        places = steady.places;
        orders = subst (λ c. OutsideDoubt c (AreOrders s.stored s.orders)) can.none steady.orders;
        owned = over_owned s.link_told s.taken_over s.stored s.next_session (without_marks s.sessions) s.locks found.list told steady.owned;
      };
    }

-- where there is no lock server the list of the replica goes with it
detached_owned : (c : Condition) (honest : Bool) (max limit : ℕ) (ledger : Ledger) (next : ℕ) (sessions : List Session) (es : List Entry)
    → IsOwned honest ledger next sessions es → IsOwned honest ledger next sessions (table_for c max (record { entries = es; limit = limit }) []).entries
detached_owned condition.Up honest max limit ledger next sessions es h = h
detached_owned condition.NoServer honest max limit ledger next sessions es h = owned_by_none honest ledger next sessions es h
detached_owned (condition.Doubt k) honest max limit ledger next sessions es h = owned_by_none honest ledger next sessions es h

detached-holds : (n : ℕ) (s : State) → Holds n s → Holds n (detached s)
detached-holds n s h =
    let few = h.few in
    let steady = h.steady in
    record {
      few = record { sessions = few.sessions; units = few.units };
      steady = record {
        started = steady.started;
        limited = steady.limited;
        locks_fit = steady.locks_fit;
        named = steady.named;
        drawn = steady.drawn;
        marked = steady.marked;
        settled = steady.settled;
        unknown = steady.unknown;
        unfailed = steady.unfailed;
        known = steady.known;
        fresh = record { numbered = steady.fresh.numbered; ahead = steady.fresh.ahead; later = steady.fresh.later };
        places = steady.places;
        orders = steady.orders;
        owned = detached_owned s.condition (is_honest s) s.max_locks s.limit s.stored s.next_session s.sessions s.locks steady.owned;
      };
    }

-- a replica follows, or none
attached-holds : (n : ℕ) (s : State) (follows : Bool) → Holds n s → Holds n (record s { attached = follows })
attached-holds n s follows h =
    let few = h.few in
    let steady = h.steady in
    record {
      few = record { sessions = few.sessions; units = few.units };
      steady = record {
        started = steady.started;
        limited = steady.limited;
        locks_fit = steady.locks_fit;
        named = steady.named;
        drawn = steady.drawn;
        marked = steady.marked;
        settled = steady.settled;
        unknown = steady.unknown;
        unfailed = steady.unfailed;
        known = steady.known;
        fresh = record { numbered = steady.fresh.numbered; ahead = steady.fresh.ahead; later = steady.fresh.later };
        places = steady.places;
        orders = steady.orders;
        owned = steady.owned;
      };
    }

restarted-holds : (n : ℕ) (taken : Bool) (s : State) → HasStateInFlight s (stored_anew taken s.stored s.in_flight) → Holds n s
    → Holds (n + 1) (restarted taken s)
restarted-holds n taken s state_in_flight h = record { few = restarted_few n taken s h.few; steady = restarted_steady taken s h.steady state_in_flight }

-- ---- all calls

pub each-holds : (n : ℕ) (found : Found) (s : State) → HasSoundLocks s → HasStateInFlight s (stored_anew (is_taken found.anew) s.stored s.in_flight)
    → IsTold s.link_told (found.list ≡ s.locks) → s.found ≡ None → Holds n s
    → OfEach (λ call v. MayCall s call → Holds (n + 1) (judged s v).state) found s
each-holds n found s sound state_in_flight told unread h = record {
  refuses = λ call r plain may. holds_more n s h;
  enters = λ name user free may. entered-holds n s name user free h;
  logs_off = λ name x at may. left-holds n s x.name _ (both-owned s x h.steady) h;
  grants = λ name x rs locks at e may. holds_locks n s locks (allowed (AreOwned s) _ locks (granted-owned s name x rs at h.steady) e) h;
  lowers = λ name x rs at may.
      let names = halves (pair_of s.stored.start x) rs in
      holds_locks n s _ (owned_by s (fold freed s.locks names) (λ Q k. every_freed Q s.locks names k) h.steady) h;
  frees = λ name x at may. holds_locks n s _ (both-owned s x h.steady) h;
  converts = λ name x wanted c at e may. holds_locks n s c.entries
      (allowed (λ (c : Conversion). AreOwned s c.entries) _ c (converted-owned s x wanted h.steady) e) h;
  reads = λ name x table key at may. holds_more n s h;
  commits_nothing = λ name x parts stock at may. holds_more n s h;
  draws = λ name x object nr r at can may. draws-holds n s x object nr r (own_name s name x at) can unread h;
  reserves = λ name x object nr upto r at can may.
      raises-holds n s object nr upto r can.range (not_no (is_buffered r.interval) can.buffered) can.within unread h;
  commits_numbers = λ name x parts stock at may. numbered-holds n s x stock (own_name s name x at) may unread h;
  commits = λ name x parts stock at may. commit-holds n s x parts stock (own_name s name x at) may unread sound h;
  rolls_back = λ name x at may.
      let update = (pair_of s.stored.start x).update in
      rolled-holds n s x.name x _ (own_name s name x at) (owned_by s (freed_owner s.locks update) (λ Q k. every_freed_owner Q s.locks update k) h.steady) h;
  takes = λ worker part unit free e may. taken-holds n part s worker unit e h;
  posts = λ worker part unit e may.
      marked-holds n part s worker unit (kind_for part (found.part part unit)) (post_commits_none part (found.part part unit)) e unread h;
  drops = λ worker unit e may. dropped-holds n s worker h;
  kills = λ up may. killed-holds n s up h;
  fails_over = λ can may. over-holds n found s can told h;
  strays = λ first second none may. detached-holds (n + 1) s (holds_more n s h);
  attaches = λ up may. attached-holds (n + 1) s true (holds_more n s h);
  restarts = λ off may. restarted-holds n (is_taken found.anew) s state_in_flight h;
  cancels = λ unit status can may. cancelled-holds n s unit status can unread h;
  reopens = λ unit es here stand may. reopened-holds n s unit es here (back-owned s unit es sound.stored stand h.steady.owned) unread h;
  reposts = λ unit here may. reposted-holds n s unit here unread h;
}

verdict-holds : (n : ℕ) (found : Found) (s : State) (call : Call) → MayCall s call → HasSoundLocks s
    → HasStateInFlight s (stored_anew (is_taken found.anew) s.stored s.in_flight) → IsTold s.link_told (found.list ≡ s.locks) → Holds n s
    → Holds (n + 1) (judged s (call_verdict found s call)).state
verdict-holds n found s call may sound state_in_flight told h =
    by_condition (Holds (n + 1) (judged s (call_verdict found s call)).state) s h.steady
    (λ quiet. by_made (λ c v. Holds (n + 1) (judged s v).state) found s (each-holds n found s sound state_in_flight told quiet.found h) call may)
    (λ k down.
    by_doubt (λ c v. Holds (n + 1) (judged s v).state) found s k call down (λ c r. holds_more n s h)
    (restarted-holds n (is_taken found.anew) s state_in_flight h))

-- ---- a server in doubt

doubted-holds : (n : ℕ) (s : State) (call : Call) (read : Option Bool) (in_flight : Option Ledger) → IsKnownRight (known_behind s.found read) s.stored in_flight
    → Holds n s → Holds (n + 1) (doubted s call read in_flight)
doubted-holds n s call read in_flight known h =
    let few = few_more n (with_other_marks (had_lock s) s) (marked_few n (had_lock s) s h.few) in
    let steady = marked_steady (had_lock s) s h.steady in
    record {
      few = record { sessions = few.sessions; units = few.units };
      steady = record {
        started = steady.started;
        limited = steady.limited;
        locks_fit = steady.locks_fit;
        named = steady.named;
        drawn = steady.drawn;
        marked = steady.marked;
        settled = tt;
        unknown = tt;
        unfailed = tt;
        known = known;
        fresh = record { numbered = steady.fresh.numbered; ahead = steady.fresh.ahead; later = steady.fresh.later };
        places = steady.places;
        orders = tt;
        owned = owned_by_none (is_honest s) s.stored s.next_session (with_marks (had_lock s) s.sessions) s.locks steady.owned;
      };
    }

-- memory goes behind numbers of a stock
pub stocked-holds : (n : ℕ) (s : State) (stock : List Number) → IsStockIn s stock → Holds n s → Holds n (stocked stock s)
stocked-holds n s stock fits h =
    let few = h.few in
    let steady = h.steady in
    record {
      few = record { sessions = few.sessions; units = few.units };
      steady = record {
        started = steady.started;
        limited = steady.limited;
        locks_fit = steady.locks_fit;
        named = steady.named;
        drawn = drawn_stocked s stock fits steady.drawn;
        marked = steady.marked;
        settled = steady.settled;
        unknown = steady.unknown;
        unfailed = steady.unfailed;
        known = steady.known;
        fresh = record { numbered = steady.fresh.numbered; ahead = steady.fresh.ahead; later = steady.fresh.later };
        places = steady.places;
        orders = steady.orders;
        owned = steady.owned;
      };
    }

-- the store fails
failing-holds : (n : ℕ) (s : State) (call : Call) (in_flight : Option Ledger) → MayCall s call → IsKnownRight s.found s.stored in_flight → Holds n s
    → Holds (n + 1) (doubted (without_stock call s) call None in_flight)
failing-holds n s call in_flight may known h =
    by_stock (λ c t. MayCall s c → Holds (n + 1) (doubted t c None in_flight)) s
    (λ name parts stock fits. doubted-holds n (stocked stock s) (OfSession name (Commits parts stock)) None in_flight known (stocked-holds n s stock fits h))
    (λ c free. doubted-holds n s c None in_flight known h) call may

failing_known : (found : Found) (s : State) (call : Call) → IsSteady s
    → IsKnownRight s.found s.stored (in_flight_after s call (call_verdict found s call))
failing_known found s call steady =
    let in_flight = in_flight_after s call (call_verdict found s call) in
    by_condition (IsKnownRight s.found s.stored in_flight) s steady
    (λ quiet. unread_known s.found s.stored in_flight quiet.found)
    (λ k down. subst (IsKnownRight s.found s.stored) (sym (in_flight_stays found s k call down)) steady.known)

-- what a state in doubt needs of what is stored, where its sessions are as they were
abbrev StoredHolds : ℕ → State → Call → Option Bool → Ledger → Type 0
StoredHolds n s call read stored = Holds n (unfiled s call read stored)

-- nothing is said of locks where there are none
owned_from : (before honest : Bool) (ledger : Ledger) (next : ℕ) (sessions : List Session) (es : List Entry) → IsOwned before ledger next sessions es
    → IsOwned honest ledger next sessions []
owned_from before honest ledger next sessions es h = record {
  known = λ t. tt;
  users = λ t. tt;
  holders = λ t. tt;
  stored_known = h.stored_known;
  stored_users = h.stored_users;
}

-- a mark stands already
filed-holds : (n : ℕ) (s t : State) (call : Call) (read : Option Bool) → known_behind s.found read ≡ None → t.sessions ≡ s.sessions
    → t.next_session ≡ s.next_session → t.ranges ≡ s.ranges → Holds n s → Holds (n + 1) t → t.mark_limit ≡ s.mark_limit → length t.orders ≡ length s.orders
    → StoredHolds (n + 1) s call read t.stored
filed-holds n s t call read unread sessions next ranges before h marks places =
    let marks = had_lock s in
    let steady = marked_steady marks t h.steady in
    let few = few_more n (with_other_marks marks s) (marked_few n marks s before.few) in
    let earlier = marked_steady marks s before.steady in
    let marked_in : List Session → List Session = λ xs. with_marks marks xs in
    record {
      few = record { sessions = few.sessions; units = few.units };
      steady = record {
        started = steady.started;
        limited = earlier.limited;
        locks_fit = earlier.locks_fit;
        named = earlier.named;
        drawn = subst (λ xs. AreDrawnRight s.ranges t.stored.levels (draws_in (marked_in xs)) (numbers_of t.stored.units t.stored.marks)) sessions
            (subst (λ rs. AreDrawnRight rs t.stored.levels (draws_in (marked_in t.sessions)) (numbers_of t.stored.units t.stored.marks)) ranges steady.drawn);
        marked = steady.marked;
        settled = tt;
        unknown = tt;
        unfailed = tt;
        known = unread_known (known_behind s.found read) t.stored s.in_flight unread;
        fresh = record {
          numbered = earlier.fresh.numbered;
          ahead = subst (λ xs. AllByRecursion (IsAhead t.stored) (marked_in xs)) sessions steady.fresh.ahead;
          later = λ session luw from. steady.fresh.later session luw (subst (λ k. k ≤ session) (sym next) from);
        };
        places = earlier.places;
        orders = tt;
        owned = owned_from (is_honest t) (is_honest s) t.stored s.next_session (marked_in s.sessions) t.locks
            (subst (λ xs. IsOwned (is_honest t) t.stored s.next_session (marked_in xs) t.locks) sessions
            (subst (λ k. IsOwned (is_honest t) t.stored k (marked_in t.sessions) t.locks) next steady.owned));
      };
    }

-- the disk of the backup file fails, where nothing was in doubt
unfiled-holds : (n : ℕ) (found : Found) (s : State) (call : Call) (read : Option Bool) → s.found ≡ None → read ≡ None → Holds n s
    → Holds (n + 1) (unfiled s call read (stored_before_file s call (call_verdict found s call)))
unfiled-holds n found s call read before none h =
    let unread : known_behind s.found read ≡ None = ap (known_behind s.found) none ∙ before in
    by_filing (StoredHolds (n + 1) s call read) found s call
    (doubted-holds n s call read s.in_flight (unread_known (known_behind s.found read) s.stored s.in_flight unread) h)
    (λ worker part unit e.
    let kind = kind_for part (found.part part unit) in
    filed-holds n s (marked part s worker unit kind) call read unread refl refl refl h
    (marked-holds n part s worker unit kind (post_commits_none part (found.part part unit)) e before h) refl (length-set s.orders worker None))
    (λ unit status can. filed-holds n s (cancelled s unit status) call read unread refl refl refl h (cancelled-holds n s unit status can before h) refl refl)

-- what is known of the change in flight behind a call
read_known : (reading : Reading) (s : State) (call : Call) → MayRead reading s call → IsKnownRight s.found s.stored s.in_flight
    → IsKnownRight (known_behind s.found (read_anew reading)) s.stored s.in_flight
read_known AsKnown s call may h = h
read_known (Shows text) s call may h = h
read_known (Reopens taken) s call may h = (may_find taken s call may).flight
read_known (Hands list) s call may h = h

failed_filing-holds : (n : ℕ) (reading : Reading) (s : State) (call : Call) → MayRead reading s call → Holds n s
    → Holds (n + 1) (unfiled s call (read_anew reading) (stored_before_file s call (call_verdict (found_by reading s) s call)))
failed_filing-holds n reading s call may h =
    let found = found_by reading s in
    let read = read_anew reading in
    let P : Call → Verdict → Type 0 = λ c v. MayRead reading s c → Holds (n + 1) (unfiled s c read (stored_before_file s c v)) in
    let left : (c : Call) → MayRead reading s c → Holds (n + 1) (unfiled s c read s.stored) =
    λ c m. doubted-holds n s c read s.in_flight (read_known reading s c m h.steady.known) h in
    by_condition (Holds (n + 1) (unfiled s call read (stored_before_file s call (call_verdict found s call)))) s h.steady
    (λ quiet.
    by_restart (λ c. P c (call_verdict found s c)) (by_anew (P (OfAdmin Restarts)) found s (λ r. left (OfAdmin Restarts)) (left (OfAdmin Restarts)))
    (λ c off m. unfiled-holds n found s c read quiet.found (reads_none reading s c off m) h) call may)
    (λ k down. by_doubt P found s k call down (λ c r. left c) (left (OfAdmin Restarts)) may)

-- ---- any event

ended-holds : (n : ℕ) (e : Event) (reading : Reading) (s : State) (call : Call) → MayCall s call → MayRead reading s call → HasSoundLocks s → HasOpenUnits s
    → OfInFlight s.in_flight (HasStateInFlight s) → Holds n s
    → Holds (n + 1) (ends_in e reading s call (call_verdict (found_by reading s) s call)).state
ended-holds n AllWell reading s call may read sound units state_in_flight h =
    let found = found_by reading s in
    verdict-holds n found s call may sound (restart_in_flight (is_taken found.anew) s sound.stored h.steady units state_in_flight)
    (list_told reading s call read) h
ended-holds n Wanting reading s call may read sound units state_in_flight h = holds_more n s h
ended-holds n StoreFails reading s call may read sound units state_in_flight h =
    failing-holds n s call _ may (failing_known (found_by reading s) s call h.steady) h
ended-holds n BackupFails reading s call may read sound units state_in_flight h = failed_filing-holds n reading s call read h
ended-holds n LinkFails reading s call may read sound units state_in_flight h = detached-holds (n + 1) s (holds_more n s h)
ended-holds n (NotRemade fault) reading s call may read sound units state_in_flight h =
    doubted-holds n s call (read_anew reading) s.in_flight (read_known reading s call read h.steady.known) h

pub served-holds : (n : ℕ) (o : DeviceOutcome) (s : State) (c : Command) → IsAllowed o s c → HasSoundLocks s → HasOpenUnits s
    → OfInFlight s.in_flight (HasStateInFlight s) → Holds n s → Holds (n + 1) (served o s c).state
served-holds n o s c allowed sound units state_in_flight h =
    let t = (ends_in o.event o.reading s (call_of c) (call_verdict (found_by o.reading s) s (call_of c))).state in
    attached-holds (n + 1) t (not o.lost && t.attached)
    (ended-holds n o.event o.reading s (call_of c) allowed.call allowed.possible.reading sound units state_in_flight h)

-- ---- the history

pub below_limit : (n : ℕ) → nat_le 262144 n ≡ false → n + 1 ≤ 262144
below_limit n h = grind (arith, nat_tests)

pub with_past : (n : ℕ) (s : State) (past : List PastEntry) → Holds n s → Holds n (record s { past = past })
with_past n s past h =
    let few = h.few in
    let steady = h.steady in
    record {
      few = record { sessions = few.sessions; units = few.units };
      steady = record {
        started = steady.started;
        limited = steady.limited;
        locks_fit = steady.locks_fit;
        named = steady.named;
        drawn = steady.drawn;
        marked = steady.marked;
        settled = steady.settled;
        unknown = steady.unknown;
        unfailed = steady.unfailed;
        known = steady.known;
        fresh = record { numbered = steady.fresh.numbered; ahead = steady.fresh.ahead; later = steady.fresh.later };
        places = steady.places;
        orders = steady.orders;
        owned = steady.owned;
      };
    }
