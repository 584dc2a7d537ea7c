-- Each call of another leaves the open unit of a session the locks that its lines asked for, or it has lost one.
use Rattle.std.proofs.Common.{◌≡◌, true≢false, ℕ, zero, suc, ◌≤◌, Bool, true, false, ◌&&◌, List, [], ◌++◌, fold, refl, sym, ap, ◌∙◌, subst, arith}
use Rattle.std.specs.Prelude.{if◌then◌else◌, Option, Some, None}
use Rattle.std.specs.Option.{option_map}
use Rattle.std.specs.Str.{bytes_eq}
use Rattle.std.proofs.lemmas.Bool.{and_from, false≢true}
use Rattle.enq_base.specs.Owners.{same_owner}
use Rattle.enq_base.specs.declared.condition.Condition.{Condition}
use Rattle.enq_base.specs.declared.condition.Condition.TheVariants as condition
use Rattle.enq_base.specs.declared.owner.Owner.{Owner}
use Rattle.enq_base.specs.declared.owner.Owner.TheVariants.{Upd}
use Rattle.enq_base.specs.declared.owner.UnitKey.{UnitKey}
use Rattle.enq_base.specs.declared.unit.Num.{Num}
use Rattle.enq_base.specs.declared.unit.Parts.{Parts}
use Rattle.enq_base.specs.declared.unit.Status.{Status}
use Rattle.enq_base.specs.declared.unit.Status.TheVariants.{Open, Posted, Bad, Closed, Bad2, Cancelled}
use Rattle.lock_entry.specs.Freeing.{freed, freed_owner}
use Rattle.lock_entry.specs.Names.{halves}
use Rattle.lock_entry.specs.declared.entry.Asked.{Asked}
use Rattle.lock_entry.specs.declared.entry.Entry.{Entry}
use Rattle.lock_entry.specs.declared.entry.Request.{Request}
use Rattle.ledger_steps.specs.Drawn.{handed_out, num_of}
use Rattle.ledger_steps.specs.Levels.{present}
use Rattle.ledger_steps.specs.Posts.{kind_for, status_for}
use Rattle.number_ranges.specs.Intervals.{is_buffered}
use Rattle.number_ranges.specs.declared.interval.Interval.{Interval}
use Rattle.hall_model.specs.declared.command.Session.{Session}
use Rattle.hall_model.specs.Calls.{Call, OfAdmin, FailsOver, call_of}
use Rattle.hall_model.specs.Devices.{MayRead, found_by}
use Rattle.hall_model.specs.History.{judged}
use Rattle.hall_model.specs.Numbers.{drawn, next_number, raised_to, stocked}
use Rattle.hall_model.specs.OpenUnits.{IsOpenOwner}
use Rattle.hall_model.specs.Orders.{order_of}
use Rattle.hall_model.specs.Sessions.{begun, bereft_if, pair_of, session_at, unit_key, with_draw, with_fresh_unit, with_mark, with_next_unit, with_session, without_draws}
use Rattle.hall_model.specs.State.{State, table_for, unhanded}
use Rattle.hall_model.specs.Step.{Found, Verdict, attached, call_verdict, cancelled, committed, detached, entered, followed_over, freed_all, has_lock, is_taken}
use Rattle.hall_model.specs.Step.{killed, locks_behind, locks_without, logged_off, lowered, marked, numbered, replica_list, restarted, rolled_back}
use Rattle.model_laws.proofs.ByCall.{OfEach, by_call}
use Rattle.model_laws.proofs.OtherStatuses.{apart_by_status, status_in}
use Rattle.model_laws.proofs.PartOrders.{held_for}
use Rattle.model_laws.proofs.Resubmissions.{table_in}
use Rattle.hall_laws.proofs.keeping.UnitsToCome.{open_unheard}
use Rattle.cover_laws.proofs.needed.HallNeeded.{IsReached, IsSure}
use Rattle.cover_laws.specs.Histories.{is_unit, resubmits}
use Rattle.cover_laws.proofs.needed.HoldingNeeded.{HoldsIn, OtherCallsHold, StandsAt}
use Rattle.cover_laws.proofs.needed.LocksNeeded.{AreExclusive, AskingLeaves, ConvertingLeaves, HandingLeaves, Holds, OthersFreeingLeaves, OwnerFreeingLeaves, often}
use Rattle.cover_laws.proofs.calls.QuietCalls.{by_quiet, by_whom, held_up, is_own}
use Rattle.cover_laws.proofs.holding.CarriedHolds.{IsBeside, holds_up, same_session, stands_beside, stands_losing, stands_marked, stands_past}
use Rattle.cover_laws.proofs.holding.GoneLocks.{has_gone, has_own, loses_none}
use Rattle.cover_laws.proofs.sessions.NamedSessions.{KeepsNames, bereft_named, found_beside, found_entered, found_left, found_mapped, name_of, updates_differ}
use Rattle.cover_laws.proofs.Lists.{mapped_from, none_from}
use Rattle.cover_laws.proofs.calls.DrawnAlone.{drawn_locks, raised_start}
use Rattle.cover_laws.proofs.holding.FailedOver.{list_found}
use Rattle.ledger_steps.specs.declared.part.Part.{Part}
use Rattle.ledger_steps.specs.Parts.{is_first}

-- ---- where there is no lock server

without_up : (k : Condition) → ((n : ℕ) → k ≡ condition.Doubt n → ⊥) → (k ≡ condition.Up → ⊥) → k ≡ condition.NoServer
without_up condition.Up sure off = absurd (off refl)
without_up condition.NoServer sure off = refl
without_up (condition.Doubt n) sure off = absurd (sure n refl)

none_up : condition.NoServer ≡ condition.Up → ⊥
none_up e = cc

-- a unit that nothing is recorded of isn't open
no_status : (o : Option Status) → o ≡ None → o ≡ Some Open → ⊥
no_status None e f = cc
no_status (Some status) e f = cc

-- none is at most any number
at_most : (m n : ℕ) → (1 ≤ m → ⊥) → m ≤ n
at_most zero n few = omega arith
at_most (suc m) n few = absurd (few (omega arith))

-- ---- locks that go with a recorded unit

freed_by_post : (part : Part) (P : List Entry → Type 0) (locks : List Entry) (unit : UnitKey) → P (freed_owner locks (Upd unit)) → P locks
    → P (locks_behind part locks unit)
freed_by_post part P locks unit p q =
    elim (is_first part) as (λ b. P (if b then freed_owner locks (Upd unit) else locks)) [ true ↦ p | false ↦ q ]

freed_by_cancel : (status : Status) (P : List Entry → Type 0) (locks : List Entry) (unit : UnitKey) → P (freed_owner locks (Upd unit)) → P locks
    → P (locks_without status locks unit)
freed_by_cancel Open P locks unit p q = p
freed_by_cancel Posted P locks unit p q = q
freed_by_cancel Bad P locks unit p q = q
freed_by_cancel Closed P locks unit p q = q
freed_by_cancel Bad2 P locks unit p q = q
freed_by_cancel Cancelled P locks unit p q = q

-- ---- all calls of others

-- what a call of another leaves, where it tries no unit again and a replica hands over the list that stood
abbrev LeavesStanding : State → Found → List ℕ → List Asked → Call → Verdict → Type 0
LeavesStanding s found name held call v =
    (call ≡ OfAdmin FailsOver → found.list ≡ s.locks) → is_own name call ≡ false
    → (resubmits call && is_unit (judged s v).reply) ≡ false → StandsAt (judged s v).state name held

module _ (asks : AskingLeaves) (frees : OthersFreeingLeaves) (ends : OwnerFreeingLeaves) (converts : ConvertingLeaves) (hands : HandingLeaves) where
  module _ (s : State) (found : Found) (name : List ℕ) (held : List Asked) (sure : IsSure s) (reached : IsReached s) (exclusive : AreExclusive held)
      (stands : StandsAt s name held) where
    -- the owner of the session's open unit
    abbrev owner_of : Session → Owner
    owner_of x = Upd (unit_key s.stored.start x)

    -- other locks, where nothing else changes for the session
    leaves_other : (t : State) → IsBeside s t name
        → ((x : Session) → session_at s.sessions name ≡ Some x → Holds s.locks (owner_of x) held → Holds t.locks (owner_of x) held) → StandsAt t name held
    leaves_other t beside moves = stands_beside s t name held beside moves stands

    beside : (t : State) → t.condition ≡ s.condition → (t.attached ≡ true → s.attached ≡ true) → t.stored.start ≡ s.stored.start
        → session_at t.sessions name ≡ session_at s.sessions name → IsBeside s t name
    beside t condition follows start same =
        record { condition = condition; follows = follows; start = start; there = same_session s t name same }

    caller_apart : (caller : List ℕ) (y : Session) → session_at s.sessions caller ≡ Some y → bytes_eq caller name ≡ false → bytes_eq y.name name ≡ false
    caller_apart caller y at other = ap (λ n. bytes_eq n name) (name_of caller s.sessions y at) ∙ other

    -- a change of it leaves the session
    caller_changed : (caller : List ℕ) (y : Session) (change : Session → Session) → KeepsNames change → session_at s.sessions caller ≡ Some y
        → bytes_eq caller name ≡ false → session_at (with_session y.name change s.sessions) name ≡ session_at s.sessions name
    caller_changed caller y change keeps at other = found_beside change keeps y.name name (caller_apart caller y at other) s.sessions

    -- the owner of its open unit is another
    caller_owner : (caller : List ℕ) (y x : Session) → session_at s.sessions caller ≡ Some y → bytes_eq caller name ≡ false
        → session_at s.sessions name ≡ Some x → same_owner (pair_of s.stored.start y).update (owner_of x) ≡ false
    caller_owner caller y x at other here =
        updates_differ s.stored.start s.next_session caller name y x s.sessions other at here reached.steady.fresh.numbered

    -- what is recorded is another unit than the open one
    recorded_apart : (unit : UnitKey) (status : Status) (x : Session) → status_in s.stored unit ≡ Some status → session_at s.sessions name ≡ Some x
        → same_owner (Upd unit) (owner_of x) ≡ false
    recorded_apart unit status x recorded here =
        apart_by_status s.stored unit (unit_key s.stored.start x) status recorded (open_unheard s name x here reached.steady.fresh)

    entered_stands : (caller user : List ℕ) → bytes_eq caller name ≡ false → StandsAt (entered s caller user) name held
    entered_stands caller user other =
        let t = entered s caller user in
        leaves_other t
        (beside t refl (λ on. on) refl (found_entered name (begun caller user s.next_session) other s.sessions)) (λ x here holds. holds)

    freed_holds : (caller : List ℕ) (y x : Session) → session_at s.sessions caller ≡ Some y → bytes_eq caller name ≡ false
        → session_at s.sessions name ≡ Some x → Holds s.locks (owner_of x) held → Holds (freed_all s y).locks (owner_of x) held
    freed_holds caller y x at other here holds =
        let pair = pair_of s.stored.start y in
        ends (freed_owner s.locks pair.dialogue) pair.update (owner_of x) held (caller_owner caller y x at other here)
        (ends s.locks pair.dialogue (owner_of x) held refl holds)

    left_stands : (caller : List ℕ) (y : Session) → session_at s.sessions caller ≡ Some y → bytes_eq caller name ≡ false
        → StandsAt (logged_off s y) name held
    left_stands caller y at other =
        let t = logged_off s y in
        leaves_other t (beside t refl (λ on. on) refl (found_left y.name name (caller_apart caller y at other) s.sessions))
        (λ x here holds. freed_holds caller y x at other here holds)

    freed_stands : (caller : List ℕ) (y : Session) → session_at s.sessions caller ≡ Some y → bytes_eq caller name ≡ false
        → StandsAt (freed_all s y) name held
    freed_stands caller y at other =
        let t = freed_all s y in
        leaves_other t (beside t refl (λ on. on) refl refl) (λ x here holds. freed_holds caller y x at other here holds)

    -- other locks alone
    locks_stand : (locks : List Entry) → ((x : Session) → session_at s.sessions name ≡ Some x → Holds s.locks (owner_of x) held → Holds locks (owner_of x) held)
        → StandsAt (record s { locks = locks }) name held
    locks_stand locks moves =
        let t : State = record s { locks = locks } in
        leaves_other t (beside t refl (λ on. on) refl refl) moves

    lowered_stands : (caller : List ℕ) (y : Session) (rs : List Request) → session_at s.sessions caller ≡ Some y → bytes_eq caller name ≡ false
        → StandsAt (lowered s y rs) name held
    lowered_stands caller y rs at other =
        let pair = pair_of s.stored.start y in
        locks_stand (fold freed s.locks (halves pair rs))
        (λ x here holds. frees s.locks pair rs (owner_of x) held refl (caller_owner caller y x at other here) holds)

    drawn_beside : (caller : List ℕ) (y : Session) (i : Interval) (number : ℕ) → session_at s.sessions caller ≡ Some y → bytes_eq caller name ≡ false
        → IsBeside s (drawn s y i number) name
    drawn_beside caller y i number at other =
        let num = num_of i number in
        let t : State = record s { sessions = with_session y.name (with_draw num) s.sessions } in
        let same = caller_changed caller y (with_draw num) (λ n z. refl) at other in
        let behind : State = record t { ranges = handed_out i t.ranges; stored = raised_to i number t.stored } in
        elim (is_buffered i) as (λ b. IsBeside s (if b then behind else t) name) [
          | true ↦ beside behind refl (λ on. on) (raised_start i number s.stored) same
          | false ↦ beside t refl (λ on. on) refl same
        ]

    drawn_stands : (caller : List ℕ) (y : Session) (i : Interval) (number : ℕ) → session_at s.sessions caller ≡ Some y → bytes_eq caller name ≡ false
        → StandsAt (drawn s y i number) name held
    drawn_stands caller y i number at other =
        leaves_other (drawn s y i number) (drawn_beside caller y i number at other)
        (λ x here holds. subst (λ es. Holds es (owner_of x) held) (sym (drawn_locks s y i number)) holds)

    reserved_stands : (i : Interval) (upto : ℕ) → StandsAt (record s { stored = raised_to i upto s.stored }) name held
    reserved_stands i upto =
        let t : State = record s { stored = raised_to i upto s.stored } in
        leaves_other t (beside t refl (λ on. on) (raised_start i upto s.stored) refl) (λ x here holds. holds)

    numbered_stands : (caller : List ℕ) (y : Session) (numbers stock : List Num) → session_at s.sessions caller ≡ Some y → bytes_eq caller name ≡ false
        → StandsAt (stocked stock (numbered s y numbers)) name held
    numbered_stands caller y numbers stock at other =
        let t = stocked stock (numbered s y numbers) in
        leaves_other t (beside t refl (λ on. on) refl (caller_changed caller y without_draws (λ n z. refl) at other)) (λ x here holds. holds)

    committed_stands : (caller : List ℕ) (y : Session) (parts : Parts) (numbers stock : List Num) → session_at s.sessions caller ≡ Some y
        → bytes_eq caller name ≡ false → StandsAt (stocked stock (committed s y parts numbers)) name held
    committed_stands caller y parts numbers stock at other =
        let t = stocked stock (committed s y parts numbers) in
        leaves_other t (beside t refl (λ on. on) refl (caller_changed caller y with_next_unit (λ n z. refl) at other))
        (λ x here holds. hands s.locks (unit_key s.stored.start y) (owner_of x) held exclusive holds)

    rolled_stands : (caller : List ℕ) (y : Session) → session_at s.sessions caller ≡ Some y → bytes_eq caller name ≡ false
        → StandsAt (rolled_back s y) name held
    rolled_stands caller y at other =
        let t = rolled_back s y in
        leaves_other t (beside t refl (λ on. on) refl (caller_changed caller y with_fresh_unit (λ n z. refl) at other))
        (λ x here holds. ends s.locks (pair_of s.stored.start y).update (owner_of x) held (caller_owner caller y x at other here) holds)

    orders_stand : (orders : List (Option UnitKey)) → StandsAt (record s { orders = orders }) name held
    orders_stand orders =
        let t : State = record s { orders = orders } in
        leaves_other t (beside t refl (λ on. on) refl refl) (λ x here holds. holds)

    posted_stands : (part : Part) (worker : ℕ) (unit : UnitKey) → status_in s.stored unit ≡ Some (status_for part)
        → StandsAt (marked part s worker unit (kind_for part (found.part part unit))) name held
    posted_stands part worker unit waits =
        let t = marked part s worker unit (kind_for part (found.part part unit)) in
        leaves_other t (beside t refl (λ on. on) refl refl)
        (λ x here holds.
        freed_by_post part (λ es. Holds es (owner_of x) held) s.locks unit
        (ends s.locks (Upd unit) (owner_of x) held (recorded_apart unit (status_for part) x waits here) holds) holds)

    cancelled_stands : (unit : UnitKey) (status : Status) → status_in s.stored unit ≡ Some status → StandsAt (cancelled s unit status) name held
    cancelled_stands unit status recorded =
        let t = cancelled s unit status in
        leaves_other t (beside t refl (λ on. on) refl refl)
        (λ x here holds.
        freed_by_cancel status (λ es. Holds es (owner_of x) held) s.locks unit
        (ends s.locks (Upd unit) (owner_of x) held (recorded_apart unit status x recorded here) holds) holds)

    -- ---- ends and beginnings of lock servers

    list_followed : s.attached ≡ true → replica_list s ≡ s.locks
    list_followed follows = ap (λ b. if b then s.locks else []) (and_from s.attached s.link_told follows reached.link_told)

    killed_holds : s.condition ≡ condition.Up → (x : Session) → session_at s.sessions name ≡ Some x → x.lost ≡ false
        → HoldsIn (killed s) (with_mark (has_lock s) x) held
    killed_holds up x here kept =
        let holds : Holds s.locks (owner_of x) held = (stands.on x here kept).up up in
        let closed : IsOpenOwner s.stored (owner_of x) → ⊥ = no_status _ (open_unheard s name x here reached.steady.fresh) in
        record {
          up = λ e. absurd (none_up e);
          copied = λ e follows. subst (λ es. Holds es (owner_of x) held) (sym (list_followed follows)) holds;
          lost = λ e a more.
              let few = holds a in
              has_own s.stored.start (unhanded s.locks) x
              (has_gone s.stored (owner_of x) a s.locks closed (held_up s reached up).handed (omega (arith, more, few)));
        }

    killed_stands : s.condition ≡ condition.Up → StandsAt (killed s) name held
    killed_stands up = stands_marked s (killed s) (has_lock s) name held refl stands (killed_holds up)

    over_stands : (list : List Entry) → s.condition ≡ condition.NoServer → s.attached ≡ true → list ≡ s.locks → StandsAt (followed_over list s) name held
    over_stands list none follows same =
        let t = followed_over list s in
        let unmarked : Session → Bool = λ x. false in
        stands_marked s t unmarked name held refl stands
        (λ x here kept.
        holds_up t (with_mark unmarked x) held refl
        (subst (λ es. Holds es (owner_of x) held) (sym same) ((stands.on x here kept).copied none follows)))

    -- while there is a lock server it keeps its table
    table_stays : s.condition ≡ condition.Up → (detached s).locks ≡ s.locks
    table_stays up = ap (λ k. (table_for k s.max_locks (record { entries = s.locks; limit = s.limit }) []).entries) up

    detached_stands : StandsAt (detached s) name held
    detached_stands = record {
      off = stands.off;
      on = λ x here kept.
          let h = stands.on x here kept in
          record {
            up = λ up. subst (λ es. Holds es (owner_of x) held) (sym (table_stays up)) (h.up up);
            copied = λ none follows. absurd (false≢true follows);
            lost = h.lost;
          };
    }

    -- a session that has lost none had none
    restarted_stands : (taken : Bool) → (s.condition ≡ condition.Up → ⊥) → StandsAt (restarted taken s) name held
    restarted_stands taken off =
        let none : s.condition ≡ condition.NoServer = without_up s.condition sure off in
        let t = restarted taken s in
        let change = bereft_if s.failed_caller in
        let mapped : session_at t.sessions name ≡ option_map change (session_at s.sessions name) =
        found_mapped change (bereft_named s.failed_caller) name s.sessions in
        record {
          off = λ e. stands.off (none_from change (session_at s.sessions name) (sym mapped ∙ e));
          on = λ y e kept.
              let x = mapped_from change (session_at s.sessions name) y (sym mapped ∙ e) in
              let spared = loses_none s.failed_caller x.0 y x.1.1 kept in
              let whole : x.0.lost ≡ false = ap (λ (z : Session). z.lost) spared.same ∙ kept in
              let was = stands.on x.0 x.1.0 whole in
              holds_up t y held refl
              (λ a. at_most (often held a) _ (λ more. spared.none (was.lost none a more)));
        }

    attached_stands : s.condition ≡ condition.Up → StandsAt (attached s) name held
    attached_stands up = record {
      off = stands.off;
      on = λ x here kept. holds_up (attached s) x held up ((stands.on x here kept).up up);
    }

    each_other : OfEach (LeavesStanding s found name held) found s
    each_other = record {
      refuses = λ call r plain told other once. stands;
      enters = λ caller user free told other once. entered_stands caller user other;
      logs_off = λ caller y at told other once. left_stands caller y at other;
      grants = λ caller y rs locks at e told other once.
          locks_stand locks (λ x here holds. asks (table_in s) (pair_of s.stored.start y) y.user rs locks (owner_of x) held e holds);
      lowers = λ caller y rs at told other once. lowered_stands caller y rs at other;
      frees = λ caller y at told other once. freed_stands caller y at other;
      converts = λ caller y wanted c at e told other once.
          locks_stand c.entries (λ x here holds. converts s.locks (pair_of s.stored.start y) wanted c (owner_of x) held e exclusive holds);
      draws = λ caller y object nr r at can told other once.
          drawn_stands caller y (present s.stored.levels r.interval) (next_number r (present s.stored.levels r.interval) y) at other;
      reserves = λ caller y object nr upto r at can told other once. reserved_stands (present s.stored.levels r.interval) upto;
      reads = λ caller y table key at told other once. stands;
      commits_nothing = λ caller y parts stock at told other once. stands;
      commits_numbers = λ caller y parts stock at told other once. numbered_stands caller y (y.draws ++ stock) stock at other;
      commits = λ caller y parts stock at told other once. committed_stands caller y parts (y.draws ++ stock) stock at other;
      rolls_back = λ caller y at told other once. rolled_stands caller y at other;
      takes = λ worker part unit free e told other once. orders_stand _;
      posts = λ worker part unit e told other once. posted_stands part worker unit (held_for part s.stored (order_of s.orders worker) unit e).1;
      drops = λ worker unit e told other once. orders_stand _;
      kills = λ up told other once. killed_stands up;
      fails_over = λ can told other once. over_stands found.list can.none can.followed (told refl);
      strays = λ first second none told other once. detached_stands;
      attaches = λ up told other once. attached_stands up;
      restarts = λ off told other once. restarted_stands (is_taken found.anew) off;
      cancels = λ unit status can told other once. cancelled_stands unit status can.recorded;
      reopens = λ unit es here stand told other once. absurd (true≢false once);
      reposts = λ unit here told other once. absurd (true≢false once);
    }

    verdict_stands : (call : Call) → LeavesStanding s found name held call (call_verdict found s call)
    verdict_stands call = by_call (LeavesStanding s found name held) found s each_other call

  pub other_calls_hold : OtherCallsHold
  other_calls_hold s m name held quiet other exclusive stands =
      let call = call_of m.call.command in
      let reading = m.outcome.reading in
      let found = found_by reading s in
      let not_its : is_own name call ≡ false = sym (by_whom s m name quiet.answer) ∙ other in
      let told : call ≡ OfAdmin FailsOver → found.list ≡ s.locks =
      λ is. list_found reading s quiet.reached.link_told (subst (MayRead reading s) is quiet.answer.allowed.possible.reading) in
      by_quiet (λ r. (resubmits call && is_unit r.reply) ≡ false → StandsAt r.state name held) s m quiet
      (λ lost done h once. stands_losing lost done name held (h once)) (λ taken r h once. stands_past r.state _ name held (h once))
      (verdict_stands s found name held quiet.sure quiet.reached exclusive stands call told not_its) (λ once. stands)
      (λ once. detached_stands s found name held quiet.sure quiet.reached exclusive stands)
      (ap (λ r. resubmits call && is_unit r) quiet.answer.reply ∙ quiet.once)
