-- Commits, orders and posts come to what their commands' verdicts say.
use Rattle.std.proofs.Common.{◌≡◌, ℕ, zero, suc, ◌+◌, ◌-◌, ◌≤◌, ◌<◌, Bool, true, false, cond, not, List, [], ◌∷◌, ◌++◌, length, drop, set, refl, sym, ap, ◌∙◌, subst, arith}
use Rattle.std.specs.Prelude.{◌&&◌, ◌||◌, IsTrue, Option, Some, None, Result, Ok, Err, IfSome, is_ok, is_some, nat_eq, nat_le, nat_lt, slice_get, if◌then◌else◌}
use Rattle.std.specs.List.{All, AllByRecursion, filter, find}
use Rattle.std.specs.Option.{option_map_or}
use Rattle.std.proofs.lemmas.Bool.Decides.{nat_tests}
use Rattle.std.proofs.lemmas.List.{length-map}
use Rattle.enq_base.specs.declared.owner.UnitKey.{UnitKey}
use Rattle.enq_base.specs.declared.refusal.Refusal.{Refusal}
use Rattle.enq_base.specs.declared.refusal.Refusal.TheVariants as refusal
use Rattle.enq_base.specs.declared.unit.Num.{Num as Number}
use Rattle.enq_base.specs.declared.unit.Parts.{Parts}
use Rattle.enq_base.specs.declared.unit.Status.{Status}
use Rattle.enq_base.specs.declared.unit.Status.TheVariants.{Bad, Bad2}
use Rattle.lock_entry.specs.declared.entry.Entry.{Entry}
use Rattle.enq_base.specs.declared.owner.Owner.TheVariants.{Upd}
use Rattle.lock_entry.specs.Freeing.{freed_owner, handed_over}
use Rattle.lock_laws.proofs.Frees.{IsTable-filter, IsTable-handed_over}
use Rattle.lock_entry.specs.Granting.{readmitted}
use Rattle.lock_entry.specs.Names.{is_of}
use Rattle.lock_entry.specs.Table.{IsFaultOf, IsTable, Table, with_entries}
use Rattle.lock_entry.specs.declared.fault.AskFault.{AskFault}
use Rattle.lock_entry.specs.declared.fault.AskFault.TheVariants as fault
use Rattle.module_effects.specs.Rows.{Tables}
use Rattle.module_effects.specs.declared.fault.EffectFault.{EffectFault}
use Rattle.module_effects.specs.declared.fault.EffectFault.TheVariants as effect
use Rattle.keeper_api.specs.Rows.{Rows}
use Rattle.ledger_steps.specs.Intervals.{with_intervals}
use Rattle.ledger_steps.specs.Posts.{entries_of, kind_for}
use Rattle.ledger_steps.specs.Steps.{IsNewUnit, IsOutcome, at_place}
use Rattle.ledger_steps.specs.declared.step.Outcome.{Outcome}
use Rattle.ledger_steps.specs.Drawn.{passed, settled_rows}
use Rattle.ledger_steps.specs.declared.range.NumberRange.{NumberRange}
use Rattle.update_records.specs.Grammar.{HasDigits}
use Rattle.update_records.specs.Growing.{with_mark, with_unit}
use Rattle.update_records.specs.Ledger.{Ledger}
use Rattle.update_records.specs.declared.records.MarkKind.TheVariants.{Again1, Again2, Gone, Num}
use Rattle.update_records.specs.declared.records.Unit.{Unit as UnitOfWork}
use Rattle.update_records.specs.declared.stored.StoredInterval.{StoredInterval}
use Rattle.hall_model.specs.declared.command.Command.{Command}
use Rattle.hall_model.specs.declared.command.Command.TheVariants as command
use Rattle.hall_model.specs.declared.command.Reply.{Reply}
use Rattle.hall_model.specs.declared.command.Reply.TheVariants as reply
use Rattle.hall_model.specs.declared.command.Session.{Session}
use Rattle.hall_model.specs.Acts.{Admits, IsAct}
use Rattle.hall_calls.specs.Written.{locks_posted}
use Rattle.hall_model.specs.Calls.{OfAdmin, OfSession, OfWorker, Cancels, Commits, Posts, Reads, Resubmits, call_of, only_reads, post_of, writes_store_first}
use Rattle.hall_model.specs.Devices.{AllWell, BackupFails, IsTold, MayBeDone, Shows, StoreFails, all_well, found_by, may_want, only, uses_file, uses_store}
use Rattle.hall_model.specs.OpenUnits.{waits_with_locks}
use Rattle.enq_server.specs.Server.{lasting, with_user}
use Rattle.enq_base.specs.declared.unit.Status.TheVariants as status
use Rattle.update_records.specs.Marks.{has_status, status_of}
use Rattle.model_laws.proofs.Resubmissions.{can_be_tried}
use Rattle.std.proofs.lemmas.Bool.{and_from}
use Rattle.hall_model.specs.Coming.{outcome_in, outcome_of}
use Rattle.hall_model.specs.History.{doubted, in_flight_after, judged, refused, stored_before_file, unfiled, without_stock}
use Rattle.hall_model.specs.Kept.{IsAhead}
use Rattle.hall_model.specs.Orders.{first_unclaimed, is_claimed, order_for, order_of}
use Rattle.hall_model.specs.Sessions.{is_called, owners_of, session_at, unit_key, with_next_unit, with_session, without_draws}
use Rattle.hall_model.specs.Numbers.{stocked, with_numbers}
use Rattle.hall_model.specs.State.{State}
use Rattle.hall_model.specs.Step.{Found, Verdict, Refuses, Leaves, ask_refusal, call_verdict, called, cancel, cancelled, cancelling, commit, committed}
use Rattle.hall_model.specs.Step.{effects_in, found_in, leaves, locks_behind, locks_without, marked, numbered, own_verdict, passing, posted_reply, posting}
use Rattle.hall_model.specs.Step.{reopened, reopening, reposted, resubmit, resubmitting, row_in, to_cancel, to_resubmit, unit_of, with_room}
use Rattle.hall_calls.proofs.verdicts.EachCall.{admitted, at_state, fails, fails_filing, found_at, is_done, is_wanting, leaves_as, refuses}
use Rattle.model_laws.proofs.FoundSessions.{found_in as found_all_in}
use Rattle.model_laws.proofs.HandedLocks.{all_held, handed_good}
use Rattle.ledger_steps.specs.declared.part.Part.{Part}
use Rattle.ledger_steps.specs.Parts.{is_first}
use Rattle.model_laws.proofs.PartOrders.{post_is}

-- ---- orders

find_step : {X : Type 0} (p : X → Bool) (xs : List X) (k : ℕ) (x : X) → slice_get xs k ≡ Some x
    → find p (drop k xs) ≡ cond (p x) (Some x) (find p (drop (suc k) xs))
find_step p [] k x h = cc
find_step p (y ∷ xs) zero x h = let same : y ≡ x = cc in ap (λ z. cond (p z) (Some z) (find p xs)) same
find_step p (y ∷ xs) (suc k) x h = find_step p xs k x h

find_end : {X : Type 0} (p : X → Bool) (xs : List X) (k : ℕ) → slice_get xs k ≡ None → find p (drop k xs) ≡ None
find_end p [] zero h = refl
find_end p [] (suc k) h = refl
find_end p (y ∷ xs) zero h = cc
find_end p (y ∷ xs) (suc k) h = find_end p xs k h

not_first : (k : ℕ) → nat_eq (k + 1) 0 ≡ false
not_first k = grind (arith, nat_tests)

before_next : (k : ℕ) → k + 1 - 1 ≡ k
before_next k = omega arith

pub at_next : {X : Type 0} (xs : List X) (k : ℕ) → at_place (k + 1) xs ≡ slice_get xs k
at_next xs k = ap (λ b. if b then None else slice_get xs (k + 1 - 1)) (not_first k) ∙ ap (slice_get xs) (before_next k)

-- from this place on
abbrev pub FindsFrom : List (Option UnitKey) → List UnitKey → ℕ → Type 0
FindsFrom orders units k = first_unclaimed orders (drop k units) ≡ first_unclaimed orders units

pub found_here : (orders : List (Option UnitKey)) (units : List UnitKey) (k : ℕ) (unit : UnitKey) → FindsFrom orders units k → slice_get units k ≡ Some unit
    → is_claimed orders unit ≡ false → Some unit ≡ first_unclaimed orders units
found_here orders units k unit from here free =
    sym (find_step (λ u. not (is_claimed orders u)) units k unit here ∙ ap
    (λ b. cond (not b) (Some unit) (find (λ u. not (is_claimed orders u)) (drop (suc k) units))) free) ∙ from

suc_next : (k : ℕ) → suc k ≡ k + 1
suc_next k = omega arith

pub claimed_here : (orders : List (Option UnitKey)) (units : List UnitKey) (k : ℕ) (unit : UnitKey) → FindsFrom orders units k → slice_get units k ≡ Some unit
    → is_claimed orders unit ≡ true → FindsFrom orders units (k + 1)
claimed_here orders units k unit from here claimed =
    subst (FindsFrom orders units) (suc_next k)
    (sym (find_step (λ u. not (is_claimed orders u)) units k unit here ∙ ap
    (λ b. cond (not b) (Some unit) (find (λ u. not (is_claimed orders u)) (drop (suc k) units))) claimed) ∙ from)

pub none_here : (orders : List (Option UnitKey)) (units : List UnitKey) (k : ℕ) → FindsFrom orders units k → slice_get units k ≡ None
    → None ≡ first_unclaimed orders units
none_here orders units k from here = sym (find_end (λ u. not (is_claimed orders u)) units k here) ∙ from

ordered : (s : State) (orders : List (Option UnitKey)) (worker : ℕ) (o : Option UnitKey) → s.orders ≡ orders → order_of orders worker ≡ o
    → order_of s.orders worker ≡ o
ordered s orders worker o e f = ap (λ xs. order_of xs worker) e ∙ f

pub drops_none : (s : State) (orders : List (Option UnitKey)) (worker : ℕ) → s.orders ≡ orders → Admits s (command.DropOrder worker)
    → order_of orders worker ≡ None → IsAct s (command.DropOrder worker) (record s { orders = orders }) (reply.Refused refusal.NoOrder)
drops_none s orders worker e room none =
    at_state _ _ s _ _ (λ i. record s { orders = e i })
    (refuses s (command.DropOrder worker) refusal.NoOrder room
    (ap (λ o. elim o [ None ↦ Refuses refusal.NoOrder | Some unit ↦ Leaves (record s { orders = set s.orders worker None }) (reply.Unit unit) ])
    (ordered s orders worker None e none)))

pub drops : (s : State) (orders after : List (Option UnitKey)) (worker : ℕ) (unit : UnitKey) → s.orders ≡ orders → Admits s (command.DropOrder worker)
    → order_of orders worker ≡ Some unit → after ≡ set orders worker None → IsAct s (command.DropOrder worker) (record s { orders = after }) (reply.Unit unit)
drops s orders after worker unit e room found is =
    let e' : set s.orders worker None ≡ after = ap (λ xs. set xs worker None) e ∙ sym is in
    at_state _ _ _ _ _ (λ i. record s { orders = e' i })
    (leaves_as s (command.DropOrder worker) (record s { orders = set s.orders worker None }) (reply.Unit unit) tt room
    (ap (λ o. elim o [ None ↦ Refuses refusal.NoOrder | Some u ↦ Leaves (record s { orders = set s.orders worker None }) (reply.Unit u) ])
    (ordered s orders worker (Some unit) e found)))

-- ---- room for one more mark

-- whether the store has as many marks as it may
abbrev pub is_store_full : State → Bool
is_store_full s = nat_le s.mark_limit (length s.stored.marks)

-- what a call tells of its store
pub full_as : (s : State) (limit : ℕ) (ledger : Ledger) (full : Bool) → s.mark_limit ≡ limit → s.stored ≡ ledger → nat_le limit (length ledger.marks) ≡ full
    → is_store_full s ≡ full
full_as s limit ledger full m g h = (λ i. nat_le (m i) (length (g i).marks)) ∙ h

not_reached : (limit n : ℕ) → nat_le limit n ≡ false → n < limit
not_reached limit n h = grind (arith, nat_tests)

-- below its limit a store has room by the books' own limit
pub below_limit : (limit n : ℕ) → nat_le limit n ≡ false → limit ≤ 1048576 → n < 1048576
below_limit limit n h k = omega (arith, k, not_reached limit n h)

pub fits : (s : State) (v : Verdict) → is_store_full s ≡ false → with_room s v ≡ v
fits s v h = ap (λ b. if b then Refuses (refusal.StoreFull s.mark_limit) else v) h

overflows : (s : State) (v : Verdict) → is_store_full s ≡ true → with_room s v ≡ Refuses (refusal.StoreFull s.mark_limit)
overflows s v h = ap (λ b. if b then Refuses (refusal.StoreFull s.mark_limit) else v) h

-- ---- posts

abbrev pub Posting : Part → State → ℕ → (Part → UnitKey → Outcome) → Option UnitKey → Verdict
Posting part s worker come o = elim o [ None ↦ Refuses refusal.NoOrder | Some unit ↦ with_room s (posting part s worker unit (come part unit)) ]

held : (part : Part) (s : State) (ledger : Ledger) (orders : List (Option UnitKey)) (worker : ℕ) (o : Option UnitKey) → s.stored ≡ ledger → s.orders ≡ orders
    → order_for part ledger orders worker ≡ o → order_for part s.stored s.orders worker ≡ o
held part s ledger orders worker o g e f = (λ i. order_for part (g i) (e i) worker) ∙ f

pub own_post : (part : Part) (c : Command) (found : Found) (s : State) (worker : ℕ) (o : Option UnitKey) → call_of c ≡ OfWorker worker (Posts part)
    → order_for part s.stored s.orders worker ≡ o → own_verdict found s (call_of c) ≡ Posting part s worker found.part o
own_post part c found s worker o posts at = ap (own_verdict found s) posts ∙ ap (Posting part s worker found.part) at

-- what a post leaves of the locks where it is refused, and where it is done
stay : (b : Bool) (before entries : List Entry) → (b ≡ true → before ≡ entries) → before ≡ (if b then entries else before)
stay true before entries f = f refl
stay false before entries f = refl

locks_stay : (part : Part) (before entries : List Entry) → (is_first part ≡ true → before ≡ entries) → before ≡ locks_posted part before entries
locks_stay part before entries f = stay (is_first part) before entries f

locks_go : (b : Bool) (before entries left : List Entry) (unit : UnitKey) → (b ≡ true → before ≡ entries)
    → left ≡ (if b then freed_owner entries (Upd unit) else entries) → (if b then freed_owner before (Upd unit) else before) ≡ (if b then left else before)
locks_go true before entries left unit f is = ap (λ xs. freed_owner xs (Upd unit)) (f refl) ∙ sym is
locks_go false before entries left unit f is = refl

pub posts_none : (part : Part) (s : State) (orders : List (Option UnitKey)) (entries : List Entry) (ledger : Ledger) (worker : ℕ) → s.orders ≡ orders
    → (is_first part ≡ true → s.locks ≡ entries) → s.stored ≡ ledger → Admits s (post_of part worker) → order_for part ledger orders worker ≡ None
    → IsAct s (post_of part worker) (record s { orders = orders; locks = locks_posted part s.locks entries; stored = ledger }) (reply.Refused refusal.NoOrder)
posts_none part s orders entries ledger worker e f g room none =
    let c = post_of part worker in
    at_state _ _ s _ _ (λ i. record s { orders = e i; locks = locks_stay part s.locks entries f i; stored = g i })
    (refuses s c refusal.NoOrder room
    (own_post part c (found_in s) s worker None (post_is part worker) (held part s ledger orders worker None g e none)))

pub posts_full : (part : Part) (s : State) (orders : List (Option UnitKey)) (entries : List Entry) (ledger : Ledger) (limit worker : ℕ) (unit : UnitKey)
    → s.orders ≡ orders → (is_first part ≡ true → s.locks ≡ entries) → s.stored ≡ ledger → s.mark_limit ≡ limit → Admits s (post_of part worker)
    → order_for part ledger orders worker ≡ Some unit → nat_le limit (length ledger.marks) ≡ true
    → IsAct s (post_of part worker) (record s { orders = orders; locks = locks_posted part s.locks entries; stored = ledger })
    (reply.Refused (refusal.StoreFull limit))
posts_full part s orders entries ledger limit worker unit e f g m room found full =
    let c = post_of part worker in
    subst (λ n. IsAct s c (record s { orders = orders; locks = locks_posted part s.locks entries; stored = ledger }) (reply.Refused (refusal.StoreFull n))) m
    (at_state _ _ s _ _ (λ i. record s { orders = e i; locks = locks_stay part s.locks entries f i; stored = g i })
    (refuses s c (refusal.StoreFull s.mark_limit) room
    (own_post part c (found_in s) s worker (Some unit) (post_is part worker) (held part s ledger orders worker (Some unit) g e found)
    ∙ overflows s _ (full_as s limit ledger true m g full))))

-- a part that comes to this
pub comes : (part : Part) (c : Command) (s : State) (worker : ℕ) (unit : UnitKey) (o : Outcome) → call_of c ≡ OfWorker worker (Posts part) → Admits s c
    → order_for part s.stored s.orders worker ≡ Some unit → is_store_full s ≡ false → o ≡ outcome_in s.stored part unit
    → IsAct s c (marked part s worker unit (kind_for part o)) (posted_reply part unit o)
comes part c s worker unit o posts room at space out =
    subst (λ x. IsAct s c (marked part s worker unit (kind_for part x)) (posted_reply part unit x)) (sym out)
    (record {
      outcome = all_well;
      possible = record {
        reading = tt;
        event = subst (λ call. MayBeDone call (call_verdict (found_in s) s (call_of c))) (sym posts) tt;
        lost = tt;
      };
      same = ap (judged s) (admitted (found_in s) s c room ∙ own_post part c (found_in s) s worker (Some unit) posts at ∙ fits s _ space);
    })

pub posts : (part : Part) (s : State) (orders after : List (Option UnitKey)) (entries left : List Entry) (ledger new : Ledger) (limit worker : ℕ)
    (unit : UnitKey) (o : Outcome) → s.orders ≡ orders → (is_first part ≡ true → s.locks ≡ entries) → s.stored ≡ ledger
    → s.mark_limit ≡ limit → Admits s (post_of part worker) → order_for part ledger orders worker ≡ Some unit → nat_le limit (length ledger.marks) ≡ false
    → o ≡ outcome_in ledger part unit → after ≡ set orders worker None → left ≡ locks_behind part entries unit
    → new ≡ with_mark ledger unit (kind_for part o)
    → IsAct s (post_of part worker) (record s { orders = after; locks = locks_posted part s.locks left; stored = new }) (posted_reply part unit o)
posts part s orders after entries left ledger new limit worker unit o e f g m room found space may a b c =
    let e' : set s.orders worker None ≡ after = ap (λ xs. set xs worker None) e ∙ sym a in
    let f' : locks_behind part s.locks unit ≡ locks_posted part s.locks left = locks_go (is_first part) s.locks entries left unit f b in
    let g' : with_mark s.stored unit (kind_for part o) ≡ new = ap (λ l. with_mark l unit (kind_for part o)) g ∙ sym c in
    at_state _ _ (marked part s worker unit (kind_for part o)) _ _ (λ i. record s { orders = e' i; locks = f' i; stored = g' i })
    (comes part (post_of part worker) s worker unit o (post_is part worker) room (held part s ledger orders worker (Some unit) g e found)
    (full_as s limit ledger false m g space) (may ∙ ap (λ (l : Ledger). outcome_in l part unit) (sym g)))

-- what the books make ready is what the part comes to
pub outcome_is : (r : Result Tables EffectFault) (o : Outcome) → IsOutcome r o → o ≡ outcome_of r
outcome_is (Ok tables) o h = h
outcome_is (Err (effect.Refused index reason)) o h = h
outcome_is (Err effect.NoMemory) o h = absurd h

-- the store fails behind what a part came to
failed_post : (part : Part) (c : Command) (s : State) (worker : ℕ) (unit : UnitKey) (o : Outcome) → call_of c ≡ OfWorker worker (Posts part) → Admits s c
    → order_for part s.stored s.orders worker ≡ Some unit → is_store_full s ≡ false → o ≡ outcome_in s.stored part unit
    → IsAct s c (doubted (without_stock (call_of c) s) (call_of c) None (Some (with_mark s.stored unit (kind_for part o)))) (reply.Refused refusal.StoreFault)
failed_post part c s worker unit o posts room at space out =
    let v = admitted (found_in s) s c room ∙ own_post part c (found_in s) s worker (Some unit) posts at ∙ fits s _ space in
    let call = call_of c in
    let given : Outcome = outcome_in s.stored part unit in
    subst (λ x. IsAct s c (doubted (without_stock call s) call None (Some (with_mark s.stored unit (kind_for part x)))) (reply.Refused refusal.StoreFault))
    (sym out)
    (record {
      outcome = only StoreFails;
      possible = record { reading = tt; event = (ap leaves v, ap (uses_store s) posts); lost = tt };
      same = ap (λ w. refused (doubted (without_stock call s) call None (in_flight_after s call w)) refusal.StoreFault) v
          ∙ ap (λ b. refused (doubted (without_stock call s) call None (if b then s.in_flight else Some (with_mark s.stored unit (kind_for part given))))
          refusal.StoreFault)
          (λ i. only_reads (posts i));
    })

pub posts_in_doubt : (part : Part) (s : State) (orders : List (Option UnitKey)) (ledger : Ledger) (limit worker : ℕ) (unit : UnitKey) (o : Outcome)
    → s.orders ≡ orders → s.stored ≡ ledger → s.mark_limit ≡ limit → Admits s (post_of part worker)
    → order_for part ledger orders worker ≡ Some unit → nat_le limit (length ledger.marks) ≡ false → o ≡ outcome_in ledger part unit
    → IsAct s (post_of part worker)
    (doubted (without_stock (call_of (post_of part worker)) s) (call_of (post_of part worker)) None (Some (with_mark s.stored unit (kind_for part o))))
    (reply.Refused refusal.StoreFault)
posts_in_doubt part s orders ledger limit worker unit o e g m room found space may =
    failed_post part (post_of part worker) s worker unit o (post_is part worker) room (held part s ledger orders worker (Some unit) g e found)
    (full_as s limit ledger false m g space) (may ∙ ap (λ (l : Ledger). outcome_in l part unit) (sym g))

-- the disk fails behind the mark of a V1 part that comes to this, of a unit whose list stood in the file
unfiled_post : (part : Part) (c : Command) (s : State) (worker : ℕ) (unit : UnitKey) (o : Outcome) → call_of c ≡ OfWorker worker (Posts part)
    → (is_first part && waits_with_locks s.stored unit) ≡ true → Admits s c → order_for part s.stored s.orders worker ≡ Some unit → is_store_full s ≡ false
    → o ≡ outcome_in s.stored part unit
    → IsAct s c (unfiled s (call_of c) None (with_mark s.stored unit (kind_for part o))) (reply.Refused refusal.BackupFault)
unfiled_post part c s worker unit o posts listed room at space out =
    let v = admitted (found_in s) s c room ∙ own_post part c (found_in s) s worker (Some unit) posts at ∙ fits s _ space in
    let given : Outcome = outcome_in s.stored part unit in
    subst (λ x. IsAct s c (unfiled s (call_of c) None (with_mark s.stored unit (kind_for part x))) (reply.Refused refusal.BackupFault)) (sym out)
    (record {
      outcome = only BackupFails;
      possible = record {
        reading = tt;
        event = (ap leaves v, ap (uses_file s) posts ∙ ap (λ x. is_first part && option_map_or (waits_with_locks s.stored) x false) at ∙ listed);
        lost = tt;
      };
      same = ap (λ w. refused (unfiled s (call_of c) None (stored_before_file s (call_of c) w)) refusal.BackupFault) v
          ∙ ap (λ b. refused (unfiled s (call_of c) None (if b then with_mark s.stored unit (kind_for part given) else s.stored)) refusal.BackupFault)
          (ap writes_store_first posts);
    })

pub posts_unfiled : (part : Part) (s : State) (orders : List (Option UnitKey)) (ledger new : Ledger) (limit worker : ℕ) (unit : UnitKey)
    (o : Outcome) → (is_first part && waits_with_locks ledger unit) ≡ true → s.orders ≡ orders → s.stored ≡ ledger
    → s.mark_limit ≡ limit → Admits s (post_of part worker) → order_for part ledger orders worker ≡ Some unit → nat_le limit (length ledger.marks) ≡ false
    → o ≡ outcome_in ledger part unit → new ≡ with_mark ledger unit (kind_for part o)
    → IsAct s (post_of part worker) (unfiled s (call_of (post_of part worker)) None new) (reply.Refused refusal.BackupFault)
posts_unfiled part s orders ledger new limit worker unit o listed e g m room found space may c =
    let g' : with_mark s.stored unit (kind_for part o) ≡ new = ap (λ l. with_mark l unit (kind_for part o)) g ∙ sym c in
    subst (λ l. IsAct s (post_of part worker) (unfiled s (call_of (post_of part worker)) None l) (reply.Refused refusal.BackupFault)) g'
    (unfiled_post part (post_of part worker) s worker unit o (post_is part worker) (ap (λ l. is_first part && waits_with_locks l unit) g ∙ listed) room
    (held part s ledger orders worker (Some unit) g e found) (full_as s limit ledger false m g space)
    (may ∙ ap (λ (l : Ledger). outcome_in l part unit) (sym g)))

pub posts_wanting : (part : Part) (s : State) (orders : List (Option UnitKey)) (entries : List Entry) (ledger new : Ledger) (worker : ℕ) (unit : UnitKey)
    → s.orders ≡ orders → (is_first part ≡ true → s.locks ≡ entries) → s.stored ≡ ledger → new ≡ ledger → Admits s (post_of part worker)
    → order_for part ledger orders worker ≡ Some unit → IsAct s (post_of part worker)
    (record s { orders = orders; locks = locks_posted part s.locks entries; stored = new }) (reply.Refused refusal.NoMemory)
posts_wanting part s orders entries ledger new worker unit e f g kept room found =
    let g' : s.stored ≡ new = g ∙ sym kept in
    let by = post_is part worker in
    at_state _ _ s _ _ (λ i. record s { orders = e i; locks = locks_stay part s.locks entries f i; stored = g' i })
    (is_wanting s (post_of part worker) room.served (ap (may_want s _) by ∙ ap is_some (held part s ledger orders worker (Some unit) g e found)))

-- ---- cancelling

own_cancel : (s : State) (orders : List (Option UnitKey)) (ledger : Ledger) (limit : ℕ) (unit : UnitKey) (r : Result Status Refusal) → s.orders ≡ orders
    → s.stored ≡ ledger → s.mark_limit ≡ limit → to_cancel ledger orders limit unit ≡ r → cancel s unit ≡ cancelling s unit r
own_cancel s orders ledger limit unit r e g m h =
    (λ i. cancelling s unit (to_cancel (g i) (e i) (m i) unit)) ∙ ap (cancelling s unit) h

pub cancels_not : (s : State) (orders : List (Option UnitKey)) (entries : List Entry) (ledger : Ledger) (limit : ℕ) (unit : UnitKey) (r : Refusal)
    → s.orders ≡ orders → s.locks ≡ entries → s.stored ≡ ledger → s.mark_limit ≡ limit → Admits s (command.Cancel unit)
    → to_cancel ledger orders limit unit ≡ Err r → IsAct s (command.Cancel unit) (record s { locks = entries; stored = ledger }) (reply.Refused r)
cancels_not s orders entries ledger limit unit r e f g m room h =
    at_state _ _ s _ _ (λ i. record s { locks = f i; stored = g i })
    (refuses s (command.Cancel unit) r room (own_cancel s orders ledger limit unit (Err r) e g m h))

pub cancels_wanting : (s : State) (orders : List (Option UnitKey)) (entries : List Entry) (ledger new : Ledger) (limit : ℕ) (unit : UnitKey) (status : Status)
    → s.orders ≡ orders → s.locks ≡ entries → s.stored ≡ ledger → s.mark_limit ≡ limit → Admits s (command.Cancel unit)
    → to_cancel ledger orders limit unit ≡ Ok status → new ≡ ledger → IsAct s (command.Cancel unit) (record s { locks = entries; stored = new })
    (reply.Refused refusal.NoMemory)
cancels_wanting s orders entries ledger new limit unit status e f g m room h kept =
    let g' : s.stored ≡ new = g ∙ sym kept in
    at_state _ _ s _ _ (λ i. record s { locks = f i; stored = g' i })
    (is_wanting s (command.Cancel unit) room.served
    (ap leaves (admitted (found_in s) s (command.Cancel unit) room ∙ own_cancel s orders ledger limit unit (Ok status) e g m h)))

pub cancels : (s : State) (orders : List (Option UnitKey)) (entries left : List Entry) (ledger new : Ledger) (limit : ℕ) (unit : UnitKey) (status : Status)
    → s.orders ≡ orders → s.locks ≡ entries → s.stored ≡ ledger → s.mark_limit ≡ limit → Admits s (command.Cancel unit)
    → to_cancel ledger orders limit unit ≡ Ok status → left ≡ locks_without status entries unit → new ≡ with_mark ledger unit Gone
    → IsAct s (command.Cancel unit) (record s { locks = left; stored = new }) (reply.Unit unit)
cancels s orders entries left ledger new limit unit status e f g m room h a b =
    let f' : locks_without status s.locks unit ≡ left = ap (λ xs. locks_without status xs unit) f ∙ sym a in
    let g' : with_mark s.stored unit Gone ≡ new = ap (λ l. with_mark l unit Gone) g ∙ sym b in
    at_state _ _ (cancelled s unit status) _ _ (λ i. record s { locks = f' i; stored = g' i })
    (leaves_as s (command.Cancel unit) (cancelled s unit status) (reply.Unit unit) tt room (own_cancel s orders ledger limit unit (Ok status) e g m h))

pub cancels_in_doubt : (s : State) (orders : List (Option UnitKey)) (ledger : Ledger) (limit : ℕ) (unit : UnitKey) (status : Status) → s.orders ≡ orders
    → s.stored ≡ ledger → s.mark_limit ≡ limit → Admits s (command.Cancel unit) → to_cancel ledger orders limit unit ≡ Ok status
    → IsAct s (command.Cancel unit) (doubted s (OfAdmin (Cancels unit)) None (Some (with_mark s.stored unit Gone))) (reply.Refused refusal.StoreFault)
cancels_in_doubt s orders ledger limit unit status e g m room h =
    fails s (command.Cancel unit) (cancelled s unit status) (reply.Unit unit) room (own_cancel s orders ledger limit unit (Ok status) e g m h) refl refl

pub cancels_unfiled : (s : State) (orders : List (Option UnitKey)) (ledger new : Ledger) (limit : ℕ) (unit : UnitKey) (found : Status) → s.orders ≡ orders
    → s.stored ≡ ledger → s.mark_limit ≡ limit → Admits s (command.Cancel unit) → to_cancel ledger orders limit unit ≡ Ok found
    → waits_with_locks ledger unit ≡ true → new ≡ with_mark ledger unit Gone
    → IsAct s (command.Cancel unit) (unfiled s (call_of (command.Cancel unit)) None new) (reply.Refused refusal.BackupFault)
cancels_unfiled s orders ledger new limit unit found e g m room h waits b =
    subst (λ l. IsAct s (command.Cancel unit) (unfiled s (call_of (command.Cancel unit)) None l) (reply.Refused refusal.BackupFault))
    (ap (λ l. with_mark l unit Gone) g ∙ sym b)
    (fails_filing s (command.Cancel unit) (cancelled s unit found) (reply.Unit unit) room (own_cancel s orders ledger limit unit (Ok found) e g m h)
    (ap (λ l. waits_with_locks l unit) g ∙ waits))

-- ---- trying again

own_resubmit : (s : State) (ledger : Ledger) (limit : ℕ) (unit : UnitKey) (r : Result Status Refusal) → s.stored ≡ ledger → s.mark_limit ≡ limit
    → to_resubmit ledger limit unit ≡ r → resubmit s unit ≡ resubmitting s unit r
own_resubmit s ledger limit unit r g m h = (λ i. resubmitting s unit (to_resubmit (g i) (m i) unit)) ∙ ap (resubmitting s unit) h

pub resubmits_not : (s : State) (entries : List Entry) (ledger : Ledger) (limit : ℕ) (unit : UnitKey) (r : Refusal) → s.locks ≡ entries → s.stored ≡ ledger
    → s.mark_limit ≡ limit → Admits s (command.Resubmit unit) → to_resubmit ledger limit unit ≡ Err r
    → IsAct s (command.Resubmit unit) (record s { locks = entries; stored = ledger }) (reply.Refused r)
resubmits_not s entries ledger limit unit r f g m room h =
    at_state _ _ s _ _ (λ i. record s { locks = f i; stored = g i })
    (refuses s (command.Resubmit unit) r room (own_resubmit s ledger limit unit (Err r) g m h))

pub resubmits_wanting : (s : State) (entries : List Entry) (ledger new : Ledger) (limit : ℕ) (unit : UnitKey) (status : Status) → s.locks ≡ entries
    → s.stored ≡ ledger → s.mark_limit ≡ limit → Admits s (command.Resubmit unit) → to_resubmit ledger limit unit ≡ Ok status → new ≡ ledger
    → IsAct s (command.Resubmit unit) (record s { locks = entries; stored = new }) (reply.Refused refusal.NoMemory)
resubmits_wanting s entries ledger new limit unit status f g m room h kept =
    let g' : s.stored ≡ new = g ∙ sym kept in
    at_state _ _ s _ _ (λ i. record s { locks = f i; stored = g' i })
    (is_wanting s (command.Resubmit unit) room.served (ap is_ok ((λ i. to_resubmit (g i) (m i) unit) ∙ h)))

pub reposts : (s : State) (entries : List Entry) (ledger new : Ledger) (limit : ℕ) (unit : UnitKey) → s.locks ≡ entries → s.stored ≡ ledger
    → s.mark_limit ≡ limit → Admits s (command.Resubmit unit) → to_resubmit ledger limit unit ≡ Ok Bad2 → new ≡ with_mark ledger unit Again2
    → IsAct s (command.Resubmit unit) (record s { locks = entries; stored = new }) (reply.Unit unit)
reposts s entries ledger new limit unit f g m room h b =
    let g' : with_mark s.stored unit Again2 ≡ new = ap (λ l. with_mark l unit Again2) g ∙ sym b in
    at_state _ _ (reposted s unit) _ _ (λ i. record s { locks = f i; stored = g' i })
    (leaves_as s (command.Resubmit unit) (reposted s unit) (reply.Unit unit) tt room (own_resubmit s ledger limit unit (Ok Bad2) g m h))

pub reposts_in_doubt : (s : State) (ledger : Ledger) (limit : ℕ) (unit : UnitKey) → s.stored ≡ ledger → s.mark_limit ≡ limit → Admits s (command.Resubmit unit)
    → to_resubmit ledger limit unit ≡ Ok Bad2 → IsAct s (command.Resubmit unit)
    (doubted s (OfAdmin (Resubmits unit)) None (Some (with_mark s.stored unit Again2))) (reply.Refused refusal.StoreFault)
reposts_in_doubt s ledger limit unit g m room h =
    fails s (command.Resubmit unit) (reposted s unit) (reply.Unit unit) room (own_resubmit s ledger limit unit (Ok Bad2) g m h) refl refl

own_reopen : (s : State) (t : Table) (ledger : Ledger) (limit : ℕ) (unit : UnitKey) (answer : Result (List Entry) AskFault) → s.locks ≡ t.entries
    → s.limit ≡ t.limit → s.stored ≡ ledger → s.mark_limit ≡ limit → to_resubmit ledger limit unit ≡ Ok Bad
    → readmitted t (owners_of unit) (entries_of ledger.units unit) ≡ answer → resubmit s unit ≡ reopening s unit answer
own_reopen s t ledger limit unit answer f l g m h e =
    own_resubmit s ledger limit unit (Ok Bad) g m h
    ∙ (λ i. reopening s unit (readmitted (record { entries = f i; limit = l i }) (owners_of unit) (entries_of (g i).units unit)))
    ∙ ap (reopening s unit) e

pub reopens : (s : State) (t : Table) (ledger new : Ledger) (limit : ℕ) (unit : UnitKey) (left : List Entry) → s.locks ≡ t.entries → s.limit ≡ t.limit
    → s.stored ≡ ledger → s.mark_limit ≡ limit → Admits s (command.Resubmit unit) → to_resubmit ledger limit unit ≡ Ok Bad
    → readmitted t (owners_of unit) (entries_of ledger.units unit) ≡ Ok left → new ≡ with_mark ledger unit Again1
    → IsAct s (command.Resubmit unit) (record s { locks = left; stored = new }) (reply.Unit unit)
reopens s t ledger new limit unit left f l g m room h stand b =
    let g' : with_mark s.stored unit Again1 ≡ new = ap (λ x. with_mark x unit Again1) g ∙ sym b in
    at_state _ _ (reopened s unit left) _ _ (λ i. record s { locks = left; stored = g' i })
    (leaves_as s (command.Resubmit unit) (reopened s unit left) (reply.Unit unit) tt room (own_reopen s t ledger limit unit (Ok left) f l g m h stand))

pub reopens_in_doubt : (s : State) (t : Table) (ledger : Ledger) (limit : ℕ) (unit : UnitKey) (left : List Entry) → s.locks ≡ t.entries → s.limit ≡ t.limit
    → s.stored ≡ ledger → s.mark_limit ≡ limit → Admits s (command.Resubmit unit) → to_resubmit ledger limit unit ≡ Ok Bad
    → readmitted t (owners_of unit) (entries_of ledger.units unit) ≡ Ok left
    → IsAct s (command.Resubmit unit) (doubted s (OfAdmin (Resubmits unit)) None (Some (with_mark s.stored unit Again1))) (reply.Refused refusal.StoreFault)
reopens_in_doubt s t ledger limit unit left f l g m room h stand =
    fails s (command.Resubmit unit) (reopened s unit left) (reply.Unit unit) room (own_reopen s t ledger limit unit (Ok left) f l g m h stand) refl refl

some_written : (n : ℕ) → 1 ≤ n → nat_lt 0 n ≡ true
some_written n h = grind (arith, nat_tests)

pub reopens_unfiled : (s : State) (t : Table) (ledger new : Ledger) (limit : ℕ) (unit : UnitKey) (left : List Entry) → s.locks ≡ t.entries → s.limit ≡ t.limit
    → s.stored ≡ ledger → s.mark_limit ≡ limit → Admits s (command.Resubmit unit) → to_resubmit ledger limit unit ≡ Ok Bad
    → readmitted t (owners_of unit) (entries_of ledger.units unit) ≡ Ok left → 1 ≤ length (entries_of ledger.units unit) → new ≡ ledger
    → IsAct s (command.Resubmit unit) (unfiled s (call_of (command.Resubmit unit)) None new) (reply.Refused refusal.BackupFault)
reopens_unfiled s t ledger new limit unit left f l g m room h stand some b =
    subst (λ x. IsAct s (command.Resubmit unit) (unfiled s (call_of (command.Resubmit unit)) None x) (reply.Refused refusal.BackupFault)) (g ∙ sym b)
    (fails_filing s (command.Resubmit unit) (reopened s unit left) (reply.Unit unit) room (own_reopen s t ledger limit unit (Ok left) f l g m h stand)
    ((λ i. let x : Ledger = g i in nat_lt 0 (length (if has_status status.Bad (status_of x.units x.marks unit) then entries_of x.units unit else [])))
    ∙ ap (λ o. nat_lt 0 (length (if has_status status.Bad o then entries_of ledger.units unit else []))) (can_be_tried ledger limit unit Bad h).recorded
    ∙ some_written (length (entries_of ledger.units unit)) some))

not_reopened : (s : State) (t : Table) (ledger : Ledger) (limit : ℕ) (unit : UnitKey) (f : AskFault) → s.locks ≡ t.entries → s.limit ≡ t.limit
    → s.stored ≡ ledger → s.mark_limit ≡ limit → Admits s (command.Resubmit unit) → to_resubmit ledger limit unit ≡ Ok Bad
    → IsFaultOf (readmitted t (owners_of unit) (entries_of ledger.units unit)) f → IsAct s (command.Resubmit unit) s (reply.Refused (ask_refusal f))
not_reopened s t ledger limit unit (fault.Foreign e) locks l g m room h why =
    refuses s (command.Resubmit unit) _ room (own_reopen s t ledger limit unit _ locks l g m h why)
not_reopened s t ledger limit unit (fault.Full used most) locks l g m room h why =
    refuses s (command.Resubmit unit) _ room (own_reopen s t ledger limit unit _ locks l g m h why)
not_reopened s t ledger limit unit fault.Count locks l g m room h why =
    refuses s (command.Resubmit unit) _ room (own_reopen s t ledger limit unit _ locks l g m h why)
not_reopened s t ledger limit unit fault.Lost locks l g m room h why =
    refuses s (command.Resubmit unit) _ room (own_reopen s t ledger limit unit _ locks l g m h why)
not_reopened s t ledger limit unit fault.NoMemory locks l g m room h why =
    is_wanting s (command.Resubmit unit) room.served (ap is_ok ((λ i. to_resubmit (g i) (m i) unit) ∙ h))

pub reopens_in_vain : (s : State) (t : Table) (ledger new : Ledger) (limit : ℕ) (unit : UnitKey) (f : AskFault) (r : Refusal) (after : List Entry)
    → s.locks ≡ t.entries → s.limit ≡ t.limit → s.stored ≡ ledger → s.mark_limit ≡ limit → Admits s (command.Resubmit unit)
    → to_resubmit ledger limit unit ≡ Ok Bad → IsFaultOf (readmitted t (owners_of unit) (entries_of ledger.units unit)) f → after ≡ t.entries → new ≡ ledger
    → r ≡ ask_refusal f → IsAct s (command.Resubmit unit) (record s { locks = after; stored = new }) (reply.Refused r)
reopens_in_vain s t ledger new limit unit f r after locks l g m room h why same kept is =
    let f' : s.locks ≡ after = locks ∙ sym same in
    let g' : s.stored ≡ new = g ∙ sym kept in
    subst (λ a. IsAct s (command.Resubmit unit) (record s { locks = after; stored = new }) (reply.Refused a)) (sym is)
    (at_state _ _ s _ _ (λ i. record s { locks = f' i; stored = g' i }) (not_reopened s t ledger limit unit f locks l g m room h why))

-- ---- rows

own_read : (found : Found) (s : State) (sessions : List Session) (name table key : List ℕ) (x : Session) → s.sessions ≡ sessions
    → session_at sessions name ≡ Some x → own_verdict found s (OfSession name (Reads table key)) ≡ Leaves s (reply.Row (found.row table key))
own_read found s sessions name table key x e at = ap (called found s (Reads table key)) (found_at s sessions name (Some x) e at)

pub reads_unknown : (s : State) (sessions : List Session) (ledger : Ledger) (name table key : List ℕ) (r : Refusal) → s.sessions ≡ sessions → s.stored ≡ ledger
    → Admits s (command.Read name table key) → session_at sessions name ≡ None → r ≡ refusal.UnknownSession
    → IsAct s (command.Read name table key) (record s { stored = ledger }) (reply.Refused r)
reads_unknown s sessions ledger name table key r e g room none is =
    subst (λ x. IsAct s (command.Read name table key) (record s { stored = ledger }) (reply.Refused x)) (sym is)
    (at_state _ _ s _ _ (λ i. record s { stored = g i })
    (refuses s (command.Read name table key) refusal.UnknownSession room (ap (called (found_in s) s (Reads table key)) (found_at s sessions name None e none))))

abbrev TellsText : Bool → Ledger → List ℕ → List ℕ → Option (List ℕ) → Type 0
TellsText told ledger table key text = IsTold told (text ≡ row_in ledger table key)

told_text : (told : Bool) (rows : Option Rows) (ledger : Ledger) (table key : List ℕ) (text : Option (List ℕ)) → told ≡ is_some rows
    → IfSome rows (λ _. text ≡ row_in ledger table key) → TellsText told ledger table key text
told_text told None ledger table key text t known = subst (λ b. TellsText b ledger table key text) (sym t) tt
told_text told (Some rows) ledger table key text t known = subst (λ b. TellsText b ledger table key text) (sym t) known

pub reads : (s : State) (rows : Option Rows) (sessions : List Session) (ledger new : Ledger) (name table key : List ℕ) (x : Session) (text : Option (List ℕ))
    → s.sessions ≡ sessions → s.told ≡ is_some rows → s.stored ≡ ledger → Admits s (command.Read name table key) → session_at sessions name ≡ Some x
    → IfSome rows (λ _. text ≡ row_in ledger table key) → new ≡ ledger → IsAct s (command.Read name table key) (record s { stored = new }) (reply.Row text)
reads s rows sessions ledger new name table key x text e t g room at known kept =
    let g' : s.stored ≡ new = g ∙ sym kept in
    let found = found_by (Shows text) s in
    at_state _ _ s _ _ (λ i. record s { stored = g' i })
    (record {
      outcome = record { event = AllWell; reading = Shows text; lost = false };
      possible = record {
        reading = subst (λ l. TellsText s.told l table key text) (sym g) (told_text s.told rows ledger table key text t known);
        event =
            tt;
        lost = tt;
      };
      same = ap (judged s) (admitted found s (command.Read name table key) room ∙ own_read found s sessions name table key x e at);
    })

pub reads_wanting : (s : State) (sessions : List Session) (ledger new : Ledger) (name table key : List ℕ) (x : Session) → s.sessions ≡ sessions
    → s.stored ≡ ledger → Admits s (command.Read name table key) → session_at sessions name ≡ Some x → new ≡ ledger
    → IsAct s (command.Read name table key) (record s { stored = new }) (reply.Refused refusal.NoMemory)
reads_wanting s sessions ledger new name table key x e g room at kept =
    let g' : s.stored ≡ new = g ∙ sym kept in
    at_state _ _ s _ _ (λ i. record s { stored = g' i })
    (is_wanting s (command.Read name table key) room.served refl)

-- a read that failed leaves no change in flight
pub reads_in_doubt : (s : State) (sessions : List Session) (name table key : List ℕ) (x : Session) → s.sessions ≡ sessions → s.in_flight ≡ None
    → Admits s (command.Read name table key) → session_at sessions name ≡ Some x
    → IsAct s (command.Read name table key) (doubted s (OfSession name (Reads table key)) None None) (reply.Refused refusal.StoreFault)
reads_in_doubt s sessions name table key x e none room at =
    let v = admitted (found_in s) s (command.Read name table key) room ∙ own_read (found_in s) s sessions name table key x e at in
    record {
      outcome = only StoreFails;
      possible = record { reading = tt; event = (ap leaves v, refl); lost = tt };
      same = ap (λ w. refused (doubted s (OfSession name (Reads table key)) None (in_flight_after s (OfSession name (Reads table key)) w))
          refusal.StoreFault) v
          ∙ ap (λ p. refused (doubted s (OfSession name (Reads table key)) None p) refusal.StoreFault) none;
    }

-- ---- commits

own_commit : (s : State) (sessions : List Session) (name : List ℕ) (x : Session) (parts : Parts) (stock : List Number) → s.sessions ≡ sessions
    → session_at sessions name ≡ Some x → own_verdict (found_in s) s (OfSession name (Commits parts stock)) ≡ commit s x parts stock
own_commit s sessions name x parts stock e found = ap (called (found_in s) s (Commits parts stock)) (found_at s sessions name (Some x) e found)

pub commits_unknown : (s : State) (sessions : List Session) (ranges : List NumberRange) (entries : List Entry) (ledger : Ledger) (name : List ℕ) (parts : Parts)
    (stock : List Number) (r : Refusal) → s.sessions ≡ sessions → s.ranges ≡ ranges → s.locks ≡ entries → s.stored ≡ ledger
    → Admits s (command.Commit name parts stock) → session_at sessions name ≡ None → r ≡ refusal.UnknownSession
    → IsAct s (command.Commit name parts stock) (record s { sessions = sessions; ranges = ranges; locks = entries; stored = ledger }) (reply.Refused r)
commits_unknown s sessions ranges entries ledger name parts stock r e k f g room none is =
    subst (λ x. IsAct s (command.Commit name parts stock) (record s { sessions = sessions; ranges = ranges; locks = entries; stored = ledger })
    (reply.Refused x)) (sym is)
    (at_state _ _ s _ _ (λ i. record s { sessions = e i; ranges = k i; locks = f i; stored = g i })
    (refuses s (command.Commit name parts stock) refusal.UnknownSession room
    (ap (called (found_in s) s (Commits parts stock)) (found_at s sessions name None e none))))

-- the same with the tests decided
abbrev decided : State → Session → Parts → List Number → Bool → Bool → Bool → Verdict
decided s x parts numbers large none alone =
    if large then Refuses refusal.UnitTooLarge
    else if none then Leaves s reply.Done
    else with_room s (if alone then Leaves (numbered s x numbers) reply.Done else Leaves (committed s x parts numbers) (reply.Unit (unit_key s.stored.start x)))

-- how much there is to record
abbrev pub is_too_much : List Number → Parts → Bool
is_too_much numbers parts = nat_lt 64 (length numbers) || nat_lt 200 (effects_in parts)

abbrev pub is_nothing : List Number → Parts → Bool
is_nothing numbers parts = nat_eq (effects_in parts) 0 && nat_eq (length numbers) 0

tested : (s : State) (x : Session) (parts : Parts) (stock : List Number) (large none alone : Bool) → is_too_much (x.draws ++ stock) parts ≡ large
    → is_nothing (x.draws ++ stock) parts ≡ none → nat_eq (effects_in parts) 0 ≡ alone
    → commit s x parts stock ≡ passing stock (decided s x parts (x.draws ++ stock) large none alone)
tested s x parts stock large none alone a b c = λ i. passing stock (decided s x parts (x.draws ++ stock) (a i) (b i) (c i))

-- where there is no room, and where there is
passes_overflow : (s : State) (stock : List Number) (v : Verdict) → is_store_full s ≡ true
    → passing stock (with_room s v) ≡ Refuses (refusal.StoreFull s.mark_limit)
passes_overflow s stock v full = ap (passing stock) (overflows s v full)

passes_fit : (s : State) (stock : List Number) (v : Verdict) → is_store_full s ≡ false → passing stock (with_room s v) ≡ passing stock v
passes_fit s stock v space = ap (passing stock) (fits s v space)

pub is_written : (n : ℕ) → 1 ≤ n → nat_lt 0 n ≡ true
is_written n h = grind (arith, nat_tests)

-- a session that commits: what the hall holds is the state's
pub record IsCommitAt (s : State) (sessions : List Session) (ranges : List NumberRange) (entries : List Entry) (ledger : Ledger) (limit : ℕ) (name : List ℕ)
    (x : Session) (c : Command) : Type 0 where
  pub own_sessions : s.sessions ≡ sessions
  pub own_ranges : s.ranges ≡ ranges
  pub own_locks : s.locks ≡ entries
  pub own_ledger : s.stored ≡ ledger
  pub own_limit : s.mark_limit ≡ limit
  pub admits : Admits s c
  pub found : session_at sessions name ≡ Some x

module _ (s : State) (sessions : List Session) (ranges : List NumberRange) (entries : List Entry) (ledger : Ledger) (limit : ℕ) (name : List ℕ) (x : Session)
    (parts : Parts) (stock : List Number) (at : IsCommitAt s sessions ranges entries ledger limit name x (command.Commit name parts stock)) where
  abbrev numbers : List Number
  numbers = x.draws ++ stock

  abbrev same_state : State
  same_state = record s { sessions = sessions; ranges = ranges; locks = entries; stored = ledger }

  own : own_verdict (found_in s) s (OfSession name (Commits parts stock)) ≡ commit s x parts stock
  own = own_commit s sessions name x parts stock at.own_sessions at.found

  here : (r : Reply) → IsAct s (command.Commit name parts stock) s r → IsAct s (command.Commit name parts stock) same_state r
  here r = at_state _ _ s _ _ (λ i. record s { sessions = at.own_sessions i; ranges = at.own_ranges i; locks = at.own_locks i; stored = at.own_ledger i })

  pub commits_too_much : is_too_much numbers parts ≡ true → IsAct s (command.Commit name parts stock) same_state (reply.Refused refusal.UnitTooLarge)
  commits_too_much large =
      here _ (refuses s (command.Commit name parts stock) refusal.UnitTooLarge at.admits (own ∙ tested s x parts stock true _ _ large refl refl))

  pub commits_nothing : is_too_much numbers parts ≡ false → is_nothing numbers parts ≡ true
      → IsAct s (command.Commit name parts stock) (record s { sessions = sessions; ranges = passed stock ranges; locks = entries; stored = ledger }) reply.Done
  commits_nothing few none =
      at_state _ _ (stocked stock s) _ _
      (λ i. record s { sessions = at.own_sessions i; ranges = passed stock (at.own_ranges i); locks = at.own_locks i; stored = at.own_ledger i })
      (is_done s (command.Commit name parts stock) (stocked stock s) tt at.admits (own ∙ tested s x parts stock false true _ few none refl))

  pub commits_wanting : (new : Ledger) → new ≡ ledger → IsAct s (command.Commit name parts stock)
      (record s { sessions = sessions; ranges = ranges; locks = entries; stored = new }) (reply.Refused refusal.NoMemory)
  commits_wanting new kept =
      subst (λ l. IsAct s (command.Commit name parts stock) (record s { sessions = sessions; ranges = ranges; locks = entries; stored = l })
      (reply.Refused refusal.NoMemory)) (sym kept)
      (here _ (is_wanting s (command.Commit name parts stock) at.admits.served refl))

  pub commits_full : is_too_much numbers parts ≡ false → is_nothing numbers parts ≡ false → nat_le limit (length ledger.marks) ≡ true
      → IsAct s (command.Commit name parts stock) same_state (reply.Refused (refusal.StoreFull limit))
  commits_full few some full =
      subst (λ n. IsAct s (command.Commit name parts stock) same_state (reply.Refused (refusal.StoreFull n))) at.own_limit
      (here _ (refuses s (command.Commit name parts stock) (refusal.StoreFull s.mark_limit) at.admits
      (own ∙ tested s x parts stock false false _ few some refl ∙ passes_overflow s stock _ (full_as s limit ledger true at.own_limit at.own_ledger full))))

  -- ---- a unit

  leaves_unit : is_too_much numbers parts ≡ false → nat_eq (effects_in parts) 0 ≡ false → is_nothing numbers parts ≡ false
      → nat_le limit (length ledger.marks) ≡ false
      → own_verdict (found_in s) s (OfSession name (Commits parts stock)) ≡ Leaves (stocked stock (committed s x parts numbers))
      (reply.Unit (unit_key s.stored.start x))
  leaves_unit few effects some space = own ∙ tested s x parts stock false false false few some effects
      ∙ passes_fit s stock _ (full_as s limit ledger false at.own_limit at.own_ledger space)

  -- what is written of it
  abbrev the_unit : UnitOfWork
  the_unit = unit_of ledger.start entries x parts numbers

  abbrev the_levels : List StoredInterval
  the_levels = settled_rows ledger.levels ranges numbers

  pub commits : is_too_much numbers parts ≡ false → nat_eq (effects_in parts) 0 ≡ false → is_nothing numbers parts ≡ false
      → nat_le limit (length ledger.marks) ≡ false
      → (after : List Session) (left : List Entry) (new : Ledger) (key : UnitKey) → key ≡ unit_key ledger.start x
      → after ≡ with_session x.name with_next_unit sessions → left ≡ handed_over entries key
      → new ≡ with_intervals the_levels (with_unit ledger the_unit) → IsAct s (command.Commit name parts stock)
      (record s { sessions = after; ranges = passed stock ranges; locks = left; stored = new }) (reply.Unit key)
  commits few effects some space after left new key k a b c =
      let k' : unit_key s.stored.start x ≡ key = ap (λ (l : Ledger). unit_key l.start x) at.own_ledger ∙ sym k in
      let e' : with_session x.name with_next_unit s.sessions ≡ after = ap (with_session x.name with_next_unit) at.own_sessions ∙ sym a in
      let f' : handed_over s.locks (unit_key s.stored.start x) ≡ left = (λ i. handed_over (at.own_locks i) (k' i)) ∙ sym b in
      let g' : with_numbers s numbers (with_unit s.stored (unit_of s.stored.start s.locks x parts numbers)) ≡ new =
      (λ i. let l : Ledger = at.own_ledger i in with_intervals (settled_rows l.levels (at.own_ranges i) numbers)
      (with_unit l (unit_of l.start (at.own_locks i) x parts numbers))) ∙ sym c in
      subst (λ u. IsAct s (command.Commit name parts stock) (record s { sessions = after; ranges = passed stock ranges; locks = left; stored = new })
      (reply.Unit u)) k'
      (at_state _ _ (stocked stock (committed s x parts numbers)) _ _
      (λ i. record s { sessions = e' i; ranges = passed stock (at.own_ranges i); locks = f' i; stored = g' i })
      (leaves_as s (command.Commit name parts stock) (stocked stock (committed s x parts numbers)) _ tt at.admits
      (leaves_unit few effects some space)))

  -- the call uses the store
  pub uses_to_commit : is_nothing numbers parts ≡ false → IsTrue (uses_store s (OfSession name (Commits parts stock)))
  uses_to_commit some =
      subst (λ o. IsTrue (nat_lt 0 (effects_in parts) || option_map_or (λ (y : Session). nat_lt 0 (length (y.draws ++ stock))) o false))
      (sym (ap (λ ss. session_at ss name) at.own_sessions ∙ at.found))
      (some_of (effects_in parts) (length numbers) some)
    where
      some_of : (m n : ℕ) → (nat_eq m 0 && nat_eq n 0) ≡ false → IsTrue (nat_lt 0 m || nat_lt 0 n)
      some_of (suc m) n h = ap (λ b. b || nat_lt 0 n) (is_written (suc m) (omega arith))
      some_of zero (suc n) h = is_written (suc n) (omega arith)
      some_of zero zero h = cc

  pub commits_in_doubt : is_too_much numbers parts ≡ false → nat_eq (effects_in parts) 0 ≡ false → is_nothing numbers parts ≡ false
      → nat_le limit (length ledger.marks) ≡ false
      → (unit : UnitOfWork) (levels : List StoredInterval) → unit ≡ the_unit → levels ≡ the_levels
      → IsAct s (command.Commit name parts stock)
      (doubted (stocked stock s) (OfSession name (Commits parts stock)) None (Some (with_intervals levels (with_unit s.stored unit))))
      (reply.Refused refusal.StoreFault)
  commits_in_doubt few effects some space unit levels is rows =
      let same : unit_of s.stored.start s.locks x parts numbers ≡ unit =
      (λ i. let l : Ledger = at.own_ledger i in unit_of l.start (at.own_locks i) x parts numbers) ∙ sym is in
      let same_rows : settled_rows s.stored.levels s.ranges numbers ≡ levels =
      (λ i. let l : Ledger = at.own_ledger i in settled_rows l.levels (at.own_ranges i) numbers) ∙ sym rows in
      subst (λ (w : Ledger). IsAct s (command.Commit name parts stock) (doubted (stocked stock s) (OfSession name (Commits parts stock)) None (Some w))
      (reply.Refused refusal.StoreFault)) (λ i. with_intervals (same_rows i) (with_unit s.stored (same i)))
      (fails s (command.Commit name parts stock) (stocked stock (committed s x parts numbers)) _ at.admits (leaves_unit few effects some space)
      (uses_to_commit some) refl)

  not_none : (n : ℕ) → nat_eq n 0 ≡ false → 1 ≤ n
  not_none zero h = cc
  not_none (suc n) h = omega arith

  -- the call uses the backup file
  uses_to_hand : nat_eq (effects_in parts) 0 ≡ false → 1 ≤ length (lasting (unit_key ledger.start x) entries)
      → IsTrue (uses_file s (OfSession name (Commits parts stock)))
  uses_to_hand effects some =
      subst (λ o. IsTrue
      (nat_lt 0 (effects_in parts) && option_map_or (λ (y : Session). nat_lt 0 (length (lasting (unit_key s.stored.start y) s.locks))) o false))
      (sym (ap (λ ss. session_at ss name) at.own_sessions ∙ at.found))
      (and_from (nat_lt 0 (effects_in parts)) _ (is_written (effects_in parts) (not_none (effects_in parts) effects))
      ((λ i. let l : Ledger = at.own_ledger i in nat_lt 0 (length (lasting (unit_key l.start x) (at.own_locks i))))
      ∙ is_written (length (lasting (unit_key ledger.start x) entries)) some))

  pub commits_unfiled : is_too_much numbers parts ≡ false → nat_eq (effects_in parts) 0 ≡ false → is_nothing numbers parts ≡ false
      → nat_le limit (length ledger.marks) ≡ false
      → (key : UnitKey) → key ≡ unit_key ledger.start x → 1 ≤ length (lasting key entries) → (new : Ledger) → new ≡ ledger
      → IsAct s (command.Commit name parts stock) (unfiled s (call_of (command.Commit name parts stock)) None new) (reply.Refused refusal.BackupFault)
  commits_unfiled few effects some space key k lasts new b =
      subst (λ l. IsAct s (command.Commit name parts stock) (unfiled s (call_of (command.Commit name parts stock)) None l) (reply.Refused refusal.BackupFault))
      (at.own_ledger ∙ sym b)
      (fails_filing s (command.Commit name parts stock) (stocked stock (committed s x parts numbers)) _ at.admits (leaves_unit few effects some space)
      (uses_to_hand effects (subst (λ u. 1 ≤ length (lasting u entries)) k lasts)))

  -- ---- numbers alone

  leaves_numbers : is_too_much numbers parts ≡ false → nat_eq (effects_in parts) 0 ≡ true → is_nothing numbers parts ≡ false
      → nat_le limit (length ledger.marks) ≡ false
      → own_verdict (found_in s) s (OfSession name (Commits parts stock)) ≡ Leaves (stocked stock (numbered s x numbers)) reply.Done
  leaves_numbers few alone some space = own ∙ tested s x parts stock false false true few some alone
      ∙ passes_fit s stock _ (full_as s limit ledger false at.own_limit at.own_ledger space)

  pub commits_numbers : is_too_much numbers parts ≡ false → nat_eq (effects_in parts) 0 ≡ true → is_nothing numbers parts ≡ false
      → nat_le limit (length ledger.marks) ≡ false
      → (after : List Session) (new : Ledger) → after ≡ with_session x.name without_draws sessions
      → new ≡ with_intervals the_levels (with_mark ledger (unit_key ledger.start x) (Num numbers))
      → IsAct s (command.Commit name parts stock) (record s { sessions = after; ranges = passed stock ranges; locks = entries; stored = new }) reply.Done
  commits_numbers few alone some space after new a c =
      let e' : with_session x.name without_draws s.sessions ≡ after = ap (with_session x.name without_draws) at.own_sessions ∙ sym a in
      let g' : with_numbers s numbers (with_mark s.stored (unit_key s.stored.start x) (Num numbers)) ≡ new =
      (λ i. let l : Ledger = at.own_ledger i in with_intervals (settled_rows l.levels (at.own_ranges i) numbers)
      (with_mark l (unit_key l.start x) (Num numbers))) ∙ sym c in
      at_state _ _ (stocked stock (numbered s x numbers)) _ _
      (λ i. record s { sessions = e' i; ranges = passed stock (at.own_ranges i); locks = at.own_locks i; stored = g' i })
      (leaves_as s (command.Commit name parts stock) (stocked stock (numbered s x numbers)) _ tt at.admits (leaves_numbers few alone some space))

  pub numbers_in_doubt : is_too_much numbers parts ≡ false → nat_eq (effects_in parts) 0 ≡ true → is_nothing numbers parts ≡ false
      → nat_le limit (length ledger.marks) ≡ false
      → (levels : List StoredInterval) → levels ≡ the_levels
      → IsAct s (command.Commit name parts stock)
      (doubted (stocked stock s) (OfSession name (Commits parts stock)) None
      (Some (with_intervals levels (with_mark s.stored (unit_key s.stored.start x) (Num numbers))))) (reply.Refused refusal.StoreFault)
  numbers_in_doubt few alone some space levels rows =
      let same_rows : settled_rows s.stored.levels s.ranges numbers ≡ levels =
      (λ i. let l : Ledger = at.own_ledger i in settled_rows l.levels (at.own_ranges i) numbers) ∙ sym rows in
      subst (λ (ls : List StoredInterval). IsAct s (command.Commit name parts stock)
      (doubted (stocked stock s) (OfSession name (Commits parts stock)) None
      (Some (with_intervals ls (with_mark s.stored (unit_key s.stored.start x) (Num numbers))))) (reply.Refused refusal.StoreFault)) same_rows
      (fails s (command.Commit name parts stock) (stocked stock (numbered s x numbers)) _ at.admits (leaves_numbers few alone some space)
      (uses_to_commit some) refl)

-- the unit of a session that is logged on may be recorded
pub may_record : (ledger : Ledger) (sessions : List Session) (name : List ℕ) (x : Session) (parts : Parts) (numbers : List Number) (start : ℕ) (t : Table)
    (unit : UnitOfWork) → start ≡ ledger.start → unit ≡ unit_of start t.entries x parts numbers → All HasDigits numbers → length numbers ≤ 64
    → session_at sessions name ≡ Some x → AllByRecursion (IsAhead ledger) sessions → IsTable t → 1 ≤ ledger.start → 1 ≤ effects_in parts
    → effects_in parts ≤ 200 → IsNewUnit ledger unit
may_record ledger sessions name x parts numbers start t unit same is digits few_draws found ahead good started some few =
    let key = unit_key ledger.start x in
    let own_locks = filter (is_of (Upd key)) (handed_over t.entries key) in
    let table = IsTable-filter (with_entries t (handed_over t.entries key)) (is_of (Upd key)) (IsTable-handed_over t key good) in
    let as_many = length-map own_locks (with_user x.user) in
    subst (IsNewUnit ledger) (sym (is ∙ ap (λ n. unit_of n t.entries x parts numbers) same)) (record {
      fresh = found_all_in (IsAhead ledger) (is_called name) sessions x found ahead x.luw (omega arith);
      first = started;
      last = omega arith;
      some = some;
      few = few;
      few_numbers = few_draws;
      digits = digits;
      few_entries = omega (arith, as_many, table.within, table.limit_fits);
      held = all_held t ledger.start x parts numbers good;
      distinct = (handed_good t ledger.start x parts numbers good).own.names;
    })
