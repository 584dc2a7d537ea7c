-- The open units and their locks, as calls change both.
use Rattle.std.proofs.Common.{◌≡◌, ℕ, Bool, true, false, not, ◌&&◌, List, [], arith, length, refl, sym, ap, ◌∙◌, subst}
use Rattle.std.specs.Prelude.{◌||◌, ◌++◌, if◌then◌else◌, IsTrue, Option, Some, None}
use Rattle.std.specs.List.{AllByRecursion}
use Rattle.std.proofs.lemmas.Bool.{and_from, false≢true, or_left}
use Rattle.enq_base.specs.declared.condition.Condition.{Condition}
use Rattle.enq_base.specs.declared.condition.Condition.TheVariants as condition
use Rattle.enq_base.specs.declared.refusal.Refusal.{Refusal}
use Rattle.enq_base.specs.declared.refusal.Refusal.TheVariants as refusal
use Rattle.enq_base.specs.declared.unit.Status.TheVariants.{Bad2 as BadSecond}
use Rattle.lock_entry.specs.Sound.{IsSound}
use Rattle.lock_entry.specs.Table.{IsTable}
use Rattle.lock_entry.specs.declared.entry.Entry.{Entry}
use Rattle.number_ranges.specs.Intervals.{is_buffered}
use Rattle.number_ranges.specs.declared.interval.Interval.{Interval}
use Rattle.ledger_steps.specs.Drawn.{handed_out, num_of}
use Rattle.ledger_steps.specs.Levels.{present}
use Rattle.update_records.specs.Ledger.{Ledger}
use Rattle.update_records.specs.declared.records.MarkKind.TheVariants as mark
use Rattle.hall_model.specs.Calls.{Call, call_of, only_reads, restarts, wants_server, writes_store_first}
use Rattle.hall_model.specs.Devices.{DeviceOutcome, Event, AllWell, Wanting, StoreFails, BackupFails, LinkFails, NotRemade, IsAllowed, IsTold, MayBeDone, MayHappen, Reading, found_by}
use Rattle.hall_model.specs.History.{doubted, ends_in, in_flight_after, judged, served, stored_before_file, without_stock}
use Rattle.hall_model.specs.Kept.{CanStand, HasGoodLocks, HasOpenUnits, HasSoundLocks, HasStateInFlight, IsSteady, OutsideDoubt, WhileListed, WhileUp}
use Rattle.hall_model.specs.Numbers.{drawn, next_number, raised_to}
use Rattle.hall_model.specs.OpenUnits.{HoldsOpenUnits, OfInFlight, open_entries}
use Rattle.hall_model.specs.Orders.{order_of}
use Rattle.hall_model.specs.Sessions.{with_draw, with_session}
use Rattle.hall_model.specs.State.{State, is_honest, table_for}
use Rattle.hall_model.specs.Step.{Found, Verdict, Refuses, Leaves, call_verdict, caller_refusal, barred, detached, is_taken, or_else, server_refusal, stored_anew, unavailable}
use Rattle.hall_model.specs.declared.command.Command.{Command}
use Rattle.hall_model.specs.declared.command.Session.{Session}
use Rattle.model_laws.proofs.BarredCalls.{refused_verdict}
use Rattle.model_laws.proofs.ByCall.{IsHandedOver, OfEach, by_call, by_restart, by_stock, shut_in_doubt}
use Rattle.model_laws.proofs.PartOrders.{held_for}
use Rattle.hall_laws.proofs.keeping.SoundLocks.{behind-sound, each-sound, without-sound}
use Rattle.hall_laws.proofs.keeping.Unchanged.{list_told}
use Rattle.hall_laws.proofs.open_units.StoredLocks.{first_held, open_fit, open_stands}
use Rattle.hall_laws.proofs.open_units.HandedLocks.{HoldsAfter, again2-ends, cancelled-held, held_call, numbered-held, posted-held, raised-held, unopened-held}
use Rattle.hall_laws.proofs.keeping.Restarts.{restart_in_flight}
use Rattle.ledger_steps.specs.Parts.{is_first}

-- ---- what can stand together

-- what a table has can
stand_in : (locks : List Entry) (limit : ℕ) (ledger : Ledger) → IsTable (record { entries = locks; limit = limit }) → HoldsOpenUnits locks ledger
    → CanStand ledger
stand_in locks limit ledger table held =
    let fewer = open_fit locks ledger held in
    let within = table.within in
    let fits = table.limit_fits in
    record { together = open_stands locks ledger table.sound held; fit = omega (arith, fewer, within, fits) }

-- a table of just these
own_table : (ledger : Ledger) → CanStand ledger → IsTable (record { entries = open_entries ledger; limit = length (open_entries ledger) })
own_table ledger can = record { sound = can.together; within = omega arith; limit_fits = can.fit }

-- behind a level that is raised
raised-stands : (ledger : Ledger) (i : Interval) (upto : ℕ) → AllByRecursion HasGoodLocks ledger.units → CanStand ledger → CanStand (raised_to i upto ledger)
raised-stands ledger i upto good can =
    let own = open_entries ledger in
    stand_in own (length own) (raised_to i upto ledger) (own_table ledger can) (raised-held ledger i upto own (first_held ledger good))

drawn-stands : (s : State) (x : Session) (i : Interval) (number : ℕ) → AllByRecursion HasGoodLocks s.stored.units → CanStand s.stored
    → CanStand (drawn s x i number).stored
drawn-stands s x i number good can =
    let t : State = record s { sessions = with_session x.name (with_draw (num_of i number)) s.sessions } in
    elim (is_buffered i) as (λ b. CanStand (if b then record t { ranges = handed_out i t.ranges; stored = raised_to i number t.stored } else t).stored) [
      | true ↦ raised-stands s.stored i number good can
      | false ↦ can
    ]

-- the call is served, and so a lock server is there if it wants one
abbrev HasItsServer : State → Call → Type 0
HasItsServer s call = wants_server call ≡ true → s.condition ≡ condition.Up

holds_listed : (c : Condition) (follows : Bool) (P : Type 0) → WhileListed c follows P → c ≡ condition.Up → P
holds_listed c follows P h up = subst (λ k. WhileListed k follows P) up h

pub holds_up : (s : State) → HasOpenUnits s → s.condition ≡ condition.Up → IsTrue (is_honest s) → HoldsOpenUnits s.locks s.stored
holds_up s h up = holds_listed s.condition (s.attached && s.link_told) (IsTrue (is_honest s) → HoldsOpenUnits s.locks s.stored) h.held up

-- what a restart finds in the store, with what was read
abbrev HoldsAnew : Found → State → Type 0
HoldsAnew found s = HasStateInFlight s (stored_anew (is_taken found.anew) s.stored s.in_flight)

-- Where the locks can be told from the calls, those of the open units can stand together behind each call.
each-together : (found : Found) (s : State) → IsSteady s → HasSoundLocks s → HasOpenUnits s → OfInFlight s.in_flight (HasStateInFlight s) → HoldsAnew found s
    → OfEach (λ call v. HasItsServer s call → IsTrue (is_honest s) → CanStand (judged s v).state.stored) found s
each-together found s steady sound units state_in_flight anew =
    let own = open_entries s.stored in
    let alone : State = record s { locks = own; limit = length own } in
    let held : HoldsOpenUnits own s.stored = first_held s.stored sound.stored in
    let calls : (t : IsTrue (is_honest s)) → s.condition ≡ condition.Up → OfEach (HoldsAfter s) found s =
    λ t up. held_call found s steady sound (steady.owned.users t) (holds_up s units up t) in
    let tables = each-sound found s steady units sound state_in_flight in
    record {
      refuses = λ call r plain up t. units.stored t;
      enters = λ name user free up t. units.stored t;
      logs_off = λ name x at up t. units.stored t;
      grants = λ name x rs locks at e up t. units.stored t;
      lowers = λ name x rs at up t. units.stored t;
      frees = λ name x at up t. units.stored t;
      converts = λ name x wanted c at e up t. units.stored t;
      draws = λ name x object nr r at can up t.
          let i = present s.stored.levels r.interval in
          drawn-stands s x i (next_number r i x) sound.stored (units.stored t);
      reserves = λ name x object nr upto r at can up t. raised-stands s.stored (present s.stored.levels r.interval) upto sound.stored (units.stored t);
      reads = λ name x table key at up t. units.stored t;
      commits_nothing = λ name x parts stock at up t. units.stored t;
      commits_numbers = λ name x parts stock at up t.
          stand_in own (length own) _ (own_table s.stored (units.stored t)) (numbered-held alone x (x.draws ++ stock) held);
      commits = λ name x parts stock at up t.
          stand_in _ s.limit _ (tables.commits name x parts stock at tt).table ((calls t (up refl)).commits name x parts stock at refl);
      rolls_back = λ name x at up t. units.stored t;
      takes = λ worker part unit free e up t. units.stored t;
      posts = λ worker part unit e up t.
          stand_in _ (length own) _ (behind-sound alone unit (is_first part) (own_table s.stored (units.stored t)))
          (posted-held part s.stored unit (found.part part unit) own (held_for part s.stored (order_of s.orders worker) unit e).1 held);
      drops = λ worker unit e up t. units.stored t;
      kills = λ was up t. units.stored t;
      fails_over = λ can up t. units.stored t;
      strays = λ first second none up t. units.stored t;
      attaches = λ was up t. units.stored t;
      restarts = λ off up t. anew.together t;
      cancels = λ unit status can up t.
          stand_in _ (length own) _ (without-sound alone unit status (own_table s.stored (units.stored t)))
          (cancelled-held s.stored unit status own can.recorded held);
      reopens = λ unit es here stand up t.
          stand_in es s.limit _ (tables.reopens unit es here stand tt).table ((calls t (up refl)).reopens unit es here stand refl);
      reposts = λ unit here up t.
          stand_in own (length own) _ (own_table s.stored (units.stored t))
          (unopened-held s.stored unit mark.Again2 BadSecond own here (λ e. cc) again2-ends held);
    }

-- ---- a call that is served

none_last : (o later : Option Refusal) → or_else o later ≡ None → later ≡ None
none_last None later e = e
none_last (Some r) later e = cc

server_there : (k : Condition) (call : Call) → k ≡ condition.NoServer → wants_server call ≡ true → server_refusal k call ≡ None → ⊥
server_there condition.Up call is wants e = cc
server_there condition.NoServer call is wants e =
    let shut : Some refusal.SystemFailure ≡ None = sym (ap (λ b. if b then Some refusal.SystemFailure else None) wants) ∙ e in cc
server_there (condition.Doubt n) call is wants e = cc

wants_no_restart : (call : Call) → wants_server call ≡ true → restarts call ≡ false
wants_no_restart call = by_restart (λ c. wants_server c ≡ true → restarts c ≡ false) (λ wants. absurd (false≢true wants)) (λ c off wants. off) call

served_up : (s : State) (call : Call) → unavailable s call ≡ None → HasItsServer s call
served_up s call free wants =
    elim s.condition as (λ k. s.condition ≡ k → k ≡ condition.Up) [
      | condition.Up ↦ λ is. refl
      | condition.NoServer ↦ λ is. absurd (server_there s.condition call is wants
          (none_last (caller_refusal s.sessions call) _ (none_last (barred s call) _ free)))
      | condition.Doubt n ↦ λ is. absurd (shut_in_doubt s n call is (wants_no_restart call wants) free)
    ] refl

-- what holds of each call that is served, and of a refusal, holds of any call
by_served : (P : Call → Verdict → Type 0) (found : Found) (s : State) → ((call : Call) (r : Refusal) → P call (Refuses r))
    → OfEach (λ call v. HasItsServer s call → P call v) found s → (call : Call) → P call (call_verdict found s call)
by_served P found s refuses each call =
    elim (unavailable s call) as (λ o. unavailable s call ≡ o → P call (call_verdict found s call)) [
      | None ↦ λ free. by_call (λ c v. HasItsServer s c → P c v) found s each call (served_up s call free)
      | Some r ↦ λ shut. subst (P call) (sym (refused_verdict found s call r shut)) (refuses call r)
    ] refl

pub verdict-together : (found : Found) (s : State) (call : Call) → IsSteady s → HasSoundLocks s → HasOpenUnits s → OfInFlight s.in_flight (HasStateInFlight s)
    → IsTrue (is_honest s) → CanStand (judged s (call_verdict found s call)).state.stored
verdict-together found s call steady sound units state_in_flight =
    let anew = restart_in_flight (is_taken found.anew) s sound.stored steady units state_in_flight in
    by_served (λ c v. IsTrue (is_honest s) → CanStand (judged s v).state.stored) found s (λ c r t. units.stored t)
    (each-together found s steady sound units state_in_flight anew) call

pub while_up : (c : Condition) (P : Type 0) → (c ≡ condition.Up → P) → WhileUp c P
while_up condition.Up P f = f refl
while_up condition.NoServer P f = tt
while_up (condition.Doubt k) P f = tt

-- ---- what the table has, or the replica's list

listed_more : (c : Condition) (follows : Bool) (P Q : Type 0) → (P → Q) → WhileListed c follows P → WhileListed c follows Q
listed_more condition.Up follows P Q f h = f h
listed_more condition.NoServer follows P Q f h = λ sure. f (h sure)
listed_more (condition.Doubt k) follows P Q f h = tt

listed_fewer : (c : Condition) (follows fewer : Bool) (P : Type 0) → (fewer ≡ true → follows ≡ true) → WhileListed c follows P → WhileListed c fewer P
listed_fewer condition.Up follows fewer P f h = h
listed_fewer condition.NoServer follows fewer P f h = λ sure. h (f sure)
listed_fewer (condition.Doubt k) follows fewer P f h = tt

detached_listed : (c : Condition) (follows told : Bool) (max limit : ℕ) (es : List Entry) (ledger : Ledger) (H : Type 0)
    → WhileListed c follows (H → HoldsOpenUnits es ledger)
    → WhileListed c (false && told) (H → HoldsOpenUnits (table_for c max (record { entries = es; limit = limit }) []).entries ledger)
detached_listed condition.Up follows told max limit es ledger H h = h
detached_listed condition.NoServer follows told max limit es ledger H h = λ sure. absurd (false≢true sure)
detached_listed (condition.Doubt k) follows told max limit es ledger H h = tt

detached-open : (s : State) → HasOpenUnits s → HasOpenUnits (detached s)
detached-open s h = record {
  held = detached_listed s.condition (s.attached && s.link_told) s.link_told s.max_locks s.limit s.locks s.stored (IsTrue (is_honest s)) h.held;
  stored = h.stored;
  in_flight = h.in_flight;
}

or_false : (b : Bool) → (b || false) ≡ true → b ≡ true
or_false true h = refl
or_false false h = h

-- where a link tells its list, a replica that takes over has the locks of the open units
over-open : (found : Found) (s : State) → IsHandedOver found s → IsTold s.link_told (found.list ≡ s.locks) → HasOpenUnits s → IsTrue (s.link_told || not true)
    → HoldsOpenUnits found.list s.stored
over-open found s can told h t =
    let linked : s.link_told ≡ true = or_false s.link_told t in
    let same : found.list ≡ s.locks = subst (λ b. IsTold b (found.list ≡ s.locks)) linked told in
    let held = subst (λ k. WhileListed k (s.attached && s.link_told) (IsTrue (is_honest s) → HoldsOpenUnits s.locks s.stored)) can.none h.held in
    subst (λ es. HoldsOpenUnits es s.stored) (sym same) (held (and_from s.attached s.link_told can.followed linked)
    (or_left s.link_told (not s.taken_over) linked))

-- nothing is in flight where there is no lock server
quiet_in_flight : (s : State) (Q : Ledger → Type 0) → s.condition ≡ condition.NoServer → IsSteady s → OfInFlight s.in_flight Q
quiet_in_flight s Q none steady =
    let quiet : s.in_flight ≡ None = subst (λ c. OutsideDoubt c (s.in_flight ≡ None)) none steady.settled in
    subst (λ o. OfInFlight o Q) (sym quiet) tt

drawn-open : (s : State) (x : Session) (i : Interval) (number : ℕ) → HasSoundLocks s → HasOpenUnits s → HasOpenUnits (drawn s x i number)
drawn-open s x i number sound h =
    let t : State = record s { sessions = with_session x.name (with_draw (num_of i number)) s.sessions } in
    elim (is_buffered i) as (λ b. HasOpenUnits (if b then record t { ranges = handed_out i t.ranges; stored = raised_to i number t.stored } else t)) [
      | true ↦ record {
        held = listed_more s.condition (s.attached && s.link_told) _ _ (λ k sure. raised-held s.stored i number s.locks (k sure)) h.held;
        stored = λ sure. raised-stands s.stored i number sound.stored (h.stored sure);
        in_flight = h.in_flight;
      }
      | false ↦ record { held = h.held; stored = h.stored; in_flight = h.in_flight }
    ]

table_stands : (ledger : Ledger) (limit : ℕ) → IsTable (record { entries = open_entries ledger; limit = limit }) → CanStand ledger
table_stands ledger limit table =
    let within = table.within in
    let fits = table.limit_fits in
    record { together = table.sound; fit = omega (arith, within, fits) }

module _ (found : Found) (s : State) (steady : IsSteady s) (sound : HasSoundLocks s) (units : HasOpenUnits s)
    (state_in_flight : OfInFlight s.in_flight (HasStateInFlight s))
    (told : IsTold s.link_told (found.list ≡ s.locks)) where
  anew : HoldsAnew found s
  anew = restart_in_flight (is_taken found.anew) s sound.stored steady units state_in_flight

  together : OfEach (λ call v. HasItsServer s call → IsTrue (is_honest s) → CanStand (judged s v).state.stored) found s
  together = each-together found s steady sound units state_in_flight anew

  calls : IsTrue (is_honest s) → HoldsOpenUnits s.locks s.stored → OfEach (HoldsAfter s) found s
  calls sure k = held_call found s steady sound (steady.owned.users sure) k

  more : (Q : Type 0) → (IsTrue (is_honest s) → HoldsOpenUnits s.locks s.stored → Q)
      → WhileListed s.condition (s.attached && s.link_told) (IsTrue (is_honest s) → Q)
  more Q f = listed_more s.condition (s.attached && s.link_told) _ _ (λ k sure. f sure (k sure)) units.held

  each-open : OfEach (λ call v. HasItsServer s call → MayBeDone call v → HasOpenUnits (judged s v).state) found s
  each-open = record {
    refuses = λ call r plain up done. units;
    enters = λ name user free up done. record { held = units.held; stored = units.stored; in_flight = units.in_flight };
    logs_off = λ name x at up done. record {
      held = more _ (λ sure k. (calls sure k).logs_off name x at refl);
      stored = units.stored;
      in_flight = units.in_flight;
    };
    grants = λ name x rs locks at e up done. record {
      held = more _ (λ sure k. (calls sure k).grants name x rs locks at e refl);
      stored = units.stored;
      in_flight = units.in_flight;
    };
    lowers = λ name x rs at up done. record {
      held = more _ (λ sure k. (calls sure k).lowers name x rs at refl);
      stored = units.stored;
      in_flight = units.in_flight;
    };
    frees = λ name x at up done. record {
      held = more _ (λ sure k. (calls sure k).frees name x at refl);
      stored = units.stored;
      in_flight = units.in_flight;
    };
    converts = λ name x wanted c at e up done. record {
      held = more _ (λ sure k. (calls sure k).converts name x wanted c at e refl);
      stored = units.stored;
      in_flight = units.in_flight;
    };
    draws = λ name x object nr r at can up done. drawn-open s x (present s.stored.levels r.interval) _ sound units;
    reserves = λ name x object nr upto r at can up done. record {
      held = more _ (λ sure k. (calls sure k).reserves name x object nr upto r at can refl);
      stored = together.reserves name x object nr upto r at can up;
      in_flight = units.in_flight;
    };
    reads = λ name x table key at up done. units;
    commits_nothing = λ name x parts stock at up done. units;
    commits_numbers = λ name x parts stock at up done. record {
      held = more _ (λ sure k. (calls sure k).commits_numbers name x parts stock at refl);
      stored = together.commits_numbers name x parts stock at up;
      in_flight = units.in_flight;
    };
    commits = λ name x parts stock at up done. record {
      held = more _ (λ sure k. (calls sure k).commits name x parts stock at refl);
      stored = together.commits name x parts stock at up;
      in_flight = units.in_flight;
    };
    rolls_back = λ name x at up done. record {
      held = more _ (λ sure k. (calls sure k).rolls_back name x at refl);
      stored = units.stored;
      in_flight = units.in_flight;
    };
    takes = λ worker part unit free e up done. record { held = units.held; stored = units.stored; in_flight = units.in_flight };
    posts = λ worker part unit e up done. record {
      held = more _ (λ sure k. (calls sure k).posts worker part unit e refl);
      stored = together.posts worker part unit e up;
      in_flight = units.in_flight;
    };
    drops = λ worker unit e up done. record { held = units.held; stored = units.stored; in_flight = units.in_flight };
    kills = λ was up done. record {
      held = λ follows sure. subst (λ b. HoldsOpenUnits (if b then s.locks else []) s.stored) (sym follows) (holds_up s units was sure);
      stored = units.stored;
      in_flight = units.in_flight;
    };
    fails_over = λ can up done. record {
      held = over-open found s can told units;
      stored = λ sure. units.stored (or_left s.link_told (not s.taken_over) (or_false s.link_told sure));
      in_flight = quiet_in_flight s _ can.none steady;
    };
    strays = λ first second none up done. detached-open s units;
    attaches = λ was up done. record {
      held = subst (λ k. WhileListed k (true && s.link_told) (IsTrue (is_honest s) → HoldsOpenUnits s.locks s.stored)) (sym was) (holds_up s units was);
      stored = units.stored;
      in_flight = units.in_flight;
    };
    restarts = λ off up done. record {
      held = λ sure. first_held (stored_anew (is_taken found.anew) s.stored s.in_flight) anew.units;
      stored = λ sure. table_stands (stored_anew (is_taken found.anew) s.stored s.in_flight) _ done;
      in_flight = tt;
    };
    cancels = λ unit status can up done. record {
      held = more _ (λ sure k. (calls sure k).cancels unit status can refl);
      stored = together.cancels unit status can up;
      in_flight = units.in_flight;
    };
    reopens = λ unit es here stand up done. record {
      held = more _ (λ sure k. (calls sure k).reopens unit es here stand refl);
      stored = together.reopens unit es here stand up;
      in_flight = units.in_flight;
    };
    reposts = λ unit here up done. record {
      held = more _ (λ sure k. (calls sure k).reposts unit here refl);
      stored = together.reposts unit here up;
      in_flight = units.in_flight;
    };
  }

  verdict-open : (call : Call) → MayBeDone call (call_verdict found s call) → HasOpenUnits (judged s (call_verdict found s call)).state
  verdict-open call = by_served (λ c v. MayBeDone c v → HasOpenUnits (judged s v).state) found s (λ c r done. units) each-open call

-- ---- any event

-- what is so of the change in flight, and of what the call leaves stored, is so of the change in flight where the store fails
pub flying : (Q : Ledger → Type 0) (s : State) (call : Call) (v : Verdict) → OfInFlight s.in_flight Q → Q (judged s v).state.stored
    → OfInFlight (in_flight_after s call v) Q
flying Q s call (Refuses r) before h = before
flying Q s call (Leaves after r) before h =
    elim (only_reads call) as (λ b. OfInFlight (if b then s.in_flight else Some after.stored) Q) [ true ↦ before | false ↦ h ]

-- what the store has where the disk fails
filed : (Q : Ledger → Type 0) (s : State) (call : Call) (v : Verdict) → Q s.stored → Q (judged s v).state.stored → Q (stored_before_file s call v)
filed Q s call (Refuses r) before h = before
filed Q s call (Leaves after r) before h = elim (writes_store_first call) as (λ b. Q (if b then after.stored else s.stored)) [ true ↦ h | false ↦ before ]

failing-open : (s : State) (call : Call) (in_flight : Option Ledger) → HasOpenUnits s
    → OfInFlight in_flight (λ ledger. IsTrue (is_honest s) → IsSound (open_entries ledger)) → HasOpenUnits (doubted (without_stock call s) call None in_flight)
failing-open s call in_flight h flight =
    by_stock (λ other t. HasOpenUnits (doubted t other None in_flight)) s
    (λ name parts stock. record { held = tt; stored = h.stored; in_flight = flight })
    (λ other. record { held = tt; stored = h.stored; in_flight = flight }) call

ended-open : (e : Event) (reading : Reading) (s : State) (call : Call) → IsSteady s → HasSoundLocks s → HasOpenUnits s
    → OfInFlight s.in_flight (HasStateInFlight s)
    → IsTold s.link_told ((found_by reading s).list ≡ s.locks) → MayHappen e s call (call_verdict (found_by reading s) s call)
    → HasOpenUnits (ends_in e reading s call (call_verdict (found_by reading s) s call)).state
ended-open AllWell reading s call steady sound h state_in_flight told may = verdict-open (found_by reading s) s steady sound h state_in_flight told call may
ended-open Wanting reading s call steady sound h state_in_flight told may = h
ended-open StoreFails reading s call steady sound h state_in_flight told may =
    let found = found_by reading s in
    failing-open s call _ h
    (flying (λ ledger. IsTrue (is_honest s) → IsSound (open_entries ledger)) s call (call_verdict found s call) h.in_flight
    (λ sure. (verdict-together found s call steady sound h state_in_flight sure).together))
ended-open BackupFails reading s call steady sound h state_in_flight told may =
    let found = found_by reading s in
    let now = filed (λ ledger. IsTrue (is_honest s) → CanStand ledger) s call (call_verdict found s call) h.stored
    (verdict-together found s call steady sound h state_in_flight) in
    record { held = tt; stored = now; in_flight = h.in_flight }
ended-open LinkFails reading s call steady sound h state_in_flight told may = detached-open s h
ended-open (NotRemade fault) reading s call steady sound h state_in_flight told may = record { held = tt; stored = h.stored; in_flight = h.in_flight }

still_follows : (lost attached told : Bool) → ((not lost && attached) && told) ≡ true → (attached && told) ≡ true
still_follows true attached told h = absurd (false≢true h)
still_follows false attached told h = h

pub served-open : (o : DeviceOutcome) (s : State) (c : Command) → IsAllowed o s c → IsSteady s → HasSoundLocks s → HasOpenUnits s
    → OfInFlight s.in_flight (HasStateInFlight s)
    → HasOpenUnits (served o s c).state
served-open o s c allowed steady sound h state_in_flight =
    let possible = allowed.possible in
    let done = ended-open o.event o.reading s (call_of c) steady sound h state_in_flight (list_told o.reading s (call_of c) possible.reading) possible.event in
    let t = (ends_in o.event o.reading s (call_of c) (call_verdict (found_by o.reading s) s (call_of c))).state in
    record {
      held = listed_fewer t.condition (t.attached && t.link_told) ((not o.lost && t.attached) && t.link_told) _
          (still_follows o.lost t.attached t.link_told) done.held;
      stored = done.stored;
      in_flight = done.in_flight;
    }
