-- Each call keeps the locks sound.
use Rattle.std.proofs.Common.{◌≡◌, ℕ, ◌<◌, ◌≤◌, ◌^◌, arith, ◌&&◌, Bool, true, false, List, [], ◌∷◌, ◌++◌, fold, length, refl}
use Rattle.std.specs.Prelude.{if◌then◌else◌, nat_le, Option, None}
use Rattle.std.specs.List.{AllByRecursion}
use Rattle.std.proofs.lemmas.Bool.{and_from, eq-eqb}
use Rattle.std.proofs.lemmas.Bool.Decides.{nat_tests}
use Rattle.enq_base.specs.declared.condition.Condition.{Condition}
use Rattle.enq_base.specs.declared.condition.Condition.TheVariants as condition
use Rattle.enq_base.specs.declared.owner.Owner.TheVariants.{Upd}
use Rattle.enq_base.specs.declared.owner.UnitKey.{UnitKey}
use Rattle.enq_base.specs.declared.unit.Status.{Status}
use Rattle.enq_base.specs.declared.unit.Status.TheVariants.{Open, Posted, Bad, Closed, Bad2, Cancelled}
use Rattle.enq_server.specs.Server.{larger, replicated}
use Rattle.lock_entry.specs.declared.entry.Entry.{Entry}
use Rattle.lock_entry.specs.declared.entry.LockName.{LockName}
use Rattle.lock_entry.specs.Freeing.{freed, freed_owner}
use Rattle.lock_entry.specs.Names.{halves}
use Rattle.lock_entry.specs.Pairs.{IsPair}
use Rattle.lock_entry.specs.Table.{Table, IsTable, with_entries}
use Rattle.lock_laws.proofs.ConversionSound.{IsTable-converted}
use Rattle.lock_laws.proofs.Frees.{IsTable-freed, IsTable-freed_owner, IsTable-handed_over}
use Rattle.lock_laws.proofs.GrantSound.{IsTable-asked}
use Rattle.lock_laws.proofs.Readmits.{IsTable-readmitted}
use Rattle.ledger_steps.specs.Posts.{entries_of}
use Rattle.hall_model.specs.declared.command.Command.{Command}
use Rattle.hall_model.specs.declared.command.Session.{Session}
use Rattle.hall_model.specs.Devices.{DeviceOutcome, Event, AllWell, Wanting, StoreFails, BackupFails, LinkFails, NotRemade, IsPossible, MayBeDone, MayHappen, Reading, found_by}
use Rattle.hall_model.specs.Calls.{Call, call_of}
use Rattle.hall_model.specs.History.{doubted, ends_in, judged, read_anew, served, unfiled, without_stock}
use Rattle.hall_model.specs.Kept.{HasGoodLocks, HasOpenUnits, HasSoundLocks, HasStateInFlight, IsSteady}
use Rattle.hall_model.specs.OpenUnits.{OfInFlight}
use Rattle.hall_model.specs.Sessions.{owners_of, pair_of, unit_key, with_draw, with_session}
use Rattle.hall_model.specs.Numbers.{drawn, raised_to}
use Rattle.ledger_steps.specs.Drawn.{handed_out, num_of, stored_as}
use Rattle.hall_model.specs.State.{State, table_for}
use Rattle.number_ranges.specs.Intervals.{block_level, is_buffered, with_level}
use Rattle.number_ranges.specs.declared.interval.Interval.{Interval}
use Rattle.ledger_steps.specs.Intervals.{with_intervals}
use Rattle.ledger_steps.specs.Levels.{present}
use Rattle.hall_model.specs.Step.{Found, call_verdict, cancelled, detached, is_taken, unit_of}
use Rattle.update_records.specs.Ledger.{Ledger}
use Rattle.model_laws.proofs.ByCall.{OfEach, by_call, by_filing, by_stock}
use Rattle.model_laws.proofs.HandedLocks.{handed_good}
use Rattle.model_laws.proofs.EachLock.{may_be_readmitted, every_append}
use Rattle.model_laws.proofs.Resubmissions.{table_in}
use Rattle.hall_laws.proofs.keeping.Restarts.{restart_in_flight}
use Rattle.ledger_steps.specs.Parts.{is_first}

-- the locks of a state, and those that are stored in it
pub over_table : {s : State} → AllByRecursion HasGoodLocks s.stored.units → IsTable (table_in s) → HasSoundLocks s
over_table stored table = record { table = table; stored = stored }

pair_of-IsPair : (start : ℕ) (x : Session) → IsPair (pair_of start x)
pair_of-IsPair start x = and_from _ _ (eq-eqb start start refl) (eq-eqb x.number x.number refl)

freed-good : (t : Table) (names : List LockName) → IsTable t → IsTable (with_entries t (fold freed t.entries names))
freed-good t [] h = h
freed-good t (n ∷ ns) h = freed-good (with_entries t (freed t.entries n)) ns (IsTable-freed t n h)

pub behind-sound : (s : State) (unit : UnitKey) (first : Bool) → IsTable (table_in s)
    → IsTable (with_entries (table_in s) (if first then freed_owner s.locks (Upd unit) else s.locks))
behind-sound s unit true good = IsTable-freed_owner (table_in s) (Upd unit) good
behind-sound s unit false good = good

pub without-sound : (s : State) (unit : UnitKey) (status : Status) → IsTable (table_in s) → IsTable (table_in (cancelled s unit status))
without-sound s unit Open good = IsTable-freed_owner (table_in s) (Upd unit) good
without-sound s unit Posted good = good
without-sound s unit Bad good = good
without-sound s unit Closed good = good
without-sound s unit Bad2 good = good
without-sound s unit Cancelled good = good

-- the two owners of a unit are a pair
owners_of-IsPair : (unit : UnitKey) → IsPair (owners_of unit)
owners_of-IsPair unit = and_from _ _ (eq-eqb unit.start unit.start refl) (eq-eqb unit.session unit.session refl)

both_freed : (s : State) (x : Session) → IsTable (table_in s)
    → IsTable (with_entries (table_in s) (freed_owner (freed_owner s.locks (pair_of s.stored.start x).dialogue) (pair_of s.stored.start x).update))
both_freed s x good =
    let pair = pair_of s.stored.start x in
    IsTable-freed_owner (with_entries (table_in s) (freed_owner s.locks pair.dialogue)) pair.update (IsTable-freed_owner (table_in s) pair.dialogue good)

-- a level that is raised leaves locks and units
raised-sound : (s : State) (i : Interval) (upto : ℕ) → HasSoundLocks s → HasSoundLocks (record s { stored = raised_to i upto s.stored })
raised-sound s i upto good =
    elim (nat_le upto i.level)
    as (λ b. HasSoundLocks (record s { stored = if b then s.stored else with_intervals (stored_as (with_level (block_level i upto) i) ∷ []) s.stored })) [
      | true ↦ over_table good.stored good.table
      | false ↦ over_table good.stored good.table
    ]

drawn-sound : (s : State) (x : Session) (i : Interval) (number : ℕ) → HasSoundLocks s → HasSoundLocks (drawn s x i number)
drawn-sound s x i number good =
    let t : State = record s { sessions = with_session x.name (with_draw (num_of i number)) s.sessions } in
    elim (is_buffered i) as (λ b. HasSoundLocks (if b then record t { ranges = handed_out i t.ranges; stored = raised_to i number t.stored } else t)) [
      | true ↦ let r = raised-sound s i number good in over_table r.stored r.table
      | false ↦ over_table good.stored good.table
    ]

pub none_stands : (limit : ℕ) → limit < 2 ^ 32 → IsTable (record { entries = []; limit = limit })
none_stands limit fits = record { sound = record { names = refl; counts = refl; conflicts = refl }; within = omega arith; limit_fits = fits }

larger_within : (a b : ℕ) → b ≤ larger a b
larger_within a b =
    elim (nat_le a b) as (λ t. nat_le a b ≡ t → b ≤ (if t then b else a)) [ true ↦ λ e. omega arith | false ↦ λ e. grind (arith, nat_tests) ] refl

larger_fits : (a b : ℕ) → a < 2 ^ 32 → b < 2 ^ 32 → larger a b < 2 ^ 32
larger_fits a b h k = elim (nat_le a b) as (λ t. (if t then b else a) < 2 ^ 32) [ true ↦ k | false ↦ h ]

-- ---- no replica

detached-table : (c : Condition) (max limit : ℕ) (es : List Entry) → max < 2 ^ 32 → IsTable (record { entries = es; limit = limit })
    → IsTable (table_for c max (record { entries = es; limit = limit }) [])
detached-table condition.Up max limit es fits good = good
detached-table condition.NoServer max limit es fits good = none_stands (larger max 0) (larger_fits max 0 fits (omega arith))
detached-table (condition.Doubt k) max limit es fits good = none_stands (larger max 0) (larger_fits max 0 fits (omega arith))

pub detached-sound : (s : State) → s.max_locks < 2 ^ 32 → HasSoundLocks s → HasSoundLocks (detached s)
detached-sound s fits good = over_table good.stored (detached-table s.condition s.max_locks s.limit s.locks fits good.table)

-- what a replica has of a table that is gone may stand together too
listed-table : (follows : Bool) (max limit : ℕ) (es : List Entry) → max < 2 ^ 32 → IsTable (record { entries = es; limit = limit })
    → IsTable (replicated max (if follows then es else []))
listed-table true max limit es fits good =
    let within = good.within in
    let limited = good.limit_fits in
    let few : length es < 2 ^ 32 = omega (arith, within, limited) in
    record { sound = good.sound; within = larger_within max (length es); limit_fits = larger_fits max (length es) fits few }
listed-table false max limit es fits good = none_stands (larger max 0) (larger_fits max 0 fits (omega arith))

-- ---- all calls

pub each-sound : (found : Found) (s : State) → IsSteady s → HasOpenUnits s → HasSoundLocks s → OfInFlight s.in_flight (HasStateInFlight s)
    → OfEach (λ call v. MayBeDone call v → HasSoundLocks (judged s v).state) found s
each-sound found s steady units good state_in_flight = record {
  refuses = λ call r plain done. good;
  enters = λ name user free done. over_table good.stored good.table;
  logs_off = λ name x at done. over_table good.stored (both_freed s x good.table);
  grants = λ name x rs locks at e done.
      over_table good.stored (IsTable-asked (table_in s) (pair_of s.stored.start x) x.user rs good.table (pair_of-IsPair s.stored.start x) locks e);
  lowers = λ name x rs at done. over_table good.stored (freed-good (table_in s) (halves (pair_of s.stored.start x) rs) good.table);
  frees = λ name x at done. over_table good.stored (both_freed s x good.table);
  converts = λ name x wanted c at e done.
      over_table good.stored (IsTable-converted (table_in s) (pair_of s.stored.start x) wanted c good.table (pair_of-IsPair s.stored.start x) e);
  draws = λ name x object nr r at can done. drawn-sound s x (present s.stored.levels r.interval) _ good;
  reserves = λ name x object nr upto r at can done. raised-sound s (present s.stored.levels r.interval) upto good;
  reads = λ name x table key at done. good;
  commits_nothing = λ name x parts stock at done. good;
  commits_numbers = λ name x parts stock at done. over_table good.stored good.table;
  commits = λ name x parts stock at done. record {
    table = IsTable-handed_over (table_in s) (unit_key s.stored.start x) good.table;
    stored = every_append HasGoodLocks s.stored.units (unit_of s.stored.start s.locks x parts (x.draws ++ stock) ∷ []) good.stored
        (handed_good (table_in s) s.stored.start x parts (x.draws ++ stock) good.table, tt);
  };
  rolls_back = λ name x at done. over_table good.stored (IsTable-freed_owner (table_in s) (pair_of s.stored.start x).update good.table);
  takes = λ worker part unit free e done. over_table good.stored good.table;
  posts = λ worker part unit e done. over_table good.stored (behind-sound s unit (is_first part) good.table);
  drops = λ worker unit e done. over_table good.stored good.table;
  kills = λ up done. over_table good.stored (listed-table (s.attached && s.link_told) s.max_locks s.limit s.locks steady.locks_fit good.table);
  fails_over = λ can done. over_table good.stored done;
  strays = λ first second none done. detached-sound s steady.locks_fit good;
  attaches = λ up done. over_table good.stored good.table;
  restarts = λ off done. over_table (restart_in_flight (is_taken found.anew) s good.stored steady units state_in_flight).units done;
  cancels = λ unit status can done. over_table good.stored (without-sound s unit status good.table);
  reopens = λ unit es here stand done.
      over_table good.stored
      (IsTable-readmitted (table_in s) (owners_of unit) (entries_of s.stored.units unit) es good.table (owners_of-IsPair unit)
      (may_be_readmitted s.stored.units unit good.stored) stand);
  reposts = λ unit here done. over_table good.stored good.table;
}

pub verdict-sound : (found : Found) (s : State) (call : Call) → IsSteady s → HasSoundLocks s → HasOpenUnits s → OfInFlight s.in_flight (HasStateInFlight s)
    → MayBeDone call (call_verdict found s call) → HasSoundLocks (judged s (call_verdict found s call)).state
verdict-sound found s call steady good units state_in_flight =
    by_call (λ call v. MayBeDone call v → HasSoundLocks (judged s v).state) found s (each-sound found s steady units good state_in_flight) call

-- what calls leave stored with units stands, whatever became of it
stored-good : (found : Found) (s : State) (steady : IsSteady s) → HasOpenUnits s → HasSoundLocks s → OfInFlight s.in_flight (HasStateInFlight s)
    → OfEach (λ call v. AllByRecursion HasGoodLocks (judged s v).state.stored.units) found s
stored-good found s steady units good state_in_flight =
    let each = each-sound found s steady units good state_in_flight in
    record {
      refuses = λ call r plain. good.stored;
      enters = λ name user free. good.stored;
      logs_off = λ name x at. good.stored;
      grants = λ name x rs locks at e. good.stored;
      lowers = λ name x rs at. good.stored;
      frees = λ name x at. good.stored;
      converts = λ name x wanted c at e. good.stored;
      draws = λ name x object nr r at can. (each.draws name x object nr r at can tt).stored;
      reserves = λ name x object nr upto r at can. (each.reserves name x object nr upto r at can tt).stored;
      reads = λ name x table key at. good.stored;
      commits_nothing = λ name x parts stock at. good.stored;
      commits_numbers = λ name x parts stock at. good.stored;
      commits = λ name x parts stock at. (each.commits name x parts stock at tt).stored;
      rolls_back = λ name x at. good.stored;
      takes = λ worker part unit free e. good.stored;
      posts = λ worker part unit e. good.stored;
      drops = λ worker unit e. good.stored;
      kills = λ up. good.stored;
      fails_over = λ can. good.stored;
      strays = λ first second none. good.stored;
      attaches = λ up. good.stored;
      restarts = λ off. (restart_in_flight (is_taken found.anew) s good.stored steady units state_in_flight).units;
      cancels = λ unit status can. good.stored;
      reopens = λ unit es here stand. good.stored;
      reposts = λ unit here. good.stored;
    }

pub verdict-stored : (found : Found) (s : State) (call : Call) → IsSteady s → HasSoundLocks s → HasOpenUnits s → OfInFlight s.in_flight (HasStateInFlight s)
    → AllByRecursion HasGoodLocks (judged s (call_verdict found s call)).state.stored.units
verdict-stored found s call steady good units state_in_flight =
    by_call (λ call v. AllByRecursion HasGoodLocks (judged s v).state.stored.units) found s (stored-good found s steady units good state_in_flight) call

abbrev StoredGood : State → Call → Option Bool → Ledger → Type 0
StoredGood s call read stored = HasSoundLocks (unfiled s call read stored)

unfiled-sound : (s : State) (call : Call) (read : Option Bool) (stored : Ledger) → s.max_locks < 2 ^ 32 → AllByRecursion HasGoodLocks stored.units
    → StoredGood s call read stored
unfiled-sound s call read stored fits units = over_table units (none_stands (larger s.max_locks 0) (larger_fits s.max_locks 0 fits (omega arith)))

failing-sound : (s : State) (call : Call) (in_flight : Option Ledger) → s.max_locks < 2 ^ 32 → HasSoundLocks s
    → HasSoundLocks (doubted (without_stock call s) call None in_flight)
failing-sound s call in_flight fits good =
    let none = none_stands (larger s.max_locks 0) (larger_fits s.max_locks 0 fits (omega arith)) in
    by_stock (λ other t. HasSoundLocks (doubted t other None in_flight)) s
    (λ name parts stock. over_table good.stored none) (λ other. over_table good.stored none) call

ended-sound : (e : Event) (reading : Reading) (s : State) (call : Call) → IsSteady s → HasSoundLocks s → HasOpenUnits s
    → OfInFlight s.in_flight (HasStateInFlight s)
    → MayHappen e s call (call_verdict (found_by reading s) s call) → HasSoundLocks (ends_in e reading s call (call_verdict (found_by reading s) s call)).state
ended-sound AllWell reading s call steady good units state_in_flight may = verdict-sound (found_by reading s) s call steady good units state_in_flight may
ended-sound Wanting reading s call steady good units state_in_flight may = good
ended-sound StoreFails reading s call steady good units state_in_flight may = failing-sound s call _ steady.locks_fit good
ended-sound BackupFails reading s call steady good units state_in_flight may =
    let found = found_by reading s in
    let read = read_anew reading in
    let fits = steady.locks_fit in
    by_filing (StoredGood s call read) found s call (unfiled-sound s call read s.stored fits good.stored)
    (λ worker part unit e. unfiled-sound s call read _ fits good.stored) (λ unit status can. unfiled-sound s call read _ fits good.stored)
ended-sound LinkFails reading s call steady good units state_in_flight may = detached-sound s steady.locks_fit good
ended-sound (NotRemade fault) reading s call steady good units state_in_flight may =
    over_table good.stored (none_stands (larger s.max_locks 0) (larger_fits s.max_locks 0 steady.locks_fit (omega arith)))

pub served-sound : (o : DeviceOutcome) (s : State) (c : Command) → IsPossible o s c → IsSteady s → HasSoundLocks s → HasOpenUnits s
    → OfInFlight s.in_flight (HasStateInFlight s)
    → HasSoundLocks (served o s c).state
served-sound o s c possible steady good units state_in_flight =
    let done = ended-sound o.event o.reading s (call_of c) steady good units state_in_flight possible.event in
    over_table done.stored done.table
