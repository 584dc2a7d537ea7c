-- How a run of sending ends.
use Rattle.std.proofs.Common.{◌≡◌, ℕ, zero, suc, ◌+◌, ◌*◌, ◌^◌, ◌<◌, ◌≤◌, vec_len, inl, inr, ⊎_elim, Bool, true, false, cond, List, [], ◌∷◌, ◌++◌, length}
use Rattle.std.proofs.Common.{is_some, Option, Some, None, option_map, IfSome, Result, Ok, Err, OnOk, refl, sym, ap, subst, ◌∙◌, arith}
use Rattle.std.specs.Global.{Vec}
use Rattle.std.specs.Io.KnownBytes.{Appends}
use Rattle.enq_base.specs.Causes.{Rose}
use Rattle.io_edge.specs.Known.{AppendsFirst}
use Rattle.keeper_api.specs.Keeping.{IsOnly, IsWithin}
use Rattle.keeper_api.specs.Rows.{Rows}
use Rattle.remote_target.specs.Runs.{Execution}
use Rattle.remote_sending.specs.declared.fault.SendFault.{SendFault}
use Rattle.remote_sending.specs.declared.fault.SendFault.TheVariants as fault
use Rattle.remote_sending.specs.declared.outbox.OutboxCall.{OutboxCall}
use Rattle.remote_sending.specs.declared.report.Counts.{Counts}
use Rattle.remote_sending.specs.declared.sending.TrfcWhy.{TrfcWhy}
use Rattle.remote_sending.specs.declared.sending.TrfcWhy.TheVariants.{Done, BadWords, SinkFault, SystemFault, OutboxFault, BadRow, NoMemory}
use Rattle.remote_sending.specs.Outbox.{first_bad, outbox_calls, system_calls}
use Rattle.remote_sending.specs.Growing.{AllStand, AreCallsOf, AreOpenBefore, IsGrown, IsUnderWay}
use Rattle.remote_sending.specs.Report.{Writes, call_lines, counts_line, last_line, report}
use Rattle.remote_sending.specs.Sends.{EndsAs, IsAllSent, IsBadWords, IsDoneOrShort, IsOpenedEnd, IsOutboxEnd, IsKeeperEnd, IsSendEnd, IsSent, IsSinkEnd, IsSystemEnd, IsUntouched, MayBeClosed}
use Rattle.remote_sending.specs.Sends.{OnBadRow, OnDone, RisesIf, RoseBy, ended_as, is_outbox_fault, is_sink_fault, is_system_fault, open_number, why_behind}
use Rattle.remote_sending.proofs.Grown.{from_none, grown_itself, grown_more, open_before, still_stand}
use Rattle.remote_sending.proofs.Lines.{appends_both, first_more, first_part}
use Rattle.remote_sending.proofs.Spelled.{none_bad}

-- ---- faults and counts

pub calm_sink : (why : TrfcWhy) (n : ℕ) → IsOutboxEnd why → RisesIf (is_sink_fault why) n n
calm_sink Done n h = refl
calm_sink BadWords n h = refl
calm_sink SinkFault n h = absurd h
calm_sink SystemFault n h = refl
calm_sink OutboxFault n h = refl
calm_sink (BadRow table row) n h = refl
calm_sink NoMemory n h = refl

pub calm_outbox : (why : TrfcWhy) (n : ℕ) → IsSinkEnd why → RisesIf (is_outbox_fault why) n n
calm_outbox Done n h = refl
calm_outbox BadWords n h = refl
calm_outbox SinkFault n h = refl
calm_outbox SystemFault n h = refl
calm_outbox OutboxFault n h = absurd h
calm_outbox (BadRow table row) n h = refl
calm_outbox NoMemory n h = refl

pub calm_keeper : (why : TrfcWhy) (n : ℕ) → IsKeeperEnd why → RisesIf (is_sink_fault why) n n
calm_keeper Done n h = refl
calm_keeper BadWords n h = refl
calm_keeper SinkFault n h = absurd h
calm_keeper SystemFault n h = refl
calm_keeper OutboxFault n h = refl
calm_keeper (BadRow table row) n h = refl
calm_keeper NoMemory n h = refl

pub calm_outbox_from : (why : TrfcWhy) (before now : ℕ) → IsSinkEnd why → now ≡ before → RisesIf (is_outbox_fault why) before now
calm_outbox_from why before now h same = subst (λ n. RisesIf (is_outbox_fault why) before n) (sym same) (calm_outbox why before h)

pub keeper_is_send : (why : TrfcWhy) → IsKeeperEnd why → IsSendEnd why
keeper_is_send Done h = tt
keeper_is_send BadWords h = absurd h
keeper_is_send SinkFault h = absurd h
keeper_is_send SystemFault h = absurd h
keeper_is_send OutboxFault h = tt
keeper_is_send (BadRow table row) h = absurd h
keeper_is_send NoMemory h = tt

pub rises_from : (b : Bool) (first before now : ℕ) → before ≡ first → RisesIf b before now → RisesIf b first now
rises_from b first before now same h = subst (λ n. RisesIf b n now) same h

pub no_bad_row : (why : TrfcWhy) (P : ℕ → ℕ → Type 0) → IsSendEnd why → OnBadRow why P
no_bad_row Done P h = tt
no_bad_row BadWords P h = tt
no_bad_row SinkFault P h = tt
no_bad_row SystemFault P h = tt
no_bad_row OutboxFault P h = tt
no_bad_row (BadRow table row) P h = absurd h
no_bad_row NoMemory P h = tt

pub sink_is_send : (why : TrfcWhy) → IsSinkEnd why → IsSendEnd why
sink_is_send Done h = tt
sink_is_send BadWords h = absurd h
sink_is_send SinkFault h = tt
sink_is_send SystemFault h = absurd h
sink_is_send OutboxFault h = absurd h
sink_is_send (BadRow table row) h = absurd h
sink_is_send NoMemory h = tt

pub send_is_opened : (why : TrfcWhy) → IsSendEnd why → IsOpenedEnd why
send_is_opened Done h = tt
send_is_opened BadWords h = absurd h
send_is_opened SinkFault h = tt
send_is_opened SystemFault h = absurd h
send_is_opened OutboxFault h = tt
send_is_opened (BadRow table row) h = absurd h
send_is_opened NoMemory h = tt

pub outbox_is_opened : (why : TrfcWhy) → IsOutboxEnd why → IsOpenedEnd why
outbox_is_opened Done h = tt
outbox_is_opened BadWords h = absurd h
outbox_is_opened SinkFault h = absurd h
outbox_is_opened SystemFault h = absurd h
outbox_is_opened OutboxFault h = tt
outbox_is_opened (BadRow table row) h = tt
outbox_is_opened NoMemory h = tt

-- ---- what was written

pub writes_failed : (fault : SendFault) (old new : Option (List ℕ)) (text : List ℕ) → AppendsFirst old new text → Writes (why_behind fault) old new text
writes_failed fault.Sink old new text h = h
writes_failed fault.System old new text h = h
writes_failed fault.Outbox old new text h = h
writes_failed (fault.BadRow table row) old new text h = h
writes_failed fault.NoMemory old new text h = h

pub nothing_written : (fault : SendFault) (held now : Option Rows) (w : Option (List ℕ)) → ((xs : List ℕ) → AppendsFirst w w xs)
    → IfSome held (λ found. IfSome now (λ now. Writes (why_behind fault) w w (report found now)))
nothing_written fault None now w none = tt
nothing_written fault (Some found) None w none = tt
nothing_written fault (Some found) (Some now) w none = writes_failed fault w w (report found now) (none (report found now))

-- ---- in an opened outbox

-- each map that may be left has grown, and nothing was executed yet
abbrev pub NoneExecuted : Option (List OutboxCall) → Option Rows → (Rows → Type 0) → Type 0
NoneExecuted told held may = IfSome held (λ found. (left : Rows) → may left → IsGrown told (Some []) found left)

pub none_executed : (told : Option (List OutboxCall)) (runs : Option (List Execution)) (held : Option Rows) (may : Rows → Type 0) → NoneExecuted told held may
    → IfSome held (λ found. (left : Rows) → may left → IsGrown told runs found left)
none_executed told runs None may h = tt
none_executed told runs (Some found) may h = λ left at. grown_more told (Some []) runs found left (from_none runs) (h left at)

pub opened_grown : (told : Option (List OutboxCall)) (was runs : Option (List Execution)) (held mid : Option Rows) (may later : Rows → Type 0)
    (calls : List OutboxCall) → is_some mid ≡ is_some held
    → NoneExecuted told held may → IfSome mid may → IfSome mid (λ rows. AreCallsOf rows calls)
    → ((found : Rows) → IfSome mid (λ rows. IsUnderWay told was found rows calls → (left : Rows) → later left → IsGrown told runs found left))
    → IfSome held (λ found. (left : Rows) → later left → IsGrown told runs found left)
opened_grown told was runs None mid may later calls same none there spelled step = tt
opened_grown told was runs (Some found) None may later calls same none there spelled step = absurd cc
opened_grown told was runs (Some found) (Some rows) may later calls same none there spelled step =
    step found (record { grown = grown_more told (Some []) was found rows (from_none was) (none rows there); spelled = spelled })

open_in : (found : Rows) (mid : Option Rows) (may : Rows → Type 0) (calls : List OutboxCall) → is_some mid ≡ true
    → ((left : Rows) → may left → IsGrown None (Some []) found left) → IfSome mid may
    → IfSome mid (λ rows. AreCallsOf rows calls) → AreOpenBefore found calls
open_in found None may calls same none there spelled = absurd cc
open_in found (Some rows) may calls same none there spelled = open_before None found rows [] calls (none rows there) spelled

-- where sending stopped, a beginning of the report was written
pub opened_stopped : (fault : SendFault) (held mid new : Option Rows) (may : Rows → Type 0) (calls : List OutboxCall) (old now : Option (List ℕ))
    → is_some mid ≡ is_some held
    → NoneExecuted None held may → IfSome mid may → IfSome mid (λ rows. AreCallsOf rows calls)
    → ((found : Rows) → AreOpenBefore found calls → IfSome mid (λ rows. AreCallsOf rows calls)
    → IfSome new (λ rows. AppendsFirst old now (call_lines found (outbox_calls rows))))
    → IfSome held (λ found. IfSome new (λ rows. Writes (why_behind fault) old now (report found rows)))
opened_stopped fault None mid new may calls old now same none there spelled stops = tt
opened_stopped fault (Some found) mid new may calls old now same none there spelled stops =
    stopped_at fault found new old now (stops found (open_in found mid may calls same none there spelled) spelled)
  where
    stopped_at : (fault : SendFault) (found : Rows) (new : Option Rows) (old now : Option (List ℕ))
        → IfSome new (λ rows. AppendsFirst old now (call_lines found (outbox_calls rows)))
        → IfSome new (λ rows. Writes (why_behind fault) old now (report found rows))
    stopped_at fault found None old now h = tt
    stopped_at fault found (Some rows) old now h =
        writes_failed fault old now (report found rows) (first_part old now (call_lines found (outbox_calls rows)) (last_line (outbox_calls rows)) h)

-- all was sent, as `send_open` says it
abbrev pub SendsAll : Option Rows → Option Rows → List OutboxCall → Counts → Option (List ℕ) → Option (List ℕ) → Type 0
SendsAll mid new calls counts old now = (found : Rows) → AreOpenBefore found calls → IfSome mid (λ rows. AreCallsOf rows calls)
    → IfSome new (λ rows. IsAllSent found rows (length calls) counts old now)

last_is : (found now : Rows) (number : ℕ) (counts : Counts) (old new : Option (List ℕ)) → IsAllSent found now number counts old new
    → counts_line number counts ≡ last_line (outbox_calls now)
last_is found now number counts old new h = λ i. counts_line (sym h.number_is i) (h.numbers i)

told_all : (r : Result Unit SendFault) (found now : Rows) (number : ℕ) (counts : Counts) (old mid new : Option (List ℕ))
    → IsAllSent found now number counts old mid
    → OnOk r (Appends mid new (counts_line number counts)) → AppendsFirst mid new (counts_line number counts) → Writes (ended_as r) old new (report found now)
told_all (Ok u) found now number counts old mid new h ok first =
    appends_both old mid new (call_lines found (outbox_calls now)) (last_line (outbox_calls now)) h.lines
    (subst (Appends mid new) (last_is found now number counts old mid h) ok)
told_all (Err fault) found now number counts old mid new h ok first =
    writes_failed fault old new (report found now)
    (first_more old mid new (call_lines found (outbox_calls now)) (last_line (outbox_calls now)) h.lines
    (subst (AppendsFirst mid new) (last_is found now number counts old mid h) first))

pub opened_told : (r : Result Unit SendFault) (held mid new : Option Rows) (may : Rows → Type 0) (calls : List OutboxCall) (number : ℕ) (counts : Counts)
    (old between now : Option (List ℕ)) → is_some mid ≡ is_some held
    → NoneExecuted None held may → IfSome mid may → IfSome mid (λ rows. AreCallsOf rows calls) → SendsAll mid new calls counts old between
    → number ≡ length calls
    → OnOk r (Appends between now (counts_line number counts)) → AppendsFirst between now (counts_line number counts)
    → IfSome held (λ found. IfSome new (λ rows. Writes (ended_as r) old now (report found rows)))
opened_told r None mid new may calls number counts old between now same none there spelled sends is ok first = tt
opened_told r (Some found) mid new may calls number counts old between now same none there spelled sends is ok first =
    told_at r found new number counts old between now
    (subst (λ n. IfSome new (λ rows. IsAllSent found rows n counts old between)) (sym is)
    (sends found (open_in found mid may calls same none there spelled) spelled)) ok first
  where
    told_at : (r : Result Unit SendFault) (found : Rows) (new : Option Rows) (number : ℕ) (counts : Counts) (old between now : Option (List ℕ))
        → IfSome new (λ rows. IsAllSent found rows number counts old between)
        → OnOk r (Appends between now (counts_line number counts)) → AppendsFirst between now (counts_line number counts)
        → IfSome new (λ rows. Writes (ended_as r) old now (report found rows))
    told_at r found None number counts old between now h ok first = tt
    told_at r found (Some rows) number counts old between now h ok first = told_all r found rows number counts old between now h ok first

-- some rows were found where any are held
any_found : (held mid : Option Rows) (new : Option Rows) (may : Rows → Type 0) (calls : List OutboxCall) (counts : Counts) (old now : Option (List ℕ))
    (P : Rows → Type 0) → is_some mid ≡ is_some held → is_some new ≡ is_some mid
    → NoneExecuted None held may → IfSome mid may → IfSome mid (λ rows. AreCallsOf rows calls) → SendsAll mid new calls counts old now
    → ((found rows : Rows) → IsAllSent found rows (length calls) counts old now → P rows) → IfSome new P
any_found held mid None may calls counts old now P same told none there spelled sends apply = tt
any_found None None (Some rows) may calls counts old now P same told none there spelled sends apply = absurd cc
any_found None (Some e) (Some rows) may calls counts old now P same told none there spelled sends apply = absurd cc
any_found (Some found) mid (Some rows) may calls counts old now P same told none there spelled sends apply =
    apply found rows (sends found (open_in found mid may calls same none there spelled) spelled)

pub good_now : (held mid new : Option Rows) (may : Rows → Type 0) (calls : List OutboxCall) (counts : Counts) (old now : Option (List ℕ))
    → is_some mid ≡ is_some held → is_some new ≡ is_some mid
    → NoneExecuted None held may → IfSome mid may → IfSome mid (λ rows. AreCallsOf rows calls) → SendsAll mid new calls counts old now
    → IfSome new (λ rows. first_bad rows ≡ None)
good_now held mid new may calls counts old now same told none there spelled sends =
    any_found held mid new may calls counts old now (λ rows. first_bad rows ≡ None) same told none there spelled sends (λ found rows h. h.good)

pub missed_now : (held mid new : Option Rows) (may : Rows → Type 0) (calls : List OutboxCall) (counts : Counts) (old now : Option (List ℕ)) (before after : ℕ)
    → is_some mid ≡ is_some held → is_some new ≡ is_some mid
    → NoneExecuted None held may → IfSome mid may → IfSome mid (λ rows. AreCallsOf rows calls) → SendsAll mid new calls counts old now
    → RoseBy (8 * counts.open_calls) before after
    → IfSome new (λ rows. RoseBy (8 * open_number rows) before after)
missed_now held mid new may calls counts old now before after same told none there spelled sends rose =
    any_found held mid new may calls counts old now (λ rows. RoseBy (8 * open_number rows) before after) same told none there spelled sends
    (λ found rows h. subst (λ (n : Counts). RoseBy (8 * n.open_calls) before after) h.numbers rose)

pub all_stand : (was runs : Option (List Execution)) (mid new : Option Rows) (later : Rows → Type 0) (calls collected : List OutboxCall)
    → IfSome mid (λ rows. AreCallsOf rows calls) → IfSome new later
    → is_some new ≡ is_some mid → ((found : Rows)
    → IfSome mid (λ rows. IsUnderWay None was found rows calls → (left : Rows) → later left → IsGrown None runs found left))
    → IfSome mid (AllStand collected) → IfSome new (AllStand collected)
all_stand was runs mid None later calls collected spelled there same step stand = tt
all_stand was runs None (Some now) later calls collected spelled there same step stand = absurd cc
all_stand was runs (Some rows) (Some now) later calls collected spelled there same step stand =
    still_stand None runs collected rows now (step rows (record { grown = grown_itself None was rows; spelled = spelled }) now there) stand

pub ok_of : (T : Type 0) (r : Result T SendFault) (P : Type 0) → P → OnOk r P
ok_of T (Ok u) P h = h
ok_of T (Err fault) P h = tt

pub on_ok : (r : Result Unit SendFault) (P : Type 0) → P → OnOk r P
on_ok (Ok u) P h = h
on_ok (Err fault) P h = tt

-- a bad row is none where nothing was wrong, or it was found in the first reading
pub bad_late : (why : TrfcWhy) (held mid : Option Rows) → is_some mid ≡ is_some held → IfSome mid (λ rows. first_bad rows ≡ None)
    → OnBadRow why (λ table row. (table ≡ 0) × IfSome mid (λ rows. first_bad rows ≡ Some row))
    → OnBadRow why (λ table row. (table ≡ 0) × IfSome held (λ found. first_bad found ≡ Some row))
bad_late Done held mid same good h = tt
bad_late BadWords held mid same good h = tt
bad_late SinkFault held mid same good h = tt
bad_late SystemFault held mid same good h = tt
bad_late OutboxFault held mid same good h = tt
bad_late (BadRow table row) None mid same good h = (h.0, tt)
bad_late (BadRow table row) (Some found) None same good h = absurd cc
bad_late (BadRow table row) (Some found) (Some rows) same good h = absurd (not_bad row (sym good ∙ h.1))
  where
    not_bad : (row : ℕ) → None ≡ Some row → ⊥
    not_bad row h = cc
bad_late NoMemory held mid same good h = tt

pub first_good : (held : Option Rows) (calls : List OutboxCall) → IfSome held (λ rows. AreCallsOf rows calls) → IfSome held (λ rows. first_bad rows ≡ None)
first_good None calls h = tt
first_good (Some rows) calls h = none_bad rows calls h

pub same_good : (held mid : Option Rows) → mid ≡ held → IfSome held (λ rows. first_bad rows ≡ None) → IfSome mid (λ rows. first_bad rows ≡ None)
same_good held mid same h = subst (λ (m : Option Rows). IfSome m (λ rows. first_bad rows ≡ None)) (sym same) h

-- nothing was changed
pub unchanged : (told : Option (List OutboxCall)) (held : Option Rows) (old may : Rows → Type 0) → IfSome held (λ rows. IsOnly rows old) → IsWithin may old
    → NoneExecuted told held may
unchanged told None old may only within = tt
unchanged told (Some rows) old may only within = λ left h. subst (IsGrown told (Some []) rows) (sym (only.alone left (within left h)))
    (grown_itself told (Some []) rows)

-- what was collected over rows that are as they were found
pub collected_over : (told : Option (List OutboxCall)) (calls : List OutboxCall) (held mid : Option Rows) (may : Rows → Type 0) → mid ≡ held
    → IfSome told (λ t. t ≡ calls)
    → ((found : Rows) (told : Option (List OutboxCall)) (runs : Option (List Execution)) → IfSome told (λ t. t ≡ calls) → IfSome mid (IsGrown told runs found)
    → (left : Rows) → IfSome mid (λ _. may left → IsGrown told runs found left))
    → NoneExecuted told held may
collected_over told calls None mid may same is step = tt
collected_over told calls (Some rows) mid may same is step =
    subst (λ (m : Option Rows). ((found : Rows) (told : Option (List OutboxCall)) (runs : Option (List Execution)) → IfSome told (λ t. t ≡ calls)
    → IfSome m (IsGrown told runs found)
    → (left : Rows) → IfSome m (λ _. may left → IsGrown told runs found left))) same step rows told (Some []) is (grown_itself told (Some []) rows)

-- and then read once more
pub read_over : (told : Option (List OutboxCall)) (held : Option Rows) (may later : Rows → Type 0) → NoneExecuted told held may → IsWithin later may
    → NoneExecuted told held later
read_over told None may later h within = tt
read_over told (Some rows) may later h within = λ left at. h left (within left at)

-- a list that stands in memory
pub vec_long : (v : Vec OutboxCall) (slice : List OutboxCall) → slice ≡ v.items → vec_len v ≡ length slice
vec_long v slice same =
    let long = v.ok.0 in
    let is = ap length same in
    omega (arith, long, is)

pub vec_few : (v : Vec OutboxCall) (slice : List OutboxCall) → slice ≡ v.items → length slice < 2 ^ 63
vec_few v slice same =
    let long = v.ok.0 in
    let room = v.ok.1 in
    let small = v.small in
    let is = ap length same in
    omega (arith, long, room, small, is)

pub sliced : (held : Option Rows) (slice items : List OutboxCall) → slice ≡ items → IfSome held (λ rows. AreCallsOf rows items)
    → IfSome held (λ rows. AreCallsOf rows slice)
sliced held slice items same h = subst (λ cs. IfSome held (λ rows. AreCallsOf rows cs)) (sym same) h

-- ---- the whole run

pub system_closed : (fault : SendFault) → IsSystemEnd (why_behind fault) → MayBeClosed (why_behind fault)
system_closed fault.Sink h = absurd h
system_closed fault.System h = tt
system_closed fault.Outbox h = tt
system_closed (fault.BadRow table row) h = absurd h
system_closed fault.NoMemory h = tt

pub keeper_closed : (fault : SendFault) → IsKeeperEnd (why_behind fault) → MayBeClosed (why_behind fault)
keeper_closed fault.Sink h = absurd h
keeper_closed fault.System h = tt
keeper_closed fault.Outbox h = tt
keeper_closed (fault.BadRow table row) h = absurd h
keeper_closed fault.NoMemory h = tt

pub on_some : (held : Option Rows) (P : Type 0) → P → IfSome held (λ _. P)
on_some None P h = tt
on_some (Some rows) P h = h

abbrev pub told_calls : Option Rows → Option (List OutboxCall)
told_calls held = option_map system_calls held

told_new : (system : Option Rows) (new read : List OutboxCall) → read ≡ new → IfSome system (λ rows. new ≡ system_calls rows)
    → IfSome (told_calls system) (λ t. t ≡ read)
told_new None new read same h = tt
told_new (Some rows) new read same h = sym h ∙ sym same

good_of : (r : Result Unit SendFault) (P : Type 0) → OnOk r P → OnDone (ended_as r) P
good_of (Ok u) P h = h
good_of (Err fault.Sink) P h = tt
good_of (Err fault.System) P h = tt
good_of (Err fault.Outbox) P h = tt
good_of (Err (fault.BadRow table row)) P h = tt
good_of (Err fault.NoMemory) P h = tt

pub on_done : (r : Result Unit SendFault) (P : Type 0) → OnOk r P → OnDone (ended_as r) P
on_done r P h = good_of r P h

-- a run of an opened outbox is one of the whole
pub run_sent : (r : Result Unit SendFault) (system held mid now : Option Rows) (runs : Option (List Execution)) (before after : Rows → Type 0)
    (new read : List OutboxCall) (old written : Option (List ℕ))
    → is_some mid ≡ is_some held → IfSome mid before → read ≡ new → IfSome system (λ rows. new ≡ system_calls rows)
    → ((told : Option (List OutboxCall)) → IfSome told (λ t. t ≡ read) → IfSome mid (λ found. (left : Rows) → after left → IsGrown told runs found left))
    → IfSome mid (λ found. IfSome now (λ rows. Writes (ended_as r) old written (report found rows)))
    → OnBadRow (ended_as r) (λ table row. (table ≡ 0) × IfSome mid (λ found. first_bad found ≡ Some row))
    → OnOk r (IfSome mid (λ found. first_bad found ≡ None))
    → IfSome held (λ _. EndsAs (told_calls system) runs (ended_as r) before after now old written)
run_sent r system None mid now runs before after new read old written same there is calls grown wrote bad good = tt
run_sent r system (Some start) None now runs before after new read old written same there is calls grown wrote bad good = absurd cc
run_sent r system (Some start) (Some found) now runs before after new read old written same there is calls grown wrote bad good = inr (record {
  found = found;
  was_left = there;
  grown = grown (told_calls system) (told_new system new read is calls);
  written = wrote;
  bad = bad;
  good = good_of r (first_bad found ≡ None) good;
})

pub stand_told : (system now : Option Rows) (new read : List OutboxCall) → read ≡ new → IfSome system (λ rows. new ≡ system_calls rows)
    → IfSome now (AllStand read)
    → IfSome system (λ rows. IfSome now (AllStand (system_calls rows)))
stand_told None now new read same h stand = tt
stand_told (Some rows) now new read same h stand = subst (λ cs. IfSome now (AllStand cs)) (same ∙ h) stand

pub stand_done : (r : Result Unit SendFault) (system now : Option Rows) (new read : List OutboxCall) → read ≡ new
    → IfSome system (λ rows. new ≡ system_calls rows)
    → OnOk r (IfSome now (AllStand read)) → OnDone (ended_as r) (IfSome system (λ rows. IfSome now (AllStand (system_calls rows))))
stand_done (Ok u) system now new read same h stand = stand_told system now new read same h stand
stand_done (Err fault.Sink) system now new read same h stand = tt
stand_done (Err fault.System) system now new read same h stand = tt
stand_done (Err fault.Outbox) system now new read same h stand = tt
stand_done (Err (fault.BadRow table row)) system now new read same h stand = tt
stand_done (Err fault.NoMemory) system now new read same h stand = tt

-- the system or the outbox wasn't opened
pub closed_by_system : (fault : SendFault) (first held : Option Rows) (calls : Option (List OutboxCall)) (runs : Option (List Execution))
    (may : Rows → Type 0) (w : Option (List ℕ)) → IsSystemEnd (why_behind fault)
    → IfSome first (λ _. EndsAs calls runs (why_behind fault) may may held w w)
closed_by_system fault first held calls runs may w h =
    on_some first (EndsAs calls runs (why_behind fault) may may held w w)
    (inl (record { closed = system_closed fault h; left = λ left at. at; written = refl }))

pub closed_by_outbox : (fault : SendFault) (first held : Option Rows) (calls : Option (List OutboxCall)) (runs : Option (List Execution))
    (before after : Rows → Type 0) (w : Option (List ℕ)) → IsKeeperEnd (why_behind fault)
    → IsWithin after before → IfSome first (λ _. EndsAs calls runs (why_behind fault) before after held w w)
closed_by_outbox fault first held calls runs before after w h within =
    on_some first (EndsAs calls runs (why_behind fault) before after held w w) (inl (record { closed = keeper_closed fault h; left = within; written = refl }))

pub not_bad_words : (why : TrfcWhy) → IsOpenedEnd why → IsBadWords true why
not_bad_words Done h = tt
not_bad_words BadWords h = absurd h
not_bad_words SinkFault h = tt
not_bad_words SystemFault h = tt
not_bad_words OutboxFault h = tt
not_bad_words (BadRow table row) h = tt
not_bad_words NoMemory h = tt

pub never_bad_words : (fault : SendFault) → IsBadWords true (why_behind fault)
never_bad_words fault.Sink = tt
never_bad_words fault.System = tt
never_bad_words fault.Outbox = tt
never_bad_words (fault.BadRow table row) = tt
never_bad_words fault.NoMemory = tt

pub system_calm : (why : TrfcWhy) (before now : ℕ) → IsOpenedEnd why → now ≡ before → RisesIf (is_system_fault why) before now
system_calm Done before now h same = same
system_calm BadWords before now h same = absurd h
system_calm SinkFault before now h same = same
system_calm SystemFault before now h same = absurd h
system_calm OutboxFault before now h same = same
system_calm (BadRow table row) before now h same = same
system_calm NoMemory before now h same = same

-- a run that ended before it wrote or sent
pub sink_calm : (fault : SendFault) (n : ℕ) → IsSystemEnd (why_behind fault) → RisesIf (is_sink_fault (why_behind fault)) n n
sink_calm fault.Sink n h = absurd h
sink_calm fault.System n h = refl
sink_calm fault.Outbox n h = refl
sink_calm (fault.BadRow table row) n h = refl
sink_calm fault.NoMemory n h = refl

pub outbox_calm : (fault : SendFault) (n : ℕ) → IsSystemEnd (why_behind fault) → RisesIf (is_outbox_fault (why_behind fault)) n n
outbox_calm fault.Sink n h = refl
outbox_calm fault.System n h = refl
outbox_calm fault.Outbox n h = absurd h
outbox_calm (fault.BadRow table row) n h = refl
outbox_calm fault.NoMemory n h = refl

pub keeper_sink_calm : (fault : SendFault) (n : ℕ) → IsKeeperEnd (why_behind fault) → RisesIf (is_sink_fault (why_behind fault)) n n
keeper_sink_calm fault n h = calm_keeper (why_behind fault) n h

pub keeper_system_calm : (fault : SendFault) (before now : ℕ) → IsKeeperEnd (why_behind fault) → now ≡ before
    → RisesIf (is_system_fault (why_behind fault)) before now
keeper_system_calm fault.Sink before now h same = same
keeper_system_calm fault.System before now h same = absurd h
keeper_system_calm fault.Outbox before now h same = same
keeper_system_calm (fault.BadRow table row) before now h same = same
keeper_system_calm fault.NoMemory before now h same = same

pub failed_not_done : (fault : SendFault) (P : Type 0) → OnDone (why_behind fault) P
failed_not_done fault.Sink P = tt
failed_not_done fault.System P = tt
failed_not_done fault.Outbox P = tt
failed_not_done (fault.BadRow table row) P = tt
failed_not_done fault.NoMemory P = tt

pub by_words : (send result : Bool) → result ≡ send → result ≡ false → IsBadWords send BadWords
by_words true result is h = absurd (true_not_false (sym is ∙ h))
  where
    true_not_false : true ≡ false → ⊥
    true_not_false h = cc
by_words false result is h = tt

pub send_words : (send result : Bool) (why : TrfcWhy) → result ≡ send → result ≡ true → IsBadWords true why → IsBadWords send why
send_words send result why is h end = subst (λ b. IsBadWords b why) (sym h ∙ is) end

-- ---- no call stays open

none_open : (n before now : ℕ) → RoseBy (8 * n) before now → (Rose before now → ⊥) → n ≡ 0
none_open zero before now rose still = refl
none_open (suc n) before now rose still = absurd (still (omega (arith, rose)))

pub answered : (why : TrfcWhy) (held : Option Rows) (before now : ℕ) → OnDone why (IfSome held (λ rows. RoseBy (8 * open_number rows) before now))
    → OnDone why (IfSome held (λ rows. (Rose before now → ⊥) → open_number rows ≡ 0))
answered Done None before now h = tt
answered Done (Some rows) before now h = λ still. none_open (open_number rows) before now h still
answered BadWords held before now h = tt
answered SinkFault held before now h = tt
answered SystemFault held before now h = tt
answered OutboxFault held before now h = tt
answered (BadRow table row) held before now h = tt
answered NoMemory held before now h = tt

bad_row_found : (calls : Option (List OutboxCall)) (runs : Option (List Execution)) (table row : ℕ) (before after : Rows → Type 0) (held : Option Rows)
    (old new : Option (List ℕ))
    → EndsAs calls runs (BadRow table row) before after held old new → ((left : Rows) → before left → first_bad left ≡ None) → ⊥
bad_row_found calls runs table row before after held old new ends good =
    ⊎_elim (λ (u : IsUntouched (BadRow table row) before after old new). u.closed)
    (λ (s : IsSent calls runs (BadRow table row) before after held old new). let is = s.bad.1 in let none = good s.found s.was_left in no_row row
    (sym is ∙ none)) ends
  where
    no_row : (row : ℕ) → Some row ≡ None → ⊥
    no_row row h = cc

-- with no count risen and an outbox in its grammar the run was done, or memory was wanting
pub completes : (send : Bool) (why : TrfcWhy) (calls : Option (List OutboxCall)) (runs : Option (List Execution)) (before after : Rows → Type 0)
    (first held : Option Rows) (old new : Option (List ℕ))
    (sink sink_now system system_now outbox outbox_now : ℕ) → IsBadWords send why → send ≡ true
    → IfSome first (λ _. EndsAs calls runs why before after held old new)
    → RisesIf (is_sink_fault why) sink sink_now → RisesIf (is_system_fault why) system system_now → RisesIf (is_outbox_fault why) outbox outbox_now
    → IfSome first (λ _. ((left : Rows) → before left → first_bad left ≡ None) → (Rose sink sink_now → ⊥) → (Rose system system_now → ⊥)
    → (Rose outbox outbox_now → ⊥) → IsDoneOrShort why)
completes send why calls runs before after None held old new s sn y yn o on words is ends a b c = tt
completes false why calls runs before after (Some start) held old new s sn y yn o on words is ends a b c = absurd cc
completes true Done calls runs before after (Some start) held old new s sn y yn o on words is ends a b c = λ good p q r. tt
completes true BadWords calls runs before after (Some start) held old new s sn y yn o on words is ends a b c = absurd words
completes true SinkFault calls runs before after (Some start) held old new s sn y yn o on words is ends a b c = λ good p q r. absurd (p a)
completes true SystemFault calls runs before after (Some start) held old new s sn y yn o on words is ends a b c = λ good p q r. absurd (q b)
completes true OutboxFault calls runs before after (Some start) held old new s sn y yn o on words is ends a b c = λ good p q r. absurd (r c)
completes true (BadRow table row) calls runs before after (Some start) held old new s sn y yn o on words is ends a b c = λ good p q r.
    absurd (bad_row_found calls runs table row before after held old new ends good)
completes true NoMemory calls runs before after (Some start) held old new s sn y yn o on words is ends a b c = λ good p q r. tt
