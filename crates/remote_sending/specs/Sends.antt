-- The words of a run of sending, and its end.
use Rattle.std.specs.Prelude.{◌≡◌, ℕ, ◌+◌, ◌*◌, ◌-◌, ◌^◌, ◌≤◌, min, ◌⊎◌, Bool, true, false, List, [], ◌∷◌, ◌++◌, length}
use Rattle.std.specs.Prelude.{codes, if◌then◌else◌, Option, Some, None, IfSome, option_map, Result, Ok, Err, count_by}
use Rattle.std.specs.Prelude.{is_none}
use mathlib.Core.List.{IsPrefix}
use Rattle.std.specs.Str.{bytes_eq}
use Rattle.enq_base.specs.Causes.{Rose}
use Rattle.std.specs.Io.KnownBytes.{Appends}
use Rattle.io_edge.specs.Known.{AppendsFirst}
use Rattle.keeper_api.specs.Keeping.{IsWithin}
use Rattle.keeper_api.specs.declared.fault.KeepFault.{KeepFault}
use Rattle.keeper_api.specs.declared.fault.KeepFault.TheVariants as keep
use Rattle.keeper_api.specs.Rows.{Rows}
use Rattle.remote_target.specs.Runs.{Execution}
use Rattle.remote_target.specs.declared.call.CallAnswer.{CallAnswer}
use Rattle.remote_target.specs.declared.call.CallOutcome.{CallOutcome}
use Rattle.remote_sending.specs.declared.outbox.OutboxCall.{OutboxCall}
use Rattle.remote_sending.specs.declared.sending.TrfcWhy.{TrfcWhy}
use Rattle.remote_sending.specs.declared.sending.TrfcWhy.TheVariants.{Done, BadWords, SinkFault, SystemFault}
use Rattle.remote_sending.specs.declared.sending.TrfcWhy.TheVariants.{OutboxFault, BadRow, NoMemory}
use Rattle.remote_sending.specs.declared.fault.SendFault.{SendFault}
use Rattle.remote_sending.specs.declared.fault.SendFault.TheVariants as fault
use Rattle.remote_sending.specs.declared.report.Counts.{Counts}
use Rattle.remote_sending.specs.Outbox.{call_with, first_bad, outbox_calls}
use Rattle.remote_sending.specs.Growing.{AreCallsOf, IsGrown, asked}
use Rattle.remote_sending.specs.Report.{Writes, call_line, call_lines, counts_of, report}

abbrev pub status_code : TrfcWhy → ℕ
status_code Done = 0
status_code BadWords = 2
status_code SinkFault = 6
status_code SystemFault = 7
status_code OutboxFault = 8
status_code (BadRow table row) = 9
status_code NoMemory = 12

-- the one word `send`
abbrev pub is_send : List (List ℕ) → Bool
is_send [] = false
is_send (word ∷ []) = bytes_eq word (codes "send")
is_send (word ∷ other ∷ words) = false

-- `BadWords` is said of other words, and of those alone
abbrev pub IsBadWords : Bool → TrfcWhy → Type 0
IsBadWords true BadWords = ⊥
IsBadWords true why = Unit {0}
IsBadWords false BadWords = Unit {0}
IsBadWords false why = ⊥

-- ---- how it ends

abbrev pub why_behind : SendFault → TrfcWhy
why_behind fault.Sink = SinkFault
why_behind fault.System = SystemFault
why_behind fault.Outbox = OutboxFault
why_behind (fault.BadRow table row) = BadRow table row
why_behind fault.NoMemory = NoMemory

abbrev pub ended_as : {T : Type 0} → Result T SendFault → TrfcWhy
ended_as (Ok x) = Done
ended_as (Err fault) = why_behind fault

abbrev pub OnDone : TrfcWhy → Type 0 → Type 0
OnDone Done P = P
OnDone other P = Unit {0}

abbrev pub OnBadRow : TrfcWhy → (ℕ → ℕ → Type 0) → Type 0
OnBadRow (BadRow table row) P = P table row
OnBadRow other P = Unit {0}

-- the run was done, or memory was wanting
abbrev pub IsDoneOrShort : TrfcWhy → Type 0
IsDoneOrShort Done = Unit {0}
IsDoneOrShort NoMemory = Unit {0}
IsDoneOrShort other = ⊥

-- a row was wrong, the outbox failed, or memory was wanting
abbrev pub IsOutboxEnd : TrfcWhy → Type 0
IsOutboxEnd SinkFault = ⊥
IsOutboxEnd SystemFault = ⊥
IsOutboxEnd BadWords = ⊥
IsOutboxEnd other = Unit {0}

-- the sink failed, or memory was wanting
abbrev pub IsSinkEnd : TrfcWhy → Type 0
IsSinkEnd Done = Unit {0}
IsSinkEnd SinkFault = Unit {0}
IsSinkEnd NoMemory = Unit {0}
IsSinkEnd other = ⊥

-- the sink or the outbox failed, a row was wrong, or memory was wanting
abbrev pub IsOpenedEnd : TrfcWhy → Type 0
IsOpenedEnd SystemFault = ⊥
IsOpenedEnd BadWords = ⊥
IsOpenedEnd other = Unit {0}

-- the same, and all rows were right
abbrev pub IsSendEnd : TrfcWhy → Type 0
IsSendEnd Done = Unit {0}
IsSendEnd SinkFault = Unit {0}
IsSendEnd OutboxFault = Unit {0}
IsSendEnd NoMemory = Unit {0}
IsSendEnd other = ⊥

-- the outbox failed, or memory was wanting
abbrev pub IsKeeperEnd : TrfcWhy → Type 0
IsKeeperEnd Done = Unit {0}
IsKeeperEnd OutboxFault = Unit {0}
IsKeeperEnd NoMemory = Unit {0}
IsKeeperEnd other = ⊥

-- the sending system failed, or memory was wanting
abbrev pub IsSystemEnd : TrfcWhy → Type 0
IsSystemEnd Done = Unit {0}
IsSystemEnd SystemFault = Unit {0}
IsSystemEnd NoMemory = Unit {0}
IsSystemEnd other = ⊥

-- rows were wrong, or memory was wanting
abbrev pub IsRowsEnd : TrfcWhy → Type 0
IsRowsEnd Done = Unit {0}
IsRowsEnd (BadRow table row) = Unit {0}
IsRowsEnd NoMemory = Unit {0}
IsRowsEnd other = ⊥

abbrev pub UnlessOutboxFault : TrfcWhy → Type 0 → Type 0
UnlessOutboxFault OutboxFault P = Unit {0}
UnlessOutboxFault other P = P

abbrev pub system_fault : KeepFault → SendFault
system_fault keep.Failed = fault.System
system_fault keep.NoMemory = fault.NoMemory

abbrev pub outbox_fault : KeepFault → SendFault
outbox_fault keep.Failed = fault.Outbox
outbox_fault keep.NoMemory = fault.NoMemory

-- ---- counts of faults

abbrev pub is_sink_fault : TrfcWhy → Bool
is_sink_fault SinkFault = true
is_sink_fault other = false

abbrev pub is_system_fault : TrfcWhy → Bool
is_system_fault SystemFault = true
is_system_fault other = false

abbrev pub is_outbox_fault : TrfcWhy → Bool
is_outbox_fault OutboxFault = true
is_outbox_fault other = false

-- a count rose exactly where its fault is told
abbrev pub RisesIf : Bool → ℕ → ℕ → Type 0
RisesIf true before now = Rose before now
RisesIf false before now = now ≡ before

-- a count rose so many times, or stands at its type's end
abbrev pub RoseBy : ℕ → ℕ → ℕ → Type 0
RoseBy times before now = min (before + times) (2 ^ 64 - 1) ≤ now

-- the outcome in an answer of this identifier
abbrev pub own_outcome : List ℕ → Option CallAnswer → Option CallOutcome
own_outcome tid None = None
own_outcome tid (Some answer) = if bytes_eq answer.tid tid then Some answer.outcome else None

-- a call without an outcome was sent so many times, and no turn gave its answer
abbrev pub HasMissed : ℕ → Option CallOutcome → ℕ → ℕ → Type 0
HasMissed turns None before now = RoseBy turns before now
HasMissed turns (Some outcome) before now = RoseBy 0 before now

-- where a carrier tells what its target executed, more was executed only behind it
abbrev pub GoesOn : Option (List Execution) → Option (List Execution) → Type 0
GoesOn None None = Unit {0}
GoesOn None (Some now) = ⊥
GoesOn (Some before) None = ⊥
GoesOn (Some before) (Some now) = IsPrefix before now

-- the calls of an outbox without an outcome
abbrev pub open_number : Rows → ℕ
open_number rows = count_by (λ (call : OutboxCall). is_none call.outcome) (outbox_calls rows)

-- ---- what a run leaves

-- the outbox may not have been opened
abbrev pub MayBeClosed : TrfcWhy → Type 0
MayBeClosed BadWords = Unit {0}
MayBeClosed SystemFault = Unit {0}
MayBeClosed OutboxFault = Unit {0}
MayBeClosed NoMemory = Unit {0}
MayBeClosed other = ⊥

-- the outbox wasn't opened: it may be left as before alone, and nothing was written
pub record IsUntouched (why : TrfcWhy) (before after : Rows → Type 0) (old new : Option (List ℕ)) : Type 0 where
  pub closed : MayBeClosed why
  pub left : IsWithin after before
  pub written : new ≡ old

-- The outbox was opened, and what was found is one of the maps that might have been left. Each map that may be left now
-- has grown from it. What was written is the report of the outbox, where all was done, and else a beginning of it. A
-- bad row is told exactly where one was found; then nothing else was done.
pub record IsSent (calls : Option (List OutboxCall)) (executed : Option (List Execution)) (why : TrfcWhy)
    (before after : Rows → Type 0) (held : Option Rows)
    (old new : Option (List ℕ)) : Type 0 where
  pub found : Rows
  pub was_left : before found
  pub grown : (left : Rows) → after left → IsGrown calls executed found left
  pub written : IfSome held (λ now. Writes why old new (report found now))
  pub bad : OnBadRow why (λ table row. (table ≡ 0) × (first_bad found ≡ Some row))
  pub good : OnDone why (first_bad found ≡ None)

abbrev pub EndsAs : Option (List OutboxCall) → Option (List Execution) → TrfcWhy → (Rows → Type 0) → (Rows → Type 0)
    → Option Rows
    → Option (List ℕ) → Option (List ℕ) → Type 0
EndsAs calls executed why before after held old new = IsUntouched why before after old new
    ⊎ IsSent calls executed why before after held old new

-- Sending an open call stopped: the outbox has got an outcome for it or not, and what was written is a beginning of the
-- call's line.
pub record IsStopped (call : OutboxCall) (held now : Option Rows) (old new : Option (List ℕ)) : Type 0 where
  pub outcome : Option CallOutcome
  pub rows : now ≡ option_map (asked call outcome) held
  pub line : AppendsFirst old new (call_line call.tid outcome)

-- The same with the calls before and behind it: these rows spell all of them.
pub record IsStoppedAt (found : Rows) (call : OutboxCall) (before after : List OutboxCall) (rows : Rows)
    (old new : Option (List ℕ)) : Type 0 where
  pub outcome : Option CallOutcome
  pub spelled : AreCallsOf rows (before ++ call_with call.tid call.text outcome ∷ after)
  pub line : AppendsFirst old new (call_lines found (call_with call.tid call.text outcome ∷ []))

-- each open call was sent, and its line written
pub record IsAllSent (found now : Rows) (number : ℕ) (counts : Counts) (old new : Option (List ℕ)) : Type 0 where
  pub good : first_bad now ≡ None
  pub numbers : counts ≡ counts_of (outbox_calls now)
  pub number_is : length (outbox_calls now) ≡ number
  pub lines : Appends old new (call_lines found (outbox_calls now))
