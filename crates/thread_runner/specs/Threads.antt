-- A script whose sessions, administrator and workers are threads.
use Rattle.std.specs.Prelude.{◌≡◌, ◌⊎◌, ℕ, false, List, [], ◌∷◌, ◌++◌, length, map, Option, Some, None}
use Rattle.std.specs.List.{AllByRecursion}
use Rattle.std.specs.Option.{option_map_or}
use Rattle.std.specs.Io.KnownBytes.{Appends, Consumes}
use Rattle.enq_base.specs.Causes.{Rose}
use Rattle.enq_base.specs.declared.condition.Bad.TheVariants as bad
use Rattle.enq_base.specs.declared.refusal.Refusal.TheVariants as refusal
use Rattle.dialogue_session.specs.Private.{Private}
use Rattle.hall_model.specs.State.{State}
use Rattle.hall_model.specs.declared.command.PastEntry.{PastEntry}
use Rattle.hall_model.specs.declared.command.Who.{Who}
use Rattle.hall_model.specs.declared.command.Who.TheVariants as caller
use Rattle.io_edge.specs.Known.{AppendsFirst}
use Rattle.ledger_steps.specs.Levels.{intervals_of}
use Rattle.lock_objects.specs.Objects.{Object}
use Rattle.order_laws.specs.Behind.{HasNoTrouble}
use Rattle.order_laws.specs.Resting.{NoneWaits}
use Rattle.run_report.specs.Report.{past_text, report_text}
use Rattle.script_actors.specs.Actors.{DoesLines, Land, deeds, land_of, lines_of_actor, no_deeds}
use Rattle.script_actors.specs.Drawings.{DeskEntry, calls_in, desk_call, drawn_in}
use Rattle.script_actors.specs.declared.actor.Said.{Said}
use Rattle.script_actors.specs.declared.drawing.Drawing.{Drawing}
use Rattle.script_actors.specs.declared.line.NumberedLine.{NumberedLine}
use Rattle.script_runner.specs.Faults.{answer_at, tells_other}
use Rattle.script_runner.specs.Replay.{IsDoubted, IsDoubtedBy, Seen, doubt_of}
use Rattle.script_runner.specs.declared.runner.Why.{Why}
use Rattle.script_runner.specs.declared.runner.Why.TheVariants.{Done, SinkFault, StoreFault, BackupFault, BadStore}
use Rattle.script_runner.specs.declared.runner.Why.TheVariants.{BadBackup, NoMemory, LogFull}
use Rattle.thread_runner.specs.Answers.{AreInOrder, answers_of}
use Rattle.whole_script.specs.Reading.{IsRead, IsReadingEnd}
use Rattle.caller_laws.specs.Callers.{AreAmong, entries_by, threads_of}
use Rattle.caller_laws.specs.Doing.{Left, desk_seen, nothing_asked}
use Rattle.turn_desks.specs.Watching.{HasShown}
use Rattle.thread_runner.specs.Deeds.{Deeds}
use Rattle.thread_runner.specs.Numbers.{DrawsNumbers}

-- ---- who did what

-- What each of these saw of the counts of the server, while it rested, was shown one behind the other on the way from
-- the first state to this one, each behind so many of its calls.
abbrev pub HaveLooked :
    (land : Land) (lines : List NumberedLine) (past : List PastEntry) → State → State → (callers : List Who)
    → Deeds land lines past callers → Type 0
HaveLooked land lines past first s [] all = Unit {0}
HaveLooked land lines past first s (w ∷ ws) all = HasShown first s all.0.left.looks
    × HaveLooked land lines past first s ws all.1

-- All of an actor's lines were done: what its desk did is what they come to, one behind the other, with the replies of
-- the history, the numbers that it drew are theirs, and of those whose answer isn't in the history these are the
-- answers.
pub record AllLinesDone (land : Land) (lines : List NumberedLine) (past : List PastEntry) (w : Who)
    (left : Left) : Type 0 where
  pub sides : List Private
  pub entries : List DeskEntry
  pub said : List Said
  pub does : DoesLines land w (lines_of_actor w lines) (no_deeds nothing_asked)
      (deeds sides (desk_seen entries None) said false)
  pub calls : calls_in entries ≡ map desk_call (entries_by w past)
  pub drawn : left.drawn ≡ drawn_in entries
  pub told : left.said ≡ Some said

abbrev pub HasAllDone : Land → List NumberedLine → List PastEntry → Who → Left → Type 0
HasAllDone land lines past (caller.Worker w) left = Unit {0}
HasAllDone land lines past w left = AllLinesDone land lines past w left

-- all lines of each of them
abbrev pub AreAllDone : (land : Land) (lines : List NumberedLine) (past : List PastEntry) (callers : List Who)
    → Deeds land lines past callers → Type 0
AreAllDone land lines past [] all = Unit {0}
AreAllDone land lines past (w ∷ ws) all = HasAllDone land lines past w all.0.left × AreAllDone land lines past ws all.1

-- ---- what is answered beside the history

-- of all threads, one behind the other
abbrev pub all_answers : (land : Land) (lines : List NumberedLine) (past : List PastEntry)
    (callers : List Who)
    → Deeds land lines past callers → List Said
all_answers land lines past [] all = []
all_answers land lines past (w ∷ ws) all =
    answers_of lines w all.0.left.said all.0.full_at ++ all_answers land lines past ws all.1

-- ---- how it ends

-- what a sink holds, and its count of faults
pub record Output : Type 0 where
  pub written : Option (List ℕ)
  pub faults : ℕ

abbrev pub output : Option (List ℕ) → ℕ → Output
output written faults = record { written = written; faults = faults }

-- what was done is written: the history, the answers beside it, and the monitors of the end state
pub record IsReported (lines : List NumberedLine) (s : State) (all : List Said) (old new : Output) : Type 0 where
  pub said : List Said
  pub order : AreInOrder all said
  pub text : Appends old.written new.written (report_text lines s said)
  pub quiet : new.faults ≡ old.faults

-- the same, of a script all of whose lines were done
abbrev pub IsDoneWhole : (land : Land) (lines : List NumberedLine) (s : State) (callers : List Who)
    → Deeds land lines s.past callers → Output → Output → Type 0
IsDoneWhole land lines s callers did old new =
    IsReported lines s (all_answers land lines s.past callers did) old new × AreAllDone land lines s.past callers did

-- the history is written, and some of what comes behind it
pub record BeginsReport (s : State) (old new : Output) : Type 0 where
  pub rest : List ℕ
  pub text : Appends old.written new.written (past_text 0 s.past ++ rest)
  pub quiet : new.faults ≡ old.faults

-- the sink failed behind some of the first bytes of the history and what comes behind it
pub record IsReportCut (s : State) (old new : Output) : Type 0 where
  pub rest : List ℕ
  pub text : AppendsFirst old.written new.written (past_text 0 s.past ++ rest)
  pub cause : Rose old.faults new.faults

-- Where no device failed, the lock server wasn't ended and no order was left for want of room, no unit waits in the
-- end.
abbrev pub EndsWorked : State → Type 0
EndsWorked s = HasNoTrouble s.past → NoneWaits s

-- Why a run ended whose script was read to its end, where this is what its threads did.
abbrev pub IsEndOfRun : (land : Land) (lines : List NumberedLine) (s : State) (callers : List Who)
    → Deeds land lines s.past callers → Output → Output → Why → Type 0
IsEndOfRun land lines s callers did old new Done = IsDoneWhole land lines s callers did old new × (doubt_of s ≡ None)
    × EndsWorked s
IsEndOfRun land lines s callers did old new (StoreFault k) =
    IsDoneWhole land lines s callers did old new × (doubt_of s ≡ Some k)
    × (option_map_or tells_other (answer_at s.past k) false ≡ false)
IsEndOfRun land lines s callers did old new (BackupFault k) =
    IsDoneWhole land lines s callers did old new × IsDoubted s k refusal.BackupFault
IsEndOfRun land lines s callers did old new (BadStore table row) =
    IsDoneWhole land lines s callers did old new × IsDoubtedBy s (refusal.Unsound (bad.Store table row))
IsEndOfRun land lines s callers did old new (BadBackup place) =
    IsDoneWhole land lines s callers did old new × IsDoubtedBy s (refusal.Unsound (bad.Backup place))
IsEndOfRun land lines s callers did old new SinkFault = IsReportCut s old new
IsEndOfRun land lines s callers did old new NoMemory = BeginsReport s old new
IsEndOfRun land lines s callers did old new LogFull =
    IsReported lines s (all_answers land lines s.past callers did) old new × (length s.past ≡ 262144)
IsEndOfRun land lines s callers did old new why = ⊥

-- what threads have done with these lines from a first state on, what they drew, and how it ended
pub record HaveDone (land : Land) (lines : List NumberedLine) (workers : ℕ) (first s : State) (drawn : List Drawing)
    (old new : Output) (why : Why) : Type 0 where
  pub callers : AreAmong (threads_of lines workers) s.past
  pub did : Deeds land lines s.past (threads_of lines workers)
  pub looked : HaveLooked land lines s.past first s (threads_of lines workers) did
  pub numbers : DrawsNumbers land lines first s (threads_of lines workers) did drawn
  pub end : IsEndOfRun land lines s (threads_of lines workers) did old new why

-- The script wasn't read to its end, or memory was wanting before its first call: no call was made, no number was
-- drawn, and nothing was written. Of its bytes these were read.
pub record EndsReading (before after : State) (drawn : List Drawing) (old new : Seen) (why : Why) : Type 0 where
  pub bytes : List ℕ
  pub read : Consumes old.left new.left bytes
  pub end : IsReadingEnd bytes new.left old.source_faults new.source_faults why
  pub state : after ≡ before
  pub none : drawn ≡ []
  pub written : new.written ≡ old.written
  pub quiet : new.sink_faults ≡ old.sink_faults

-- The script was read, and done by threads. The calls of each session and of the administrator are those that its own
-- lines make of its private side, in order, with the replies of the history; each worker's are those of its loop; and
-- there are no others. Numbers of intervals with a buffer were drawn from stocks.
pub record EndsRun (objects : List Object) (workers : ℕ) (before after : State) (drawn : List Drawing) (old new : Seen)
    (why : Why) : Type 0 where
  pub bytes : List ℕ
  pub read : Consumes old.left new.left bytes
  pub lines : List NumberedLine
  pub known : IsRead bytes new.left lines
  pub quiet : new.source_faults ≡ old.source_faults
  pub done : HaveDone (land_of objects (intervals_of before.ranges)) lines workers before after drawn
      (output old.written old.sink_faults) (output new.written new.sink_faults) why

abbrev pub RunsThreads : List Object → ℕ → State → State → List Drawing → Seen → Seen → Why → Type 0
RunsThreads objects workers before after drawn old new why =
    EndsReading before after drawn old new why ⊎ EndsRun objects workers before after drawn old new why

-- the script was done to its end, or memory was wanting, or the history is full
abbrev pub EndsWhole : Why → Type 0
EndsWhole why = (why ≡ Done) ⊎ ((why ≡ NoMemory) ⊎ (why ≡ LogFull))
