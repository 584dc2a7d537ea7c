-- How a commit ends, by what it records.
use Rattle.std.proofs.Common.{◌≡◌, inr, ℕ, zero, suc, ◌+◌, ◌≤◌, ◌++◌, Bool, false, List, length, refl, ap, arith}
use Rattle.std.specs.Prelude.{◌⊎◌, ◌&&◌, nat_eq, Option, Err, IfSome, IsTrue}
use Rattle.std.proofs.lemmas.Bool.Decides.{nat_tests}
use Rattle.backup_file.specs.Backup.{BackupView, IsReady, IsSame}
use Rattle.backup_file.specs.File.{Stands}
use Rattle.backup_file.specs.declared.fault.WriteFault.{WriteFault}
use Rattle.backup_file.specs.declared.fault.WriteFault.TheVariants as write
use Rattle.backup_file.specs.declared.handed.Handed.{Handed}
use Rattle.enq_base.specs.Causes.{Rose}
use Rattle.enq_base.specs.declared.owner.UnitKey.{UnitKey}
use Rattle.enq_base.specs.declared.refusal.Refusal.TheVariants as refusal
use Rattle.enq_base.specs.declared.unit.Num.{Num as Number}
use Rattle.enq_base.specs.declared.unit.Parts.{Parts}
use Rattle.enq_server.specs.Server.{lasting, with_list}
use Rattle.keeper_api.specs.Keeping.{IsOnly}
use Rattle.keeper_api.specs.Rows.{Rows}
use Rattle.keeper_api.specs.declared.fault.KeepFault.TheVariants as fault
use Rattle.lock_entry.specs.declared.entry.Entry.{Entry}
use Rattle.ledger_steps.specs.Drawn.{settled_rows}
use Rattle.ledger_steps.specs.declared.range.NumberRange.{NumberRange}
use Rattle.ledger_steps.specs.declared.step.Step.{Step}
use Rattle.posting.specs.BooksView.{BooksView, IsUnmoved, IsUsable}
use Rattle.update_records.specs.Ledger.{Ledger}
use Rattle.update_records.specs.declared.records.Unit.{Unit as UnitOfWork}
use Rattle.update_records.specs.declared.stored.StoredInterval.{StoredInterval}
use Rattle.hall_model.specs.Sessions.{unit_key}
use Rattle.hall_model.specs.State.{State}
use Rattle.hall_model.specs.Step.{effects_in, unit_of}
use Rattle.hall_model.specs.declared.command.Command.TheVariants as command
use Rattle.hall_model.specs.declared.command.Reply.{Reply}
use Rattle.hall_model.specs.declared.command.Reply.TheVariants as reply
use Rattle.hall_model.specs.declared.command.Session.{Session}
use Rattle.hall_calls.specs.Commits.{IsCommitting, IsOfCommit, RecordsNumbers, RecordsUnit, TellsNoFault, unsaved}
use Rattle.hall_calls.specs.Filing.{FilesAs, HasOpenLists}
use Rattle.hall_calls.specs.Storing.{EndsAs, TriesStep}
use Rattle.hall_calls.specs.Written.{IsWritten, ranges_behind}
use Rattle.hall_calls.specs.declared.units.Written.{Written}
use Rattle.hall_calls.specs.declared.units.Written.TheVariants.{Answered}
use Rattle.hall_calls.proofs.ending.AfterStop.{answered_leaves, same_keeps}
use Rattle.hall_calls.proofs.ending.OverFile.{answered_files, any_file, half_written_files, refused_files}
use Rattle.hall_calls.proofs.ending.OverStore.{quiet_ends, unfiled_ends, unready_ends}
use Rattle.hall_calls.proofs.lists.AsCallsEnd.{unsaved_agree}
use Rattle.hall_calls.proofs.lists.BehindMarks.{saved_locks}
use Rattle.hall_calls.proofs.verdicts.Recording.{few_enough, no_effects, numbers_recorded, unit_recorded, with_effects}
use Rattle.hall_calls.proofs.verdicts.UnitCalls.{IsCommitAt}

-- ---- an answer before anything is recorded

module _ {K : Type 0} (held : K → Option Rows) (is_open : K → Type 0) (may_leave : K → Rows → Type 0) (faults : K → ℕ) where
  abbrev Settled : Type 0
  Settled = (keeper : K) → is_open keeper → IfSome (held keeper) (λ rows. IsOnly rows (may_leave keeper))

  pub answered_ends : Settled → (shelf : BooksView K) → IsUsable held is_open shelf → (r : Reply) → TellsNoFault r
      → EndsAs held is_open may_leave faults shelf shelf (Answered r)
  answered_ends settled shelf usable r quiet =
      quiet_ends held is_open may_leave faults settled shelf usable r quiet.store (λ k. same_keeps held may_leave k k r refl)

  -- memory was wanting before a step
  pub wanting_ends : Settled → (old new : BooksView K) (step : Step) → TriesStep held is_open may_leave faults old new step (Err fault.NoMemory)
      → EndsAs held is_open may_leave faults old new (Answered (reply.Refused refusal.NoMemory))
  wanting_ends settled old new step tried = record {
    ledger = tt;
    usable = tried.usable;
    told = tried.told;
    left = answered_leaves held is_open may_leave new settled tried.usable;
    cause = tried.cause.quiet;
    kept = (tried.untouched.rows, tried.untouched.crash);
  }

  pub unsaved_ends : Settled → (old mid : BooksView K) (f : WriteFault) → IsUsable held is_open mid → IsUnmoved held may_leave faults old mid
      → EndsAs held is_open may_leave faults old mid (unsaved f)
  unsaved_ends settled old mid write.NoMemory usable same = unready_ends held is_open may_leave faults settled old mid usable same
  unsaved_ends settled old mid write.Failed usable same = unfiled_ends held is_open may_leave faults settled old mid usable same

module _ {D : Type 0} (tells : Bool) (reads : D → List ℕ) (may_leave : D → List ℕ → Type 0) (faults : D → ℕ) where
  pub answered_before : (ledger : Ledger) (file : BackupView D) (r : Reply) → HasOpenLists tells reads may_leave ledger file → TellsNoFault r
      → FilesAs tells reads may_leave faults ledger file file (Answered r)
  answered_before ledger file r has quiet =
      answered_files tells reads may_leave faults ledger file file r has (record { cause = quiet.file (faults file.disk); kept = any_file file r })

  -- the unit's list wasn't written, for want of memory or since the disk failed
  pub unsaved_files : (ledger : Ledger) (unit : UnitOfWork) (locks : List Entry) (old new : BackupView D) (f : WriteFault)
      → HasOpenLists tells reads may_leave ledger old → IsOfCommit ledger unit locks → (f ≡ write.NoMemory → IsSame old new)
      → (IsTrue tells → (lists : List Handed) → IsReady reads may_leave old lists → (image : List ℕ) → may_leave new.disk image → Stands image lists
      ⊎ Stands image (with_list unit.key (saved_locks unit locks) lists))
      → faults old.disk ≤ faults new.disk → (f ≡ write.Failed → Rose (faults old.disk) (faults new.disk))
      → FilesAs tells reads may_leave faults ledger old new (unsaved f)
  unsaved_files ledger unit locks old new write.NoMemory has commit same images later failed =
      refused_files tells reads may_leave faults ledger ledger old new refusal.NoMemory has (same refl) refl (inr refl)
  unsaved_files ledger unit locks old new write.Failed has commit same images later failed =
      half_written_files tells reads may_leave faults ledger ledger (λ lists. with_list unit.key (saved_locks unit locks) lists) old new has images
      (unsaved_agree ledger ledger unit locks commit refl) (later, failed refl)

pub wanted_not_failed : (P : Type 0) → write.NoMemory ≡ write.Failed → P
wanted_not_failed P e = absurd (apart e)
  where
    apart : write.NoMemory ≡ write.Failed → ⊥
    apart e = cc

pub unsaved_records : (sessions : List Session) (entries left : List Entry) (ledger now : Ledger) (name : List ℕ) (unit : UnitOfWork)
    (levels : List StoredInterval) (f : WriteFault) → left ≡ entries → now ≡ ledger → (f ≡ write.Failed → 1 ≤ length (lasting unit.key entries))
    → RecordsUnit sessions sessions entries left ledger now name unit levels (unsaved f)
unsaved_records sessions entries left ledger now name unit levels write.NoMemory same kept needed = (refl, same, kept)
unsaved_records sessions entries left ledger now name unit levels write.Failed same kept needed = (kept, needed refl)

-- ---- what a commit comes to

is_more : (k : ℕ) → 1 ≤ k → nat_eq k 0 ≡ false
is_more k h = grind (arith, nat_tests)

something : (m n : ℕ) → 1 ≤ m + n → (nat_eq m 0 && nat_eq n 0) ≡ false
something zero n h = is_more n (omega (arith, h))
something (suc m) n h = ap (λ b. b && nat_eq n 0) (is_more (suc m) (omega arith))

-- there are numbers where there are no effects
pub some_alone : (sessions : List Session) (ledger : Ledger) (limit : ℕ) (name : List ℕ) (parts : Parts) (stock : List Number) (x : Session)
    → IsCommitting sessions ledger limit name parts stock x → effects_in parts ≡ 0 → 1 ≤ length (x.draws ++ stock)
some_alone sessions ledger limit name parts stock x h none = omega (arith, none, h.something)

module _ (s : State) (sessions : List Session) (ranges : List NumberRange) (entries : List Entry) (ledger : Ledger) (limit : ℕ) (name : List ℕ) (x : Session)
    (parts : Parts) (stock : List Number)
    (at : IsCommitAt s sessions ranges entries ledger limit name x (command.Commit name parts stock))
    (h : IsCommitting sessions ledger limit name parts stock x) where
  pub commits_unit : (unit : UnitOfWork) (levels : List StoredInterval) → 1 ≤ effects_in parts
      → unit ≡ unit_of ledger.start entries x parts (x.draws ++ stock) → levels ≡ settled_rows ledger.levels ranges (x.draws ++ stock)
      → (after : List Session) (left : List Entry) (now : Ledger) (w : Written) → RecordsUnit sessions after entries left ledger now name unit levels w
      → IsWritten s (command.Commit name parts stock)
      (record s { sessions = after; ranges = ranges_behind stock ranges w; locks = left; stored = now }) w
  commits_unit unit levels effects is rows after left now w recorded =
      unit_recorded s sessions ranges entries ledger limit name x parts stock at
      (few_enough (x.draws ++ stock) parts (length (x.draws ++ stock)) (effects_in parts) refl refl h.few_numbers h.few_effects)
      (something (effects_in parts) (length (x.draws ++ stock)) h.something) h.room (with_effects parts (effects_in parts) refl effects)
      unit levels is rows after left now w recorded

  pub commits_alone : (key : UnitKey) (nums : List Number) (levels : List StoredInterval) → effects_in parts ≡ 0
      → key ≡ unit_key ledger.start x → nums ≡ (x.draws ++ stock) → levels ≡ settled_rows ledger.levels ranges (x.draws ++ stock)
      → (after : List Session) (now : Ledger) (w : Written) → RecordsNumbers sessions after ledger now name key nums levels w
      → IsWritten s (command.Commit name parts stock)
      (record s { sessions = after; ranges = ranges_behind stock ranges w; locks = entries; stored = now }) w
  commits_alone key nums levels none k is rows after now w recorded =
      numbers_recorded s sessions ranges entries ledger limit name x parts stock at
      (few_enough (x.draws ++ stock) parts (length (x.draws ++ stock)) (effects_in parts) refl refl h.few_numbers h.few_effects)
      (something (effects_in parts) (length (x.draws ++ stock)) h.something) h.room (no_effects parts (effects_in parts) refl none)
      key nums levels k is rows after now w recorded
