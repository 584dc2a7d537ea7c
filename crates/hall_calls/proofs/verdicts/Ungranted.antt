-- A V1 part that is tried again and whose locks aren't granted, or aren't written into the backup file.
use Rattle.std.proofs.Common.{◌≡◌, ◌⊎◌, inl, inr, ℕ, ◌≤◌, Bool, true, List, length, refl, sym, ◌∙◌, subst}
use Rattle.std.specs.Prelude.{Option, Some, IfSome, IsTrue, Ok, Err}
use Rattle.std.specs.List.{AllByRecursion}
use Rattle.backup_file.specs.Backup.{BackupView, IsReady, IsSame}
use Rattle.backup_file.specs.File.{Stands}
use Rattle.backup_file.specs.declared.handed.Handed.{Handed}
use Rattle.enq_base.specs.declared.owner.UnitKey.{UnitKey}
use Rattle.enq_base.specs.declared.refusal.Refusal.TheVariants as refusal
use Rattle.enq_base.specs.declared.unit.Status.TheVariants.{Bad}
use Rattle.enq_server.specs.Faults.{HasCallCause, IsReadmission}
use Rattle.enq_server.specs.Server.{with_list}
use Rattle.enq_server.specs.declared.fault.ServerFault.{ServerFault}
use Rattle.enq_server.specs.declared.fault.ServerFault.TheVariants as server
use Rattle.keeper_api.specs.Keeping.{IsWithin}
use Rattle.keeper_api.specs.Rows.{Rows}
use Rattle.lock_entry.specs.Granting.{readmitted}
use Rattle.lock_entry.specs.Table.{Table}
use Rattle.lock_entry.specs.declared.entry.Entry.{Entry}
use Rattle.lock_entry.specs.declared.fault.AskFault.{AskFault}
use Rattle.lock_entry.specs.declared.fault.AskFault.TheVariants as fault
use Rattle.ledger_steps.specs.Posts.{entries_of}
use Rattle.posting.specs.BooksView.{BooksView}
use Rattle.update_records.specs.Growing.{with_mark}
use Rattle.update_records.specs.Ledger.{Ledger, StandFor}
use Rattle.update_records.specs.Marks.{may_follow, status_of}
use Rattle.update_records.specs.declared.records.MarkKind.TheVariants.{Again1}
use Rattle.hall_model.specs.Acts.{Admits}
use Rattle.hall_calls.specs.Written.{IsWritten, written_reply}
use Rattle.hall_calls.specs.Filing.{FilesAs, HasOpenLists, ungranted}
use Rattle.hall_model.specs.Kept.{HasGoodLocks}
use Rattle.hall_calls.specs.Leaving.{HasStoreCause, KeepsStore, LeavesWritten}
use Rattle.hall_calls.specs.OpenLists.{AgreeAll}
use Rattle.hall_model.specs.Sessions.{owners_of}
use Rattle.hall_model.specs.State.{State}
use Rattle.hall_model.specs.Step.{ask_refusal, to_resubmit}
use Rattle.hall_model.specs.declared.command.Command.TheVariants as command
use Rattle.ledger_steps.specs.declared.step.Step.TheVariants.{Note}
use Rattle.hall_calls.proofs.verdicts.EachCall.{of_table}
use Rattle.hall_calls.proofs.ending.OverFile.{AgreesBoth, half_written_files, refused_files}
use Rattle.hall_calls.proofs.ending.AfterStop.{refused_keeps}
use Rattle.hall_calls.proofs.lists.AsCallsEnd.{was_bad}
use Rattle.hall_calls.proofs.lists.BehindMarks.{reopened_agree, unagain_agree}
use Rattle.model_laws.proofs.PlainRefusals.{IsPlain}
use Rattle.hall_calls.proofs.verdicts.UnitCalls.{reopens_in_vain, reopens_unfiled, resubmits_wanting}

pub ungranted_acts : (s : State) (t : Table) (ledger new : Ledger) (limit : ℕ) (unit : UnitKey) (left : List Entry) (f : ServerFault) → s.locks ≡ t.entries
    → s.limit ≡ t.limit → s.stored ≡ ledger → s.mark_limit ≡ limit → Admits s (command.Resubmit unit) → to_resubmit ledger limit unit ≡ Ok Bad
    → IsReadmission (readmitted t (owners_of unit) (entries_of ledger.units unit)) t.entries left f → new ≡ ledger
    → (f ≡ server.Failed → 1 ≤ length (entries_of ledger.units unit))
    → IsWritten s (command.Resubmit unit) (record s { locks = left; stored = new }) (ungranted f)
ungranted_acts s t ledger new limit unit left (server.Ask a) locks l g m room h refused kept some =
    reopens_in_vain s t ledger new limit unit a (ask_refusal a) left locks l g m room h (of_table _ (server.Ask a) refused.0) refused.1 kept refl
ungranted_acts s t ledger new limit unit left server.Failed locks l g m room h refused kept some =
    reopens_unfiled s t ledger new limit unit left locks l g m room h refused (some refl) kept
ungranted_acts s t ledger new limit unit left server.NoMemory locks l g m room h refused kept some =
    resubmits_wanting s left ledger new limit unit Bad (locks ∙ sym refused) g m room h kept

pub ungranted_leaves : {K : Type 0} (held : K → Option Rows) (may_leave : K → Rows → Type 0) (shelf : BooksView K) (f : ServerFault)
    → IfSome (held shelf.keeper) (λ _. (left : Rows) → may_leave shelf.keeper left → StandFor left shelf.ledger)
    → LeavesWritten held may_leave shelf (ungranted f)
ungranted_leaves held may_leave shelf (server.Ask a) h = h
ungranted_leaves held may_leave shelf server.Failed h = h
ungranted_leaves held may_leave shelf server.NoMemory h = h

plainly : (a : AskFault) → IsPlain (ask_refusal a) ⊎ (ask_refusal a ≡ refusal.NoMemory)
plainly (fault.Foreign e) = inl refl
plainly (fault.Full used most) = inl refl
plainly fault.Count = inl refl
plainly fault.Lost = inl refl
plainly fault.NoMemory = inr refl

ask_quiet : (a : AskFault) (n m : ℕ) → m ≡ n → HasStoreCause n m (written_reply (ungranted (server.Ask a)))
ask_quiet (fault.Foreign e) n m h = h
ask_quiet (fault.Full used most) n m h = h
ask_quiet fault.Count n m h = h
ask_quiet fault.Lost n m h = h
ask_quiet fault.NoMemory n m h = h

pub ungranted_quiet : (f : ServerFault) (n m : ℕ) → m ≡ n → HasStoreCause n m (written_reply (ungranted f))
ungranted_quiet (server.Ask a) n m h = ask_quiet a n m h
ungranted_quiet server.Failed n m h = h
ungranted_quiet server.NoMemory n m h = h

pub ungranted_keeps : {K : Type 0} (held : K → Option Rows) (may_leave : K → Rows → Type 0) (old new : K) (f : ServerFault) → held new ≡ held old
    → IsWithin (may_leave new) (may_leave old) → KeepsStore held may_leave old new (written_reply (ungranted f))
ungranted_keeps held may_leave old new (server.Ask a) rows crash = refused_keeps held may_leave old new (ask_refusal a) rows crash
ungranted_keeps held may_leave old new server.Failed rows crash = tt
ungranted_keeps held may_leave old new server.NoMemory rows crash = (rows, crash)

asked_not_failed : (a : AskFault) → server.Ask a ≡ server.Failed → ⊥
asked_not_failed a e = cc

wanted_not_failed : server.NoMemory ≡ server.Failed → ⊥
wanted_not_failed e = cc

the_same : {D : Type 0} (old new : BackupView D) (f : ServerFault) → (f ≡ server.Failed → ⊥) → (f ≡ server.Failed) ⊎ IsSame old new → IsSame old new
the_same old new f unlike (inl is) = absurd (unlike is)
the_same old new f unlike (inr same) = same

module _ {D : Type 0} (tells : Bool) (reads : D → List ℕ) (may_leave : D → List ℕ → Type 0) (faults : D → ℕ) where
  pub ungranted_files : (ledger now : Ledger) (unit : UnitKey) (es : List Entry) (old new : BackupView D) (f : ServerFault)
      → HasOpenLists tells reads may_leave ledger old → now ≡ ledger → may_follow (status_of ledger.units ledger.marks unit) Again1 ≡ true
      → (f ≡ server.Failed) ⊎ IsSame old new
      → (IsTrue tells → (lists : List Handed) → IsReady reads may_leave old lists → (image : List ℕ) → may_leave new.disk image → Stands image lists
      ⊎ Stands image (with_list unit es lists))
      → HasCallCause (faults old.disk) (faults new.disk) (Err f) → FilesAs tells reads may_leave faults now old new (ungranted f)
  ungranted_files ledger now unit es old new (server.Ask a) has is may untouched images cause =
      refused_files tells reads may_leave faults ledger now old new (ask_refusal a) has (the_same old new (server.Ask a) (asked_not_failed a) untouched) is
      (plainly a)
  ungranted_files ledger now unit es old new server.Failed has is may untouched images cause =
      half_written_files tells reads may_leave faults ledger now (λ lists. with_list unit es lists) old new has images
      (λ lists just. subst (λ l. AgreeAll l lists × AgreeAll l (with_list unit es lists)) (sym is)
      (just.agree, unagain_agree ledger unit es lists (was_bad _ may) just.agree))
      cause
  ungranted_files ledger now unit es old new server.NoMemory has is may untouched images cause =
      refused_files tells reads may_leave faults ledger now old new refusal.NoMemory has (the_same old new server.NoMemory wanted_not_failed untouched) is
      (inr refl)

  -- the store failed, and the file has the unit's list
  pub again_agrees : (ledger now : Ledger) (unit : UnitKey) (es : List Entry) (old new : BackupView D) → HasOpenLists tells reads may_leave ledger old
      → now ≡ ledger → may_follow (status_of ledger.units ledger.marks unit) Again1 ≡ true → AllByRecursion HasGoodLocks ledger.units
      → es ≡ entries_of ledger.units unit
      → (IsTrue tells → (lists : List Handed) → IsReady reads may_leave old lists → IsReady reads may_leave new (with_list unit es lists))
      → AgreesBoth tells reads may_leave faults now (Some (Note unit Again1)) new
  again_agrees ledger now unit es old new has is may good same listed =
      subst (λ l. AgreesBoth tells reads may_leave faults l (Some (Note unit Again1)) new) (sym is)
      (λ t.
      let h = has.ready t in (
        with_list unit es h.lists,
        listed t h.lists h.ready,
        unagain_agree ledger unit es h.lists (was_bad _ may) h.just.agree,
        subst (λ xs. AgreeAll (with_mark ledger unit Again1) (with_list unit xs h.lists)) (sym same)
            (reopened_agree ledger unit h.lists (was_bad _ may) good h.just),
      ))
