-- How a script that is done by threads ends.
use Rattle.std.proofs.Common.{◌≡◌, ◌⊎◌, inl, inr, Bool, true, false, ℕ, List, length, Option, refl, sym, ◌∙◌, subst}
use Rattle.std.proofs.Math.Bridge.{le_prop}
use Rattle.std.proofs.Math.Logic.{∥∥₁_elim}
use Rattle.std.proofs.Math.Nat.{ℕ_set}
use Rattle.std.specs.Prelude.{IfSome, is_some}
use Rattle.enq_base.specs.Causes.{Rose}
use Rattle.enq_base.specs.declared.condition.Bad.{Bad}
use Rattle.enq_base.specs.declared.condition.Bad.TheVariants as bad
use Rattle.enq_base.specs.declared.condition.BackupBad.{BackupBad}
use Rattle.enq_base.specs.declared.refusal.Refusal.TheVariants as refusal
use Rattle.hall_model.specs.State.{State}
use Rattle.hall_model.specs.Unsound.{is_unsound_file, is_unsound_store}
use Rattle.hall_model.specs.declared.command.PastEntry.{PastEntry}
use Rattle.hall_model.specs.declared.command.Reply.{Reply}
use Rattle.hall_model.specs.declared.command.Reply.TheVariants as reply
use Rattle.keeper_api.specs.Rows.{Rows}
use Rattle.lock_objects.specs.Objects.{Object}
use Rattle.script_actors.specs.declared.drawing.Drawing.{Drawing}
use Rattle.script_runner.proofs.lemmas.GoodFiles.{answer_sound}
use Rattle.script_runner.specs.Faults.{NoneTells, NoneUnsound, NoneUnsoundStore}
use Rattle.script_runner.specs.Replay.{IsDoubtedBy, Seen}
use Rattle.script_runner.specs.declared.runner.Why.{Why}
use Rattle.script_runner.specs.declared.runner.Why.TheVariants.{BadWords, BadLandscape, BadLine, SourceFault, SinkFault, LongLine, ManyLines, BadStore, BadBackup, NoStart, LogFull}
use Rattle.thread_runner.specs.Threads.{EndsWhole, RunsThreads}
use Rattle.whole_script.specs.Reading.{BlamesFirst}
use Rattle.enq_cmd.proofs.LinkCounts.{never}
use Rattle.enq_cmd.proofs.Served.{run_broken, run_document, run_last, run_place, run_unfit, some_of}
use Rattle.enq_cmd.specs.Loading.{IsRunEnd}
use Rattle.enq_cmd.specs.Main.{IsBadDocument, IsBadStore, IsFirstBroken, HasNoStart, IsLandEnd, IsOpeningEnd, IsUnfitEnd}
use Rattle.enq_cmd.specs.Running.{EndsInRun}

-- the ends of such a script: those of one that is done line by line, and a full history
abbrev pub IsThreadsEnd : Why → Type 0
IsThreadsEnd why = (why ≡ LogFull) ⊎ IsRunEnd why

module _ (objects : List Object) (workers : ℕ) (before after : State) (drawn : List Drawing) (old new : Seen) where
  abbrev Runs : Why → Type 0
  Runs why = RunsThreads objects workers before after drawn old new why

  -- an end that neither a reading nor a run has
  none_ends : (why : Why) → (Runs why → ⊥) → ∥ Runs why ∥₁ → IsThreadsEnd why
  none_ends why none h = absurd (never h none)

  pub threads_kind : (why : Why) → ∥ Runs why ∥₁ → IsThreadsEnd why
  threads_kind BadWords h = none_ends BadWords (λ r. elim r [ inl e ↦ e.end | inr e ↦ e.done.end ]) h
  threads_kind (BadLandscape rule place) h = none_ends (BadLandscape rule place) (λ r. elim r [ inl e ↦ e.end | inr e ↦ e.done.end ]) h
  threads_kind NoStart h = none_ends NoStart (λ r. elim r [ inl e ↦ e.end | inr e ↦ e.done.end ]) h
  threads_kind LogFull h = inl refl
  threads_kind _ h = inr tt

  full_of : Runs LogFull → length after.past ≡ 262144
  full_of (inl e) = absurd e.end
  full_of (inr e) = e.done.end.1

  -- a history that was found full has all the calls that it may have
  pub threads_full : (why : Why) → ∥ Runs why ∥₁ → why ≡ LogFull → length after.past ≡ 262144
  threads_full why h is = ∥∥₁_elim (subst (λ w. ∥ Runs w ∥₁) is h) (ℕ_set (length after.past) 262144) full_of

  source_of : Runs SourceFault → Rose old.source_faults new.source_faults
  source_of (inl e) = e.end.0
  source_of (inr e) = absurd e.done.end

  pub threads_source : (why : Why) → ∥ Runs why ∥₁ → why ≡ SourceFault → Rose old.source_faults new.source_faults
  threads_source why h is = ∥∥₁_elim (subst (λ w. ∥ Runs w ∥₁) is h) le_prop source_of

  sink_of : Runs SinkFault → Rose old.sink_faults new.sink_faults
  sink_of (inl e) = absurd e.end
  sink_of (inr e) = e.done.end.cause

  pub threads_sink : (why : Why) → ∥ Runs why ∥₁ → why ≡ SinkFault → Rose old.sink_faults new.sink_faults
  threads_sink why h is = ∥∥₁_elim (subst (λ w. ∥ Runs w ∥₁) is h) le_prop sink_of

  -- a call that found a device bad is in the history
  not_found : (tells : Reply → Bool) (place : Bad) → tells (reply.Refused (refusal.Unsound place)) ≡ true → NoneTells tells after.past
      → IsDoubtedBy after (refusal.Unsound place) → ⊥
  not_found tells place on none found =
      let wrong : true ≡ false = sym on ∙ answer_sound tells after.past found.0 (reply.Refused (refusal.Unsound place)) none found.1.1 in absurd cc

  pub threads_store : (why : Why) (table row : ℕ) → ∥ Runs why ∥₁ → why ≡ BadStore table row → ∥ NoneUnsoundStore after.past ∥₁ → ⊥
  threads_store why table row h is none =
      never none (λ good. never (subst (λ w. ∥ Runs w ∥₁) is h)
      (λ r. elim r [ inl e ↦ e.end | inr e ↦ not_found is_unsound_store (bad.Store table row) refl good e.done.end.1 ]))

  pub threads_file : (why : Why) (place : BackupBad) → ∥ Runs why ∥₁ → why ≡ BadBackup place → ∥ NoneUnsound after.past ∥₁ → ⊥
  threads_file why place h is none =
      never none (λ good. never (subst (λ w. ∥ Runs w ∥₁) is h)
      (λ r. elim r [ inl e ↦ e.end | inr e ↦ not_found is_unsound_file (bad.Backup place) refl good e.done.end.1 ]))

-- ---- what such an end isn't

pub not_words : (why : Why) → IsThreadsEnd why → why ≡ BadWords → ⊥
not_words why (inl full) is = absurd (let e : BadWords ≡ LogFull = sym is ∙ full in cc)
not_words why (inr h) is = subst IsRunEnd is h

pub threads_unfit : (o : Option Rows) (left : Option (List ℕ)) (may_be : Rows → Type 0) (why : Why) → IsThreadsEnd why
    → IfSome o (λ _. IsUnfitEnd left may_be why)
threads_unfit o left may_be why (inl full) = some_of _ o (λ rows. subst (IsUnfitEnd left may_be) (sym full) tt)
threads_unfit o left may_be why (inr h) = run_unfit o left may_be why h

pub threads_document : (why : Why) → IsThreadsEnd why → IsBadDocument why → ⊥
threads_document why (inl full) bad = subst IsBadDocument full bad
threads_document why (inr h) bad = run_document why h bad

pub threads_broken : (bytes : List ℕ) (why : Why) → IsThreadsEnd why → IsFirstBroken bytes why
threads_broken bytes why (inl full) = subst (IsFirstBroken bytes) (sym full) tt
threads_broken bytes why (inr h) = run_broken bytes why h

pub threads_last : (o : Option Rows) (why : Why) → IsThreadsEnd why → IfSome o (λ rows. HasNoStart rows why)
threads_last o why (inl full) = some_of _ o (λ rows. subst (HasNoStart rows) (sym full) tt)
threads_last o why (inr h) = run_last o why h

pub threads_place : (o : Option Rows) (why : Why) → IsThreadsEnd why → (is_some o ≡ true → (table row : ℕ) → why ≡ BadStore table row → ⊥)
    → IfSome o (λ rows. IsBadStore rows why)
threads_place o why (inl full) none = some_of _ o (λ rows. subst (IsBadStore rows) (sym full) tt)
threads_place o why (inr h) none = run_place o why h none

-- ---- the ends of a program whose site wasn't opened

-- no line is to blame for one
pub opening_blames : (bytes : List ℕ) (before now : ℕ) (why : Why) → IsLandEnd before now why ⊎ IsOpeningEnd why → BlamesFirst bytes why
opening_blames bytes before now (BadLine n) h = absurd (elim h [ inl e ↦ e | inr e ↦ e ])
opening_blames bytes before now (LongLine n) h = absurd (elim h [ inl e ↦ e | inr e ↦ e ])
opening_blames bytes before now ManyLines h = absurd (elim h [ inl e ↦ e | inr e ↦ e ])
opening_blames bytes before now _ h = tt

-- ---- a script that can be done to its end

pub ends_whole : (may_be : Rows → Type 0) (past : List PastEntry) (why : Why) → (why ≡ LogFull → length past ≡ 262144) → EndsWhole why
    → EndsInRun may_be past why
ends_whole may_be past why long (inl done) = inl (inl done)
ends_whole may_be past why long (inr (inl memory)) = inl (inr (inl memory))
ends_whole may_be past why long (inr (inr full)) = inr (full, long full)
