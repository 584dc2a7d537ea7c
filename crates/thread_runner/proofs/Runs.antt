-- What a run comes to, by how its script was done.
use Rattle.std.proofs.Common.{◌≡◌, inl, inr, ℕ, zero, suc, ◌-◌, Bool, true, false, true≢false, List, [], ◌∷◌, refl, sym, ap, ◌∙◌, subst}
use Rattle.std.proofs.Math.Bridge.{le_prop}
use Rattle.std.proofs.Math.Logic.{∥∥₁_elim, ∥∥₁_map, ∥∥₁_map₂}
use Rattle.std.specs.Prelude.{◌||◌, Option, None, Some, IsTrue}
use Rattle.std.specs.List.{list_any, slice_get}
use Rattle.std.specs.Option.{option_map, option_map_or}
use Rattle.std.specs.Io.KnownBytes.{Consumes}
use Rattle.enq_base.specs.Causes.{Rose}
use Rattle.enq_base.specs.declared.condition.Bad.TheVariants as bad
use Rattle.enq_base.specs.declared.refusal.Refusal.TheVariants as refusal
use Rattle.hall_model.specs.State.{State}
use Rattle.hall_model.specs.Unsound.{is_unsound_file, is_unsound_store}
use Rattle.hall_model.specs.declared.command.PastEntry.{PastEntry}
use Rattle.hall_model.specs.declared.command.Reply.{Reply}
use Rattle.hall_model.specs.declared.command.Reply.TheVariants as reply
use Rattle.ledger_steps.specs.Levels.{intervals_of}
use Rattle.lock_objects.specs.Objects.{Object}
use Rattle.script_actors.specs.Actors.{Land, land_of}
use Rattle.script_actors.specs.declared.drawing.Drawing.{Drawing}
use Rattle.script_actors.specs.declared.line.NumberedLine.{NumberedLine}
use Rattle.script_runner.specs.Faults.{NoneTells, answer_at, tells_other}
use Rattle.script_runner.specs.Replay.{IsDoubted, Seen, doubt_of}
use Rattle.script_runner.specs.declared.runner.Why.{Why}
use Rattle.script_runner.specs.declared.runner.Why.TheVariants.{Done, BadWords, BadLandscape, BadLine, SourceFault, SinkFault, LongLine, ManyLines, StoreFault}
use Rattle.script_runner.specs.declared.runner.Why.TheVariants.{BackupFault, BadStore, BadBackup, NoStart, NoMemory, LogFull}
use Rattle.turn_desks.specs.Led.{Counts, IsLed}
use Rattle.whole_script.specs.Reading.{BlamesFirst, IsRead, IsReadingEnd}
use Rattle.thread_runner.specs.Acting.{DoesScript}
use Rattle.thread_runner.specs.Threads.{EndsWhole, HaveDone, Output, RunsThreads, output}

none_prop : (x y : ⊥) → x ≡ y
none_prop x y = absurd x

-- how the script was done, said of the hall as it was given, and as it is given back
pub does_here : (objects : List Object) (lines : List NumberedLine) (workers : ℕ) (s given left t : State) (drawn : List Drawing) (o n : Output) (why : Why)
    → given ≡ s → t ≡ left → ∥ DoesScript (land_of objects (intervals_of given.ranges)) lines workers given left drawn o n why ∥₁
    → ∥ DoesScript (land_of objects (intervals_of s.ranges)) lines workers s t drawn o n why ∥₁
does_here objects lines workers s given left t drawn o n why began ended does =
    subst (λ (x : State). ∥ DoesScript (land_of objects (intervals_of x.ranges)) lines workers x t drawn o n why ∥₁) began
    (subst (λ (x : State). ∥ DoesScript (land_of objects (intervals_of given.ranges)) lines workers given x drawn o n why ∥₁) (sym ended) does)

-- ---- an end that isn't want of memory

abbrev wants_none : Why → Bool
wants_none NoMemory = false
wants_none why = true

begun : (why : Why) → wants_none why ≡ true → why ≡ NoMemory → ⊥
begun why on e = true≢false (sym on ∙ ap wants_none e)

-- no call was answered so, in a history in which none tells so
none_so : (tells : Reply → Bool) (past : List PastEntry) (i : ℕ) (r : Reply) → NoneTells tells past
    → option_map (λ (e : PastEntry). e.reply) (slice_get past i) ≡ Some r → tells r ≡ false
none_so tells [] i r none is = absurd (no_call r is)
  where
    no_call : (x : Reply) → ◌≡◌ {A = Option Reply} None (Some x) → ⊥
    no_call x e = cc
none_so tells (e ∷ past) zero r none is = ap tells (sym (same e.reply r is)) ∙ or_left (tells e.reply) (list_any (λ (x : PastEntry). tells x.reply) past) none
  where
    same : (x y : Reply) → ◌≡◌ {A = Option Reply} (Some x) (Some y) → x ≡ y
    same x y h = cc

    or_left : (a b : Bool) → (a || b) ≡ false → a ≡ false
    or_left true b h = h
    or_left false b h = refl
none_so tells (e ∷ past) (suc i) r none is = none_so tells past i r (or_right (tells e.reply) (list_any (λ (x : PastEntry). tells x.reply) past) none) is
  where
    or_right : (a b : Bool) → (a || b) ≡ false → b ≡ false
    or_right true b h = absurd (true≢false h)
    or_right false b h = h

-- ---- what the laws of doubts say

abbrev pub StoreLaw : Type 0
StoreLaw = (told tells linked : Bool) (first s : State) (before now : Counts) (k : ℕ) → IsLed told tells linked first before s now
    → doubt_of first ≡ None → doubt_of s ≡ Some k → option_map_or tells_other (answer_at s.past k) false ≡ false → Rose before.store now.store

abbrev pub FileLaw : Type 0
FileLaw = (told tells linked : Bool) (first s : State) (before now : Counts) (k : ℕ) → IsLed told tells linked first before s now
    → doubt_of first ≡ None → IsDoubted s k refusal.BackupFault → Rose before.file now.file

module _ (land : Land) (lines : List NumberedLine) (workers : ℕ) (s t : State) (drawn : List Drawing) (old new : Output) where
  not_blamed : (why : Why) → wants_none why ≡ true → (HaveDone land lines workers s t drawn old new why → ⊥)
      → ∥ DoesScript land lines workers s t drawn old new why ∥₁ → ⊥
  not_blamed why on never h = ∥∥₁_elim h none_prop go
    where
      go : DoesScript land lines workers s t drawn old new why → ⊥
      go (inl u) = begun why on u.end
      go (inr d) = never d

  -- no line is to blame for the end of a script that was read to its end
  pub no_blame : (bytes : List ℕ) (why : Why) → ∥ DoesScript land lines workers s t drawn old new why ∥₁ → BlamesFirst bytes why
  no_blame bytes (BadLine n) h = absurd (not_blamed (BadLine n) refl (λ d. d.end) h)
  no_blame bytes (LongLine n) h = absurd (not_blamed (LongLine n) refl (λ d. d.end) h)
  no_blame bytes ManyLines h = absurd (not_blamed ManyLines refl (λ d. d.end) h)
  no_blame bytes Done h = tt
  no_blame bytes BadWords h = tt
  no_blame bytes (BadLandscape rule place) h = tt
  no_blame bytes SourceFault h = tt
  no_blame bytes SinkFault h = tt
  no_blame bytes (StoreFault k) h = tt
  no_blame bytes (BackupFault k) h = tt
  no_blame bytes (BadStore table row) h = tt
  no_blame bytes (BadBackup place) h = tt
  no_blame bytes NoStart h = tt
  no_blame bytes NoMemory h = tt
  no_blame bytes LogFull h = tt

  module _ (told tells linked : Bool) (before now : Counts) (first : State) (well : doubt_of first ≡ None)
      (led : ∥ IsLed told tells linked first before t now ∥₁) where
    pub store_rose : StoreLaw → (k : ℕ) → ∥ DoesScript land lines workers s t drawn old new (StoreFault k) ∥₁ → Rose before.store now.store
    store_rose law k h =
        ∥∥₁_elim (∥∥₁_map₂ h led go) le_prop (λ r. r)
      where
        go : DoesScript land lines workers s t drawn old new (StoreFault k) → IsLed told tells linked first before t now → Rose before.store now.store
        go (inl u) l = absurd (begun (StoreFault k) refl u.end)
        go (inr d) l = law told tells linked first t before now k l well d.end.1 d.end.2

    pub file_rose : FileLaw → (k : ℕ) → ∥ DoesScript land lines workers s t drawn old new (BackupFault k) ∥₁ → Rose before.file now.file
    file_rose law k h =
        ∥∥₁_elim (∥∥₁_map₂ h led go) le_prop (λ r. r)
      where
        go : DoesScript land lines workers s t drawn old new (BackupFault k) → IsLed told tells linked first before t now → Rose before.file now.file
        go (inl u) l = absurd (begun (BackupFault k) refl u.end)
        go (inr d) l = law told tells linked first t before now k l well d.end.1

    no_bad_store : told ≡ true → (table row : ℕ) → ∥ DoesScript land lines workers s t drawn old new (BadStore table row) ∥₁ → ⊥
    no_bad_store held table row h =
        ∥∥₁_elim (∥∥₁_map₂ h led go) none_prop (λ r. r)
      where
        go : DoesScript land lines workers s t drawn old new (BadStore table row) → IsLed told tells linked first before t now → ⊥
        go (inl u) l = begun (BadStore table row) refl u.end
        go (inr d) l =
            true≢false
            (none_so is_unsound_store t.past (d.end.1.0 - 1) (reply.Refused (refusal.Unsound (bad.Store table row))) (l.good_store held) d.end.1.1.1)

    no_bad_file : linked ≡ true → IsTrue tells → (place : _) → ∥ DoesScript land lines workers s t drawn old new (BadBackup place) ∥₁ → ⊥
    no_bad_file on tell place h =
        ∥∥₁_elim (∥∥₁_map₂ h led go) none_prop (λ r. r)
      where
        go : DoesScript land lines workers s t drawn old new (BadBackup place) → IsLed told tells linked first before t now → ⊥
        go (inl u) l = begun (BadBackup place) refl u.end
        go (inr d) l =
            true≢false
            (none_so is_unsound_file t.past (d.end.1.0 - 1) (reply.Refused (refusal.Unsound (bad.Backup place))) (l.good_file on tell) d.end.1.1.1)

    sink_rose : ∥ DoesScript land lines workers s t drawn old new SinkFault ∥₁ → Rose old.faults new.faults
    sink_rose h = ∥∥₁_elim h le_prop go
      where
        go : DoesScript land lines workers s t drawn old new SinkFault → Rose old.faults new.faults
        go (inl u) = absurd (begun SinkFault refl u.end)
        go (inr d) = d.end.cause

    -- where no device failed and none was found that isn't good
    pub done_whole : StoreLaw → FileLaw → told ≡ true → linked ≡ true → IsTrue tells → (Rose old.faults new.faults → ⊥)
        → (Rose before.store now.store → ⊥) → (Rose before.file now.file → ⊥) → (why : Why) → ∥ DoesScript land lines workers s t drawn old new why ∥₁
        → EndsWhole why
    done_whole store file held on tell sink kept filed Done h = inl refl
    done_whole store file held on tell sink kept filed NoMemory h = inr (inl refl)
    done_whole store file held on tell sink kept filed LogFull h = inr (inr refl)
    done_whole store file held on tell sink kept filed BadWords h = absurd (not_blamed BadWords refl (λ d. d.end) h)
    done_whole store file held on tell sink kept filed (BadLandscape rule place) h = absurd (not_blamed (BadLandscape rule place) refl (λ d. d.end) h)
    done_whole store file held on tell sink kept filed (BadLine n) h = absurd (not_blamed (BadLine n) refl (λ d. d.end) h)
    done_whole store file held on tell sink kept filed SourceFault h = absurd (not_blamed SourceFault refl (λ d. d.end) h)
    done_whole store file held on tell sink kept filed SinkFault h = absurd (sink (sink_rose h))
    done_whole store file held on tell sink kept filed (LongLine n) h = absurd (not_blamed (LongLine n) refl (λ d. d.end) h)
    done_whole store file held on tell sink kept filed ManyLines h = absurd (not_blamed ManyLines refl (λ d. d.end) h)
    done_whole store file held on tell sink kept filed (StoreFault k) h = absurd (kept (store_rose store k h))
    done_whole store file held on tell sink kept filed (BackupFault k) h = absurd (filed (file_rose file k h))
    done_whole store file held on tell sink kept filed (BadStore table row) h = absurd (no_bad_store held table row h)
    done_whole store file held on tell sink kept filed (BadBackup place) h = absurd (no_bad_file on tell place h)
    done_whole store file held on tell sink kept filed NoStart h = absurd (not_blamed NoStart refl (λ d. d.end) h)

-- ---- the whole

-- a script that was read to its end
pub run_read : (objects : List Object) (lines : List NumberedLine) (workers : ℕ) (before after : State) (drawn : List Drawing) (bytes : List ℕ)
    (old new : Seen) (why : Why)
    → Consumes old.left new.left bytes → IsRead bytes new.left lines → new.source_faults ≡ old.source_faults
    → ∥ DoesScript (land_of objects (intervals_of before.ranges)) lines workers before after drawn (output old.written old.sink_faults)
    (output new.written new.sink_faults) why ∥₁
    → ∥ RunsThreads objects workers before after drawn old new why ∥₁
run_read objects lines workers before after drawn bytes old new why read known quiet h = ∥∥₁_map h go
  where
    go : DoesScript (land_of objects (intervals_of before.ranges)) lines workers before after drawn (output old.written old.sink_faults)
        (output new.written new.sink_faults) why → RunsThreads objects workers before after drawn old new why
    go (inl u) = inl (record {
      bytes = bytes;
      read = read;
      end = subst (IsReadingEnd bytes new.left old.source_faults new.source_faults) (sym u.end) tt;
      state = u.same;
      none = u.none;
      written = ap (λ (o : Output). o.written) u.still;
      quiet = ap (λ (o : Output). o.faults) u.still;
    })
    go (inr d) = inr (record { bytes = bytes; read = read; lines = lines; known = known; quiet = quiet; done = d })

-- and one that wasn't
pub run_unread : (objects : List Object) (workers : ℕ) (before after : State) (drawn : List Drawing) (bytes : List ℕ) (old new : Seen) (why : Why)
    → Consumes old.left new.left bytes → IsReadingEnd bytes new.left old.source_faults new.source_faults why
    → after ≡ before → drawn ≡ [] → new.written ≡ old.written → new.sink_faults ≡ old.sink_faults
    → ∥ RunsThreads objects workers before after drawn old new why ∥₁
run_unread objects workers before after drawn bytes old new why read end same none written quiet =
    ∣ inl (record { bytes = bytes; read = read; end = end; state = same; none = none; written = written; quiet = quiet }) ∣₁
