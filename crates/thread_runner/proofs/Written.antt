-- What was done by threads and written is how the run ends.
use Rattle.std.proofs.Common.{◌≡◌, ℕ, ◌≤◌, Bool, true, false, true≢false, List, [], ◌∷◌, ◌++◌, length, refl, sym, ap, ◌∙◌, subst, arith}
use Rattle.std.specs.Prelude.{◌||◌, map, Option, None, Some, is_some}
use Rattle.std.specs.List.{AllByRecursion, list_any}
use Rattle.std.specs.List.Sorted.{IsPermutation}
use Rattle.std.proofs.lemmas.List.Sorted.{IsPermutation-append_comm, IsPermutation-append_right, IsPermutation-refl, IsPermutation-trans}
use Rattle.hall_model.specs.State.{State}
use Rattle.hall_model.specs.declared.command.Who.{Who}
use Rattle.hall_model.specs.declared.command.Who.TheVariants as caller
use Rattle.script_actors.specs.Actors.{Land}
use Rattle.order_laws.specs.Behind.{wants}
use Rattle.script_actors.specs.declared.actor.Said.{Said}
use Rattle.script_actors.specs.declared.drawing.Drawing.{Drawing}
use Rattle.script_actors.specs.declared.line.NumberedLine.{NumberedLine}
use Rattle.script_runner.specs.Faults.{end_of}
use Rattle.script_runner.specs.declared.runner.Why.{Why}
use Rattle.script_runner.specs.declared.runner.Why.TheVariants.{Done, BadWords, BadLandscape, BadLine, SourceFault, SinkFault, LongLine, ManyLines, StoreFault}
use Rattle.script_runner.specs.declared.runner.Why.TheVariants.{BackupFault, BadStore, BadBackup, NoStart, NoMemory, LogFull}
use Rattle.actor_threads.specs.declared.actor.Deed.{Deed as DeedOf}
use Rattle.caller_laws.specs.Callers.{threads_of}
use Rattle.caller_laws.specs.Doing.{Did, LinesDid}
use Rattle.caller_laws.specs.Numbers.{NoneBuffered}
use Rattle.thread_runner.specs.Answers.{answers_in, answers_of}
use Rattle.thread_runner.specs.Writing.{AllSaid, HadMemory, IsWritten, found_full, is_worker}
use Rattle.thread_runner.specs.Writing.{IsReported as WasReported}
use Rattle.thread_runner.specs.Acting.{HasActed, HaveSeen}
use Rattle.thread_runner.specs.Hiring.{DidDeed, left_of}
use Rattle.thread_runner.specs.Looking.{LeavesNone}
use Rattle.thread_runner.specs.Deeds.{Deeds}
use Rattle.thread_runner.specs.Numbers.{AreWithin, DrawsNumbers, HasDrawn, HaveDrawn, all_drawn, drawn_by}
use Rattle.thread_runner.specs.Stocking.{DeedsDraw, drawn_in_deeds}
use Rattle.thread_runner.specs.Threads.{AllLinesDone, AreAllDone, HasAllDone, HaveDone, HaveLooked, IsEndOfRun, IsReported, all_answers, output}
use Rattle.thread_runner.proofs.Ends.{ended}
use Rattle.thread_runner.proofs.Called.{DrewLaw}
use Rattle.thread_runner.proofs.Stopped.{all_lines_done}

abbrev who_in : List DeedOf → List Who
who_in deeds = map (λ (d : DeedOf). d.who) deeds

or_left : (a b : Bool) → (a || b) ≡ false → a ≡ false
or_left true b h = h
or_left false b h = refl

or_right : (a b : Bool) → (a || b) ≡ false → b ≡ false
or_right true b h = absurd (true≢false h)
or_right false b h = h

none_of : (o : Option ℕ) → is_some o ≡ false → o ≡ None
none_of None h = refl
none_of (Some x) h = absurd (true≢false h)

module _ (land : Land) (lines : List NumberedLine) (s : State) where
  abbrev AllDid : List DeedOf → Type 0
  AllDid ds = AllByRecursion (DidDeed land lines s.past) ds

  -- ---- the deeds, by their callers

  abbrev deeds_by : (ds : List DeedOf) → AllDid ds → Deeds land lines s.past (who_in ds)
  deeds_by [] h = tt
  deeds_by (d ∷ ds) h = (record { left = left_of d; full_at = d.full_at; did = h.0.did }, deeds_by ds h.1)

  -- what they saw
  looked_by : (first : State) (ds : List DeedOf) (h : AllDid ds) → HaveSeen first s ds
      → HaveLooked land lines s.past first s (who_in ds) (deeds_by ds h)
  looked_by first [] h saw = tt
  looked_by first (d ∷ ds) h saw = (saw.0, looked_by first ds h.1 saw.1)

  -- their answers are the same, in another order
  same_answers : (ds : List DeedOf) (h : AllDid ds) → IsPermutation (all_answers land lines s.past (who_in ds) (deeds_by ds h)) (answers_in lines ds)
  same_answers [] h = IsPermutation-refl []
  same_answers (d ∷ ds) h =
      let own : List Said = answers_of lines d.who d.said d.full_at in
      let all : List Said = all_answers land lines s.past (who_in ds) (deeds_by ds h.1) in
      IsPermutation-trans (own ++ all) (own ++ answers_in lines ds) (answers_in lines ds ++ own)
      (IsPermutation-append_right own all (answers_in lines ds) (same_answers ds h.1))
      (IsPermutation-append_comm own (answers_in lines ds))

  -- ---- a full history

  equal : (n : ℕ) → n ≤ 262144 → 262144 ≤ n → n ≡ 262144
  equal n a b = omega (arith, a, b)

  long_of : (ds : List DeedOf) → AllDid ds → found_full ds ≡ true → 262144 ≤ length s.past
  long_of [] h full = absurd (true≢false (sym full))
  long_of (d ∷ ds) h full = go (is_some d.full_at) refl (long_of ds h.1)
    where
      go : (b : Bool) → is_some d.full_at ≡ b → (found_full ds ≡ true → 262144 ≤ length s.past) → 262144 ≤ length s.past
      go true e later = h.0.long e
      go false e later = later (sym (ap (λ b. b || found_full ds) e) ∙ full)

  -- ---- all lines of all actors

  lines_done : (w : Who) (d : DeedOf) → is_some d.said ≡ true → list_any wants s.past ≡ false → LinesDid land lines s.past w (left_of d) None
      → AllLinesDone land lines s.past w (left_of d)
  lines_done w d some calm h = all_lines_done land lines s.past w (left_of d) some calm h

  deed_done : (d : DeedOf) → DidDeed land lines s.past d → (is_worker d.who || is_some d.said) ≡ true → is_some d.full_at ≡ false
      → list_any wants s.past ≡ false → HasAllDone land lines s.past d.who (left_of d)
  deed_done d h some off calm = go d.who refl
    where
      did : (w : Who) → d.who ≡ w → Did land lines s.past w (left_of d) None
      did w e = subst (λ f. Did land lines s.past w (left_of d) f) (none_of d.full_at off)
          (subst (λ x. Did land lines s.past x (left_of d) d.full_at) e h.did)

      go : (w : Who) → d.who ≡ w → HasAllDone land lines s.past d.who (left_of d)
      go (caller.Worker w) e = subst (λ x. HasAllDone land lines s.past x (left_of d)) (sym e) tt
      go (caller.Session name) e =
          subst (λ x. HasAllDone land lines s.past x (left_of d)) (sym e)
          (lines_done (caller.Session name) d (sym (ap (λ x. is_worker x || is_some d.said) e) ∙ some) calm (did (caller.Session name) e))
      go caller.Admin e =
          subst (λ x. HasAllDone land lines s.past x (left_of d)) (sym e)
          (lines_done caller.Admin d (sym (ap (λ x. is_worker x || is_some d.said) e) ∙ some) calm (did caller.Admin e))

  all_done : (ds : List DeedOf) (h : AllDid ds) → AllSaid ds → found_full ds ≡ false → list_any wants s.past ≡ false
      → AreAllDone land lines s.past (who_in ds) (deeds_by ds h)
  all_done [] h said off calm = tt
  all_done (d ∷ ds) h said off calm = (
    deed_done d h.0 said.0 (or_left (is_some d.full_at) (found_full ds) off) calm,
    all_done ds h.1 said.1 (or_right (is_some d.full_at) (found_full ds) off) calm,
  )

  -- ---- numbers

  same_drawn : (ds : List DeedOf) (h : AllDid ds) → all_drawn land lines s.past (who_in ds) (deeds_by ds h) ≡ drawn_in_deeds ds
  same_drawn [] h = refl
  same_drawn (d ∷ ds) h = ap (λ l. drawn_by d.who (left_of d) ++ l) (same_drawn ds h.1)

  module _ (drew : DrewLaw) where
    drawn_of_deed : (d : DeedOf) (w : Who) → d.who ≡ w → Did land lines s.past w (left_of d) d.full_at → HasDrawn land lines s.past w (left_of d)
    drawn_of_deed d (caller.Worker w) e h = tt
    drawn_of_deed d (caller.Session name) e h = drew land lines s.past name (left_of d) d.full_at h
    drawn_of_deed d caller.Admin e h = tt

    have_drawn : (ds : List DeedOf) (h : AllDid ds) → HaveDrawn land lines s.past (who_in ds) (deeds_by ds h)
    have_drawn [] h = tt
    have_drawn (d ∷ ds) h = (drawn_of_deed d d.who refl h.0.did, have_drawn ds h.1)

    drawn_by_deeds : (first : State) (ds : List DeedOf) (h : AllDid ds) (drawn : List Drawing) → DeedsDraw land first s ds drawn
        → NoneBuffered land.intervals s.past → DrawsNumbers land lines first s (who_in ds) (deeds_by ds h) drawn
    drawn_by_deeds first ds h drawn n plain = record {
      all = subst (λ l. IsPermutation l drawn) (sym (same_drawn ds h)) n.all;
      order = n.order;
      none = plain;
      sessions = have_drawn ds h;
      each = n.each;
    }

  -- ---- the end

  module _ (ds : List DeedOf) (did : AllDid ds) (left : LeavesNone s ds) (within : length s.past ≤ 262144) (old new : Option (List ℕ)) (f n : ℕ) where
    abbrev all : List Said
    all = all_answers land lines s.past (who_in ds) (deeds_by ds did)

    abbrev Ends : Why → Type 0
    Ends why = IsEndOfRun land lines s (who_in ds) (deeds_by ds did) (output old f) (output new n) why

    reported : WasReported lines s ds old new f n → IsReported lines s all (output old f) (output new n)
    reported r = record {
      said = r.said;
      order = record {
        same = IsPermutation-trans all (answers_in lines ds) r.said (same_answers ds did) r.order.same;
        ordered = r.order.ordered;
      };
      text = r.text;
      quiet = r.quiet;
    }

    told : (why : Why) → WasReported lines s ds old new f n × HadMemory s ds × (found_full ds ≡ false) × (why ≡ end_of s.condition s.past) → Ends why
    told why w =
        let memory : HadMemory s ds = w.1 in
        let off : found_full ds ≡ false = w.2 in
        ended land lines s (who_in ds) (deeds_by ds did) (output old f) (output new n)
        (reported w.0, all_done ds did memory.lines off memory.calls)
        (λ calm. left calm memory.calls off) why w.3

    end_by : (why : Why) → IsWritten lines s ds old new f n why → Ends why
    end_by SinkFault w = record { rest = w.rest; text = w.text; cause = w.cause }
    end_by NoMemory w = record { rest = w.rest; text = w.text; quiet = w.quiet }
    end_by LogFull w = (reported w.0, equal (length s.past) within (long_of ds did w.2))
    end_by Done w = told Done w
    end_by BadWords w = told BadWords w
    end_by (BadLandscape rule place) w = told (BadLandscape rule place) w
    end_by (BadLine m) w = told (BadLine m) w
    end_by SourceFault w = told SourceFault w
    end_by (LongLine m) w = told (LongLine m) w
    end_by ManyLines w = told ManyLines w
    end_by (StoreFault k) w = told (StoreFault k) w
    end_by (BackupFault k) w = told (BackupFault k) w
    end_by (BadStore table row) w = told (BadStore table row) w
    end_by (BadBackup place) w = told (BadBackup place) w
    end_by NoStart w = told NoStart w

-- what was done and written
pub have_done : DrewLaw → (land : Land) (lines : List NumberedLine) (workers : ℕ) (first s : State) (ds : List DeedOf) (drawn : List Drawing)
    (old new : Option (List ℕ)) (f n : ℕ) (why : Why)
    → length s.past ≤ 262144 → IsWritten lines s ds old new f n why → HasActed land lines (threads_of lines workers) first s ds drawn
    → HaveDone land lines workers first s drawn (output old f) (output new n) why
have_done drew land lines workers first s ds drawn old new f n why within written acted =
    let who : who_in ds ≡ threads_of lines workers = acted.done.who in
    let by = subst
    (λ (ws : List Who). (did : Deeds land lines s.past ws) × HaveLooked land lines s.past first s ws did
    × DrawsNumbers land lines first s ws did drawn × IsEndOfRun land lines s ws did (output old f) (output new n) why)
    who (
      deeds_by land lines s ds acted.done.did,
      looked_by land lines s first ds acted.done.did acted.looked,
      drawn_by_deeds land lines s drew first ds acted.done.did drawn acted.numbers acted.plain,
      end_by land lines s ds acted.done.did acted.worked within old new f n why written,
    ) in
    record { callers = acted.among; did = by.0; looked = by.1; numbers = by.2; end = by.3 }
