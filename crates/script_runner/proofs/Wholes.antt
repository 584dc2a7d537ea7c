-- A run of a script that is in order from the first line to the last comes to its end.
use Rattle.std.proofs.Common.{◌⊎◌, inl, inr, ◌≡◌, ◌≢◌, ℕ, suc, ◌+◌, ◌<◌, ◌≤◌, List, [], ◌∷◌, ◌++◌, length, map, refl, sym, ap, ◌∙◌, subst, arith, true, false}
use Rattle.std.proofs.Common.{append_assoc, Bool, ne_eqb, length-append}
use Rattle.std.specs.Prelude.{Option, Some, None, is_some, IsTrue, if◌then◌else◌, nat_eq, fold}
use Rattle.std.specs.Io.KnownBytes.{Consumes, Appends, IsAtEnd}
use Rattle.std.proofs.lemmas.List.{append-nil, length-map}
use Rattle.std.proofs.lemmas.List.Elements.{recursion_from_All}
use Rattle.std.specs.List.{AllByRecursion, list_any}
use Rattle.io_edge.specs.Lines.{lines_of, onto_first, is_ended, IsUnbroken}
use Rattle.script_lang.specs.Memory.{holds_lists}
use Rattle.script_runner.specs.declared.runner.Why.{Why}
use Rattle.script_runner.specs.declared.runner.Why.TheVariants.{Done, BadWords, BadLandscape, BadLine, SourceFault, SinkFault, LongLine, ManyLines, StoreFault}
use Rattle.script_runner.specs.declared.runner.Why.TheVariants.{BackupFault, BadStore, BadBackup, NoStart, NoMemory, LogFull}
use Rattle.script_runner.specs.Run.{AreAllowed, Turn, Progress, begun, next, run, moved, after_turn, line_does}
use Rattle.script_runner.specs.World.{World}
use Rattle.script_runner.specs.Replay.{Replays, Seen, HasBadCause, IsEnd, IsReadToEnd, MeetsBad}
use Rattle.hall_calls.specs.Leaving.{HasCounted}
use Rattle.script_runner.proofs.Counted.{all_counted, file_fails_in, store_fails_in}
use Rattle.script_runner.proofs.lemmas.MadeCalls.{file_lines, run_counts, store_lines}
use Rattle.script_runner.proofs.Doubts.{MadeOrBad, found_met, or_left, or_right, run_made, run_stays_or_fails, run_stops, stays_filed, stays_or_found, stays_stored, stopped, unmade_in}
use Rattle.enq_base.specs.Causes.{Rose}
use Rattle.enq_base.specs.declared.condition.Bad.{Bad}
use Rattle.enq_base.specs.declared.condition.Bad.TheVariants as bad
use Rattle.enq_base.specs.declared.refusal.Refusal.TheVariants as refusal
use Rattle.hall_model.specs.declared.command.Reply.TheVariants as reply
use Rattle.script_runner.specs.Faults.{is_unsound}
use Rattle.script_runner.specs.Lines.{line_in}
use Rattle.script_runner.proofs.Outcomes.{IsFine, calmed, calmed_calm, calmed_may, line_fine, line_well}
use Rattle.script_runner.specs.Whole.{IsAllDone, IsCalm, IsComplete, IsDoneInDoubt, IsDoneUnlessBad, IsGood, IsScript}

-- ---- lines of bytes that are put together

some_first : (b : ℕ) (ls : List (List ℕ)) → (line : List ℕ) × (rest : List (List ℕ)) × (onto_first b ls ≡ line ∷ rest)
some_first b [] = (b ∷ [], [], refl)
some_first b (l ∷ ls) = (b ∷ l, ls, refl)

some_line : (b : ℕ) (bs : List ℕ) → (line : List ℕ) × (rest : List (List ℕ)) × (lines_of (b ∷ bs) ≡ line ∷ rest)
some_line b bs =
    elim (nat_eq b 10) as (λ v. (line : List ℕ) × (rest : List (List ℕ)) × ((if v then [] ∷ lines_of bs else onto_first b (lines_of bs)) ≡ line ∷ rest))
    [ true ↦ ([], lines_of bs, refl) | false ↦ some_first b (lines_of bs) ]

onto_first-append : (b : ℕ) (xs ys : List (List ℕ)) → (line : List ℕ) × (rest : List (List ℕ)) × (xs ≡ line ∷ rest)
    → onto_first b (xs ++ ys) ≡ onto_first b xs ++ ys
onto_first-append b [] ys h = absurd (let e = h.2 in cc)
onto_first-append b (x ∷ xs) ys h = refl

-- the lines of whole lines stand in front of those of the rest
pub lines_of-append : (xs ys : List ℕ) → is_ended xs ≡ true → lines_of (xs ++ ys) ≡ lines_of xs ++ lines_of ys
lines_of-append [] ys h = refl
lines_of-append (b ∷ []) ys h =
    let e : nat_eq b 10 ≡ true = h in rw e refl
lines_of-append (b ∷ c ∷ xs) ys h =
    let below = lines_of-append (c ∷ xs) ys h in
    let split = onto_first-append b (lines_of (c ∷ xs)) (lines_of ys) (some_line c xs) in
    elim (nat_eq b 10)
    as (λ v. (if v then [] ∷ lines_of (c ∷ xs ++ ys) else onto_first b (lines_of (c ∷ xs ++ ys)))
    ≡ (if v then [] ∷ lines_of (c ∷ xs) else onto_first b (lines_of (c ∷ xs))) ++ lines_of ys) [
      | true ↦ ap (λ ls. [] ∷ ls) below
      | false ↦ ap (onto_first b) below ∙ split
    ]

-- a line, and lines behind it
pub record Lines (lines : List (List ℕ)) (least : ℕ) : Type 0 where
  pub line : List ℕ
  pub rest : List (List ℕ)
  pub are : lines ≡ line ∷ rest
  pub long : least ≤ length line

onto_longer : (b least : ℕ) (lines : List (List ℕ)) → Lines lines least → Lines (onto_first b lines) (suc least)
onto_longer b least lines h =
    record { line = b ∷ h.line; rest = h.rest; are = ap (onto_first b) h.are; long = omega (arith, h.long) }

onto_some : (b : ℕ) (lines : List (List ℕ)) → Lines (onto_first b lines) 1
onto_some b [] = record { line = b ∷ []; rest = []; are = refl; long = omega arith }
onto_some b (l ∷ ls) = record { line = b ∷ l; rest = ls; are = refl; long = omega arith }

unbroken_step : (b least : ℕ) (bs : List ℕ) → b ≢ 10 → Lines (onto_first b (lines_of bs)) least → Lines (lines_of (b ∷ bs)) least
unbroken_step b least bs differs h =
    let off : nat_eq b 10 ≡ false = ne_eqb b 10 differs in
    subst (λ v. Lines (if v then [] ∷ lines_of bs else onto_first b (lines_of bs)) least) (sym off) h

-- an unbroken front lies in the first line
pub first_line : (xs ys : List ℕ) → 0 < length xs → IsUnbroken xs → Lines (lines_of (xs ++ ys)) (length xs)
first_line [] ys some h = absurd (omega arith)
first_line (b ∷ []) ys some h = unbroken_step b 1 ys (h 0 b (omega arith)) (onto_some b (lines_of ys))
first_line (b ∷ c ∷ xs) ys some h =
    let below = first_line (c ∷ xs) ys (omega arith) (λ k d lt. h (suc k) d (omega arith)) in
    unbroken_step b (suc (length (c ∷ xs))) (c ∷ xs ++ ys) (h 0 b (omega arith)) (onto_longer b (length (c ∷ xs)) (lines_of (c ∷ xs ++ ys)) below)

-- ---- turns

abbrev pub lines_in : List Turn → List (List ℕ)
lines_in = map (λ t. t.line)

abbrev pub run_on : Progress → List Turn → Progress
run_on p turns = fold next p turns

next_fine : (p : Progress) (t : Turn) → IsTrue (is_some (line_in t.line)) → IsFine p.stop → IsFine (next p t).stop
next_fine p t known (inl e) =
    subst (λ o. IsFine (after_turn o p t).stop) (sym e) (line_fine p.world (p.number + 1) t.line t.outcome known)
next_fine p t known (inr e) = inr (ap (λ o. (after_turn o p t).stop) e ∙ e)

run_fine : (p : Progress) (turns : List Turn) → AllByRecursion IsGood (lines_in turns) → IsFine p.stop → IsFine (run_on p turns).stop
run_fine p [] all fine = fine
run_fine p (t ∷ ts) all fine = run_fine (next p t) ts all.1 (next_fine p t all.0.known fine)

abbrev calm_turn : Turn → Turn
calm_turn t = record { line = t.line; outcome = calmed t.outcome }

-- a line that doesn't end the run
goes_on : (p : Progress) (t : Turn) → (next p t).stop ≡ None → (line_does p.world (p.number + 1) t.line t.outcome).stop ≡ None
goes_on p t h = sym (ap (λ o. (after_turn o p t).stop) (stopped p t p.stop refl h)) ∙ h

next_well : (p : Progress) (t : Turn) → (next p t).stop ≡ None → next p t ≡ next p (calm_turn t)
next_well p t h =
    let e : p.stop ≡ None = stopped p t p.stop refl h in
    ap (λ o. after_turn o p t) e ∙ ap (moved p) (line_well p.world (p.number + 1) t.line t.outcome (goes_on p t h))
    ∙ sym (ap (λ o. after_turn o p (calm_turn t)) e)

-- a run that goes on to the end is the run in which nothing was wanting
run_well : (p : Progress) (turns : List Turn) → (run_on p turns).stop ≡ None → run_on p turns ≡ run_on p (map calm_turn turns)
run_well p [] h = refl
run_well p (t ∷ ts) h =
    let goes = run_stops (next p t) ts h in
    run_well (next p t) ts h ∙ ap (λ q. run_on q (map calm_turn ts)) (next_well p t goes)

run_calm : (turns : List Turn) → list_any store_fails_in turns ≡ false → list_any file_fails_in turns ≡ false → list_any unmade_in turns ≡ false
    → AllByRecursion (λ t. IsCalm t.outcome) (map calm_turn turns)
run_calm [] off unfiled made = tt
run_calm (t ∷ ts) off unfiled made = (
  calmed_calm t.outcome (or_left (store_fails_in t) (list_any store_fails_in ts) off) (or_left (file_fails_in t) (list_any file_fails_in ts) unfiled)
      (or_left (unmade_in t) (list_any unmade_in ts) made),
  run_calm ts (or_right (store_fails_in t) (list_any store_fails_in ts) off) (or_right (file_fails_in t) (list_any file_fails_in ts) unfiled)
      (or_right (unmade_in t) (list_any unmade_in ts) made),
)

run_allowed : (p : Progress) (turns : List Turn) → (run_on p turns).stop ≡ None → AreAllowed p turns → AreAllowed p (map calm_turn turns)
run_allowed p [] h allowed = tt
run_allowed p (t ∷ ts) h allowed =
    let goes = run_stops (next p t) ts h in (
      calmed_may p.world (p.number + 1) (holds_lists t.line) (line_in t.line) t.outcome (goes_on p t goes) allowed.0,
      subst (λ q. AreAllowed q (map calm_turn ts)) (next_well p t goes) (run_allowed (next p t) ts h allowed.1),
    )

same_lines : (turns : List Turn) → lines_in (map calm_turn turns) ≡ lines_in turns
same_lines [] = refl
same_lines (t ∷ ts) = ap (λ ls. t.line ∷ ls) (same_lines ts)

-- a device's count stood still, so that it didn't fail
none_failed : (b : Bool) (f g : ℕ) → HasCounted b f g → (Rose f g → ⊥) → b ≡ false
none_failed true f g h quiet = absurd (quiet h.1)
none_failed false f g h quiet = refl

-- ---- the end of a run

none_is_some : {A : Type 0} (x : A) → ◌≡◌ {A = Option A} None (Some x) → ⊥
none_is_some x e = cc

memory_is : (why : Why) → IsFine (Some why) → why ≡ NoMemory
memory_is why (inl e) = absurd (none_is_some why (sym e))
memory_is why (inr e) = cc

good_front : (xs ys : List (List ℕ)) → AllByRecursion IsGood (xs ++ ys) → AllByRecursion IsGood xs
good_front [] ys all = tt
good_front (x ∷ xs) ys all = (all.0, good_front xs ys all.1)

good_next : (xs ys : List (List ℕ)) (line : List ℕ) → AllByRecursion IsGood (xs ++ line ∷ ys) → IsGood line
good_next [] ys line all = all.0
good_next (x ∷ xs) ys line all = good_next xs ys line all.1

-- the lines of the bytes are those of the turns, and then those of what was read behind them and of what is left
pub begins : (bytes lines rest left : List ℕ) (turns : List Turn) → bytes ≡ (lines ++ rest) ++ left → (is_ended lines ≡ true) ⊎ ((rest ≡ []) × (left ≡ []))
    → lines_in turns ≡ lines_of lines → lines_of bytes ≡ lines_in turns ++ lines_of (rest ++ left)
begins bytes lines rest left turns all (inl ended) each =
    ap lines_of (all ∙ append_assoc lines rest left) ∙ lines_of-append lines (rest ++ left) ended ∙ ap (λ ls. ls ++ lines_of (rest ++ left)) (sym each)
begins bytes lines rest left turns all (inr e) each =
    let alone : bytes ≡ lines = all ∙ ap (λ x. (lines ++ rest) ++ x) e.1 ∙ append-nil (lines ++ rest) ∙ ap (λ x. lines ++ x) e.0 ∙ append-nil lines in
    let none : lines_of (rest ++ left) ≡ [] = ap lines_of (ap (λ x. x ++ left) e.0 ∙ e.1) in
    ap lines_of alone ∙ sym each ∙ sym (append-nil (lines_in turns)) ∙ ap (λ ls. lines_in turns ++ ls) (sym none)

pub count_lines : (bytes : List ℕ) (turns : List Turn) (tail : List (List ℕ)) → lines_of bytes ≡ lines_in turns ++ tail
    → length (lines_of bytes) ≡ length turns + length tail
count_lines bytes turns tail e =
    ap length e ∙ length-append (lines_in turns) tail ∙ ap (λ n. n + length tail) (length-map turns (λ (t : Turn). t.line))

pub some_tail : (rest left : List ℕ) → length rest ≡ 1 → 0 < length (lines_of (rest ++ left))
some_tail [] left h = absurd (omega arith)
some_tail (b ∷ rest) left h = let l = some_line b (rest ++ left) in omega (arith, ap length l.2)

too_long : (xs ys : List (List ℕ)) (rest left : List ℕ) → ys ≡ xs ++ lines_of (rest ++ left) → length rest ≡ 1025 → IsUnbroken rest → AllByRecursion IsGood ys
    → ⊥
too_long xs ys rest left e long unbroken all =
    let l = first_line rest left (omega arith) unbroken in
    let good = good_next xs l.rest l.line (subst (AllByRecursion IsGood) (e ∙ ap (λ t. xs ++ t) l.are) all) in
    omega (arith, good.fits.fits, l.long)

-- what is seen at the end, over bytes that the source told
all_done : (before after : World) (bytes left rest : List ℕ) (turns : List Turn) (old new : Seen) → AreAllowed (begun before) turns → new.left ≡ Some left
    → lines_of bytes ≡ lines_in turns ++ lines_of (rest ++ left) → list_any store_fails_in turns ≡ false → list_any file_fails_in turns ≡ false
    → list_any unmade_in turns ≡ false → after ≡ (run before turns).world → IsReadToEnd before turns rest old new
    → IsAllDone before after.hall bytes old.written new.written
all_done before after bytes left rest turns old new allowed is all off unfiled made hall end =
    let at_end : left ≡ [] = subst IsAtEnd is end.1 in
    let each : lines_of bytes ≡ lines_in turns = all ∙ ap (λ x. lines_in turns ++ lines_of x) (ap (λ x. x ++ left) end.0 ∙ at_end)
    ∙ append-nil (lines_in turns) in
    let same : run before turns ≡ run before (map calm_turn turns) = run_well (begun before) turns end.2 in
    record {
      turns = map calm_turn turns;
      each = same_lines turns ∙ sym each;
      calm = run_calm turns off unfiled made;
      allowed = run_allowed (begun before) turns end.2 allowed;
      state = ap (λ (x : World). x.hall) hall ∙ ap (λ (p : Progress). p.world.hall) same;
      text = subst (λ (p : Progress). Appends old.written new.written p.text) same end.3;
    }

-- all lines were done, where each lock server was made anew
done_or_bad : (before after : World) (bytes left rest : List ℕ) (turns : List Turn) (old new : Seen) → AreAllowed (begun before) turns → new.left ≡ Some left
    → lines_of bytes ≡ lines_in turns ++ lines_of (rest ++ left) → list_any store_fails_in turns ≡ false → list_any file_fails_in turns ≡ false
    → MadeOrBad (list_any unmade_in turns) before.hall (run before turns).world.hall → after ≡ (run before turns).world → IsReadToEnd before turns rest old new
    → IsDoneUnlessBad before after.hall bytes old.written new.written
done_or_bad before after bytes left rest turns old new allowed is all off unfiled (inl made) hall end =
    inl (all_done before after bytes left rest turns old new allowed is all off unfiled made hall end)
done_or_bad before after bytes left rest turns old new allowed is all off unfiled (inr met) hall end =
    inr (subst (λ (w : World). MeetsBad before.hall w.hall) (sym hall) met)

-- by a server that was in doubt before, or is so since a call that found such a device
doubted_or_bad : (before after : World) (bytes : List ℕ) (old new : Option (List ℕ)) (place : Bad) → is_unsound (reply.Refused (refusal.Unsound place)) ≡ true
    → HasBadCause before.hall after.hall place → IsDoneUnlessBad before after.hall bytes old new → IsDoneInDoubt before after.hall bytes old new
    ⊎ MeetsBad before.hall after.hall
doubted_or_bad before after bytes old new place unsound (inr found) done = inr (found_met before.hall after.hall place unsound found)
doubted_or_bad before after bytes old new place unsound (inl was) (inl done) = inl (was, done)
doubted_or_bad before after bytes old new place unsound (inl was) (inr met) = inr met

ends : (before after : World) (bytes left lines rest : List ℕ) (turns : List Turn) (old new : Seen) (why : Why) → AreAllowed (begun before) turns
    → new.left ≡ Some left → lines_of bytes ≡ lines_in turns ++ lines_of (rest ++ left) → IsScript bytes → (Rose old.source_faults new.source_faults → ⊥)
    → (Rose old.sink_faults new.sink_faults → ⊥) → list_any store_fails_in turns ≡ false → list_any file_fails_in turns ≡ false
    → after ≡ (run before turns).world → IsEnd before turns rest old new why → IsComplete before after.hall bytes old.written new.written why
ends before after bytes left lines rest turns old new Done allowed is all script quiet_source quiet_sink off unfiled hall end =
    done_or_bad before after bytes left rest turns old new allowed is all off unfiled (run_made before turns end.0.2 allowed) hall end.0
ends before after bytes left lines rest turns old new (StoreFault k) allowed is all script quiet_source quiet_sink off unfiled hall end = (
  stays_stored _ _ before.hall (run before turns).world.hall k (run_stays_or_fails before turns end.0.2 allowed) off end.1 end.2,
  done_or_bad before after bytes left rest turns old new allowed is all off unfiled (run_made before turns end.0.2 allowed) hall end.0,
)
ends before after bytes left lines rest turns old new (BackupFault k) allowed is all script quiet_source quiet_sink off unfiled hall end = (
  stays_filed _ _ before.hall (run before turns).world.hall k (run_stays_or_fails before turns end.0.2 allowed) unfiled end.1,
  done_or_bad before after bytes left rest turns old new allowed is all off unfiled (run_made before turns end.0.2 allowed) hall end.0,
)
ends before after bytes left lines rest turns old new (BadStore table row) allowed is all script quiet_source quiet_sink off unfiled hall end =
    let cause = stays_or_found _ _ before.hall (run before turns).world.hall (bad.Store table row) (run_stays_or_fails before turns end.0.2 allowed) end.1 in
    doubted_or_bad before after bytes old.written new.written (bad.Store table row) refl
    (subst (λ (w : World). HasBadCause before.hall w.hall (bad.Store table row)) (sym hall) cause)
    (done_or_bad before after bytes left rest turns old new allowed is all off unfiled (run_made before turns end.0.2 allowed) hall end.0)
ends before after bytes left lines rest turns old new (BadBackup place) allowed is all script quiet_source quiet_sink off unfiled hall end =
    let cause = stays_or_found _ _ before.hall (run before turns).world.hall (bad.Backup place) (run_stays_or_fails before turns end.0.2 allowed) end.1 in
    doubted_or_bad before after bytes old.written new.written (bad.Backup place) refl
    (subst (λ (w : World). HasBadCause before.hall w.hall (bad.Backup place)) (sym hall) cause)
    (done_or_bad before after bytes left rest turns old new allowed is all off unfiled (run_made before turns end.0.2 allowed) hall end.0)
ends before after bytes left lines rest turns old new NoStart allowed is all script quiet_source quiet_sink off unfiled hall end = absurd end
ends before after bytes left lines rest turns old new LogFull allowed is all script quiet_source quiet_sink off unfiled hall end = absurd end
ends before after bytes left lines rest turns old new BadWords allowed is all script quiet_source quiet_sink off unfiled hall end = absurd end
ends before after bytes left lines rest turns old new (BadLandscape rule place) allowed is all script quiet_source quiet_sink off unfiled hall end = absurd end
ends before after bytes left lines rest turns old new (BadLine n) allowed is all script quiet_source quiet_sink off unfiled hall end =
    let good = recursion_from_All IsGood (lines_of bytes) script.each in
    let fine = run_fine (begun before) turns (good_front (lines_in turns) (lines_of (rest ++ left)) (subst (AllByRecursion IsGood) all good)) (inl refl) in
    let memory : BadLine n ≡ NoMemory = memory_is (BadLine n) (subst IsFine end.1 fine) in
    absurd (cc)
ends before after bytes left lines rest turns old new SourceFault allowed is all script quiet_source quiet_sink off unfiled hall end =
    absurd (quiet_source end.1)
ends before after bytes left lines rest turns old new SinkFault allowed is all script quiet_source quiet_sink off unfiled hall end = absurd (quiet_sink end.1)
ends before after bytes left lines rest turns old new (LongLine n) allowed is all script quiet_source quiet_sink off unfiled hall end =
    absurd (too_long (lines_in turns) (lines_of bytes) rest left all end.1 end.2 (recursion_from_All IsGood (lines_of bytes) script.each))
ends before after bytes left lines rest turns old new ManyLines allowed is all script quiet_source quiet_sink off unfiled hall end =
    let counted = run_counts (begun before) turns in
    let some = some_tail rest left end.1 in
    let total = count_lines bytes turns (lines_of (rest ++ left)) all in
    absurd (omega (arith, end.0, script.few))
ends before after bytes left lines rest turns old new NoMemory allowed is all script quiet_source quiet_sink off unfiled hall end = tt

pub told : (bytes taken : List ℕ) (left : Option (List ℕ)) → Consumes (Some bytes) left taken → (rest : List ℕ) × (left ≡ Some rest) × (bytes ≡ taken ++ rest)
told bytes taken None h = absurd h
told bytes taken (Some rest) h = (rest, refl, h)

at_end_of : (left : Option (List ℕ)) (rest : List ℕ) → left ≡ Some rest → IsAtEnd left → rest ≡ []
at_end_of left rest is h = subst IsAtEnd is h

pub known_whole : (lines rest left : List ℕ) (told : Option (List ℕ)) → told ≡ Some left → (is_ended lines ≡ true) ⊎ ((rest ≡ []) × IsAtEnd told)
    → (is_ended lines ≡ true) ⊎ ((rest ≡ []) × (left ≡ []))
known_whole lines rest left told is (inl ended) = inl ended
known_whole lines rest left told is (inr h) = inr (h.0, at_end_of told left is h.1)

-- a run over a script that is in order from the first line to the last
pub completes : (before after : World) (turns : List Turn) (old new : Seen) (why : Why) (bytes : List ℕ) → Replays before after turns old new why
    → old.left ≡ Some bytes → IsScript bytes
    → (Rose old.source_faults new.source_faults → ⊥) → (Rose old.sink_faults new.sink_faults → ⊥) → (Rose old.store_faults new.store_faults → ⊥)
    → (Rose old.file_faults new.file_faults → ⊥) → IsComplete before after.hall bytes old.written new.written why
completes before after turns old new why bytes h is script quiet_source quiet_sink quiet_store quiet_file =
    let rest = told bytes (h.lines ++ h.rest) new.left (subst (λ o. Consumes o new.left (h.lines ++ h.rest)) is h.read) in
    let all = begins bytes h.lines h.rest rest.0 turns rest.2 (known_whole h.lines h.rest rest.0 new.left rest.1 h.whole) h.each in
    ends before after bytes rest.0 h.lines h.rest turns old new why h.allowed rest.1 all script quiet_source quiet_sink
    (none_failed _ _ _ (all_counted store_fails_in turns _ _ (store_lines before turns _ _ h.allowed h.done h.store)) quiet_store)
    (none_failed _ _ _ (all_counted file_fails_in turns _ _ (file_lines before turns _ _ h.allowed h.done h.file)) quiet_file) h.world h.end
