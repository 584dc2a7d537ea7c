-- A run that a line ends comes to its end just at that line.
use Rattle.std.proofs.Common.{inl, inr, ◌≡◌, ℕ, ◌+◌, List, [], ◌∷◌, ◌++◌, length, refl, sym, ap, ◌∙◌, subst, arith, append_assoc}
use Rattle.std.specs.Prelude.{Option, Some, None, is_some}
use Rattle.std.specs.Io.KnownBytes.{Consumes}
use Rattle.std.specs.List.{AllByRecursion}
use Rattle.std.proofs.lemmas.List.{length-map}
use Rattle.script_lang.specs.declared.script_line.ScriptLine.{ScriptLine}
use Rattle.io_edge.specs.Lines.{lines_of}
use Rattle.script_runner.specs.declared.runner.Why.{Why}
use Rattle.script_runner.specs.declared.runner.Why.TheVariants.{Done, BadWords, BadLandscape, BadLine, SourceFault, SinkFault, LongLine, ManyLines, StoreFault}
use Rattle.script_runner.specs.declared.runner.Why.TheVariants.{BackupFault, BadStore, BadBackup, NoStart, NoMemory, LogFull}
use Rattle.script_runner.specs.Lines.{line_in}
use Rattle.script_runner.specs.LineFaults.{IsKnown, IsToBlame}
use Rattle.script_runner.specs.Replay.{Replays, Seen, IsEnd}
use Rattle.script_runner.specs.Run.{LineOutcome, NoRoom, Called, Turn, Progress, begun, next, moved, after_turn, said, line_does}
use Rattle.script_runner.specs.World.{World}
use Rattle.script_runner.proofs.Doubts.{run_stops}
use Rattle.script_runner.proofs.lemmas.MadeCalls.{run_counts}
use Rattle.script_runner.proofs.Outcomes.{IsFine, line_fine}
use Rattle.script_runner.proofs.Wholes.{lines_in, run_on, first_line, told, known_whole, begins, count_lines, some_tail}

bad_fine : (m : ℕ) → IsFine (Some (BadLine m)) → ⊥
bad_fine m (inl e) = cc
bad_fine m (inr e) = cc

bad_number : (w : World) (n m : ℕ) (known : Option ScriptLine) (outcome : LineOutcome) → known ≡ None → (said w n known outcome).stop ≡ Some (BadLine m) → m ≡ n
bad_number w n m None NoRoom e h = cc
bad_number w n m None (Called call) e h = cc
bad_number w n m (Some l) outcome e h = cc

-- how a line comes to be a bad one
line_bad : (w : World) (n m : ℕ) (bytes : List ℕ) (outcome : LineOutcome) (known : Option ScriptLine) → line_in bytes ≡ known
    → (line_does w n bytes outcome).stop ≡ Some (BadLine m) → (line_in bytes ≡ None) × (m ≡ n)
line_bad w n m bytes outcome (Some l) e h =
    let fine : IsFine (Some (BadLine m)) = subst IsFine h (line_fine w n bytes outcome (ap is_some e)) in
    absurd (bad_fine m fine)
line_bad w n m bytes outcome None e h = (e, bad_number w n m (line_in bytes) outcome e h)

none_stops : (w : World) (n : ℕ) (known : Option ScriptLine) (outcome : LineOutcome) → known ≡ None → (said w n known outcome).stop ≡ None → ⊥
none_stops w n None NoRoom e h = cc
none_stops w n None (Called call) e h = cc
none_stops w n (Some l) outcome e h = cc

goes_known : (w : World) (n : ℕ) (bytes : List ℕ) (outcome : LineOutcome) (known : Option ScriptLine) → line_in bytes ≡ known
    → (line_does w n bytes outcome).stop ≡ None → IsKnown bytes
goes_known w n bytes outcome (Some l) e h = ap is_some e
goes_known w n bytes outcome None e h = absurd (none_stops w n (line_in bytes) outcome e h)

-- the turns before a bad line, and that line
record Blamed (p : Progress) (turns : List Turn) (n : ℕ) : Type 0 where
  earlier : List (List ℕ)
  line : List ℕ
  later : List (List ℕ)
  lines : lines_in turns ≡ earlier ++ line ∷ later
  place : n ≡ p.number + length earlier + 1
  known : AllByRecursion IsKnown earlier
  bad : line_in line ≡ None

run_stays : (p : Progress) (turns : List Turn) (why : Why) → p.stop ≡ Some why → run_on p turns ≡ p
run_stays p [] why h = refl
run_stays p (t ∷ ts) why h =
    let same : next p t ≡ p = ap (λ o. after_turn o p t) h in
    ap (λ q. run_on q ts) same ∙ run_stays p ts why h

next_goes : (p : Progress) (t : Turn) → p.stop ≡ None → next p t ≡ moved p (line_does p.world (p.number + 1) t.line t.outcome)
next_goes p t h = ap (λ o. after_turn o p t) h

stop_number : (p : Progress) (t : Turn) → p.stop ≡ None → (next p t).number ≡ p.number + 1
stop_number p t goes = ap (λ (q : Progress). q.number) (next_goes p t goes)

stop_of : (p : Progress) (t : Turn) (o : Option Why) → p.stop ≡ None → (next p t).stop ≡ o → (line_does p.world (p.number + 1) t.line t.outcome).stop ≡ o
stop_of p t o goes h = sym (ap (λ (q : Progress). q.stop) (next_goes p t goes)) ∙ h

blame_step : (p : Progress) (t : Turn) (ts : List Turn) (n : ℕ) → p.stop ≡ None → (run_on (next p t) ts).stop ≡ Some (BadLine n)
    → ((next p t).stop ≡ None → Blamed (next p t) ts n) → (o : Option Why) → (next p t).stop ≡ o → Blamed p (t ∷ ts) n
blame_step p t ts n goes h below None e =
    let b = below e in
    record {
      earlier = t.line ∷ b.earlier;
      line = b.line;
      later = b.later;
      lines = ap (λ ls. t.line ∷ ls) b.lines;
      place = omega (arith, b.place, stop_number p t goes);
      known = (goes_known p.world (p.number + 1) t.line t.outcome (line_in t.line) refl (stop_of p t None goes e), b.known);
      bad = b.bad;
    }
blame_step p t ts n goes h below (Some why) e =
    let stays = run_stays (next p t) ts why e in
    let here = line_bad p.world (p.number + 1) n t.line t.outcome (line_in t.line) refl
    (stop_of p t (Some (BadLine n)) goes (sym (ap (λ (q : Progress). q.stop) stays) ∙ h)) in
    record { earlier = []; line = t.line; later = lines_in ts; lines = refl; place = omega (arith, here.1); known = tt; bad = here.0 }

none_bad : (n : ℕ) → ◌≡◌ {A = Option Why} None (Some (BadLine n)) → ⊥
none_bad n e = cc

blame : (p : Progress) (turns : List Turn) (n : ℕ) → p.stop ≡ None → (run_on p turns).stop ≡ Some (BadLine n) → Blamed p turns n
blame p [] n goes h = absurd (none_bad n (sym goes ∙ h))
blame p (t ∷ ts) n goes h = blame_step p t ts n goes h (λ e. blame (next p t) ts n e h) ((next p t).stop) refl

-- a run that goes on to its end counted each line, and each had a command
all_known : (p : Progress) (turns : List Turn) → (run_on p turns).stop ≡ None → ((run_on p turns).number ≡ p.number + length turns)
    × AllByRecursion IsKnown (lines_in turns)
all_known p [] h = (omega arith, tt)
all_known p (t ∷ ts) h =
    let goes = run_stops p (t ∷ ts) h in
    let here = run_stops (next p t) ts h in
    let below = all_known (next p t) ts h in (
      omega (arith, below.0, stop_number p t goes),
      (goes_known p.world (p.number + 1) t.line t.outcome (line_in t.line) refl (stop_of p t None goes here), below.1),
    )

blames : (before : World) (bytes left rest : List ℕ) (turns : List Turn) (old new : Seen) (why : Why)
    → lines_of bytes ≡ lines_in turns ++ lines_of (rest ++ left) → IsEnd before turns rest old new why → IsToBlame why bytes
blames before bytes left rest turns old new (BadLine n) all end =
    let b = blame (begun before) turns n refl end.1 in
    record {
      earlier = b.earlier;
      line = b.line;
      at = record {
        later = b.later ++ lines_of (rest ++ left);
        lines = all ∙ ap (λ ls. ls ++ lines_of (rest ++ left)) b.lines ∙ append_assoc b.earlier (b.line ∷ b.later) (lines_of (rest ++ left));
        place = omega (arith, b.place);
      };
      known = b.known;
      bad = b.bad;
    }
blames before bytes left rest turns old new (LongLine n) all end =
    let l = first_line rest left (omega (arith, end.1)) end.2 in
    let k = all_known (begun before) turns end.3 in
    record {
      earlier = lines_in turns;
      line = l.line;
      at = record {
        later = l.rest;
        lines = all ∙ ap (λ ls. lines_in turns ++ ls) l.are;
        place = omega (arith, end.0, k.0, length-map turns (λ (t : Turn). t.line));
      };
      known = k.1;
      long = omega (arith, l.long, end.1);
    }
blames before bytes left rest turns old new ManyLines all end =
    let k = run_counts (begun before) turns in
    omega (arith, end.0, k, some_tail rest left end.1, count_lines bytes turns (lines_of (rest ++ left)) all)
blames before bytes left rest turns old new Done all end = tt
blames before bytes left rest turns old new BadWords all end = tt
blames before bytes left rest turns old new (BadLandscape rule place) all end = tt
blames before bytes left rest turns old new SourceFault all end = tt
blames before bytes left rest turns old new SinkFault all end = tt
blames before bytes left rest turns old new (StoreFault k) all end = tt
blames before bytes left rest turns old new (BadStore table row) all end = tt
blames before bytes left rest turns old new (BackupFault call) all end = tt
blames before bytes left rest turns old new (BadBackup place) all end = tt
blames before bytes left rest turns old new NoStart all end = tt
blames before bytes left rest turns old new NoMemory all end = tt
blames before bytes left rest turns old new LogFull all end = tt

-- a run over bytes that the source told
pub blamed_line : (before after : World) (turns : List Turn) (old new : Seen) (why : Why) (bytes : List ℕ) → Replays before after turns old new why
    → old.left ≡ Some bytes → IsToBlame why bytes
blamed_line before after turns old new why bytes h is =
    let rest = told bytes (h.lines ++ h.rest) new.left (subst (λ o. Consumes o new.left (h.lines ++ h.rest)) is h.read) in
    let all = begins bytes h.lines h.rest rest.0 turns rest.2 (known_whole h.lines h.rest rest.0 new.left rest.1 h.whole) h.each in
    blames before bytes rest.0 h.rest turns old new why all h.end
