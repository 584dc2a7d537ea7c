-- What the loop over the lines of a script keeps.
use Rattle.std.proofs.Common.{◌≡◌, ◌≢◌, ℕ, ◌+◌, ◌≤◌, List, [], ◌∷◌, ◌++◌, length, refl, sym, ap, ◌∙◌, subst, arith, true, false}
use Rattle.std.specs.Prelude.{Bool, Option, Ok, Err, All}
use Rattle.std.specs.Io.KnownBytes.{Consumes, IsAtEnd}
use Rattle.std.proofs.KnownBytes.{Consumes-nil, Consumes-trans}
use Rattle.std.proofs.lemmas.List.{append-nil, length-append}
use Rattle.io_edge.specs.Lines.{IsLine, lines_of}
use Rattle.io_edge.specs.Reading.{IsHalt, IsUncut, LineView, ReadsOn, Repeats}
use Rattle.io_edge.specs.declared.reader.LineFault.{LineFault}
use Rattle.io_edge.specs.declared.reader.LineFault.TheVariants.{Failed, TooLong, TooMany}
use Rattle.io_edge.specs.declared.reader.Standing.{Standing}
use Rattle.io_edge.specs.declared.reader.Standing.TheVariants.{Reading, Ended, Halted}
use Rattle.io_edge.proofs.lemmas.LinesRead.{GotLine, IsReadAs, behind, fault_goes, few_lines, next_line, still_reading, uncut, one_line, whole_lines, no_lines, lines_push}
use Rattle.io_edge.proofs.lemmas.MoreBytes.{some_line}
use Rattle.io_edge.proofs.lemmas.LineLemmas.{ended, lines_of-last}
use Rattle.script_runner.specs.Faults.{why_of}
use Rattle.script_runner.specs.Lines.{line_in}
use Rattle.script_runner.specs.declared.runner.Why.{Why}
use Rattle.script_runner.specs.declared.runner.Why.TheVariants.{Done, BadWords, BadLandscape, BadLine, SourceFault, SinkFault}
use Rattle.script_runner.specs.declared.runner.Why.TheVariants.{LongLine, ManyLines, StoreFault, BackupFault, BadStore, BadBackup, NoStart, NoMemory, LogFull}
use Rattle.whole_script.specs.Adding.{Adds, Refuses}
use Rattle.whole_script.specs.Lines.{AreRunnable, ComesTo, HaveParts, before_lines, is_runnable, names_in, numbered, runs_behind}
use Rattle.whole_script.specs.Reading.{AreRunnableBefore, IsRead, IsReadingEnd, ReadsAll}
use Rattle.whole_script.specs.declared.script.Script.{Script}
use Rattle.whole_script.proofs.Numbering.{are_more, numbered-push}

-- all lines that were read stand in the script
pub record GoesOn (old now : Option (List ℕ)) (f g : ℕ) (reader : LineView) (script : Script) : Type 0 where
  pub bytes : List ℕ
  pub lines : List (List ℕ)
  pub read : Consumes old now bytes
  pub read_as : IsReadAs bytes lines now reader.standing
  pub fit : All IsLine lines
  pub number : length lines ≡ reader.number
  pub few : reader.number ≤ 200000
  pub runnable : AreRunnable lines
  pub known : script.lines.items ≡ numbered 0 lines
  pub names : script.names.items ≡ names_in script.lines.items
  pub parts : HaveParts script.lines.items
  pub quiet : g ≡ f

none_runnable : AreRunnable []
none_runnable earlier later line e = let long = ap length e ∙ length-append earlier (line ∷ later) in absurd (omega (arith, long))

-- nothing was read yet
pub begins : (left : Option (List ℕ)) (faults : ℕ) (reader : LineView) (script : Script) → reader.number ≡ 0 → reader.standing ≡ Reading
    → script.lines.items ≡ [] → script.names.items ≡ [] → GoesOn left left faults faults reader script
begins left faults reader script none reading lines names =
    record {
      bytes = [];
      lines = [];
      read = Consumes-nil left;
      read_as = subst (λ s. IsReadAs [] [] left s) (sym reading) refl;
      fit = no_lines;
      number = sym none;
      few = omega (arith, none);
      runnable = none_runnable;
      known = lines;
      names = names ∙ ap names_in (sym lines);
      parts = subst HaveParts (sym lines) tt;
      quiet = refl;
    }

-- one line more was read
got_line : (old now next : Option (List ℕ)) (f g g' : ℕ) (reader reader' : LineView) (script : Script) (h : GoesOn old now f g reader script)
    → (reader.standing ≡ Reading → ReadsOn now next g g' reader reader' (Ok true)) → Repeats reader.standing (Ok true)
    → GotLine old next f g' h.lines reader'
got_line old now next f g g' reader reader' script h reads again =
    next_line old now next f g g' reader reader' h.bytes h.lines h.read h.read_as h.fit h.number h.quiet reads again

-- what is known of the script tells whether a line is runnable behind its lines
same_runs : (lines : List (List ℕ)) (script : Script) (line : List ℕ) → script.lines.items ≡ numbered 0 lines
    → script.names.items ≡ names_in script.lines.items → is_runnable script.names.items (line_in line) ≡ runs_behind lines line
same_runs lines script line known names = ap (λ n. is_runnable n (line_in line)) (names ∙ ap names_in known)

-- a line was read and added
pub goes_on : (old now next : Option (List ℕ)) (f g g' n : ℕ) (given : List ℕ) (reader reader' : LineView) (script script' : Script)
    → GoesOn old now f g reader script → (reader.standing ≡ Reading → ReadsOn now next g g' reader reader' (Ok true))
    → Repeats reader.standing (Ok true) → n ≡ reader'.number → given ≡ reader'.line → Adds n (line_in given) script script' (Ok tt)
    → GoesOn old next f g' reader' script'
goes_on old now next f g g' n given reader reader' script script' h reads again counted is a =
    let got = got_line old now next f g g' reader reader' script h reads again in
    let line = reader'.line in
    let a : Adds n (line_in line) script script' (Ok tt) = subst (λ x. Adds n (line_in x) script script' (Ok tt)) is a in
    let place : n ≡ length h.lines + 1 = counted ∙ got.number in
    record {
      bytes = got.bytes;
      lines = h.lines ++ line ∷ [];
      read = got.read;
      read_as = got.read_as;
      fit = lines_push h.lines line h.fit got.fits;
      number = length-append h.lines (line ∷ []) ∙ sym got.number;
      few = got.few;
      runnable = are_more h.lines line h.runnable (got.fits, sym (same_runs h.lines script line h.known h.names) ∙ a.runnable);
      known = a.lines ∙ ap (λ x. x ++ before_lines n (line_in line) []) h.known ∙ sym (numbered-push 0 n h.lines line (omega (arith, place)));
      names = a.names h.names;
      parts = a.parts h.parts;
      quiet = got.quiet;
    }

abbrev comes_to : (n : ℕ) (bytes : List ℕ) (lines later : List (List ℕ)) (line : List ℕ) → AreRunnable lines
    → lines_of bytes ≡ lines ++ line ∷ later → n ≡ length lines + 1 → ComesTo n bytes
comes_to n bytes lines later line runnable each place =
    record { earlier = lines; line = line; at = record { later = later; lines = each; place = place }; runnable = runnable }

-- why a line that wasn't added ends the reading
ends_at : (bytes : List ℕ) (left : Option (List ℕ)) (f g n : ℕ) (lines : List (List ℕ)) (line : List ℕ) (can : Bool) (why : Why) → AreRunnable lines
    → lines_of bytes ≡ lines ++ line ∷ [] → IsUncut bytes left → n ≡ length lines + 1 → IsLine line → can ≡ runs_behind lines line
    → Refuses n can why → IsReadingEnd bytes left f g why
ends_at bytes left f g n lines line can (BadLine m) runnable each whole place fits same h =
    ((comes_to m bytes lines [] line runnable each (h.0 ∙ place), fits, sym same ∙ h.1), whole)
ends_at bytes left f g n lines line can NoMemory runnable each whole place fits same h = tt
ends_at bytes left f g n lines line can Done runnable each whole place fits same h = absurd h
ends_at bytes left f g n lines line can BadWords runnable each whole place fits same h = absurd h
ends_at bytes left f g n lines line can (BadLandscape rule k) runnable each whole place fits same h = absurd h
ends_at bytes left f g n lines line can SourceFault runnable each whole place fits same h = absurd h
ends_at bytes left f g n lines line can SinkFault runnable each whole place fits same h = absurd h
ends_at bytes left f g n lines line can (LongLine m) runnable each whole place fits same h = absurd h
ends_at bytes left f g n lines line can ManyLines runnable each whole place fits same h = absurd h
ends_at bytes left f g n lines line can (StoreFault k) runnable each whole place fits same h = absurd h
ends_at bytes left f g n lines line can (BackupFault k) runnable each whole place fits same h = absurd h
ends_at bytes left f g n lines line can (BadStore table row) runnable each whole place fits same h = absurd h
ends_at bytes left f g n lines line can (BadBackup k) runnable each whole place fits same h = absurd h
ends_at bytes left f g n lines line can NoStart runnable each whole place fits same h = absurd h
ends_at bytes left f g n lines line can LogFull runnable each whole place fits same h = absurd h

-- a line was read that wasn't added
pub ends_line : (old now next : Option (List ℕ)) (f g g' n : ℕ) (given : List ℕ) (reader reader' : LineView) (script : Script) (why : Why)
    → GoesOn old now f g reader script → (reader.standing ≡ Reading → ReadsOn now next g g' reader reader' (Ok true))
    → Repeats reader.standing (Ok true) → n ≡ reader'.number → given ≡ reader'.line → Refuses n (is_runnable script.names.items (line_in given)) why
    → ReadsAll old next f g' (Err why)
ends_line old now next f g g' n given reader reader' script why h reads again counted is refused =
    let got = got_line old now next f g g' reader reader' script h reads again in
    let same = ap (λ x. is_runnable script.names.items (line_in x)) is ∙ same_runs h.lines script reader'.line h.known h.names in
    let whole = uncut got.bytes (h.lines ++ reader'.line ∷ []) next reader'.standing got.read_as in (
      got.bytes,
      got.read,
      ends_at got.bytes next f g' n h.lines reader'.line _ why h.runnable got.each whole (counted ∙ got.number) got.fits same refused,
    )

-- a part of a line was read behind whole ones
before_fault : (bytes taken : List ℕ) (lines : List (List ℕ)) → bytes ≡ ended lines → All IsLine lines → AreRunnable lines → IsLine taken
    → AreRunnableBefore (bytes ++ taken)
before_fault bytes [] lines e fit runnable part =
    record { earlier = lines; last = []; all = behind bytes [] lines [] e fit refl; one = omega arith; runnable = runnable }
before_fault bytes (b ∷ taken) lines e fit runnable part =
    let last = lines_of-last b taken part.unbroken in
    record {
      earlier = lines;
      last = (b ∷ taken) ∷ [];
      all = behind bytes (b ∷ taken) lines ((b ∷ taken) ∷ []) e fit last;
      one = omega arith;
      runnable = runnable;
    }

-- why a line that can't be read ends the reading
halts : (left : Option (List ℕ)) (f g n : ℕ) (bytes taken : List ℕ) (lines : List (List ℕ)) (fault : LineFault) → bytes ≡ ended lines → All IsLine lines
    → AreRunnable lines → length lines ≡ n → IsHalt f g taken n fault → IsReadingEnd (bytes ++ taken) left f g (why_of fault)
halts left f g n bytes taken lines Failed e fit runnable number h = (h.0, before_fault bytes taken lines e fit runnable h.1)
halts left f g n bytes taken lines (TooLong m) e fit runnable number h =
    let each : lines_of (bytes ++ taken) ≡ lines ++ taken ∷ [] = behind bytes taken lines (taken ∷ []) e fit (one_line taken h.2 (omega (arith, h.1))) in
    (comes_to m (bytes ++ taken) lines [] taken runnable each (h.0 ∙ ap (λ k. k + 1) (sym number)), omega (arith, h.1))
halts left f g n bytes taken lines TooMany e fit runnable number h =
    let l = some_line taken (omega (arith, h.1)) in
    comes_to 200001 (bytes ++ taken) lines l.1 l.0 runnable (behind bytes taken lines (l.0 ∷ l.1) e fit l.2) (omega (arith, number, h.0))

-- no line could be read
pub ends_fault : (old now next : Option (List ℕ)) (f g g' : ℕ) (reader reader' : LineView) (script : Script) (fault : LineFault) (why : Why)
    → why ≡ why_of fault → GoesOn old now f g reader script → (reader.standing ≡ Reading → ReadsOn now next g g' reader reader' (Err fault))
    → Repeats reader.standing (Err fault) → ReadsAll old next f g' (Err why)
ends_fault old now next f g g' reader reader' script fault why is h reads again =
    let s = still_reading h.bytes h.lines now reader.standing (Err fault) (fault_goes fault) h.read_as again in
    let n = reads s.0 in
    let halt = subst (λ x. IsHalt x g' n.taken reader.number fault) h.quiet n.reading.0 in
    let end = halts next f g' reader.number h.bytes n.taken h.lines fault s.1 h.fit h.runnable h.number halt in (
      h.bytes ++ n.taken,
      Consumes-trans old now next h.bytes n.taken h.read n.consumed,
      subst (λ w. IsReadingEnd (h.bytes ++ n.taken) next f g' w) (sym is) end,
    )

-- the script, where all of its bytes were read
read_all : (old next : Option (List ℕ)) (f g' n : ℕ) (bytes : List ℕ) (lines : List (List ℕ)) (script : Script) → Consumes old next bytes
    → lines_of bytes ≡ lines → IsAtEnd next → length lines ≡ n → n ≤ 200000 → AreRunnable lines → script.lines.items ≡ numbered 0 lines
    → script.names.items ≡ names_in script.lines.items → g' ≡ f → ReadsAll old next f g' (Ok script)
read_all old next f g' n bytes lines script read each end number few runnable known names quiet =
    let whole : IsRead bytes next script.lines.items = record {
      end = end;
      few = subst (λ x. length x ≤ 200000) (sym each) (few_lines lines n number few);
      runnable = subst AreRunnable (sym each) runnable;
      known = known ∙ ap (λ x. numbered 0 x) (sym each);
    } in
    (bytes, read, (whole, names, quiet))

ends_from : (old now next : Option (List ℕ)) (f g g' : ℕ) (reader reader' : LineView) (script : Script) (s : Standing) → reader.standing ≡ s
    → (h : GoesOn old now f g reader script) → IsReadAs h.bytes h.lines now s
    → (reader.standing ≡ Reading → ReadsOn now next g g' reader reader' (Ok false)) → (reader.standing ≢ Reading → next ≡ now)
    → (reader.standing ≢ Reading → g' ≡ g) → ReadsAll old next f g' (Ok script)
ends_from old now next f g g' reader reader' script Reading e h as_lines reads stays quiet =
    let n = reads e in
    let none : h.bytes ++ n.taken ≡ h.bytes = ap (λ x. h.bytes ++ x) n.reading.0 ∙ append-nil h.bytes in
    let read = subst (λ x. Consumes old next x) none (Consumes-trans old now next h.bytes n.taken h.read n.consumed) in
    let each = ap lines_of as_lines ∙ whole_lines h.lines h.fit in
    read_all old next f g' reader.number h.bytes h.lines script read each n.reading.1 h.number h.few h.runnable h.known h.names (n.reading.4 ∙ h.quiet)
ends_from old now next f g g' reader reader' script Ended e h as_lines reads stays quiet =
    let apart : reader.standing ≢ Reading = λ r. cc in
    let same = sym (stays apart) in
    let read = subst (λ x. Consumes old x h.bytes) same h.read in
    let end = subst IsAtEnd same as_lines.1 in
    read_all old next f g' reader.number h.bytes h.lines script read as_lines.0 end h.number h.few h.runnable h.known h.names (quiet apart ∙ h.quiet)
ends_from old now next f g g' reader reader' script (Halted fault) e h as_lines reads stays quiet = absurd as_lines

-- the end was met
pub ends : (old now next : Option (List ℕ)) (f g g' : ℕ) (reader reader' : LineView) (script : Script) → GoesOn old now f g reader script
    → (reader.standing ≡ Reading → ReadsOn now next g g' reader reader' (Ok false)) → (reader.standing ≢ Reading → next ≡ now)
    → (reader.standing ≢ Reading → g' ≡ g) → ReadsAll old next f g' (Ok script)
ends old now next f g g' reader reader' script h reads stays quiet =
    ends_from old now next f g g' reader reader' script reader.standing refl h h.read_as reads stays quiet
