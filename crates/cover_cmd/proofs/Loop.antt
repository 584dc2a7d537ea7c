-- What the loop over the lines of a script keeps.
use Rattle.std.proofs.Common.{◌≡◌, ◌≢◌, ℕ, ◌+◌, ◌≤◌, List, [], ◌∷◌, ◌++◌, length, refl, sym, ap, ◌∙◌, subst, arith, true, false}
use Rattle.std.specs.Prelude.{Option, Ok, Err, All}
use Rattle.std.specs.Io.KnownBytes.{Consumes, IsAtEnd}
use Rattle.std.specs.List.{AllByRecursion}
use Rattle.std.proofs.KnownBytes.{Consumes-nil, Consumes-trans}
use Rattle.std.proofs.lemmas.List.{append-nil, length-append}
use Rattle.std.proofs.lemmas.List.Elements.{All-append, All-cons, recursion_from_All}
use Rattle.coverage.specs.Lacks.{Numbered}
use Rattle.coverage.specs.Walked.{CoverView, HasWalked}
use Rattle.io_edge.specs.Lines.{IsLine, lines_of}
use Rattle.io_edge.specs.Reading.{IsHalt, IsUncut, LineView, ReadsOn, Repeats}
use Rattle.io_edge.specs.declared.reader.LineFault.{LineFault}
use Rattle.io_edge.specs.declared.reader.LineFault.TheVariants.{Failed, TooLong, TooMany}
use Rattle.io_edge.specs.declared.reader.Standing.{Standing}
use Rattle.io_edge.specs.declared.reader.Standing.TheVariants.{Reading, Ended, Halted}
use Rattle.io_edge.proofs.lemmas.LinesRead.{GotLine, IsReadAs, behind, fault_goes, few_lines, next_line, still_reading, uncut, one_line, whole_lines}
use Rattle.io_edge.proofs.lemmas.MoreBytes.{some_line}
use Rattle.io_edge.proofs.lemmas.LineLemmas.{ended, lines_of-last}
use Rattle.lock_objects.specs.Objects.{Object}
use Rattle.script_runner.specs.Faults.{why_of}
use Rattle.script_runner.specs.LineFaults.{IsKnown, IsLineAt}
use Rattle.script_runner.specs.Lines.{line_in}
use Rattle.script_runner.specs.Whole.{IsGood}
use Rattle.script_runner.specs.declared.runner.Why.{Why}
use Rattle.script_runner.specs.declared.runner.Why.TheVariants.{BadLine, NoMemory}
use Rattle.cover_cmd.specs.Lines.{Adds, Refuses, numbered}
use Rattle.cover_cmd.specs.Reading.{AreGoodBefore, IsRead, IsReadingEnd}
use Rattle.cover_cmd.proofs.Walking.{numbered-push}

-- all lines that were read were walked over
pub record GoesOn (objects : List Object) (old now : Option (List ℕ)) (f g : ℕ) (reader : LineView) (cover : CoverView) : Type 0 where
  pub bytes : List ℕ
  pub lines : List (List ℕ)
  pub read : Consumes old now bytes
  pub read_as : IsReadAs bytes lines now reader.standing
  pub good : All IsGood lines
  pub number : length lines ≡ reader.number
  pub few : reader.number ≤ 200000
  pub walked : HasWalked objects (numbered 0 lines) cover
  pub quiet : g ≡ f

none_all : All IsGood []
none_all k d lt = absurd (omega arith)

-- the reading ended before the end of the script
abbrev pub Stops : Option (List ℕ) → Option (List ℕ) → ℕ → ℕ → Why → Type 0
Stops old next f g why = (bytes : List ℕ) × Consumes old next bytes × IsReadingEnd bytes next f g why

pub nothing_read : (left : Option (List ℕ)) (f : ℕ) → Stops left left f f NoMemory
nothing_read left f = ([], Consumes-nil left, tt)

-- nothing was read yet
pub begins : (objects : List Object) (left : Option (List ℕ)) (faults : ℕ) (reader : LineView) (cover : CoverView) → reader.number ≡ 0
    → reader.standing ≡ Reading → HasWalked objects [] cover → GoesOn objects left left faults faults reader cover
begins objects left faults reader cover none reading walked =
    record {
      bytes = [];
      lines = [];
      read = Consumes-nil left;
      read_as = subst (λ s. IsReadAs [] [] left s) (sym reading) refl;
      good = none_all;
      number = sym none;
      few = omega (arith, none);
      walked = walked;
      quiet = refl;
    }

-- ---- lines of bytes

all_lines : (lines : List (List ℕ)) → All IsGood lines → All IsLine lines
all_lines lines h k d lt = (h k d lt).fits

all_known : (lines : List (List ℕ)) → All IsGood lines → AllByRecursion IsKnown lines
all_known lines h = recursion_from_All IsKnown lines (λ k d lt. (h k d lt).known)

good_push : (lines : List (List ℕ)) (line : List ℕ) → All IsGood lines → IsGood line → All IsGood (lines ++ line ∷ [])
good_push lines line h k = All-append IsGood lines (line ∷ []) h (All-cons IsGood line [] k none_all)

-- one line more was read
got_line : (objects : List Object) (old now next : Option (List ℕ)) (f g g' : ℕ) (reader reader' : LineView) (cover : CoverView)
    (h : GoesOn objects old now f g reader cover)
    → (reader.standing ≡ Reading → ReadsOn now next g g' reader reader' (Ok true)) → Repeats reader.standing (Ok true)
    → GotLine old next f g' h.lines reader'
got_line objects old now next f g g' reader reader' cover h reads again =
    next_line old now next f g g' reader reader' h.bytes h.lines h.read h.read_as (all_lines h.lines h.good) h.number h.quiet reads again

-- a line was read and walked over
pub goes_on : (objects : List Object) (old now next : Option (List ℕ)) (f g g' n : ℕ) (given : List ℕ) (reader reader' : LineView) (cover cover' : CoverView)
    → GoesOn objects old now f g reader cover → (reader.standing ≡ Reading → ReadsOn now next g g' reader reader' (Ok true))
    → Repeats reader.standing (Ok true) → n ≡ reader'.number → given ≡ reader'.line
    → ((os : List Object) (lines : List Numbered) → HasWalked os lines cover → Adds os lines n (line_in given) cover' (Ok tt))
    → GoesOn objects old next f g' reader' cover'
goes_on objects old now next f g g' n given reader reader' cover cover' h reads again counted is adds =
    let got = got_line objects old now next f g g' reader reader' cover h reads again in
    let line = reader'.line in
    let a : Adds objects (numbered 0 h.lines) n (line_in line) cover' (Ok tt) =
    subst (λ x. Adds objects (numbered 0 h.lines) n (line_in x) cover' (Ok tt)) is (adds objects (numbered 0 h.lines) h.walked) in
    let place : n ≡ length h.lines + 1 = counted ∙ got.number in
    record {
      bytes = got.bytes;
      lines = h.lines ++ line ∷ [];
      read = got.read;
      read_as = got.read_as;
      good = good_push h.lines line h.good (record { fits = got.fits; known = a.0 });
      number = length-append h.lines (line ∷ []) ∙ sym got.number;
      few = got.few;
      walked = subst (λ ls. HasWalked objects ls cover') (sym (numbered-push 0 n h.lines line (omega (arith, place)))) a.1;
      quiet = got.quiet;
    }

line_at : (n : ℕ) (bytes : List ℕ) (lines later : List (List ℕ)) (line : List ℕ) → lines_of bytes ≡ lines ++ line ∷ later → n ≡ length lines + 1
    → IsLineAt n bytes lines line
line_at n bytes lines later line each place = record { later = later; lines = each; place = place }

-- why a line that wasn't walked over ends the reading
ends_at : (bytes : List ℕ) (left : Option (List ℕ)) (f g n : ℕ) (lines : List (List ℕ)) (line : List ℕ) (why : Why) → All IsGood lines
    → lines_of bytes ≡ lines ++ line ∷ [] → IsUncut bytes left → n ≡ length lines + 1 → Refuses n (line_in line) why → IsReadingEnd bytes left f g why
ends_at bytes left f g n lines line (BadLine m) good each whole place h =
    (record { earlier = lines; line = line; at = line_at m bytes lines [] line each (h.0 ∙ place); known = all_known lines good; bad = h.1 }, whole)
ends_at bytes left f g n lines line NoMemory good each whole place h = tt
ends_at bytes left f g n lines line _ good each whole place h = absurd h

-- a line was read that wasn't walked over
pub ends_line : (objects : List Object) (old now next : Option (List ℕ)) (f g g' n : ℕ) (given : List ℕ) (reader reader' : LineView)
    (cover cover' : CoverView) (why : Why)
    → GoesOn objects old now f g reader cover → (reader.standing ≡ Reading → ReadsOn now next g g' reader reader' (Ok true))
    → Repeats reader.standing (Ok true) → n ≡ reader'.number → given ≡ reader'.line
    → ((os : List Object) (lines : List Numbered) → HasWalked os lines cover → Adds os lines n (line_in given) cover' (Err why))
    → Stops old next f g' why
ends_line objects old now next f g g' n given reader reader' cover cover' why h reads again counted is adds =
    let got = got_line objects old now next f g g' reader reader' cover h reads again in
    let refused : Refuses n (line_in reader'.line) why = subst (λ x. Refuses n (line_in x) why) is (adds objects (numbered 0 h.lines) h.walked) in
    let whole = uncut got.bytes (h.lines ++ reader'.line ∷ []) next reader'.standing got.read_as in
    (got.bytes, got.read, ends_at got.bytes next f g' n h.lines reader'.line why h.good got.each whole (counted ∙ got.number) refused)

-- a part of a line was read behind whole ones
before_fault : (bytes taken : List ℕ) (lines : List (List ℕ)) → bytes ≡ ended lines → All IsGood lines → IsLine taken → AreGoodBefore (bytes ++ taken)
before_fault bytes [] lines e good part =
    record { earlier = lines; last = []; all = behind bytes [] lines [] e (all_lines lines good) refl; one = omega arith; good = good }
before_fault bytes (b ∷ taken) lines e good part =
    let last = lines_of-last b taken part.unbroken in
    record {
      earlier = lines;
      last = (b ∷ taken) ∷ [];
      all = behind bytes (b ∷ taken) lines ((b ∷ taken) ∷ []) e (all_lines lines good) last;
      one = omega arith;
      good = good;
    }

-- why a line that can't be read ends the reading
halts : (left : Option (List ℕ)) (f g n : ℕ) (bytes taken : List ℕ) (lines : List (List ℕ)) (fault : LineFault) → bytes ≡ ended lines → All IsGood lines
    → length lines ≡ n → IsHalt f g taken n fault → IsReadingEnd (bytes ++ taken) left f g (why_of fault)
halts left f g n bytes taken lines Failed e good number h = (h.0, before_fault bytes taken lines e good h.1)
halts left f g n bytes taken lines (TooLong m) e good number h =
    let each : lines_of (bytes ++ taken) ≡ lines ++ taken ∷ [] =
    behind bytes taken lines (taken ∷ []) e (all_lines lines good) (one_line taken h.2 (omega (arith, h.1))) in
    record {
      earlier = lines;
      line = taken;
      at = line_at m (bytes ++ taken) lines [] taken each (h.0 ∙ ap (λ k. k + 1) (sym number));
      known = all_known lines good;
      long = omega (arith, h.1);
    }
halts left f g n bytes taken lines TooMany e good number h =
    let l = some_line taken (omega (arith, h.1)) in
    record {
      earlier = lines;
      line = l.0;
      at = line_at 200001 (bytes ++ taken) lines l.1 l.0 (behind bytes taken lines (l.0 ∷ l.1) e (all_lines lines good) l.2) (omega (arith, number, h.0));
      known = all_known lines good;
    }

-- no line could be read
pub ends_fault : (objects : List Object) (old now next : Option (List ℕ)) (f g g' : ℕ) (reader reader' : LineView) (cover : CoverView) (fault : LineFault)
    (why : Why)
    → why ≡ why_of fault → GoesOn objects old now f g reader cover → (reader.standing ≡ Reading → ReadsOn now next g g' reader reader' (Err fault))
    → Repeats reader.standing (Err fault) → Stops old next f g' why
ends_fault objects old now next f g g' reader reader' cover fault why is h reads again =
    let s = still_reading h.bytes h.lines now reader.standing (Err fault) (fault_goes fault) h.read_as again in
    let n = reads s.0 in
    let halt = subst (λ x. IsHalt x g' n.taken reader.number fault) h.quiet n.reading.0 in
    let end = halts next f g' reader.number h.bytes n.taken h.lines fault s.1 h.good h.number halt in (
      h.bytes ++ n.taken,
      Consumes-trans old now next h.bytes n.taken h.read n.consumed,
      subst (λ w. IsReadingEnd (h.bytes ++ n.taken) next f g' w) (sym is) end,
    )

-- what the walk says, where all bytes were read
pub record IsWalked (objects : List Object) (old next : Option (List ℕ)) (f g : ℕ) (cover : CoverView) : Type 0 where
  pub bytes : List ℕ
  pub read : Consumes old next bytes
  pub whole : IsRead bytes next
  pub walked : HasWalked objects (numbered 0 (lines_of bytes)) cover
  pub quiet : g ≡ f

walked_all : (objects : List Object) (old next : Option (List ℕ)) (f g n : ℕ) (bytes : List ℕ) (lines : List (List ℕ)) (cover : CoverView)
    → Consumes old next bytes
    → lines_of bytes ≡ lines → IsAtEnd next → length lines ≡ n → n ≤ 200000 → All IsGood lines → HasWalked objects (numbered 0 lines) cover → g ≡ f
    → IsWalked objects old next f g cover
walked_all objects old next f g n bytes lines cover read each end number few good walked quiet =
    record {
      bytes = bytes;
      read = read;
      whole = record {
        script = record {
          each = subst (λ ls. All IsGood ls) (sym each) good;
          few = subst (λ x. length x ≤ 200000) (sym each) (few_lines lines n number few);
        };
        end = end;
      };
      walked = subst (λ ls. HasWalked objects (numbered 0 ls) cover) (sym each) walked;
      quiet = quiet;
    }

ends_from : (objects : List Object) (old now next : Option (List ℕ)) (f g g' : ℕ) (reader reader' : LineView) (cover : CoverView) (s : Standing)
    → reader.standing ≡ s
    → (h : GoesOn objects old now f g reader cover) → IsReadAs h.bytes h.lines now s
    → (reader.standing ≡ Reading → ReadsOn now next g g' reader reader' (Ok false)) → (reader.standing ≢ Reading → next ≡ now)
    → (reader.standing ≢ Reading → g' ≡ g) → IsWalked objects old next f g' cover
ends_from objects old now next f g g' reader reader' cover Reading e h as_lines reads stays quiet =
    let n = reads e in
    let none : h.bytes ++ n.taken ≡ h.bytes = ap (λ x. h.bytes ++ x) n.reading.0 ∙ append-nil h.bytes in
    let read = subst (λ x. Consumes old next x) none (Consumes-trans old now next h.bytes n.taken h.read n.consumed) in
    let each = ap lines_of as_lines ∙ whole_lines h.lines (all_lines h.lines h.good) in
    walked_all objects old next f g' reader.number h.bytes h.lines cover read each n.reading.1 h.number h.few h.good h.walked (n.reading.4 ∙ h.quiet)
ends_from objects old now next f g g' reader reader' cover Ended e h as_lines reads stays quiet =
    let apart : reader.standing ≢ Reading = λ r. cc in
    let same = sym (stays apart) in
    let read = subst (λ x. Consumes old x h.bytes) same h.read in
    let end = subst IsAtEnd same as_lines.1 in
    walked_all objects old next f g' reader.number h.bytes h.lines cover read as_lines.0 end h.number h.few h.good h.walked (quiet apart ∙ h.quiet)
ends_from objects old now next f g g' reader reader' cover (Halted fault) e h as_lines reads stays quiet = absurd as_lines

-- the end was met
pub ends : (objects : List Object) (old now next : Option (List ℕ)) (f g g' : ℕ) (reader reader' : LineView) (cover : CoverView)
    → GoesOn objects old now f g reader cover
    → (reader.standing ≡ Reading → ReadsOn now next g g' reader reader' (Ok false)) → (reader.standing ≢ Reading → next ≡ now)
    → (reader.standing ≢ Reading → g' ≡ g) → IsWalked objects old next f g' cover
ends objects old now next f g g' reader reader' cover h reads stays quiet =
    ends_from objects old now next f g g' reader reader' cover reader.standing refl h h.read_as reads stays quiet
