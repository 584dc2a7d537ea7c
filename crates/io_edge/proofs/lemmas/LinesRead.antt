-- What a loop over the lines of a reader has read so far, and one line more.
use Rattle.std.proofs.Common.{inl, inr, ◌≡◌, ℕ, ◌+◌, ◌<◌, ◌≤◌, List, [], ◌∷◌, ◌++◌, length, refl, sym, ap, ◌∙◌, arith, true, false}
use Rattle.std.specs.Prelude.{Bool, Option, Some, None, Result, Ok, Err, All}
use Rattle.std.specs.Io.KnownBytes.{Consumes, IsAtEnd}
use Rattle.std.proofs.KnownBytes.{Consumes-trans}
use Rattle.std.proofs.lemmas.List.{append-nil}
use Rattle.std.proofs.lemmas.List.Elements.{All-append, All-cons}
use Rattle.io_edge.specs.Lines.{IsLine, IsUnbroken, is_ended, lines_of}
use Rattle.io_edge.specs.Reading.{IsTakenAs, IsUncut, LineView, ReadsOn, Repeats}
use Rattle.io_edge.specs.declared.reader.LineFault.{LineFault}
use Rattle.io_edge.specs.declared.reader.Standing.{Standing}
use Rattle.io_edge.specs.declared.reader.Standing.TheVariants.{Reading, Ended, Halted}
use Rattle.io_edge.proofs.lemmas.LineLemmas.{ended, ended-push, is_ended-ended, lines_of-ended, lines_of-last}

-- the bytes read so far are whole lines; at the end the last line may lack its end
abbrev pub IsReadAs : List ℕ → List (List ℕ) → Option (List ℕ) → Standing → Type 0
IsReadAs bytes lines left Reading = bytes ≡ ended lines
IsReadAs bytes lines left Ended = (lines_of bytes ≡ lines) × IsAtEnd left
IsReadAs bytes lines left (Halted fault) = ⊥

pub no_lines : All IsLine []
no_lines k d lt = absurd (omega arith)

pub whole_lines : (lines : List (List ℕ)) → All IsLine lines → lines_of (ended lines) ≡ lines
whole_lines lines h = ap lines_of (sym (append-nil (ended lines))) ∙ lines_of-ended lines [] h ∙ append-nil lines

-- the lines of bytes that stand behind whole lines
pub behind : (bytes taken : List ℕ) (lines later : List (List ℕ)) → bytes ≡ ended lines → All IsLine lines → lines_of taken ≡ later
    → lines_of (bytes ++ taken) ≡ lines ++ later
behind bytes taken lines later e all are = ap (λ x. lines_of (x ++ taken)) e ∙ lines_of-ended lines taken all ∙ ap (λ x. lines ++ x) are

pub one_line : (line : List ℕ) → IsUnbroken line → 0 < length line → lines_of line ≡ line ∷ []
one_line [] h some = absurd (omega arith)
one_line (b ∷ line) h some = lines_of-last b line h

pub lines_push : (lines : List (List ℕ)) (line : List ℕ) → All IsLine lines → IsLine line → All IsLine (lines ++ line ∷ [])
lines_push lines line h k = All-append IsLine lines (line ∷ []) h (All-cons IsLine line [] k no_lines)

-- a reader that answers anything but the end was reading, and all that was read before are whole lines
pub still_reading : (bytes : List ℕ) (lines : List (List ℕ)) (left : Option (List ℕ)) (s : Standing) (r : Result Bool LineFault) → (r ≡ Ok false → ⊥)
    → IsReadAs bytes lines left s → Repeats s r → (s ≡ Reading) × (bytes ≡ ended lines)
still_reading bytes lines left Reading r goes h again = (refl, h)
still_reading bytes lines left Ended r goes h again = absurd (goes again)
still_reading bytes lines left (Halted fault) r goes h again = absurd h

pub true_goes : ◌≡◌ {A = Result Bool LineFault} (Ok true) (Ok false) → ⊥
true_goes e = cc

pub fault_goes : (fault : LineFault) → ◌≡◌ {A = Result Bool LineFault} (Err fault) (Ok false) → ⊥
fault_goes fault e = cc

-- a line was taken behind whole lines
pub taken_as : (bytes taken : List ℕ) (lines : List (List ℕ)) (line : List ℕ) (left : Option (List ℕ)) (s : Standing) → bytes ≡ ended lines
    → All IsLine lines → IsLine line → IsTakenAs taken line left s
    → IsReadAs (bytes ++ taken) (lines ++ line ∷ []) left s × (lines_of (bytes ++ taken) ≡ lines ++ line ∷ [])
taken_as bytes taken lines line left Reading e all fits t =
    let whole : bytes ++ taken ≡ ended (lines ++ line ∷ []) = ap (λ x. x ++ taken) e ∙ ap (λ x. ended lines ++ x) t ∙ sym (ended-push lines line) in
    (whole, ap lines_of whole ∙ whole_lines _ (lines_push lines line all fits))
taken_as bytes taken lines line left Ended e all fits t =
    let last = ap lines_of t.0 ∙ one_line line fits.unbroken t.1 in
    let each = behind bytes taken lines (line ∷ []) e all last in
    ((each, t.2), each)
taken_as bytes taken lines line left (Halted fault) e all fits t = absurd t

-- one line more was read
pub record GotLine (old now : Option (List ℕ)) (f g : ℕ) (lines : List (List ℕ)) (reader : LineView) : Type 0 where
  pub bytes : List ℕ
  pub read : Consumes old now bytes
  pub read_as : IsReadAs bytes (lines ++ reader.line ∷ []) now reader.standing
  pub each : lines_of bytes ≡ lines ++ reader.line ∷ []
  pub fits : IsLine reader.line
  pub number : reader.number ≡ length lines + 1
  pub few : reader.number ≤ 200000
  pub quiet : g ≡ f

pub next_line : (old now next : Option (List ℕ)) (f g g' : ℕ) (reader reader' : LineView) (bytes : List ℕ) (lines : List (List ℕ))
    → Consumes old now bytes → IsReadAs bytes lines now reader.standing → All IsLine lines → length lines ≡ reader.number → g ≡ f
    → (reader.standing ≡ Reading → ReadsOn now next g g' reader reader' (Ok true)) → Repeats reader.standing (Ok true)
    → GotLine old next f g' lines reader'
next_line old now next f g g' reader reader' bytes lines read read_as fit number quiet reads again =
    let s = still_reading bytes lines now reader.standing (Ok true) true_goes read_as again in
    let n = reads s.0 in
    let line = n.reading.0 in
    let t = taken_as bytes n.taken lines reader'.line next reader'.standing s.1 fit line.line line.taken_as in
    record {
      bytes = bytes ++ n.taken;
      read = Consumes-trans old now next bytes n.taken read n.consumed;
      read_as = t.0;
      each = t.1;
      fits = line.line;
      number = line.number ∙ ap (λ k. k + 1) (sym number);
      few = line.bound;
      quiet = n.reading.1 ∙ quiet;
    }

-- a line that was taken was read to its end
pub uncut : (bytes : List ℕ) (lines : List (List ℕ)) (left : Option (List ℕ)) (s : Standing) → IsReadAs bytes lines left s → IsUncut bytes left
uncut bytes lines left Reading h = inl (ap is_ended h ∙ is_ended-ended lines)
uncut bytes lines left Ended h = inr h.1
uncut bytes lines left (Halted fault) h = absurd h

pub few_lines : (lines : List (List ℕ)) (n : ℕ) → length lines ≡ n → n ≤ 200000 → length lines ≤ 200000
few_lines lines n is few = omega (arith, is, few)

-- what a source that tells its bytes had left
pub told : (bytes taken : List ℕ) (left : Option (List ℕ)) → Consumes (Some bytes) left taken
    → (rest : List ℕ) × (left ≡ Some rest) × (bytes ≡ taken ++ rest)
told bytes taken None h = absurd h
told bytes taken (Some rest) h = (rest, refl, h)
