-- What an end of the reading says of all bytes that a source told.
use Rattle.std.proofs.Common.{inl, inr, ◌≡◌, ℕ, ◌<◌, List, [], ◌∷◌, ◌++◌, length, refl, sym, ap, ◌∙◌, subst, arith, true}
use Rattle.std.specs.Prelude.{Option, Some, None, is_some, IsTrue}
use Rattle.std.specs.Io.KnownBytes.{Consumes, IsAtEnd}
use Rattle.std.specs.List.{AllByRecursion}
use Rattle.std.proofs.lemmas.List.{append-nil, length-append}
use Rattle.std.proofs.lemmas.List.Elements.{recursion_from_All}
use Rattle.enq_base.specs.Causes.{Rose}
use Rattle.io_edge.specs.Lines.{is_ended, lines_of}
use Rattle.io_edge.specs.Reading.{IsUncut}
use Rattle.script_lang.specs.declared.script_line.ScriptLine.{ScriptLine}
use Rattle.script_runner.specs.LineFaults.{IsFirstBad, IsFirstLong, IsLineAt, IsToBlame}
use Rattle.script_runner.specs.Lines.{line_in}
use Rattle.script_runner.specs.Whole.{IsGood, IsScript}
use Rattle.script_runner.specs.declared.runner.Why.{Why}
use Rattle.script_runner.specs.declared.runner.Why.TheVariants.{BadLine, SourceFault, LongLine, ManyLines, NoMemory}
use Rattle.io_edge.proofs.lemmas.LinesRead.{told}
use Rattle.io_edge.proofs.lemmas.MoreBytes.{GoesFurther, goes_further}
use Rattle.cover_cmd.specs.Reading.{ComesTo, IsReadingEnd}

-- the bytes that were read are the first of all
further : (n : ℕ) (bytes rest : List ℕ) (earlier : List (List ℕ)) (line : List ℕ) → IsLineAt n bytes earlier line
    → GoesFurther (lines_of (bytes ++ rest)) earlier line (is_ended bytes ≡ true)
further n bytes rest earlier line at = goes_further bytes rest earlier at.later line at.lines

bad_line : (n : ℕ) (bytes rest : List ℕ) (left : Option (List ℕ)) → left ≡ Some rest → IsFirstBad n bytes → IsUncut bytes left
    → IsFirstBad n (bytes ++ rest)
bad_line n bytes rest left is h (inl ended) =
    let s = further n bytes rest h.earlier h.line h.at in
    let same = s.same ended in
    record {
      earlier = h.earlier;
      line = s.whole;
      at = record { later = s.later; lines = s.are; place = h.at.place };
      known = h.known;
      bad = ap (λ x. line_in x) same ∙ h.bad;
    }
bad_line n bytes rest left is h (inr end) =
    let none : rest ≡ [] = subst IsAtEnd is end in
    subst (IsFirstBad n) (sym (ap (λ x. bytes ++ x) none ∙ append-nil bytes)) h

long_line : (n : ℕ) (bytes rest : List ℕ) → IsFirstLong n bytes → IsFirstLong n (bytes ++ rest)
long_line n bytes rest h =
    let s = further n bytes rest h.earlier h.line h.at in
    record {
      earlier = h.earlier;
      line = s.whole;
      at = record { later = s.later; lines = s.are; place = h.at.place };
      known = h.known;
      long = omega (arith, s.long, h.long);
    }

many_lines : (bytes rest : List ℕ) → ComesTo 200001 bytes → 200000 < length (lines_of (bytes ++ rest))
many_lines bytes rest c =
    let s = further 200001 bytes rest c.earlier c.line c.at in
    let long = ap length s.are ∙ length-append c.earlier (s.whole ∷ s.later) in omega (arith, long, c.at.place)

good_next : (xs ys : List (List ℕ)) (line : List ℕ) → AllByRecursion IsGood (xs ++ line ∷ ys) → IsGood line
good_next [] ys line h = h.0
good_next (x ∷ xs) ys line h = good_next xs ys line h.1

-- a line of a script that is in order
good_at : (n : ℕ) (bytes : List ℕ) (earlier : List (List ℕ)) (line : List ℕ) → IsScript bytes → IsLineAt n bytes earlier line → IsGood line
good_at n bytes earlier line script at =
    good_next earlier at.later line (subst (AllByRecursion IsGood) at.lines (recursion_from_All IsGood (lines_of bytes) script.each))

none_known : (l : Option ScriptLine) → l ≡ None → IsTrue (is_some l) → ⊥
none_known None e h = absurd (cc)
none_known (Some l) e h = cc

none_bad : (n : ℕ) (bytes : List ℕ) → IsScript bytes → IsFirstBad n bytes → ⊥
none_bad n bytes script h = none_known (line_in h.line) h.bad (good_at n bytes h.earlier h.line script h.at).known

none_long : (n : ℕ) (bytes : List ℕ) → IsScript bytes → IsFirstLong n bytes → ⊥
none_long n bytes script h =
    let good = good_at n bytes h.earlier h.line script h.at in omega (arith, good.fits.fits, h.long)

-- what an end says of all bytes
pub record TellsOf (bytes : List ℕ) (old new : ℕ) (why : Why) : Type 0 where
  pub blamed : IsToBlame why bytes
  pub complete : IsScript bytes → ¬ Rose old new → why ≡ NoMemory

tells : (bytes rest : List ℕ) (left : Option (List ℕ)) (f g : ℕ) (why : Why) → left ≡ Some rest → IsReadingEnd bytes left f g why
    → TellsOf (bytes ++ rest) f g why
tells bytes rest left f g (BadLine n) is h =
    let blamed = bad_line n bytes rest left is h.0 h.1 in
    record { blamed = blamed; complete = λ script quiet. absurd (none_bad n (bytes ++ rest) script blamed) }
tells bytes rest left f g (LongLine n) is h =
    let blamed = long_line n bytes rest h in
    record { blamed = blamed; complete = λ script quiet. absurd (none_long n (bytes ++ rest) script blamed) }
tells bytes rest left f g ManyLines is h =
    let blamed = many_lines bytes rest h in
    record { blamed = blamed; complete = λ script quiet. absurd (omega (arith, script.few, blamed)) }
tells bytes rest left f g SourceFault is h = record { blamed = tt; complete = λ script quiet. absurd (quiet h.0) }
tells bytes rest left f g NoMemory is h = record { blamed = tt; complete = λ script quiet. refl }
tells bytes rest left f g _ is h = absurd h

pub tells_all : (bytes taken : List ℕ) (old next : Option (List ℕ)) (f g : ℕ) (why : Why) → old ≡ Some bytes → Consumes old next taken
    → IsReadingEnd taken next f g why → TellsOf bytes f g why
tells_all bytes taken old next f g why is read h =
    let rest = told bytes taken next (subst (λ o. Consumes o next taken) is read) in
    subst (λ x. TellsOf x f g why) (sym rest.2) (tells taken rest.0 next f g why rest.1 h)
