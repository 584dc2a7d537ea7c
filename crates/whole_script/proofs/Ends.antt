-- What an end of the reading says of all bytes that a source told.
use Rattle.std.proofs.Common.{inl, inr, ◌≡◌, ℕ, ◌<◌, List, [], ◌∷◌, ◌++◌, length, refl, sym, ap, ◌∙◌, subst, arith, true, true≢false}
use Rattle.std.specs.Prelude.{Option, Some, Err}
use Rattle.std.specs.Io.KnownBytes.{Consumes, IsAtEnd}
use Rattle.std.proofs.lemmas.List.{append-nil, length-append}
use Rattle.enq_base.specs.Causes.{Rose}
use Rattle.io_edge.specs.Lines.{IsLine, is_ended, lines_of}
use Rattle.io_edge.specs.Reading.{IsUncut}
use Rattle.script_runner.specs.declared.runner.Why.{Why}
use Rattle.script_runner.specs.declared.runner.Why.TheVariants.{Done, BadWords, BadLandscape, BadLine, SourceFault, SinkFault}
use Rattle.script_runner.specs.declared.runner.Why.TheVariants.{LongLine, ManyLines, StoreFault, BackupFault, BadStore, BadBackup, NoStart, NoMemory, LogFull}
use Rattle.whole_script.specs.Lines.{ComesTo, IsFirstTooLong, IsFirstUnrunnable, runs_behind}
use Rattle.whole_script.specs.Reading.{BlamesFirst, IsReadingEnd, IsWholeScript, ReadsAll}
use Rattle.io_edge.proofs.lemmas.LinesRead.{told}
use Rattle.io_edge.proofs.lemmas.MoreBytes.{GoesFurther, goes_further}

-- the bytes that were read are the first of all
further : (n : ℕ) (bytes rest : List ℕ) (c : ComesTo n bytes) → GoesFurther (lines_of (bytes ++ rest)) c.earlier c.line (is_ended bytes ≡ true)
further n bytes rest c = goes_further bytes rest c.earlier c.at.later c.line c.at.lines

-- a line of this number, as all bytes have it
abbrev whole_line : (n : ℕ) (bytes rest : List ℕ) → ComesTo n bytes → ComesTo n (bytes ++ rest)
whole_line n bytes rest c =
    let s = further n bytes rest c in
    record {
      earlier = c.earlier;
      line = s.whole;
      at = record { later = s.later; lines = s.are; place = c.at.place };
      runnable = c.runnable;
    }

bad_line : (n : ℕ) (bytes rest : List ℕ) (left : Option (List ℕ)) → left ≡ Some rest → IsFirstUnrunnable n bytes → IsUncut bytes left
    → IsFirstUnrunnable n (bytes ++ rest)
bad_line n bytes rest left is h (inl ended) =
    let same = (further n bytes rest h.0).same ended in (
      whole_line n bytes rest h.0,
      subst IsLine (sym same) h.1,
      ap (λ x. runs_behind h.0.earlier x) same ∙ h.2,
    )
bad_line n bytes rest left is h (inr end) =
    let none : rest ≡ [] = subst IsAtEnd is end in
    subst (IsFirstUnrunnable n) (sym (ap (λ x. bytes ++ x) none ∙ append-nil bytes)) h

long_line : (n : ℕ) (bytes rest : List ℕ) → IsFirstTooLong n bytes → IsFirstTooLong n (bytes ++ rest)
long_line n bytes rest h =
    let s = further n bytes rest h.0 in
    let long : 1024 < length s.whole = omega (arith, s.long, h.1) in
    (whole_line n bytes rest h.0, long)

many_lines : (bytes : List ℕ) → ComesTo 200001 bytes → 200000 < length (lines_of bytes)
many_lines bytes c =
    let long = ap length c.at.lines ∙ length-append c.earlier (c.line ∷ c.at.later) in omega (arith, long, c.at.place)

-- a script all of whose lines can be done has no line to blame
none_bad : (n : ℕ) (bytes : List ℕ) → IsWholeScript bytes → IsFirstUnrunnable n bytes → ⊥
none_bad n bytes w h =
    let may = w.runnable h.0.earlier h.0.at.later h.0.line h.0.at.lines in true≢false (sym may.1 ∙ h.2)

none_long : (n : ℕ) (bytes : List ℕ) → IsWholeScript bytes → IsFirstTooLong n bytes → ⊥
none_long n bytes w h =
    let may = w.runnable h.0.earlier h.0.at.later h.0.line h.0.at.lines in omega (arith, may.0.fits, h.1)

-- what an end says of all bytes
record TellsOf (bytes : List ℕ) (old new : ℕ) (why : Why) : Type 0 where
  blamed : BlamesFirst bytes why
  complete : IsWholeScript bytes → ¬ Rose old new → why ≡ NoMemory

tells : (bytes rest : List ℕ) (left : Option (List ℕ)) (f g : ℕ) (why : Why) → left ≡ Some rest → IsReadingEnd bytes left f g why
    → TellsOf (bytes ++ rest) f g why
tells bytes rest left f g (BadLine n) is h =
    let blamed = bad_line n bytes rest left is h.0 h.1 in
    record { blamed = blamed; complete = λ w quiet. absurd (none_bad n (bytes ++ rest) w blamed) }
tells bytes rest left f g (LongLine n) is h =
    let blamed = long_line n bytes rest h in
    record { blamed = blamed; complete = λ w quiet. absurd (none_long n (bytes ++ rest) w blamed) }
tells bytes rest left f g ManyLines is h =
    let blamed = many_lines (bytes ++ rest) (whole_line 200001 bytes rest h) in
    record { blamed = blamed; complete = λ w quiet. absurd (omega (arith, w.few, blamed)) }
tells bytes rest left f g SourceFault is h = record { blamed = tt; complete = λ w quiet. absurd (quiet h.0) }
tells bytes rest left f g NoMemory is h = record { blamed = tt; complete = λ w quiet. refl }
tells bytes rest left f g Done is h = absurd h
tells bytes rest left f g BadWords is h = absurd h
tells bytes rest left f g (BadLandscape rule k) is h = absurd h
tells bytes rest left f g SinkFault is h = absurd h
tells bytes rest left f g (StoreFault k) is h = absurd h
tells bytes rest left f g (BackupFault k) is h = absurd h
tells bytes rest left f g (BadStore table row) is h = absurd h
tells bytes rest left f g (BadBackup k) is h = absurd h
tells bytes rest left f g NoStart is h = absurd h
tells bytes rest left f g LogFull is h = absurd h

tells_all : (bytes : List ℕ) (old next : Option (List ℕ)) (f g : ℕ) (why : Why) → old ≡ Some bytes → ReadsAll old next f g (Err why)
    → TellsOf bytes f g why
tells_all bytes old next f g why is h =
    let rest = told bytes h.0 next (subst (λ o. Consumes o next h.0) is h.1) in
    subst (λ x. TellsOf x f g why) (sym rest.2) (tells h.0 rest.0 next f g why rest.1 h.2)

-- where the source told its bytes, a line is to blame only where it is the first such line of them all
pub blames : (bytes : List ℕ) (old next : Option (List ℕ)) (f g : ℕ) (why : Why) → old ≡ Some bytes → ReadsAll old next f g (Err why)
    → BlamesFirst bytes why
blames bytes old next f g why is h = (tells_all bytes old next f g why is h).blamed

-- a script all of whose lines can be done is read to its end, unless memory was wanting
pub completes : (bytes : List ℕ) (old next : Option (List ℕ)) (f g : ℕ) (why : Why) → old ≡ Some bytes → ReadsAll old next f g (Err why)
    → IsWholeScript bytes → ¬ Rose f g → why ≡ NoMemory
completes bytes old next f g why is h script quiet = (tells_all bytes old next f g why is h).complete script quiet
