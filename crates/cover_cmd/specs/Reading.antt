-- How the reading of a script ends whose lines are all looked at before any is told of.
use Rattle.std.specs.Prelude.{◌≡◌, ℕ, ◌≤◌, List, ◌++◌, length, All, Option, Result, Ok, Err}
use Rattle.std.specs.Global.{Vec}
use Rattle.std.specs.Io.KnownBytes.{Consumes, IsAtEnd}
use Rattle.std.specs.List.{AllByRecursion}
use Rattle.coverage.specs.Lacks.{Numbered, lacks}
use Rattle.coverage.specs.declared.lack.Lack.{Lack}
use Rattle.enq_base.specs.Causes.{Rose}
use Rattle.io_edge.specs.Lines.{lines_of}
use Rattle.io_edge.specs.Reading.{IsUncut}
use Rattle.lock_objects.specs.Objects.{Object}
use Rattle.script_runner.specs.LineFaults.{IsFirstBad, IsFirstLong, IsKnown, IsLineAt}
use Rattle.script_runner.specs.Whole.{IsGood, IsScript}
use Rattle.script_runner.specs.declared.runner.Why.{Why}
use Rattle.script_runner.specs.declared.runner.Why.TheVariants.{BadLine, LongLine, ManyLines, NoMemory, SourceFault}
use Rattle.cover_cmd.specs.Lines.{numbered}
use Rattle.cover_cmd.specs.Texts.{cover_text}

-- these bytes are a script that is in order, read to its end
pub record IsRead (bytes : List ℕ) (left : Option (List ℕ)) : Type 0 where
  pub script : IsScript bytes
  pub end : IsAtEnd left

-- there is a line n, and each line before it is in the grammar
pub record ComesTo (n : ℕ) (bytes : List ℕ) : Type 0 where
  pub earlier : List (List ℕ)
  pub line : List ℕ
  pub at : IsLineAt n bytes earlier line
  pub known : AllByRecursion IsKnown earlier

-- the lines that were read before a fault are good, but for the last one, which may have been cut
pub record AreGoodBefore (bytes : List ℕ) : Type 0 where
  pub earlier : List (List ℕ)
  pub last : List (List ℕ)
  pub all : lines_of bytes ≡ earlier ++ last
  pub one : length last ≤ 1
  pub good : All IsGood earlier

-- what of the bytes that were read, or of the source, ended the reading before the end of the script
abbrev pub IsReadingEnd : List ℕ → Option (List ℕ) → ℕ → ℕ → Why → Type 0
IsReadingEnd bytes left old new (BadLine n) = IsFirstBad n bytes × IsUncut bytes left
IsReadingEnd bytes left old new (LongLine n) = IsFirstLong n bytes
IsReadingEnd bytes left old new ManyLines = ComesTo 200001 bytes
IsReadingEnd bytes left old new SourceFault = Rose old new × AreGoodBefore bytes
IsReadingEnd bytes left old new NoMemory = Unit {0}
IsReadingEnd bytes left old new why = ⊥

-- Of a source some bytes were read: all there are, and then the lines that they are have this outcome, or as many as it
-- took to see why not.
abbrev pub IsOutcome : {X : Type 0} → (List Numbered → X → Type 0) → List ℕ → Option (List ℕ) → ℕ → ℕ → Result X Why
    → Type 0
IsOutcome Has bytes left old new (Ok x) = IsRead bytes left × Has (numbered 0 (lines_of bytes)) x × (new ≡ old)
IsOutcome Has bytes left old new (Err why) = IsReadingEnd bytes left old new why

abbrev pub ReadsAll : {X : Type 0} → (List Numbered → X → Type 0) → Option (List ℕ) → Option (List ℕ) → ℕ → ℕ
    → Result X Why → Type 0
ReadsAll Has before after old new r = (bytes : List ℕ) × Consumes before after bytes
    × IsOutcome Has bytes after old new r

abbrev pub HasLacks : List Object → List Numbered → Vec Lack → Type 0
HasLacks objects lines found = found.items ≡ lacks objects lines

abbrev pub HasText : List Object → List Numbered → Vec ℕ → Type 0
HasText objects lines text = text.items ≡ cover_text (lacks objects lines)
