-- How the reading of a whole script ends.
use Rattle.std.specs.Prelude.{◌≡◌, ℕ, ◌<◌, ◌≤◌, List, ◌++◌, length, Option, Result, Ok, Err}
use Rattle.std.specs.Io.KnownBytes.{Consumes, IsAtEnd}
use Rattle.enq_base.specs.Causes.{Rose}
use Rattle.io_edge.specs.Lines.{lines_of}
use Rattle.io_edge.specs.Reading.{IsUncut}
use Rattle.script_actors.specs.declared.line.NumberedLine.{NumberedLine}
use Rattle.script_runner.specs.declared.runner.Why.{Why}
use Rattle.script_runner.specs.declared.runner.Why.TheVariants.{BadLine, LongLine, ManyLines, NoMemory, SourceFault}
use Rattle.whole_script.specs.Lines.{AreRunnable, ComesTo, IsFirstTooLong, IsFirstUnrunnable, names_in, numbered}
use Rattle.whole_script.specs.declared.script.Script.{Script}

-- these bytes are a script that can be done, read to its end
pub record IsRead (bytes : List ℕ) (left : Option (List ℕ)) (lines : List NumberedLine) : Type 0 where
  pub end : IsAtEnd left
  pub few : length (lines_of bytes) ≤ 200000
  pub runnable : AreRunnable (lines_of bytes)
  pub known : lines ≡ numbered 0 (lines_of bytes)

-- the lines that were read before a fault could be done, but for the last one, which may have been cut
pub record AreRunnableBefore (bytes : List ℕ) : Type 0 where
  pub earlier : List (List ℕ)
  pub last : List (List ℕ)
  pub all : lines_of bytes ≡ earlier ++ last
  pub one : length last ≤ 1
  pub runnable : AreRunnable earlier

-- what of the bytes that were read, or of the device, ended the reading before the end of the script
abbrev pub IsReadingEnd : List ℕ → Option (List ℕ) → ℕ → ℕ → Why → Type 0
IsReadingEnd bytes left old new (BadLine n) = IsFirstUnrunnable n bytes × IsUncut bytes left
IsReadingEnd bytes left old new (LongLine n) = IsFirstTooLong n bytes
IsReadingEnd bytes left old new ManyLines = ComesTo 200001 bytes
IsReadingEnd bytes left old new SourceFault = Rose old new × AreRunnableBefore bytes
IsReadingEnd bytes left old new NoMemory = Unit {0}
IsReadingEnd bytes left old new why = ⊥

-- ---- a whole script

-- each line fits and may stand behind those before it, and there are at most 200,000
pub record IsWholeScript (bytes : List ℕ) : Type 0 where
  pub few : length (lines_of bytes) ≤ 200000
  pub runnable : AreRunnable (lines_of bytes)

-- where a line is to blame, it is the first that can't be done, or that is too long, or the 200,001st
abbrev pub BlamesFirst : List ℕ → Why → Type 0
BlamesFirst bytes (BadLine n) = IsFirstUnrunnable n bytes
BlamesFirst bytes (LongLine n) = IsFirstTooLong n bytes
BlamesFirst bytes ManyLines = 200000 < length (lines_of bytes)
BlamesFirst bytes why = Unit {0}

-- Of a source some bytes were read: all there are, and then these are the script's lines, and the sessions that they
-- name, each once, or as many as it took to see why not.
abbrev pub IsOutcome : List ℕ → Option (List ℕ) → ℕ → ℕ → Result Script Why → Type 0
IsOutcome bytes left old new (Ok script) = IsRead bytes left script.lines.items
    × (script.names.items ≡ names_in script.lines.items) × (new ≡ old)
IsOutcome bytes left old new (Err why) = IsReadingEnd bytes left old new why

abbrev pub ReadsAll : Option (List ℕ) → Option (List ℕ) → ℕ → ℕ → Result Script Why → Type 0
ReadsAll before after old new r = (bytes : List ℕ) × Consumes before after bytes × IsOutcome bytes after old new r
