-- Words by which a script is looked through for locks that it lacks.
use Rattle.std.specs.Prelude.{◌≡◌, ◌⊎◌, ℕ, List, ◌++◌, codes, Option, Some, Ok}
use Rattle.cover_cmd.specs.Lines.{numbered}
use Rattle.cover_laws.specs.Safe.{Safe}
use Rattle.io_edge.specs.Lines.{lines_of}
use Rattle.landscape.specs.Landscape.{landscape_of}
use Rattle.landscape.specs.declared.landscape.Landscape.{Landscape}
use Rattle.script_runner.specs.declared.runner.Why.{Why}
use Rattle.script_runner.specs.declared.runner.Why.TheVariants.{Done, BadLandscape, BadLine, SourceFault, SinkFault}
use Rattle.script_runner.specs.declared.runner.Why.TheVariants.{LongLine, ManyLines, NoMemory}
use Rattle.enq_cmd.specs.Words.{OpensStore, cover_words}

-- words by which the landscape is read
abbrev pub ReadsLandscape : List (List ℕ) → Type 0
ReadsLandscape words = OpensStore words ⊎ (words ≡ cover_words)

-- the ends of a program that opens no store: landscape, script and sink alone bring them about
abbrev pub IsCoverEnd : Why → Type 0
IsCoverEnd Done = Unit {0}
IsCoverEnd (BadLandscape rule place) = Unit {0}
IsCoverEnd (BadLine n) = Unit {0}
IsCoverEnd SourceFault = Unit {0}
IsCoverEnd SinkFault = Unit {0}
IsCoverEnd (LongLine n) = Unit {0}
IsCoverEnd ManyLines = Unit {0}
IsCoverEnd NoMemory = Unit {0}
IsCoverEnd why = ⊥

-- Where just COVERED was written, of a script and a landscape of these bytes, each history of the script keeps what its
-- units have read.
abbrev pub TellsSafe : (land_left left old new : Option (List ℕ)) → Type 0
TellsSafe land_left left old new =
    (document : List ℕ) → land_left ≡ Some document → (land : Landscape) → landscape_of document ≡ Ok land
    → (bytes : List ℕ) → left ≡ Some bytes → (before : List ℕ) → old ≡ Some before
    → new ≡ Some (before ++ codes "COVERED\n")
    → Safe land.objects (numbered 0 (lines_of bytes))
