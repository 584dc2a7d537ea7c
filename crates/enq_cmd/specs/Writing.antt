-- A text that is written at once.
use Rattle.std.specs.Prelude.{◌≡◌, ℕ, List, [], Option}
use Rattle.std.specs.Io.KnownBytes.{Appends}
use Rattle.enq_base.specs.Causes.{Rose}
use Rattle.io_edge.specs.Known.{AppendsFirst}
use Rattle.script_runner.specs.declared.runner.Why.{Why}
use Rattle.script_runner.specs.declared.runner.Why.TheVariants.{Done, SinkFault, NoMemory}

-- the text was written, or a part of it, and then the sink's count rose, or memory for it was wanting
abbrev pub WritesText : Option (List ℕ) → Option (List ℕ) → ℕ → ℕ → List ℕ → Why → Type 0
WritesText old new before now text Done = Appends old new text × (now ≡ before)
WritesText old new before now text SinkFault = AppendsFirst old new text × Rose before now
WritesText old new before now text NoMemory = Appends old new [] × (now ≡ before)
WritesText old new before now text why = ⊥
