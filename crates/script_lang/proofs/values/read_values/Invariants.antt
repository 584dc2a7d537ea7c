use Rattle.std.proofs.Common.{◌≡◌, length}
use Rattle.script_lang.specs.Reading.{values_in}
use Rattle.script_lang.proofs.ValueLists.{behind}
use Rattle.script_lang.proofs.values.read_values.Given as goal

-- the values so far, and those in the rest, are the values of the text
abbrev pub invariant-loop-part : goal.invariant-loop-part
invariant-loop-part l = behind l.values.items (values_in l.rest) ≡ values_in l.text

abbrev pub decreases-loop-part : goal.decreases-loop-part
decreases-loop-part l = length l.rest
