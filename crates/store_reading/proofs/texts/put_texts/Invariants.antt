use Rattle.std.proofs.Common.{◌-◌, length, drop}
use Rattle.module_effects.specs.Rows.{Tables}
use Rattle.module_effects.specs.Spots.{with_spots}
use Rattle.store_reading.specs.Posting.{AreTexts}
use Rattle.store_reading.proofs.texts.put_texts.Given as goal

abbrev pub invariant-loop-done : goal.invariant-loop-done
invariant-loop-done l = (tables : Tables) → AreTexts l.fn.texts tables → AreTexts l.texts (with_spots (drop (length l.spots - l.done) l.spots) tables)
