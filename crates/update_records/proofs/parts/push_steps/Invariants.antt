use Rattle.std.proofs.Common.{◌≡◌, ◌+◌, ◌++◌, drop, take}
use Rattle.std.specs.List.{All}
use Rattle.update_records.specs.Grammar.{IsEffect}
use Rattle.update_records.specs.RecordRows.{step_rows}
use Rattle.update_records.proofs.parts.push_steps.Given as goal

abbrev pub invariant-loop-effect : goal.invariant-loop-effect
invariant-loop-effect l = record {
  place : l.index ≡ l.effect-index + 1;
  whole : l.batch.items ++ step_rows l.key l.part l.index (drop l.effect-index l.effects) ≡ l.fn.batch.items ++ step_rows l.key l.part 1 l.effects;
  spelt : All IsEffect (take l.effect-index l.effects);
}
