use Rattle.std.proofs.Common.{subst, sym, ◌∙◌, rules}
use Rattle.std.specs.List.{All}
use Rattle.update_records.specs.Grammar.{HasNames, IsEffect}
use Rattle.keeper_api.specs.Batch.{IsBatch}
use Rattle.update_records.proofs.lemmas.Distinct.{unit_batch}
use Rattle.update_records.proofs.lemmas.UnitRecords.{unit_is, unit_fits, held_are}
use Rattle.update_records.proofs.units.encode_unit.Goals as goal

pub returns-clause-rows : goal.returns-clause-rows
returns-clause-rows c = search rules

pub returns-clause-first : goal.returns-clause-first
returns-clause-first c = subst (All IsEffect) c.as_slice.ensures c.in_ok-push_part.ensures.grammar

pub returns-clause-second : goal.returns-clause-second
returns-clause-second c = subst (All IsEffect) c.as_slice-2.ensures c.in_ok-push_part-2.ensures.grammar

pub returns-clause-locks : goal.returns-clause-locks
returns-clause-locks c = held_are c.args.unit.now c.args.unit.now.entries c.requires.held
    (subst (All HasNames) c.as_slice-3.ensures c.in_ok-push_locks.ensures.grammar)

pub returns-clause-records : goal.returns-clause-records
returns-clause-records c = returns-clause-rows c ∙ sym (unit_is c.args.unit.now)

pub returns-clause-grammar : goal.returns-clause-grammar
returns-clause-grammar c =
    unit_fits c.args.unit.now c.in_ok-encode_header.ensures.key c.in_ok-encode_header.ensures.user c.requires.effects (returns-clause-first c)
    (returns-clause-second c)
    c.requires.numbers c.in_ok-encode_header.ensures.spelt c.requires.entries (returns-clause-locks c)

pub returns-clause-batch : goal.returns-clause-batch
returns-clause-batch c = subst IsBatch (sym (returns-clause-rows c)) (unit_batch c.args.unit.now c.requires.effects c.requires.entries)
