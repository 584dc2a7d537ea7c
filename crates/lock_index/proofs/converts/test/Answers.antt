use Rattle.lock_laws.proofs.Conversions.{converted-Lost, converted-Foreign, converted-Count, converted-Ok}
use Rattle.lock_index.specs.Slots.{live}
use Rattle.lock_index.proofs.converts.test.Goals as goal

pub returns-then-is_lost-clause-refused : goal.returns-then-is_lost-clause-refused
returns-then-is_lost-clause-refused c = converted-Lost (live c.args.shelf.now) c.args.asker.now c.args.asked.now c.if-is_lost.ensures

pub returns-in-Some-clause-refused : goal.returns-in-Some-clause-refused
returns-in-Some-clause-refused c = converted-Foreign (live c.args.shelf.now) c.args.asker.now c.args.asked.now c.in-Some.entry.now c.if-is_lost.ensures
    c.in-Some.ensures

pub returns-then-sum_exceeds-clause-refused : goal.returns-then-sum_exceeds-clause-refused
returns-then-sum_exceeds-clause-refused c = converted-Count (live c.args.shelf.now) c.args.asker.now c.args.asked.now c.if-is_lost.ensures c.in-None.ensures
    c.if-sum_exceeds.ensures

pub returns-clause-ok : goal.returns-clause-ok
returns-clause-ok c = converted-Ok (live c.args.shelf.now) c.args.asker.now c.args.asked.now c.if-is_lost.ensures c.in-None.ensures c.if-sum_exceeds.ensures
