use Rattle.lock_laws.proofs.Conversions.{converted-Lost, converted-Foreign, converted-Count, converted-Ok}
use Rattle.lock_table.proofs.converts.test.Goals as goal

pub returns-then-is_lost-clause-refused : goal.returns-then-is_lost-clause-refused
returns-then-is_lost-clause-refused c = converted-Lost c.args.entries.now c.args.asker.now c.args.asked.now c.if-is_lost.ensures

pub returns-in-Some-clause-refused : goal.returns-in-Some-clause-refused
returns-in-Some-clause-refused c = converted-Foreign c.args.entries.now c.args.asker.now c.args.asked.now c.in-Some.entry c.if-is_lost.ensures c.in-Some.ensures

pub returns-then-sum_exceeds-clause-refused : goal.returns-then-sum_exceeds-clause-refused
returns-then-sum_exceeds-clause-refused c = converted-Count c.args.entries.now c.args.asker.now c.args.asked.now c.if-is_lost.ensures c.in-None.ensures
    c.if-sum_exceeds.ensures

pub returns-clause-ok : goal.returns-clause-ok
returns-clause-ok c = converted-Ok c.args.entries.now c.args.asker.now c.args.asked.now c.if-is_lost.ensures c.in-None.ensures c.if-sum_exceeds.ensures
