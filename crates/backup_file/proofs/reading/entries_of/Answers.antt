use Rattle.backup_file.specs.Reading.{entry_at}
use Rattle.byte_fields.specs.Fields.{many}
use Rattle.byte_fields.proofs.lemmas.Loop.{goes_on, ends, is_done}
use Rattle.backup_file.proofs.reading.entries_of.Goals as goal

pub loop-preserved : goal.loop-preserved
loop-preserved c =
    rw c.in_ok-push-in-Ok.ensures.items
    (goes_on (entry_at c.args.unit.now c.args.user.now) c.loop.entries.items c.args.count c.loop.counter c.loop.rest.now c.in-Ok.entry c.in-Ok.after.now
    (many (entry_at c.args.unit.now c.args.user.now) c.args.count c.args.bytes.now) c.loop-test.true c.in-Ok.ensures c.loop.invariant)

pub returns : goal.returns
returns c = is_done (entry_at c.args.unit.now c.args.user.now) c.loop.entries.items c.args.count c.loop.counter c.loop.rest.now
    (many (entry_at c.args.unit.now c.args.user.now) c.args.count c.args.bytes.now) c.loop-test.false c.loop.invariant

pub returns-in-Err : goal.returns-in-Err
returns-in-Err c = ends c.in-Err.fault (entry_at c.args.unit.now c.args.user.now) c.loop.entries.items c.args.count c.loop.counter c.loop.rest.now
    (many (entry_at c.args.unit.now c.args.user.now) c.args.count c.args.bytes.now) c.loop-test.true c.in-Err.ensures c.loop.invariant
