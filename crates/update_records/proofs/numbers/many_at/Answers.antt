use Rattle.byte_fields.specs.Fields.{many}
use Rattle.update_records.specs.Reading.{num_at}
use Rattle.byte_fields.proofs.lemmas.Loop.{goes_on, ends, is_done}
use Rattle.update_records.proofs.numbers.many_at.Goals as goal

pub loop-preserved : goal.loop-preserved
loop-preserved c =
    rw c.in_ok-push-in-Ok.ensures.items
    (goes_on num_at c.loop.numbers.items c.args.count c.loop.counter c.loop.rest.now c.in-Ok.number c.in-Ok.after.now
    (many num_at c.args.count c.args.bytes.now) c.loop-test.true c.in-Ok.ensures.gives c.loop.invariant)

pub returns : goal.returns
returns c = is_done num_at c.loop.numbers.items c.args.count c.loop.counter c.loop.rest.now
    (many num_at c.args.count c.args.bytes.now) c.loop-test.false c.loop.invariant

pub returns-in-Err : goal.returns-in-Err
returns-in-Err c = ends c.in-Err.fault num_at c.loop.numbers.items c.args.count c.loop.counter c.loop.rest.now
    (many num_at c.args.count c.args.bytes.now) c.loop-test.true c.in-Err.ensures.gives c.loop.invariant
