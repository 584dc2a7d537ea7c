use Rattle.std.proofs.Common.{take, sym, subst}
use Rattle.std.specs.List.{flat_map}
use Rattle.std.proofs.lemmas.List.{take_all}
use Rattle.store_reading.specs.Standings.{AreNames, AreTwins}
use Rattle.store_reading.specs.Units.{names_in}
use Rattle.store_reading.proofs.Twins.{names_on}
use Rattle.store_reading.proofs.lock_names.twins_of.Goals as goal

pub loop-stored-preserved : goal.loop-stored-preserved
loop-stored-preserved c = λ headers counts.
    let both = c.loop-stored.invariant headers counts in
    let next = c.in_ok-add_lock.ensures headers (flat_map (names_in headers) (take c.loop-stored.stored-index c.args.locks.now)) counts both.0 both.1 in
    subst (λ ns. AreNames c.add_lock.new.seen ns × AreTwins c.add_lock.new.twins ns)
    (sym (names_on (names_in headers) c.args.locks.now c.loop-stored.stored-index c.stored-item.result c.loop-stored-test.true c.stored-item.is)) next

pub returns : goal.returns
returns c = λ headers counts.
    subst (λ xs. AreTwins c.loop-stored.twins (flat_map (names_in headers) xs)) (take_all c.loop-stored.stored-index c.args.locks.now c.loop-stored-test.false)
    (c.loop-stored.invariant headers counts).1
