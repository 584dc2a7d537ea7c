use Rattle.std.proofs.Common.{subst}
use Rattle.std.proofs.lemmas.List.{take_all}
use Rattle.store_reading.specs.Gathered.{entries_for, AreEntries}
use Rattle.store_reading.proofs.lemmas.Gathers.{entries_more}
use Rattle.store_reading.proofs.units.locks_of.Goals as goal

pub loop-stored-preserved : goal.loop-stored-preserved
loop-stored-preserved c = λ headers users key some.
    entries_more headers c.args.locks.now c.loop-stored.stored-index c.stored-item.result key (entries_for c.loop-stored.lists key)
    (entries_for c.add_lock.new.locks key) c.loop-stored-test.true c.stored-item.is
    (c.in_ok-add_lock.ensures headers users key some) (c.loop-stored.invariant headers users key some)

pub returns : goal.returns
returns c = λ headers users. subst (AreEntries c.loop-stored.lists headers) (take_all c.loop-stored.stored-index c.args.locks.now c.loop-stored-test.false)
    (c.loop-stored.invariant headers users)
