use Rattle.store_reading.proofs.lemmas.Gathers.{users_more}
use Rattle.store_reading.proofs.units.users_of.Goals as goal

pub loop-stored-preserved : goal.loop-stored-preserved
loop-stored-preserved c = users_more c.loop-stored.users c.add_user.new.users c.args.headers.now c.loop-stored.stored-index c.stored-item.result
    c.loop-stored-test.true c.stored-item.is c.in_ok-add_user.ensures c.loop-stored.invariant
