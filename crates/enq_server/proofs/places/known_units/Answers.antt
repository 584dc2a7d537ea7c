use Rattle.std.proofs.Common.{subst, arith}
use Rattle.std.proofs.lemmas.List.{take_all}
use Rattle.enq_server.specs.Recovery.{AreKnown}
use Rattle.enq_server.proofs.Differences.{known_more}
use Rattle.enq_server.proofs.places.known_units.Goals as goal

pub loop-one-preserved : goal.loop-one-preserved
loop-one-preserved c = known_more c.loop-one.known.keys c.add.new.known.keys c.args.units.now c.loop-one.one-index c.one-item.result c.loop-one-test.true
    c.one-item.is c.loop-one.invariant c.in_ok-add.ensures

pub returns : goal.returns
returns c = subst (AreKnown c.loop-one.known.keys) (take_all c.loop-one.one-index c.args.units.now (omega (arith, c.loop-one-test.false))) c.loop-one.invariant
