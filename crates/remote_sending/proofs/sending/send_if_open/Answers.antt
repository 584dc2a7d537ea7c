use Rattle.std.proofs.Common.{ap}
use Rattle.std.specs.Option.{is_none}
use Rattle.remote_sending.proofs.Asked.{goes_itself}
use Rattle.remote_sending.proofs.Grown.{goes_on}
use Rattle.remote_sending.proofs.IfOpen.{if_line, if_rows, if_stopped, kept_line, kept_rows, stands_still}
use Rattle.remote_sending.proofs.Steps.{open_left, settled_left}
use Rattle.remote_sending.proofs.sending.send_if_open.Goals as goal

pub returns-in-Some-clause-rows : goal.returns-in-Some-clause-rows
returns-in-Some-clause-rows g c = λ told found before after h.
    kept_rows told (g.C.Carrier.executed c.args.carrier.now) found before after c.args.call.now c.in-Some.outcome
    (g.O.Keeper.held c.args.outbox.now) c.in-Some.is h

pub returns-in-Some-clause-line : goal.returns-in-Some-clause-line
returns-in-Some-clause-line g c = λ found same. kept_line found c.args.call.now c.in-Some.outcome (g.T.Sink.written c.args.sink.now) c.in-Some.is same

pub returns-in-Some-clause-left : goal.returns-in-Some-clause-left
returns-in-Some-clause-left g c = λ told found before after.
    settled_left told (g.C.Carrier.executed c.args.carrier.now) found _ (g.O.Keeper.held c.args.outbox.now) (g.O.Keeper.may_leave c.args.outbox.now)
    (g.met.O.Keeper.settled c.args.outbox.now c.requires)

pub returns-in-Some-clause-goes_on : goal.returns-in-Some-clause-goes_on
returns-in-Some-clause-goes_on g c = goes_itself (g.C.Carrier.executed c.args.carrier.now)

pub returns-in-Some-clause-misses : goal.returns-in-Some-clause-misses
returns-in-Some-clause-misses g c = stands_still (g.C.Carrier.misses c.args.carrier.now)

pub returns-in-None-clause-rows : goal.returns-in-None-clause-rows
returns-in-None-clause-rows g c =
    if_rows c.send_one.result _ _ c.args.call.now _ _ _ c.in-None.is (goes_on _ _ c.send_one.ensures.goes_on) c.send_one.ensures.left
    (g.met.O.Keeper.held_left c.send_one.new.outbox) c.send_one.ensures.rows

pub returns-in-None-clause-line : goal.returns-in-None-clause-line
returns-in-None-clause-line g c = if_line c.send_one.result c.args.call.now _ _ c.in-None.is c.send_one.ensures.line

pub returns-in-None-clause-stopped : goal.returns-in-None-clause-stopped
returns-in-None-clause-stopped g c = if_stopped c.send_one.result c.args.call.now _ _ _ _ c.in-None.is c.send_one.ensures.stopped

pub returns-in-None-clause-left : goal.returns-in-None-clause-left
returns-in-None-clause-left g c = λ told found before after.
    open_left told _ _ found before after c.args.call.now _ _ (ap is_none c.in-None.is) (goes_on _ _ c.send_one.ensures.goes_on) c.send_one.ensures.left
