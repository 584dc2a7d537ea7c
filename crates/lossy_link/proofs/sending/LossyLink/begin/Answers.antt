use Rattle.std.proofs.Common.{◌+◌, true, false, Some, None, refl, ap, subst}
use Rattle.lossy_link.specs.declared.packet.Packet.TheVariants.{Begin}
use Rattle.lossy_link.specs.Packets.{Place, own_ack}
use Rattle.lossy_link.specs.Runs.{Follows}
use Rattle.lossy_link.specs.Wiring.{Sender}
use Rattle.std.proofs.lemmas.Bool.{false≢true}
use Rattle.lossy_link.proofs.Follow.{begins-follows}
use Rattle.lossy_link.proofs.Senders.{begun, begin-reached, unbegun}
use Rattle.lossy_link.proofs.sending.LossyLink.begin.Goals as goal

pub invariant_of-self : goal.invariant_of-self
invariant_of-self g c =
    let s = c.self.inside in
    λ t. begun g.W.Wire.place g.W.Wire.may_bring g.W.Wire.may_answer s.wire c.send.new.wire s.epoch s.seq s.attached c.args.entries (c.self.invariant t)
    (Some (own_ack (Begin (s.epoch + 1) c.args.entries))) (c.in-Ok.ensures.sent t) refl

pub returns-in-Ok-clause-list : goal.returns-in-Ok-clause-list
returns-in-Ok-clause-list g c =
    let s = c.self.inside in
    λ t. ap (λ (r : Place). r.list)
    (begin-reached g.W.Wire.place g.W.Wire.may_bring g.W.Wire.may_answer s.wire c.send.new.wire s.epoch s.seq s.attached c.args.entries (c.self.invariant t)
    (Some (own_ack (Begin (s.epoch + 1) c.args.entries))) (c.in-Ok.ensures.sent t) refl)

pub invariant_of-self-in-Err : goal.invariant_of-self-in-Err
invariant_of-self-in-Err g c =
    let s = c.self.inside in
    λ t. unbegun g.W.Wire.place g.W.Wire.may_bring g.W.Wire.may_answer s.wire c.send.new.wire s.epoch s.seq s.attached c.args.entries (c.self.invariant t) None
    (c.in-Err.ensures.sent t) s.seq

pub returns-in-Ok-clause-runs : goal.returns-in-Ok-clause-runs
returns-in-Ok-clause-runs g c =
    let s = c.self.inside in
    let old : Sender g.row.W.Denot = record { wire = s.wire; epoch = s.epoch; seq = s.seq; attached = s.attached; faults = s.faults; refusals = s.refusals } in
    let new : Sender g.row.W.Denot =
    record { wire = c.send.new.wire; epoch = s.epoch + 1; seq = 0; attached = true; faults = s.faults; refusals = s.refusals } in
    λ t. subst (λ (v : Sender g.row.W.Denot). Follows g.W.Wire.place g.W.Wire.may_bring g.W.Wire.may_answer v new) c.self.view_is
    (begins-follows g.W.Wire.place g.W.Wire.may_bring g.W.Wire.may_answer old new c.args.entries (Some (own_ack (Begin (s.epoch + 1) c.args.entries)))
    (c.in-Ok.ensures.sent t) refl (λ _. refl))

pub returns-clause-runs : goal.returns-clause-runs
returns-clause-runs g c =
    let s = c.self.inside in
    let old : Sender g.row.W.Denot = record { wire = s.wire; epoch = s.epoch; seq = s.seq; attached = s.attached; faults = s.faults; refusals = s.refusals } in
    let new : Sender g.row.W.Denot =
    record { wire = c.send.new.wire; epoch = s.epoch + 1; seq = s.seq; attached = false; faults = s.faults; refusals = s.refusals } in
    λ t. subst (λ (v : Sender g.row.W.Denot). Follows g.W.Wire.place g.W.Wire.may_bring g.W.Wire.may_answer v new) c.self.view_is
    (begins-follows g.W.Wire.place g.W.Wire.may_bring g.W.Wire.may_answer old new c.args.entries None (c.in-Err.ensures.sent t) refl
    (λ f. absurd (false≢true f)))
