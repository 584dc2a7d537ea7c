use Rattle.std.proofs.Common.{◌∙◌, false, None, refl, ap, subst}
use Rattle.replica_link.specs.Operations.{after_op}
use Rattle.std.proofs.lemmas.Bool.{false≢true}
use Rattle.lossy_link.specs.Runs.{Follows}
use Rattle.lossy_link.specs.Wiring.{Sender}
use Rattle.lossy_link.proofs.Follow.{ships-follows, unshipped-follows}
use Rattle.lossy_link.proofs.Senders.{shipped-known, shipped-list, unshipped-known}
use Rattle.lossy_link.proofs.sending.LossyLink.send_op.Goals as goal

pub invariant_of-self : goal.invariant_of-self
invariant_of-self g c =
    let s = c.self.inside in
    λ t. shipped-known g.W.Wire.place g.W.Wire.may_bring g.W.Wire.may_answer s.wire c.send.new.wire s.epoch s.seq c.args.seq c.args.op.now s.attached
    (rw (← c.self.view_is) at c.requires.next) (rw (← c.self.view_is) at c.requires.attached) (c.self.invariant t) (c.in-Ok.ensures.sent t)

pub returns-in-Ok-clause-list : goal.returns-in-Ok-clause-list
returns-in-Ok-clause-list g c =
    let s = c.self.inside in
    λ t. shipped-list g.W.Wire.place g.W.Wire.may_bring g.W.Wire.may_answer s.wire c.send.new.wire s.epoch s.seq c.args.seq c.args.op.now s.attached
    (rw (← c.self.view_is) at c.requires.next) (rw (← c.self.view_is) at c.requires.attached) (c.self.invariant t) (c.in-Ok.ensures.sent t)
    ∙ ap (λ (v : Sender g.row.W.Denot). after_op (g.W.Wire.place v.wire).list c.args.op.now) c.self.view_is

pub invariant_of-self-in-Err : goal.invariant_of-self-in-Err
invariant_of-self-in-Err g c =
    let s = c.self.inside in
    λ t. unshipped-known g.W.Wire.place g.W.Wire.may_bring g.W.Wire.may_answer s.wire c.send.new.wire s.epoch s.seq c.args.seq c.args.op.now s.attached
    (rw (← c.self.view_is) at c.requires.next) (rw (← c.self.view_is) at c.requires.attached) (c.self.invariant t) (c.in-Err.ensures.sent t) s.seq

pub returns-in-Ok-clause-runs : goal.returns-in-Ok-clause-runs
returns-in-Ok-clause-runs g c =
    let s = c.self.inside in
    let old : Sender g.row.W.Denot = record { wire = s.wire; epoch = s.epoch; seq = s.seq; attached = s.attached; faults = s.faults; refusals = s.refusals } in
    let new : Sender g.row.W.Denot =
    record { wire = c.send.new.wire; epoch = s.epoch; seq = c.args.seq; attached = s.attached; faults = s.faults; refusals = s.refusals } in
    λ t. subst (λ (v : Sender g.row.W.Denot). Follows g.W.Wire.place g.W.Wire.may_bring g.W.Wire.may_answer v new) c.self.view_is
    (ships-follows g.W.Wire.place g.W.Wire.may_bring g.W.Wire.may_answer old new c.args.seq c.args.op.now (c.in-Ok.ensures.sent t)
    (rw (← c.self.view_is) at c.requires.attached) (rw (← c.self.view_is) at c.requires.next) refl refl)

pub returns-clause-runs : goal.returns-clause-runs
returns-clause-runs g c =
    let s = c.self.inside in
    let old : Sender g.row.W.Denot = record { wire = s.wire; epoch = s.epoch; seq = s.seq; attached = s.attached; faults = s.faults; refusals = s.refusals } in
    let new : Sender g.row.W.Denot =
    record { wire = c.send.new.wire; epoch = s.epoch; seq = s.seq; attached = false; faults = s.faults; refusals = s.refusals } in
    λ t. subst (λ (v : Sender g.row.W.Denot). Follows g.W.Wire.place g.W.Wire.may_bring g.W.Wire.may_answer v new) c.self.view_is
    (unshipped-follows g.W.Wire.place g.W.Wire.may_bring g.W.Wire.may_answer old new c.args.seq c.args.op.now None (c.in-Err.ensures.sent t)
    (rw (← c.self.view_is) at c.requires.attached) (rw (← c.self.view_is) at c.requires.next) refl (λ f. absurd (false≢true f)))
