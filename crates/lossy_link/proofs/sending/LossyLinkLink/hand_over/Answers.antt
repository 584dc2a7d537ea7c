use Rattle.std.proofs.Common.{refl, subst}
use Rattle.replica_link.specs.declared.fault.LinkFault.TheVariants as fault
use Rattle.lossy_link.specs.Runs.{Follows}
use Rattle.lossy_link.specs.Wiring.{Sender}
use Rattle.lossy_link.proofs.Follow.{rests, recounted, lost-after}
use Rattle.lossy_link.proofs.sending.LossyLinkLink.hand_over.Goals as goal

pub returns-else-ack-self-2-clause-runs : goal.returns-else-ack-self-2-clause-runs
returns-else-ack-self-2-clause-runs g c =
    let s = c.self.inside in
    let old : Sender g.row.W.Denot = record { wire = s.wire; epoch = s.epoch; seq = s.seq; attached = s.attached; faults = s.faults; refusals = s.refusals } in
    let mid : Sender g.row.W.Denot =
    record { wire = c.fetch.new.self; epoch = s.epoch; seq = s.seq; attached = s.attached; faults = s.faults; refusals = s.refusals } in
    λ t. subst (λ (v : Sender g.row.W.Denot). Follows g.W.Wire.place g.W.Wire.may_bring g.W.Wire.may_answer v mid) c.self.view_is
    (rests g.W.Wire.place g.W.Wire.may_bring g.W.Wire.may_answer old mid refl c.fetch.ensures.stays (c.fetch.ensures.brings t) (c.fetch.ensures.answers t)
    (λ e. (e, refl)))

pub returns-in-Err-Failed-clause-runs : goal.returns-in-Err-Failed-clause-runs
returns-in-Err-Failed-clause-runs g c =
    let s = c.self.inside in
    let old : Sender g.row.W.Denot = record { wire = s.wire; epoch = s.epoch; seq = s.seq; attached = s.attached; faults = s.faults; refusals = s.refusals } in
    let mid : Sender g.row.W.Denot =
    record { wire = c.fetch.new.self; epoch = s.epoch; seq = s.seq; attached = s.attached; faults = s.faults; refusals = s.refusals } in
    λ t. subst (λ (v : Sender g.row.W.Denot). Follows g.W.Wire.place g.W.Wire.may_bring g.W.Wire.may_answer v c.lose-in-Err-Failed.new.self) c.self.view_is
    (lost-after g.W.Wire.place g.W.Wire.may_bring g.W.Wire.may_answer old mid c.lose-in-Err-Failed.new.self fault.Failed c.lose-in-Err-Failed.ensures.lost
    (rests g.W.Wire.place g.W.Wire.may_bring g.W.Wire.may_answer old mid refl c.fetch.ensures.stays (c.fetch.ensures.brings t) (c.fetch.ensures.answers t)
    (λ e. (e, refl))))

pub returns-in-Err-NoMemory-clause-runs : goal.returns-in-Err-NoMemory-clause-runs
returns-in-Err-NoMemory-clause-runs g c =
    let s = c.self.inside in
    let old : Sender g.row.W.Denot = record { wire = s.wire; epoch = s.epoch; seq = s.seq; attached = s.attached; faults = s.faults; refusals = s.refusals } in
    let mid : Sender g.row.W.Denot =
    record { wire = c.fetch.new.self; epoch = s.epoch; seq = s.seq; attached = s.attached; faults = s.faults; refusals = s.refusals } in
    λ t. subst (λ (v : Sender g.row.W.Denot). Follows g.W.Wire.place g.W.Wire.may_bring g.W.Wire.may_answer v c.count.new.self) c.self.view_is
    (recounted g.W.Wire.place g.W.Wire.may_bring g.W.Wire.may_answer old mid c.count.new.self fault.NoMemory c.count.ensures.counted
    (rests g.W.Wire.place g.W.Wire.may_bring g.W.Wire.may_answer old mid refl c.fetch.ensures.stays (c.fetch.ensures.brings t) (c.fetch.ensures.answers t)
    (λ e. (e, refl))))
