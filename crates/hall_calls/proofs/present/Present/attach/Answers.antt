use Rattle.std.proofs.Common.{◌∙◌, Err, false, refl, sym, ap, subst}
use Rattle.enq_base.specs.declared.refusal.Refusal.TheVariants as refusal
use Rattle.hall_calls.proofs.ending.OverFields.{seen, state_in, up}
use Rattle.hall_calls.proofs.ending.PresentCalls.{finds_up, present_locked}
use Rattle.hall_calls.proofs.replica.Handovers.{attach_fails, attach_wanting, attaches}
use Rattle.hall_calls.proofs.verdicts.EachCall.{at_state}
use Rattle.hall_calls.specs.Serving.{HasLinkCause, IsDue, Serves}
use Rattle.hall_calls.specs.View.{View}
use Rattle.hall_model.specs.Acts.{Admits, IsAct}
use Rattle.hall_model.specs.State.{State, is_up}
use Rattle.hall_model.specs.Step.{attached, detached}
use Rattle.hall_model.specs.declared.command.Command.TheVariants as command
use Rattle.hall_model.specs.declared.command.Reply.{Reply}
use Rattle.hall_model.specs.declared.command.Reply.TheVariants as reply
use Rattle.hall_calls.proofs.present.Present.attach.Goals as goal
use Rattle.hall_calls.proofs.present.Present.attach.Goals.{in-Ok, in-Err-Failed, in-Err-NoMemory}

pub attach-requires : goal.attach-requires
attach-requires g c =
    record { stands = c.self.invariant.stands ∙ ap is_up (finds_up g.K.Keeper.held g.L.Link.applied c.self.inside c.self.view_is c.requires refl) }

pub invariant_of-self : goal.invariant_of-self
invariant_of-self g c =
    present_locked c.attach.new.self c.self.invariant c.attach.ensures.file
    (c.attach.ensures.standing
    ∙ sym (c.self.invariant.stands ∙ ap is_up (finds_up g.K.Keeper.held g.L.Link.applied c.self.inside c.self.view_is c.requires refl)))

pub returns : goal.returns
returns g c =
    let old = c.self.inside in
    let past = c.args.past.now.items in
    let called = c.attach in
    let new = called.new.self in
    let held = g.K.Keeper.held in
    let applied = g.L.Link.applied in
    let after = record old { locks = new } in
    let does : View g.row.K.Denot g.row.D.Denot g.row.L.Denot → View g.row.K.Denot g.row.D.Denot g.row.L.Denot → Reply → Type 0 = λ v w r.
    Serves held g.K.Keeper.may_leave g.K.Keeper.faults g.D.Disk.faults g.L.Link.gives applied g.L.Link.faults g.L.Link.refusals v w past command.Attach r in
    let on = finds_up held applied old c.self.view_is c.requires refl in
    let due = subst (λ (v : View g.row.K.Denot g.row.D.Denot g.row.L.Denot). IsDue v.state past command.Attach) (sym c.self.view_is) c.requires in
    let s : State = state_in held applied (up old) past in
    let later : State = state_in held applied (up after) past in
    let room : Admits s command.Attach = subst (λ k. Admits (state_in held applied (record old { condition = k }) past) command.Attach) on due.admits in
    let table = sym called.ensures.table in
    let links = sym called.ensures.later.told in
    let serves : (r : Reply) → IsAct s command.Attach later r → HasLinkCause (g.L.Link.faults old.locks.replica.link) (g.L.Link.faults new.replica.link) r
    → does c.args.self.now (seen held applied after) r =
    λ r act cause.
    subst (λ v. does v (seen held applied after) r) c.self.view_is
    (subst (λ k. does (seen held applied (record old { condition = k })) (seen held applied (record after { condition = k })) r) (sym on)
    (record { call = act; store = refl; file = called.ensures.file; replica = called.ensures.later; over = tt; link = cause })) in
    elim c.match-attach.branch [
      | in-Ok w ↦
          rw w.result-is
          (serves reply.Done
          (at_state s command.Attach (attached s) later reply.Done
          (λ i. record later { locks = (table i).entries; limit = (table i).limit; attached = sym w.in-Ok.ensures.attached i; link_told = links i })
          (attaches s room))
          tt)
      | in-Err-Failed w ↦
          rw w.result-is
          (serves (reply.Refused refusal.LinkFault)
          (at_state s command.Attach (detached s) later (reply.Refused refusal.LinkFault)
          (λ i. record later { locks = (table i).entries; limit = (table i).limit; attached = sym w.in-Err-Failed.ensures.detached i; link_told = links i })
          (attach_fails s room))
          (w.in-Err-Failed.ensures.failed (ap Err w.in-Err-Failed.field-0-is)))
      | in-Err-NoMemory w ↦
          rw w.result-is
          (serves (reply.Refused refusal.NoMemory)
          (at_state s command.Attach (record s { attached = false }) later (reply.Refused refusal.NoMemory)
          (λ i. record later { locks = (table i).entries; limit = (table i).limit; attached = sym w.in-Err-NoMemory.ensures.detached i; link_told = links i })
          (attach_wanting s room))
          tt)
    ]
