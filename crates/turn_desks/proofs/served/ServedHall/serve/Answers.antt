use Rattle.std.proofs.Common.{ap, ◌∙◌}
use Rattle.std.proofs.Math.Logic.{∥∥₁_map}
use Rattle.hall_model.specs.Unsound.{is_unsound_file, is_unsound_replica, is_unsound_store}
use Rattle.script_runner.proofs.lemmas.GoodFiles.{step_sound, told_honest}
use Rattle.script_runner.proofs.lemmas.Kept.{later_counts, linked_call}
use Rattle.order_laws.specs.Behind.{is_up}
use Rattle.turn_desks.specs.Led.{counts_of}
use Rattle.turn_desks.proofs.Led.{CallCounts, begun_is_prefix, desk_step, led_call}
use Rattle.turn_desks.proofs.Ups.{up_step}
use Rattle.turn_desks.proofs.served.ServedHall.serve.Goals as goal

pub serve_worked-reply-requires : goal.serve_worked-reply-requires
serve_worked-reply-requires g c = c.requires.may

pub invariant_of-self : goal.invariant_of-self
invariant_of-self g c =
    let was = c.args.self.now in
    let old = was.hall in
    let new = c.serve_worked-reply.new.self in
    let call = c.serve_worked-reply.ensures in
    let reply = c.serve_worked-reply.result in
    let n = c.args.line in
    let cmd = c.args.command in
    let faults = g.L.Link.faults in
    let refusals = g.L.Link.refusals in
    let now = counts_of g.K.Keeper.faults g.D.Disk.faults faults refusals old.keeper old.file.disk old.replica.link in
    let next = counts_of g.K.Keeper.faults g.D.Disk.faults faults refusals new.keeper new.file.disk new.replica.link in
    let later = later_counts g.L.Link.applied faults refusals old.replica new.replica call.link in
    let counts : CallCounts g.J.Origin.told g.D.Disk.tells g.J.Origin.linked old.state new.state now next reply = record {
      store = call.cause;
      file = call.file_cause;
      link = linked_call old.state new.state n cmd reply now.link next.link call.step later call.link_cause call.lost;
      good_file = λ on yes none. step_sound is_unsound_file old.state new.state n cmd reply call.step
          (call.good_file yes (told_honest old.state (call.linked ∙ was.linked ∙ on))) none;
      good_store = λ yes none. step_sound is_unsound_store old.state new.state n cmd reply call.step (call.good_store (was.told ∙ yes)) none;
      good_replica = λ yes none. step_sound is_unsound_replica old.state new.state n cmd reply call.step (call.good_replica (was.linked ∙ yes)) none;
    } in
    record {
      told = call.told ∙ was.told;
      linked = call.link.told ∙ was.linked;
      up = up_step old.state new.state n cmd reply call.step was.up;
      led = ∥∥₁_map was.led
          (led_call g.J.Origin.told g.D.Disk.tells g.J.Origin.linked g.J.Origin.first g.J.Origin.counts
          old.state new.state now next n cmd reply call.step counts);
    }

pub returns-clause-told : goal.returns-clause-told
returns-clause-told g c = desk_step _ _ _ _ _ c.serve_worked-reply.ensures.step

pub returns-clause-grows : goal.returns-clause-grows
returns-clause-grows g c = begun_is_prefix _ _ c.serve_worked-reply.ensures.begun

pub returns-clause-up : goal.returns-clause-up
returns-clause-up g c =
    let old = c.args.self.now.hall in
    let new = c.serve_worked-reply.new.self in
    c.is_up-is_up.ensures
    ∙ (ap is_up c.condition.ensures ∙ up_step old.state new.state c.args.line c.args.command c.serve_worked-reply.result c.serve_worked-reply.ensures.step
    c.args.self.now.up)

pub returns-clause-full : goal.returns-clause-full
returns-clause-full g c = c.histories_end.ensures.full _ _ _ _ _ c.serve_worked-reply.ensures.step

pub returns-clause-posts : goal.returns-clause-posts
returns-clause-posts g c = c.posts_are_not_idle.ensures.posts _ _ _ _ _ c.serve_worked-reply.ensures.step
