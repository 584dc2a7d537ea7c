use Rattle.std.proofs.Common.{◌≡◌, ℕ, ◌<◌, List, arith, ap, sym, ◌∙◌, subst, length, map, reverse}
use Rattle.std.proofs.lemmas.List.{reverse-reverse}
use Rattle.std.specs.Prelude.{slice_index_or}
use Rattle.std.specs.List.{AllByRecursion}
use Rattle.actor_threads.specs.Working.{AllSeats, IsFresh}
use Rattle.actor_threads.specs.declared.actor.Actor.{Actor}
use Rattle.actor_threads.specs.declared.actor.Deed.{Deed}
use Rattle.hall_model.specs.declared.command.Who.{Who}
use Rattle.ledger_steps.specs.Levels.{intervals_of}
use Rattle.number_ranges.specs.declared.interval.Interval.{Interval}
use Rattle.script_actors.specs.Actors.{land_of}
use Rattle.thread_runner.specs.Hiring.{AreHired, HasGathered, IsLong, glance_of}
use Rattle.turn_lock.specs.Passes.{known}
use Rattle.turn_lock.specs.Rule.{own_entries}
use Rattle.thread_runner.proofs.Crews.{hired_fresh, hired_length, whos_length}
use Rattle.thread_runner.proofs.Hired.{AllWorked, gathered_by, long_by, worked_by}
use Rattle.thread_runner.proofs.Refilled.{refilled}
use Rattle.thread_runner.proofs.Shown.{turned_back}
use Rattle.thread_runner.proofs.running.work_in_turn.Goals as goal

pub work_all-requires-clause-some : goal.work_all-requires-clause-some
work_all-requires-clause-some g c κs within =
    let common = c.args.common.now in
    let callers : List Who = map (λ k. k.who) c.args.kits.items in
    let count =
    hired_length g.S.Serving.stocks g.N.LockName.intervals common.lines.now callers c.hire_all-pass.result.1.items c.hire_all-pass.ensures.hired in
    let whos : length callers ≡ length c.args.kits.items = whos_length (λ k. k.who) c.args.kits.items in
    let lent = ap length c.as_mut_slice.ensures.value in
    let some = c.requires.some in
    omega (arith, count, whos, lent, some)

pub work_all-requires-clause-fresh : goal.work_all-requires-clause-fresh
work_all-requires-clause-fresh g c κs within =
    let X : Type 0 = Actor g.row.N.Denot g.row.S.Denot g.row.R.Denot g.row.G.Denot g.N.LockName g.S.Serving g.S.History in
    let common = c.args.common.now in
    let stocks = g.S.Serving.stocks in
    let intervals = g.N.LockName.intervals in
    let callers : List Who = map (λ k. k.who) c.args.kits.items in
    let lent : List X = c.as_mut_slice.result.now in
    subst (λ (is : List Interval). (i : ℕ) (d : X) → i < length lent → IsFresh stocks is common.lines.now (slice_index_or lent i d)) c.requires.intervals
    (hired_fresh stocks intervals common.lines.now callers lent
    (subst (AreHired stocks intervals common.lines.now callers) (sym c.as_mut_slice.ensures.value) c.hire_all-pass.ensures.hired))

pub gather-pass-requires-clause-room : goal.gather-pass-requires-clause-room
gather-pass-requires-clause-room g c =
    let common = c.args.common.now in
    let callers : List Who = map (λ k. k.who) c.args.kits.items in
    let ran = c.work_all.new.actors in
    let was = c.hire_all-pass.result.1.items in
    let long = c.work_all.auto.actors ∙ c.as_mut_slice.ensures.len in
    let same = ap length (refilled c.hire_all-pass.result.1.len ran was long) in
    let count = hired_length g.S.Serving.stocks g.N.LockName.intervals common.lines.now callers was c.hire_all-pass.ensures.hired in
    let whos : length callers ≡ length c.args.kits.items = whos_length (λ k. k.who) c.args.kits.items in
    let lent = ap length c.as_mut_slice.ensures.value in
    let ran_long = c.work_all.auto.actors in
    let room = c.requires.room.1 in
    let place = c.requires.room.2 in
    let space = c.requires.room.3 in (
      omega (arith, same, count, whos, lent, ran_long, room),
      omega (arith, same, count, whos, lent, ran_long, place),
      omega (arith, same, count, whos, lent, ran_long, space),
    )

pub returns-clause-whole : goal.returns-clause-whole
returns-clause-whole g c =
    let common = c.args.common.now in
    let callers : List Who = map (λ k. k.who) c.args.kits.items in
    let ran = c.work_all.new.actors in
    let was = c.hire_all-pass.result.1.items in
    let long = c.work_all.auto.actors ∙ c.as_mut_slice.ensures.len in
    let same = ap length (refilled c.hire_all-pass.result.1.len ran was long) in
    let count = hired_length g.S.Serving.stocks g.N.LockName.intervals common.lines.now callers was c.hire_all-pass.ensures.hired in
    let whos : length callers ≡ length c.args.kits.items = whos_length (λ k. k.who) c.args.kits.items in
    let lent = ap length c.as_mut_slice.ensures.value in
    let ran_long = c.work_all.auto.actors in
    let one = c.hire_all-pass.ensures.parts in
    let all = c.gather-pass.ensures.parts in
    omega (arith, same, count, whos, lent, ran_long, one, all)

pub returns-clause-gathered : goal.returns-clause-gathered
returns-clause-gathered g c =
    let X : Type 0 = Actor g.row.N.Denot g.row.S.Denot g.row.R.Denot g.row.G.Denot g.N.LockName g.S.Serving g.S.History in
    let past = g.S.History.past in
    let common = c.args.common.now in
    let stocks = g.S.Serving.stocks in
    let intervals = g.N.LockName.intervals in
    let objects = common.objects.now in
    let lines = common.lines.now in
    let land = land_of objects (intervals_of common.ranges.now) in
    let callers : List Who = map (λ k. k.who) c.args.kits.items in
    let lent : List X = c.as_mut_slice.result.now in
    let ran : List X = c.work_all.new.actors in
    let was : List X = c.hire_all-pass.result.1.items in
    let hired : AreHired stocks intervals lines callers lent =
    subst (AreHired stocks intervals lines callers) (sym c.as_mut_slice.ensures.value) c.hire_all-pass.ensures.hired in
    let long = c.work_all.auto.actors ∙ c.as_mut_slice.ensures.len in
    let back = refilled c.hire_all-pass.result.1.len ran was long in
    let worked : AllWorked past land lines lent ran = worked_by past land lines lent ran c.work_all.auto.actors c.work_all.ensures.did in
    let pass = known c.gather-pass.result.0 in
    let gathered : List Deed = c.gather-pass.result.1.deeds.items in
    let turned = c.reverse.new.self in
    let order = refilled c.gather-pass.result.1.deeds.len turned gathered (c.reverse.auto.self ∙ c.as_mut_slice-2.ensures.len)
    ∙ (c.reverse.ensures.after ∙ ap reverse c.as_mut_slice-2.ensures.value) in
    subst (λ ds. ∥ HasGathered past (land_of objects intervals) lines callers pass ds ∥₁) (sym order)
    (subst (λ (is : List Interval). ∥ HasGathered past (land_of objects is) lines callers pass (reverse gathered) ∥₁) (sym c.requires.intervals)
    (gathered_by past land lines stocks intervals callers lent _ (own_entries (known c.hire_all-pass.result.0)) pass gathered hired
    (subst (AllWorked past land lines lent) (sym back) worked)
    (ap (λ own. own_entries (record (known c.hire_all-pass.result.0) { own = own })) c.hire_all-pass.ensures.fresh)
    c.gather-pass.ensures.entries c.gather-pass.ensures.seen c.gather-pass.ensures.stand c.gather-pass.ensures.deeds))

pub returns-clause-long : goal.returns-clause-long
returns-clause-long g c =
    let past = g.S.History.past in
    let common = c.args.common.now in
    let pass = known c.gather-pass.result.0 in
    let gathered : List Deed = c.gather-pass.result.1.deeds.items in
    let turned = c.reverse.new.self in
    let order = refilled c.gather-pass.result.1.deeds.len turned gathered (c.reverse.auto.self ∙ c.as_mut_slice-2.ensures.len)
    ∙ (c.reverse.ensures.after ∙ ap reverse c.as_mut_slice-2.ensures.value) in
    subst (AllByRecursion (IsLong pass.seen)) (sym order)
    (long_by past (land_of common.objects.now g.N.LockName.intervals) common.lines.now _ pass.seen gathered c.gather-pass.ensures.seen
    c.gather-pass.ensures.deeds)

pub returns-clause-glances : goal.returns-clause-glances
returns-clause-glances g c =
    let gathered : List Deed = c.gather-pass.result.1.deeds.items in
    let turned = c.reverse.new.self in
    let order = refilled c.gather-pass.result.1.deeds.len turned gathered (c.reverse.auto.self ∙ c.as_mut_slice-2.ensures.len)
    ∙ (c.reverse.ensures.after ∙ ap reverse c.as_mut_slice-2.ensures.value) in
    ap (λ (ds : List Deed). reverse (map glance_of ds)) order ∙ turned_back glance_of gathered ∙ c.gather-pass.ensures.glances

pub returns-clause-seats : goal.returns-clause-seats
returns-clause-seats g c =
    let gathered : List Deed = c.gather-pass.result.1.deeds.items in
    let turned = c.reverse.new.self in
    let order = refilled c.gather-pass.result.1.deeds.len turned gathered (c.reverse.auto.self ∙ c.as_mut_slice-2.ensures.len)
    ∙ (c.reverse.ensures.after ∙ ap reverse c.as_mut_slice-2.ensures.value) in
    subst (λ ds. AllSeats g.S.Serving.stocks ds (map (λ v. v.items) c.gather-pass.result.1.seats.items)) (sym (ap reverse order ∙ reverse-reverse gathered))
    c.gather-pass.ensures.seats
