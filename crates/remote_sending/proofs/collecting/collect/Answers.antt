use Rattle.std.proofs.Common.{refl, ◌∙◌}
use Rattle.remote_sending.proofs.Leaves.{all_stand_at, contains_item, grown_end, grown_left, grown_step, none_stand, stand_next, stand_step, told_contains}
use Rattle.remote_sending.proofs.collecting.collect.Goals as goal

pub loop-call-init : goal.loop-call-init
loop-call-init g c = record {
  opened = c.requires;
  told = refl;
  count = refl;
  grown = λ found told executed same h. h;
  stand = none_stand (g.O.Keeper.held c.args.outbox.now);
  good = λ h. h;
}

pub loop-call-preserved : goal.loop-call-preserved
loop-call-preserved g c =
    let before = c.loop-call.invariant in
    let calls = c.args.calls.now in
    let i = c.loop-call.call-index in
    let call = c.call-item.result in
    record {
      opened = c.in_ok-collect_one.ensures.opened;
      told = c.collect_one.ensures.told ∙ before.told;
      count = c.in_ok-collect_one.ensures.cause.quiet ∙ before.count;
      grown = λ found told executed same h.
          grown_step told executed found call _ _ _ c.collect_one.ensures.told c.collect_one.ensures.left (g.met.O.Keeper.held_left c.collect_one.new.outbox)
          (told_contains told calls call same (contains_item calls i call c.loop-call-test.true c.call-item.is)) (before.grown found told executed same h);
      stand = stand_next calls i call _ c.loop-call-test.true c.call-item.is
          (stand_step _ call _ _ _ c.collect_one.ensures.told c.collect_one.ensures.left (g.met.O.Keeper.held_left c.collect_one.new.outbox)
          c.in_ok-collect_one.ensures.stands before.stand);
      good = λ h. c.in_ok-collect_one.ensures.good (before.good h);
    }

pub returns-in_err-collect_one-clause-grown : goal.returns-in_err-collect_one-clause-grown
returns-in_err-collect_one-clause-grown g c = λ found told executed same h left.
    let before = c.loop-call.invariant in
    let calls = c.args.calls.now in
    let call = c.call-item.result in
    grown_left told executed found call _ _ _ left before.told c.collect_one.ensures.left
    (told_contains told calls call same (contains_item calls c.loop-call.call-index call c.loop-call-test.true c.call-item.is))
    (before.grown found told executed same h)

pub returns-clause-grown : goal.returns-clause-grown
returns-clause-grown g c = λ found told executed same h left.
    let before = c.loop-call.invariant in
    grown_end told executed found _ _ _ left before.told (g.met.O.Keeper.settled c.loop-call.outbox before.opened) (before.grown found told executed same h)

pub returns-clause-stand : goal.returns-clause-stand
returns-clause-stand g c = all_stand_at c.args.calls.now c.loop-call.call-index _ c.loop-call-test.false c.loop-call.invariant.stand
