use Rattle.std.proofs.Common.{◌∙◌, ◌<◌, ◌^◌, List, ap, length, subst}
use Rattle.lock_entry.specs.declared.entry.Asked.{Asked}
use Rattle.coverage.specs.Lacks.{Standing}
use Rattle.coverage.specs.Tallies.{all_turned}
use Rattle.coverage.specs.Walked.{followed, wish_in}
use Rattle.coverage.proofs.Tallied.{follows, vec_fits}
use Rattle.coverage.proofs.session.Session.follow.Goals as goal

pub invariant_of-result : goal.invariant_of-result
invariant_of-result c =
    let os = c.args.objects.now in
    let l = c.args.line.now in
    let st = c.self.inside.holding in
    let ts = c.self.inside.tallies.items in
    let moved = c.in_ok-moved.moved.items in
    let ends = c.ends_unit-ends.result in
    (follows os st l moved ts c.self.invariant c.args.place (wish_in os (c.args.number, l)) ends c.follow.new.self c.turn_tallies.new.tallies.items
    c.add_tally.new.tallies.items
    c.ends_unit-ends.ensures c.in_ok-moved.ensures.after c.in_ok-moved.ensures.moved
    (subst (λ (x : Standing). length x.held < 2 ^ 63) c.holding.view_is (vec_fits c.holding.inside.held))
    (subst (λ (x : Standing). length x.container < 2 ^ 63) c.holding.view_is (vec_fits c.holding.inside.container))
    (c.turn_tallies.ensures ∙ ap (λ (m : List Asked). all_turned ends l m ts) c.as_slice.ensures.value)
    c.in_ok-add_tally.ensures).good

pub returns : goal.returns
returns c =
    let os = c.args.objects.now in
    let l = c.args.line.now in
    let st = c.self.inside.holding in
    let ts = c.self.inside.tallies.items in
    let moved = c.in_ok-moved.moved.items in
    let ends = c.ends_unit-ends.result in
    let wish = wish_in os (c.args.number, l) in
    (follows os st l moved ts c.self.invariant c.args.place wish ends c.follow.new.self c.turn_tallies.new.tallies.items c.add_tally.new.tallies.items
    c.ends_unit-ends.ensures c.in_ok-moved.ensures.after c.in_ok-moved.ensures.moved
    (subst (λ (x : Standing). length x.held < 2 ^ 63) c.holding.view_is (vec_fits c.holding.inside.held))
    (subst (λ (x : Standing). length x.container < 2 ^ 63) c.holding.view_is (vec_fits c.holding.inside.container))
    (c.turn_tallies.ensures ∙ ap (λ (m : List Asked). all_turned ends l m ts) c.as_slice.ensures.value)
    c.in_ok-add_tally.ensures).is
    ∙ ap (followed os c.args.place wish l) c.self.view_is
