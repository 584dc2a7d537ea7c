use Rattle.std.proofs.Common.{◌≡◌, length, ap, arith, rules}
use Rattle.posting.specs.Registers.{RegisterView}
use Rattle.posting.proofs.RegisterAgrees.{recorded_anew, turn_left}
use Rattle.posting.proofs.register.Register.record.Goals as goal

pub push-requires-clause-few : goal.push-requires-clause-few
push-requires-clause-few c =
    (turn_left c.self.inside.start c.self.inside.units.items c.self.inside.marks.items c.self.inside.v1_queue.turns c.self.inside.v2_queue.turns
    c.self.inside.standings c.self.inside.numbers _ c.args.self.now.ledger
    (ap (λ (v : RegisterView). v.ledger) c.self.view_is) c.self.invariant c.requires.step.0).0

pub pass_turn-requires-clause-few : goal.pass_turn-requires-clause-few
pass_turn-requires-clause-few c =
    (turn_left c.self.inside.start c.self.inside.units.items c.self.inside.marks.items c.self.inside.v1_queue.turns c.self.inside.v2_queue.turns
    c.self.inside.standings c.self.inside.numbers _ c.args.self.now.ledger
    (ap (λ (v : RegisterView). v.ledger) c.self.view_is) c.self.invariant c.requires.step.0).1

pub invariant_of-self : goal.invariant_of-self
invariant_of-self c =
    let place : c.len.result ≡ length c.self.inside.units.items = omega (arith, c.self.inside.units.ok.0) in
    let turn : c.len-2.result ≡ length c.self.inside.marks.items = omega (arith, c.self.inside.marks.ok.0) in
    recorded_anew c.self.inside.start c.self.inside.units.items c.self.inside.marks.items c.self.inside.v1_queue.turns c.self.inside.v2_queue.turns
    c.self.inside.standings c.set_standing.new.standings c.args.unit _ c.self.inside.numbers _ _ c.args.self.now.ledger
    _ _ _ _ _ _ (ap (λ (v : RegisterView). v.ledger) c.self.view_is) c.self.invariant c.requires.step
    c.set_standing.ensures place turn c.push_reserved.ensures.items c.push_mark.ensures c.push.ensures c.pass_turn.ensures (search rules)
