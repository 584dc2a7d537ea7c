use Rattle.std.proofs.Common.{◌+◌, length, ap}
use Rattle.posting.specs.Registers.{RegisterView}
use Rattle.posting.proofs.RegisterAgrees.{drawn_anew, turn_left}
use Rattle.posting.proofs.register.Register.draw.Goals as goal

pub pass_turn-requires-clause-few : goal.pass_turn-requires-clause-few
pass_turn-requires-clause-few c =
    (turn_left c.self.inside.start c.self.inside.units.items c.self.inside.marks.items c.self.inside.v1_queue.turns c.self.inside.v2_queue.turns
    c.self.inside.standings c.self.inside.numbers _ c.args.self.now.ledger
    (ap (λ (v : RegisterView). v.ledger) c.self.view_is) c.self.invariant c.requires.step.0).0

pub pass_turn-requires-2-clause-few : goal.pass_turn-requires-2-clause-few
pass_turn-requires-2-clause-few c =
    (turn_left c.self.inside.start c.self.inside.units.items c.self.inside.marks.items c.self.inside.v1_queue.turns c.self.inside.v2_queue.turns
    c.self.inside.standings c.self.inside.numbers _ c.args.self.now.ledger
    (ap (λ (v : RegisterView). v.ledger) c.self.view_is) c.self.invariant c.requires.step.0).1

pub invariant_of-self : goal.invariant_of-self
invariant_of-self c =
    drawn_anew c.self.inside.start c.self.inside.units.items c.self.inside.marks.items c.push_mark.new.marks.items c.self.inside.v1_queue.turns
    c.self.inside.v2_queue.turns c.self.inside.standings c.args.key c.args.numbers _ c.self.inside.numbers _ _ c.args.self.now.ledger
    _ _ (ap (λ (v : RegisterView). v.ledger) c.self.view_is) c.self.invariant c.requires.step c.push_mark.ensures c.pass_turn.ensures c.pass_turn-2.ensures
    (ap (λ ns. c.self.inside.numbers + length ns) c.as_slice.ensures)
