use Rattle.std.proofs.Common.{◌≡◌, sym, ap, ◌∙◌, arith, ◌<◌, length}
use Rattle.posting.specs.Registers.{RegisterView}
use Rattle.posting.proofs.RegisterAgrees.{noted_anew, in_range, turn_left}
use Rattle.posting.proofs.register.Register.note.Goals as goal

pub index-requires : goal.index-requires
index-requires c =
    let within : c.in-Some.before.place < length c.self.inside.units.items =
    in_range c.self.inside.units.items c.self.inside.standings c.args.key c.in-Some.before c.self.invariant.placed
    (sym c.standing_of.ensures ∙ c.in-Some.is) in
    omega (arith, c.self.inside.units.ok.0)

pub take_turn-requires-clause-few : goal.take_turn-requires-clause-few
take_turn-requires-clause-few c =
    (turn_left c.self.inside.start c.self.inside.units.items c.self.inside.marks.items c.self.inside.v1_queue.turns c.self.inside.v2_queue.turns
    c.self.inside.standings c.self.inside.numbers _ c.args.self.now.ledger
    (ap (λ (v : RegisterView). v.ledger) c.self.view_is) c.self.invariant c.requires.step.0).0

pub take_turn-requires-2-clause-few : goal.take_turn-requires-2-clause-few
take_turn-requires-2-clause-few c =
    (turn_left c.self.inside.start c.self.inside.units.items c.self.inside.marks.items c.self.inside.v1_queue.turns c.self.inside.v2_queue.turns
    c.self.inside.standings c.self.inside.numbers _ c.args.self.now.ledger
    (ap (λ (v : RegisterView). v.ledger) c.self.view_is) c.self.invariant c.requires.step.0).1

pub invariant_of-self : goal.invariant_of-self
invariant_of-self c =
    let turn : c.len.result ≡ length c.self.inside.marks.items = omega (arith, c.self.inside.marks.ok.0) in
    noted_anew c.self.inside.start c.self.inside.units.items c.self.inside.marks.items c.self.inside.v1_queue.turns c.self.inside.v2_queue.turns
    c.self.inside.standings c.set_standing.new.standings c.index.result.now c.args.key c.args.kind c.in-Some.before _ c.self.inside.numbers _
    c.args.self.now.ledger
    _ _ _ _ _ _ _ _ _ (ap (λ (v : RegisterView). v.ledger) c.self.view_is) c.self.invariant c.requires.step c.in-Some.is c.standing_of.ensures c.index.ensures
    c.status_after-status.ensures c.error_after.ensures c.is_open.ensures c.is_posted.ensures
    c.set_standing.ensures turn c.push_mark.ensures c.take_turn.ensures c.take_turn-2.ensures
