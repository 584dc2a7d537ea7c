use Rattle.std.proofs.Common.{◌<◌, ◌+◌, ◌++◌, ◌∷◌, [], List, Option, ℕ, length, sym, ap, subst, arith}
use Rattle.enq_base.specs.declared.owner.UnitKey.{UnitKey}
use Rattle.turn_list.specs.Counts.{IsCounted, IsTurns}
use Rattle.turn_list.specs.Turns.{TurnsView}
use Rattle.turn_list.proofs.Turned.{turned_push, waiting_few, waits_few}
use Rattle.turn_list.proofs.turns.Turns.push.Goals as goal

pub overflow_add-self : goal.overflow_add-self
overflow_add-self c =
    let few = waiting_few c.self.inside.slots.items c.self.inside.counts.items c.self.inside.waiting c.self.invariant in
    let one = waits_few c.args.unit in
    omega (arith, c.waits.ensures)

pub invariant_of-self : goal.invariant_of-self
invariant_of-self c =
    let slots = c.self.inside.slots.items in
    let counts = c.self.inside.counts.items in
    let unit = c.args.unit in
    let count = c.new_count-count.result in
    let few : length slots < 1048576 = subst (λ (ts : List (Option UnitKey)). length ts < 1048576)
    (sym (ap (λ (v : TurnsView). v.turns) c.self.view_is)) c.requires.few in
    let counted : IsCounted (slots ++ unit ∷ []) (counts ++ count ∷ []) =
    subst (λ (ts : List (Option UnitKey)). IsCounted (ts ++ unit ∷ []) (counts ++ count ∷ [])) c.as_slice.ensures.value
    (subst (λ (ns : List ℕ). IsCounted (c.as_slice.result.now ++ unit ∷ []) (ns ++ count ∷ [])) c.as_slice-2.ensures.value c.new_count-count.ensures) in
    subst (λ (ts : List (Option UnitKey)). IsTurns ts c.push_reserved.new.self.items (c.self.inside.waiting + c.waits.result))
    (sym c.push_reserved-2.ensures.items)
    (subst (λ (ns : List ℕ). IsTurns (slots ++ unit ∷ []) ns (c.self.inside.waiting + c.waits.result)) (sym c.push_reserved.ensures.items)
    (turned_push slots unit counts count c.self.inside.waiting c.waits.result few c.self.invariant counted c.waits.ensures))
