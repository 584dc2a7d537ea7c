use Rattle.std.proofs.Common.{rules, ◌≡◌, ◌<◌, ◌-◌, List, Option, Some, None, ℕ, length, get_or, set, sym, ap, subst, arith, ◌∙◌}
use Rattle.enq_base.specs.declared.owner.UnitKey.{UnitKey}
use Rattle.turn_list.specs.Counts.{IsCounted, IsTurns}
use Rattle.turn_list.proofs.Turned.{turned_clear, one_less, written}
use Rattle.turn_list.proofs.turns.Turns.clear.Goals as goal

pub overflow_sub-self : goal.overflow_sub-self
overflow_sub-self c =
    let slots = c.self.inside.slots.items in
    let unit = c.in-Some-Some.field-0-0 in
    let at : get_or slots c.args.turn None ≡ Some unit = search rules in
    let within : c.args.turn < length slots = search rules in
    let less = one_less slots c.args.turn unit at within in
    omega (arith, c.self.invariant.waiting_is)

pub invariant_of-self : goal.invariant_of-self
invariant_of-self c =
    let slots = c.self.inside.slots.items in
    let counts = c.self.inside.counts.items in
    let turn = c.args.turn in
    let lowered = c.lower_counts.new.counts in
    let unit = c.in-Some-Some.field-0-0 in
    let at : get_or slots c.args.turn None ≡ Some unit = search rules in
    let within : c.args.turn < length slots = search rules in
    let is = c.lower_counts.auto.counts ∙ ap length c.as_mut_slice.ensures.value in
    let len : c.self.inside.counts.len ≡ length counts = search rules in
    let counted : IsCounted (set slots turn None) lowered =
    subst (λ (ts : List (Option UnitKey)). IsCounted (set ts turn None) lowered) c.as_slice.ensures.value c.lower_counts.ensures in
    subst (λ (ns : List ℕ). IsTurns (set slots turn None) ns (c.self.inside.waiting - 1)) (sym (written counts lowered c.self.inside.counts.len is len))
    (turned_clear slots counts lowered c.self.inside.waiting turn unit at within c.self.invariant counted)
