use Rattle.std.proofs.Common.{◌∙◌, ap, sym, nat_eq, true≢false}
use Rattle.std.specs.List.{list_any}
use Rattle.lock_index.specs.Keys.{has_key}
use Rattle.lock_index.specs.Slots.{on_some}
use Rattle.lock_index.proofs.looking.any_of.Goals as goal

pub returns-in-Some-slot-clause-passes : goal.returns-in-Some-slot-clause-passes
returns-in-Some-slot-clause-passes c = λ shown kind.
    sym (ap (on_some (has_key c.args.key.now)) (sym c.in-Some-slot.ensures)) ∙ sym (shown.exact c.args.key.now c.in-Some.place kind)
    ∙ sym (ap (list_any (nat_eq c.in-Some.place)) c.members.ensures.members) ∙ c.in-Some.ensures.some

pub returns-in-None-slot-clause-none : goal.returns-in-None-slot-clause-none
returns-in-None-slot-clause-none c = λ shown kind i.
    absurd (true≢false (sym c.in-Some.ensures.some ∙ ap (list_any (nat_eq c.in-Some.place)) c.members.ensures.members
    ∙ shown.exact c.args.key.now c.in-Some.place kind ∙ ap (on_some (has_key c.args.key.now)) (sym c.in-None-slot.ensures)))

pub returns-in-None-clause-none : goal.returns-in-None-clause-none
returns-in-None-clause-none c = λ shown kind i.
    sym (shown.exact c.args.key.now i kind) ∙ sym (ap (list_any (nat_eq i)) c.members.ensures.members) ∙ ap (list_any (nat_eq i)) c.in-None.ensures.none
