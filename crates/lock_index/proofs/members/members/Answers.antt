use Rattle.std.proofs.Common.{◌∙◌, ap, sym, nat_eq, subst}
use Rattle.std.specs.List.{IsDistinct}
use Rattle.std.specs.Option.{option_copied}
use Rattle.lock_index.specs.Members as spec
use Rattle.lock_index.proofs.Numbers.{one-distinct}
use Rattle.lock_index.proofs.members.members.Goals as goal

pub returns-in-Some-clause-members : goal.returns-in-Some-clause-members
returns-in-Some-clause-members c =
    c.from_ref.ensures.value
    ∙ ap (λ o. spec.alone_or o (spec.set_members c.args.map.now.sets c.args.key.now)) (sym (ap option_copied c.in-Some.is) ∙ c.get.ensures.value)

pub returns-in-Some-clause-distinct : goal.returns-in-Some-clause-distinct
returns-in-Some-clause-distinct c = subst (IsDistinct nat_eq) (sym c.from_ref.ensures.value) (one-distinct c.in-Some.number.now)

pub returns-in-None-clause-members : goal.returns-in-None-clause-members
returns-in-None-clause-members c =
    c.set_members.ensures.members
    ∙ ap (λ o. spec.alone_or o (spec.set_members c.args.map.now.sets c.args.key.now)) (sym (ap option_copied c.in-None.is) ∙ c.get.ensures.value)
