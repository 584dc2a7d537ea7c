use Rattle.std.proofs.Common.{sym, subst}
use Rattle.backup_file.specs.Lists.{AreUnits, after}
use Rattle.backup_file.proofs.lemmas.Units.{units-free, units-hand}
use Rattle.backup_file.proofs.lists.follow.Goals as goal

pub returns-in_ok-add-in-Hand : goal.returns-in_ok-add-in-Hand
returns-in_ok-add-in-Hand c = λ l are.
    subst (λ s. AreUnits c.add.new.units.keys (after l s)) (sym c.in-Hand.is)
    (units-hand c.args.units.now.keys c.add.new.units.keys l c.in-Hand.handed are c.in_ok-add-in-Hand.ensures)

pub returns-in-Free : goal.returns-in-Free
returns-in-Free c = λ l are.
    subst (λ s. AreUnits c.forget.new.units.keys (after l s)) (sym c.in-Free.is)
    (units-free c.args.units.now.keys c.forget.new.units.keys l c.in-Free.unit are c.forget.ensures)
