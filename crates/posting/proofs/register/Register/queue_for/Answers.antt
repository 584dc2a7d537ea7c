use Rattle.std.proofs.Common.{ap, sym, ◌∙◌}
use Rattle.enq_base.specs.declared.unit.Status.TheVariants.{Open, Posted}
use Rattle.ledger_steps.specs.declared.part.Part.TheVariants.{V1, V2}
use Rattle.turn_list.specs.Turns.{waiting_in}
use Rattle.posting.specs.Registers.{RegisterView}
use Rattle.ledger_steps.specs.Steps.{waiting_for}
use Rattle.posting.proofs.WaitingTurns.{turns_waiting}
use Rattle.posting.proofs.register.Register.queue_for.Goals as goal

pub returns-in-V1 : goal.returns-in-V1
returns-in-V1 c =
    ap waiting_in c.self.invariant.waits ∙ turns_waiting Open c.self.inside.units.items c.self.inside.marks.items
    ∙ ap (λ (v : RegisterView). waiting_for V1 v.ledger) c.self.view_is ∙ ap (λ p. waiting_for p c.args.self.now.ledger) (sym c.in-V1.is)

pub returns-in-V2 : goal.returns-in-V2
returns-in-V2 c =
    ap waiting_in c.self.invariant.waits_again ∙ turns_waiting Posted c.self.inside.units.items c.self.inside.marks.items
    ∙ ap (λ (v : RegisterView). waiting_for V2 v.ledger) c.self.view_is ∙ ap (λ p. waiting_for p c.args.self.now.ledger) (sym c.in-V2.is)
