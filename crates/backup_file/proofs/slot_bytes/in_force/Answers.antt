use Rattle.backup_file.proofs.SlotBytes.{undecided}
use Rattle.backup_file.proofs.slot_bytes.in_force.Goals as goal

pub returns-then-leads_over-clause-some : goal.returns-then-leads_over-clause-some
returns-then-leads_over-clause-some c =
    let leads = c.leads_over.ensures.0 c.if-leads_over.true in record { opened = leads.0; newest = leads.1 }

pub returns-then-leads_over-2-clause-some : goal.returns-then-leads_over-2-clause-some
returns-then-leads_over-2-clause-some c =
    let leads = c.leads_over-2.ensures.0 c.if-leads_over-2.true in record { opened = leads.0; newest = leads.1 }

pub returns-clause-none : goal.returns-clause-none
returns-clause-none c =
    undecided c.args.slots.now (λ leads. let yes = c.leads_over.ensures.1 leads in let no = c.if-leads_over.false in cc)
    (λ leads. let yes = c.leads_over-2.ensures.1 leads in let no = c.if-leads_over-2.false in cc)
