use Rattle.std.proofs.Common.{◌≡◌, sym, ap, ◌∙◌}
use Rattle.module_effects.specs.Spots.{with_spots}
use Rattle.update_records.specs.Ledger.{Ledger}
use Rattle.ledger_steps.specs.Steps.{after_step}
use Rattle.posting.specs.Mirrors.{business, MirrorView}
use Rattle.posting.proofs.mirror.Mirror.add.Goals as goal

pub invariant_of-self : goal.invariant_of-self
invariant_of-self c =
    let rows = c.args.rows.items in
    let was : c.self.inside.register.ledger ≡ c.args.self.now.ledger = ap (λ (v : MirrorView). v.ledger) c.self.view_is in
    c.put_all.ensures
    ∙ ap (with_spots rows) c.self.invariant
    ∙ ap (λ (l : Ledger). with_spots rows (business l)) was
    ∙ sym c.requires.leaves
    ∙ ap (λ (l : Ledger). business (after_step l c.args.step)) (sym was)
    ∙ ap business (sym c.add.ensures)

pub returns : goal.returns
returns c = c.add.ensures ∙ ap (λ (v : MirrorView). after_step v.ledger c.args.step) c.self.view_is
