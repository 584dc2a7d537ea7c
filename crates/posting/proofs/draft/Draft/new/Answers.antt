use Rattle.std.proofs.Common.{◌∙◌}
use Rattle.posting.proofs.WorkedParts.{drafted}
use Rattle.posting.proofs.draft.Draft.new.Goals as goal

pub invariant_of-result : goal.invariant_of-result
invariant_of-result c =
    let touched = c.in_ok-touched.ensures in
    (drafted c.args.unit.now c.args.effects.now c.from_vec.result c.args.rows.now.tables c.in_ok-touched.touched.items c.from_vec-2.result
    (c.from_vec.ensures ∙ c.in_ok-part.ensures) c.from_vec-2.ensures touched.covers touched.once touched.present).touched

pub returns : goal.returns
returns c =
    let touched = c.in_ok-touched.ensures in
    drafted c.args.unit.now c.args.effects.now c.from_vec.result c.args.rows.now.tables c.in_ok-touched.touched.items c.from_vec-2.result
    (c.from_vec.ensures ∙ c.in_ok-part.ensures) c.from_vec-2.ensures touched.covers touched.once touched.present
