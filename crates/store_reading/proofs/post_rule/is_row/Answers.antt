use Rattle.std.proofs.Common.{ap, ◌∙◌}
use Rattle.std.specs.Ordering.{eq_by_cmp}
use Rattle.std.specs.Str.{bytes_eq}
use Rattle.store_reading.specs.Ids.{text_cmp}
use Rattle.store_reading.proofs.lemmas.TextOrder.{named_row, other_row}
use Rattle.store_reading.proofs.post_rule.is_row.Goals as goal

pub returns-then-eq : goal.returns-then-eq
returns-then-eq c =
    let told = c.in-Business in
    c.eq-then-eq.ensures
    ∙ (λ i. bytes_eq (c.bytes.ensures.same i) (c.bytes-then-eq.ensures.same i))
    ∙ named_row c.args.id.now c.args.text.now c.args.stored.now told.table told.key told.told _ told.is
    (c.eq.ensures ∙ ap (eq_by_cmp text_cmp c.args.id.now) c.text_id.ensures) c.if-eq.true

pub returns-else-eq : goal.returns-else-eq
returns-else-eq c =
    let told = c.in-Business in
    other_row c.args.id.now c.args.text.now c.args.stored.now told.table told.key told.told _ told.is
    (c.eq.ensures ∙ ap (eq_by_cmp text_cmp c.args.id.now) c.text_id.ensures) c.if-eq.false
