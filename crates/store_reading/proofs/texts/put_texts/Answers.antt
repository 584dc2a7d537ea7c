use Rattle.std.proofs.Common.{◌-◌, length, drop, if◌then◌else◌, refl, ap, sym, ◌∙◌}
use Rattle.std.specs.FinMap.{get}
use Rattle.module_effects.specs.Spots.{is_at, with_spots}
use Rattle.module_effects.proofs.lemmas.Tables.{get-with_spot}
use Rattle.store_reading.proofs.Laid.{spots_more}
use Rattle.store_reading.proofs.texts.put_texts.Goals as goal

pub loop-done-preserved : goal.loop-done-preserved
loop-done-preserved c = λ tables are name.
    let spots = c.args.spots.now in
    let spot = c.index-spots-spots.result in
    let before = with_spots (drop (length spots - c.loop-done.done) spots) tables in
    c.in_ok-put_text.ensures name
    ∙ ap (λ t. if is_at name spot then spot.text else t) (c.loop-done.invariant tables are name)
    ∙ sym (get-with_spot before spot name)
    ∙ ap (λ ts. get ts name) (sym (spots_more spots c.loop-done.done _ spot tables c.loop-done-test.true refl c.index-spots-spots.is))
