use Rattle.std.proofs.Common.{Some, sym, ap, ◌∙◌}
use Rattle.std.specs.BTreeMap.{get}
use Rattle.store_reading.specs.Ids.{text_cmp, text_id}
use Rattle.store_reading.proofs.lemmas.TextOrder.{put_there}
use Rattle.store_reading.proofs.texts.put_text.Goals as goal

pub returns-in_ok-insert-in-Some : goal.returns-in_ok-insert-in-Some
returns-in_ok-insert-in-Some c = λ name.
    c.in_ok-insert-in-Some.ensures.updates.0 (text_id name)
    ∙ put_there c.args.spot.now c.text_id-id.result _ (get text_cmp c.args.texts.now (text_id name)) name c.text_id-id.ensures
    (ap Some c.in_ok-copy-in-Some.ensures ∙ sym c.in-Some.is)

pub returns-in-None : goal.returns-in-None
returns-in-None c = λ name.
    c.remove.ensures.updates.0 (text_id name)
    ∙ put_there c.args.spot.now c.text_id-id.result _ (get text_cmp c.args.texts.now (text_id name)) name c.text_id-id.ensures (sym c.in-None.is)
