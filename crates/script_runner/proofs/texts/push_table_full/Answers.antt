use Rattle.std.proofs.Common.{[], ◌∷◌, ◌++◌, ◌∙◌, ap, codes, decimal}
use Rattle.script_runner.specs.Texts.{spaced}
use Rattle.script_runner.proofs.texts.push_table_full.Goals as goal

pub returns-clause-text : goal.returns-clause-text
returns-clause-text c =
    c.push_words.ensures
    ∙ (λ i. c.args.text.now.items ++ spaced
    (codes "LOCK_TABLE_FULL" ∷ (c.as_slice.ensures.value ∙ c.digits-used.ensures.digits ∙ ap decimal c.from.ensures)
    i ∷ (c.as_slice-2.ensures.value ∙ c.digits-limit.ensures.digits ∙ ap decimal c.from-2.ensures) i ∷ []))
