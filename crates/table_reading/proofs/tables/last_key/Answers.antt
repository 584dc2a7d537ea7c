use Rattle.std.proofs.Common.{[], sym, ◌∙◌}
use Rattle.table_reading.proofs.lemmas.Pages.{last_key_is}
use Rattle.table_reading.proofs.tables.last_key.Goals as goal

pub returns-in-Some : goal.returns-in-Some
returns-in-Some c = c.as_slice.ensures ∙ sym (last_key_is [] c.args.rows.now c.in-Some.row.now c.in-Some.ensures.value)
