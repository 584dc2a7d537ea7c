use Rattle.std.proofs.Common.{sym, ◌∙◌}
use Rattle.landscape.proofs.Views.{key_count-view}
use Rattle.landscape.proofs.tables.key_count.Goals as goal

pub returns : goal.returns
returns c = c.len.ensures.len ∙ sym (key_count-view c.args.table.now.entries)
