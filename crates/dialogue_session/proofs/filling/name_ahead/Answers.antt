use Rattle.std.proofs.Common.{◌∙◌}
use Rattle.dialogue_session.proofs.Fillings.{longest, named}
use Rattle.dialogue_session.proofs.filling.name_ahead.Goals as goal

pub returns : goal.returns
returns c =
    named c.name_bytes-run.result.now c.read_name.result c.read_name.ensures.grammar c.read_name.ensures.value
    ∙ longest c.args.bytes.now c.name_bytes-run.result.now c.min-most.result c.min-most.ensures c.name_bytes-run.ensures
