use Rattle.script_runner.proofs.Filled.{given}
use Rattle.dialogue_session.specs.Filling.{filled}
use Rattle.script_runner.proofs.filling.part_of.Goals as goal

pub returns : goal.returns
returns c =
    given (filled c.args.side.now.side.variables c.args.part.now) c.resolve.result c.resolve.ensures.filled c.resolve.ensures.refused
