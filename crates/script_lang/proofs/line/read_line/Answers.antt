use Rattle.script_lang.proofs.Laws.{is_bad, is_found}
use Rattle.script_lang.proofs.line.read_line.Goals as goal

pub returns-clause-found : goal.returns-clause-found
returns-clause-found c = is_found c.args.bytes.now c.line_in.result c.line_in.ensures.line

pub returns-clause-bad : goal.returns-clause-bad
returns-clause-bad c = is_bad c.args.bytes.now c.line_in.result c.line_in.ensures.line
