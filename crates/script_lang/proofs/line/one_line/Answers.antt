use Rattle.script_lang.proofs.Laws.{is_one, is_reading}
use Rattle.script_lang.proofs.line.one_line.Goals as goal

pub returns-clause-one : goal.returns-clause-one
returns-clause-one c = is_one

pub returns-clause-read : goal.returns-clause-read
returns-clause-read c = is_reading
