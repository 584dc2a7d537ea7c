use Rattle.backup_file.proofs.lemmas.Meaning.{both_bad_once, both_once, both_unbroken}
use Rattle.backup_file.proofs.laws.one_meaning.Goals as goal

pub returns-clause-stands : goal.returns-clause-stands
returns-clause-stands c = both_once

pub returns-clause-breaks : goal.returns-clause-breaks
returns-clause-breaks c = both_bad_once

pub returns-clause-not_both : goal.returns-clause-not_both
returns-clause-not_both c = both_unbroken
