use Rattle.gate_log.proofs.lemmas.Logs.{stands_once, stands_unbroken, bad_once}
use Rattle.keeper_wal.specs.Reading.{batch_at}
use Rattle.keeper_wal.specs.Journal.{grammar}
use Rattle.keeper_wal.proofs.lemmas.Meaning.{meaning, read_is}
use Rattle.keeper_wal.proofs.Records.{batch_reader}
use Rattle.keeper_wal.proofs.laws.one_meaning.Goals as goal

pub returns-clause-stands : goal.returns-clause-stands
returns-clause-stands c = stands_once grammar batch_at batch_reader

pub returns-clause-breaks : goal.returns-clause-breaks
returns-clause-breaks c = bad_once grammar batch_at batch_reader

pub returns-clause-not_both : goal.returns-clause-not_both
returns-clause-not_both c = stands_unbroken grammar batch_at batch_reader

pub returns-clause-some : goal.returns-clause-some
returns-clause-some c = meaning

pub returns-clause-read : goal.returns-clause-read
returns-clause-read c = read_is
