use Rattle.gate_log.proofs.lemmas.Logs.{stands_unbroken}
use Rattle.keeper_wal.specs.Reading.{batch_at}
use Rattle.keeper_wal.specs.Journal.{grammar}
use Rattle.keeper_wal.proofs.Opened.{stands_left, nothing_left}
use Rattle.keeper_wal.proofs.Records.{batch_reader}
use Rattle.keeper_wal.proofs.laws.images_tell.Goals as goal

pub returns-clause-stands : goal.returns-clause-stands
returns-clause-stands g c = stands_left g.D.Disk.tells g.D.Disk.may_leave c.args.keeper.now c.remembers.ensures

pub returns-clause-breaks : goal.returns-clause-breaks
returns-clause-breaks g c = λ image left at bad.
    nothing_left g.D.Disk.tells g.D.Disk.may_leave c.args.keeper.now c.remembers.ensures image left
    (λ others stands. stands_unbroken grammar batch_at batch_reader image others at stands bad)
