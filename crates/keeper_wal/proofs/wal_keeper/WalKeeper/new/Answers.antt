use Rattle.std.proofs.Common.{[], None, false, refl, subst}
use Rattle.keeper_wal.specs.Meaning.{rows_in}
use Rattle.keeper_wal.specs.Wal.{WalView}
use Rattle.keeper_wal.proofs.lemmas.Meaning.{fresh_left}
use Rattle.keeper_wal.proofs.wal_keeper.WalKeeper.new.Goals as goal

pub returns-clause-left : goal.returns-clause-left
returns-clause-left g c = λ t rows leaves.
    let D = g.D.Disk in
    let since = c.of.result.value in
    let k : WalView g.row.D.Denot = record {
      disk = since;
      since = since;
      gate = 0;
      rows = rows_in (D.reads since);
      made = c.new.result.made;
      text = [];
      faults = 0;
      bad = None;
      is_known = false;
      in_doubt = false;
      is_open = false;
    } in
    let from = fresh_left D.tells D.reads D.may_leave g.met.D.Disk.reads_left k refl refl t rows leaves in
    (from.0, subst (λ d. D.may_leave d from.0) c.of.ensures from.1, from.2)
