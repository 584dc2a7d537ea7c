use Rattle.std.proofs.Common.{inl, refl, sym, ◌∙◌}
use Rattle.model_laws.proofs.Resubmissions.{resubmit_refused_plainly}
use Rattle.hall_calls.proofs.MarkedUnits.{serves_still}
use Rattle.hall_calls.proofs.ending.AfterStop.{also_failed, answered_leaves, plain_quiet, untouched_keeps}
use Rattle.hall_calls.proofs.ending.OverFile.{refused_files, same_file}
use Rattle.hall_calls.proofs.verdicts.UnitCalls.{resubmits_not}
use Rattle.hall_calls.proofs.units.resubmit.Goals as goal

pub returns-in-Err : goal.returns-in-Err
returns-in-Err g c =
    let ledger = c.args.books.now.ledger in
    let file = c.args.locks.now.file in
    let r = c.in-Err.refusal in
    let why = sym c.to_resubmit.ensures ∙ c.in-Err.is in
    let plain = resubmit_refused_plainly ledger c.args.max_marks c.args.unit r why in
    let still = serves_still g.L.Link.applied g.L.Link.faults g.L.Link.refusals c.args.locks.now in
    record {
      act = λ s locks limit stored marks room.
          resubmits_not s c.args.locks.now.table.entries ledger c.args.max_marks c.args.unit r locks stored marks room why;
      limit = refl;
      standing = refl;
      file = refused_files g.D.Disk.tells g.D.Disk.reads g.D.Disk.may_leave g.D.Disk.faults ledger ledger file file r c.requires.filed (same_file file) refl
          (inl plain);
      replica = still.replica;
      lost = still.lost;
      table = tt;
      ledger = tt;
      usable = c.requires.usable;
      told = refl;
      left = answered_leaves g.K.Keeper.held g.K.Keeper.is_open g.K.Keeper.may_leave c.args.books.now g.met.K.Keeper.settled c.requires.usable;
      cause = plain_quiet r _ _ refl plain;
      kept = untouched_keeps g.K.Keeper.held g.K.Keeper.may_leave c.args.books.now.keeper r;
    }

pub returns-in-Ok-Bad-clause-limit : goal.returns-in-Ok-Bad-clause-limit
returns-in-Ok-Bad-clause-limit g c = c.reopen.ensures.serves.limit

pub returns-in-Ok-Bad-clause-standing : goal.returns-in-Ok-Bad-clause-standing
returns-in-Ok-Bad-clause-standing g c = c.reopen.ensures.serves.standing

pub returns-in-Ok-Bad-clause-file : goal.returns-in-Ok-Bad-clause-file
returns-in-Ok-Bad-clause-file g c = c.reopen.ensures.file

pub returns-in-Ok-Bad-clause-replica : goal.returns-in-Ok-Bad-clause-replica
returns-in-Ok-Bad-clause-replica g c = c.reopen.ensures.serves.replica

pub returns-in-Ok-Bad-clause-lost : goal.returns-in-Ok-Bad-clause-lost
returns-in-Ok-Bad-clause-lost g c = c.reopen.ensures.serves.lost

pub returns-in-Ok-Bad-clause-table : goal.returns-in-Ok-Bad-clause-table
returns-in-Ok-Bad-clause-table g c = c.reopen.ensures.table

pub returns-in-Ok-Bad-clause-ledger : goal.returns-in-Ok-Bad-clause-ledger
returns-in-Ok-Bad-clause-ledger g c = c.reopen.ensures.store.ledger

pub returns-in-Ok-Bad-clause-usable : goal.returns-in-Ok-Bad-clause-usable
returns-in-Ok-Bad-clause-usable g c = c.reopen.ensures.store.usable

pub returns-in-Ok-Bad-clause-told : goal.returns-in-Ok-Bad-clause-told
returns-in-Ok-Bad-clause-told g c = c.reopen.ensures.store.told

pub returns-in-Ok-Bad-clause-left : goal.returns-in-Ok-Bad-clause-left
returns-in-Ok-Bad-clause-left g c = c.reopen.ensures.store.left

pub returns-in-Ok-Bad-clause-cause : goal.returns-in-Ok-Bad-clause-cause
returns-in-Ok-Bad-clause-cause g c = c.reopen.ensures.store.cause

pub returns-in-Ok-Bad-clause-kept : goal.returns-in-Ok-Bad-clause-kept
returns-in-Ok-Bad-clause-kept g c = c.reopen.ensures.store.kept

pub returns-in-Ok-clause-limit : goal.returns-in-Ok-clause-limit
returns-in-Ok-clause-limit g c = refl

pub returns-in-Ok-clause-standing : goal.returns-in-Ok-clause-standing
returns-in-Ok-clause-standing g c = refl

pub returns-in-Ok-clause-file : goal.returns-in-Ok-clause-file
returns-in-Ok-clause-file g c = c.repost.ensures.file

pub returns-in-Ok-clause-replica : goal.returns-in-Ok-clause-replica
returns-in-Ok-clause-replica g c = (serves_still g.L.Link.applied g.L.Link.faults g.L.Link.refusals c.args.locks.now).replica

pub returns-in-Ok-clause-lost : goal.returns-in-Ok-clause-lost
returns-in-Ok-clause-lost g c = (serves_still g.L.Link.applied g.L.Link.faults g.L.Link.refusals c.args.locks.now).lost

pub returns-in-Ok-clause-table : goal.returns-in-Ok-clause-table
returns-in-Ok-clause-table g c = also_failed _ c.repost.result (inl refl)

pub returns-in-Ok-clause-ledger : goal.returns-in-Ok-clause-ledger
returns-in-Ok-clause-ledger g c = c.repost.ensures.store.ledger

pub returns-in-Ok-clause-usable : goal.returns-in-Ok-clause-usable
returns-in-Ok-clause-usable g c = c.repost.ensures.store.usable

pub returns-in-Ok-clause-told : goal.returns-in-Ok-clause-told
returns-in-Ok-clause-told g c = c.repost.ensures.store.told

pub returns-in-Ok-clause-left : goal.returns-in-Ok-clause-left
returns-in-Ok-clause-left g c = c.repost.ensures.store.left

pub returns-in-Ok-clause-cause : goal.returns-in-Ok-clause-cause
returns-in-Ok-clause-cause g c = c.repost.ensures.store.cause

pub returns-in-Ok-clause-kept : goal.returns-in-Ok-clause-kept
returns-in-Ok-clause-kept g c = c.repost.ensures.store.kept
