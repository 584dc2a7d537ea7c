use Rattle.std.proofs.Common.{◌≤◌, List, length, sym, ◌∙◌, subst}
use Rattle.backup_file.specs.Handing.{IsHandable}
use Rattle.lock_entry.specs.Sound.{ReadmitsOnly}
use Rattle.lock_entry.specs.declared.entry.Entry.{Entry}
use Rattle.ledger_steps.specs.Posts.{entries_of}
use Rattle.hall_model.specs.Sessions.{owners_of}
use Rattle.model_laws.proofs.EachLock.{may_be_readmitted}
use Rattle.hall_calls.specs.Marking.{Readmits}
use Rattle.hall_calls.proofs.MarkedUnits.{serves_still, unregained}
use Rattle.hall_calls.proofs.lists.StoredLocks.{stored_handable}
use Rattle.hall_calls.proofs.units.regain.Goals as goal

pub readmit-requires-clause-entries : goal.readmit-requires-clause-entries
readmit-requires-clause-entries g c =
    let given = c.as_slice.ensures.value ∙ c.in-Ok.ensures in
    subst (λ o. ReadmitsOnly o c.as_slice.result.now) (sym c.owners_of-owners.ensures)
    (subst (ReadmitsOnly (owners_of c.args.unit.now)) (sym given) (may_be_readmitted c.args.books.now.ledger.units c.args.unit.now c.requires.stored))

pub readmit-requires-clause-handable : goal.readmit-requires-clause-handable
readmit-requires-clause-handable g c = λ some.
    let given = c.as_slice.ensures.value ∙ c.in-Ok.ensures in
    subst (IsHandable c.args.unit.now) (sym given)
    (stored_handable c.args.books.now.ledger.units c.args.unit.now c.requires.stored (subst (λ (es : List Entry). 1 ≤ length es) given some))

pub returns-in_default : goal.returns-in_default
returns-in_default g c =
    let unit = c.args.unit.now in
    record {
      again = unregained g.D.Disk.tells g.D.Disk.reads g.D.Disk.may_leave g.D.Disk.faults (owners_of unit) unit
          (entries_of c.args.books.now.ledger.units unit) c.args.locks.now;
      serves = serves_still g.L.Link.applied g.L.Link.faults g.L.Link.refusals c.args.locks.now;
    }

pub returns : goal.returns
returns g c =
    let h = c.readmit.ensures in
    let unit = c.args.unit.now in
    let was = c.args.locks.now in
    let left = c.readmit.new.self in
    let given = c.as_slice.ensures.value ∙ c.in-Ok.ensures in
    record {
      again = subst (λ o. Readmits g.D.Disk.tells g.D.Disk.reads g.D.Disk.may_leave g.D.Disk.faults o unit
          (entries_of c.args.books.now.ledger.units unit) was left c.readmit.result) c.owners_of-owners.ensures
          (subst (λ es. Readmits g.D.Disk.tells g.D.Disk.reads g.D.Disk.may_leave g.D.Disk.faults c.owners_of-owners.result unit es was left c.readmit.result)
          given
          (record {
            granted = h.granted;
            refused = h.refused;
            usable = h.usable;
            known = h.known;
            listed = h.listed;
            images = h.images;
            untouched = h.untouched;
            some = h.some;
            cause = h.cause;
          }));
      serves = record { limit = h.limit; standing = h.standing ∙ sym c.requires.stands; replica = h.replica; lost = h.lost };
    }
