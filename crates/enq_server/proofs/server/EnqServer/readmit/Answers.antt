use Rattle.std.proofs.Common.{◌≡◌, ◌≤◌, ◌&&◌, ◌||◌, Ok, IfSome, length, nat_lt, refl, inl, inr, ap, sym, subst, ◌∙◌}
use Rattle.std.specs.List.{filter}
use Rattle.backup_file.specs.Backup.{IsReady, IsSame}
use Rattle.backup_file.specs.File.{Stands}
use Rattle.backup_file.specs.Lists.{is_known}
use Rattle.backup_file.proofs.lemmas.Adding.{ready_same}
use Rattle.lock_entry.specs.Granting.{readmitted}
use Rattle.lock_entry.specs.Names.{is_of}
use Rattle.enq_base.specs.Owners.{same_unit}
use Rattle.enq_server.specs.Faults.{IsRefusal}
use Rattle.enq_server.proofs.Readmitted.{failed_cause, keeps_over, keeps_same, lost_over, lost_same, not_failed, refused_as, refused_quietly}
use Rattle.enq_server.proofs.lemmas.Replicas.{keeps_none}
use Rattle.enq_server.proofs.server.EnqServer.readmit.Goals as goal

-- ---- what the steps require

pub grant_again-requires-clause-own : goal.grant_again-requires-clause-own
grant_again-requires-clause-own g c =
    c.as_slice.ensures.value ∙ c.in-Ok.ensures.entries ∙ ap (λ t. filter (is_of c.args.asker.now.update) t.entries) (sym c.ready_list.ensures.table)

pub write_list-requires-clause-usable : goal.write_list-requires-clause-usable
write_list-requires-clause-usable g c = ap (λ f. f.failed) c.grant_again.ensures.file ∙ c.ready_list.ensures.file.failed ∙ c.requires.usable

pub write_list-requires-clause-room : goal.write_list-requires-clause-room
write_list-requires-clause-room g c =
    subst (λ f. IfSome c.in-Ok-ready_list.ready (λ _. 1 ≤ f.room)) (sym c.grant_again.ensures.file) c.in-Ok-ready_list.ensures.room

-- ---- no memory for the entries that stand

pub returns-in_default-clause-images : goal.returns-in_default-clause-images
returns-in_default-clause-images g c = λ t l ready bytes may.
    inl (subst (λ b. Stands b l) (sym (ready.at_rest.durable bytes may)) ready.stands)

pub returns-in_default-clause-replica : goal.returns-in_default-clause-replica
returns-in_default-clause-replica g c = keeps_none g.L.Link.applied g.L.Link.faults g.L.Link.refusals c.args.self.now.replica

pub returns-in_default-clause-lost : goal.returns-in_default-clause-lost
returns-in_default-clause-lost g c = lost_same c.args.self.now.replica c.args.self.now.replica c.args.self.now.table c.args.self.now.table refl

-- ---- no memory for the list

pub returns-in_default-ready_list-clause-images : goal.returns-in_default-ready_list-clause-images
returns-in_default-ready_list-clause-images g c = λ t l ready bytes may.
    let before = subst (λ d. g.D.Disk.may_leave d bytes) c.ready_list.ensures.file.disk may in
    inl (subst (λ b. Stands b l) (sym (ready.at_rest.durable bytes before)) ready.stands)

pub returns-in_default-ready_list-clause-untouched : goal.returns-in_default-ready_list-clause-untouched
returns-in_default-ready_list-clause-untouched g c = inr c.ready_list.ensures.file

pub returns-in_default-ready_list-clause-cause : goal.returns-in_default-ready_list-clause-cause
returns-in_default-ready_list-clause-cause g c = ap g.D.Disk.faults c.ready_list.ensures.file.disk

pub returns-in_default-ready_list-clause-replica : goal.returns-in_default-ready_list-clause-replica
returns-in_default-ready_list-clause-replica g c =
    keeps_same g.L.Link.applied g.L.Link.faults g.L.Link.refusals c.args.self.now.replica c.ready_list.new.self.replica c.ready_list.ensures.replica

pub returns-in_default-ready_list-clause-lost : goal.returns-in_default-ready_list-clause-lost
returns-in_default-ready_list-clause-lost g c =
    lost_same c.args.self.now.replica c.ready_list.new.self.replica c.args.self.now.table c.ready_list.new.self.table c.ready_list.ensures.replica

-- ---- they aren't granted

pub returns-in-Err-clause-refused : goal.returns-in-Err-clause-refused
returns-in-Err-clause-refused g c =
    let asker = c.args.asker.now in
    let entries = c.args.entries.now in
    let was = c.ready_list.ensures.table in
    refused_as (readmitted c.args.self.now.table asker entries) c.args.self.now.table.entries c.grant_again.new.self.table.entries c.in-Err.fault
    (ap (λ t. t.entries) (c.in-Err.ensures.unchanged ∙ was))
    (subst (λ t. IsRefusal (readmitted t asker entries) c.in-Err.fault) was c.in-Err.ensures.refused)

pub returns-in-Err-clause-images : goal.returns-in-Err-clause-images
returns-in-Err-clause-images g c = λ t l ready bytes may.
    let before =
    subst (λ d. g.D.Disk.may_leave d bytes) (ap (λ f. f.disk) c.grant_again.ensures.file ∙ c.ready_list.ensures.file.disk) may in
    inl (subst (λ b. Stands b l) (sym (ready.at_rest.durable bytes before)) ready.stands)

pub returns-in-Err-clause-untouched : goal.returns-in-Err-clause-untouched
returns-in-Err-clause-untouched g c = inr (subst (IsSame c.args.self.now.file) (sym c.grant_again.ensures.file) c.ready_list.ensures.file)

pub returns-in-Err-clause-unshipped : goal.returns-in-Err-clause-unshipped
returns-in-Err-clause-unshipped g c = inr (c.in-Err.ensures.unshipped ∙ c.ready_list.ensures.replica)

pub returns-in-Err-clause-failed : goal.returns-in-Err-clause-failed
returns-in-Err-clause-failed g c =
    λ failed. absurd (not_failed (readmitted c.ready_list.new.self.table c.args.asker.now c.args.entries.now) c.in-Err.fault c.in-Err.ensures.refused failed)

pub returns-in-Err-clause-some : goal.returns-in-Err-clause-some
returns-in-Err-clause-some g c =
    λ failed. absurd (not_failed (readmitted c.ready_list.new.self.table c.args.asker.now c.args.entries.now) c.in-Err.fault c.in-Err.ensures.refused failed)

pub returns-in-Err-clause-cause : goal.returns-in-Err-clause-cause
returns-in-Err-clause-cause g c =
    let same = ap g.D.Disk.faults (ap (λ f. f.disk) c.grant_again.ensures.file ∙ c.ready_list.ensures.file.disk) in
    refused_quietly (readmitted c.ready_list.new.self.table c.args.asker.now c.args.entries.now) (g.D.Disk.faults c.args.self.now.file.disk)
    (g.D.Disk.faults c.grant_again.new.self.file.disk) c.in-Err.fault same c.in-Err.ensures.refused

pub returns-in-Err-clause-replica : goal.returns-in-Err-clause-replica
returns-in-Err-clause-replica g c =
    keeps_same g.L.Link.applied g.L.Link.faults g.L.Link.refusals c.args.self.now.replica c.grant_again.new.self.replica
    (c.in-Err.ensures.unshipped ∙ c.ready_list.ensures.replica)

pub returns-in-Err-clause-lost : goal.returns-in-Err-clause-lost
returns-in-Err-clause-lost g c =
    lost_same c.args.self.now.replica c.grant_again.new.self.replica c.args.self.now.table c.grant_again.new.self.table
    (c.in-Err.ensures.unshipped ∙ c.ready_list.ensures.replica)

-- ---- the list isn't written

pub returns-in-Err-write_list-clause-refused : goal.returns-in-Err-write_list-clause-refused
returns-in-Err-write_list-clause-refused g c =
    subst (λ t. readmitted t c.args.asker.now c.args.entries.now ≡ Ok c.grant_again.new.self.table.entries) c.ready_list.ensures.table
    c.in-Ok-grant_again.ensures.granted
    ∙ ap (λ t. Ok t.entries) (sym c.write_list.ensures.table)

pub returns-in-Err-write_list-clause-images : goal.returns-in-Err-write_list-clause-images
returns-in-Err-write_list-clause-images g c = λ t l ready.
    let at = ready_same g.D.Disk.reads g.D.Disk.may_leave l c.args.self.now.file c.ready_list.new.self.file c.ready_list.ensures.file ready in
    c.write_list.ensures.images t c.args.unit.now c.args.entries.now c.in-Ok-ready_list.ensures.ready l
    (subst (λ f. IsReady g.D.Disk.reads g.D.Disk.may_leave f l) (sym c.grant_again.ensures.file) at)

pub returns-in-Err-write_list-clause-some : goal.returns-in-Err-write_list-clause-some
returns-in-Err-write_list-clause-some g c =
    λ _. c.in-Err-write_list.ensures.some c.args.unit.now c.args.entries.now c.in-Ok-ready_list.ensures.ready

pub returns-in-Err-write_list-clause-cause : goal.returns-in-Err-write_list-clause-cause
returns-in-Err-write_list-clause-cause g c =
    let same = ap g.D.Disk.faults (ap (λ f. f.disk) c.grant_again.ensures.file ∙ c.ready_list.ensures.file.disk) in
    let cause = c.in-Err-write_list.ensures.cause in
    failed_cause (g.D.Disk.faults c.args.self.now.file.disk) (g.D.Disk.faults c.grant_again.new.self.file.disk)
    (g.D.Disk.faults c.write_list.new.self.file.disk) same cause.later cause.failed

pub returns-in-Err-write_list-clause-replica : goal.returns-in-Err-write_list-clause-replica
returns-in-Err-write_list-clause-replica g c =
    keeps_over g.L.Link.applied g.L.Link.faults g.L.Link.refusals c.args.self.now.replica c.ready_list.new.self.replica c.grant_again.new.self.replica
    c.write_list.new.self.replica c.ready_list.ensures.replica c.write_list.ensures.replica c.grant_again.ensures.replica

pub returns-in-Err-write_list-clause-lost : goal.returns-in-Err-write_list-clause-lost
returns-in-Err-write_list-clause-lost g c =
    lost_over c.args.self.now.replica c.ready_list.new.self.replica c.grant_again.new.self.replica c.write_list.new.self.replica c.args.self.now.table
    c.ready_list.new.self.table c.grant_again.new.self.table c.write_list.new.self.table c.ready_list.ensures.replica c.write_list.ensures.replica
    c.ready_list.ensures.table c.write_list.ensures.table c.grant_again.ensures.lost

-- ---- all is done

pub returns-in-Ok-write_list-clause-granted : goal.returns-in-Ok-write_list-clause-granted
returns-in-Ok-write_list-clause-granted g c =
    subst (λ t. readmitted t c.args.asker.now c.args.entries.now ≡ Ok c.grant_again.new.self.table.entries) c.ready_list.ensures.table
    c.in-Ok-grant_again.ensures.granted
    ∙ ap (λ t. Ok t.entries) (sym c.write_list.ensures.table)

pub returns-in-Ok-write_list-clause-listed : goal.returns-in-Ok-write_list-clause-listed
returns-in-Ok-write_list-clause-listed g c = λ t l ready.
    let at = ready_same g.D.Disk.reads g.D.Disk.may_leave l c.args.self.now.file c.ready_list.new.self.file c.ready_list.ensures.file ready in
    c.in-Ok-write_list.ensures.listed t c.args.unit.now c.args.entries.now c.in-Ok-ready_list.ensures.ready l
    (subst (λ f. IsReady g.D.Disk.reads g.D.Disk.may_leave f l) (sym c.grant_again.ensures.file) at)

pub returns-in-Ok-write_list-clause-images : goal.returns-in-Ok-write_list-clause-images
returns-in-Ok-write_list-clause-images g c = λ t l ready.
    let at = ready_same g.D.Disk.reads g.D.Disk.may_leave l c.args.self.now.file c.ready_list.new.self.file c.ready_list.ensures.file ready in
    c.write_list.ensures.images t c.args.unit.now c.args.entries.now c.in-Ok-ready_list.ensures.ready l
    (subst (λ f. IsReady g.D.Disk.reads g.D.Disk.may_leave f l) (sym c.grant_again.ensures.file) at)

pub returns-in-Ok-write_list-clause-known : goal.returns-in-Ok-write_list-clause-known
returns-in-Ok-write_list-clause-known g c = λ other.
    c.in-Ok-write_list.ensures.known c.args.unit.now c.args.entries.now c.in-Ok-ready_list.ensures.ready other
    ∙ ap (λ b. (nat_lt 0 (length c.args.entries.now) && same_unit c.args.unit.now other) || b)
    (ap (λ f. is_known other f.units) c.grant_again.ensures.file ∙ c.ready_list.ensures.file.units other)

pub returns-in-Ok-write_list-clause-cause : goal.returns-in-Ok-write_list-clause-cause
returns-in-Ok-write_list-clause-cause g c =
    c.in-Ok-write_list.ensures.cause.quiet
    ∙ ap g.D.Disk.faults (ap (λ f. f.disk) c.grant_again.ensures.file ∙ c.ready_list.ensures.file.disk)

pub returns-in-Ok-write_list-clause-replica : goal.returns-in-Ok-write_list-clause-replica
returns-in-Ok-write_list-clause-replica g c =
    keeps_over g.L.Link.applied g.L.Link.faults g.L.Link.refusals c.args.self.now.replica c.ready_list.new.self.replica c.grant_again.new.self.replica
    c.write_list.new.self.replica c.ready_list.ensures.replica c.write_list.ensures.replica c.grant_again.ensures.replica

pub returns-in-Ok-write_list-clause-lost : goal.returns-in-Ok-write_list-clause-lost
returns-in-Ok-write_list-clause-lost g c =
    lost_over c.args.self.now.replica c.ready_list.new.self.replica c.grant_again.new.self.replica c.write_list.new.self.replica c.args.self.now.table
    c.ready_list.new.self.table c.grant_again.new.self.table c.write_list.new.self.table c.ready_list.ensures.replica c.write_list.ensures.replica
    c.ready_list.ensures.table c.write_list.ensures.table c.grant_again.ensures.lost
