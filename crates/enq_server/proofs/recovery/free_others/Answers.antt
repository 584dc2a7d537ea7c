use Rattle.std.proofs.Common.{◌≡◌, ◌+◌, ◌∷◌, ◌++◌, [], take, refl, sym, ap, subst, ◌∙◌, arith}
use Rattle.std.proofs.lemmas.List.{take_all}
use Rattle.backup_file.specs.Backup.{IsReady}
use Rattle.backup_file.specs.File.{Stands}
use Rattle.backup_file.specs.Lists.{AreUnits}
use Rattle.backup_file.proofs.lemmas.Units.{units-free}
use Rattle.enq_base.specs.declared.owner.UnitKey.{UnitKey}
use Rattle.enq_server.specs.Recovery.{left}
use Rattle.enq_server.proofs.Others.{units_of, left_absent, left_all, left_freed, left_none, left_stays, still, taken_units}
use Rattle.enq_server.proofs.recovery.free_others.Goals as goal
use Rattle.enq_server.proofs.recovery.free_others.Goals.{then-not-is_known+then-stands+in_ok-free, else-not-is_known}
use Rattle.enq_server.proofs.recovery.free_others.Goals.{else-not-is_known-via-then-not-is_known+else-stands, else-not-is_known-via-else-not-is_known}

pub loop-handed-init : goal.loop-handed-init
loop-handed-init g c = record {
  usable = c.requires.usable;
  ready = λ t units are ready. subst (IsReady g.D.Disk.reads g.D.Disk.may_leave c.args.backup.now) (sym (left_none units c.args.lists.now)) ready;
  worn = λ t units are ready worn. worn;
  known = λ units are first. subst (AreUnits c.args.backup.now.units) (sym (left_none units c.args.lists.now)) first;
  quiet = refl;
}

pub returns-in_err-free-clause-images : goal.returns-in_err-free-clause-images
returns-in_err-free-clause-images g c = λ t units are ready bytes may.
    let gone = units_of (take c.loop-handed.handed-index c.args.lists.now) in
    still units gone c.args.lists.now c.handed-item.result.unit bytes (sym (are c.handed-item.result.unit) ∙ sym c.is_known.ensures ∙ c.if-not-is_known.true)
    (c.free.ensures.images t (left units gone c.args.lists.now) (c.loop-handed.invariant.ready t units are ready) bytes may)

pub loop-handed-preserved : goal.loop-handed-preserved
loop-handed-preserved g c =
    let lists = c.args.lists.now in
    let gone = units_of (take c.loop-handed.handed-index lists) in
    let unit : UnitKey = c.handed-item.result.unit in
    let more : units_of (take (c.loop-handed.handed-index + 1) lists) ≡ gone ++ unit ∷ [] =
    taken_units lists c.loop-handed.handed-index c.handed-item.result c.loop-handed-test.true c.handed-item.is in
    elim c.if-not-is_known.branch [
      | then-not-is_known+then-stands+in_ok-free w ↦ rw w.backup-is (record {
        usable = w.in_ok-free.ensures.usable;
        ready = λ t units are ready. subst (IsReady g.D.Disk.reads g.D.Disk.may_leave w.free.new.self)
            (left_freed units gone lists unit (sym (are c.handed-item.result.unit) ∙ sym c.is_known.ensures ∙ w.if-not-is_known.true)
            ∙ ap (λ us. left units us lists) (sym more))
            (w.in_ok-free.ensures.freed t (left units gone lists) (c.loop-handed.invariant.ready t units are ready));
        worn = λ t units are ready worn. c.loop-handed.invariant.worn t units are ready
            (w.in_ok-free.ensures.worn t (left units gone lists) (c.loop-handed.invariant.ready t units are ready) worn);
        known = λ units are first.
            let gone_now = left units gone lists in
            subst (AreUnits w.free.new.self.units)
            (left_freed units gone lists unit (sym (are unit) ∙ sym c.is_known.ensures ∙ w.if-not-is_known.true) ∙ ap (λ us. left units us lists) (sym more))
            (units-free c.loop-handed.backup.units w.free.new.self.units gone_now unit (c.loop-handed.invariant.known units are first)
            w.in_ok-free.ensures.units);
        quiet = w.in_ok-free.ensures.cause.quiet ∙ c.loop-handed.invariant.quiet;
      })
      | else-not-is_known w ↦ rw w.backup-is (record {
        usable = c.loop-handed.invariant.usable;
        ready = λ t units are ready. subst (IsReady g.D.Disk.reads g.D.Disk.may_leave c.loop-handed.backup)
            (elim w.else-not-is_known.branch [
              | else-not-is_known-via-then-not-is_known+else-stands w' ↦ left_absent units gone lists unit
                  (sym (are c.handed-item.result.unit) ∙ sym c.is_known.ensures ∙ w'.if-not-is_known.true)
                  (sym (w'.if-stands.ensures.lists t (left units gone lists) (c.loop-handed.invariant.ready t units are ready)))
              | else-not-is_known-via-else-not-is_known w' ↦ left_stays units gone lists unit
                  (sym (are c.handed-item.result.unit) ∙ sym c.is_known.ensures ∙ w'.if-not-is_known.false)
            ] ∙ ap (λ us. left units us lists) (sym more))
            (c.loop-handed.invariant.ready t units are ready);
        worn = c.loop-handed.invariant.worn;
        known = λ units are first. subst (AreUnits c.loop-handed.backup.units)
            (elim w.else-not-is_known.branch [
              | else-not-is_known-via-then-not-is_known+else-stands w' ↦ left_absent units gone lists unit
                  (sym (are unit) ∙ sym c.is_known.ensures ∙ w'.if-not-is_known.true)
                  (sym (c.loop-handed.invariant.known units are first unit) ∙ sym w'.if-stands.ensures.units)
              | else-not-is_known-via-else-not-is_known w' ↦ left_stays units gone lists unit
                  (sym (are unit) ∙ sym c.is_known.ensures ∙ w'.if-not-is_known.false)
            ] ∙ ap (λ us. left units us lists) (sym more))
            (c.loop-handed.invariant.known units are first);
        quiet = c.loop-handed.invariant.quiet;
      })
    ]

pub returns-clause-freed : goal.returns-clause-freed
returns-clause-freed g c = λ t units are ready.
    subst (IsReady g.D.Disk.reads g.D.Disk.may_leave c.loop-handed.backup)
    (ap (λ l. left units (units_of l) c.args.lists.now) (take_all c.loop-handed.handed-index c.args.lists.now (omega (arith, c.loop-handed-test.false)))
    ∙ left_all units c.args.lists.now)
    (c.loop-handed.invariant.ready t units are ready)

pub returns-clause-images : goal.returns-clause-images
returns-clause-images g c = λ t units are ready bytes may.
    let gone = units_of (take c.loop-handed.handed-index c.args.lists.now) in
    let now = c.loop-handed.invariant.ready t units are ready in
    record { gone = gone; stands = subst (λ b. Stands b (left units gone c.args.lists.now)) (sym (now.at_rest.durable bytes may)) now.stands }

pub returns-clause-known : goal.returns-clause-known
returns-clause-known g c = λ units are first.
    subst (AreUnits c.loop-handed.backup.units)
    (ap (λ l. left units (units_of l) c.args.lists.now) (take_all c.loop-handed.handed-index c.args.lists.now (omega (arith, c.loop-handed-test.false)))
    ∙ left_all units c.args.lists.now)
    (c.loop-handed.invariant.known units are first)

pub returns-clause-worn : goal.returns-clause-worn
returns-clause-worn g c = c.loop-handed.invariant.worn
