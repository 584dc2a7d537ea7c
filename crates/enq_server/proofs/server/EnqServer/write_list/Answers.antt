use Rattle.std.proofs.Common.{◌||◌, OnOk, length, refl, inl, ap, subst, sym, ◌∙◌}
use Rattle.std.proofs.lemmas.Result.{on_err_weaker, on_ok_weaker}
use Rattle.backup_file.specs.Backup.{IsReady}
use Rattle.backup_file.specs.File.{Stands}
use Rattle.backup_file.specs.Lists.{is_known}
use Rattle.enq_base.specs.Owners.{same_unit}
use Rattle.enq_server.specs.Server.{IsListFor, with_list}
use Rattle.enq_server.proofs.lemmas.Known.{with_none, with_written}
use Rattle.enq_server.proofs.Lasting.{listed, listed_either}
use Rattle.enq_server.proofs.server.EnqServer.write_list.Goals as goal

-- ---- there is a list

pub returns-in-Some-clause-listed : goal.returns-in-Some-clause-listed
returns-in-Some-clause-listed g c = λ t unit es is l ready.
    let are = subst (IsListFor unit es) c.in-Some.is is in
    let before = ap (λ s. s.rest.file) c.self-inside.view_is ∙ ap (λ s. s.file) c.self.view_is in
    let inside = subst (λ b. IsReady g.D.Disk.reads g.D.Disk.may_leave b l) (sym before) ready in
    subst (λ m. OnOk c.write_hand.result (IsReady g.D.Disk.reads g.D.Disk.may_leave c.write_hand.new.self m)) (sym (listed unit es l are.0))
    (c.write_hand.ensures.handed t unit es are.1 l inside)

pub returns-in-Some-clause-images : goal.returns-in-Some-clause-images
returns-in-Some-clause-images g c = λ t unit es is l ready bytes may.
    let are = subst (IsListFor unit es) c.in-Some.is is in
    let before = ap (λ s. s.rest.file) c.self-inside.view_is ∙ ap (λ s. s.file) c.self.view_is in
    let inside = subst (λ b. IsReady g.D.Disk.reads g.D.Disk.may_leave b l) (sym before) ready in
    listed_either unit es l bytes are.0 (c.write_hand.ensures.images t unit es are.1 l inside bytes may)

pub returns-in-Some-clause-known : goal.returns-in-Some-clause-known
returns-in-Some-clause-known g c = λ unit es is.
    let are = subst (IsListFor unit es) c.in-Some.is is in
    let before = ap (λ s. s.rest.file) c.self-inside.view_is ∙ ap (λ s. s.file) c.self.view_is in
    on_ok_weaker c.write_hand.result
    (λ units. with_written unit es c.args.self.now.file.units c.write_hand.new.self.units are.0
    (λ other. units other ∙ ap (λ b. same_unit unit other || is_known other b.units) before)) (c.write_hand.ensures.units unit es are.1)

pub returns-in-Some-clause-some : goal.returns-in-Some-clause-some
returns-in-Some-clause-some g c = λ unit es is.
    let are = subst (IsListFor unit es) c.in-Some.is is in
    on_err_weaker c.write_hand.result (λ _. are.0) c.write_hand.ensures.failed

-- ---- there is none

pub returns-in-None-clause-listed : goal.returns-in-None-clause-listed
returns-in-None-clause-listed g c = λ t unit es is l ready.
    let none = subst (IsListFor unit es) c.in-None.is is in
    subst (λ es. IsReady g.D.Disk.reads g.D.Disk.may_leave c.args.self.now.file (with_list unit es l)) (sym none) ready

pub returns-in-None-clause-images : goal.returns-in-None-clause-images
returns-in-None-clause-images g c = λ t unit es is l ready bytes may.
    inl (subst (λ b. Stands b l) (sym (ready.at_rest.durable bytes may)) ready.stands)

pub returns-in-None-clause-known : goal.returns-in-None-clause-known
returns-in-None-clause-known g c = λ unit es is.
    let none = subst (IsListFor unit es) c.in-None.is is in
    with_none unit es c.args.self.now.file.units c.args.self.now.file.units (ap length none) (λ other. refl)
