use Rattle.std.proofs.Common.{ap, inl, not, ◌&&◌, subst, sym, ◌∙◌}
use Rattle.backup_file.specs.Backup.{IsReady}
use Rattle.backup_file.specs.File.{Stands}
use Rattle.backup_file.specs.Lists.{is_known, without}
use Rattle.enq_base.specs.Owners.{same_unit}
use Rattle.enq_server.proofs.lemmas.Known.{without_absent as known_absent, without_freed}
use Rattle.enq_server.proofs.Others.{without_absent}
use Rattle.enq_server.proofs.server.EnqServer.end_unit.Goals as goal
use Rattle.enq_server.proofs.server.EnqServer.end_unit.Goals.{then-stands+in_ok-free, else-stands}

pub returns-clause-freed : goal.returns-clause-freed
returns-clause-freed g c = λ t l ready.
    let is_ready = IsReady g.D.Disk.reads g.D.Disk.may_leave in
    let kept = without c.args.unit.now l in
    let before = ap (λ s. s.rest.file) c.self-inside.view_is ∙ ap (λ s. s.file) c.self.view_is in
    let inside = subst (λ b. is_ready b l) (sym before) ready in
    subst (λ b. is_ready b kept) (sym c.free_owner.ensures.file) (elim c.if-stands.branch [
      | then-stands+in_ok-free w ↦ subst (λ s. is_ready s.file kept) (sym w.self-is) (w.in_ok-free.ensures.freed t l inside)
      | else-stands w ↦ subst (λ s. is_ready s.file kept) (sym w.self-is)
          (subst (is_ready c.args.self.now.file) (sym (without_absent c.args.unit.now l (sym (w.if-stands.ensures.lists t l inside)))) ready)
    ])

pub returns-clause-known : goal.returns-clause-known
returns-clause-known g c =
    let unit = c.args.unit.now in
    let old = c.args.self.now.file in
    let before = ap (λ s. s.rest.file) c.self-inside.view_is ∙ ap (λ s. s.file) c.self.view_is in
    elim c.if-stands.branch [
      | then-stands+in_ok-free w ↦ without_freed unit old.units _
          (λ other. ap (λ f. is_known other f.units) c.free_owner.ensures.file ∙ ap (λ s. is_known other s.file.units) w.self-is
          ∙ w.in_ok-free.ensures.units other ∙ ap (λ b. not (same_unit unit other) && is_known other b.units) before)
      | else-stands w ↦ known_absent unit old.units _
          (sym (ap (λ b. is_known unit b.units) before) ∙ sym w.if-stands.ensures.units)
          (λ other. ap (λ f. is_known other f.units) c.free_owner.ensures.file ∙ ap (λ s. is_known other s.file.units) w.self-is)
    ]

pub returns-in_err-free-clause-images : goal.returns-in_err-free-clause-images
returns-in_err-free-clause-images g c = λ t l ready bytes may.
    let before = ap (λ s. s.rest.file) c.self-inside.view_is ∙ ap (λ s. s.file) c.self.view_is in
    let inside = subst (λ b. IsReady g.D.Disk.reads g.D.Disk.may_leave b l) (sym before) ready in
    c.free.ensures.images t l inside bytes may

pub returns-clause-images : goal.returns-clause-images
returns-clause-images g c = λ t l ready bytes may.
    let before = ap (λ s. s.rest.file) c.self-inside.view_is ∙ ap (λ s. s.file) c.self.view_is in
    let inside = subst (λ b. IsReady g.D.Disk.reads g.D.Disk.may_leave b l) (sym before) ready in
    let here = subst (λ b. g.D.Disk.may_leave b.disk bytes) c.free_owner.ensures.file may in
    elim c.if-stands.branch [
      | then-stands+in_ok-free w ↦ w.free.ensures.images t l inside bytes (subst (λ s. g.D.Disk.may_leave s.file.disk bytes) w.self-is here)
      | else-stands w ↦
          let may_here = subst (λ s. g.D.Disk.may_leave s.file.disk bytes) w.self-is here in
          inl (subst (λ b. Stands b l) (sym (ready.at_rest.durable bytes may_here)) ready.stands)
    ]
