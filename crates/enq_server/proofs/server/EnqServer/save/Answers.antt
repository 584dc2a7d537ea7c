use Rattle.std.proofs.Common.{◌⊎◌, ◌||◌, ◌≤◌, ◌<◌, List, length, inl, ap, sym, subst, ◌∙◌, arith}
use Rattle.lock_entry.specs.declared.entry.Entry.{Entry}
use Rattle.backup_file.specs.Backup.{IsReady}
use Rattle.backup_file.specs.File.{Stands}
use Rattle.backup_file.specs.Lists.{is_known}
use Rattle.enq_base.specs.Owners.{same_unit}
use Rattle.enq_server.specs.Server.{lasting, of_user, table_of, with_list}
use Rattle.enq_server.proofs.lemmas.Known.{with_none, with_written}
use Rattle.enq_server.proofs.Lasting.{length-user, listed, listed_either, unlisted}
use Rattle.enq_server.proofs.server.EnqServer.save.Goals as goal
use Rattle.enq_server.proofs.server.EnqServer.save.Goals.{then-count-gt0+in_ok-hand, else-count-gt0}

pub returns-in_err-hand-clause-images : goal.returns-in_err-hand-clause-images
returns-in_err-hand-clause-images g c = λ t l ready bytes may.
    let written : List Entry → List Entry = λ es. of_user c.args.user.now (lasting c.args.unit.now es) in
    let before = ap (λ s. s.rest.file) c.self-inside.view_is ∙ ap (λ s. s.file) c.self.view_is in
    let inside = subst (λ b. IsReady g.D.Disk.reads g.D.Disk.may_leave b l) (sym before) ready in
    let are =
    c.as_slice.ensures.value
    ∙ c.in_ok-entries.ensures.entries
    ∙ ap (λ s. written (table_of g.T.LockStore.table s.table).entries) c.self-inside.view_is
    ∙ ap (λ s. written s.table.entries) c.self.view_is in
    subst (λ es. Stands bytes l ⊎ Stands bytes (with_list c.args.unit.now es l)) are
    (listed_either c.args.unit.now c.as_slice.result.now l bytes (omega (arith, c.as_slice.ensures.len, c.len.ensures, c.in-Ok.ensures.1, c.if-count-gt0.true))
    (c.hand.ensures.images t l inside bytes may))

pub returns-clause-images : goal.returns-clause-images
returns-clause-images g c = λ t l ready bytes may.
    let written : List Entry → List Entry = λ es. of_user c.args.user.now (lasting c.args.unit.now es) in
    let before = ap (λ s. s.rest.file) c.self-inside.view_is ∙ ap (λ s. s.file) c.self.view_is in
    let inside = subst (λ b. IsReady g.D.Disk.reads g.D.Disk.may_leave b l) (sym before) ready in
    elim c.if-count-gt0.branch [
      | then-count-gt0+in_ok-hand w ↦
          let are =
          w.as_slice.ensures.value
          ∙ c.in_ok-entries.ensures.entries
          ∙ ap (λ s. written (table_of g.T.LockStore.table s.table).entries) c.self-inside.view_is
          ∙ ap (λ s. written s.table.entries) c.self.view_is in
          let may_here = subst (λ s. g.D.Disk.may_leave s.file.disk bytes) w.self-is may in
          subst (λ es. Stands bytes l ⊎ Stands bytes (with_list c.args.unit.now es l)) are
          (listed_either c.args.unit.now w.as_slice.result.now l bytes
          (omega (arith, w.as_slice.ensures.len, c.len.ensures, c.in-Ok.ensures.1, w.if-count-gt0.true)) (w.hand.ensures.images t l inside bytes may_here))
      | else-count-gt0 w ↦
          let may_here = subst (λ s. g.D.Disk.may_leave s.file.disk bytes) w.self-is may in
          inl (subst (λ b. Stands b l) (sym (ready.at_rest.durable bytes may_here)) ready.stands)
    ]

pub returns-clause-known : goal.returns-clause-known
returns-clause-known g c =
    let unit = c.args.unit.now in
    let own : List Entry = lasting unit c.args.self.now.table.entries in
    let before = ap (λ s. s.rest.file) c.self-inside.view_is ∙ ap (λ s. s.file) c.self.view_is in
    let long =
    ap length (c.in_ok-entries.ensures.entries
    ∙ ap (λ s. of_user c.args.user.now (lasting unit (table_of g.T.LockStore.table s.table).entries)) c.self-inside.view_is
    ∙ ap (λ s. of_user c.args.user.now (lasting unit s.table.entries)) c.self.view_is) ∙ length-user c.args.user.now own in
    elim c.if-count-gt0.branch [
      | then-count-gt0+in_ok-hand w ↦ with_written unit own c.args.self.now.file.units _
          (omega (arith, long, c.len.ensures, c.in-Ok.ensures.1, w.if-count-gt0.true))
          (λ other. ap (λ s. is_known other s.file.units) w.self-is ∙ w.in_ok-hand.ensures.units other
          ∙ ap (λ b. same_unit unit other || is_known other b.units) before)
      | else-count-gt0 w ↦ with_none unit own c.args.self.now.file.units _
          (omega (arith, long, c.len.ensures, c.in-Ok.ensures.1, w.if-count-gt0.false)) (λ other. ap (λ s. is_known other s.file.units) w.self-is)
    ]

pub returns-clause-saved : goal.returns-clause-saved
returns-clause-saved g c = λ t l ready.
    let is_ready = IsReady g.D.Disk.reads g.D.Disk.may_leave in
    let unit = c.args.unit.now in
    let own : List Entry = of_user c.args.user.now (lasting unit c.args.self.now.table.entries) in
    let before = ap (λ s. s.rest.file) c.self-inside.view_is ∙ ap (λ s. s.file) c.self.view_is in
    let inside = subst (λ b. is_ready b l) (sym before) ready in
    let are =
    c.in_ok-entries.ensures.entries
    ∙ ap (λ s. of_user c.args.user.now (lasting unit (table_of g.T.LockStore.table s.table).entries)) c.self-inside.view_is
    ∙ ap (λ s. of_user c.args.user.now (lasting unit s.table.entries)) c.self.view_is in
    elim c.if-count-gt0.branch [
      | then-count-gt0+in_ok-hand w ↦
          let some : 1 ≤ length w.as_slice.result.now = omega (arith, w.as_slice.ensures.len, c.len.ensures, c.in-Ok.ensures.1, w.if-count-gt0.true) in
          subst (λ s. is_ready s.file (with_list unit own l)) (sym w.self-is)
          (subst (λ es. is_ready w.hand.new.self (with_list unit es l)) (w.as_slice.ensures.value ∙ are)
          (subst (is_ready w.hand.new.self) (sym (listed unit w.as_slice.result.now l some)) (w.in_ok-hand.ensures.handed t l inside)))
      | else-count-gt0 w ↦
          let none : length own < 1 = omega (arith, ap length are, c.len.ensures, c.in-Ok.ensures.1, w.if-count-gt0.false) in
          subst (λ s. is_ready s.file (with_list unit own l)) (sym w.self-is)
          (subst (is_ready c.args.self.now.file) (sym (unlisted unit own l none)) ready)
    ]
