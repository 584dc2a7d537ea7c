use Rattle.std.proofs.Common.{inl, inr}
use Rattle.std.proofs.Math.Logic.{∥∥₁_map}
use Rattle.wal_server.proofs.Pairs.{of_landscape, of_load, of_threads, told_some}
use Rattle.wal_server.proofs.journal_main.Goals as goal

pub returns-clause-served : goal.returns-clause-served
returns-clause-served g c = λ word journal_told disk_told.
    elim (c.enqueue_main-ended.ensures.served word) [
      | inl h ↦ inl (of_landscape (told_some g.E.Disk.tells c.args.site.keeper.rows journal_told) disk_told
          (g.E.Disk.may_leave c.enqueue_main-ended.result.site.keeper.disk)
          c.images_tell.ensures.stands c.images_tell.ensures.breaks h)
      | inr none ↦ inr none
    ]

pub returns-clause-loaded : goal.returns-clause-loaded
returns-clause-loaded g c = λ n word journal_told disk_told.
    elim (c.enqueue_main-ended.ensures.loaded n word) [
      | inl h ↦ inl (of_load (told_some g.E.Disk.tells c.args.site.keeper.rows journal_told) disk_told
          (g.E.Disk.may_leave c.enqueue_main-ended.result.site.keeper.disk)
          c.images_tell.ensures.stands c.images_tell.ensures.breaks h)
      | inr none ↦ inr none
    ]

pub returns-clause-threads : goal.returns-clause-threads
returns-clause-threads g c = λ n word journal_told disk_told.
    elim (c.enqueue_main-ended.ensures.threads n word) [
      | inl h ↦ inl (∥∥₁_map h
          (of_threads (told_some g.E.Disk.tells c.args.site.keeper.rows journal_told) disk_told
          (g.E.Disk.may_leave c.enqueue_main-ended.result.site.keeper.disk)
          c.images_tell.ensures.stands c.images_tell.ensures.breaks))
      | inr none ↦ inr none
    ]
