use Rattle.std.proofs.Common.{◌≡◌, ap, subst, sym, ◌∙◌}
use Rattle.bk_disk.specs.Disk.{Follows}
use Rattle.keeper_wal.specs.Journal.{SameRows, Stands, AllStand}
use Rattle.keeper_wal.specs.Wal.{WalView, Leaves, IsRemembered, if_told}
use Rattle.keeper_wal.proofs.Opened.{all_stand, remembered, found_left, within}
use Rattle.keeper_wal.proofs.Settling.{is_open, image_stands}
use Rattle.keeper_wal.proofs.wal_keeper.WalKeeperKeeper.reopen.Goals as goal

-- the disk of a keeper
disk_of : {D : Type 0} {v w : WalView D} → v ≡ w → v.disk ≡ w.disk
disk_of e = ap (λ k. k.disk) e

pub invariant_of-self : goal.invariant_of-self
invariant_of-self g c = λ t.
    let images = g.D.Disk.may_leave in
    remembered (images c.self.inside.since.value) (images c.self.inside.disk) (images c.open_journal.new.disk) (c.self.invariant t)
    (c.open_journal.ensures.images t)

pub invariant_of-self-in-Err-Bad : goal.invariant_of-self-in-Err-Bad
invariant_of-self-in-Err-Bad g c = λ t.
    let images = g.D.Disk.may_leave in
    remembered (images c.self.inside.since.value) (images c.self.inside.disk) (images c.open_journal.new.disk) (c.self.invariant t)
    (c.open_journal.ensures.images t)

pub invariant_of-self-in-Err-Failed : goal.invariant_of-self-in-Err-Failed
invariant_of-self-in-Err-Failed g c = λ t.
    let images = g.D.Disk.may_leave in
    remembered (images c.self.inside.since.value) (images c.self.inside.disk) (images c.open_journal.new.disk) (c.self.invariant t)
    (c.open_journal.ensures.images t)

pub invariant_of-self-in-Err-NoMemory : goal.invariant_of-self-in-Err-NoMemory
invariant_of-self-in-Err-NoMemory g c = λ t.
    let images = g.D.Disk.may_leave in
    remembered (images c.self.inside.since.value) (images c.self.inside.disk) (images c.open_journal.new.disk) (c.self.invariant t)
    (c.open_journal.ensures.images t)

pub returns-in-Ok-clause-opened : goal.returns-in-Ok-clause-opened
returns-in-Ok-clause-opened g c =
    let D = g.D.Disk in
    is_open D.tells D.reads D.may_leave c.take.new.self c.take.ensures.opened c.take.ensures.was_read c.take.ensures.doubt
    (c.take.ensures.since ∙ sym c.take.ensures.disk)
    (λ t. rw (c.take.ensures.disk, c.take.ensures.gate, c.take.ensures.rows) (c.in-Ok.ensures.at_rest t))

pub returns-in-Ok-clause-found : goal.returns-in-Ok-clause-found
returns-in-Ok-clause-found g c =
    let D = g.D.Disk in
    let old = c.args.self.now in
    let rows = c.in-Ok.found.rows.rows in
    let same = c.self.view_is ∙ c.shut.ensures in
    let is = subst (λ (v : WalView g.row.D.Denot). IsRemembered D.tells D.may_leave v.since v.disk) same c.self.invariant in
    let left = found_left D.tells D.may_leave old is D.reads g.met.D.Disk.reads_left rows
    (λ t. subst (λ d. Stands (D.reads d) rows) (disk_of same) (c.in-Ok.ensures.found t)) in
    if_told D.tells c.take.new.self.rows (Leaves D.tells D.may_leave old) (λ told. subst (Leaves D.tells D.may_leave old) (sym c.take.ensures.rows) left)

pub returns-in-Ok-clause-crash : goal.returns-in-Ok-clause-crash
returns-in-Ok-clause-crash g c =
    let D = g.D.Disk in
    let old = c.args.self.now in
    let rows = c.in-Ok.found.rows.rows in
    let same = c.self.view_is ∙ c.shut.ensures in
    let is = subst (λ (v : WalView g.row.D.Denot). IsRemembered D.tells D.may_leave v.since v.disk) same c.self.invariant in
    let left = found_left D.tells D.may_leave old is D.reads g.met.D.Disk.reads_left rows
    (λ t. subst (λ d. Stands (D.reads d) rows) (disk_of same) (c.in-Ok.ensures.found t)) in
    within D.tells D.reads D.may_leave old c.take.new.self (returns-in-Ok-clause-opened g c)
    (subst (Leaves D.tells D.may_leave old) (sym c.take.ensures.rows) left)

pub returns-in-Ok-clause-alone : goal.returns-in-Ok-clause-alone
returns-in-Ok-clause-alone g c = λ t.
    let D = g.D.Disk in
    let k = c.take.new.self in
    image_stands (D.reads k.disk) (D.may_leave k.disk) k.gate k.rows ((returns-in-Ok-clause-opened g c).ready t)

pub returns-in-Ok-clause-images : goal.returns-in-Ok-clause-images
returns-in-Ok-clause-images g c = λ t stand image left. (c.take.new.self.rows, returns-in-Ok-clause-alone g c t image left)

pub returns-in-Err-Failed-clause-images : goal.returns-in-Err-Failed-clause-images
returns-in-Err-Failed-clause-images g c = λ t.
    let images = g.D.Disk.may_leave in
    let new = c.open_journal.new.disk in
    all_stand (images c.args.self.now.disk) (images new)
    (subst (λ d. Follows SameRows (images d) (images new)) (disk_of (c.self.view_is ∙ c.shut.ensures)) (c.open_journal.ensures.images t))

pub returns-in-Err-NoMemory-clause-images : goal.returns-in-Err-NoMemory-clause-images
returns-in-Err-NoMemory-clause-images g c = λ t.
    let images = g.D.Disk.may_leave in
    let new = c.open_journal.new.disk in
    all_stand (images c.args.self.now.disk) (images new)
    (subst (λ d. Follows SameRows (images d) (images new)) (disk_of (c.self.view_is ∙ c.shut.ensures)) (c.open_journal.ensures.images t))

pub returns-in-Err-Bad-clause-images : goal.returns-in-Err-Bad-clause-images
returns-in-Err-Bad-clause-images g c = λ t.
    let images = g.D.Disk.may_leave in
    let new = c.open_journal.new.disk in
    subst (λ d. AllStand (images c.args.self.now.disk) → AllStand (images d)) (sym (disk_of c.refuse.ensures.counted))
    (all_stand (images c.args.self.now.disk) (images new)
    (subst (λ d. Follows SameRows (images d) (images new)) (disk_of (c.self.view_is ∙ c.shut.ensures)) (c.open_journal.ensures.images t)))
