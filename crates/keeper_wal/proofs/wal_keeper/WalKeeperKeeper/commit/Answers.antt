use Rattle.std.proofs.Common.{◌≡◌, ◌≤◌, ◌++◌, ◌∷◌, length, sym, ap, subst, ◌∙◌, inl}
use Rattle.std.proofs.lemmas.Result.{err_from_is_err_and}
use Rattle.gate_log.specs.Gates.{IsAtRest}
use Rattle.keeper_wal.specs.Spelling.{spelling}
use Rattle.keeper_wal.specs.Wal.{WalView}
use Rattle.keeper_wal.proofs.Committing.{spelled, either, ready_after, before_or_after, unchanged_leaves, failed_hand, done_hand, both_left}
use Rattle.keeper_wal.proofs.Settling.{is_open, image_stands}
use Rattle.keeper_wal.proofs.wal_keeper.WalKeeperKeeper.commit.Goals as goal

pub returns-then-not-waits-clause-alone : goal.returns-then-not-waits-clause-alone
returns-then-not-waits-clause-alone g c = λ t.
    let k = c.args.self.now in
    let D = g.D.Disk in
    image_stands (D.reads k.disk) (D.may_leave k.disk) k.gate k.rows (c.requires.opened.ready t)

pub returns-then-not-waits-clause-images : goal.returns-then-not-waits-clause-images
returns-then-not-waits-clause-images g c = λ t image left. inl (returns-then-not-waits-clause-alone g c t image left)

pub returns-then-not-waits-clause-either : goal.returns-then-not-waits-clause-either
returns-then-not-waits-clause-either g c =
    unchanged_leaves g.D.Disk.tells g.D.Disk.reads g.D.Disk.may_leave c.args._batch.now c.args.self.now c.requires.opened

pub returns-in_err-add-clause-images : goal.returns-in_err-add-clause-images
returns-in_err-add-clause-images g c = λ t image left.
    let k = c.args.self.now in
    let D = g.D.Disk in
    let batch = c.args._batch.now in
    let ready = c.requires.opened.ready t in
    let some : 1 ≤ length k.text = c.waits.ensures.0 c.if-not-waits.false in
    either D.reads D.may_leave k batch c.requires.room some ready image
    (c.add.ensures.images t ready.front (spelling batch) ready.at_rest (spelled D.reads D.may_leave k batch c.requires.room some) image left)

pub returns-in_err-add-clause-either : goal.returns-in_err-add-clause-either
returns-in_err-add-clause-either g c =
    before_or_after g.D.Disk.tells g.D.Disk.may_leave c.args._batch.now c.args.self.now.rows c.add.new.self c.add.ensures.since
    (failed_hand c.args._batch.now c.args.self.now.rows c.args.self.now.made c.add.new.self c.requires.room.made c.add.ensures.rows c.add.ensures.made)
    (returns-in_err-add-clause-images g c)

pub returns-in_err-add-clause-both : goal.returns-in_err-add-clause-both
returns-in_err-add-clause-both g c =
    let p = err_from_is_err_and c.from_residual.result c.from_residual.ensures.1 in
    rw p.1 (both_left g.D.Disk.tells g.D.Disk.may_leave c.args._batch.now c.args.self.now.rows c.args.self.now.made c.add.new.self c.requires.room.made
    c.add.ensures.rows c.add.ensures.made c.in_err-add.ensures.doubt)

pub returns-clause-images : goal.returns-clause-images
returns-clause-images g c = λ t image left.
    let k = c.args.self.now in
    let D = g.D.Disk in
    let batch = c.args._batch.now in
    let ready = c.requires.opened.ready t in
    let some : 1 ≤ length k.text = c.waits.ensures.0 c.if-not-waits.false in
    either D.reads D.may_leave k batch c.requires.room some ready image
    (c.add.ensures.images t ready.front (spelling batch) ready.at_rest (spelled D.reads D.may_leave k batch c.requires.room some) image
    (subst (λ (v : WalView g.row.D.Denot). D.may_leave v.disk image) c.make.ensures left))

-- a field of the keeper behind `make`, which leaves it
kept : {D A : Type 0} {v w : WalView D} (field : WalView D → A) → v ≡ w → field v ≡ field w
kept field e = ap field e

pub returns-clause-either : goal.returns-clause-either
returns-clause-either g c =
    let made = c.make.ensures in
    before_or_after g.D.Disk.tells g.D.Disk.may_leave c.args._batch.now c.args.self.now.rows c.make.new.self
    (kept (λ k. k.since) made ∙ c.add.ensures.since ∙ sym (kept (λ k. k.disk) made))
    (done_hand c.args._batch.now c.args.self.now.rows c.make.new.self (kept (λ k. k.rows) made ∙ c.add.ensures.made ∙ c.requires.room.made)
    (kept (λ k. k.in_doubt) made ∙ c.in_ok-add.ensures.sure))
    (returns-clause-images g c)

pub returns-clause-opened : goal.returns-clause-opened
returns-clause-opened g c =
    let k = c.args.self.now in
    let D = g.D.Disk in
    let batch = c.args._batch.now in
    let some : 1 ≤ length k.text = c.waits.ensures.0 c.if-not-waits.false in
    let made = c.make.ensures in
    is_open D.tells D.reads D.may_leave c.make.new.self (kept (λ k. k.is_open) made ∙ c.in_ok-add.ensures.opened)
    (kept (λ k. k.is_known) made ∙ c.add.ensures.still_read) (kept (λ k. k.in_doubt) made ∙ c.in_ok-add.ensures.sure)
    (kept (λ k. k.since) made ∙ c.add.ensures.since ∙ sym (kept (λ k. k.disk) made)) (λ t.
    let ready = c.requires.opened.ready t in
    let rest = c.in_ok-add.ensures.added t ready.front (spelling batch) ready.at_rest (spelled D.reads D.may_leave k batch c.requires.room some) in
    ready_after D.reads D.may_leave k batch c.requires.room some ready c.make.new.self (kept (λ k. k.rows) made ∙ c.add.ensures.made)
    (subst (λ (v : WalView g.row.D.Denot). IsAtRest (D.reads v.disk) (D.may_leave v.disk) v.gate (ready.front ++ 1 ∷ spelling batch)) (sym made) rest))

pub returns-clause-alone : goal.returns-clause-alone
returns-clause-alone g c = λ t.
    let D = g.D.Disk in
    let k = c.make.new.self in
    image_stands (D.reads k.disk) (D.may_leave k.disk) k.gate k.rows ((returns-clause-opened g c).ready t)
