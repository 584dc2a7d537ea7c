use Rattle.std.proofs.Common.{ap, subst, sym, ◌∙◌, inl, inr}
use Rattle.keeper_wal.specs.Meaning.{rows_in}
use Rattle.keeper_wal.specs.Wal.{WalView, IsOpen, known}
use Rattle.keeper_wal.proofs.Opened.{within, with_rows}
use Rattle.keeper_wal.proofs.wal_keeper.WalKeeperKeeper.room.Goals as goal

pub returns-clause-opened : goal.returns-clause-opened
returns-clause-opened g c =
    let D = g.D.Disk in
    with_rows D.tells D.reads D.may_leave (subst (IsOpen D.tells D.reads D.may_leave) (sym c.self.view_is) c.requires.opened) _ _ _
    (ap (λ r. known c.self.inside.is_known r (rows_in (D.reads c.self.inside.since.value))) c.room.ensures.rows)

pub returns-clause-crash : goal.returns-clause-crash
returns-clause-crash g c =
    let D = g.D.Disk in
    within D.tells D.reads D.may_leave c.args.self.now _ (returns-clause-opened g c)
    (λ t. inr (inl (ap (λ r. known c.self.inside.is_known r (rows_in (D.reads c.self.inside.since.value))) c.room.ensures.rows
    ∙ ap (λ (k : WalView g.row.D.Denot). k.rows) c.self.view_is)))

pub returns-in_err-room-clause-opened : goal.returns-in_err-room-clause-opened
returns-in_err-room-clause-opened g c =
    let D = g.D.Disk in
    with_rows D.tells D.reads D.may_leave (subst (IsOpen D.tells D.reads D.may_leave) (sym c.self.view_is) c.requires.opened) _ _ _
    (ap (λ r. known c.self.inside.is_known r (rows_in (D.reads c.self.inside.since.value))) c.room.ensures.rows)

pub returns-in_err-room-clause-crash : goal.returns-in_err-room-clause-crash
returns-in_err-room-clause-crash g c =
    let D = g.D.Disk in
    within D.tells D.reads D.may_leave c.args.self.now _ (returns-in_err-room-clause-opened g c)
    (λ t. inr (inl (ap (λ r. known c.self.inside.is_known r (rows_in (D.reads c.self.inside.since.value))) c.room.ensures.rows
    ∙ ap (λ (k : WalView g.row.D.Denot). k.rows) c.self.view_is)))
