use Rattle.std.proofs.Common.{◌≡◌, ◌∙◌, inl, refl, sym, ap, subst, is_some, true}
use Rattle.std.specs.Prelude.{IfSome}
use Rattle.keeper_api.specs.Keeping.{IsWithin}
use Rattle.keeper_api.specs.Rows.{Rows}
use Rattle.posting.specs.Reopening.{HasStood, MayBeLeftBy}
use Rattle.ledger_steps.specs.Starts.{IsRaised}
use Rattle.ledger_steps.specs.Levels.{intervals_of}
use Rattle.store_reading.specs.Good.{IsSound}
use Rattle.hall.proofs.Refused.{books_file, books_file_counts, books_left, books_why, err_more, err_two, held_more, images_stay, late_bad, late_counts}
use Rattle.hall.proofs.Refused.{late_file, late_kept, late_left, late_may, late_why, ok_more, ok_two, where_held}
use Rattle.hall.specs.Faults.{CountsFileFault, IsBadFile, IsHallFault, IsLateFault, LeavesFileOf}
use Rattle.hall_model.specs.State.{State, opened}
use Rattle.hall.proofs.hall.Hall.open.Goals as goal

pub returns-clause-state : goal.returns-clause-state
returns-clause-state g c =
    let locks = c.args.max_locks in
    let marks = c.args.max_marks in
    let intervals = c.args.intervals.items in
    let told = is_some (g.K.Keeper.held c.args.keeper) in
    let link = is_some (g.L.Link.applied c.args.link) in
    let books = c.in-Ok-open.books in
    let are : intervals_of c.in-Ok-new.ranges ≡ intervals = c.in-Ok-new.ensures ∙ c.as_slice.ensures.value in
    ok_more c.over.result _ _
    (λ hall h.
    let is : hall.state ≡ opened locks marks intervals told link books.ledger =
    h ∙ (λ i. opened locks marks (are i) (c.in-Ok-open.ensures.told i) link books.ledger) in
    is ∙ ap (λ (s : State). opened locks marks intervals told link s.stored) (sym is))
    c.over.ensures.state

pub returns-clause-stored : goal.returns-clause-stored
returns-clause-stored g c =
    let held = g.K.Keeper.held in
    let stood = HasStood (g.K.Keeper.may_leave c.args.keeper) in
    ok_two c.over.result _ _ _
    (λ hall h k.
    subst (λ q. IfSome (held q) (λ _. IsRaised stood true hall.state.stored)) (sym k)
    (subst (λ l. IfSome (held c.in-Ok-open.books.keeper) (λ _. IsRaised stood true l)) (sym (ap (λ (s : State). s.stored) h)) c.in-Ok-open.ensures.ledger))
    c.over.ensures.state c.over.ensures.keeper

pub returns-clause-sound : goal.returns-clause-sound
returns-clause-sound g c =
    ok_more c.over.result _ _ (λ hall h. subst (IsRaised IsSound true) (sym (ap (λ (s : State). s.stored) h)) c.in-Ok-open.ensures.sound) c.over.ensures.state

pub returns-clause-begun : goal.returns-clause-begun
returns-clause-begun g c =
    let held = g.K.Keeper.held in
    let leaves = g.K.Keeper.may_leave in
    ok_more c.over.result _ _
    (λ hall k.
    subst (λ q. IfSome (held q) (λ _. (left : Rows) → leaves q left → MayBeLeftBy (leaves c.args.keeper) true left)) (sym k) c.in-Ok-open.ensures.left)
    c.over.ensures.keeper

pub returns-clause-fault : goal.returns-clause-fault
returns-clause-fault g c =
    let held = g.K.Keeper.held in
    let before = g.K.Keeper.may_leave c.args.keeper in
    let tells = g.D.Disk.tells in
    let bytes = g.D.Disk.reads c.args.disk in
    let intervals = c.args.intervals.items in
    let books = c.in-Ok-open.books in
    let are : intervals_of c.in-Ok-new.ranges ≡ intervals = c.in-Ok-new.ensures ∙ c.as_slice.ensures.value in
    err_two c.over.result _ _ _
    (λ e f k.
    subst (λ q. IfSome (held q) (λ rows. IsHallFault intervals before rows e.0)) (sym k)
    (where_held (held books.keeper) _ _
    (λ rows stood. late_why intervals before rows books.ledger tells bytes e.0 stood (subst (λ is. IsLateFault is books.ledger tells bytes e.0) are f))
    c.in-Ok-open.ensures.ledger))
    c.over.ensures.fault c.over.ensures.kept

pub returns-clause-untold_fault : goal.returns-clause-untold_fault
returns-clause-untold_fault g c =
    err_more c.over.result _ _
    (λ e f. late_may (intervals_of c.in-Ok-new.ranges) c.in-Ok-open.books.ledger g.D.Disk.tells (g.D.Disk.reads c.args.disk) e.0 f)
    c.over.ensures.fault

pub returns-clause-found : goal.returns-clause-found
returns-clause-found g c =
    err_more c.over.result _ _
    (λ e f. late_bad (intervals_of c.in-Ok-new.ranges) c.in-Ok-open.books.ledger g.D.Disk.tells (g.D.Disk.reads c.args.disk) e.0
    (IfSome (g.K.Keeper.held e.1) (g.K.Keeper.may_leave c.args.keeper)) f)
    c.over.ensures.fault

pub returns-clause-unchanged : goal.returns-clause-unchanged
returns-clause-unchanged g c =
    err_more c.over.result _ _
    (λ e f. late_kept (intervals_of c.in-Ok-new.ranges) c.in-Ok-open.books.ledger g.D.Disk.tells (g.D.Disk.reads c.args.disk) e.0
    (IsWithin (g.K.Keeper.may_leave e.1) (g.K.Keeper.may_leave c.args.keeper)) f)
    c.over.ensures.fault

pub returns-clause-cause : goal.returns-clause-cause
returns-clause-cause g c =
    let faults = g.K.Keeper.faults in
    err_two c.over.result _ _ _
    (λ e f k. late_counts (intervals_of c.in-Ok-new.ranges) c.in-Ok-open.books.ledger g.D.Disk.tells (g.D.Disk.reads c.args.disk) e.0 (faults c.args.keeper)
    (faults e.1) f
    (ap faults k ∙ c.in-Ok-open.ensures.counts))
    c.over.ensures.fault c.over.ensures.kept

pub returns-clause-file_fault : goal.returns-clause-file_fault
returns-clause-file_fault g c = λ t.
    let held = g.K.Keeper.held in
    let before = g.K.Keeper.may_leave c.args.keeper in
    let books = c.in-Ok-open.books in
    let are : intervals_of c.in-Ok-new.ranges ≡ c.args.intervals.items = c.in-Ok-new.ensures ∙ c.as_slice.ensures.value in
    err_two c.over.result _ _ _
    (λ e f k. subst (λ is. IsBadFile is (held e.1) before (g.D.Disk.reads c.args.disk) e.0) are
    (late_file (intervals_of c.in-Ok-new.ranges) books.ledger (held e.1) before g.D.Disk.tells (g.D.Disk.reads c.args.disk) e.0 c.in-Ok-open.ensures.sound
    (subst (λ q. IfSome (held q) (λ _. IsRaised (HasStood before) true books.ledger)) (sym k) c.in-Ok-open.ensures.ledger) t f))
    c.over.ensures.fault c.over.ensures.kept

pub returns-clause-images : goal.returns-clause-images
returns-clause-images g c = λ t.
    let held = g.K.Keeper.held in
    let before = g.K.Keeper.may_leave c.args.keeper in
    let may_leave = g.D.Disk.may_leave in
    let books = c.in-Ok-open.books in
    err_two c.over.result _ _ _
    (λ e f k. late_left books.ledger (held e.1) before e.0 (may_leave c.args.disk) (may_leave e.2) c.in-Ok-open.ensures.sound
    (subst (λ q. IfSome (held q) (λ _. IsRaised (HasStood before) true books.ledger)) (sym k) c.in-Ok-open.ensures.ledger) f)
    (c.over.ensures.images t) c.over.ensures.kept

pub returns-in_default-clause-images : goal.returns-in_default-clause-images
returns-in_default-clause-images g c = λ t. inl (images_stay (g.D.Disk.may_leave c.args.disk))

pub returns-in_default-new-clause-images : goal.returns-in_default-new-clause-images
returns-in_default-new-clause-images g c = λ t. inl (images_stay (g.D.Disk.may_leave c.args.disk))

pub returns-in-Err-clause-images : goal.returns-in-Err-clause-images
returns-in-Err-clause-images g c = λ t.
    let images = g.D.Disk.may_leave c.args.disk in
    subst (λ f. LeavesFileOf (g.K.Keeper.held c.in-Err.keeper) (g.K.Keeper.may_leave c.args.keeper) f images images) (sym c.fault_of.ensures)
    (books_left (g.K.Keeper.held c.in-Err.keeper) (g.K.Keeper.may_leave c.args.keeper) c.in-Err.fault images)

pub returns-in-Err-clause-file_fault : goal.returns-in-Err-clause-file_fault
returns-in-Err-clause-file_fault g c = λ t.
    let told = g.K.Keeper.held c.in-Err.keeper in
    let before = g.K.Keeper.may_leave c.args.keeper in
    let bytes = g.D.Disk.reads c.args.disk in
    let intervals = c.args.intervals.items in
    subst (IsBadFile intervals told before bytes) (sym c.fault_of.ensures) (books_file intervals told before bytes c.in-Err.fault)

pub returns-in-Err-clause-file_cause : goal.returns-in-Err-clause-file_cause
returns-in-Err-clause-file_cause g c =
    let count = g.D.Disk.faults c.args.disk in
    subst (λ f. CountsFileFault f count count) (sym c.fault_of.ensures) (books_file_counts c.in-Err.fault count count refl)

pub returns-in-Err-clause-fault : goal.returns-in-Err-clause-fault
returns-in-Err-clause-fault g c =
    let held = g.K.Keeper.held in
    let before = g.K.Keeper.may_leave c.args.keeper in
    let intervals = c.args.intervals.items in
    subst (λ f. IfSome (held c.in-Err.keeper) (λ rows. IsHallFault intervals before rows f)) (sym c.fault_of.ensures)
    (held_more (held c.in-Err.keeper) _ _ (λ rows h. books_why intervals before rows c.in-Err.fault h) c.in-Err.ensures.fault)
