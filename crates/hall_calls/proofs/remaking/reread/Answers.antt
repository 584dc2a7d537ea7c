use Rattle.std.proofs.Common.{◌≡◌, ◌∙◌, false, IfSome, sym, ap, subst}
use Rattle.std.specs.Prelude.{IsSomeAnd}
use Rattle.std.proofs.lemmas.Result.{IfErr-weaker, IfOk-weaker}
use Rattle.posting.specs.Settling.{IsSettled, OnOther, StandForOther}
use Rattle.hall_model.specs.History.{known_behind}
use Rattle.hall_model.specs.Unsound.{is_unsound_store}
use Rattle.hall_calls.specs.Remaking.{IsFoundRight, IsNotTaken, IsTakenUp, IsUnreadInDoubt, IsUsableAs, LeavesKnown, flight_over, ledger_read, remade_reply, taken_in}
use Rattle.ledger_steps.specs.Levels.{intervals_of}
use Rattle.ledger_steps.specs.Views.{open_locks}
use Rattle.hall_calls.proofs.lemmas.StoreRead.{differs, not_taken, not_taken_sound, read_leaves, read_sound, settled_anew, unread_known, unread_told}
use Rattle.hall_calls.proofs.remaking.reread.Goals as goal

pub returns-in-Err-clause-unread : goal.returns-in-Err-clause-unread
returns-in-Err-clause-unread g c =
    let old = c.args.books.now in
    let new = c.reread.new.self in
    let failure = c.args.basis.now.failure.now in
    let told = unread_told (intervals_of c.args.basis.now.ranges.now) c.in-Err.fault c.store_refusal.result (g.K.Keeper.faults old.keeper)
    (g.K.Keeper.faults new.keeper)
    c.store_refusal.ensures c.in-Err.ensures.cause in
    record {
      why = told.0;
      flight = tt;
      known = tt;
      cause = told.1;
      left = unread_known g.K.Keeper.held g.K.Keeper.may_leave old.keeper new.keeper failure.found old.ledger (flight_over old.ledger failure)
          c.reread.ensures.told c.reread.ensures.left c.requires.left;
    }

pub returns-in-Err-clause-good_store : goal.returns-in-Err-clause-good_store
returns-in-Err-clause-good_store g c = λ told.
    let held = g.K.Keeper.held in
    let old = c.args.books.now in
    let new = c.reread.new.self in
    read_sound (held new.keeper) (held old.keeper) (g.K.Keeper.may_leave old.keeper) old.ledger c.args.basis.now.failure.now
    (intervals_of c.args.basis.now.ranges.now)
    c.in-Err.fault c.store_refusal.result
    c.store_refusal.ensures c.reread.ensures.told told c.requires.left c.in-Err.ensures.found_rows c.in-Err.ensures.fault
    (subst (λ change. OnOther c.in-Err.fault (λ ledger. IfSome (held new.keeper) (λ rows. StandForOther rows old.ledger change ledger)))
    c.as_ref.ensures.value c.in-Err.ensures.other)

-- ---- a store that is read

pub returns-in-Ok : goal.returns-in-Ok
returns-in-Ok g c =
    let held = g.K.Keeper.held in
    let may_leave = g.K.Keeper.may_leave in
    let old = c.args.books.now in
    let new = c.reread.new.self in
    let failure = c.args.basis.now.failure.now in
    let found = c.in-Ok.reread in
    let read = c.reread.ensures in
    let flight = flight_over old.ledger failure in
    let is = subst (λ change. IsSettled old.ledger change found.taken found.ledger) c.as_ref.ensures.value c.in-Ok.ensures.found in
    let left = read_leaves held g.K.Keeper.is_open may_leave new g.met.K.Keeper.settled old.ledger found.ledger failure.in_flight found.taken
    c.in-Ok.ensures.usable is in
    let taken = c.taken_up.ensures.taken in
    record {
      units = IfOk-weaker c.taken_up.result (λ w. IsTakenUp failure.found found w.units.items w.reread)
          (λ w. w.units.items ≡ open_locks (ledger_read old.ledger w.reread))
          (λ w up. up.waiting ∙ ap (λ o. open_locks (ledger_read old.ledger o)) (sym up.all)) taken;
      read = IfOk-weaker c.taken_up.result (λ w. IsTakenUp failure.found found w.units.items w.reread)
          (λ w. IsSomeAnd w.reread (IsFoundRight old.ledger failure))
          (λ w up. subst (λ o. IsSomeAnd o (IsFoundRight old.ledger failure)) (sym up.all) (record {
            ledger = settled_anew old.ledger found.ledger failure.in_flight found.taken is;
            flight = differs old.ledger found.ledger failure.in_flight found.taken is;
            known = up.known;
          })) taken;
      usable = IfOk-weaker c.taken_up.result (λ w. IsTakenUp failure.found found w.units.items w.reread) (λ w. IsUsableAs held g.K.Keeper.is_open new w.reread)
          (λ w up. subst (IsUsableAs held g.K.Keeper.is_open new) (sym up.all) c.in-Ok.ensures.usable) taken;
      counts = IfOk-weaker c.taken_up.result (λ w. IsTakenUp failure.found found w.units.items w.reread)
          (λ w. g.K.Keeper.faults new.keeper ≡ g.K.Keeper.faults old.keeper) (λ w up. c.in-Ok.ensures.counts) taken;
      left = IfOk-weaker c.taken_up.result (λ w. IsTakenUp failure.found found w.units.items w.reread)
          (λ w. LeavesKnown held may_leave new.keeper (known_behind failure.found (taken_in w.reread)) old.ledger flight)
          (λ w up. subst (λ o. LeavesKnown held may_leave new.keeper (known_behind failure.found (taken_in o)) old.ledger flight) (sym up.all) left) taken;
      unread = IfErr-weaker c.taken_up.result (IsNotTaken failure.found found.taken) (IsUnreadInDoubt held may_leave g.K.Keeper.faults failure old new)
          (not_taken held may_leave g.K.Keeper.faults failure old new found is read.told read.left c.in-Ok.ensures.counts c.requires.left left)
          c.taken_up.ensures.refused;
      good_store = λ told. IfErr-weaker c.taken_up.result (IsNotTaken failure.found found.taken) (λ remade. is_unsound_store (remade_reply remade) ≡ false)
          (not_taken_sound held may_leave g.K.Keeper.faults failure old new found is read.told told c.requires.left c.in-Ok.ensures.stood c.requires.known)
          c.taken_up.ensures.refused;
      ledger = read.kept;
      told = read.told;
      within = read.left;
    }
