use Rattle.std.proofs.Common.{arith}
use Rattle.std.proofs.lemmas.Result.{err_from_is_err_and}
use Rattle.lock_entry.specs.Table.{Table}
use Rattle.lock_table.proofs.HalfLists.{Tested, bar-asked, tested-Full, tested-Count, tested-counts, tested-Ok}
use Rattle.lock_table.proofs.asks.plan_grant.Goals as goal

pub returns-in_err-halves-clause-refused : goal.returns-in_err-halves-clause-refused
returns-in_err-halves-clause-refused c =
    let t : Table = record { entries = c.args.entries.now; limit = c.args.limit } in
    let p = err_from_is_err_and c.from_residual.result c.from_residual.ensures.1 in
    rw (p.1, p.2) (bar-asked t c.args.asker.now c.args.user.now c.args.requests.now c.in_err-halves.field-0.0 c.in_err-halves.ensures.refused)

pub returns-then-is_full-clause-refused : goal.returns-then-is_full-clause-refused
returns-then-is_full-clause-refused c =
    let t : Table = record { entries = c.args.entries.now; limit = c.args.limit } in
    let w : Tested t c.args.asker.now c.args.user.now c.args.requests.now c.in_ok-halves.halves.items c.in_ok-added.added.items =
    record { free = c.in_ok-halves.ensures.free; halves_are = c.in_ok-halves.ensures.halves; adds = rw c.as_slice.ensures.value at c.in_ok-added.ensures } in
    tested-Full _ _ _ _ _ _ w c.len.result (omega arith) c.if-is_full.ensures

pub returns-then-is_over-clause-refused : goal.returns-then-is_over-clause-refused
returns-then-is_over-clause-refused c =
    let t : Table = record { entries = c.args.entries.now; limit = c.args.limit } in
    let w : Tested t c.args.asker.now c.args.user.now c.args.requests.now c.in_ok-halves.halves.items c.in_ok-added.added.items =
    record { free = c.in_ok-halves.ensures.free; halves_are = c.in_ok-halves.ensures.halves; adds = rw c.as_slice.ensures.value at c.in_ok-added.ensures } in
    tested-Count _ _ _ _ _ _ w c.len.result (omega arith) c.if-is_full.ensures (rw c.as_slice-2.ensures.value at c.if-is_over.ensures)

pub returns-clause-counts : goal.returns-clause-counts
returns-clause-counts c =
    let t : Table = record { entries = c.args.entries.now; limit = c.args.limit } in
    let w : Tested t c.args.asker.now c.args.user.now c.args.requests.now c.in_ok-halves.halves.items c.in_ok-added.added.items =
    record { free = c.in_ok-halves.ensures.free; halves_are = c.in_ok-halves.ensures.halves; adds = rw c.as_slice.ensures.value at c.in_ok-added.ensures } in
    tested-counts _ _ _ _ _ _ w (rw c.as_slice-2.ensures.value at c.if-is_over.ensures)

pub returns-clause-granted : goal.returns-clause-granted
returns-clause-granted c =
    let t : Table = record { entries = c.args.entries.now; limit = c.args.limit } in
    let w : Tested t c.args.asker.now c.args.user.now c.args.requests.now c.in_ok-halves.halves.items c.in_ok-added.added.items =
    record { free = c.in_ok-halves.ensures.free; halves_are = c.in_ok-halves.ensures.halves; adds = rw c.as_slice.ensures.value at c.in_ok-added.ensures } in
    tested-Ok _ _ _ _ _ _ w c.len.result (omega arith) c.if-is_full.ensures (rw c.as_slice-2.ensures.value at c.if-is_over.ensures)
