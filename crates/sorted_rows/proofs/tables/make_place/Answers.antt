use Rattle.std.proofs.Common.{◌∙◌, arith}
use Rattle.sorted_rows.proofs.Rooms.{place_set, place_taken, entries_same}
use Rattle.sorted_rows.proofs.tables.make_place.Goals as goal

pub returns-in_err-reserve-clause-same : goal.returns-in_err-reserve-clause-same
returns-in_err-reserve-clause-same c =
    entries_same 0 c.args.table c.open_table.new.tables.items c.index_mut.result.now c.reserve.new.self
    (omega (arith, c.in_ok-open_table.ensures.there)) c.index_mut.ensures.value c.reserve.ensures.items
    ∙ c.open_table.ensures.same

pub returns-in_err-reserve-clause-room : goal.returns-in_err-reserve-clause-room
returns-in_err-reserve-clause-room c = λ m other place.
    place_set m m c.args.table other c.open_table.new.tables.items c.index_mut.result.now c.reserve.new.self (omega arith) c.index_mut.ensures.value
    (λ h. omega (arith, c.reserve.ensures.len, c.reserve.ensures.capacity))
    (c.open_table.ensures.room m other place)

pub returns-clause-place : goal.returns-clause-place
returns-clause-place c =
    place_taken c.args.n c.args.table c.open_table.new.tables.items c.reserve.new.self
    (omega (arith, c.in_ok-open_table.ensures.there)) c.in_ok-reserve.ensures.ok

pub returns-clause-same : goal.returns-clause-same
returns-clause-same c =
    entries_same 0 c.args.table c.open_table.new.tables.items c.index_mut.result.now c.reserve.new.self
    (omega (arith, c.in_ok-open_table.ensures.there)) c.index_mut.ensures.value c.reserve.ensures.items
    ∙ c.open_table.ensures.same

pub returns-clause-room : goal.returns-clause-room
returns-clause-room c = λ m other place.
    place_set m m c.args.table other c.open_table.new.tables.items c.index_mut.result.now c.reserve.new.self (omega arith) c.index_mut.ensures.value
    (λ h. omega (arith, c.reserve.ensures.len, c.reserve.ensures.capacity))
    (c.open_table.ensures.room m other place)
