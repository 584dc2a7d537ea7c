use Rattle.std.proofs.Common.{Vec, Global, ◌≡◌, ◌+◌, ◌<◌, length, arith}
use Rattle.keeper_api.specs.declared.rows.Row.{Row}
use Rattle.sorted_rows.proofs.Rooms.{place_within, place_set}
use Rattle.sorted_rows.proofs.Numbered.{remove_table, sorted_table}
use Rattle.sorted_rows.proofs.tables.remove_from.Goals as goal

pub index_mut-requires : goal.index_mut-requires
index_mut-requires c = let within : c.args.table < length c.args.tables.now.items = place_within 1 c.args.table c.args.tables.now.items c.requires.room in
    omega arith

pub returns-clause-gone : goal.returns-clause-gone
returns-clause-gone c =
    let tables = c.args.tables.now.items in
    let old : Vec Row Global = c.index_mut.result.now in
    let at : c.args.table ≡ 0 + c.args.table = omega arith in
    let within : c.args.table < length tables = place_within 1 c.args.table tables c.requires.room in
    remove_table c.args.table 0 c.args.table c.args.key.now tables old c.remove_row.new.rows at within c.index_mut.ensures.value
    (c.remove_row.ensures.gone c.args.table (sorted_table c.args.table 0 c.args.table tables old at within c.index_mut.ensures.value c.requires.sorted))

pub returns-clause-room : goal.returns-clause-room
returns-clause-room c = λ n other place.
    place_set (n + 1) n c.args.table other c.args.tables.now.items c.index_mut.result.now c.remove_row.new.rows (omega arith) c.index_mut.ensures.value
    (λ h. omega (arith, c.remove_row.ensures.less, c.remove_row.ensures.room)) place
