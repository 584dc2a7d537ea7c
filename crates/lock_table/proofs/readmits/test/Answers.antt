use Rattle.std.proofs.Common.{◌≡◌, ◌∙◌, length, sym, ap, true, false}
use Rattle.lock_entry.specs.Granting.{is_full, newcomers}
use Rattle.lock_entry.specs.Table.{Table}
use Rattle.lock_laws.proofs.Grants.{readmitted-Foreign, readmitted-Full, readmitted-Ok}
use Rattle.lock_table.proofs.readmits.test.Goals as goal

pub returns-in-Err-clause-refused : goal.returns-in-Err-clause-refused
returns-in-Err-clause-refused c =
    let t : Table = record { entries = c.args.entries.now; limit = c.args.limit } in
    readmitted-Foreign t c.args.asker.now c.args.given.now c.in-Err.entry c.in-Err.ensures.barred

pub returns-then-is_full-clause-refused : goal.returns-then-is_full-clause-refused
returns-then-is_full-clause-refused c =
    let t : Table = record { entries = c.args.entries.now; limit = c.args.limit } in
    let full : is_full t (length (newcomers t.entries c.args.given.now)) ≡ true =
    ap (is_full t) (sym c.in-Ok.ensures.count) ∙ sym c.is_full.ensures ∙ c.if-is_full.true in
    readmitted-Full t c.args.asker.now c.args.given.now c.in-Ok.ensures.free full

pub returns-else-is_full-clause-granted : goal.returns-else-is_full-clause-granted
returns-else-is_full-clause-granted c =
    let t : Table = record { entries = c.args.entries.now; limit = c.args.limit } in
    let room : is_full t (length (newcomers t.entries c.args.given.now)) ≡ false =
    ap (is_full t) (sym c.in-Ok.ensures.count) ∙ sym c.is_full.ensures ∙ c.if-is_full.false in
    readmitted-Ok t c.args.asker.now c.args.given.now c.in-Ok.ensures.free room
