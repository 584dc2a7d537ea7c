use Rattle.std.proofs.Common.{sym}
use Rattle.std.specs.Prelude.{Contains}
use Rattle.update_records.specs.Business.{numbers_of}
use Rattle.draw_laws.proofs.PresentLevels.{drawn_at, present_is}
use Rattle.hall_model.specs.Kept.{draws_in}
use Rattle.hall_calls.proofs.RangesShown.{range_good}
use Rattle.hall_calls.proofs.shown.shown_ranges.Goals as goal

pub shown_range-requires : goal.shown_range-requires
shown_range-requires g c =
    let ranges = c.args.ranges.now in
    let sessions = c.args.sessions.now in
    let books = c.args.books.now.ledger in
    let committed = numbers_of books.units books.marks in
    let r = c.range-item.result in
    let among : Contains ranges r = (c.loop-range.range-index, c.loop-range-test.true, sym c.range-item.is) in
    let is = present_is ranges books.levels (draws_in sessions) committed c.requires r among in
    let drawn = drawn_at ranges books.levels (draws_in sessions) committed c.requires r among in
    record { interval = is; range = range_good sessions books.levels committed r is drawn }
