use Rattle.std.proofs.Common.{sym, ap, ◌∙◌}
use Rattle.std.specs.List.{slice_get}
use Rattle.range_list.proofs.FoundByPlace.{at_place_of, found_at}
use Rattle.range_list.proofs.range_places.find_range.Goals as goal

pub returns-in-Some : goal.returns-in-Some
returns-in-Some c =
    c.range_in.ensures
    ∙ ap (at_place_of (slice_get c.args.ranges.now)) (sym c.in-Some.is ∙ c.place_of.ensures ∙ c.requires c.args.object.now c.args.nr)
    ∙ found_at c.args.object.now c.args.nr c.args.ranges.now

pub returns-in-None : goal.returns-in-None
returns-in-None c =
    ap (at_place_of (slice_get c.args.ranges.now)) (sym c.in-None.is ∙ c.place_of.ensures ∙ c.requires c.args.object.now c.args.nr)
    ∙ found_at c.args.object.now c.args.nr c.args.ranges.now
