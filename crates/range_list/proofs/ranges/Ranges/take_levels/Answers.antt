use Rattle.std.proofs.Common.{◌≡◌, ◌++◌, length, take, drop, sym, ap, subst, ◌∙◌, arith}
use Rattle.std.proofs.Math.Seq.{take-append_seam}
use Rattle.ledger_steps.specs.Levels.{AreIntervals, intervals_of}
use Rattle.range_list.specs.RangePlaces.{ArePlaces}
use Rattle.draw_laws.proofs.StartedRanges.{first_intervals}
use Rattle.range_list.proofs.ranges.Ranges.take_levels.Goals as goal

pub invariant_of-self : goal.invariant_of-self
invariant_of-self g c =
    let long : c.self.inside.list.len ≡ length c.start_all.new.ranges = omega (arith, c.as_mut_slice.ensures.len, c.start_all.auto.ranges) in
    let whole : take c.self.inside.list.len (c.start_all.new.ranges ++ drop (length c.start_all.new.ranges) c.self.inside.list.items) ≡ c.start_all.new.ranges =
    ap (λ n. take n (c.start_all.new.ranges ++ drop (length c.start_all.new.ranges) c.self.inside.list.items)) long
    ∙ take-append_seam c.start_all.new.ranges (drop (length c.start_all.new.ranges) c.self.inside.list.items) in
    let same : intervals_of c.start_all.new.ranges ≡ intervals_of c.self.inside.list.items =
    ap intervals_of c.start_all.ensures ∙ first_intervals c.args.books.now.ledger.levels (intervals_of c.as_mut_slice.result.now)
    ∙ ap intervals_of c.as_mut_slice.ensures.value in
    subst (λ is. AreIntervals is × ArePlaces c.self.inside.places is) (sym (ap intervals_of whole ∙ same)) c.self.invariant

pub returns-clause-intervals : goal.returns-clause-intervals
returns-clause-intervals g c =
    let long : c.self.inside.list.len ≡ length c.start_all.new.ranges = omega (arith, c.as_mut_slice.ensures.len, c.start_all.auto.ranges) in
    let whole : take c.self.inside.list.len (c.start_all.new.ranges ++ drop (length c.start_all.new.ranges) c.self.inside.list.items) ≡ c.start_all.new.ranges =
    ap (λ n. take n (c.start_all.new.ranges ++ drop (length c.start_all.new.ranges) c.self.inside.list.items)) long
    ∙ take-append_seam c.start_all.new.ranges (drop (length c.start_all.new.ranges) c.self.inside.list.items) in
    ap intervals_of (whole ∙ c.start_all.ensures)
    ∙ first_intervals c.args.books.now.ledger.levels (intervals_of c.as_mut_slice.result.now)
    ∙ ap intervals_of (c.as_mut_slice.ensures.value ∙ c.self.view_is)
