use Rattle.std.proofs.Common.{◌≡◌, ◌++◌, length, take, drop, sym, ap, subst, ◌∙◌, arith}
use Rattle.std.proofs.Math.Seq.{take-append_seam}
use Rattle.ledger_steps.specs.Levels.{AreIntervals, intervals_of}
use Rattle.range_list.specs.RangePlaces.{ArePlaces}
use Rattle.draw_laws.proofs.HandedOut.{handed_intervals}
use Rattle.range_list.proofs.ranges.Ranges.hand_out.Goals as goal

pub invariant_of-self : goal.invariant_of-self
invariant_of-self c =
    let long : c.self.inside.list.len ≡ length c.hand_out.new.ranges = omega (arith, c.as_mut_slice.ensures.len, c.hand_out.auto.ranges) in
    let whole : take c.self.inside.list.len (c.hand_out.new.ranges ++ drop (length c.hand_out.new.ranges) c.self.inside.list.items) ≡ c.hand_out.new.ranges =
    ap (λ n. take n (c.hand_out.new.ranges ++ drop (length c.hand_out.new.ranges) c.self.inside.list.items)) long
    ∙ take-append_seam c.hand_out.new.ranges (drop (length c.hand_out.new.ranges) c.self.inside.list.items) in
    let same : intervals_of c.hand_out.new.ranges ≡ intervals_of c.self.inside.list.items =
    ap intervals_of c.hand_out.ensures ∙ handed_intervals c.args.object.now c.args.nr c.as_mut_slice.result.now
    ∙ ap intervals_of c.as_mut_slice.ensures.value in
    subst (λ is. AreIntervals is × ArePlaces c.self.inside.places is) (sym (ap intervals_of whole ∙ same)) c.self.invariant
