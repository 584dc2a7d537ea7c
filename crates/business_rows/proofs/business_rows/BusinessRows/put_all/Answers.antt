use Rattle.std.proofs.Common.{◌≡◌, ◌≤◌, ◌∷◌, ◌++◌, [], length, sym, ap, subst, ◌∙◌, length-append, arith}
use Rattle.module_effects.specs.Rows.{Tables}
use Rattle.module_effects.specs.Spots.{with_spots}
use Rattle.business_rows.proofs.KeptRows.{put_last}
use Rattle.business_rows.proofs.business_rows.BusinessRows.put_all.Goals as goal

pub loop-spot-preserved : goal.loop-spot-preserved
loop-spot-preserved c =
    let rest = c.pop.new.self.items in
    let spot = c.in-Some.spot in
    let before = c.loop-spot.invariant in
    let was : c.loop-spot.rest.items ≡ rest ++ spot ∷ [] = c.in-Some.ensures.items in
    let room = subst (λ ss. length ss ≤ c.loop-spot.self.room) was before.room in
    let more = length-append rest (spot ∷ []) in
    record {
      room = omega (arith, more, room, c.put.ensures.room);
      put =
          ap (λ (t : Tables). with_spots rest t) c.put.ensures.tables
          ∙ put_last rest spot c.loop-spot.self.tables
          ∙ ap (λ ss. with_spots ss c.loop-spot.self.tables) (sym was)
          ∙ before.put;
    }
