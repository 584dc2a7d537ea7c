use Rattle.std.proofs.Common.{◌≡◌, ◌∙◌, ap, sym, nat_eq, map}
use Rattle.std.specs.List.{list_any}
use Rattle.lock_index.specs.Slots.{flag_slot}
use Rattle.lock_index.proofs.Owned.{flagged-is, shown-flagged, length-flagged}
use Rattle.lock_index.proofs.shelf.Shelf.flag_all.Goals as goal

pub invariant_of-self : goal.invariant_of-self
invariant_of-self c =
    let ss = c.self.inside.slots.items in
    let k = c.args.key.now in
    let is : c.flag_places.new.slots.items ≡ map (flag_slot k) ss =
    flagged-is k ss c.flag_places.new.slots.items c.members.result.now c.flag_places.ensures.long c.flag_places.ensures.flagged
    (λ j. ap (list_any (nat_eq j)) c.members.ensures.members ∙ c.self.invariant.shown.exact k j c.requires) in
    record {
      shown = rw is (shown-flagged k ss c.self.inside.map c.self.invariant.shown);
      counted = rw is (c.self.invariant.counted ∙ sym (length-flagged k ss));
    }

pub returns : goal.returns
returns c =
    let ss = c.self.inside.slots.items in
    let k = c.args.key.now in
    flagged-is k ss c.flag_places.new.slots.items c.members.result.now c.flag_places.ensures.long c.flag_places.ensures.flagged
    (λ j. ap (list_any (nat_eq j)) c.members.ensures.members ∙ c.self.invariant.shown.exact k j c.requires)
    ∙ ap (map (flag_slot k)) c.self.view_is
