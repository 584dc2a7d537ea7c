use Rattle.std.proofs.Common.{◌≤◌, ◌∙◌, ◌||◌, Bool, ap, sym, nat_eq, length, arith}
use Rattle.std.specs.List.{list_any}
use Rattle.std.proofs.lemmas.List.{take_all}
use Rattle.lock_entry.specs.Converting.{gives_way}
use Rattle.lock_index.specs.Searches.{yields}
use Rattle.lock_index.specs.Slots.{on_some, slot_at}
use Rattle.lock_index.proofs.Conversions.{gives-more, gives-nothing}
use Rattle.lock_index.proofs.converts.giving_way.Goals as goal

pub loop-a-init : goal.loop-a-init
loop-a-init c = λ i. ap (list_any (nat_eq i)) c.new-places.ensures.empty ∙ gives-nothing c.args.asker.now (slot_at c.args.shelf.now i)

pub loop-a-preserved : goal.loop-a-preserved
loop-a-preserved c = λ i.
    let a = c.a-item.result in
    let o = slot_at c.args.shelf.now i in
    c.in_ok-add_found.ensures i
    ∙ ap (λ (b : Bool). b || on_some (yields c.args.asker.now a) o) (c.loop-a.invariant i)
    ∙ sym (gives-more c.args.asker.now c.args.asked.now c.loop-a.a-index a c.loop-a-test.true c.a-item.is o)

pub returns : goal.returns
returns c = λ i.
    let all : length c.args.asked.now ≤ c.loop-a.a-index = omega arith in
    c.loop-a.invariant i ∙ ap (λ ks. on_some (gives_way c.args.asker.now ks) (slot_at c.args.shelf.now i)) (take_all c.loop-a.a-index c.args.asked.now all)
