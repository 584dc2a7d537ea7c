use Rattle.std.proofs.Common.{IsTrue, ◌∙◌, subst}
use Rattle.std.specs.Prelude.{is_some}
use Rattle.row_tree.specs.Keys.{spot}
use Rattle.row_tree.specs.Places.{place_at}
use Rattle.row_tree.proofs.Waiting.{placed_more}
use Rattle.row_tree.proofs.steps.wait_behind.Goals as goal

pub returns-clause-placed : goal.returns-clause-placed
returns-clause-placed c =
    let new = c.keep_place.new.places.entries in
    let key = c.in_ok-step.step.key in
    let there = subst (λ k. IsTrue (is_some (place_at new (spot k)))) (c.in_ok-key_of.ensures ∙ (λ i. record { table = key.table; key = c.as_slice.ensures i }))
    c.in_ok-keep_place.ensures.place in
    placed_more c.args.places.now.entries new c.args.waiting.now.items c.push_back.new.self.items c.in_ok-step.step c.in_ok-push_back.ensures.items
    c.keep_place.ensures.others there
