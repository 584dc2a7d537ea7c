use Rattle.std.proofs.Common.{◌≤◌, ◌∙◌, ◌||◌, ◌&&◌, nat_eq, get_or, length, ap, sym, arith}
use Rattle.std.specs.List.{list_any}
use Rattle.std.proofs.lemmas.List.{take_all}
use Rattle.indexmap.specs.IndexSet.{contains}
use Rattle.lock_index.specs.Members.{is_under}
use Rattle.lock_index.specs.Searches.{candidates, finds, place_of}
use Rattle.lock_index.specs.Slots.{on_some, slot_at}
use Rattle.lock_index.proofs.Found.{length-more}
use Rattle.lock_index.proofs.Numbers.{or-nothing}
use Rattle.lock_index.proofs.looking.add_found_over.Goals as goal

pub loop-length-init : goal.loop-length-init
loop-length-init c = λ i. sym (or-nothing (contains nat_eq c.args.found.now i))

pub loop-length-preserved : goal.loop-length-preserved
loop-length-preserved c = λ i.
    let k = c.loop-length.length-index in
    let n = get_or c.args.lengths.now k 0 in
    let f = on_some (finds c.args.search.now) (slot_at c.args.slots.now i) in
    c.in_ok-add_found_under.ensures i
    ∙ ap (λ b. b || (is_under c.args.map.now (candidates (place_of c.args.search.now) n) i && f)) (c.loop-length.invariant i)
    ∙ length-more c.args.slots.now c.args.search.now (λ m. is_under c.args.map.now (candidates (place_of c.args.search.now) m) i) c.args.lengths.now k
    (contains nat_eq c.args.found.now i) i c.loop-length-test.true

pub returns : goal.returns
returns c = λ i.
    let had = contains nat_eq c.args.found.now i in
    let f = on_some (finds c.args.search.now) (slot_at c.args.slots.now i) in
    let all : length c.args.lengths.now ≤ c.loop-length.length-index = omega arith in
    c.loop-length.invariant i
    ∙ ap (λ ns. had || (list_any (λ n. is_under c.args.map.now (candidates (place_of c.args.search.now) n) i) ns && f))
    (take_all c.loop-length.length-index c.args.lengths.now all)
