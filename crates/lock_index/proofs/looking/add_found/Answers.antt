use Rattle.std.proofs.Common.{◌∙◌, ◌||◌, ◌&&◌, nat_eq, ap}
use Rattle.std.specs.List.{list_any}
use Rattle.std.proofs.lemmas.Result.{on_ok_weaker}
use Rattle.indexmap.specs.IndexSet.{contains}
use Rattle.lock_index.specs.Keys.{lengths_key}
use Rattle.lock_index.specs.Members.{is_under, members}
use Rattle.lock_index.specs.Searches.{candidates, finds, place_of}
use Rattle.lock_index.specs.Slots.{on_some, slot_at}
use Rattle.lock_index.proofs.Candidates.{found-among}
use Rattle.lock_index.proofs.looking.add_found.Goals as goal

pub returns : goal.returns
returns c =
    on_ok_weaker c.add_found_over.result
    (λ h shown i.
    let had = contains nat_eq c.args.found.now i in
    let f = on_some (finds c.args.search.now) (slot_at c.args.slots.now i) in
    h i
    ∙ ap (λ ns. had || (list_any (λ n. is_under c.args.map.now (candidates (place_of c.args.search.now) n) i) ns && f))
    (c.members-lengths.ensures.members ∙ ap (members c.args.map.now) (c.lengths_key.ensures ∙ ap lengths_key c.table.ensures))
    ∙ ap (λ b. had || b) (found-among c.args.slots.now c.args.map.now shown c.args.search.now i))
    c.add_found_over.ensures
