use Rattle.std.proofs.Common.{◌≡◌, [], ap, ◌∙◌}
use Rattle.turn_lock.specs.Passes.{known}
use Rattle.turn_lock.specs.Rule.{own_entries}
use Rattle.turn_load.proofs.Counts.{count_is}
use Rattle.turn_load.proofs.counting.turns_by_four.Goals as goal

pub returns : goal.returns
returns g c =
    let none_yet : own_entries (known c.split-one.result.0) ≡ [] = ap own_entries c.split-one.ensures.cut.0 ∙ c.in-Ok.ensures.own in
    count_is c.close-count.result.turns c.join-one.result.0.1 c.join-one.result.1.1 (own_entries (known c.join-pass.result))
    (own_entries (known c.join-one.result.0.0)) (own_entries (known c.join-one.result.1.0))
    (own_entries (known c.split-one.result.0)) (own_entries (known c.split-one.result.1)) c.close-count.ensures.own c.join-pass.ensures.entries
    c.join-one.ensures.first.2 c.join-one.ensures.second.2 none_yet (ap own_entries c.split-one.ensures.cut.1)
