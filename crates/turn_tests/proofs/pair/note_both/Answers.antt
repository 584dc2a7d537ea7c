use Rattle.std.proofs.Common.{◌≡◌, [], ap, ◌∙◌}
use Rattle.turn_lock.specs.Passes.{known}
use Rattle.turn_lock.specs.Rule.{own_entries}
use Rattle.turn_tests.proofs.Pairs.{two_notes}
use Rattle.turn_tests.proofs.pair.note_both.Goals as goal

pub returns-then-noted_two : goal.returns-then-noted_two
returns-then-noted_two g c =
    let first = rw c.if-noted_one.true at c.join-first.ensures.first in
    let second = rw c.if-noted_two.true at c.join-first.ensures.second in
    let none_yet : own_entries (known c.split-one.result.0) ≡ [] = ap own_entries c.split-one.ensures.cut.0 ∙ (c.in-Ok.ensures.own ∙ c.new.ensures) in
    two_notes _ _ _ _ (own_entries (known c.split-one.result.0)) (own_entries (known c.split-one.result.1)) c.args.a c.args.b c.close-notes.ensures.own c.join_either-pass.ensures.entries first.2
    second.2 none_yet (ap own_entries c.split-one.ensures.cut.1)
