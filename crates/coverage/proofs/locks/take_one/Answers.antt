use Rattle.std.proofs.Common.{[], Some, None, ◌≡◌, sym, ◌∙◌}
use Rattle.std.specs.List.{position}
use Rattle.lock_entry.specs.Names.{same_asked}
use Rattle.lock_entry.proofs.lemmas.Places.{position-None, position-replace, replace_first-none}
use Rattle.coverage.proofs.locks.take_one.Goals as goal

pub returns-in_ok-push-clause-left : goal.returns-in_ok-push-clause-left
returns-in_ok-push-clause-left c =
    let test = same_asked c.args.asked.now in
    let at : position test c.args.held.now.items ≡ Some c.in-Some.place = rw c.as_slice.ensures.value at (sym c.in-Some.ensures.place) in
    c.remove.ensures.items ∙ sym (position-replace test (λ b. []) c.args.held.now.items c.in-Some.place c.args.asked.now at)

pub returns-in_default-clause-left : goal.returns-in_default-clause-left
returns-in_default-clause-left c =
    let test = same_asked c.args.asked.now in
    let at : position test c.args.held.now.items ≡ None = rw c.as_slice.ensures.value at (sym c.in_default.ensures.place) in
    sym (replace_first-none test (λ b. []) c.args.held.now.items (position-None test c.args.held.now.items at))
