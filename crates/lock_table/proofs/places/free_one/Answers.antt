use Rattle.std.proofs.Common.{◌≡◌, Some, None, sym, ◌∙◌}
use Rattle.std.specs.List.{position}
use Rattle.lock_entry.specs.Names.{has_name}
use Rattle.lock_entry.specs.Freeing.{lowered}
use Rattle.lock_entry.proofs.lemmas.Places.{position-None, position-any, position-replace, replace_first-none}
use Rattle.lock_table.proofs.Entries.{some_entry}
use Rattle.lock_table.proofs.places.free_one.Goals as goal

pub returns-in-Some-clause-stood : goal.returns-in-Some-clause-stood
returns-in-Some-clause-stood c =
    let found : position (has_name c.args.name.now) c.args.entries.now.items ≡ Some c.in-Some.place =
    rw c.as_slice.ensures.value at (sym c.in-Some.ensures.place) in
    sym (position-any (has_name c.args.name.now) c.args.entries.now.items c.in-Some.place found)

pub returns-in-Some-clause-after : goal.returns-in-Some-clause-after
returns-in-Some-clause-after c =
    let found : position (has_name c.args.name.now) c.args.entries.now.items ≡ Some c.in-Some.place =
    rw c.as_slice.ensures.value at (sym c.in-Some.ensures.place) in
    c.lower_at.ensures some_entry ∙ sym (position-replace (has_name c.args.name.now) lowered c.args.entries.now.items c.in-Some.place some_entry found)

pub returns-in-None-clause-stood : goal.returns-in-None-clause-stood
returns-in-None-clause-stood c =
    let none : position (has_name c.args.name.now) c.args.entries.now.items ≡ None = rw c.as_slice.ensures.value at (sym c.in-None.ensures.place) in
    sym (position-None (has_name c.args.name.now) c.args.entries.now.items none)

pub returns-in-None-clause-after : goal.returns-in-None-clause-after
returns-in-None-clause-after c =
    let none : position (has_name c.args.name.now) c.args.entries.now.items ≡ None = rw c.as_slice.ensures.value at (sym c.in-None.ensures.place) in
    let absent = position-None (has_name c.args.name.now) c.args.entries.now.items none in
    sym (replace_first-none (has_name c.args.name.now) lowered c.args.entries.now.items absent)
