use Rattle.std.proofs.Common.{◌≡◌, ◌∙◌, ◌++◌, ap, take, map, List, Some}
use Rattle.std.proofs.lemmas.List.{take_all}
use Rattle.lock_entry.specs.declared.entry.Entry.{Entry}
use Rattle.lock_index.specs.Slots.{live}
use Rattle.lock_index.proofs.Changed.{live-some}
use Rattle.lock_index.proofs.Live.{live-append}
use Rattle.lock_index.proofs.changes.push_all.Goals as goal

pub returns-clause-pushed : goal.returns-clause-pushed
returns-clause-pushed c =
    c.loop-entry.invariant
    ∙ ap (λ es. c.args.shelf.now ++ map (λ (e : Entry). Some e) es) (take_all c.loop-entry.entry-index c.args.added.now (c.loop-entry-test.false))

pub returns-clause-added : goal.returns-clause-added
returns-clause-added c =
    let all : take c.loop-entry.entry-index c.args.added.now ≡ c.args.added.now =
    take_all c.loop-entry.entry-index c.args.added.now (c.loop-entry-test.false) in
    ap live (c.loop-entry.invariant ∙ ap (λ es. c.args.shelf.now ++ map (λ (e : Entry). Some e) es) all)
    ∙ live-append c.args.shelf.now (map (λ (e : Entry). Some e) c.args.added.now)
    ∙ ap (λ (l : List Entry). live c.args.shelf.now ++ l) (live-some c.args.added.now)
