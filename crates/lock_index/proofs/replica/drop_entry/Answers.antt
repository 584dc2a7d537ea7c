use Rattle.std.proofs.Common.{◌∙◌, ap, sym}
use Rattle.lock_entry.specs.Names.{has_distinct_names}
use Rattle.lock_index.specs.Slots.{live}
use Rattle.lock_index.proofs.Changed.{without-first, without-none}
use Rattle.lock_index.proofs.Turned.{distinct-without}
use Rattle.lock_index.proofs.replica.drop_entry.Goals as goal

pub returns-in-Some-clause-done : goal.returns-in-Some-clause-done
returns-in-Some-clause-done c =
    ap live c.clear.ensures ∙ without-first c.args.name.now c.args.shelf.now c.in-Some.place c.in-Some.entry c.requires c.in-Some.ensures.some

pub returns-in-Some-clause-distinct : goal.returns-in-Some-clause-distinct
returns-in-Some-clause-distinct c =
    ap has_distinct_names
    (ap live c.clear.ensures ∙ without-first c.args.name.now c.args.shelf.now c.in-Some.place c.in-Some.entry c.requires c.in-Some.ensures.some)
    ∙ distinct-without c.args.name.now (live c.args.shelf.now) c.requires

pub returns-in-None-clause-done : goal.returns-in-None-clause-done
returns-in-None-clause-done c = sym (without-none c.args.name.now (live c.args.shelf.now) c.in-None.ensures.none)
