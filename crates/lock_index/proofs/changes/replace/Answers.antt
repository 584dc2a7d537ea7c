use Rattle.std.proofs.Common.{◌∙◌, ◌++◌, ap, filter, not}
use Rattle.std.proofs.lemmas.Result.{on_ok_weaker}
use Rattle.lock_entry.specs.Freeing.{freed_owner}
use Rattle.lock_index.specs.Keys.{has_key}
use Rattle.lock_index.specs.Slots.{is_lengths, live}
use Rattle.lock_index.proofs.Owned.{not-lengths, owner-is}
use Rattle.lock_index.proofs.changes.replace.Goals as goal

pub swap-requires : goal.swap-requires
swap-requires c = ap is_lengths c.owner_key.ensures ∙ not-lengths c.args.owner.now

pub returns-clause-replaced : goal.returns-clause-replaced
returns-clause-replaced c =
    on_ok_weaker c.swap.result
    (λ h.
    h
    ∙ ap (λ k. filter (λ e. not (has_key k e)) (live c.make_dense.new.shelf) ++ c.args.given.now) c.owner_key.ensures
    ∙ (λ i. filter (λ e. not (owner-is e c.args.owner.now i)) (live c.make_dense.new.shelf) ++ c.args.given.now)
    ∙ ap (λ es. freed_owner es c.args.owner.now ++ c.args.given.now) c.make_dense.ensures)
    c.swap.ensures.replaced
