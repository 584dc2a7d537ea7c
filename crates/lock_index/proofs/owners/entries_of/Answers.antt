use Rattle.std.proofs.Common.{◌∙◌, ap, filter}
use Rattle.std.proofs.lemmas.Result.{IfOk-weaker}
use Rattle.lock_index.specs.Keys.{has_key}
use Rattle.lock_index.specs.Slots.{live, is_lengths}
use Rattle.lock_index.proofs.Owned.{owner-is, not-lengths}
use Rattle.lock_index.proofs.owners.entries_of.Goals as goal

pub entries_of-requires : goal.entries_of-requires
entries_of-requires c = ap is_lengths c.owner_key.ensures ∙ not-lengths c.args.owner.now

pub returns : goal.returns
returns c =
    IfOk-weaker c.entries_of.result _ _
    (λ v h.
    h ∙ ap (λ k. filter (has_key k) (live c.args.shelf.now)) c.owner_key.ensures
    ∙ (λ i. filter (λ e. owner-is e c.args.owner.now i) (live c.args.shelf.now)))
    c.entries_of.ensures
