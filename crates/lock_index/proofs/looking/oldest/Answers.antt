use Rattle.std.proofs.Common.{◌∙◌, ap, None}
use Rattle.lock_index.specs.Keys.{lengths_key}
use Rattle.lock_index.specs.Members.{members}
use Rattle.lock_index.specs.Searches.{oldest_over}
use Rattle.lock_index.proofs.Candidates.{oldest-is}
use Rattle.lock_index.proofs.looking.oldest.Goals as goal

pub returns : goal.returns
returns c = λ shown.
    c.oldest_over.ensures
    ∙ ap (λ ns. oldest_over c.args.slots.now c.args.map.now c.args.search.now None ns)
    (c.members-lengths.ensures.members ∙ ap (members c.args.map.now) (c.lengths_key.ensures ∙ ap lengths_key c.table.ensures))
    ∙ oldest-is c.args.slots.now c.args.map.now shown c.args.search.now
