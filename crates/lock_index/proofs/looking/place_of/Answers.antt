use Rattle.std.proofs.Common.{◌∙◌, ap, None, take}
use Rattle.lock_index.specs.Keys.{spot_at}
use Rattle.lock_index.specs.declared.search.Search.TheVariants.{Named}
use Rattle.lock_index.specs.Members.{members}
use Rattle.lock_index.specs.Searches.{oldest_of}
use Rattle.lock_index.proofs.Candidates.{named-is}
use Rattle.lock_index.proofs.looking.place_of.Goals as goal

pub returns : goal.returns
returns c = λ shown.
    let n = c.args.name.now in
    c.oldest_of.ensures
    ∙ ap (oldest_of c.args.slots.now (Named c.args.name) None)
    (c.members.ensures.members
    ∙ ap (members c.args.map.now) (c.spot_key-key.ensures ∙ ap (λ l. spot_at n.asked.table (take l n.asked.pattern)) c.literal.ensures.literal))
    ∙ named-is c.args.slots.now c.args.map.now shown c.args.name
