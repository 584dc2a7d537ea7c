use Rattle.std.proofs.Common.{◌≡◌, ◌∙◌, ap, Some}
use Rattle.indexmap.specs.IndexMap.{get}
use Rattle.lock_index.specs.Keys.{same_key}
use Rattle.lock_index.proofs.Numbers.{takes-alone}
use Rattle.lock_index.proofs.members.take_first.Goals as goal

pub returns-then-first-number : goal.returns-then-first-number
returns-then-first-number c =
    let had : get same_key c.args.map.now.alone c.args.key.now ≡ Some c.args.number = c.requires ∙ ap (λ n. Some n) c.if-first-number.true in
    takes-alone c.args.map.now c.clear.new.map c.args.key.now c.args.number had c.clear.ensures
