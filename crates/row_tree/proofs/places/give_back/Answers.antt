use Rattle.std.proofs.Common.{refl, sym, None}
use Rattle.row_tree.specs.Keys.{key_at}
use Rattle.row_tree.proofs.Held.{same_rows}
use Rattle.row_tree.proofs.places.give_back.Goals as goal

pub returns-in-Some-None-clause-rows : goal.returns-in-Some-None-clause-rows
returns-in-Some-None-clause-rows c =
    same_rows c.args.places.now.entries c.remove.new.self.entries c.requires c.remove.ensures.ordered c.args.key.now None
    (λ q. c.remove.ensures.updates.0 (key_at q)) refl
    (rw (sym c.in-Some-None.ensures.value, c.in-Some-None.field-0-is) refl)
