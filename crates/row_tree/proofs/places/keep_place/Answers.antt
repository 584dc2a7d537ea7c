use Rattle.std.proofs.Common.{refl, sym, ◌∙◌, None, Some}
use Rattle.row_tree.specs.Keys.{key_at}
use Rattle.row_tree.proofs.Held.{same_rows, none_there}
use Rattle.row_tree.proofs.places.keep_place.Goals as goal

pub returns-in_ok-insert-clause-rows : goal.returns-in_ok-insert-clause-rows
returns-in_ok-insert-clause-rows c =
    same_rows c.args.places.now.entries c.insert.new.self.entries c.requires c.insert.ensures.ordered c.args.key (Some None)
    (λ q. c.in_ok-insert.ensures.updates.0 (key_at q)) refl
    (none_there _ (sym c.contains_key.ensures ∙ c.if-not-contains_key.true))
