use Rattle.std.proofs.Common.{sym, ap, ◌∙◌}
use Rattle.row_tree.specs.Keys.{spot}
use Rattle.row_tree.proofs.Held.{value_in, get_rows, told}
use Rattle.row_tree.proofs.places.value_of.Goals as goal

pub returns-in-Some : goal.returns-in-Some
returns-in-Some c =
    told c.as_ref.result _
    (get_rows c.args.places.now.entries c.requires (spot c.args.key.now) ∙ ap value_in (sym c.in-Some.ensures.value) ∙ sym c.as_ref.ensures.value)

pub returns-in-None : goal.returns-in-None
returns-in-None c = get_rows c.args.places.now.entries c.requires (spot c.args.key.now) ∙ ap value_in (sym c.in-None.ensures.value)
