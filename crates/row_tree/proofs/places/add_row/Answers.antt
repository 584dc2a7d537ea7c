use Rattle.std.proofs.Common.{sym, ◌∙◌}
use Rattle.row_tree.specs.Keys.{spot}
use Rattle.row_tree.proofs.Pages.{added, skipped}
use Rattle.row_tree.proofs.places.add_row.Goals as goal

pub returns-in_ok-push-clause-added : goal.returns-in_ok-push-clause-added
returns-in_ok-push-clause-added c =
    added c.args.page.now.items c.push.new.self.items c.args.table c.args.after.now (spot c.args.key.now) c.args.place.now c.in-Some.value _ _ c.in-Some.is
    (sym (c.is_behind.ensures c.in-Some.value) ∙ c.if-is_behind.true)
    (c.in_ok-copy_bytes.ensures ∙ c.as_slice.ensures) (c.in_ok-copy_bytes-2.ensures ∙ c.as_slice-then-is_behind.ensures) c.in_ok-push.ensures.items

pub returns-else-is_behind-clause-added : goal.returns-else-is_behind-clause-added
returns-else-is_behind-clause-added c =
    skipped c.args.page.now.items c.args.table c.args.after.now (spot c.args.key.now) c.args.place.now c.in-Some.value c.in-Some.is
    (sym (c.is_behind.ensures c.in-Some.value) ∙ c.if-is_behind.false)
