use Rattle.std.proofs.Common.{ap}
use Rattle.row_tree.proofs.Pages.{paged, page_shape}
use Rattle.row_tree.proofs.row_tree.RowTree.page.Goals as goal

pub returns-clause-rows : goal.returns-clause-rows
returns-clause-rows c =
    paged (λ page. page.items) c.page_behind.result c.self.inside.places.entries c.args.self.now.rows c.args.table c.args.after.now c.args.n c.self.invariant.0
    (ap (λ v. v.rows) c.self.view_is) c.page_behind.ensures

pub returns-clause-shape : goal.returns-clause-shape
returns-clause-shape c =
    page_shape (λ page. page.items) c.page_behind.result c.self.inside.places.entries c.args.self.now.rows c.args.table c.args.after.now c.args.n
    c.self.invariant.0 (ap (λ v. v.rows) c.self.view_is) c.page_behind.ensures
