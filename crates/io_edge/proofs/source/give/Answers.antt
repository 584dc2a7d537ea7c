use Rattle.std.proofs.Common.{sym}
use Rattle.std.proofs.lemmas.List.{drop-drop, take_rest}
use Rattle.io_edge.proofs.Pieces.{read_first}
use Rattle.io_edge.proofs.source.give.Goals as goal

pub returns-clause-reads : goal.returns-clause-reads
returns-clause-reads c =
    let n = c.copy_first-count.result in
    read_first _ c.args.into.now _ _ n (rw take_rest at c.copy_first-count.ensures.count) (rw take_rest at c.copy_first-count.ensures.copied)
    (sym (drop-drop n c.args.at.now c.args.bytes.now))
