use Rattle.std.specs.Prelude.{is_some}
use Rattle.replica_link.proofs.lemmas.Links.{Shipped}
use Rattle.table_tests.proofs.replicas.given_after.Given as goal

abbrev pub invariant-loop-op : goal.invariant-loop-op
invariant-loop-op g l = Shipped (is_some (g.L.Link.applied l.fn.link)) (g.L.Link.next l.link) (g.L.Link.applied l.link) l.snapshot l.ops l.op-index l.seq
