use Rattle.std.proofs.Common.{◌-◌, Some, if◌then◌else◌, ap, sym, ◌∙◌, arith}
use Rattle.std.specs.HashMap.{get}
use Rattle.enq_base.specs.Owners.{same_unit}
use Rattle.enq_base.specs.Ids.{id_of, same_id}
use Rattle.backup_file.specs.declared.handed.Handed.{Handed}
use Rattle.enq_server.specs.Recovery.{entries_at}
use Rattle.enq_server.proofs.Differences.{places_more}
use Rattle.enq_server.proofs.places.places_of.Goals as goal

pub loop-left-preserved : goal.loop-left-preserved
loop-left-preserved c = record {
  within = omega (arith, c.loop-left.invariant.within);
  places = λ u.
      ap (entries_at c.args.lists.now) (c.in_ok-put.ensures u)
      ∙ ap (λ (h : Handed). entries_at c.args.lists.now (if same_unit h.unit u then Some (c.loop-left.left - 1) else get same_id c.loop-left.places (id_of u)))
      (sym c.index-lists-left.is)
      ∙ places_more c.args.lists.now c.loop-left.left c.index-lists-left.result u
      (get same_id c.loop-left.places (id_of u)) c.loop-left-test.true c.loop-left.invariant.within c.index-lists-left.is (c.loop-left.invariant.places u);
}
