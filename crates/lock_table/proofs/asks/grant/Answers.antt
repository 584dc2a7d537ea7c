use Rattle.std.proofs.Common.{◌++◌, List, ap, sym, ◌∙◌}
use Rattle.lock_entry.specs.declared.entry.Entry.{Entry}
use Rattle.lock_table.proofs.Entries.{some_entry}
use Rattle.lock_table.proofs.HalfLists.{Walk, walk-within, walk-count, walk-more, raised-nothing}
use Rattle.lock_table.proofs.asks.grant.Goals as goal

pub loop-half-init : goal.loop-half-init
loop-half-init c = c.in_ok-extend_from_slice.ensures.items ∙ ap (λ (xs : List Entry). xs ++ c.args.added.now) (sym (raised-nothing c.args.entries.now.items))

pub raise-requires-clause-within : goal.raise-requires-clause-within
raise-requires-clause-within c =
    let w : Walk c.args.entries.now.items c.args.all.now c.args.added.now c.loop-half.half-index c.half-item.result c.loop-half.entries.items =
    record {
      halves = c.requires.halves;
      distinct = c.requires.distinct;
      counts = c.requires.counts;
      below = c.loop-half-test.true;
      read =
          c.half-item.is;
      so_far = c.loop-half.invariant;
    } in
    walk-within _ _ _ _ _ _ w

pub raise-requires-clause-count : goal.raise-requires-clause-count
raise-requires-clause-count c =
    let w : Walk c.args.entries.now.items c.args.all.now c.args.added.now c.loop-half.half-index c.half-item.result c.loop-half.entries.items =
    record {
      halves = c.requires.halves;
      distinct = c.requires.distinct;
      counts = c.requires.counts;
      below = c.loop-half-test.true;
      read =
          c.half-item.is;
      so_far = c.loop-half.invariant;
    } in
    walk-count _ _ _ _ _ _ w

pub loop-half-preserved : goal.loop-half-preserved
loop-half-preserved c =
    let w : Walk c.args.entries.now.items c.args.all.now c.args.added.now c.loop-half.half-index c.half-item.result c.loop-half.entries.items =
    record {
      halves = c.requires.halves;
      distinct = c.requires.distinct;
      counts = c.requires.counts;
      below = c.loop-half-test.true;
      read =
          c.half-item.is;
      so_far = c.loop-half.invariant;
    } in
    walk-more _ _ _ _ _ _ w some_entry c.raise.new.entries.items (c.raise.ensures some_entry)
