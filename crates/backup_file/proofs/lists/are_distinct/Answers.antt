use Rattle.std.proofs.Common.{true, cond, ap, sym, ◌∙◌, arith}
use Rattle.std.specs.List.{list_any}
use Rattle.backup_file.specs.Ids.{lock_id, same_lock}
use Rattle.backup_file.proofs.Names.{distinct_more, locks_more, repeated}
use Rattle.backup_file.proofs.lists.are_distinct.Goals as goal

pub returns-then-contains : goal.returns-then-contains
returns-then-contains c =
    let e = c.index-entries-left.result in
    sym (repeated c.args.entries.now c.loop-left.left e c.loop-left-test.true c.loop-left.invariant.within c.index-entries-left.is
    (sym (c.loop-left.invariant.seen (lock_id e)) ∙ sym (c.contains.ensures ∙ ap (λ n. list_any (same_lock n) c.loop-left.seen.keys) c.lock_id-name.ensures)
    ∙ c.if-contains.true))

pub loop-left-preserved : goal.loop-left-preserved
loop-left-preserved c =
    let es = c.args.entries.now in
    let left = c.loop-left.left in
    let e = c.index-entries-left.result in
    let free = sym (c.loop-left.invariant.seen (lock_id e))
    ∙ sym (c.contains.ensures ∙ ap (λ n. list_any (same_lock n) c.loop-left.seen.keys) c.lock_id-name.ensures) ∙ c.if-contains.false in
    record {
      within = omega (arith, c.loop-left.invariant.within);
      seen = λ name.
          c.in_ok-insert.ensures.updates.0 name
          ∙ ap (λ n. cond (same_lock n name) true (list_any (same_lock name) c.loop-left.seen.keys)) c.lock_id-name.ensures
          ∙ ap (λ b. cond (same_lock (lock_id e) name) true b) (c.loop-left.invariant.seen name)
          ∙ locks_more es left e c.loop-left-test.true c.loop-left.invariant.within c.index-entries-left.is name;
      distinct = distinct_more es left e c.loop-left-test.true c.loop-left.invariant.within c.index-entries-left.is free c.loop-left.invariant.distinct;
    }
