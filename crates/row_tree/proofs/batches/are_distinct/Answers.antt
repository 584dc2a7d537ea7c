use Rattle.std.proofs.Common.{sym, ◌∙◌}
use Rattle.std.proofs.lemmas.List.{nil_from_length}
use Rattle.std.specs.BTreeSet.{contains}
use Rattle.row_tree.specs.Keys.{key_at, key_cmp}
use Rattle.row_tree.proofs.Distinct.{goes_on, ends}
use Rattle.row_tree.proofs.batches.are_distinct.Goals as goal

pub loop-first-preserved : goal.loop-first-preserved
loop-first-preserved c =
    goes_on (λ s. contains key_cmp c.loop-first.seen (key_at s)) (λ s. contains key_cmp c.add_key.new.seen (key_at s)) c.args.batch.now c.loop-first.rest.now
    c.in-Some.first.now c.in-Some.after.now c.in-Some.ensures.cases.0
    c.in_ok-add_key.ensures.seen (sym c.if-not-branch.false ∙ c.in_ok-add_key.ensures.new) c.loop-first.invariant

pub returns : goal.returns
returns c = ends (λ s. contains key_cmp c.loop-first.seen (key_at s)) c.args.batch.now c.loop-first.rest.now
    (nil_from_length c.loop-first.rest.now c.in_default.ensures.cases) c.loop-first.invariant
