use Rattle.std.proofs.Common.{refl, sym, subst, ◌∙◌, arith}
use Rattle.std.specs.List.{All}
use Rattle.std.proofs.lemmas.List.{take_all}
use Rattle.enq_server.specs.Recovery.{Agrees, IsFirstDifference}
use Rattle.enq_server.proofs.Differences.{agree_more, missing_here}
use Rattle.enq_server.proofs.recovery.first_missing.Goals as goal

pub returns-in-Some-clause-missing : goal.returns-in-Some-clause-missing
returns-in-Some-clause-missing c =
    missing_here c.args.lists.now c.args.units.now c.loop-known.known-index c.known-item.result c.in-Some.at c.loop-known-test.true c.known-item.is
    c.loop-known.invariant
    (subst (λ ys. IsFirstDifference c.known-item.result.entries ys c.in-Some.at) (c.entries_of-listed.ensures ∙ c.requires c.known-item.result.unit)
    (subst (λ xs. IsFirstDifference xs c.entries_of-listed.result.now c.in-Some.at) c.as_slice.ensures c.in-Some.ensures.differ))

pub loop-known-preserved : goal.loop-known-preserved
loop-known-preserved c =
    agree_more c.args.lists.now c.args.units.now c.loop-known.known-index c.known-item.result c.loop-known-test.true c.known-item.is
    (sym c.as_slice.ensures ∙ c.in_default.ensures.same refl ∙ c.entries_of-listed.ensures ∙ c.requires c.known-item.result.unit) c.loop-known.invariant

pub returns-clause-agree : goal.returns-clause-agree
returns-clause-agree c =
    λ none. subst (All (Agrees c.args.lists.now)) (take_all c.loop-known.known-index c.args.units.now (omega (arith, c.loop-known-test.false)))
    c.loop-known.invariant
