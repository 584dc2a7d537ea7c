use Rattle.std.proofs.Common.{ap}
use Rattle.whole_script.proofs.Ends.{blames, completes}
use Rattle.whole_script.proofs.Loop.{begins, ends, ends_fault, ends_line, goes_on}
use Rattle.whole_script.proofs.script.read_script.Goals as goal

pub lines-init : goal.lines-init
lines-init g c = begins _ _ _ _ c.new-reader.ensures.number c.new-reader.ensures.reading c.new.ensures.items c.new-2.ensures.items

pub lines-preserved : goal.lines-preserved
lines-preserved g c =
    goes_on _ _ _ _ _ _ _ _ _ _ _ _ c.lines.invariant
    (λ e. rw c.in-Ok-true.field-0-test at (c.in-Ok-true.ensures.reads e))
    (rw c.in-Ok-true.field-0-test at c.in-Ok-true.ensures.again)
    c.number.ensures c.line.ensures c.in_default.ensures.adds

pub returns-in-Ok-false-clause-reads : goal.returns-in-Ok-false-clause-reads
returns-in-Ok-false-clause-reads g c =
    ends _ _ _ _ _ _ _ _ _ c.lines.invariant
    (λ e. rw c.in-Ok-false.field-0-test at (c.in-Ok-false.ensures.reads e))
    (λ n. ap g.S.Source.left (c.next.ensures.untouched n))
    (λ n. ap g.S.Source.faults (c.next.ensures.untouched n))

pub returns-in-Ok-false-clause-parts : goal.returns-in-Ok-false-clause-parts
returns-in-Ok-false-clause-parts g c = c.lines.invariant.parts

pub returns-in-Err-clause-reads : goal.returns-in-Err-clause-reads
returns-in-Err-clause-reads g c =
    ends_fault _ _ _ _ _ _ _ _ _ c.in-Err.fault _ c.why_of.ensures c.lines.invariant c.in-Err.ensures.reads c.in-Err.ensures.again

pub returns-in-Err-clause-blamed : goal.returns-in-Err-clause-blamed
returns-in-Err-clause-blamed g c = λ bytes told. blames bytes _ _ _ _ _ told (returns-in-Err-clause-reads g c)

pub returns-in-Err-clause-complete : goal.returns-in-Err-clause-complete
returns-in-Err-clause-complete g c = λ bytes told script quiet. completes bytes _ _ _ _ _ told (returns-in-Err-clause-reads g c) script quiet

pub returns-in-Err-add_line-clause-reads : goal.returns-in-Err-add_line-clause-reads
returns-in-Err-add_line-clause-reads g c =
    ends_line _ _ _ _ _ _ _ _ _ _ _ c.in-Err-add_line.why c.lines.invariant
    (λ e. rw c.in-Ok-true.field-0-test at (c.in-Ok-true.ensures.reads e))
    (rw c.in-Ok-true.field-0-test at c.in-Ok-true.ensures.again)
    c.number.ensures c.line.ensures c.in-Err-add_line.ensures.adds

pub returns-in-Err-add_line-clause-blamed : goal.returns-in-Err-add_line-clause-blamed
returns-in-Err-add_line-clause-blamed g c = λ bytes told. blames bytes _ _ _ _ _ told (returns-in-Err-add_line-clause-reads g c)

pub returns-in-Err-add_line-clause-complete : goal.returns-in-Err-add_line-clause-complete
returns-in-Err-add_line-clause-complete g c =
    λ bytes told script quiet. completes bytes _ _ _ _ _ told (returns-in-Err-add_line-clause-reads g c) script quiet
