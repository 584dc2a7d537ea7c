use Rattle.std.proofs.Common.{ap}
use Rattle.cover_cmd.proofs.Loop.{begins, ends, ends_fault, ends_line, goes_on}
use Rattle.cover_cmd.proofs.Outcomes.{finds}
use Rattle.cover_cmd.proofs.lines.lacks_in.Goals as goal

pub lines-init : goal.lines-init
lines-init g c = begins _ _ _ _ _ c.new-reader.ensures.number c.new-reader.ensures.reading c.in-Ok.ensures

pub lines-preserved : goal.lines-preserved
lines-preserved g c =
    goes_on _ _ _ _ _ _ _ _ _ _ _ _ _ c.lines.invariant
    (λ e. rw c.in-Ok-true.field-0-test at (c.in-Ok-true.ensures.reads e))
    (rw c.in-Ok-true.field-0-test at c.in-Ok-true.ensures.again)
    c.number.ensures c.line.ensures c.in_default-add_line.ensures.adds

pub returns-in-Ok-false-clause-reads : goal.returns-in-Ok-false-clause-reads
returns-in-Ok-false-clause-reads g c =
    finds c.args.objects.now _ _ _ _ _ c.found_by.result
    (ends _ _ _ _ _ _ _ _ _ _ c.lines.invariant
    (λ e. rw c.in-Ok-false.field-0-test at (c.in-Ok-false.ensures.reads e))
    (λ n. ap g.S.Source.left (c.next.ensures.untouched n))
    (λ n. ap g.S.Source.faults (c.next.ensures.untouched n)))
    c.found_by.ensures.found c.found_by.ensures.memory

pub returns-in-Err-clause-reads : goal.returns-in-Err-clause-reads
returns-in-Err-clause-reads g c =
    ends_fault _ _ _ _ _ _ _ _ _ _ c.in-Err.fault _ c.why_of.ensures c.lines.invariant c.in-Err.ensures.reads c.in-Err.ensures.again

pub returns-in-Err-add_line-clause-reads : goal.returns-in-Err-add_line-clause-reads
returns-in-Err-add_line-clause-reads g c =
    ends_line _ _ _ _ _ _ _ _ _ _ _ _ c.add_line.new.cover c.in-Err-add_line.why c.lines.invariant
    (λ e. rw c.in-Ok-true.field-0-test at (c.in-Ok-true.ensures.reads e))
    (rw c.in-Ok-true.field-0-test at c.in-Ok-true.ensures.again)
    c.number.ensures c.line.ensures c.in-Err-add_line.ensures.adds
