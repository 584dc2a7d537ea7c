use Rattle.std.proofs.Common.{◌≤◌, ◌+◌, sym, ap, subst, ◌∙◌, arith}
use Rattle.ledger_steps.specs.Levels.{level_in}
use Rattle.ledger_steps.specs.declared.range.NumberRange.{NumberRange}
use Rattle.draw_laws.proofs.StartedRanges.{level_small, started_all, started_more}
use Rattle.range_list.proofs.starting.start_all.Goals as goal

pub start-requires : goal.start-requires
start-requires g c =
    subst (λ (r : NumberRange). level_in c.args.books.now.ledger.levels r.interval ≤ 999999999999999999) c.range-item.is
    (level_small c.args.books.now.ledger.levels c.args.ranges.now c.loop-range.ranges c.loop-range.range-index c.loop-range.range-index c.range-item.result
    c.requires.good c.requires.fit c.loop-range.invariant (omega (arith, c.loop-range-test.true, c.loop-range.auto.ranges)) c.range-item.is)

pub loop-range-preserved : goal.loop-range-preserved
loop-range-preserved g c =
    started_more c.args.books.now.ledger.levels c.args.ranges.now c.loop-range.ranges c.loop-range.range-index c.range-item.result c.start.new.range
    c.loop-range-test.true c.loop-range.invariant c.range-item.is
    (c.start.ensures.interval ∙ ap (λ (r : NumberRange). r.interval) (sym c.range-item.is))
    (c.start.ensures.next ∙ ap (λ (r : NumberRange). level_in c.args.books.now.ledger.levels r.interval + 1) (sym c.range-item.is))

pub returns : goal.returns
returns g c = started_all c.args.books.now.ledger.levels c.args.ranges.now c.loop-range.ranges c.loop-range.range-index c.loop-range-test.false
    c.loop-range.invariant
