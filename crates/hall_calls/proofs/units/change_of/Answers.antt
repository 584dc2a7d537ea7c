use Rattle.std.proofs.Common.{◌≡◌, ◌+◌, ◌≤◌, List, false, sym, ap, ◌∙◌, subst, arith}
use Rattle.std.specs.Prelude.{Contains}
use Rattle.enq_base.specs.declared.unit.Num.{Num as Number}
use Rattle.ledger_steps.specs.Drawn.{drawn_of, settled_rows}
use Rattle.ledger_steps.specs.Levels.{level_in, present}
use Rattle.ledger_steps.specs.declared.range.NumberRange.{NumberRange}
use Rattle.number_ranges.specs.Intervals.{is_buffered}
use Rattle.hall_model.specs.Sessions.{unit_key}
use Rattle.hall_model.specs.Step.{unit_of}
use Rattle.hall_calls.proofs.units.change_of.Goals as goal

pub settled_rows-requires : goal.settled_rows-requires
settled_rows-requires g c = record {
  fit = subst (λ (ns : List Number). (r : NumberRange) → Contains c.args.ranges.now r → is_buffered r.interval ≡ false
      → level_in c.args.books.now.ledger.levels r.interval + drawn_of (present c.args.books.now.ledger.levels r.interval) ns ≤ r.interval.to)
      (sym (c.as_slice.ensures.value ∙ c.in_ok-numbers.ensures)) c.requires.fit;
}

pub returns-then-effects_in-eq0 : goal.returns-then-effects_in-eq0
returns-then-effects_in-eq0 g c = (
  sym c.effects_in.ensures ∙ c.if-effects_in-eq0.true,
  c.unit_key.ensures ∙ ap (λ n. unit_key n c.args.session.now) c.start.ensures,
  c.from_vec.ensures ∙ c.in_ok-numbers.ensures,
  c.from_vec-then-effects_in-eq0.ensures ∙ c.in_ok-levels.ensures
      ∙ ap (settled_rows c.args.books.now.ledger.levels c.args.ranges.now) (c.as_slice.ensures.value ∙ c.in_ok-numbers.ensures),
)

pub returns : goal.returns
returns g c = (
  omega (arith, c.if-effects_in-eq0.false, c.effects_in.ensures),
  c.in_ok-unit.ensures.unit
      ∙ (λ i. unit_of (c.start-2.ensures i) c.args.locks.now.table.entries c.args.session.now c.args.call.now.parts.now (c.in_ok-numbers.ensures i)),
  c.from_vec-2.ensures ∙ c.in_ok-levels.ensures
      ∙ ap (settled_rows c.args.books.now.ledger.levels c.args.ranges.now) (c.as_slice.ensures.value ∙ c.in_ok-numbers.ensures),
  c.in_ok-unit.ensures.good,
)
