use Rattle.std.proofs.Common.{sym, ap, ◌∙◌}
use Rattle.std.specs.Option.{option_copied}
use Rattle.ledger_steps.specs.Levels.{intervals_of}
use Rattle.script_actors.proofs.Numbers.{no_buffer, no_range, number_drawn, number_plain, number_too_many, number_unknown, range_found, some_buffer}
use Rattle.script_actors.proofs.asking.number_of.Goals as goal

pub returns-in_default-clause-wanted : goal.returns-in_default-clause-wanted
returns-in_default-clause-wanted c = λ entries knows.
    let ranges = c.args.ranges.now in
    let none = sym c.find.ensures ∙ ap option_copied c.in_default.is in
    number_unknown (intervals_of ranges) entries c.args.object.now c.args.nr (no_range ranges c.args.object.now c.args.nr none)

pub returns-then-is_full-clause-wanted : goal.returns-then-is_full-clause-wanted
returns-then-is_full-clause-wanted c = λ entries knows.
    let ranges = c.args.ranges.now in
    let found = range_found ranges c.args.object.now c.args.nr c.in-Some.range.now (sym c.find.ensures ∙ ap option_copied c.in-Some.is) in
    number_too_many (intervals_of ranges) entries c.args.object.now c.args.nr c.in-Some.range.now.interval _ _ found c.if-is_full.ensures knows

pub returns-then-range-eq0-clause-wanted : goal.returns-then-range-eq0-clause-wanted
returns-then-range-eq0-clause-wanted c = λ entries knows.
    let ranges = c.args.ranges.now in
    let i = c.in-Some.range.now.interval in
    let found = range_found ranges c.args.object.now c.args.nr c.in-Some.range.now (sym c.find.ensures ∙ ap option_copied c.in-Some.is) in
    number_plain (intervals_of ranges) entries c.args.object.now c.args.nr i _ _ found c.if-is_full.ensures (no_buffer i c.if-range-eq0.true) knows

pub returns-clause-wanted : goal.returns-clause-wanted
returns-clause-wanted c = λ entries knows.
    let ranges = c.args.ranges.now in
    let i = c.in-Some.range.now.interval in
    let found = range_found ranges c.args.object.now c.args.nr c.in-Some.range.now (sym c.find.ensures ∙ ap option_copied c.in-Some.is) in
    number_drawn (intervals_of ranges) entries c.args.object.now c.args.nr i _ _ found c.if-is_full.ensures (some_buffer i c.if-range-eq0.false) knows
