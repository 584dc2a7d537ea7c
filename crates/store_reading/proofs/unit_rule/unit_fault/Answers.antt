use Rattle.std.proofs.Common.{ap, ◌∙◌}
use Rattle.std.specs.Option.{option_or}
use Rattle.store_reading.proofs.unit_rule.unit_fault.Goals as goal

pub returns : goal.returns
returns c =
    let index = c.in_ok-index.ensures in
    let headers = c.args.headers.now in
    let marks = c.wrong_mark.ensures headers c.args.modules.now c.args.steps.now c.args.locks.now index in
    let first = c.or.ensures ∙ ap (λ o. option_or o c.unrecorded_header.result) marks
    ∙ ap (option_or _) (c.unrecorded_header.ensures c.args.marks.now c.in_ok-recorded.ensures) in
    let second = c.or-2.ensures ∙ ap (λ o. option_or o c.uncounted_row.result) first ∙ ap (option_or _) (c.uncounted_row.ensures headers index.counted) in
    let third = c.or-3.ensures ∙ ap (λ o. option_or o c.uncounted_row-2.result) second ∙ ap (option_or _) (c.uncounted_row-2.ensures headers index.counted) in
    c.or-4.ensures ∙ ap (λ o. option_or o c.uncounted_row-3.result) third ∙ ap (option_or _) (c.uncounted_row-3.ensures headers index.counted)
