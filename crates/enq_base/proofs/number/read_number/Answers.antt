use Rattle.std.proofs.Common.{◌<◌, ◌^◌, sym, ◌∙◌, decimal}
use Rattle.enq_base.specs.Number.{number_of}
use Rattle.enq_base.proofs.lemmas.Numbers.{number_if, number_again, unread, if_read, if_none}
use Rattle.enq_base.proofs.number.read_number.Goals as goal

pub returns-clause-spelled : goal.returns-clause-spelled
returns-clause-spelled c = if_read _ _ c.number_in.result _ c.number_in.ensures (number_if c.args.text.now) (λ n h. h.1)

pub returns-clause-none : goal.returns-clause-none
returns-clause-none c =
    if_none _ c.number_in.result (λ e. unread number_of decimal (λ n. n < 2 ^ 64) c.args.text.now number_again (sym c.number_in.ensures ∙ e))
