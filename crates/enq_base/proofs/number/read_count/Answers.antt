use Rattle.std.proofs.Common.{sym, ◌∙◌, decimal}
use Rattle.enq_base.specs.Number.{count_of, IsCount}
use Rattle.enq_base.proofs.lemmas.Numbers.{count_if, count_again, unread, if_read, if_none}
use Rattle.enq_base.proofs.number.read_count.Goals as goal

pub returns-clause-spelled : goal.returns-clause-spelled
returns-clause-spelled c = if_read _ _ c.count_in.result _ c.count_in.ensures (count_if c.args.text.now) (λ n h. h.1)

pub returns-clause-none : goal.returns-clause-none
returns-clause-none c =
    if_none _ c.count_in.result (λ e n least most. unread count_of decimal IsCount c.args.text.now count_again (sym c.count_in.ensures ∙ e) n (least, most))
