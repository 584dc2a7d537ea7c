use Rattle.std.proofs.Common.{sym, ◌∙◌}
use Rattle.enq_base.specs.Number.{unit_key_of, IsUnitKey}
use Rattle.enq_base.specs.Text.{unit_text}
use Rattle.enq_base.proofs.lemmas.Numbers.{unit_key_if, unit_key_again, unread, if_read, if_none}
use Rattle.enq_base.proofs.owner.read_unit_key.Goals as goal

pub returns-clause-spelled : goal.returns-clause-spelled
returns-clause-spelled c = if_read _ _ c.unit_key_in.result _ c.unit_key_in.ensures (unit_key_if c.args.text.now) (λ unit h. h)

pub returns-clause-none : goal.returns-clause-none
returns-clause-none c =
    if_none _ c.unit_key_in.result (λ e. unread unit_key_of unit_text IsUnitKey c.args.text.now unit_key_again (sym c.unit_key_in.ensures ∙ e))
