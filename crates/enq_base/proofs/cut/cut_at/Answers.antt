use Rattle.enq_base.proofs.lemmas.Cuts.{parts_whole, parts_first, parts_none}
use Rattle.enq_base.proofs.cut.cut_at.Goals as goal

pub returns-clause-whole : goal.returns-clause-whole
returns-clause-whole c = parts_whole _ _ c.args.separator c.args.bytes.now c.parts_at.result c.parts_at.ensures

pub returns-clause-first : goal.returns-clause-first
returns-clause-first c = parts_first _ _ c.args.separator c.args.bytes.now c.parts_at.result c.parts_at.ensures

pub returns-clause-none : goal.returns-clause-none
returns-clause-none c = parts_none _ _ c.args.separator c.args.bytes.now c.parts_at.result c.parts_at.ensures
