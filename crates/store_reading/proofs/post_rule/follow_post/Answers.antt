use Rattle.std.proofs.Common.{◌∙◌}
use Rattle.store_reading.specs.Posts.{tables_by}
use Rattle.store_reading.proofs.Followed.{bad1_more, bad2_more, v1_more, v2_more}
use Rattle.store_reading.proofs.post_rule.follow_post.Goals as goal

pub returns-in-V1 : goal.returns-in-V1
returns-in-V1 c = λ steps before parts texts.
    v1_more c.post.new.texts steps before c.args.stored.now c.in-Mark.mark c.effects_for-v1.result.now c.post.result c.in-Mark.is c.in-V1.is
    (c.effects_for-v1.ensures ∙ parts c.in-Mark.mark.unit 1) (c.post.ensures (tables_by steps before) texts)

pub returns-in-V2 : goal.returns-in-V2
returns-in-V2 c = λ steps before parts texts.
    v2_more c.post-in-V2.new.texts steps before c.args.stored.now c.in-Mark.mark c.effects_for-v2.result.now c.post-in-V2.result c.in-Mark.is c.in-V2.is
    (c.effects_for-v2.ensures ∙ parts c.in-Mark.mark.unit 2) (c.post-in-V2.ensures (tables_by steps before) texts)

pub returns-in-Bad1 : goal.returns-in-Bad1
returns-in-Bad1 c = λ steps before parts texts.
    bad1_more c.args.texts.now steps before c.args.stored.now c.in-Mark.mark c.in-Bad1.index c.in-Bad1.reason c.effects_for-v1.result.now c.is_refused.result
    c.in-Mark.is c.in-Bad1.is
    (c.effects_for-v1.ensures ∙ parts c.in-Mark.mark.unit 1) texts (c.is_refused.ensures (tables_by steps before) texts)

pub returns-in-Bad2 : goal.returns-in-Bad2
returns-in-Bad2 c = λ steps before parts texts.
    bad2_more c.args.texts.now steps before c.args.stored.now c.in-Mark.mark c.in-Bad2.index c.in-Bad2.reason c.effects_for-v2.result.now
    c.is_refused-in-Bad2.result c.in-Mark.is c.in-Bad2.is
    (c.effects_for-v2.ensures ∙ parts c.in-Mark.mark.unit 2) texts (c.is_refused-in-Bad2.ensures (tables_by steps before) texts)
