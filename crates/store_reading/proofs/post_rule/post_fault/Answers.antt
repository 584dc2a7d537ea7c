use Rattle.store_reading.proofs.Followed.{no_texts}
use Rattle.store_reading.proofs.post_rule.post_fault.Goals as goal

pub post_marks-requires : goal.post_marks-requires
post_marks-requires c = no_texts c.new-texts.result c.new-texts.ensures.empty
