use Rattle.std.proofs.Common.{◌≡◌, ◌+◌, [], take, drop}
use Rattle.store_reading.specs.First.{first_wrong}
use Rattle.store_reading.specs.Posts.{is_right_post, tables_by}
use Rattle.store_reading.specs.Posting.{AreTexts}
use Rattle.store_reading.proofs.post_rule.post_marks.Given as goal

abbrev pub invariant-loop-stored : goal.invariant-loop-stored
invariant-loop-stored l = record {
  place : l.row ≡ l.stored-index + 1;
  texts : AreTexts l.texts (tables_by l.steps (take l.stored-index l.marks));
  rest : first_wrong (is_right_post l.steps) 4 (take l.stored-index l.marks) (drop l.stored-index l.marks) ≡ first_wrong (is_right_post l.steps) 4 [] l.marks;
}
