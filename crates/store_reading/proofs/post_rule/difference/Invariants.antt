use Rattle.std.proofs.Common.{◌≡◌, ◌+◌, length, map}
use Rattle.store_reading.specs.Posts.{difference_from}
use Rattle.store_reading.specs.Posting.{text_row}
use Rattle.store_reading.proofs.post_rule.difference.Given as goal

abbrev pub invariant-loop-id : goal.invariant-loop-id
invariant-loop-id l = record {
  can_next : (goal.iterator-loop-id).can_next l.id-iterator;
  is_finite : (goal.iterator-loop-id).is_finite l.id-iterator;
  counted : l.row + length l.id-iterator ≡ length l.texts.entries + 1;
  tail : difference_from l.row (map text_row l.id-iterator) l.rest ≡ difference_from 1 (map text_row l.texts.entries) l.business;
}
