use Rattle.store_reading.proofs.Stores.{each_one, one_place, not_both_answers}
use Rattle.store_reading.proofs.laws.stores_tell_one_answer.Goals as goal

pub returns-clause-records : goal.returns-clause-records
returns-clause-records c = each_one c.rows_tell_records.ensures.one

pub returns-clause-place : goal.returns-clause-place
returns-clause-place c = one_place

pub returns-clause-apart : goal.returns-clause-apart
returns-clause-apart c = not_both_answers
