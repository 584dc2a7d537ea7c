use Rattle.update_records.proofs.PlaceLaws.{one_place}
use Rattle.update_records.proofs.lemmas.TableLaws.{one_record}
use Rattle.update_records.proofs.laws.rows_tell_records.Goals as goal

pub returns-clause-one : goal.returns-clause-one
returns-clause-one c = one_record

pub returns-clause-place : goal.returns-clause-place
returns-clause-place c = one_place
