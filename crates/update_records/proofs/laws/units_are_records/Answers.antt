use Rattle.update_records.proofs.lemmas.Distinct.{unit_batch, units_apart}
use Rattle.update_records.proofs.lemmas.UnitRecords.{unit_is, unit_fits, kind_fits}
use Rattle.update_records.proofs.laws.units_are_records.Goals as goal

pub returns-clause-rows : goal.returns-clause-rows
returns-clause-rows c = unit_is

pub returns-clause-grammar : goal.returns-clause-grammar
returns-clause-grammar c unit is = unit_fits unit is.key is.user is.few is.first is.second is.few_numbers is.numbers is.few_entries is.entries

pub returns-clause-batch : goal.returns-clause-batch
returns-clause-batch c unit is = unit_batch unit is.few is.few_entries

pub returns-clause-mark : goal.returns-clause-mark
returns-clause-mark c m seq unit kind = (seq, unit, kind_fits m.kind kind)

pub returns-clause-apart : goal.returns-clause-apart
returns-clause-apart c u v is_u is_v = units_apart u v is_u.key is_v.key
