use Rattle.record_laws.proofs.CommittedNumbers.{numbers_push}
use Rattle.record_laws.proofs.laws.marks_add_their_numbers.Goals as goal

pub returns : goal.returns
returns c = record { numbers = numbers_push }
