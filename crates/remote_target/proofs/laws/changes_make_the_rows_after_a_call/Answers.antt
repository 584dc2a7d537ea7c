use Rattle.remote_target.proofs.Stands.{stands_after}
use Rattle.remote_target.proofs.laws.changes_make_the_rows_after_a_call.Goals as goal

pub returns : goal.returns
returns c = record { stands = stands_after }
