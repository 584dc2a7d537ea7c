use Rattle.enq_server.proofs.lemmas.Listed.{handed_as_kept, returned_as_kept}
use Rattle.enq_server.proofs.laws.one_user_is_kept.Goals as goal

pub returns-clause-handed : goal.returns-clause-handed
returns-clause-handed c = handed_as_kept

pub returns-clause-returned : goal.returns-clause-returned
returns-clause-returned c = returned_as_kept
