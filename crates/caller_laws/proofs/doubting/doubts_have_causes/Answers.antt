use Rattle.caller_laws.proofs.Causes.{file_rose, store_rose}
use Rattle.caller_laws.proofs.doubting.doubts_have_causes.Goals as goal

pub returns : goal.returns
returns c = record { store = store_rose; file = file_rose }
