use Rattle.caller_laws.proofs.Drawn.{did_draw}
use Rattle.caller_laws.proofs.Whose.{none_buffered}
use Rattle.caller_laws.proofs.laws.numbers_come_from_stocks.Goals as goal

pub returns : goal.returns
returns c = record { none = none_buffered; drew = λ land lines past session. did_draw land session lines past }
