use Rattle.stock_laws.proofs.Given.{lot_handing, lot_limited, lot_more}
use Rattle.stock_laws.proofs.Opening.{lot_opened}
use Rattle.stock_laws.proofs.Steps.{lot_kept}
use Rattle.stock_laws.proofs.laws.lots_stay.Goals as goal

pub returns : goal.returns
returns c = record { opened = lot_opened; kept = lot_kept; limit = lot_limited; handed = lot_handing; more = lot_more }
