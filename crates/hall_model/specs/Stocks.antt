-- When a call may be made: a commit has numbers of a stock that may be committed, and nothing is asked of any other
-- call.
use Rattle.std.specs.Prelude.{List}
use Rattle.enq_base.specs.declared.unit.Num.{Num}
use Rattle.ledger_steps.specs.Drawn.{IsStock}
use Rattle.ledger_steps.specs.Levels.{intervals_of}
use Rattle.update_records.specs.Business.{numbers_of}
use Rattle.hall_model.specs.Calls.{Call, LogsOn, OfSession, OfWorker, OfAdmin, SessionCall, Commits}
use Rattle.hall_model.specs.Kept.{draws_in}
use Rattle.hall_model.specs.State.{State}

-- each number is of an interval with a buffer, and one of those up to its level; none stands twice, none is committed,
-- and no session has drawn one
abbrev pub IsStockIn : State → List Num → Type 0
IsStockIn s stock =
    IsStock (intervals_of s.ranges) s.stored.levels (draws_in s.sessions)
    (numbers_of s.stored.units s.stored.marks) stock

abbrev pub SessionMayCall : State → SessionCall → Type 0
SessionMayCall s (Commits parts stock) = IsStockIn s stock
SessionMayCall s call = Unit {0}

abbrev pub MayCall : State → Call → Type 0
MayCall s (LogsOn session user) = Unit {0}
MayCall s (OfSession session call) = SessionMayCall s call
MayCall s (OfWorker worker call) = Unit {0}
MayCall s (OfAdmin call) = Unit {0}
