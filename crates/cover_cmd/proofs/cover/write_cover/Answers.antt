use Rattle.cover_cmd.proofs.Outcomes.{blames, completes, covers, landed, no_blame, unbroken, unlanded, unlanded_ends}
use Rattle.cover_cmd.proofs.cover.write_cover.Goals as goal

pub returns-in-Ok-clause-covered : goal.returns-in-Ok-clause-covered
returns-in-Ok-clause-covered g c =
    covers _ _ _ _ _ _ _ _ _ _ _ c.in-Ok.land c.as_slice.result.now c.write_lacks.result
    (landed _ _ _ _ c.in-Ok.land c.in-Ok.ensures.reads c.in-Ok.ensures.exact) c.as_slice.ensures c.write_lacks.ensures.tells

pub returns-in-Ok-clause-unread : goal.returns-in-Ok-clause-unread
returns-in-Ok-clause-unread g c = λ rule place is. unbroken _ _ _ _ _ _ _ _ _ rule place c.write_lacks.result c.write_lacks.ensures.tells is

pub returns-in-Ok-clause-no_landing : goal.returns-in-Ok-clause-no_landing
returns-in-Ok-clause-no_landing g c = λ apart. absurd (apart (landed _ _ _ _ c.in-Ok.land c.in-Ok.ensures.reads c.in-Ok.ensures.exact).quiet)

pub returns-in-Ok-clause-line_fault : goal.returns-in-Ok-clause-line_fault
returns-in-Ok-clause-line_fault g c = λ bytes is. blames _ _ _ _ _ _ _ _ _ c.write_lacks.result bytes is c.write_lacks.ensures.tells

pub returns-in-Ok-clause-complete : goal.returns-in-Ok-clause-complete
returns-in-Ok-clause-complete g c =
    λ bytes is script document told land gives calm quiet still.
    completes _ _ _ _ _ _ _ _ _ c.write_lacks.result bytes is c.write_lacks.ensures.tells script quiet still

pub returns-in-Err-clause-covered : goal.returns-in-Err-clause-covered
returns-in-Err-clause-covered g c =
    unlanded _ _ _ _ _ _ _ _ _ _ _ _ c.in-Err.fault _ c.land_end.ensures c.in-Err.ensures.reads c.in-Err.ensures.exact

pub returns-in-Err-clause-line_fault : goal.returns-in-Err-clause-line_fault
returns-in-Err-clause-line_fault g c = λ bytes is. no_blame c.in-Err.fault _ bytes c.land_end.ensures

pub returns-in-Err-clause-complete : goal.returns-in-Err-clause-complete
returns-in-Err-clause-complete g c =
    λ bytes is script document told land gives calm quiet still.
    unlanded_ends _ _ _ _ c.in-Err.fault _ document land c.land_end.ensures told gives calm c.in-Err.ensures.reads c.in-Err.ensures.exact
