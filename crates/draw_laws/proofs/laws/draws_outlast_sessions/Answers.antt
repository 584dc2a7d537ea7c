use Rattle.std.proofs.Common.{[], ◌∷◌, ◌++◌}
use Rattle.draw_laws.proofs.SessionDraws.{fewer_drawn, fewer_given_back, fewer_last, fewer_without, first_drawn}
use Rattle.draw_laws.proofs.laws.draws_outlast_sessions.Goals as goal

pub returns-clause-start : goal.returns-clause-start
returns-clause-start c = λ intervals levels committed are fit agree. first_drawn intervals levels [] committed are fit agree tt

pub returns-clause-comes : goal.returns-clause-comes
returns-clause-comes c = λ ranges levels draws committed h. fewer_drawn ranges levels draws (draws ++ [] ∷ []) committed (fewer_last draws) h

pub returns-clause-goes : goal.returns-clause-goes
returns-clause-goes c = λ ranges levels before own after committed h.
    fewer_drawn ranges levels (before ++ own ∷ after) (before ++ after) committed (fewer_without before own after) h

pub returns-clause-gives_back : goal.returns-clause-gives_back
returns-clause-gives_back c = λ ranges levels before own after committed h.
    fewer_drawn ranges levels (before ++ own ∷ after) (before ++ [] ∷ after) committed (fewer_given_back before own after) h
