use Rattle.std.proofs.Common.{sym, ◌∙◌}
use Rattle.script_runner.proofs.TurnLemmas.{turn_blank, turn_done, turn_shown}
use Rattle.script_runner.proofs.turn.take_line.Goals as goal

pub returns-in-Blank-clause-turn : goal.returns-in-Blank-clause-turn
returns-in-Blank-clause-turn g c = λ bytes known. turn_blank _ _ _ _ _ bytes _ known (sym c.line_kind.ensures ∙ c.in-Blank.is)

pub returns-in-Shown-clause-turn : goal.returns-in-Shown-clause-turn
returns-in-Shown-clause-turn g c = λ bytes known. turn_shown _ _ _ _ _ _ _ bytes _ _ _ known (sym c.line_kind.ensures ∙ c.in-Shown.is) c.show.ensures.shown

pub returns-in-Replied-clause-turn : goal.returns-in-Replied-clause-turn
returns-in-Replied-clause-turn g c = λ bytes known. turn_done _ _ _ _ _ _ _ _ _ bytes _ _ _ known c.do_line-reply.ensures.does c.answer.ensures.answer
