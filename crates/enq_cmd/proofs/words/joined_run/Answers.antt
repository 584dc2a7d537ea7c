use Rattle.std.specs.Prelude.{decimal}
use Rattle.enq_cmd.proofs.WordLists.{none_joined, where_none}
use Rattle.enq_cmd.proofs.words.joined_run.Goals as goal

pub returns-in_err-workers_of-clause-none : goal.returns-in_err-workers_of-clause-none
returns-in_err-workers_of-clause-none c =
    where_none _ c.from_residual.result (none_joined c.args.last.now (λ n crew is. c.in_err-workers_of.ensures.none (decimal n) is))
