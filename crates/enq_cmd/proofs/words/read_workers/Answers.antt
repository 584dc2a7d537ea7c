use Rattle.enq_cmd.proofs.WordLists.{if_none, outside_crew}
use Rattle.enq_cmd.proofs.words.read_workers.Goals as goal

pub returns-clause-none : goal.returns-clause-none
returns-clause-none c =
    if_none _ _ c.in_crew.result c.in_crew.ensures.none
    (λ out. outside_crew c.args.text.now c.in_ok-read_number.field-0 c.in_crew.ensures.fits c.in_ok-read_number.ensures.spelled out)
