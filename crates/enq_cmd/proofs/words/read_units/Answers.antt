use Rattle.enq_cmd.proofs.WordLists.{if_none, outside}
use Rattle.enq_cmd.proofs.words.read_units.Goals as goal

pub returns-clause-none : goal.returns-clause-none
returns-clause-none c =
    if_none _ _ c.in_units.result c.in_units.ensures.none
    (λ out. outside c.args.text.now c.in_ok-read_number.field-0 c.in_units.ensures.fits c.in_ok-read_number.ensures.spelled out)
