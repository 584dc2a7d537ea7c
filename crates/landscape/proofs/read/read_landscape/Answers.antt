use Rattle.landscape.proofs.Whole.{answers_all}
use Rattle.landscape.proofs.read.read_landscape.Goals as goal

pub returns-clause-exact : goal.returns-clause-exact
returns-clause-exact g c =
    let given = rw c.as_slice.ensures.value at c.landscape_in.ensures in
    answers_all _ _ _ _ c.in_ok-bytes.bytes c.landscape_in.result c.in_ok-bytes.ensures given
