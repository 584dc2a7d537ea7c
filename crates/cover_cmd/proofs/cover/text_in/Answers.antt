use Rattle.cover_cmd.proofs.Outcomes.{texts}
use Rattle.cover_cmd.proofs.cover.text_in.Goals as goal

pub returns-in-Ok-clause-reads : goal.returns-in-Ok-clause-reads
returns-in-Ok-clause-reads g c =
    texts c.args.objects.now _ _ _ _ c.in-Ok.lacks c.as_slice.result.now c.text_of.result c.as_slice.ensures.value c.in-Ok.ensures.reads
    c.text_of.ensures.text c.text_of.ensures.memory
