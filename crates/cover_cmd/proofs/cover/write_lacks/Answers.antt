use Rattle.cover_cmd.proofs.Outcomes.{put_ends, unwritten, written}
use Rattle.cover_cmd.proofs.cover.write_lacks.Goals as goal

pub returns-in-Ok-clause-tells : goal.returns-in-Ok-clause-tells
returns-in-Ok-clause-tells g c =
    written c.args.objects.now _ _ _ _ _ _ _ _ c.in-Ok.text c.as_slice.result.now c.put_text.result c.as_slice.ensures.value c.in-Ok.ensures.reads
    c.put_text.ensures.puts

pub returns-in-Ok-clause-unwritten : goal.returns-in-Ok-clause-unwritten
returns-in-Ok-clause-unwritten g c = put_ends _ _ _ _ _ c.put_text.result c.put_text.ensures.puts

pub returns-in-Err-clause-tells : goal.returns-in-Err-clause-tells
returns-in-Err-clause-tells g c = unwritten c.args.objects.now _ _ _ _ _ _ _ _ c.in-Err.why c.in-Err.ensures.reads
