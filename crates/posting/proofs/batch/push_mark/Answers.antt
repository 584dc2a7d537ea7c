use Rattle.posting.proofs.BatchRows.{pushed_two}
use Rattle.posting.proofs.batch.push_mark.Goals as goal

pub returns-clause-rows : goal.returns-clause-rows
returns-clause-rows c = pushed_two c.args.batch.now.items _ _ _ _ _ _ c.in_ok-push.ensures.items c.in_ok-push-2.ensures.items c.in_ok-encode_mark.ensures.row
    c.in_ok-encode_meta.ensures.row
