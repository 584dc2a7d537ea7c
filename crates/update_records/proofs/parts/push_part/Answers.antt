use Rattle.std.proofs.Common.{◌<◌, length, arith}
use Rattle.std.proofs.lemmas.Bool.Decides.{nat_tests}
use Rattle.update_records.proofs.Steps.{part_whole}
use Rattle.update_records.proofs.parts.push_part.Goals as goal

pub returns-clause-rows : goal.returns-clause-rows
returns-clause-rows c =
    let some : 0 < length c.args.effects.now = grind (arith, nat_tests) in
    part_whole c.args.key.now c.args.part c.args.effects.now _ c.args.batch.now.items _ _ some c.in_ok-encode_module.ensures c.in_ok-push.ensures.items
    c.in_ok-push_steps.ensures.rows
