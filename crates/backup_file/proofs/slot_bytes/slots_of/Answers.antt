use Rattle.std.proofs.Common.{arith}
use Rattle.backup_file.proofs.SlotBytes.{slots_cut, slots_headed, slots_sized}
use Rattle.backup_file.proofs.slot_bytes.slots_of.Goals as goal

pub returns-then-bytes-lt39-clause-none : goal.returns-then-bytes-lt39-clause-none
returns-then-bytes-lt39-clause-none c = λ s at. absurd (omega (arith, slots_sized c.args.bytes.now s at, c.if-bytes-lt39.true))

pub returns-then-not-has_slots_head-clause-none : goal.returns-then-not-has_slots_head-clause-none
returns-then-not-has_slots_head-clause-none c = λ s at.
    let yes = c.has_slots_head.ensures.1 (slots_headed c.args.bytes.now s at) in let no = c.if-not-has_slots_head.true in cc

pub returns-clause-some : goal.returns-clause-some
returns-clause-some c =
    slots_cut c.args.bytes.now (c.has_slots_head.ensures.0 c.if-not-has_slots_head.false) c.slot_of-one.result c.slot_of-two.result c.slot_of-one.ensures
    c.slot_of-two.ensures
