use Rattle.std.proofs.Common.{get_or, refl}
use Rattle.backup_file.proofs.SlotBytes.{slot_cut}
use Rattle.backup_file.proofs.slot_bytes.slot_of.Goals as goal

pub returns : goal.returns
returns c =
    slot_cut c.args.bytes.now (get_or c.args.bytes.now 0 0) c.read_u64-generation.result c.read_u64-start.result c.requires refl
    c.read_u64-generation.ensures c.read_u64-start.ensures
