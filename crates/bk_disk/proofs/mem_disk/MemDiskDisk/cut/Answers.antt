use Rattle.bk_disk.specs.declared.change.Change.TheVariants.{Resize}
use Rattle.bk_disk.proofs.Memories.{refused_left, change_left, cut_may_leave}
use Rattle.bk_disk.proofs.mem_disk.MemDiskDisk.cut.Goals as goal

pub returns-in_default-clause-left : goal.returns-in_default-clause-left
returns-in_default-clause-left c =
    refused_left (Resize c.args.length) c.args.self.now c.fails_now-fails.new.self c.refuse.new.self c.fails_now-fails.ensures.counted c.refuse.ensures.refused

pub returns-clause-left : goal.returns-clause-left
returns-clause-left c =
    let old = c.args.self.now in
    let mid = c.fails_now-fails.new.self in
    let next = c.in-Some.next.items in
    let counted = c.fails_now-fails.ensures.counted in
    change_left (Resize c.args.length) old mid c.change.new.self next c.fails_now-fails.result c.change.result
    (cut_may_leave c.args.length old mid next counted c.in-Some.ensures.value) counted c.change.ensures.done c.change.ensures.failed
