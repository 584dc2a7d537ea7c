use Rattle.std.proofs.Common.{ap}
use Rattle.update_records.specs.Intervals.{levels_of}
use Rattle.posting.proofs.interval_list.IntervalList.new.Goals as goal

pub returns : goal.returns
returns c = ap levels_of c.new.ensures.items
