use Rattle.std.proofs.Common.{◌≡◌, ◌-◌, ◌≤◌, length}
use Rattle.std.specs.Io.KnownBytes.{Consumes}
use Rattle.landscape.proofs.read.read_bytes.Given as goal

-- the bytes so far were taken
abbrev pub invariant-chunks : goal.invariant-chunks
invariant-chunks g l = record {
  taken : Consumes (g.S.Source.left l.initial.source) (g.S.Source.left l.source) l.bytes.items;
  most : length l.bytes.items ≤ 1048577;
  quiet : g.S.Source.faults l.source ≡ g.S.Source.faults l.initial.source;
}

abbrev pub decreases-chunks : goal.decreases-chunks
decreases-chunks g l = 1048577 - length l.bytes.items
