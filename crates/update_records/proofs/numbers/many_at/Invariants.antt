use Rattle.std.proofs.Common.{◌≡◌, ◌-◌}
use Rattle.byte_fields.specs.Fields.{many}
use Rattle.update_records.specs.Reading.{num_at}
use Rattle.byte_fields.proofs.lemmas.Loop.{with_front}
use Rattle.update_records.proofs.numbers.many_at.Given as goal

abbrev pub invariant-loop : goal.invariant-loop
invariant-loop l = with_front l.numbers.items (many num_at (l.count - l.counter) l.rest) ≡ many num_at l.count l.bytes
