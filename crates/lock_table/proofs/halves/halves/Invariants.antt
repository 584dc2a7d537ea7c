use Rattle.std.proofs.Common.{◌≡◌, map, take, drop}
use Rattle.lock_entry.specs.declared.entry.Request.{Request}
use Rattle.lock_entry.specs.Names as names
use Rattle.lock_entry.specs.Granting.{first_bar}
use Rattle.lock_table.specs.Halves.{half_at}
use Rattle.lock_table.proofs.halves.halves.Given as goal

abbrev pub invariant-loop-request : goal.invariant-loop-request
invariant-loop-request l = record {
  bars : first_bar l.entries l.asker (map (λ (r : Request). r.asked) l.requests) ≡ first_bar l.entries l.asker
      (map (λ (r : Request). r.asked) (drop l.request-index l.requests));
  walked : l.halves.items ≡ map (half_at l.entries) (names.halves l.asker (take l.request-index l.requests));
}
