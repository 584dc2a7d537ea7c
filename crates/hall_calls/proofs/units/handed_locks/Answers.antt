use Rattle.std.proofs.Common.{◌≡◌, ◌++◌, ℕ, length, take, drop, ap, ◌∙◌, arith}
use Rattle.std.proofs.Math.Seq.{take-append_seam}
use Rattle.enq_base.specs.declared.owner.Owner.TheVariants.{Upd}
use Rattle.enq_server.specs.Server.{of_user}
use Rattle.lock_laws.proofs.OwnEntries.{handed_over-own}
use Rattle.lock_entry.specs.Freeing.{handed_over}
use Rattle.hall_calls.proofs.units.handed_locks.Goals as goal

pub returns-clause-locks : goal.returns-clause-locks
returns-clause-locks g c =
    let put = c.put_under.new.entries in
    let rest = drop (length put) c.hand_over.new.entries.items in
    let long : c.hand_over.new.entries.len ≡ length put = omega (arith, c.as_mut_slice.ensures.len, c.put_under.auto.entries) in
    let whole : take c.hand_over.new.entries.len (put ++ rest) ≡ put = ap (λ (n : ℕ). take n (put ++ rest)) long ∙ take-append_seam put rest in
    whole
    ∙ c.put_under.ensures
    ∙ ap (of_user c.args.user.now)
    (c.as_mut_slice.ensures.value
    ∙ c.hand_over.ensures
    ∙ ap (λ es. handed_over es c.args.unit.now) c.in_ok-entries.ensures.entries
    ∙ handed_over-own (Upd c.args.unit.now) c.args.locks.now.table.entries)
