use Rattle.std.proofs.Common.{◌≡◌, ◌∙◌, ◌+◌, ap, sym, set, Some, Bool, false, cond, ℕ, arith}
use Rattle.std.specs.Prelude.{min}
use Rattle.lock_entry.specs.declared.entry.Entry.{Entry}
use Rattle.lock_entry.specs.declared.entry.LockName.{LockName}
use Rattle.lock_entry.specs.Names.{has_name}
use Rattle.lock_index.specs.Granted.{risen}
use Rattle.lock_index.specs.Slots.{live}
use Rattle.lock_index.proofs.Changed.{mapped-first, mapped-none}
use Rattle.lock_index.proofs.changes.raise.Goals as goal

stays : (n : LockName) (x : Entry) → has_name n x ≡ false → risen n x ≡ x
stays n x h = ap (λ b. cond b (record x { count = min 65535 (x.count + 1) }) x) h

pub returns-in-Some : goal.returns-in-Some
returns-in-Some c =
    let e = c.in-Some.entry in
    let n = c.args.name.now in
    let more : c.saturating_add.result ≡ min 65535 (e.count + 1) = c.saturating_add.ensures
    ∙ (let s : min (e.count + 1) 65535 ≡ min 65535 (e.count + 1) = omega arith in s) in
    ap live c.recount.ensures
    ∙ ap (λ (k : ℕ). live (set c.args.shelf.now c.in-Some.place (Some (record e { count = k })))) more
    ∙ ap (λ (b : Bool). live (set c.args.shelf.now c.in-Some.place (Some (cond b (record e { count = min 65535 (e.count + 1) }) e))))
    (sym c.in-Some.ensures.some.passes)
    ∙ mapped-first n (risen n) (stays n) c.args.shelf.now c.in-Some.place e c.requires c.in-Some.ensures.some

pub returns-in-None : goal.returns-in-None
returns-in-None c = mapped-none c.args.name.now (risen c.args.name.now) (stays c.args.name.now) (live c.args.shelf.now) c.in-None.ensures.none
