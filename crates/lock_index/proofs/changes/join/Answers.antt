use Rattle.std.proofs.Common.{◌∙◌, ◌+◌, ap, sym, set, Some, Bool, cond, ℕ}
use Rattle.std.specs.Prelude.{min}
use Rattle.lock_entry.specs.Turning.{joined}
use Rattle.lock_index.specs.Slots.{live}
use Rattle.lock_index.proofs.Changed.{mapped-first, mapped-none}
use Rattle.lock_index.proofs.Turned.{joined-other}
use Rattle.lock_index.proofs.changes.join.Goals as goal

pub returns-in-Some : goal.returns-in-Some
returns-in-Some c =
    let e = c.in-Some.entry in
    let n = c.args.name.now in
    let o = c.args.other.now in
    ap live c.recount.ensures
    ∙ ap (λ (k : ℕ). live (set c.args.shelf.now c.in-Some.place (Some (record e { count = k })))) c.sum.ensures
    ∙ ap (λ (b : Bool). live (set c.args.shelf.now c.in-Some.place (Some (cond b (record e { count = min 9999 (e.count + o.count) }) e))))
    (sym c.in-Some.ensures.some.passes)
    ∙ mapped-first n (joined n o) (joined-other n o) c.args.shelf.now c.in-Some.place e c.requires c.in-Some.ensures.some

pub returns-in-None : goal.returns-in-None
returns-in-None c =
    let n = c.args.name.now in
    let o = c.args.other.now in
    mapped-none n (joined n o) (joined-other n o) (live c.args.shelf.now) c.in-None.ensures.none
