use Rattle.std.proofs.Common.{inr, sym, ap, subst, List, ℕ, Result, Ok, Err, IfOk, Vec, ◌≡◌, ◌∙◌}
use Rattle.std.specs.declared.alloc.Global.{Global}
use Rattle.enq_base.specs.declared.no_memory.NoMemory.{NoMemory}
use Rattle.bk_disk.specs.Images.{IsImage, LeftBy, all_filled}
use Rattle.bk_disk.specs.Memory.{MemView}
use Rattle.bk_disk.specs.declared.change.Change.{Change}
use Rattle.bk_disk.proofs.Images.{LeftBy-base, LeftBy-filled}
use Rattle.bk_disk.proofs.mem_disk.MemDisk.image.Goals as goal

is_filled : (byte : ℕ) (r : Result (Vec ℕ Global) NoMemory) (bytes base : List ℕ) (cs : List Change) → IfOk r (λ v. v.items ≡ all_filled byte base cs)
    → IfOk r (λ v. IsImage bytes base cs v.items)
is_filled byte (Ok v) bytes base cs is = inr (subst (λ (l : List ℕ). LeftBy cs base l) (sym is) (LeftBy-filled byte cs base))
is_filled byte (Err e) bytes base cs is = tt

pub returns-in_ok-from_slice-in-0-clause-left : goal.returns-in_ok-from_slice-in-0-clause-left
returns-in_ok-from_slice-in-0-clause-left c =
    let m = c.args.self.now in
    let is = c.in_ok-from_slice-in-0.ensures.items ∙ c.deref.ensures.value ∙ ap (λ (v : MemView). v.synced) c.self.view_is in
    inr (subst (λ (l : List ℕ). LeftBy m.changes m.synced l) (sym is) (LeftBy-base m.changes m.synced))

pub returns-in-2-clause-left : goal.returns-in-2-clause-left
returns-in-2-clause-left c =
    let m = c.args.self.now in
    is_filled 255 c.filled.result m.reads m.synced m.changes c.filled.ensures

pub returns-in_default-clause-left : goal.returns-in_default-clause-left
returns-in_default-clause-left c =
    let m = c.args.self.now in
    is_filled 1 c.filled-in_default.result m.reads m.synced m.changes c.filled-in_default.ensures
