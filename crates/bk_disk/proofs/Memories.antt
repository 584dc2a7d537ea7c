-- What a crash may leave of a disk in memory after each of its calls.
use Rattle.std.proofs.Common.{◌≡◌, ◌⊎◌, inl, inr, ℕ, Bool, List, [], ◌∷◌, ◌++◌, length, Result, Ok, Err, refl, sym, ap, ◌∙◌, subst}
use Rattle.std.specs.Prelude.{IsTrue, OnOk, OnErr}
use Rattle.enq_base.specs.declared.failed.Failed.{Failed}
use Rattle.bk_disk.specs.Disk.{written, resized, Torn, Cut, Follows}
use Rattle.bk_disk.specs.Images.{MayLeave}
use Rattle.bk_disk.specs.Memory.{MemView, MayBeLeft, called, changed, refused_now, failed_change}
use Rattle.bk_disk.specs.declared.change.Change.{Change}
use Rattle.bk_disk.proofs.Images.{MayLeave-same, IsImage-push, IsImage-unchanged, Torn-written, Cut-resized}

-- a refused call leaves the images as they were
pub refused_left : (c : Change) (old mid new : MemView) → mid ≡ called old → new ≡ refused_now mid → Follows (MayLeave c) (MayBeLeft old) (MayBeLeft new)
refused_left c old mid new counted refused = λ image left.
    (image, subst (λ (m : MemView). MayBeLeft m image) (refused ∙ ap refused_now counted) left, MayLeave-same c image)

abbrev MayFail : Bool → Change → MemView → MemView → Type 0
MayFail fails c mid new = (new ≡ refused_now mid) ⊎ (IsTrue fails × (new ≡ failed_change mid c))

-- a change adds what a crash may leave of it, whether it failed or not
pub change_left : (c : Change) (old mid new : MemView) (bytes : List ℕ) (fails : Bool) (r : Result (Unit {0}) Failed) → MayLeave c old.reads bytes
    → mid ≡ called old → OnOk r (new ≡ changed mid c bytes) → OnErr r (MayFail fails c mid new) → Follows (MayLeave c) (MayBeLeft old) (MayBeLeft new)
change_left c old mid new bytes fails (Ok u) may counted done failed = λ image left.
    IsImage-push old.changes (old.changes ++ c ∷ []) c old.reads bytes old.synced image refl may
    (subst (λ (m : MemView). MayBeLeft m image) (done ∙ ap (λ (m : MemView). changed m c bytes) counted) left)
change_left c old mid new bytes fails (Err e) may counted done (inl refused) = refused_left c old mid new counted refused
change_left c old mid new bytes fails (Err e) may counted done (inr failed) = λ image left.
    IsImage-unchanged old.changes (old.changes ++ c ∷ []) c old.reads old.synced image refl
    (subst (λ (m : MemView). MayBeLeft m image) (failed.1 ∙ ap (λ (m : MemView). failed_change m c) counted) left)

pub write_may_leave : (at : ℕ) (old mid : MemView) (from next : List ℕ) → mid ≡ called old → next ≡ written mid.reads at from
    → Torn at (length from) old.reads next
write_may_leave at old mid from next counted is =
    subst (λ (l : List ℕ). Torn at (length from) old.reads l) (sym (is ∙ ap (λ (m : MemView). written m.reads at from) counted))
    (Torn-written at old.reads from)

pub cut_may_leave : (to : ℕ) (old mid : MemView) (next : List ℕ) → mid ≡ called old → next ≡ resized mid.reads to → Cut to old.reads next
cut_may_leave to old mid next counted is =
    subst (λ (l : List ℕ). Cut to old.reads l) (sym (is ∙ ap (λ (m : MemView). resized m.reads to) counted)) (Cut-resized to old.reads)
