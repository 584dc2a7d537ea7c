-- What a crash may leave of a disk in memory.
use Rattle.std.proofs.Common.{◌≡◌, inl, inr, ℕ, ◌+◌, ◌-◌, min, List, [], ◌∷◌, ◌++◌, length, take, drop, replicate, refl, sym, ap, ◌∙◌, subst, arith, append_assoc, length-append}
use Rattle.std.proofs.lemmas.List.{take_at, drop_at, take_all, append-nil, length-take, length-drop, length-replicate}
use Rattle.std.proofs.lemmas.Bool.{cases_lt}
use Rattle.bk_disk.specs.Disk.{written, resized, Torn, Cut}
use Rattle.bk_disk.specs.Images.{MayLeave, LeftBy, filled, all_filled, IsImage}
use Rattle.bk_disk.specs.declared.change.Change.{Change}
use Rattle.bk_disk.specs.declared.change.Change.TheVariants.{Write, Resize}

take_min : (at : ℕ) (c : List ℕ) → take (min at (length c)) c ≡ take at c
take_min at c = elim (cases_lt at (length c)) [
  | inl lt ↦ ap (λ (k : ℕ). take k c) (omega arith)
  | inr le ↦ take_all _ c (omega arith) ∙ sym (take_all _ c (omega arith))
]

pub Torn-same : (at n : ℕ) (c : List ℕ) → Torn at n c c
Torn-same at n c = record { before = take_min at c; after = refl; no_shorter = omega arith; no_longer = omega arith }

pub Cut-same : (n : ℕ) (c : List ℕ) → Cut n c c
Cut-same n c = record { no_shorter = omega arith; no_longer = omega arith; same = refl }

pub Torn-written : (at : ℕ) (old bytes : List ℕ) → Torn at (length bytes) old (written old at bytes)
Torn-written at old bytes =
    let zeros : List ℕ = replicate (at - length old) 0 in
    let tail : List ℕ = drop (at + length bytes) old in
    let short : length (take at old) ≡ min at (length old) = omega (arith, length-take at old) in
    let size : length (take at old ++ zeros ++ bytes) ≡ at + length bytes =
    omega (arith, short, length-append (take at old ++ zeros) bytes, length-append (take at old) zeros, length-replicate {A = ℕ} (at - length old) 0) in
    let all : length (written old at bytes) ≡ at + length bytes + length tail = omega (arith, size, length-append (take at old ++ zeros ++ bytes) tail) in
    let rest : length tail ≡ length old - (at + length bytes) = length-drop (at + length bytes) old in
    record {
      before = ap (λ (l : List ℕ). take (min at (length old)) l)
          (append_assoc (take at old ++ zeros) bytes tail ∙ append_assoc (take at old) zeros (bytes ++ tail))
          ∙ take_at (take at old) (zeros ++ (bytes ++ tail)) (min at (length old)) short;
      after = drop_at (take at old ++ zeros ++ bytes) tail (at + length bytes) size;
      no_shorter = omega (arith, all, rest);
      no_longer = omega (arith, all, rest);
    }

length-resized : (n : ℕ) (old : List ℕ) → length (resized old n) ≡ n
length-resized n old = omega (arith, length-take n old, length-append (take n old) (replicate (n - length old) 0), length-replicate {A = ℕ} (n - length old) 0)

resized_same : (n : ℕ) (old : List ℕ) → take (length old) (resized old n) ≡ take n old
resized_same n old = elim (cases_lt (length old) n) [
  | inl lt ↦ (let whole : take n old ≡ old = take_all n old (omega arith) in
      ap (λ (l : List ℕ). take (length old) (l ++ replicate (n - length old) 0)) whole ∙ take_at old (replicate (n - length old) 0) (length old) refl
      ∙ sym whole)
  | inr le ↦ (let none : n - length old ≡ 0 = omega arith in
      ap (λ (k : ℕ). take (length old) (take n old ++ replicate k 0)) none ∙ ap (λ (l : List ℕ). take (length old) l) (append-nil (take n old))
      ∙ take_all (length old) (take n old) (omega (arith, length-take n old)))
]

pub Cut-resized : (n : ℕ) (old : List ℕ) → Cut n old (resized old n)
Cut-resized n old =
    let len = length-resized n old in
    record {
      no_shorter = omega (arith, len);
      no_longer = omega (arith, len);
      same = resized_same n old ∙ ap (λ (k : ℕ). take k old) (sym len);
    }

-- ---- the images of a disk in memory

LeftBy-push : (cs : List Change) (c : Change) (base image : List ℕ) → LeftBy (cs ++ c ∷ []) base image → (d : List ℕ) × LeftBy cs base d × MayLeave c d image
LeftBy-push [] c base image left = (base, refl, subst (λ (l : List ℕ). MayLeave c base l) (sym left.2) left.1)
LeftBy-push (b ∷ cs) c base image left =
    let rest = LeftBy-push cs c left.0 image left.2 in
    (rest.0, (left.0, left.1, rest.1), rest.2)

pub MayLeave-same : (c : Change) (old : List ℕ) → MayLeave c old old
MayLeave-same (Write at len) old = Torn-same at len old
MayLeave-same (Resize to) old = Cut-same to old

MayLeave-filled : (byte : ℕ) (c : Change) (old : List ℕ) → MayLeave c old (filled byte old c)
MayLeave-filled byte (Write at len) old = subst (λ (k : ℕ). Torn at k old (written old at (replicate len byte))) (length-replicate len byte)
    (Torn-written at old (replicate len byte))
MayLeave-filled byte (Resize to) old = Cut-resized to old

pub LeftBy-base : (cs : List Change) (base : List ℕ) → LeftBy cs base base
LeftBy-base [] base = refl
LeftBy-base (c ∷ cs) base = (base, MayLeave-same c base, LeftBy-base cs base)

pub LeftBy-filled : (byte : ℕ) (cs : List Change) (base : List ℕ) → LeftBy cs base (all_filled byte base cs)
LeftBy-filled byte [] base = refl
LeftBy-filled byte (c ∷ cs) base = (filled byte base c, MayLeave-filled byte c base, LeftBy-filled byte cs (filled byte base c))

-- a change whose whole effect is known joins those that a crash may have cut short
pub IsImage-push : (cs after : List Change) (c : Change) (old new base image : List ℕ) → after ≡ cs ++ c ∷ [] → MayLeave c old new
    → IsImage new base after image → (d : List ℕ) × IsImage old base cs d × MayLeave c d image
IsImage-push cs after c old new base image e may (inl is) = (old, inl refl, subst (λ (l : List ℕ). MayLeave c old l) (sym is) may)
IsImage-push cs after c old new base image e may (inr left) =
    let from = LeftBy-push cs c base image (subst (λ (l : List Change). LeftBy l base image) e left) in
    (from.0, inr from.1, from.2)

pub IsImage-unchanged : (cs after : List Change) (c : Change) (old base image : List ℕ) → after ≡ cs ++ c ∷ [] → IsImage old base after image → (d : List ℕ)
    × IsImage old base cs d × MayLeave c d image
IsImage-unchanged cs after c old base image e is = IsImage-push cs after c old old base image e (MayLeave-same c old) is
