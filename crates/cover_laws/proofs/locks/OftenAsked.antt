-- How often a lock is among those asked for: in what is added and taken away, and in what requests name.
use Rattle.std.proofs.Common.{◌≡◌, ℕ, ◌+◌, ◌-◌, Bool, true, false, cond, ◌&&◌, List, [], ◌∷◌, ◌++◌, sym, ap, ◌∙◌, refl, arith, inl, inr}
use Rattle.std.specs.List.{list_any}
use Rattle.std.proofs.lemmas.Bool.{cases_Bool, and_parts, and_from, and_left, or_from}
use Rattle.std.proofs.lemmas.List.Sums.{sum_by-cons, sum_by-append}
use Rattle.enq_base.specs.Owners.{same_owner}
use Rattle.enq_base.specs.declared.owner.Owner.{Owner}
use Rattle.lock_entry.specs.Freeing.{replace_first}
use Rattle.lock_entry.specs.Names.{halves, halves_of, named, same_asked, same_name, times}
use Rattle.lock_entry.specs.declared.entry.Asked.{Asked}
use Rattle.lock_entry.specs.declared.entry.Asker.{Asker}
use Rattle.lock_entry.specs.declared.entry.LockName.{LockName}
use Rattle.lock_entry.specs.declared.entry.Request.{Request}
use Rattle.lock_entry.proofs.lemmas.Lists.{count_by-none}
use Rattle.lock_entry.proofs.lemmas.Naming.{bytes_eq-refl, bytes_eq-same, same_mode-refl, same_mode-same, same_owner-refl, same_owner-sym}
use Rattle.coverage.specs.Lacks.{without}
use Rattle.coverage.specs.Locks.{is_exclusive}
use Rattle.cover_laws.proofs.needed.LocksNeeded.{AreExclusive, often, update_asked}

abbrev pub one_if : Bool → ℕ
one_if b = cond b 1 0

-- ---- locks

same_asked-same : (a b : Asked) → same_asked a b ≡ true → a ≡ b
same_asked-same a b h =
    let hs = and_parts _ _ h in
    let ps = and_parts _ _ hs.0 in
    let t : a.table ≡ b.table = bytes_eq-same _ _ ps.0 in
    let p : a.pattern ≡ b.pattern = bytes_eq-same _ _ ps.1 in
    let m : a.mode ≡ b.mode = same_mode-same _ _ hs.1 in
    λ i. record { table = t i; pattern = p i; mode = m i }

pub same_asked-refl : (a : Asked) → same_asked a a ≡ true
same_asked-refl a = and_from _ _ (and_from _ _ (bytes_eq-refl a.table) (bytes_eq-refl a.pattern)) (same_mode-refl a.mode)

-- ---- lists of them

often-cons : (b : Asked) (held : List Asked) (a : Asked) → often (b ∷ held) a ≡ one_if (same_asked a b) + often held a
often-cons b held a = sum_by-cons (λ x. one_if (same_asked a x)) b held

pub often-append : (held added : List Asked) (a : Asked) → often (held ++ added) a ≡ often held a + often added a
often-append held added a = sum_by-append (λ x. one_if (same_asked a x)) held added

-- one lock is taken away where it is held
often-taken : (a b : Asked) (held : List Asked) → often (replace_first (same_asked b) (λ c. []) held) a ≡ often held a - one_if (same_asked a b)
often-taken a b [] = omega arith
often-taken a b (x ∷ xs) =
    let split : often (x ∷ xs) a ≡ one_if (same_asked a x) + often xs a = often-cons x xs a in
    elim (cases_Bool (same_asked b x)) [
      | inl here ↦
          let same : one_if (same_asked a x) ≡ one_if (same_asked a b) =
          ap (λ (y : Asked). one_if (same_asked a y)) (sym (same_asked-same b x here)) in
          rw here (omega arith)
      | inr other ↦
          let left = replace_first (same_asked b) (λ c. []) xs in
          let rest : often left a ≡ often xs a - one_if (same_asked a b) = often-taken a b xs in
          let more : often (x ∷ left) a ≡ one_if (same_asked a x) + often left a = often-cons x left a in
          elim (cases_Bool (same_asked a b)) [
            | inl is ↦
                let apart : same_asked a x ≡ false = ap (λ (y : Asked). same_asked y x) (same_asked-same a b is) ∙ other in
                let none : one_if (same_asked a x) ≡ 0 = ap one_if apart in
                rw other (omega arith)
            | inr isnt ↦
                let none : one_if (same_asked a b) ≡ 0 = ap one_if isnt in
                rw other (omega arith)
          ]
    ]

pub often-without : (taken held : List Asked) (a : Asked) → often (without held taken) a ≡ often held a - often taken a
often-without [] held a = omega arith
often-without (b ∷ bs) held a =
    let left = replace_first (same_asked b) (λ c. []) held in
    let one : often left a ≡ often held a - one_if (same_asked a b) = often-taken a b held in
    let rest : often (without left bs) a ≡ often left a - often bs a = often-without bs left a in
    let split : often (b ∷ bs) a ≡ one_if (same_asked a b) + often bs a = often-cons b bs a in
    omega arith

-- no other lock is among exclusive ones
pub often-lenient : (held : List Asked) (a : Asked) → AreExclusive held → is_exclusive a.mode ≡ false → often held a ≡ 0
often-lenient held a firm lenient = count_by-none (same_asked a) held (none held firm)
  where
    none : (xs : List Asked) → AreExclusive xs → list_any (same_asked a) xs ≡ false
    none [] h = refl
    none (x ∷ xs) h =
        let hs = and_parts (is_exclusive x.mode) _ h in
        elim (cases_Bool (same_asked a x)) [
          | inl same ↦ absurd (let e = ap (λ (y : Asked). is_exclusive y.mode) (same_asked-same a x same) in cc)
          | inr other ↦ or_from (same_asked a x) _ other (none xs hs.1)
        ]

-- ---- the halves of requests

times-two : (n x y : LockName) (dialogue update : Bool)
    → times (cond dialogue (x ∷ []) [] ++ cond update (y ∷ []) []) n ≡ cond dialogue (one_if (same_name n x)) 0 + cond update (one_if (same_name n y)) 0
times-two n x y true true = omega arith
times-two n x y true false = omega arith
times-two n x y false true = omega arith
times-two n x y false false = omega arith

times-more : (asker : Asker) (r : Request) (rs : List Request) (n : LockName)
    → times (halves asker (r ∷ rs)) n ≡ times (halves_of asker r) n + times (halves asker rs) n
times-more asker r rs n = sum_by-append (λ k. one_if (same_name n k)) (halves_of asker r) (halves asker rs)

second_half : (dialogue update p q s : Bool) → p ≡ false → q ≡ s → cond dialogue (one_if p) 0 + cond update (one_if q) 0 ≡ cond update (one_if s) 0
second_half true true p q s h k = rw (h, k) (omega arith)
second_half true false p q s h k = rw h (omega arith)
second_half false true p q s h k = rw k (omega arith)
second_half false false p q s h k = omega arith

no_half : (dialogue update p q : Bool) → p ≡ false → q ≡ false → cond dialogue (one_if p) 0 + cond update (one_if q) 0 ≡ 0
no_half true true p q h k = rw (h, k) (omega arith)
no_half true false p q h k = rw h (omega arith)
no_half false true p q h k = rw k (omega arith)
no_half false false p q h k = omega arith

often-asked : (r : Request) (rs : List Request) (a : Asked)
    → often (update_asked (r ∷ rs)) a ≡ cond r.update (one_if (same_asked a r.asked)) 0 + often (update_asked rs) a
often-asked r rs a =
    elim (cases_Bool r.update) [ inl u ↦ rw u (often-cons r.asked (update_asked rs) a) | inr u ↦ rw u (omega arith) ]

other-owner : (owner other : Owner) (a b : Asked) → same_owner owner other ≡ false → same_name (named owner a) (named other b) ≡ false
other-owner owner other a b h = and_left (same_owner owner other) (same_asked a b) h

-- the update owner's names are its locks
pub times-update : (asker : Asker) (a : Asked) → same_owner asker.dialogue asker.update ≡ false → (rs : List Request)
    → times (halves asker rs) (named asker.update a) ≡ often (update_asked rs) a
times-update asker a apart [] = refl
times-update asker a apart (r ∷ rs) =
    let n = named asker.update a in
    let d = named asker.dialogue r.asked in
    let u = named asker.update r.asked in
    let other : same_name n d ≡ false = other-owner asker.update asker.dialogue a r.asked (same_owner-sym asker.update asker.dialogue ∙ apart) in
    let own : same_name n u ≡ same_asked a r.asked = ap (λ b. b && same_asked a r.asked) (same_owner-refl asker.update) in
    let here : times (halves_of asker r) n ≡ cond r.update (one_if (same_asked a r.asked)) 0 =
    times-two n d u r.dialogue r.update ∙ second_half r.dialogue r.update (same_name n d) (same_name n u) (same_asked a r.asked) other own in
    let rest : times (halves asker rs) n ≡ often (update_asked rs) a = times-update asker a apart rs in
    let split : times (halves asker (r ∷ rs)) n ≡ times (halves_of asker r) n + times (halves asker rs) n = times-more asker r rs n in
    let asks : often (update_asked (r ∷ rs)) a ≡ cond r.update (one_if (same_asked a r.asked)) 0 + often (update_asked rs) a =
    often-asked r rs a in
    omega arith

-- an owner that isn't of the pair is in no name
pub times-other : (asker : Asker) (owner : Owner) (a : Asked) → same_owner asker.dialogue owner ≡ false
    → same_owner asker.update owner ≡ false → (rs : List Request) → times (halves asker rs) (named owner a) ≡ 0
times-other asker owner a d u [] = refl
times-other asker owner a d u (r ∷ rs) =
    let n = named owner a in
    let x = named asker.dialogue r.asked in
    let y = named asker.update r.asked in
    let first : same_name n x ≡ false = other-owner owner asker.dialogue a r.asked (same_owner-sym owner asker.dialogue ∙ d) in
    let second : same_name n y ≡ false = other-owner owner asker.update a r.asked (same_owner-sym owner asker.update ∙ u) in
    let here : times (halves_of asker r) n ≡ 0 =
    times-two n x y r.dialogue r.update ∙ no_half r.dialogue r.update (same_name n x) (same_name n y) first second in
    let rest : times (halves asker rs) n ≡ 0 = times-other asker owner a d u rs in
    let split : times (halves asker (r ∷ rs)) n ≡ times (halves_of asker r) n + times (halves asker rs) n = times-more asker r rs n in
    omega arith
