-- Cutting at a byte.
use Rattle.std.proofs.Common.{◌≡◌, ℕ, suc, ◌+◌, ◌<◌, true, false, not, cond, List, [], ◌∷◌, ◌++◌, length, take, drop, refl, sym, ap, ◌∙◌, Option, Some, None, option_map, nat_eq, ltb, arith, position, add-one, length-append, subst}
use Rattle.std.specs.Prelude.{IfSome, IfNone}
use Rattle.std.specs.List.{position_or_len}
use Rattle.std.proofs.lemmas.Bool.Decides.{nat_tests}
use Rattle.std.proofs.lemmas.Bool.{cond_both, eqb-true, eq-eqb, and_parts, not-true}
use Rattle.std.proofs.lemmas.Option.{same_Some, none-some}
use Rattle.enq_base.specs.Cut.{cut, onto, is_free}

-- what stands before the place, and what stands behind it
abbrev pub around : List ℕ → ℕ → List ℕ × List ℕ
around bs n = (take n bs, drop (n + 1) bs)

abbrev found : ℕ → List ℕ → Option (List ℕ × List ℕ)
found n bs = cond (ltb n (length bs)) (Some (around bs n)) None

ltb-suc : (n m : ℕ) → ltb (suc n) (suc m) ≡ ltb n m
ltb-suc n m = grind (arith, nat_tests)

found-cons : (b n : ℕ) (bs : List ℕ) → option_map (onto b) (found n bs) ≡ found (suc n) (b ∷ bs)
found-cons b n bs =
    rw (ltb-suc n (length bs), add-one, add-one)
    (elim (ltb n (length bs))
    as (λ v. option_map (onto b) (cond v (Some (take n bs, drop (suc n) bs)) None) ≡ cond v (Some (b ∷ take n bs, drop (suc n) bs)) None)
    [ true ↦ refl | false ↦ refl ])

cut_is : (c : ℕ) (bs : List ℕ) → cut c bs ≡ found (position_or_len (λ b. nat_eq b c) bs) bs
unfolding cut
cut_is c [] = refl
cut_is c (b ∷ bs) =
    let e : 1 + position_or_len (λ b. nat_eq b c) bs ≡ suc (position_or_len (λ b. nat_eq b c) bs) = omega arith in
    elim (nat_eq b c)
    as (λ v. cond v (Some ([], bs)) (option_map (onto b) (cut c bs)) ≡ found (cond (not v) (1 + position_or_len (λ b. nat_eq b c) bs) 0) (b ∷ bs)) [
      | true ↦ grind (arith, nat_tests)
      | false ↦ ap (option_map (onto b)) (cut_is c bs) ∙ found-cons b (position_or_len (λ b. nat_eq b c) bs) bs ∙ ap (λ n. found n (b ∷ bs)) (sym e)
    ]

-- the cut at the place that `position` finds
pub cut-position : (c : ℕ) (bs : List ℕ) → cut c bs ≡ option_map (around bs) (position (λ b. nat_eq b c) bs)
cut-position c bs =
    cut_is c bs ∙ (let n = position_or_len (λ b. nat_eq b c) bs in elim (ltb n (length bs))
    as (λ v. cond v (Some (around bs n)) None ≡ option_map (around bs) (cond v (Some n) None)) [ true ↦ refl | false ↦ refl ])

pub option_map_some : {A B : Type 0} (f : A → B) (o : Option A) (z : B) → option_map f o ≡ Some z → (y : A) × (o ≡ Some y) × (f y ≡ z)
option_map_some f None z h = absurd (none-some z h)
option_map_some f (Some y) z h = (y, refl, same_Some (f y) z h)

option_map_none : {A B : Type 0} (f : A → B) (o : Option A) → option_map f o ≡ None → o ≡ None
option_map_none f None h = refl
option_map_none f (Some y) h = cc

-- what a cut gives
pub record IsCut (c : ℕ) (bs : List ℕ) (x : List ℕ × List ℕ) : Type 0 where
  pub whole : bs ≡ x.0 ++ c ∷ x.1
  pub free : is_free c x.0 ≡ true

IsCut-onto : (c b : ℕ) (bs : List ℕ) (x : List ℕ × List ℕ) → nat_eq b c ≡ false → IsCut c bs x → IsCut c (b ∷ bs) (onto b x)
IsCut-onto c b bs x e h = record { whole = ap (λ l. b ∷ l) h.whole; free = rw e h.free }

pub cut_takes : (c : ℕ) (bs : List ℕ) (x : List ℕ × List ℕ) → cut c bs ≡ Some x → IsCut c bs x
unfolding cut
cut_takes c [] x h = cc
cut_takes c (b ∷ bs) x h =
    cond_both (nat_eq b c) (Some ([], bs)) (option_map (onto b) (cut c bs)) (λ o. o ≡ Some x → IsCut c (b ∷ bs) x)
    (λ e q. subst (λ y. IsCut c (b ∷ bs) y) (same_Some ([], bs) x q) (record { whole = ap (λ a. a ∷ bs) (eqb-true b c e); free = refl }))
    (λ e q. let m = option_map_some (onto b) (cut c bs) x q in subst (λ y. IsCut c (b ∷ bs) y) m.2 (IsCut-onto c b bs m.0 e (cut_takes c bs m.0 m.1)))
    h

pub cut_again : (c : ℕ) (part rest : List ℕ) → is_free c part ≡ true → cut c (part ++ c ∷ rest) ≡ Some (part, rest)
unfolding cut
cut_again c [] rest h = rw (eq-eqb c c refl) refl
cut_again c (b ∷ bs) rest h = let p = and_parts _ _ h in rw (not-true (nat_eq b c) p.0) (ap (option_map (onto b)) (cut_again c bs rest p.1))

pub cut_none : (c : ℕ) (part : List ℕ) → is_free c part ≡ true → cut c part ≡ None
unfolding cut
cut_none c [] h = refl
cut_none c (b ∷ bs) h = let p = and_parts _ _ h in rw (not-true (nat_eq b c) p.0) (ap (option_map (onto b)) (cut_none c bs p.1))

pub cut-length : (c : ℕ) (bs part rest : List ℕ) → Some (part, rest) ≡ cut c bs → length rest < length bs
cut-length c bs part rest h = let t = cut_takes c bs (part, rest) (sym h) in omega (arith, length-append part (c ∷ rest), ap length t.whole)

-- where nothing is cut, the byte is not there
pub cut_free : (c : ℕ) (bs : List ℕ) → cut c bs ≡ None → is_free c bs ≡ true
unfolding cut
cut_free c [] h = refl
cut_free c (b ∷ bs) h =
    cond_both (nat_eq b c) (Some ([], bs)) (option_map (onto b) (cut c bs)) (λ o. o ≡ None → is_free c (b ∷ bs) ≡ true)
    (λ e q. cc)
    (λ e q. rw e (cut_free c bs (option_map_none (onto b) (cut c bs) q)))
    h

-- what a function that cuts answers, seen through its two parts
pub parts_whole : {X : Type 0} (left right : X → List ℕ) (c : ℕ) (bs : List ℕ) (r : Option X) → option_map (λ x. (left x, right x)) r ≡ cut c bs
    → IfSome r (λ x. bs ≡ left x ++ c ∷ right x)
parts_whole left right c bs None e = tt
parts_whole left right c bs (Some x) e = (cut_takes c bs (left x, right x) (sym e)).whole

pub parts_first : {X : Type 0} (left right : X → List ℕ) (c : ℕ) (bs : List ℕ) (r : Option X) → option_map (λ x. (left x, right x)) r ≡ cut c bs
    → IfSome r (λ x. is_free c (left x) ≡ true)
parts_first left right c bs None e = tt
parts_first left right c bs (Some x) e = (cut_takes c bs (left x, right x) (sym e)).free

pub parts_none : {X : Type 0} (left right : X → List ℕ) (c : ℕ) (bs : List ℕ) (r : Option X) → option_map (λ x. (left x, right x)) r ≡ cut c bs
    → IfNone r (is_free c bs ≡ true)
parts_none left right c bs None e = cut_free c bs (sym e)
parts_none left right c bs (Some x) e = tt
