-- Tickets that are handed over place by place, from the first place on.
use Rattle.std.proofs.Common.{◌≡◌, ℕ, zero, suc, ◌<◌, true, List, [], ◌∷◌, ◌++◌, length, map, set, refl, sym, ap, subst, arith}
use Rattle.std.specs.Prelude.{if◌then◌else◌, Some, slice_get}
use Rattle.number_stock.specs.Rule.{AreOnce}
use Rattle.turn_desks.specs.Handing.{AreFree, with_handed}
use Rattle.turn_desks.proofs.lemmas.Seating.{none_is_not, one_some}

-- the first so many places have none
abbrev pub cleared : ℕ → List (List ℕ) → List (List ℕ)
cleared zero tss = tss
cleared (suc k) [] = []
cleared (suc k) (ts ∷ tss) = [] ∷ cleared k tss

-- the first so many have what was handed over
abbrev pub given_to : ℕ → List (List ℕ) → List (List ℕ) → List (List ℕ)
given_to zero hss tss = hss
given_to (suc k) [] tss = []
given_to (suc k) (hs ∷ hss) [] = hs ∷ hss
given_to (suc k) (hs ∷ hss) (ts ∷ tss) = (hs ++ ts) ∷ given_to k hss tss

abbrev pub FreeUpTo : ℕ → List ℕ → List (List ℕ) → List (List ℕ) → Type 0
FreeUpTo zero ns hss tss = Unit {0}
FreeUpTo (suc k) [] hss tss = Unit {0}
FreeUpTo (suc k) (n ∷ ns) [] tss = Unit {0}
FreeUpTo (suc k) (n ∷ ns) (hs ∷ hss) [] = Unit {0}
FreeUpTo (suc k) (n ∷ ns) (hs ∷ hss) (ts ∷ tss) = AreOnce n (hs ++ ts) × FreeUpTo k ns hss tss

pub clear_one : (k : ℕ) (tss : List (List ℕ)) → k < length tss → set (cleared k tss) k [] ≡ cleared (suc k) tss
clear_one k [] within = absurd (omega (arith, within))
clear_one zero (ts ∷ tss) within = refl
clear_one (suc k) (ts ∷ tss) within = ap (λ l. [] ∷ l) (clear_one k tss (omega (arith, within)))

pub cleared_all : (tss : List (List ℕ)) → cleared (length tss) tss ≡ map (λ (ts : List ℕ). if true then [] else ts) tss
cleared_all [] = refl
cleared_all (ts ∷ tss) = ap (λ l. [] ∷ l) (cleared_all tss)

pub give_one : (k : ℕ) (hss tss : List (List ℕ)) (h t : List ℕ) → slice_get (given_to k hss tss) k ≡ Some h → slice_get (cleared k tss) k ≡ Some t
    → set (given_to k hss tss) k (h ++ t) ≡ given_to (suc k) hss tss
give_one zero [] tss h t at there = absurd (none_is_not h at)
give_one zero (hs ∷ hss) [] h t at there = absurd (none_is_not t there)
give_one zero (hs ∷ hss) (ts ∷ tss) h t at there = λ i. (sym (one_some hs h at) i ++ sym (one_some ts t there) i) ∷ hss
give_one (suc k) [] tss h t at there = absurd (none_is_not h at)
give_one (suc k) (hs ∷ hss) [] h t at there = absurd (none_is_not t there)
give_one (suc k) (hs ∷ hss) (ts ∷ tss) h t at there = ap (λ l. (hs ++ ts) ∷ l) (give_one k hss tss h t at there)

pub given_all : (hss tss : List (List ℕ)) → length hss ≡ length tss → given_to (length hss) hss tss ≡ with_handed hss tss
given_all [] tss long = refl
given_all (hs ∷ hss) [] long = absurd (omega (arith, long))
given_all (hs ∷ hss) (ts ∷ tss) long = ap (λ l. (hs ++ ts) ∷ l) (given_all hss tss (omega (arith, long)))

pub free_one : (k : ℕ) (ns : List ℕ) (hss tss : List (List ℕ)) (n : ℕ) (h t : List ℕ) → slice_get ns k ≡ Some n → slice_get hss k ≡ Some h
    → slice_get tss k ≡ Some t → AreOnce n (h ++ t) → FreeUpTo k ns hss tss → FreeUpTo (suc k) ns hss tss
free_one k [] hss tss n h t a b c once free = tt
free_one k (m ∷ ns) [] tss n h t a b c once free = tt
free_one k (m ∷ ns) (hs ∷ hss) [] n h t a b c once free = tt
free_one zero (m ∷ ns) (hs ∷ hss) (ts ∷ tss) n h t a b c once free =
    (subst (λ (x : ℕ × List ℕ). AreOnce x.0 x.1) (λ i. (sym (one_some m n a) i, sym (one_some hs h b) i ++ sym (one_some ts t c) i)) once, tt)
free_one (suc k) (m ∷ ns) (hs ∷ hss) (ts ∷ tss) n h t a b c once free = (free.0, free_one k ns hss tss n h t a b c once free.1)

pub free_all : (ns : List ℕ) (hss tss : List (List ℕ)) → FreeUpTo (length ns) ns hss tss → AreFree ns hss tss
free_all [] hss tss free = tt
free_all (n ∷ ns) [] tss free = tt
free_all (n ∷ ns) (hs ∷ hss) [] free = tt
free_all (n ∷ ns) (hs ∷ hss) (ts ∷ tss) free = (free.0, free_all ns hss tss free.1)
