-- The entries that stand at places.
use Rattle.std.proofs.Common.{◌≡◌, ℕ, zero, suc, ◌+◌, ◌<◌, ◌≤◌, List, [], ◌∷◌, ◌++◌, Bool, cond, length, take, drop, set, get_or, Option, Some, None, sym, ◌∙◌}
use Rattle.std.proofs.Common.{ap, refl, arith, inl, inr, length-append}
use Rattle.std.specs.List.{position, find, cons_option}
use Rattle.std.specs.Prelude.{option_and_then, option_map, slice_get}
use Rattle.std.proofs.lemmas.Bool.{cases_Bool}
use Rattle.std.proofs.lemmas.List.{take_more}
use Rattle.lock_entry.specs.declared.entry.Entry.{Entry}
use Rattle.lock_index.specs.Slots.{slot_at, live, on_some}
use Rattle.lock_index.proofs.Oldest.{position-cons}

pub live-append : (xs ys : List (Option Entry)) → live (xs ++ ys) ≡ live xs ++ live ys
live-append [] ys = refl
live-append (None ∷ xs) ys = live-append xs ys
live-append (Some e ∷ xs) ys = ap (λ (l : List Entry). e ∷ l) (live-append xs ys)

pub live-length : (ss : List (Option Entry)) → length (live ss) ≤ length ss
live-length [] = omega arith
live-length (None ∷ ss) = let l = live-length ss in omega arith
live-length (Some e ∷ ss) = let l = live-length ss in omega arith

pub live-split : (ss : List (Option Entry)) (i : ℕ) (e : Entry) → slot_at ss i ≡ Some e → live ss ≡ live (take i ss) ++ e ∷ live (drop (suc i) ss)
live-split [] i e h = absurd (cc)
live-split (s ∷ ss) zero e h = ap (λ o. cons_option o (live ss)) h
live-split (None ∷ ss) (suc i) e h = live-split ss i e h
live-split (Some x ∷ ss) (suc i) e h = ap (λ (l : List Entry). x ∷ l) (live-split ss i e h)

pub live-set : (ss : List (Option Entry)) (i : ℕ) (e : Entry) (x : Option Entry) → slot_at ss i ≡ Some e
    → live (set ss i x) ≡ live (take i ss) ++ cons_option x (live (drop (suc i) ss))
live-set [] i e x h = absurd (cc)
live-set (s ∷ ss) zero e x h = refl
live-set (None ∷ ss) (suc i) e x h = live-set ss i e x h
live-set (Some y ∷ ss) (suc i) e x h = ap (λ (l : List Entry). y ∷ l) (live-set ss i e x h)

pub live-fewer : (ss : List (Option Entry)) (i : ℕ) (e : Entry) → slot_at ss i ≡ Some e → length (live ss) ≡ suc (length (live (set ss i None)))
live-fewer ss i e h =
    ap length (live-split ss i e h) ∙ length-append (live (take i ss)) (e ∷ live (drop (suc i) ss))
    ∙ (let s : length (live (take i ss)) + suc (length (live (drop (suc i) ss))) ≡ suc (length (live (take i ss)) + length (live (drop (suc i) ss))) =
    omega arith in s)
    ∙ ap (λ (n : ℕ). suc n) (sym (ap length (live-set ss i e None h) ∙ length-append (live (take i ss)) (live (drop (suc i) ss))))

pub live-as_many : (ss : List (Option Entry)) (i : ℕ) (e f : Entry) → slot_at ss i ≡ Some e → length (live (set ss i (Some f))) ≡ length (live ss)
live-as_many ss i e f h =
    ap length (live-set ss i e (Some f) h) ∙ length-append (live (take i ss)) (f ∷ live (drop (suc i) ss))
    ∙ sym (ap length (live-split ss i e h) ∙ length-append (live (take i ss)) (e ∷ live (drop (suc i) ss)))

pub live-more : (ss : List (Option Entry)) (e : Entry) → length (live (ss ++ Some e ∷ [])) ≡ length (live ss) + 1
live-more ss e = ap length (live-append ss (Some e ∷ [])) ∙ length-append (live ss) (e ∷ [])

-- the first entry that passes a test stands at the first such place
pub find-live : (q : Entry → Bool) (ss : List (Option Entry)) → find q (live ss) ≡ option_and_then (slot_at ss) (position (on_some q) ss)
find-live q [] = refl
find-live q (None ∷ ss) = find-live q ss ∙ moved (position (on_some q) ss)
    ∙ sym (ap (option_and_then (slot_at (None ∷ ss))) (position-cons (on_some q) None ss))
  where
    moved : (o : Option ℕ) → option_and_then (slot_at ss) o ≡ option_and_then (slot_at (None ∷ ss)) (option_map (λ i. i + 1) o)
    moved None = refl
    moved (Some i) = ap (slot_at (None ∷ ss)) (let s : suc i ≡ i + 1 = omega arith in s)
find-live q (Some e ∷ ss) =
    elim (cases_Bool (q e)) [
      | inl t ↦ ap (λ b. cond b (Some e) (find q (live ss))) t
          ∙ sym (ap (option_and_then (slot_at (Some e ∷ ss)))
          (position-cons (on_some q) (Some e) ss ∙ ap (λ b. cond b (Some 0) (option_map (λ i. i + 1) (position (on_some q) ss))) t))
      | inr t ↦
          ap (λ b. cond b (Some e) (find q (live ss))) t ∙ find-live q ss ∙ moved (position (on_some q) ss)
          ∙ sym (ap (option_and_then (slot_at (Some e ∷ ss)))
          (position-cons (on_some q) (Some e) ss ∙ ap (λ b. cond b (Some 0) (option_map (λ i. i + 1) (position (on_some q) ss))) t))
    ]
  where
    moved : (o : Option ℕ) → option_and_then (slot_at ss) o ≡ option_and_then (slot_at (Some e ∷ ss)) (option_map (λ i. i + 1) o)
    moved None = refl
    moved (Some i) = ap (slot_at (Some e ∷ ss)) (let s : suc i ≡ i + 1 = omega arith in s)

pub live-push : (ss : List (Option Entry)) (e : Entry) → live (ss ++ Some e ∷ []) ≡ live ss ++ e ∷ []
live-push ss e = live-append ss (Some e ∷ [])

pub live-next : (ss : List (Option Entry)) (i : ℕ) (s : Option Entry) → i < length ss → s ≡ get_or ss i s
    → live (take (i + 1) ss) ≡ live (take i ss) ++ cons_option s []
live-next ss i s below read =
    ap live (take_more ss i s below ∙ ap (λ (x : Option Entry). take i ss ++ x ∷ []) (sym read)) ∙ live-append (take i ss) (s ∷ [])

-- where no place is empty, entries stand at their own places
pub dense-at : (ss : List (Option Entry)) → length (live ss) ≡ length ss → (i : ℕ) → slot_at ss i ≡ slice_get (live ss) i
dense-at [] long i = refl
dense-at (None ∷ ss) long i = absurd (let l = live-length ss in omega arith)
dense-at (Some e ∷ ss) long zero = refl
dense-at (Some e ∷ ss) long (suc i) = dense-at ss (let s : length (live ss) ≡ length ss = omega arith in s) i
