-- A list is sound exactly where it has no clash.
use Rattle.std.proofs.Common.{◌≡◌, ℕ, ◌+◌, ◌<◌, get_or, take, drop, arith, List, [], ◌∷◌, ◌++◌, true, false, cond, length, Some, None, sym, ◌∙◌, ap, refl, inl, inr}
use Rattle.std.specs.List.{list_all}
use Rattle.std.proofs.lemmas.Bool.{cases_Bool, and_parts, and_from, cond-true, cond-false}
use Rattle.std.proofs.lemmas.List.{drop_more, take_more, length-take-le}
use Rattle.std.proofs.lemmas.List.Folds.{list_all-append}
use Rattle.lock_entry.specs.declared.entry.Entry.{Entry}
use Rattle.lock_entry.specs.Names.{all_pairs}
use Rattle.lock_entry.specs.Sound.{has_count, are_apart, IsSound, clash_after, first_clash, stands_with, first_against}
use Rattle.lock_entry.proofs.lemmas.Lists.{list_all-both, list_all-true}
use Rattle.lock_laws.proofs.Sounds.{sound-apart, sound-from}

-- with no clash the rest is sound, and stands apart from what came before
clash-sound : (before es : List Entry) → clash_after before es ≡ None → (list_all has_count es ≡ true) × (all_pairs are_apart es ≡ true)
    × (list_all (λ a. list_all (are_apart a) es) before ≡ true)
clash-sound before [] h = (refl, refl, list_all-true before)
clash-sound before (e ∷ es) h =
    elim (cases_Bool (stands_with before e)) [
      | inl t ↦
          let k : clash_after (before ++ e ∷ []) es ≡ None = rw t at h in
          let ts = and_parts (has_count e) (list_all (λ a. are_apart a e) before) t in
          let rest = clash-sound (before ++ e ∷ []) es k in
          let split = and_parts _ _ (sym (list_all-append (λ a. list_all (are_apart a) es) before (e ∷ [])) ∙ rest.2) in
          let here = and_parts (list_all (are_apart e) es) true split.1 in (
            and_from _ _ ts.0 rest.0,
            and_from _ _ here.0 rest.1,
            list_all-both (λ a. are_apart a e) (λ a. list_all (are_apart a) es) before ts.1 split.0,
          )
      | inr t ↦ absurd (let k = rw t at h in cc)
    ]

pub first_clash-sound : (es : List Entry) → first_clash es ≡ None → IsSound es
first_clash-sound es h = let s = clash-sound [] es h in sound-from es s.0 s.1

-- a sound rest that stands apart from what came before has no clash
sound-clash : (before es : List Entry) → list_all has_count es ≡ true → all_pairs are_apart es ≡ true → list_all (λ a. list_all (are_apart a) es) before ≡ true
    → clash_after before es ≡ None
sound-clash before [] c a b = refl
sound-clash before (e ∷ es) c a b =
    let cs = and_parts (has_count e) (list_all has_count es) c in
    let as' = and_parts (list_all (are_apart e) es) (all_pairs are_apart es) a in
    let heads = list_all-heads e es before b in
    let good : stands_with before e ≡ true = and_from (has_count e) (list_all (λ x. are_apart x e) before) cs.0 heads.0 in
    let later : list_all (λ x. list_all (are_apart x) es) (before ++ e ∷ []) ≡ true =
    list_all-append (λ x. list_all (are_apart x) es) before (e ∷ []) ∙ and_from _ _ heads.1 (and_from _ _ as'.0 refl) in
    cond-true (stands_with before e) (clash_after (before ++ e ∷ []) es) (Some (first_against before e, length before + 1)) good
    ∙ sound-clash (before ++ e ∷ []) es cs.1 as'.1 later
  where
    list_all-heads : (e : Entry) (es before : List Entry) → list_all (λ a. list_all (are_apart a) (e ∷ es)) before ≡ true
        → (list_all (λ a. are_apart a e) before ≡ true) × (list_all (λ a. list_all (are_apart a) es) before ≡ true)
    list_all-heads e es [] h = (refl, refl)
    list_all-heads e es (a ∷ before) h =
        let hs = and_parts (list_all (are_apart a) (e ∷ es)) _ h in
        let here = and_parts (are_apart a e) (list_all (are_apart a) es) hs.0 in
        let rest = list_all-heads e es before hs.1 in
        (and_from _ _ here.0 rest.0, and_from _ _ here.1 rest.1)

-- a list with a clash isn't sound
pub first_clash-unsound : (es : List Entry) (x : ℕ × ℕ) → first_clash es ≡ Some x → ¬ IsSound es
first_clash-unsound es x h s =
    let none : first_clash es ≡ None = sound-clash [] es s.counts (sound-apart es s) refl in cc

-- one step of the walk over the list
pub clash_after-step : (es : List Entry) (i : ℕ) (d : Entry) → i < length es
    → clash_after (take i es) (drop i es) ≡ cond (stands_with (take i es) (get_or es i d)) (clash_after (take (i + 1) es) (drop (i + 1) es))
    (Some (first_against (take i es) (get_or es i d), i + 1))
clash_after-step es i d h =
    let long : length (take i es) ≡ i = length-take-le i es (omega arith) in
    let e = get_or es i d in
    let walk : clash_after (take i es) (drop i es) ≡ cond (stands_with (take i es) e) (clash_after (take i es ++ e ∷ []) (drop (i + 1) es))
    (Some (first_against (take i es) e, length (take i es) + 1)) = ap (λ r. clash_after (take i es) r) (drop_more es i d h) in
    walk
    ∙ ap (λ (b : List Entry). cond (stands_with (take i es) e) (clash_after b (drop (i + 1) es)) (Some (first_against (take i es) e, length (take i es) + 1)))
    (sym (take_more es i d h))
    ∙ ap (λ (n : ℕ). cond (stands_with (take i es) e) (clash_after (take (i + 1) es) (drop (i + 1) es)) (Some (first_against (take i es) e, n + 1))) long

pub clash_after-stop : (es : List Entry) (i : ℕ) (e : Entry) → i < length es → e ≡ get_or es i e → stands_with (take i es) e ≡ false
    → clash_after (take i es) (drop i es) ≡ Some (first_against (take i es) e, i + 1)
clash_after-stop es i e h r t = rw (← r) at (clash_after-step es i e h) ∙ cond-false (stands_with (take i es) e)
    (clash_after (take (i + 1) es) (drop (i + 1) es)) (Some (first_against (take i es) e, i + 1)) t

pub clash_after-go : (es : List Entry) (i : ℕ) (e : Entry) → i < length es → e ≡ get_or es i e → stands_with (take i es) e ≡ true
    → clash_after (take i es) (drop i es) ≡ clash_after (take (i + 1) es) (drop (i + 1) es)
clash_after-go es i e h r t = rw (← r) at (clash_after-step es i e h) ∙ cond-true (stands_with (take i es) e) (clash_after (take (i + 1) es) (drop (i + 1) es))
    (Some (first_against (take i es) e, i + 1)) t
