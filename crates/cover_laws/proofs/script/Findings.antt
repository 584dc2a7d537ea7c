-- What is known of the lines of a script that lacks nothing.
use Rattle.std.proofs.Common.{◌≡◌, ℕ, Bool, true, false, true≢false, cond, not, ◌&&◌, List, [], ◌∷◌, ◌++◌, map, Option, Some, refl, sym, ap, ◌∙◌, subst}
use Rattle.std.specs.List.{flat_map}
use Rattle.std.specs.Option.{option_or}
use Rattle.std.proofs.lemmas.List.{append-nil, append_assoc}
use Rattle.enq_base.specs.Grammar.{is_key}
use Rattle.lock_objects.specs.Objects.{Object}
use Rattle.coverage.specs.declared.lack.Finding.{Finding}
use Rattle.coverage.specs.declared.lack.Lack.{Lack}
use Rattle.coverage.specs.declared.lack.Lack.TheVariants as lack
use Rattle.coverage.specs.declared.lack.Wish.{Wish}
use Rattle.coverage.specs.Faults.{is_wrong_key}
use Rattle.coverage.specs.Lacks.{Fate, Judged, Numbered, anywhere, finding, findings, findings_from, is_guarded, judged, lack_in, lacks, on_table, uneven, where_dollar}
use Rattle.coverage.specs.Locks.{holds_dollar}

none_in : {A : Type 0} (xs ys : List A) → xs ++ ys ≡ [] → (xs ≡ []) × (ys ≡ [])
none_in [] ys h = (refl, h)
none_in (x ∷ xs) ys h = absurd (cc)

pub none_mapped : {A B : Type 0} (f : A → B) (xs : List A) → map f xs ≡ [] → xs ≡ []
none_mapped f [] h = refl
none_mapped f (x ∷ xs) h = absurd (cc)

found_at : (os : List Object) (guarded : List ℕ → Bool) (first before : List Numbered) (x : Numbered) (after : List Numbered)
    → flat_map (lack_in guarded) (findings_from os first (before ++ x ∷ after)) ≡ [] → lack_in guarded (finding os (first ++ before) x after) ≡ []
found_at os guarded first [] x after h =
    subst (λ (ys : List Numbered). lack_in guarded (finding os ys x after) ≡ []) (sym (append-nil first))
    (none_in (lack_in guarded (finding os first x after)) _ h).0
found_at os guarded first (y ∷ before) x after h =
    subst (λ (ys : List Numbered). lack_in guarded (finding os ys x after) ≡ []) (append_assoc first (y ∷ []) before)
    (found_at os guarded (first ++ y ∷ []) before x after (none_in (lack_in guarded (finding os first y (before ++ x ∷ after))) _ h).1)

module _ (os : List Object) (lines : List Numbered) (clean : lacks os lines ≡ []) where
  pub none_uneven : uneven os ≡ []
  none_uneven = none_mapped lack.Lengths (uneven os) (none_in (map lack.Lengths (uneven os)) _ clean).0

  -- nothing that counts is found at a line
  pub none_found : (before : List Numbered) (x : Numbered) (after : List Numbered) → lines ≡ before ++ x ∷ after
      → lack_in (is_guarded lines) (finding os before x after) ≡ []
  none_found before x after e =
      found_at os (is_guarded lines) [] before x after
      (ap (λ (ys : List Numbered). flat_map (lack_in (is_guarded lines)) (findings os ys)) (sym e)
      ∙ (none_in (map lack.Lengths (uneven os)) (flat_map (lack_in (is_guarded lines)) (findings os lines)) clean).1)

-- a part without a variable that isn't wrong is a key
right_key : (dollar key : Bool) → (not dollar && not key) ≡ false → dollar ≡ false → key ≡ true
right_key dollar true right plain = refl
right_key true false right plain = absurd (true≢false plain)
right_key false false right plain = absurd (true≢false right)

pub is_right_key : (key : List ℕ) → is_wrong_key key ≡ false → holds_dollar key ≡ false → is_key key ≡ true
is_right_key key right plain = right_key (holds_dollar key) (is_key key) right plain

-- ---- a finding that would count

module _ (guarded : List ℕ → Bool) (number : ℕ) where
  -- it counts whatever is guarded
  pub by_itself : (wrong dollar : Bool) (rest : Option Finding)
      → lack_in guarded (option_or (cond wrong (Some (anywhere (lack.Line number))) (where_dollar dollar (anywhere (lack.Variable number)))) rest) ≡ []
      → dollar ≡ false
  by_itself true dollar rest h = absurd (cc)
  by_itself false true rest h = absurd (cc)
  by_itself false false rest h = refl

  module _ (table : List ℕ) (is_so : guarded table ≡ true) where
    counts : (l : Lack) → lack_in guarded (Some (on_table table l)) ≡ [] → ⊥
    counts l h = let k : l ∷ [] ≡ [] = sym (ap (λ (b : Bool). cond b (l ∷ []) []) is_so) ∙ h in cc

    pub record IsPlain (wrong dollar : Bool) (rest : Option Finding) : Type 0 where
      pub right : wrong ≡ false
      pub plain : dollar ≡ false
      pub quiet : lack_in guarded rest ≡ []

    -- on a guarded table the line lacks nothing by itself
    pub is_plain : (wrong dollar : Bool) (rest : Option Finding)
        → lack_in guarded (option_or (cond wrong (Some (anywhere (lack.Line number))) (where_dollar dollar (on_table table (lack.Variable number)))) rest) ≡ []
        → IsPlain wrong dollar rest
    is_plain true dollar rest h = absurd (cc)
    is_plain false true rest h = absurd (counts (lack.Variable number) h)
    is_plain false false rest h = record { right = refl; plain = refl; quiet = h }

    -- and its wish is met where it is judged
    pub is_met_there : (w : Wish) (fate : Fate) (met : Bool) → w.table ≡ table → fate ≡ Judged met → lack_in guarded (judged w fate) ≡ [] → met ≡ true
    is_met_there w fate true same is h = refl
    is_met_there w fate false same is h =
        let on : lack_in guarded (Some (on_table table w.lack)) ≡ lack_in guarded (judged w (Judged false)) =
        sym (ap (λ (t : List ℕ). lack_in guarded (Some (on_table t w.lack))) same) in
        absurd (counts w.lack (on ∙ sym (ap (λ (f : Fate). lack_in guarded (judged w f)) is) ∙ h))
