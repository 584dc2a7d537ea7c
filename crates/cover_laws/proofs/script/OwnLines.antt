-- The lines of one session in a script.
use Rattle.std.proofs.Common.{◌≡◌, inl, inr, ℕ, zero, suc, Bool, true, false, cond, List, [], ◌∷◌, ◌++◌, map, Contains, arith, refl, sym, ap, ◌∙◌, subst}
use Rattle.std.specs.List.{filter, fold}
use Rattle.std.proofs.lemmas.Bool.{cases_Bool}
use Rattle.std.proofs.lemmas.List.Sums.{fold-append}
use Rattle.lock_objects.specs.Objects.{Object}
use Rattle.script_lang.specs.declared.script_line.ScriptLine.{ScriptLine}
use Rattle.coverage.specs.declared.lack.Wish.{Wish}
use Rattle.coverage.specs.Lacks.{Course, Numbered, Standing, after_line, fate_of, first_course, fresh, is_of, next_course, next_fate, next_standing, standing_of}
use Rattle.cover_laws.proofs.needed.CoverageNeeded.{stand}
use Rattle.cover_laws.specs.Own.{own_lines}

abbrev is_own : List ℕ → Numbered → Bool
is_own s x = is_of s x.1

own_more : (s : List ℕ) (x : Numbered) (xs : List Numbered) → is_of s x.1 ≡ true → own_lines s (x ∷ xs) ≡ x.1 ∷ own_lines s xs
own_more s x xs mine = ap (λ (b : Bool). map (λ (y : Numbered). y.1) (cond b (x ∷ filter (is_own s) xs) (filter (is_own s) xs))) mine

own_same : (s : List ℕ) (x : Numbered) (xs : List Numbered) → is_of s x.1 ≡ false → own_lines s (x ∷ xs) ≡ own_lines s xs
own_same s x xs other = ap (λ (b : Bool). map (λ (y : Numbered). y.1) (cond b (x ∷ filter (is_own s) xs) (filter (is_own s) xs))) other

-- the place in a script of a line that stands among its session's own
pub record HasPlace (s : List ℕ) (lines : List Numbered) (a : List ScriptLine) (l : ScriptLine) (b : List ScriptLine) : Type 0 where
  pub before : List Numbered
  pub number : ℕ
  pub after : List Numbered
  pub splits : lines ≡ before ++ (number, l) ∷ after
  pub mine : is_of s l ≡ true
  pub own_before : own_lines s before ≡ a
  pub own_after : own_lines s after ≡ b

behind_other : (s : List ℕ) (x : Numbered) (xs : List Numbered) (a : List ScriptLine) (l : ScriptLine) (b : List ScriptLine) → is_of s x.1 ≡ false
    → HasPlace s xs a l b → HasPlace s (x ∷ xs) a l b
behind_other s x xs a l b other p = record {
  before = x ∷ p.before;
  number = p.number;
  after = p.after;
  splits = ap (λ (ys : List Numbered). x ∷ ys) p.splits;
  mine = p.mine;
  own_before = own_same s x p.before other ∙ p.own_before;
  own_after = p.own_after;
}

behind_own : (s : List ℕ) (x : Numbered) (xs : List Numbered) (a : List ScriptLine) (l : ScriptLine) (b : List ScriptLine) → is_of s x.1 ≡ true
    → HasPlace s xs a l b → HasPlace s (x ∷ xs) (x.1 ∷ a) l b
behind_own s x xs a l b mine p = record {
  before = x ∷ p.before;
  number = p.number;
  after = p.after;
  splits = ap (λ (ys : List Numbered). x ∷ ys) p.splits;
  mine = p.mine;
  own_before = own_more s x p.before mine ∙ ap (λ (ls : List ScriptLine). x.1 ∷ ls) p.own_before;
  own_after = p.own_after;
}

at_first : (s : List ℕ) (x : Numbered) (xs : List Numbered) (l : ScriptLine) (b : List ScriptLine) → is_of s x.1 ≡ true → x.1 ∷ own_lines s xs ≡ l ∷ b
    → HasPlace s (x ∷ xs) [] l b
at_first s x xs l b mine e =
    let is : x.1 ≡ l = cc in
    let rest : own_lines s xs ≡ b = cc in
    record {
      before = [];
      number = x.0;
      after = xs;
      splits = ap (λ (m : ScriptLine). let y : Numbered = (x.0, m) in y ∷ xs) is;
      mine = ap (is_of s) (sym is) ∙ mine;
      own_before = refl;
      own_after = rest;
    }

pub place_of : (s : List ℕ) (lines : List Numbered) (a : List ScriptLine) (l : ScriptLine) (b : List ScriptLine) → own_lines s lines ≡ a ++ l ∷ b
    → HasPlace s lines a l b
place_of s [] [] l b e = absurd (cc)
place_of s [] (c ∷ a) l b e = absurd (cc)
place_of s (x ∷ xs) [] l b e =
    elim (cases_Bool (is_of s x.1)) [
      | inl mine ↦ at_first s x xs l b mine (sym (own_more s x xs mine) ∙ e)
      | inr other ↦ behind_other s x xs [] l b other (place_of s xs [] l b (sym (own_same s x xs other) ∙ e))
    ]
place_of s (x ∷ xs) (c ∷ a) l b e =
    elim (cases_Bool (is_of s x.1)) [
      | inl mine ↦
          let both : x.1 ∷ own_lines s xs ≡ c ∷ (a ++ l ∷ b) = sym (own_more s x xs mine) ∙ e in
          let is : x.1 ≡ c = cc in
          let rest : own_lines s xs ≡ a ++ l ∷ b = cc in
          subst (λ (d : ScriptLine). HasPlace s (x ∷ xs) (d ∷ a) l b) is (behind_own s x xs a l b mine (place_of s xs a l b rest))
      | inr other ↦ behind_other s x xs (c ∷ a) l b other (place_of s xs (c ∷ a) l b (sym (own_same s x xs other) ∙ e))
    ]

-- what others do leaves what a session has
pub own_standing : (os : List Object) (s : List ℕ) (st : Standing) (lines : List Numbered)
    → fold (next_standing os s) st lines ≡ fold (after_line os) st (own_lines s lines)
own_standing os s st [] = refl
own_standing os s st (x ∷ xs) =
    elim (cases_Bool (is_of s x.1)) [
      | inl mine ↦
          ap (λ (b : Bool). fold (next_standing os s) (cond b (after_line os st x.1) st) xs) mine
          ∙ own_standing os s (after_line os st x.1) xs
          ∙ ap (fold (after_line os) st) (sym (own_more s x xs mine))
      | inr other ↦
          ap (λ (b : Bool). fold (next_standing os s) (cond b (after_line os st x.1) st) xs) other
          ∙ own_standing os s st xs
          ∙ ap (fold (after_line os) st) (sym (own_same s x xs other))
    ]

-- a line of the session itself
abbrev pub own_course : List Object → Wish → Course → ScriptLine → Course
own_course os w c l = record { standing = after_line os c.standing l; fate = next_fate os w c.standing l c.fate }

abbrev course_if : List Object → Wish → Course → ScriptLine → Bool → Course
course_if os w c l b = record { standing = cond b (after_line os c.standing l) c.standing; fate = cond b (next_fate os w c.standing l c.fate) c.fate }

-- nor does it change how a wish of it fares
pub own_courses : (os : List Object) (s : List ℕ) (w : Wish) (c : Course) (lines : List Numbered)
    → fold (next_course os s w) c lines ≡ fold (own_course os w) c (own_lines s lines)
own_courses os s w c [] = refl
own_courses os s w c (x ∷ xs) =
    elim (cases_Bool (is_of s x.1)) [
      | inl mine ↦
          ap (λ (b : Bool). fold (next_course os s w) (course_if os w c x.1 b) xs) mine
          ∙ own_courses os s w (own_course os w c x.1) xs
          ∙ ap (fold (own_course os w) c) (sym (own_more s x xs mine))
      | inr other ↦
          ap (λ (b : Bool). fold (next_course os s w) (course_if os w c x.1 b) xs) other
          ∙ own_courses os s w c xs
          ∙ ap (fold (own_course os w) c) (sym (own_same s x xs other))
    ]

module _ (os : List Object) (s : List ℕ) (lines : List Numbered) (a : List ScriptLine) (l : ScriptLine) (b : List ScriptLine)
    (p : HasPlace s lines a l b) where
  standing_there : standing_of os s (p.before ++ (p.number, l) ∷ []) ≡ after_line os (stand os a) l
  standing_there =
      fold-append (next_standing os s) fresh p.before ((p.number, l) ∷ [])
      ∙ ap (λ (mine : Bool). cond mine (after_line os (standing_of os s p.before) l) (standing_of os s p.before)) p.mine
      ∙ ap (λ (st : Standing). after_line os st l) (own_standing os s fresh p.before ∙ ap (stand os) p.own_before)

  -- how a wish of the line fares, by the lines of its session alone
  pub own_fate : (w : Wish)
      → fate_of os s w p.before (p.number, l) p.after ≡ (fold (own_course os w) (first_course w (after_line os (stand os a) l)) b).fate
  own_fate w =
      let first : Course = first_course w (after_line os (stand os a) l) in
      ap (λ (st : Standing). (fold (next_course os s w) (first_course w st) p.after).fate) standing_there
      ∙ ap (λ (c : Course). c.fate) (own_courses os s w first p.after ∙ ap (fold (own_course os w) first) p.own_after)

record IsSplit {A : Type 0} (xs : List A) (x : A) : Type 0 where
  front : List A
  rest : List A
  is : xs ≡ front ++ x ∷ rest

split_at : {A : Type 0} (xs : List A) (x : A) → Contains xs x → IsSplit xs x
split_at [] x (k, within, at) = absurd (omega (arith, within))
split_at (y ∷ ys) x (zero, within, at) = record { front = []; rest = ys; is = ap (λ z. z ∷ ys) at }
split_at (y ∷ ys) x (suc k, within, at) =
    let found = split_at ys x (k, omega (arith, within), at) in
    record { front = y ∷ found.front; rest = found.rest; is = ap (λ zs. y ∷ zs) found.is }

pub record StandsAmong (s : List ℕ) (lines : List Numbered) (l : ScriptLine) : Type 0 where
  pub earlier : List ScriptLine
  pub later : List ScriptLine
  pub place : HasPlace s lines earlier l later

pub place_among : (s : List ℕ) (lines : List Numbered) (l : ScriptLine) → Contains (own_lines s lines) l → StandsAmong s lines l
place_among s lines l among =
    let found = split_at (own_lines s lines) l among in
    record { earlier = found.front; later = found.rest; place = place_of s lines found.front l found.rest found.is }
