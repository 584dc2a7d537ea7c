-- The lines of some bytes, and those of more bytes behind them.
use Rattle.std.proofs.Common.{◌≡◌, ℕ, ◌<◌, ◌≤◌, List, [], ◌∷◌, ◌++◌, length, refl, sym, ap, ◌∙◌, arith, true, false, true≢false}
use Rattle.std.specs.Prelude.{Bool, if◌then◌else◌, nat_eq}
use Rattle.std.proofs.lemmas.List.{length-append}
use Rattle.io_edge.specs.Lines.{is_ended, lines_of, onto_first}

-- some bytes are a line, and what is behind it
pub some_line : (bs : List ℕ) → 0 < length bs → (line : List ℕ) × (rest : List (List ℕ)) × (lines_of bs ≡ line ∷ rest)
some_line [] h = absurd (omega arith)
some_line (b ∷ bs) h =
    elim (nat_eq b 10) as (λ v. (line : List ℕ) × (rest : List (List ℕ)) × ((if v then [] ∷ lines_of bs else onto_first b (lines_of bs)) ≡ line ∷ rest)) [
      | true ↦ ([], lines_of bs, refl)
      | false ↦ onto (lines_of bs)
    ]
  where
    onto : (ls : List (List ℕ)) → (line : List ℕ) × (rest : List (List ℕ)) × (onto_first b ls ≡ line ∷ rest)
    onto [] = (b ∷ [], [], refl)
    onto (l ∷ ls) = (b ∷ l, ls, refl)

-- behind these lines stands one that is no shorter, and that is the same where the line was read to its end
pub record GoesFurther (lines earlier : List (List ℕ)) (line : List ℕ) (Uncut : Type 0) : Type 0 where
  pub whole : List ℕ
  pub later : List (List ℕ)
  pub are : lines ≡ earlier ++ whole ∷ later
  pub long : length line ≤ length whole
  pub same : Uncut → whole ≡ line

-- what holds of each line of some lines
abbrev pub Further : List (List ℕ) → List (List ℕ) → Type 0 → Type 0
Further xs more Uncut = (earlier later : List (List ℕ)) (line : List ℕ) → xs ≡ earlier ++ line ∷ later → GoesFurther more earlier line Uncut

-- a line's end before them
newline : (Uncut : Type 0) (xs more : List (List ℕ)) → Further xs more Uncut → Further ([] ∷ xs) ([] ∷ more) Uncut
newline Uncut xs more below [] later line e =
    let is : ◌≡◌ {A = List ℕ} [] line = cc in
    record { whole = []; later = more; are = refl; long = omega (arith, ap length is); same = λ u. is }
newline Uncut xs more below (l ∷ ls) later line e =
    let is : ◌≡◌ {A = List ℕ} [] l = cc in
    let rest : xs ≡ ls ++ line ∷ later = cc in
    let s = below ls later line rest in
    record { whole = s.whole; later = s.later; are = (λ i. is i ∷ s.are i); long = s.long; same = s.same }

-- a byte alone begins a line, which goes on by what stands behind it
alone : (Uncut : Type 0) (b : ℕ) (more : List (List ℕ)) (line : List ℕ) → b ∷ [] ≡ line → (Uncut → ⊥)
    → GoesFurther (onto_first b more) [] line Uncut
alone Uncut b [] line is cut = record { whole = b ∷ []; later = []; are = refl; long = omega (arith, ap length is); same = λ u. is }
alone Uncut b (l ∷ ls) line is cut = record { whole = b ∷ l; later = ls; are = refl; long = omega (arith, ap length is); same = λ u. absurd (cut u) }

first_letter : (Uncut : Type 0) (b : ℕ) (more : List (List ℕ)) (x line : List ℕ) → b ∷ x ≡ line → GoesFurther more [] x Uncut
    → GoesFurther (onto_first b more) [] line Uncut
first_letter Uncut b more x line is s =
    record {
      whole = b ∷ s.whole;
      later = s.later;
      are = ap (onto_first b) s.are;
      long = omega (arith, ap length is, s.long);
      same = λ u. ap (λ t. b ∷ t) (s.same u) ∙ is;
    }

earlier_letter : (Uncut : Type 0) (b : ℕ) (more ls : List (List ℕ)) (x l line : List ℕ) → b ∷ x ≡ l → GoesFurther more (x ∷ ls) line Uncut
    → GoesFurther (onto_first b more) (l ∷ ls) line Uncut
earlier_letter Uncut b more ls x l line is s =
    record {
      whole = s.whole;
      later = s.later;
      are = ap (onto_first b) s.are ∙ ap (λ t. t ∷ (ls ++ s.whole ∷ s.later)) is;
      long = s.long;
      same = s.same;
    }

-- another byte before them
letter : (Uncut : Type 0) (b : ℕ) (xs more : List (List ℕ)) → (xs ≡ [] → Uncut → ⊥) → Further xs more Uncut
    → Further (onto_first b xs) (onto_first b more) Uncut
letter Uncut b [] more cut below [] later line e =
    let is : b ∷ [] ≡ line = cc in
    alone Uncut b more line is (cut refl)
letter Uncut b [] more cut below (l ∷ ls) later line e =
    let long = ap length e ∙ length-append (l ∷ ls) (line ∷ later) in absurd (omega (arith, long))
letter Uncut b (x ∷ xs) more cut below [] later line e =
    let is : b ∷ x ≡ line = cc in
    first_letter Uncut b more x line is (below [] xs x refl)
letter Uncut b (x ∷ xs) more cut below (l ∷ ls) later line e =
    let is : b ∷ x ≡ l = cc in
    let rest : xs ≡ ls ++ line ∷ later = cc in
    earlier_letter Uncut b more ls x l line is (below (x ∷ ls) later line (ap (λ t. x ∷ t) rest))

tail_ended : (b : ℕ) (xs : List ℕ) → is_ended (b ∷ xs) ≡ true → is_ended xs ≡ true
tail_ended b [] h = refl
tail_ended b (c ∷ xs) h = h

-- bytes of which the last is no line's end aren't ended
last_cut : (b : ℕ) (xs : List ℕ) → nat_eq b 10 ≡ false → lines_of xs ≡ [] → is_ended (b ∷ xs) ≡ true → ⊥
last_cut b [] off none h = true≢false (sym h ∙ off)
last_cut b (c ∷ xs) off none h =
    let l = some_line (c ∷ xs) (omega arith) in
    let long = ap length (sym none ∙ l.2) in absurd (omega (arith, long))

by_byte : (b : ℕ) (xs ys : List ℕ) (newline_is : Bool) → nat_eq b 10 ≡ newline_is → Further (lines_of xs) (lines_of (xs ++ ys)) (is_ended (b ∷ xs) ≡ true)
    → Further (if newline_is then [] ∷ lines_of xs else onto_first b (lines_of xs))
    (if newline_is then [] ∷ lines_of (xs ++ ys) else onto_first b (lines_of (xs ++ ys))) (is_ended (b ∷ xs) ≡ true)
by_byte b xs ys true is below = newline (is_ended (b ∷ xs) ≡ true) (lines_of xs) (lines_of (xs ++ ys)) below
by_byte b xs ys false is below = letter (is_ended (b ∷ xs) ≡ true) b (lines_of xs) (lines_of (xs ++ ys)) (last_cut b xs is) below

weaker : (b : ℕ) (xs : List ℕ) (lines earlier : List (List ℕ)) (line : List ℕ) → GoesFurther lines earlier line (is_ended xs ≡ true)
    → GoesFurther lines earlier line (is_ended (b ∷ xs) ≡ true)
weaker b xs lines earlier line s =
    record { whole = s.whole; later = s.later; are = s.are; long = s.long; same = λ h. s.same (tail_ended b xs h) }

-- a line of some bytes among those of more bytes: the lines before it are the same
pub goes_further : (xs ys : List ℕ) → Further (lines_of xs) (lines_of (xs ++ ys)) (is_ended xs ≡ true)
goes_further [] ys earlier later line e =
    let long = ap length e ∙ length-append earlier (line ∷ later) in absurd (omega (arith, long))
goes_further (b ∷ xs) ys earlier later line e =
    by_byte b xs ys (nat_eq b 10) refl
    (λ before behind l h. weaker b xs (lines_of (xs ++ ys)) before l (goes_further xs ys before behind l h))
    earlier later line e
