-- One line more behind the lines of a script.
use Rattle.std.proofs.Common.{◌⊎◌, inl, inr, ◌≡◌, ℕ, ◌+◌, List, [], ◌∷◌, ◌++◌, length, refl, sym, ap, ◌∙◌, subst, arith, true, false}
use Rattle.std.specs.Prelude.{Option, Some, None, IsTrue, if◌then◌else◌}
use Rattle.std.proofs.lemmas.List.{length-append}
use Rattle.io_edge.specs.Lines.{IsLine}
use Rattle.script_actors.specs.Doers.{doer_of}
use Rattle.script_actors.specs.declared.line.NumberedLine.{NumberedLine}
use Rattle.script_lang.specs.declared.script_line.ScriptLine.{ScriptLine}
use Rattle.script_runner.specs.Lines.{line_in}
use Rattle.whole_script.specs.Lines.{AreRunnable, before_lines, is_blank, numbered, runs_behind}

before-append : (n : ℕ) (l : Option ScriptLine) (a b : List NumberedLine) → before_lines n l (a ++ b) ≡ before_lines n l a ++ b
before-append n None a b = refl
before-append n (Some l) a b =
    let first : NumberedLine = record { number = n; line = l } in
    elim (is_blank (doer_of l)) as (λ v. (if v then a ++ b else first ∷ (a ++ b)) ≡ (if v then a else first ∷ a) ++ b) [ true ↦ refl | false ↦ refl ]

-- the numbered lines of one line more
pub numbered-push : (n m : ℕ) (lines : List (List ℕ)) (line : List ℕ) → m ≡ n + length lines + 1
    → numbered n (lines ++ line ∷ []) ≡ numbered n lines ++ before_lines m (line_in line) []
numbered-push n m [] line e =
    let same : n + 1 ≡ m = omega (arith, e) in
    ap (λ k. before_lines k (line_in line) []) same
numbered-push n m (l ∷ lines) line e =
    let below = numbered-push (n + 1) m lines line (omega (arith, e)) in
    ap (λ x. before_lines (n + 1) (line_in l) x) below ∙ before-append (n + 1) (line_in l) (numbered (n + 1) lines) (before_lines m (line_in line) [])

-- an element of a list with one more is the last, or one before it
last_or_before : (xs earlier later : List (List ℕ)) (x y : List ℕ) → xs ++ x ∷ [] ≡ earlier ++ y ∷ later
    → ((earlier ≡ xs) × (y ≡ x)) ⊎ ((rest : List (List ℕ)) × (xs ≡ earlier ++ y ∷ rest))
last_or_before [] [] later x y e = inl (refl, cc)
last_or_before [] (z ∷ earlier) later x y e =
    let long = ap length e ∙ length-append (z ∷ earlier) (y ∷ later) in absurd (omega (arith, long))
last_or_before (z ∷ xs) [] later x y e = inr (xs, cc)
last_or_before (z ∷ xs) (w ∷ earlier) later x y e =
    let first : z ≡ w = cc in
    let rest : xs ++ x ∷ [] ≡ earlier ++ y ∷ later = cc in
    put first (last_or_before xs earlier later x y rest)
  where
    put : z ≡ w → ((earlier ≡ xs) × (y ≡ x)) ⊎ ((rest : List (List ℕ)) × (xs ≡ earlier ++ y ∷ rest))
        → ((w ∷ earlier ≡ z ∷ xs) × (y ≡ x)) ⊎ ((rest : List (List ℕ)) × (z ∷ xs ≡ w ∷ earlier ++ y ∷ rest))
    put first (inl h) = inl ((λ i. sym first i ∷ h.0 i), h.1)
    put first (inr h) = inr (h.0, (λ i. first i ∷ h.1 i))

-- one line more that may stand behind runnable ones
pub are_more : (lines : List (List ℕ)) (line : List ℕ) → AreRunnable lines → IsLine line × IsTrue (runs_behind lines line)
    → AreRunnable (lines ++ line ∷ [])
are_more lines line all may earlier later l e =
    elim (last_or_before lines earlier later line l e) [
      | inl h ↦ subst (λ x. IsLine x × IsTrue (runs_behind earlier x)) (sym h.1) (subst (λ x. IsLine line × IsTrue (runs_behind x line)) (sym h.0) may)
      | inr h ↦ all earlier h.0 l h.1
    ]
