-- What one line adds, and one line more behind the numbered ones.
use Rattle.std.proofs.Common.{◌≡◌, ℕ, ◌+◌, List, [], ◌∷◌, ◌++◌, length, refl, sym, ap, ◌∙◌, subst, arith}
use Rattle.std.specs.Prelude.{Option, Some, None, Result, Err}
use Rattle.coverage.specs.Lacks.{Numbered}
use Rattle.coverage.specs.Walked.{CoverView}
use Rattle.lock_objects.specs.Objects.{Object}
use Rattle.script_lang.specs.Reading.{line_of}
use Rattle.script_lang.specs.declared.script_line.ScriptLine.{ScriptLine}
use Rattle.script_runner.specs.Lines.{line_in}
use Rattle.script_runner.specs.declared.runner.Why.{Why}
use Rattle.script_runner.specs.declared.runner.Why.TheVariants.{BadLine}
use Rattle.cover_cmd.specs.Lines.{Adds, before_lines, numbered}

-- what a line's bytes are read as
known_by : (bytes : List ℕ) (known : Option ScriptLine) → line_of bytes ≡ known → line_in bytes ≡ known
unfolding line_in
known_by bytes known is = is

-- what is said of a line is said of its bytes
pub adds_known : (objects : List Object) (lines : List Numbered) (n : ℕ) (bytes : List ℕ) (l : Option ScriptLine) (new : CoverView) (r : Result Unit Why)
    → line_of bytes ≡ l → Adds objects lines n l new r → Adds objects lines n (line_in bytes) new r
adds_known objects lines n bytes l new r is h = subst (λ o. Adds objects lines n o new r) (sym (known_by bytes l is)) h

pub adds_bad : (objects : List Object) (lines : List Numbered) (n : ℕ) (bytes : List ℕ) (c : CoverView) → line_of bytes ≡ None
    → Adds objects lines n (line_in bytes) c (Err (BadLine n))
adds_bad objects lines n bytes c is = adds_known objects lines n bytes None c (Err (BadLine n)) is (refl, refl)

before-append : (n : ℕ) (l : Option ScriptLine) (a b : List Numbered) → before_lines n l (a ++ b) ≡ before_lines n l a ++ b
before-append n None a b = refl
before-append n (Some l) a b = refl

-- the numbered lines of one line more
pub numbered-push : (n m : ℕ) (lines : List (List ℕ)) (line : List ℕ) → m ≡ n + length lines + 1
    → numbered n (lines ++ line ∷ []) ≡ numbered n lines ++ before_lines m (line_in line) []
numbered-push n m [] line e =
    let same : n + 1 ≡ m = omega (arith, e) in
    ap (λ k. before_lines k (line_in line) []) same
numbered-push n m (l ∷ lines) line e =
    let below = numbered-push (n + 1) m lines line (omega (arith, e)) in
    ap (λ x. before_lines (n + 1) (line_in l) x) below ∙ before-append (n + 1) (line_in l) (numbered (n + 1) lines) (before_lines m (line_in line) [])
