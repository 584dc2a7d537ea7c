-- Lists of executed calls, found by their identifiers.
use Rattle.std.proofs.Common.{◌≡◌, ℕ, ◌≤◌, ◌+◌, Bool, true, false, cond, count_by, List, [], ◌∷◌, ◌++◌, Option, Some, None, Contains, refl, sym, ap, subst, ◌∙◌, arith}
use Rattle.std.specs.Cmp.Lexicographic.{bytes_decides}
use Rattle.std.specs.Str.{bytes_eq}
use Rattle.std.proofs.lemmas.List.Sums.{sum_by-cons, sum_by_push}
use Rattle.module_effects.specs.Rows.{Tables}
use Rattle.remote_target.specs.declared.call.CallOutcome.{CallOutcome}
use Rattle.remote_target.specs.Calls.{outcome_of, tables_with}
use Rattle.remote_target.specs.Runs.{Execution, executed_as}
use Rattle.remote_target.specs.Once.{tables_after, AreRight, is_of}
use Rattle.remote_target.proofs.Lists.{contains_here, contains_there}

pub same_bytes : (a b : List ℕ) → bytes_eq a b ≡ true → a ≡ b
same_bytes a b h = (bytes_decides a b).0 h

pub is_same : (a b : List ℕ) → a ≡ b → bytes_eq a b ≡ true
is_same a b h = (bytes_decides a b).1 h

-- ---- the outcome of an identifier

pushed_in : (b : Bool) (tid : List ℕ) (o : CallOutcome) (rest more : Option CallOutcome) (p : CallOutcome) → (rest ≡ Some o → more ≡ Some o)
    → cond b (Some p) rest ≡ Some o → cond b (Some p) more ≡ Some o
pushed_in true tid o rest more p go h = h
pushed_in false tid o rest more p go h = go h

-- what was executed stays executed with its outcome
pub as_more : (tid : List ℕ) (o : CallOutcome) (xs ys : List Execution) → executed_as tid xs ≡ Some o → executed_as tid (xs ++ ys) ≡ Some o
as_more tid o [] ys h = cc
as_more tid o (x ∷ xs) ys h = pushed_in (bytes_eq x.tid tid) tid o (executed_as tid xs) (executed_as tid (xs ++ ys)) x.outcome (as_more tid o xs ys) h

-- an identifier that isn't known is another one than the first, and isn't known behind it
unknown : (b : Bool) (p : CallOutcome) (rest : Option CallOutcome) → cond b (Some p) rest ≡ None → (b ≡ false) × (rest ≡ None)
unknown true p rest h = cc
unknown false p rest h = (refl, h)

pub as_new : (x : Execution) (xs : List Execution) → executed_as x.tid xs ≡ None → executed_as x.tid (xs ++ x ∷ []) ≡ Some x.outcome
as_new x [] h = ap (λ b. cond b (Some x.outcome) None) (is_same x.tid x.tid refl)
as_new x (y ∷ ys) h =
    let both = unknown (bytes_eq y.tid x.tid) y.outcome (executed_as x.tid ys) h in
    ap (λ b. cond b (Some y.outcome) (executed_as x.tid (ys ++ x ∷ []))) both.0 ∙ as_new x ys both.1

pub none_counted : (tid : List ℕ) (xs : List Execution) → executed_as tid xs ≡ None → count_by (is_of tid) xs ≡ 0
none_counted tid [] h = refl
none_counted tid (y ∷ ys) h =
    let both = unknown (bytes_eq y.tid tid) y.outcome (executed_as tid ys) h in
    let rest = none_counted tid ys both.1 in
    sum_by-cons (λ (x : Execution). cond (is_of tid x) 1 0) y ys ∙ ap (λ b. cond b 1 0 + count_by (is_of tid) ys) both.0 ∙ omega (arith, rest)

found_in : (b : Bool) (tid : List ℕ) (o : CallOutcome) (y : Execution) (ys : List Execution) → (b ≡ true → y.tid ≡ tid)
    → (executed_as tid ys ≡ Some o → (text : List ℕ) × Contains ys (record { tid = tid; text = text; outcome = o }))
    → cond b (Some y.outcome) (executed_as tid ys) ≡ Some o → (text : List ℕ) × Contains (y ∷ ys) (record { tid = tid; text = text; outcome = o })
found_in true tid o y ys same rest h =
    let is = same refl in
    let got : y.outcome ≡ o = cc in
    let whole : y ≡ record { tid = tid; text = y.text; outcome = o } = λ k. record { tid = is k; text = y.text; outcome = got k } in
    (y.text, subst (λ z. Contains (y ∷ ys) z) whole (contains_here y ys))
found_in false tid o y ys same rest h = let r = rest h in (r.0, contains_there y ys _ r.1)

-- what has an outcome was executed
pub as_contained : (tid : List ℕ) (o : CallOutcome) (xs : List Execution) → executed_as tid xs ≡ Some o → (text : List ℕ)
    × Contains xs (record { tid = tid; text = text; outcome = o })
as_contained tid o [] h = cc
as_contained tid o (y ∷ ys) h = found_in (bytes_eq y.tid tid) tid o y ys (same_bytes y.tid tid) (as_contained tid o ys) h

-- ---- one execution more

counted_once : (b : Bool) (n : ℕ) → n ≤ 1 → (b ≡ true → n ≡ 0) → n + cond b 1 0 ≤ 1
counted_once true n low none = let is = none refl in omega (arith, is)
counted_once false n low none = omega (arith, low)

pub once_more : (x : Execution) (xs : List Execution) → executed_as x.tid xs ≡ None → ((tid : List ℕ) → count_by (is_of tid) xs ≤ 1) → (tid : List ℕ)
    → count_by (is_of tid) (xs ++ x ∷ []) ≤ 1
once_more x xs fresh once tid =
    subst (λ n. n ≤ 1) (sym (sum_by_push (λ (y : Execution). cond (is_of tid y) 1 0) xs x))
    (counted_once (bytes_eq x.tid tid) (count_by (is_of tid) xs) (once tid)
    (λ same. none_counted tid xs (subst (λ t. executed_as t xs ≡ None) (same_bytes x.tid tid same) fresh)))

pub tables_more : (t : Tables) (xs : List Execution) (x : Execution) → tables_after t (xs ++ x ∷ []) ≡ tables_with x.text (tables_after t xs)
tables_more t [] x = refl
tables_more t (y ∷ ys) x = tables_more (tables_with y.text t) ys x

pub right_more : (t : Tables) (xs : List Execution) (x : Execution) → AreRight t xs → x.outcome ≡ outcome_of x.text (tables_after t xs)
    → AreRight t (xs ++ x ∷ [])
right_more t [] x all is = (is, tt)
right_more t (y ∷ ys) x all is = (all.0, right_more (tables_with y.text t) ys x all.1 is)
