-- The threads of a script have callers of their own.
use Rattle.std.proofs.Common.{◌≡◌, ℕ, zero, suc, ◌<◌, Bool, true, false, List, [], ◌∷◌, ◌++◌, map, refl, sym, ap, subst, arith}
use Rattle.std.specs.Prelude.{fold, if◌then◌else◌, nat_eq}
use Rattle.std.specs.List.{AllByRecursion}
use Rattle.std.specs.Str.{bytes_eq}
use Rattle.std.proofs.lemmas.Bool.{eqb-true, or_parts}
use Rattle.caller_laws.specs.Callers.{AreDistinct, actors_of, threads_of, workers_to}
use Rattle.hall_model.specs.declared.command.Who.{Who}
use Rattle.hall_model.specs.declared.command.Who.TheVariants as who
use Rattle.script_actors.specs.Doers.{doer_of, is_same}
use Rattle.script_actors.specs.declared.line.Doer.{Doer}
use Rattle.script_actors.specs.declared.line.Doer.TheVariants as doer
use Rattle.script_actors.specs.declared.line.NumberedLine.{NumberedLine}
use Rattle.whole_script.specs.Lines.{is_among, names_in, naming, with_name}

-- this caller is none of these
abbrev IsApart : Who → List Who → Type 0
IsApart w callers = AllByRecursion (λ (x : Who). is_same w x ≡ false) callers

-- none of these is one of those
abbrev AreApart : List Who → List Who → Type 0
AreApart callers others = AllByRecursion (λ (w : Who). IsApart w others) callers

every_append : {A : Type 0} (Q : A → Type 0) (xs ys : List A) → AllByRecursion Q xs → AllByRecursion Q ys → AllByRecursion Q (xs ++ ys)
every_append Q [] ys h k = k
every_append Q (x ∷ xs) ys h k = (h.0, every_append Q xs ys h.1 k)

distinct_append : (callers others : List Who) → AreDistinct callers → AreDistinct others → AreApart callers others → AreDistinct (callers ++ others)
distinct_append [] others h k apart = k
distinct_append (w ∷ callers) others h k apart =
    (every_append (λ (x : Who). is_same w x ≡ false) callers others h.0 apart.0, distinct_append callers others h.1 k apart.1)

-- ---- sessions

abbrev sessions_of : List (List ℕ) → List Who
sessions_of names = map (λ (name : List ℕ). who.Session name) names

-- a name that isn't among these is apart from each of them
new_apart : (names : List (List ℕ)) (s : List ℕ) → is_among s names ≡ false → AreApart (sessions_of names) (who.Session s ∷ [])
new_apart [] s new = tt
new_apart (name ∷ names) s new = let p = or_parts (bytes_eq name s) _ new in ((p.0, tt), new_apart names s p.1)

sessions_push : (names : List (List ℕ)) (s : List ℕ) → sessions_of (names ++ s ∷ []) ≡ sessions_of names ++ who.Session s ∷ []
sessions_push [] s = refl
sessions_push (name ∷ names) s = ap (λ callers. who.Session name ∷ callers) (sessions_push names s)

distinct_push : (names : List (List ℕ)) (s : List ℕ) → is_among s names ≡ false → AreDistinct (sessions_of names)
    → AreDistinct (sessions_of (names ++ s ∷ []))
distinct_push names s new h =
    subst AreDistinct (sym (sessions_push names s))
    (distinct_append (sessions_of names) (who.Session s ∷ []) h (tt, tt) (new_apart names s new))

distinct_if : (names : List (List ℕ)) (s : List ℕ) (known : Bool) → is_among s names ≡ known → AreDistinct (sessions_of names)
    → AreDistinct (sessions_of (if known then names else names ++ s ∷ []))
distinct_if names s true is h = h
distinct_if names s false is h = distinct_push names s is h

distinct_name : (names : List (List ℕ)) (d : Doer) → AreDistinct (sessions_of names) → AreDistinct (sessions_of (with_name names d))
distinct_name names (doer.Actor (who.Session s)) h = distinct_if names s (is_among s names) refl h
distinct_name names (doer.Actor (who.Worker w)) h = h
distinct_name names (doer.Actor who.Admin) h = h
distinct_name names doer.Nobody h = h
distinct_name names doer.Monitor h = h
distinct_name names doer.Worker h = h

distinct_names : (names : List (List ℕ)) (lines : List NumberedLine) → AreDistinct (sessions_of names)
    → AreDistinct (sessions_of (fold naming names lines))
distinct_names names [] h = h
distinct_names names (l ∷ lines) h = distinct_names (naming names l) lines (distinct_name names (doer_of l.line) h)

-- a session isn't the administrator
sessions_apart : (names : List (List ℕ)) → AreApart (sessions_of names) (who.Admin ∷ [])
sessions_apart [] = tt
sessions_apart (name ∷ names) = ((refl, tt), sessions_apart names)

actors_distinct : (lines : List NumberedLine) → AreDistinct (actors_of lines)
actors_distinct lines =
    let names = names_in lines in
    distinct_append (sessions_of names) (who.Admin ∷ []) (distinct_names [] lines tt) (tt, tt) (sessions_apart names)

-- ---- workers

apart_number : (a b : ℕ) → a < b → nat_eq a b ≡ false
apart_number a b less = go (nat_eq a b) refl
  where
    go : (t : Bool) → nat_eq a b ≡ t → nat_eq a b ≡ false
    go false is = is
    go true is = let same = eqb-true a b is in absurd (omega (arith, less, same))

-- workers up to a number are apart from one behind
workers_apart : (n m : ℕ) → n < m → AreApart (workers_to n) (who.Worker m ∷ [])
workers_apart zero m less = tt
workers_apart (suc n) m less =
    every_append (λ (w : Who). IsApart w (who.Worker m ∷ [])) (workers_to n) (who.Worker (suc n) ∷ []) (workers_apart n m (omega (arith, less)))
    ((apart_number (suc n) m less, tt), tt)

workers_distinct : (n : ℕ) → AreDistinct (workers_to n)
workers_distinct zero = tt
workers_distinct (suc n) =
    distinct_append (workers_to n) (who.Worker (suc n) ∷ []) (workers_distinct n) (tt, tt) (workers_apart n (suc n) (omega arith))

session_apart : (name : List ℕ) (n : ℕ) → IsApart (who.Session name) (workers_to n)
session_apart name zero = tt
session_apart name (suc n) =
    every_append (λ (x : Who). is_same (who.Session name) x ≡ false) (workers_to n) (who.Worker (suc n) ∷ []) (session_apart name n) (refl, tt)

admin_apart : (n : ℕ) → IsApart who.Admin (workers_to n)
admin_apart zero = tt
admin_apart (suc n) =
    every_append (λ (x : Who). is_same who.Admin x ≡ false) (workers_to n) (who.Worker (suc n) ∷ []) (admin_apart n) (refl, tt)

names_apart : (names : List (List ℕ)) (n : ℕ) → AreApart (sessions_of names) (workers_to n)
names_apart [] n = tt
names_apart (name ∷ names) n = (session_apart name n, names_apart names n)

actors_apart : (lines : List NumberedLine) (n : ℕ) → AreApart (actors_of lines) (workers_to n)
actors_apart lines n =
    every_append (λ (w : Who). IsApart w (workers_to n)) (sessions_of (names_in lines)) (who.Admin ∷ []) (names_apart (names_in lines) n)
    (admin_apart n, tt)

-- no two threads have one caller
pub threads_distinct : (lines : List NumberedLine) (workers : ℕ) → AreDistinct (threads_of lines workers)
threads_distinct lines workers =
    distinct_append (actors_of lines) (workers_to workers) (actors_distinct lines) (workers_distinct workers) (actors_apart lines workers)
