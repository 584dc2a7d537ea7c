-- How a part of a line is filled, byte by byte.
use Rattle.std.proofs.Common.{◌≡◌, inl, inr, ℕ, zero, suc, ◌≤◌, List, [], ◌∷◌, ◌++◌, true, false, length, take, drop, Option, Some, None, refl, sym, ap, ◌∙◌, subst, append_assoc, arith}
use Rattle.std.specs.Prelude.{◌↔◌, ◌+◌, nat_eq, not, min, take_while, Result, Ok, Err, IfSome, IsSome, IsTrue}
use Rattle.std.specs.List.{position, position_or_len, prefix_len}
use Rattle.std.proofs.lemmas.Bool.{cases_Bool, ltb-false}
use Rattle.std.proofs.lemmas.List.{length-take, take_all, take_min}
use Rattle.lock_entry.proofs.lemmas.Places.{list_any-position, position-None, position-Some}
use Rattle.enq_base.specs.Grammar.{is_name, is_name_byte}
use Rattle.enq_base.specs.declared.refusal.Refusal.{Refusal}
use Rattle.dialogue_session.specs.Filling.{filled, filled_from, holds_dollar, if_name, joined, name_ahead, name_behind, text_for}
use Rattle.dialogue_session.specs.declared.variables.Variable.{Variable}

-- ---- texts one behind the other

joined-twice : (a b : List ℕ) (r : Result (List ℕ) Refusal) → joined (Ok (a ++ b)) r ≡ joined (Ok a) (joined (Ok b) r)
joined-twice a b (Ok rest) = ap Ok (append_assoc a b rest)
joined-twice a b (Err r) = refl

-- a text that is joined from two, and more behind it
joined-over : (a t : List ℕ) (x r : Result (List ℕ) Refusal) → joined (Ok a) x ≡ Ok t → joined (Ok t) r ≡ joined (Ok a) (joined x r)
joined-over a t (Ok b) r h =
    let same : a ++ b ≡ t = cc in
    subst (λ s. joined (Ok s) r ≡ joined (Ok a) (joined (Ok b) r)) same (joined-twice a b r)
joined-over a t (Err e) r h = absurd (cc)

-- ---- bytes passed over

pub passed : (vs : List Variable) (k : ℕ) (bytes : List ℕ) → filled_from vs k bytes ≡ filled vs (drop k bytes)
passed vs zero bytes = refl
passed vs (suc k) [] = refl
passed vs (suc k) (b ∷ bytes) = passed vs k bytes

abbrev next : List Variable → ℕ → List ℕ → Option (List ℕ) → Result (List ℕ) Refusal
next vs b bytes name =
    elim name [
      | None ↦ joined (Ok (b ∷ [])) (filled_from vs 0 bytes)
      | Some n ↦ joined (text_for vs n) (filled_from vs (length n) bytes)
    ]

-- a byte that stands for itself
pub plain-step : (vs : List Variable) (b : ℕ) (bytes old : List ℕ) → name_behind b bytes ≡ None
    → joined (Ok (old ++ b ∷ [])) (filled_from vs 0 bytes) ≡ joined (Ok old) (filled vs (b ∷ bytes))
plain-step vs b bytes old none =
    joined-twice old (b ∷ []) (filled_from vs 0 bytes) ∙ ap (joined (Ok old)) (sym (ap (next vs b bytes) none))

-- a name that a text stands for
pub name-step : (vs : List Variable) (b : ℕ) (bytes name old text : List ℕ) → name_behind b bytes ≡ Some name → joined (Ok old) (text_for vs name) ≡ Ok text
    → joined (Ok text) (filled_from vs (length name) bytes) ≡ joined (Ok old) (filled vs (b ∷ bytes))
name-step vs b bytes name old text some known =
    joined-over old text (text_for vs name) (filled_from vs (length name) bytes) known ∙ ap (joined (Ok old)) (sym (ap (next vs b bytes) some))

-- ---- names

-- the bytes before the first that isn't one of a name
run-length : (xs : List ℕ) → position_or_len (λ b. not (is_name_byte b)) xs ≡ prefix_len is_name_byte xs
run-length [] = refl
run-length (x ∷ xs) =
    elim (cases_Bool (is_name_byte x)) [
      | inl t ↦ rw t (ap (λ n. 1 + n) (run-length xs))
      | inr t ↦ rw t refl
    ]

pub run-ends : (xs : List ℕ) (i : ℕ) → position (λ b. not (is_name_byte b)) xs ≡ Some i → take i xs ≡ take_while is_name_byte xs
run-ends xs i h =
    let at = position-Some (λ b. not (is_name_byte b)) xs i h in
    ap (λ n. take n xs) (sym at.0 ∙ run-length xs)

pub run-is_all : (xs : List ℕ) → position (λ b. not (is_name_byte b)) xs ≡ None → xs ≡ take_while is_name_byte xs
run-is_all xs h =
    let none = list_any-position (λ b. not (is_name_byte b)) xs in
    let past = position-None (λ b. not (is_name_byte b)) xs h in
    let most = ltb-false _ _ (sym none ∙ past) in
    sym (take_all (prefix_len is_name_byte xs) xs (omega (arith, run-length xs, most)))

pub named : (run : List ℕ) (read : Option (List ℕ)) → IsSome read ↔ IsTrue (is_name run) → IfSome read (λ name. name ≡ run) → read ≡ if_name run
named run (Some name) grammar value =
    let good : is_name run ≡ true = grammar.0 refl in
    rw good (ap Some value)
named run None grammar value =
    elim (cases_Bool (is_name run)) [ inl t ↦ absurd (let k = grammar.1 t in cc) | inr t ↦ rw t refl ]

pub longest : (bytes run : List ℕ) (most : ℕ) → most ≡ min (length bytes) 30 → run ≡ take_while is_name_byte (take most bytes) → if_name run ≡ name_ahead bytes
longest bytes run most m is =
    let same : take most bytes ≡ take 30 bytes = ap (λ n. take n bytes) (let e : most ≡ min 30 (length bytes) = omega (arith, m) in e) ∙ take_min 30 bytes in
    ap if_name (is ∙ ap (take_while is_name_byte) same)

if_name-is : (bytes name : List ℕ) → if_name bytes ≡ Some name → name ≡ bytes
if_name-is bytes name h =
    elim (cases_Bool (is_name bytes)) [ inl t ↦ let k = rw t at h in cc | inr t ↦ absurd (let k = rw t at h in cc) ]

-- a name that stands in front is no longer than the bytes
pub name-fits : (b : ℕ) (bytes name : List ℕ) → name_behind b bytes ≡ Some name → length name ≤ length bytes
name-fits b bytes name h =
    elim (cases_Bool (nat_eq 36 b)) [
      | inl t ↦
          let k = rw t at h in
          let run = take 30 bytes in
          let is = if_name-is (take_while is_name_byte run) name k in
          let n = prefix_len is_name_byte run in
          let short = length-take n run in
          let all = length-take 30 bytes in
          omega (arith, ap length is, short, all)
      | inr t ↦ absurd (let k = rw t at h in cc)
    ]

-- ---- parts without `$`

pub as_it_stands : (vs : List Variable) (bytes : List ℕ) → holds_dollar bytes ≡ false → filled vs bytes ≡ Ok bytes
as_it_stands vs [] h = refl
as_it_stands vs (b ∷ bytes) h =
    elim (cases_Bool (nat_eq 36 b)) [
      | inl t ↦ absurd (let k = rw t at h in cc)
      | inr t ↦
          let rest = as_it_stands vs bytes (rw t at h) in
          let none : name_behind b bytes ≡ None = rw t refl in
          ap (next vs b bytes) none ∙ ap (joined (Ok (b ∷ []))) rest
    ]
