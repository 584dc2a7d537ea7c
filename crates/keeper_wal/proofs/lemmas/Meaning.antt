-- All bytes have a meaning: they stand for the rows that a reading of them gives, or break.
use Rattle.std.proofs.Common.{◌≡◌, ◌⊎◌, ◌≢◌, ℕ, zero, suc, ◌<◌, ◌≤◌, Bool, true, false, cond, List, [], ◌∷◌, ◌++◌, map, length, take, drop, Some, None, refl}
use Rattle.std.proofs.Common.{sym, ap, ◌∙◌, append_assoc, arith, inl, inr, length-append}
use Rattle.std.specs.Prelude.{IsTrue, nat_lt, ◌==◌}
use Rattle.std.specs.FinMap.{empty}
use Rattle.std.specs.List.{flat_map, AllByRecursion, IsDistinct}
use Rattle.std.proofs.lemmas.Bool.{eqb-true, eqb-false, cases_lt}
use Rattle.std.proofs.lemmas.List.Concat.{flat_map-cons}
use Rattle.gate_log.specs.Grammars.{IsBytes}
use Rattle.gate_log.specs.Logs.{Leads, opened, IsReadUpTo}
use Rattle.gate_log.proofs.lemmas.Logs.{shut_stands}
use Rattle.gate_log.proofs.lemmas.Scan.{starts, goes_on, shorter, no_record, illegal_record, closed_gate, breaks, no_gate}
use Rattle.keeper_api.specs.Batch.{changed, spot_of, is_same_spot}
use Rattle.keeper_api.specs.Rows.{Rows, Spot}
use Rattle.keeper_api.specs.declared.rows.Change.{Change}
use Rattle.keeper_wal.specs.Journal.{name, grammar, Stands, IsBad, IsLong, IsLegal, StandsForNoOther}
use Rattle.keeper_wal.specs.Meaning.{after_batch, rows_from, rows_in}
use Rattle.keeper_wal.specs.Reading.{batch_at}
use Rattle.keeper_wal.specs.Wal.{WalView, Leaves}
use Rattle.keeper_wal.proofs.Records.{batch_reader}

-- ---- the function

not_one : (gate : ℕ) → gate ≢ 1 → (gate == 1) ≡ false
not_one gate closed = elim (gate == 1) as (λ b. (gate == 1) ≡ b → b ≡ false) [
  | true ↦ λ e. absurd (closed (eqb-true gate 1 e))
  | false ↦ λ e. refl
] refl

batches_lead : (n : ℕ) (records : List (List Change)) (s t : Rows) (byte : ℕ) (rest : List ℕ) → length records < n → Leads grammar s records t → byte ≢ 1
    → rows_from n s (flat_map (opened grammar) records ++ byte ∷ rest) ≡ t
batches_lead zero records s t byte rest few leads closed = absurd (omega (arith, few))
batches_lead (suc n) [] s t byte rest few leads closed = ap (λ b. cond b (after_batch (rows_from n) s (batch_at rest)) s) (not_one byte closed) ∙ leads
batches_lead (suc n) (r ∷ rs) s t byte rest few leads closed =
    let others = flat_map (opened grammar) rs in
    let tail = byte ∷ rest in
    ap (λ b. rows_from (suc n) s (b ++ tail)) (flat_map-cons (opened grammar) r rs)
    ∙ ap (λ b. rows_from (suc n) s b) (append_assoc (opened grammar r) others tail)
    ∙ ap (after_batch (rows_from n) s) (batch_reader.again r (others ++ tail) leads.0)
    ∙ batches_lead n rs (changed r s) t byte rest (omega (arith, few)) leads.2 closed

few_batches : (records : List (List Change)) → length records ≤ length (flat_map (opened grammar) records)
few_batches [] = omega arith
few_batches (r ∷ rs) =
    omega (
      arith,
      few_batches rs,
      ap (λ (b : List ℕ). length b) (flat_map-cons (opened grammar) r rs),
      length-append (opened grammar r)
          (flat_map (opened grammar) rs),
    )

-- what bytes stand for is what is read of them
pub read_is : (bytes : List ℕ) (rows : Rows) → Stands bytes rows → rows_in bytes ≡ rows
unfolding rows_in
read_is bytes rows (inl short) = ap (λ b. cond b (rows_from (length bytes) empty (drop 8 bytes)) empty) (not_long (length bytes) short.0) ∙ sym short.1 where
  not_long : (n : ℕ) → n ≤ 9 → nat_lt 9 n ≡ false
  not_long n h = grind (arith, h)
read_is bytes rows (inr (long, (front, is_front, shut))) =
    let tail = shut.byte ∷ shut.rest in
    let records = is_front.records in
    let behind : drop 8 bytes ≡ flat_map (opened grammar) records ++ tail =
    ap (λ (b : List ℕ). drop 8 b) (shut.whole ∙ ap (λ (b : List ℕ). b ++ tail) is_front.spelled) in
    let size = ap (λ (b : List ℕ). length b) (shut.whole ∙ ap (λ (b : List ℕ). b ++ tail) is_front.spelled) in
    ap (λ b. cond b (rows_from (length bytes) empty (drop 8 bytes)) empty) (is_long (length bytes) long)
    ∙ ap (rows_from (length bytes) empty) behind
    ∙ batches_lead (length bytes) records empty rows shut.byte shut.rest
    (omega (
      arith,
      few_batches records,
      size,
      length-append (name ++ flat_map (opened grammar) records) tail,
      length-append name
          (flat_map (opened grammar) records),
    )) is_front.leads shut.closed where
      is_long : (n : ℕ) → 9 < n → nat_lt 9 n ≡ true
      is_long n h = grind (arith, h)

-- ---- bytes stand for rows, or break

abbrev Decided : Type 0 → Type 0
Decided P = P ⊎ (P → ⊥)

dec_false : (b : Bool) → Decided (b ≡ false)
dec_false true = inr (λ e. cc)
dec_false false = inl refl

dec_all : {X : Type 0} (P : X → Type 0) → ((x : X) → Decided (P x)) → (xs : List X) → Decided (AllByRecursion P xs)
dec_all P dec [] = inl tt
dec_all P dec (x ∷ xs) = elim (dec x) [
  | inl first ↦ elim (dec_all P dec xs) [ inl rest ↦ inl (first, rest) | inr none ↦ inr (λ h. none h.1) ]
  | inr none ↦ inr (λ h. none h.0)
]

dec_distinct : (spots : List Spot) → Decided (IsDistinct is_same_spot spots)
unfolding IsDistinct
dec_distinct [] = inl tt
dec_distinct (s ∷ spots) = elim (dec_all (λ y. is_same_spot s y ≡ false) (λ y. dec_false (is_same_spot s y)) spots) [
  | inl first ↦ elim (dec_distinct spots) [ inl rest ↦ inl (first, rest) | inr none ↦ inr (λ h. none h.1) ]
  | inr none ↦ inr (λ h. none h.0)
]

dec_some : {A : Type 0} (xs : List A) → Decided (1 ≤ length xs)
dec_some [] = inr (λ h. absurd (omega (arith, h)))
dec_some (x ∷ xs) = inl (omega arith)

dec_legal : (batch : List Change) → Decided (IsLegal batch)
dec_legal batch = elim (dec_some batch) [
  | inl some_there ↦ elim (dec_all (λ change. 1 ≤ length (spot_of change).1) (λ change. dec_some (spot_of change).1) batch) [
    | inl keys ↦ elim (dec_distinct (map spot_of batch)) [
      | inl distinct ↦ inl (record { some = some_there; is_batch = record { keys = keys; distinct = distinct } })
      | inr none ↦ inr (λ h. none h.is_batch.distinct)
    ]
    | inr none ↦ inr (λ h. none h.is_batch.keys)
  ]
  | inr none ↦ inr (λ h. none h.some)
]

dec_bytes : (xs ys : List ℕ) → Decided (xs ≡ ys)
dec_bytes [] [] = inl refl
dec_bytes [] (y ∷ ys) = inr (λ e. cc)
dec_bytes (x ∷ xs) [] = inr (λ e. cc)
dec_bytes (x ∷ xs) (y ∷ ys) = elim (x == y) as (λ b. (x == y) ≡ b → Decided (x ∷ xs ≡ y ∷ ys)) [
  | true ↦ λ e. elim (dec_bytes xs ys) [
    | inl same ↦ inl (λ i. eqb-true x y e i ∷ same i)
    | inr none ↦ inr (λ h. none (ap (λ (b : List ℕ). drop 1 b) h))
  ]
  | false ↦ λ e. inr (λ h. eqb-false x y e (ap (λ (b : List ℕ). first_of b) h))
] refl where
  first_of : List ℕ → ℕ
  first_of [] = 0
  first_of (b ∷ bs) = b

abbrev HasMeaning : List ℕ → Type 0
HasMeaning bytes = ((rows : Rows) × Stands bytes rows) ⊎ ((at : ℕ) × IsBad bytes at)

module _ (bytes : List ℕ) (fits : IsBytes bytes) (long : IsLong bytes) where
  scanned : (n : ℕ) (rest : List ℕ) (s : Rows) → length rest < n → IsReadUpTo grammar bytes rest s → HasMeaning bytes
  scanned zero rest s few upto = absurd (omega (arith, few))
  scanned (suc n) [] s few upto = inr (_, breaks grammar bytes [] s upto long (no_gate grammar s [] refl))
  scanned (suc n) (gate ∷ behind) s few upto = elim (gate == 1) as (λ b. (gate == 1) ≡ b → HasMeaning bytes) [
    | true ↦ λ e.
        let open_gate : gate ∷ behind ≡ 1 ∷ behind = ap (λ g. g ∷ behind) (eqb-true gate 1 e) in
        elim (batch_at behind) as (λ read. batch_at behind ≡ read → HasMeaning bytes) [
          | None ↦ λ none. inr (_, no_record grammar batch_at batch_reader bytes (gate ∷ behind) s upto behind open_gate long none)
          | Some read ↦ λ is. elim (dec_legal read.0) [
            | inl legal ↦
                let less = shorter grammar batch_at batch_reader bytes (gate ∷ behind) s upto behind open_gate fits read.0 read.1 is in
                scanned n read.1 (changed read.0 s) (omega (arith, few, less))
                (goes_on grammar batch_at batch_reader bytes (gate ∷ behind) s upto behind open_gate fits read.0 read.1 is legal)
            | inr illegal ↦ inr (_, illegal_record grammar batch_at batch_reader bytes (gate ∷ behind) s upto behind open_gate long read.0 read.1 is illegal)
          ]
        ] refl
    | false ↦ λ e.
        let shut = closed_gate grammar bytes (gate ∷ behind) s upto (omega arith) (λ more is. eqb-false gate 1 e (ap (λ (b : List ℕ). head_of b) is)) in
        inl (s, shut_stands grammar upto.front bytes s upto.is_front shut)
  ] refl where
    head_of : List ℕ → ℕ
    head_of [] = 0
    head_of (b ∷ bs) = b

  long_meaning : HasMeaning bytes
  long_meaning = elim (dec_bytes (take 8 bytes) name) [
    | inl named ↦ scanned (suc (length (drop 8 bytes))) (drop 8 bytes) empty (omega arith) (starts grammar bytes named)
    | inr other ↦ inr (0, record { long = long; broken = inl (other, refl) })
  ]

pub meaning : (bytes : List ℕ) → IsBytes bytes → ((rows : Rows) × Stands bytes rows) ⊎ ((at : ℕ) × IsBad bytes at)
meaning bytes fits = elim (cases_lt 9 (length bytes)) [
  | inl long ↦ long_meaning bytes fits long
  | inr short ↦ inl (empty, inl (short, refl))
]

-- a keeper over a disk that is yet to be read leaves what the images stand for
pub fresh_left : {D : Type 0} (tells : Bool) (reads : D → List ℕ) (images : D → List ℕ → Type 0) → ((disk : D) → IsTrue tells → images disk (reads disk))
    → (k : WalView D) → k.rows ≡ rows_in (reads k.since) → k.in_doubt ≡ false
    → IsTrue tells → (rows : Rows) → Leaves tells images k rows → (c : List ℕ) × images k.since c × StandsForNoOther c rows
fresh_left tells reads images left k is sure t rows leaves = elim (leaves t) [
  | inl image ↦ image
  | inr (inl same) ↦ (reads k.since, left k.since t, λ others stands. sym (read_is (reads k.since) others stands) ∙ sym is ∙ sym same)
  | inr (inr doubt) ↦ let h = doubt.0 in absurd cc
]
