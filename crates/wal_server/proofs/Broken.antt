-- Not all rows are those of a state.
use Rattle.std.proofs.Common.{◌≡◌, ◌⊎◌, ℕ, Bool, true, false, [], ◌∷◌, Option, Some, None, sym, ap, ◌∙◌, inl, inr}
use Rattle.std.specs.FinMap.{empty, get, insert, get-insert, get-retain_keys}
use Rattle.enq_cmd.specs.Main.{IsLedgerBy, SurvivesStop}
use Rattle.hall_model.specs.State.{State}
use Rattle.keeper_api.specs.Rows.{Rows}
use Rattle.keeper_api.specs.RowLaws.{spots_total, exact_spots}
use Rattle.update_records.specs.Ledger.{Ledger, is_own, own, rows_of}

-- one row, whose key no store has
only_row : ℕ → Rows
only_row n = insert empty (0, 7 ∷ []) (n ∷ [])

shown : (n : ℕ) → get (own (only_row n)) (0, 7 ∷ []) ≡ Some (n ∷ [])
unfolding only_row
shown n = get-retain_keys (only_row n) is_own (0, 7 ∷ []) (λ x e. ap is_own (sym (exact_spots (0, 7 ∷ []) x e)))
    ∙ get-insert spots_total empty (0, 7 ∷ []) (n ∷ []) (0, 7 ∷ [])

row_is : (m n : ℕ) → own (only_row m) ≡ own (only_row n) → m ≡ n
row_is m n e =
    let rows : Some (m ∷ []) ≡ Some (n ∷ []) = sym (shown m) ∙ ap (λ (r : Rows). get r (0, 7 ∷ [])) e ∙ shown n in
    cc

known_of : (found : Option Bool) (s : State) (l : Ledger) → IsLedgerBy found s l → (l ≡ s.stored) ⊎ (s.in_flight ≡ Some l)
known_of None s l h = h
known_of (Some false) s l h = inl h
known_of (Some true) s l h = inr h

-- a row that is all of a state's
abbrev IsKnown : State → ℕ → Type 0
IsKnown s n = (own (only_row n) ≡ rows_of s.stored) ⊎ ((l : Ledger) × (s.in_flight ≡ Some l) × (own (only_row n) ≡ rows_of l))

is_known : (s : State) (n : ℕ) → SurvivesStop (only_row n) s → IsKnown s n
is_known s n h = elim (known_of s.found s h.ledger h.known) [
  | inl is ↦ inl (h.stand.exact ∙ ap rows_of is)
  | inr is ↦ inr (h.ledger, is, h.stand.exact)
]

some_ledger : (a b : Ledger) → Some a ≡ Some b → a ≡ b
some_ledger a b e = cc

both_in_flight : (s : State) (m n : ℕ) (a : (l : Ledger) × (s.in_flight ≡ Some l) × (own (only_row m) ≡ rows_of l))
    (b : (l : Ledger) × (s.in_flight ≡ Some l) × (own (only_row n) ≡ rows_of l)) → m ≡ n
both_in_flight s m n a b = row_is m n (a.2 ∙ ap rows_of (some_ledger a.0 b.0 (sym a.1 ∙ b.1)) ∙ sym b.2)

three : (s : State) → IsKnown s 0 → IsKnown s 1 → IsKnown s 2 → ⊥
three s (inl a) (inl b) c = let e = row_is 0 1 (a ∙ sym b) in absurd cc
three s (inl a) (inr b) (inl c) = let e = row_is 0 2 (a ∙ sym c) in absurd cc
three s (inl a) (inr b) (inr c) = let e = both_in_flight s 1 2 b c in absurd cc
three s (inr a) (inl b) (inl c) = let e = row_is 1 2 (b ∙ sym c) in absurd cc
three s (inr a) (inl b) (inr c) = let e = both_in_flight s 0 2 a c in absurd cc
three s (inr a) (inr b) c = let e = both_in_flight s 0 1 a b in absurd cc

pub not_all : (s : State) → ((rows : Rows) → SurvivesStop rows s) → ⊥
not_all s all = three s (is_known s 0 (all (only_row 0))) (is_known s 1 (all (only_row 1))) (is_known s 2 (all (only_row 2)))
