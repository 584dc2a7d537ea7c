-- The first numbers that are drawn from an interval, where no numbers were drawn before.
use Rattle.std.proofs.Common.{◌≡◌, ℕ, ◌∷◌, ◌++◌, [], Bool, true, false, ◌&&◌, cond, List, length, map, Option, Some, None, IfSome, IsSome, refl, sym, ap, subst, ◌∙◌, arith}
use Rattle.std.specs.FinMap.{get, get-insert, insert}
use Rattle.std.specs.List.{All, IsDistinct}
use Rattle.std.specs.Str.{bytes_eq}
use Rattle.std.proofs.lemmas.Bool.{false≢true}
use Rattle.std.proofs.lemmas.Bool.Decides.{Decides-and}
use Rattle.std.proofs.lemmas.List.Elements.{All-nil, All-push}
use Rattle.std.proofs.lemmas.Slice.Eq.{bytes_eq-Decides}
use Rattle.enq_base.specs.declared.unit.Num.{Num as Number}
use Rattle.module_effects.proofs.lemmas.Tables.{rows_total, same_row, same_row-Decides}
use Rattle.module_effects.specs.Rows.{RowName}
use Rattle.update_records.specs.Business.{interval_of, numbers_from, numbers_of}
use Rattle.update_records.specs.Grammar.{HasDigits}
use Rattle.update_records.specs.Intervals.{level_of}
use Rattle.update_records.specs.Ledger.{AreDrawn, Ledger, Levels, LevelsAgree, IsRightLevel}
use Rattle.update_records.specs.RecordRows.{Level}
use Rattle.update_records.specs.declared.stored.StoredInterval.{StoredInterval}
use Rattle.ledger_steps.specs.Intervals.{HasNr, MayStore}

abbrev stat : List ℕ
stat = 83 ∷ 84 ∷ 65 ∷ 84 ∷ []

abbrev nr : List ℕ
nr = 48 ∷ 49 ∷ []

abbrev pub interval : ℕ → StoredInterval
interval n = record { object = stat; nr = nr; from = 1; to = 99; level = n; buffered = false }

abbrev num : ℕ → Number
num n = record { object = stat; nr = nr; number = n }

abbrev pub numbers : List Number
numbers = num 1 ∷ num 2 ∷ []

abbrev level : ℕ → Level
level n = level_of (interval n)

abbrev name : RowName
name = (stat, nr)

none_drawn : IsRightLevel name [] (level 0)
none_drawn = record {
  object = refl;
  nr = record { two = refl; digits = refl };
  low = omega arith;
  order = omega arith;
  high = omega arith;
  begun = omega arith;
  within = omega arith;
  drawn = refl;
}

two_drawn : IsRightLevel name numbers (level 2)
two_drawn = record {
  object = refl;
  nr = record { two = refl; digits = refl };
  low = omega arith;
  order = omega arith;
  high = omega arith;
  begun = omega arith;
  within = omega arith;
  drawn = refl;
}

abbrev is_name_of : RowName → Bool
is_name_of other = bytes_eq stat other.0 && bytes_eq nr other.1

one_name : (other : RowName) → is_name_of other ≡ true → other ≡ name
one_name other e =
    let p = (Decides-and _ _ (bytes_eq-Decides stat other.0) (bytes_eq-Decides nr other.1)).0 e in
    sym (ap (λ (o : List ℕ). (o, nr)) p.0 ∙ ap (λ (n : List ℕ). (other.0, n)) p.1)

pub all_digits : All HasDigits numbers
all_digits =
    All-push HasDigits (num 1 ∷ []) (num 2) (All-push HasDigits [] (num 1) (All-nil HasDigits) (record { two = refl; digits = refl })) (record { two = refl; digits = refl })

-- they are of no other interval
of_no_other : (other : RowName) → same_row other name ≡ false → numbers_from other numbers ≡ []
of_no_other other apart =
    elim (is_name_of other) as (λ b. is_name_of other ≡ b → map (λ (n : Number). n.number) (cond b (num 1 ∷ cond b (num 2 ∷ []) []) (cond b (num 2 ∷ []) [])) ≡ []) [
      | true ↦ λ e. absurd (false≢true (sym apart ∙ (same_row-Decides other name).1 (one_name other e)))
      | false ↦ λ e. refl
    ] refl

still_right : (other : RowName) (drawn : List Number) (found : Option Level) → numbers_from other drawn ≡ [] → IfSome found (IsRightLevel other []) → IfSome found (IsRightLevel other drawn)
still_right other drawn None none right = tt
still_right other drawn (Some l) none right = record {
  object = right.object;
  nr = right.nr;
  low = right.low;
  order = right.order;
  high = right.high;
  begun = right.begun;
  within = right.within;
  drawn = subst (AreDrawn l.buffered l) (sym none) right.drawn;
}

all_right : (levels : Levels) (n : ℕ) (drawn : List Number) → LevelsAgree levels [] → IsRightLevel name drawn (level n)
    → ((other : RowName) → same_row other name ≡ false → numbers_from other drawn ≡ [])
    → (other : RowName) → IfSome (get (insert levels name (level n)) other) (IsRightLevel other drawn)
all_right levels n drawn before right none other =
    subst (λ o. IfSome o (IsRightLevel other drawn)) (sym (get-insert rows_total levels name (level n) other))
    (elim (same_row other name) as (λ b. same_row other name ≡ b → IfSome (cond b (Some (level n)) (get levels other)) (IsRightLevel other drawn)) [
      | true ↦ λ e. subst (λ m. IsRightLevel m drawn (level n)) (sym ((same_row-Decides other name).0 e)) right
      | false ↦ λ e. still_right other drawn (get levels other) (none other e) (before.right other)
    ] refl)

is_stored : (levels : Levels) (n : ℕ) → IsSome (get (insert levels name (level n)) name)
is_stored levels n = subst (λ (o : Option Level). IsSome o) (sym (get-insert rows_total levels name (level n) name)) refl

abbrev Stored : Levels → ℕ → Number → Type 0
Stored levels n drawn = IsSome (get (insert levels name (level n)) (interval_of drawn))

all_stored : (levels : Levels) (n : ℕ) → All (Stored levels n) numbers
all_stored levels n =
    All-push (Stored levels n) (num 1 ∷ []) (num 2) (All-push (Stored levels n) [] (num 1) (All-nil (Stored levels n)) (is_stored levels n)) (is_stored levels n)

none_in : (ns : List Number) (count : ℕ) → count ≡ length ns → count ≡ 0 → ns ≡ []
none_in [] count is none = refl
none_in (n ∷ ns) count is none = absurd (omega arith)

first : (ledger : Ledger) (n : ℕ) (drawn : List Number) → numbers_of ledger.units ledger.marks ≡ [] → IsRightLevel name drawn (level n)
    → ((other : RowName) → same_row other name ≡ false → numbers_from other drawn ≡ [])
    → All (Stored ledger.levels n) drawn → MayStore ledger (interval n ∷ []) drawn
unfolding IsDistinct
first ledger n drawn nothing right none stored = record {
  digits = All-push HasNr [] (interval n) (All-nil HasNr) (record { two = refl; digits = refl });
  distinct = (tt, tt);
  agree = λ before. subst (λ ns. LevelsAgree (insert ledger.levels name (level n)) (ns ++ drawn)) (sym nothing)
      (record { right = all_right ledger.levels n drawn (subst (LevelsAgree ledger.levels) nothing before) right none; stored = stored });
}

-- an interval may be stored before its first number
pub may_store : (ledger : Ledger) (count : ℕ) (i : StoredInterval) → count ≡ length (numbers_of ledger.units ledger.marks) → count ≡ 0 → i ≡ interval 0 → MayStore ledger (i ∷ []) []
may_store ledger count i counted zero is =
    subst (λ (j : StoredInterval). MayStore ledger (j ∷ []) []) (sym is)
    (first ledger 0 [] (none_in (numbers_of ledger.units ledger.marks) count counted zero) none_drawn (λ other apart. refl) (All-nil (Stored ledger.levels 0)))

-- and with its first two numbers
pub may_draw : (ledger : Ledger) (count : ℕ) (i : StoredInterval) (drawn : List Number) → count ≡ length (numbers_of ledger.units ledger.marks) → count ≡ 0 → i ≡ interval 2 → drawn ≡ numbers
    → MayStore ledger (i ∷ []) drawn
may_draw ledger count i drawn counted zero is are =
    subst (MayStore ledger (i ∷ [])) (sym are)
    (subst (λ (j : StoredInterval). MayStore ledger (j ∷ []) numbers) (sym is)
    (first ledger 2 numbers (none_in (numbers_of ledger.units ledger.marks) count counted zero) two_drawn of_no_other (all_stored ledger.levels 2)))
