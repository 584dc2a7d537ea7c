-- What a good row of table 0 spells: a call with its place.
use Rattle.std.proofs.Common.{◌≡◌, ℕ, Bool, true, false, cond, ◌&&◌, nat_eq, List, [], ◌∷◌, ◌++◌, take, drop, Option, Some, None, option_map, refl, sym, ap, subst, ◌∙◌}
use Rattle.std.proofs.lemmas.Bool.{eqb-true}
use Rattle.std.proofs.lemmas.List.{take-append-drop}
use Rattle.std.specs.Option.{is_some}
use Rattle.enq_base.specs.Grammar.{is_key, is_text}
use Rattle.enq_base.specs.declared.unit.Reason.{Reason}
use Rattle.enq_base.specs.declared.unit.Reason.TheVariants.{Duplicate, Missing, NotNumber, Overflow}
use Rattle.keeper_api.specs.declared.rows.Row.{Row}
use Rattle.remote_target.specs.declared.call.CallOutcome.{CallOutcome}
use Rattle.remote_target.specs.declared.call.CallOutcome.TheVariants.{Done, BadText, Refused}
use Rattle.remote_target.specs.Executed.{call_in, outcome_or_done}
use Rattle.remote_target.specs.Reading.{IsSpelled, is_call, place_in}
use Rattle.remote_target.specs.Rows.{call_value, outcome_bytes, outcome_coded, outcome_codes, outcome_in, plain_outcome, reason_byte, reason_coded}
use Rattle.table_reading.proofs.lemmas.Pages.{first_true, second_true}

-- ---- two bytes of an outcome

no_value : {A : Type 0} {P : Type 0} (x : A) → ◌≡◌ {A = Option A} None (Some x) → P
no_value x h = absurd cc

picked : {A : Type 0} (Q : A → Type 0) (b : Bool) (x o : A) (rest : Option A) → (b ≡ true → Q x) → (rest ≡ Some o → Q o) → cond b (Some x) rest ≡ Some o → Q o
picked Q true x o rest here more h = let same : x ≡ o = cc in subst Q same (here refl)
picked Q false x o rest here more h = more h

reason_is : (b : ℕ) (r : Reason) → reason_coded b ≡ Some r → b ≡ reason_byte r
reason_is b r h =
    picked (λ s. b ≡ reason_byte s) (nat_eq b 1) Duplicate r _ (eqb-true b 1)
    (picked (λ s. b ≡ reason_byte s) (nat_eq b 2) Missing r _ (eqb-true b 2)
    (picked (λ s. b ≡ reason_byte s) (nat_eq b 3) NotNumber r _ (eqb-true b 3)
    (picked (λ s. b ≡ reason_byte s) (nat_eq b 4) Overflow r None (eqb-true b 4) (no_value r))))
    h

abbrev AreCodes : ℕ → ℕ → CallOutcome → Type 0
AreCodes a b o = (a ≡ (outcome_codes o).0) × (b ≡ (outcome_codes o).1)

plain_is : (a b : ℕ) (o : CallOutcome) → b ≡ 0 → plain_outcome a ≡ Some o → AreCodes a b o
plain_is a b o none h =
    picked (AreCodes a b) (nat_eq a 1) Done o _ (λ is. (eqb-true a 1 is, none))
    (picked (AreCodes a b) (nat_eq a 2) BadText o None (λ is. (eqb-true a 2 is, none)) (no_value o))
    h

refused_is : (a b : ℕ) (o : CallOutcome) (r : Option Reason) → a ≡ 3 → ((s : Reason) → r ≡ Some s → b ≡ reason_byte s) → option_map Refused r ≡ Some o
    → AreCodes a b o
refused_is a b o None three is h = absurd cc
refused_is a b o (Some s) three is h = let same : Refused s ≡ o = cc in subst (AreCodes a b) same (three, is s refl)

coded_is : (three none : Bool) (a b : ℕ) (o : CallOutcome) → (three ≡ true → a ≡ 3) → (none ≡ true → b ≡ 0)
    → cond three (option_map Refused (reason_coded b)) (cond none (plain_outcome a) None) ≡ Some o → AreCodes a b o
coded_is true none a b o is_three is_none h = refused_is a b o (reason_coded b) (is_three refl) (reason_is b) h
coded_is false true a b o is_three is_none h = plain_is a b o (is_none refl) h
coded_is false false a b o is_three is_none h = absurd cc

codes_are : (a b : ℕ) (o : CallOutcome) → outcome_coded a b ≡ Some o → AreCodes a b o
codes_are a b o h = coded_is (nat_eq a 3) (nat_eq b 0) a b o (eqb-true a 3) (eqb-true b 0) h

-- ---- behind the eight bytes of the place

behind_place : (value : List ℕ) (o : CallOutcome) → outcome_in value ≡ Some o → drop 8 value ≡ outcome_bytes o (drop 10 value)
behind_place [] o h = absurd cc
behind_place (a ∷ []) o h = absurd cc
behind_place (a ∷ b ∷ []) o h = absurd cc
behind_place (a ∷ b ∷ c ∷ []) o h = absurd cc
behind_place (a ∷ b ∷ c ∷ d ∷ []) o h = absurd cc
behind_place (a ∷ b ∷ c ∷ d ∷ e ∷ []) o h = absurd cc
behind_place (a ∷ b ∷ c ∷ d ∷ e ∷ f ∷ []) o h = absurd cc
behind_place (a ∷ b ∷ c ∷ d ∷ e ∷ f ∷ g ∷ []) o h = absurd cc
behind_place (a ∷ b ∷ c ∷ d ∷ e ∷ f ∷ g ∷ i ∷ []) o h = absurd cc
behind_place (a ∷ b ∷ c ∷ d ∷ e ∷ f ∷ g ∷ i ∷ number ∷ []) o h = absurd cc
behind_place (a ∷ b ∷ c ∷ d ∷ e ∷ f ∷ g ∷ i ∷ number ∷ reason ∷ text) o h =
    let are = codes_are number reason o h in
    λ k. are.0 k ∷ are.1 k ∷ text

-- ---- the call that a row spells

found_outcome : (o : Option CallOutcome) → is_some o ≡ true → o ≡ Some (outcome_or_done o)
found_outcome None h = absurd cc
found_outcome (Some o) h = refl

pub row_is_call : (row : Row) → is_call row ≡ true → IsSpelled row → call_value (place_in row) (call_in row) ≡ row.value
row_is_call row good spelled =
    let has = first_true (is_some (outcome_in row.value)) (is_text (drop 10 row.value))
    (second_true (is_key row.key) (is_some (outcome_in row.value) && is_text (drop 10 row.value)) good) in
    let o = outcome_or_done (outcome_in row.value) in
    ap (λ front. front ++ outcome_bytes o (drop 10 row.value)) spelled
    ∙ ap (take 8 row.value ++◌) (sym (behind_place row.value o (found_outcome (outcome_in row.value) has)))
    ∙ take-append-drop 8 row.value
