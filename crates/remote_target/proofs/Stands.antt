-- The rows of a target after a call.
use Rattle.std.proofs.Common.{◌≡◌, ℕ, ◌≤◌, ◌+◌, Bool, true, false, cond, List, [], ◌∷◌, ◌++◌, length, Option, Some, None, Result, Ok, Err, Decides, refl, sym, ap, subst, ◌∙◌, arith, add-zero}
use Rattle.std.specs.Str.{bytes_eq}
use Rattle.std.specs.Ordering.{eq_by_cmp}
use Rattle.std.specs.Cmp.{eq_by_cmp_equiv}
use Rattle.std.specs.FinMap.{get}
use Rattle.std.proofs.lemmas.Bool.Decides.{same_from_decides, Decides-like}
use Rattle.std.proofs.lemmas.Slice.Eq.{bytes_eq-Decides}
use Rattle.std.proofs.lemmas.List.{length_push}
use Rattle.byteorder.specs.Endian.{big_bytes}
use Rattle.enq_base.specs.declared.unit.Effect.{Effect}
use Rattle.enq_base.specs.declared.unit.Reason.{Reason}
use Rattle.enq_base.specs.declared.unit.Reason.TheVariants.{Duplicate, Missing, NotNumber, Overflow}
use Rattle.keeper_api.specs.Batch.{changed, changed_once}
use Rattle.keeper_api.specs.RowLaws.{get_once, same_spot, spots_total}
use Rattle.keeper_api.specs.Rows.{Rows, Spot, spot_cmp, value_at}
use Rattle.keeper_api.specs.declared.rows.Change.TheVariants as change
use Rattle.module_effects.specs.Effects.{row_after}
use Rattle.module_effects.specs.Rows.{RowName, Tables, row_of}
use Rattle.module_effects.proofs.lemmas.Tables.{get-with_row, same_row, same_row-Decides}
use Rattle.remote_target.specs.declared.call.CallOutcome.{CallOutcome}
use Rattle.remote_target.specs.declared.call.CallOutcome.TheVariants.{Done, BadText, Refused}
use Rattle.remote_target.specs.Calls.{effect_of, tables_by, tables_in}
use Rattle.remote_target.specs.Rows.{IsCount, IsOutcomeIn, StandFor, call_value, changes_at, changes_if, changes_of, count_key, outcome_bytes, outcome_in}
use Rattle.remote_target.specs.Rows.{row_if, row_key, row_left, rows_by, value_from}
use Rattle.remote_target.specs.Runs.{Call, Execution, Ran, executed_as, execution, ran, ran_if}

-- ---- two places are one

pub same_spot-Decides : (a b : Spot) → Decides (eq_by_cmp spot_cmp a b) (a ≡ b)
same_spot-Decides a b = (same_spot a b, λ e. subst (λ s. eq_by_cmp spot_cmp a s ≡ true) e ((eq_by_cmp_equiv spots_total).refl a))

pub in_table : (n : ℕ) (key other : List ℕ) → eq_by_cmp spot_cmp (n, key) (n, other) ≡ bytes_eq other key
in_table n key other =
    same_from_decides _ _ (same_spot-Decides (n, key) (n, other))
    (Decides-like (bytes_eq other key) (λ (e : other ≡ key) k. (n, sym e k)) (λ e. sym (ap (λ (s : Spot). s.1) e)) (bytes_eq-Decides other key))

same_fronts : (a b c d : List ℕ) → length a ≡ length b → a ++ c ≡ b ++ d → (a ≡ b) × (c ≡ d)
same_fronts [] [] c d long h = (refl, h)
same_fronts [] (y ∷ ys) c d long h = cc
same_fronts (x ∷ xs) [] c d long h = cc
same_fronts (x ∷ xs) (y ∷ ys) c d long h =
    let first : x ≡ y = cc in
    let rest : xs ++ c ≡ ys ++ d = cc in
    let both = same_fronts xs ys c d (omega (arith, long)) rest in
    (λ k. first k ∷ both.0 k, both.1)

one_name : (a b : RowName) → row_key a ≡ row_key b → a ≡ b
one_name a b h =
    let long : length a.0 ≡ length b.0 = cc in
    let rest : a.0 ++ a.1 ≡ b.0 ++ b.1 = cc in
    let both = same_fronts a.0 b.0 a.1 b.1 long rest in
    λ k. (both.0 k, both.1 k)

pub row_key-same : (a b : RowName) → eq_by_cmp spot_cmp (1, row_key a) (1, row_key b) ≡ same_row a b
row_key-same a b =
    same_from_decides _ _ (same_spot-Decides (1, row_key a) (1, row_key b))
    (Decides-like (same_row a b) (λ (e : a ≡ b) k. (1, row_key (e k))) (λ e. one_name a b (ap (λ (s : Spot). s.1) e)) (same_row-Decides a b))

-- ---- one call more among values

no_match : (b : Bool) (p : CallOutcome) (rest : Option CallOutcome) → cond b (Some p) rest ≡ None → (b ≡ false) × (rest ≡ None)
no_match true p rest h = cc
no_match false p rest h = (refl, h)

pub swapped : {A : Type 0} (b c : Bool) (x y z : A) → (b ≡ true → c ≡ true → ⊥) → cond b x (cond c y z) ≡ cond c y (cond b x z)
swapped true true x y z apart = absurd (apart refl refl)
swapped true false x y z apart = refl
swapped false c x y z apart = refl

value_push : (p : ℕ) (tid : List ℕ) (xs : List Execution) (x : Execution) → executed_as x.tid xs ≡ None
    → value_from p tid (xs ++ x ∷ []) ≡ cond (bytes_eq x.tid tid) (Some (call_value (p + length xs) x)) (value_from p tid xs)
value_push p tid [] x fresh = ap (λ n. cond (bytes_eq x.tid tid) (Some (call_value n x)) None) (sym (add-zero p))
value_push p tid (y ∷ ys) x fresh =
    let both = no_match (bytes_eq y.tid x.tid) y.outcome (executed_as x.tid ys) fresh in
    let place : p + 1 + length ys ≡ p + length (y ∷ ys) = omega arith in
    ap (cond (bytes_eq y.tid tid) (Some (call_value p y))) (value_push (p + 1) tid ys x both.1)
    ∙ swapped (bytes_eq y.tid tid) (bytes_eq x.tid tid) _ _ _
    (λ a b. apart_names y x both.0 ((bytes_eq-Decides y.tid tid).0 a ∙ sym ((bytes_eq-Decides x.tid tid).0 b)))
    ∙ ap (λ n. cond (bytes_eq x.tid tid) (Some (call_value n x)) (value_from p tid (y ∷ ys))) place
  where
    apart_names : (y x : Execution) → bytes_eq y.tid x.tid ≡ false → y.tid ≡ x.tid → ⊥
    apart_names y x off same = let on = (bytes_eq-Decides y.tid x.tid).1 same in cc

-- ---- the outcome of a known call

told : (place : ℕ) (text : List ℕ) (o : CallOutcome) → outcome_in (big_bytes 8 place ++ outcome_bytes o text) ≡ Some o
told place text Done = refl
told place text BadText = refl
told place text (Refused Duplicate) = refl
told place text (Refused Missing) = refl
told place text (Refused NotNumber) = refl
told place text (Refused Overflow) = refl

pub told_outcome : (place : ℕ) (x : Execution) → outcome_in (call_value place x) ≡ Some x.outcome
told_outcome place x = told place x.text x.outcome

found_in : (b : Bool) (p : ℕ) (tid : List ℕ) (x : Execution) (xs : List Execution) (o : Option CallOutcome)
    → (IsOutcomeIn (value_from (p + 1) tid xs) o → executed_as tid xs ≡ o)
    → IsOutcomeIn (cond b (Some (call_value p x)) (value_from (p + 1) tid xs)) o → cond b (Some x.outcome) (executed_as tid xs) ≡ o
found_in true p tid x xs o more h = sym (told_outcome p x) ∙ h.0
found_in false p tid x xs o more h = more h

outcome_found : (p : ℕ) (tid : List ℕ) (xs : List Execution) (o : Option CallOutcome) → IsOutcomeIn (value_from p tid xs) o → executed_as tid xs ≡ o
outcome_found p tid [] o h = sym h
outcome_found p tid (x ∷ xs) o h = found_in (bytes_eq x.tid tid) p tid x xs o (outcome_found (p + 1) tid xs o) h

-- what is read under an identifier is its outcome
pub known_is : (rows : Rows) (r : Ran) (tid : List ℕ) (o : Option CallOutcome) → 1 ≤ length tid → StandFor rows r → IsOutcomeIn (value_at rows 0 tid) o
    → executed_as tid r.executed ≡ o
known_is rows r tid o long stands h = outcome_found 1 tid r.executed o (subst (λ v. IsOutcomeIn v o) (stands.calls tid long) h)

-- ---- the changes of a text

left_got : (name : RowName) (row : Option (List ℕ)) (rows : Rows) (q : Spot)
    → get (changed_once (row_left name row) rows) q ≡ cond (eq_by_cmp spot_cmp q (1, row_key name)) row (get rows q)
left_got name None rows q = get_once (row_left name None) rows q
left_got name (Some text) rows q = get_once (row_left name (Some text)) rows q

-- tables other than the business rows stay
elsewhere_if : (name : RowName) (res : Result (Option (List ℕ)) Reason) (rows : Rows) (q : Spot) → eq_by_cmp spot_cmp q (1, row_key name) ≡ false
    → get (changed (row_if name res) rows) q ≡ get rows q
elsewhere_if name (Ok row) rows q off = left_got name row rows q ∙ ap (λ b. cond b row (get rows q)) off
elsewhere_if name (Err reason) rows q off = refl

calls_stay : (e : Option Effect) (t : Tables) (rows : Rows) (key : List ℕ) → value_at (changed (rows_by e t) rows) 0 key ≡ value_at rows 0 key
calls_stay None t rows key = refl
calls_stay (Some e) t rows key = elsewhere_if (row_of e) (row_after (get t (row_of e)) e.deed) rows (0, key) refl

count_stays : (e : Option Effect) (t : Tables) (rows : Rows) (key : List ℕ) → value_at (changed (rows_by e t) rows) 2 key ≡ value_at rows 2 key
count_stays None t rows key = refl
count_stays (Some e) t rows key = elsewhere_if (row_of e) (row_after (get t (row_of e)) e.deed) rows (2, key) refl

texts_if : (e : Effect) (res : Result (Option (List ℕ)) Reason) (t : Tables) (rows : Rows) → ((name : RowName) → value_at rows 1 (row_key name) ≡ get t name)
    → (name : RowName) → value_at (changed (row_if (row_of e) res) rows) 1 (row_key name) ≡ get (tables_in e t res) name
texts_if e (Err reason) t rows same name = same name
texts_if e (Ok row) t rows same name =
    left_got (row_of e) row rows (1, row_key name)
    ∙ ap (λ b. cond b row (value_at rows 1 (row_key name))) (row_key-same name (row_of e))
    ∙ ap (cond (same_row name (row_of e)) row) (same name)
    ∙ sym (get-with_row t (row_of e) row name)

texts_with : (e : Option Effect) (t : Tables) (rows : Rows) → ((name : RowName) → value_at rows 1 (row_key name) ≡ get t name)
    → (name : RowName) → value_at (changed (rows_by e t) rows) 1 (row_key name) ≡ get (tables_by e t) name
texts_with None t rows same name = same name
texts_with (Some e) t rows same name = texts_if e (row_after (get t (row_of e)) e.deed) t rows same name

-- ---- a call more

abbrev noted : ℕ → Execution → Rows → Rows
noted place x rows = changed_once (change.Put 2 count_key (big_bytes 8 place)) (changed_once (change.Put 0 x.tid (call_value place x)) rows)

noted_got : (place : ℕ) (x : Execution) (rows : Rows) (q : Spot)
    → get (noted place x rows) q ≡ cond (eq_by_cmp spot_cmp q (2, count_key)) (Some (big_bytes 8 place))
    (cond (eq_by_cmp spot_cmp q (0, x.tid)) (Some (call_value place x)) (get rows q))
noted_got place x rows q =
    get_once (change.Put 2 count_key (big_bytes 8 place)) (changed_once (change.Put 0 x.tid (call_value place x)) rows) q
    ∙ ap (cond (eq_by_cmp spot_cmp q (2, count_key)) (Some (big_bytes 8 place))) (get_once (change.Put 0 x.tid (call_value place x)) rows q)

-- what stands under an identifier then
pub call_at_key : (rows : Rows) (r : Ran) (call : Call) (key : List ℕ)
    → value_at (changed (changes_at (length r.executed + 1) call r) rows) 0 key ≡ cond (bytes_eq call.tid key)
    (Some (call_value (length r.executed + 1) (execution call r))) (value_at rows 0 key)
call_at_key rows r call key =
    let x = execution call r in
    let place = length r.executed + 1 in
    calls_stay (effect_of call.text) r.tables (noted place x rows) key
    ∙ noted_got place x rows (0, key)
    ∙ ap (λ b. cond b (Some (call_value place x)) (value_at rows 0 key)) (in_table 0 key call.tid)

pub stands_new : (rows : Rows) (r : Ran) (call : Call) → executed_as call.tid r.executed ≡ None → StandFor rows r
    → StandFor (changed (changes_at (length r.executed + 1) call r) rows) (ran_if None call r)
stands_new rows r call fresh h =
    let x = execution call r in
    let place = length r.executed + 1 in
    let mid = noted place x rows in
    let e = effect_of call.text in
    let same_place : 1 + length r.executed ≡ place = omega arith in
    let long : place ≡ length (r.executed ++ x ∷ []) = sym (length_push r.executed x ∙ omega arith) in
    record {
      calls = λ tid has_bytes.
          call_at_key rows r call tid
          ∙ ap (cond (bytes_eq call.tid tid) (Some (call_value place x))) (h.calls tid has_bytes)
          ∙ ap (λ n. cond (bytes_eq call.tid tid) (Some (call_value n x)) (value_from 1 tid r.executed)) (sym same_place)
          ∙ sym (value_push 1 tid r.executed x fresh);
      texts = texts_with e r.tables mid (λ name. noted_got place x rows (1, row_key name) ∙ h.texts name);
      count = subst (λ v. IsCount v (length (r.executed ++ x ∷ []))) (sym (count_stays e r.tables mid count_key ∙ noted_got place x rows (2, count_key)))
          (ap (big_bytes 8) long);
    }

stands_if : (known : Option CallOutcome) (rows : Rows) (r : Ran) (call : Call) → executed_as call.tid r.executed ≡ known → StandFor rows r
    → StandFor (changed (changes_if known call r) rows) (ran_if known call r)
stands_if None rows r call is h = stands_new rows r call is h
stands_if (Some o) rows r call is h = h

-- the changes of a call make the rows of the target after it
pub stands_after : (rows : Rows) (r : Ran) (call : Call) → StandFor rows r → StandFor (changed (changes_of call r) rows) (ran call r)
stands_after rows r call h = stands_if (executed_as call.tid r.executed) rows r call refl h
