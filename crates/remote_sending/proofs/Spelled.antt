-- Rows of an outbox and the calls that they spell.
use Rattle.std.proofs.Common.{◌≡◌, ℕ, ◌+◌, ◌≤◌, Bool, true, false, cond, ◌&&◌, nat_eq, nat_le, List, [], ◌∷◌, ◌++◌, filter_map, map, length, is_none, is_some}
use Rattle.std.proofs.Common.{Option, Some, None, option_map, refl, sym, ap, subst, ◌∙◌, arith}
use Rattle.std.proofs.lemmas.Bool.{and_parts, eqb-true, leb-true}
use Rattle.std.specs.List.{cons_option, list_all}
use Rattle.std.specs.Str.{bytes_eq}
use Rattle.std.specs.Ordering.{nat_cmp}
use Rattle.std.specs.declared.cmp.Ordering.TheVariants.{Less, Equal, Greater}
use Rattle.std.specs.Cmp.Lexicographic.{slice_cmp}
use Rattle.std.specs.FinMap.{nat_cmp-IsAntisymmetric, slice_cmp-IsAntisymmetric}
use Rattle.std.specs.FinMap.Entries.{by_order}
use Rattle.enq_base.specs.declared.unit.Reason.{Reason}
use Rattle.enq_base.specs.declared.unit.Reason.TheVariants.{Duplicate, Missing, NotNumber, Overflow}
use Rattle.enq_base.specs.Grammar.{is_key, is_key_byte, is_text}
use Rattle.keeper_api.specs.declared.rows.Row.{Row}
use Rattle.keeper_api.specs.Rows.{Rows, RiseFrom, is_below, value_at}
use Rattle.table_reading.specs.Tables.{rows_in}
use Rattle.remote_target.specs.Rows.{outcome_coded, outcome_codes, plain_outcome, reason_byte, reason_coded}
use Rattle.remote_target.specs.declared.call.CallOutcome.{CallOutcome}
use Rattle.remote_target.specs.declared.call.CallOutcome.TheVariants.{Done, BadText, Refused}
use Rattle.remote_sending.specs.declared.outbox.OutboxCall.{OutboxCall}
use Rattle.remote_sending.specs.Outbox.{call_in, call_under, call_with, first_bad, first_bad_from, outbox_calls, outbox_value, state_coded, state_codes, with_call}
use Rattle.remote_sending.specs.Growing.{AreCallsOf}
use Rattle.remote_sending.proofs.TableRows.{above_is, below_trans, found, other_key, put_row, row_with, rows_put, rows_rise, same_key, tied, value_found}

-- ---- the two bytes of a state

no_value : {A : Type 0} {P : Type 0} (x : A) → ◌≡◌ {A = Option A} None (Some x) → P
no_value x h = absurd cc

picked : {A : Type 0} (Q : A → Type 0) (b : Bool) (x o : A) (rest : Option A) → (b ≡ true → Q x) → (rest ≡ Some o → Q o) → cond b (Some x) rest ≡ Some o → Q o
picked Q true x o rest here more h = let same : x ≡ o = cc in subst Q same (here refl)
picked Q false x o rest here more h = more h

reason_is : (b : ℕ) (r : Reason) → reason_coded b ≡ Some r → b ≡ reason_byte r
reason_is b r h =
    picked (λ s. b ≡ reason_byte s) (nat_eq b 1) Duplicate r _ (eqb-true b 1)
    (picked (λ s. b ≡ reason_byte s) (nat_eq b 2) Missing r _ (eqb-true b 2)
    (picked (λ s. b ≡ reason_byte s) (nat_eq b 3) NotNumber r _ (eqb-true b 3)
    (picked (λ s. b ≡ reason_byte s) (nat_eq b 4) Overflow r None (eqb-true b 4) (no_value r))))
    h

abbrev AreCodes : ℕ → ℕ → Option CallOutcome → Type 0
AreCodes a b o = (a ≡ (state_codes o).0) × (b ≡ (state_codes o).1)

plain_is : (a b : ℕ) (o : CallOutcome) → b ≡ 0 → plain_outcome a ≡ Some o → AreCodes a b (Some o)
plain_is a b o none h =
    picked (λ s. AreCodes a b (Some s)) (nat_eq a 1) Done o _ (λ e. (eqb-true a 1 e, none))
    (picked (λ s. AreCodes a b (Some s)) (nat_eq a 2) BadText o None (λ e. (eqb-true a 2 e, none)) (no_value o))
    h

refused_is : (a b : ℕ) (o : CallOutcome) (r : Option Reason) → a ≡ 3 → ((s : Reason) → r ≡ Some s → b ≡ reason_byte s) → option_map Refused r ≡ Some o
    → AreCodes a b (Some o)
refused_is a b o None three is h = absurd cc
refused_is a b o (Some s) three is h = let same : Refused s ≡ o = cc in subst (λ x. AreCodes a b (Some x)) same (three, is s refl)

coded_is : (three none : Bool) (a b : ℕ) (o : CallOutcome) → (three ≡ true → a ≡ 3) → (none ≡ true → b ≡ 0)
    → cond three (option_map Refused (reason_coded b)) (cond none (plain_outcome a) None) ≡ Some o → AreCodes a b (Some o)
coded_is true none a b o is_three is_none h = refused_is a b o (reason_coded b) (is_three refl) (reason_is b) h
coded_is false true a b o is_three is_none h = plain_is a b o (is_none refl) h
coded_is false false a b o is_three is_none h = absurd cc

outcome_is : (a b : ℕ) (o : CallOutcome) → outcome_coded a b ≡ Some o → AreCodes a b (Some o)
outcome_is a b o h = coded_is (nat_eq a 3) (nat_eq b 0) a b o (eqb-true a 3) (eqb-true b 0) h

some_is : (a b : ℕ) (o : Option CallOutcome) (r : Option CallOutcome) → ((s : CallOutcome) → r ≡ Some s → AreCodes a b (Some s)) → option_map Some r ≡ Some o
    → AreCodes a b o
some_is a b o None is h = absurd cc
some_is a b o (Some s) is h = let same : Some s ≡ o = cc in subst (AreCodes a b) same (is s refl)

both_of : (a b : Bool) → (a && b) ≡ true → (a ≡ true) × (b ≡ true)
both_of true true h = (refl, refl)
both_of true false h = absurd cc
both_of false b h = absurd cc

state_is : (a b : ℕ) (o : Option CallOutcome) → state_coded a b ≡ Some o → AreCodes a b o
state_is a b o h =
    picked (AreCodes a b) (nat_eq a 0 && nat_eq b 0) None o (option_map Some (outcome_coded a b))
    (λ e. let two = both_of (nat_eq a 0) (nat_eq b 0) e in (eqb-true a 0 two.0, eqb-true b 0 two.1))
    (some_is a b o (outcome_coded a b) (outcome_is a b)) h

state_told : (o : Option CallOutcome) → state_coded (state_codes o).0 (state_codes o).1 ≡ Some o
state_told None = refl
state_told (Some Done) = refl
state_told (Some BadText) = refl
state_told (Some (Refused Duplicate)) = refl
state_told (Some (Refused Missing)) = refl
state_told (Some (Refused NotNumber)) = refl
state_told (Some (Refused Overflow)) = refl

-- ---- what a value spells

-- a call that is spelled has this identifier, which is a key, and a text, and the value is its own
pub record IsSpelledBy (tid value : List ℕ) (call : OutboxCall) : Type 0 where
  pub same : call.tid ≡ tid
  pub is_value : value ≡ outbox_value call.outcome call.text
  pub key : is_key call.tid ≡ true
  pub text : is_text call.text ≡ true

spelled_with : (g : Bool) (tid text : List ℕ) (a b : ℕ) (s : Option (Option CallOutcome)) (call : OutboxCall)
    → (g ≡ true → (is_key tid ≡ true) × (is_text text ≡ true))
    → ((o : Option CallOutcome) → s ≡ Some o → AreCodes a b o) → cond g (option_map (call_with tid text) s) None ≡ Some call
    → IsSpelledBy tid (a ∷ b ∷ text) call
spelled_with true tid text a b (Some o) call good codes h =
    let same : call_with tid text o ≡ call = cc in
    let are = codes o refl in
    subst (IsSpelledBy tid (a ∷ b ∷ text)) same (record { same = refl; is_value = λ i. are.0 i ∷ are.1 i ∷ text; key = (good refl).0; text = (good refl).1 })
spelled_with true tid text a b None call good codes h = absurd cc
spelled_with false tid text a b s call good codes h = absurd cc

pub spelled_is : (tid value : List ℕ) (call : OutboxCall) → call_under tid value ≡ Some call → IsSpelledBy tid value call
spelled_is tid [] call h = absurd cc
spelled_is tid (a ∷ []) call h = absurd cc
spelled_is tid (a ∷ b ∷ text) call h = spelled_with (is_key tid && is_text text) tid text a b (state_coded a b) call (both_of (is_key tid) (is_text text))
    (state_is a b) h

pub spells : (tid text : List ℕ) (o : Option CallOutcome) → is_key tid ≡ true → is_text text ≡ true
    → call_under tid (outbox_value o text) ≡ Some (call_with tid text o)
spells tid text o key good =
    ap (λ b. cond (b && is_text text) (option_map (call_with tid text) (state_coded (state_codes o).0 (state_codes o).1)) None) key
    ∙ ap (λ b. cond b (option_map (call_with tid text) (state_coded (state_codes o).0 (state_codes o).1)) None) good
    ∙ ap (option_map (call_with tid text)) (state_told o)

pub key_long : (bytes : List ℕ) → is_key bytes ≡ true → 1 ≤ length bytes
key_long bytes h =
    let two = and_parts (list_all is_key_byte bytes && nat_le 1 (length bytes)) (nat_le (length bytes) 60) h in
    leb-true 1 (length bytes) (and_parts (list_all is_key_byte bytes) (nat_le 1 (length bytes)) two.0).1

-- ---- rows that spell calls

abbrev pub Spell : List Row → List OutboxCall → Type 0
Spell rows calls = map call_in rows ≡ map Some calls

first_is : {A : Type 0} (x y : A) (xs ys : List A) → x ∷ xs ≡ y ∷ ys → x ≡ y
first_is x y xs ys h = cc

rest_is : {A : Type 0} (x y : A) (xs ys : List A) → x ∷ xs ≡ y ∷ ys → xs ≡ ys
rest_is x y xs ys h = cc

pub spelled_calls : (rows : List Row) (calls : List OutboxCall) → Spell rows calls → filter_map call_in rows ≡ calls
spelled_calls [] [] h = refl
spelled_calls [] (c ∷ cs) h = absurd cc
spelled_calls (r ∷ rs) [] h = absurd cc
spelled_calls (r ∷ rs) (c ∷ cs) h =
    ap (λ o. cons_option o (filter_map call_in rs)) (first_is (call_in r) (Some c) _ _ h) ∙ ap (c ∷◌) (spelled_calls rs cs (rest_is (call_in r) (Some c) _ _ h))

pub spelled_good : (place : ℕ) (rows : List Row) (calls : List OutboxCall) → Spell rows calls → first_bad_from place rows ≡ None
spelled_good place [] calls h = refl
spelled_good place (r ∷ rs) [] h = absurd cc
spelled_good place (r ∷ rs) (c ∷ cs) h =
    ap (λ o. cond (is_some o) (first_bad_from (place + 1) rs) (Some place)) (first_is (call_in r) (Some c) _ _ h)
    ∙ spelled_good (place + 1) rs cs (rest_is (call_in r) (Some c) _ _ h)

pub calls_are : (rows : Rows) (calls : List OutboxCall) → AreCallsOf rows calls → outbox_calls rows ≡ calls
calls_are rows calls h = spelled_calls (rows_in rows 0) calls h

pub none_bad : (rows : Rows) (calls : List OutboxCall) → AreCallsOf rows calls → first_bad rows ≡ None
none_bad rows calls h = spelled_good 1 (rows_in rows 0) calls h

-- the key of a call behind others is above what they rise from
rises_to : (low : List ℕ) (rows : List Row) (before after : List OutboxCall) (c : OutboxCall) → RiseFrom low rows → Spell rows (before ++ c ∷ after)
    → is_below low c.tid ≡ true
rises_to low [] [] after c rise h = absurd cc
rises_to low [] (b ∷ bs) after c rise h = absurd cc
rises_to low (r ∷ rs) [] after c rise h =
    let is = spelled_is r.key r.value c (first_is (call_in r) (Some c) _ _ h) in
    ap (is_below low) is.same ∙ rise.0
rises_to low (r ∷ rs) (b ∷ bs) after c rise h = below_trans low r.key c.tid rise.0 (rises_to r.key rs bs after c rise.1 (rest_is (call_in r) (Some b) _ _ h))

-- the call is found under its identifier, with its value
found_value : (low : List ℕ) (rows : List Row) (before after : List OutboxCall) (c : OutboxCall) → RiseFrom low rows → Spell rows (before ++ c ∷ after)
    → found c.tid rows ≡ Some (outbox_value c.outcome c.text)
found_value low [] [] after c rise h = absurd cc
found_value low [] (b ∷ bs) after c rise h = absurd cc
found_value low (r ∷ rs) [] after c rise h =
    let is = spelled_is r.key r.value c (first_is (call_in r) (Some c) _ _ h) in
    ap (λ b. cond b (Some r.value) (found c.tid rs)) (ap (λ k. bytes_eq k c.tid) (sym is.same) ∙ same_key c.tid) ∙ ap Some is.is_value
found_value low (r ∷ rs) (b ∷ bs) after c rise h =
    let rest = rest_is (call_in r) (Some b) _ _ h in
    ap (λ x. cond x (Some r.value) (found c.tid rs)) (other_key r.key c.tid (rises_to r.key rs bs after c rise.1 rest))
    ∙ found_value r.key rs bs after c rise.1 rest

key_of : (rows : List Row) (before after : List OutboxCall) (c : OutboxCall) → Spell rows (before ++ c ∷ after)
    → (is_key c.tid ≡ true) × (is_text c.text ≡ true)
key_of [] [] after c h = absurd cc
key_of [] (b ∷ bs) after c h = absurd cc
key_of (r ∷ rs) [] after c h =
    let is = spelled_is r.key r.value c (first_is (call_in r) (Some c) _ _ h) in
    (is.key, is.text)
key_of (r ∷ rs) (b ∷ bs) after c h = key_of rs bs after c (rest_is (call_in r) (Some b) _ _ h)

pub value_of_call : (rows : Rows) (before after : List OutboxCall) (c : OutboxCall) → AreCallsOf rows (before ++ c ∷ after)
    → value_at rows 0 c.tid ≡ Some (outbox_value c.outcome c.text)
value_of_call rows before after c h =
    value_found rows c.tid (key_long c.tid (key_of (rows_in rows 0) before after c h).0) ∙ found_value [] (rows_in rows 0) before after c (rows_rise rows) h

pub spelled_as : (rows : Rows) (before after : List OutboxCall) (c : OutboxCall) → AreCallsOf rows (before ++ c ∷ after)
    → call_under c.tid (outbox_value c.outcome c.text) ≡ Some (call_with c.tid c.text c.outcome)
spelled_as rows before after c h = let good = key_of (rows_in rows 0) before after c h in spells c.tid c.text c.outcome good.0 good.1

-- a call that is stored anew stands in its place
put_spelled : (low value : List ℕ) (rows : List Row) (before after : List OutboxCall) (c new : OutboxCall) → RiseFrom low rows
    → Spell rows (before ++ c ∷ after)
    → call_under c.tid value ≡ Some new → Spell (put_row c.tid value rows) (before ++ new ∷ after)
put_spelled low value [] [] after c new rise h is = absurd cc
put_spelled low value [] (b ∷ bs) after c new rise h is = absurd cc
put_spelled low value (r ∷ rs) [] after c new rise h is =
    let same = (spelled_is r.key r.value c (first_is (call_in r) (Some c) _ _ h)).same in
    ap (λ o. map call_in (by_order o (row_with c.tid value ∷ r ∷ rs) (row_with r.key value ∷ rs) (r ∷ put_row c.tid value rs)))
    (ap (slice_cmp nat_cmp c.tid) (sym same) ∙ tied c.tid)
    ∙ ap (λ o. o ∷ map call_in rs) (ap (λ k. call_under k value) (sym same) ∙ is)
    ∙ ap (Some new ∷◌) (rest_is (call_in r) (Some c) _ _ h)
put_spelled low value (r ∷ rs) (b ∷ bs) after c new rise h is =
    let rest = rest_is (call_in r) (Some b) _ _ h in
    ap (λ o. map call_in (by_order o (row_with c.tid value ∷ r ∷ rs) (row_with r.key value ∷ rs) (r ∷ put_row c.tid value rs)))
    (above_is r.key c.tid (rises_to r.key rs bs after c rise.1 rest))
    ∙ ap (λ o. o ∷ map call_in (put_row c.tid value rs)) (first_is (call_in r) (Some b) _ _ h)
    ∙ ap (Some b ∷◌) (put_spelled r.key value rs bs after c new rise.1 rest is)

pub stored_among : (rows : Rows) (before after : List OutboxCall) (c : OutboxCall) (o : Option CallOutcome) → AreCallsOf rows (before ++ c ∷ after)
    → AreCallsOf (with_call c.tid c.text o rows) (before ++ call_with c.tid c.text o ∷ after)
stored_among rows before after c o h =
    let good = key_of (rows_in rows 0) before after c h in
    ap (map call_in) (rows_put rows c.tid (outbox_value o c.text) (key_long c.tid good.0))
    ∙ put_spelled [] (outbox_value o c.text) (rows_in rows 0) before after c (call_with c.tid c.text o) (rows_rise rows) h (spells c.tid c.text o good.0 good.1)

-- ---- rows in the grammar stay so

good_first : (o : Option OutboxCall) (rest : Option ℕ) (place : ℕ) → cond (is_some o) rest (Some place) ≡ None → (is_some o ≡ true) × (rest ≡ None)
good_first (Some c) rest place h = (refl, h)
good_first None rest place h = absurd cc

good_anywhere : (place other : ℕ) (rows : List Row) → first_bad_from place rows ≡ None → first_bad_from other rows ≡ None
good_anywhere place other [] h = refl
good_anywhere place other (r ∷ rs) h =
    let good = good_first (call_in r) (first_bad_from (place + 1) rs) place h in
    ap (λ b. cond b (first_bad_from (other + 1) rs) (Some other)) good.0 ∙ good_anywhere (place + 1) (other + 1) rs good.1

put_good : (place : ℕ) (key value : List ℕ) (rows : List Row) → is_some (call_under key value) ≡ true → first_bad_from place rows ≡ None
    → first_bad_from place (put_row key value rows) ≡ None
put_good place key value [] is h = ap (λ b. cond b None (Some place)) is
put_good place key value (r ∷ rs) is h =
    let good = good_first (call_in r) (first_bad_from (place + 1) rs) place h in
    elim (slice_cmp nat_cmp key r.key) as (λ o. slice_cmp nat_cmp key r.key ≡ o
    → first_bad_from place (by_order o (row_with key value ∷ r ∷ rs) (row_with r.key value ∷ rs) (r ∷ put_row key value rs)) ≡ None) [
      | Less ↦ λ at. ap (λ b. cond b (first_bad_from (place + 1) (r ∷ rs)) (Some place)) is ∙ good_anywhere place (place + 1) (r ∷ rs) h
      | Equal ↦ λ at.
          let same : key ≡ r.key = slice_cmp-IsAntisymmetric nat_cmp-IsAntisymmetric key r.key at in
          ap (λ b. cond b (first_bad_from (place + 1) rs) (Some place)) (ap (λ k. is_some (call_under k value)) (sym same) ∙ is) ∙ good.1
      | Greater ↦ λ at. ap (λ b. cond b (first_bad_from (place + 1) (put_row key value rs)) (Some place)) good.0 ∙ put_good (place + 1) key value rs is good.1
    ] refl

pub stays_good : (rows : Rows) (tid text : List ℕ) (o : Option CallOutcome) → is_key tid ≡ true → is_text text ≡ true → first_bad rows ≡ None
    → first_bad (with_call tid text o rows) ≡ None
stays_good rows tid text o key good h =
    ap (first_bad_from 1) (rows_put rows tid (outbox_value o text) (key_long tid key))
    ∙ put_good 1 tid (outbox_value o text) (rows_in rows 0) (ap is_some (spells tid text o key good)) h
