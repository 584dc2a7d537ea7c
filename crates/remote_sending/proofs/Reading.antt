-- Rows read one by one.
use Rattle.std.proofs.Common.{◌≡◌, ℕ, zero, suc, ◌+◌, ◌<◌, ◌≤◌, Bool, true, false, cond, List, [], ◌∷◌, ◌++◌, drop, take, get_or, length, filter_map, map}
use Rattle.std.proofs.Common.{is_some, Option, Some, None, option_map, IfSome, refl, sym, ap, subst, ◌∙◌, append-nil, arith}
use Rattle.std.specs.List.{cons_option}
use Rattle.std.proofs.lemmas.List.{at_drop_all, at_drop_more, take_more}
use Rattle.std.proofs.lemmas.List.Elements.{filter_map-append}
use Rattle.keeper_api.specs.declared.rows.Row.{Row}
use Rattle.keeper_api.specs.Rows.{Rows}
use Rattle.table_reading.specs.Tables.{rows_in}
use Rattle.remote_sending.specs.declared.outbox.OutboxCall.{OutboxCall}
use Rattle.remote_sending.specs.Outbox.{call_in, first_bad, first_bad_from, system_call, system_calls}
use Rattle.remote_sending.specs.Growing.{AreCallsOf}
use Rattle.remote_sending.proofs.Spelled.{Spell}

map_more : {X Y : Type 0} (f : X → Y) (xs ys : List X) → map f (xs ++ ys) ≡ map f xs ++ map f ys
map_more f [] ys = refl
map_more f (x ∷ xs) ys = ap (f x ∷◌) (map_more f xs ys)

front_is : (rows : List Row) (i : ℕ) (row : Row) → i < length rows → row ≡ get_or rows i row → take (i + 1) rows ≡ take i rows ++ row ∷ []
front_is rows i row low is = take_more rows i row low ∙ ap (λ r. take i rows ++ r ∷ []) (sym is)

rest_is : (rows : List Row) (i : ℕ) (row : Row) → i < length rows → row ≡ get_or rows i row → drop i rows ≡ row ∷ drop (i + 1) rows
rest_is rows i row low is = at_drop_more (λ xs. xs) rows i row low ∙ ap (λ r. r ∷ drop (i + 1) rows) (sym is)

-- the rows so far spell these calls, and no row so far is bad
pub record ReadSoFar (rows : List Row) (i : ℕ) (calls : List OutboxCall) : Type 0 where
  pub spelled : Spell (take i rows) calls
  pub bad : first_bad_from 1 rows ≡ first_bad_from (i + 1) (drop i rows)

pub none_read : (rows : List Row) → ReadSoFar rows 0 []
none_read rows = record { spelled = refl; bad = refl }

pub one_more_read : (rows : List Row) (i : ℕ) (row : Row) (calls : List OutboxCall) (call : OutboxCall) → i < length rows → row ≡ get_or rows i row
    → Some call ≡ call_in row → ReadSoFar rows i calls
    → ReadSoFar rows (i + 1) (calls ++ call ∷ [])
one_more_read rows i row calls call low is spells s = record {
  spelled =
      ap (map call_in) (front_is rows i row low is)
      ∙ map_more call_in (take i rows) (row ∷ [])
      ∙ ap (λ xs. xs ++ call_in row ∷ []) s.spelled
      ∙ ap (λ o. map Some calls ++ o ∷ []) (sym spells)
      ∙ sym (map_more Some calls (call ∷ []));
  bad = s.bad ∙ ap (first_bad_from (i + 1)) (rest_is rows i row low is)
      ∙ ap (λ o. cond (is_some o) (first_bad_from (i + 1 + 1) (drop (i + 1) rows)) (Some (i + 1))) (sym spells);
}

pub bad_read : (rows : List Row) (i : ℕ) (row : Row) (calls : List OutboxCall) → i < length rows → row ≡ get_or rows i row → None ≡ call_in row
    → ReadSoFar rows i calls
    → first_bad_from 1 rows ≡ Some (i + 1)
bad_read rows i row calls low is spells s =
    s.bad ∙ ap (first_bad_from (i + 1)) (rest_is rows i row low is)
    ∙ ap (λ o. cond (is_some o) (first_bad_from (i + 1 + 1) (drop (i + 1) rows)) (Some (i + 1))) (sym spells)

all_taken : (rows : List Row) (i : ℕ) → length rows ≤ i → take i rows ≡ rows
all_taken [] zero h = refl
all_taken [] (suc i) h = refl
all_taken (r ∷ rs) zero h = absurd (omega (arith, h))
all_taken (r ∷ rs) (suc i) h = ap (r ∷◌) (all_taken rs i (omega (arith, h)))

pub all_read : (rows : List Row) (i : ℕ) (calls : List OutboxCall) → length rows ≤ i → ReadSoFar rows i calls → Spell rows calls
all_read rows i calls past s = sym (ap (map call_in) (all_taken rows i past)) ∙ s.spelled

-- ---- the calls of the sending system

pub one_more_call : (rows : List Row) (i : ℕ) (row : Row) (calls : List OutboxCall) (o : Option OutboxCall) → i < length rows → row ≡ get_or rows i row
    → o ≡ system_call row
    → calls ≡ filter_map system_call (take i rows) → calls ++ cons_option o [] ≡ filter_map system_call (take (i + 1) rows)
one_more_call rows i row calls o low is found s =
    ap (λ xs. xs ++ cons_option o []) s
    ∙ ap (λ p. filter_map system_call (take i rows) ++ cons_option p []) found
    ∙ sym (filter_map-append system_call (take i rows) (row ∷ []))
    ∙ ap (filter_map system_call) (sym (front_is rows i row low is))

pub none_pushed : (items : List OutboxCall) (o : Option OutboxCall) → o ≡ None → items ≡ items ++ cons_option o []
none_pushed items o is = subst (λ p. items ≡ items ++ cons_option p []) (sym is) (sym (append-nil items))

pub all_calls : (rows : List Row) (i : ℕ) (calls : List OutboxCall) → length rows ≤ i → calls ≡ filter_map system_call (take i rows)
    → calls ≡ filter_map system_call rows
all_calls rows i calls past s = s ∙ ap (filter_map system_call) (all_taken rows i past)

-- ---- over what a keeper holds

pub calls_read : (held : Option Rows) (rows slice : List Row) (calls : List OutboxCall) → slice ≡ rows → IfSome held (λ h. rows ≡ rows_in h 0)
    → Spell slice calls → IfSome held (λ h. AreCallsOf h calls)
calls_read None rows slice calls same all spelled = tt
calls_read (Some h) rows slice calls same all spelled = subst (λ rs. Spell rs calls) (same ∙ all) spelled

pub bad_read_at : (held : Option Rows) (rows slice : List Row) (n : ℕ) → slice ≡ rows → IfSome held (λ h. rows ≡ rows_in h 0)
    → first_bad_from 1 slice ≡ Some n → IfSome held (λ h. first_bad h ≡ Some n)
bad_read_at None rows slice n same all bad = tt
bad_read_at (Some h) rows slice n same all bad = subst (λ rs. first_bad_from 1 rs ≡ Some n) (same ∙ all) bad

pub system_read : (held mid : Option Rows) (rows slice : List Row) (calls : List OutboxCall) → mid ≡ held → slice ≡ rows
    → IfSome held (λ h. rows ≡ rows_in h 6) → calls ≡ filter_map system_call slice
    → IfSome mid (λ h. calls ≡ system_calls h)
system_read held mid rows slice calls kept same all is = subst (λ (m : Option Rows). IfSome m (λ h. calls ≡ system_calls h)) (sym kept)
    (of_held held rows slice calls same all is)
  where
    of_held : (held : Option Rows) (rows slice : List Row) (calls : List OutboxCall) → slice ≡ rows → IfSome held (λ h. rows ≡ rows_in h 6)
        → calls ≡ filter_map system_call slice
        → IfSome held (λ h. calls ≡ system_calls h)
    of_held None rows slice calls same all is = tt
    of_held (Some h) rows slice calls same all is = is ∙ ap (filter_map system_call) (same ∙ all)
