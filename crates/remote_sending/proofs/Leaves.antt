-- What a keeper may leave, and what it holds.
use Rattle.std.proofs.Common.{◌≡◌, ℕ, inl, inr, ⊎_elim, Bool, true, false, cond, List, [], ◌∷◌, ◌++◌, is_some, Option, Some, None, option_map, IfSome, Contains}
use Rattle.std.proofs.Common.{Result, Ok, Err, OnOk, length, take, zero, suc, ◌+◌, ◌<◌, ◌≤◌, get_or, refl, sym, ap, subst, ◌∙◌, arith}
use Rattle.std.proofs.lemmas.List.Elements.{Contains-push_cases}
use Rattle.std.proofs.lemmas.List.{take_more}
use Rattle.std.specs.Ordering.{eq_by_cmp}
use Rattle.std.specs.FinMap.{get-insert}
use Rattle.std.specs.Cmp.{eq_by_cmp_equiv}
use Rattle.enq_base.specs.Grammar.{is_key, is_text}
use Rattle.keeper_api.specs.Keeping.{HasFaultCause, IsBeforeOrAfter, IsOnly, IsWithin}
use Rattle.keeper_api.specs.declared.fault.KeepFault.{KeepFault}
use Rattle.keeper_api.specs.Rows.{Rows, Spot, spot_cmp, value_at}
use Rattle.keeper_api.specs.RowLaws.{spots_total}
use Rattle.remote_target.specs.Runs.{Execution}
use Rattle.remote_target.specs.declared.call.CallOutcome.{CallOutcome}
use Rattle.remote_sending.specs.declared.outbox.OutboxCall.{OutboxCall}
use Rattle.remote_sending.specs.Outbox.{first_bad, outbox_value, with_call}
use Rattle.remote_sending.specs.Growing.{AllStand, IsAsked, IsGrown, IsWith, WasExecuted, asked}
use Rattle.remote_sending.proofs.Grown.{with_grown}
use Rattle.remote_sending.proofs.Spelled.{stays_good}

-- ---- a call is stored

stored_row : (rows : Rows) (tid text : List ℕ) (o : Option CallOutcome) → value_at (with_call tid text o rows) 0 tid ≡ Some (outbox_value o text)
stored_row rows tid text o =
    get-insert spots_total rows (0, tid) (outbox_value o text) (0, tid)
    ∙ ap (λ b. cond b (Some (outbox_value o text)) (value_at rows 0 tid)) ((eq_by_cmp_equiv spots_total).refl (0, tid))

pub kept_with : (held : Option Rows) (old mid : Rows → Type 0) (call : OutboxCall) → IfSome held (λ rows. IsOnly rows old) → IsWithin mid old
    → IfSome held (λ rows. (left : Rows) → mid left → IsWith call rows left)
kept_with None old mid call only within = tt
kept_with (Some rows) old mid call only within = λ left h. inl (only.alone left (within left h))

with_one : (rows left : Rows) (call : OutboxCall) → value_at rows 0 call.tid ≡ None → IsBeforeOrAfter rows (with_call call.tid call.text None rows) left
    → IsWith call rows left
with_one rows left call none h = ⊎_elim (λ before. inl before) (λ after. inr (none, after)) h

as_none : (v : Option (List ℕ)) (there : Bool) → there ≡ is_some v → there ≡ false → v ≡ None
as_none None there is off = refl
as_none (Some x) there is off = absurd (apart (sym is ∙ off))
  where
    apart : true ≡ false → ⊥
    apart h = cc

pub stored_with : (held mid : Option Rows) (may : Rows → Type 0) (call : OutboxCall) (there : Bool) → mid ≡ held → there ≡ false
    → IfSome held (λ rows. there ≡ is_some (value_at rows 0 call.tid))
    → IfSome mid (λ rows. (left : Rows) → may left → IsBeforeOrAfter rows (with_call call.tid call.text None rows) left)
    → IfSome held (λ rows. (left : Rows) → may left → IsWith call rows left)
stored_with None mid may call there same off found each = tt
stored_with (Some rows) mid may call there same off found each = λ left h.
    with_one rows left call (as_none (value_at rows 0 call.tid) there found off)
    (subst (λ (m : Option Rows). IfSome m (λ rows. (left : Rows) → may left → IsBeforeOrAfter rows (with_call call.tid call.text None rows) left)) same
    each left h)

pub here_stands : (held mid : Option Rows) (tid : List ℕ) (there : Bool) → mid ≡ held → there ≡ true
    → IfSome held (λ rows. there ≡ is_some (value_at rows 0 tid))
    → IfSome mid (λ rows. is_some (value_at rows 0 tid) ≡ true)
here_stands held mid tid there same on found =
    subst (λ (m : Option Rows). IfSome m (λ rows. is_some (value_at rows 0 tid) ≡ true)) (sym same) (of_held held tid there on found)
  where
    of_held : (held : Option Rows) (tid : List ℕ) (there : Bool) → there ≡ true → IfSome held (λ rows. there ≡ is_some (value_at rows 0 tid))
        → IfSome held (λ rows. is_some (value_at rows 0 tid) ≡ true)
    of_held None tid there on found = tt
    of_held (Some rows) tid there on found = sym found ∙ on

pub stored_stands : (mid new : Option Rows) (tid text : List ℕ) → new ≡ option_map (with_call tid text None) mid
    → IfSome new (λ rows. is_some (value_at rows 0 tid) ≡ true)
stored_stands mid new tid text is = subst (λ (m : Option Rows). IfSome m (λ rows. is_some (value_at rows 0 tid) ≡ true)) (sym is) (there mid tid text)
  where
    there : (mid : Option Rows) (tid text : List ℕ) → IfSome (option_map (with_call tid text None) mid) (λ rows. is_some (value_at rows 0 tid) ≡ true)
    there None tid text = tt
    there (Some rows) tid text = ap is_some (stored_row rows tid text None)

pub kept_good : (held mid : Option Rows) → mid ≡ held → IfSome held (λ rows. first_bad rows ≡ None) → IfSome mid (λ rows. first_bad rows ≡ None)
kept_good held mid same good = subst (λ (m : Option Rows). IfSome m (λ rows. first_bad rows ≡ None)) (sym same) good

pub stored_good : (held mid new : Option Rows) (tid text : List ℕ) → mid ≡ held → new ≡ option_map (with_call tid text None) mid → is_key tid ≡ true
    → is_text text ≡ true
    → IfSome held (λ rows. first_bad rows ≡ None) → IfSome new (λ rows. first_bad rows ≡ None)
stored_good held mid new tid text same is key spelled good =
    subst (λ (m : Option Rows). IfSome m (λ rows. first_bad rows ≡ None)) (sym (is ∙ ap (option_map (with_call tid text None)) same))
    (there held tid text key spelled good)
  where
    there : (held : Option Rows) (tid text : List ℕ) → is_key tid ≡ true → is_text text ≡ true → IfSome held (λ rows. first_bad rows ≡ None)
        → IfSome (option_map (with_call tid text None) held) (λ rows. first_bad rows ≡ None)
    there None tid text key spelled good = tt
    there (Some rows) tid text key spelled good = stays_good rows tid text None key spelled good

pub ok_stands : (r : Result Unit KeepFault) (mid new : Option Rows) (tid text : List ℕ) → OnOk r (new ≡ option_map (with_call tid text None) mid)
    → OnOk r (IfSome new (λ rows. is_some (value_at rows 0 tid) ≡ true))
ok_stands (Ok u) mid new tid text is = stored_stands mid new tid text is
ok_stands (Err e) mid new tid text is = tt

pub ok_good : (r : Result Unit KeepFault) (held mid new : Option Rows) (tid text : List ℕ) → mid ≡ held
    → OnOk r (new ≡ option_map (with_call tid text None) mid)
    → is_key tid ≡ true → is_text text ≡ true
    → OnOk r (IfSome held (λ rows. first_bad rows ≡ None) → IfSome new (λ rows. first_bad rows ≡ None))
ok_good (Ok u) held mid new tid text same is key spelled = λ good. stored_good held mid new tid text same is key spelled good
ok_good (Err e) held mid new tid text same is key spelled = tt

pub cause_from : (r : Result Unit KeepFault) (first before now : ℕ) → before ≡ first → HasFaultCause before now r → HasFaultCause first now r
cause_from r first before now same h = subst (λ n. HasFaultCause n now r) same h

-- ---- calls are collected one by one

pub told_contains : (told : Option (List OutboxCall)) (calls : List OutboxCall) (call : OutboxCall) → IfSome told (λ t. t ≡ calls) → Contains calls call
    → IfSome told (λ t. Contains t call)
told_contains None calls call same at = tt
told_contains (Some t) calls call same at = subst (λ xs. Contains xs call) (sym same) at

abbrev pub Leaves : OutboxCall → Option Rows → (Rows → Type 0) → Type 0
Leaves call held may = IfSome held (λ rows. (left : Rows) → may left → IsWith call rows left)

pub grown_step : (told : Option (List OutboxCall)) (runs : Option (List Execution)) (found : Rows) (call : OutboxCall) (held new : Option Rows)
    (may : Rows → Type 0) → is_some new ≡ is_some held
    → Leaves call held may → IfSome new may → IfSome told (λ t. Contains t call) → IfSome held (IsGrown told runs found) → IfSome new (IsGrown told runs found)
grown_step told runs found call held None may same each there at grown = tt
grown_step told runs found call None (Some e) may same each there at grown = absurd cc
grown_step told runs found call (Some rows) (Some e) may same each there at grown = with_grown told runs found rows e call at grown (each e there)

pub grown_left : (told : Option (List OutboxCall)) (runs : Option (List Execution)) (found : Rows) (call : OutboxCall) (first held : Option Rows)
    (may : Rows → Type 0) (left : Rows)
    → is_some held ≡ is_some first → Leaves call held may → IfSome told (λ t. Contains t call) → IfSome held (IsGrown told runs found)
    → IfSome first (λ _. may left → IsGrown told runs found left)
grown_left told runs found call None held may left same each at grown = tt
grown_left told runs found call (Some first) None may left same each at grown = absurd cc
grown_left told runs found call (Some first) (Some rows) may left same each at grown = λ h. with_grown told runs found rows left call at grown (each left h)

pub grown_end : (told : Option (List OutboxCall)) (runs : Option (List Execution)) (found : Rows) (first held : Option Rows) (may : Rows → Type 0) (left : Rows)
    → is_some held ≡ is_some first → IfSome held (λ rows. IsOnly rows may) → IfSome held (IsGrown told runs found)
    → IfSome first (λ _. may left → IsGrown told runs found left)
grown_end told runs found None held may left same only grown = tt
grown_end told runs found (Some first) None may left same only grown = absurd cc
grown_end told runs found (Some first) (Some rows) may left same only grown = λ h. subst (IsGrown told runs found) (sym (only.alone left h)) grown

stands_put : (b : Bool) (value : List ℕ) (o : Option (List ℕ)) → is_some o ≡ true → is_some (cond b (Some value) o) ≡ true
stands_put true value o h = refl
stands_put false value o h = h

stands_with : (call : OutboxCall) (rows left : Rows) (tid : List ℕ) → IsWith call rows left → is_some (value_at rows 0 tid) ≡ true
    → is_some (value_at left 0 tid) ≡ true
stands_with call rows left tid h stands =
    ⊎_elim (λ same. subst (λ r. is_some (value_at r 0 tid) ≡ true) (sym same) stands)
    (λ put. subst (λ r. is_some (value_at r 0 tid) ≡ true) (sym put.1)
    (ap is_some (get-insert spots_total rows (0, call.tid) (outbox_value None call.text) (0, tid))
    ∙ stands_put (eq_by_cmp spot_cmp (0, tid) (0, call.tid)) (outbox_value None call.text) (value_at rows 0 tid) stands))
    h

stand_more : (front : List OutboxCall) (call : OutboxCall) (rows left : Rows) → IsWith call rows left → AllStand front rows
    → is_some (value_at left 0 call.tid) ≡ true → AllStand (front ++ call ∷ []) left
stand_more front call rows left h all one x at =
    ⊎_elim (λ old. stands_with call rows left x.tid h (all x old)) (λ is. subst (λ (y : OutboxCall). is_some (value_at left 0 y.tid) ≡ true) is one)
    (Contains-push_cases front call x at)

pub stand_step : (front : List OutboxCall) (call : OutboxCall) (held new : Option Rows) (may : Rows → Type 0) → is_some new ≡ is_some held
    → Leaves call held may → IfSome new may
    → IfSome new (λ rows. is_some (value_at rows 0 call.tid) ≡ true) → IfSome held (AllStand front) → IfSome new (AllStand (front ++ call ∷ []))
stand_step front call held None may same each there one all = tt
stand_step front call None (Some e) may same each there one all = absurd cc
stand_step front call (Some rows) (Some e) may same each there one all = stand_more front call rows e (each e there) all one

pub none_stand : (held : Option Rows) → IfSome held (AllStand [])
none_stand None = tt
none_stand (Some rows) = λ call at. let low = at.1 in absurd (omega arith)

all_taken : (calls : List OutboxCall) (i : ℕ) → length calls ≤ i → take i calls ≡ calls
all_taken [] zero h = refl
all_taken [] (suc i) h = refl
all_taken (c ∷ cs) zero h = absurd (omega (arith, h))
all_taken (c ∷ cs) (suc i) h = ap (c ∷◌) (all_taken cs i (omega (arith, h)))

pub all_stand_at : (calls : List OutboxCall) (i : ℕ) (held : Option Rows) → length calls ≤ i → IfSome held (AllStand (take i calls))
    → IfSome held (AllStand calls)
all_stand_at calls i held past h = subst (λ cs. IfSome held (AllStand cs)) (all_taken calls i past) h

pub stand_next : (calls : List OutboxCall) (i : ℕ) (call : OutboxCall) (held : Option Rows) → i < length calls → call ≡ get_or calls i call
    → IfSome held (AllStand (take i calls ++ call ∷ [])) → IfSome held (AllStand (take (i + 1) calls))
stand_next calls i call held low is h =
    subst (λ cs. IfSome held (AllStand cs)) (sym (take_more calls i call low ∙ ap (λ c. take i calls ++ c ∷ []) (sym is))) h

pub contains_item : (calls : List OutboxCall) (i : ℕ) (call : OutboxCall) → i < length calls → call ≡ get_or calls i call → Contains calls call
contains_item calls i call low is = (i, low, sym is)
