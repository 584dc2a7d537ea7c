-- How the rows of an outbox grow.
use Rattle.std.proofs.Common.{◌≡◌, ℕ, ◌⊎◌, inl, inr, ⊎_elim, Bool, true, false, cond, List, [], ◌∷◌, ◌++◌, map, is_none, is_some, Option, Some, None, IfSome}
use Rattle.std.proofs.Common.{Contains, refl, sym, ap, subst, append_assoc, ◌∙◌}
use Rattle.std.specs.List.{AllByRecursion}
use Rattle.std.specs.Str.{bytes_eq}
use Rattle.std.specs.Ordering.{eq_by_cmp}
use Rattle.std.specs.FinMap.{get, get-insert}
use Rattle.enq_base.specs.Number.{◌>>=◌}
use Rattle.keeper_api.specs.Rows.{Rows, Spot, spot_cmp, value_at}
use Rattle.keeper_api.specs.RowLaws.{same_spot, spots_total}
use Rattle.remote_target.specs.Runs.{Execution, executed_as}
use Rattle.remote_target.specs.declared.call.CallOutcome.{CallOutcome}
use Rattle.remote_target.specs.declared.call.CallOutcome.TheVariants.{Done, BadText, Refused}
use Rattle.remote_sending.specs.declared.outbox.OutboxCall.{OutboxCall}
use Rattle.remote_sending.specs.Outbox.{call_under, call_with, outbox_value, outcome_at, with_call}
use Rattle.remote_sending.specs.Growing.{AllStand, AreCallsOf, AreOpenBefore, IsAsked, IsGrown, IsGrownRow, IsOfCall, IsSettled, IsUnderWay, IsWith, WasExecuted, asked}
use Rattle.remote_sending.specs.Sends.{GoesOn}
use Rattle.remote_sending.proofs.Spelled.{spelled_as, value_of_call}

-- ---- what was executed

pushed_in : (b : Bool) (o p : CallOutcome) (rest more : Option CallOutcome) → (rest ≡ Some o → more ≡ Some o) → cond b (Some p) rest ≡ Some o
    → cond b (Some p) more ≡ Some o
pushed_in true o p rest more go h = h
pushed_in false o p rest more go h = go h

-- what was executed stays executed with its outcome
as_more : (tid : List ℕ) (o : CallOutcome) (xs ys : List Execution) → executed_as tid xs ≡ Some o → executed_as tid (xs ++ ys) ≡ Some o
as_more tid o [] ys h = cc
as_more tid o (x ∷ xs) ys h = pushed_in (bytes_eq x.tid tid) o x.outcome (executed_as tid xs) (executed_as tid (xs ++ ys)) (as_more tid o xs ys) h

abbrev pub StaysExecuted : Option (List Execution) → Option (List Execution) → Type 0
StaysExecuted before now = (tid : List ℕ) (o : CallOutcome) → WasExecuted before tid o → WasExecuted now tid o

pub goes_on : (before now : Option (List Execution)) → GoesOn before now → StaysExecuted before now
goes_on None None h tid o was = tt
goes_on None (Some ys) h tid o was = absurd h
goes_on (Some xs) None h tid o was = absurd h
goes_on (Some xs) (Some ys) h tid o was = subst (λ zs. executed_as tid zs ≡ Some o) h.1 (as_more tid o xs h.0 was)

-- nothing was executed yet
pub from_none : (now : Option (List Execution)) → StaysExecuted (Some []) now
from_none now tid o was = absurd cc

-- ---- a row

pub same_row : (told : Option (List OutboxCall)) (runs : Option (List Execution)) (spot : Spot) (row : Option (List ℕ)) → IsGrownRow told runs spot row row
same_row told runs spot None = tt
same_row told runs spot (Some value) = inl refl

pub grown_itself : (told : Option (List OutboxCall)) (runs : Option (List Execution)) (rows : Rows) → IsGrown told runs rows rows
grown_itself told runs rows spot = same_row told runs spot (get rows spot)

more_if : (before now : Option (List Execution)) (tid : List ℕ) (o : Option CallOutcome) → StaysExecuted before now → IfSome o (WasExecuted before tid)
    → IfSome o (WasExecuted now tid)
more_if before now tid None stays h = tt
more_if before now tid (Some o) stays h = stays tid o h

row_more : (told : Option (List OutboxCall)) (before now : Option (List Execution)) (spot : Spot) (a b : Option (List ℕ)) → StaysExecuted before now
    → IsGrownRow told before spot a b → IsGrownRow told now spot a b
row_more told before now spot None None stays h = tt
row_more told before now spot None (Some b) stays h =
    record {
      call = h.call;
      outcome = h.outcome;
      stands = h.stands;
      place = h.place;
      is = h.is;
      executed =
          more_if before now h.call.tid h.outcome stays h.executed;
    }
row_more told before now spot (Some a) None stays h = absurd h
row_more told before now spot (Some a) (Some b) stays h =
    ⊎_elim (λ same. inl same)
    (λ (s : IsSettled before spot a b). inr
    (record { text = s.text; outcome = s.outcome; table = s.table; was = s.was; now = s.now; executed = stays spot.1 s.outcome s.executed })) h

pub grown_more : (told : Option (List OutboxCall)) (before now : Option (List Execution)) (found left : Rows) → StaysExecuted before now
    → IsGrown told before found left → IsGrown told now found left
grown_more told before now found left stays h spot = row_more told before now spot (get found spot) (get left spot) stays (h spot)

-- ---- a call stored open

fresh_row : (told : Option (List OutboxCall)) (runs : Option (List Execution)) (spot : Spot) (a b : Option (List ℕ)) (call : OutboxCall)
    → IfSome told (λ calls. Contains calls call) → spot ≡ (0, call.tid)
    → b ≡ None → IsGrownRow told runs spot a b → IsGrownRow told runs spot a (Some (outbox_value None call.text))
fresh_row told runs spot None None call stands place none h = record { call = call; outcome = None; stands = stands; place = place; is = refl; executed = tt }
fresh_row told runs spot None (Some b) call stands place none h = absurd cc
fresh_row told runs spot (Some a) None call stands place none h = absurd h
fresh_row told runs spot (Some a) (Some b) call stands place none h = absurd cc

put_row_of : (hit : Bool) (told : Option (List OutboxCall)) (runs : Option (List Execution)) (spot : Spot) (a b : Option (List ℕ)) (value : List ℕ)
    → (hit ≡ true → IsGrownRow told runs spot a (Some value)) → IsGrownRow told runs spot a b → IsGrownRow told runs spot a (cond hit (Some value) b)
put_row_of true told runs spot a b value at h = at refl
put_row_of false told runs spot a b value at h = h

-- rows with one put have grown where the row that is put has
put_grown : (told : Option (List OutboxCall)) (runs : Option (List Execution)) (found rows : Rows) (call : OutboxCall) (o : Option CallOutcome)
    → IsGrown told runs found rows
    → ((spot : Spot) → spot ≡ (0, call.tid) → IsGrownRow told runs spot (get found spot) (Some (outbox_value o call.text)))
    → IsGrown told runs found (with_call call.tid call.text o rows)
put_grown told runs found rows call o grown at spot =
    subst (IsGrownRow told runs spot (get found spot)) (sym (get-insert spots_total rows (0, call.tid) (outbox_value o call.text) spot))
    (put_row_of (eq_by_cmp spot_cmp spot (0, call.tid)) told runs spot (get found spot) (get rows spot) (outbox_value o call.text)
    (λ hit. at spot (same_spot spot (0, call.tid) hit)) (grown spot))

pub with_grown : (told : Option (List OutboxCall)) (runs : Option (List Execution)) (found rows left : Rows) (call : OutboxCall)
    → IfSome told (λ calls. Contains calls call)
    → IsGrown told runs found rows → IsWith call rows left → IsGrown told runs found left
with_grown told runs found rows left call stands grown h =
    ⊎_elim (λ same. subst (IsGrown told runs found) (sym same) grown)
    (λ put. subst (IsGrown told runs found) (sym put.1)
    (put_grown told runs found rows call None grown
    (λ spot place. fresh_row told runs spot (get found spot) (get rows spot) call stands place (ap (get rows) place ∙ put.0) (grown spot))))
    h

-- ---- an outcome for an open call

text_is : (a b : List ℕ) (o : Option CallOutcome) → outbox_value o a ≡ outbox_value None b → a ≡ b
text_is a b o h = cc

-- a call with an outcome isn't open
not_open : (o : CallOutcome) (a b : List ℕ) → outbox_value (Some o) a ≡ outbox_value None b → ⊥
not_open Done a b h = cc
not_open BadText a b h = cc
not_open (Refused reason) a b h = cc

settled_row : (told : Option (List OutboxCall)) (runs : Option (List Execution)) (spot : Spot) (a b : Option (List ℕ)) (call : OutboxCall) (o : CallOutcome)
    → WasExecuted runs call.tid o → spot ≡ (0, call.tid)
    → b ≡ Some (outbox_value None call.text) → IsGrownRow told runs spot a b → IsGrownRow told runs spot a (Some (outbox_value (Some o) call.text))
settled_row told runs spot None None call o ran place is h = absurd cc
settled_row told runs spot (Some a) None call o ran place is h = absurd cc
settled_row told runs spot None (Some b) call o ran place is h =
    let same : b ≡ outbox_value None call.text = cc in
    let text : h.call.text ≡ call.text = text_is h.call.text call.text h.outcome (sym h.is ∙ same) in
    let tid : call.tid ≡ h.call.tid = ap (λ (s : Spot). s.1) (sym place ∙ h.place) in
    record {
      call = h.call;
      outcome = Some o;
      stands = h.stands;
      place = h.place;
      is = ap (outbox_value (Some o)) (sym text);
      executed = subst
          (λ t. WasExecuted runs t o) tid ran;
    }
settled_row told runs spot (Some a) (Some b) call o ran place is h =
    let same : b ≡ outbox_value None call.text = cc in
    ⊎_elim (λ (still : b ≡ a). inr (record {
      text = call.text;
      outcome = o;
      table = ap (λ (s : Spot). s.0) place;
      was = sym still ∙ same;
      now = refl;
      executed = subst (λ t. WasExecuted runs t o) (sym (ap (λ (s : Spot). s.1) place)) ran;
    }))
    (λ (s : IsSettled runs spot a b). absurd (not_open s.outcome s.text call.text (sym s.now ∙ same))) h

pub asked_grown : (told : Option (List OutboxCall)) (runs : Option (List Execution)) (found rows left : Rows) (call : OutboxCall) → IsGrown told runs found rows
    → value_at rows 0 call.tid ≡ Some (outbox_value None call.text) → IsAsked runs call rows left → IsGrown told runs found left
asked_grown told runs found rows left call grown stands h = asked_with told runs found rows left call h.outcome grown stands h.is h.executed
  where
    asked_with : (told : Option (List OutboxCall)) (runs : Option (List Execution)) (found rows left : Rows) (call : OutboxCall) (o : Option CallOutcome)
        → IsGrown told runs found rows
        → value_at rows 0 call.tid ≡ Some (outbox_value None call.text) → left ≡ asked call o rows → IfSome o (WasExecuted runs call.tid)
        → IsGrown told runs found left
    asked_with told runs found rows left call None grown stands is ran = subst (IsGrown told runs found) (sym is) grown
    asked_with told runs found rows left call (Some o) grown stands is ran =
        subst (IsGrown told runs found) (sym is)
        (put_grown told runs found rows call (Some o) grown
        (λ spot place. settled_row told runs spot (get found spot) (get rows spot) call o ran place (ap (get rows) place ∙ stands) (grown spot)))

-- ---- what stood stands

stands_row : (told : Option (List OutboxCall)) (runs : Option (List Execution)) (spot : Spot) (a b : Option (List ℕ)) → is_some a ≡ true
    → IsGrownRow told runs spot a b → is_some b ≡ true
stands_row told runs spot None b is h = absurd cc
stands_row told runs spot (Some a) None is h = absurd h
stands_row told runs spot (Some a) (Some b) is h = refl

pub still_stand : (told : Option (List OutboxCall)) (runs : Option (List Execution)) (calls : List OutboxCall) (rows now : Rows) → IsGrown told runs rows now
    → AllStand calls rows → AllStand calls now
still_stand told runs calls rows now grown stand call at = stands_row told runs (0, call.tid) (value_at rows 0 call.tid) (value_at now 0 call.tid)
    (stand call at) (grown (0, call.tid))

-- ---- the calls without an outcome before

-- the outcome of a value
abbrev outcome_of : List ℕ → Option (List ℕ) → Option CallOutcome
outcome_of tid stored = stored >>= λ value. call_under tid value >>= λ (call : OutboxCall). call.outcome

of_value : (tid text : List ℕ) (o : Option CallOutcome) → call_under tid (outbox_value o text) ≡ Some (call_with tid text o)
    → outcome_of tid (Some (outbox_value o text)) ≡ o
of_value tid text o h = ap (λ c. c >>= λ (call : OutboxCall). call.outcome) h

none_yet : (p : Option CallOutcome) (a b tid : List ℕ) (o : Option CallOutcome) → outbox_value o b ≡ outbox_value p a → IfSome p (WasExecuted (Some []) tid)
    → is_none o ≡ true
none_yet None a b tid None is ran = refl
none_yet None a b tid (Some o) is ran = absurd (not_open o b a is)
none_yet (Some p) a b tid o is ran = absurd cc

open_row : (told : Option (List OutboxCall)) (spot : Spot) (a : Option (List ℕ)) (text : List ℕ) (o : Option CallOutcome)
    → call_under spot.1 (outbox_value o text) ≡ Some (call_with spot.1 text o)
    → IsGrownRow told (Some []) spot a (Some (outbox_value o text)) → is_none o ≡ is_none (outcome_of spot.1 a)
open_row told spot None text o told_as h = none_yet h.outcome h.call.text text h.call.tid o h.is h.executed
open_row told spot (Some a) text o told_as h =
    ⊎_elim (λ (same : outbox_value o text ≡ a). ap is_none (sym (of_value spot.1 text o told_as) ∙ ap (λ v. outcome_of spot.1 (Some v)) same))
    (λ (s : IsSettled (Some []) spot a (outbox_value o text)). let odd = s.executed in absurd cc) h

pub open_before : (told : Option (List OutboxCall)) (found rows : Rows) (before calls : List OutboxCall) → IsGrown told (Some []) found rows
    → AreCallsOf rows (before ++ calls) → AreOpenBefore found calls
open_before told found rows before [] grown spelled = tt
open_before told found rows before (c ∷ cs) grown spelled = (
  open_row told (0, c.tid) (value_at found 0 c.tid) c.text c.outcome (spelled_as rows before cs c spelled)
      (subst (IsGrownRow told (Some []) (0, c.tid) (value_at found 0 c.tid)) (value_of_call rows before cs c spelled) (grown (0, c.tid))),
  open_before told found rows (before ++ c ∷ []) cs grown (subst (AreCallsOf rows) (sym (append_assoc before (c ∷ []) cs)) spelled),
)
