-- Turns of a carrier, and what comes of them in an outbox.
use Rattle.std.proofs.Common.{◌≡◌, ℕ, ◌+◌, ◌*◌, ◌≤◌, inl, inr, ⊎_elim, Bool, true, false, cond, List, [], ◌∷◌, ◌++◌, is_some, is_none, Option, Some, None}
use Rattle.std.proofs.Common.{option_map, IfSome, refl, sym, ap, subst, ◌∙◌, append_assoc, append-nil, arith}
use mathlib.Core.List.{IsPrefix}
use Rattle.std.specs.Str.{bytes_eq}
use Rattle.keeper_api.specs.Keeping.{IsBeforeOrAfter, IsOnly, IsWithin}
use Rattle.keeper_api.specs.Rows.{Rows}
use Rattle.remote_target.specs.Carrying.{RisesUnless, is_own}
use Rattle.remote_target.specs.Runs.{Execution, executed_as}
use Rattle.remote_target.specs.declared.call.CallAnswer.{CallAnswer}
use Rattle.remote_target.specs.declared.call.CallOutcome.{CallOutcome}
use Rattle.remote_sending.specs.declared.outbox.OutboxCall.{OutboxCall}
use Rattle.remote_sending.specs.Outbox.{with_call}
use Rattle.remote_sending.specs.Growing.{IsAsked, WasExecuted, asked}
use Rattle.remote_sending.specs.declared.report.Counts.{Counts}
use Rattle.remote_sending.specs.Report.{call_line, counted}
use Rattle.remote_sending.specs.Sends.{GoesOn, HasMissed, IsStopped, RoseBy, own_outcome}
use Rattle.remote_sending.proofs.Lines.{first_none}
use Rattle.remote_sending.proofs.TableRows.{same_bytes}

-- ---- one turn

executed_if : (b : Bool) (runs : Option (List Execution)) (tid : List ℕ) (answer : CallAnswer) → (b ≡ true → answer.tid ≡ tid)
    → IfSome runs (λ now. executed_as answer.tid now ≡ Some answer.outcome) → IfSome (cond b (Some answer.outcome) None) (WasExecuted runs tid)
executed_if false runs tid answer same h = tt
executed_if true None tid answer same h = tt
executed_if true (Some xs) tid answer same h = subst (λ t. executed_as t xs ≡ Some answer.outcome) (same refl) h

pub own_executed : (runs : Option (List Execution)) (tid : List ℕ) (answer : Option CallAnswer)
    → IfSome answer (λ answer. IfSome runs (λ now. executed_as answer.tid now ≡ Some answer.outcome)) → IfSome (own_outcome tid answer) (WasExecuted runs tid)
own_executed runs tid None h = tt
own_executed runs tid (Some answer) h = executed_if (bytes_eq answer.tid tid) runs tid answer (same_bytes answer.tid tid) h

missed_if : (b : Bool) (o : CallOutcome) (before now : ℕ) → RisesUnless b before now → HasMissed 1 (cond b (Some o) None) before now
missed_if true o before now h = omega (arith, h)
missed_if false o before now h = omega (arith, h)

pub own_missed : (tid : List ℕ) (answer : Option CallAnswer) (before now : ℕ) → RisesUnless (is_own tid answer) before now
    → HasMissed 1 (own_outcome tid answer) before now
own_missed tid None before now h = omega (arith, h)
own_missed tid (Some answer) before now h = missed_if (bytes_eq answer.tid tid) answer.outcome before now h

pub turn_goes_on : (before now : Option (List Execution)) → is_some now ≡ is_some before → IfSome before (λ b. IfSome now (λ n. IsPrefix b n))
    → GoesOn before now
turn_goes_on None None told h = tt
turn_goes_on None (Some ys) told h = absurd cc
turn_goes_on (Some xs) None told h = absurd cc
turn_goes_on (Some xs) (Some ys) told h = h

pub own_executed_as : (runs : Option (List Execution)) (tid : List ℕ) (answer : Option CallAnswer) (o : Option CallOutcome) → o ≡ own_outcome tid answer
    → IfSome answer (λ answer. IfSome runs (λ now. executed_as answer.tid now ≡ Some answer.outcome)) → IfSome o (WasExecuted runs tid)
own_executed_as runs tid answer o is h = subst (λ o. IfSome o (WasExecuted runs tid)) (sym is) (own_executed runs tid answer h)

pub own_missed_as : (tid : List ℕ) (answer : Option CallAnswer) (o : Option CallOutcome) (before now : ℕ) → o ≡ own_outcome tid answer
    → RisesUnless (is_own tid answer) before now → HasMissed 1 o before now
own_missed_as tid answer o before now is h = subst (λ o. HasMissed 1 o before now) (sym is) (own_missed tid answer before now h)

-- ---- turn after turn

pub goes_itself : (runs : Option (List Execution)) → GoesOn runs runs
goes_itself None = tt
goes_itself (Some xs) = ([], append-nil xs)

pub goes_further : (a b c : Option (List Execution)) → GoesOn a b → GoesOn b c → GoesOn a c
goes_further None None None h k = tt
goes_further None None (Some z) h k = absurd k
goes_further None (Some y) c h k = absurd h
goes_further (Some x) None c h k = absurd h
goes_further (Some x) (Some y) None h k = absurd k
goes_further (Some x) (Some y) (Some z) h k = (h.0 ++ k.0, sym (append_assoc x h.0 k.0) ∙ ap (λ w. w ++ k.0) h.1 ∙ k.1)

pub missed_none : (n a b c : ℕ) (o : Option CallOutcome) → o ≡ None → RoseBy n a b → HasMissed 1 o b c → RoseBy (n + 1) a c
missed_none n a b c None is h k = omega (arith, h, k)
missed_none n a b c (Some o) is h k = absurd cc

pub missed_at_last : (n a b c : ℕ) (o : Option CallOutcome) (v : CallOutcome) → o ≡ Some v → RoseBy n a b → HasMissed 1 o b c → RoseBy 0 a c
missed_at_last n a b c None v is h k = absurd cc
missed_at_last n a b c (Some o) v is h k = omega (arith, h, k)

pub at_some : (P : CallOutcome → Type 0) (o : Option CallOutcome) (v : CallOutcome) → o ≡ Some v → IfSome o P → P v
at_some P o v is h = subst (λ p. IfSome p P) is h

-- a call more that was sent eight times, or one that is settled
pub missed_counted : (counts new : Counts) (o : Option CallOutcome) (a b c : ℕ) → new ≡ counted counts o → RoseBy (8 * counts.open_calls) a b
    → HasMissed 8 o b c
    → RoseBy (8 * new.open_calls) a c
missed_counted counts new o a b c is h k = subst (λ (n : Counts). RoseBy (8 * n.open_calls) a c) (sym is) (by_outcome counts o a b c h k)
  where
    by_outcome : (counts : Counts) (o : Option CallOutcome) (a b c : ℕ) → RoseBy (8 * counts.open_calls) a b → HasMissed 8 o b c
        → RoseBy (8 * (counted counts o).open_calls) a c
    by_outcome counts None a b c h k = omega (arith, h, k)
    by_outcome counts (Some o) a b c h k = omega (arith, h, k)

-- ---- what comes of it in the outbox

pub asked_none : (call : OutboxCall) (held : Option Rows) → held ≡ option_map (asked call None) held
asked_none call None = refl
asked_none call (Some rows) = refl

pub asked_nothing : (runs : Option (List Execution)) (call : OutboxCall) (held : Option Rows) (may : Rows → Type 0) → IfSome held (λ rows. IsOnly rows may)
    → IfSome held (λ rows. (left : Rows) → may left → IsAsked runs call rows left)
asked_nothing runs call None may only = tt
asked_nothing runs call (Some rows) may only = λ left h. record { outcome = None; is = only.alone left h; executed = tt }

pub asked_stored : (runs : Option (List Execution)) (call : OutboxCall) (held : Option Rows) (may : Rows → Type 0) (o : CallOutcome)
    → WasExecuted runs call.tid o
    → IfSome held (λ rows. (left : Rows) → may left → IsBeforeOrAfter rows (with_call call.tid call.text (Some o) rows) left)
    → IfSome held (λ rows. (left : Rows) → may left → IsAsked runs call rows left)
asked_stored runs call None may o ran each = tt
asked_stored runs call (Some rows) may o ran each = λ left h.
    ⊎_elim (λ before. record { outcome = None; is = before; executed = tt }) (λ after. record { outcome = Some o; is = after; executed = ran }) (each left h)

-- where it stopped before its line, the outbox may have the outcome, and nothing was written
pub stopped_before : (runs : Option (List Execution)) (call : OutboxCall) (held new : Option Rows) (may : Rows → Type 0) (w : Option (List ℕ))
    → is_some new ≡ is_some held
    → IfSome held (λ rows. (left : Rows) → may left → IsAsked runs call rows left) → IfSome new may → IsStopped call held new w w
stopped_before runs call None None may w told each there = record { outcome = None; rows = refl; line = first_none w (call_line call.tid None) }
stopped_before runs call None (Some e) may w told each there = absurd cc
stopped_before runs call (Some rows) None may w told each there = absurd cc
stopped_before runs call (Some rows) (Some e) may w told each there =
    let is = each e there in
    record { outcome = is.outcome; rows = ap Some is.is; line = first_none w (call_line call.tid is.outcome) }
