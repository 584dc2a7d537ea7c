-- A call is sent if it is open.
use Rattle.std.proofs.Common.{◌≡◌, ℕ, ◌+◌, ◌*◌, ◌<◌, ◌≤◌, drop, get_or, length, Bool, true, false, cond, List, [], ◌∷◌, ◌++◌, is_none, is_some, Option, Some}
use Rattle.std.proofs.Common.{None, option_map, IfSome, Result, Ok, Err, IfOk, IfErr, refl, sym, ap, subst, ◌∙◌, arith}
use Rattle.std.specs.Io.KnownBytes.{Appends}
use Rattle.std.proofs.KnownBytes.{Appends-nil}
use Rattle.std.proofs.lemmas.List.Sums.{count_by-le-length}
use Rattle.keeper_api.specs.Keeping.{IsOnly}
use Rattle.keeper_api.specs.Rows.{Rows}
use Rattle.remote_target.specs.Runs.{Execution}
use Rattle.remote_target.specs.declared.call.CallOutcome.{CallOutcome}
use Rattle.remote_sending.specs.declared.fault.SendFault.{SendFault}
use Rattle.remote_sending.specs.declared.outbox.OutboxCall.{OutboxCall}
use Rattle.remote_sending.specs.Outbox.{call_with, outcome_at}
use Rattle.remote_sending.specs.Growing.{AreCallsOf, IsAsked, IsGrown, IsUnderWay, asked}
use Rattle.remote_sending.specs.declared.report.Counts.{Counts}
use Rattle.remote_sending.specs.Report.{call_line, call_lines, counts_of, is_bad, is_done}
use Rattle.remote_sending.specs.Sends.{GoesOn, IsStopped, IsStoppedAt, RoseBy}
use Rattle.remote_sending.proofs.Grown.{StaysExecuted}
use Rattle.remote_sending.proofs.Lines.{line_of_settled}
use Rattle.remote_sending.proofs.Steps.{SoFar, none_sent, open_line, open_rows, open_stopped, rows_before}

-- ---- it has an outcome

pub kept_rows : (told : Option (List OutboxCall)) (runs : Option (List Execution)) (found : Rows) (before after : List OutboxCall) (call : OutboxCall)
    (o : CallOutcome) (held : Option Rows) → call.outcome ≡ Some o
    → IfSome held (λ rows. IsUnderWay told runs found rows (before ++ call ∷ after))
    → IfSome held (λ rows. IsUnderWay told runs found rows (before ++ call_with call.tid call.text (Some o) ∷ after))
kept_rows told runs found before after call o held is h = subst
    (λ p. IfSome held (λ rows. IsUnderWay told runs found rows (before ++ call_with call.tid call.text p ∷ after))) is h

pub kept_line : (found : Rows) (call : OutboxCall) (o : CallOutcome) (w : Option (List ℕ)) → call.outcome ≡ Some o
    → is_none call.outcome ≡ is_none (outcome_at found call.tid)
    → Appends w w (call_lines found (call_with call.tid call.text (Some o) ∷ []))
kept_line found call o w is same = subst (Appends w w) (sym (line_of_settled found call.tid call.text (Some o) (sym same ∙ ap is_none is))) (Appends-nil w)

-- ---- it is open

pub if_rows : (r : Result (Option CallOutcome) SendFault) (was runs : Option (List Execution)) (call : OutboxCall) (held now : Option Rows)
    (may : Rows → Type 0) → call.outcome ≡ None → StaysExecuted was runs
    → IfSome held (λ rows. (left : Rows) → may left → IsAsked runs call rows left) → IfSome now may → IfOk r (λ o. now ≡ option_map (asked call o) held)
    → IfOk r (λ o. (told : Option (List OutboxCall)) (found : Rows) (before after : List OutboxCall)
    → IfSome held (λ rows. IsUnderWay told was found rows (before ++ call ∷ after))
    → IfSome now (λ rows. IsUnderWay told runs found rows (before ++ call_with call.tid call.text o ∷ after)))
if_rows (Ok o) was runs call held now may is stays each there same = λ told found before after h.
    open_rows told was runs found before after call o held now may (ap is_none is) stays each there same h
if_rows (Err e) was runs call held now may is stays each there same = tt

pub if_line : (r : Result (Option CallOutcome) SendFault) (call : OutboxCall) (old new : Option (List ℕ)) → call.outcome ≡ None
    → IfOk r (λ o. Appends old new (call_line call.tid o))
    → IfOk r (λ o. (found : Rows) → is_none call.outcome ≡ is_none (outcome_at found call.tid)
    → Appends old new (call_lines found (call_with call.tid call.text o ∷ [])))
if_line (Ok o) call old new is h = λ found same. open_line found call o old new (ap is_none is) same h
if_line (Err e) call old new is h = tt

pub if_stopped : (r : Result (Option CallOutcome) SendFault) (call : OutboxCall) (held now : Option Rows) (old new : Option (List ℕ)) → call.outcome ≡ None
    → IfErr r (λ _. IsStopped call held now old new)
    → IfErr r (λ _. (found : Rows) (before after : List OutboxCall) → is_none call.outcome ≡ is_none (outcome_at found call.tid)
    → IfSome held (λ rows. AreCallsOf rows (before ++ call ∷ after))
    → IfSome now (λ rows. IsStoppedAt found call before after rows old new))
if_stopped (Ok o) call held now old new is h = tt
if_stopped (Err e) call held now old new is h = λ found before after same spelled. open_stopped found before after call held now old new
    (ap is_none is) same h spelled

-- a count that stands still
pub stands_still : (n : ℕ) → RoseBy 0 n n
stands_still n = omega arith

-- ---- call by call

pub begun : (calls : List OutboxCall) (held : Option Rows) (runs : Option (List Execution)) (w : Option (List ℕ)) (counts : Counts) → counts ≡ counts_of []
    → SoFar calls 0 counts held held runs runs w w
begun calls held runs w counts is = subst (λ n. SoFar calls 0 n held held runs runs w w) (sym is) (none_sent calls held runs w (Appends-nil w))

pub begun_rose : (counts : Counts) (n : ℕ) → counts ≡ counts_of [] → RoseBy (8 * counts.open_calls) n n
begun_rose counts n is = subst (λ (x : Counts). RoseBy (8 * x.open_calls) n n) (sym is) (none_rose n)
  where
    none_rose : (n : ℕ) → RoseBy (8 * 0) n n
    none_rose n = omega arith

pub counted_sent : (new made : Counts) (calls : List OutboxCall) (i : ℕ) (first held : Option Rows) (was runs : Option (List Execution))
    (old now : Option (List ℕ)) → new ≡ made
    → SoFar calls i made first held was runs old now → SoFar calls i new first held was runs old now
counted_sent new made calls i first held was runs old now is s = subst (λ n. SoFar calls i n first held was runs old now) (sym is) s

pub stop_left : (told : Option (List OutboxCall)) (found : Rows) (calls : List OutboxCall) (i : ℕ) (call : OutboxCall) (counts : Counts)
    (first held : Option Rows) (was runs later : Option (List Execution))
    (old new : Option (List ℕ)) (may : Rows → Type 0) → is_some held ≡ is_some first → i < length calls → call ≡ get_or calls i call
    → SoFar calls i counts first held was runs old new
    → ((told : Option (List OutboxCall)) (found : Rows) (before after : List OutboxCall)
    → IfSome held (λ rows. IsUnderWay told runs found rows (before ++ call ∷ after) → (left : Rows) → may left → IsGrown told later found left))
    → IfSome first (λ rows. IsUnderWay told was found rows calls → (left : Rows) → may left → IsGrown told later found left)
stop_left told found calls i call counts None held was runs later old new may same low is s step = tt
stop_left told found calls i call counts (Some start) None was runs later old new may same low is s step = absurd cc
stop_left told found calls i call counts (Some start) (Some rows) was runs later old new may same low is s step = λ way.
    step told found s.sent (drop (i + 1) calls) (rows_before calls i call counts (Some start) (Some rows) was runs old new low is s told found way)

pub all_left : (told : Option (List OutboxCall)) (found : Rows) (calls : List OutboxCall) (i : ℕ) (counts : Counts) (first held : Option Rows)
    (was runs : Option (List Execution))
    (old new : Option (List ℕ)) (may : Rows → Type 0) → is_some held ≡ is_some first → IfSome held (λ rows. IsOnly rows may)
    → SoFar calls i counts first held was runs old new
    → IfSome first (λ rows. IsUnderWay told was found rows calls → (left : Rows) → may left → IsGrown told runs found left)
all_left told found calls i counts None held was runs old new may same only s = tt
all_left told found calls i counts (Some start) None was runs old new may same only s = absurd cc
all_left told found calls i counts (Some start) (Some rows) was runs old new may same only s = λ way left h.
    subst (IsGrown told runs found) (sym (only.alone left h)) (s.rows told found way).grown

-- the numbers of so many calls are no larger
pub counts_fit : (calls : List OutboxCall) (i : ℕ) (counts : Counts) (first held : Option Rows) (was runs : Option (List Execution))
    (old new : Option (List ℕ)) → SoFar calls i counts first held was runs old new
    → (counts.done ≤ i) × (counts.bad ≤ i) × (counts.open_calls ≤ i)
counts_fit calls i counts first held was runs old new s = subst (λ n. (counts.done ≤ n) × (counts.bad ≤ n) × (counts.open_calls ≤ n)) s.number
    (subst (λ (c : Counts). (c.done ≤ length s.sent) × (c.bad ≤ length s.sent) × (c.open_calls ≤ length s.sent)) (sym s.numbers) (
      count_by-le-length (λ (call : OutboxCall). is_done call.outcome) s.sent,
      count_by-le-length (λ (call : OutboxCall). is_bad call.outcome) s.sent,
      count_by-le-length (λ (call : OutboxCall). is_none call.outcome) s.sent,
    ))
