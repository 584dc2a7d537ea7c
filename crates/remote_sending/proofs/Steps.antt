-- One call of an outbox is sent, among the others.
use Rattle.std.proofs.Common.{◌≡◌, ℕ, zero, suc, ◌+◌, ◌*◌, ◌<◌, ◌≤◌, Bool, true, cond, List, [], ◌∷◌, ◌++◌, drop, get_or, length, map, is_none, is_some, Option}
use Rattle.std.proofs.Common.{Some, None, option_map, IfSome, refl, sym, ap, subst, ◌∙◌, append_assoc, append-nil, arith}
use Rattle.std.specs.List.{AllByRecursion}
use Rattle.std.specs.Io.KnownBytes.{Appends}
use Rattle.std.proofs.lemmas.List.{at_drop_more}
use Rattle.io_edge.specs.Known.{AppendsFirst}
use Rattle.keeper_api.specs.Keeping.{IsOnly}
use Rattle.keeper_api.specs.Rows.{Rows, value_at}
use Rattle.remote_target.specs.Runs.{Execution}
use Rattle.remote_target.specs.declared.call.CallOutcome.{CallOutcome}
use Rattle.remote_sending.specs.declared.outbox.OutboxCall.{OutboxCall}
use Rattle.remote_sending.specs.declared.report.Counts.{Counts}
use Rattle.remote_sending.specs.Outbox.{call_with, first_bad, outbox_calls, outbox_value, outcome_at, with_call}
use Rattle.remote_sending.specs.Growing.{AreCallsOf, AreOpenBefore, IsAsked, IsGrown, IsUnderWay, asked}
use Rattle.remote_sending.specs.Report.{call_line, call_lines, counted, counts_of}
use Rattle.remote_sending.specs.Sends.{IsAllSent, IsStopped, IsStoppedAt}
use Rattle.remote_sending.proofs.Grown.{StaysExecuted, asked_grown, grown_itself, grown_more}
use Rattle.remote_sending.proofs.Spelled.{calls_are, none_bad, stored_among, value_of_call}
use Rattle.remote_sending.proofs.Lines.{appends_both, counted_more, first_more, first_part, line_of_open, lines_more}

-- ---- a call with an outcome

pub settled_left : (told : Option (List OutboxCall)) (runs : Option (List Execution)) (found : Rows) (calls : List OutboxCall) (held : Option Rows)
    (may : Rows → Type 0) → IfSome held (λ rows. IsOnly rows may)
    → IfSome held (λ rows. IsUnderWay told runs found rows calls → (left : Rows) → may left → IsGrown told runs found left)
settled_left told runs found calls None may only = tt
settled_left told runs found calls (Some rows) may only = λ way left h. subst (IsGrown told runs found) (sym (only.alone left h)) way.grown

-- ---- an open call

as_open : (o : Option CallOutcome) → is_none o ≡ true → o ≡ None
as_open None h = refl
as_open (Some o) h = absurd cc

stands_open : (rows : Rows) (before after : List OutboxCall) (call : OutboxCall) → is_none call.outcome ≡ true → AreCallsOf rows (before ++ call ∷ after)
    → value_at rows 0 call.tid ≡ Some (outbox_value None call.text)
stands_open rows before after call is h = value_of_call rows before after call h ∙ ap (λ o. Some (outbox_value o call.text)) (as_open call.outcome is)

spelled_asked : (rows : Rows) (before after : List OutboxCall) (call : OutboxCall) (o : Option CallOutcome) → is_none call.outcome ≡ true
    → AreCallsOf rows (before ++ call ∷ after)
    → AreCallsOf (asked call o rows) (before ++ call_with call.tid call.text o ∷ after)
spelled_asked rows before after call None is h = subst (λ p. AreCallsOf rows (before ++ call_with call.tid call.text p ∷ after)) (as_open call.outcome is) h
spelled_asked rows before after call (Some o) is h = stored_among rows before after call (Some o) h

pub open_left : (told : Option (List OutboxCall)) (was runs : Option (List Execution)) (found : Rows) (before after : List OutboxCall) (call : OutboxCall)
    (held : Option Rows) (may : Rows → Type 0)
    → is_none call.outcome ≡ true → StaysExecuted was runs → IfSome held (λ rows. (left : Rows) → may left → IsAsked runs call rows left)
    → IfSome held (λ rows. IsUnderWay told was found rows (before ++ call ∷ after) → (left : Rows) → may left → IsGrown told runs found left)
open_left told was runs found before after call None may is stays each = tt
open_left told was runs found before after call (Some rows) may is stays each = λ way left h.
    asked_grown told runs found rows left call (grown_more told was runs found rows stays way.grown) (stands_open rows before after call is way.spelled)
    (each left h)

-- the rows behind it, where it was told
pub open_rows : (told : Option (List OutboxCall)) (was runs : Option (List Execution)) (found : Rows) (before after : List OutboxCall) (call : OutboxCall)
    (o : Option CallOutcome) (held now : Option Rows) (may : Rows → Type 0)
    → is_none call.outcome ≡ true → StaysExecuted was runs → IfSome held (λ rows. (left : Rows) → may left → IsAsked runs call rows left) → IfSome now may
    → now ≡ option_map (asked call o) held
    → IfSome held (λ rows. IsUnderWay told was found rows (before ++ call ∷ after))
    → IfSome now (λ rows. IsUnderWay told runs found rows (before ++ call_with call.tid call.text o ∷ after))
open_rows told was runs found before after call o None now may is stays each there same way =
    subst (λ (m : Option Rows). IfSome m (λ rows. IsUnderWay told runs found rows (before ++ call_with call.tid call.text o ∷ after))) (sym same) tt
open_rows told was runs found before after call o (Some rows) now may is stays each there same way =
    subst (λ (m : Option Rows). IfSome m (λ rows. IsUnderWay told runs found rows (before ++ call_with call.tid call.text o ∷ after))) (sym same) (record {
      grown = asked_grown told runs found rows (asked call o rows) call (grown_more told was runs found rows stays way.grown)
          (stands_open rows before after call is way.spelled)
          (each (asked call o rows) (subst (λ (m : Option Rows). IfSome m may) same there));
      spelled = spelled_asked rows before after call o is way.spelled;
    })

pub open_line : (found : Rows) (call : OutboxCall) (o : Option CallOutcome) (old new : Option (List ℕ)) → is_none call.outcome ≡ true
    → is_none call.outcome ≡ is_none (outcome_at found call.tid)
    → Appends old new (call_line call.tid o) → Appends old new (call_lines found (call_with call.tid call.text o ∷ []))
open_line found call o old new is same h =
    subst (Appends old new) (sym (line_of_open found call.tid call.text o (sym same ∙ is) ∙ append-nil (call_line call.tid o))) h

pub open_stopped : (found : Rows) (before after : List OutboxCall) (call : OutboxCall) (held now : Option Rows) (old new : Option (List ℕ))
    → is_none call.outcome ≡ true
    → is_none call.outcome ≡ is_none (outcome_at found call.tid) → IsStopped call held now old new
    → IfSome held (λ rows. AreCallsOf rows (before ++ call ∷ after))
    → IfSome now (λ rows. IsStoppedAt found call before after rows old new)
open_stopped found before after call held now old new is same stop spelled =
    subst (λ (m : Option Rows). IfSome m (λ rows. IsStoppedAt found call before after rows old new)) (sym stop.rows)
    (at_rows found before after call stop.outcome held old new is same stop.line spelled)
  where
    at_rows : (found : Rows) (before after : List OutboxCall) (call : OutboxCall) (o : Option CallOutcome) (held : Option Rows) (old new : Option (List ℕ))
        → is_none call.outcome ≡ true
        → is_none call.outcome ≡ is_none (outcome_at found call.tid) → AppendsFirst old new (call_line call.tid o)
        → IfSome held (λ rows. AreCallsOf rows (before ++ call ∷ after))
        → IfSome (option_map (asked call o) held) (λ rows. IsStoppedAt found call before after rows old new)
    at_rows found before after call o None old new is same line spelled = tt
    at_rows found before after call o (Some rows) old new is same line spelled = record {
      outcome = o;
      spelled = spelled_asked rows before after call o is spelled;
      line = subst (AppendsFirst old new) (sym (line_of_open found call.tid call.text o (sym same ∙ is) ∙ append-nil (call_line call.tid o))) line;
    }

-- ---- call by call

-- So many calls were sent.
pub record SoFar (calls : List OutboxCall) (i : ℕ) (counts : Counts) (first held : Option Rows) (was runs : Option (List Execution))
    (old new : Option (List ℕ)) : Type 0 where
  pub sent : List OutboxCall
  pub number : length sent ≡ i
  pub within : i ≤ length calls
  pub numbers : counts ≡ counts_of sent
  pub rows : (told : Option (List OutboxCall)) (found : Rows) → IfSome first (λ rows. IsUnderWay told was found rows calls)
      → IfSome held (λ rows. IsUnderWay told runs found rows (sent ++ drop i calls))
  pub lines : (found : Rows) → AreOpenBefore found calls → Appends old new (call_lines found sent)

pub none_sent : (calls : List OutboxCall) (held : Option Rows) (runs : Option (List Execution)) (w : Option (List ℕ)) → Appends w w []
    → SoFar calls 0 (counts_of []) held held runs runs w w
none_sent calls held runs w nothing =
    record { sent = []; number = refl; within = omega arith; numbers = refl; rows = λ told found h. h; lines = λ found h. nothing }

pub all_at : (P : OutboxCall → Type 0) (xs : List OutboxCall) (i : ℕ) (x : OutboxCall) → i < length xs → x ≡ get_or xs i x → AllByRecursion P xs → P x
all_at P [] i x low is all = absurd (omega arith)
all_at P (y ∷ ys) zero x low is all = subst P (sym is) all.0
all_at P (y ∷ ys) (suc i) x low is all = all_at P ys i x (omega (arith, low)) is all.1

rest_at : (calls : List OutboxCall) (i : ℕ) (call : OutboxCall) → i < length calls → call ≡ get_or calls i call → drop i calls ≡ call ∷ drop (i + 1) calls
rest_at calls i call low is = at_drop_more (λ xs. xs) calls i call low ∙ ap (λ c. c ∷ drop (i + 1) calls) (sym is)

pub open_at : (found : Rows) (calls : List OutboxCall) (i : ℕ) (call : OutboxCall) → i < length calls → call ≡ get_or calls i call → AreOpenBefore found calls
    → is_none call.outcome ≡ is_none (outcome_at found call.tid)
open_at found calls i call low is all = all_at (λ c. is_none c.outcome ≡ is_none (outcome_at found c.tid)) calls i call low is all

length_more : (xs : List OutboxCall) (x : OutboxCall) → length (xs ++ x ∷ []) ≡ length xs + 1
length_more [] x = refl
length_more (y ∷ ys) x = let rest = length_more ys x in omega (arith, rest)

-- what a call that was sent leaves, as `send_if_open` says it
pub record Goes (call : OutboxCall) (o : Option CallOutcome) (held now : Option Rows) (was runs : Option (List Execution))
    (old new : Option (List ℕ)) : Type 0 where
  pub rows : (told : Option (List OutboxCall)) (found : Rows) (before after : List OutboxCall)
      → IfSome held (λ rows. IsUnderWay told was found rows (before ++ call ∷ after))
      → IfSome now (λ rows. IsUnderWay told runs found rows (before ++ call_with call.tid call.text o ∷ after))
  pub line : (found : Rows) → is_none call.outcome ≡ is_none (outcome_at found call.tid)
      → Appends old new (call_lines found (call_with call.tid call.text o ∷ []))

at_place : (told : Option (List OutboxCall)) (runs : Option (List Execution)) (found : Rows) (held : Option Rows) (xs ys : List OutboxCall) → xs ≡ ys
    → IfSome held (λ rows. IsUnderWay told runs found rows xs) → IfSome held (λ rows. IsUnderWay told runs found rows ys)
at_place told runs found held xs ys same h = subst (λ zs. IfSome held (λ rows. IsUnderWay told runs found rows zs)) same h

pub one_more_sent : (calls : List OutboxCall) (i : ℕ) (call : OutboxCall) (o : Option CallOutcome) (counts : Counts) (first held now : Option Rows)
    (before was runs : Option (List Execution))
    (start old new : Option (List ℕ)) → i < length calls → call ≡ get_or calls i call
    → SoFar calls i counts first held before was start old → Goes call o held now was runs old new
    → SoFar calls (i + 1) (counted counts o) first now before runs start new
one_more_sent calls i call o counts first held now before was runs start old new low is s g = record {
  sent = s.sent ++ call_with call.tid call.text o ∷ [];
  number = let n = s.number in let more = length_more s.sent (call_with call.tid call.text o) in omega (arith, n, more);
  within = omega (arith, low);
  numbers = counted_more counts s.sent call.tid call.text o s.numbers;
  rows = λ told found h.
      at_place told runs found now (s.sent ++ call_with call.tid call.text o ∷ drop (i + 1) calls)
      ((s.sent ++ call_with call.tid call.text o ∷ []) ++ drop (i + 1) calls)
      (sym (append_assoc s.sent (call_with call.tid call.text o ∷ []) (drop (i + 1) calls)))
      (g.rows told found s.sent (drop (i + 1) calls)
      (at_place told was found held (s.sent ++ drop i calls) (s.sent ++ call ∷ drop (i + 1) calls) (ap (s.sent ++◌) (rest_at calls i call low is))
      (s.rows told found h)));
  lines = λ found all.
      subst (Appends start new) (sym (lines_more found s.sent (call_with call.tid call.text o ∷ [])))
      (appends_both start old new (call_lines found s.sent) (call_lines found (call_with call.tid call.text o ∷ [])) (s.lines found all)
      (g.line found (open_at found calls i call low is all)));
}

-- the rows before a call
pub rows_before : (calls : List OutboxCall) (i : ℕ) (call : OutboxCall) (counts : Counts) (first held : Option Rows) (was runs : Option (List Execution))
    (old new : Option (List ℕ))
    → i < length calls → call ≡ get_or calls i call → (s : SoFar calls i counts first held was runs old new) → (told : Option (List OutboxCall)) (found : Rows)
    → IfSome first (λ rows. IsUnderWay told was found rows calls) → IfSome held (λ rows. IsUnderWay told runs found rows (s.sent ++ call ∷ drop (i + 1) calls))
rows_before calls i call counts first held was runs old new low is s told found h =
    at_place told runs found held (s.sent ++ drop i calls) (s.sent ++ call ∷ drop (i + 1) calls) (ap (s.sent ++◌) (rest_at calls i call low is))
    (s.rows told found h)

-- that rows spell the calls alone is enough
pub spelled_so_far : (calls : List OutboxCall) (i : ℕ) (counts : Counts) (first held : Option Rows) (was runs : Option (List Execution))
    (old new : Option (List ℕ)) → is_some held ≡ is_some first
    → (s : SoFar calls i counts first held was runs old new) → IfSome first (λ rows. AreCallsOf rows calls)
    → IfSome held (λ rows. AreCallsOf rows (s.sent ++ drop i calls))
spelled_so_far calls i counts first None was runs old new same s h = tt
spelled_so_far calls i counts None (Some rows) was runs old new same s h = absurd cc
spelled_so_far calls i counts (Some start)
    (Some rows) was runs old new same s h = (s.rows None start (record { grown = grown_itself None was start; spelled = h })).spelled

-- ---- the end

past_end : (calls : List OutboxCall) (i : ℕ) → length calls ≤ i → drop i calls ≡ []
past_end [] zero h = refl
past_end [] (suc i) h = refl
past_end (c ∷ cs) zero h = absurd (omega (arith, h))
past_end (c ∷ cs) (suc i) h = past_end cs i (omega (arith, h))

same_number : (a b : ℕ) → a ≤ b → b ≤ a → a ≡ b
same_number a b h k = omega (arith, h, k)

pub all_sent : (calls : List OutboxCall) (i : ℕ) (counts : Counts) (first held : Option Rows) (was runs : Option (List Execution)) (old new : Option (List ℕ))
    → is_some held ≡ is_some first
    → length calls ≤ i → SoFar calls i counts first held was runs old new → (found : Rows) → AreOpenBefore found calls
    → IfSome first (λ rows. AreCallsOf rows calls)
    → IfSome held (λ now. IsAllSent found now (length calls) counts old new)
all_sent calls i counts first None was runs old new same at s found all h = tt
all_sent calls i counts first (Some rows) was runs old new same at s found all h =
    let spelled : AreCallsOf rows s.sent = subst (AreCallsOf rows) (ap (s.sent ++◌) (past_end calls i at) ∙ append-nil s.sent)
    (spelled_so_far calls i counts first (Some rows) was runs old new same s h) in
    let is = calls_are rows s.sent spelled in
    record {
      good = none_bad rows s.sent spelled;
      numbers = s.numbers ∙ ap counts_of (sym is);
      number_is = let n = s.number in let in_calls = s.within in ap length is ∙ n ∙ same_number i (length calls) in_calls at;
      lines = subst (λ cs. Appends old new (call_lines found cs)) (sym is) (s.lines found all);
    }

-- what was written where it stops is a beginning of the lines
pub lines_stopped : (calls : List OutboxCall) (i : ℕ) (call : OutboxCall) (counts : Counts) (first held now : Option Rows)
    (was runs : Option (List Execution)) (start old new : Option (List ℕ))
    → is_some held ≡ is_some first → i < length calls → call ≡ get_or calls i call → (s : SoFar calls i counts first held was runs start old)
    → ((found : Rows) (before after : List OutboxCall) → is_none call.outcome ≡ is_none (outcome_at found call.tid)
    → IfSome held (λ rows. AreCallsOf rows (before ++ call ∷ after))
    → IfSome now (λ rows. IsStoppedAt found call before after rows old new))
    → (found : Rows) → AreOpenBefore found calls → IfSome first (λ rows. AreCallsOf rows calls)
    → IfSome now (λ rows. AppendsFirst start new (call_lines found (outbox_calls rows)))
lines_stopped calls i call counts first held now was runs start old new same low is s stops found all h =
    stopped_with found s.sent (drop (i + 1) calls) call now start old new (s.lines found all)
    (stops found s.sent (drop (i + 1) calls) (open_at found calls i call low is all)
    (subst (λ xs. IfSome held (λ rows. AreCallsOf rows xs)) (ap (s.sent ++◌) (rest_at calls i call low is))
    (spelled_so_far calls i counts first held was runs start old same s h)))
  where
    stopped_with : (found : Rows) (sent rest : List OutboxCall) (call : OutboxCall) (now : Option Rows) (start old new : Option (List ℕ))
        → Appends start old (call_lines found sent)
        → IfSome now (λ rows. IsStoppedAt found call sent rest rows old new)
        → IfSome now (λ rows. AppendsFirst start new (call_lines found (outbox_calls rows)))
    stopped_with found sent rest call None start old new lines stop = tt
    stopped_with found sent rest call (Some rows) start old new lines stop =
        let c = call_with call.tid call.text stop.outcome in
        subst (AppendsFirst start new)
        (sym (ap (call_lines found) (calls_are rows (sent ++ c ∷ rest) stop.spelled) ∙ lines_more found sent (c ∷ rest)
        ∙ ap (call_lines found sent ++◌) (lines_more found (c ∷ []) rest)))
        (first_more start old new (call_lines found sent) (call_lines found (c ∷ []) ++ call_lines found rest) lines
        (first_part old new (call_lines found (c ∷ [])) (call_lines found rest) stop.line))
