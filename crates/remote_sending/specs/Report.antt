-- What sending writes.
use Rattle.std.specs.Prelude.{◌≡◌, ℕ, ◌+◌, Bool, true, false, not, ◌&&◌, List, [], ◌∷◌, ◌++◌, codes, count_by, length}
use Rattle.std.specs.Prelude.{is_none, is_some, if◌then◌else◌, Option, Some, None, decimal}
use Rattle.std.specs.Io.KnownBytes.{Appends}
use Rattle.enq_base.specs.declared.unit.Reason.{Reason}
use Rattle.enq_base.specs.declared.unit.Reason.TheVariants.{Duplicate, Missing, NotNumber, Overflow}
use Rattle.io_edge.specs.Known.{AppendsFirst}
use Rattle.keeper_api.specs.Rows.{Rows}
use Rattle.remote_target.specs.declared.call.CallOutcome.{CallOutcome}
use Rattle.remote_target.specs.declared.call.CallOutcome.TheVariants as outcome
use Rattle.remote_sending.specs.declared.outbox.OutboxCall.{OutboxCall}
use Rattle.remote_sending.specs.declared.report.Counts.{Counts}
use Rattle.remote_sending.specs.declared.sending.TrfcWhy.{TrfcWhy}
use Rattle.remote_sending.specs.declared.sending.TrfcWhy.TheVariants.{Done}
use Rattle.remote_sending.specs.Outbox.{outbox_calls, outcome_at}

abbrev pub reason_words : Reason → List ℕ
reason_words Duplicate = codes " BAD DUPLICATE\n"
reason_words Missing = codes " BAD MISSING\n"
reason_words NotNumber = codes " BAD NOT_NUMBER\n"
reason_words Overflow = codes " BAD OVERFLOW\n"

abbrev pub outcome_words : Option CallOutcome → List ℕ
outcome_words None = codes " OPEN\n"
outcome_words (Some outcome.Done) = codes " DONE\n"
outcome_words (Some outcome.BadText) = codes " BAD TEXT\n"
outcome_words (Some (outcome.Refused reason)) = reason_words reason

abbrev pub call_line : List ℕ → Option CallOutcome → List ℕ
call_line tid outcome = tid ++ outcome_words outcome

-- the lines of those calls that had no outcome before
abbrev pub call_lines : Rows → List OutboxCall → List ℕ
call_lines before [] = []
call_lines before (call ∷ calls) =
    if is_none (outcome_at before call.tid) then call_line call.tid call.outcome ++ call_lines before
    calls else call_lines before calls

abbrev pub is_done : Option CallOutcome → Bool
is_done (Some outcome.Done) = true
is_done other = false

abbrev pub is_bad : Option CallOutcome → Bool
is_bad None = false
is_bad (Some outcome.Done) = false
is_bad (Some other) = true

abbrev pub counts_of : List OutboxCall → Counts
counts_of calls = record {
  done = count_by (λ call. is_done call.outcome) calls;
  bad = count_by (λ call. is_bad call.outcome) calls;
  open_calls = count_by (λ call. is_none call.outcome) calls;
}

abbrev pub if_more : Bool → ℕ → ℕ
if_more true number = number + 1
if_more false number = number

-- the numbers with one call more
abbrev pub counted : Counts → Option CallOutcome → Counts
counted counts outcome = record {
  done = if_more (is_done outcome) counts.done;
  bad = if_more (is_bad outcome) counts.bad;
  open_calls = if_more (is_none outcome) counts.open_calls;
}

abbrev pub counts_line : ℕ → Counts → List ℕ
counts_line number counts =
    (codes "CALLS " ++ decimal number)
    ++ ((codes " DONE " ++ decimal counts.done) ++
    ((codes " BAD " ++ decimal counts.bad) ++ ((codes " OPEN " ++ decimal counts.open_calls) ++ codes "\n")))

abbrev pub last_line : List OutboxCall → List ℕ
last_line calls = counts_line (length calls) (counts_of calls)

-- a line for each call of an outbox that had no outcome before, and then how many calls there are and what became of
-- them
abbrev pub report : Rows → Rows → List ℕ
report before now = call_lines before (outbox_calls now) ++ last_line (outbox_calls now)

-- where all was done the text was written, else a beginning of it
abbrev pub Writes : TrfcWhy → Option (List ℕ) → Option (List ℕ) → List ℕ → Type 0
Writes Done old new text = Appends old new text
Writes other old new text = AppendsFirst old new text
