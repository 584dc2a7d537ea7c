-- A history of the script: its calls are made one after another, from a first start.
use Rattle.std.proofs.Common.{◌≡◌, ℕ, true, Bool, false, List, [], ◌∷◌, inl, inr, refl, sym, ap, ◌∙◌, subst, arith}
use Rattle.std.specs.Prelude.{◌||◌, cond, map, None, Some}
use Rattle.std.specs.Cmp.Lexicographic.{bytes_decides, slice_cmp}
use Rattle.std.specs.FinMap.{empty, entries, from_entries, get-empty, len-empty, len-entries, values}
use Rattle.std.specs.List.{AllByRecursion, filter, list_all, list_any}
use Rattle.std.specs.Ordering.{nat_cmp}
use Rattle.std.specs.declared.cmp.Ordering.{Ordering}
use Rattle.std.proofs.lemmas.List.{nil_from_length}
use Rattle.std.proofs.lemmas.List.Elements.{All-from_recursion}
use Rattle.ledger_steps.specs.Intervals.{interval_of_entry, keyed}
use Rattle.ledger_steps.specs.Levels.{FitRows, fits}
use Rattle.update_records.specs.declared.stored.StoredInterval.{StoredInterval}
use Rattle.std.specs.Str.{bytes_eq}
use Rattle.std.proofs.lemmas.Bool.{or_parts}
use Rattle.lock_entry.specs.Granting.{asked}
use Rattle.module_effects.specs.Rows.{row_cmp}
use Rattle.update_records.specs.Growing.{with_start}
use Rattle.update_records.specs.Ledger.{Ledger, no_ledger}
use Rattle.hall_model.specs.Kept.{IsKept}
use Rattle.hall_model.specs.Recall.{Made, calls_of, recalled}
use Rattle.hall_model.specs.State.{State, opened}
use Rattle.hall_model.specs.Step.{call_verdict, row_in}
use Rattle.hall_model.specs.declared.command.Reply.TheVariants as reply
use Rattle.hall_laws.proofs.starting.FirstState.{first_kept}
use Rattle.coverage.specs.Lacks.{Numbered, is_of}
use Rattle.cover_laws.specs.Histories.{is_by, open_unit}
use Rattle.cover_example.specs.Met.{CoveredHistory, ReadsAndPosts}
use Rattle.cover_laws.specs.Own.{own_lines}
use Rattle.cover_laws.specs.Safe.{AreCallsOf, IsBegun, IsWithin, calls_by}
use Rattle.cover_example.proofs.Chains.{MayAlways, StaysUp, answer, chain, chain_right, made_at, no_stock, stays_sure}
use Rattle.cover_example.proofs.Script.{ask, calls, commit, covered, lines, logon, objects, order, orders, parts, post, read, session, take, unit}
use Rattle.cover_example.proofs.Lists.{by_case}

abbrev ledger : Ledger
ledger = with_start no_ledger 1

abbrev first : State
first = opened 10 10 [] true true ledger

abbrev made : List Made
made = chain first calls

-- ---- the start

no_entries : {K X : Type 0} (R : K → K → Ordering) → entries (empty {X = X} {R = R}) ≡ []
no_entries {X = X} R = nil_from_length (entries (empty {X = X} {R = R})) (sym (len-entries (empty {X = X} {R = R})) ∙ len-empty R X)

no_intervals : FitRows [] ledger.levels
no_intervals =
    ap (λ es. list_all (fits []) (values (from_entries {R = slice_cmp nat_cmp} (map keyed (map interval_of_entry es))))) (no_entries row_cmp)
    ∙ ap (λ (es : List (List ℕ × StoredInterval)). list_all (fits []) (map (λ (e : List ℕ × StoredInterval). e.1) es)) (no_entries (slice_cmp nat_cmp))

first_order : IsKept first
first_order =
    first_kept true true (record { entries = []; limit = 10 }) 10 10 [] ledger [] _ [] (omega arith)
    (record { good = record { each = tt; apart = tt }; fit = no_intervals }) (no_ledger, inl refl, refl)
    (record { sound = record { names = refl; counts = refl; conflicts = refl }; within = omega arith; limit_fits = omega arith }) refl refl refl refl

begun : IsBegun first
begun = record {
  max_locks = 10;
  mark_limit = 10;
  intervals = [];
  ledger = ledger;
  start = refl;
  order = first_order;
  done = All-from_recursion _ [] tt;
}

-- ---- whose calls they are

own_calls : AreCallsOf objects [] (own_lines session lines) (calls_by session made)
own_calls = inr (refl, inr (refl, inr (refl, inr (inr (refl, refl)))))

filter_none : {X : Type 0} (p : X → Bool) (xs : List X) → list_any p xs ≡ false → filter p xs ≡ []
filter_none p [] none = refl
filter_none p (x ∷ xs) none =
    let parts = or_parts (p x) (list_any p xs) none in
    ap (λ b. cond b (x ∷ filter p xs) (filter p xs)) parts.0 ∙ filter_none p xs parts.1

none_of_five : (b : Bool) → b ≡ false → (b || (b || (b || (b || (b || false))))) ≡ false
none_of_five true e = absurd cc
none_of_five false e = refl

none_of_four : (b : Bool) → b ≡ false → (b || (b || (b || (b || false)))) ≡ false
none_of_four true e = absurd cc
none_of_four false e = refl

no_lines : (s : List ℕ) → bytes_eq session s ≡ false → own_lines s lines ≡ []
no_lines s other =
    ap (map (λ (x : Numbered). x.1)) (filter_none (λ (x : Numbered). is_of s x.1) lines (none_of_five (bytes_eq session s) other))

no_calls : (s : List ℕ) → bytes_eq session s ≡ false → calls_by s made ≡ []
no_calls s other = filter_none (is_by s) (calls_of made) (none_of_four (bytes_eq session s) other)

each_own : (s : List ℕ) → AreCallsOf objects [] (own_lines s lines) (calls_by s made)
each_own s =
    by_case (bytes_eq session s)
    (λ own. subst (λ n. AreCallsOf objects [] (own_lines n lines) (calls_by n made)) ((bytes_decides session s).0 own) own_calls)
    (λ other. subst (λ ls. AreCallsOf objects [] ls (calls_by s made)) (sym (no_lines s other)) (no_calls s other))

-- ---- how they are answered

abbrev logged : State
logged = recalled first (made_at first logon)

abbrev locked : State
locked = recalled logged (made_at logged ask)

abbrev has_read : State
has_read = recalled locked (made_at locked read)

abbrev committed : State
committed = recalled has_read (made_at has_read commit)

abbrev taken : State
taken = recalled committed (made_at committed take)

no_row : row_in ledger orders order ≡ None
no_row = get-empty row_cmp (orders, order)

logon_right : (answer first logon).reply ≡ logon.reply
unfolding call_verdict asked
logon_right = refl

ask_right : (answer logged ask).reply ≡ ask.reply
unfolding call_verdict asked
ask_right = refl

read_right : (answer locked read).reply ≡ read.reply
unfolding call_verdict asked
read_right = ap reply.Row no_row

commit_right : (answer has_read commit).reply ≡ commit.reply
unfolding call_verdict asked
commit_right = refl

take_right : (answer committed take).reply ≡ take.reply
unfolding call_verdict asked
take_right = refl

post_right : (answer taken post).reply ≡ post.reply
unfolding call_verdict asked
post_right = refl

all_up : StaysUp first made
unfolding call_verdict asked
all_up = (refl, (refl, (refl, (refl, (refl, (refl, refl))))))

may_be_made : AllByRecursion MayAlways calls
may_be_made = (
  record { call = λ s. tt; done = λ v. tt },
  (
    record { call = λ s. tt; done = λ v. tt },
    (
      record { call = λ s. tt; done = λ v. tt },
      (
        record { call = λ s. no_stock s; done = λ v. tt },
        (record { call = λ s. tt; done = λ v. tt }, (record { call = λ s. tt; done = λ v. tt }, tt)),
      ),
    ),
  ),
)

within : IsWithin objects lines first made
within = record {
  begun = begun;
  answers = chain_right first calls may_be_made
      (logon_right, (ask_right, (read_right, (commit_right, (take_right, (post_right, tt))))));
  own = each_own;
  served = refl;
  once = refl;
  sure = stays_sure first made all_up;
}

-- ---- what is read, committed and posted

open_then : open_unit locked session ≡ Some unit
unfolding call_verdict asked
open_then = refl

posted : ReadsAndPosts first made
posted = record {
  earlier = made_at first logon ∷ made_at logged ask ∷ [];
  between = [];
  waiting = made_at committed take ∷ [];
  later = [];
  reading = made_at locked read;
  commit = made_at has_read commit;
  post = made_at taken post;
  name = session;
  unit = unit;
  table = orders;
  key = order;
  text = None;
  whole = refl;
  reads = record { open_then = open_then; asks = refl; answered = refl };
  commits = record { parts = parts; stock = []; commits = refl; answered = refl };
  waits = refl;
  settled = refl;
}

pub a_covered_history : CoveredHistory
a_covered_history = record {
  objects = objects;
  lines = lines;
  first = first;
  made = made;
  covered = covered;
  within = within;
  posted = posted;
}
