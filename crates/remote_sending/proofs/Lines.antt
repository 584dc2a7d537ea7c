-- The lines of calls, one behind another, and a beginning of them.
use Rattle.std.proofs.Common.{◌≡◌, ℕ, zero, suc, ◌+◌, Bool, true, false, cond, List, [], ◌∷◌, ◌++◌, length, take, is_none, Result, Ok, Err, OnOk, Option, Some}
use Rattle.std.proofs.Common.{None, refl, sym, ap, subst, ◌∙◌, append_assoc, append-nil, arith}
use Rattle.std.specs.List.{count_by}
use Rattle.std.proofs.lemmas.List.Sums.{sum_by_push}
use Rattle.std.specs.Io.KnownBytes.{Appends}
use Rattle.std.proofs.KnownBytes.{Appends-trans, Appends-nil}
use Rattle.io_edge.specs.Known.{AppendsFirst}
use Rattle.keeper_api.specs.Rows.{Rows}
use Rattle.remote_target.specs.declared.call.CallOutcome.{CallOutcome}
use Rattle.remote_sending.specs.declared.fault.SendFault.{SendFault}
use Rattle.remote_sending.specs.declared.outbox.OutboxCall.{OutboxCall}
use Rattle.remote_sending.specs.declared.report.Counts.{Counts}
use Rattle.remote_sending.specs.Outbox.{call_with, outcome_at}
use Rattle.remote_sending.specs.Report.{call_line, call_lines, counted, counts_of, if_more, is_bad, is_done}

-- ---- beginnings

-- the first bytes of a list begin a longer one too
taken_of_more : (n : ℕ) (xs ys : List ℕ) → (m : ℕ) × (take n xs ≡ take m (xs ++ ys))
taken_of_more zero xs ys = (0, refl)
taken_of_more (suc n) [] ys = (0, refl)
taken_of_more (suc n) (x ∷ xs) ys =
    let r = taken_of_more n xs ys in
    (suc r.0, ap (λ l. x ∷ l) r.1)

taken_behind : (xs ys : List ℕ) (n : ℕ) → (m : ℕ) × (xs ++ take n ys ≡ take m (xs ++ ys))
taken_behind [] ys n = (n, refl)
taken_behind (x ∷ xs) ys n =
    let r = taken_behind xs ys n in
    (suc r.0, ap (λ l. x ∷ l) r.1)

pub first_part : (a b : Option (List ℕ)) (xs ys : List ℕ) → AppendsFirst a b xs → AppendsFirst a b (xs ++ ys)
first_part a b xs ys h =
    let r = taken_of_more h.0 xs ys in
    (r.0, subst (Appends a b) r.1 h.1)

pub first_more : (a b c : Option (List ℕ)) (xs ys : List ℕ) → Appends a b xs → AppendsFirst b c ys → AppendsFirst a c (xs ++ ys)
first_more a b c xs ys h k =
    let r = taken_behind xs ys k.0 in
    (r.0, subst (Appends a c) r.1 (Appends-trans a b c xs (take k.0 ys) h k.1))

-- nothing was written
pub first_none : (a : Option (List ℕ)) (xs : List ℕ) → AppendsFirst a a xs
first_none a xs = (0, Appends-nil a)

pub appends_both : (a b c : Option (List ℕ)) (xs ys : List ℕ) → Appends a b xs → Appends b c ys → Appends a c (xs ++ ys)
appends_both a b c xs ys h k = Appends-trans a b c xs ys h k

all_of : (xs : List ℕ) → take (length xs) xs ≡ xs
all_of [] = refl
all_of (x ∷ xs) = ap (x ∷◌) (all_of xs)

pub first_all : (a b : Option (List ℕ)) (xs : List ℕ) → Appends a b xs → AppendsFirst a b xs
first_all a b xs h = (length xs, subst (Appends a b) (sym (all_of xs)) h)

-- ---- lines

joined : (b : Bool) (line xs ys : List ℕ) → cond b (line ++ (xs ++ ys)) (xs ++ ys) ≡ cond b (line ++ xs) xs ++ ys
joined true line xs ys = sym (append_assoc line xs ys)
joined false line xs ys = refl

pub lines_more : (found : Rows) (xs ys : List OutboxCall) → call_lines found (xs ++ ys) ≡ call_lines found xs ++ call_lines found ys
lines_more found [] ys = refl
lines_more found (x ∷ xs) ys =
    ap (λ rest. cond (is_none (outcome_at found x.tid)) (call_line x.tid x.outcome ++ rest) rest) (lines_more found xs ys)
    ∙ joined (is_none (outcome_at found x.tid)) (call_line x.tid x.outcome) (call_lines found xs) (call_lines found ys)

pub line_of_open : (found : Rows) (tid text : List ℕ) (o : Option CallOutcome) → is_none (outcome_at found tid) ≡ true
    → call_lines found (call_with tid text o ∷ []) ≡ call_line tid o ++ []
line_of_open found tid text o is = ap (λ b. cond b (call_line tid o ++ []) []) is

pub line_of_settled : (found : Rows) (tid text : List ℕ) (o : Option CallOutcome) → is_none (outcome_at found tid) ≡ false
    → call_lines found (call_with tid text o ∷ []) ≡ []
line_of_settled found tid text o is = ap (λ b. cond b (call_line tid o ++ []) []) is

-- ---- counts

one_if : (b : Bool) (n : ℕ) → if_more b n ≡ n + cond b 1 0
one_if true n = refl
one_if false n = omega arith

one_counted : (p : OutboxCall → Bool) (calls : List OutboxCall) (call : OutboxCall) → if_more (p call) (count_by p calls) ≡ count_by p (calls ++ call ∷ [])
one_counted p calls call = one_if (p call) (count_by p calls) ∙ sym (sum_by_push (λ x. cond (p x) 1 0) calls call)

pub counted_more : (counts : Counts) (calls : List OutboxCall) (tid text : List ℕ) (o : Option CallOutcome) → counts ≡ counts_of calls
    → counted counts o ≡ counts_of (calls ++ call_with tid text o ∷ [])
counted_more counts calls tid text o is = ap (λ c. counted c o) is ∙ λ i. record {
  done = one_counted (λ (call : OutboxCall). is_done call.outcome) calls (call_with tid text o) i;
  bad = one_counted (λ (call : OutboxCall). is_bad call.outcome) calls (call_with tid text o) i;
  open_calls = one_counted (λ (call : OutboxCall). is_none call.outcome) calls (call_with tid text o) i;
}

-- ---- the last line

pub line_made : (l0 l1 l2 l3 l4 l5 a b c d e : List ℕ) → l0 ≡ [] → l1 ≡ l0 ++ a → l2 ≡ l1 ++ b → l3 ≡ l2 ++ c → l4 ≡ l3 ++ d → l5 ≡ l4 ++ e
    → l5 ≡ a ++ (b ++ (c ++ (d ++ e)))
line_made l0 l1 l2 l3 l4 l5 a b c d e h0 h1 h2 h3 h4 h5 =
    h5
    ∙ ap (λ x. x ++ e) (h4 ∙ ap (λ x. x ++ d) (h3 ∙ ap (λ x. x ++ c) (h2 ∙ ap (λ x. x ++ b) (h1 ∙ ap (λ x. x ++ a) h0))))
    ∙ append_assoc ((a ++ b) ++ c) d e
    ∙ append_assoc (a ++ b) c (d ++ e)
    ∙ append_assoc a b (c ++ (d ++ e))

-- ---- a text that was put

pub said_ok : (r : Result Unit SendFault) (old new : Option (List ℕ)) (slice items text : List ℕ) → slice ≡ items → items ≡ text
    → OnOk r (Appends old new slice) → OnOk r (Appends old new text)
said_ok (Ok u) old new slice items text same is h = subst (Appends old new) (same ∙ is) h
said_ok (Err e) old new slice items text same is h = tt

pub said_first : (old new : Option (List ℕ)) (slice items text : List ℕ) → slice ≡ items → items ≡ text → AppendsFirst old new slice → AppendsFirst old new text
said_first old new slice items text same is h = subst (AppendsFirst old new) (same ∙ is) h
