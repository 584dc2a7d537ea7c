-- What the calls of a carrier leave of its target.
use mathlib.Core.List.{IsPrefix}
use Rattle.std.proofs.Common.{◌≡◌, inl, inr, ◌≤◌, true, false, List, [], ◌++◌, length, Option, Some, None, option_map, IfSome, IfOk, IfErr, OnOk, Result, Ok}
use Rattle.std.proofs.Common.{Err, refl, sym, ap, subst, ◌∙◌, append-nil, append_assoc}
use Rattle.std.specs.Option.{is_some}
use Rattle.std.specs.Result.{is_err}
use Rattle.enq_base.specs.declared.no_memory.NoMemory.{NoMemory}
use Rattle.keeper_api.specs.Batch.{changed}
use Rattle.keeper_api.specs.Keeping.{IsBeforeOrAfter, IsOnly, IsWithin}
use Rattle.keeper_api.specs.Rows.{Rows}
use Rattle.remote_target.specs.Carrying.{Carries, HasPast, IsLine, answer_of, executed_by, is_store_fault}
use Rattle.remote_target.specs.Executed.{executed_in}
use Rattle.remote_target.specs.Rows.{changes_of}
use Rattle.remote_target.specs.Runs.{Call, Execution, Ran, executed_as, ran}
use Rattle.remote_target.specs.Targets.{HasExecuted, HasRun, OnRefused, Show, TargetView, UnlessStoreFault}
use Rattle.remote_target.specs.declared.call.CallAnswer.{CallAnswer}
use Rattle.remote_target.specs.declared.call.CallOutcome.{CallOutcome}
use Rattle.remote_target.specs.declared.fault.TargetFault.{TargetFault}
use Rattle.remote_target.specs.declared.fault.TargetFault.TheVariants as fault
use Rattle.remote_target.proofs.Newest.{executed_before, executed_next}

-- ---- what is carried

abbrev Past : Type 0
Past = Option (List Execution)

abbrev Answered : Type 0
Answered = Result (Option CallAnswer) NoMemory

never : {A : Type 0} → true ≡ false → A
never h = cc

front_of_all : (xs : List Execution) → IsPrefix xs xs
front_of_all xs = ([], append-nil xs)

kept_same : (a : Past) → IfSome a (λ xs. IfSome a (λ ys. IsPrefix xs ys))
kept_same None = tt
kept_same (Some xs) = front_of_all xs

no_answer : (now : Past) (result : Answered) → IfOk result (λ answer. answer ≡ None)
    → IfOk result (λ answer. IfSome answer (λ a. IfSome now (λ xs. executed_as a.tid xs ≡ Some a.outcome)))
no_answer now (Err e) none = tt
no_answer now (Ok answer) none = subst (λ r. IfSome r (λ a. IfSome now (λ xs. executed_as a.tid xs ≡ Some a.outcome))) (sym none) tt

-- nothing arrived
pub carries_none : (a b : Past) (result : Answered) → b ≡ a → IfOk result (λ answer. answer ≡ None) → Carries a b result
carries_none a b result same none = record {
  told = ap is_some same;
  kept = subst (λ c. IfSome a (λ xs. IfSome c (λ ys. IsPrefix xs ys))) (sym same) (kept_same a);
  answered = no_answer b result none;
}

-- an answer that is lost
pub carries_lost : (a b : Past) (first second : Answered) → Carries a b first → IfOk second (λ answer. answer ≡ None) → Carries a b second
carries_lost a b first second one none = record { told = one.told; kept = one.kept; answered = no_answer b second none }

kept_on : (a b c : Past) → is_some b ≡ is_some a → IfSome a (λ xs. IfSome b (λ ys. IsPrefix xs ys)) → IfSome b (λ xs. IfSome c (λ ys. IsPrefix xs ys))
    → IfSome a (λ xs. IfSome c (λ ys. IsPrefix xs ys))
kept_on None b c told one two = tt
kept_on (Some xs) None c told one two = cc
kept_on (Some xs) (Some ys) None told one two = tt
kept_on (Some xs) (Some ys) (Some zs) told one two = (one.0 ++ two.0, sym (append_assoc xs one.0 two.0) ∙ ap (λ l. l ++ two.0) one.1 ∙ two.1)

-- one thing after another
pub carries_on : (a b c : Past) (first second : Answered) → Carries a b first → Carries b c second → Carries a c second
carries_on a b c first second one two = record { told = two.told ∙ one.told; kept = kept_on a b c one.told one.kept two.kept; answered = two.answered }

-- the same answer, or none for want of memory
as_answered : (a b : Past) (x : Option CallAnswer) (answer : Answered) → IfOk answer (λ y. y ≡ x) → Carries a b (Ok x) → Carries a b answer
as_answered a b x (Err e) is c = record { told = c.told; kept = c.kept; answered = tt }
as_answered a b x (Ok y) is c = subst (λ z. Carries a b (Ok z)) (sym is) c

told_both : (a b : Past) (xs ys : List Execution) → a ≡ Some xs → b ≡ Some ys → IsPrefix xs ys → (answer : CallAnswer)
    → executed_as answer.tid ys ≡ Some answer.outcome → Carries a b (Ok (Some answer))
told_both a b xs ys is now front answer done =
    subst (λ p. Carries p b (Ok (Some answer))) (sym is)
    (subst (λ q. Carries (Some xs) q (Ok (Some answer))) (sym now) (record { told = refl; kept = front; answered = done }))

told_neither : (a b : Past) → is_some a ≡ false → is_some b ≡ false → (result : Answered) → Carries a b result
told_neither (Some xs) b none also result = cc
told_neither None (Some ys) none also result = cc
told_neither None None none also (Err e) = record { told = refl; kept = tt; answered = tt }
told_neither None None none also (Ok None) = record { told = refl; kept = tt; answered = tt }
told_neither None None none also (Ok (Some a)) = record { told = refl; kept = tt; answered = tt }

-- ---- a call of the target

past_told : (a b : Option Rows) → is_some b ≡ is_some a → is_some (option_map executed_in b) ≡ is_some (option_map executed_in a)
past_told None None told = refl
past_told None (Some y) told = cc
past_told (Some x) None told = cc
past_told (Some x) (Some y) told = refl

module _ {K : Type 0} (held : K → Option Rows) (may_leave : K → Rows → Type 0) (is_open : K → Type 0) where
  -- what `execute` tells
  pub record IsCalled (t s : TargetView K) (call : Call) (result : Result CallOutcome TargetFault) : Type 0 where
    pub outcome : IfOk result (λ o. (r : Ran) → HasRun held t r → executed_as call.tid (ran call r).executed ≡ Some o)
    pub done : OnOk result ((r : Ran) → HasRun held t r → HasRun held s (ran call r))
    pub rows : OnOk result (IfSome (held t.keeper) (λ rows. (r : Ran) → HasRun held t r → held s.keeper ≡ Some (changed (changes_of call r) rows)))
    pub left : IfSome (held t.keeper)
        (λ rows. (r : Ran) → HasRun held t r → (left : Rows) → may_leave s.keeper left → IsBeforeOrAfter rows (changed (changes_of call r) rows) left)
    pub opened : UnlessStoreFault result (is_open s.keeper)
    pub unchanged : IfErr result (λ f. OnRefused f (held s.keeper ≡ held t.keeper))
    pub count : IfErr result (λ f. s.count ≡ t.count)
    pub told : is_some (held s.keeper) ≡ is_some (held t.keeper)

  -- what `reopen` tells
  pub record IsReopened (t s : TargetView K) (result : Result Unit TargetFault) : Type 0 where
    pub opened : OnOk result (is_open s.keeper)
    pub stands : OnOk result (HasPast held s)
    pub found : OnOk result (IfSome (held s.keeper) (may_leave t.keeper))
    pub told : is_some (held s.keeper) ≡ is_some (held t.keeper)
    pub left : IsWithin (may_leave s.keeper) (may_leave t.keeper)

module _ {K : Type 0} (held : K → Option Rows) (may_leave : K → Rows → Type 0) (is_open : K → Type 0)
    (settles : (k : K) → is_open k → IfSome (held k) (λ rows. IsOnly rows (may_leave k))) where
  only_left : (h : Option Rows) (may : Rows → Type 0) → IfSome h (λ rows. IsOnly rows may)
      → IfSome h (λ rows. (left : Rows) → may left → IsPrefix (executed_in rows) (executed_in left))
  only_left None may only = tt
  only_left (Some rows) may only = λ left can. subst (λ l. IsPrefix (executed_in rows) (executed_in l)) (sym (only.alone left can))
      (front_of_all (executed_in rows))

  -- a target that is open and has executed what its rows spell
  pub ready_line : (t before : TargetView K) → is_open t.keeper → HasPast held t
      → IsLine held may_leave is_open (record { target = t; before = before; failed = false })
  ready_line t before opened past = record {
    past = past;
    told = refl;
    left = only_left (held t.keeper) (may_leave t.keeper) (settles t.keeper opened);
    opened = λ h. opened;
  }

  -- ---- what it was before

  same_past : (t s : TargetView K) (h : Option Rows) → held t.keeper ≡ h → IfSome h (λ rows. HasExecuted held t (executed_in rows))
      → held s.keeper ≡ held t.keeper → s.count ≡ t.count → HasPast held s
  same_past t s None at past same count = subst (λ x. IfSome x (λ rows. HasExecuted held s (executed_in rows))) (sym (same ∙ at)) tt
  same_past t s (Some rows) at past same count =
      subst (λ x. IfSome x (λ rs. HasExecuted held s (executed_in rs))) (sym (same ∙ at)) (record {
        tables = past.tables;
        run = record {
          rows = subst (λ x. Show x (record { executed = executed_in rows; tables = past.tables })) (sym same) past.run.rows;
          count =
              count ∙ past.run.count;
        };
      })

  untold : (h : Option Rows) (P : Rows → Type 0) → is_some h ≡ false → IfSome h P
  untold None P told = tt
  untold (Some rows) P told = cc

  -- ---- what it is then

  module _ (t s : TargetView K) (call : Call) (few : t.count ≤ 9223372036854775807) (long : 1 ≤ length call.tid) where
    module _ (rows : Rows) (at : held t.keeper ≡ Some rows) (past : HasExecuted held t (executed_in rows)) where
      abbrev so_far : Ran
      so_far = record { executed = executed_in rows; tables = past.tables }

      next : executed_in (changed (changes_of call so_far) rows) ≡ (ran call so_far).executed
      next = executed_next rows so_far call (subst (λ h. Show h so_far) at past.run.rows) (subst (λ n. n ≤ 9223372036854775807) past.run.count few) long refl

      longer : IsPrefix (executed_in rows) (executed_in (changed (changes_of call so_far) rows))
      longer = subst (IsPrefix (executed_in rows)) (sym next) (executed_before so_far call)

      left_of : (left : Rows) → IsBeforeOrAfter rows (changed (changes_of call so_far) rows) left → IsPrefix (executed_in rows) (executed_in left)
      left_of left (inl same) = subst (λ l. IsPrefix (executed_in rows) (executed_in l)) (sym same) (front_of_all (executed_in rows))
      left_of left (inr same) = subst (λ l. IsPrefix (executed_in rows) (executed_in l)) (sym same) longer

      module _ (o : CallOutcome) (c : IsCalled held may_leave is_open t s call (Ok o)) where
        now_held : held s.keeper ≡ Some (changed (changes_of call so_far) rows)
        now_held = subst (λ h. IfSome h (λ rs. (r : Ran) → HasRun held t r → held s.keeper ≡ Some (changed (changes_of call r) rs))) at c.rows so_far past.run

        past_now : HasPast held s
        past_now = subst (λ h. IfSome h (λ rs. HasExecuted held s (executed_in rs))) (sym now_held) (record {
          tables = (ran call so_far).tables;
          run = subst (λ xs. HasRun held s (record { executed = xs; tables = (ran call so_far).tables })) (sym next) (c.done so_far past.run);
        })

        carried : Carries (option_map executed_in (held t.keeper)) (option_map executed_in (held s.keeper)) (Ok (Some (record { tid = call.tid; outcome = o })))
        carried =
            told_both (option_map executed_in (held t.keeper)) (option_map executed_in (held s.keeper)) (executed_in rows)
            (executed_in (changed (changes_of call so_far) rows))
            (ap (option_map executed_in) at) (ap (option_map executed_in) now_held) longer (record { tid = call.tid; outcome = o })
            (ap (executed_as call.tid) next ∙ c.outcome so_far past.run)

    past_if : (h : Option Rows) → held t.keeper ≡ h → IfSome h (λ rows. HasExecuted held t (executed_in rows)) → (o : CallOutcome)
        → IsCalled held may_leave is_open t s call (Ok o) → HasPast held s
    past_if None at past o c = untold (held s.keeper) (λ rows. HasExecuted held s (executed_in rows)) (c.told ∙ ap is_some at)
    past_if (Some rows) at past o c = past_now rows at past o c

    left_if : (h : Option Rows) → held t.keeper ≡ h → IfSome h (λ rows. HasExecuted held t (executed_in rows))
        → IfSome h (λ rows. (r : Ran) → HasRun held t r → (left : Rows) → may_leave s.keeper left
        → IsBeforeOrAfter rows (changed (changes_of call r) rows) left)
        → IfSome h (λ rows. (left : Rows) → may_leave s.keeper left → IsPrefix (executed_in rows) (executed_in left))
    left_if None at past either = tt
    left_if (Some rows) at past either = λ left can. left_of rows at past left
        (either (record { executed = executed_in rows; tables = past.tables }) past.run left can)

    pub called_line : (result : Result CallOutcome TargetFault) → IsCalled held may_leave is_open t s call result → HasPast held t
        → IsLine held may_leave is_open (record { target = s; before = t; failed = is_store_fault result })
    called_line (Ok o) c past = ready_line s t c.opened (past_if (held t.keeper) refl past o c)
    called_line (Err fault.StoreFault) c past = record { past = past; told = c.told; left = left_if (held t.keeper) refl past c.left; opened = λ h. never h }
    called_line (Err (fault.BadRow table row)) c past = ready_line s t c.opened (same_past t s (held t.keeper) refl past c.unchanged c.count)
    called_line (Err fault.Full) c past = ready_line s t c.opened (same_past t s (held t.keeper) refl past c.unchanged c.count)
    called_line (Err fault.NoMemory) c past = ready_line s t c.opened (same_past t s (held t.keeper) refl past c.unchanged c.count)

    carried_if : (h : Option Rows) → held t.keeper ≡ h → IfSome h (λ rows. HasExecuted held t (executed_in rows)) → (o : CallOutcome)
        → IsCalled held may_leave is_open t s call (Ok o)
        → Carries (option_map executed_in (held t.keeper)) (option_map executed_in (held s.keeper)) (Ok (Some (record { tid = call.tid; outcome = o })))
    carried_if None at past o c =
        told_neither (option_map executed_in (held t.keeper)) (option_map executed_in (held s.keeper)) (ap (λ h. is_some (option_map executed_in h)) at)
        (past_told (held t.keeper) (held s.keeper) c.told ∙ ap (λ h. is_some (option_map executed_in h)) at)
        (Ok (Some (record { tid = call.tid; outcome = o })))
    carried_if (Some rows) at past o c = carried rows at past o c

    pub called_carries : (result : Result CallOutcome TargetFault) → IsCalled held may_leave is_open t s call result → HasPast held t → (answer : Answered)
        → IfOk answer (λ a. a ≡ answer_of call.tid result)
        → Carries (option_map executed_in (held t.keeper)) (executed_by held (record { target = s; before = t; failed = is_store_fault result })) answer
    called_carries (Ok o) c past answer is = as_answered _ _ (Some (record { tid = call.tid; outcome = o })) answer is
        (carried_if (held t.keeper) refl past o c)
    called_carries (Err fault.StoreFault) c past answer is = carries_none (option_map executed_in (held t.keeper))
        (option_map executed_in (held t.keeper)) answer refl is
    called_carries (Err (fault.BadRow table row)) c past answer is = carries_none _ _ answer (ap (option_map executed_in) c.unchanged) is
    called_carries (Err fault.Full) c past answer is = carries_none _ _ answer (ap (option_map executed_in) c.unchanged) is
    called_carries (Err fault.NoMemory) c past answer is = carries_none _ _ answer (ap (option_map executed_in) c.unchanged) is

  -- ---- opened anew

  kept_found : (a b : Option Rows) (may : Rows → Type 0) → IfSome a (λ rows. (left : Rows) → may left → IsPrefix (executed_in rows) (executed_in left))
      → IfSome b may
      → IfSome (option_map executed_in a) (λ xs. IfSome (option_map executed_in b) (λ ys. IsPrefix xs ys))
  kept_found None b may left found = tt
  kept_found (Some rows) None may left found = tt
  kept_found (Some rows) (Some now) may left found = left now found

  left_within : (a : Option Rows) (may more : Rows → Type 0) → IsWithin may more
      → IfSome a (λ rows. (left : Rows) → more left → IsPrefix (executed_in rows) (executed_in left))
      → IfSome a (λ rows. (left : Rows) → may left → IsPrefix (executed_in rows) (executed_in left))
  left_within None may more within all = tt
  left_within (Some rows) may more within all = λ left can. all left (within left can)

  module _ (t s before : TargetView K) (line : IsLine held may_leave is_open (record { target = t; before = before; failed = true })) where
    pub reopened_line : (result : Result Unit TargetFault) → IsReopened held may_leave is_open t s result
        → IsLine held may_leave is_open (record { target = s; before = before; failed = is_err result })
    reopened_line (Ok x) c = ready_line s before c.opened c.stands
    reopened_line (Err e) c =
        record {
          past = line.past;
          told = c.told ∙ line.told;
          left = left_within (held before.keeper) (may_leave s.keeper)
              (may_leave t.keeper) c.left line.left;
          opened = λ h. never h;
        }

    pub reopened_carries : (result : Result Unit TargetFault) → IsReopened held may_leave is_open t s result
        → Carries (option_map executed_in (held before.keeper)) (executed_by held (record { target = s; before = before; failed = is_err result })) (Ok None)
    reopened_carries (Ok x) c = record {
      told = past_told (held before.keeper) (held s.keeper) (c.told ∙ line.told);
      kept = kept_found (held before.keeper) (held s.keeper) (may_leave t.keeper) line.left c.found;
      answered = tt;
    }
    reopened_carries (Err e) c = carries_none (option_map executed_in (held before.keeper)) (option_map executed_in (held before.keeper)) (Ok None) refl refl
