-- What a call leaves of a target.
use Rattle.std.proofs.Common.{◌≡◌, ℕ, ◌+◌, ◌≤◌, ◌<◌, List, length, Option, Some, None, IfSome, refl, sym, ap, subst, ◌∙◌}
use Rattle.std.proofs.lemmas.List.{length_push}
use Rattle.keeper_api.specs.Batch.{changed}
use Rattle.keeper_api.specs.Keeping.{IsBeforeOrAfter}
use Rattle.keeper_api.specs.Rows.{Rows, value_at}
use Rattle.remote_target.specs.declared.call.CallOutcome.{CallOutcome}
use Rattle.remote_target.specs.Rows.{IsOutcomeIn, StandFor, changes_at, changes_if, changes_of}
use Rattle.remote_target.specs.Runs.{Call, Ran, executed_as, execution, ran, ran_if}
use Rattle.remote_target.specs.Targets.{HasRun, IsDoneAt, Show, TargetView, with_call_at}
use Rattle.remote_target.proofs.Executions.{as_new}
use Rattle.remote_target.proofs.Stands.{known_is, stands_after}

abbrev call_of : List ℕ → List ℕ → Call
call_of tid text = record { tid = tid; text = text }

shown : (held : Option Rows) (rows : Rows) (r : Ran) → held ≡ Some rows → Show held r → StandFor rows r
shown held rows r is h = subst (λ x. Show x r) is h

-- what is read of a known call
pub known_as : (held : Option Rows) (tid : List ℕ) (found : Option CallOutcome) (r : Ran) → 1 ≤ length tid
    → IfSome held (λ rows. IsOutcomeIn (value_at rows 0 tid) found) → Show held r → executed_as tid r.executed ≡ found
known_as None tid found r long read h = absurd h
known_as (Some rows) tid found r long read h = known_is rows r tid found long h read

module _ {K : Type 0} (held : K → Option Rows) (before : K) (count : ℕ) (call : Call) where
  abbrev here : TargetView K
  here = record { keeper = before; count = count }

  -- ---- a known call

  module _ (after : K) (o : CallOutcome) (same : held after ≡ held before)
      (known : (r : Ran) → Show (held before) r → executed_as call.tid r.executed ≡ Some o) where
    stays : (r : Ran) → HasRun held here r → ran call r ≡ r
    stays r run = ap (λ k. ran_if k call r) (known r run.rows)

    pub known_outcome : (r : Ran) → HasRun held here r → executed_as call.tid (ran call r).executed ≡ Some o
    known_outcome r run = ap (λ (s : Ran). executed_as call.tid s.executed) (stays r run) ∙ known r run.rows

    pub known_done : (r : Ran) → HasRun held here r → HasRun held (record { keeper = after; count = count }) (ran call r)
    known_done r run = subst (HasRun held (record { keeper = after; count = count })) (sym (stays r run)) (record {
      rows = subst (λ x. Show x r) (sym same) run.rows;
      count = run.count;
    })

    rows_if : (h : Option Rows) → held before ≡ h → IfSome h (λ rows. (r : Ran) → HasRun held here r → held after ≡ Some (changed (changes_of call r) rows))
    rows_if None is = tt
    rows_if (Some rows) is = λ r run. same ∙ is ∙ ap Some (sym (ap (λ k. changed (changes_if k call r) rows) (known r run.rows)))

    pub known_rows : IfSome (held before) (λ rows. (r : Ran) → HasRun held here r → held after ≡ Some (changed (changes_of call r) rows))
    known_rows = rows_if (held before) refl

    pub known_full : (r : Ran) → HasRun held here r → executed_as call.tid r.executed ≡ None → length r.executed < 9223372036854775807
    known_full r run none = let is = known r run.rows in cc

  -- ---- a new call

  module _ (looked after : K) (place : ℕ) (same : held looked ≡ held before) (at : place ≡ count + 1)
      (fresh : (r : Ran) → Show (held before) r → executed_as call.tid r.executed ≡ None) where
    at_end : (r : Ran) → HasRun held here r → place ≡ length r.executed + 1
    at_end r run = at ∙ ap (λ n. n + 1) run.count

    changes_are : (r : Ran) → HasRun held here r → changes_at place call r ≡ changes_of call r
    changes_are r run = ap (λ p. changes_at p call r) (at_end r run) ∙ sym (ap (λ k. changes_if k call r) (fresh r run.rows))

    ran_is : (r : Ran) → HasRun held here r → ran call r ≡ ran_if None call r
    ran_is r run = ap (λ k. ran_if k call r) (fresh r run.rows)

    module _ (may_leave : K → Rows → Type 0)
        (either : IfSome (held looked)
        (λ rows. (r : Ran) → StandFor rows r → (left : Rows) → may_leave after left → IsBeforeOrAfter rows (with_call_at place call r rows) left)) where
      left_if : (h : Option Rows) → held before ≡ h
          → IfSome h (λ rows. (r : Ran) → HasRun held here r → (left : Rows) → may_leave after left
          → IsBeforeOrAfter rows (changed (changes_of call r) rows) left)
      left_if None is = tt
      left_if (Some rows) is =
          let told = subst (λ x. IfSome x
          (λ rows. (r : Ran) → StandFor rows r → (left : Rows) → may_leave after left → IsBeforeOrAfter rows (with_call_at place call r rows) left))
          (same ∙ is) either in
          λ r run left h. subst (λ cs. IsBeforeOrAfter rows (changed cs rows) left) (changes_are r run) (told r (shown (held before) rows r is run.rows) left h)

      pub new_left : IfSome (held before)
          (λ rows. (r : Ran) → HasRun held here r → (left : Rows) → may_leave after left → IsBeforeOrAfter rows (changed (changes_of call r) rows) left)
      new_left = left_if (held before) refl

    module _ (o : CallOutcome) (made : IfSome (held looked) (λ rows. (r : Ran) → StandFor rows r → IsDoneAt place call r rows o (held after))) where
      done_if : (h : Option Rows) → held before ≡ h → (r : Ran) → HasRun held here r → (rows : Rows) × (held before ≡ Some rows)
          × IsDoneAt place call r rows o (held after)
      done_if None is r run = absurd (subst (λ x. Show x r) is run.rows)
      done_if (Some rows) is r run =
          let told = subst (λ x. IfSome x (λ rows. (r : Ran) → StandFor rows r → IsDoneAt place call r rows o (held after))) (same ∙ is) made in
          (rows, is, told r (shown (held before) rows r is run.rows))

      done_at : (r : Ran) → HasRun held here r → (rows : Rows) × (held before ≡ Some rows) × IsDoneAt place call r rows o (held after)
      done_at r run = done_if (held before) refl r run

      now_held : (r : Ran) (run : HasRun held here r) → held after ≡ Some (changed (changes_of call r) (done_at r run).0)
      now_held r run = (done_at r run).2.made ∙ ap (λ cs. Some (changed cs (done_at r run).0)) (changes_are r run)

      pub new_outcome : (r : Ran) → HasRun held here r → executed_as call.tid (ran call r).executed ≡ Some o
      new_outcome r run =
          ap (λ (s : Ran). executed_as call.tid s.executed) (ran_is r run)
          ∙ as_new (execution call r) r.executed (fresh r run.rows)
          ∙ ap Some (sym (done_at r run).2.comes)

      pub new_done : (r : Ran) → HasRun held here r → HasRun held (record { keeper = after; count = place }) (ran call r)
      new_done r run = record {
        rows = subst (λ x. Show x (ran call r)) (sym (now_held r run))
            (stands_after (done_at r run).0 r call (shown (held before) (done_at r run).0 r (done_at r run).1 run.rows));
        count = at_end r run ∙ sym (length_push r.executed (execution call r)) ∙ sym (ap (λ (s : Ran). length s.executed) (ran_is r run));
      }

      new_rows_if : (h : Option Rows) → held before ≡ h
          → IfSome h (λ rows. (r : Ran) → HasRun held here r → held after ≡ Some (changed (changes_of call r) rows))
      new_rows_if None is = tt
      new_rows_if (Some rows) is = λ r run.
          let found = done_at r run in
          let one : found.0 ≡ rows = cc_some (sym found.1 ∙ is) in
          now_held r run ∙ ap (λ rs. Some (changed (changes_of call r) rs)) one
        where
          cc_some : {x y : Rows} → Some x ≡ Some y → x ≡ y
          cc_some h = cc

      pub new_rows : IfSome (held before) (λ rows. (r : Ran) → HasRun held here r → held after ≡ Some (changed (changes_of call r) rows))
      new_rows = new_rows_if (held before) refl
