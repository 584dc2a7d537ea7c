-- How calls end that use the store, and what a step that was tried leaves of it.
use Rattle.std.proofs.Common.{◌≡◌, inl, ℕ, refl, ap, ◌∙◌, subst, arith}
use Rattle.std.specs.Prelude.{Option, Some, None, Result, Ok, Err, IfSome, OnErr, OnOk, is_some}
use Rattle.enq_base.specs.declared.refusal.Refusal.{Refusal}
use Rattle.enq_base.specs.declared.refusal.Refusal.TheVariants as refusal
use Rattle.keeper_api.specs.Keeping.{HasFaultCause, IsOnly, IsWithin, OnNoMemory}
use Rattle.keeper_api.specs.Rows.{Rows}
use Rattle.keeper_api.specs.declared.fault.KeepFault.{KeepFault}
use Rattle.keeper_api.specs.declared.fault.KeepFault.TheVariants as fault
use Rattle.posting.specs.BooksView.{IsUnmoved, IsUsable, BooksView, StandForEither}
use Rattle.ledger_steps.specs.Steps.{after_step}
use Rattle.ledger_steps.specs.declared.step.Step.{Step}
use Rattle.update_records.specs.Ledger.{Ledger, StandFor}
use Rattle.hall_calls.specs.Leaving.{HasStoreCause, KeepsStore}
use Rattle.hall_calls.specs.Storing.{EndsAs, StaysAsItWas, TriesStep}
use Rattle.hall_model.specs.declared.command.Reply.{Reply}
use Rattle.hall_model.specs.declared.command.Reply.TheVariants as reply
use Rattle.hall_calls.specs.Written.{OnStoreFailure, written_reply}
use Rattle.hall_calls.specs.declared.units.Written.{Written}
use Rattle.hall_calls.specs.declared.units.Written.TheVariants.{Answered, Failed, Unfiled}
use Rattle.hall_calls.proofs.ending.AfterStop.{answered_leaves, failed_leaves, where_told}

module _ {K : Type 0} (held : K → Option Rows) (is_open : K → Type 0) (may_leave : K → Rows → Type 0) (faults : K → ℕ) where
  -- while calls are allowed, a stop leaves the rows that are held
  abbrev pub IsSettled : Type 0
  IsSettled = (keeper : K) → is_open keeper → IfSome (held keeper) (λ rows. IsOnly rows (may_leave keeper))

  -- ---- the books are as before

  -- the answer tells of no failure, and asks nothing of a store that is the same
  pub quiet_ends : IsSettled → (shelf : BooksView K) → IsUsable held is_open shelf → (r : Reply) → ((n : ℕ) → HasStoreCause n n r)
      → ((k : K) → KeepsStore held may_leave k k r)
      → EndsAs held is_open may_leave faults shelf shelf (Answered r)
  quiet_ends settled shelf usable r quiet keeps = record {
    ledger = tt;
    usable = usable;
    told = refl;
    left = answered_leaves held is_open may_leave shelf settled usable;
    cause = quiet (faults shelf.keeper);
    kept = keeps shelf.keeper;
  }

  -- ---- a step was tried

  -- it was written
  pub done_ends : IsSettled → (old new : BooksView K) (step : Step) → TriesStep held is_open may_leave faults old new step (Ok tt)
      → (r : Reply) → ((n m : ℕ) → m ≡ n → HasStoreCause n m r) → KeepsStore held may_leave old.keeper new.keeper r
      → EndsAs held is_open may_leave faults old new (Answered r)
  done_ends settled old new step tried r quiet keeps = record {
    ledger = tt;
    usable = tried.usable;
    told = tried.told;
    left = answered_leaves held is_open may_leave new settled tried.usable;
    cause = quiet (faults old.keeper) (faults new.keeper) tried.cause.quiet;
    kept = keeps;
  }

  -- memory was wanting before it was written
  pub wanting_ends : IsSettled → (old new : BooksView K) (step : Step) → TriesStep held is_open may_leave faults old new step (Err fault.NoMemory)
      → EndsAs held is_open may_leave faults old new (Answered (reply.Refused refusal.NoMemory))
  wanting_ends settled old new step tried = record {
    ledger = tt;
    usable = tried.usable;
    told = tried.told;
    left = answered_leaves held is_open may_leave new settled tried.usable;
    cause = tried.cause.quiet;
    kept = (tried.untouched.rows, tried.untouched.crash);
  }

  -- the store failed, with a change in flight that is the step
  pub failed_ends : (old new : BooksView K) (step : Step) (change : Step) → TriesStep held is_open may_leave faults old new step (Err fault.Failed)
      → after_step old.ledger step ≡ after_step old.ledger change → EndsAs held is_open may_leave faults old new (Failed (Some change))
  failed_ends old new step change tried is = record {
    ledger = tried.kept;
    usable = tt;
    told = tried.told;
    left = failed_leaves (held new.keeper) (held new.keeper) (may_leave new.keeper) new.ledger old.ledger step change refl tried.kept
        (where_told (held new.keeper) _ is) tried.left;
    cause = (tried.cause.later, tried.cause.failed);
    kept = tt;
  }

  -- ---- how a step is tried

  either_stays : (o : Option Rows) (P : Rows → Type 0) (ledger old : Ledger) (step : Step) → ledger ≡ old
      → IfSome o (λ _. (left : Rows) → P left → StandFor left ledger)
      → IfSome o (λ _. (left : Rows) → P left → StandForEither left old step)
  either_stays None P ledger old step same h = tt
  either_stays (Some rows) P ledger old step same h = λ left may. inl (subst (StandFor left) same (h left may))

  -- memory was wanting while it was made ready
  pub wanting_tries : IsSettled → (old new : BooksView K) (step : Step) → IsUsable held is_open new → IsUnmoved held may_leave faults old new
      → TriesStep held is_open may_leave faults old new step (Err fault.NoMemory)
  wanting_tries settled old new step usable same = record {
    done = tt;
    kept = same.ledger;
    usable = usable;
    told = ap is_some same.rows;
    left = either_stays (held new.keeper) (may_leave new.keeper) new.ledger old.ledger step same.ledger
        (answered_leaves held is_open may_leave new settled usable);
    cause = let count = same.count in record { later = omega (arith, count); failed = tt; quiet = count };
    untouched = record { rows = same.rows; crash = same.crash };
  }

  -- nothing was done yet
  pub unmoved : (shelf : BooksView K) → IsUnmoved held may_leave faults shelf shelf
  unmoved shelf = record { ledger = refl; rows = refl; crash = λ left may. may; count = refl }

  untouched_more : (old mid new : K) (result : Result Unit KeepFault) → held mid ≡ held old → IsWithin (may_leave mid) (may_leave old)
      → OnNoMemory result (StaysAsItWas held may_leave mid new) → OnNoMemory result (StaysAsItWas held may_leave old new)
  untouched_more old mid new (Ok x) rows crash h = tt
  untouched_more old mid new (Err fault.Failed) rows crash h = tt
  untouched_more old mid new (Err fault.NoMemory) rows crash h = record { rows = h.rows ∙ rows; crash = λ left may. crash left (h.crash left may) }

  -- it was made ready and then tried
  pub ready_tries : (old mid new : BooksView K) (ready step : Step) (result : Result Unit KeepFault) → ready ≡ step → IsUnmoved held may_leave faults old mid
      → TriesStep held is_open may_leave faults mid new ready result → TriesStep held is_open may_leave faults old new step result
  ready_tries old mid new ready step result is same tried = record {
    done = subst (λ s. OnOk result (new.ledger ≡ after_step old.ledger s)) is
        (subst (λ l. OnOk result (new.ledger ≡ after_step l ready)) same.ledger tried.done);
    kept = subst (λ l. OnErr result (new.ledger ≡ l)) same.ledger tried.kept;
    usable = tried.usable;
    told = tried.told ∙ ap is_some same.rows;
    left = subst (λ s. IfSome (held new.keeper) (λ _. (left : Rows) → may_leave new.keeper left → StandForEither left old.ledger s)) is
        (subst (λ l. IfSome (held new.keeper) (λ _. (left : Rows) → may_leave new.keeper left → StandForEither left l ready)) same.ledger tried.left);
    cause = subst (λ n. HasFaultCause n (faults new.keeper) result) same.count tried.cause;
    untouched = untouched_more old.keeper mid.keeper new.keeper result same.rows same.crash tried.untouched;
  }

  -- ---- a call that does something else between what it makes ready and what it writes

  -- memory was wanting in it
  pub unready_ends : IsSettled → (old mid : BooksView K) → IsUsable held is_open mid → IsUnmoved held may_leave faults old mid
      → EndsAs held is_open may_leave faults old mid (Answered (reply.Refused refusal.NoMemory))
  unready_ends settled old mid usable same = record {
    ledger = tt;
    usable = usable;
    told = ap is_some same.rows;
    left = answered_leaves held is_open may_leave mid settled usable;
    cause = same.count;
    kept = (same.rows, same.crash);
  }

  -- the disk of the backup file failed in it
  pub unfiled_ends : IsSettled → (old mid : BooksView K) → IsUsable held is_open mid → IsUnmoved held may_leave faults old mid
      → EndsAs held is_open may_leave faults old mid Unfiled
  unfiled_ends settled old mid usable same = record {
    ledger = tt;
    usable = tt;
    told = ap is_some same.rows;
    left = answered_leaves held is_open may_leave mid settled usable;
    cause = same.count;
    kept = tt;
  }

  refused_more : (old mid new : K) (r : Refusal) → held mid ≡ held old → IsWithin (may_leave mid) (may_leave old)
      → KeepsStore held may_leave mid new (reply.Refused r) → KeepsStore held may_leave old new (reply.Refused r)
  refused_more old mid new refusal.StoreFault rows crash h = tt
  refused_more old mid new refusal.BackupFault rows crash h = tt
  refused_more old mid new _ rows crash h = (h.0 ∙ rows, λ left may. crash left (h.1 left may))

  keeps_more : (old mid new : K) (r : Reply) → held mid ≡ held old → IsWithin (may_leave mid) (may_leave old) → KeepsStore held may_leave mid new r
      → KeepsStore held may_leave old new r
  keeps_more old mid new (reply.Refused r) rows crash h = refused_more old mid new r rows crash h
  keeps_more old mid new (reply.Row text) rows crash h = (h.0 ∙ rows, λ left may. crash left (h.1 left may))
  keeps_more old mid new _ rows crash h = tt

  -- what came behind it ended so
  pub ready_ends : (old mid new : BooksView K) (w : Written) → IsUnmoved held may_leave faults old mid → EndsAs held is_open may_leave faults mid new w
      → EndsAs held is_open may_leave faults old new w
  ready_ends old mid new w same h = record {
    ledger = subst (λ l. OnStoreFailure w (new.ledger ≡ l)) same.ledger h.ledger;
    usable = h.usable;
    told = h.told ∙ ap is_some same.rows;
    left = h.left;
    cause = subst (λ n. HasStoreCause n (faults new.keeper) (written_reply w)) same.count h.cause;
    kept = keeps_more old.keeper mid.keeper new.keeper (written_reply w) same.rows same.crash h.kept;
  }
