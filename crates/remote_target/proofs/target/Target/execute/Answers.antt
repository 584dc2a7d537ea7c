use Rattle.std.proofs.Common.{◌≡◌, ◌+◌, ◌<◌, ◌≤◌, length, Some, None, IfSome, refl, subst, ◌∙◌}
use Rattle.keeper_api.specs.Batch.{changed}
use Rattle.keeper_api.specs.Keeping.{IsBeforeOrAfter}
use Rattle.keeper_api.specs.Rows.{Rows}
use Rattle.remote_target.specs.Rows.{changes_of}
use Rattle.remote_target.specs.Runs.{Call, Ran, executed_as, ran}
use Rattle.remote_target.specs.Targets.{HasRun, Show}
use Rattle.remote_target.proofs.Batches.{key_long}
use Rattle.remote_target.proofs.Calling.{known_as, known_done, known_full, known_outcome, known_rows, new_done, new_left, new_outcome, new_rows}
use Rattle.remote_target.proofs.target.Target.execute.Goals as goal

pub returns-in-Some-clause-outcome : goal.returns-in-Some-clause-outcome
returns-in-Some-clause-outcome g c =
    let held = g.K.Keeper.held in
    let call : Call = record { tid = c.args.tid.now; text = c.args.text.now } in
    let known : (r : Ran) → Show (held c.self.inside.keeper) r → executed_as c.args.tid.now r.executed ≡ Some c.in-Some.outcome =
    λ r h. known_as (held c.self.inside.keeper) c.args.tid.now c.in_ok-outcome.field-0 r
    (key_long c.args.tid.now c.bytes-key.ensures.grammar) c.in_ok-outcome.ensures.outcome h ∙ c.in-Some.is in
    subst (λ t. (r : Ran) → HasRun held t r → executed_as c.args.tid.now (ran call r).executed ≡ Some c.in-Some.outcome) c.self.view_is
    (known_outcome held c.self.inside.keeper c.self.inside.count call c.known_outcome.new.keeper c.in-Some.outcome c.in_ok-outcome.ensures.stays.rows known)

pub returns-in-Some-clause-done : goal.returns-in-Some-clause-done
returns-in-Some-clause-done g c =
    let held = g.K.Keeper.held in
    let call : Call = record { tid = c.args.tid.now; text = c.args.text.now } in
    let known : (r : Ran) → Show (held c.self.inside.keeper) r → executed_as c.args.tid.now r.executed ≡ Some c.in-Some.outcome =
    λ r h. known_as (held c.self.inside.keeper) c.args.tid.now c.in_ok-outcome.field-0 r
    (key_long c.args.tid.now c.bytes-key.ensures.grammar) c.in_ok-outcome.ensures.outcome h ∙ c.in-Some.is in
    subst (λ t. (r : Ran) → HasRun held t r → HasRun held (record { keeper = c.known_outcome.new.keeper; count = c.self.inside.count }) (ran call r))
    c.self.view_is
    (known_done held c.self.inside.keeper c.self.inside.count call c.known_outcome.new.keeper c.in-Some.outcome c.in_ok-outcome.ensures.stays.rows known)

pub returns-in-Some-clause-rows : goal.returns-in-Some-clause-rows
returns-in-Some-clause-rows g c =
    let held = g.K.Keeper.held in
    let call : Call = record { tid = c.args.tid.now; text = c.args.text.now } in
    let known : (r : Ran) → Show (held c.self.inside.keeper) r → executed_as c.args.tid.now r.executed ≡ Some c.in-Some.outcome =
    λ r h. known_as (held c.self.inside.keeper) c.args.tid.now c.in_ok-outcome.field-0 r
    (key_long c.args.tid.now c.bytes-key.ensures.grammar) c.in_ok-outcome.ensures.outcome h ∙ c.in-Some.is in
    subst (λ t. IfSome (held t.keeper) (λ rows. (r : Ran) → HasRun held t r → held c.known_outcome.new.keeper ≡ Some (changed (changes_of call r) rows)))
    c.self.view_is
    (known_rows held c.self.inside.keeper c.self.inside.count call c.known_outcome.new.keeper c.in-Some.outcome c.in_ok-outcome.ensures.stays.rows known)

pub returns-in-Some-clause-full : goal.returns-in-Some-clause-full
returns-in-Some-clause-full g c =
    let held = g.K.Keeper.held in
    let call : Call = record { tid = c.args.tid.now; text = c.args.text.now } in
    let known : (r : Ran) → Show (held c.self.inside.keeper) r → executed_as c.args.tid.now r.executed ≡ Some c.in-Some.outcome =
    λ r h. known_as (held c.self.inside.keeper) c.args.tid.now c.in_ok-outcome.field-0 r
    (key_long c.args.tid.now c.bytes-key.ensures.grammar) c.in_ok-outcome.ensures.outcome h ∙ c.in-Some.is in
    subst (λ t. (r : Ran) → HasRun held t r → executed_as c.args.tid.now r.executed ≡ None → length r.executed < 9223372036854775807) c.self.view_is
    (known_full held c.self.inside.keeper c.self.inside.count call c.known_outcome.new.keeper c.in-Some.outcome c.in_ok-outcome.ensures.stays.rows known)

pub returns-then-self-ge-LIMIT-clause-full : goal.returns-then-self-ge-LIMIT-clause-full
returns-then-self-ge-LIMIT-clause-full g c =
    let held = g.K.Keeper.held in
    let many = c.if-self-ge-LIMIT.true in
    subst (λ t. (r : Ran) → HasRun held t r → (executed_as c.args.tid.now r.executed ≡ None) × (9223372036854775807 ≤ length r.executed)) c.self.view_is
    (λ r run. (
      known_as (held c.self.inside.keeper) c.args.tid.now c.in_ok-outcome.field-0 r
          (key_long c.args.tid.now c.bytes-key.ensures.grammar) c.in_ok-outcome.ensures.outcome run.rows
          ∙ c.in_default.is,
      subst (λ n. 9223372036854775807 ≤ n) run.count many,
    ))

pub returns-in_err-outcome-2-clause-left : goal.returns-in_err-outcome-2-clause-left
returns-in_err-outcome-2-clause-left g c =
    let held = g.K.Keeper.held in
    let call : Call = record { tid = c.args.tid.now; text = c.args.text.now } in
    let fresh : (r : Ran) → Show (held c.self.inside.keeper) r → executed_as c.args.tid.now r.executed ≡ None =
    λ r h. known_as (held c.self.inside.keeper) c.args.tid.now c.in_ok-outcome.field-0 r
    (key_long c.args.tid.now c.bytes-key.ensures.grammar) c.in_ok-outcome.ensures.outcome h ∙ c.in_default.is in
    subst (λ t. IfSome (held t.keeper)
    (λ rows. (r : Ran) → HasRun held t r → (left : Rows) → g.K.Keeper.may_leave c.execute_new.new.keeper left
    → IsBeforeOrAfter rows (changed (changes_of call r) rows) left)) c.self.view_is
    (new_left held c.self.inside.keeper c.self.inside.count call c.known_outcome.new.keeper c.execute_new.new.keeper
    (c.self.inside.count + 1) c.in_ok-outcome.ensures.stays.rows refl fresh g.K.Keeper.may_leave c.execute_new.ensures.either)

pub returns-clause-left : goal.returns-clause-left
returns-clause-left g c =
    let held = g.K.Keeper.held in
    let call : Call = record { tid = c.args.tid.now; text = c.args.text.now } in
    let fresh : (r : Ran) → Show (held c.self.inside.keeper) r → executed_as c.args.tid.now r.executed ≡ None =
    λ r h. known_as (held c.self.inside.keeper) c.args.tid.now c.in_ok-outcome.field-0 r
    (key_long c.args.tid.now c.bytes-key.ensures.grammar) c.in_ok-outcome.ensures.outcome h ∙ c.in_default.is in
    subst (λ t. IfSome (held t.keeper)
    (λ rows. (r : Ran) → HasRun held t r → (left : Rows) → g.K.Keeper.may_leave c.execute_new.new.keeper left
    → IsBeforeOrAfter rows (changed (changes_of call r) rows) left)) c.self.view_is
    (new_left held c.self.inside.keeper c.self.inside.count call c.known_outcome.new.keeper c.execute_new.new.keeper
    (c.self.inside.count + 1) c.in_ok-outcome.ensures.stays.rows refl fresh g.K.Keeper.may_leave c.execute_new.ensures.either)

pub returns-clause-outcome : goal.returns-clause-outcome
returns-clause-outcome g c =
    let held = g.K.Keeper.held in
    let call : Call = record { tid = c.args.tid.now; text = c.args.text.now } in
    let fresh : (r : Ran) → Show (held c.self.inside.keeper) r → executed_as c.args.tid.now r.executed ≡ None =
    λ r h. known_as (held c.self.inside.keeper) c.args.tid.now c.in_ok-outcome.field-0 r
    (key_long c.args.tid.now c.bytes-key.ensures.grammar) c.in_ok-outcome.ensures.outcome h ∙ c.in_default.is in
    subst (λ t. (r : Ran) → HasRun held t r → executed_as c.args.tid.now (ran call r).executed ≡ Some c.in_ok-outcome-2.outcome) c.self.view_is
    (new_outcome held c.self.inside.keeper c.self.inside.count call c.known_outcome.new.keeper c.execute_new.new.keeper
    (c.self.inside.count + 1) c.in_ok-outcome.ensures.stays.rows refl fresh c.in_ok-outcome-2.outcome c.in_ok-outcome-2.ensures.done)

pub returns-clause-done : goal.returns-clause-done
returns-clause-done g c =
    let held = g.K.Keeper.held in
    let call : Call = record { tid = c.args.tid.now; text = c.args.text.now } in
    let fresh : (r : Ran) → Show (held c.self.inside.keeper) r → executed_as c.args.tid.now r.executed ≡ None =
    λ r h. known_as (held c.self.inside.keeper) c.args.tid.now c.in_ok-outcome.field-0 r
    (key_long c.args.tid.now c.bytes-key.ensures.grammar) c.in_ok-outcome.ensures.outcome h ∙ c.in_default.is in
    subst (λ t. (r : Ran) → HasRun held t r → HasRun held (record { keeper = c.execute_new.new.keeper; count = c.self.inside.count + 1 }) (ran call r))
    c.self.view_is
    (new_done held c.self.inside.keeper c.self.inside.count call c.known_outcome.new.keeper c.execute_new.new.keeper
    (c.self.inside.count + 1) c.in_ok-outcome.ensures.stays.rows refl fresh c.in_ok-outcome-2.outcome c.in_ok-outcome-2.ensures.done)

pub returns-clause-rows : goal.returns-clause-rows
returns-clause-rows g c =
    let held = g.K.Keeper.held in
    let call : Call = record { tid = c.args.tid.now; text = c.args.text.now } in
    let fresh : (r : Ran) → Show (held c.self.inside.keeper) r → executed_as c.args.tid.now r.executed ≡ None =
    λ r h. known_as (held c.self.inside.keeper) c.args.tid.now c.in_ok-outcome.field-0 r
    (key_long c.args.tid.now c.bytes-key.ensures.grammar) c.in_ok-outcome.ensures.outcome h ∙ c.in_default.is in
    subst (λ t. IfSome (held t.keeper) (λ rows. (r : Ran) → HasRun held t r → held c.execute_new.new.keeper ≡ Some (changed (changes_of call r) rows)))
    c.self.view_is
    (new_rows held c.self.inside.keeper c.self.inside.count call c.known_outcome.new.keeper c.execute_new.new.keeper
    (c.self.inside.count + 1) c.in_ok-outcome.ensures.stays.rows refl fresh c.in_ok-outcome-2.outcome c.in_ok-outcome-2.ensures.done)
