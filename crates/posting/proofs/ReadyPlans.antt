-- A change for which the memory was taken can be written.
use Rattle.std.proofs.Common.{◌≡◌, ◌≤◌, List, length, Option, IfSome, refl, sym, subst, ◌∙◌}
use Rattle.keeper_api.specs.declared.rows.Change.{Change}
use Rattle.keeper_api.specs.Batch.{changed}
use Rattle.keeper_api.specs.Rows.{Rows}
use Rattle.module_effects.specs.Spots.{with_spots}
use Rattle.module_effects.specs.declared.spot.Spot.{Spot}
use Rattle.update_records.specs.Ledger.{Ledger, StandFor}
use Rattle.ledger_steps.specs.Steps.{after_step, intervals_in}
use Rattle.ledger_steps.specs.declared.step.Step.{Step}
use Rattle.posting.specs.BooksView.{BooksView, IsReady, MayTake}
use Rattle.posting.specs.Mirrors.{business}

-- what a step leaves of the business rows, said of equal ledgers, steps and rows
pub same_leaves : (given ledger : Ledger) (made step : Step) (spots rows : List Spot) → given ≡ ledger → made ≡ step → spots ≡ rows
    → business (after_step ledger step) ≡ with_spots rows (business ledger) → business (after_step given made) ≡ with_spots spots (business given)
same_leaves given ledger made step spots rows ledger_is step_is rows_are leaves =
    (λ i. business (after_step (ledger_is i) (step_is i))) ∙ leaves ∙ sym (λ i. with_spots (rows_are i) (business (ledger_is i)))

pub ready_plan : {K : Type 0} (held : K → Option Rows) (has_room : K → List Change → Type 0) (old new : BooksView K) (seen batch made : List Change)
    (rows left : List Spot) (step : Step) → seen ≡ batch → made ≡ batch → left ≡ rows → new.ledger ≡ old.ledger → held new.keeper ≡ held old.keeper
    → has_room new.keeper seen → 1 ≤ new.room → length (intervals_in step) ≤ new.spare → length rows ≤ new.places → MayTake old.ledger step
    → IfSome (held old.keeper) (λ rows. StandFor (changed batch rows) (after_step old.ledger step))
    → business (after_step old.ledger step) ≡ with_spots rows (business old.ledger)
    → IsReady held has_room new (record { batch = made; rows = left; step = step })
ready_plan held has_room old new seen batch made rows left step was is left_is ledger told kept space spare places may makes leaves = record {
  kept = subst (has_room new.keeper) (was ∙ sym is) kept;
  space = space;
  spare = spare;
  places = subst (λ ss. length ss ≤ new.places) (sym left_is) places;
  step = subst (λ (l : Ledger). MayTake l step) (sym ledger) may;
  makes = subst (λ b. IfSome (held new.keeper) (λ rows. StandFor (changed b rows) (after_step new.ledger step))) (sym is)
      (subst (λ (l : Ledger). IfSome (held new.keeper) (λ rows. StandFor (changed batch rows) (after_step l step))) (sym ledger)
      (subst (λ o. IfSome o (λ rows. StandFor (changed batch rows) (after_step old.ledger step))) (sym told) makes));
  leaves = same_leaves new.ledger old.ledger step step left rows ledger refl left_is leaves;
}
