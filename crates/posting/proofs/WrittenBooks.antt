-- What a write leaves of the books, by what the commit of its batch leaves of the keeper.
use Rattle.std.proofs.Common.{◌≡◌, ◌⊎◌, inl, inr, List, Option, None, Some, IfSome, sym, subst}
use Rattle.keeper_api.specs.declared.rows.Change.{Change}
use Rattle.keeper_api.specs.Batch.{changed, held_after}
use Rattle.keeper_api.specs.Keeping.{IsBeforeOrAfter}
use Rattle.keeper_api.specs.Rows.{Rows}
use Rattle.update_records.specs.Ledger.{Ledger, StandFor}

-- the rows stand for the ledger that the batch makes
pub written_stand : (old new : Option Rows) (batch : List Change) (made after : Ledger) → new ≡ held_after batch old
    → IfSome old (λ rows. StandFor (changed batch rows) made) → after ≡ made → IfSome new (λ rows. StandFor rows after)
written_stand None new batch made after is makes same = subst (λ held. IfSome held (λ rows. StandFor rows after)) (sym is) tt
written_stand (Some rows) new batch made after is makes same =
    subst (λ held. IfSome held (λ rows. StandFor rows after)) (sym is) (subst (StandFor (changed batch rows)) (sym same) makes)

-- ---- what a crash may leave

same_or_made : (left rows : Rows) (batch : List Change) (made : Ledger) → StandFor (changed batch rows) made → IsBeforeOrAfter rows (changed batch rows) left
    → (left ≡ rows) ⊎ StandFor left made
same_or_made left rows batch made makes (inl was) = inl was
same_or_made left rows batch made makes (inr now) = inr (subst (λ r. StandFor r made) (sym now) makes)

leaves_same : (held : Option Rows) (may_leave : Rows → Type 0) (batch : List Change) (made : Ledger)
    → IfSome held (λ rows. StandFor (changed batch rows) made)
    → IfSome held (λ rows. (left : Rows) → may_leave left → IsBeforeOrAfter rows (changed batch rows) left)
    → IfSome held (λ rows. (left : Rows) → may_leave left → (left ≡ rows) ⊎ StandFor left made)
leaves_same None may_leave batch made makes either = tt
leaves_same (Some rows) may_leave batch made makes either = λ left may. same_or_made left rows batch made makes (either left may)

stood_or_made : (left rows : Rows) (ledger made : Ledger) → StandFor rows ledger → (left ≡ rows) ⊎ StandFor left made
    → StandFor left ledger ⊎ StandFor left made
stood_or_made left rows ledger made stands (inl was) = inl (subst (λ r. StandFor r ledger) (sym was) stands)
stood_or_made left rows ledger made stands (inr now) = inr now

leaves_either : (held : Option Rows) (may_leave : Rows → Type 0) (ledger made : Ledger) → IfSome held (λ rows. StandFor rows ledger)
    → IfSome held (λ rows. (left : Rows) → may_leave left → (left ≡ rows) ⊎ StandFor left made)
    → IfSome held (λ _. (left : Rows) → may_leave left → StandFor left ledger ⊎ StandFor left made)
leaves_either None may_leave ledger made stands same = tt
leaves_either (Some rows) may_leave ledger made stands same = λ left may. stood_or_made left rows ledger made stands (same left may)

-- the same of the books as they are seen, where the commit is one of their parts
module _ (held now : Option Rows) (may_leave : Rows → Type 0) (batch given : List Change) (is_held : held ≡ now) (is_given : batch ≡ given)
    (either : IfSome held (λ rows. (left : Rows) → may_leave left → IsBeforeOrAfter rows (changed batch rows) left)) where
  seen : IfSome now (λ rows. (left : Rows) → may_leave left → IsBeforeOrAfter rows (changed given rows) left)
  seen = subst (λ b. IfSome now (λ rows. (left : Rows) → may_leave left → IsBeforeOrAfter rows (changed b rows) left)) is_given
      (subst (λ h. IfSome h (λ rows. (left : Rows) → may_leave left → IsBeforeOrAfter rows (changed batch rows) left)) is_held either)

  pub same_left : (made : Ledger) → IfSome now (λ rows. StandFor (changed given rows) made)
      → IfSome now (λ rows. (left : Rows) → may_leave left → (left ≡ rows) ⊎ StandFor left made)
  same_left made makes = leaves_same now may_leave given made makes seen

  pub either_left : (ledger made : Ledger) → IfSome now (λ rows. StandFor (changed given rows) made) → IfSome now (λ rows. StandFor rows ledger)
      → IfSome now (λ _. (left : Rows) → may_leave left → StandFor left ledger ⊎ StandFor left made)
  either_left ledger made makes stands = leaves_either now may_leave ledger made stands (same_left made makes)
