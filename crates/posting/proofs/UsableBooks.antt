-- When the books may be used after a call, and what a call may leave.
use Rattle.std.proofs.Common.{◌≡◌, ◌⊎◌, inl, inr, ℕ, List, [], ◌∷◌, Option, Some, None, IfSome, refl, sym, ap, subst, ◌∙◌, arith}
use Rattle.std.specs.FinMap.{get-empty}
use Rattle.std.specs.List.{IsDistinct}
use Rattle.std.proofs.lemmas.List.Elements.{All-nil}
use Rattle.keeper_api.specs.declared.rows.Change.{Change}
use Rattle.keeper_api.specs.Batch.{changed, IsBatch}
use Rattle.keeper_api.specs.Keeping.{IsOnly}
use Rattle.keeper_api.specs.Rows.{Rows}
use Rattle.module_effects.specs.Rows.{row_cmp}
use Rattle.update_records.specs.Growing.{with_start}
use Rattle.update_records.specs.Ledger.{Ledger, no_ledger, IsLawful, IsMarkUnder, IsRightLevel, StandFor}
use Rattle.update_records.specs.Grammar.{IsUnit}
use Rattle.update_records.specs.RecordRows.{meta_row}
use Rattle.record_laws.proofs.Own.{own_changed}

-- the ledger of the first start
first_lawful : IsLawful (with_start no_ledger 1)
first_lawful = record {
  started = omega arith;
  start = omega arith;
  few = omega arith;
  numbered = refl;
  marks = All-nil (IsMarkUnder 1);
  legal = tt;
  units = All-nil IsUnit;
  recorded = refl;
  right = tt;
  levels = record {
    right = λ name. subst (λ o. IfSome o (IsRightLevel name [])) (sym (get-empty row_cmp name)) tt;
    stored = All-nil _;
  };
}

first_stands : (rows : Rows) → StandFor rows no_ledger → StandFor (changed (meta_row 1 0 ∷ []) rows) (with_start no_ledger 1)
first_stands rows h = record {
  exact = own_changed (meta_row 1 0 ∷ []) rows (refl, tt) ∙ ap (changed (meta_row 1 0 ∷ [])) h.exact;
  lawful = inr first_lawful;
}

-- the batch of the first start makes its rows
pub first_makes : (held : Option Rows) (batch : List Change) (ledger : Ledger) → ledger ≡ no_ledger → batch ≡ meta_row 1 0 ∷ []
    → IfSome held (λ rows. StandFor rows ledger) → IfSome held (λ rows. StandFor (changed batch rows) (with_start ledger 1))
first_makes None batch ledger is made h = tt
first_makes (Some rows) batch ledger is made h =
    subst (λ b. StandFor (changed b rows) (with_start ledger 1)) (sym made)
    (subst (λ l. StandFor (changed (meta_row 1 0 ∷ []) rows) (with_start l 1)) (sym is) (first_stands rows (subst (StandFor rows) is h)))

pub one_batch : (start n : ℕ) (batch : List Change) → batch ≡ meta_row start n ∷ [] → IsBatch batch
unfolding IsDistinct
one_batch start n batch is = subst IsBatch (sym is) (record { keys = (omega arith, tt); distinct = (tt, tt) })

-- while nothing is committed, what may be left is as before
pub raised_left : (held : Option Rows) (before may_leave : Rows → Type 0) (after : Ledger) → IfSome held (λ rows. IsOnly rows before)
    → IfSome held (λ rows. (left : Rows) → may_leave left → (left ≡ rows) ⊎ StandFor left after)
    → IfSome held (λ rows. (left : Rows) → may_leave left → before left ⊎ StandFor left after)
raised_left None before may_leave after only h = tt
raised_left (Some rows) before may_leave after only h = λ left may. elim (h left may) [
  | inl e ↦ inl (subst before (sym e) only.itself)
  | inr s ↦ inr s
]

-- what an opening leaves
pub raised_from : (held other : Option Rows) (before may_leave : Rows → Type 0) (after now : Ledger) → other ≡ held → after ≡ now
    → IfSome held (λ rows. IsOnly rows before)
    → IfSome other (λ rows. (left : Rows) → may_leave left → (left ≡ rows) ⊎ StandFor left after)
    → IfSome held (λ rows. (left : Rows) → may_leave left → before left ⊎ StandFor left now)
raised_from held other before may_leave after now same is only h =
    raised_left held before may_leave now only
    (subst (λ o. IfSome o (λ rows. (left : Rows) → may_leave left → (left ≡ rows) ⊎ StandFor left now)) same
    (subst (λ l. IfSome other (λ rows. (left : Rows) → may_leave left → (left ≡ rows) ⊎ StandFor left l)) is h))
