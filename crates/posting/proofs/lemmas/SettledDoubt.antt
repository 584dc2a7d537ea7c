-- What a store that was read anew says of a change in doubt.
use Rattle.std.specs.Prelude.{IsSomeAnd, IsTrue, is_some}
use Rattle.std.proofs.Common.{◌≡◌, ◌⊎◌, inl, inr, ⊎_elim, ℕ, true, false, Option, None, Some, IfSome, refl, sym, subst}
use Rattle.keeper_api.specs.Rows.{Rows}
use Rattle.store_reading.specs.Good.{IsBadPlace}
use Rattle.update_records.specs.Ledger.{Ledger, IsGood, StandFor}
use Rattle.posting.specs.Opening.{CountsFault, OnBad}
use Rattle.posting.specs.Reopening.{HasStood, IsOpeningFault, MayBeOpeningFault}
use Rattle.posting.specs.Settling.{CountsSettling, IsOther, IsUnlike, OnBooks, OnFound, OnOther, StandForOther}
use Rattle.ledger_steps.specs.Steps.{after_step}
use Rattle.posting.specs.declared.opening.BooksFault.TheVariants as why
use Rattle.ledger_steps.specs.declared.step.Step.{Step}
use Rattle.posting.specs.declared.settling.SettleFault.{SettleFault}
use Rattle.posting.specs.declared.settling.SettleFault.TheVariants.{Books, Other}
use Rattle.posting.proofs.FoundLedger.{any_fault, found_here}

module _ (held : Option Rows) (before : Rows → Type 0) (ledger read : Ledger) (is : read ≡ ledger) where
  pub stood_here : IfSome held (λ rows. before rows × StandFor rows ledger) → IfSome held (λ _. HasStood before read)
  stood_here = by_case held
    where
      by_case : (told : Option Rows) → IfSome told (λ rows. before rows × StandFor rows ledger) → IfSome told (λ _. HasStood before read)
      by_case None h = tt
      by_case (Some rows) h = subst (HasStood before) (sym is) (rows, h.0, h.1)

  stands_for_other : (told : Option Rows) (old : Ledger) (change : Option Step) → IfSome told (λ rows. before rows × StandFor rows ledger)
      → IsOther old change read → IfSome told (λ rows. StandForOther rows old change read)
  stands_for_other None old change h other = tt
  stands_for_other (Some rows) old change h other = (subst (StandFor rows) (sym is) h.1, other)

  pub other_found : (old : Ledger) (change : Option Step) → IfSome held (λ rows. before rows × StandFor rows ledger)
      → IsOther old change read → IfSome held (λ rows. StandForOther rows old change read)
  other_found old change h other = stands_for_other held old change h other

-- ---- no ledger was found that was looked for

module _ (old : Ledger) (change : Option Step) (read : Ledger) where
  pub unlike_fault : (held : Option Rows) (fault : SettleFault) → IsUnlike old change read fault
      → OnBooks fault (λ why. IfSome held (λ rows. IsOpeningFault false rows why))
  unlike_fault held (Books fault) is = subst (λ w. IfSome held (λ rows. IsOpeningFault false rows w)) (sym is) (any_fault held false).1
  unlike_fault held (Other ledger) is = tt

  pub unlike_untold : (fault : SettleFault) → IsUnlike old change read fault → OnBooks fault (MayBeOpeningFault false)
  unlike_untold (Books fault) is = subst (MayBeOpeningFault false) (sym is) tt
  unlike_untold (Other ledger) is = tt

  pub unlike_counts : (before now : ℕ) (fault : SettleFault) → now ≡ before → IsUnlike old change read fault → CountsSettling fault before now
  unlike_counts before now (Books fault) same is = subst (λ w. CountsFault w before now) (sym is) same
  unlike_counts before now (Other ledger) same is = same

  module _ (held : Option Rows) (before : Rows → Type 0) (stands : IfSome held (λ rows. before rows × StandFor rows read)) where
    pub unlike_other : (fault : SettleFault) → IsUnlike old change read fault
        → OnOther fault (λ ledger. IfSome held (λ rows. StandForOther rows old change ledger))
    unlike_other (Books fault) is = tt
    unlike_other (Other ledger) is = other_found held before read ledger is.0 old change stands (subst (IsOther old change) (sym is.0) is.1)

    pub unlike_found : (fault : SettleFault) → IsUnlike old change read fault → OnFound fault (IfSome held before)
    unlike_found (Books fault) is = subst (λ w. OnBad w (IfSome held before)) (sym is) tt
    unlike_found (Other ledger) is = found_here held before read stands

-- ---- rows that stand for the ledger as it was, or for the one with the change

abbrev pub StandForOneOf : Rows → Ledger → Option Step → Type 0
StandForOneOf rows old change = StandFor rows old ⊎ IsSomeAnd change (λ step. StandFor rows (after_step old step))

-- They stand for no other, by the law that rows stand for one ledger at most. It is proved above this crate, and handed in.
pub not_other : (rows : Rows) → ((a b : Ledger) → StandFor rows a → StandFor rows b → a ≡ b) → (old : Ledger) (change : Option Step)
    (ledger : Ledger) → StandForOneOf rows old change → StandForOther rows old change ledger → ⊥
not_other rows one old None ledger stand other = ⊎_elim (λ was. other.1.before (one ledger old other.0 was)) (λ h. h) stand
not_other rows one old (Some step) ledger stand other =
    ⊎_elim (λ was. other.1.before (one ledger old other.0 was)) (λ has. other.1.after (one ledger (after_step old step) other.0 has)) stand

good_one : (rows : Rows) (old : Ledger) (change : Option Step) → StandForOneOf rows old change → IsGood rows
good_one rows old None stand = ⊎_elim (λ was. (old, was)) (λ h. absurd h) stand
good_one rows old (Some step) stand = ⊎_elim (λ was. (old, was)) (λ has. (after_step old step, has)) stand

-- A store whose rows are told isn't refused for them, where all that a crash might have left stands for one of the two. By that
-- law, and by the one that a good store has no bad place.
pub not_unsound : (held : Option Rows) (before : Rows → Type 0) (old : Ledger) (change : Option Step) (fault : SettleFault)
    → ((rows : Rows) (a b : Ledger) → StandFor rows a → StandFor rows b → a ≡ b)
    → ((rows : Rows) (table row : ℕ) → IsBadPlace rows table row → IsGood rows → ⊥)
    → IsTrue (is_some held) → ((rows : Rows) → before rows → StandForOneOf rows old change)
    → OnFound fault (IfSome held before) → OnBooks fault (λ f. IfSome held (λ rows. IsOpeningFault false rows f))
    → OnOther fault (λ ledger. IfSome held (λ rows. StandForOther rows old change ledger))
    → (fault ≡ Books why.StoreFault) ⊎ (fault ≡ Books why.NoMemory)
not_unsound None before old change fault one good told stand found books other = absurd (cc)
not_unsound (Some rows) before old change (Books why.StoreFault) one good told stand found books other = inl refl
not_unsound (Some rows) before old change (Books (why.BadStore table row)) one good told stand found books other =
    absurd (good rows table row books (good_one rows old change (stand rows found)))
not_unsound (Some rows) before old change (Books why.NoStart) one good told stand found books other = let odd : false ≡ true = books.0 in absurd (cc)
not_unsound (Some rows) before old change (Books why.NoMemory) one good told stand found books other = inr refl
not_unsound (Some rows) before old change (Other ledger) one good told stand found books other =
    absurd (not_other rows (one rows) old change ledger (stand rows found) other)
