-- The locks of a refused unit that stand again take nothing from any session.
use Rattle.std.proofs.Common.{◌≡◌, ◌⊎◌, inl, inr, Bool, true, false, not, cond, List, [], ◌∷◌, ◌++◌, refl, sym, ap, ◌∙◌, arith}
use Rattle.std.specs.Prelude.{◌&&◌, ◌||◌, Option, Some, None}
use Rattle.std.specs.List.{AllByRecursion, list_any, list_all}
use Rattle.std.proofs.lemmas.Bool.{and_parts, cases_Bool}
use Rattle.std.proofs.lemmas.List.Elements.{filter-append}
use Rattle.lock_entry.proofs.lemmas.Naming.{same_owner-same}
use Rattle.enq_base.specs.Owners.{same_unit}
use Rattle.enq_base.specs.declared.owner.Owner.{Owner}
use Rattle.enq_base.specs.declared.owner.Owner.TheVariants.{Upd}
use Rattle.enq_base.specs.declared.owner.UnitKey.{UnitKey}
use Rattle.enq_base.specs.declared.unit.Status.{Status}
use Rattle.enq_base.specs.declared.unit.Status.TheVariants.{Bad}
use Rattle.lock_entry.specs.Freeing.{freed_owner}
use Rattle.lock_entry.specs.Names.{is_of}
use Rattle.lock_entry.specs.Pairs.{in_pair}
use Rattle.lock_entry.specs.Table.{Table}
use Rattle.lock_entry.specs.declared.entry.Entry.{Entry}
use Rattle.ledger_steps.specs.Posts.{entries_of}
use Rattle.record_laws.proofs.Status.{one_unit}
use Rattle.update_records.specs.Ledger.{Ledger}
use Rattle.update_records.specs.Marks.{status_of}
use Rattle.hall_calls.specs.Written.{IsRegained, OnFailure}
use Rattle.hall_model.specs.Kept.{HasGoodLocks, IsAhead, is_firm}
use Rattle.hall_model.specs.Sessions.{has_one_of, owners_of, pair_of, unit_key}
use Rattle.hall_model.specs.State.{unhanded}
use Rattle.hall_model.specs.declared.command.Session.{Session}
use Rattle.hall_calls.specs.declared.units.Written.{Written}
use Rattle.hall_calls.specs.declared.units.Written.TheVariants.{Answered, Failed, Unfiled}
use Rattle.model_laws.proofs.EachLock.{every_more, stored_firm}
use Rattle.model_laws.proofs.Resubmissions.{readmitted_is}
use Rattle.hall_calls.proofs.ending.StateBehind.{LoseAlike}

-- locks that were handed over are none of those that weren't
none_unhanded : (es : List Entry) → list_all is_firm es ≡ true → unhanded es ≡ []
none_unhanded [] firm = refl
none_unhanded (e ∷ es) firm =
    let parts = and_parts (is_firm e) (list_all is_firm es) firm in
    let handed = (and_parts e.handed _ parts.0).0 in
    ap (λ b. cond (not b) (e ∷ unhanded es) (unhanded es)) handed ∙ none_unhanded es parts.1

nothing_more : (es : List Entry) → es ++ [] ≡ es
nothing_more [] = refl
nothing_more (e ∷ es) = ap (λ xs. e ∷ xs) (nothing_more es)

-- ---- what a session keeps where an owner's locks go that aren't its own

module _ (owns : Owner → Bool) (owner : Owner) (none : owns owner ≡ false) where
  abbrev has_one : List Entry → Bool
  has_one es = list_any (λ (e : Entry). owns e.owner) (unhanded es)

  one_more : (e : Entry) (es : List Entry) → has_one (e ∷ es) ≡ ((not e.handed && owns e.owner) || has_one es)
  one_more e es = by_flag e.handed
    where
      by_flag : (b : Bool) → list_any (λ (x : Entry). owns x.owner) (cond (not b) (e ∷ unhanded es) (unhanded es)) ≡ ((not b && owns e.owner) || has_one es)
      by_flag true = refl
      by_flag false = refl

  no_both : (b : Bool) → (b && false) ≡ false
  no_both true = refl
  no_both false = refl

  same_freed : (es : List Entry) → has_one (freed_owner es owner) ≡ has_one es
  same_freed [] = refl
  same_freed (e ∷ es) =
      let left = freed_owner es owner in
      elim (cases_Bool (is_of owner e)) [
        | inl own ↦
            let other : (not e.handed && owns e.owner) ≡ false =
            ap (λ b. not e.handed && b) (ap owns (same_owner-same e.owner owner own) ∙ none) ∙ no_both (not e.handed) in
            ap (λ b. has_one (cond (not b) (e ∷ left) left)) own ∙ same_freed es ∙ sym (one_more e es ∙ ap (λ b. b || has_one es) other)
        | inr other ↦
            ap (λ b. has_one (cond (not b) (e ∷ left) left)) other
            ∙ one_more e left
            ∙ ap (λ b. (not e.handed && owns e.owner) || b) (same_freed es)
            ∙ sym (one_more e es)
      ]

-- ---- a unit that was refused

both_told : (o : Option Status) → o ≡ None → o ≡ Some Bad → ⊥
both_told None h k = cc
both_told (Some status) h k = cc

-- it is no session's open unit
no_open_unit : (ledger : Ledger) (x : Session) (unit : UnitKey) → status_of ledger.units ledger.marks unit ≡ Some Bad → IsAhead ledger x
    → in_pair (pair_of ledger.start x) (Upd unit) ≡ false
no_open_unit ledger x unit refused ahead =
    let key = unit_key ledger.start x in
    elim (cases_Bool (same_unit unit key)) [
      | inl same ↦
          absurd (both_told (status_of ledger.units ledger.marks unit)
          (ap (status_of ledger.units ledger.marks) (one_unit unit key same) ∙ ahead x.luw (omega arith)) refused)
      | inr apart ↦ apart
    ]

module _ (ledger : Ledger) (sessions : List Session) (unit : UnitKey) (old new : Table) (ahead : AllByRecursion (IsAhead ledger) sessions)
    (good : AllByRecursion HasGoodLocks ledger.units) where
  loses_as_before : IsRegained ledger unit old new.entries → (x : Session) → IsAhead ledger x
      → has_one_of ledger.start (unhanded new.entries) x ≡ has_one_of ledger.start (unhanded old.entries) x
  loses_as_before h x before =
      let given = entries_of ledger.units unit in
      let left = freed_owner old.entries (Upd unit) in
      let owns = in_pair (pair_of ledger.start x) in
      ap (λ es. has_one_of ledger.start (unhanded es) x) (readmitted_is old (owners_of unit) given new.entries h.regained)
      ∙ ap (λ es. has_one_of ledger.start es x) (filter-append (λ (e : Entry). not e.handed) left given
      ∙ ap (λ es. unhanded left ++ es) (none_unhanded given (stored_firm ledger.units unit good)) ∙ nothing_more (unhanded left))
      ∙ same_freed owns (Upd unit) (no_open_unit ledger x unit h.refused before) old.entries

  one_of : (new ≡ old) ⊎ IsRegained ledger unit old new.entries → LoseAlike ledger.start old.entries new.entries sessions
  one_of (inl same) =
      every_more (IsAhead ledger) (λ x. has_one_of ledger.start (unhanded new.entries) x ≡ has_one_of ledger.start (unhanded old.entries) x)
      (λ x before. ap (λ (t : Table). has_one_of ledger.start (unhanded t.entries) x) same) sessions ahead
  one_of (inr h) =
      every_more (IsAhead ledger) (λ x. has_one_of ledger.start (unhanded new.entries) x ≡ has_one_of ledger.start (unhanded old.entries) x)
      (loses_as_before h) sessions ahead

  pub lost_regained : (w : Written) → OnFailure w ((new ≡ old) ⊎ IsRegained ledger unit old new.entries)
      → OnFailure w (LoseAlike ledger.start old.entries new.entries sessions)
  lost_regained (Answered r) h = tt
  lost_regained (Failed change) h = one_of h
  lost_regained Unfiled h = one_of h
