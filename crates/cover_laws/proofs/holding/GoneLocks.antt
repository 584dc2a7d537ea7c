-- What sessions had of a table that is dropped, and what they lose with it.
use Rattle.std.proofs.Common.{◌≡◌, true≢false, ℕ, ◌≤◌, true, false, not, cond, List, [], ◌∷◌, inl, inr, refl, sym, ap, ◌∙◌, subst, arith}
use Rattle.std.specs.Prelude.{if◌then◌else◌, Option, Some}
use Rattle.std.specs.List.{AllByRecursion, find, list_any}
use Rattle.std.specs.Option.{option_map_or}
use Rattle.std.proofs.lemmas.Bool.{and_parts, cases_Bool, or_left, or_right}
use Rattle.enq_base.specs.Owners.{same_owner}
use Rattle.enq_base.specs.declared.owner.Owner.{Owner}
use Rattle.enq_base.specs.declared.owner.Owner.TheVariants.{Upd}
use Rattle.lock_entry.proofs.lemmas.Lists.{list_any-weaken}
use Rattle.lock_entry.proofs.lemmas.Naming.{same_owner-same, same_owner-sym}
use Rattle.lock_entry.specs.Names.{asked_of, count_at, has_name, is_of, named, same_asked}
use Rattle.lock_entry.specs.Pairs.{in_pair}
use Rattle.lock_entry.specs.declared.entry.Asked.{Asked}
use Rattle.lock_entry.specs.declared.entry.Entry.{Entry}
use Rattle.update_records.specs.Ledger.{Ledger}
use Rattle.hall_model.specs.declared.command.Session.{Session}
use Rattle.hall_model.specs.OpenUnits.{IsOpenIfHanded, IsOpenOwner}
use Rattle.hall_model.specs.Sessions.{bereft, bereft_if, has_one_of, is_caller, loses, pair_of, unit_key}
use Rattle.hall_model.specs.State.{unhanded}

-- ---- with an end the owner's locks are gone

more_than_none : 1 ≤ 0 → ⊥
more_than_none h = omega (arith, h)

-- a lock of an owner that isn't the update of an open unit wasn't handed over
not_handed : (ledger : Ledger) (owner : Owner) (e : Entry) → (IsOpenOwner ledger owner → ⊥) → IsOpenIfHanded ledger e → e.owner ≡ owner → e.handed ≡ false
not_handed ledger owner e closed right own =
    elim (cases_Bool e.handed) [
      | inl handed ↦ absurd (closed (subst (IsOpenOwner ledger) own (right handed)))
      | inr free ↦ free
    ]

-- of one that has a lock in the table one is gone
pub has_gone : (ledger : Ledger) (owner : Owner) (a : Asked) (es : List Entry) → (IsOpenOwner ledger owner → ⊥)
    → AllByRecursion (IsOpenIfHanded ledger) es → 1 ≤ count_at es (named owner a) → list_any (is_of owner) (unhanded es) ≡ true
has_gone ledger owner a [] closed right more = absurd (more_than_none more)
has_gone ledger owner a (e ∷ es) closed right more =
    elim (cases_Bool (has_name (named owner a) e)) [
      | inl its ↦
          let of_it : same_owner owner e.owner ≡ true = (and_parts (same_owner owner e.owner) (same_asked a (asked_of e)) its).0 in
          let free : e.handed ≡ false = not_handed ledger owner e closed right.0 (sym (same_owner-same owner e.owner of_it)) in
          let stays : unhanded (e ∷ es) ≡ e ∷ unhanded es = ap (λ b. cond (not b) (e ∷ unhanded es) (unhanded es)) free in
          ap (list_any (is_of owner)) stays
          ∙ or_left (is_of owner e) (list_any (is_of owner) (unhanded es)) (same_owner-sym e.owner owner ∙ of_it)
      | inr other ↦
          let count : (o : Option Entry) → ℕ = λ o. option_map_or (λ (x : Entry). x.count) o 0 in
          let first : count_at (e ∷ es) (named owner a) ≡ count_at es (named owner a) =
          ap (λ b. count (cond b (Some e) (find (has_name (named owner a)) es))) other in
          let rest = has_gone ledger owner a es closed right.1 (subst (λ n. 1 ≤ n) first more) in
          elim e.handed as (λ b. list_any (is_of owner) (cond (not b) (e ∷ unhanded es) (unhanded es)) ≡ true) [
            | true ↦ rest
            | false ↦ or_right (is_of owner e) (list_any (is_of owner) (unhanded es)) rest
          ]
    ]

-- a lock of a session's open unit is one of the session's
pub has_own : (start : ℕ) (locks : List Entry) (x : Session) → list_any (is_of (Upd (unit_key start x))) locks ≡ true → has_one_of start locks x ≡ true
has_own start locks x h =
    let pair = pair_of start x in
    list_any-weaken (is_of pair.update) (λ e. in_pair pair e.owner)
    (λ e own. or_right (same_owner e.owner pair.dialogue) (same_owner e.owner pair.update) own) locks h

-- ---- a session that loses none

-- a session that has lost no lock behind a restart
pub record LosesNone (x y : Session) : Type 0 where
  pub same : x ≡ y
  pub none : x.marked ≡ true → ⊥

pub loses_none : (caller : Option (List ℕ)) (x y : Session) → bereft_if caller x ≡ y → y.lost ≡ false → LosesNone x y
loses_none caller x y is kept =
    elim (loses caller x) as (λ b. loses caller x ≡ b → (if b then bereft x else x) ≡ y → LosesNone x y) [
      | true ↦ λ e same. absurd (true≢false (ap (λ (z : Session). z.lost) same ∙ kept))
      | false ↦ λ e same. record { same = same; none = λ marked. true≢false (sym (or_left x.marked (is_caller caller x) marked) ∙ e) }
    ] refl is
