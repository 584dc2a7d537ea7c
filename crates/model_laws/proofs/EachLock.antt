-- What holds of each lock of a list, and what is known of a stored unit.
use Rattle.std.proofs.Common.{ℕ, Bool, true, false, cond, List, [], ◌∷◌, ◌++◌, map, ◌≡◌, inl, inr, refl, sym, ap, ◌∙◌, subst}
use Rattle.std.specs.List.{AllByRecursion, filter, list_all}
use Rattle.enq_base.specs.declared.owner.Owner.{Owner}
use Rattle.enq_base.specs.declared.owner.Owner.TheVariants.{Upd}
use Rattle.enq_base.specs.declared.owner.UnitKey.{UnitKey}
use Rattle.lock_entry.specs.declared.entry.Entry.{Entry}
use Rattle.lock_entry.specs.Freeing.{flagged, handed_over, without_optimistic}
use Rattle.lock_entry.specs.Names.{is_of}
use Rattle.hall_model.specs.Kept.{OfLock, HasGoodLocks, MayHold, is_firm, may_hold}
use Rattle.std.specs.Prelude.{if◌then◌else◌, Option, Some, None}
use Rattle.std.specs.Option.{option_map_or}
use Rattle.enq_base.specs.Owners.{same_unit}
use Rattle.enq_base.specs.declared.unit.Status.{Status}
use Rattle.enq_base.specs.declared.unit.Status.TheVariants.{Open}
use Rattle.lock_entry.specs.Sound.{ReadmitsOnly}
use Rattle.ledger_steps.specs.Posts.{entries_of}
use Rattle.record_laws.proofs.Status.{one_unit, status_push, unit_refl}
use Rattle.update_records.specs.Growing.{next_mark, with_unit}
use Rattle.update_records.specs.Ledger.{Ledger}
use Rattle.update_records.specs.Marks.{given, has_no_v2, status_after, unit_at}
use Rattle.update_records.specs.declared.records.MarkKind.TheVariants as mark
use Rattle.update_records.specs.declared.records.Unit.{Unit as UnitOfWork}
use Rattle.hall_model.specs.Sessions.{owners_of}
use Rattle.model_laws.proofs.OtherStatuses.{status_in}
use Rattle.model_laws.proofs.LockLists.{Among}

pub every_append : {A : Type 0} (Q : A → Type 0) (xs ys : List A) → AllByRecursion Q xs → AllByRecursion Q ys → AllByRecursion Q (xs ++ ys)
every_append Q [] ys h k = k
every_append Q (x ∷ xs) ys h k = (h.0, every_append Q xs ys h.1 k)

pub every_filter : {A : Type 0} (Q : A → Type 0) (p : A → Bool) (xs : List A) → AllByRecursion Q xs → AllByRecursion Q (filter p xs)
every_filter Q p [] h = tt
every_filter Q p (x ∷ xs) h =
    elim (p x) as (λ b. AllByRecursion Q (cond b (x ∷ filter p xs) (filter p xs))) [ true ↦ (h.0, every_filter Q p xs h.1) | false ↦ every_filter Q p xs h.1 ]

pub every_map : {A B : Type 0} (Q : A → Type 0) (P : B → Type 0) (f : A → B) → ((x : A) → Q x → P (f x)) → (xs : List A) → AllByRecursion Q xs
    → AllByRecursion P (map f xs)
every_map Q P f k [] h = tt
every_map Q P f k (x ∷ xs) h = (k x h.0, every_map Q P f k xs h.1)

pub every_more : {A : Type 0} (Q P : A → Type 0) → ((x : A) → Q x → P x) → (xs : List A) → AllByRecursion Q xs → AllByRecursion P xs
every_more Q P k [] h = tt
every_more Q P k (x ∷ xs) h = (k x h.0, every_more Q P k xs h.1)

every_flagged : (Q : Owner → List ℕ → Type 0) (owner : Owner) (e : Entry) → OfLock Q e → OfLock Q (flagged owner e)
every_flagged Q owner e h = elim (is_of owner e) as (λ b. OfLock Q (cond b (record e { handed = true }) e)) [ true ↦ h | false ↦ h ]

pub every_handed : (Q : Owner → List ℕ → Type 0) (es : List Entry) (unit : UnitKey) → AllByRecursion (OfLock Q) es
    → AllByRecursion (OfLock Q) (handed_over es unit)
every_handed Q es unit h =
    every_map (OfLock Q) (OfLock Q) (flagged (Upd unit)) (every_flagged Q (Upd unit)) (without_optimistic es (Upd unit)) (every_filter (OfLock Q) _ es h)

pub every_by : {A : Type 0} (P : A → Type 0) (xs : List A) → ((x : A) → Among xs x → P x) → AllByRecursion P xs
every_by P [] h = tt
every_by P (x ∷ xs) h = (h x (inl refl), every_by P xs (λ y k. h y (inr k)))

pub every_at : {A : Type 0} (P : A → Type 0) (xs : List A) (x : A) → AllByRecursion P xs → Among xs x → P x
every_at P [] x h k = absurd k
every_at P (y ∷ ys) x h (inl e) = subst P e h.0
every_at P (y ∷ ys) x h (inr k) = every_at P ys x h.1 k

pub recorded_here : (ledger : Ledger) (unit : UnitOfWork) → status_in (with_unit ledger unit) unit.key ≡ Some Open
recorded_here ledger unit =
    let b = has_no_v2 (ledger.units ++ unit ∷ []) unit.key in
    status_push b unit.key None ledger.marks (next_mark ledger unit.key mark.Rec)
    ∙ ap (λ t. if t then given b mark.Rec (status_after b unit.key None ledger.marks) else status_after b unit.key None ledger.marks) (unit_refl unit.key)

-- a unit of this status has no locks
abbrev HasNone : Status → Type 0
HasNone status = may_hold (Some status) ≡ false

never_holds : (o : Option Status) (status : Status) → o ≡ Some status → HasNone status → may_hold o ≡ true → ⊥
never_holds o status is none h = let no : true ≡ false = sym h ∙ ap may_hold is ∙ none in cc

pub none_held : (ledger : Ledger) (es : List Entry) (key : UnitKey) (status : Status) → status_in ledger key ≡ Some status
    → HasNone status → AllByRecursion (OfLock (λ owner user. MayHold ledger owner)) es → (e : Entry) → Among es e → e.owner ≡ Upd key → ⊥
none_held ledger es key status is none holders e k own =
    never_holds (status_in ledger key) status is none
    (subst (MayHold ledger) own (every_at (OfLock (λ owner user. MayHold ledger owner)) es e holders k))

pub found_unit : (P : UnitOfWork → Type 0) (units : List UnitOfWork) (key : UnitKey) (unit : UnitOfWork) → unit_at units key ≡ Some unit
    → AllByRecursion P units → P unit × (unit.key ≡ key)
found_unit P [] key unit found h = cc
found_unit P (x ∷ xs) key unit found h =
    elim (same_unit x.key key) as (λ b. same_unit x.key key ≡ b → cond b (Some x) (unit_at xs key) ≡ Some unit → P unit × (unit.key ≡ key)) [
      | true ↦ λ t e. let same : x ≡ unit = cc in (subst P same h.0, ap (λ (u : UnitOfWork). u.key) (sym same) ∙ one_unit x.key key t)
      | false ↦ λ t e. found_unit P xs key unit e h.1
    ] refl found

-- they can stand again
pub may_be_readmitted : (units : List UnitOfWork) (key : UnitKey) → AllByRecursion HasGoodLocks units → ReadmitsOnly (owners_of key) (entries_of units key)
may_be_readmitted units key held =
    elim (unit_at units key) as (λ o. unit_at units key ≡ o → ReadmitsOnly (owners_of key) (option_map_or (λ (unit : UnitOfWork). unit.entries) o [])) [
      | None ↦ λ e. record { owners = refl; names = refl; counts = refl }
      | Some unit ↦ λ e. let found = found_unit HasGoodLocks units key unit e held in subst (λ k. ReadmitsOnly (owners_of k) unit.entries) found.1 found.0.own
    ] refl

-- they were handed over
pub stored_firm : (units : List UnitOfWork) (key : UnitKey) → AllByRecursion HasGoodLocks units → list_all is_firm (entries_of units key) ≡ true
stored_firm units key held =
    elim (unit_at units key) as (λ o. unit_at units key ≡ o → list_all is_firm (option_map_or (λ (unit : UnitOfWork). unit.entries) o []) ≡ true) [
      | None ↦ λ e. refl
      | Some unit ↦ λ e. (found_unit HasGoodLocks units key unit e held).0.firm
    ] refl
