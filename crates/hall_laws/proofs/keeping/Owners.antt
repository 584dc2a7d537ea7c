-- Whose the locks and the recorded units are, as calls change them.
use Rattle.std.proofs.Common.{◌≡◌, ℕ, ◌+◌, Bool, true, false, not, List, [], ◌∷◌, ◌++◌, refl, sym, ap, ◌∙◌, subst}
use Rattle.std.specs.Prelude.{IsTrue, Option, Some, None}
use Rattle.std.specs.List.{AllByRecursion, filter}
use Rattle.std.specs.Option.{option_map_or}
use Rattle.enq_base.specs.Owners.{same_owner, same_unit}
use Rattle.enq_base.specs.declared.owner.Owner.{Owner}
use Rattle.enq_base.specs.declared.owner.Owner.TheVariants.{Dlg, Upd}
use Rattle.enq_base.specs.declared.owner.UnitKey.{UnitKey}
use Rattle.enq_base.specs.declared.unit.Status.{Status}
use Rattle.enq_base.specs.declared.unit.Status.TheVariants.{Open}
use Rattle.lock_entry.proofs.lemmas.Naming.{same_owner-refl, same_owner-same}
use Rattle.lock_entry.specs.declared.entry.Entry.{Entry}
use Rattle.lock_entry.specs.Freeing.{freed_owner}
use Rattle.lock_entry.specs.Names.{is_of}
use Rattle.ledger_steps.specs.Posts.{entries_of}
use Rattle.record_laws.proofs.Status.{one_unit}
use Rattle.update_records.specs.Growing.{with_mark, with_unit}
use Rattle.update_records.specs.Ledger.{Ledger}
use Rattle.update_records.specs.Marks.{unit_at}
use Rattle.update_records.specs.declared.records.MarkKind.{MarkKind}
use Rattle.update_records.specs.declared.records.MarkKind.TheVariants as mark
use Rattle.update_records.specs.declared.records.Unit.{Unit as UnitOfWork}
use Rattle.hall_model.specs.declared.command.Session.{Session}
use Rattle.hall_model.specs.Kept.{HasGoodLocks, HasItsUser, IsKnown, IsOwned, MayHold, OfLock, OfStored, may_hold}
use Rattle.hall_model.specs.Sessions.{with_next_unit, with_session}
use Rattle.model_laws.proofs.OtherStatuses.{marked_other, recorded_other, status_in, status_marked}
use Rattle.model_laws.proofs.LockLists.{Among, all_among, filter_source}
use Rattle.model_laws.proofs.EachLock.{every_append, every_more, every_at, every_by, found_unit, may_be_readmitted, none_held, recorded_here}
use Rattle.hall_laws.proofs.histories.LockUsers.{every_freed_owner, every_two, known_next, user_entered, user_left, user_next}

-- ---- lists

by_test : (P : Type 0) (b : Bool) → (b ≡ true → P) → (b ≡ false → P) → P
by_test P true f g = f refl
by_test P false f g = g refl

-- ---- other locks and other sessions

pub owned_locks : (honest : Bool) (ledger : Ledger) (next : ℕ) (sessions : List Session) (es after : List Entry)
    → ((Q : Owner → List ℕ → Type 0) → AllByRecursion (OfLock Q) es → AllByRecursion (OfLock Q) after) → IsOwned honest ledger next sessions es
    → IsOwned honest ledger next sessions after
owned_locks honest ledger next sessions es after keeps h = record {
  known = λ t. keeps (λ owner user. IsKnown ledger.start next owner) (h.known t);
  users = λ t. keeps (HasItsUser ledger.start sessions) (h.users t);
  holders = λ t. keeps (λ owner user. MayHold ledger owner) (h.holders t);
  stored_known = h.stored_known;
  stored_users = h.stored_users;
}

pub owned_entered : (honest : Bool) (ledger : Ledger) (sessions : List Session) (y : Session) (es : List Entry) → IsOwned honest ledger y.number sessions es
    → IsOwned honest ledger (y.number + 1) (sessions ++ y ∷ []) es
owned_entered honest ledger sessions y es h =
    let known : Owner → List ℕ → Type 0 = λ owner user. IsKnown ledger.start y.number owner in
    let later : Owner → List ℕ → Type 0 = λ owner user. IsKnown ledger.start (y.number + 1) owner in
    let users = HasItsUser ledger.start sessions in
    let more = HasItsUser ledger.start (sessions ++ y ∷ []) in
    let next_known : (e : Entry) → OfLock known e → OfLock later e = λ e k. known_next ledger.start y.number e.owner k in
    let next_user : (e : Entry) → OfLock known e → OfLock users e → OfLock more e = λ e k u. user_entered ledger.start sessions y e.owner e.user k u in
    record {
      known = λ t. every_more (OfLock known) (OfLock later) next_known es (h.known t);
      users = λ t. every_two (OfLock known) (OfLock users) (OfLock more) next_user es (h.known t) (h.users t);
      holders = h.holders;
      stored_known = every_more (OfStored known) (OfStored later) (λ unit k. every_more (OfLock known) (OfLock later) next_known unit.entries k) ledger.units
          h.stored_known;
      stored_users = every_two (OfStored known) (OfStored users) (OfStored more)
          (λ unit k u. every_two (OfLock known) (OfLock users) (OfLock more) next_user unit.entries k u) ledger.units h.stored_known h.stored_users;
    }

pub owned_left : (honest : Bool) (ledger : Ledger) (next : ℕ) (sessions : List Session) (p : Session → Bool) (es : List Entry)
    → IsOwned honest ledger next sessions es
    → IsOwned honest ledger next (filter p sessions) es
owned_left honest ledger next sessions p es h =
    let users = HasItsUser ledger.start sessions in
    let fewer = HasItsUser ledger.start (filter p sessions) in
    let stays : (e : Entry) → OfLock users e → OfLock fewer e = λ e u. user_left ledger.start p sessions e.owner e.user u in
    record {
      known = h.known;
      users = λ t. every_more (OfLock users) (OfLock fewer) stays es (h.users t);
      holders = h.holders;
      stored_known = h.stored_known;
      stored_users = every_more (OfStored users) (OfStored fewer) (λ unit u. every_more (OfLock users) (OfLock fewer) stays unit.entries u) ledger.units
          h.stored_users;
    }

pub owned_next : (honest : Bool) (ledger : Ledger) (next : ℕ) (name : List ℕ) (sessions : List Session) (es : List Entry)
    → IsOwned honest ledger next sessions es
    → IsOwned honest ledger next (with_session name with_next_unit sessions) es
owned_next honest ledger next name sessions es h =
    let users = HasItsUser ledger.start sessions in
    let after = HasItsUser ledger.start (with_session name with_next_unit sessions) in
    let stays : (e : Entry) → OfLock users e → OfLock after e = λ e u. user_next ledger.start name sessions e.owner e.user u in
    record {
      known = h.known;
      users = λ t. every_more (OfLock users) (OfLock after) stays es (h.users t);
      holders = h.holders;
      stored_known = h.stored_known;
      stored_users = every_more (OfStored users) (OfStored after) (λ unit u. every_more (OfLock users) (OfLock after) stays unit.entries u) ledger.units
          h.stored_users;
    }

pub owned_by_none : (honest : Bool) (ledger : Ledger) (next : ℕ) (sessions : List Session) (es : List Entry) → IsOwned honest ledger next sessions es
    → IsOwned honest ledger next sessions []
owned_by_none honest ledger next sessions es h =
    record { known = λ t. tt; users = λ t. tt; holders = λ t. tt; stored_known = h.stored_known; stored_users = h.stored_users }

-- ---- a unit that is recorded

opened_holds : (o : Option Status) → o ≡ Some Open → may_hold o ≡ true
opened_holds o h = ap may_hold h

holder_recorded : (ledger : Ledger) (unit : UnitOfWork) (owner : Owner) → status_in ledger unit.key ≡ None → MayHold ledger owner
    → MayHold (with_unit ledger unit) owner
holder_recorded ledger unit (Dlg start session) fresh h = tt
holder_recorded ledger unit (Upd other) fresh h =
    by_test _ (same_unit unit.key other)
    (λ same. subst (λ u. MayHold (with_unit ledger unit) (Upd u)) (one_unit unit.key other same) (opened_holds _ (recorded_here ledger unit)))
    (λ apart. ap may_hold (recorded_other ledger unit other fresh apart) ∙ h)

pub owned_recorded : (honest : Bool) (ledger : Ledger) (next : ℕ) (sessions : List Session) (es : List Entry) (unit : UnitOfWork)
    → status_in ledger unit.key ≡ None
    → OfStored (λ owner user. IsKnown ledger.start next owner) unit → OfStored (HasItsUser ledger.start sessions) unit → IsOwned honest ledger next sessions es
    → IsOwned honest (with_unit ledger unit) next sessions es
owned_recorded honest ledger next sessions es unit fresh known users h =
    let before : Owner → List ℕ → Type 0 = λ owner user. MayHold ledger owner in
    let after : Owner → List ℕ → Type 0 = λ owner user. MayHold (with_unit ledger unit) owner in
    record {
      known = h.known;
      users = h.users;
      holders = λ t. every_more (OfLock before) (OfLock after) (λ e k. holder_recorded ledger unit e.owner fresh k) es (h.holders t);
      stored_known = every_append (OfStored (λ owner user. IsKnown ledger.start next owner)) ledger.units (unit ∷ []) h.stored_known (known, tt);
      stored_users = every_append (OfStored (HasItsUser ledger.start sessions)) ledger.units (unit ∷ []) h.stored_users (users, tt);
    }

-- ---- a mark

holder_marked : (ledger : Ledger) (key : UnitKey) (kind : MarkKind) (owner : Owner) → MayHold ledger owner
    → (owner ≡ Upd key → MayHold (with_mark ledger key kind) (Upd key)) → MayHold (with_mark ledger key kind) owner
holder_marked ledger key kind (Dlg start session) h here = tt
holder_marked ledger key kind (Upd other) h here =
    by_test _ (same_unit key other)
    (λ same.
    let is : other ≡ key = sym (one_unit key other same) in
    subst (λ u. MayHold (with_mark ledger key kind) (Upd u)) (sym is) (here (ap Upd is)))
    (λ apart. ap may_hold (marked_other ledger key other kind apart) ∙ h)

-- a mark of a unit that has no locks afterwards, or that may have some
pub owned_marked : (honest : Bool) (ledger : Ledger) (next : ℕ) (sessions : List Session) (es : List Entry) (key : UnitKey) (kind : MarkKind)
    → (IsTrue honest → (e : Entry) → Among es e → e.owner ≡ Upd key → MayHold (with_mark ledger key kind) (Upd key)) → IsOwned honest ledger next sessions es
    → IsOwned honest (with_mark ledger key kind) next sessions es
owned_marked honest ledger next sessions es key kind here h = record {
  known = h.known;
  users = h.users;
  holders = λ t. every_by (OfLock (λ owner user. MayHold (with_mark ledger key kind) owner)) es
      (λ e k. holder_marked ledger key kind e.owner (every_at (OfLock (λ owner user. MayHold ledger owner)) es e (h.holders t) k) (here t e k));
  stored_known = h.stored_known;
  stored_users = h.stored_users;
}

true_or_not : (b : Bool) → b ≡ true → not b ≡ true → ⊥
true_or_not true h k = cc
true_or_not false h k = cc

-- none of the freed owner's locks stand
pub none_freed : (es : List Entry) (owner : Owner) (e : Entry) → Among (freed_owner es owner) e → e.owner ≡ owner → ⊥
none_freed es owner e k own =
    true_or_not (is_of owner e) (ap (λ o. same_owner o owner) own ∙ same_owner-refl owner) (filter_source (λ x. not (is_of owner x)) es e k).1

-- one that waits again may have some
pub holds_again : (ledger : Ledger) (key : UnitKey) → MayHold (with_mark ledger key mark.Again1) (Upd key)
holds_again ledger key = ap may_hold (status_marked ledger key mark.Again1)

-- ---- the stored locks of a unit

-- what is said of the stored locks of all units is said of those of one
pub every_stored : (Q : Owner → List ℕ → Type 0) (units : List UnitOfWork) (key : UnitKey) → AllByRecursion (OfStored Q) units
    → AllByRecursion (OfLock Q) (entries_of units key)
every_stored Q units key h =
    elim (unit_at units key) as (λ o. unit_at units key ≡ o → AllByRecursion (OfLock Q) (option_map_or (λ (unit : UnitOfWork). unit.entries) o [])) [
      | None ↦ λ e. tt
      | Some unit ↦ λ e. (found_unit (OfStored Q) units key unit e h).0
    ] refl

-- each is the unit's own
pub stored_owner : (units : List UnitOfWork) (key : UnitKey) (e : Entry) → AllByRecursion HasGoodLocks units → Among (entries_of units key) e
    → e.owner ≡ Upd key
stored_owner units key e held k =
    same_owner-same e.owner (Upd key) (all_among (is_of (Upd key)) (entries_of units key) e (may_be_readmitted units key held).owners k)

-- ---- marks and locks

-- a unit whose locks go with its mark
pub owned_freed : (honest : Bool) (ledger : Ledger) (next : ℕ) (sessions : List Session) (es : List Entry) (key : UnitKey) (kind : MarkKind)
    → IsOwned honest ledger next sessions es
    → IsOwned honest (with_mark ledger key kind) next sessions (freed_owner es (Upd key))
owned_freed honest ledger next sessions es key kind h =
    owned_marked honest ledger next sessions (freed_owner es (Upd key)) key kind (λ t e k own. absurd (none_freed es (Upd key) e k own))
    (owned_locks honest ledger next sessions es (freed_owner es (Upd key)) (λ Q k. every_freed_owner Q es (Upd key) k) h)

-- one that has none
pub owned_beside : (honest : Bool) (ledger : Ledger) (next : ℕ) (sessions : List Session) (es : List Entry) (key : UnitKey) (kind : MarkKind) (status : Status)
    → status_in ledger key ≡ Some status → may_hold (Some status) ≡ false → IsOwned honest ledger next sessions es
    → IsOwned honest (with_mark ledger key kind) next sessions es
owned_beside honest ledger next sessions es key kind status here none h =
    owned_marked honest ledger next sessions es key kind
    (λ t e k own. absurd (none_held ledger es key status here none (h.holders t) e k own)) h

-- one whose locks stand again
pub owned_back : (honest : Bool) (ledger : Ledger) (next : ℕ) (sessions : List Session) (es : List Entry) (key : UnitKey)
    → AllByRecursion HasGoodLocks ledger.units
    → IsOwned honest ledger next sessions es → IsOwned honest (with_mark ledger key mark.Again1) next sessions
    (freed_owner es (Upd key) ++ entries_of ledger.units key)
owned_back honest ledger next sessions es key good h =
    let known : Owner → List ℕ → Type 0 = λ owner user. IsKnown ledger.start next owner in
    let users = HasItsUser ledger.start sessions in
    let holders : Owner → List ℕ → Type 0 = λ owner user. MayHold (with_mark ledger key mark.Again1) owner in
    let others = owned_freed honest ledger next sessions es key mark.Again1 h in
    let stored = entries_of ledger.units key in
    record {
      known = λ t. every_append (OfLock known) (freed_owner es (Upd key)) stored (others.known t) (every_stored known ledger.units key h.stored_known);
      users = λ t. every_append (OfLock users) (freed_owner es (Upd key)) stored (others.users t) (every_stored users ledger.units key h.stored_users);
      holders = λ t. every_append (OfLock holders) (freed_owner es (Upd key)) stored (others.holders t)
          (every_by (OfLock holders) stored
          (λ e k. subst (MayHold (with_mark ledger key mark.Again1)) (sym (stored_owner ledger.units key e good k)) (holds_again ledger key)));
      stored_known = h.stored_known;
      stored_users = h.stored_users;
    }
