-- The locks of the open units as the store has them: they stand together, and a start begins with just them.
use Rattle.std.proofs.Common.{◌≡◌, ◌≤◌, ◌+◌, ◌⊎◌, ℕ, arith, length, Bool, true, false, not, List, [], ◌∷◌, ◌++◌, map, inl, inr, refl, sym, ap, ◌∙◌, subst}
use Rattle.std.specs.List.{AllByRecursion, filter, list_all}
use Rattle.std.proofs.lemmas.Bool.{and_parts}
use Rattle.std.proofs.lemmas.List.{append-nil, length-append}
use Rattle.std.proofs.lemmas.List.Filters.{length-filter_both}
use Rattle.std.proofs.lemmas.List.Concat.{flat_map-cons}
use Rattle.std.proofs.lemmas.List.Elements.{All-from_recursion, filter-append}
use Rattle.enq_base.specs.Owners.{same_unit}
use Rattle.enq_base.specs.declared.owner.Owner.{Owner}
use Rattle.enq_base.specs.declared.owner.Owner.TheVariants.{Upd}
use Rattle.enq_base.specs.declared.owner.UnitKey.{UnitKey}
use Rattle.enq_server.proofs.lemmas.Held.{held_stand}
use Rattle.enq_server.specs.Held.{owner_of}
use Rattle.enq_server.specs.Recovery.{joined}
use Rattle.lock_entry.specs.Freeing.{freed_owner}
use Rattle.lock_entry.specs.Names.{all_pairs, is_of}
use Rattle.lock_entry.specs.Sound.{IsSound}
use Rattle.lock_entry.specs.declared.entry.Entry.{Entry}
use Rattle.lock_entry.specs.declared.entry.UnitLocks.{UnitLocks}
use Rattle.ledger_steps.specs.Posts.{entries_of}
use Rattle.ledger_steps.specs.Steps.{IsOpenUnit, waiting_for}
use Rattle.ledger_steps.specs.Views.{locks_of, open_locks}
use Rattle.record_laws.proofs.Status.{flip}
use Rattle.update_records.specs.Ledger.{Ledger}
use Rattle.hall_model.specs.Kept.{HasGoodLocks, HasItsUser, IsKnown, IsOwned, MayHold, OfLock, may_hold}
use Rattle.hall_model.specs.OpenUnits.{HoldsOpenUnits, IsOpenIfHanded, IsOpenOwner, open_entries}
use Rattle.hall_model.specs.declared.command.Session.{Session}
use Rattle.hall_laws.proofs.starting.FirstKeeps.{IsFirst, first_known, first_stored, first_users}
use Rattle.model_laws.proofs.LockLists.{Among, all_among}
use Rattle.model_laws.proofs.EachLock.{every_at, every_by, may_be_readmitted, every_map, every_more}
use Rattle.hall_laws.proofs.keeping.Owners.{every_stored, stored_owner}
use Rattle.hall_laws.proofs.histories.OwnLocks.{filter_all, its_freed_owner, none_of_others}
use Rattle.model_laws.proofs.WaitingUnits.{all_open, differ, open_listed, open_owners_differ, waiting_differ}
use Rattle.ledger_steps.specs.declared.part.Part.TheVariants.{V1}

-- ---- one unit behind the other

joined_more : (u : UnitLocks) (units : List UnitLocks) → joined (u ∷ units) ≡ u.entries ++ joined units
joined_more u units = flat_map-cons (λ (v : UnitLocks). v.entries) u units

in_either : (xs ys : List Entry) (e : Entry) → Among (xs ++ ys) e → Among xs e ⊎ Among ys e
in_either [] ys e k = inr k
in_either (x ∷ xs) ys e (inl is) = inl (inl is)
in_either (x ∷ xs) ys e (inr k) = elim (in_either xs ys e k) [ inl j ↦ inl (inr j) | inr j ↦ inr j ]

-- the locks of units of these keys
abbrev entries_at : Ledger → List UnitKey → List Entry
entries_at ledger keys = joined (map (locks_of ledger) keys)

source_among : (ledger : Ledger) (keys : List UnitKey) (e : Entry) → Among (entries_at ledger keys) e
    → (key : UnitKey) × Among keys key × Among (entries_of ledger.units key) e
source_among ledger [] e k = absurd k
source_among ledger (key ∷ keys) e k =
    let rest = entries_at ledger keys in
    elim (in_either (entries_of ledger.units key) rest e (subst (λ es. Among es e) (joined_more (locks_of ledger key) (map (locks_of ledger) keys)) k)) [
      | inl j ↦ (key, inl refl, j)
      | inr j ↦ let r = source_among ledger keys e j in (r.0, inr r.1, r.2)
    ]

-- each is stored with an open unit
open_source : (ledger : Ledger) (e : Entry) → Among (open_entries ledger) e → (key : UnitKey) × IsOpenUnit ledger key × Among (entries_of ledger.units key) e
open_source ledger e k =
    let r = source_among ledger (waiting_for V1 ledger) e k in
    (r.0, every_at (IsOpenUnit ledger) (waiting_for V1 ledger) r.0 (all_open ledger) r.1, r.2)

every_open : (P : Entry → Type 0) (ledger : Ledger)
    → ((key : UnitKey) → IsOpenUnit ledger key → (e : Entry) → Among (entries_of ledger.units key) e → P e) → AllByRecursion P (open_entries ledger)
every_open P ledger h = every_by P (open_entries ledger) (λ e k. let r = open_source ledger e k in h r.0 r.1 e r.2)

-- ---- they stand together

abbrev Fits : List Entry → UnitLocks → Type 0
Fits locks u = u.entries ≡ filter (is_of (owner_of u)) locks

-- where they stand in a sound table
pub open_stands : (locks : List Entry) (ledger : Ledger) → IsSound locks → HoldsOpenUnits locks ledger → IsSound (open_entries ledger)
open_stands locks ledger sound h =
    held_stand locks (open_locks ledger) (record {
      sound = sound;
      distinct = open_owners_differ ledger;
      entries = All-from_recursion (Fits locks) (open_locks ledger)
          (every_map (IsOpenUnit ledger) (Fits locks) (locks_of ledger) (λ key waits. sym (h.units key waits)) (waiting_for V1 ledger) (all_open ledger));
    })

-- ---- they are no more than the locks of the table

apart_by_test : (b : Bool) → not b ≡ true → b ≡ false
apart_by_test true h = cc
apart_by_test false h = refl

-- each of these units has just its locks in the table
abbrev HaveTheirs : Ledger → List UnitKey → List Entry → Type 0
HaveTheirs ledger keys locks = AllByRecursion (λ (key : UnitKey). filter (is_of (Upd key)) locks ≡ entries_of ledger.units key) keys

-- and has them where those of another unit are gone
theirs_without : (ledger : Ledger) (unit : UnitKey) (keys : List UnitKey) (locks : List Entry) → list_all (differ unit) keys ≡ true
    → HaveTheirs ledger keys locks
    → HaveTheirs ledger keys (freed_owner locks (Upd unit))
theirs_without ledger unit [] locks apart h = tt
theirs_without ledger unit (key ∷ keys) locks apart h =
    let parts = and_parts (differ unit key) (list_all (differ unit) keys) apart in
    let other : same_unit key unit ≡ false = flip key unit (apart_by_test (same_unit unit key) parts.0) in
    (its_freed_owner (Upd key) (Upd unit) locks other ∙ h.0, theirs_without ledger unit keys locks parts.1 h.1)

theirs_fit : (ledger : Ledger) (keys : List UnitKey) (locks : List Entry) → all_pairs differ keys ≡ true → HaveTheirs ledger keys locks
    → length (entries_at ledger keys) ≤ length locks
theirs_fit ledger [] locks apart h = omega arith
theirs_fit ledger (key ∷ keys) locks apart h =
    let parts = and_parts (list_all (differ key) keys) (all_pairs differ keys) apart in
    let rest = freed_owner locks (Upd key) in
    let fewer = theirs_fit ledger keys rest parts.1 (theirs_without ledger key keys locks parts.0 h.1) in
    let own : length (filter (is_of (Upd key)) locks) ≡ length (entries_of ledger.units key) = ap length h.0 in
    let both = length-filter_both (is_of (Upd key)) (λ e. not (is_of (Upd key) e)) (λ e. refl) locks in
    let long : length (entries_at ledger (key ∷ keys)) ≡ length (entries_of ledger.units key) + length (entries_at ledger keys) =
    ap length (joined_more (locks_of ledger key) (map (locks_of ledger) keys)) ∙ length-append (entries_of ledger.units key) (entries_at ledger keys) in
    omega (arith, fewer, own, both, long)

pub open_fit : (locks : List Entry) (ledger : Ledger) → HoldsOpenUnits locks ledger → length (open_entries ledger) ≤ length locks
open_fit locks ledger h =
    theirs_fit ledger (waiting_for V1 ledger) locks (waiting_differ ledger)
    (every_more (IsOpenUnit ledger) (λ key. filter (is_of (Upd key)) locks ≡ entries_of ledger.units key) (λ key waits. h.units key waits)
    (waiting_for V1 ledger) (all_open ledger))

-- ---- a table with just these

own_entries : (ledger : Ledger) (key : UnitKey) → AllByRecursion HasGoodLocks ledger.units → list_all (is_of (Upd key)) (entries_of ledger.units key) ≡ true
own_entries ledger key good = (may_be_readmitted ledger.units key good).owners

one_more : (ledger : Ledger) (o : Owner) (key : UnitKey) (keys : List UnitKey)
    → filter (is_of o) (entries_at ledger (key ∷ keys)) ≡ filter (is_of o) (entries_of ledger.units key) ++ filter (is_of o) (entries_at ledger keys)
one_more ledger o key keys =
    ap (filter (is_of o)) (joined_more (locks_of ledger key) (map (locks_of ledger) keys))
    ∙ filter-append (is_of o) (entries_of ledger.units key) (entries_at ledger keys)

-- a unit that isn't among these
none_at : (ledger : Ledger) (unit : UnitKey) (keys : List UnitKey) → AllByRecursion HasGoodLocks ledger.units → list_all (differ unit) keys ≡ true
    → filter (is_of (Upd unit)) (entries_at ledger keys) ≡ []
none_at ledger unit [] good h = refl
none_at ledger unit (key ∷ keys) good h =
    let parts = and_parts (differ unit key) (list_all (differ unit) keys) h in
    let apart : same_unit key unit ≡ false = flip key unit (apart_by_test (same_unit unit key) parts.0) in
    one_more ledger (Upd unit) key keys
    ∙ ap (λ es. es ++ filter (is_of (Upd unit)) (entries_at ledger keys))
    (none_of_others (Upd unit) (Upd key) (entries_of ledger.units key) apart (own_entries ledger key good))
    ∙ none_at ledger unit keys good parts.1

differs_from : (unit : UnitKey) (keys : List UnitKey) (key : UnitKey) → list_all (differ unit) keys ≡ true → Among keys key → same_unit unit key ≡ false
differs_from unit keys key h k = apart_by_test (same_unit unit key) (all_among (differ unit) keys key h k)

-- one that is among them, once
its_entries : (ledger : Ledger) (unit : UnitKey) (keys : List UnitKey) → AllByRecursion HasGoodLocks ledger.units → all_pairs differ keys ≡ true
    → Among keys unit → filter (is_of (Upd unit)) (entries_at ledger keys) ≡ entries_of ledger.units unit
its_entries ledger unit [] good h k = absurd k
its_entries ledger unit (key ∷ keys) good h (inl is) =
    let parts = and_parts (list_all (differ key) keys) (all_pairs differ keys) h in
    let own = entries_of ledger.units unit in
    one_more ledger (Upd unit) key keys
    ∙ ap (λ u. filter (is_of (Upd unit)) (entries_of ledger.units u) ++ filter (is_of (Upd unit)) (entries_at ledger keys)) is
    ∙ ap (λ es. es ++ filter (is_of (Upd unit)) (entries_at ledger keys)) (filter_all (is_of (Upd unit)) own (own_entries ledger unit good))
    ∙ ap (λ es. own ++ es) (none_at ledger unit keys good (subst (λ u. list_all (differ u) keys ≡ true) is parts.0))
    ∙ append-nil own
its_entries ledger unit (key ∷ keys) good h (inr k) =
    let parts = and_parts (list_all (differ key) keys) (all_pairs differ keys) h in
    one_more ledger (Upd unit) key keys
    ∙ ap (λ es. es ++ filter (is_of (Upd unit)) (entries_at ledger keys))
    (none_of_others (Upd unit) (Upd key) (entries_of ledger.units key) (differs_from key keys unit parts.0 k) (own_entries ledger key good))
    ∙ its_entries ledger unit keys good parts.1 k

-- the table with which a start begins
pub first_held : (ledger : Ledger) → AllByRecursion HasGoodLocks ledger.units → HoldsOpenUnits (open_entries ledger) ledger
first_held ledger good = record {
  units = λ unit waits. its_entries ledger unit (waiting_for V1 ledger) good (waiting_differ ledger) (open_listed ledger unit waits);
  handed = every_open (IsOpenIfHanded ledger) ledger (λ key waits e k handed. subst (IsOpenOwner ledger) (sym (stored_owner ledger.units key e good k)) waits);
}

-- whose its locks are, where it is known of the stored ones
pub open_owned : (before honest : Bool) (ledger : Ledger) (next : ℕ) (sessions : List Session) (es : List Entry) → AllByRecursion HasGoodLocks ledger.units
    → IsOwned before ledger next sessions es → IsOwned honest ledger next sessions (open_entries ledger)
open_owned before honest ledger next sessions es good h =
    let Known : Owner → List ℕ → Type 0 = λ owner user. IsKnown ledger.start next owner in
    let Users : Owner → List ℕ → Type 0 = HasItsUser ledger.start sessions in
    record {
      known = λ t. every_open (OfLock Known) ledger
          (λ key waits e k. every_at (OfLock Known) (entries_of ledger.units key) e (every_stored Known ledger.units key h.stored_known) k);
      users = λ t. every_open (OfLock Users) ledger
          (λ key waits e k. every_at (OfLock Users) (entries_of ledger.units key) e (every_stored Users ledger.units key h.stored_users) k);
      holders = λ t. every_open (OfLock (λ owner user. MayHold ledger owner)) ledger
          (λ key waits e k. subst (MayHold ledger) (sym (stored_owner ledger.units key e good k)) (ap may_hold waits));
      stored_known = h.stored_known;
      stored_users = h.stored_users;
    }

pub first_owned : (honest : Bool) (ledger : Ledger) → IsFirst ledger → IsOwned honest ledger 1 [] (open_entries ledger)
first_owned honest ledger first =
    open_owned honest honest ledger 1 [] [] (first_stored ledger first)
    (record { known = λ t. tt; users = λ t. tt; holders = λ t. tt; stored_known = first_known ledger first; stored_users = first_users ledger })
