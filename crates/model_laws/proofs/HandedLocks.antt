-- The locks of a unit that is recorded are those that were handed over to it.
use Rattle.std.proofs.Common.{◌≡◌, ◌≤◌, ℕ, Bool, true, false, not, List, [], ◌∷◌, inl, inr, refl, sym, ap, ◌∙◌, subst, arith}
use Rattle.std.specs.Prelude.{◌&&◌, Some, map, nat_le}
use Rattle.std.specs.List.{All, AllByRecursion, filter, list_all}
use Rattle.std.proofs.lemmas.Bool.Decides.{nat_tests}
use Rattle.std.proofs.lemmas.Bool.{and_from, and_parts, eq-eqb}
use Rattle.std.proofs.lemmas.List.Elements.{All-from_recursion}
use Rattle.enq_base.specs.declared.owner.Owner.TheVariants.{Upd}
use Rattle.enq_base.specs.declared.owner.UnitKey.{UnitKey}
use Rattle.enq_base.specs.declared.unit.Num.{Num}
use Rattle.enq_base.specs.declared.unit.Parts.{Parts}
use Rattle.enq_server.specs.Server.{of_user, with_user}
use Rattle.lock_laws.proofs.Frees.{IsTable-filter, IsTable-handed_over}
use Rattle.lock_entry.proofs.lemmas.Lists.{list_all-filter_self}
use Rattle.lock_entry.proofs.lemmas.Naming.{same_owner-same}
use Rattle.lock_entry.specs.declared.entry.Entry.{Entry}
use Rattle.lock_entry.specs.Freeing.{handed_over}
use Rattle.lock_entry.specs.Names.{all_pairs, is_of, names_differ}
use Rattle.lock_entry.specs.Sound.{has_count}
use Rattle.lock_entry.specs.Table.{IsTable, Table, with_entries}
use Rattle.mode_rules.specs.declared.Mode.{Mode}
use Rattle.mode_rules.specs.declared.Mode.TheVariants.{S, E, X, O}
use Rattle.mode_rules.specs.Modes.{same_mode}
use Rattle.update_records.specs.Grammar.{IsHeldBy, is_optimistic}
use Rattle.hall_model.specs.declared.command.Session.{Session}
use Rattle.hall_model.specs.Kept.{HasGoodLocks, HasItsUser, IsUserOf, OfLock, is_firm, is_of_session}
use Rattle.hall_model.specs.Sessions.{is_called, session_at, unit_key}
use Rattle.hall_model.specs.Step.{handed_locks, unit_of}
use Rattle.model_laws.proofs.FoundSessions.{found_in}
use Rattle.model_laws.proofs.LockLists.{Among, all_among, filter_source, handed_source, map_source}
use Rattle.model_laws.proofs.EachLock.{every_at, every_by, every_handed}

firm_mode : (m : Mode) → same_mode m O ≡ false → is_optimistic m ≡ false
firm_mode S h = refl
firm_mode E h = refl
firm_mode X h = refl
firm_mode O h = absurd (cc)

least : (n : ℕ) → nat_le 1 n ≡ true → 1 ≤ n
least n h = grind (arith, nat_tests)

most : (n : ℕ) → nat_le n 9999 ≡ true → n ≤ 9999
most n h = grind (arith, nat_tests)

-- ---- with another user

list_over : {X : Type 0} (f : X → X) (p q : X → Bool) → ((x : X) → p (f x) ≡ q x) → (xs : List X) → list_all p (map f xs) ≡ list_all q xs
list_over f p q same [] = refl
list_over f p q same (x ∷ xs) = (λ i. same x i && list_over f p q same xs i)

pairs_over : {X : Type 0} (f : X → X) (test : X → X → Bool) → ((x y : X) → test (f x) (f y) ≡ test x y) → (xs : List X)
    → all_pairs test (map f xs) ≡ all_pairs test xs
pairs_over f test same [] = refl
pairs_over f test same (x ∷ xs) = (λ i. list_over f (test (f x)) (test x) (same x) xs i && pairs_over f test same xs i)

-- locks that have the user stay
pub of_user_same : (user : List ℕ) (es : List Entry) → AllByRecursion (λ (e : Entry). e.user ≡ user) es → of_user user es ≡ es
of_user_same user [] h = refl
of_user_same user (e ∷ es) h = (λ i. record e { user = sym h.0 i } ∷ of_user_same user es h.1 i)

-- ---- the locks that are stored

-- those that were handed over are a good table of their own
pub handed_table : (t : Table) (unit : UnitKey) → IsTable t → IsTable (with_entries t (filter (is_of (Upd unit)) (handed_over t.entries unit)))
handed_table t unit good = IsTable-filter (with_entries t (handed_over t.entries unit)) (is_of (Upd unit)) (IsTable-handed_over t unit good)

held_by : (t : Table) (start : ℕ) (x : Session) (parts : Parts) (numbers : List Num) (e : Entry) → IsTable t
    → Among (handed_locks x.user t.entries (unit_key start x)) e → IsHeldBy (unit_of start t.entries x parts numbers) e
held_by t start x parts numbers e good k =
    let key = unit_key start x in
    let own_locks = filter (is_of (Upd key)) (handed_over t.entries key) in
    let made = map_source (with_user x.user) own_locks e k in
    let y : Entry = made.0 in
    let stood = filter_source (is_of (Upd key)) (handed_over t.entries key) y made.1 in
    let own : y.owner ≡ Upd key = same_owner-same y.owner (Upd key) stood.1 in
    let source = handed_source t.entries key y own stood.0 in
    let counts = and_parts (nat_le 1 y.count) (nat_le y.count 9999) (all_among has_count own_locks y (handed_table t key good).sound.counts made.1) in
    subst (IsHeldBy (unit_of start t.entries x parts numbers)) made.2 (record {
      owner = own;
      user = refl;
      mode = ap (λ (z : Entry). is_optimistic z.mode) source.4 ∙ firm_mode source.0.mode source.3;
      low = least y.count counts.0;
      high = most y.count counts.1;
      handed = ap (λ (z : Entry). z.handed) source.4;
    })

pub all_held : (t : Table) (start : ℕ) (x : Session) (parts : Parts) (numbers : List Num) → IsTable t
    → All (IsHeldBy (unit_of start t.entries x parts numbers)) (handed_locks x.user t.entries (unit_key start x))
all_held t start x parts numbers good =
    let locks = handed_locks x.user t.entries (unit_key start x) in
    All-from_recursion (IsHeldBy (unit_of start t.entries x parts numbers)) locks
    (every_by (IsHeldBy (unit_of start t.entries x parts numbers)) locks (λ e k. held_by t start x parts numbers e good k))

all_by : {A : Type 0} (p : A → Bool) (xs : List A) → ((x : A) → Among xs x → p x ≡ true) → list_all p xs ≡ true
all_by p [] h = refl
all_by p (x ∷ xs) h = and_from (p x) (list_all p xs) (h x (inl refl)) (all_by p xs (λ y k. h y (inr k)))

firm_of : (m : Mode) → is_optimistic m ≡ false → not (same_mode m O) ≡ true
firm_of S h = refl
firm_of E h = refl
firm_of X h = refl
firm_of O h = absurd (cc)

-- they can stand again as they are
pub handed_good : (t : Table) (start : ℕ) (x : Session) (parts : Parts) (numbers : List Num) → IsTable t
    → HasGoodLocks (unit_of start t.entries x parts numbers)
handed_good t start x parts numbers good =
    let key = unit_key start x in
    let own_locks = filter (is_of (Upd key)) (handed_over t.entries key) in
    let locks = handed_locks x.user t.entries key in
    let table = handed_table t key good in
    record {
      own = record {
        owners = list_over (with_user x.user) (is_of (Upd key)) (is_of (Upd key)) (λ e. refl) own_locks
            ∙ list_all-filter_self (is_of (Upd key)) (handed_over t.entries key);
        names = pairs_over (with_user x.user) names_differ (λ a b. refl) own_locks ∙ table.sound.names;
        counts = list_over (with_user x.user) has_count has_count (λ e. refl) own_locks ∙ table.sound.counts;
      };
      firm = all_by is_firm locks
          (λ e k. let held = held_by t start x parts numbers e good k in and_from e.handed (not (same_mode e.mode O)) held.handed (firm_of e.mode held.mode));
      used = every_by (λ (e : Entry). e.user ≡ x.user) locks (λ e k. (held_by t start x parts numbers e good k).user);
    }

-- ---- where the locks have the session's user

own_session : (start : ℕ) (x : Session) → is_of_session start x.number (Upd (unit_key start x)) ≡ true
own_session start x = and_from _ _ (eq-eqb start start refl) (eq-eqb x.number x.number refl)

-- a lock of the session's open unit has the session's user
user_at : (sessions : List Session) (name : List ℕ) (start : ℕ) (x : Session) (e : Entry) → session_at sessions name ≡ Some x → e.owner ≡ Upd (unit_key start x)
    → HasItsUser start sessions e.owner e.user → e.user ≡ x.user
user_at sessions name start x e found own user =
    found_in (IsUserOf start e.owner e.user) (is_called name) sessions x found user (ap (is_of_session start x.number) own ∙ own_session start x)

-- they are stored as they stand
pub handed_as_stood : (es : List Entry) (sessions : List Session) (name : List ℕ) (start : ℕ) (x : Session) → session_at sessions name ≡ Some x
    → AllByRecursion (OfLock (HasItsUser start sessions)) es
    → handed_locks x.user es (unit_key start x) ≡ filter (is_of (Upd (unit_key start x))) (handed_over es (unit_key start x))
handed_as_stood es sessions name start x found users =
    let key = unit_key start x in
    let own_locks = filter (is_of (Upd key)) (handed_over es key) in
    let its = every_handed (HasItsUser start sessions) es key users in
    of_user_same x.user own_locks (every_by (λ (e : Entry). e.user ≡ x.user) own_locks
    (λ e k.
    let stood = filter_source (is_of (Upd key)) (handed_over es key) e k in
    user_at sessions name start x e found (same_owner-same e.owner (Upd key) stood.1)
    (every_at (OfLock (HasItsUser start sessions)) (handed_over es key) e its stood.0)))
