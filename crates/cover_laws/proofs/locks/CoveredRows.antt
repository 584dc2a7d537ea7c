-- Locks that cover a row: those that were asked for stand in the table, and no two units have exclusive ones there.
use Rattle.std.proofs.Common.{◌≡◌, ◌⊎◌, ℕ, zero, suc, ◌-◌, ◌<◌, ◌≤◌, Bool, true, false, not, ◌&&◌, ◌||◌, nat_eq, nat_le, List, [], ◌∷◌, ◌++◌, length, get_or}
use Rattle.std.proofs.Common.{sym, ap, ◌∙◌, subst, refl, arith, inl, inr}
use Rattle.std.specs.Prelude.{Contains, replicate}
use Rattle.std.specs.List.{filter, list_all, list_any}
use Rattle.std.specs.Str.{bytes_eq}
use Rattle.std.proofs.lemmas.Bool.{cases_Bool, and_from, and_parts, not-true, not_from_false}
use Rattle.std.proofs.lemmas.Bool.Decides.{nat_tests}
use Rattle.std.proofs.lemmas.List.Folds.{list_any_at}
use Rattle.enq_base.specs.Owners.{same_owner, same_unit}
use Rattle.enq_base.specs.declared.owner.Owner.{Owner}
use Rattle.enq_base.specs.declared.owner.Owner.TheVariants.{Upd}
use Rattle.enq_base.specs.declared.owner.UnitKey.{UnitKey}
use Rattle.enq_server.specs.Server.{of_user}
use Rattle.mode_rules.specs.Modes.{is_lenient, modes_clash}
use Rattle.mode_rules.specs.declared.Mode.{Mode}
use Rattle.mode_rules.specs.declared.Mode.TheVariants.{S, E, X, O}
use Rattle.lock_entry.specs.Argument.{byte_fits, bytes_meet, fits, generic, meets}
use Rattle.lock_entry.specs.Barring.{places_meet}
use Rattle.lock_entry.specs.Freeing.{handed_over}
use Rattle.lock_entry.specs.Names.{all_pairs, asked_of, count_at, has_name, is_of, name_of, named, same_asked}
use Rattle.lock_entry.specs.Pairs.{are_related}
use Rattle.lock_entry.specs.Sound.{in_conflict}
use Rattle.lock_entry.specs.declared.entry.Asked.{Asked}
use Rattle.lock_entry.specs.declared.entry.Entry.{Entry}
use Rattle.lock_entry.specs.declared.entry.LockName.{LockName}
use Rattle.lock_entry.proofs.lemmas.Lists.{count_by-any}
use Rattle.lock_entry.proofs.lemmas.Naming.{bytes_eq-refl, bytes_eq-same, same_name-same, same_owner-refl, same_owner-same, same_owner-sym}
use Rattle.coverage.specs.Locks.{covers, is_exclusive}
use Rattle.cover_laws.proofs.needed.LocksNeeded.{HandingCovers, HeldCovers, Holds, OneCovers, often}
use Rattle.cover_laws.proofs.locks.HeldLocks.{handing_leaves}
use Rattle.cover_laws.proofs.locks.LockCounts.{count-filter, count-user}
use Rattle.cover_laws.proofs.locks.OftenAsked.{same_asked-refl}

-- ---- elements

contains-first : {X : Type 0} (x : X) (xs : List X) → Contains (x ∷ xs) x
contains-first x xs = (0, omega arith, refl)

contains-more : {X : Type 0} (y x : X) (xs : List X) → Contains xs x → Contains (y ∷ xs) x
contains-more y x xs h = let low = h.1 in (suc h.0, omega arith, h.2)

contains-cases : {X : Type 0} (y x : X) (xs : List X) → Contains (y ∷ xs) x → (y ≡ x) ⊎ Contains xs x
contains-cases y x xs h = go h.0 h.1 h.2
  where
    go : (k : ℕ) → k < length (y ∷ xs) → get_or (y ∷ xs) k x ≡ x → (y ≡ x) ⊎ Contains xs x
    go zero low at = inl at
    go (suc k) low at = inr (k, omega arith, at)

contains-none : {X : Type 0} (x : X) → Contains [] x → ⊥
contains-none x h = let low = h.1 in omega arith

-- an element that passes the test
any-contained : {X : Type 0} (p : X → Bool) (xs : List X) → list_any p xs ≡ true → (x : X) × Contains xs x × (p x ≡ true)
any-contained p [] h = absurd (cc)
any-contained p (x ∷ xs) h =
    elim (cases_Bool (p x)) [
      | inl here ↦ (x, contains-first x xs, here)
      | inr other ↦ let rest = any-contained p xs (rw other at h) in (rest.0, contains-more x rest.0 xs rest.1, rest.2)
    ]

contained-any : {X : Type 0} (p : X → Bool) (xs : List X) (x : X) → Contains xs x → p x ≡ true → list_any p xs ≡ true
contained-any p xs x h t = list_any_at p xs h.0 x h.1 (ap p h.2 ∙ t)

contained-all : {X : Type 0} (p : X → Bool) (xs : List X) (x : X) → list_all p xs ≡ true → Contains xs x → p x ≡ true
contained-all p [] x h k = absurd (contains-none x k)
contained-all p (y ∷ ys) x h k =
    let hs = and_parts (p y) (list_all p ys) h in
    elim (contains-cases y x ys k) [ inl here ↦ ap p (sym here) ∙ hs.0 | inr later ↦ contained-all p ys x hs.1 later ]

-- two elements are one, or pass the test in one order
contained-pair : {X : Type 0} (r : X → X → Bool) (xs : List X) (x y : X) → all_pairs r xs ≡ true → Contains xs x → Contains xs y
    → (x ≡ y) ⊎ ((r x y ≡ true) ⊎ (r y x ≡ true))
contained-pair r [] x y h hx hy = absurd (contains-none x hx)
contained-pair r (z ∷ zs) x y h hx hy =
    let hs = and_parts (list_all (r z) zs) (all_pairs r zs) h in
    elim (contains-cases z x zs hx) [
      | inl zx ↦ elim (contains-cases z y zs hy) [
        | inl zy ↦ inl (sym zx ∙ zy)
        | inr ky ↦ inr (inl (ap (λ (w : _). r w y) (sym zx) ∙ contained-all (r z) zs y hs.0 ky))
      ]
      | inr kx ↦ elim (contains-cases z y zs hy) [
        | inl zy ↦ inr (inr (ap (λ (w : _). r w x) (sym zy) ∙ contained-all (r z) zs x hs.0 kx))
        | inr ky ↦ contained-pair r zs x y hs.1 kx ky
      ]
    ]

-- ---- locks that were asked for

counted-stands : (locks : List Entry) (n : LockName) → 1 ≤ count_at locks n → (e : Entry) × Contains locks e × (has_name n e ≡ true)
counted-stands [] n h = absurd (omega arith)
counted-stands (e ∷ es) n h =
    elim (cases_Bool (has_name n e)) [
      | inl here ↦ (e, contains-first e es, here)
      | inr other ↦
          let later : 1 ≤ count_at es n = rw other at h in
          let rest = counted-stands es n later in
          (rest.0, contains-more e rest.0 es rest.1, rest.2)
    ]

pub held_covers : HeldCovers
held_covers locks owner held table key firm holds covers_it =
    let found = any-contained (covers table key) held covers_it in
    let a : Asked = found.0 in
    let often_one : 1 ≤ often held a = count_by-any (same_asked a) held (contained-any (same_asked a) held a found.1 (same_asked-refl a)) in
    let enough : often held a ≤ count_at locks (named owner a) = holds a in
    let standing = counted-stands locks (named owner a) (omega arith) in
    let e : Entry = standing.0 in
    let same : named owner a ≡ name_of e = same_name-same (named owner a) (name_of e) standing.2 in
    let is : a ≡ asked_of e = ap (λ (n : LockName). n.asked) same in
    record {
      covers = record {
        lock = e;
        stands = standing.1;
        owned = sym (ap (λ (n : LockName). n.owner) same);
        exclusive = ap (λ (b : Asked). is_exclusive b.mode) (sym is) ∙ contained-all (λ (b : Asked). is_exclusive b.mode) held a firm found.1;
        fits = ap (covers table key) (sym is) ∙ found.2;
      };
      asked = subst (Contains held) is found.1;
    }

-- the owner's entries by themselves
own-named : (owner : Owner) (a : Asked) (e : Entry) → has_name (named owner a) e ≡ true → is_of owner e ≡ true
own-named owner a e h =
    let own : owner ≡ e.owner = ap (λ (n : LockName). n.owner) (same_name-same (named owner a) (name_of e) h) in
    ap (λ (o : Owner). same_owner o owner) (sym own) ∙ same_owner-refl owner

holds-own : (locks : List Entry) (owner : Owner) (held : List Asked) → Holds locks owner held → Holds (filter (is_of owner) locks) owner held
holds-own locks owner held holds = λ (a : Asked).
    let n = named owner a in
    let before : often held a ≤ count_at locks n = holds a in
    let same : count_at (filter (is_of owner) locks) n ≡ count_at locks n = count-filter n (is_of owner) (own-named owner a) locks in
    omega arith

holds-user : (user : List ℕ) (locks : List Entry) (owner : Owner) (held : List Asked) → Holds locks owner held → Holds (of_user user locks) owner held
holds-user user locks owner held holds = λ (a : Asked). subst (λ k. often held a ≤ k) (sym (count-user (named owner a) user locks)) (holds a)

pub handing_covers : HandingCovers
handing_covers user locks unit held table key firm holds covers_it =
    let own_locks = filter (is_of (Upd unit)) (handed_over locks unit) in
    held_covers (of_user user own_locks) (Upd unit) held table key firm
    (holds-user user own_locks (Upd unit) held
    (holds-own (handed_over locks unit) (Upd unit) held (handing_leaves locks unit (Upd unit) held firm holds))) covers_it

-- ---- two locks on one row

exclusive-strict : (m : Mode) → is_exclusive m ≡ true → is_lenient m ≡ false
exclusive-strict S h = absurd (cc)
exclusive-strict E h = refl
exclusive-strict X h = refl
exclusive-strict O h = absurd (cc)

clash-exclusive : (m k : Mode) → is_exclusive m ≡ true → modes_clash m k ≡ true
clash-exclusive m k h = ap (λ b. not (b && is_lenient k)) (exclusive-strict m h)

-- bytes that one key's byte fits meet
bytes_meet-fit : (k a b : ℕ) → byte_fits k a ≡ true → byte_fits k b ≡ true → bytes_meet a b ≡ true
bytes_meet-fit k a b h g = grind (arith, nat_tests)

meets-fit : (key p q : List ℕ) → fits key p ≡ true → fits key q ≡ true → meets p q ≡ true
meets-fit [] [] [] h g = refl
meets-fit [] (a ∷ p) q h g = absurd (cc)
meets-fit [] [] (b ∷ q) h g = absurd (cc)
meets-fit (k ∷ ks) [] q h g = absurd (cc)
meets-fit (k ∷ ks) (a ∷ p) [] h g = absurd (cc)
meets-fit (k ∷ ks) (a ∷ p) (b ∷ q) h g =
    let hs = and_parts (byte_fits k a) (fits ks p) h in
    let gs = and_parts (byte_fits k b) (fits ks q) g in
    and_from (bytes_meet a b) (meets p q) (bytes_meet-fit k a b hs.0 gs.0) (meets-fit ks p q hs.1 gs.1)

-- locks of one length that cover one row meet
covers-meet : (table key : List ℕ) (a b : Asked) → length a.pattern ≡ length b.pattern → covers table key a ≡ true
    → covers table key b ≡ true → places_meet a b ≡ true
covers-meet table key a b long ha hb =
    let front_a = and_parts (bytes_eq a.table table && not (list_any (λ x. nat_eq x generic) key)) _ ha in
    let front_b = and_parts (bytes_eq b.table table && not (list_any (λ x. nat_eq x generic) key)) _ hb in
    let table_a = bytes_eq-same a.table table (and_parts (bytes_eq a.table table) _ front_a.0).0 in
    let table_b = bytes_eq-same b.table table (and_parts (bytes_eq b.table table) _ front_b.0).0 in
    let fits_a = (and_parts (nat_le (length key) (length a.pattern)) _ front_a.1).1 in
    let fits_b = (and_parts (nat_le (length key) (length b.pattern)) _ front_b.1).1 in
    let padded : fits (key ++ replicate (length a.pattern - length key) 32) b.pattern ≡ true =
    ap (λ (k : ℕ). fits (key ++ replicate (k - length key) 32) b.pattern) long ∙ fits_b in
    let one : bytes_eq a.table b.table ≡ true = ap (bytes_eq a.table) (table_b ∙ sym table_a) ∙ bytes_eq-refl a.table in
    and_from (bytes_eq a.table b.table) (meets a.pattern b.pattern) one
    (meets-fit (key ++ replicate (length a.pattern - length key) 32) a.pattern b.pattern fits_a padded)

-- locks of two units that cover one row are in conflict
units-conflict : (first second : UnitKey) (table key : List ℕ) (a b : Entry) → same_unit first second ≡ false → a.owner ≡ Upd first
    → b.owner ≡ Upd second → is_exclusive a.mode ≡ true → length a.pattern ≡ length b.pattern → covers table key (asked_of a) ≡ true
    → covers table key (asked_of b) ≡ true → in_conflict a b ≡ true
units-conflict first second table key a b apart oa ob strict long ha hb =
    let other : are_related (Upd first) (Upd second) ≡ false = ap (λ c. c || false) apart in
    let unrelated : are_related a.owner b.owner ≡ false =
    ap (λ (o : Owner). are_related o b.owner) oa ∙ ap (are_related (Upd first)) ob ∙ other in
    let meet = covers-meet table key (asked_of a) (asked_of b) long ha hb in
    and_from (not (are_related a.owner b.owner)) _ (not_from_false (are_related a.owner b.owner) unrelated)
    (and_from (places_meet (asked_of a) (asked_of b)) (modes_clash a.mode b.mode) meet (clash-exclusive a.mode b.mode strict))

same_unit-same : (first second : UnitKey) → same_unit first second ≡ true → first ≡ second
same_unit-same first second h = let same : Upd first ≡ Upd second = same_owner-same (Upd first) (Upd second) h in cc

pub one_covers : OneCovers
one_covers locks first second table key a b sound long =
    elim (cases_Bool (same_unit first second)) [
      | inl same ↦ same_unit-same first second same
      | inr apart ↦
          let backward : same_unit second first ≡ false = unit_sym second first ∙ apart in
          elim (contained-pair (λ (x y : Entry). not (in_conflict x y)) locks a.lock b.lock sound.conflicts a.stands b.stands) [
            | inl one ↦ let owner : Upd first ≡ Upd second = sym a.owned ∙ ap (λ (e : Entry). e.owner) one ∙ b.owned in cc
            | inr pair ↦ absurd (elim pair [
              | inl calm ↦
                  let clash = units-conflict first second table key a.lock b.lock apart a.owned b.owned a.exclusive long a.fits b.fits in
                  let none = not-true _ calm in cc
              | inr calm ↦
                  let clash = units-conflict second first table key b.lock a.lock backward b.owned a.owned b.exclusive (sym long) b.fits a.fits in
                  let none = not-true _ calm in cc
            ])
          ]
    ]
  where
    unit_sym : (u v : UnitKey) → same_unit u v ≡ same_unit v u
    unit_sym u v = same_owner-sym (Upd u) (Upd v)
