-- The tests of owners, modes and names decide equality.
use Rattle.std.proofs.Common.{◌≡◌, ◌↔◌, ℕ, List, Bool, true, IsTrue, sym, ap, refl}
use Rattle.std.specs.Str.{bytes_eq}
use Rattle.std.specs.Cmp.{both_ways}
use Rattle.std.proofs.lemmas.Bool.{and_parts, and_from, eqb-true, eq-eqb}
use Rattle.std.proofs.lemmas.Slice.Eq.{bytes_eq-Decides}
use Rattle.enq_base.specs.Owners.{same_owner, same_unit}
use Rattle.enq_base.specs.declared.owner.UnitKey.{UnitKey}
use Rattle.enq_base.specs.declared.owner.Owner.{Owner}
use Rattle.enq_base.specs.declared.owner.Owner.TheVariants.{Dlg, Upd}
use Rattle.mode_rules.specs.declared.Mode.{Mode}
use Rattle.mode_rules.specs.declared.Mode.TheVariants.{S, E, X, O}
use Rattle.mode_rules.specs.Modes.{same_mode}
use Rattle.lock_entry.specs.declared.entry.LockName.{LockName}
use Rattle.lock_entry.specs.Names.{same_name}

-- a test that decides whether two texts are equal is the test of their bytes
pub is_bytes_eq : (r : Bool) (a b : List ℕ) → IsTrue r ↔ (a ≡ b) → r ≡ bytes_eq a b
is_bytes_eq r a b h =
    both_ways r (bytes_eq a b) (λ t. (bytes_eq-Decides a b).1 (h.0 t)) (λ t. h.1 ((bytes_eq-Decides a b).0 t))

pub bytes_eq-refl : (bs : List ℕ) → bytes_eq bs bs ≡ true
bytes_eq-refl bs = (bytes_eq-Decides bs bs).1 refl

pub bytes_eq-same : (a b : List ℕ) → bytes_eq a b ≡ true → a ≡ b
bytes_eq-same a b h = (bytes_eq-Decides a b).0 h

same_unit-refl : (u : UnitKey) → same_unit u u ≡ true
same_unit-refl u = and_from _ _ (and_from _ _ (eq-eqb u.start u.start refl) (eq-eqb u.session u.session refl)) (eq-eqb u.luw u.luw refl)

same_unit-same : (u v : UnitKey) → same_unit u v ≡ true → u ≡ v
same_unit-same u v h =
    let a = and_parts _ _ h in
    let b = and_parts _ _ a.0 in
    let s : u.start ≡ v.start = eqb-true _ _ b.0 in
    let n : u.session ≡ v.session = eqb-true _ _ b.1 in
    let l : u.luw ≡ v.luw = eqb-true _ _ a.1 in
    λ i. record { start = s i; session = n i; luw = l i }

pub same_owner-refl : (o : Owner) → same_owner o o ≡ true
same_owner-refl (Dlg s n) = and_from _ _ (eq-eqb s s refl) (eq-eqb n n refl)
same_owner-refl (Upd u) = same_unit-refl u

pub same_owner-same : (o p : Owner) → same_owner o p ≡ true → o ≡ p
same_owner-same (Dlg s n) (Dlg t m) h =
    let hs = and_parts _ _ h in
    let a : s ≡ t = eqb-true _ _ hs.0 in
    let b : n ≡ m = eqb-true _ _ hs.1 in cc
same_owner-same (Upd u) (Upd v) h = ap Upd (same_unit-same u v h)
same_owner-same (Dlg s n) (Upd v) h = absurd (cc)
same_owner-same (Upd u) (Dlg t m) h = absurd (cc)

pub same_owner-sym : (o p : Owner) → same_owner o p ≡ same_owner p o
same_owner-sym o p =
    both_ways (same_owner o p) (same_owner p o)
    (λ h. let e = same_owner-same o p h in rw e (same_owner-refl p))
    (λ h. let e = same_owner-same p o h in rw e (same_owner-refl o))

pub same_mode-refl : (m : Mode) → same_mode m m ≡ true
same_mode-refl S = refl
same_mode-refl E = refl
same_mode-refl X = refl
same_mode-refl O = refl

pub same_mode-same : (m n : Mode) → same_mode m n ≡ true → m ≡ n
same_mode-same S S h = refl
same_mode-same E E h = refl
same_mode-same X X h = refl
same_mode-same O O h = refl
same_mode-same S E h = absurd (cc)
same_mode-same S X h = absurd (cc)
same_mode-same S O h = absurd (cc)
same_mode-same E S h = absurd (cc)
same_mode-same E X h = absurd (cc)
same_mode-same E O h = absurd (cc)
same_mode-same X S h = absurd (cc)
same_mode-same X E h = absurd (cc)
same_mode-same X O h = absurd (cc)
same_mode-same O S h = absurd (cc)
same_mode-same O E h = absurd (cc)
same_mode-same O X h = absurd (cc)

pub same_name-refl : (n : LockName) → same_name n n ≡ true
same_name-refl n =
    and_from _ _ (same_owner-refl n.owner)
    (and_from _ _ (and_from _ _ (bytes_eq-refl n.asked.table) (bytes_eq-refl n.asked.pattern)) (same_mode-refl n.asked.mode))

pub same_name-same : (a b : LockName) → same_name a b ≡ true → a ≡ b
same_name-same a b h =
    let hs = and_parts _ _ h in
    let as' = and_parts _ _ hs.1 in
    let ps = and_parts _ _ as'.0 in
    let o : a.owner ≡ b.owner = same_owner-same _ _ hs.0 in
    let t : a.asked.table ≡ b.asked.table = bytes_eq-same _ _ ps.0 in
    let p : a.asked.pattern ≡ b.asked.pattern = bytes_eq-same _ _ ps.1 in
    let m : a.asked.mode ≡ b.asked.mode = same_mode-same _ _ as'.1 in
    λ i. record { owner = o i; asked = record { table = t i; pattern = p i; mode = m i } }

pub same_name-sym : (a b : LockName) → same_name a b ≡ same_name b a
same_name-sym a b =
    both_ways (same_name a b) (same_name b a)
    (λ h. let e = same_name-same a b h in rw e (same_name-refl b))
    (λ h. let e = same_name-same b a h in rw e (same_name-refl a))
