-- The units whose lists stand in a file.
use Rattle.std.proofs.Common.{◌≡◌, ◌≤◌, ◌<◌, Bool, true, false, not, cond, ◌&&◌, ◌||◌, List, [], ◌∷◌, length, refl, sym, ap, ◌∙◌, arith}
use Rattle.std.specs.Prelude.{if◌then◌else◌, nat_lt}
use Rattle.std.specs.List.{All, AllByRecursion}
use Rattle.std.proofs.lemmas.Bool.Decides.{nat_tests}
use Rattle.std.proofs.lemmas.List.Elements.{recursion_from_All}
use Rattle.enq_base.specs.Owners.{same_unit}
use Rattle.enq_base.specs.declared.owner.UnitKey.{UnitKey}
use Rattle.lock_entry.specs.declared.entry.Entry.{Entry}
use Rattle.lock_entry.specs.declared.entry.UnitLocks.{UnitLocks}
use Rattle.backup_file.proofs.lemmas.Units.{same_key}
use Rattle.backup_file.specs.Lists.{AreUnits, HaveEntries, has_unit, is_known}
use Rattle.backup_file.specs.declared.handed.Handed.{Handed}
use Rattle.enq_base.specs.declared.unit_id.UnitId.{UnitId}
use Rattle.enq_server.specs.Recovery.{Agrees, AreKnown, AreWith, AreWithout, entries_of, is_one_of, lists_among, locking}

pub some_entries : (es : List Entry) → 0 < length es → nat_lt 0 (length es) ≡ true
some_entries es h = grind (arith, nat_tests)

pub no_entries : (es : List Entry) → length es ≡ 0 → nat_lt 0 (length es) ≡ false
no_entries es h = ap (nat_lt 0) h

never : (a : Bool) → (a && false) ≡ false
never true = refl
never false = refl

always : (a : Bool) → (a && true) ≡ a
always true = refl
always false = refl

-- ---- of some units those that have entries

-- a unit that is first stays or goes by its entries, and counts for itself alone
first_counts : (b s n r o : Bool) (v : UnitLocks) (rest : List UnitLocks) (u : UnitKey) → same_unit v.unit u ≡ s → is_one_of rest u ≡ r → r ≡ (o && n)
    → (s ≡ true → b ≡ n) → is_one_of (cond b (v ∷ rest) rest) u ≡ ((s || o) && n)
first_counts true true n r o v rest u same one h own = ap (λ t. t || is_one_of rest u) same ∙ own refl
first_counts true false n r o v rest u same one h own = ap (λ t. t || is_one_of rest u) same ∙ one ∙ h
first_counts false false n r o v rest u same one h own = one ∙ h
first_counts false true n r o v rest u same one h own = one ∙ h ∙ ap (λ t. o && t) (sym (own refl)) ∙ never o ∙ own refl

-- where each unit has the entries that are told of it
pub locking_one : (told : UnitKey → List Entry) (units : List UnitLocks) (u : UnitKey) → AllByRecursion (λ (v : UnitLocks). v.entries ≡ told v.unit) units
    → is_one_of (locking units) u ≡ (is_one_of units u && nat_lt 0 (length (told u)))
locking_one told [] u h = refl
locking_one told (v ∷ units) u h =
    first_counts (nat_lt 0 (length v.entries)) (same_unit v.unit u) (nat_lt 0 (length (told u)))
    (is_one_of (locking units) u) (is_one_of units u) v (locking units) u refl refl (locking_one told units u h.1)
    (λ same. ap (λ es. nat_lt 0 (length es)) (h.0 ∙ ap told (same_key v.unit u same)))

-- ---- the lists of these units alone

listed_first : (a s o x : Bool) → (s ≡ true → a ≡ o) → cond a (s || (o && x)) (o && x) ≡ (o && (s || x))
listed_first true true o x h = h refl ∙ sym (always o)
listed_first true false o x h = refl
listed_first false true o x h = ap (λ b. b && x) (sym (h refl)) ∙ ap (λ b. b && true) (h refl)
listed_first false false o x h = refl

unit_among : (units : List UnitLocks) (l : List Handed) (u : UnitKey) → has_unit u (lists_among units l) ≡ (is_one_of units u && has_unit u l)
unit_among units [] u = sym (never (is_one_of units u))
unit_among units (h ∷ l) u =
    split (is_one_of units h.unit)
    ∙ ap (λ b. cond (is_one_of units h.unit) (same_unit h.unit u || b) b) (unit_among units l u)
    ∙ listed_first (is_one_of units h.unit) (same_unit h.unit u) (is_one_of units u) (has_unit u l) (λ own. ap (is_one_of units) (same_key h.unit u own))
  where
    split : (b : Bool) → has_unit u (cond b (h ∷ lists_among units l) (lists_among units l))
        ≡ cond b (same_unit h.unit u || has_unit u (lists_among units l)) (has_unit u (lists_among units l))
    split true = refl
    split false = refl

-- a list stands of a unit just where it has entries in these
unit_listed : (l : List Handed) (u : UnitKey) → AllByRecursion (λ (h : Handed). 0 < length h.entries) l → has_unit u l ≡ nat_lt 0 (length (entries_of l u))
unit_listed [] u some = refl
unit_listed (h ∷ l) u some =
    elim (same_unit h.unit u) as (λ b. (b || has_unit u l) ≡ nat_lt 0 (length (if b then h.entries else entries_of l u))) [
      | true ↦ sym (some_entries h.entries some.0)
      | false ↦ unit_listed l u some.1
    ]

-- once the lists of other units are freed those of the units with entries stand
pub known_locking : (ids : List UnitId) (l : List Handed) (units : List UnitLocks) → AreUnits ids (lists_among units l) → HaveEntries l → All (Agrees l) units
    → AreKnown ids (locking units)
known_locking ids l units are some agree u =
    are u
    ∙ unit_among units l u
    ∙ ap (λ b. is_one_of units u && b) (unit_listed l u (recursion_from_All (λ (h : Handed). 0 < length h.entries) l some))
    ∙ sym (locking_one (entries_of l) units u (recursion_from_All (Agrees l) units agree))

-- ---- a list that is written

pub with_written : (unit : UnitKey) (es : List Entry) (before now : List UnitId) → 1 ≤ length es
    → ((other : UnitKey) → is_known other now ≡ (same_unit unit other || is_known other before)) → AreWith unit es before now
with_written unit es before now some h = λ other. h other
    ∙ sym (ap (λ b. (b && same_unit unit other) || is_known other before) (some_entries es (omega (arith, some))))

pub with_none : (unit : UnitKey) (es : List Entry) (before now : List UnitId) → length es ≡ 0
    → ((other : UnitKey) → is_known other now ≡ is_known other before) → AreWith unit es before now
with_none unit es before now none h = λ other. h other ∙ sym (ap (λ b. (b && same_unit unit other) || is_known other before) (no_entries es none))

-- ---- and one that is freed

turned : (a b : Bool) → (not a && b) ≡ (b && not a)
turned true true = refl
turned true false = refl
turned false true = refl
turned false false = refl

pub without_freed : (unit : UnitKey) (before now : List UnitId)
    → ((other : UnitKey) → is_known other now ≡ (not (same_unit unit other) && is_known other before)) → AreWithout unit before now
without_freed unit before now h = λ other. h other ∙ turned (same_unit unit other) (is_known other before)

-- one that didn't stand
pub without_absent : (unit : UnitKey) (before now : List UnitId) → is_known unit before ≡ false
    → ((other : UnitKey) → is_known other now ≡ is_known other before) → AreWithout unit before now
without_absent unit before now absent h = λ other.
    h other ∙ apart (is_known other before) (same_unit unit other) (λ same. ap (λ u. is_known u before) (sym (same_key unit other same)) ∙ absent)
  where
    apart : (x s : Bool) → (s ≡ true → x ≡ false) → x ≡ (x && not s)
    apart true true h = let odd : true ≡ false = h refl in cc
    apart true false h = refl
    apart false s h = refl
