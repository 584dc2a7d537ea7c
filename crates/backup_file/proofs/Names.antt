-- Names of locks, as sets look them up.
use Rattle.std.proofs.Common.{◌≡◌, ◌==◌, ℕ, zero, suc, ◌-◌, ◌<◌, ◌≤◌, Bool, true, false, not, ◌||◌, ◌&&◌, cond, List, [], ◌∷◌, drop, get_or, length, refl, sym, ap, ◌∙◌, arith, inl, inr}
use Rattle.std.specs.List.{list_all, list_any}
use Rattle.std.proofs.lemmas.Bool.{or_cases, or_parts}
use Rattle.std.proofs.Math.Seq.{drop-cons}
use Rattle.enq_base.specs.Owners.{same_owner}
use Rattle.enq_base.specs.declared.owner.Owner.{Owner}
use Rattle.enq_base.specs.declared.owner.Owner.TheVariants.{Dlg, Upd}
use Rattle.lock_entry.specs.declared.entry.Entry.{Entry}
use Rattle.lock_entry.proofs.lemmas.Naming.{same_name-sym}
use Rattle.lock_entry.specs.Names.{asked_of, has_distinct_names, name_of, names_differ, same_name, same_place}
use Rattle.enq_base.specs.Ids.{same_id}
use Rattle.backup_file.specs.Ids.{kind_of, lock_id, numbers_of, same_lock}
use Rattle.mode_rules.proofs.lemmas.ModeNumbers.{numbers_tell}
use Rattle.backup_file.specs.declared.ids.LockId.{LockId}

and_true : (b : Bool) → (b && true) ≡ b
and_true true = refl
and_true false = refl

and_false : (b : Bool) → (b && false) ≡ false
and_false true = refl
and_false false = refl

owners_alike : (o p : Owner) → (kind_of o == kind_of p && same_id (numbers_of o) (numbers_of p)) ≡ same_owner o p
owners_alike (Dlg s n) (Dlg t m) = and_true (s == t && n == m)
owners_alike (Dlg s n) (Upd v) = refl
owners_alike (Upd u) (Dlg t m) = refl
owners_alike (Upd u) (Upd v) = refl

names_alike : (a b : Entry) → same_lock (lock_id a) (lock_id b) ≡ same_name (name_of a) (name_of b)
names_alike a b = λ i. owners_alike a.owner b.owner i && (same_place (asked_of a) (asked_of b) && numbers_tell a.mode b.mode i)

-- the names that stand among these entries
abbrev pub has_lock : List Entry → LockId → Bool
has_lock es name = list_any (λ (x : Entry). same_lock (lock_id x) name) es

either_way : (e x : Entry) → same_lock (lock_id x) (lock_id e) ≡ same_name (name_of e) (name_of x)
either_way e x = names_alike x e ∙ same_name-sym (name_of x) (name_of e)

none_has : (e : Entry) (es : List Entry) → has_lock es (lock_id e) ≡ false → list_all (names_differ e) es ≡ true
none_has e [] h = refl
none_has e (x ∷ es) h =
    let hs = or_parts (same_lock (lock_id x) (lock_id e)) (has_lock es (lock_id e)) h in
    (λ i. not ((sym (either_way e x) ∙ hs.0) i) && none_has e es hs.1 i)

some_has : (e : Entry) (es : List Entry) → has_lock es (lock_id e) ≡ true → list_all (names_differ e) es ≡ false
some_has e [] h = cc
some_has e (x ∷ es) h =
    elim (or_cases (same_lock (lock_id x) (lock_id e)) (has_lock es (lock_id e)) h) [
      | inl here ↦ (λ i. not ((sym (either_way e x) ∙ here) i) && list_all (names_differ e) es)
      | inr later ↦ ap (λ b. names_differ e x && b) (some_has e es later) ∙ and_false (names_differ e x)
    ]

drop_before : (es : List Entry) (left : ℕ) (e : Entry) → 0 < left → left ≤ length es → e ≡ get_or es (left - 1) e → drop (left - 1) es ≡ e ∷ drop left es
drop_before es left e some within is =
    let low : left - 1 < length es = omega arith in
    let next : suc (left - 1) ≡ left = omega arith in
    drop-cons es (left - 1) e low ∙ (λ i. sym is i ∷ drop (next i) es)

repeated_behind : (n : ℕ) (es : List Entry) → has_distinct_names (drop n es) ≡ false → has_distinct_names es ≡ false
repeated_behind zero es h = h
repeated_behind (suc n) [] h = cc
repeated_behind (suc n) (e ∷ es) h = ap (λ b. list_all (names_differ e) es && b) (repeated_behind n es h) ∙ and_false (list_all (names_differ e) es)

pub repeated : (es : List Entry) (left : ℕ) (e : Entry) → 0 < left → left ≤ length es → e ≡ get_or es (left - 1) e → has_lock (drop left es) (lock_id e) ≡ true
    → has_distinct_names es ≡ false
repeated es left e some within is h =
    repeated_behind (left - 1) es
    (ap has_distinct_names (drop_before es left e some within is) ∙ ap (λ b. b && has_distinct_names (drop left es)) (some_has e (drop left es) h))

pub distinct_more : (es : List Entry) (left : ℕ) (e : Entry) → 0 < left → left ≤ length es → e ≡ get_or es (left - 1) e
    → has_lock (drop left es) (lock_id e) ≡ false → has_distinct_names (drop left es) ≡ true → has_distinct_names (drop (left - 1) es) ≡ true
distinct_more es left e some within is h rest =
    ap has_distinct_names (drop_before es left e some within is) ∙ (λ i. none_has e (drop left es) h i && rest i)

or_cond : (b x : Bool) → cond b true x ≡ (b || x)
or_cond true x = refl
or_cond false x = refl

pub locks_more : (es : List Entry) (left : ℕ) (e : Entry) → 0 < left → left ≤ length es → e ≡ get_or es (left - 1) e → (name : LockId)
    → cond (same_lock (lock_id e) name) true (has_lock (drop left es) name) ≡ has_lock (drop (left - 1) es) name
locks_more es left e some within is name =
    or_cond (same_lock (lock_id e) name) (has_lock (drop left es) name) ∙ ap (λ xs. has_lock xs name) (sym (drop_before es left e some within is))
