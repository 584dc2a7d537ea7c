-- A replica that is lost in several frees, one behind the other, is lost only where other locks stand behind them.
use Rattle.std.proofs.Common.{◌≡◌, ◌⊎◌, inl, inr, ℕ, suc, ◌+◌, ◌-◌, ◌<◌, nat_le, true, false, true≢false, cond, not, List, [], ◌∷◌, ◌++◌, fold, refl, sym, ap, subst, ◌∙◌, arith}
use Rattle.std.proofs.lemmas.Bool.{cases_Bool, leb-false}
use Rattle.enq_base.specs.declared.owner.Owner.{Owner}
use Rattle.lock_entry.specs.Freeing.{freed, freed_owner, lowered}
use Rattle.lock_entry.specs.Names.{has_name, is_of}
use Rattle.lock_entry.specs.Table.{Table, with_entries}
use Rattle.lock_entry.specs.declared.entry.Entry.{Entry}
use Rattle.lock_entry.specs.declared.entry.LockName.{LockName}
use Rattle.enq_server.specs.Replica.{IsLostWith, ReplicaView}

-- ---- each free leaves the locks, or less of them

-- one for each entry, and its count
abbrev pub weight : List Entry → ℕ
weight [] = 0
weight (e ∷ es) = suc (e.count + weight es)

abbrev pub AreLess : (before now : List Entry) → Type 0
AreLess before now = (now ≡ before) ⊎ (weight now < weight before)

-- the table is the same, or has less
abbrev pub IsLess : (before now : Table) → Type 0
IsLess before now = (now ≡ before) ⊎ (weight now.entries < weight before.entries)

of_entries : (t : Table) (es : List Entry) → AreLess t.entries es → IsLess t (with_entries t es)
of_entries t es (inl same) = inl (ap (with_entries t) same)
of_entries t es (inr less) = inr less

more_behind : (e : Entry) (before now : List Entry) → AreLess before now → AreLess (e ∷ before) (e ∷ now)
more_behind e before now (inl same) = inl (ap (λ xs. e ∷ xs) same)
more_behind e before now (inr less) = inr (omega (arith, less))

lowered_less : (e : Entry) (es : List Entry) → weight (lowered e ++ es) < weight (e ∷ es)
lowered_less e es =
    elim (cases_Bool (nat_le e.count 1)) [
      | inl last ↦
          let left : weight (lowered e ++ es) ≡ weight es = ap (λ b. weight (cond b [] (record e { count = e.count - 1 } ∷ []) ++ es)) last in
          omega (arith, left)
      | inr more ↦
          let left : weight (lowered e ++ es) ≡ suc ((e.count - 1) + weight es) =
          ap (λ b. weight (cond b [] (record e { count = e.count - 1 } ∷ []) ++ es)) more in
          let many = leb-false e.count 1 more in
          omega (arith, left, many)
    ]

freed_by : (n : LockName) (e : Entry) (es : List Entry) → AreLess es (freed es n) → (has_name n e ≡ true) ⊎ (has_name n e ≡ false)
    → AreLess (e ∷ es) (freed (e ∷ es) n)
freed_by n e es rest (inl here) = subst (λ b. AreLess (e ∷ es) (cond b (lowered e ++ es) (e ∷ freed es n))) (sym here) (inr (lowered_less e es))
freed_by n e es rest (inr other) =
    subst (λ b. AreLess (e ∷ es) (cond b (lowered e ++ es) (e ∷ freed es n))) (sym other) (more_behind e es (freed es n) rest)

freed_less : (n : LockName) (es : List Entry) → AreLess es (freed es n)
freed_less n [] = inl refl
freed_less n (e ∷ es) = freed_by n e es (freed_less n es) (cases_Bool (has_name n e))

less_within : (e : Entry) (before now : List Entry) → AreLess before now → AreLess (e ∷ before) now
less_within e before now (inl same) = inr (let is : weight now ≡ weight before = ap weight same in omega (arith, is))
less_within e before now (inr less) = inr (omega (arith, less))

owner_by : (owner : Owner) (e : Entry) (es : List Entry) → AreLess es (freed_owner es owner) → (is_of owner e ≡ true) ⊎ (is_of owner e ≡ false)
    → AreLess (e ∷ es) (freed_owner (e ∷ es) owner)
owner_by owner e es rest (inl own) =
    subst (λ b. AreLess (e ∷ es) (cond (not b) (e ∷ freed_owner es owner) (freed_owner es owner))) (sym own)
    (less_within e es (freed_owner es owner) rest)
owner_by owner e es rest (inr other) =
    subst (λ b. AreLess (e ∷ es) (cond (not b) (e ∷ freed_owner es owner) (freed_owner es owner))) (sym other)
    (more_behind e es (freed_owner es owner) rest)

owner_less : (owner : Owner) (es : List Entry) → AreLess es (freed_owner es owner)
owner_less owner [] = inl refl
owner_less owner (e ∷ es) = owner_by owner e es (owner_less owner es) (cases_Bool (is_of owner e))

-- one that is freed, and an owner's that are
pub one_less : (t : Table) (n : LockName) → IsLess t (with_entries t (freed t.entries n))
one_less t n = of_entries t (freed t.entries n) (freed_less n t.entries)

pub own_less : (t : Table) (owner : Owner) → IsLess t (with_entries t (freed_owner t.entries owner))
own_less t owner = of_entries t (freed_owner t.entries owner) (owner_less owner t.entries)

-- ---- one free behind the other

pub less_both : (a b c : Table) → IsLess a b → IsLess b c → IsLess a c
less_both a b c (inl first) (inl second) = inl (second ∙ first)
less_both a b c (inl first) (inr less) = inr (subst (λ (t : Table). weight c.entries < weight t.entries) first less)
less_both a b c (inr less) (inl second) = inr (subst (λ (t : Table). weight t.entries < weight a.entries) (sym second) less)
less_both a b c (inr first) (inr second) = inr (omega (arith, first, second))

pub all_less : (names : List LockName) (t : Table) → IsLess t (with_entries t (fold freed t.entries names))
all_less [] t = inl refl
all_less (n ∷ names) t =
    let next = with_entries t (freed t.entries n) in
    less_both t next (with_entries t (fold freed t.entries (n ∷ names))) (one_less t n) (all_less names next)

-- a table that is as the first has been none that had less
never_back : (a c : Table) → c ≡ a → weight c.entries < weight a.entries → ⊥
never_back a c same less = let is : weight c.entries ≡ weight a.entries = ap (λ (t : Table). weight t.entries) same in omega (arith, is, less)

-- frees that leave less, where what followed is lost only with other locks
pub record IsFreed {L : Type 0} (old new : ReplicaView L) (before now : Table) : Type 0 where
  pub less : IsLess before now
  pub lost : IsLostWith old new before now

pub freed_none : {L : Type 0} (f : ReplicaView L) (t : Table) → IsFreed f f t t
freed_none f t = record { less = inl refl; lost = λ on off. absurd (true≢false (sym on ∙ off)) }

lost_later : (a b c : Table) → IsLess a b → IsLess b c → (c ≡ b → ⊥) → c ≡ a → ⊥
lost_later a b c first (inl same) other is = other same
lost_later a b c (inl same) (inr less) other is = other (is ∙ sym same)
lost_later a b c (inr first) (inr less) other is = never_back a c is (omega (arith, first, less))

lost_before : (a b c : Table) → IsLess a b → IsLess b c → (b ≡ a → ⊥) → c ≡ a → ⊥
lost_before a b c (inl same) second other is = other same
lost_before a b c (inr first) (inl same) other is = other (sym same ∙ is)
lost_before a b c (inr first) (inr less) other is = never_back a c is (omega (arith, first, less))

pub freed_both : {L : Type 0} (f g h : ReplicaView L) (a b c : Table) → IsFreed f g a b → IsFreed g h b c → IsFreed f h a c
freed_both f g h a b c one two = record {
  less = less_both a b c one.less two.less;
  lost = λ on off same. by on off same (cases_Bool g.attached);
}
  where
    by : f.attached ≡ true → h.attached ≡ false → c ≡ a → (g.attached ≡ true) ⊎ (g.attached ≡ false) → ⊥
    by on off same (inl still) = lost_later a b c one.less two.less (two.lost still off) same
    by on off same (inr gone) = lost_before a b c one.less two.less (one.lost on gone) same
