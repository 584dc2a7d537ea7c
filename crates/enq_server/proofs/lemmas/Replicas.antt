-- What operations that are shipped one by one do to a replica that follows.
use Rattle.std.proofs.Common.{◌≡◌, ◌⊎◌, inl, inr, ℕ, zero, suc, ◌+◌, ◌<◌, ◌≤◌, ◌-◌, ◌^◌, min, Bool, true, false, List, [], ◌∷◌, ◌++◌, Some, None, Option, map}
use Rattle.std.proofs.Common.{take, get_or, length, refl, sym, ap, subst, ◌∙◌, arith}
use Rattle.std.specs.List.{filter, flat_map, slice_get}
use Rattle.std.proofs.lemmas.Bool.{cases_Bool}
use Rattle.std.proofs.lemmas.List.{append-nil, length-append, map-append, take_more}
use Rattle.std.proofs.lemmas.List.Concat.{flat_map-append}
use Rattle.std.proofs.lemmas.List.Elements.{filter-append}
use Rattle.std.proofs.lemmas.Option.{none-some, same_Some}
use Rattle.enq_base.specs.Causes.{Rose, one_more}
use Rattle.enq_base.specs.declared.owner.Owner.{Owner}
use Rattle.lock_entry.specs.Names.{is_of}
use Rattle.lock_entry.specs.Table.{entry_at}
use Rattle.lock_entry.specs.declared.entry.Entry.{Entry}
use Rattle.replica_link.specs.Operations.{after_ops}
use Rattle.replica_link.specs.Shipping.{drop_of, owner_ops}
use Rattle.replica_link.specs.declared.operation.TableOp.{TableOp}
use Rattle.replica_link.proofs.lemmas.Drops.{after_ops-append}
use Rattle.enq_server.specs.Replica.{IsAt, IsLostBy, KeepsOn, ReplicaView}

rose_later : (a b c : ℕ) → a ≤ b → Rose b c → Rose a c
rose_later a b c less rose = rises a b c (2 ^ 64 - 1) less rose
  where
    rises : (a b c m : ℕ) → a ≤ b → min (b + 1) m ≤ c → min (a + 1) m ≤ c
    rises a b c m less rose = omega (arith, less, rose)

rose_before : (a b c : ℕ) → Rose a b → b ≤ c → Rose a c
rose_before a b c rose less = rises (one_more a) b c rose less
  where
    rises : (a b c : ℕ) → a ≤ b → b ≤ c → a ≤ c
    rises a b c one two = omega (arith, one, two)

pub keeps_none : {L : Type 0} (applied : L → Option (List Entry)) (faults refusals : L → ℕ) (f : ReplicaView L) → KeepsOn applied faults refusals f f
keeps_none applied faults refusals f = record {
  faults_later = omega arith;
  refusals_later = omega arith;
  kept = λ on. on;
  lost = λ on off. let odd : true ≡ false = sym on ∙ off in cc;
  told = refl;
}

pub keeps_both : {L : Type 0} (applied : L → Option (List Entry)) (faults refusals : L → ℕ) (a b c : ReplicaView L) → KeepsOn applied faults refusals a b
    → KeepsOn applied faults refusals b c → KeepsOn applied faults refusals a c
keeps_both applied faults refusals a b c one two = record {
  faults_later = omega (arith, one.faults_later, two.faults_later);
  refusals_later = omega (arith, one.refusals_later, two.refusals_later);
  kept = λ on. one.kept (two.kept on);
  lost = λ on off. either on off (cases_Bool b.attached);
  told = two.told ∙ one.told;
}
  where
    either : a.attached ≡ true → c.attached ≡ false → (b.attached ≡ true) ⊎ (b.attached ≡ false) → Rose (faults a.link) (faults c.link)
        ⊎ Rose (refusals a.link) (refusals c.link)
    either on off (inl still) =
        elim (two.lost still off) [
          | inl rose ↦ inl (rose_later (faults a.link) (faults b.link) (faults c.link) one.faults_later rose)
          | inr rose ↦ inr (rose_later (refusals a.link) (refusals b.link) (refusals c.link) one.refusals_later rose)
        ]
    either on off (inr gone) =
        elim (one.lost on gone) [
          | inl rose ↦ inl (rose_before (faults a.link) (faults b.link) (faults c.link) rose two.faults_later)
          | inr rose ↦ inr (rose_before (refusals a.link) (refusals b.link) (refusals c.link) rose two.refusals_later)
        ]

-- the first list of operations has lost it, or those behind it
either_lost : (on between now : Bool) (n m : ℕ) → (on ≡ true → between ≡ false → 1 ≤ n) → (between ≡ true → now ≡ false → 1 ≤ m) → on ≡ true → now ≡ false
    → 1 ≤ n + m
either_lost on true now n m one two follows gone = let some = two refl gone in omega (arith, some)
either_lost on false now n m one two follows gone = let some = one follows refl in omega (arith, some)

pub lost_more : {L : Type 0} (a b c : ReplicaView L) (ops more all : List TableOp) → all ≡ ops ++ more → IsLostBy a b ops → IsLostBy b c more → IsLostBy a c all
lost_more a b c ops more all is one two = λ on off.
    subst (λ n. 1 ≤ n) (sym (ap length is ∙ length-append ops more))
    (either_lost a.attached b.attached c.attached (length ops) (length more) one two on off)

-- operations and then more of them
pub at_more : {L : Type 0} (applied : L → Option (List Entry)) (f : ReplicaView L) (list : List Entry) (ops more all : List TableOp) → all ≡ ops ++ more
    → IsAt applied f (after_ops (after_ops list ops) more) → IsAt applied f (after_ops list all)
at_more applied f list ops more all is at = subst (IsAt applied f) (sym (ap (after_ops list) is ∙ after_ops-append list ops more)) at

taken : (es : List Entry) (i : ℕ) (e : Entry) → slice_get es i ≡ Some e → take (suc i) es ≡ take i es ++ e ∷ []
taken [] i e is = absurd (none-some e is)
taken (x ∷ es) zero e is = ap (λ y. y ∷ []) (same_Some x e is)
taken (x ∷ es) (suc i) e is = ap (λ r. x ∷ r) (taken es i e is)

taken_none : (es : List Entry) (i : ℕ) → slice_get es i ≡ None → take (suc i) es ≡ take i es
taken_none [] zero is = refl
taken_none [] (suc i) is = refl
taken_none (x ∷ es) zero is = cc
taken_none (x ∷ es) (suc i) is = ap (λ r. x ∷ r) (taken_none es i is)

pub owner_more : (es : List Entry) (i : ℕ) (e : Entry) (owner : Owner) → entry_at es (i + 1) ≡ Some e
    → owner_ops (take (i + 1) es) owner ≡ owner_ops (take i es) owner ++ owner_ops (e ∷ []) owner
owner_more es i e owner is =
    let next : i + 1 ≡ suc i = omega arith in
    ap (λ n. owner_ops (take n es) owner) next
    ∙ ap (λ xs. owner_ops xs owner) (taken es i e (ap (entry_at es) (sym next) ∙ is))
    ∙ ap (map drop_of) (filter-append (is_of owner) (take i es) (e ∷ []))
    ∙ map-append drop_of (filter (is_of owner) (take i es)) (filter (is_of owner) (e ∷ []))

pub owner_end : (es : List Entry) (i : ℕ) (owner : Owner) → entry_at es (i + 1) ≡ None → owner_ops (take (i + 1) es) owner ≡ owner_ops (take i es) owner
owner_end es i owner is =
    let next : i + 1 ≡ suc i = omega arith in
    ap (λ n. owner_ops (take n es) owner) next ∙ ap (λ xs. owner_ops xs owner) (taken_none es i (ap (entry_at es) (sym next) ∙ is))

pub mapped_more : (f : Entry → TableOp) (es : List Entry) (i : ℕ) (e : Entry) → i < length es → e ≡ get_or es i e
    → map f (take (i + 1) es) ≡ map f (take i es) ++ f e ∷ []
mapped_more f es i e low is = ap (map f) (take_more es i e low ∙ ap (λ x. take i es ++ x ∷ []) (sym is)) ∙ map-append f (take i es) (e ∷ [])

pub joined_more : {X Y : Type 0} (f : X → List Y) (xs : List X) (i : ℕ) (x : X) → i < length xs → x ≡ get_or xs i x
    → flat_map f (take (i + 1) xs) ≡ flat_map f (take i xs) ++ f x
joined_more f xs i x low is =
    ap (flat_map f) (take_more xs i x low ∙ ap (λ y. take i xs ++ y ∷ []) (sym is))
    ∙ flat_map-append f (take i xs) (x ∷ [])
    ∙ ap (λ ys. flat_map f (take i xs) ++ ys) (append-nil (f x))
