-- Drops of entries.
use Rattle.std.proofs.Common.{◌≡◌, Bool, true, false, cond, not, ◌&&◌, ◌||◌, List, [], ◌∷◌, ◌++◌, map, refl, sym, ap, ◌∙◌, inl, inr}
use Rattle.std.specs.List.{filter, list_any, AllByRecursion}
use Rattle.std.proofs.lemmas.Bool.{false≢true, cases_Bool, or_right}
use Rattle.enq_base.specs.Owners.{same_owner}
use Rattle.enq_base.specs.declared.owner.Owner.{Owner}
use Rattle.lock_entry.specs.declared.entry.Entry.{Entry}
use Rattle.lock_entry.specs.declared.entry.LockName.{LockName}
use Rattle.lock_entry.specs.Names.{has_name, name_of, is_of}
use Rattle.lock_entry.specs.Freeing.{without, freed_owner}
use Rattle.lock_entry.proofs.lemmas.Naming.{same_name-refl, same_name-same}
use Rattle.replica_link.specs.declared.operation.TableOp.{TableOp}
use Rattle.replica_link.specs.Operations.{after_op, after_ops}
use Rattle.replica_link.specs.Shipping.{drop_of, owner_ops}

pub after_ops-append : (t : List Entry) (xs ys : List TableOp) → after_ops t (xs ++ ys) ≡ after_ops (after_ops t xs) ys
after_ops-append t [] ys = refl
after_ops-append t (x ∷ xs) ys = after_ops-append (after_op t x) xs ys

pub filter_filter : {X : Type 0} (p q : X → Bool) (t : List X) → filter p (filter q t) ≡ filter (λ e. q e && p e) t
filter_filter p q [] = refl
filter_filter {X} p q (e ∷ t) =
    elim (q e) as (λ b. filter p (cond b (e ∷ filter q t) (filter q t)) ≡ cond (b && p e) (e ∷ filter (λ x. q x && p x) t) (filter (λ x. q x && p x) t)) [
      | true ↦ ap (λ (r : List X). cond (p e) (e ∷ r) r) (filter_filter p q t)
      | false ↦ filter_filter p q t
    ]

-- tests that agree on the elements keep the same ones
pub filter_agree : {X : Type 0} (p q : X → Bool) (t : List X) → AllByRecursion (λ e. p e ≡ q e) t → filter p t ≡ filter q t
filter_agree p q [] all = refl
filter_agree {X} p q (e ∷ t) all =
    ap (λ b. cond b (e ∷ filter p t) (filter p t)) all.0 ∙ ap (λ (r : List X). cond (q e) (e ∷ r) r) (filter_agree p q t all.1)

pub everywhere : {X : Type 0} (P : X → Type 0) → ((e : X) → P e) → (t : List X) → AllByRecursion P t
everywhere P h [] = tt
everywhere P h (e ∷ t) = (h e, everywhere P h t)

pub all_weaker : {X : Type 0} (P Q : X → Type 0) → ((e : X) → P e → Q e) → (t : List X) → AllByRecursion P t → AllByRecursion Q t
all_weaker P Q h [] all = tt
all_weaker P Q h (e ∷ t) all = (h e all.0, all_weaker P Q h t all.1)

-- whether the entry has the name of one of these
abbrev pub named_in : List Entry → Entry → Bool
named_in ds e = list_any (λ d. has_name (name_of d) e) ds

neither : (a b : Bool) → (not a && not b) ≡ not (a || b)
neither true b = refl
neither false b = refl

drops_each : (ds t : List Entry) → after_ops t (map drop_of ds) ≡ filter (λ e. not (named_in ds e)) t
drops_each [] [] = refl
drops_each [] (e ∷ t) = ap (λ (r : List Entry). e ∷ r) (drops_each [] t)
drops_each (d ∷ ds) t =
    drops_each ds (without t (name_of d))
    ∙ filter_filter (λ e. not (named_in ds e)) (λ e. not (has_name (name_of d) e)) t
    ∙ filter_agree _ _ t (everywhere _ (λ e. neither (has_name (name_of d) e) (named_in ds e)) t)

-- a test that looks at the name alone
pub record IsNameTest (p : Entry → Bool) : Type 0 where
  pub same : (a b : Entry) → name_of a ≡ name_of b → p a ≡ p b

-- an entry with the name of one that passes passes too
named_passes : (p : Entry → Bool) → IsNameTest p → (t : List Entry) (e : Entry) → named_in (filter p t) e ≡ true → p e ≡ true
named_passes p is [] e h = absurd (false≢true h)
named_passes p is (d ∷ t) e h =
    elim (cases_Bool (p d)) [
      | inl own ↦
          let here : (has_name (name_of d) e || named_in (filter p t) e) ≡ true = rw own at h in
          (elim (cases_Bool (has_name (name_of d) e)) [
            | inl named ↦ sym (is.same d e (same_name-same (name_of d) (name_of e) named)) ∙ own
            | inr other ↦ named_passes p is t e (sym (ap (λ b. b || named_in (filter p t) e) other) ∙ here)
          ])
      | inr other ↦ named_passes p is t e (rw other at h)
    ]

-- the entries that pass and have the name of one that passed
abbrev pub AreNamed : (Entry → Bool) → (from t : List Entry) → Type 0
AreNamed p from t = AllByRecursion (λ e. p e ≡ true → named_in (filter p from) e ≡ true) t

named_more : (b : Bool) (x : Entry) (ds : List Entry) (e : Entry) → named_in ds e ≡ true → named_in (cond b (x ∷ ds) ds) e ≡ true
named_more true x ds e h = or_right (has_name (name_of x) e) (named_in ds e) h
named_more false x ds e h = h

named_here : (b : Bool) (x : Entry) (ds : List Entry) → b ≡ true → named_in (cond b (x ∷ ds) ds) x ≡ true
named_here true x ds own = ap (λ b. b || named_in ds x) (same_name-refl (name_of x))
named_here false x ds own = absurd (false≢true own)

-- each that passes has the name of itself
pub own_names : (p : Entry → Bool) (t : List Entry) → AreNamed p t t
own_names p [] = tt
own_names p (x ∷ t) =
    (λ own. named_here (p x) x (filter p t) own, all_weaker _ _ (λ e so own. named_more (p x) x (filter p t) e (so own)) t (own_names p t))

same_bool : (a b : Bool) → (a ≡ true → b ≡ true) → (b ≡ true → a ≡ true) → a ≡ b
same_bool true true f g = refl
same_bool true false f g = sym (f refl)
same_bool false true f g = g refl
same_bool false false f g = refl

-- the drops of those that pass leave the others
pub drops_leave : (p : Entry → Bool) → IsNameTest p → (from t : List Entry) → AreNamed p from t
    → after_ops t (map drop_of (filter p from)) ≡ filter (λ e. not (p e)) t
drops_leave p is from t named =
    drops_each (filter p from) t
    ∙ filter_agree _ _ t (all_weaker _ _ (λ e so. ap not (same_bool (named_in (filter p from) e) (p e) (named_passes p is from e) so)) t named)

pub owner_ops-freed_owner : (t : List Entry) (owner : Owner) → after_ops t (owner_ops t owner) ≡ freed_owner t owner
owner_ops-freed_owner t owner =
    drops_leave (is_of owner) (record { same = λ a b e. ap (λ (n : LockName). same_owner n.owner owner) e }) t t (own_names (is_of owner) t)
