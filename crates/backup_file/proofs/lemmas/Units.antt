-- The units whose lists stand.
use Rattle.std.proofs.Common.{◌≡◌, Bool, true, false, not, ◌||◌, ◌&&◌, cond, List, [], ◌∷◌, ◌++◌, refl, sym, ap, subst, ◌∙◌, inl, inr}
use Rattle.std.specs.Prelude.{IsTrue}
use Rattle.std.proofs.lemmas.Bool.{cases_Bool}
use Rattle.enq_base.specs.declared.owner.Owner.TheVariants.{Upd}
use Rattle.enq_base.specs.declared.owner.UnitKey.{UnitKey}
use Rattle.enq_base.specs.Owners.{same_unit}
use Rattle.lock_entry.proofs.lemmas.Naming.{same_owner-refl, same_owner-same, same_owner-sym}
use Rattle.backup_file.specs.declared.handed.Handed.{Handed}
use Rattle.backup_file.specs.declared.handed.Record.TheVariants.{Hand, Free}
use Rattle.enq_base.specs.declared.unit_id.UnitId.{UnitId}
use Rattle.backup_file.specs.Lists.{AreUnits, after, has_unit, is_known, without}

pub same_key : (u v : UnitKey) → same_unit u v ≡ true → u ≡ v
same_key u v h = let e = same_owner-same (Upd u) (Upd v) h in cc

pub flipped : (u v : UnitKey) → same_unit u v ≡ same_unit v u
flipped u v = same_owner-sym (Upd u) (Upd v)

pub itself : (u : UnitKey) → same_unit u u ≡ true
itself u = same_owner-refl (Upd u)

dropped : (s x : Bool) → (not s && x) ≡ (not s && (s || x))
dropped true x = refl
dropped false x = refl

stayed : (a s x : Bool) → (a ≡ true → s ≡ false) → (a || (not s && x)) ≡ (not s && (a || x))
stayed true true x h = let odd : true ≡ false = h refl in cc
stayed true false x h = refl
stayed false s x h = refl

none : (s : Bool) → false ≡ (not s && false)
none true = refl
none false = refl

pub has-without : (u v : UnitKey) (l : List Handed) → has_unit u (without v l) ≡ (not (same_unit v u) && has_unit u l)
has-without u v [] = none (same_unit v u)
has-without u v (h ∷ l) =
    elim (cases_Bool (same_unit h.unit v)) [
      | inl gone ↦
          ap (λ b. has_unit u (cond (not b) (h ∷ without v l) (without v l))) gone
          ∙ has-without u v l
          ∙ dropped (same_unit v u) (has_unit u l)
          ∙ ap (λ k. not (same_unit v u) && (same_unit k u || has_unit u l)) (sym (same_key h.unit v gone))
      | inr other ↦
          ap (λ b. has_unit u (cond (not b) (h ∷ without v l) (without v l))) other
          ∙ ap (λ b. same_unit h.unit u || b) (has-without u v l)
          ∙ stayed (same_unit h.unit u) (same_unit v u) (has_unit u l) (λ own. flipped v u ∙ ap (λ k. same_unit k v) (sym (same_key h.unit u own)) ∙ other)
    ]

pub has-push : (u : UnitKey) (l : List Handed) (h : Handed) → has_unit u (l ++ h ∷ []) ≡ (same_unit h.unit u || has_unit u l)
has-push u [] h = refl
has-push u (g ∷ l) h = ap (λ b. same_unit g.unit u || b) (has-push u l h) ∙ exchanged (same_unit g.unit u) (same_unit h.unit u) (has_unit u l)
  where
    exchanged : (a b c : Bool) → (a || (b || c)) ≡ (b || (a || c))
    exchanged true true c = refl
    exchanged true false c = refl
    exchanged false true c = refl
    exchanged false false c = refl

added : (s x : Bool) → (s || (not s && x)) ≡ (s || x)
added true x = refl
added false x = refl

pub has-hand : (u : UnitKey) (l : List Handed) (h : Handed) → has_unit u (after l (Hand h)) ≡ (same_unit h.unit u || has_unit u l)
has-hand u l h =
    has-push u (without h.unit l) h
    ∙ ap (λ b. same_unit h.unit u || b) (has-without u h.unit l)
    ∙ added (same_unit h.unit u) (has_unit u l)

-- once a unit is added these are the units of the lists with its own
pub units-hand : (old new : List UnitId) (l : List Handed) (h : Handed) → AreUnits old l
    → ((u : UnitKey) → is_known u new ≡ (same_unit h.unit u || is_known u old)) → AreUnits new (after l (Hand h))
units-hand old new l h are more = λ u. more u ∙ ap (λ b. same_unit h.unit u || b) (are u) ∙ sym (has-hand u l h)

-- and once one is taken away, of the lists without its own
pub units-free : (old new : List UnitId) (l : List Handed) (v : UnitKey) → AreUnits old l
    → ((u : UnitKey) → is_known u new ≡ (not (same_unit v u) && is_known u old)) → AreUnits new (after l (Free v))
units-free old new l v are less = λ u. less u ∙ ap (λ b. not (same_unit v u) && b) (are u) ∙ sym (has-without u v l)

pub stands_among : (u : UnitKey) (l : List Handed) (ids : List UnitId) → AreUnits ids l → IsTrue (is_known u ids) → IsTrue (has_unit u l)
stands_among u l ids are known = subst IsTrue (are u) known
