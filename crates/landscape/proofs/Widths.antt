-- The widths of fields that are read.
use Rattle.std.proofs.Common.{◌≡◌, ℕ, ◌&&◌, Bool, true, false, cond, ℤ, List, [], ◌∷◌, Option, Some, None, codes, refl, subst, ap, ◌∙◌}
use Rattle.std.specs.Prelude.{IfSome, nat_le}
use Rattle.std.specs.List.{list_all}
use Rattle.std.proofs.lemmas.Option.{same_Some, none-some}
use Rattle.toml.specs.Data.{Data, as_table}
use Rattle.enq_base.specs.Number.{◌>>=◌}
use Rattle.lock_objects.specs.Objects.{Object, has_width}
use Rattle.landscape.specs.Objects.{each, field_of, key_table_of, object_of}
use Rattle.landscape.specs.Tables.{integer_at, items_at, name_at, natural_of, number_within}

pub bind_all : {A B : Type 0} (f : A → Option B) (P : B → Type 0) (o : Option A) → ((x : A) → IfSome (f x) P) → IfSome (o >>= f) P
bind_all f P None h = tt
bind_all f P (Some x) h = h x

pub bind_if : {A B : Type 0} {Q : A → Type 0} (f : A → Option B) (P : B → Type 0) (o : Option A) → IfSome o Q → ((x : A) → Q x → IfSome (f x) P)
    → IfSome (o >>= f) P
bind_if f P None q h = tt
bind_if f P (Some x) q h = h x q

pub test_then : {B : Type 0} (b : Bool) (x : Option B) (P : B → Type 0) → (b ≡ true → IfSome x P) → IfSome (cond b x None) P
test_then true x P h = h refl
test_then false x P h = tt

both : (a b : Bool) → a ≡ true → b ≡ true → (a && b) ≡ true
both a b p q = ap (λ x. x && b) p ∙ q

pub within_if : (least most : ℕ) (z : ℤ) → IfSome (number_within least most z) (λ n. (nat_le least n && nat_le n most) ≡ true)
unfolding number_within
within_if least most z =
    bind_all _ _ (natural_of z) (λ n. test_then (nat_le least n && nat_le n most) (Some n) (λ m. (nat_le least m && nat_le m most) ≡ true) (λ e. e))

field_width : (d : Data) → IfSome (field_of d) (λ f. has_width f ≡ true)
unfolding field_of
field_width d =
    bind_all _ _ (as_table d) (λ ms. bind_all _ _ (name_at (codes "name") ms) (λ name. bind_all _ _ (integer_at (codes "width") ms) (λ z.
    bind_if _ _ (number_within 1 150 z) (within_if 1 150 z) (λ n h. h))))

fields_width : (ds : List Data) → IfSome (each field_of ds) (λ fs. list_all has_width fs ≡ true)
unfolding each
fields_width [] = refl
fields_width (d ∷ ds) =
    bind_if _ _ (field_of d) (field_width d) (λ f p. bind_if _ _ (each field_of ds) (fields_width ds) (λ fs q. both (has_width f) (list_all has_width fs) p q))

object_widths : (d : Data) → IfSome (object_of d) (λ o. list_all has_width o.fields ≡ true)
unfolding object_of
object_widths d =
    bind_all _ _ (as_table d) (λ ms. bind_all _ _ (name_at (codes "name") ms) (λ name. bind_all _ _ (items_at (codes "fields") ms) (λ field_items.
    bind_if _ _ (each field_of field_items) (fields_width field_items) (λ fields p.
    bind_all _ _ (items_at (codes "table") ms) (λ table_items. bind_all _ _ (each key_table_of table_items) (λ tables. p))))))

found_at : {A : Type 0} (o : Option A) (x : A) (P : A → Type 0) → IfSome o P → o ≡ Some x → P x
found_at None x P h e = absurd (none-some x e)
found_at (Some y) x P h e = subst P (same_Some y x e) h

-- the fields of an object that is read have widths
pub widths_of : (d : Data) (o : Object) → object_of d ≡ Some o → list_all has_width o.fields ≡ true
widths_of d o e = found_at (object_of d) o (λ (o : Object). list_all has_width o.fields ≡ true) (object_widths d) e
