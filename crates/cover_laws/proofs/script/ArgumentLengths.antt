-- Right values make arguments as long as the key fields are together.
use Rattle.std.proofs.Common.{◌≡◌, inl, inr, ℕ, ◌+◌, ◌-◌, ◌≤◌, Bool, true, false, cond, nat_lt, List, [], ◌∷◌, ◌++◌, All, arith, length, replicate, Option, Some, None, refl, sym, ap, ◌∙◌}
use Rattle.std.specs.List.{list_any}
use Rattle.std.specs.Option.{option_map_or, option_or}
use Rattle.std.specs.Str.{bytes_eq}
use Rattle.std.specs.Cmp.Lexicographic.{bytes_decides}
use Rattle.std.proofs.lemmas.Bool.{cases_Bool, ltb-false}
use Rattle.std.proofs.lemmas.List.{length-append, length-replicate}
use Rattle.std.proofs.lemmas.List.Elements.{All-cons, All-contains, All-nil}
use Rattle.std.proofs.lemmas.List.Sums.{sum_by-cons}
use Rattle.lock_entry.specs.Argument.{generic}
use Rattle.lock_objects.specs.Arguments.{argument, fault_after, key_part, padded, part, text_fault, value_fault, value_named, values_fault}
use Rattle.lock_objects.specs.Objects.{argument_length, field_named, key_width}
use Rattle.lock_objects.specs.declared.field.Field.{Field}
use Rattle.lock_objects.specs.declared.value.ArgFault.{ArgFault}
use Rattle.lock_objects.specs.declared.value.ArgFault.TheVariants as fault
use Rattle.lock_objects.specs.declared.value.FieldValue.{FieldValue}
use Rattle.lock_objects.specs.declared.value.Value.{Value}
use Rattle.lock_objects.specs.declared.value.Value.TheVariants.{Given, Initial, Long}
use Rattle.cover_laws.proofs.Lists.{found_passes, found_stands}

neither : {A : Type 0} (a b : Option A) → option_or a b ≡ None → (a ≡ None) × (b ≡ None)
neither None b h = (refl, h)
neither (Some x) b h = absurd (cc)

-- ---- a right value

padded_length : (width : ℕ) (v : Value) → text_fault width v ≡ None → length (padded width v) ≡ width
padded_length width Initial h = length-replicate width 32
padded_length width Long h = absurd (cc)
padded_length width (Given text) h =
    elim (cases_Bool (nat_lt width (length text))) [
      | inl wide ↦ absurd (let k = rw wide at h in cc)
      | inr fits ↦
          let short : length text ≤ width = ltb-false width (length text) fits in
          length-append text (replicate (width - length text) 32)
          ∙ ap (λ n. length text + n) (length-replicate (width - length text) 32)
          ∙ omega (arith, short)
    ]

-- a value that the field of its name can have
abbrev IsRight : List Field → FieldValue → Type 0
IsRight fields v = (f : Field) → field_named fields v.field ≡ Some f → text_fault f.width v.value ≡ None

right_value : (fields : List Field) (before : List FieldValue) (v : FieldValue) → value_fault fields before v ≡ None → IsRight fields v
right_value fields before v h f named =
    by_repeat again
    (sym (ap (λ (o : Option Field). option_map_or fault_of o (Some fault.UnknownField)) named) ∙ h)
  where
    again : Bool
    again = list_any (λ (w : FieldValue). bytes_eq w.field v.field) before

    fault_of : Field → Option ArgFault
    fault_of g = cond again (Some fault.Repeat) (text_fault g.width v.value)

    by_repeat : (again : Bool) → cond again (Some fault.Repeat) (text_fault f.width v.value) ≡ None → text_fault f.width v.value ≡ None
    by_repeat true k = absurd (cc)
    by_repeat false k = k

all_right : (fields : List Field) (before values : List FieldValue) → fault_after fields before values ≡ None → All (IsRight fields) values
all_right fields before [] h = All-nil (IsRight fields)
all_right fields before (v ∷ values) h =
    let both = neither (value_fault fields before v) (fault_after fields (before ++ v ∷ []) values) h in
    All-cons (IsRight fields) v values (right_value fields before v both.0) (all_right fields (before ++ v ∷ []) values both.1)

-- ---- what right values make

module _ (fields : List Field) (values : List FieldValue) (right : All (IsRight fields) values) where
  part_length : (f : Field) → field_named fields f.name ≡ Some f → length (part values f) ≡ f.width
  part_length f named = by_value (value_named values f.name) refl
    where
      by_value : (o : Option FieldValue) → value_named values f.name ≡ o
          → length (option_map_or (λ (v : FieldValue). padded f.width v.value) o (replicate f.width generic)) ≡ f.width
      by_value None e = length-replicate f.width generic
      by_value (Some v) e =
          let test : FieldValue → Bool = λ w. bytes_eq w.field f.name in
          let is : v.field ≡ f.name = (bytes_decides v.field f.name).0 (found_passes test values v e) in
          let fits : IsRight fields v = All-contains (IsRight fields) values v right (found_stands test values v e) in
          padded_length f.width v.value (fits f (ap (field_named fields) is ∙ named))

  key_part_length : (key : List ℕ) → length (key_part fields values key) ≡ key_width fields key
  key_part_length key = by_field (field_named fields key) refl
    where
      by_field : (o : Option Field) → field_named fields key ≡ o → length (option_map_or (part values) o []) ≡ option_map_or (λ (f : Field). f.width) o 0
      by_field None e = refl
      by_field (Some f) e =
          let is : f.name ≡ key = (bytes_decides f.name key).0 (found_passes (λ (g : Field). bytes_eq g.name key) fields f e) in
          part_length f (ap (field_named fields) is ∙ e)

  lengths_of_keys : (keys : List (List ℕ)) → length (argument fields values keys) ≡ argument_length fields keys
  lengths_of_keys [] = refl
  lengths_of_keys (key ∷ keys) =
      length-append (key_part fields values key) (argument fields values keys)
      ∙ (λ i. key_part_length key i + lengths_of_keys keys i)
      ∙ sym (sum_by-cons (key_width fields) key keys)

pub length_of_argument : (fields : List Field) (values : List FieldValue) (keys : List (List ℕ)) → values_fault fields values ≡ None
    → length (argument fields values keys) ≡ argument_length fields keys
length_of_argument fields values keys h = lengths_of_keys fields values (all_right fields [] values h) keys
