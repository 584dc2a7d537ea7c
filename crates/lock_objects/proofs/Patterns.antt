-- The arguments that right values make of a right object are lock arguments.
use Rattle.std.proofs.Common.{◌≡◌, ℕ, zero, suc, ◌+◌, ◌-◌, ◌≤◌, List, [], ◌∷◌, ◌++◌, Bool, true, false, cond, ◌&&◌, nat_le, nat_lt, length, replicate, Option}
use Rattle.std.proofs.Common.{Some, None, sym, ◌∙◌, ap, refl, arith, inl, inr}
use Rattle.std.specs.Prelude.{is_none, option_map}
use Rattle.std.specs.List.{list_all, list_any}
use Rattle.std.specs.Option.{option_map_or}
use Rattle.std.specs.Str.{bytes_eq}
use Rattle.std.proofs.lemmas.Bool.{cases_Bool, and_parts, and_from, ltb-false}
use Rattle.std.proofs.lemmas.List.{length-append, length-replicate}
use Rattle.std.proofs.lemmas.List.Folds.{list_all-append}
use Rattle.std.proofs.lemmas.List.Sums.{sum_by-cons}
use Rattle.enq_base.specs.Grammar.{is_pattern, is_text_byte}
use Rattle.lock_entry.specs.Argument.{generic, is_plain_byte}
use Rattle.lock_entry.proofs.lemmas.Lists.{list_all-weaken, find-all, option_or-None}
use Rattle.lock_entry.proofs.lemmas.Naming.{bytes_eq-same}
use Rattle.lock_objects.specs.declared.field.Field.{Field}
use Rattle.lock_objects.specs.declared.field.KeyTable.{KeyTable}
use Rattle.lock_objects.specs.declared.field.ObjectFault.TheVariants as ObjectFault
use Rattle.lock_objects.specs.declared.value.FieldValue.{FieldValue}
use Rattle.lock_objects.specs.declared.value.Value.{Value}
use Rattle.lock_objects.specs.declared.value.Value.TheVariants.{Given, Initial, Long}
use Rattle.lock_objects.specs.declared.value.ArgFault.TheVariants as fault
use Rattle.lock_objects.specs.Objects.{IsObject, field_named, first_some, first_unknown, key_width, argument_length, wrong_length, tables_fault, repeat_fault}
use Rattle.lock_objects.specs.Arguments.{argument, key_part, part, padded, value_named, text_fault, value_fault, fault_after, values_fault}

option_map-None : {X Y : Type 0} (f : X → Y) (o : Option X) → option_map f o ≡ None → o ≡ None
option_map-None f None h = refl
option_map-None f (Some x) h = absurd (cc)

-- the value has a field, and is one of it
abbrev is_right : List Field → FieldValue → Bool
is_right fields v = option_map_or (λ (f : Field). is_none (text_fault f.width v.value)) (field_named fields v.field) false

value-right : (fields : List Field) (before : List FieldValue) (v : FieldValue) → value_fault fields before v ≡ None → is_right fields v ≡ true
value-right fields before v h = go (field_named fields v.field) refl h
  where
    go : (o : Option Field) → field_named fields v.field ≡ o → option_map_or
        (λ (f : Field). cond (list_any (λ (w : FieldValue). bytes_eq w.field v.field) before) (Some fault.Repeat) (text_fault f.width v.value)) o
        (Some fault.UnknownField) ≡ None → option_map_or (λ (f : Field). is_none (text_fault f.width v.value)) o false ≡ true
    go None e k = absurd (cc)
    go (Some f) e k =
        elim (cases_Bool (list_any (λ (w : FieldValue). bytes_eq w.field v.field) before)) [
          | inl again ↦ absurd (let l = rw again at k in cc)
          | inr first ↦ let l : text_fault f.width v.value ≡ None = rw first at k in ap is_none l
        ]

all-right : (fields : List Field) (before vs : List FieldValue) → fault_after fields before vs ≡ None → list_all (is_right fields) vs ≡ true
all-right fields before [] h = refl
all-right fields before (v ∷ vs) h =
    let parts = option_or-None (value_fault fields before v) (fault_after fields (before ++ v ∷ []) vs) h in
    and_from _ _ (value-right fields before v parts.0) (all-right fields (before ++ v ∷ []) vs parts.1)

-- bytes of a text, so many of them
record Filled (n : ℕ) (bytes : List ℕ) : Type 0 where
  long : length bytes ≡ n
  text : list_all is_text_byte bytes ≡ true

list_all-replicate : (n b : ℕ) → is_text_byte b ≡ true → list_all is_text_byte (replicate n b) ≡ true
list_all-replicate zero b h = refl
list_all-replicate (suc n) b h = and_from (is_text_byte b) (list_all is_text_byte (replicate n b)) h (list_all-replicate n b h)

Filled-replicate : (n b : ℕ) → is_text_byte b ≡ true → Filled n (replicate n b)
Filled-replicate n b h = record { long = length-replicate n b; text = list_all-replicate n b h }

Filled-append : (n m : ℕ) (xs ys : List ℕ) → Filled n xs → Filled m ys → Filled (n + m) (xs ++ ys)
Filled-append n m xs ys x y = record {
  long = length-append xs ys ∙ ap (λ (k : ℕ). k + length ys) x.long ∙ ap (λ (k : ℕ). n + k) y.long;
  text = list_all-append is_text_byte xs ys ∙ and_from _ _ x.text y.text;
}

text-plain : (b : ℕ) → is_plain_byte b ≡ true → is_text_byte b ≡ true
text-plain b h = (and_parts (is_text_byte b) _ h).0

-- a right value fills its field
padded-Filled : (width : ℕ) (v : Value) → is_none (text_fault width v) ≡ true → Filled width (padded width v)
padded-Filled width Initial h = Filled-replicate width 32 refl
padded-Filled width Long h = absurd (cc)
padded-Filled width (Given text) h =
    elim (cases_Bool (nat_lt width (length text))) [
      | inl wide ↦ absurd (let k = rw wide at h in cc)
      | inr fits ↦
          let k = rw fits at h in
          let short : length text ≤ width = ltb-false width (length text) fits in
          elim (cases_Bool (list_all is_plain_byte text)) [
            | inr wrong ↦ absurd (let l = rw wrong at k in cc)
            | inl plain ↦
                let front : Filled (length text) text = record { long = refl; text = list_all-weaken is_plain_byte is_text_byte text-plain text plain } in
                let all = Filled-append (length text) (width - length text) text (replicate (width - length text) 32) front
                (Filled-replicate (width - length text) 32 refl) in
                let sum : length text + (width - length text) ≡ width = omega arith in
                record { long = all.long ∙ sum; text = all.text }
          ]
    ]

-- the field of a name has it
field_named-is : (fields : List Field) (name : List ℕ) (f : Field) → field_named fields name ≡ Some f → f.name ≡ name
field_named-is [] name f h = absurd (cc)
field_named-is (g ∷ fields) name f h =
    elim (cases_Bool (bytes_eq g.name name)) [
      | inl here ↦ let k = rw here at h in let s : g ≡ f = cc in ap (λ (x : Field). x.name) (sym s) ∙ bytes_eq-same g.name name here
      | inr later ↦ field_named-is fields name f (rw later at h)
    ]

value_named-is : (values : List FieldValue) (name : List ℕ) (v : FieldValue) → value_named values name ≡ Some v → v.field ≡ name
value_named-is [] name v h = absurd (cc)
value_named-is (w ∷ values) name v h =
    elim (cases_Bool (bytes_eq w.field name)) [
      | inl here ↦ let k = rw here at h in let s : w ≡ v = cc in ap (λ (x : FieldValue). x.field) (sym s) ∙ bytes_eq-same w.field name here
      | inr later ↦ value_named-is values name v (rw later at h)
    ]

module _ (fields : List Field) (values : List FieldValue) (right : list_all (is_right fields) values ≡ true) where
  part-Filled : (f : Field) → field_named fields f.name ≡ Some f → Filled f.width (part values f)
  part-Filled f named = go (value_named values f.name) refl
    where
      go : (o : Option FieldValue) → value_named values f.name ≡ o → Filled f.width
          (option_map_or (λ (v : FieldValue). padded f.width v.value) o (replicate f.width generic))
      go None e = Filled-replicate f.width generic refl
      go (Some v) e =
          let good : is_right fields v ≡ true = find-all (λ (w : FieldValue). bytes_eq w.field f.name) (is_right fields) values v e right in
          let is : field_named fields v.field ≡ Some f = ap (field_named fields) (value_named-is values f.name v e) ∙ named in
          let fine : is_none (text_fault f.width v.value) ≡ true =
          sym (ap (λ (o : Option Field). option_map_or (λ (g : Field). is_none (text_fault g.width v.value)) o false) is) ∙ good in
          padded-Filled f.width v.value fine

  key_part-Filled : (key : List ℕ) → Filled (key_width fields key) (key_part fields values key)
  key_part-Filled key = go (field_named fields key) refl
    where
      go : (o : Option Field) → field_named fields key ≡ o → Filled (option_map_or (λ (f : Field). f.width) o 0) (option_map_or (part values) o [])
      go None e = record { long = refl; text = refl }
      go (Some f) e = part-Filled f (ap (field_named fields) (field_named-is fields key f e) ∙ e)

  argument-Filled : (keys : List (List ℕ)) → Filled (argument_length fields keys) (argument fields values keys)
  argument-Filled [] = record { long = refl; text = refl }
  argument-Filled (k ∷ keys) =
      let all = Filled-append (key_width fields k) (argument_length fields keys) (key_part fields values k) (argument fields values keys) (key_part-Filled k)
      (argument-Filled keys) in
      record { long = all.long ∙ sym (sum_by-cons (key_width fields) k keys); text = all.text }

wrong_length-None : (n : ℕ) → wrong_length n ≡ None → (nat_le 1 n ≡ true) × (nat_le n 255 ≡ true)
wrong_length-None n h =
    elim (cases_Bool (nat_le 1 n && nat_le n 255)) [
      | inl fine ↦ and_parts (nat_le 1 n) (nat_le n 255) fine
      | inr wrong ↦ absurd (let k = rw wrong at h in cc)
    ]

-- the arguments of the tables are lock arguments
patterns : (fields : List Field) (values : List FieldValue) (tables : List KeyTable) → list_all (is_right fields) values ≡ true
    → first_some (λ (t : KeyTable). wrong_length (argument_length fields t.keys)) tables ≡ None
    → list_all (λ (t : KeyTable). is_pattern (argument fields values t.keys)) tables ≡ true
patterns fields values [] right h = refl
patterns fields values (t ∷ tables) right h =
    let hs = option_or-None (wrong_length (argument_length fields t.keys))
    (first_some (λ (s : KeyTable). wrong_length (argument_length fields s.keys)) tables) h in
    let bounds = wrong_length-None (argument_length fields t.keys) hs.0 in
    let filled = argument-Filled fields values right t.keys in
    and_from _ _
    (and_from _ _ (and_from _ _ filled.text (ap (λ n. nat_le 1 n) filled.long ∙ bounds.0)) (ap (λ n. nat_le n 255) filled.long ∙ bounds.1))
    (patterns fields values tables right hs.1)

-- Right values make lock arguments of a right object.
pub arguments-are_patterns : (fields : List Field) (tables : List KeyTable) (values : List FieldValue) → IsObject fields tables
    → values_fault fields values ≡ None → list_all (λ (t : KeyTable). is_pattern (argument fields values t.keys)) tables ≡ true
arguments-are_patterns fields tables values object fine =
    let a = option_or-None (tables_fault tables) _ object.right in
    let b = option_or-None (repeat_fault fields tables) _ a.1 in
    let c = option_or-None (option_map ObjectFault.UnknownField (first_some (λ (s : KeyTable). first_unknown fields s.keys) tables)) _ b.1 in
    let none = option_map-None ObjectFault.TooLong (first_some (λ (s : KeyTable). wrong_length (argument_length fields s.keys)) tables) c.1 in
    patterns fields values tables (all-right fields [] values fine) none
