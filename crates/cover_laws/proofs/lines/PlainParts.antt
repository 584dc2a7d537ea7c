-- Parts of a line without variables stand for themselves, and what such a line asks for is what it names.
use Rattle.std.proofs.Common.{◌≡◌, ℕ, ◌≤◌, Bool, true, false, cond, not, ◌&&◌, List, [], ◌∷◌, map, length, Option, Some, None, Result, Ok, Err, refl, sym, ap, ◌∙◌, arith, inl, inr}
use Rattle.std.specs.Prelude.{nat_eq, if◌then◌else◌, is_some}
use Rattle.std.specs.Option.{option_map_or}
use Rattle.std.proofs.lemmas.Bool.{cases_Bool, eqb-false, ne_eqb, or_parts}
use Rattle.enq_base.specs.declared.owner.Scope.{Scope}
use Rattle.enq_base.specs.declared.owner.Scope.TheVariants.{One, Two, Three}
use Rattle.enq_base.specs.declared.refusal.Refusal.{Refusal}
use Rattle.enq_base.specs.declared.refusal.Refusal.TheVariants as refusal
use Rattle.mode_rules.specs.declared.Mode.{Mode}
use Rattle.lock_entry.specs.declared.entry.Asked.{Asked}
use Rattle.lock_entry.specs.declared.entry.Request.{Request}
use Rattle.lock_objects.specs.Arguments.{arguments, values_fault}
use Rattle.lock_objects.specs.Objects.{Object}
use Rattle.lock_objects.specs.declared.value.ArgFault.{ArgFault}
use Rattle.lock_objects.specs.declared.value.FieldValue.{FieldValue}
use Rattle.lock_objects.specs.declared.value.Value.{Value}
use Rattle.owner_scope.specs.Halves.{names_update}
use Rattle.dialogue_session.specs.Filling.{filled, filled_from, joined, name_ahead, text_for}
use Rattle.dialogue_session.specs.declared.variables.Variable.{Variable}
use Rattle.script_lang.specs.declared.script_line.RawValue.{RawValue}
use Rattle.script_runner.specs.Lines.{and_next, arguments_at, asked_at, asking, field_values, in_scope, kind_of, request_in, requesting, value_before, value_of}
use Rattle.coverage.specs.Locks.{any_dollar, covering_locks, field_value, holds_dollar, is_exclusive, locks_at, named_locks, object_named, unit_locks, value_in}
use Rattle.cover_laws.proofs.needed.LocksNeeded.{often, update_asked}

-- ---- bytes and values

abbrev filled_behind : List Variable → ℕ → List ℕ → Option (List ℕ) → Result (List ℕ) Refusal
filled_behind variables b bytes name =
    elim name [
      | None ↦ joined (Ok (b ∷ [])) (filled_from variables 0 bytes)
      | Some n ↦ joined (text_for variables n) (filled_from variables (length n) bytes)
    ]

pub plain_fills : (variables : List Variable) (bytes : List ℕ) → holds_dollar bytes ≡ false → filled variables bytes ≡ Ok bytes
plain_fills variables [] plain = refl
plain_fills variables (b ∷ bytes) plain =
    let both = or_parts (nat_eq b 36) (holds_dollar bytes) plain in
    let other : nat_eq 36 b ≡ false = ne_eqb 36 b (λ e. eqb-false b 36 both.0 (sym e)) in
    ap (λ (c : Bool). filled_behind variables b bytes (if c then name_ahead bytes else None)) other
    ∙ ap (joined (Ok (b ∷ []))) (plain_fills variables bytes both.1)

value_is : (raw : List ℕ) → value_of raw ≡ value_in raw
value_is [] = refl
value_is (b ∷ bytes) = refl

plain_fields : (variables : List Variable) (values : List RawValue) → any_dollar values ≡ false
    → field_values variables values ≡ Ok (map field_value values)
plain_fields variables [] plain = refl
plain_fields variables (v ∷ values) plain =
    let both = or_parts (holds_dollar v.raw) (any_dollar values) plain in
    ap (λ (r : Result (List ℕ) Refusal). value_before v.field (and_next r (λ bytes. Ok (value_of bytes))) (field_values variables values))
    (plain_fills variables v.raw both.0)
    ∙ ap (λ (x : Value). value_before v.field (Ok x) (field_values variables values)) (value_is v.raw)
    ∙ ap (value_before v.field (Ok (value_in v.raw))) (plain_fields variables values both.1)

-- ---- locks

abbrev asked_unless : List Asked → Option ArgFault → Result (List Asked) Refusal
asked_unless asked fault = elim fault [ None ↦ Ok asked | Some f ↦ Err (refusal.BadArgument (kind_of f)) ]

abbrev asked_where : Mode → List FieldValue → Option Object → Result (List Asked) Refusal
asked_where m values found = elim found [ None ↦ Err refusal.UnknownObject | Some o ↦ arguments_at o values m ]

module _ (m : Mode) (values : List FieldValue) where
  by_fault : (asked args : List Asked) (fault : Option ArgFault) → asked_unless args fault ≡ Ok asked → cond (is_some fault) [] args ≡ asked
  by_fault asked args None is = cc
  by_fault asked args (Some x) is = absurd (cc)

  by_object : (asked : List Asked) (found : Option Object) → asked_where m values found ≡ Ok asked
      → option_map_or (locks_at m values) found [] ≡ asked
  by_object asked None is = absurd (cc)
  by_object asked (Some o) is = by_fault asked (arguments o values m) (values_fault o.fields values) is

-- where a line without variables asks for locks, it asks for those that it names
named_are : (objects : List Object) (variables : List Variable) (object : List ℕ) (m : Mode) (values : List RawValue) (asked : List Asked)
    → any_dollar values ≡ false → asking variables objects object m values ≡ Ok asked → named_locks objects object m values ≡ asked
named_are objects variables object m values asked plain is =
    by_object m (map field_value values) asked (object_named objects object)
    (sym (ap (λ (r : Result (List FieldValue) Refusal). and_next r (asked_at objects object m)) (plain_fields variables values plain)) ∙ is)

-- the update owner's half of each
update_in : (scope : Scope) (asked : List Asked) → update_asked (map (request_in scope) asked) ≡ cond (names_update scope) asked []
update_in One [] = refl
update_in Two [] = refl
update_in Three [] = refl
update_in One (a ∷ asked) = update_in One asked
update_in Two (a ∷ asked) = ap (λ (xs : List Asked). a ∷ xs) (update_in Two asked)
update_in Three (a ∷ asked) = ap (λ (xs : List Asked). a ∷ xs) (update_in Three asked)

in_scope_is : (scope : Scope) (r : Result (List Asked) Refusal) (requests : List Request) → in_scope scope r ≡ Ok requests
    → (asked : List Asked) × (r ≡ Ok asked) × (map (request_in scope) asked ≡ requests)
in_scope_is scope (Ok asked) requests is = (asked, refl, cc)
in_scope_is scope (Err e) requests is = absurd (cc)

module _ (objects : List Object) (variables : List Variable) (object : List ℕ) (m : Mode) (scope : Scope) (values : List RawValue)
    (requests : List Request) (is : requesting variables objects object m scope values ≡ Ok requests) where
  pub unit_locks_are : any_dollar values ≡ false → unit_locks objects object m scope values ≡ update_asked requests
  unit_locks_are plain =
      let asks = in_scope_is scope (asking variables objects object m values) requests is in
      ap (λ (b : Bool). cond (names_update scope && not b) (named_locks objects object m values) []) plain
      ∙ ap (λ (b : Bool). cond b (named_locks objects object m values) []) (and-true (names_update scope))
      ∙ ap (λ (xs : List Asked). cond (names_update scope) xs []) (named_are objects variables object m values asks.0 plain asks.1)
      ∙ sym (update_in scope asks.0)
      ∙ ap update_asked asks.2
    where
      and-true : (b : Bool) → (b && true) ≡ b
      and-true true = refl
      and-true false = refl

  -- what a line with variables names isn't known, so that none of it is counted
  unit_locks_part : (a : Asked) → often (unit_locks objects object m scope values) a ≤ often (update_asked requests) a
  unit_locks_part a =
      elim (cases_Bool (any_dollar values)) [
        | inl some_there ↦
            let none : unit_locks objects object m scope values ≡ [] =
            ap (λ (b : Bool). cond (names_update scope && not b) (named_locks objects object m values) []) some_there
            ∙ ap (λ (b : Bool). cond b (named_locks objects object m values) []) (and-false (names_update scope)) in
            rw none (omega arith)
        | inr plain ↦ rw (unit_locks_are plain) (omega arith)
      ]
    where
      and-false : (b : Bool) → (b && false) ≡ false
      and-false true = refl
      and-false false = refl

  -- the exclusive ones are a part of what is asked for
  pub covering_part : (a : Asked) → often (covering_locks objects object m scope values) a ≤ often (update_asked requests) a
  covering_part a = of_mode (is_exclusive m)
    where
      of_mode : (b : Bool) → often (cond b (unit_locks objects object m scope values) []) a ≤ often (update_asked requests) a
      of_mode true = unit_locks_part a
      of_mode false = omega arith
