-- The first rule that a landscape breaks, and its place.
use Rattle.std.specs.Prelude.{◌≡◌, ℕ, ◌+◌, List, [], ◌∷◌, ◌++◌, length, Option, Some, None, Result, Ok, Err}
use Rattle.toml.specs.Data.{Data}
use Rattle.landscape.specs.declared.land_fault.LandFault.{LandFault}
use Rattle.landscape.specs.declared.land_fault.LandFault.TheVariants as fault
use Rattle.landscape.specs.declared.rule_fault.RuleFault.{RuleFault}
use Rattle.landscape.specs.declared.rule_fault.RuleFault.TheVariants as object_fault

-- a rule by its number, and the place of the object or the range that breaks it, from 1 on, or 0
pub record Broken : Type 0 where
  pub rule : ℕ
  pub place : ℕ

-- what breaks a rule is told by the rule's number
abbrev pub or_rule : {A : Type 0} → ℕ → Option A → Result A ℕ
or_rule rule None = Err rule
or_rule rule (Some x) = Ok x

-- a step behind another one
abbrev pub then_read : {A B F : Type 0} → Result A F → (A → Result B F) → Result B F
then_read (Ok x) f = f x
then_read (Err broken) f = Err broken

-- what the items are read as one after another, each behind the earlier ones; else the first broken rule, at the place
-- of its item, from 1 on
unfoldable pub in_turn : {A : Type 0} → (List A → Data → Result A ℕ) → List A → List Data → Result (List A) Broken
in_turn read earlier [] = Ok earlier
in_turn read earlier (d ∷ ds) =
    elim (read earlier d) [
      | Err rule ↦ Err (record { rule = rule; place = length earlier + 1 })
      | Ok x ↦ in_turn read (earlier ++ x ∷ []) ds
    ]

-- what a function answered is what reading gives, unless memory ran out
abbrev pub Gives : {A B : Type 0} → (A → B) → Result A LandFault → Result B Broken → Type 0
Gives view (Ok x) read = read ≡ Ok (view x)
Gives view (Err (fault.Bad rule place)) read = read ≡ Err (record { rule = rule; place = place })
Gives view (Err fault.NoMemory) read = Unit {0}
Gives view (Err fault.Failed) read = ⊥

-- that rule at that place, unless memory ran out
abbrev pub IsBad : LandFault → ℕ → ℕ → Type 0
IsBad (fault.Bad r p) rule place = (r ≡ rule) × (p ≡ place)
IsBad fault.NoMemory rule place = Unit {0}
IsBad fault.Failed rule place = ⊥

-- the same of an object, which only tells the rule
abbrev pub GivesRule : {A B : Type 0} → (A → B) → Result A RuleFault → Result B ℕ → Type 0
GivesRule view (Ok x) read = read ≡ Ok (view x)
GivesRule view (Err (object_fault.Broken rule)) read = read ≡ Err rule
GivesRule view (Err object_fault.NoMemory) read = Unit {0}

-- the same where one rule alone may be broken
abbrev pub Follows : {A B : Type 0} → (A → B) → ℕ → Result A RuleFault → Option B → Type 0
Follows view only (Ok x) read = read ≡ Some (view x)
Follows view only (Err (object_fault.Broken rule)) read = (rule ≡ only) × (read ≡ None)
Follows view only (Err object_fault.NoMemory) read = Unit {0}
