-- The first record of a table that breaks a rule.
use Rattle.std.specs.Prelude.{ℕ, ◌≡◌, ◌+◌, Bool, true, false, List, [], ◌∷◌, ◌++◌, length, Option, Some, None}
use Rattle.std.specs.Prelude.{if◌then◌else◌}
use Rattle.std.specs.Option.{option_or}
use Rattle.update_records.specs.declared.stored.Record.{Record}
use Rattle.store_reading.specs.declared.rules.Place.{Place}

-- the first of these records that isn't right behind those before it, at its place in the table, counted from 1
abbrev pub first_wrong : (List Record → Record → Bool) → ℕ → List Record → List Record → Option Place
first_wrong is_right table before [] = None
first_wrong is_right table before (r ∷ records) =
    if is_right before r then first_wrong is_right table (before ++ r ∷ []) records
    else Some (record { table = table; row = length before + 1 })

-- the first of several places that there is
infixl 10 ◌else_at◌
abbrev pub ◌else_at◌ : Option Place → Option Place → Option Place
place else_at other = option_or place other

-- each record is right behind those before it
abbrev pub AreRight : (List Record → Record → Bool) → List Record → List Record → Type 0
AreRight is_right before [] = Unit {0}
AreRight is_right before (r ∷ records) = (is_right before r ≡ true) × AreRight is_right (before ++ r ∷ []) records

-- the record at this place is wrong behind those before it, which are right
pub record IsFirstWrong (is_right : List Record → Record → Bool) (table : ℕ) (records : List Record)
    (place : Place) : Type 0 where
  pub front : List Record
  pub wrong : Record
  pub rest : List Record
  pub whole : records ≡ front ++ wrong ∷ rest
  pub right : AreRight is_right [] front
  pub fails : is_right front wrong ≡ false
  pub there : place ≡ record { table = table; row = length front + 1 }
