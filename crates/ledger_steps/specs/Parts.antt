-- The two parts of a unit.
use Rattle.std.specs.Prelude.{ℕ, Bool, true, false, nat_eq, if◌then◌else◌}
use Rattle.ledger_steps.specs.declared.part.Part.{Part}
use Rattle.ledger_steps.specs.declared.part.Part.TheVariants.{V1, V2}

abbrev pub is_first : Part → Bool
is_first V1 = true
is_first V2 = false

-- the part of this number, where 1 is V1
abbrev pub part_at : ℕ → Part
part_at number = if nat_eq number 1 then V1 else V2
