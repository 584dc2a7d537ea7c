-- Which owners a scope names.
use Rattle.std.specs.Prelude.{Bool, true, false}
use Rattle.enq_base.specs.declared.owner.Scope.{Scope}
use Rattle.enq_base.specs.declared.owner.Scope.TheVariants.{One, Two, Three}

-- scopes 1 and 3 name the dialogue owner
abbrev pub names_dialogue : Scope → Bool
names_dialogue One = true
names_dialogue Two = false
names_dialogue Three = true

-- scopes 2 and 3 name the update owner
abbrev pub names_update : Scope → Bool
names_update One = false
names_update Two = true
names_update Three = true
