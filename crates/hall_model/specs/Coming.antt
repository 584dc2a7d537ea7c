-- What a part of a unit comes to.
use Rattle.std.specs.Prelude.{Result, Ok, Err}
use Rattle.enq_base.specs.declared.owner.UnitKey.{UnitKey}
use Rattle.module_effects.specs.Effects.{applied}
use Rattle.module_effects.specs.Rows.{Tables}
use Rattle.module_effects.specs.declared.fault.EffectFault.{EffectFault}
use Rattle.module_effects.specs.declared.fault.EffectFault.TheVariants as effect
use Rattle.ledger_steps.specs.Posts.{effects_of}
use Rattle.ledger_steps.specs.declared.step.Outcome.{Outcome}
use Rattle.ledger_steps.specs.declared.step.Outcome.TheVariants.{Done, Refused}
use Rattle.update_records.specs.Business.{tables_of}
use Rattle.update_records.specs.Ledger.{Ledger}
use Rattle.ledger_steps.specs.declared.part.Part.{Part}

-- applying effects wants no memory
abbrev pub outcome_of : Result Tables EffectFault → Outcome
outcome_of (Ok tables) = Done
outcome_of (Err (effect.Refused index reason)) = Refused index reason
outcome_of (Err effect.NoMemory) = Done

-- in the business tables that the marks have made
abbrev pub outcome_in : Ledger → Part → UnitKey → Outcome
outcome_in ledger part key =
    outcome_of (applied (effects_of part ledger.units key) (tables_of ledger.units ledger.marks))
