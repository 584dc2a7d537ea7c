-- What is known of the words `cover` by how they end.
use Rattle.std.proofs.Common.{Option, Some, None}
use Rattle.std.specs.Prelude.{IfSome}
use Rattle.keeper_api.specs.Rows.{Rows}
use Rattle.script_runner.specs.declared.runner.Why.{Why}
use Rattle.script_runner.specs.declared.runner.Why.TheVariants.{Done, BadWords, BadLandscape, BadLine, SourceFault, SinkFault, LongLine, ManyLines, StoreFault}
use Rattle.script_runner.specs.declared.runner.Why.TheVariants.{BackupFault, BadStore, BadBackup, NoStart, NoMemory, LogFull}
use Rattle.enq_cmd.specs.Covering.{IsCoverEnd}
use Rattle.enq_cmd.specs.Main.{HasNoStart, IsBadStore}

-- ---- of no store

no_bad : (why : Why) (rows : Rows) → IsCoverEnd why → IsBadStore rows why
no_bad Done rows h = tt
no_bad BadWords rows h = absurd h
no_bad (BadLandscape rule place) rows h = tt
no_bad (BadLine n) rows h = tt
no_bad SourceFault rows h = tt
no_bad SinkFault rows h = tt
no_bad (LongLine n) rows h = tt
no_bad ManyLines rows h = tt
no_bad (StoreFault call) rows h = absurd h
no_bad (BackupFault call) rows h = absurd h
no_bad (BadStore table row) rows h = absurd h
no_bad (BadBackup place) rows h = absurd h
no_bad NoStart rows h = absurd h
no_bad NoMemory rows h = tt
no_bad LogFull rows h = absurd h

no_last : (why : Why) (rows : Rows) → IsCoverEnd why → HasNoStart rows why
no_last Done rows h = tt
no_last BadWords rows h = absurd h
no_last (BadLandscape rule place) rows h = tt
no_last (BadLine n) rows h = tt
no_last SourceFault rows h = tt
no_last SinkFault rows h = tt
no_last (LongLine n) rows h = tt
no_last ManyLines rows h = tt
no_last (StoreFault call) rows h = absurd h
no_last (BackupFault call) rows h = absurd h
no_last (BadStore table row) rows h = absurd h
no_last (BadBackup place) rows h = absurd h
no_last NoStart rows h = absurd h
no_last NoMemory rows h = tt
no_last LogFull rows h = absurd h

pub no_bad_store : (held : Option Rows) (why : Why) → IsCoverEnd why → IfSome held (λ rows. IsBadStore rows why)
no_bad_store None why h = tt
no_bad_store (Some rows) why h = no_bad why rows h

pub no_last_start : (held : Option Rows) (why : Why) → IsCoverEnd why → IfSome held (λ rows. HasNoStart rows why)
no_last_start None why h = tt
no_last_start (Some rows) why h = no_last why rows h
