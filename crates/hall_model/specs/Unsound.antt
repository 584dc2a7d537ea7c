-- A device that isn't good, as a call finds it.
use Rattle.std.specs.Prelude.{Bool, true, false}
use Rattle.enq_base.specs.declared.condition.Bad.TheVariants as bad
use Rattle.enq_base.specs.declared.refusal.Refusal.TheVariants as refusal
use Rattle.hall_model.specs.declared.command.Reply.{Reply}
use Rattle.hall_model.specs.declared.command.Reply.TheVariants as reply

-- the backup file was read and isn't good
abbrev pub is_unsound_file : Reply → Bool
is_unsound_file (reply.Refused (refusal.Unsound (bad.Backup place))) = true
is_unsound_file r = false

-- the store was read and isn't good, or has neither what it had nor the change in flight
abbrev pub is_unsound_store : Reply → Bool
is_unsound_store (reply.Refused (refusal.Unsound (bad.Store table row))) = true
is_unsound_store r = false

-- a replica has handed a list over that can't be the table
abbrev pub is_unsound_replica : Reply → Bool
is_unsound_replica (reply.Refused (refusal.Unsound (bad.Replica first second))) = true
is_unsound_replica r = false
