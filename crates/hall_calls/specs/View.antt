-- What is present is seen as, and a hall, with the devices.
use Rattle.backup_file.specs.Backup.{BackupView}
use Rattle.enq_server.specs.Replica.{ReplicaView}
use Rattle.hall_model.specs.State.{State}

-- what the hall is seen as: its state, the keeper of the store's rows, the backup file of its locks, and the replica
-- that may follow them
pub record View (K D L : Type 0) : Type 0 where
  pub state : State
  pub keeper : K
  pub file : BackupView D
  pub replica : ReplicaView L
