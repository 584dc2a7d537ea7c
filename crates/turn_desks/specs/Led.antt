-- What calls have led a server to, and what the counts of its devices did on the way.
use Rattle.std.specs.Prelude.{◌≡◌, ℕ, Bool, true, List, IsTrue}
use Rattle.hall_model.specs.Recall.{AreModelAnswers, Made, calls_of, state_after}
use Rattle.hall_model.specs.State.{State}
use Rattle.script_runner.specs.Counts.{CountsCalls, file_fails_in_call, store_fails_in_call}
use Rattle.script_runner.specs.Faults.{NoneUnsound, NoneUnsoundReplica, NoneUnsoundStore}
use Rattle.script_runner.specs.Replicas.{HasLinked, LinkCounts}

-- the counts of faults of the store, of the disk of the backup file and of the link
pub record Counts : Type 0 where
  pub store : ℕ
  pub file : ℕ
  pub link : LinkCounts

abbrev pub counts_of : {K D L : Type 0} → (faults : K → ℕ) (file_faults : D → ℕ) (link_faults refusals : L → ℕ) → K → D
    → L → Counts
counts_of faults file_faults link_faults refusals keeper disk link =
    record {
      store = faults keeper;
      file = file_faults disk;
      link =
          record { faults = link_faults link; refusals = refusals link };
    }

-- The calls of the history led from the first state to this one, each answered as the model answers it. A device's
-- count rose in each of them in which the device failed. None found a device bad that tells what it holds: the store,
-- the replica, and where both tell it the backup file.
pub record IsLed (told tells linked : Bool) (first : State) (before : Counts) (s : State) (now : Counts) : Type 0 where
  pub made : List Made
  pub calls : s.past ≡ calls_of made
  pub answers : AreModelAnswers first made
  pub state : s ≡ state_after first made
  pub store : CountsCalls store_fails_in_call made before.store now.store
  pub file : CountsCalls file_fails_in_call made before.file now.file
  pub link : HasLinked first.attached before.link s now.link
  pub good_file : linked ≡ true → IsTrue tells → NoneUnsound s.past
  pub good_store : told ≡ true → NoneUnsoundStore s.past
  pub good_replica : linked ≡ true → NoneUnsoundReplica s.past
