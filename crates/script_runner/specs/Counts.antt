-- A device's count of faults, call by call.
use Rattle.std.specs.Prelude.{◌≡◌, ℕ, Bool, List, [], ◌∷◌}
use Rattle.hall_calls.specs.Leaving.{HasCounted}
use Rattle.hall_model.specs.Devices.{is_file_failure, is_store_failure}
use Rattle.hall_model.specs.Recall.{Made}

-- the store failed in the call
abbrev pub store_fails_in_call : Made → Bool
store_fails_in_call m = is_store_failure m.outcome.event

-- the disk of the backup file failed in the call
abbrev pub file_fails_in_call : Made → Bool
file_fails_in_call m = is_file_failure m.outcome.event

-- over these calls a device's count of faults has risen in each in which the device failed, and stood still in each
-- other
abbrev pub CountsCalls : (Made → Bool) → List Made → ℕ → ℕ → Type 0
CountsCalls fails [] before now = now ≡ before
CountsCalls fails (m ∷ ms) before now = (between : ℕ) ×
    (HasCounted (fails m) before between × CountsCalls fails ms between now)
