-- What a replica's link hands over.
use Rattle.std.proofs.Common.{◌≡◌, Bool, true, false, refl}
use Rattle.std.proofs.lemmas.Bool.{false≢true}
use Rattle.hall_model.specs.Calls.{OfAdmin, FailsOver}
use Rattle.hall_model.specs.Devices.{MayRead, Reading, AsKnown, Shows, Reopens, Hands, IsTold, found_by}
use Rattle.hall_model.specs.State.{State}

told_list : (told : Bool) (P : Type 0) → told ≡ true → IsTold told P → P
told_list true P e h = h
told_list false P e h = absurd (false≢true e)

-- where it tells its list, that is what stood
pub list_found : (reading : Reading) (s : State) → s.link_told ≡ true → MayRead reading s (OfAdmin FailsOver) → (found_by reading s).list ≡ s.locks
list_found AsKnown s told may = refl
list_found (Shows text) s told may = refl
list_found (Reopens taken) s told may = refl
list_found (Hands list) s told may = told_list s.link_told (list ≡ s.locks) told may
