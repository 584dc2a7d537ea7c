-- Refusals that no device caused.
use Rattle.std.specs.Prelude.{◌≡◌, Bool, true, false, Result, Ok, Err}
use Rattle.enq_base.specs.declared.refusal.Refusal.{Refusal}
use Rattle.enq_base.specs.declared.refusal.Refusal.TheVariants as refusal
use Rattle.lock_entry.specs.declared.fault.AskFault.{AskFault}
use Rattle.hall_model.specs.Step.{ask_refusal}

-- a refusal of a device, or of what one has, or for want of memory
abbrev pub is_fault : Refusal → Bool
is_fault refusal.NoMemory = true
is_fault refusal.StoreFault = true
is_fault refusal.BackupFault = true
is_fault refusal.LinkFault = true
is_fault (refusal.Unsound found) = true
is_fault _ = false

abbrev pub IsPlain : Refusal → Type 0
IsPlain r = is_fault r ≡ false

-- a rule of the lock table refuses plainly, if it does
abbrev pub IsOfRule : {X : Type 0} → Result X AskFault → Type 0
IsOfRule (Ok x) = Unit {0}
IsOfRule (Err f) = IsPlain (ask_refusal f)
