-- What is answered where a rule refuses, or memory is wanting.
use Rattle.std.specs.Prelude.{◌≡◌, Result, Ok, Err}
use Rattle.enq_base.specs.declared.refusal.Refusal.{Refusal}
use Rattle.enq_base.specs.declared.refusal.Refusal.TheVariants as refusal

-- the refusal is the rule's own, or want of memory
abbrev pub IsRefusedBy : {X : Type 0} → Result X Refusal → Refusal → Type 0
IsRefusedBy rule refusal.NoMemory = Unit {0}
IsRefusedBy rule r = rule ≡ Err r

-- what was made is what the rule gives
abbrev pub IsGivenBy : {X Y : Type 0} → (Y → X) → Result X Refusal → Result Y Refusal → Type 0
IsGivenBy view rule (Ok y) = rule ≡ Ok (view y)
IsGivenBy view rule (Err r) = IsRefusedBy rule r
