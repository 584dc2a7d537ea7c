-- What an opening finds in a file, and what it leaves.
use Rattle.std.proofs.Common.{ℕ, ◌≡◌, ◌≤◌, List, length, sym, subst, ◌∙◌, arith}
use Rattle.std.specs.Prelude.{Result, Ok, Err, IsErrOf}
use Rattle.bk_disk.specs.Disk.{Only}
use Rattle.gate_log.specs.Gates.{AreShort}
use Rattle.backup_file.specs.declared.fault.BackFault.{BackFault}
use Rattle.backup_file.specs.declared.fault.BackFault.TheVariants.{Failed, Bad, NoMemory}
use Rattle.backup_file.specs.File.{IsShort}
use Rattle.backup_file.specs.Opening.{HasBackCause, OnBad, UnlessFailed}

-- all that a crash may leave of a short file is short
pub all_short : (bytes read : List ℕ) (images : List ℕ → Type 0) → IsShort bytes → read ≡ bytes → Only read images → AreShort 9 images
all_short bytes read images short same only image left = subst (λ b. length b ≤ 9) (sym (only image left ∙ same)) short

pub on_bad : (P Q : ℕ → Type 0) → ((at : ℕ) → P at → Q at) → (fault : BackFault) → OnBad P fault → OnBad Q fault
on_bad P Q more Failed h = tt
on_bad P Q more (Bad at) h = more at h
on_bad P Q more NoMemory h = tt

-- ---- the count of faults

still : {T : Type 0} (P : Type 0) (r : Result T BackFault) → P → UnlessFailed r P
still P (Ok x) p = p
still P (Err Failed) p = tt
still P (Err (Bad at)) p = p
still P (Err NoMemory) p = p

pub no_fault : {T : Type 0} (before now : ℕ) (r : Result T BackFault) → now ≡ before → (IsErrOf r Failed → ⊥) → HasBackCause before now r
no_fault before now r same none =
    record { later = omega (arith, same); failed = λ failed. absurd (none failed); quiet = still (now ≡ before) r same }
