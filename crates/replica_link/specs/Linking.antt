-- The words of a link's contract.
use Rattle.std.specs.Prelude.{◌≡◌, ℕ, ◌≤◌, List, Option, Result, Ok, Err}
use Rattle.enq_base.specs.Causes.{Rose}
use Rattle.lock_entry.specs.declared.entry.Entry.{Entry}
use Rattle.replica_link.specs.declared.fault.LinkFault.{LinkFault}
use Rattle.replica_link.specs.declared.fault.LinkFault.TheVariants.{Failed, NoMemory}

abbrev pub UnlessFailed : {T : Type 0} → Result T LinkFault → Type 0 → Type 0
UnlessFailed (Ok x) P = P
UnlessFailed (Err Failed) P = Unit {0}
UnlessFailed (Err NoMemory) P = P

abbrev pub OnFailed : {T : Type 0} → Result T LinkFault → Type 0 → Type 0
OnFailed (Ok x) P = Unit {0}
OnFailed (Err Failed) P = P
OnFailed (Err NoMemory) P = Unit {0}

-- The count of the answer's fault rose. Either count may rise too where a call that found faults went on to another
-- answer.
abbrev pub CountsTell : {T : Type 0} → Result T LinkFault → (faults faults' refusals refusals' : ℕ) → Type 0
CountsTell (Ok x) faults faults' refusals refusals' = Unit {0}
CountsTell (Err Failed) faults faults' refusals refusals' = Rose faults faults'
CountsTell (Err NoMemory) faults faults' refusals refusals' = Rose refusals refusals'

-- neither count has fallen, `Failed` comes only where the faults rose, and `NoMemory` only where the refusals did
pub record HasCauses {L T : Type 0} (faults refusals : L → ℕ) (old new : L) (result : Result T LinkFault) : Type 0 where
  pub faults_later : faults old ≤ faults new
  pub refusals_later : refusals old ≤ refusals new
  pub told : CountsTell result (faults old) (faults new) (refusals old) (refusals new)

-- what the link gives, and what is allowed, is as before
pub record Stays {L : Type 0} (gives : L → List Entry) (applied : L → Option (List Entry)) (next : L → Option ℕ)
    (old new : L) : Type 0 where
  pub given : gives new ≡ gives old
  pub told : applied new ≡ applied old
  pub allowed : next new ≡ next old
