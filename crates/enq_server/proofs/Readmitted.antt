-- What a call that readmits entries leaves, by what its steps leave.
use Rattle.std.proofs.Common.{◌≡◌, ◌≤◌, ℕ, true, false, List, Option, sym, ap, subst, ◌∙◌, arith}
use Rattle.std.specs.Prelude.{Result, Err}
use Rattle.enq_base.specs.Causes.{Rose}
use Rattle.lock_entry.specs.Table.{Table}
use Rattle.lock_entry.specs.declared.entry.Entry.{Entry}
use Rattle.lock_entry.specs.declared.fault.AskFault.{AskFault}
use Rattle.enq_server.specs.Faults.{HasCallCause, IsReadmission, IsRefusal}
use Rattle.enq_server.specs.Replica.{IsLostWith, KeepsOn, ReplicaView}
use Rattle.enq_server.specs.declared.fault.ServerFault.{ServerFault}
use Rattle.enq_server.specs.declared.fault.ServerFault.TheVariants as server
use Rattle.enq_server.proofs.lemmas.Replicas.{keeps_none}

-- ---- a refusal

pub refused_as : (rule : Result (List Entry) AskFault) (before after : List Entry) (fault : ServerFault) → after ≡ before → IsRefusal rule fault
    → IsReadmission rule before after fault
refused_as rule before after (server.Ask fault) same why = (why, same)
refused_as rule before after server.Failed same why = absurd why
refused_as rule before after server.NoMemory same why = same

pub refused_quietly : (rule : Result (List Entry) AskFault) (before now : ℕ) (fault : ServerFault) → now ≡ before → IsRefusal rule fault
    → HasCallCause before now (Err fault)
refused_quietly rule before now (server.Ask fault) same why = same
refused_quietly rule before now server.Failed same why = absurd why
refused_quietly rule before now server.NoMemory same why = same

abbrev failed_by : ServerFault → Result Unit ServerFault
failed_by fault = Err fault

other_fault : (fault : ServerFault) → failed_by fault ≡ failed_by server.Failed → fault ≡ server.Failed
other_fault fault same = cc

pub not_failed : (rule : Result (List Entry) AskFault) (fault : ServerFault) → IsRefusal rule fault → failed_by fault ≡ failed_by server.Failed → ⊥
not_failed rule fault why same = subst (IsRefusal rule) (other_fault fault same) why

-- ---- the file's write failed

pub failed_cause : (before middle now : ℕ) → middle ≡ before → (middle ≤ now) → Rose middle now → HasCallCause before now (Err server.Failed)
failed_cause before middle now same later rose = (omega (arith, same, later), subst (λ n. Rose n now) same rose)

-- ---- the replica

pub keeps_over : {L : Type 0} (applied : L → Option (List Entry)) (faults refusals : L → ℕ) (first old new last : ReplicaView L) → old ≡ first → last ≡ new
    → KeepsOn applied faults refusals old new → KeepsOn applied faults refusals first last
keeps_over applied faults refusals first old new last before after keeps =
    subst (λ f. KeepsOn applied faults refusals f last) before (subst (KeepsOn applied faults refusals old) (sym after) keeps)

pub keeps_same : {L : Type 0} (applied : L → Option (List Entry)) (faults refusals : L → ℕ) (old new : ReplicaView L) → new ≡ old
    → KeepsOn applied faults refusals old new
keeps_same applied faults refusals old new same = subst (KeepsOn applied faults refusals old) (sym same) (keeps_none applied faults refusals old)

pub lost_over : {L : Type 0} (first old new last : ReplicaView L) (before early late now : Table) → old ≡ first → last ≡ new → early ≡ before → now ≡ late
    → IsLostWith old new early late → IsLostWith first last before now
lost_over first old new last before early late now f l b n lost on off same =
    lost (ap (λ g. g.attached) f ∙ on) (ap (λ g. g.attached) (sym l) ∙ off) (sym n ∙ same ∙ sym b)

pub lost_same : {L : Type 0} (old new : ReplicaView L) (before now : Table) → new ≡ old → IsLostWith old new before now
lost_same old new before now same on off = let odd : true ≡ false = sym on ∙ sym (ap (λ g. g.attached) same) ∙ off in absurd cc
