-- What one call leaves of the doubt: as it was, ended by a restart, or a doubt since this call, which tells what went wrong in it.
use Rattle.std.proofs.Common.{◌≡◌, ◌⊎◌, inl, inr, ℕ, ◌+◌, Bool, true, false, length, refl, ap}
use Rattle.std.specs.Prelude.{Some, None}
use Rattle.enq_base.specs.declared.condition.Condition.TheVariants.{Doubt}
use Rattle.enq_base.specs.declared.refusal.Refusal.{Refusal}
use Rattle.enq_base.specs.declared.refusal.Refusal.TheVariants as refusal
use Rattle.model_laws.proofs.ByCall.{by_stock}
use Rattle.hall_laws.proofs.keeping.Unchanged.{Becomes, step_becomes}
use Rattle.hall_model.specs.Calls.{call_of}
use Rattle.hall_model.specs.declared.command.Command.{Command}
use Rattle.hall_model.specs.declared.command.Reply.TheVariants as reply
use Rattle.hall_model.specs.Devices.{AllWell, BackupFails, DeviceOutcome, Event, FindsBad, FindsBadStore, LinkFails, MeetsWant, NotRemade, Reading, RemakeFault}
use Rattle.hall_model.specs.Devices.{StoreFails, Wanting, fault_told, found_by}
use Rattle.hall_model.specs.History.{doubted, in_flight_after, losing, noted, refused, step}
use Rattle.hall_model.specs.State.{State, doubt_in}
use Rattle.hall_model.specs.Step.{call_verdict}
use Rattle.script_runner.specs.Faults.{answer_at}
use Rattle.script_runner.specs.Replay.{doubt_of}
use Rattle.caller_laws.proofs.Entries.{last_call}

-- the doubt is as it was, or was ended by a restart
abbrev pub StaysOrEnds : State → State → Type 0
StaysOrEnds before now = (doubt_of now ≡ doubt_of before) ⊎ (doubt_of now ≡ None)

-- the server is in doubt since the call behind those of the first state, and this one was refused so
pub record IsFailed (before : State) (r : Refusal) (now : State) : Type 0 where
  pub doubt : now.condition ≡ Doubt (length before.past + 1)
  pub answer : answer_at now.past (length before.past + 1) ≡ Some (reply.Refused r)

abbrev pub LeavesDoubt : Event → State → State → Type 0
LeavesDoubt AllWell before now = StaysOrEnds before now
LeavesDoubt Wanting before now = StaysOrEnds before now
LeavesDoubt StoreFails before now = IsFailed before refusal.StoreFault now
LeavesDoubt BackupFails before now = IsFailed before refusal.BackupFault now
LeavesDoubt LinkFails before now = StaysOrEnds before now
LeavesDoubt (NotRemade fault) before now = IsFailed before (fault_told fault) now

no_failure : (s t : State) → Becomes false s.condition t.condition → StaysOrEnds s t
no_failure s t (inl same) = inl same
no_failure s t (inr (inl up)) = inr (ap doubt_in up)
no_failure s t (inr (inr h)) = absurd (let wrong : false ≡ true = h.0 in cc)

store_failed : (reading : Reading) (lost : Bool) (s : State) (n : ℕ) (c : Command)
    → IsFailed s refusal.StoreFault (step (record { event = StoreFails; reading = reading; lost = lost }) s n c).state
store_failed reading lost s n c =
    let in_flight = in_flight_after s (call_of c) (call_verdict (found_by reading s) s (call_of c)) in
    by_stock (λ call t. IsFailed s refusal.StoreFault (noted n c false (losing lost (refused (doubted t call None in_flight) refusal.StoreFault))).state) s
    (λ name parts stock. record { doubt = refl; answer = last_call s.past _ })
    (λ call. record { doubt = refl; answer = last_call s.past _ })
    (call_of c)

not_remade : (reading : Reading) (lost : Bool) (s : State) (n : ℕ) (c : Command) (fault : RemakeFault)
    → IsFailed s (fault_told fault) (step (record { event = NotRemade fault; reading = reading; lost = lost }) s n c).state
not_remade reading lost s n c MeetsWant = record { doubt = refl; answer = last_call s.past _ }
not_remade reading lost s n c (FindsBad place) = record { doubt = refl; answer = last_call s.past _ }
not_remade reading lost s n c (FindsBadStore table row) = record { doubt = refl; answer = last_call s.past _ }

pub step_leaves : (o : DeviceOutcome) (s : State) (n : ℕ) (c : Command) → LeavesDoubt o.event s (step o s n c).state
step_leaves o s n c =
    let well : DeviceOutcome = record { event = AllWell; reading = o.reading; lost = o.lost } in
    let wanting : DeviceOutcome = record { event = Wanting; reading = o.reading; lost = o.lost } in
    let unlinked : DeviceOutcome = record { event = LinkFails; reading = o.reading; lost = o.lost } in
    elim o.event as (λ e. LeavesDoubt e s (step (record { event = e; reading = o.reading; lost = o.lost }) s n c).state) [
      | AllWell ↦ no_failure s (step well s n c).state (step_becomes well s n c)
      | Wanting ↦ no_failure s (step wanting s n c).state (step_becomes wanting s n c)
      | StoreFails ↦ store_failed o.reading o.lost s n c
      | BackupFails ↦ record { doubt = refl; answer = last_call s.past _ }
      | LinkFails ↦ no_failure s (step unlinked s n c).state (step_becomes unlinked s n c)
      | NotRemade fault ↦ not_remade o.reading o.lost s n c fault
    ]
