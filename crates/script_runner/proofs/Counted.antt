-- A device's count of faults, line by line.
use Rattle.std.proofs.Common.{◌≡◌, ℕ, ◌≤◌, Bool, true, false, List, [], ◌∷◌, ◌++◌, refl, ◌∙◌, subst, arith}
use Rattle.std.specs.Prelude.{◌||◌, Option}
use Rattle.std.specs.List.{list_any}
use Rattle.enq_base.specs.Causes.{Rose}
use Rattle.enq_server.specs.Replica.{IsLater, ReplicaView}
use Rattle.hall_calls.specs.Leaving.{HasCounted}
use Rattle.hall_model.specs.declared.command.PastEntry.{PastEntry}
use Rattle.lock_entry.specs.declared.entry.Entry.{Entry}
use Rattle.script_runner.specs.Faults.{TellsNoFault}
use Rattle.hall_model.specs.Recall.{Made}
use Rattle.script_runner.specs.Counts.{CountsCalls}
use Rattle.script_runner.specs.Run.{Turn, file_fails, store_fails}

abbrev pub store_fails_in : Turn → Bool
store_fails_in t = store_fails t.outcome

abbrev pub file_fails_in : Turn → Bool
file_fails_in t = file_fails t.outcome

-- over these turns a device's count of faults has risen in each in which the device failed, and stood still in each other
abbrev pub CountsEach : (Turn → Bool) → List Turn → ℕ → ℕ → Type 0
CountsEach fails [] before now = now ≡ before
CountsEach fails (t ∷ turns) before now = (between : ℕ) × (HasCounted (fails t) before between × CountsEach fails turns between now)

pub rose_from : (a b c : ℕ) → a ≤ b → Rose b c → Rose a c
rose_from a b c h r = omega arith

pub rose_on : (a b c : ℕ) → Rose a b → b ≤ c → Rose a c
rose_on a b c r h = omega arith

-- the count over more lines
counted_on : (a b : Bool) (f g h : ℕ) → HasCounted a f g → HasCounted b g h → HasCounted (a || b) f h
counted_on true true f g h j k = (omega (arith, j.0, k.0), rose_on f g h j.1 k.0)
counted_on true false f g h j k = (omega (arith, j.0, k), rose_on f g h j.1 (omega (arith, k)))
counted_on false true f g h j k = (omega (arith, j, k.0), rose_from f g h (omega (arith, j)) k.1)
counted_on false false f g h j k = k ∙ j

-- where the device failed in no line its count stands still
pub all_counted : (fails : Turn → Bool) (turns : List Turn) (f g : ℕ) → CountsEach fails turns f g → HasCounted (list_any fails turns) f g
all_counted fails [] f g h = h
all_counted fails (t ∷ ts) f g h = counted_on (fails t) (list_any fails ts) f h.0 g h.1.0 (all_counted fails ts h.0 g h.1.1)

pub counted_more : (fails : Turn → Bool) (turns : List Turn) (turn : Turn) (f g h : ℕ) → CountsEach fails turns f g → HasCounted (fails turn) g h
    → CountsEach fails (turns ++ turn ∷ []) f h
counted_more fails [] turn f g h none k = (h, (subst (λ n. HasCounted (fails turn) n h) none k, refl))
counted_more fails (t ∷ ts) turn f g h each k = (each.0, (each.1.0, counted_more fails ts turn each.0 g h each.1.1 k))

-- a device's count never falls
counted_later : (fails : Bool) (f g : ℕ) → HasCounted fails f g → f ≤ g
counted_later true f g h = h.0
counted_later false f g h = omega (arith, h)

later_from : (f g h : ℕ) → f ≤ g → g ≤ h → f ≤ h
later_from f g h first last = omega (arith, first, last)

pub calls_later : (fails : Made → Bool) (made : List Made) (f g : ℕ) → CountsCalls fails made f g → f ≤ g
calls_later fails [] f g h = counted_later false f g h
calls_later fails (m ∷ ms) f g h = later_from f h.0 g (counted_later (fails m) f h.0 h.1.0) (calls_later fails ms h.0 g h.1.1)

-- ---- the link

-- a link that nothing was asked of
pub same_link : {L : Type 0} (applied : L → Option (List Entry)) (faults refusals : L → ℕ) (f : ReplicaView L) → IsLater applied faults refusals f f
same_link applied faults refusals f = record { faults_later = omega arith; refusals_later = omega arith; told = refl }

-- one stretch behind another
pub link_on : {L : Type 0} (applied : L → Option (List Entry)) (faults refusals : L → ℕ) (a b c : ReplicaView L) → IsLater applied faults refusals a b
    → IsLater applied faults refusals b c → IsLater applied faults refusals a c
link_on applied faults refusals a b c h k = record {
  faults_later = omega (arith, h.faults_later, k.faults_later);
  refusals_later = omega (arith, h.refusals_later, k.refusals_later);
  told = k.told ∙ h.told;
}

pub tells_on : (a b c : ℕ) (old mid new : List PastEntry) → a ≤ b → b ≤ c → TellsNoFault a b old mid → TellsNoFault b c mid new → TellsNoFault a c old new
tells_on a b c old mid new first last h k quiet none = k (λ rose. quiet (rose_from a b c first rose)) (h (λ rose. quiet (rose_on a b c rose last)) none)
