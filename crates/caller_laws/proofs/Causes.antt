-- Calls behind one another: a doubt at their end is of one of them, and the count of the device that its answer tells of has risen.
use Rattle.std.proofs.Common.{◌≡◌, inl, inr, ℕ, ◌+◌, ◌≤◌, Bool, true, false, List, [], ◌∷◌, length, refl, sym, ap, ◌∙◌, subst, arith}
use Rattle.std.specs.Prelude.{IsTrue, Option, Some, None}
use Rattle.std.specs.Option.{option_map_or}
use Rattle.enq_base.specs.Causes.{Rose}
use Rattle.enq_base.specs.declared.refusal.Refusal.{Refusal}
use Rattle.enq_base.specs.declared.refusal.Refusal.TheVariants as refusal
use Rattle.hall_laws.proofs.keeping.Unchanged.{step_begins}
use Rattle.hall_calls.specs.Leaving.{HasCounted}
use Rattle.hall_model.specs.declared.command.Reply.{Reply}
use Rattle.hall_model.specs.declared.command.Reply.TheVariants as reply
use Rattle.hall_model.specs.Devices.{AllWell, BackupFails, Event, FindsBad, FindsBadStore, LinkFails, MeetsWant, NotRemade, RemakeFault, StoreFails, Wanting}
use Rattle.hall_model.specs.Devices.{fault_told, is_file_failure, is_store_failure}
use Rattle.hall_model.specs.Recall.{HasBegun, Made, recalled, state_after}
use Rattle.hall_model.specs.State.{State, doubt_in}
use Rattle.script_runner.specs.Faults.{answer_at, tells_other}
use Rattle.script_runner.specs.Replay.{IsDoubted, doubt_of}
use Rattle.script_runner.specs.Counts.{CountsCalls}
use Rattle.turn_desks.specs.Led.{Counts, IsLed}
use Rattle.caller_laws.proofs.Entries.{answered_again}
use Rattle.caller_laws.proofs.Failing.{IsFailed, LeavesDoubt, StaysOrEnds, step_leaves}

-- ---- counts

rose_from : (a b c : ℕ) → a ≤ b → Rose b c → Rose a c
rose_from a b c h r = omega arith

rose_on : (a b c : ℕ) → Rose a b → b ≤ c → Rose a c
rose_on a b c r h = omega arith

-- a device's count never falls
counted_later : (fails : Bool) (f g : ℕ) → HasCounted fails f g → f ≤ g
counted_later true f g h = h.0
counted_later false f g h = omega (arith, h)

rose_where : (fails : Bool) (f g : ℕ) → IsTrue fails → HasCounted fails f g → Rose f g
rose_where true f g on h = h.1
rose_where false f g on h = absurd (cc)

-- ---- doubts

none_is_some : (k : ℕ) → ◌≡◌ {A = Option ℕ} None (Some k) → ⊥
none_is_some k e = cc

same_number : (a b : ℕ) → ◌≡◌ {A = Option ℕ} (Some a) (Some b) → a ≡ b
same_number a b e = cc

same_reply : (a b : Reply) → Some a ≡ Some b → a ≡ b
same_reply a b e = cc

-- the call of this number was answered, and where its answer tells of the device the count of that one has risen
record IsCaused (Tells : Reply → Type 0) (before now : ℕ) (s : State) (k : ℕ) : Type 0 where
  answer : Reply
  answered : answer_at s.past k ≡ Some answer
  rose : Tells answer → Rose before now

abbrev HasCausedDoubt : (Reply → Type 0) → (before now : ℕ) → State → Type 0
HasCausedDoubt Tells before now s = (k : ℕ) → doubt_of s ≡ Some k → IsCaused Tells before now s k

-- a call leaves the doubt as it was, or ends it
doubt_stays : (Tells : Reply → Type 0) (before f g : ℕ) (s t : State) → StaysOrEnds s t → HasBegun s.past t.past → f ≤ g
    → HasCausedDoubt Tells before f s → HasCausedDoubt Tells before g t
doubt_stays Tells before f g s t (inl same) begun later h k doubt =
    let was : IsCaused Tells before f s k = h k (sym same ∙ doubt) in
    record {
      answer = was.answer;
      answered = answered_again s.past t.past k was.answer begun was.answered;
      rose = λ tells. rose_on before f g (was.rose tells) later;
    }
doubt_stays Tells before f g s t (inr ended) begun later h k doubt = absurd (none_is_some k (sym ended ∙ doubt))

-- or brings it
doubt_comes : (Tells : Reply → Type 0) (fails : Bool) (before f g : ℕ) (s t : State) (r : Refusal) → IsFailed s r t → (Tells (reply.Refused r) → IsTrue fails)
    → before ≤ f → HasCounted fails f g → HasCausedDoubt Tells before g t
doubt_comes Tells fails before f g s t r h failing first counted k doubt =
    let number : length s.past + 1 ≡ k = same_number (length s.past + 1) k (sym (ap doubt_in h.doubt) ∙ doubt) in
    record {
      answer = reply.Refused r;
      answered = subst (λ n. answer_at t.past n ≡ Some (reply.Refused r)) number h.answer;
      rose = λ tells. rose_from before f g first (rose_where fails f g (failing tells) counted);
    }

-- ---- a device that fails in each call that brings a doubt of which the answer tells so

record IsTold (fails : Event → Bool) (Tells : Reply → Type 0) : Type 0 where
  store : Tells (reply.Refused refusal.StoreFault) → IsTrue (fails StoreFails)
  file : Tells (reply.Refused refusal.BackupFault) → IsTrue (fails BackupFails)
  remade : (fault : RemakeFault) → Tells (reply.Refused (fault_told fault)) → IsTrue (fails (NotRemade fault))

module _ (fails : Event → Bool) (Tells : Reply → Type 0) (told : IsTold fails Tells) (before : ℕ) where
  call_caused : (e : Event) (f g : ℕ) (s t : State) → LeavesDoubt e s t → HasBegun s.past t.past → before ≤ f → HasCounted (fails e) f g
      → HasCausedDoubt Tells before f s → HasCausedDoubt Tells before g t
  call_caused AllWell f g s t leaves begun first counted h = doubt_stays Tells before f g s t leaves begun (counted_later (fails AllWell) f g counted) h
  call_caused Wanting f g s t leaves begun first counted h = doubt_stays Tells before f g s t leaves begun (counted_later (fails Wanting) f g counted) h
  call_caused StoreFails f g s t leaves begun first counted h =
      doubt_comes Tells (fails StoreFails) before f g s t refusal.StoreFault leaves told.store first counted
  call_caused BackupFails f g s t leaves begun first counted h =
      doubt_comes Tells (fails BackupFails) before f g s t refusal.BackupFault leaves told.file first counted
  call_caused LinkFails f g s t leaves begun first counted h = doubt_stays Tells before f g s t leaves begun (counted_later (fails LinkFails) f g counted) h
  call_caused (NotRemade fault) f g s t leaves begun first counted h =
      doubt_comes Tells (fails (NotRemade fault)) before f g s t (fault_told fault) leaves (told.remade fault) first counted

  calls_caused : (s : State) (made : List Made) (f g : ℕ) → before ≤ f → CountsCalls (λ m. fails m.outcome.event) made f g
      → HasCausedDoubt Tells before f s → HasCausedDoubt Tells before g (state_after s made)
  calls_caused s [] f g first counts h = subst (λ n. HasCausedDoubt Tells before n s) (sym counts) h
  calls_caused s (m ∷ ms) f g first counts h =
      let later : f ≤ counts.0 = counted_later (fails m.outcome.event) f counts.0 counts.1.0 in
      calls_caused (recalled s m) ms counts.0 g (omega (arith, first, later)) counts.1.1
      (call_caused m.outcome.event f counts.0 s (recalled s m) (step_leaves m.outcome s m.call.line m.call.command)
      (step_begins m.outcome s m.call.line m.call.command) first counts.1.0 h)

-- a server that wasn't in doubt
no_doubt : (Tells : Reply → Type 0) (count : ℕ) (s : State) → doubt_of s ≡ None → HasCausedDoubt Tells count count s
no_doubt Tells count s well k doubt = absurd (none_is_some k (sym well ∙ doubt))

-- ---- the store

never : true ≡ false → ⊥
never e = cc

abbrev TellsStore : Reply → Type 0
TellsStore r = tells_other r ≡ false

remade_is_other : (fault : RemakeFault) → TellsStore (reply.Refused (fault_told fault)) → ⊥
remade_is_other MeetsWant e = never e
remade_is_other (FindsBad place) e = never e
remade_is_other (FindsBadStore table row) e = never e

store_told : IsTold is_store_failure TellsStore
store_told = record { store = λ e. refl; file = λ e. absurd (never e); remade = λ fault e. absurd (remade_is_other fault e) }

pub store_rose : (told tells linked : Bool) (first s : State) (before now : Counts) (k : ℕ) → IsLed told tells linked first before s now → doubt_of first ≡ None
    → doubt_of s ≡ Some k → option_map_or tells_other (answer_at s.past k) false ≡ false → Rose before.store now.store
store_rose told tells linked first s before now k led well doubt other =
    let at_end : HasCausedDoubt TellsStore before.store now.store (state_after first led.made) =
    calls_caused is_store_failure TellsStore store_told before.store first led.made before.store now.store (omega arith) led.store
    (no_doubt TellsStore before.store first well) in
    let cause : IsCaused TellsStore before.store now.store s k =
    subst (HasCausedDoubt TellsStore before.store now.store) (sym led.state) at_end k doubt in
    cause.rose (sym (ap (λ o. option_map_or tells_other o false) cause.answered) ∙ other)

-- ---- the disk of the backup file

abbrev TellsFile : Reply → Type 0
TellsFile r = r ≡ reply.Refused refusal.BackupFault

store_is_other : TellsFile (reply.Refused refusal.StoreFault) → ⊥
store_is_other e = cc

remade_is_no_file : (fault : RemakeFault) → TellsFile (reply.Refused (fault_told fault)) → ⊥
remade_is_no_file MeetsWant e = cc
remade_is_no_file (FindsBad place) e = cc
remade_is_no_file (FindsBadStore table row) e = cc

file_told : IsTold is_file_failure TellsFile
file_told = record { store = λ e. absurd (store_is_other e); file = λ e. refl; remade = λ fault e. absurd (remade_is_no_file fault e) }

pub file_rose : (told tells linked : Bool) (first s : State) (before now : Counts) (k : ℕ) → IsLed told tells linked first before s now → doubt_of first ≡ None
    → IsDoubted s k refusal.BackupFault → Rose before.file now.file
file_rose told tells linked first s before now k led well doubted =
    let at_end : HasCausedDoubt TellsFile before.file now.file (state_after first led.made) =
    calls_caused is_file_failure TellsFile file_told before.file first led.made before.file now.file (omega arith) led.file
    (no_doubt TellsFile before.file first well) in
    let cause : IsCaused TellsFile before.file now.file s k =
    subst (HasCausedDoubt TellsFile before.file now.file) (sym led.state) at_end k doubted.0 in
    cause.rose (same_reply cause.answer (reply.Refused refusal.BackupFault) (sym cause.answered ∙ doubted.1))
