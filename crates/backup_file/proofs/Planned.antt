-- How the log in force of a file is written anew.
use Rattle.std.proofs.Common.{◌≡◌, ℕ, ◌+◌, ◌<◌, ◌≤◌, ◌^◌, Bool, true, false, List, [], ◌∷◌, ◌++◌, length, Option, Some, None, Result, Ok, Err, sym, ap, subst, arith, inl, inr, length-append}
use Rattle.std.specs.List.{All}
use Rattle.std.specs.Prelude.{IfOk, IfSome}
use Rattle.bk_disk.specs.Disk.{AddsNone, Only}
use Rattle.gate_log.specs.Gates.{IsAtRest}
use Rattle.gate_log.specs.Logs as logs
use Rattle.gate_log.specs.Causes.{HasLogCause}
use Rattle.gate_log.specs.Causes as causes
use Rattle.gate_log.specs.declared.fault.LogFault.{LogFault}
use Rattle.gate_log.specs.declared.fault.LogFault.TheVariants as log
use Rattle.backup_file.specs.Backup.{HasWriteCause, UnlessFailed}
use Rattle.backup_file.specs.Compacting.{IsRewritten, next_place}
use Rattle.backup_file.specs.Opening.{write_fault_of}
use Rattle.backup_file.specs.declared.fault.WriteFault.{WriteFault}
use Rattle.backup_file.specs.declared.fault.WriteFault.TheVariants.{Failed, NoMemory}
use Rattle.backup_file.specs.declared.handed.Handed.{Handed}
use Rattle.backup_file.specs.declared.places.Place.{Place}
use Rattle.backup_file.specs.Handing.{IsList}
use Rattle.backup_file.specs.Migrating.{IsOpenedAs}
use Rattle.backup_file.specs.Plans.{IsCompacted, IsDone, IsPlan, OnNoMemory}
use Rattle.backup_file.specs.declared.plan.Plan.{Plan}
use Rattle.backup_file.specs.ReadLogs.{IsReadBehind}
use Rattle.backup_file.specs.Slots.{slot_in}
use Rattle.backup_file.specs.File.{IsCompact, IsShort, IsVersion2, Stands, compact, log_grammar}
use Rattle.backup_file.proofs.Compacts.{compact_front, led_apart}
use Rattle.backup_file.proofs.lemmas.Generations.{worn_in_force}
use Rattle.backup_file.proofs.lemmas.Meaning.{both_once, head_size, slots_long, version2_slots}

module _ (p : Place) (bytes : List ℕ) (gate : ℕ) (is_compact : Bool) (l : List Handed) (is : IsReadBehind p bytes gate is_compact l) where
  abbrev second : IsVersion2 bytes l
  second = record { place = p; front = is.front; is_front = is.is_front; shut = is.shut }

  pub done_compact : is_compact ≡ true → (m : List Handed) → IsVersion2 bytes m → IsDone bytes m
  done_compact told m also =
      subst (λ (k : List Handed). IsDone bytes k) (both_once bytes l m (inr second) (inr also)) (inl (record { version = second; same = is.compact told }))

  pub done_last : 2 ^ 63 ≤ (slot_in p.slots p.which).generation → (m : List Handed) → IsVersion2 bytes m → IsDone bytes m
  done_last worn m also = inr
      (record {
        gate = p.gate;
        slots = p.slots;
        has = version2_slots bytes l second;
        which = p.which;
        force = is.is_front.force;
        worn = worn;
      })

  pub not_done : is_compact ≡ false → (slot_in p.slots p.which).generation < 2 ^ 63 → IsDone bytes l → ⊥
  not_done off young (inl compacted) = is.loose off compacted
  not_done off young (inr worn) = let old = worn_in_force bytes l second worn in omega (arith, old, young)

  pub compact_leads : All IsList l → logs.IsFront log_grammar (compact l) l
  compact_leads all =
      let f = is.is_front.is_log in compact_front l (led_apart [] 255 f.records l f.leads) all

  pub slots_low : p.gate + 40 < length bytes
  slots_low =
      let f = is.is_front in
      omega (
        arith,
        ap (λ (b : List ℕ). length b) is.shut.whole,
        length-append is.front (is.shut.byte ∷ is.shut.rest),
        ap (λ (b : List ℕ). length b) f.parts,
        length-append f.head (f.gap ++ f.log),
        head_size p.gate p.slots f.head f.slotted,
      )

  pub gate_low : gate < length bytes
  gate_low = omega (arith, ap (λ (b : List ℕ). length b) is.shut.whole, length-append is.front (is.shut.byte ∷ is.shut.rest), is.place)

-- a file of version 2 is longer than 9 bytes
pub never_short : (bytes : List ℕ) (l : List Handed) → IsShort bytes → IsVersion2 bytes l → ⊥
never_short bytes l short second =
    let long = slots_long bytes second.place.gate second.place.slots (version2_slots bytes l second) in absurd (omega (arith, short, long))

-- ---- what was planned is done

module _ (plan : Plan) (bytes : List ℕ) (images : List ℕ → Type 0) (is : IsPlan bytes plan) (only : Only bytes images) where
  pub plan_at_rest : IsAtRest bytes images plan.gate is.front
  plan_at_rest =
      record {
        byte = is.shut.byte;
        more = is.shut.rest;
        whole = is.shut.whole;
        closed = is.shut.closed;
        place = is.place;
        fits =
            omega (arith, is.fits);
        durable = only;
      }

  pub opened_rewritten : (end : ℕ) (new : List ℕ) (left : List ℕ → Type 0) → end ≡ plan.at + length (compact is.lists)
      → IsRewritten (next_place plan.place plan.at) (plan.at + length (compact is.lists)) is.lists new left → IsOpenedAs new left end true is.lists
  opened_rewritten end new left ends r = record {
    place = next_place plan.place plan.at;
    front = r.front;
    is_front = r.is_front;
    at_rest = subst (λ n. IsAtRest new left n r.front) (sym ends) r.at_rest;
    same = λ told. r.same;
  }

  pub planned_lists : (l : List Handed) → IsVersion2 bytes l → is.lists ≡ l
  planned_lists l second =
      both_once bytes is.lists l (inr (record { place = plan.place; front = is.front; is_front = is.is_front; shut = is.shut })) (inr second)

pub still_stands : (bytes : List ℕ) (images : List ℕ → Type 0) (l : List Handed) → IsVersion2 bytes l → Only bytes images → (now : List ℕ → Type 0)
    → AddsNone images now → (c : List ℕ) → now c → Stands c l
still_stands bytes images l second only now fewer c left = subst (λ b. Stands b l) (sym (only c (fewer c left))) (inr second)

-- ---- where the file was read, and the answer is a fault

module _ {S : Type 0} (T : Type 0) (q : Result S LogFault) (fault : LogFault) (e : WriteFault) (is : q ≡ Err fault) (told : e ≡ write_fault_of fault) where
  abbrev answered : WriteFault → Result T WriteFault
  answered f = Err f

  as_read : (f : LogFault) → q ≡ Err f → (P : Type 0) → causes.UnlessFailed q P → UnlessFailed (answered (write_fault_of f)) P
  as_read log.Failed was P h = tt
  as_read log.NoMemory was P h = subst (λ (k : Result S LogFault). causes.UnlessFailed k P) was h

  pub same_read : (P : Type 0) → causes.UnlessFailed q P → UnlessFailed (answered e) P
  same_read P h = subst (λ (f : WriteFault). UnlessFailed (answered f) P) (sym told) (as_read fault is P h)

  failed_read : (f : LogFault) → q ≡ Err f → answered (write_fault_of f) ≡ Err Failed → q ≡ Err log.Failed
  failed_read log.Failed was k = was
  failed_read log.NoMemory was k = cc

  pub cause_read : (before now : ℕ) → HasLogCause before now q → HasWriteCause before now (answered e)
  cause_read before now cause =
      subst (λ f. HasWriteCause before now (answered f)) (sym told)
      (record {
        later = cause.later;
        failed = λ k. cause.failed (failed_read fault is k);
        quiet = as_read fault is (now ≡ before) cause.quiet;
      })

-- the same fault of another call
module _ {S : Type 0} (T : Type 0) (q : Result S WriteFault) (fault : WriteFault) (is : q ≡ Err fault) where
  abbrev again : Result T WriteFault
  again = Err fault

  kept_by : (f : WriteFault) → q ≡ Err f → (P : Type 0) → UnlessFailed q P → UnlessFailed {T = T} (Err f) P
  kept_by Failed was P h = tt
  kept_by NoMemory was P h = subst (λ (k : Result S WriteFault). UnlessFailed k P) was h

  without : (f : WriteFault) → q ≡ Err f → (P Q : Type 0) → UnlessFailed q P → Q → OnNoMemory {T = T} (Err f) (P × Q)
  without Failed was P Q h k = tt
  without NoMemory was P Q h k = (subst (λ (r : Result S WriteFault). UnlessFailed r P) was h, k)

  pub no_memory_again : (P Q : Type 0) → UnlessFailed q P → Q → OnNoMemory again (P × Q)
  no_memory_again P Q h k = without fault is P Q h k

  failed_before : (f : WriteFault) → q ≡ Err f → ◌≡◌ {A = Result T WriteFault} (Err f) (Err Failed) → q ≡ Err Failed
  failed_before Failed was k = was
  failed_before NoMemory was k = cc

  pub cause_again : (before now : ℕ) → HasWriteCause before now q → HasWriteCause before now again
  cause_again before now cause = record {
    later = cause.later;
    failed = λ k. cause.failed (failed_before fault is k);
    quiet = kept_by fault is (now ≡ before) cause.quiet;
  }

-- a plan is read once
pub done_planned : (before mid new : List ℕ) (left : List ℕ → Type 0) (l m : List Handed) (r : Option ℕ) → mid ≡ before → l ≡ m
    → IsCompacted mid new left l r → IsCompacted before new left m r
done_planned before mid new left l m r same lists is =
    subst (λ (k : List Handed). IsCompacted before new left k r) lists (subst (λ b. IsCompacted b new left l r) same is)

-- ---- whether something is to be done

pub if_some : {E X : Type 0} (r : Result (Option X) E) (P : Type 0) → P → IfOk r (λ o. IfSome o (λ _. P))
if_some (Ok None) P p = tt
if_some (Ok (Some x)) P p = p
if_some (Err e) P p = tt

pub plan_version : (plan : Plan) (bytes : List ℕ) (is : IsPlan bytes plan) → IsVersion2 bytes is.lists
plan_version plan bytes is = record { place = plan.place; front = is.front; is_front = is.is_front; shut = is.shut }

-- it is told of the lists for which the bytes stand
pub same_done : (bytes : List ℕ) (l m : List Handed) → IsVersion2 bytes l → IsDone bytes m → IsDone bytes l
same_done bytes l m second (inl is) =
    inl (subst (λ (k : List Handed). IsCompact bytes k) (both_once bytes m l (inr is.version) (inr second)) is)
same_done bytes l m second (inr worn) = inr worn
