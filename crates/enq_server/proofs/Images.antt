-- What a crash leaves of the lists in a file that is opened.
use Rattle.std.proofs.Common.{ℕ, List, [], sym, subst}
use Rattle.bk_disk.specs.Disk.{Follows}
use Rattle.lock_entry.specs.declared.entry.UnitLocks.{UnitLocks}
use Rattle.backup_file.specs.File.{IsBad, Keeps, Stands}
use Rattle.backup_file.specs.declared.fault.BackFault.{BackFault}
use Rattle.backup_file.specs.declared.fault.BackFault.TheVariants as back
use Rattle.backup_file.specs.declared.handed.Handed.{Handed}
use Rattle.backup_file.proofs.lemmas.Meaning.{both_once, both_unbroken}
use Rattle.enq_server.specs.declared.fault.OpenFault.TheVariants as opening
use Rattle.enq_base.specs.declared.condition.BackupBad.TheVariants as bad
use Rattle.enq_server.specs.declared.fault.OpenFault.{OpenFault}
use Rattle.backup_file.specs.Opening.{OnBad}
use Rattle.enq_server.specs.Faults.{IsOpenFault, IsRecoveryFault, Leaves, opening_fault}
use Rattle.enq_server.specs.Recovery.{FreesOthers, StandsLess, lists_among}
use Rattle.enq_server.proofs.Others.{left_all, left_none, units_of}

less : (units : List UnitLocks) (old new : List ℕ) → Keeps old new → FreesOthers units old new
less units old new h = record {
  lists = λ l stands. record { gone = []; stands = subst (Stands new) (sym (left_none units l)) (h.states l stands) };
  bytes = h.bytes;
}

-- where all that was stood for still is
pub opening_leaves : (units : List UnitLocks) (fault : BackFault) (old new : List ℕ → Type 0) → Follows Keeps old new
    → Follows (Leaves units (opening_fault fault)) old new
opening_leaves units back.Failed old new h = λ c may. let at = h c may in (at.0, at.1, less units at.0 c at.2)
opening_leaves units (back.Bad at) old new h = h
opening_leaves units back.NoMemory old new h = λ c may. let at = h c may in (at.0, at.1, less units at.0 c at.2)

-- whatever the fault, where all lists are kept
pub keeps_leaves : (units : List UnitLocks) (fault : OpenFault) (old new : List ℕ → Type 0) → Follows Keeps old new → Follows (Leaves units fault) old new
keeps_leaves units opening.Failed old new h = λ c may. let at = h c may in (at.0, at.1, less units at.0 c at.2)
keeps_leaves units (opening.Bad b) old new h = h
keeps_leaves units opening.NoMemory old new h = λ c may. let at = h c may in (at.0, at.1, less units at.0 c at.2)

-- why a file is not opened
pub unread_fault : (bytes : List ℕ) (units : List UnitLocks) (fault : BackFault) (P : Type 0) → OnBad (λ at. IsBad bytes at × P) fault
    → IsOpenFault bytes units (opening_fault fault)
unread_fault bytes units back.Failed P h = tt
unread_fault bytes units (back.Bad at) P h = h.0
unread_fault bytes units back.NoMemory P h = tt

-- why the lists of a file give no table
pub recovery_fault : (bytes : List ℕ) (l : List Handed) (units : List UnitLocks) (fault : OpenFault) → Stands bytes l → IsRecoveryFault l units fault
    → IsOpenFault bytes units fault
recovery_fault bytes l units opening.Failed stood h = absurd h
recovery_fault bytes l units (opening.Bad (bad.Bytes at)) stood h = absurd h
recovery_fault bytes l units (opening.Bad (bad.Missing unit at)) stood h = (l, stood, h)
recovery_fault bytes l units (opening.Bad (bad.Clash first second)) stood h = (l, stood, h)
recovery_fault bytes l units opening.NoMemory stood h = tt

-- where the bytes that were read stood for lists, of which some of other units are gone
pub some_left : (units : List UnitLocks) (bytes : List ℕ) (found : List Handed) (old new : List ℕ → Type 0) → Stands bytes found → old bytes
    → ((c : List ℕ) → new c → StandsLess units found c) → Follows (FreesOthers units) old new
some_left units bytes found old new stood there h = λ c may. (
  bytes,
  there,
  record {
    lists = λ l stands. subst (λ m. StandsLess units m c) (both_once bytes found l stood stands) (h c may);
    bytes = λ at broken. absurd (both_unbroken bytes found at stood broken);
  },
)

-- where all lists of other units are gone
pub all_left : (units : List UnitLocks) (bytes : List ℕ) (found : List Handed) (old new : List ℕ → Type 0) → Stands bytes found → old bytes
    → ((c : List ℕ) → new c → Stands c (lists_among units found)) → Follows (FreesOthers units) old new
all_left units bytes found old new stood there h = some_left units bytes found old new stood there (λ c may.
    record { gone = units_of found; stands = subst (Stands c) (sym (left_all units found)) (h c may) })
