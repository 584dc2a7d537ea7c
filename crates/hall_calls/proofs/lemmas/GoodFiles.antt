-- Where the devices tell what they have, no restart finds one that isn't good.
use Rattle.std.proofs.Common.{◌≡◌, inl, inr, ℕ, Bool, true, false, List, [], ◌∷◌, ◌++◌, Some, refl, sym, ap, ◌∙◌, subst}
use Rattle.std.specs.List.{All, AllByRecursion, slice_get}
use Rattle.std.proofs.lemmas.List.Elements.{recursion_from_All}
use Rattle.enq_base.specs.declared.condition.Bad.TheVariants as bad
use Rattle.enq_base.specs.declared.condition.BackupBad.{BackupBad}
use Rattle.enq_base.specs.declared.condition.BackupBad.TheVariants as backup
use Rattle.enq_base.specs.declared.owner.UnitKey.{UnitKey}
use Rattle.enq_base.specs.declared.refusal.Refusal.{Refusal}
use Rattle.enq_base.specs.declared.refusal.Refusal.TheVariants as refusal
use Rattle.backup_file.proofs.lemmas.Meaning.{both_once, both_unbroken}
use Rattle.backup_file.specs.File.{Stands}
use Rattle.backup_file.specs.declared.handed.Handed.{Handed}
use Rattle.enq_server.specs.Faults.{IsOpenFault}
use Rattle.enq_server.specs.Recovery.{Agrees, IsFirstDifference, IsMissing, entries_of, joined}
use Rattle.enq_server.specs.declared.fault.OpenFault.{OpenFault}
use Rattle.enq_server.specs.declared.fault.OpenFault.TheVariants as opening
use Rattle.lock_entry.specs.Sound.{IsSound}
use Rattle.lock_entry.specs.declared.entry.Entry.{Entry}
use Rattle.lock_entry.specs.declared.entry.UnitLocks.{UnitLocks}
use Rattle.hall_model.specs.Acts.{IsAct}
use Rattle.hall_model.specs.Calls.{Call, call_of, restarts}
use Rattle.hall_model.specs.Devices.{AllWell, BackupFails, LinkFails, MayHappen, NotRemade, StoreFails, Wanting, found_by}
use Rattle.hall_model.specs.History.{IsGiven, Served, judged, served}
use Rattle.hall_calls.specs.Remaking.{remake_refusal}
use Rattle.hall_model.specs.State.{State}
use Rattle.hall_model.specs.Step.{Found, call_verdict, found_in, own_verdict, unavailable, unless_refused}
use Rattle.hall_model.specs.Unsound.{is_unsound_file, is_unsound_store}
use Rattle.hall_model.specs.declared.command.Command.{Command}
use Rattle.hall_model.specs.declared.command.Reply.{Reply}
use Rattle.hall_model.specs.declared.command.Reply.TheVariants as reply
use Rattle.hall_calls.proofs.lemmas.Replies.{is_fault_reply, verdict_answered}

-- ---- a backup file that has the locks of these units

agrees_at : (lists : List Handed) (front : List UnitLocks) (found : UnitLocks) (rest : List UnitLocks) → AllByRecursion (Agrees lists) (front ++ found ∷ rest)
    → Agrees lists found
agrees_at lists [] found rest h = h.0
agrees_at lists (u ∷ front) found rest h = agrees_at lists front found rest h.1

no_difference : (xs ys : List Entry) (at : ℕ) → xs ≡ ys → IsFirstDifference xs ys at → ⊥
no_difference xs ys at same d = d.differ (ap (λ zs. slice_get zs d.before) same)

none_missing : (lists : List Handed) (units : List UnitLocks) (unit : UnitKey) (at : ℕ) → AllByRecursion (Agrees lists) units → IsMissing lists units unit at
    → ⊥
none_missing lists units unit at agree m =
    let own : Agrees lists m.found = agrees_at lists m.front m.found m.rest (subst (AllByRecursion (Agrees lists)) m.whole agree) in
    no_difference m.found.entries (entries_of lists unit) at (own ∙ ap (entries_of lists) m.named) m.difference

-- no place of it is bad
pub no_bad_place : (bytes : List ℕ) (units : List UnitLocks) (lists : List Handed) (place : BackupBad) → Stands bytes lists → All (Agrees lists) units
    → IsSound (joined units) → IsOpenFault bytes units (opening.Bad place) → ⊥
no_bad_place bytes units lists (backup.Bytes at) stands agree sound why = both_unbroken bytes lists at stands why
no_bad_place bytes units lists (backup.Clash first second) stands agree sound why = why.2.unsound sound
no_bad_place bytes units lists (backup.Missing unit at) stands agree sound why =
    let one : why.0 ≡ lists = both_once bytes why.0 lists why.1 stands in
    none_missing lists units unit at (recursion_from_All (Agrees lists) units agree) (subst (λ l. IsMissing l units unit at) one why.2)

-- why no lock server is made anew, where what is read of the file stands for lists with which the units agree
pub ready_sound : (bytes : List ℕ) (units : List UnitLocks) (lists : List Handed) (fault : OpenFault) (r : Refusal)
    → r ≡ remake_refusal fault → Stands bytes lists → All (Agrees lists) units → IsSound (joined units) → IsOpenFault bytes units fault
    → is_unsound_file (reply.Refused r) ≡ false
ready_sound bytes units lists opening.Failed r is stands agree sound why = ap (λ x. is_unsound_file (reply.Refused x)) is
ready_sound bytes units lists opening.NoMemory r is stands agree sound why = ap (λ x. is_unsound_file (reply.Refused x)) is
ready_sound bytes units lists (opening.Bad place) r is stands agree sound why = absurd (no_bad_place bytes units lists place stands agree sound why)

-- ---- other calls

-- a store or a backup file was read and isn't good
abbrev pub is_unsound : Reply → Bool
is_unsound (reply.Refused (refusal.Unsound (bad.Store table row))) = true
is_unsound (reply.Refused (refusal.Unsound (bad.Backup place))) = true
is_unsound r = false

pub file_sound : (r : Reply) → is_unsound r ≡ false → is_unsound_file r ≡ false
file_sound (reply.Refused (refusal.Unsound (bad.Store table row))) own = absurd (cc)
file_sound (reply.Refused (refusal.Unsound (bad.Backup place))) own = absurd (cc)
file_sound _ own = refl

pub store_sound : (r : Reply) → is_unsound r ≡ false → is_unsound_store r ≡ false
store_sound (reply.Refused (refusal.Unsound (bad.Store table row))) own = absurd (cc)
store_sound (reply.Refused (refusal.Unsound (bad.Backup place))) own = absurd (cc)
store_sound _ own = refl

plain_sound : (r : Reply) → is_fault_reply r ≡ false → is_unsound r ≡ false
plain_sound (reply.Refused (refusal.Unsound (bad.Store table row))) own = absurd (cc)
plain_sound (reply.Refused (refusal.Unsound (bad.Backup place))) own = absurd (cc)
plain_sound _ own = refl

-- only a restart may find a device that isn't good
pub others_sound : (s : State) (c : Command) (after : State) (r : Reply) → IsAct s c after r → restarts (call_of c) ≡ false → is_unsound r ≡ false
others_sound s c after r act off =
    let o = act.outcome in
    let told : (served o s c).reply ≡ r = ap (λ (x : Served). x.reply) act.same in
    elim o.event as (λ e. MayHappen e s (call_of c) (call_verdict (found_by o.reading s) s (call_of c))
    → (served (record { event = e; reading = o.reading; lost = o.lost }) s c).reply ≡ r → is_unsound r ≡ false) [
      | AllWell ↦ λ may is. subst (λ x. is_unsound x ≡ false) is (plain_sound _ (verdict_answered (found_by o.reading s) s (call_of c)).own)
      | Wanting ↦ λ may is. sym (ap is_unsound is)
      | StoreFails ↦ λ may is. sym (ap is_unsound is)
      | BackupFails ↦ λ may is. sym (ap is_unsound is)
      | LinkFails ↦ λ may is. sym (ap is_unsound is)
      | NotRemade fault ↦ λ may is. let odd : false ≡ true = sym off ∙ may.1 in absurd (cc)
    ] act.possible.event told

barred_sound : (found : Found) (s : State) (call : Call) (r : Refusal) → unavailable s call ≡ Some r
    → is_fault_reply (judged s (call_verdict found s call)).reply ≡ false → is_unsound (reply.Refused r) ≡ false
unfolding call_verdict
barred_sound found s call r is own =
    plain_sound (reply.Refused r) (subst (λ o. is_fault_reply (judged s (unless_refused o (own_verdict found s call))).reply ≡ false) is own)

-- a call that is barred finds none
pub refused_sound : (s : State) (call : Call) (r : Refusal) → unavailable s call ≡ Some r → is_unsound (reply.Refused r) ≡ false
refused_sound s call r is = barred_sound (found_in s) s call r is (verdict_answered (found_in s) s call).own

-- a text that can't be told twice tells of none either
pub given_sound : (tells : Reply → Bool) (made given : Reply) → tells (reply.Refused refusal.NoMemory) ≡ false → IsGiven made given → tells made ≡ false
    → tells given ≡ false
given_sound tells made given plain (inl same) sound = ap tells same ∙ sound
given_sound tells made given plain (inr h) sound = ap tells h.1 ∙ plain
