-- What a call does to what follows the table.
use Rattle.std.proofs.Common.{◌≡◌, ℕ, Bool, true, false, List, sym, ap, ◌∙◌, subst, refl}
use Rattle.std.specs.Prelude.{IsTrue, Option}
use Rattle.enq_base.specs.declared.refusal.Refusal.{Refusal}
use Rattle.enq_base.specs.declared.refusal.Refusal.TheVariants as refusal
use Rattle.enq_server.specs.Replica.{IsLater, KeepsOn, ReplicaView}
use Rattle.keeper_api.specs.Rows.{Rows}
use Rattle.lock_entry.specs.declared.entry.Entry.{Entry}
use Rattle.hall_model.specs.Acts.{IsAct}
use Rattle.hall_model.specs.Calls.{Call, LogsOn, OfSession, OfWorker, OfAdmin, Kills, FailsOver, Restarts, Attaches, Cancels, Resubmits, call_of, fails_over}
use Rattle.hall_model.specs.Calls.{renews_replica, restarts, talks, touches_file}
use Rattle.hall_model.specs.Devices.{AllWell, Wanting, StoreFails, BackupFails, LinkFails, NotRemade, RemakeFault, MeetsWant, FindsBad, FindsBadStore, MayHappen, fault_told, found_by, reaches_store}
use Rattle.hall_model.specs.History.{Served, served}
use Rattle.hall_calls.specs.Serving.{DoesStore, Follows, HasLinkCause, IsOver, LeavesFile, Serves, with_calls}
use Rattle.hall_model.specs.State.{State}
use Rattle.hall_calls.specs.View.{View}
use Rattle.hall_model.specs.Step.{call_verdict}
use Rattle.hall_model.specs.declared.command.Command.{Command}
use Rattle.hall_model.specs.declared.command.PastEntry.{PastEntry}
use Rattle.hall_model.specs.declared.command.Reply.{Reply}
use Rattle.hall_model.specs.declared.command.Reply.TheVariants as reply
use Rattle.model_laws.proofs.PlainRefusals.{IsPlain}
use Rattle.hall_calls.proofs.lemmas.Replies.{is_fault_reply, verdict_answered}

true_not_false : true ≡ false → ⊥
true_not_false e = cc

-- ---- that the link failed is answered only in a call that speaks to it

abbrev IsLinkFault : Reply → Type 0
IsLinkFault r = r ≡ reply.Refused refusal.LinkFault

no_fault : (r : Reply) → is_fault_reply r ≡ false → IsLinkFault r → ⊥
no_fault r own is = true_not_false (sym (ap is_fault_reply is) ∙ own)

not_wanting : IsLinkFault (reply.Refused refusal.NoMemory) → ⊥
not_wanting e = cc

not_storing : IsLinkFault (reply.Refused refusal.StoreFault) → ⊥
not_storing e = cc

not_filing : IsLinkFault (reply.Refused refusal.BackupFault) → ⊥
not_filing e = cc

not_told : (fault : RemakeFault) → IsLinkFault (reply.Refused (fault_told fault)) → ⊥
not_told MeetsWant e = cc
not_told (FindsBad place) e = cc
not_told (FindsBadStore table row) e = cc

fault_talks : (s : State) (c : Command) (after : State) → IsAct s c after (reply.Refused refusal.LinkFault) → IsTrue (talks (call_of c))
fault_talks s c after act =
    let o = act.outcome in
    elim o.event as (λ e. MayHappen e s (call_of c) (call_verdict (found_by o.reading s) s (call_of c))
    → IsLinkFault (served (record { event = e; reading = o.reading; lost = o.lost }) s c).reply → IsTrue (talks (call_of c))) [
      | AllWell ↦ λ may is. absurd (no_fault _ (verdict_answered _ s _).own is)
      | Wanting ↦ λ may is. absurd (not_wanting is)
      | StoreFails ↦ λ may is. absurd (not_storing is)
      | BackupFails ↦ λ may is. absurd (not_filing is)
      | LinkFails ↦ λ may is. may.1
      | NotRemade fault ↦ λ may is. absurd (not_told fault is)
    ] act.possible.event (ap (λ (r : Served). r.reply) act.same)

pub quiet_link : (s : State) (c : Command) (after : State) (r : Reply) (f g : ℕ) → talks (call_of c) ≡ false → IsAct s c after r → HasLinkCause f g r
quiet_link s c after (reply.Refused refusal.LinkFault) f g off act = absurd (true_not_false (sym (fault_talks s c after act) ∙ off))
quiet_link s c after _ f g off act = tt

-- ---- a call behind which the same replica follows as before, or none

unrenewed : (call : Call) → renews_replica call ≡ false → (restarts call ≡ false) × (fails_over call ≡ false) × (talks call ≡ false)
unrenewed (LogsOn name user) off = (refl, refl, refl)
unrenewed (OfSession name call) off = (refl, refl, refl)
unrenewed (OfWorker worker call) off = (refl, refl, refl)
unrenewed (OfAdmin Kills) off = (refl, refl, refl)
unrenewed (OfAdmin FailsOver) off = absurd (true_not_false off)
unrenewed (OfAdmin Restarts) off = absurd (true_not_false off)
unrenewed (OfAdmin Attaches) off = absurd (true_not_false off)
unrenewed (OfAdmin (Cancels unit)) off = (refl, refl, refl)
unrenewed (OfAdmin (Resubmits unit)) off = (refl, refl, refl)

pub never_remakes : (call : Call) → renews_replica call ≡ false → restarts call ≡ false
never_remakes call off = (unrenewed call off).0

pub serves_as : {K D L : Type 0} (held : K → Option Rows) (may_leave : K → Rows → Type 0) (faults : K → ℕ) (disk_faults : D → ℕ)
    (gives : L → List Entry) (applied : L → Option (List Entry)) (link_faults refusals : L → ℕ)
    (old new : View K D L) (past : List PastEntry) (c : Command) (r : Reply)
    → renews_replica (call_of c) ≡ false → IsAct (with_calls old.state past) c (with_calls new.state past) r
    → DoesStore held may_leave faults (restarts (call_of c)) (reaches_store old.state (call_of c)) old.keeper new.keeper r
    → LeavesFile disk_faults (restarts (call_of c)) (touches_file (call_of c)) old.file new.file r
    → KeepsOn applied link_faults refusals old.replica new.replica
    → Serves held may_leave faults disk_faults gives applied link_faults refusals old new past c r
serves_as held may_leave faults disk_faults gives applied link_faults refusals old new past c r off act store file keeps =
    let other = unrenewed (call_of c) off in
    record {
      call = act;
      store = store;
      file = file;
      replica = subst (λ b. Follows applied link_faults refusals b old.replica new.replica) (sym off) keeps;
      over = subst (λ b. IsOver b new.state.locks (gives old.replica.link) r) (sym other.1) tt;
      link = quiet_link (with_calls old.state past) c (with_calls new.state past) r (link_faults old.replica.link) (link_faults new.replica.link) other.2 act;
    }

-- a refusal that no device caused tells nothing of the link
pub plain_link : (r : Refusal) (before now : ℕ) → IsPlain r → HasLinkCause before now (reply.Refused r)
plain_link refusal.LinkFault before now plain = absurd (true_not_false plain)
plain_link _ before now plain = tt

-- nor of the list that it gave
pub refused_over : (over : Bool) (locks given : List Entry) (r : Refusal) → IsPlain r → IsOver over locks given (reply.Refused r)
refused_over true locks given (refusal.Unsound found) plain = absurd (true_not_false plain)
refused_over true locks given _ plain = tt
refused_over false locks given r plain = tt

-- whatever the call, the link's counts don't fall
pub any_link : {L : Type 0} (applied : L → Option (List Entry)) (faults refusals : L → ℕ) (old new : ReplicaView L) (renews : Bool)
    → Follows applied faults refusals renews old new → IsLater applied faults refusals old new
any_link applied faults refusals old new true h = h
any_link applied faults refusals old new false h = record { faults_later = h.faults_later; refusals_later = h.refusals_later; told = h.told }
