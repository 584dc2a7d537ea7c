-- A link that tells its list hands over one whose locks may stand together.
use Rattle.std.proofs.Common.{◌≡◌, Bool, true, false, List, refl, sym, ap, ◌∙◌, subst}
use Rattle.std.specs.Prelude.{if◌then◌else◌}
use Rattle.enq_base.specs.declared.owner.UnitKey.{UnitKey}
use Rattle.enq_base.specs.declared.refusal.Refusal.{Refusal}
use Rattle.enq_base.specs.declared.refusal.Refusal.TheVariants as refusal
use Rattle.lock_entry.specs.Table.{IsTable}
use Rattle.lock_entry.specs.declared.entry.Entry.{Entry}
use Rattle.hall_model.specs.Acts.{IsAct}
use Rattle.hall_model.specs.Calls.{Call, LogsOn, OfSession, OfWorker, OfAdmin, Kills, FailsOver, Restarts, Attaches, Cancels, Resubmits, call_of}
use Rattle.hall_model.specs.Devices.{AllWell, Wanting, StoreFails, BackupFails, LinkFails, NotRemade, IsTold, MayRead, RemakeFault, MeetsWant, FindsBad}
use Rattle.hall_model.specs.Devices.{FindsBadStore, Reading, AsKnown, Shows, Reopens, Hands, fault_told, found_by}
use Rattle.hall_model.specs.History.{Served, judged, served}
use Rattle.hall_model.specs.State.{State}
use Rattle.hall_model.specs.Step.{Found, is_sound, posted_reply}
use Rattle.ledger_steps.specs.declared.step.Outcome.{Outcome}
use Rattle.ledger_steps.specs.declared.step.Outcome.TheVariants as outcome
use Rattle.hall_model.specs.Unsound.{is_unsound_replica}
use Rattle.hall_model.specs.declared.command.Command.{Command}
use Rattle.hall_model.specs.declared.command.Reply.{Reply}
use Rattle.hall_model.specs.declared.command.Reply.TheVariants as reply
use Rattle.model_laws.proofs.ByCall.{IsStray, OfEach, by_call}
use Rattle.model_laws.proofs.PlainRefusals.{IsPlain}
use Rattle.hall_calls.proofs.TestedLocks.{sound_of}
use Rattle.ledger_steps.specs.declared.part.Part.{Part}
use Rattle.ledger_steps.specs.Parts.{is_first}

-- what a call finds of the replica's list
told_so : (told : Bool) (list locks : List Entry) → told ≡ true → IsTold told (list ≡ locks) → list ≡ locks
told_so true list locks is h = h
told_so false list locks is h = absurd (cc)

handed : (list : List Entry) (s : State) (call : Call) → s.link_told ≡ true → MayRead (Hands list) s call → list ≡ s.locks
handed list s (LogsOn name user) told may = absurd may
handed list s (OfSession name call) told may = absurd may
handed list s (OfWorker worker call) told may = absurd may
handed list s (OfAdmin Kills) told may = absurd may
handed list s (OfAdmin FailsOver) told may = told_so s.link_told list s.locks told may
handed list s (OfAdmin Restarts) told may = absurd may
handed list s (OfAdmin Attaches) told may = absurd may
handed list s (OfAdmin (Cancels unit)) told may = absurd may
handed list s (OfAdmin (Resubmits unit)) told may = absurd may

found_told : (reading : Reading) (s : State) (call : Call) → s.link_told ≡ true → MayRead reading s call → (found_by reading s).list ≡ s.locks
found_told AsKnown s call told may = refl
found_told (Shows text) s call told may = refl
found_told (Reopens taken) s call told may = refl
found_told (Hands list) s call told may = handed list s call told may

-- such a list isn't astray
never_astray : (s : State) (found : Found) → IsTable (record { entries = s.locks; limit = s.limit }) → found.list ≡ s.locks → IsStray found s → ⊥
never_astray s found table same stray =
    let odd : true ≡ false =
    sym (sound_of s.locks table.sound) ∙ sym (ap is_sound same) ∙ stray.astray in
    absurd (cc)

plain_replica : (r : Refusal) → IsPlain r → is_unsound_replica (reply.Refused r) ≡ false
plain_replica (refusal.Unsound found) plain = absurd (cc)
plain_replica r plain = refl

posted_replica : (part : Part) (unit : UnitKey) (o : Outcome) → is_unsound_replica (posted_reply part unit o) ≡ false
posted_replica part unit outcome.Done = elim (is_first part) as (λ b. is_unsound_replica (if b then reply.Posted unit else reply.Closed unit) ≡ false)
    [ true ↦ refl | false ↦ refl ]
posted_replica part unit (outcome.Refused index reason) =
    elim (is_first part) as (λ b. is_unsound_replica (if b then reply.Bad unit index reason else reply.Bad2 unit index reason) ≡ false)
    [ true ↦ refl | false ↦ refl ]

good_verdict : (found : Found) (s : State) → IsTable (record { entries = s.locks; limit = s.limit }) → found.list ≡ s.locks
    → OfEach (λ call v. is_unsound_replica (judged s v).reply ≡ false) found s
good_verdict found s table same = record {
  refuses = λ call r plain. plain_replica r plain;
  enters = λ name user free. refl;
  logs_off = λ name x at. refl;
  grants = λ name x rs locks at e. refl;
  lowers = λ name x rs at. refl;
  frees = λ name x at. refl;
  converts = λ name x wanted c at e. refl;
  draws = λ name x object nr r at can. refl;
  reserves = λ name x object nr upto r at can. refl;
  reads = λ name x table key at. refl;
  commits_nothing = λ name x parts stock at. refl;
  commits_numbers = λ name x parts stock at. refl;
  commits = λ name x parts stock at. refl;
  rolls_back = λ name x at. refl;
  takes = λ worker part unit free e. refl;
  posts = λ worker part unit e. posted_replica part unit (found.part part unit);
  drops = λ worker unit e. refl;
  kills = λ up. refl;
  fails_over = λ can. refl;
  strays = λ first second stray. absurd (never_astray s found table same stray);
  restarts = λ off. refl;
  attaches = λ up. refl;
  cancels = λ unit status can. refl;
  reopens = λ unit es here stand. refl;
  reposts = λ unit here. refl;
}

told_replica : (fault : RemakeFault) → is_unsound_replica (reply.Refused (fault_told fault)) ≡ false
told_replica MeetsWant = refl
told_replica (FindsBad place) = refl
told_replica (FindsBadStore table row) = refl

-- so no list of such a link is refused
pub good_replica : (s : State) (c : Command) (after : State) (r : Reply) → IsTable (record { entries = s.locks; limit = s.limit }) → s.link_told ≡ true
    → IsAct s c after r
    → is_unsound_replica r ≡ false
good_replica s c after r table told act =
    let o = act.outcome in
    let found = found_by o.reading s in
    let same = found_told o.reading s (call_of c) told act.possible.reading in
    let is : (served o s c).reply ≡ r = ap (λ (x : Served). x.reply) act.same in
    subst (λ x. is_unsound_replica x ≡ false) is
    (elim o.event as (λ e. is_unsound_replica (served (record { event = e; reading = o.reading; lost = o.lost }) s c).reply ≡ false) [
      | AllWell ↦ by_call (λ call v. is_unsound_replica (judged s v).reply ≡ false) found s (good_verdict found s table same) (call_of c)
      | Wanting ↦ refl
      | StoreFails ↦ refl
      | BackupFails ↦ refl
      | LinkFails ↦ refl
      | NotRemade fault ↦ told_replica fault
    ])
