-- How calls are answered.
use Rattle.std.proofs.Common.{◌≡◌, inl, inr, ℕ, Bool, true, false, refl, sym, ap, ◌∙◌, subst}
use Rattle.std.specs.Prelude.{◌&&◌, not, if◌then◌else◌, IsTrue, Some, None}
use Rattle.enq_base.specs.declared.owner.UnitKey.{UnitKey}
use Rattle.enq_base.specs.declared.condition.Bad.TheVariants as bad
use Rattle.enq_base.specs.declared.refusal.Refusal.{Refusal}
use Rattle.enq_base.specs.declared.refusal.Refusal.TheVariants as refusal
use Rattle.ledger_steps.specs.declared.step.Outcome.{Outcome}
use Rattle.ledger_steps.specs.declared.step.Outcome.TheVariants as outcome
use Rattle.hall_model.specs.Acts.{IsAct, IsTelling}
use Rattle.hall_model.specs.Calls.{Call, call_of, restarts}
use Rattle.hall_model.specs.Devices.{DeviceOutcome, Event, AllWell, Wanting, StoreFails, BackupFails, LinkFails, NotRemade, RemakeFault, MeetsWant, FindsBad}
use Rattle.hall_model.specs.Devices.{FindsBadStore, MayHappen, fault_told, found_by, is_file_failure, is_store_failure, may_want, LosesReplica, MayLose}
use Rattle.hall_model.specs.Devices.{uses_file, uses_store}
use Rattle.hall_calls.specs.Filing.{HasFileCause}
use Rattle.hall_model.specs.History.{IsGiven, Served, ends_in, is_row, is_unrecorded, judged, losing, served, step, takes_flight}
use Rattle.hall_calls.specs.Leaving.{HasCounted, HasStoreCause}
use Rattle.hall_model.specs.State.{State}
use Rattle.hall_model.specs.Step.{Found, Verdict, Leaves, call_verdict, own_verdict, posted_reply, unavailable, unless_refused, verdict}
use Rattle.hall_model.specs.declared.command.Command.{Command}
use Rattle.hall_model.specs.declared.command.Reply.{Reply}
use Rattle.hall_model.specs.declared.command.Reply.TheVariants as reply
use Rattle.model_laws.proofs.ByCall.{OfEach, by_call}
use Rattle.model_laws.proofs.NotedCalls.{by_noting, finds_none}
use Rattle.hall_calls.proofs.replica.NotedShips.{ships_noted}
use Rattle.model_laws.proofs.PlainRefusals.{IsPlain, is_fault}
use Rattle.hall_calls.proofs.replica.Shipping.{lost_wanting}
use Rattle.ledger_steps.specs.declared.part.Part.{Part}
use Rattle.ledger_steps.specs.Parts.{is_first}

-- a failure of store or disk is told, or what they have, or want of memory
abbrev pub is_fault_reply : Reply → Bool
is_fault_reply (reply.Refused (refusal.Unsound (bad.Replica first second))) = false
is_fault_reply (reply.Refused r) = is_fault r
is_fault_reply _ = false

plain_reply : (r : Refusal) → IsPlain r → is_fault_reply (reply.Refused r) ≡ false
plain_reply (refusal.Unsound (bad.Replica first second)) plain = refl
plain_reply r plain = plain

-- an answer that tells no failure, is noted, and has no text
record IsPlainReply (r : Reply) : Type 0 where
  own : is_fault_reply r ≡ false
  noted : is_unrecorded r ≡ false
  no_row : is_row r ≡ false

-- What is answered where the devices do well: no failure of one. A call that isn't noted changes nothing, and neither does
-- one that is answered by a row, which may want memory.
pub record IsAnswered (s : State) (call : Call) (v : Verdict) : Type 0 where
  pub own : is_fault_reply (judged s v).reply ≡ false
  pub quiet : is_unrecorded (judged s v).reply ≡ true → (judged s v).state ≡ s
  pub row : is_row (judged s v).reply ≡ true → ((judged s v).state ≡ s) × IsTrue (may_want s v call) × (restarts call ≡ false)

never : (b : Bool) → b ≡ false → b ≡ true → ⊥
never true e f = cc
never false e f = cc

plainly : (s after : State) (call : Call) (r : Reply) → IsPlainReply r → IsAnswered s call (Leaves after r)
plainly s after call r p = record { own = p.own; quiet = λ e. absurd (never _ p.noted e); row = λ e. absurd (never _ p.no_row e) }

done : IsPlainReply reply.Done
done = record { own = refl; noted = refl; no_row = refl }

of_unit : (unit : UnitKey) → IsPlainReply (reply.Unit unit)
of_unit unit = record { own = refl; noted = refl; no_row = refl }

posted : (part : Part) (unit : UnitKey) (o : Outcome) → IsPlainReply (posted_reply part unit o)
posted part unit outcome.Done =
    elim (is_first part) as (λ b. IsPlainReply (if b then reply.Posted unit else reply.Closed unit)) [
      | true ↦ record { own = refl; noted = refl; no_row = refl }
      | false ↦ record { own = refl; noted = refl; no_row = refl }
    ]
posted part unit (outcome.Refused index reason) =
    elim (is_first part) as (λ b. IsPlainReply (if b then reply.Bad unit index reason else reply.Bad2 unit index reason)) [
      | true ↦ record { own = refl; noted = refl; no_row = refl }
      | false ↦ record { own = refl; noted = refl; no_row = refl }
    ]

answered : (found : Found) (s : State) → OfEach (IsAnswered s) found s
answered found s = record {
  refuses = λ call r plain. record { own = plain_reply r plain; quiet = λ e. refl; row = λ e. absurd (never false refl e) };
  enters = λ name user free. plainly s _ _ _ done;
  logs_off = λ name x at. plainly s _ _ _ done;
  grants = λ name x rs locks at e. plainly s _ _ _ done;
  lowers = λ name x rs at. plainly s _ _ _ done;
  frees = λ name x at. plainly s _ _ _ done;
  converts = λ name x wanted c at e. plainly s _ _ _ done;
  draws = λ name x object nr r at can. plainly s _ _ _ (record { own = refl; noted = refl; no_row = refl });
  reserves = λ name x object nr upto r at can. plainly s _ _ _ (record { own = refl; noted = refl; no_row = refl });
  reads = λ name x table key at. record { own = refl; quiet = λ e. refl; row = λ e. (refl, refl, refl) };
  commits_nothing = λ name x parts stock at. plainly s _ _ _ done;
  commits_numbers = λ name x parts stock at. plainly s _ _ _ done;
  commits = λ name x parts stock at. plainly s _ _ _ (of_unit _);
  rolls_back = λ name x at. plainly s _ _ _ done;
  takes = λ worker part unit free e. plainly s _ _ _ (of_unit unit);
  posts = λ worker part unit e. plainly s _ _ _ (posted part unit (found.part part unit));
  drops = λ worker unit e. plainly s _ _ _ (of_unit unit);
  kills = λ up. plainly s _ _ _ done;
  fails_over = λ can. plainly s _ _ _ done;
  strays = λ first second none. plainly s _ _ _ (record { own = refl; noted = refl; no_row = refl });
  attaches = λ up. plainly s _ _ _ done;
  restarts = λ off. plainly s _ _ _ done;
  cancels = λ unit status can. plainly s _ _ _ (of_unit unit);
  reopens = λ unit es here stand. plainly s _ _ _ (of_unit unit);
  reposts = λ unit here. plainly s _ _ _ (of_unit unit);
}

pub verdict_answered : (found : Found) (s : State) (call : Call) → IsAnswered s call (call_verdict found s call)
verdict_answered found s call = by_call (IsAnswered s) found s (answered found s) call

-- ---- what a call is answered tells of its devices

-- that no lock server was made anew is noted
told_noted : (fault : RemakeFault) → is_unrecorded (reply.Refused (fault_told fault)) ≡ false
told_noted MeetsWant = refl
told_noted (FindsBad place) = refl
told_noted (FindsBadStore table row) = refl

-- what a call comes to, apart from the replica
abbrev ending : DeviceOutcome → State → Command → Served
ending o s c = ends_in o.event o.reading s (call_of c) (call_verdict (found_by o.reading s) s (call_of c))

-- a call that isn't noted changes nothing
unlost_same : (o : DeviceOutcome) (s : State) (c : Command) → is_unrecorded (ending o s c).reply ≡ true → (ending o s c).state ≡ s
unlost_same o s c =
    elim o.event as (λ e. is_unrecorded (ends_in e o.reading s (call_of c) (call_verdict (found_by o.reading s) s (call_of c))).reply ≡ true
    → (ends_in e o.reading s (call_of c) (call_verdict (found_by o.reading s) s (call_of c))).state ≡ s) [
      | AllWell ↦ (verdict_answered _ s _).quiet
      | Wanting ↦ λ e. refl
      | StoreFails ↦ λ e. absurd (never false refl e)
      | BackupFails ↦ λ e. absurd (never false refl e)
      | LinkFails ↦ λ e. absurd (never false refl e)
      | NotRemade fault ↦ λ e. absurd (never _ (told_noted fault) e)
    ]

-- what a call comes to with what the devices gave
abbrev came_to : DeviceOutcome → State → Command → Verdict
came_to o s c = call_verdict (found_by o.reading s) s (call_of c)

-- and one that may lose the replica is noted
loses_on : (o : DeviceOutcome) (s : State) (c : Command) → LosesReplica o.event s (call_of c) (came_to o s c) → is_unrecorded (ending o s c).reply ≡ false
loses_on o s c =
    elim o.event as (λ e. LosesReplica e s (call_of c) (call_verdict (found_by o.reading s) s (call_of c))
    → is_unrecorded (ends_in e o.reading s (call_of c) (call_verdict (found_by o.reading s) s (call_of c))).reply ≡ false) [
      | AllWell ↦ λ may. ships_noted (found_by o.reading s) s (call_of c) may.served may.may.0
      | Wanting ↦ λ may. refl
      | StoreFails ↦ λ may. refl
      | BackupFails ↦ λ may. refl
      | LinkFails ↦ λ may. refl
      | NotRemade fault ↦ λ may. told_noted fault
    ]

lost_same : (lost : Bool) (o : DeviceOutcome) (s : State) (c : Command) → MayLose lost o.event s (call_of c) (came_to o s c)
    → is_unrecorded (ending o s c).reply ≡ true → (losing lost (ending o s c)).state ≡ s
lost_same true o s c may e = absurd (never _ (loses_on o s c may) e)
lost_same false o s c may e = unlost_same o s c e

pub unnoted_same : (o : DeviceOutcome) (s : State) (c : Command)
    → MayLose o.lost o.event s (call_of c) (call_verdict (found_by o.reading s) s (call_of c)) → is_unrecorded (served o s c).reply ≡ true
    → (served o s c).state ≡ s
unnoted_same o s c may e = lost_same o.lost o s c may e

abbrev IsStoreFault : Reply → Type 0
IsStoreFault r = r ≡ reply.Refused refusal.StoreFault

no_fault : (r : Reply) → is_fault_reply r ≡ false → IsStoreFault r → ⊥
no_fault r own is = never (is_fault_reply r) own (ap is_fault_reply is)

not_wanting : IsStoreFault (reply.Refused refusal.NoMemory) → ⊥
not_wanting e = cc

not_filing : IsStoreFault (reply.Refused refusal.BackupFault) → ⊥
not_filing e = cc

not_linking : IsStoreFault (reply.Refused refusal.LinkFault) → ⊥
not_linking e = cc

not_told : (fault : RemakeFault) → IsStoreFault (reply.Refused (fault_told fault)) → ⊥
not_told MeetsWant e = cc
not_told (FindsBad place) e = cc
not_told (FindsBadStore table row) e = cc

-- that the store failed is answered only in a call that uses it
pub fault_uses_store : (s : State) (c : Command) (after : State) → IsAct s c after (reply.Refused refusal.StoreFault) → IsTrue (uses_store s (call_of c))
fault_uses_store s c after act =
    let o = act.outcome in
    elim o.event as (λ e. MayHappen e s (call_of c) (call_verdict (found_by o.reading s) s (call_of c))
    → IsStoreFault (served (record { event = e; reading = o.reading; lost = o.lost }) s c).reply → IsTrue (uses_store s (call_of c))) [
      | AllWell ↦ λ may is. absurd (no_fault _ (verdict_answered _ s _).own is)
      | Wanting ↦ λ may is. absurd (not_wanting is)
      | StoreFails ↦ λ may is. may.1
      | BackupFails ↦ λ may is. absurd (not_filing is)
      | LinkFails ↦ λ may is. absurd (not_linking is)
      | NotRemade fault ↦ λ may is. absurd (not_told fault is)
    ] act.possible.event (ap (λ (r : Served). r.reply) act.same)

-- ---- the store's count of faults

plain_counts : (r : Reply) (f g : ℕ) → is_fault_reply r ≡ false → HasStoreCause f g r → g ≡ f
plain_counts (reply.Refused refusal.StoreFault) f g own h = absurd (cc)
plain_counts _ f g own h = h

told_counts : (fault : RemakeFault) (f g : ℕ) → HasStoreCause f g (reply.Refused (fault_told fault)) → g ≡ f
told_counts MeetsWant f g h = h
told_counts (FindsBad place) f g h = h
told_counts (FindsBadStore table row) f g h = h

served_counts : (o : DeviceOutcome) (s : State) (c : Command) (f g : ℕ) → HasStoreCause f g (served o s c).reply → HasCounted (is_store_failure o.event) f g
served_counts o s c f g =
    elim o.event as (λ e. HasStoreCause f g (served (record { event = e; reading = o.reading; lost = o.lost }) s c).reply
    → HasCounted (is_store_failure e) f g) [
      | AllWell ↦ λ h. plain_counts _ f g (verdict_answered _ s _).own h
      | Wanting ↦ λ h. h
      | StoreFails ↦ λ h. h
      | BackupFails ↦ λ h. h
      | LinkFails ↦ λ h. h
      | NotRemade fault ↦ told_counts fault f g
    ]

-- it rises just in a call in which the store fails
pub step_counts : (o : DeviceOutcome) (s : State) (line : ℕ) (c : Command) (f g : ℕ) → HasStoreCause f g (step o s line c).reply
    → HasCounted (is_store_failure o.event) f g
step_counts o s line c f g =
    by_noting (λ x. HasStoreCause f g x.reply → HasCounted (is_store_failure o.event) f g) line c (takes_flight o) (served o s c)
    (served_counts o s c f g) (served_counts o s c f g)

-- ---- the disk's count of faults

plain_file_counts : (r : Reply) (f g : ℕ) → is_fault_reply r ≡ false → HasFileCause f g r → g ≡ f
plain_file_counts (reply.Refused refusal.BackupFault) f g own h = absurd (cc)
plain_file_counts _ f g own h = h

told_file_counts : (fault : RemakeFault) (f g : ℕ) → HasFileCause f g (reply.Refused (fault_told fault)) → g ≡ f
told_file_counts MeetsWant f g h = h
told_file_counts (FindsBad place) f g h = h
told_file_counts (FindsBadStore table row) f g h = h

served_file_counts : (o : DeviceOutcome) (s : State) (c : Command) (f g : ℕ) → HasFileCause f g (served o s c).reply → HasCounted (is_file_failure o.event) f g
served_file_counts o s c f g =
    elim o.event as (λ e. HasFileCause f g (served (record { event = e; reading = o.reading; lost = o.lost }) s c).reply → HasCounted (is_file_failure e) f g) [
      | AllWell ↦ λ h. plain_file_counts _ f g (verdict_answered _ s _).own h
      | Wanting ↦ λ h. h
      | StoreFails ↦ λ h. h
      | BackupFails ↦ λ h. h
      | LinkFails ↦ λ h. h
      | NotRemade fault ↦ told_file_counts fault f g
    ]

-- it rises just in a call in which the disk fails
pub step_file_counts : (o : DeviceOutcome) (s : State) (line : ℕ) (c : Command) (f g : ℕ) → HasFileCause f g (step o s line c).reply
    → HasCounted (is_file_failure o.event) f g
step_file_counts o s line c f g =
    by_noting (λ x. HasFileCause f g x.reply → HasCounted (is_file_failure o.event) f g) line c (takes_flight o) (served o s c)
    (served_file_counts o s c f g) (served_file_counts o s c f g)

abbrev IsFileFault : Reply → Type 0
IsFileFault r = r ≡ reply.Refused refusal.BackupFault

no_file_fault : (r : Reply) → is_fault_reply r ≡ false → IsFileFault r → ⊥
no_file_fault r own is = never (is_fault_reply r) own (ap is_fault_reply is)

file_not_wanting : IsFileFault (reply.Refused refusal.NoMemory) → ⊥
file_not_wanting e = cc

file_not_storing : IsFileFault (reply.Refused refusal.StoreFault) → ⊥
file_not_storing e = cc

file_not_linking : IsFileFault (reply.Refused refusal.LinkFault) → ⊥
file_not_linking e = cc

file_not_told : (fault : RemakeFault) → IsFileFault (reply.Refused (fault_told fault)) → ⊥
file_not_told MeetsWant e = cc
file_not_told (FindsBad place) e = cc
file_not_told (FindsBadStore table row) e = cc

-- that the disk failed is answered only in a call that uses the file
pub fault_uses_file : (s : State) (c : Command) (after : State) → IsAct s c after (reply.Refused refusal.BackupFault) → IsTrue (uses_file s (call_of c))
fault_uses_file s c after act =
    let o = act.outcome in
    elim o.event as (λ e. MayHappen e s (call_of c) (call_verdict (found_by o.reading s) s (call_of c))
    → IsFileFault (served (record { event = e; reading = o.reading; lost = o.lost }) s c).reply → IsTrue (uses_file s (call_of c))) [
      | AllWell ↦ λ may is. absurd (no_file_fault _ (verdict_answered _ s _).own is)
      | Wanting ↦ λ may is. absurd (file_not_wanting is)
      | StoreFails ↦ λ may is. absurd (file_not_storing is)
      | BackupFails ↦ λ may is. may.1
      | LinkFails ↦ λ may is. absurd (file_not_linking is)
      | NotRemade fault ↦ λ may is. absurd (file_not_told fault is)
    ] act.possible.event (ap (λ (r : Served). r.reply) act.same)

-- ---- a text that can't be told twice

-- a call that is answered by a text is served
available : (s : State) (call : Call) (found : Found) → is_row (judged s (call_verdict found s call)).reply ≡ true → unavailable s call ≡ None
unfolding call_verdict
available s call found =
    elim (unavailable s call) as (λ o. is_row (judged s (unless_refused o (own_verdict found s call))).reply ≡ true → o ≡ None) [
      | None ↦ λ e. refl
      | Some r ↦ λ e. absurd (never false refl e)
    ]

row_of : (a b : Served) → a ≡ b → is_row b.reply ≡ true → is_row a.reply ≡ true
row_of a b e h = ap (λ (x : Served). is_row x.reply) e ∙ h

-- what was answered by a text may be answered that memory is wanting; it was no restart
row_wanting : (s : State) (c : Command) (taken : Bool) (after : State) (r : Reply) → is_row r ≡ true → IsTelling s c taken after r
    → IsTelling s c taken after (reply.Refused refusal.NoMemory)
row_wanting s c taken after r row h =
    let act = h.act in
    let o = act.outcome in
    let wanting = reply.Refused refusal.NoMemory in
    let by : Event → DeviceOutcome = λ e. record { event = e; reading = o.reading; lost = o.lost } in
    elim o.event as (λ e. MayLose o.lost e s (call_of c) (call_verdict (found_by o.reading s) s (call_of c)) → takes_flight (by e) ≡ taken
    → served (by e) s c ≡ record { state = after; reply = r }
    → IsTelling s c taken after wanting) [
      | AllWell ↦ λ may takes same.
          let found = found_by o.reading s in
          let is : is_row (judged s (verdict found s c)).reply ≡ true = row_of _ _ same row in
          let told = (verdict_answered found s (call_of c)).row is in
          let served_so = available s (call_of c) found is in
          let stays : record s { attached = not o.lost && s.attached } ≡ after =
          ap (λ (t : State). record t { attached = not o.lost && t.attached }) (sym told.0) ∙ ap (λ (x : Served). x.state) same in
          subst (λ t. IsTelling s c taken t wanting) stays (record {
            act = record {
              outcome = record { event = Wanting; reading = o.reading; lost = o.lost };
              possible = record {
                reading = act.possible.reading;
                event = (served_so, told.1);
                lost =
                    lost_wanting o.lost s (call_of c) (verdict found s c) told.0 may;
              };
              same = refl;
            };
            taken = sym (finds_none o.reading s (call_of c) told.2 act.possible.reading) ∙ takes;
          })
      | Wanting ↦ λ may takes same. absurd (never false refl (row_of _ _ same row))
      | StoreFails ↦ λ may takes same. absurd (never false refl (row_of _ _ same row))
      | BackupFails ↦ λ may takes same. absurd (never false refl (row_of _ _ same row))
      | LinkFails ↦ λ may takes same. absurd (never false refl (row_of _ _ same row))
      | NotRemade fault ↦ λ may takes same. absurd (never false refl (row_of _ _ same row))
    ] act.possible.lost h.taken act.same

-- the answer as it is given
pub given_telling : (s : State) (c : Command) (taken : Bool) (after : State) (made given : Reply) → IsGiven made given → IsTelling s c taken after made
    → IsTelling s c taken after given
given_telling s c taken after made given (inl same) h = subst (IsTelling s c taken after) (sym same) h
given_telling s c taken after made given (inr (row, is)) h = subst (IsTelling s c taken after) (sym is) (row_wanting s c taken after made row h)
