-- Calls of the histories that are meant: what such a call comes to, who makes it, and why it is served.
use Rattle.std.proofs.Common.{◌≡◌, ◌≢◌, ℕ, Bool, true, false, List, [], ◌∷◌, ◌++◌, length, refl, sym, ap, ◌∙◌, subst, arith}
use Rattle.std.specs.Prelude.{IsTrue, ◌||◌, ◌&&◌, not, if◌then◌else◌, nat_eq, nat_lt, Option, Some, None}
use Rattle.std.specs.Str.{bytes_eq}
use Rattle.std.proofs.lemmas.Bool.{and_parts, false≢true, true≢false}
use Rattle.std.proofs.lemmas.Bool.Decides.{nat_tests}
use Rattle.enq_base.specs.declared.condition.Condition.{Condition}
use Rattle.enq_base.specs.declared.condition.Condition.TheVariants as condition
use Rattle.enq_base.specs.declared.refusal.Refusal.{Refusal}
use Rattle.enq_base.specs.declared.refusal.Refusal.TheVariants as refusal
use Rattle.enq_base.specs.declared.unit.Num.{Num}
use Rattle.enq_base.specs.declared.unit.Parts.{Parts}
use Rattle.update_records.specs.Ledger.{Ledger}
use Rattle.model_laws.proofs.BarredCalls.{refused_verdict}
use Rattle.model_laws.proofs.ByCall.{by_room}
use Rattle.model_laws.proofs.NotedCalls.{by_noting}
use Rattle.hall_model.specs.Calls.{Call, LogsOn, OfSession, OfWorker, OfAdmin, SessionCall, call_of, wants_server, who_calls}
use Rattle.hall_model.specs.Devices.{AllWell, Wanting, StoreFails, BackupFails, LinkFails, NotRemade, found_by}
use Rattle.hall_model.specs.History.{Served, ends_in, judged, losing, refused, served, takes_flight, with_entry}
use Rattle.hall_model.specs.Kept.{OutsideDoubt, WhileListed}
use Rattle.hall_model.specs.Numbers.{stocked}
use Rattle.hall_model.specs.OpenUnits.{HoldsOpenUnits}
use Rattle.hall_model.specs.Recall.{IsModelAnswer, Made, again, recalled, state_after}
use Rattle.hall_model.specs.Sessions.{session_at, unit_key}
use Rattle.hall_model.specs.State.{State, is_honest}
use Rattle.hall_model.specs.Step.{Found, Verdict, Refuses, Leaves, barred, call_verdict, called, caller_refusal, commit, committed, detached, effects_in}
use Rattle.hall_model.specs.Step.{numbered, or_else, own_verdict, passing, server_refusal, session_call, unavailable, unless_refused}
use Rattle.hall_model.specs.declared.command.PastEntry.{PastEntry}
use Rattle.hall_model.specs.declared.command.Reply.{Reply}
use Rattle.hall_model.specs.declared.command.Reply.TheVariants as reply
use Rattle.hall_model.specs.declared.command.Session.{Session}
use Rattle.hall_model.specs.declared.command.Who.{Who}
use Rattle.hall_model.specs.declared.command.Who.TheVariants as who
use Rattle.cover_laws.proofs.needed.HallNeeded.{AreQuiet, IsQuiet, IsReached, IsSure}
use Rattle.cover_laws.specs.Histories.{fails_a_session, is_by, is_refused}

pub of_false : {P : Type 0} → false ≡ true → P
of_false e = absurd (false≢true e)

pub by_case : {P : Type 0} (b : Bool) → (b ≡ true → P) → (b ≡ false → P) → P
by_case true f g = f refl
by_case false f g = g refl

-- ---- calls one behind the other

pub quiet_left : (s : State) (xs ys : List Made) → AreQuiet s (xs ++ ys) → AreQuiet s xs
quiet_left s [] ys h = tt
quiet_left s (x ∷ xs) ys h = (h.0, quiet_left (recalled s x) xs ys h.1)

pub quiet_right : (s : State) (xs ys : List Made) → AreQuiet s (xs ++ ys) → AreQuiet (state_after s xs) ys
quiet_right s [] ys h = h
quiet_right s (x ∷ xs) ys h = quiet_right (recalled s x) xs ys h.1

-- ---- outside doubt

outside_holds : (k : Condition) (P : Type 0) → OutsideDoubt k P → ((n : ℕ) → k ≢ condition.Doubt n) → P
outside_holds condition.Up P h sure = h
outside_holds condition.NoServer P h sure = h
outside_holds (condition.Doubt n) P h sure = absurd (sure n refl)

-- nothing is in flight there
pub none_in_flight : (s : State) (m : Made) → IsQuiet s m → s.in_flight ≡ None
none_in_flight s m quiet = outside_holds s.condition (s.in_flight ≡ None) quiet.reached.steady.settled quiet.sure

-- while there is a lock server, the handed locks of its table are just those of the open units
pub held_up : (s : State) → IsReached s → s.condition ≡ condition.Up → HoldsOpenUnits s.locks s.stored
held_up s reached up =
    let told : is_honest s ≡ true = ap (λ b. b || not s.taken_over) reached.link_told in
    subst (λ k. WhileListed k (s.attached && s.link_told) (IsTrue (is_honest s) → HoldsOpenUnits s.locks s.stored)) up reached.open_units.held told

-- ---- what a call comes to

-- where the devices do well
abbrev pub verdict_of : State → Made → Verdict
verdict_of s m = call_verdict (found_by m.outcome.reading s) s (call_of m.call.command)

abbrev Surely : (Served → Type 0) → Served → Type 0
Surely Q r = IsSure r.state → Q r

-- What holds of this, of want of memory and of a link that failed holds of a call, where it goes on holding without a replica and with
-- a longer history: what else goes wrong leaves the server in doubt.
pub by_quiet : (Q : Served → Type 0) (s : State) (m : Made) → IsQuiet s m → ((lost : Bool) (done : Served) → Q done → Q (losing lost done))
    → ((taken : Bool) (r : Served) → Q r → Q (record r { state = with_entry m.call.line m.call.command taken r }))
    → Q (judged s (verdict_of s m))
    → Q (refused s refusal.NoMemory)
    → Q (refused (detached s) refusal.LinkFault) → Q (again s m)
by_quiet Q s m quiet loses notes well wanting unlinked =
    let o = m.outcome in
    let c = m.call.command in
    let taken = takes_flight o in
    let r = served o s c in
    let h : Surely Q r = elim o.event as (λ e. Surely Q (losing o.lost (ends_in e o.reading s (call_of c) (verdict_of s m)))) [
      | AllWell ↦ λ sure. loses o.lost _ well
      | Wanting ↦ λ sure. loses o.lost _ wanting
      | StoreFails ↦ λ sure. absurd (sure _ refl)
      | BackupFails ↦ λ sure. absurd (sure _ refl)
      | LinkFails ↦ λ sure. loses o.lost _ unlinked
      | NotRemade fault ↦ λ sure. absurd (sure _ refl)
    ] in
    by_noting (Surely Q) m.call.line c taken r h (λ sure. notes taken r (h sure)) quiet.sure_behind

-- what is shown of what is stored and of the answer
abbrev pub Leaving : (Ledger → Reply → Type 0) → State → Verdict → Type 0
Leaving P s v = P (judged s v).state.stored (judged s v).reply

-- what holds of a call that is refused and of what it comes to holds of a call
pub by_stored : (P : Ledger → Reply → Type 0) (s : State) (m : Made) → IsQuiet s m → ((r : Refusal) → P s.stored (reply.Refused r))
    → Leaving P s (verdict_of s m) → P (recalled s m).stored m.call.reply
by_stored P s m quiet refuse well =
    subst (P (recalled s m).stored) quiet.answer.reply
    (by_quiet (λ r. P r.state.stored r.reply) s m quiet (λ lost done h. h) (λ taken r h. h) well (refuse refusal.NoMemory) (refuse refusal.LinkFault))

-- ---- who calls

-- the session makes this call
abbrev pub is_own : List ℕ → Call → Bool
is_own name (LogsOn other user) = bytes_eq other name
is_own name (OfSession other call) = bytes_eq other name
is_own name (OfWorker worker call) = false
is_own name (OfAdmin call) = false

by_call_of : (name : List ℕ) (e : PastEntry) (call : Call) → is_by name (record e { who = who_calls call }) ≡ is_own name call
by_call_of name e (LogsOn other user) = refl
by_call_of name e (OfSession other call) = refl
by_call_of name e (OfWorker worker call) = refl
by_call_of name e (OfAdmin call) = refl

pub by_whom : (s : State) (m : Made) (name : List ℕ) → IsModelAnswer s m → is_by name m.call ≡ is_own name (call_of m.call.command)
by_whom s m name answer = ap (λ w. is_by name (record m.call { who = w })) answer.who ∙ by_call_of name m.call (call_of m.call.command)

unrefused : (name : List ℕ) (e : PastEntry) (w : Who) → is_by name (record e { who = w }) ≡ true → fails_a_session (record e { who = w }) ≡ false
    → is_refused e.reply ≡ false
unrefused name e (who.Session other) is served = served
unrefused name e (who.Worker worker) is served = of_false is
unrefused name e who.Admin is served = of_false is

-- its call isn't refused
pub is_served : (s : State) (m : Made) (name : List ℕ) → IsQuiet s m → is_by name m.call ≡ true → is_refused (again s m).reply ≡ false
is_served s m name quiet is = ap is_refused quiet.answer.reply ∙ unrefused name m.call m.call.who is quiet.served

-- ---- why a call is served

-- a call is refused, or served
pub by_served : (Q : Verdict → Type 0) (found : Found) (s : State) (call : Call) → ((r : Refusal) → Q (Refuses r))
    → (unavailable s call ≡ None → Q (call_verdict found s call)) → Q (call_verdict found s call)
by_served Q found s call refuse serve =
    elim (unavailable s call) as (λ o. unavailable s call ≡ o → Q (call_verdict found s call)) [
      | None ↦ serve
      | Some r ↦ λ e. subst Q (sym (refused_verdict found s call r e)) (refuse r)
    ] refl

-- one that isn't refused was served
pub was_free : (found : Found) (s : State) (call : Call) → is_refused (judged s (call_verdict found s call)).reply ≡ false → unavailable s call ≡ None
was_free found s call =
    by_served (λ v. is_refused (judged s v).reply ≡ false → unavailable s call ≡ None) found s call (λ r done. absurd (true≢false done)) (λ free done. free)

none_first : (o later : Option Refusal) → or_else o later ≡ None → o ≡ None
none_first None later e = refl
none_first (Some r) later e = cc

none_later : (o later : Option Refusal) → or_else o later ≡ None → later ≡ None
none_later None later e = e
none_later (Some r) later e = cc

-- nothing stands against its caller
pub caller_served : (s : State) (call : Call) → unavailable s call ≡ None → caller_refusal s.sessions call ≡ None
caller_served s call free = none_first (caller_refusal s.sessions call) _ (none_later (barred s call) _ free)

up_of : (k : Condition) (call : Call) → server_refusal k call ≡ None → wants_server call ≡ true → ((n : ℕ) → k ≢ condition.Doubt n) → k ≡ condition.Up
up_of condition.Up call free wants sure = refl
up_of condition.NoServer call free wants sure =
    let shut : Some refusal.SystemFailure ≡ None = sym (ap (λ b. if b then Some refusal.SystemFailure else None) wants) ∙ free in cc
up_of (condition.Doubt n) call free wants sure = absurd (sure n refl)

-- one that wants a lock server finds one, where the server isn't in doubt
pub served_up : (s : State) (call : Call) → unavailable s call ≡ None → wants_server call ≡ true → IsSure s → s.condition ≡ condition.Up
served_up s call free wants sure =
    up_of s.condition call (none_later (caller_refusal s.sessions call) _ (none_later (barred s call) _ free)) wants sure

-- ---- calls of a session

unless_holds : (Q : Verdict → Type 0) (o : Option Refusal) (v : Verdict) → ((r : Refusal) → Q (Refuses r)) → Q v → Q (unless_refused o v)
unless_holds Q None v refuse h = h
unless_holds Q (Some r) v refuse h = refuse r

called_holds : (Q : Verdict → Type 0) (found : Found) (s : State) (name : List ℕ) (call : SessionCall) (o : Option Session) → session_at s.sessions name ≡ o
    → ((r : Refusal) → Q (Refuses r))
    → ((x : Session) → session_at s.sessions name ≡ Some x → Q (session_call found s x call)) → Q (called found s call o)
called_holds Q found s name call None at refuse h = refuse refusal.UnknownSession
called_holds Q found s name call (Some x) at refuse h = h x at

-- one that isn't refused is of a session that is logged on
pub by_session : (Q : Verdict → Type 0) (found : Found) (s : State) (name : List ℕ) (call : SessionCall) → ((r : Refusal) → Q (Refuses r))
    → ((x : Session) → session_at s.sessions name ≡ Some x → Q (session_call found s x call)) → Q (call_verdict found s (OfSession name call))
unfolding call_verdict
by_session Q found s name call refuse h =
    unless_holds Q (unavailable s (OfSession name call)) (own_verdict found s (OfSession name call)) refuse
    (called_holds Q found s name call (session_at s.sessions name) refl refuse h)

one_of : (Q : Verdict → Type 0) (b : Bool) (v w : Verdict) → (b ≡ true → Q v) → (b ≡ false → Q w) → Q (if b then v else w)
one_of Q true v w p q = p refl
one_of Q false v w p q = q refl

none_has : (n : ℕ) → nat_eq n 0 ≡ true → nat_lt 0 n ≡ false
none_has n e = grind (arith, nat_tests)

one_has : (n : ℕ) → nat_eq n 0 ≡ false → nat_lt 0 n ≡ true
one_has n e = grind (arith, nat_tests)

-- what a commit comes to, by whether it has effects
pub record OfCommit (Q : Verdict → Type 0) (s : State) (x : Session) (parts : Parts) (stock : List Num) : Type 0 where
  pub refuses : (r : Refusal) → Q (Refuses r)
  pub nothing : nat_lt 0 (effects_in parts) ≡ false → Q (Leaves (stocked stock s) reply.Done)
  pub numbers : nat_lt 0 (effects_in parts) ≡ false → Q (Leaves (stocked stock (numbered s x (x.draws ++ stock))) reply.Done)
  pub records : nat_lt 0 (effects_in parts) ≡ true
      → Q (Leaves (stocked stock (committed s x parts (x.draws ++ stock))) (reply.Unit (unit_key s.stored.start x)))

pub by_commit : (Q : Verdict → Type 0) (s : State) (x : Session) (parts : Parts) (stock : List Num) → OfCommit Q s x parts stock
    → Q (commit s x parts stock)
by_commit Q s x parts stock each =
    let numbers = x.draws ++ stock in
    let effects = effects_in parts in
    let R : Verdict → Type 0 = λ v. Q (passing stock v) in
    one_of R (nat_lt 64 (length numbers) || nat_lt 200 effects) _ _ (λ e. each.refuses _)
    (λ e. one_of R (nat_eq effects 0 && nat_eq (length numbers) 0) _ _
    (λ f. each.nothing (none_has effects (and_parts (nat_eq effects 0) (nat_eq (length numbers) 0) f).0))
    (λ f. by_room R s _ (each.refuses _)
    (one_of R (nat_eq effects 0) _ _ (λ g. each.numbers (none_has effects g)) (λ g. each.records (one_has effects g)))))
