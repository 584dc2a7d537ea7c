-- Who is logged on behind a call: the caller as its call says, and any other session as it was.
use Rattle.std.proofs.Common.{◌≡◌, ℕ, Bool, true, false, ◌||◌, List, map, refl, sym, ap, ◌∙◌, subst}
use Rattle.std.specs.Prelude.{Option, Some, None, is_some, if◌then◌else◌}
use Rattle.std.specs.Cmp.Lexicographic.{bytes_decides}
use Rattle.std.specs.Option.{option_map}
use Rattle.std.specs.Str.{bytes_eq}
use Rattle.std.proofs.lemmas.Bool.{or_right}
use Rattle.number_ranges.specs.Intervals.{is_buffered}
use Rattle.number_ranges.specs.declared.interval.Interval.{Interval}
use Rattle.ledger_steps.specs.Drawn.{handed_out, num_of}
use Rattle.ledger_steps.specs.Levels.{present}
use Rattle.hall_laws.proofs.histories.LoggedOn.{Enters, OnDone, step_enters}
use Rattle.model_laws.proofs.ByCall.{OfEach, by_call}
use Rattle.hall_model.specs.Devices.{found_by}
use Rattle.hall_model.specs.Calls.{Call, LogsOn, OfSession, OfWorker, OfAdmin, LogsOff, Asks, Frees, FreesAll, Converts, Draws, Reserves, Reads, Commits, RollsBack, call_of}
use Rattle.hall_model.specs.History.{Served, judged, step}
use Rattle.hall_model.specs.Numbers.{drawn, raised_to}
use Rattle.hall_model.specs.Recall.{Made, again}
use Rattle.hall_model.specs.Sessions.{begun, bereft_if, session_at, with_draw, with_fresh_unit, with_mark, with_next_unit, with_session, without_draws, without_session}
use Rattle.hall_model.specs.State.{State}
use Rattle.hall_model.specs.Step.{Found, has_lock, posted_reply}
use Rattle.hall_model.specs.declared.command.Command.{Command}
use Rattle.hall_model.specs.declared.command.Command.TheVariants as command
use Rattle.hall_model.specs.declared.command.Reply.{Reply}
use Rattle.hall_model.specs.declared.command.Reply.TheVariants as reply
use Rattle.hall_model.specs.declared.command.Session.{Session}
use Rattle.cover_laws.proofs.needed.HallNeeded.{FitsReply, IsQuiet, LogonsBegin, LogsAreSeen, OthersLeaveOn, is_on, on_after}
use Rattle.cover_laws.specs.Histories.{is_refused}
use Rattle.cover_laws.proofs.calls.FittingReplies.{replies_fit}
use Rattle.cover_laws.proofs.sessions.NamedSessions.{KeepsNames, bereft_named, found_beside, found_changed, found_left, found_mapped, left_own, name_of, on_last}
use Rattle.cover_laws.proofs.calls.QuietCalls.{by_case, by_quiet, by_whom, is_own, is_served, of_false}

-- ---- lists of sessions

same_some : (change : Session → Session) (o : Option Session) → is_some (option_map change o) ≡ is_some o
same_some change None = refl
same_some change (Some x) = refl

-- a session that is changed is logged on as before
with_on : (change : Session → Session) → KeepsNames change → (name n : List ℕ) (xs : List Session)
    → is_some (session_at (with_session name change xs) n) ≡ is_some (session_at xs n)
with_on change keeps name n xs =
    by_case (bytes_eq name n)
    (λ e.
    ap (λ k. is_some (session_at (with_session k change xs) n)) ((bytes_decides name n).0 e)
    ∙ ap is_some (found_changed change keeps n xs)
    ∙ same_some change (session_at xs n))
    (λ e. ap is_some (found_beside change keeps name n e xs))

each_on : (change : Session → Session) → KeepsNames change → (n : List ℕ) (xs : List Session)
    → is_some (session_at (map change xs) n) ≡ is_some (session_at xs n)
each_on change keeps n xs = ap is_some (found_mapped change keeps n xs) ∙ same_some change (session_at xs n)

-- one that logs off isn't, and the others are as before
left_on : (name n : List ℕ) (xs : List Session)
    → is_some (session_at (without_session name xs) n) ≡ (if bytes_eq name n then false else is_some (session_at xs n))
left_on name n xs =
    let on = is_some (session_at xs n) in
    by_case (bytes_eq name n)
    (λ e.
    ap (λ k. is_some (session_at (without_session k xs) n)) ((bytes_decides name n).0 e)
    ∙ ap is_some (left_own n xs)
    ∙ sym (ap (λ b. if b then false else on) e))
    (λ e. ap is_some (found_left name n e xs) ∙ sym (ap (λ b. if b then false else on) e))

-- ---- a call

-- whether a session is logged on behind a call that isn't refused
abbrev on_behind : Call → List ℕ → Bool → Bool
on_behind (LogsOn other user) name before = before || bytes_eq other name
on_behind (OfSession other LogsOff) name before = if bytes_eq other name then false else before
on_behind call name before = before

abbrev Turns : List ℕ → State → Call → Served → Type 0
Turns name s call r = is_on r.state name ≡ (if is_refused r.reply then is_on s name else on_behind call name (is_on s name))

either_way : (b x : Bool) → x ≡ (if b then x else x)
either_way true x = refl
either_way false x = refl

drawn_on : (name : List ℕ) (s : State) (x : Session) (i : Interval) (number : ℕ) → is_on (drawn s x i number) name ≡ is_on s name
drawn_on name s x i number =
    let t : State = record s { sessions = with_session x.name (with_draw (num_of i number)) s.sessions } in
    let h = with_on (with_draw (num_of i number)) (λ n y. refl) x.name name s.sessions in
    let behind : Bool → State = λ b. if b then record t { ranges = handed_out i t.ranges; stored = raised_to i number t.stored } else t in
    elim (is_buffered i) as (λ b. is_on (behind b) name ≡ is_on s name) [
      | true ↦ h
      | false ↦ h
    ]

each_turns : (name : List ℕ) (found : Found) (s : State) → OfEach (λ call v. Turns name s call (judged s v)) found s
each_turns name found s = record {
  refuses = λ call r plain. refl;
  enters = λ other user free. on_last name s.sessions (begun other user s.next_session);
  logs_off = λ other x at.
      subst (λ k. is_some (session_at (without_session x.name s.sessions) name) ≡ (if bytes_eq k name then false else is_on s name))
      (name_of other s.sessions x at) (left_on x.name name s.sessions);
  grants = λ other x rs locks at e. refl;
  lowers = λ other x rs at. refl;
  frees = λ other x at. refl;
  converts = λ other x wanted c at e. refl;
  draws = λ other x object nr r at can. drawn_on name s x (present s.stored.levels r.interval) _;
  reserves = λ other x object nr upto r at can. refl;
  reads = λ other x table key at. refl;
  commits_nothing = λ other x parts stock at. refl;
  commits_numbers = λ other x parts stock at. with_on without_draws (λ n y. refl) x.name name s.sessions;
  commits = λ other x parts stock at. with_on with_next_unit (λ n y. refl) x.name name s.sessions;
  rolls_back = λ other x at. with_on with_fresh_unit (λ n y. refl) x.name name s.sessions;
  takes = λ worker part unit free e. refl;
  posts = λ worker part unit e. either_way (is_refused (posted_reply part unit (found.part part unit))) (is_on s name);
  drops = λ worker unit e. refl;
  kills = λ up. each_on (with_mark (has_lock s)) (λ n y. refl) name s.sessions;
  fails_over = λ can. each_on (with_mark (λ x. false)) (λ n y. refl) name s.sessions;
  strays = λ first second none. refl;
  attaches = λ up. refl;
  restarts = λ off. each_on (bereft_if s.failed_caller) (bereft_named s.failed_caller) name s.sessions;
  cancels = λ unit status can. refl;
  reopens = λ unit es here stand. refl;
  reposts = λ unit here. refl;
}

turns : (name : List ℕ) (s : State) (m : Made) → IsQuiet s m → Turns name s (call_of m.call.command) (again s m)
turns name s m quiet =
    let call = call_of m.call.command in
    let found = found_by m.outcome.reading s in
    by_quiet (Turns name s call) s m quiet (λ lost done h. h) (λ taken r h. h)
    (by_call (λ c v. Turns name s c (judged s v)) found s (each_turns name found s) call) refl refl

-- ---- the caller

own_behind : (name : List ℕ) (c : Command) (before : Bool) → is_own name (call_of c) ≡ true → on_behind (call_of c) name before ≡ on_after c before
own_behind name (command.Logon session user) before own = or_right before (bytes_eq session name) own
own_behind name (command.Logoff session) before own = ap (λ b. if b then false else before) own
own_behind name (command.Ask session requests) before own = refl
own_behind name (command.Free session requests) before own = refl
own_behind name (command.FreeAll session) before own = refl
own_behind name (command.Convert session asked) before own = refl
own_behind name (command.Number session object nr) before own = refl
own_behind name (command.Reserve session object nr upto) before own = refl
own_behind name (command.Read session table key) before own = refl
own_behind name (command.Commit session parts stock) before own = refl
own_behind name (command.Rollback session) before own = refl
own_behind name (command.Take1 worker) before own = of_false own
own_behind name (command.Take2 worker) before own = of_false own
own_behind name (command.Do1 worker) before own = of_false own
own_behind name (command.Do2 worker) before own = of_false own
own_behind name (command.DropOrder worker) before own = of_false own
own_behind name command.Kill before own = of_false own
own_behind name command.FailOver before own = of_false own
own_behind name command.Restart before own = of_false own
own_behind name command.Attach before own = of_false own
own_behind name (command.Cancel unit) before own = of_false own
own_behind name (command.Resubmit unit) before own = of_false own

pub logs_are_seen : LogsAreSeen
logs_are_seen s m name quiet is =
    let c = m.call.command in
    let before = is_on s name in
    let own = sym (by_whom s m name quiet.answer) ∙ is in
    turns name s m quiet
    ∙ ap (λ b. if b then before else on_behind (call_of c) name before) (is_served s m name quiet is)
    ∙ own_behind name c before own

-- ---- the others

or_none : (x y : Bool) → y ≡ false → (x || y) ≡ x
or_none true y e = refl
or_none false y e = e

other_behind : (name : List ℕ) (call : Call) (before : Bool) → is_own name call ≡ false → on_behind call name before ≡ before
other_behind name (LogsOn session user) before other = or_none before (bytes_eq session name) other
other_behind name (OfSession session LogsOff) before other = ap (λ b. if b then false else before) other
other_behind name (OfSession session (Asks requests)) before other = refl
other_behind name (OfSession session (Frees requests)) before other = refl
other_behind name (OfSession session FreesAll) before other = refl
other_behind name (OfSession session (Converts wanted)) before other = refl
other_behind name (OfSession session (Draws object nr)) before other = refl
other_behind name (OfSession session (Reserves object nr upto)) before other = refl
other_behind name (OfSession session (Reads table key)) before other = refl
other_behind name (OfSession session (Commits parts stock)) before other = refl
other_behind name (OfSession session RollsBack) before other = refl
other_behind name (OfWorker worker call) before other = refl
other_behind name (OfAdmin call) before other = refl

pub others_leave_on : OthersLeaveOn
others_leave_on s m name quiet is =
    let call = call_of m.call.command in
    let before = is_on s name in
    let refused = is_refused (again s m).reply in
    let other = sym (by_whom s m name quiet.answer) ∙ is in
    turns name s m quiet ∙ ap (λ y. if refused then before else y) (other_behind name call before other) ∙ sym (either_way refused before)

-- ---- a logon

done_enters : (P : Type 0) (r : Reply) → r ≡ reply.Done → OnDone r P → P
done_enters P r done h = subst (λ x. OnDone x P) done h

begins : (s : State) (m : Made) (c : Command) (other user : List ℕ) → c ≡ command.Logon other user → (step m.outcome s m.call.line c).reply ≡ reply.Done
    → Enters other s.sessions (step m.outcome s m.call.line c).state.sessions
begins s m c other user logs done =
    let r = step m.outcome s m.call.line c in
    let entered : OnDone r.reply (Enters other s.sessions r.state.sessions) =
    subst (λ (d : Command). OnDone (step m.outcome s m.call.line d).reply (Enters other s.sessions (step m.outcome s m.call.line d).state.sessions)) (sym logs)
    (step_enters m.outcome s m.call.line other user) in
    done_enters (Enters other s.sessions r.state.sessions) r.reply done entered

pub logons_begin : LogonsBegin
logons_begin s m name other user quiet is logs =
    let c = m.call.command in
    let own : bytes_eq other name ≡ true = ap (λ (d : Command). is_own name (call_of d)) (sym logs) ∙ sym (by_whom s m name quiet.answer) ∙ is in
    let fits : m.call.reply ≡ reply.Done = subst (λ d. FitsReply d m.call.reply) logs (replies_fit s m name quiet is) in
    let same : other ≡ name = (bytes_decides other name).0 own in
    ap (is_on s) (sym same) ∙ (begins s m c other user logs (quiet.answer.reply ∙ fits)).free
