-- Who is logged on: a call leaves the sessions logged on, but for the one that it logs off.
use Rattle.std.proofs.Common.{◌≡◌, inl, inr, ℕ, Bool, true, false, true≢false, cond, List, [], ◌∷◌, ◌++◌, map, refl, sym, ap, ◌∙◌, subst}
use Rattle.std.specs.Prelude.{IsTrue, Option, Some, if◌then◌else◌, is_some}
use Rattle.std.specs.Cmp.Lexicographic.{bytes_decides}
use Rattle.std.specs.Str.{bytes_eq}
use Rattle.std.proofs.lemmas.Bool.{cases_Bool}
use Rattle.model_laws.proofs.ByCall.{OfEach, by_call, by_event, by_stock}
use Rattle.model_laws.proofs.NotedCalls.{by_noting}
use Rattle.model_laws.proofs.FoundSessions.{found_name}
use Rattle.hall_model.specs.declared.command.Command.{Command}
use Rattle.hall_model.specs.declared.command.Command.TheVariants as command
use Rattle.hall_model.specs.declared.command.Reply.{Reply}
use Rattle.hall_model.specs.declared.command.Reply.TheVariants as reply
use Rattle.hall_model.specs.declared.command.Session.{Session}
use Rattle.hall_model.specs.Calls.{Call, LogsOn, OfSession, OfWorker, OfAdmin, LogsOff, call_of}
use Rattle.hall_model.specs.Devices.{DeviceOutcome}
use Rattle.hall_model.specs.History.{IsStep, Served, had_lock, judged, served, step, takes_flight, without_stock}
use Rattle.hall_model.specs.Sessions.{begun, bereft, bereft_if, is_called, loses, session_at, with_draw, with_fresh_unit, with_mark, with_marks, with_next_unit}
use Rattle.hall_model.specs.Sessions.{with_session, without_draws, without_session}
use Rattle.hall_model.specs.Numbers.{drawn, raised_to}
use Rattle.ledger_steps.specs.Drawn.{handed_out, num_of}
use Rattle.hall_model.specs.State.{State}
use Rattle.number_ranges.specs.Intervals.{is_buffered}
use Rattle.number_ranges.specs.declared.interval.Interval.{Interval}
use Rattle.ledger_steps.specs.Levels.{present}
use Rattle.hall_model.specs.Step.{Found, Leaves, has_lock, logged_off}

abbrev pub IsLoggedOn : List Session → List ℕ → Type 0
IsLoggedOn sessions name = IsTrue (is_some (session_at sessions name))

-- ---- lists of sessions

logged_push : (xs : List Session) (y : Session) (n : List ℕ) → IsLoggedOn xs n → IsLoggedOn (xs ++ y ∷ []) n
logged_push [] y n h = absurd (cc)
logged_push (x ∷ xs) y n h =
    elim (is_called n x) as (λ b. IsTrue (is_some (cond b (Some x) (session_at xs n))) → IsTrue (is_some (cond b (Some x) (session_at (xs ++ y ∷ []) n)))) [
      | true ↦ λ k. refl
      | false ↦ λ k. logged_push xs y n k
    ] h

logged_last : (xs : List Session) (y : Session) → IsLoggedOn (xs ++ y ∷ []) y.name
logged_last [] y = rw ((bytes_decides y.name y.name).1 refl) refl
logged_last (x ∷ xs) y =
    elim (is_called y.name x) as (λ b. IsTrue (is_some (cond b (Some x) (session_at (xs ++ y ∷ []) y.name)))) [ true ↦ refl | false ↦ logged_last xs y ]

-- another name than this one
apart : (own name n : List ℕ) → bytes_eq own name ≡ true → bytes_eq n name ≡ false → bytes_eq own n ≡ false
apart own name n same other =
    elim (cases_Bool (bytes_eq own n)) [
      | inl e ↦
          let is : n ≡ name = sym ((bytes_decides own n).0 e) ∙ (bytes_decides own name).0 same in
          absurd (true≢false (sym ((bytes_decides n name).1 is) ∙ other))
      | inr e ↦ e
    ]

logged_without : (name : List ℕ) (xs : List Session) (n : List ℕ) → bytes_eq n name ≡ false → IsLoggedOn xs n → IsLoggedOn (without_session name xs) n
logged_without name [] n other h = h
logged_without name (x ∷ xs) n other h =
    elim (cases_Bool (is_called name x)) [
      | inl t ↦
          let c : is_called n x ≡ false = apart x.name name n t other in
          let k = rw c at h in
          rw t (logged_without name xs n other k)
      | inr t ↦
          rw t
          (elim (is_called n x)
          as (λ b. IsTrue (is_some (cond b (Some x) (session_at xs n))) → IsTrue (is_some (cond b (Some x) (session_at (without_session name xs) n)))) [
            | true ↦ λ k. refl
            | false ↦ λ k. logged_without name xs n other k
          ] h)
    ]

-- a change that leaves the names
logged_with : (change : Session → Session) → ((m : List ℕ) (x : Session) → is_called m (change x) ≡ is_called m x)
    → (name : List ℕ) (xs : List Session) (n : List ℕ) → IsLoggedOn xs n → IsLoggedOn (with_session name change xs) n
logged_with change own name [] n h = h
logged_with change own name (x ∷ xs) n h =
    elim (is_called name x) as (λ b. IsLoggedOn (cond b (change x ∷ xs) (x ∷ with_session name change xs)) n) [
      | true ↦
          subst (λ b. IsTrue (is_some (cond b (Some (change x)) (session_at xs n)))) (sym (own n x))
          (elim (is_called n x) as (λ b. IsTrue (is_some (cond b (Some x) (session_at xs n))) → IsTrue (is_some (cond b (Some (change x)) (session_at xs n)))) [
            | true ↦ λ k. refl
            | false ↦ λ k. k
          ] h)
      | false ↦
          elim (is_called n x)
          as (λ b. IsTrue (is_some (cond b (Some x) (session_at xs n))) → IsTrue (is_some (cond b (Some x) (session_at (with_session name change xs) n)))) [
            | true ↦ λ k. refl
            | false ↦ λ k. logged_with change own name xs n k
          ] h
    ]

-- a change of each session that leaves the names
logged_map : (change : Session → Session) → ((m : List ℕ) (x : Session) → is_called m (change x) ≡ is_called m x) → (xs : List Session) (n : List ℕ)
    → IsLoggedOn xs n → IsLoggedOn (map change xs) n
logged_map change own [] n h = h
logged_map change own (x ∷ xs) n h =
    subst (λ b. IsTrue (is_some (cond b (Some (change x)) (session_at (map change xs) n)))) (sym (own n x))
    (elim (is_called n x)
    as (λ b. IsTrue (is_some (cond b (Some x) (session_at xs n))) → IsTrue (is_some (cond b (Some (change x)) (session_at (map change xs) n)))) [
      | true ↦ λ k. refl
      | false ↦ λ k. logged_map change own xs n k
    ] h)

logged_marks : (had : Session → Bool) (xs : List Session) (n : List ℕ) → IsLoggedOn xs n → IsLoggedOn (with_marks had xs) n
logged_marks had xs n h = logged_map (with_mark had) (λ m x. refl) xs n h

bereft_called : (caller : Option (List ℕ)) (m : List ℕ) (x : Session) → is_called m (bereft_if caller x) ≡ is_called m x
bereft_called caller m x = elim (loses caller x) as (λ b. is_called m (if b then bereft x else x) ≡ is_called m x) [ true ↦ refl | false ↦ refl ]

-- ---- a call

-- whether the call logs this session off
abbrev pub logs_off_name : Call → Reply → List ℕ → Bool
logs_off_name (OfSession name LogsOff) reply.Done n = bytes_eq n name
logs_off_name _ _ n = false

abbrev pub KeepsSessions : State → Call → Served → Type 0
KeepsSessions s call r = (n : List ℕ) → logs_off_name call r.reply n ≡ false → IsLoggedOn s.sessions n → IsLoggedOn r.state.sessions n

left_keeps : (s : State) (name : List ℕ) (x : Session) → session_at s.sessions name ≡ Some x
    → KeepsSessions s (OfSession name LogsOff) (judged s (Leaves (logged_off s x) reply.Done))
left_keeps s name x found n off h =
    let own : x.name ≡ name = (bytes_decides x.name name).0 (found_name name s.sessions x found) in
    logged_without x.name s.sessions n (ap (bytes_eq n) own ∙ off) h

drawn_keeps : (s : State) (x : Session) (i : Interval) (number : ℕ) (n : List ℕ) → IsLoggedOn s.sessions n → IsLoggedOn (drawn s x i number).sessions n
drawn_keeps s x i number n h =
    let t : State = record s { sessions = with_session x.name (with_draw (num_of i number)) s.sessions } in
    elim (is_buffered i) as (λ b. IsLoggedOn (if b then record t { ranges = handed_out i t.ranges; stored = raised_to i number t.stored } else t).sessions n) [
      | true ↦ logged_with (with_draw (num_of i number)) (λ m y. refl) x.name s.sessions n h
      | false ↦ logged_with (with_draw (num_of i number)) (λ m y. refl) x.name s.sessions n h
    ]

keeps : (found : Found) (s : State) → OfEach (λ call v. KeepsSessions s call (judged s v)) found s
keeps found s = record {
  refuses = λ call r plain n off h. h;
  enters = λ name user free n off h. logged_push s.sessions _ n h;
  logs_off = λ name x at. left_keeps s name x at;
  grants = λ name x rs locks at e n off h. h;
  lowers = λ name x rs at n off h. h;
  frees = λ name x at n off h. h;
  converts = λ name x wanted c at e n off h. h;
  draws = λ name x object nr r at can n off h. drawn_keeps s x (present s.stored.levels r.interval) _ n h;
  reserves = λ name x object nr upto r at can n off h. h;
  reads = λ name x table key at n off h. h;
  commits_nothing = λ name x parts stock at n off h. h;
  commits_numbers = λ name x parts stock at n off h. logged_with without_draws (λ m y. refl) x.name s.sessions n h;
  commits = λ name x parts stock at n off h. logged_with with_next_unit (λ m y. refl) x.name s.sessions n h;
  rolls_back = λ name x at n off h. logged_with with_fresh_unit (λ m y. refl) x.name s.sessions n h;
  takes = λ worker part unit free e n off h. h;
  posts = λ worker part unit e n off h. h;
  drops = λ worker unit e n off h. h;
  kills = λ up n off h. logged_marks (has_lock s) s.sessions n h;
  fails_over = λ can n off h. logged_marks (λ x. false) s.sessions n h;
  strays = λ first second none n off h. h;
  attaches = λ up n off h. h;
  restarts = λ was n off h. logged_map (bereft_if s.failed_caller) (bereft_called s.failed_caller) s.sessions n h;
  cancels = λ unit status can n off h. h;
  reopens = λ unit es here stand n off h. h;
  reposts = λ unit here n off h. h;
}

-- where the store fails all stay logged on
failing_keeps : (s : State) (call : Call) (n : List ℕ) → IsLoggedOn s.sessions n → IsLoggedOn (without_stock call s).sessions n
failing_keeps s call n h = by_stock (λ c t. IsLoggedOn t.sessions n) s (λ name parts stock. h) (λ c. h) call

pub step_keeps : (o : DeviceOutcome) (s : State) (line : ℕ) (c : Command) → KeepsSessions s (call_of c) (step o s line c)
step_keeps o s line c =
    let call = call_of c in
    let t = without_stock call s in
    let h =
    by_event (KeepsSessions s call) o s c (λ lost done h. h) (λ found. by_call (λ other v. KeepsSessions s other (judged s v)) found s (keeps found s) _)
    (λ n off k. k) (λ n off k. k)
    (λ reading n off k. logged_marks (had_lock t) t.sessions n (failing_keeps s call n k))
    (λ reading n off k. logged_marks (had_lock s) s.sessions n k) (λ read r n off k. logged_marks (had_lock s) s.sessions n k) in
    by_noting (KeepsSessions s call) line c (takes_flight o) (served o s c) h h

-- ---- a logon

-- where the logon is done, the session is logged on, and wasn't before
pub record Enters (name : List ℕ) (before after : List Session) : Type 0 where
  pub free : is_some (session_at before name) ≡ false
  pub entered : IsLoggedOn after name

abbrev pub OnLogon : Call → (List ℕ → Type 0) → Type 0
OnLogon (LogsOn name user) P = P name
OnLogon call P = Unit {0}

abbrev pub OnDone : Reply → Type 0 → Type 0
OnDone reply.Done P = P
OnDone _ P = Unit {0}

abbrev pub MayEnter : State → Call → Served → Type 0
MayEnter s call r = OnLogon call (λ name. OnDone r.reply (Enters name s.sessions r.state.sessions))

nothing : (call : Call) (P : List ℕ → Type 0) → ((name : List ℕ) → P name) → OnLogon call P
nothing (LogsOn name user) P h = h name
nothing (OfSession name call) P h = tt
nothing (OfWorker worker call) P h = tt
nothing (OfAdmin call) P h = tt

enters : (found : Found) (s : State) → OfEach (λ call v. MayEnter s call (judged s v)) found s
enters found s = record {
  refuses = λ call r plain. nothing call _ (λ name. tt);
  enters = λ name user free. record { free = free; entered = logged_last s.sessions (begun name user s.next_session) };
  logs_off = λ name x at. tt;
  grants = λ name x rs locks at e. tt;
  lowers = λ name x rs at. tt;
  frees = λ name x at. tt;
  converts = λ name x wanted c at e. tt;
  draws = λ name x object nr r at can. tt;
  reserves = λ name x object nr upto r at can. tt;
  reads = λ name x table key at. tt;
  commits_nothing = λ name x parts stock at. tt;
  commits_numbers = λ name x parts stock at. tt;
  commits = λ name x parts stock at. tt;
  rolls_back = λ name x at. tt;
  takes = λ worker part unit free e. tt;
  posts = λ worker part unit e. tt;
  drops = λ worker unit e. tt;
  kills = λ up. tt;
  fails_over = λ can. tt;
  strays = λ first second none. tt;
  attaches = λ up. tt;
  restarts = λ off. tt;
  cancels = λ unit status can. tt;
  reopens = λ unit es here stand. tt;
  reposts = λ unit here. tt;
}

pub step_enters : (o : DeviceOutcome) (s : State) (line : ℕ) (name user : List ℕ) → MayEnter s (LogsOn name user) (step o s line (command.Logon name user))
step_enters o s line name user =
    let c = command.Logon name user in
    let k =
    by_event (MayEnter s (call_of c)) o s c (λ lost done h. h)
    (λ found. by_call (λ call v. MayEnter s call (judged s v)) found s (enters found s) (call_of c)) tt tt
    (λ reading. tt) (λ reading. tt) (λ read r. tt) in
    by_noting (MayEnter s (call_of c)) line c (takes_flight o) (served o s c) k k

pub logon_enters : (old new : State) (line : ℕ) (name user : List ℕ) → IsStep old new line (command.Logon name user) reply.Done
    → Enters name old.sessions new.sessions
logon_enters old new line name user h =
    subst (λ (r : Served). OnDone r.reply (Enters name old.sessions r.state.sessions)) (sym h.same) (step_enters h.outcome old line name user)
