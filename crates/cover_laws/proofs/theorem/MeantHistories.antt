-- Each call of a history that is meant is a quiet one.
use Rattle.std.proofs.Common.{◌≡◌, ℕ, ◌+◌, true, false, List, [], ◌∷◌, ◌++◌, refl, sym, ap, ◌∙◌}
use Rattle.std.proofs.lemmas.Bool.{or_parts}
use Rattle.std.proofs.lemmas.List.{append-nil}
use Rattle.std.specs.Prelude.{if◌then◌else◌}
use Rattle.std.specs.List.{list_any}
use Rattle.model_laws.proofs.ByCall.{OfEach, by_call, by_event, by_stock}
use Rattle.model_laws.proofs.NotedCalls.{by_noting}
use Rattle.hall_model.specs.Calls.{call_of}
use Rattle.hall_model.specs.Devices.{DeviceOutcome}
use Rattle.hall_model.specs.History.{judged, served, takes_flight, without_stock}
use Rattle.hall_model.specs.Numbers.{drawn, raised_to}
use Rattle.hall_model.specs.Recall.{IsModelAnswer, Made, calls_of, recalled}
use Rattle.hall_model.specs.Sessions.{with_draw, with_session}
use Rattle.hall_model.specs.State.{State}
use Rattle.hall_model.specs.Step.{Found}
use Rattle.hall_model.specs.declared.command.Command.{Command}
use Rattle.hall_model.specs.declared.command.Session.{Session}
use Rattle.hall_laws.proofs.histories.NotedSteps.{AnswersFrom, answers_before}
use Rattle.hall_laws.proofs.keeping.InFlight.{HoldsAll, step_all}
use Rattle.ledger_steps.specs.Drawn.{handed_out, num_of}
use Rattle.ledger_steps.specs.Levels.{present}
use Rattle.number_ranges.specs.Intervals.{is_buffered}
use Rattle.number_ranges.specs.declared.interval.Interval.{Interval}
use Rattle.lock_objects.specs.Objects.{Object}
use Rattle.coverage.specs.Lacks.{Numbered}
use Rattle.cover_laws.proofs.needed.HallNeeded.{AreQuiet, IsQuiet, IsReached}
use Rattle.cover_laws.specs.Histories.{fails_a_session, tries_again}
use Rattle.cover_laws.specs.Safe.{IsBegun, IsWithin, StaysSure}

-- ---- what the devices tell

record TellsOn (s t : State) : Type 0 where
  told : t.told ≡ s.told
  link_told : t.link_told ≡ s.link_told

tells : (s : State) → TellsOn s s
tells s = record { told = refl; link_told = refl }

drawn_tells : (s : State) (x : Session) (i : Interval) (number : ℕ) → TellsOn s (drawn s x i number)
drawn_tells s x i number =
    let t : State = record s { sessions = with_session x.name (with_draw (num_of i number)) s.sessions } in
    elim (is_buffered i) as (λ b. TellsOn s (if b then record t { ranges = handed_out i t.ranges; stored = raised_to i number t.stored } else t)) [
      | true ↦ record { told = refl; link_told = refl }
      | false ↦ record { told = refl; link_told = refl }
    ]

each-tells : (found : Found) (s : State) → OfEach (λ call v. TellsOn s (judged s v).state) found s
each-tells found s = record {
  refuses = λ call r plain. tells s;
  enters = λ name user free. record { told = refl; link_told = refl };
  logs_off = λ name x at. record { told = refl; link_told = refl };
  grants = λ name x rs locks at e. record { told = refl; link_told = refl };
  lowers = λ name x rs at. record { told = refl; link_told = refl };
  frees = λ name x at. record { told = refl; link_told = refl };
  converts = λ name x wanted c at e. record { told = refl; link_told = refl };
  draws = λ name x object nr r at can. drawn_tells s x (present s.stored.levels r.interval) _;
  reserves = λ name x object nr upto r at can. record { told = refl; link_told = refl };
  reads = λ name x table key at. tells s;
  commits_nothing = λ name x parts stock at. tells s;
  commits_numbers = λ name x parts stock at. record { told = refl; link_told = refl };
  commits = λ name x parts stock at. record { told = refl; link_told = refl };
  rolls_back = λ name x at. record { told = refl; link_told = refl };
  takes = λ worker part unit free e. record { told = refl; link_told = refl };
  posts = λ worker part unit e. record { told = refl; link_told = refl };
  drops = λ worker unit e. record { told = refl; link_told = refl };
  kills = λ up. record { told = refl; link_told = refl };
  fails_over = λ can. record { told = refl; link_told = refl };
  strays = λ first second none. record { told = refl; link_told = refl };
  attaches = λ up. record { told = refl; link_told = refl };
  restarts = λ off. record { told = refl; link_told = refl };
  cancels = λ unit status can. record { told = refl; link_told = refl };
  reopens = λ unit es here stand. record { told = refl; link_told = refl };
  reposts = λ unit here. record { told = refl; link_told = refl };
}

same_tells : (s t u : State) → u.told ≡ t.told → u.link_told ≡ t.link_told → TellsOn s t → TellsOn s u
same_tells s t u told link h = record { told = told ∙ h.told; link_told = link ∙ h.link_told }

served-tells : (o : DeviceOutcome) (s : State) (c : Command) → TellsOn s (served o s c).state
served-tells o s c =
    let unstocked : TellsOn s (without_stock (call_of c) s) =
    by_stock (λ call t. TellsOn s t) s (λ name parts stock. record { told = refl; link_told = refl }) (λ call. tells s) (call_of c) in
    by_event (λ r. TellsOn s r.state) o s c (λ lost done h. same_tells s done.state _ refl refl h)
    (λ found. by_call (λ call v. TellsOn s (judged s v).state) found s (each-tells found s) _) (tells s) (record { told = refl; link_told = refl })
    (λ reading. same_tells s (without_stock (call_of c) s) _ refl refl unstocked) (λ reading. record { told = refl; link_told = refl })
    (λ read r. record { told = refl; link_told = refl })

recalled-tells : (s : State) (m : Made) → TellsOn s (recalled s m)
recalled-tells s m =
    let h = served-tells m.outcome s m.call.command in
    let r = served m.outcome s m.call.command in
    by_noting (λ x. TellsOn s x.state) m.call.line m.call.command (takes_flight m.outcome) r h (same_tells s r.state _ refl refl h)

-- ---- what goes on along a history

-- a state in order, whose devices tell what they have
record GoesRight (s : State) : Type 0 where
  reached : IsReached s
  told : s.told ≡ true

first_right : (first : State) → IsBegun first → GoesRight first
first_right first h =
    let kept = h.order in
    record {
      reached = record {
        calls = _;
        few = kept.few;
        steady = kept.steady;
        sound = kept.sound;
        open_units = kept.open_units;
        state_in_flight = kept.state_in_flight;
        link_told = ap (λ s. s.link_told) h.start;
      };
      told = ap (λ s. s.told) h.start;
    }

next_right : (s : State) (m : Made) → GoesRight s → IsModelAnswer s m → GoesRight (recalled s m)
next_right s m h answer =
    let reached = h.reached in
    let before : HoldsAll reached.calls s = record {
      holds = record { few = reached.few; steady = reached.steady };
      sound = reached.sound;
      open_units = reached.open_units;
      state_in_flight = reached.state_in_flight;
    } in
    let after : HoldsAll (reached.calls + 1) (recalled s m) = step_all reached.calls m.outcome s m.call.line m.call.command answer.allowed before in
    let tells = recalled-tells s m in
    record {
      reached = record {
        calls = reached.calls + 1;
        few = after.holds.few;
        steady = after.holds.steady;
        sound = after.sound;
        open_units = after.open_units;
        state_in_flight = after.state_in_flight;
        link_told = tells.link_told ∙ reached.link_told;
      };
      told = tells.told ∙ h.told;
    }

quiet_from : (s : State) (made : List Made) → GoesRight s → AnswersFrom s made → StaysSure s made → list_any tries_again (calls_of made) ≡ false
    → list_any fails_a_session (calls_of made) ≡ false → AreQuiet s made
quiet_from s [] right answers sure once served = tt
quiet_from s (m ∷ ms) right answers sure once served =
    let once_parts = or_parts (tries_again m.call) (list_any tries_again (calls_of ms)) once in
    let served_parts = or_parts (fails_a_session m.call) (list_any fails_a_session (calls_of ms)) served in
    let now : IsQuiet s m = record {
      reached = right.reached;
      answer = answers.0;
      sure = λ k. sure [] (m ∷ ms) k refl;
      sure_behind = λ k. sure (m ∷ []) ms k refl;
      once = once_parts.0;
      served = served_parts.0;
      told = right.told;
    } in
    let sure_then : StaysSure (recalled s m) ms = λ earlier later k e. sure (m ∷ earlier) later k (ap (λ es. m ∷ es) e) in
    (now, quiet_from (recalled s m) ms (next_right s m right answers.0) answers.1 sure_then once_parts.1 served_parts.1)

-- each call of a history of these lines
pub within_quiet : (objects : List Object) (lines : List Numbered) (first : State) (made : List Made) → IsWithin objects lines first made → AreQuiet first made
within_quiet objects lines first made h =
    quiet_from first made (first_right first h.begun) (answers_before first made made [] h.answers (sym (append-nil made))) h.sure h.once h.served

-- a state that is followed by a call
pub reached_now : (s : State) (xs later : List Made) (m : Made) → AreQuiet s (xs ++ m ∷ later) → IsReached s
reached_now s [] later m h = h.0.reached
reached_now s (x ∷ xs) later m h = h.0.reached
