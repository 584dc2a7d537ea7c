-- The calls that the lines of a run make: its history is that of them, they lead to its end, and the counts of faults move in them
-- alone.
use Rattle.std.proofs.Common.{◌≡◌, ◌⊎◌, inl, inr, ℕ, ◌+◌, ◌≤◌, Bool, true, false, List, [], ◌∷◌, ◌++◌, append_assoc, length, refl, sym, ap, ◌∙◌, subst, arith}
use Rattle.std.specs.Prelude.{if◌then◌else◌, fold, Option, Some, None}
use Rattle.std.proofs.lemmas.List.{append-nil, map-append}
use Rattle.std.proofs.lemmas.List.Sums.{fold-append}
use Rattle.hall_calls.proofs.lemmas.Replies.{unnoted_same}
use Rattle.hall_calls.specs.Leaving.{HasCounted}
use Rattle.hall_laws.proofs.histories.NotedSteps.{AnswersFrom}
use Rattle.hall_laws.proofs.keeping.Unchanged.{served-past}
use Rattle.hall_model.specs.Devices.{AllWell, BackupFails, DeviceOutcome, Event, IsAllowed, LinkFails, NotRemade, StoreFails, Wanting, all_well, is_file_failure, is_store_failure}
use Rattle.hall_model.specs.History.{Served, after_of, is_unrecorded, served, step, takes_flight, with_entry}
use Rattle.hall_model.specs.Recall.{IsModelAnswer, Made, calls_of, recalled, state_after}
use Rattle.hall_model.specs.State.{State}
use Rattle.hall_model.specs.declared.command.Command.{Command}
use Rattle.hall_model.specs.declared.command.Reply.TheVariants as reply
use Rattle.script_lang.specs.Memory.{holds_lists}
use Rattle.script_lang.specs.declared.script_line.ScriptLine.{ScriptLine}
use Rattle.script_runner.specs.declared.runner.Why.{Why}
use Rattle.script_runner.specs.Counts.{CountsCalls, file_fails_in_call, store_fails_in_call}
use Rattle.script_runner.specs.Lines.{Meaning, Silent, Shows, Calls, Declines, Changes, line_in, meaning, settled}
use Rattle.script_runner.specs.MadeCalls.{made_as, made_by, made_if_kept, made_in, made_in_line, made_of, made_unless_ended}
use Rattle.script_runner.specs.Run.{AreAllowed, CallMayHave, Called, LineMayHave, LineOutcome, MayHave, NoRoom, Progress, Turn, after_turn, begun, does, file_fails, next, run, said, store_fails}
use Rattle.script_runner.specs.World.{World, setting_of, world}
use Rattle.script_runner.proofs.Counted.{CountsEach, file_fails_in, store_fails_in}
use Rattle.script_runner.proofs.TurnLemmas.{answered-world}

either : (P : Type 0) (b : Bool) → (b ≡ true → P) → (b ≡ false → P) → P
either P true f g = f refl
either P false f g = g refl

-- ---- calls that lead from one state to another

-- each is answered as the model answers it, they lead there, and the history is longer by just them
pub record Leads (s t : State) (made : List Made) : Type 0 where
  pub answers : AnswersFrom s made
  pub state : t ≡ state_after s made
  pub past : t.past ≡ s.past ++ calls_of made

leads_none : (s t : State) → t ≡ s → Leads s t []
leads_none s t same = record { answers = tt; state = same; past = ap (λ (x : State). x.past) same ∙ sym (append-nil s.past) }

answers_on : (s : State) (ms ns : List Made) → AnswersFrom s ms → AnswersFrom (state_after s ms) ns → AnswersFrom s (ms ++ ns)
answers_on s [] ns h k = k
answers_on s (m ∷ ms) ns h k = (h.0, answers_on (recalled s m) ms ns h.1 k)

leads_on : (s t u : State) (ms ns : List Made) → Leads s t ms → Leads t u ns → Leads s u (ms ++ ns)
leads_on s t u ms ns h k = record {
  answers = answers_on s ms ns h.answers (subst (λ x. AnswersFrom x ns) h.state k.answers);
  state = k.state ∙ ap (λ x. state_after x ns) h.state ∙ sym (fold-append recalled s ms ns);
  past = k.past ∙ ap (λ es. es ++ calls_of ns) h.past ∙ append_assoc s.past (calls_of ms) (calls_of ns)
      ∙ ap (λ es. s.past ++ es) (sym (map-append (λ (m : Made). m.call) ms ns));
}

-- a call, kept or not
module _ (s : State) (o : DeviceOutcome) (n : ℕ) (c : Command) (allowed : IsAllowed o s c) where
  abbrev ended : Served
  ended = served o s c

  abbrev entered : Served
  entered = record (served o s c) { state = with_entry n c (takes_flight o) (served o s c) }

  abbrev the_call : Made
  the_call = made_as o s n c

  unkept_leads : is_unrecorded ended.reply ≡ true → Leads s (step o s n c).state (made_if_kept o s n c)
  unkept_leads off =
      let stepped : step o s n c ≡ ended = ap (λ b. if b then ended else entered) off in
      let none : made_if_kept o s n c ≡ [] = ap (λ b. if b then [] else the_call ∷ []) off in
      subst (Leads s (step o s n c).state) (sym none)
      (leads_none s (step o s n c).state (ap (λ (x : Served). x.state) stepped ∙ unnoted_same o s c allowed.possible.lost off))

  kept_leads : is_unrecorded ended.reply ≡ false → Leads s (step o s n c).state (made_if_kept o s n c)
  kept_leads on =
      let stepped : step o s n c ≡ entered = ap (λ b. if b then ended else entered) on in
      let one : made_if_kept o s n c ≡ the_call ∷ [] = ap (λ b. if b then [] else the_call ∷ []) on in
      let answer : IsModelAnswer s the_call = record {
        who = refl;
        reply = ap (λ (x : Served). x.reply) stepped;
        after = sym (ap (λ (x : Served). after_of (takes_flight o) x.state) stepped);
        allowed = allowed;
      } in
      subst (Leads s (step o s n c).state) (sym one)
      (record {
        answers = (answer, tt);
        state = refl;
        past = ap (λ (x : Served). x.state.past) stepped ∙ ap (λ es. es ++ the_call.call ∷ []) (served-past o s c);
      })

  call_leads : Leads s (step o s n c).state (made_if_kept o s n c)
  call_leads = either _ (is_unrecorded ended.reply) unkept_leads kept_leads

-- ---- lines

does_leads : (w : World) (n : ℕ) (l : ScriptLine) (d : DeviceOutcome) (m : Meaning) → CallMayHave w d m
    → Leads w.hall (does w n l d m).world.hall (made_by w n d m)
does_leads w n l d Silent may = leads_none w.hall w.hall refl
does_leads w n l d (Shows m) may = leads_none w.hall w.hall refl
does_leads w n l d (Calls c) may =
    let s = step d w.hall n c in
    subst (λ (x : World). Leads w.hall x.hall (made_if_kept d w.hall n c))
    (sym (answered-world (world w.objects s.state (settled l s.reply w.sides)) n s.reply)) (call_leads w.hall d n c may)
does_leads w n l d (Declines r) may = leads_none w.hall _ (ap (λ (x : World). x.hall) (answered-world w n (reply.Refused r)))
does_leads w n l d (Changes sides) may = leads_none w.hall w.hall refl

said_leads : (w : World) (n : ℕ) (lists : Bool) (known : Option ScriptLine) (o : LineOutcome) → MayHave w lists known o
    → Leads w.hall (said w n known o).world.hall (made_in_line w n known o)
said_leads w n lists known NoRoom may = leads_none w.hall w.hall refl
said_leads w n lists None (Called d) may = leads_none w.hall w.hall refl
said_leads w n lists (Some l) (Called d) may = does_leads w n l d (meaning (setting_of w) l) may

turn_leads : (p : Progress) (t : Turn) (stop : Option Why) → LineMayHave p.world t.line t.outcome
    → Leads p.world.hall (after_turn stop p t).world.hall (made_unless_ended stop p t)
turn_leads p t None may = said_leads p.world (p.number + 1) (holds_lists t.line) (line_in t.line) t.outcome may
turn_leads p t (Some why) may = leads_none p.world.hall p.world.hall refl

-- so are those of a run
pub run_leads : (p : Progress) (turns : List Turn) → AreAllowed p turns → Leads p.world.hall (fold next p turns).world.hall (made_of p turns)
run_leads p [] allowed = leads_none p.world.hall p.world.hall refl
run_leads p (t ∷ ts) allowed =
    leads_on p.world.hall (next p t).world.hall (fold next (next p t) ts).world.hall (made_in p t) (made_of (next p t) ts)
    (turn_leads p t p.stop allowed.0) (run_leads (next p t) ts allowed.1)

-- ---- lines behind which none ended the run

next_counts : (p : Progress) (t : Turn) → (next p t).number ≤ p.number + 1
next_counts p t =
    elim (p.stop) as (λ o. (after_turn o p t).number ≤ p.number + 1) [ None ↦ omega arith | Some why ↦ omega arith ]

-- a run counts no more lines than it has turns
pub run_counts : (p : Progress) (turns : List Turn) → (fold next p turns).number ≤ p.number + length turns
run_counts p [] = omega arith
run_counts p (t ∷ ts) = omega (arith, run_counts (next p t) ts, next_counts p t)

-- before each of these lines the run goes on
abbrev GoesAll : Progress → List Turn → Type 0
GoesAll p [] = Unit {0}
GoesAll p (t ∷ ts) = (p.stop ≡ None) × GoesAll (next p t) ts

goes_first : (p : Progress) (t : Turn) (ts : List Turn) (o : Option Why) → p.stop ≡ o
    → (fold next (next p t) ts).number ≡ p.number + length (t ∷ ts) → p.stop ≡ None
goes_first p t ts None e all = e
goes_first p t ts (Some why) e all =
    let same : next p t ≡ p = ap (λ o. after_turn o p t) e in
    let number : (next p t).number ≡ p.number = ap (λ (q : Progress). q.number) same in
    absurd (omega (arith, run_counts (next p t) ts, number, all))

-- where it counts all of them
goes_all : (p : Progress) (turns : List Turn) → (fold next p turns).number ≡ p.number + length turns → GoesAll p turns
goes_all p [] all = tt
goes_all p (t ∷ ts) all =
    let goes : p.stop ≡ None = goes_first p t ts p.stop refl all in
    let number : (next p t).number ≡ p.number + 1 = ap (λ o. (after_turn o p t).number) goes in
    (goes, goes_all (next p t) ts (omega (arith, number, all)))

goes_from : (w : World) (turns : List Turn) → (run w turns).number ≡ length turns → GoesAll (begun w) turns
goes_from w turns all = goes_all (begun w) turns (omega (arith, all))

-- ---- the counts of faults

true_not_false : true ≡ false → ⊥
true_not_false e = cc

-- in a call that the history doesn't keep no device failed
unkept_well : (o : DeviceOutcome) (s : State) (c : Command) → is_unrecorded (served o s c).reply ≡ true
    → (is_store_failure o.event ≡ false) × (is_file_failure o.event ≡ false)
unkept_well o s c =
    elim o.event as (λ e. is_unrecorded (served (record { event = e; reading = o.reading; lost = o.lost }) s c).reply ≡ true
    → (is_store_failure e ≡ false) × (is_file_failure e ≡ false)) [
      | AllWell ↦ λ off. (refl, refl)
      | Wanting ↦ λ off. (refl, refl)
      | StoreFails ↦ λ off. absurd (true_not_false (sym off))
      | BackupFails ↦ λ off. absurd (true_not_false (sym off))
      | LinkFails ↦ λ off. (refl, refl)
      | NotRemade fault ↦ λ off. (refl, refl)
    ]

-- one device: when it failed in a call, and when in a line
module _ (fails : Event → Bool) (line_fails : LineOutcome → Bool) (well : fails AllWell ≡ false) (no_room : line_fails NoRoom ≡ false)
    (called : (d : DeviceOutcome) → line_fails (Called d) ≡ fails d.event)
    (unkept : (o : DeviceOutcome) (s : State) (c : Command) → is_unrecorded (served o s c).reply ≡ true → fails o.event ≡ false) where
  abbrev call_fails : Made → Bool
  call_fails m = fails m.outcome.event

  -- a line makes one call, in which it failed just where it did in the line, or none, and then it didn't fail
  abbrev MakesOne : List Made → Bool → Type 0
  MakesOne made failed = ((made ≡ []) × (failed ≡ false)) ⊎ ((m : Made) × ((made ≡ m ∷ []) × (call_fails m ≡ failed)))

  quiet_makes : (d : DeviceOutcome) → d ≡ all_well → MakesOne [] (line_fails (Called d))
  quiet_makes d quiet = inl (refl, called d ∙ ap (λ (x : DeviceOutcome). fails x.event) quiet ∙ well)

  call_makes : (w : World) (n : ℕ) (d : DeviceOutcome) (c : Command) → MakesOne (made_if_kept d w.hall n c) (line_fails (Called d))
  call_makes w n d c =
      let m = made_as d w.hall n c in
      either _ (is_unrecorded (served d w.hall c).reply)
      (λ off. inl (ap (λ b. if b then [] else m ∷ []) off, called d ∙ unkept d w.hall c off))
      (λ on. inr (m, (ap (λ b. if b then [] else m ∷ []) on, sym (called d))))

  does_makes : (w : World) (n : ℕ) (d : DeviceOutcome) (m : Meaning) → CallMayHave w d m → MakesOne (made_by w n d m) (line_fails (Called d))
  does_makes w n d Silent may = quiet_makes d may
  does_makes w n d (Shows m) may = quiet_makes d may
  does_makes w n d (Calls c) may = call_makes w n d c
  does_makes w n d (Declines r) may = quiet_makes d may
  does_makes w n d (Changes sides) may = quiet_makes d may

  said_makes : (w : World) (n : ℕ) (lists : Bool) (known : Option ScriptLine) (o : LineOutcome) → MayHave w lists known o
      → MakesOne (made_in_line w n known o) (line_fails o)
  said_makes w n lists known NoRoom may = inl (refl, no_room)
  said_makes w n lists None (Called d) may = quiet_makes d may
  said_makes w n lists (Some l) (Called d) may = does_makes w n d (meaning (setting_of w) l) may

  turn_makes : (p : Progress) (t : Turn) → p.stop ≡ None → LineMayHave p.world t.line t.outcome → MakesOne (made_in p t) (line_fails t.outcome)
  turn_makes p t goes may =
      subst (λ o. MakesOne (made_unless_ended o p t) (line_fails t.outcome)) (sym goes)
      (said_makes p.world (p.number + 1) (holds_lists t.line) (line_in t.line) t.outcome may)

  count_call : (made rest : List Made) (failed : Bool) (f g h : ℕ) → MakesOne made failed → HasCounted failed f g → CountsCalls call_fails rest g h
      → CountsCalls call_fails (made ++ rest) f h
  count_call made rest failed f g h (inl none) counted later =
      let still : g ≡ f = subst (λ b. HasCounted b f g) none.1 counted in
      subst (λ ms. CountsCalls call_fails (ms ++ rest) f h) (sym none.0) (subst (λ k. CountsCalls call_fails rest k h) still later)
  count_call made rest failed f g h (inr one) counted later =
      subst (λ ms. CountsCalls call_fails (ms ++ rest) f h) (sym one.1.0)
      (g, (subst (λ b. HasCounted b f g) (sym one.1.1) counted, later))

  count_line : (made rest : List Made) (failed : Bool) (f h : ℕ) → MakesOne made failed → CountsCalls call_fails (made ++ rest) f h
      → (g : ℕ) × (HasCounted failed f g × CountsCalls call_fails rest g h)
  count_line made rest failed f h (inl none) all = (
    f,
    (
      subst (λ b. HasCounted b f f) (sym none.1) refl,
      subst (λ ms. CountsCalls call_fails (ms ++ rest) f h) none.0 all,
    ),
  )
  count_line made rest failed f h (inr one) all =
      let each : CountsCalls call_fails (one.0 ∷ rest) f h = subst (λ ms. CountsCalls call_fails (ms ++ rest) f h) one.1.0 all in
      (each.0, (subst (λ b. HasCounted b f each.0) one.1.1 each.1.0, each.1.1))

  abbrev LinesCount : List Turn → ℕ → ℕ → Type 0
  LinesCount = CountsEach (λ t. line_fails t.outcome)

  -- the count over the lines is that over the calls that they make
  calls_counted : (p : Progress) (turns : List Turn) (f g : ℕ) → AreAllowed p turns → GoesAll p turns → LinesCount turns f g
      → CountsCalls call_fails (made_of p turns) f g
  calls_counted p [] f g allowed goes each = each
  calls_counted p (t ∷ ts) f g allowed goes each =
      count_call (made_in p t) (made_of (next p t) ts) (line_fails t.outcome) f each.0 g (turn_makes p t goes.0 allowed.0) each.1.0
      (calls_counted (next p t) ts each.0 g allowed.1 goes.1 each.1.1)

  -- and the other way round
  lines_counted : (p : Progress) (turns : List Turn) (f g : ℕ) → AreAllowed p turns → GoesAll p turns → CountsCalls call_fails (made_of p turns) f g
      → LinesCount turns f g
  lines_counted p [] f g allowed goes all = all
  lines_counted p (t ∷ ts) f g allowed goes all =
      let each = count_line (made_in p t) (made_of (next p t) ts) (line_fails t.outcome) f g (turn_makes p t goes.0 allowed.0) all in
      (each.0, (each.1.0, lines_counted (next p t) ts each.0 g allowed.1 goes.1 each.1.1))

-- ---- of both devices

pub store_calls : (w : World) (turns : List Turn) (f g : ℕ) → AreAllowed (begun w) turns → (run w turns).number ≡ length turns
    → CountsEach store_fails_in turns f g → CountsCalls store_fails_in_call (made_of (begun w) turns) f g
store_calls w turns f g allowed all each =
    calls_counted is_store_failure store_fails refl refl (λ d. refl) (λ o s c off. (unkept_well o s c off).0) (begun w) turns f g allowed
    (goes_from w turns all) each

pub file_calls : (w : World) (turns : List Turn) (f g : ℕ) → AreAllowed (begun w) turns → (run w turns).number ≡ length turns
    → CountsEach file_fails_in turns f g → CountsCalls file_fails_in_call (made_of (begun w) turns) f g
file_calls w turns f g allowed all each =
    calls_counted is_file_failure file_fails refl refl (λ d. refl) (λ o s c off. (unkept_well o s c off).1) (begun w) turns f g allowed
    (goes_from w turns all) each

-- line by line
pub store_lines : (w : World) (turns : List Turn) (f g : ℕ) → AreAllowed (begun w) turns → (run w turns).number ≡ length turns
    → CountsCalls store_fails_in_call (made_of (begun w) turns) f g → CountsEach store_fails_in turns f g
store_lines w turns f g allowed all counted =
    lines_counted is_store_failure store_fails refl refl (λ d. refl) (λ o s c off. (unkept_well o s c off).0) (begun w) turns f g allowed
    (goes_from w turns all) counted

pub file_lines : (w : World) (turns : List Turn) (f g : ℕ) → AreAllowed (begun w) turns → (run w turns).number ≡ length turns
    → CountsCalls file_fails_in_call (made_of (begun w) turns) f g → CountsEach file_fails_in turns f g
file_lines w turns f g allowed all counted =
    lines_counted is_file_failure file_fails refl refl (λ d. refl) (λ o s c off. (unkept_well o s c off).1) (begun w) turns f g allowed
    (goes_from w turns all) counted
