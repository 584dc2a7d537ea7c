-- The session of each private side is logged on, whatever the lines do.
use Rattle.std.proofs.Common.{◌≡◌, ℕ, ◌+◌, Bool, true, false, true≢false, cond, inl, inr, List, [], ◌∷◌, ◌++◌, refl, sym, ap, ◌∙◌, subst}
use Rattle.std.specs.Prelude.{decimal, nat_eq, nat_le, nat_lt, length, if◌then◌else◌, fold, Option, Some, None, Result, Ok, Err, is_some}
use Rattle.std.specs.Cmp.Lexicographic.{bytes_decides}
use Rattle.std.specs.Str.{bytes_eq}
use Rattle.std.proofs.lemmas.Bool.{cases_Bool}
use Rattle.enq_base.specs.declared.refusal.Refusal.{Refusal}
use Rattle.enq_base.specs.declared.refusal.Refusal.TheVariants as refusal
use Rattle.enq_base.specs.declared.unit.Effect.{Effect}
use Rattle.dialogue_session.specs.Private.{Private, with_effect, with_requests, with_variable, without_effects, without_requests}
use Rattle.hall_laws.proofs.histories.LoggedOn as Logons
use Rattle.hall_laws.proofs.histories.LoggedOn.{IsLoggedOn, OnDone, logs_off_name, step_enters, step_keeps}
use Rattle.hall_model.specs.Calls.{call_of}
use Rattle.hall_model.specs.Devices.{DeviceOutcome}
use Rattle.hall_model.specs.History.{step}
use Rattle.hall_model.specs.Sessions.{session_at}
use Rattle.hall_model.specs.Step.{effects_in}
use Rattle.hall_model.specs.declared.command.Command.TheVariants as command
use Rattle.hall_model.specs.declared.command.Reply.{Reply}
use Rattle.hall_model.specs.declared.command.Reply.TheVariants as reply
use Rattle.hall_model.specs.declared.command.Session.{Session}
use Rattle.script_lang.specs.declared.script_line.ScriptLine.{ScriptLine}
use Rattle.script_lang.specs.declared.script_line.ScriptLine.TheVariants as line
use Rattle.script_runner.specs.declared.effects.Verb.{Verb}
use Rattle.script_runner.specs.declared.effects.Verb.TheVariants as verb
use Rattle.script_runner.specs.Lines.{Meaning, Silent, Shows, Calls, Declines, Changes, asking, collecting, effect_with, effecting, key_with, line_in, meaning}
use Rattle.script_runner.specs.Lines.{of_session, registering, requesting, settled, unless_refused}
use Rattle.script_runner.specs.Run.{LineOutcome, NoRoom, Called, Turn, Turned, Progress, after_turn, does, next, said}
use Rattle.script_runner.specs.Sides.{AreLoggedOn, container_of, is_side_of, parts_of, side_of, variables_of, with_new_side, with_side, without_side}
use Rattle.script_runner.specs.World.{World, setting_of, world}
use Rattle.script_runner.proofs.TurnLemmas.{answered-world}

-- ---- lists of sides

-- a session that isn't logged on has no side
pub no_side : (sessions : List Session) (sides : List Private) (name : List ℕ) → AreLoggedOn sessions sides → is_some (session_at sessions name) ≡ false
    → is_some (side_of sides name) ≡ false
no_side sessions [] name h none = refl
no_side sessions (p ∷ ps) name h none =
    elim (cases_Bool (is_side_of name p)) [
      | inl t ↦
          let own : p.session ≡ name = (bytes_decides p.session name).0 t in
          absurd (true≢false (sym h.0 ∙ ap (λ n. is_some (session_at sessions n)) own ∙ none))
      | inr t ↦ rw t (no_side sessions ps name h.1 none)
    ]

-- none of the sessions has logged off
kept : (before after : List Session) (sides : List Private) → ((n : List ℕ) → IsLoggedOn before n → IsLoggedOn after n) → AreLoggedOn before sides
    → AreLoggedOn after sides
kept before after [] keeps h = tt
kept before after (p ∷ ps) keeps h = (keeps p.session h.0, kept before after ps keeps h.1)

changed : (sessions : List Session) (name : List ℕ) (change : Private → Private) → ((p : Private) → (change p).session ≡ p.session) → (sides : List Private)
    → AreLoggedOn sessions sides → AreLoggedOn sessions (with_side name change sides)
changed sessions name change same [] h = tt
changed sessions name change same (p ∷ ps) h =
    elim (is_side_of name p) as (λ b. AreLoggedOn sessions (cond b (change p ∷ ps) (p ∷ with_side name change ps))) [
      | true ↦ (subst (IsLoggedOn sessions) (sym (same p)) h.0, h.1)
      | false ↦ (h.0, changed sessions name change same ps h.1)
    ]

added : (sessions : List Session) (name : List ℕ) (sides : List Private) → IsLoggedOn sessions name → AreLoggedOn sessions sides
    → AreLoggedOn sessions (with_new_side name sides)
added sessions name [] new h = (new, tt)
added sessions name (p ∷ ps) new h = (h.0, added sessions name ps new h.1)

-- the session of this name has logged off, and its side is gone
ended : (before after : List Session) (name : List ℕ) (sides : List Private)
    → ((n : List ℕ) → bytes_eq n name ≡ false → IsLoggedOn before n → IsLoggedOn after n) → AreLoggedOn before sides
    → AreLoggedOn after (without_side name sides)
ended before after name [] keeps h = tt
ended before after name (p ∷ ps) keeps h =
    elim (cases_Bool (is_side_of name p)) [
      | inl t ↦ rw t (ended before after name ps keeps h.1)
      | inr t ↦ rw t (keeps p.session t h.0, ended before after name ps keeps h.1)
    ]

pub effect_session : (part : ℕ) (e : Effect) (p : Private) → (with_effect part e p).session ≡ p.session
effect_session part e p =
    elim (nat_eq part 1) as (λ b. (if b then record p { v1 = p.v1 ++ e ∷ [] } else record p { v2 = p.v2 ++ e ∷ [] }).session ≡ p.session)
    [ true ↦ refl | false ↦ refl ]

-- ---- a line

abbrev ends_name : ScriptLine → Reply → List ℕ → Bool
ends_name (line.Logoff s) r n = logs_off_name (call_of (command.Logoff s)) r n
ends_name _ r n = false

abbrev Enters : ScriptLine → Reply → List Session → Type 0
Enters (line.Logon s user) r sessions = OnDone r (IsLoggedOn sessions s)
Enters _ r sessions = Unit {0}

settled_logged : (l : ScriptLine) (r : Reply) (before after : List Session) (sides : List Private)
    → ((n : List ℕ) → ends_name l r n ≡ false → IsLoggedOn before n → IsLoggedOn after n) → Enters l r after → AreLoggedOn before sides
    → AreLoggedOn after (settled l r sides)
settled_logged (line.Logon s user) reply.Done before after sides keeps enters h = added after s sides enters (kept before after sides (λ n. keeps n refl) h)
settled_logged (line.Logoff s) reply.Done before after sides keeps enters h = ended before after s sides keeps h
settled_logged (line.Flush s) reply.Done before after sides keeps enters h =
    changed after s without_requests (λ p. refl) sides (kept before after sides (λ n. keeps n refl) h)
settled_logged (line.Rollback s) reply.Done before after sides keeps enters h =
    changed after s (λ p. without_requests (without_effects p)) (λ p. refl) sides (kept before after sides (λ n. keeps n refl) h)
settled_logged (line.Commit s) reply.Done before after sides keeps enters h =
    changed after s without_effects (λ p. refl) sides (kept before after sides (λ n. keeps n refl) h)
settled_logged (line.Commit s) (reply.Unit unit) before after sides keeps enters h =
    changed after s without_effects (λ p. refl) sides (kept before after sides (λ n. keeps n refl) h)
settled_logged (line.Num s object nr variable) (reply.Number number code) before after sides keeps enters h =
    changed after s (with_variable variable (decimal number)) (λ p. refl) sides (kept before after sides (λ n. keeps n refl) h)
settled_logged (line.Read s table key variable) (reply.Row (Some text)) before after sides keeps enters h =
    changed after s (with_variable variable text) (λ p. refl) sides (kept before after sides (λ n. keeps n refl) h)
settled_logged _ _ before after sides keeps enters h = kept before after sides (λ n. keeps n refl) h

abbrev MeansLogged : World → ScriptLine → Meaning → Type 0
MeansLogged w l Silent = Unit {0}
MeansLogged w l (Shows m) = Unit {0}
MeansLogged w l (Calls c) =
    (d : DeviceOutcome) (n : ℕ) → AreLoggedOn (step d w.hall n c).state.sessions (settled l (step d w.hall n c).reply w.sides)
MeansLogged w l (Declines r) = Unit {0}
MeansLogged w l (Changes sides) = AreLoggedOn w.hall.sessions sides

session_logged : (w : World) (l : ScriptLine) (s : List ℕ) (m : Meaning) → MeansLogged w l m → MeansLogged w l (of_session w.sides s m)
session_logged w l s m h =
    elim (is_some (side_of w.sides s)) as (λ b. MeansLogged w l (if b then m else Declines refusal.UnknownSession)) [ true ↦ h | false ↦ tt ]

unless_logged : {X : Type 0} (w : World) (l : ScriptLine) (r : Result X Refusal) (next : X → Meaning) → ((x : X) → MeansLogged w l (next x))
    → MeansLogged w l (unless_refused r next)
unless_logged w l (Ok x) next h = h x
unless_logged w l (Err r) next h = tt

room_logged : (w : World) (l : ScriptLine) (full : Bool) (why : Refusal) (sides : List Private) → AreLoggedOn w.hall.sessions sides
    → MeansLogged w l (unless_refused (if full then Err why else Ok sides) Changes)
room_logged w l true why sides h = tt
room_logged w l false why sides h = h

effect_logged : (w : World) (l : ScriptLine) (s : List ℕ) (part : ℕ) (v : Verb) (table key text : List ℕ) → AreLoggedOn w.hall.sessions w.sides
    → MeansLogged w l (effecting (setting_of w) s part v table key text)
effect_logged w l s part v table key text h =
    session_logged w l s _ (unless_logged w l (effect_with (variables_of w.sides s) v table key text) (registering w.sides s part)
    (λ e. room_logged w l (nat_le 200 (effects_in (parts_of w.sides s))) refusal.UnitTooLarge (with_side s (with_effect part e) w.sides)
    (changed w.hall.sessions s (with_effect part e) (effect_session part e) w.sides h)))

entered : (r : Reply) (s : List ℕ) (before after : List Session) → OnDone r (Logons.Enters s before after) → OnDone r (IsLoggedOn after s)
entered reply.Done s before after h = h.entered
entered _ s before after h = tt

meaning_logged : (w : World) (l : ScriptLine) → AreLoggedOn w.hall.sessions w.sides → MeansLogged w l (meaning (setting_of w) l)
meaning_logged w (line.Logon s user) h =
    λ d n. settled_logged (line.Logon s user) _ w.hall.sessions _ w.sides (λ m off. step_keeps d w.hall n (command.Logon s user) m refl)
    (entered _ _ _ _ (step_enters d w.hall n s user)) h
meaning_logged w (line.Logoff s) h =
    session_logged w (line.Logoff s) s (Calls (command.Logoff s))
    (λ d n. settled_logged (line.Logoff s) _ w.hall.sessions _ w.sides (step_keeps d w.hall n (command.Logoff s)) tt h)
meaning_logged w (line.DeqAll s) h =
    session_logged w (line.DeqAll s) s (Calls (command.FreeAll s))
    (λ d n. settled_logged (line.DeqAll s) (step d w.hall n (command.FreeAll s)).reply w.hall.sessions _ w.sides
    (λ m off. step_keeps d w.hall n (command.FreeAll s) m refl) tt h)
meaning_logged w (line.Flush s) h =
    session_logged w (line.Flush s) s (Calls (command.Ask s (container_of w.sides s)))
    (λ d n. settled_logged (line.Flush s) _ w.hall.sessions _ w.sides (λ m off. step_keeps d w.hall n (command.Ask s (container_of w.sides s)) m refl) tt h)
meaning_logged w (line.Reset s) h =
    session_logged w (line.Reset s) s (Changes (with_side s without_requests w.sides)) (changed w.hall.sessions s without_requests (λ p. refl) w.sides h)
meaning_logged w (line.Rollback s) h =
    session_logged w (line.Rollback s) s (Calls (command.Rollback s))
    (λ d n. settled_logged (line.Rollback s) _ w.hall.sessions _ w.sides (λ m off. step_keeps d w.hall n (command.Rollback s) m refl) tt h)
meaning_logged w (line.Enq s object m scope values) h =
    let l = line.Enq s object m scope values in
    session_logged w l s _
    (unless_logged w l (requesting (variables_of w.sides s) w.objects object m scope values) (λ rs. Calls (command.Ask s rs))
    (λ rs d n. settled_logged l (step d w.hall n (command.Ask s rs)).reply w.hall.sessions _ w.sides
    (λ m off. step_keeps d w.hall n (command.Ask s rs) m refl) tt h))
meaning_logged w (line.Deq s object m scope values) h =
    let l = line.Deq s object m scope values in
    session_logged w l s _
    (unless_logged w l (requesting (variables_of w.sides s) w.objects object m scope values) (λ rs. Calls (command.Free s rs))
    (λ rs d n. settled_logged l (step d w.hall n (command.Free s rs)).reply w.hall.sessions _ w.sides
    (λ m off. step_keeps d w.hall n (command.Free s rs) m refl) tt h))
meaning_logged w (line.Collect s object m scope values) h =
    let l = line.Collect s object m scope values in
    session_logged w l s _ (unless_logged w l (requesting (variables_of w.sides s) w.objects object m scope values) (collecting w.sides s)
    (λ rs. room_logged w l (nat_lt 64 (length (container_of w.sides s) + length rs)) refusal.ContainerFull (with_side s (with_requests rs) w.sides)
    (changed w.hall.sessions s (with_requests rs) (λ p. refl) w.sides h)))
meaning_logged w (line.Convert s object values) h =
    let l = line.Convert s object values in
    session_logged w l s _
    (unless_logged w l (asking (variables_of w.sides s) w.objects object _ values) (λ asked. Calls (command.Convert s asked))
    (λ asked d n. settled_logged l (step d w.hall n (command.Convert s asked)).reply w.hall.sessions _ w.sides
    (λ m off. step_keeps d w.hall n (command.Convert s asked) m refl) tt h))
meaning_logged w (line.Num s object nr variable) h =
    let l = line.Num s object nr variable in
    session_logged w l s (Calls (command.Number s object nr))
    (λ d n. settled_logged l (step d w.hall n (command.Number s object nr)).reply w.hall.sessions _ w.sides
    (λ m off. step_keeps d w.hall n (command.Number s object nr) m refl) tt h)
meaning_logged w (line.Read s table key variable) h =
    let l = line.Read s table key variable in
    session_logged w l s _
    (unless_logged w l (key_with (variables_of w.sides s) key) (λ k. Calls (command.Read s table k))
    (λ k d n. settled_logged l (step d w.hall n (command.Read s table k)).reply w.hall.sessions _ w.sides
    (λ m off. step_keeps d w.hall n (command.Read s table k) m refl) tt h))
meaning_logged w (line.Put s part table key text) h = effect_logged w (line.Put s part table key text) s part verb.Put table key text h
meaning_logged w (line.Ins s part table key text) h = effect_logged w (line.Ins s part table key text) s part verb.Ins table key text h
meaning_logged w (line.Del s part table key) h = effect_logged w (line.Del s part table key) s part verb.Del table key [] h
meaning_logged w (line.Add s part table key number) h = effect_logged w (line.Add s part table key number) s part verb.Add table key number h
meaning_logged w (line.Commit s) h =
    session_logged w (line.Commit s) s (Calls (command.Commit s (parts_of w.sides s) []))
    (λ d n. settled_logged (line.Commit s) _ w.hall.sessions _ w.sides
    (λ m off. step_keeps d w.hall n (command.Commit s (parts_of w.sides s) []) m refl) tt h)
meaning_logged w (line.Take1 worker) h =
    λ d n. settled_logged (line.Take1 worker) (step d w.hall n (command.Take1 worker)).reply w.hall.sessions _ w.sides
    (λ m off. step_keeps d w.hall n (command.Take1 worker) m refl) tt h
meaning_logged w (line.Do1 worker) h =
    λ d n. settled_logged (line.Do1 worker) (step d w.hall n (command.Do1 worker)).reply w.hall.sessions _ w.sides
    (λ m off. step_keeps d w.hall n (command.Do1 worker) m refl) tt h
meaning_logged w (line.Take2 worker) h =
    λ d n. settled_logged (line.Take2 worker) (step d w.hall n (command.Take2 worker)).reply w.hall.sessions _ w.sides
    (λ m off. step_keeps d w.hall n (command.Take2 worker) m refl) tt h
meaning_logged w (line.Do2 worker) h =
    λ d n. settled_logged (line.Do2 worker) (step d w.hall n (command.Do2 worker)).reply w.hall.sessions _ w.sides
    (λ m off. step_keeps d w.hall n (command.Do2 worker) m refl) tt h
meaning_logged w (line.DropOrder worker) h =
    λ d n. settled_logged (line.DropOrder worker) (step d w.hall n (command.DropOrder worker)).reply w.hall.sessions _ w.sides
    (λ m off. step_keeps d w.hall n (command.DropOrder worker) m refl) tt h
meaning_logged w line.Kill h =
    λ d n. settled_logged line.Kill (step d w.hall n command.Kill).reply w.hall.sessions _ w.sides (λ m off. step_keeps d w.hall n command.Kill m refl) tt h
meaning_logged w line.FailOver h =
    λ d n. settled_logged line.FailOver (step d w.hall n command.FailOver).reply w.hall.sessions _ w.sides
    (λ m off. step_keeps d w.hall n command.FailOver m refl) tt h
meaning_logged w line.Attach h =
    λ d n. settled_logged line.Attach (step d w.hall n command.Attach).reply w.hall.sessions _ w.sides
    (λ m off. step_keeps d w.hall n command.Attach m refl) tt h
meaning_logged w line.Restart h =
    λ d n. settled_logged line.Restart (step d w.hall n command.Restart).reply w.hall.sessions _ w.sides
    (λ m off. step_keeps d w.hall n command.Restart m refl) tt h
meaning_logged w (line.Cancel unit) h =
    λ d n. settled_logged (line.Cancel unit) (step d w.hall n (command.Cancel unit)).reply w.hall.sessions _ w.sides
    (λ m off. step_keeps d w.hall n (command.Cancel unit) m refl) tt h
meaning_logged w (line.Resubmit unit) h =
    λ d n. settled_logged (line.Resubmit unit) (step d w.hall n (command.Resubmit unit)).reply w.hall.sessions _ w.sides
    (λ m off. step_keeps d w.hall n (command.Resubmit unit) m refl) tt h
meaning_logged w _ h = tt

-- ---- a run

abbrev LeavesLogged : Turned → Type 0
LeavesLogged t = AreLoggedOn t.world.hall.sessions t.world.sides

does_logged : (w : World) (n : ℕ) (l : ScriptLine) (d : DeviceOutcome) (m : Meaning) → AreLoggedOn w.hall.sessions w.sides → MeansLogged w l m
    → LeavesLogged (does w n l d m)
does_logged w n l d Silent h k = h
does_logged w n l d (Shows m) h k = h
does_logged w n l d (Calls c) h k =
    let r = step d w.hall n c in
    let after = world w.objects r.state (settled l r.reply w.sides) in
    subst (λ (x : World). AreLoggedOn x.hall.sessions x.sides) (sym (answered-world after n r.reply)) (k d n)
does_logged w n l d (Declines r) h k = subst (λ (x : World). AreLoggedOn x.hall.sessions x.sides) (sym (answered-world w n (reply.Refused r))) h
does_logged w n l d (Changes sides) h k = k

said_logged : (w : World) (n : ℕ) (known : Option ScriptLine) (outcome : LineOutcome) → AreLoggedOn w.hall.sessions w.sides
    → LeavesLogged (said w n known outcome)
said_logged w n known NoRoom h = h
said_logged w n None (Called d) h = h
said_logged w n (Some l) (Called d) h = does_logged w n l d (meaning (setting_of w) l) h (meaning_logged w l h)

next_logged : (p : Progress) (t : Turn) → AreLoggedOn p.world.hall.sessions p.world.sides → AreLoggedOn (next p t).world.hall.sessions (next p t).world.sides
next_logged p t h =
    elim (p.stop) as (λ o. AreLoggedOn (after_turn o p t).world.hall.sessions (after_turn o p t).world.sides) [
      | None ↦ said_logged p.world (p.number + 1) (line_in t.line) t.outcome h
      | Some why ↦ h
    ]

pub run_logged : (p : Progress) (turns : List Turn) → AreLoggedOn p.world.hall.sessions p.world.sides
    → AreLoggedOn (fold next p turns).world.hall.sessions (fold next p turns).world.sides
run_logged p [] h = h
run_logged p (t ∷ ts) h = run_logged (next p t) ts (next_logged p t h)
