-- The calls that lines make may be made, as none of them has numbers of a stock.
use Rattle.std.proofs.Common.{◌≡◌, true, false, List, ℕ, [], subst}
use Rattle.std.specs.Prelude.{Result, Ok, Err, if◌then◌else◌, is_some}
use Rattle.enq_base.specs.declared.refusal.Refusal.{Refusal}
use Rattle.enq_base.specs.declared.refusal.Refusal.TheVariants as refusal
use Rattle.dialogue_session.specs.Private.{Private}
use Rattle.hall_laws.proofs.keeping.DrawnNumbers.{no_stock_in}
use Rattle.hall_model.specs.Calls.{call_of}
use Rattle.hall_model.specs.State.{State}
use Rattle.hall_model.specs.Stocks.{MayCall}
use Rattle.hall_model.specs.declared.command.Command.{Command}
use Rattle.hall_model.specs.declared.command.Command.TheVariants as command
use Rattle.mode_rules.specs.declared.Mode.TheVariants as mode
use Rattle.script_lang.specs.declared.script_line.ScriptLine.{ScriptLine}
use Rattle.script_lang.specs.declared.script_line.ScriptLine.TheVariants as line
use Rattle.script_runner.specs.Lines.{Meaning, Silent, Shows, Calls, Declines, Changes, asking, collected, collecting, effect_with, effecting, key_with}
use Rattle.script_runner.specs.Lines.{meaning, of_session, registered, registering, requesting, unless_refused}
use Rattle.script_runner.specs.Sides.{side_of, variables_of}
use Rattle.script_runner.specs.declared.effects.Verb.{Verb}
use Rattle.script_runner.specs.declared.effects.Verb.TheVariants as verb
use Rattle.script_runner.specs.World.{Setting}

abbrev MayMake : State → Meaning → Type 0
MayMake s Silent = Unit {0}
MayMake s (Shows m) = Unit {0}
MayMake s (Calls c) = MayCall s (call_of c)
MayMake s (Declines r) = Unit {0}
MayMake s (Changes sides) = Unit {0}

session_may : (s : State) (sides : List Private) (name : List ℕ) (m : Meaning) → MayMake s m → MayMake s (of_session sides name m)
session_may s sides name m h = elim (is_some (side_of sides name)) as (λ b. MayMake s (if b then m else Declines refusal.UnknownSession))
    [ true ↦ h | false ↦ tt ]

unless_may : {X : Type 0} (s : State) (r : Result X Refusal) (next : X → Meaning) → ((x : X) → MayMake s (next x)) → MayMake s (unless_refused r next)
unless_may s (Ok x) next h = h x
unless_may s (Err r) next h = tt

effect_may : (w : Setting) (n : List ℕ) (part : ℕ) (v : Verb) (table key text : List ℕ) (s : State) → MayMake s (effecting w n part v table key text)
effect_may w n part v table key text s =
    session_may s w.sides n _
    (unless_may s (effect_with (variables_of w.sides n) v table key text) (registering w.sides n part)
    (λ e. unless_may s (registered w.sides n part e) Changes (λ sides. tt)))

line_may : (w : Setting) (l : ScriptLine) (s : State) → MayMake s (meaning w l)
line_may w (line.Logoff n) s = session_may s w.sides n _ tt
line_may w (line.DeqAll n) s = session_may s w.sides n _ tt
line_may w (line.Flush n) s = session_may s w.sides n _ tt
line_may w (line.Reset n) s = session_may s w.sides n _ tt
line_may w (line.Rollback n) s = session_may s w.sides n _ tt
line_may w (line.Enq n object m scope values) s =
    session_may s w.sides n _ (unless_may s (requesting (variables_of w.sides n) w.objects object m scope values) (λ rs. Calls (command.Ask n rs)) (λ rs. tt))
line_may w (line.Deq n object m scope values) s =
    session_may s w.sides n _ (unless_may s (requesting (variables_of w.sides n) w.objects object m scope values) (λ rs. Calls (command.Free n rs)) (λ rs. tt))
line_may w (line.Collect n object m scope values) s =
    session_may s w.sides n _
    (unless_may s (requesting (variables_of w.sides n) w.objects object m scope values) (collecting w.sides n)
    (λ rs. unless_may s (collected w.sides n rs) Changes (λ sides. tt)))
line_may w (line.Convert n object values) s =
    session_may s w.sides n _
    (unless_may s (asking (variables_of w.sides n) w.objects object mode.O values) (λ asked. Calls (command.Convert n asked)) (λ asked. tt))
line_may w (line.Num n object nr variable) s = session_may s w.sides n _ tt
line_may w (line.Read n table key variable) s =
    session_may s w.sides n _ (unless_may s (key_with (variables_of w.sides n) key) (λ k. Calls (command.Read n table k)) (λ k. tt))
line_may w (line.Put n part table key text) s = effect_may w n part verb.Put table key text s
line_may w (line.Ins n part table key text) s = effect_may w n part verb.Ins table key text s
line_may w (line.Del n part table key) s = effect_may w n part verb.Del table key [] s
line_may w (line.Add n part table key number) s = effect_may w n part verb.Add table key number s
line_may w (line.Commit n) s = session_may s w.sides n _ (no_stock_in s)
line_may w _ s = tt

-- a command that a line comes to may be called, whatever the state is
pub command_may : (w : Setting) (l : ScriptLine) (c : Command) (s : State) → meaning w l ≡ Calls c → MayCall s (call_of c)
command_may w l c s is = subst (MayMake s) is (line_may w l s)
