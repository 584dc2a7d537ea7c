-- A line that is made ready before its call.
use Rattle.std.proofs.Common.{◌≡◌, ℕ, List, sym, ap, ◌∙◌, subst}
use Rattle.std.specs.Prelude.{Ok, Err, Some, is_some}
use Rattle.enq_base.specs.declared.refusal.Refusal.{Refusal}
use Rattle.enq_base.specs.declared.refusal.Refusal.TheVariants as refusal
use Rattle.dialogue_session.specs.Private.{Private}
use Rattle.hall_laws.proofs.histories.LoggedOn.{logon_enters}
use Rattle.hall_model.specs.History.{IsStep}
use Rattle.hall_model.specs.State.{State}
use Rattle.hall_model.specs.declared.command.Command.{Command}
use Rattle.hall_model.specs.declared.command.Command.TheVariants as command
use Rattle.hall_model.specs.declared.command.Reply.{Reply}
use Rattle.hall_model.specs.declared.command.Reply.TheVariants as reply
use Rattle.script_lang.specs.declared.script_line.ScriptLine.{ScriptLine}
use Rattle.script_lang.specs.declared.script_line.ScriptLine.TheVariants as line
use Rattle.script_runner.specs.Lines.{Calls, grows, meaning}
use Rattle.script_runner.specs.Preparing.{HasRoomFor, IsPrepared, MayEnter}
use Rattle.script_runner.specs.Sides.{AreLoggedOn, SidesView, side_of}
use Rattle.script_runner.specs.Turns.{IsDone}
use Rattle.script_runner.specs.World.{DeviceView, World, setting_of, world}
use Rattle.script_runner.specs.declared.preparing.Prepared.{Prepared}
use Rattle.script_runner.proofs.LoggedSides.{no_side}
use Rattle.script_runner.proofs.TurnLemmas.{declined, wanting}

-- a line that is refused before any call
pub refused_line : {a : DeviceView} (w : World) (sides : List Private) (n : ℕ) (l : ScriptLine) (r : Refusal)
    → IsPrepared (meaning (setting_of w) l) (grows l) w.sides sides (Err r) → IsDone w (world w.objects w.hall sides) a a n l (reply.Refused r)
refused_line {a} w sides n l refusal.NoMemory h =
    subst (λ xs. IsDone w (world w.objects w.hall xs) a a n l (reply.Refused refusal.NoMemory)) (sym h.1) (wanting w n l h.0)
refused_line {a} w sides n l r h =
    subst (λ xs. IsDone w (world w.objects w.hall xs) a a n l (reply.Refused r)) (sym h.1) (declined w n l r h.0)

same_call : (a b : Command) → Calls a ≡ Calls b → a ≡ b
same_call a b e = cc

-- a session that was logged on had no private side
pub may_enter : (w : World) (t : State) (n : ℕ) (l : ScriptLine) (c : Command) (r : Reply) (made : Prepared) (sides : SidesView)
    → AreLoggedOn w.hall.sessions w.sides → meaning (setting_of w) l ≡ Calls c → IsStep w.hall t n c r → HasRoomFor l (Ok made) sides → sides.items ≡ w.sides
    → MayEnter l r sides
may_enter w t n (line.Logon s user) c reply.Done made sides logged is step room same =
    let logon : IsStep w.hall t n (command.Logon s user) reply.Done = subst (λ x. IsStep w.hall t n x reply.Done)
    (sym (same_call (command.Logon s user) c is)) step in
    (room, ap (λ xs. is_some (side_of xs s)) same ∙ no_side w.hall.sessions w.sides s logged (logon_enters w.hall t n s user logon).free)
may_enter w t n (line.Num s object nr variable) c (reply.Number number code) made sides logged is step room same = room
may_enter w t n (line.Read s table key variable) c (reply.Row (Some text)) made sides logged is step room same = room
may_enter w t n _ c _ made sides logged is step room same = tt
