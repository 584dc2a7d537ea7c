-- What the devices did in one line.
use Rattle.std.proofs.Common.{◌⊎◌, inl, inr, ◌≡◌, ℕ, Bool, false, List, refl}
use Rattle.std.specs.Prelude.{Option, Some, None, is_some, IsTrue}
use Rattle.enq_base.specs.declared.refusal.Refusal.TheVariants as refusal
use Rattle.hall_model.specs.declared.command.Reply.{Reply}
use Rattle.hall_model.specs.declared.command.Reply.TheVariants as reply
use Rattle.hall_model.specs.Devices.{DeviceOutcome, Event, AllWell, LinkFails, NotRemade, Wanting, StoreFails, BackupFails, Reading, all_well, is_file_failure, is_store_failure}
use Rattle.script_lang.specs.declared.script_line.ScriptLine.{ScriptLine}
use Rattle.script_runner.specs.declared.runner.Why.{Why}
use Rattle.script_runner.specs.declared.runner.Why.TheVariants.{BadLine, NoMemory}
use Rattle.script_runner.specs.Lines.{Meaning, Silent, Shows, Calls, Declines, Changes, line_in, meaning}
use Rattle.script_runner.specs.Run.{CallMayHave, LineOutcome, MayHave, NoRoom, Called, answered, does, done, said, file_fails, line_does, store_fails}
use Rattle.script_runner.specs.Whole.{IsCalm}
use Rattle.script_runner.specs.World.{World, setting_of}
use Rattle.script_runner.proofs.Doubts.{is_unmade, unmade}

-- a run that goes on, or ends for want of memory
abbrev pub IsFine : Option Why → Type 0
IsFine stop = (stop ≡ None) ⊎ (stop ≡ Some NoMemory)

answered_fine : (w : World) (n : ℕ) (r : Reply) → IsFine (answered w n r).stop
answered_fine w n (reply.Refused refusal.NoMemory) = inr refl
answered_fine w n _ = inl refl

does_fine : (w : World) (n : ℕ) (l : ScriptLine) (d : DeviceOutcome) (m : Meaning) → IsFine (does w n l d m).stop
does_fine w n l d Silent = inl refl
does_fine w n l d (Shows m) = inl refl
does_fine w n l d (Calls c) = answered_fine _ n _
does_fine w n l d (Declines r) = answered_fine w n (reply.Refused r)
does_fine w n l d (Changes sides) = inl refl

said_fine : (w : World) (n : ℕ) (known : Option ScriptLine) (outcome : LineOutcome) → IsTrue (is_some known) → IsFine (said w n known outcome).stop
said_fine w n known NoRoom h = inr refl
said_fine w n None (Called call) h = cc
said_fine w n (Some l) (Called o) h = does_fine w n l o (meaning (setting_of w) l)

pub line_fine : (w : World) (n : ℕ) (bytes : List ℕ) (outcome : LineOutcome) → IsTrue (is_some (line_in bytes)) → IsFine (line_does w n bytes outcome).stop
line_fine w n bytes outcome h = said_fine w n (line_in bytes) outcome h

-- the same but for a want that changed nothing
abbrev calmed_by : Event → Reading → Bool → DeviceOutcome
calmed_by AllWell reading lost = record { event = AllWell; reading = reading; lost = lost }
calmed_by Wanting reading lost = all_well
calmed_by StoreFails reading lost = record { event = StoreFails; reading = reading; lost = lost }
calmed_by BackupFails reading lost = record { event = BackupFails; reading = reading; lost = lost }
calmed_by LinkFails reading lost = record { event = LinkFails; reading = reading; lost = lost }
calmed_by (NotRemade fault) reading lost = record { event = NotRemade fault; reading = reading; lost = lost }

abbrev pub calmed : LineOutcome → LineOutcome
calmed NoRoom = Called all_well
calmed (Called outcome) = Called (calmed_by outcome.event outcome.reading outcome.lost)

calm_event : (e : Event) (g : Reading) (lost : Bool) → is_store_failure e ≡ false → is_file_failure e ≡ false → is_unmade e ≡ false
    → ((calmed_by e g lost).event ≡ AllWell) ⊎ ((calmed_by e g lost).event ≡ LinkFails)
calm_event AllWell g lost off unfiled made = inl refl
calm_event Wanting g lost off unfiled made = inl refl
calm_event StoreFails g lost off unfiled made = absurd (cc)
calm_event BackupFails g lost off unfiled made = absurd (cc)
calm_event LinkFails g lost off unfiled made = inr refl
calm_event (NotRemade fault) g lost off unfiled made = absurd (cc)

pub calmed_calm : (o : LineOutcome) → store_fails o ≡ false → file_fails o ≡ false → unmade o ≡ false → IsCalm (calmed o)
calmed_calm NoRoom off unfiled made = inl refl
calmed_calm (Called o) off unfiled made = calm_event o.event o.reading o.lost off unfiled made

no_stop : (why : Why) → ◌≡◌ {A = Option Why} (Some why) None → ⊥
no_stop why e = cc

-- a line behind which the run goes on wanted nothing, if it came to a call
wanting_may : (w : World) (n : ℕ) (l : ScriptLine) (g : Reading) (lost : Bool) (m : Meaning)
    → (does w n l (record { event = Wanting; reading = g; lost = lost }) m).stop ≡ None → CallMayHave w all_well m
wanting_may w n l g lost Silent goes = refl
wanting_may w n l g lost (Shows m) goes = refl
wanting_may w n l g lost (Calls c) goes = absurd (no_stop NoMemory goes)
wanting_may w n l g lost (Declines r) goes = refl
wanting_may w n l g lost (Changes sides) goes = refl

event_may : (w : World) (n : ℕ) (l : ScriptLine) (e : Event) (g : Reading) (lost : Bool)
    → (done w n l (record { event = e; reading = g; lost = lost })).stop ≡ None
    → CallMayHave w (record { event = e; reading = g; lost = lost }) (meaning (setting_of w) l) → CallMayHave w (calmed_by e g lost) (meaning (setting_of w) l)
event_may w n l AllWell g lost goes h = h
event_may w n l Wanting g lost goes h = wanting_may w n l g lost (meaning (setting_of w) l) goes
event_may w n l StoreFails g lost goes h = h
event_may w n l BackupFails g lost goes h = h
event_may w n l LinkFails g lost goes h = h
event_may w n l (NotRemade fault) g lost goes h = h

-- such a line may have what is left of its outcome
pub calmed_may : (w : World) (n : ℕ) (lists : Bool) (known : Option ScriptLine) (o : LineOutcome) → (said w n known o).stop ≡ None
    → MayHave w lists known o → MayHave w lists known (calmed o)
calmed_may w n lists known NoRoom goes h = absurd (no_stop NoMemory goes)
calmed_may w n lists None (Called o) goes h = absurd (no_stop (BadLine n) goes)
calmed_may w n lists (Some l) (Called o) goes h = event_may w n l o.event o.reading o.lost goes h

wanting_stops : (w : World) (n : ℕ) (l : ScriptLine) (g : Reading) (lost : Bool) (m : Meaning)
    → (does w n l (record { event = Wanting; reading = g; lost = lost }) m).stop ≡ None
    → does w n l (record { event = Wanting; reading = g; lost = lost }) m ≡ does w n l all_well m
wanting_stops w n l g lost Silent h = refl
wanting_stops w n l g lost (Shows m) h = refl
wanting_stops w n l g lost (Calls c) h = cc
wanting_stops w n l g lost (Declines r) h = refl
wanting_stops w n l g lost (Changes sides) h = refl

event_well : (w : World) (n : ℕ) (l : ScriptLine) (e : Event) (g : Reading) (lost : Bool)
    → (done w n l (record { event = e; reading = g; lost = lost })).stop ≡ None
    → done w n l (record { event = e; reading = g; lost = lost }) ≡ done w n l (calmed_by e g lost)
event_well w n l AllWell g lost h = refl
event_well w n l Wanting g lost h = wanting_stops w n l g lost (meaning (setting_of w) l) h
event_well w n l StoreFails g lost h = refl
event_well w n l BackupFails g lost h = refl
event_well w n l LinkFails g lost h = refl
event_well w n l (NotRemade fault) g lost h = refl

said_well : (w : World) (n : ℕ) (known : Option ScriptLine) (outcome : LineOutcome) → (said w n known outcome).stop ≡ None
    → said w n known outcome ≡ said w n known (calmed outcome)
said_well w n known NoRoom h = cc
said_well w n None (Called o) h = refl
said_well w n (Some l) (Called o) h = event_well w n l o.event o.reading o.lost h

-- a line after which the run goes on wanted nothing
pub line_well : (w : World) (n : ℕ) (bytes : List ℕ) (outcome : LineOutcome) → (line_does w n bytes outcome).stop ≡ None
    → line_does w n bytes outcome ≡ line_does w n bytes (calmed outcome)
line_well w n bytes outcome h = said_well w n (line_in bytes) outcome h
