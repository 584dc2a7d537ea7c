-- What lines come to: which make a call, which change the private side, and from what.
use Rattle.std.proofs.Common.{◌≡◌, ℕ, Bool, true, false, List, [], Option, Some, None, Result, Ok, Err, refl, subst}
use Rattle.std.specs.Prelude.{nat_lt, nat_le, if◌then◌else◌, is_some, length, ◌+◌}
use Rattle.enq_base.specs.declared.owner.Scope.{Scope}
use Rattle.enq_base.specs.declared.refusal.Refusal.{Refusal}
use Rattle.enq_base.specs.declared.refusal.Refusal.TheVariants as refusal
use Rattle.enq_base.specs.declared.unit.Deed.{Deed}
use Rattle.enq_base.specs.declared.unit.Deed.TheVariants as deed
use Rattle.enq_base.specs.declared.unit.Effect.{Effect}
use Rattle.mode_rules.specs.declared.Mode.{Mode}
use Rattle.mode_rules.specs.declared.Mode.TheVariants as mode
use Rattle.lock_entry.specs.declared.entry.Asked.{Asked}
use Rattle.lock_entry.specs.declared.entry.Request.{Request}
use Rattle.lock_objects.specs.Objects.{Object}
use Rattle.dialogue_session.specs.Filling.{filled}
use Rattle.dialogue_session.specs.Private.{Private, with_effect, with_requests, without_requests}
use Rattle.dialogue_session.specs.declared.variables.Variable.{Variable}
use Rattle.hall_model.specs.Calls.{who_of}
use Rattle.hall_model.specs.Step.{effects_in}
use Rattle.hall_model.specs.declared.command.Command.{Command}
use Rattle.hall_model.specs.declared.command.Command.TheVariants as command
use Rattle.script_lang.specs.declared.script_line.RawValue.{RawValue}
use Rattle.script_lang.specs.declared.script_line.ScriptLine.{ScriptLine}
use Rattle.script_lang.specs.declared.script_line.ScriptLine.TheVariants as line
use Rattle.script_runner.specs.Lines.{Calls, Changes, Declines, Meaning, Shows, Silent, and_next, asking, collected, collecting, effect_of, key_in, key_with}
use Rattle.script_runner.specs.Lines.{meaning, number_in, of_session, registered, registering, requesting, text_in, then_deed, unless_refused, with_requested}
use Rattle.script_runner.specs.Sides.{container_of, parts_of, side_of, variables_of, with_side}
use Rattle.script_runner.specs.World.{setting}
use Rattle.script_runner.specs.declared.monitor.Monitor.{Monitor}
use Rattle.script_runner.specs.declared.monitor.Monitor.TheVariants as monitor
use Rattle.coverage.specs.Lacks.{Standing, after_line}
use Rattle.script_lang.specs.Sessions.{session_of}
use Rattle.cover_laws.proofs.needed.CoverageNeeded.{RowEffect, effect_at, ends_unit_at}
use Rattle.cover_laws.specs.Histories.{is_session}

-- the line of a session registers an effect on this row, and does no more
pub record IsEffectLine (l : ScriptLine) (s : List ℕ) (row : RowEffect) : Type 0 where
  pub own : session_of l ≡ Some s
  pub names : effect_at l ≡ Some row
  pub after : (objects : List Object) (st : Standing) → after_line objects st l ≡ record st { effects = true }
  pub unended : (st : Standing) → ends_unit_at st l ≡ false

-- an effect, where what it does comes of the text in this way
abbrev pub effect_by : List Variable → (List ℕ → Result Deed Refusal) → (table key text : List ℕ) → Result Effect Refusal
effect_by variables does table key text =
    and_next (filled variables key) (λ k. and_next (filled variables text) (λ t. effect_of table (key_in k) (does t)))

-- the line makes the call, which a session may only once it has a private side
pub data IsMade (objects : List Object) (sides : List Private) : ScriptLine → Command → Type 0 where
  LogsOn : (s user : List ℕ) → IsMade objects sides (line.Logon s user) (command.Logon s user)
  LogsOff : (s : List ℕ) (x : Private) → side_of sides s ≡ Some x → IsMade objects sides (line.Logoff s) (command.Logoff s)
  FreesAll : (s : List ℕ) (x : Private) → side_of sides s ≡ Some x → IsMade objects sides (line.DeqAll s) (command.FreeAll s)
  Flushes : (s : List ℕ) (x : Private) → side_of sides s ≡ Some x → IsMade objects sides (line.Flush s) (command.Ask s (container_of sides s))
  RollsBack : (s : List ℕ) (x : Private) → side_of sides s ≡ Some x → IsMade objects sides (line.Rollback s) (command.Rollback s)
  Asks : (s object : List ℕ) (m : Mode) (scope : Scope) (values : List RawValue) (rs : List Request) (x : Private) → side_of sides s ≡ Some x
      → requesting (variables_of sides s) objects object m scope values ≡ Ok rs
      → IsMade objects sides (line.Enq s object m scope values) (command.Ask s rs)
  Frees : (s object : List ℕ) (m : Mode) (scope : Scope) (values : List RawValue) (rs : List Request) (x : Private) → side_of sides s ≡ Some x
      → requesting (variables_of sides s) objects object m scope values ≡ Ok rs
      → IsMade objects sides (line.Deq s object m scope values) (command.Free s rs)
  Converts : (s object : List ℕ) (values : List RawValue) (asked : List Asked) (x : Private) → side_of sides s ≡ Some x
      → IsMade objects sides (line.Convert s object values) (command.Convert s asked)
  Draws : (s object nr variable : List ℕ) (x : Private) → side_of sides s ≡ Some x
      → IsMade objects sides (line.Num s object nr variable) (command.Number s object nr)
  Tells : (s table key variable known : List ℕ) (x : Private) → side_of sides s ≡ Some x → key_with (variables_of sides s) key ≡ Ok known
      → IsMade objects sides (line.Read s table key variable) (command.Read s table known)
  Commits : (s : List ℕ) (x : Private) → side_of sides s ≡ Some x → IsMade objects sides (line.Commit s) (command.Commit s (parts_of sides s) [])
  -- the calls of workers and of the administrator
  OfOthers : (l : ScriptLine) (c : Command) → session_of l ≡ None → is_session (who_of c) ≡ false → IsMade objects sides l c

-- the line of a session makes this of the private sides
pub data IsChange (objects : List Object) (sides : List Private) : ScriptLine → List Private → Type 0 where
  Resets : (s : List ℕ) (x : Private) → side_of sides s ≡ Some x → IsChange objects sides (line.Reset s) (with_side s without_requests sides)
  Collects : (s object : List ℕ) (m : Mode) (scope : Scope) (values : List RawValue) (rs : List Request) (x : Private) → side_of sides s ≡ Some x
      → requesting (variables_of sides s) objects object m scope values ≡ Ok rs
      → IsChange objects sides (line.Collect s object m scope values) (with_side s (with_requests rs) sides)
  Registers : (l : ScriptLine) (s : List ℕ) (row : RowEffect) (does : List ℕ → Result Deed Refusal) (text : List ℕ) (effect : Effect) (x : Private)
      → IsEffectLine l s row → side_of sides s ≡ Some x → effect_by (variables_of sides s) does row.table row.key text ≡ Ok effect
      → IsChange objects sides l (with_side s (with_effect row.part effect) sides)

-- what a line comes to
pub data Comes (objects : List Object) (sides : List Private) : ScriptLine → Meaning → Type 0 where
  ToCall : (l : ScriptLine) (c : Command) → IsMade objects sides l c → Comes objects sides l (Calls c)
  ToChange : (l : ScriptLine) (more : List Private) → IsChange objects sides l more → Comes objects sides l (Changes more)
  ToRefusal : (l : ScriptLine) (r : Refusal) → Comes objects sides l (Declines r)
  -- no session has such a line
  ToNothing : (l : ScriptLine) → session_of l ≡ None → Comes objects sides l Silent
  ToMonitor : (l : ScriptLine) (shown : Monitor) → session_of l ≡ None → Comes objects sides l (Shows shown)

unless_full : (P : Type 0) (full : Bool) (why : Refusal) (after more : List Private) → (if full then Err why else Ok after) ≡ Ok more
    → (after ≡ more → P) → P
unless_full P true why after more is made = absurd (cc)
unless_full P false why after more is made = made (cc)

module _ (objects : List Object) (sides : List Private) where
  abbrev To : ScriptLine → Meaning → Type 0
  To l m = Comes objects sides l m

  on_session : (l : ScriptLine) (s : List ℕ) (m : Meaning) → ((x : Private) → side_of sides s ≡ Some x → To l m) → To l (of_session sides s m)
  on_session l s m comes = by_side (side_of sides s) comes
    where
      by_side : (o : Option Private) → ((x : Private) → o ≡ Some x → To l m) → To l (if is_some o then m else Declines refusal.UnknownSession)
      by_side None made = ToRefusal l refusal.UnknownSession
      by_side (Some x) made = made x refl

  where_ok : {X : Type 0} (l : ScriptLine) (rule : Result X Refusal) (next : X → Meaning) → ((x : X) → rule ≡ Ok x → To l (next x))
      → To l (unless_refused rule next)
  where_ok l (Ok x) next comes = comes x refl
  where_ok l (Err e) next comes = ToRefusal l e

  calls : (l : ScriptLine) (s : List ℕ) (c : Command) → ((x : Private) → side_of sides s ≡ Some x → IsMade objects sides l c)
      → To l (of_session sides s (Calls c))
  calls l s c made = on_session l s (Calls c) (λ x at. ToCall l c (made x at))

  -- a line that makes requests, of which this comes
  abbrev Given : ScriptLine → List ℕ → Result (List Request) Refusal → (List Request → Meaning) → Type 0
  Given l s rule next = (rs : List Request) (x : Private) → side_of sides s ≡ Some x → rule ≡ Ok rs → To l (next rs)

  requests : (l : ScriptLine) (s object : List ℕ) (m : Mode) (scope : Scope) (values : List RawValue) (next : List Request → Meaning)
      → Given l s (requesting (variables_of sides s) objects object m scope values) next
      → To l (with_requested (setting objects sides) s object m scope values next)
  requests l s object m scope values next given =
      let rule = requesting (variables_of sides s) objects object m scope values in
      on_session l s (unless_refused rule next) (λ x at. where_ok l rule next (λ rs ok. given rs x at ok))

  collects : (s object : List ℕ) (m : Mode) (scope : Scope) (values : List RawValue)
      → To (line.Collect s object m scope values) (with_requested (setting objects sides) s object m scope values (collecting sides s))
  collects s object m scope values =
      let l = line.Collect s object m scope values in
      requests l s object m scope values (collecting sides s)
      (λ rs x at ok. where_ok l (collected sides s rs) Changes
      (λ more fits.
      let full : Bool = nat_lt 64 (length (container_of sides s) + length rs) in
      let after : List Private = with_side s (with_requests rs) sides in
      ToChange l more (unless_full (IsChange objects sides l more) full refusal.ContainerFull after more fits
      (λ is. subst (IsChange objects sides l) is (Collects s object m scope values rs x at ok)))))

  registers : (l : ScriptLine) (s : List ℕ) (row : RowEffect) (does : List ℕ → Result Deed Refusal) (text : List ℕ) → IsEffectLine l s row
      → To l (of_session sides s (unless_refused (effect_by (variables_of sides s) does row.table row.key text) (registering sides s row.part)))
  registers l s row does text effects =
      let rule = effect_by (variables_of sides s) does row.table row.key text in
      on_session l s (unless_refused rule (registering sides s row.part))
      (λ x at. where_ok l rule (registering sides s row.part)
      (λ effect ok. where_ok l (registered sides s row.part effect) Changes
      (λ more fits.
      let full : Bool = nat_le 200 (effects_in (parts_of sides s)) in
      let after : List Private = with_side s (with_effect row.part effect) sides in
      ToChange l more (unless_full (IsChange objects sides l more) full refusal.UnitTooLarge after more fits
      (λ is. subst (IsChange objects sides l) is (Registers l s row does text effect x effects at ok))))))

  others : (l : ScriptLine) (c : Command) → session_of l ≡ None → is_session (who_of c) ≡ false → To l (Calls c)
  others l c none other = ToCall l c (OfOthers l c none other)

  pub comes : (l : ScriptLine) → Comes objects sides l (meaning (setting objects sides) l)
  comes line.Blank = ToNothing line.Blank refl
  comes line.Sm12 = ToMonitor line.Sm12 monitor.Sm12 refl
  comes line.Sm13 = ToMonitor line.Sm13 monitor.Sm13 refl
  comes line.Snro = ToMonitor line.Snro monitor.Snro refl
  comes line.Audit = ToMonitor line.Audit monitor.Audit refl
  comes (line.Logon s user) = ToCall (line.Logon s user) (command.Logon s user) (LogsOn s user)
  comes (line.Logoff s) = calls (line.Logoff s) s (command.Logoff s) (LogsOff s)
  comes (line.DeqAll s) = calls (line.DeqAll s) s (command.FreeAll s) (FreesAll s)
  comes (line.Flush s) = calls (line.Flush s) s (command.Ask s (container_of sides s)) (Flushes s)
  comes (line.Reset s) =
      let after : List Private = with_side s without_requests sides in
      on_session (line.Reset s) s (Changes after) (λ x at. ToChange (line.Reset s) after (Resets s x at))
  comes (line.Rollback s) = calls (line.Rollback s) s (command.Rollback s) (RollsBack s)
  comes (line.Enq s object m scope values) =
      let l = line.Enq s object m scope values in
      requests l s object m scope values (λ rs. Calls (command.Ask s rs))
      (λ rs x at ok. ToCall l (command.Ask s rs) (Asks s object m scope values rs x at ok))
  comes (line.Deq s object m scope values) =
      let l = line.Deq s object m scope values in
      requests l s object m scope values (λ rs. Calls (command.Free s rs))
      (λ rs x at ok. ToCall l (command.Free s rs) (Frees s object m scope values rs x at ok))
  comes (line.Collect s object m scope values) = collects s object m scope values
  comes (line.Convert s object values) =
      let l = line.Convert s object values in
      let rule = asking (variables_of sides s) objects object mode.O values in
      on_session l s (unless_refused rule (λ asked. Calls (command.Convert s asked)))
      (λ x at. where_ok l rule (λ asked. Calls (command.Convert s asked))
      (λ asked ok. ToCall l (command.Convert s asked) (Converts s object values asked x at)))
  comes (line.Num s object nr variable) =
      calls (line.Num s object nr variable) s (command.Number s object nr) (Draws s object nr variable)
  comes (line.Read s table key variable) =
      let l = line.Read s table key variable in
      let rule = key_with (variables_of sides s) key in
      on_session l s (unless_refused rule (λ k. Calls (command.Read s table k)))
      (λ x at. where_ok l rule (λ k. Calls (command.Read s table k))
      (λ known ok. ToCall l (command.Read s table known) (Tells s table key variable known x at ok)))
  comes (line.Put s part table key text) =
      registers (line.Put s part table key text) s (record { part = part; table = table; key = key }) (λ t. then_deed deed.Put (text_in t)) text
      (record { own = refl; names = refl; after = λ os st. refl; unended = λ st. refl })
  comes (line.Ins s part table key text) =
      registers (line.Ins s part table key text) s (record { part = part; table = table; key = key }) (λ t. then_deed deed.Ins (text_in t)) text
      (record { own = refl; names = refl; after = λ os st. refl; unended = λ st. refl })
  comes (line.Del s part table key) =
      registers (line.Del s part table key) s (record { part = part; table = table; key = key }) (λ t. Ok deed.Del) []
      (record { own = refl; names = refl; after = λ os st. refl; unended = λ st. refl })
  comes (line.Add s part table key number) =
      registers (line.Add s part table key number) s (record { part = part; table = table; key = key }) (λ t. then_deed deed.Add (number_in t)) number
      (record { own = refl; names = refl; after = λ os st. refl; unended = λ st. refl })
  comes (line.Commit s) = calls (line.Commit s) s (command.Commit s (parts_of sides s) []) (Commits s)
  comes (line.Take1 worker) = others (line.Take1 worker) (command.Take1 worker) refl refl
  comes (line.Do1 worker) = others (line.Do1 worker) (command.Do1 worker) refl refl
  comes (line.Take2 worker) = others (line.Take2 worker) (command.Take2 worker) refl refl
  comes (line.Do2 worker) = others (line.Do2 worker) (command.Do2 worker) refl refl
  comes (line.DropOrder worker) = others (line.DropOrder worker) (command.DropOrder worker) refl refl
  comes line.Kill = others line.Kill command.Kill refl refl
  comes line.FailOver = others line.FailOver command.FailOver refl refl
  comes line.Restart = others line.Restart command.Restart refl refl
  comes line.Attach = others line.Attach command.Attach refl refl
  comes (line.Cancel unit) = others (line.Cancel unit) (command.Cancel unit) refl refl
  comes (line.Resubmit unit) = others (line.Resubmit unit) (command.Resubmit unit) refl refl

  pub call_made : (l : ScriptLine) (c : Command) → meaning (setting objects sides) l ≡ Calls c → IsMade objects sides l c
  call_made l c is = made (subst (Comes objects sides l) is (comes l))
    where
      made : Comes objects sides l (Calls c) → IsMade objects sides l c
      made (ToCall k d by_line) = by_line
