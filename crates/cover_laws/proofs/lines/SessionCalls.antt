-- What a line of a session that makes a call makes of what the session keeps, by the answer.
use Rattle.std.proofs.Common.{◌≡◌, inl, inr, ℕ, ◌≤◌, arith, Bool, true, false, cond, List, [], ◌∷◌, ◌++◌, Option, Some, None, refl, sym, ap, ◌∙◌, subst}
use Rattle.std.specs.Prelude.{⊤, decimal, if◌then◌else◌, is_some, nat_lt}
use Rattle.std.proofs.Math.Bool.{or-false}
use Rattle.enq_base.specs.declared.owner.Scope.{Scope}
use Rattle.mode_rules.specs.declared.Mode.{Mode}
use Rattle.lock_entry.specs.declared.entry.Asked.{Asked}
use Rattle.lock_entry.specs.declared.entry.Request.{Request}
use Rattle.lock_objects.specs.Objects.{Object}
use Rattle.dialogue_session.specs.Private.{Private, with_variable, without_effects, without_requests, fresh as fresh_side}
use Rattle.dialogue_session.specs.Variables.{with_text}
use Rattle.hall_model.specs.Calls.{call_of}
use Rattle.hall_model.specs.Step.{effects_in}
use Rattle.hall_model.specs.declared.command.Command.{Command}
use Rattle.hall_model.specs.declared.command.Command.TheVariants as command
use Rattle.hall_model.specs.declared.command.Reply.{Reply}
use Rattle.hall_model.specs.declared.command.Reply.TheVariants as reply
use Rattle.script_lang.specs.declared.script_line.RawValue.{RawValue}
use Rattle.script_lang.specs.declared.script_line.ScriptLine.{ScriptLine}
use Rattle.script_lang.specs.declared.script_line.ScriptLine.TheVariants as line
use Rattle.script_runner.specs.Lines.{settled}
use Rattle.script_runner.specs.Sides.{container_of, parts_of, side_of, with_side}
use Rattle.coverage.specs.Lacks.{Standing, after_line, committed, fresh, without}
use Rattle.script_lang.specs.Sessions.{session_of}
use Rattle.coverage.specs.Locks.{any_dollar, covering_locks, unit_locks}
use Rattle.cover_laws.proofs.needed.CoverageNeeded.{ends_unit_at, stand}
use Rattle.cover_laws.proofs.needed.HallNeeded.{FitsReply, ends_unit_by, on_after}
use Rattle.cover_laws.proofs.needed.HoldingNeeded.{MovesHeld}
use Rattle.cover_laws.proofs.needed.LinesNeeded.{Matches}
use Rattle.cover_laws.proofs.needed.LocksNeeded.{often, update_asked}
use Rattle.cover_laws.proofs.lines.LineCalls.{Asks, Commits, Converts, Draws, Flushes, Frees, FreesAll, IsMade, LogsOff, LogsOn, OfOthers, RollsBack, Tells}
use Rattle.cover_laws.proofs.lines.OwnSides.{side_begun, side_changed, side_gone}
use Rattle.cover_laws.proofs.lines.PlainParts.{covering_part, unit_locks_are}
use Rattle.cover_laws.proofs.lines.RegisteredEffects.{Goes, goes_along, goes_bare, goes_on, goes_without, matches_so, stand_more}

-- what the call comes to
pub record IsTurn (objects : List Object) (s : List ℕ) (done : List ScriptLine) (sides : List Private) (l : ScriptLine) (c : Command) (r : Reply)
    : Type 0 where
  pub after : Matches objects s (done ++ l ∷ []) (settled l r sides)
  pub on : is_some (side_of (settled l r sides) s) ≡ on_after c (is_some (side_of sides s))
  pub ends : ends_unit_at (stand objects done) l ≡ ends_unit_by c
  pub moves : MovesHeld (call_of c) (stand objects done).held (stand objects (done ++ l ∷ [])).held

-- a DEQ has no variable
abbrev pub IsPlainFree : ScriptLine → Type 0
IsPlainFree l =
    (s object : List ℕ) (m : Mode) (scope : Scope) (values : List RawValue) → l ≡ line.Deq s object m scope values → any_dollar values ≡ false

-- a session that logs on isn't on
abbrev pub Begins : List Private → List ℕ → Command → Type 0
Begins sides s c = (t user : List ℕ) → c ≡ command.Logon t user → is_some (side_of sides s) ≡ false

abbrev pub TurnOf : List Object → List ScriptLine → List Private → ScriptLine → Command → Reply → Option (List ℕ) → Type 0
TurnOf objects done sides l c r None = ⊤
TurnOf objects done sides l c r (Some s) =
    Matches objects s done sides → FitsReply c r → IsPlainFree l → Begins sides s c → IsTurn objects s done sides l c r

committed_held : (st : Standing) (b : Bool) → st.effects ≡ b → (committed st).held ≡ (if b then [] else st.held)
committed_held st b is = ap (λ (c : Bool). (cond c (record fresh { container = st.container }) st).held) is ∙ by_end b
  where
    by_end : (c : Bool) → (cond c (record fresh { container = st.container }) st).held ≡ (if c then [] else st.held)
    by_end true = refl
    by_end false = refl

committed_effects : (st : Standing) (b : Bool) → st.effects ≡ b → (committed st).effects ≡ false
committed_effects st true is = ap (λ (c : Bool). (cond c (record fresh { container = st.container }) st).effects) is
committed_effects st false is = ap (λ (c : Bool). (cond c (record fresh { container = st.container }) st).effects) is ∙ is

committed_container : (st : Standing) → (committed st).container ≡ st.container
committed_container st = by_end st.effects
  where
    by_end : (c : Bool) → (cond c (record fresh { container = st.container }) st).container ≡ st.container
    by_end true = refl
    by_end false = refl

missing : (o : Option Private) → is_some o ≡ false → o ≡ None
missing None is = refl
missing (Some x) is = absurd (cc)

module _ (objects : List Object) (done : List ScriptLine) (sides : List Private) where
  abbrev now : Standing
  now = stand objects done

  -- a call behind which the session still has its private side
  kept : (l : ScriptLine) (c : Command) (r : Reply) (s : List ℕ) (x y : Private) (st : Standing) → side_of sides s ≡ Some x
      → side_of (settled l r sides) s ≡ Some y → after_line objects now l ≡ st → Goes objects (done ++ l ∷ []) st (Some y) → on_after c true ≡ true
      → ends_unit_at now l ≡ ends_unit_by c → MovesHeld (call_of c) now.held st.held → IsTurn objects s done sides l c r
  kept l c r s x y st at there is goes on ends moves =
      let new : stand objects (done ++ l ∷ []) ≡ st = stand_more objects done l ∙ is in
      record {
        after = matches_so objects s (done ++ l ∷ []) (settled l r sides) st (Some y) new there goes;
        on = ap is_some there ∙ sym on ∙ ap (λ (o : Option Private). on_after c (is_some o)) (sym at);
        ends = ends;
        moves = subst (λ (t : Standing). MovesHeld (call_of c) now.held t.held) (sym new) moves;
      }

  module _ (s : List ℕ) (x : Private) (at : side_of sides s ≡ Some x) (m : Matches objects s done sides) where
    abbrev along : Goes objects done now (Some x)
    along = goes_along objects s done sides (Some x) at m

    -- the private side stays, and so does all but what is held
    leaves : (l : ScriptLine) (c : Command) (r : Reply) (held : List Asked) → after_line objects now l ≡ record now { held = held }
        → settled l r sides ≡ sides → on_after c true ≡ true → ends_unit_at now l ≡ false → ends_unit_by c ≡ false
        → MovesHeld (call_of c) now.held held → IsTurn objects s done sides l c r
    leaves l c r held is same on ends ended moves =
        let st : Standing = record now { held = held } in
        kept l c r s x x st at (ap (λ (ps : List Private). side_of ps s) same ∙ at) is
        (goes_on objects done l ends st x x.variables x.container along refl along.container) on (ends ∙ sym ended) moves

    frees_all : IsTurn objects s done sides (line.DeqAll s) (command.FreeAll s) reply.Done
    frees_all = leaves (line.DeqAll s) (command.FreeAll s) reply.Done [] refl refl refl refl refl refl

    asks : (object : List ℕ) (mode : Mode) (scope : Scope) (values : List RawValue) (rs : List Request)
        → ((a : Asked) → often (covering_locks objects object mode scope values) a ≤ often (update_asked rs) a)
        → IsTurn objects s done sides (line.Enq s object mode scope values) (command.Ask s rs) reply.Done
    asks object mode scope values rs part =
        let added : List Asked = covering_locks objects object mode scope values in
        leaves (line.Enq s object mode scope values) (command.Ask s rs) reply.Done (now.held ++ added) refl refl refl refl refl (added, (refl, part))

    frees : (object : List ℕ) (mode : Mode) (scope : Scope) (values : List RawValue) (rs : List Request)
        → unit_locks objects object mode scope values ≡ update_asked rs
        → IsTurn objects s done sides (line.Deq s object mode scope values) (command.Free s rs) reply.Done
    frees object mode scope values rs same =
        let left : List Asked = without now.held (unit_locks objects object mode scope values) in
        leaves (line.Deq s object mode scope values) (command.Free s rs) reply.Done left refl refl refl refl refl (ap (without now.held) same)

    converts : (object : List ℕ) (values : List RawValue) (asked : List Asked)
        → IsTurn objects s done sides (line.Convert s object values) (command.Convert s asked) reply.Done
    converts object values asked = leaves (line.Convert s object values) (command.Convert s asked) reply.Done now.held refl refl refl refl refl refl

    -- a variable has a text
    learns : (l : ScriptLine) (c : Command) (r : Reply) (variable text : List ℕ)
        → settled l r sides ≡ with_side s (with_variable variable text) sides → after_line objects now l ≡ now → on_after c true ≡ true
        → ends_unit_at now l ≡ false → ends_unit_by c ≡ false → MovesHeld (call_of c) now.held now.held → IsTurn objects s done sides l c r
    learns l c r variable text changed is on ends ended moves =
        kept l c r s x (with_variable variable text x) now at
        (ap (λ (ps : List Private). side_of ps s) changed ∙ side_changed s (with_variable variable text) (λ y. refl) sides x at) is
        (goes_on objects done l ends now x (with_text variable text x.variables) x.container along refl along.container) on (ends ∙ sym ended) moves

    draws : (object nr variable : List ℕ) (r : Reply) → IsTurn objects s done sides (line.Num s object nr variable) (command.Number s object nr) r
    draws object nr variable (reply.Number number code) =
        learns (line.Num s object nr variable) (command.Number s object nr) (reply.Number number code) variable (decimal number)
        refl refl refl refl refl refl
    draws object nr variable r = leaves (line.Num s object nr variable) (command.Number s object nr) r now.held refl refl refl refl refl refl

    tells : (table key variable known : List ℕ) (text : Option (List ℕ))
        → IsTurn objects s done sides (line.Read s table key variable) (command.Read s table known) (reply.Row text)
    tells table key variable known (Some text) =
        learns (line.Read s table key variable) (command.Read s table known) (reply.Row (Some text)) variable text refl refl refl refl refl refl
    tells table key variable known None =
        leaves (line.Read s table key variable) (command.Read s table known) (reply.Row None) now.held refl refl refl refl refl refl

    flushes : IsTurn objects s done sides (line.Flush s) (command.Ask s (container_of sides s)) reply.Done
    flushes =
        let l = line.Flush s in
        let st : Standing = record now { held = now.held ++ now.container; container = [] } in
        kept l (command.Ask s (container_of sides s)) reply.Done s x (without_requests x) st at
        (side_changed s without_requests (λ y. refl) sides x at) refl
        (goes_on objects done l refl st x x.variables [] along refl (λ a. omega arith)) refl refl (now.container, (refl, m.container))

    rolls_back : IsTurn objects s done sides (line.Rollback s) (command.Rollback s) reply.Done
    rolls_back =
        let l = line.Rollback s in
        kept l (command.Rollback s) reply.Done s x (without_requests (without_effects x)) fresh at
        (side_changed s (λ y. without_requests (without_effects y)) (λ y. refl) sides x at) refl
        (goes_bare objects (done ++ l ∷ []) fresh x.session x.variables [] refl (λ a. omega arith)) refl refl refl

    commits : (r : Reply) → settled (line.Commit s) r sides ≡ settled (line.Commit s) reply.Done sides
        → IsTurn objects s done sides (line.Commit s) (command.Commit s (parts_of sides s) []) r
    commits r same =
        let l = line.Commit s in
        let st : Standing = committed now in
        kept l (command.Commit s (parts_of sides s) []) r s x (without_effects x) st at
        (ap (λ (ps : List Private). side_of ps s) same ∙ side_changed s without_effects (λ y. refl) sides x at) refl
        (goes_bare objects (done ++ l ∷ []) st x.session x.variables x.container (committed_effects now now.effects refl)
        (λ a. subst (λ (ls : List Asked). often ls a ≤ often (update_asked x.container) a) (sym (committed_container now)) (along.container a)))
        refl (or-false now.effects ∙ m.effects) (committed_held now (nat_lt 0 (effects_in (parts_of sides s))) m.effects)

    logs_off : IsTurn objects s done sides (line.Logoff s) (command.Logoff s) reply.Done
    logs_off = record {
      after = matches_so objects s (done ++ line.Logoff s ∷ []) (settled (line.Logoff s) reply.Done sides) fresh None
          (stand_more objects done (line.Logoff s)) (side_gone s sides) (goes_without objects (done ++ line.Logoff s ∷ []));
      on = ap is_some (side_gone s sides);
      ends = refl;
      moves = ap (λ (t : Standing). t.held) (stand_more objects done (line.Logoff s));
    }

  logs_on : (s user : List ℕ) → Matches objects s done sides → side_of sides s ≡ None
      → IsTurn objects s done sides (line.Logon s user) (command.Logon s user) reply.Done
  logs_on s user m none =
      let l = line.Logon s user in
      let new : stand objects (done ++ l ∷ []) ≡ fresh = stand_more objects done l ∙ m.none none in
      record {
        after = matches_so objects s (done ++ l ∷ []) (settled l reply.Done sides) fresh (Some (fresh_side s)) new (side_begun s sides none)
            (goes_bare objects (done ++ l ∷ []) fresh s [] [] refl (λ a. omega arith));
        on = ap is_some (side_begun s sides none);
        ends = refl;
        moves = ap (λ (t : Standing). t.held) (stand_more objects done l);
      }

  answered : (s : List ℕ) (l : ScriptLine) (c : Command) (r given : Reply) → r ≡ given → IsTurn objects s done sides l c given
      → IsTurn objects s done sides l c r
  answered s l c r given is turn = subst (IsTurn objects s done sides l c) (sym is) turn

  -- each call of a session
  pub call_turns : (l : ScriptLine) (c : Command) (r : Reply) → IsMade objects sides l c → TurnOf objects done sides l c r (session_of l)
  call_turns l c r (LogsOn s user) = λ m fits plain begins.
      answered s (line.Logon s user) (command.Logon s user) r reply.Done fits (logs_on s user m (missing (side_of sides s) (begins s user refl)))
  call_turns l c r (LogsOff s x at) = λ m fits plain begins.
      answered s (line.Logoff s) (command.Logoff s) r reply.Done fits (logs_off s x at m)
  call_turns l c r (FreesAll s x at) = λ m fits plain begins.
      answered s (line.DeqAll s) (command.FreeAll s) r reply.Done fits (frees_all s x at m)
  call_turns l c r (Flushes s x at) = λ m fits plain begins.
      answered s (line.Flush s) (command.Ask s (container_of sides s)) r reply.Done fits (flushes s x at m)
  call_turns l c r (RollsBack s x at) = λ m fits plain begins.
      answered s (line.Rollback s) (command.Rollback s) r reply.Done fits (rolls_back s x at m)
  call_turns l c r (Asks s object mode scope values rs x at ok) = λ m fits plain begins.
      answered s (line.Enq s object mode scope values) (command.Ask s rs) r reply.Done fits
      (asks s x at m object mode scope values rs (covering_part objects _ object mode scope values rs ok))
  call_turns l c r (Frees s object mode scope values rs x at ok) = λ m fits plain begins.
      answered s (line.Deq s object mode scope values) (command.Free s rs) r reply.Done fits
      (frees s x at m object mode scope values rs
      (unit_locks_are objects _ object mode scope values rs ok (plain s object mode scope values refl)))
  call_turns l c r (Converts s object values asked x at) = λ m fits plain begins.
      answered s (line.Convert s object values) (command.Convert s asked) r reply.Done fits (converts s x at m object values asked)
  call_turns l c r (Draws s object nr variable x at) = λ m fits plain begins. draws s x at m object nr variable r
  call_turns l c r (Tells s table key variable known x at ok) = λ m fits plain begins.
      answered s (line.Read s table key variable) (command.Read s table known) r (reply.Row fits.0) fits.1 (tells s x at m table key variable known fits.0)
  call_turns l c r (Commits s x at) = λ m fits plain begins.
      elim fits [
        | inl some_there ↦
            answered s (line.Commit s) (command.Commit s (parts_of sides s) []) r (reply.Unit some_there.1.0) some_there.1.1
            (commits s x at m (reply.Unit some_there.1.0) refl)
        | inr none_there ↦
            answered s (line.Commit s) (command.Commit s (parts_of sides s) []) r reply.Done none_there.1 (commits s x at m reply.Done refl)
      ]
  call_turns l c r (OfOthers _ _ none other) = subst (TurnOf objects done sides l c r) (sym none) tt
