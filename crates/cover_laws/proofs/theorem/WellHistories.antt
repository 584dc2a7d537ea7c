-- The units of a history change rows of guarded tables only under their locks.
use Rattle.std.proofs.Common.{◌≡◌, inl, ℕ, Bool, true, false, List, [], ◌∷◌, ◌++◌, append_assoc, refl, sym, ap, ◌∙◌, subst}
use Rattle.std.proofs.lemmas.Bool.{both_ways, false_from_ne_true}
use Rattle.std.proofs.lemmas.List.Elements.{All-contains}
use Rattle.std.specs.Prelude.{Contains, IsTrue, Some}
use Rattle.enq_base.specs.declared.owner.Owner.TheVariants.{Upd}
use Rattle.enq_base.specs.declared.owner.UnitKey.{UnitKey}
use Rattle.enq_base.specs.declared.unit.Effect.{Effect}
use Rattle.enq_base.specs.declared.unit.Num.{Num}
use Rattle.lock_entry.proofs.lemmas.Naming.{bytes_eq-refl}
use Rattle.lock_objects.specs.Objects.{Object}
use Rattle.script_lang.specs.declared.script_line.ScriptLine.{ScriptLine}
use Rattle.script_lang.specs.declared.script_line.ScriptLine.TheVariants as line
use Rattle.script_runner.specs.Lines.{Calls}
use Rattle.update_records.specs.declared.records.Unit.{Unit as UnitOfWork}
use Rattle.hall_model.specs.Calls.{who_of}
use Rattle.hall_model.specs.Recall.{Made, recalled, state_after}
use Rattle.hall_model.specs.Sessions.{session_at, unit_key}
use Rattle.hall_model.specs.State.{State}
use Rattle.hall_model.specs.Step.{handed_locks, unit_of}
use Rattle.hall_model.specs.declared.command.Command.{Command}
use Rattle.hall_model.specs.declared.command.Command.TheVariants as command
use Rattle.hall_model.specs.declared.command.PastEntry.{PastEntry}
use Rattle.hall_model.specs.declared.command.Session.{Session}
use Rattle.hall_model.specs.declared.command.Who.{Who}
use Rattle.hall_model.specs.declared.command.Who.TheVariants as who
use Rattle.coverage.specs.Lacks.{Numbered, is_guarded, lacks}
use Rattle.coverage.specs.Locks.{covered}
use Rattle.cover_laws.proofs.theorem.Places.{IsPlaced, first_placed, moves_on, next_of}
use Rattle.cover_laws.proofs.theorem.MeantHistories.{within_quiet}
use Rattle.cover_laws.proofs.needed.AllNeeded.{AllNeeded}
use Rattle.cover_laws.proofs.needed.CoverageNeeded.{EffectIsCovered, stand}
use Rattle.cover_laws.proofs.needed.HallNeeded.{AreQuiet, AreWell, IsQuiet, IsWell}
use Rattle.cover_laws.specs.Histories.{IsCommitBy, IsDone, is_by}
use Rattle.cover_laws.proofs.needed.HoldingNeeded.{HoldsIn}
use Rattle.cover_laws.proofs.needed.LinesNeeded.{IsCommitLine, IsRegistered, NextCall, Place, start_of}
use Rattle.cover_laws.proofs.needed.LocksNeeded.{IsCoveredByHeld}
use Rattle.cover_laws.specs.Own.{own_lines}
use Rattle.cover_laws.specs.Safe.{IsWithin, calls_by}

-- ---- calls of a session

by_name : (name : List ℕ) (e : PastEntry) → e.who ≡ who.Session name → is_by name e ≡ true
by_name name e is =
    let given : Who → PastEntry = λ w. record { who = w; line = e.line; command = e.command; reply = e.reply; after = e.after } in
    ap (λ w. is_by name (given w)) is ∙ bytes_eq-refl name

-- a call that the model answers is its caller's
pub called_by : (s : State) (m : Made) (name : List ℕ) (c : Command) → IsQuiet s m → m.call.command ≡ c → who_of c ≡ who.Session name → is_by name m.call ≡ true
called_by s m name c quiet is own = by_name name m.call (quiet.answer.who ∙ ap who_of is ∙ own)

-- ---- a commit

-- an effect on a guarded table, by what the session holds at the COMMIT
record IsHeldAt (objects : List Object) (done : List ScriptLine) (first : Bool) (e : Effect) : Type 0 where
  first_part : first ≡ true
  covers : IsTrue (covered e.table e.key (stand objects done).held)

module _ (all : AllNeeded) (objects : List Object) (lines : List Numbered) (clean : lacks objects lines ≡ []) where
  -- the lines of a session that commits, by the line that does
  pub lines_at_commit : (s : State) (name : List ℕ) (p : Place) (calls later : List PastEntry) (e : PastEntry) → IsPlaced objects lines name s p calls
      → (n : NextCall objects name p e later) → n.made_by ≡ line.Commit name
      → own_lines name lines ≡ (p.done ++ n.quiet) ++ line.Commit name ∷ n.next.left
  lines_at_commit s name p calls later e h n is =
      sym h.whole
      ∙ ap (λ ls. p.done ++ ls) (n.left ∙ ap (λ l. n.quiet ++ l ∷ n.next.left) is)
      ∙ sym (append_assoc p.done n.quiet (line.Commit name ∷ n.next.left))

  effect_held : (s : State) (name : List ℕ) (p : Place) (calls later : List PastEntry) (e : PastEntry) → IsPlaced objects lines name s p calls
      → (n : NextCall objects name p e later) → n.made_by ≡ line.Commit name → (first : Bool) (x : Effect)
      → IsRegistered objects (p.done ++ n.quiet) first x → is_guarded lines x.table ≡ true → IsHeldAt objects p.done first x
  effect_held s name p calls later e h n is first x r guarded =
      let whole : own_lines name lines ≡ r.before ++ r.made_by ∷ (r.after ++ line.Commit name ∷ n.next.left) =
      lines_at_commit s name p calls later e h n is
      ∙ ap (λ ls. ls ++ line.Commit name ∷ n.next.left) r.where_
      ∙ append_assoc r.before (r.made_by ∷ r.after) (line.Commit name ∷ n.next.left) in
      let found : EffectIsCovered objects r.before r.after r.made_by r.row =
      all.effects_are_covered objects lines name r.before r.after n.next.left r.made_by r.row clean whole r.names r.unended
      (ap (is_guarded lines) r.table ∙ guarded) in
      record {
        first_part = sym r.part ∙ found.first;
        covers =
            ap (λ t. covered t x.key (stand objects p.done).held) (sym r.table)
            ∙ ap (λ k. covered r.row.table k (stand objects p.done).held) (sym (r.key found.plain))
            ∙ ap (λ held. covered r.row.table r.row.key held) (sym n.same ∙ ap (λ ls. (stand objects ls).held) r.where_)
            ∙ found.covers;
      }

  -- the unit that a session commits is well
  commit_well : (s : State) (m : Made) (ms : List Made) (name : List ℕ) (unit : UnitKey) (p : Place) (x : Session) (numbers : List Num) → IsQuiet s m
      → IsPlaced objects lines name s p (calls_by name (m ∷ ms)) → (c : IsCommitBy name unit m.call) → session_at s.sessions name ≡ Some x
      → IsWell objects (is_guarded lines) (unit_of s.stored.start s.locks x c.parts numbers)
  commit_well s m ms name unit p x numbers quiet h c at =
      let own : is_by name m.call ≡ true = called_by s m name (command.Commit name c.parts c.stock) quiet c.commits refl in
      let n : NextCall objects name p m.call (calls_by name ms) = next_of all objects lines name s m ms p quiet own h in
      let made : IsCommitLine n.made_by n.sides name c.parts =
      all.commits_are_lines objects n.sides n.made_by name c.parts c.stock (n.means ∙ ap Calls c.commits) in
      let records = all.commits_record s m name unit quiet c in
      let same : x ≡ records.session = let both : Some x ≡ Some records.session = sym at ∙ records.at in cc in
      let kept : x.lost ≡ false = ap (λ (y : Session). y.lost) same ∙ records.kept in
      let key : UnitKey = unit_key s.stored.start x in
      let holds : HoldsIn s x (stand objects p.done).held = h.held.on x at kept in
      record {
        first = λ e is guarded.
            let held = effect_held s name p (calls_by name (m ∷ ms)) (calls_by name ms) m.call h n made.is true e
            (n.before.first e (subst (λ parts. Contains parts.v1 e) made.parts_are is)) guarded in
            let handed : IsCoveredByHeld (handed_locks x.user s.locks key) (Upd key) (stand objects p.done).held e.table e.key =
            all.handing_covers x.user s.locks key (stand objects p.done).held e.table e.key (all.held_is_exclusive objects p.done)
            (holds.up records.up) held.covers in
            (handed.covers, (p.done, handed.asked));
        second = λ e is. false_from_ne_true _ (λ guarded.
            let held = effect_held s name p (calls_by name (m ∷ ms)) (calls_by name ms) m.call h n made.is false e
            (n.before.second e (subst (λ parts. Contains parts.v2 e) made.parts_are is)) guarded in
            both_ways false refl held.first_part);
      }

  -- ---- what goes on along a history

  -- In this state, with these calls to come, each unit is done or well, and each session stands at a place of its lines.
  pub record GoesWell (s : State) (rest : List Made) : Type 0 where
    pub quiet : AreQuiet s rest
    pub well : AreWell objects (is_guarded lines) s.stored
    pub placed : (name : List ℕ) → (p : Place) × IsPlaced objects lines name s p (calls_by name rest)

  pub first_well : (first : State) (made : List Made) → IsWithin objects lines first made → GoesWell first made
  first_well first made h =
      let begun = h.begun in
      record {
        quiet = within_quiet objects lines first made h;
        well = subst (λ (s : State). AreWell objects (is_guarded lines) s.stored) (sym begun.start)
            (λ u is. inl (All-contains (λ (v : UnitOfWork). IsDone begun.ledger v.key) begun.ledger.units u begun.done is));
        placed = λ name. (start_of (own_lines name lines), first_placed all objects lines first made name clean h);
      }

  pub next_well : (s : State) (m : Made) (ms : List Made) → GoesWell s (m ∷ ms) → GoesWell (recalled s m) ms
  next_well s m ms h = record {
    quiet = h.quiet.1;
    well = all.well_stays objects (is_guarded lines) s m h.quiet.0 h.well
        (λ name unit x numbers c at. commit_well s m ms name unit (h.placed name).0 x numbers h.quiet.0 (h.placed name).1 c at);
    placed = λ name.
        let moved = moves_on all objects lines name s m ms (h.placed name).0 h.quiet.0 (h.placed name).1 in
        (moved.next, moved.placed);
  }

  pub goes_well : (s : State) (ms rest : List Made) → GoesWell s (ms ++ rest) → GoesWell (state_after s ms) rest
  goes_well s [] rest h = h
  goes_well s (m ∷ ms) rest h = goes_well (recalled s m) ms rest (next_well s m (ms ++ rest) h)
