-- A row that a unit has read is covered by its locks until its V1 part is posted or refused.
use Rattle.std.proofs.Common.{◌≡◌, inl, inr, ℕ, true, false, List, [], ◌∷◌, ◌++◌, append_assoc, refl, sym, ap, ◌∙◌, subst}
use Rattle.std.proofs.lemmas.List.Elements.{Contains-append_right}
use Rattle.std.proofs.lemmas.List.Sums.{fold-append}
use Rattle.std.specs.Prelude.{nat_lt, Contains, IsTrue, Some}
use Rattle.std.specs.Option.{option_map, option_map_or}
use Rattle.enq_base.specs.declared.condition.Condition.TheVariants.{Up}
use Rattle.enq_base.specs.declared.owner.Owner.TheVariants.{Upd}
use Rattle.enq_base.specs.declared.owner.UnitKey.{UnitKey}
use Rattle.enq_base.specs.declared.unit.Status.TheVariants.{Open}
use Rattle.lock_objects.specs.Objects.{Object}
use Rattle.ledger_steps.specs.Posts.{entries_of}
use Rattle.ledger_steps.specs.Steps.{IsOpenUnit}
use Rattle.script_lang.specs.declared.script_line.ScriptLine.{ScriptLine}
use Rattle.script_lang.specs.declared.script_line.ScriptLine.TheVariants as line
use Rattle.script_runner.specs.Lines.{Calls}
use Rattle.hall_model.specs.Recall.{Made, recalled, state_after}
use Rattle.hall_model.specs.Sessions.{session_at, unit_key}
use Rattle.hall_model.specs.State.{State}
use Rattle.hall_model.specs.Step.{effects_in, handed_locks}
use Rattle.hall_model.specs.declared.command.Command.TheVariants as command
use Rattle.hall_model.specs.declared.command.PastEntry.{PastEntry}
use Rattle.hall_model.specs.declared.command.Reply.TheVariants as reply
use Rattle.hall_model.specs.declared.command.Session.{Session}
use Rattle.coverage.specs.Lacks.{Numbered, is_guarded, lacks}
use Rattle.coverage.specs.Locks.{covered, holds_dollar}
use Rattle.cover_laws.proofs.theorem.Places.{IsPlaced, MovesOn, moves_over, next_of, placed_behind, unended_more}
use Rattle.cover_laws.proofs.calls.QuietCalls.{quiet_left, quiet_right}
use Rattle.cover_laws.proofs.theorem.Shields.{Shields, stored_stand}
use Rattle.cover_laws.proofs.Lists.{contains_first, mapped_from}
use Rattle.cover_laws.proofs.theorem.WellHistories.{GoesWell, called_by, lines_at_commit}
use Rattle.cover_laws.proofs.needed.AllNeeded.{AllNeeded}
use Rattle.cover_laws.proofs.needed.CoverageNeeded.{ReadIsCovered, Unended, stand}
use Rattle.cover_laws.proofs.needed.HallNeeded.{AreQuiet, FitsReply, IsPast, IsQuiet, IsReached, Records, WaitsOn, has_lost}
use Rattle.cover_laws.specs.Histories.{IsCommitBy, is_by, open_unit}
use Rattle.cover_laws.proofs.needed.HoldingNeeded.{StandsAt}
use Rattle.cover_laws.proofs.needed.LinesNeeded.{IsCommitLine, IsReadLine, NextCall, Place}
use Rattle.cover_laws.proofs.needed.LocksNeeded.{Holds, IsCoveredByHeld}
use Rattle.cover_laws.specs.Own.{own_lines}
use Rattle.cover_laws.specs.Safe.{calls_by}

-- ---- up to the COMMIT

-- in this state the session has the unit open, has lost none of its locks, and what its lines have asked for covers the row
pub record CoversIn (objects : List Object) (lines : List Numbered) (s : State) (name : List ℕ) (unit : UnitKey) (table key : List ℕ) : Type 0 where
  pub done : List ScriptLine
  pub session : Session
  pub at : session_at s.sessions name ≡ Some session
  pub unit_is : unit_key s.stored.start session ≡ unit
  pub kept : session.lost ≡ false
  pub stands : StandsAt s name (stand objects done).held
  pub covers : IsTrue (covered table key (stand objects done).held)
  pub guarded : is_guarded lines table ≡ true

quiet_join : (s : State) (xs ys : List Made) → AreQuiet s xs → AreQuiet (state_after s xs) ys → AreQuiet s (xs ++ ys)
quiet_join s [] ys h k = k
quiet_join s (x ∷ xs) ys h k = (h.0, quiet_join (recalled s x) xs ys h.1 k)

-- the session has the unit open in three states, and in the middle one it has lost none of its locks
record IsOpenUpTo (behind now end : State) (name : List ℕ) (unit : UnitKey) : Type 0 where
  first : open_unit behind name ≡ Some unit
  middle : open_unit now name ≡ Some unit
  last : open_unit end name ≡ Some unit
  kept : has_lost now name ≡ false

-- a unit that is open where its session reads is so up to its COMMIT
open_up_to : (all : AllNeeded) (s : State) (ms rest : List Made) (r c : Made) (name : List ℕ) (unit : UnitKey) → IsQuiet s r → AreQuiet (recalled s r) ms
    → AreQuiet (state_after (recalled s r) ms) rest → IsQuiet (state_after (state_after (recalled s r) ms) rest) c
    → open_unit s name ≡ Some unit → IsCommitBy name unit c.call
    → IsOpenUpTo (recalled s r) (state_after (recalled s r) ms) (state_after (state_after (recalled s r) ms) rest) name unit
open_up_to all s ms rest r c name unit quiet_r quiet_ms quiet_rest quiet_c opened commit =
    let behind : State = recalled s r in
    let end : State = state_after (state_after behind ms) rest in
    let records : Records end (recalled end c) name unit = all.commits_record end c name unit quiet_c commit in
    let leads : state_after behind (ms ++ rest) ≡ end = fold-append recalled behind ms rest in
    let last : open_unit end name ≡ Some unit = ap (option_map (unit_key end.stored.start)) records.at ∙ ap Some records.key in
    let opened_last : open_unit (state_after behind (ms ++ rest)) name ≡ Some unit = ap (λ x. open_unit x name) leads ∙ last in
    let quiet : AreQuiet s (r ∷ (ms ++ rest)) = (quiet_r, quiet_join behind ms rest quiet_ms quiet_rest) in
    let stays = all.units_stay_open s (r ∷ ms) rest name unit quiet opened opened_last in
    let lost_last : has_lost end name ≡ false = ap (λ o. option_map_or (λ (x : Session). x.lost) o false) records.at ∙ records.kept in
    record {
      first = (all.units_stay_open s (r ∷ []) (ms ++ rest) name unit quiet opened opened_last).open_now;
      middle = stays.open_now;
      last = last;
      kept = stays.lost ∙ ap (λ x. has_lost x name) leads ∙ lost_last;
    }

-- a COMMIT that is answered with a unit has effects
commit_effects : (all : AllNeeded) (s : State) (m : Made) (name : List ℕ) (unit : UnitKey) → IsQuiet s m → is_by name m.call ≡ true
    → (c : IsCommitBy name unit m.call) → nat_lt 0 (effects_in c.parts) ≡ true
commit_effects all s m name unit quiet own c =
    let fits : FitsReply (command.Commit name c.parts c.stock) (reply.Unit unit) =
    subst (λ r. FitsReply (command.Commit name c.parts c.stock) r) c.answered
    (subst (λ k. FitsReply k m.call.reply) c.commits (all.replies_fit s m name quiet own)) in
    elim fits [ inl h ↦ h.0 | inr h ↦ let wrong : reply.Unit unit ≡ reply.Done = h.1 in absurd cc ]

-- a session behind a READ line of this row, with these calls to come
record HasRead (objects : List Object) (lines : List Numbered) (name : List ℕ) (s : State) (calls : List PastEntry) (table key : List ℕ) : Type 0 where
  place : Place
  before : List ScriptLine
  written : List ℕ
  variable : List ℕ
  done : place.done ≡ before ++ line.Read name table written variable ∷ []
  plainly : holds_dollar written ≡ false → written ≡ key
  placed : IsPlaced objects lines name s place calls

-- a session at this place whose next call is made by a COMMIT line, which ends its unit
record WillCommit (objects : List Object) (lines : List Numbered) (name : List ℕ) (p : Place) : Type 0 where
  quiet : List ScriptLine
  after : List ScriptLine
  whole : own_lines name lines ≡ (p.done ++ quiet) ++ line.Commit name ∷ after
  still : Unended objects p.done quiet
  effects : (stand objects (p.done ++ quiet)).effects ≡ true

module _ (all : AllNeeded) (objects : List Object) (lines : List Numbered) (clean : lacks objects lines ≡ []) where
  has_read : (s : State) (r : Made) (behind : List Made) (name table key : List ℕ) (p : Place) → IsQuiet s r
      → r.call.command ≡ command.Read name table key → IsPlaced objects lines name s p (calls_by name (r ∷ behind))
      → HasRead objects lines name (recalled s r) (calls_by name behind) table key
  has_read s r behind name table key p quiet asks placed =
      let own : is_by name r.call ≡ true = called_by s r name (command.Read name table key) quiet asks refl in
      let n : NextCall objects name p r.call (calls_by name behind) = next_of all objects lines name s r behind p quiet own placed in
      let reads : IsReadLine n.made_by name table key = all.reads_are_lines objects n.sides n.made_by name table key (n.means ∙ ap Calls asks) in
      let read : ScriptLine = line.Read name table reads.written reads.variable in
      record {
        place = n.next;
        before = p.done ++ n.quiet;
        written = reads.written;
        variable = reads.variable;
        done = n.done ∙ ap (λ l. p.done ++ (n.quiet ++ l ∷ [])) reads.is ∙ sym (append_assoc p.done n.quiet (read ∷ []));
        plainly = reads.plainly;
        placed = placed_behind all objects lines name s r behind p quiet own placed n;
      }

  will_commit : (s : State) (c : Made) (later : List Made) (name : List ℕ) (unit : UnitKey) (p : Place) → IsQuiet s c → IsCommitBy name unit c.call
      → IsPlaced objects lines name s p (calls_by name (c ∷ later)) → WillCommit objects lines name p
  will_commit s c later name unit p quiet commit placed =
      let own : is_by name c.call ≡ true = called_by s c name (command.Commit name commit.parts commit.stock) quiet commit.commits refl in
      let n : NextCall objects name p c.call (calls_by name later) = next_of all objects lines name s c later p quiet own placed in
      let made : IsCommitLine n.made_by n.sides name commit.parts =
      all.commits_are_lines objects n.sides n.made_by name commit.parts commit.stock (n.means ∙ ap Calls commit.commits) in
      record {
        quiet = n.quiet;
        after = n.next.left;
        whole = lines_at_commit all objects lines clean s name p (calls_by name (c ∷ later)) (calls_by name later) c.call placed n made.is;
        still = n.still;
        effects =
            n.before.effects
            ∙ ap (λ parts. nat_lt 0 (effects_in parts)) (sym made.parts_are)
            ∙ commit_effects all s c name unit quiet own commit;
      }

  -- what covers the row of a READ line behind these lines of its session, whose unit doesn't end before the COMMIT
  read_covered : (name table key : List ℕ) (t : State) (calls : List PastEntry) (read : HasRead objects lines name t calls table key)
      (now more : List ScriptLine) (place : Place) (commit : WillCommit objects lines name place) → place.done ≡ read.place.done ++ (now ++ more)
      → Unended objects read.place.done ((now ++ more) ++ commit.quiet)
      → IsTrue (covered table key (stand objects (read.place.done ++ now)).held) × (is_guarded lines table ≡ true)
  read_covered name table key t calls read now more place commit done unended =
      let l : ScriptLine = line.Read name table read.written read.variable in
      let between : List ScriptLine = (now ++ more) ++ commit.quiet in
      let at : (ls : List ScriptLine) → read.place.done ++ ls ≡ read.before ++ l ∷ ls = λ ls.
      ap (λ xs. xs ++ ls) read.done ∙ append_assoc read.before (l ∷ []) ls in
      let at_commit : place.done ++ commit.quiet ≡ read.before ++ l ∷ between =
      ap (λ ls. ls ++ commit.quiet) done ∙ append_assoc read.place.done (now ++ more) commit.quiet ∙ at between in
      let whole : own_lines name lines ≡ read.before ++ l ∷ (between ++ line.Commit name ∷ commit.after) =
      commit.whole
      ∙ ap (λ ls. ls ++ line.Commit name ∷ commit.after) at_commit
      ∙ append_assoc read.before (l ∷ between) (line.Commit name ∷ commit.after) in
      let found : ReadIsCovered objects read.before between l table read.written =
      all.reads_are_covered objects lines name read.before between commit.after table read.written read.variable clean whole
      (subst (λ ls. Unended objects ls between) read.done unended) (ap (λ ls. (stand objects ls).effects) (sym at_commit) ∙ commit.effects) in
      let covers_written : covered table read.written (stand objects (read.place.done ++ now)).held ≡ true =
      ap (λ ls. covered table read.written (stand objects ls).held) (at now)
      ∙ found.covers now (more ++ commit.quiet) (append_assoc now more commit.quiet) in
      let stands : Contains (own_lines name lines) l =
      subst (λ ls. Contains ls l) (sym whole) (Contains-append_right read.before _ l (contains_first l (between ++ line.Commit name ∷ commit.after))) in (
        ap (λ w. covered table w (stand objects (read.place.done ++ now)).held) (sym (read.plainly found.plain)) ∙ covers_written,
        all.reads_guard lines name table read.written read.variable stands,
      )

  pub covers_in : (s : State) (ms rest later : List Made) (r c : Made) (name : List ℕ) (unit : UnitKey) (table key : List ℕ)
      → GoesWell all objects lines clean s (r ∷ (ms ++ (rest ++ c ∷ later))) → open_unit s name ≡ Some unit
      → r.call.command ≡ command.Read name table key → IsCommitBy name unit c.call
      → CoversIn objects lines (state_after (recalled s r) ms) name unit table key
  covers_in s ms rest later r c name unit table key h opened asks commit =
      let behind : State = recalled s r in
      let now : State = state_after behind ms in
      let end : State = state_after now rest in
      let quiet_now : AreQuiet now (rest ++ c ∷ later) = quiet_right behind ms (rest ++ c ∷ later) h.quiet.1 in
      let quiet_ms : AreQuiet behind ms = quiet_left behind ms (rest ++ c ∷ later) h.quiet.1 in
      let quiet_rest : AreQuiet now rest = quiet_left now rest (c ∷ later) quiet_now in
      let quiet_c : IsQuiet end c = (quiet_right now rest (c ∷ later) quiet_now).0 in
      let opens : IsOpenUpTo behind now end name unit = open_up_to all s ms rest r c name unit h.quiet.0 quiet_ms quiet_rest quiet_c opened commit in
      let at = mapped_from (unit_key now.stored.start) (session_at now.sessions name) unit opens.middle in
      let read : HasRead objects lines name behind (calls_by name (ms ++ (rest ++ c ∷ later))) table key =
      has_read s r (ms ++ (rest ++ c ∷ later)) name table key (h.placed name).0 h.quiet.0 asks (h.placed name).1 in
      let to_now : MovesOn objects lines name behind now read.place (calls_by name (rest ++ c ∷ later)) =
      moves_over all objects lines name behind ms (rest ++ c ∷ later) read.place quiet_ms read.placed in
      let to_end : MovesOn objects lines name now end to_now.next (calls_by name (c ∷ later)) =
      moves_over all objects lines name now rest (c ∷ later) to_now.next quiet_rest to_now.placed in
      let commits : WillCommit objects lines name to_end.next = will_commit end c later name unit to_end.next quiet_c commit to_end.placed in
      let done : to_end.next.done ≡ read.place.done ++ (to_now.extra ++ to_end.extra) =
      to_end.done ∙ ap (λ ls. ls ++ to_end.extra) to_now.done ∙ append_assoc read.place.done to_now.extra to_end.extra in
      let to_commit : Unended objects read.place.done (to_now.extra ++ to_end.extra) =
      unended_more objects read.place.done to_now.extra to_end.extra (to_now.unended unit opens.first opens.middle)
      (subst (λ ls. Unended objects ls to_end.extra) to_now.done (to_end.unended unit opens.middle opens.last)) in
      let unended : Unended objects read.place.done ((to_now.extra ++ to_end.extra) ++ commits.quiet) =
      unended_more objects read.place.done (to_now.extra ++ to_end.extra) commits.quiet to_commit
      (subst (λ ls. Unended objects ls commits.quiet) done commits.still) in
      let found = read_covered name table key behind _ read to_now.extra to_end.extra to_end.next commits done unended in
      record {
        done = to_now.next.done;
        session = at.0;
        at = at.1.0;
        unit_is = at.1.1;
        kept = sym (ap (λ o. option_map_or (λ (x : Session). x.lost) o false) at.1.0) ∙ opens.kept;
        stands = to_now.placed.held;
        covers = ap (λ ls. covered table key (stand objects ls).held) to_now.done ∙ found.0;
        guarded = found.1;
      }

  unit_holds : (s : State) (name : List ℕ) (unit : UnitKey) (table key : List ℕ) (h : CoversIn objects lines s name unit table key) → s.condition ≡ Up
      → Holds s.locks (Upd unit) (stand objects h.done).held
  unit_holds s name unit table key h up =
      subst (λ k. Holds s.locks (Upd k) (stand objects h.done).held) h.unit_is ((h.stands.on h.session h.at h.kept).up up)

  -- so it has a lock that covers the row
  pub open_shields : (s : State) (name : List ℕ) (unit : UnitKey) (table key : List ℕ) → CoversIn objects lines s name unit table key
      → Shields objects s unit table key
  open_shields s name unit table key h up =
      let found : IsCoveredByHeld s.locks (Upd unit) (stand objects h.done).held table key =
      all.held_covers s.locks (Upd unit) (stand objects h.done).held table key (all.held_is_exclusive objects h.done)
      (unit_holds s name unit table key h up) h.covers in
      record { lock = found.covers; given = (h.done, found.asked) }

  -- ---- behind the COMMIT

  -- and one that is handed over covers it
  pub handed_shields : (s t : State) (name user : List ℕ) (unit : UnitKey) (table key : List ℕ) → CoversIn objects lines s name unit table key
      → s.condition ≡ Up → IsReached t → IsOpenUnit t.stored unit → entries_of t.stored.units unit ≡ handed_locks user s.locks unit
      → Shields objects t unit table key
  handed_shields s t name user unit table key h up reached waits entries up_then =
      let found : IsCoveredByHeld (handed_locks user s.locks unit) (Upd unit) (stand objects h.done).held table key =
      all.handing_covers user s.locks unit (stand objects h.done).held table key (all.held_is_exclusive objects h.done)
      (unit_holds s name unit table key h up) h.covers in
      let lock = found.covers in
      let stored : Contains (entries_of t.stored.units unit) lock.lock = subst (λ xs. Contains xs lock.lock) (sym entries) lock.stands in
      record {
        lock = record {
          lock = lock.lock;
          stands = stored_stand t unit lock.lock reached up_then waits stored;
          owned = lock.owned;
          exclusive = lock.exclusive;
          fits = lock.fits;
        };
        given = (h.done, found.asked);
      }

-- ---- a unit that waits

past_along : (all : AllNeeded) (s : State) (ms : List Made) (unit : UnitKey) → AreQuiet s ms → IsPast s unit → IsPast (state_after s ms) unit
past_along all s [] unit quiet past = past
past_along all s (m ∷ ms) unit quiet past = past_along all (recalled s m) ms unit quiet.1 (all.past_stays s m unit quiet.0 past)

never_past : (s : State) (unit : UnitKey) → IsPast s unit → IsOpenUnit s.stored unit → ⊥
never_past s unit past waits = past.other (let both : Some past.status ≡ Some Open = sym past.given ∙ waits in cc)

-- a unit that waits in two states waits in each between, with the same locks
pub waits_between : (all : AllNeeded) (s : State) (ms rest : List Made) (unit : UnitKey) → AreQuiet s (ms ++ rest) → IsOpenUnit s.stored unit
    → IsOpenUnit (state_after s (ms ++ rest)).stored unit → WaitsOn s (state_after s ms) unit
waits_between all s [] rest unit quiet waits last = record { waits = waits; entries = refl }
waits_between all s (m ∷ ms) rest unit quiet waits last =
    elim (all.open_stays s m unit quiet.0 waits) [
      | inl on ↦
          let behind = waits_between all (recalled s m) ms rest unit quiet.1 on.waits last in
          record { waits = behind.waits; entries = behind.entries ∙ on.entries }
      | inr past ↦ absurd (never_past (state_after (recalled s m) (ms ++ rest)) unit (past_along all (recalled s m) (ms ++ rest) unit quiet.1 past) last)
    ]
