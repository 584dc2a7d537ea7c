-- How a session goes on in its own lines: from one place to that behind its next call.
use Rattle.std.proofs.Common.{◌≡◌, ◌⊎◌, inl, inr, ℕ, arith, true, false, true≢false, List, [], ◌∷◌, ◌++◌, Option, Some, None, refl, sym, ap, ◌∙◌, subst, append_assoc}
use Rattle.std.specs.Prelude.{is_some}
use Rattle.std.specs.List.{list_all}
use Rattle.std.specs.Option.{option_map_or}
use Rattle.std.specs.Str.{bytes_eq}
use Rattle.std.proofs.lemmas.Bool.{and_parts}
use Rattle.std.proofs.lemmas.List.{append-nil}
use Rattle.std.proofs.lemmas.List.Elements.{Contains-append_right}
use Rattle.std.proofs.lemmas.List.Folds.{list_all-append}
use Rattle.lock_entry.specs.declared.entry.Asked.{Asked}
use Rattle.lock_entry.proofs.lemmas.Naming.{bytes_eq-same}
use Rattle.lock_objects.specs.Objects.{Object}
use Rattle.dialogue_session.specs.Private.{Private}
use Rattle.hall_model.specs.Calls.{call_of}
use Rattle.hall_model.specs.declared.command.Command.{Command}
use Rattle.hall_model.specs.declared.command.Command.TheVariants as command
use Rattle.hall_model.specs.declared.command.PastEntry.{PastEntry}
use Rattle.script_lang.specs.declared.script_line.ScriptLine.{ScriptLine}
use Rattle.script_lang.specs.declared.script_line.ScriptLine.TheVariants as line
use Rattle.script_runner.specs.Lines.{Calls, Changes, Declines, Meaning, Shows, Silent, meaning, settled}
use Rattle.script_runner.specs.Sides.{side_of}
use Rattle.script_runner.specs.World.{setting}
use Rattle.coverage.specs.Lacks.{is_of}
use Rattle.script_lang.specs.Sessions.{session_of}
use Rattle.cover_laws.proofs.needed.CoverageNeeded.{ends_unit_at, stand}
use Rattle.cover_laws.proofs.needed.HallNeeded.{FitsReply, on_after}
use Rattle.cover_laws.proofs.needed.HoldingNeeded.{MovesHeld}
use Rattle.cover_laws.proofs.needed.LinesNeeded.{IsPlace, Matches, NextCall, Place, PlacesGoOn}
use Rattle.cover_laws.specs.Safe.{AreCallsOf}
use Rattle.cover_laws.proofs.lines.LineCalls.{Comes, IsChange, IsMade, ToCall, ToChange, ToMonitor, ToNothing, ToRefusal, comes}
use Rattle.cover_laws.proofs.lines.QuietLines.{IsQuietLine, QuietOf, quiet_line}
use Rattle.cover_laws.proofs.lines.SessionCalls.{IsTurn, TurnOf, call_turns}
use Rattle.cover_laws.proofs.Lists.{never_empty}

abbrev place_at : (done left : List ScriptLine) → List Private → Place
place_at done left sides = record { done = done; left = left; sides = sides }

-- ---- lines of the session itself

named_by : (name : List ℕ) (l : ScriptLine) → is_of name l ≡ true → session_of l ≡ Some name
named_by name l own = by_session (session_of l) own
  where
    by_session : (o : Option (List ℕ)) → option_map_or (λ (t : List ℕ). bytes_eq t name) o false ≡ true → o ≡ Some name
    by_session None is = absurd (true≢false (sym is))
    by_session (Some t) is = ap Some (bytes_eq-same t name is)

-- ---- a list with one line behind it

one_further : (done ls : List ScriptLine) (l : ScriptLine) → (done ++ l ∷ []) ++ ls ≡ done ++ l ∷ ls
one_further done ls l = append_assoc done (l ∷ []) ls

own_here : (name : List ℕ) (done ls : List ScriptLine) (l : ScriptLine) → list_all (is_of name) (done ++ l ∷ ls) ≡ true → is_of name l ≡ true
own_here name done ls l own =
    let both = and_parts (list_all (is_of name) done) (list_all (is_of name) (l ∷ ls)) (sym (list_all-append (is_of name) done (l ∷ ls)) ∙ own) in
    (and_parts (is_of name l) (list_all (is_of name) ls) both.1).0

-- what a line comes to, and the calls of those behind it
abbrev GoesBy : List Object → List Private → ScriptLine → List ScriptLine → List PastEntry → Meaning → Type 0
GoesBy objects sides l ls calls m =
    elim m [
      | Silent ↦ AreCallsOf objects sides ls calls
      | Shows x ↦ AreCallsOf objects sides ls calls
      | Calls c ↦ elim calls [
        | [] ↦ ⊥
        | e ∷ es ↦ (e.command ≡ c) × AreCallsOf objects (settled l e.reply sides) ls es
      ]
      | Declines r ↦ ⊥
      | Changes more ↦ AreCallsOf objects more ls calls
    ]

module _ (objects : List Object) (name : List ℕ) (e : PastEntry) (calls : List PastEntry) (fits : FitsReply e.command e.reply) where
  -- a session that logs on isn't on
  abbrev OffAt : List Private → Type 0
  OffAt sides = (s user : List ℕ) → e.command ≡ command.Logon s user → is_some (side_of sides name) ≡ false

  -- such a session is at this place, and its next call is e
  record Stands (done left : List ScriptLine) (sides : List Private) : Type 0 where
    place : IsPlace objects name (place_at done left sides) (e ∷ calls)
    off : OffAt sides

  -- where its next call leads it
  abbrev Next : (done left : List ScriptLine) → List Private → Type 0
  Next done left sides = NextCall objects name (place_at done left sides) e calls

  module _ (l : ScriptLine) (ls done : List ScriptLine) (sides : List Private) (p : Stands done (l ∷ ls) sides) where
    own : session_of l ≡ Some name
    own = named_by name l (own_here name done ls l p.place.own)

    not_own : session_of l ≡ None → ⊥
    not_own none =
        let wrong : Some name ≡ None = sym own ∙ none in
        cc

    -- the place behind this line
    place_next : (more : List Private) (left : List PastEntry) → AreCallsOf objects more ls left → Matches objects name (done ++ l ∷ []) more
        → IsPlace objects name (place_at (done ++ l ∷ []) ls more) left
    place_next more left rest m = record {
      own = ap (list_all (is_of name)) (one_further done ls l) ∙ p.place.own;
      plain = λ s object mode scope values among.
          p.place.plain s object mode scope values (Contains-append_right (l ∷ []) ls (line.Deq s object mode scope values) among);
      rest = rest;
      matches = m;
    }

    turn : IsMade objects sides l e.command → IsTurn objects name done sides l e.command e.reply
    turn made =
        let any : TurnOf objects done sides l e.command e.reply (session_of l) = call_turns objects done sides l e.command e.reply made in
        let this : TurnOf objects done sides l e.command e.reply (Some name) = subst (TurnOf objects done sides l e.command e.reply) own any in
        this p.place.matches fits
        (λ s object mode scope values k. p.place.plain s object mode scope values (0, omega arith, k))
        p.off

    -- the line makes the call
    call_here : (c : Command) → IsMade objects sides l c → meaning (setting objects sides) l ≡ Calls c
        → (e.command ≡ c) × AreCallsOf objects (settled l e.reply sides) ls calls → Next done (l ∷ ls) sides
    call_here c made is (same, rest) =
        let t = turn (subst (IsMade objects sides l) (sym same) made) in
        let there : done ++ [] ≡ done = append-nil done in
        record {
          next = place_at (done ++ l ∷ []) ls (settled l e.reply sides);
          quiet = [];
          made_by = l;
          left = refl;
          done = refl;
          sides = sides;
          before = subst (λ (d : List ScriptLine). Matches objects name d sides) (sym there) p.place.matches;
          means = is ∙ ap Calls (sym same);
          place = place_next (settled l e.reply sides) calls rest t.after;
          on = t.on;
          still = λ earlier later m at. absurd (never_empty earlier later m at);
          ends = ap (λ (d : List ScriptLine). ends_unit_at (stand objects d) l) there ∙ t.ends;
          same = ap (λ (d : List ScriptLine). (stand objects d).held) there;
          moves = t.moves;
        }

    quiet : (more : List Private) → IsChange objects sides l more → IsQuietLine objects name done sides l more
    quiet more made =
        let any : QuietOf objects done sides l more (session_of l) = quiet_line objects done sides l more made in
        let this : QuietOf objects done sides l more (Some name) = subst (QuietOf objects done sides l more) own any in
        this p.place.matches

    -- or it makes none, and one behind it does
    call_behind : (more : List Private) → IsQuietLine objects name done sides l more
        → Next (done ++ l ∷ []) ls more → Next done (l ∷ ls) sides
    call_behind more q n =
        let there : (done ++ l ∷ []) ++ n.quiet ≡ done ++ l ∷ n.quiet = one_further done n.quiet l in
        record {
          next = n.next;
          quiet = l ∷ n.quiet;
          made_by = n.made_by;
          left = ap (λ (ms : List ScriptLine). l ∷ ms) n.left;
          done = n.done ∙ one_further done (n.quiet ++ n.made_by ∷ []) l;
          sides = n.sides;
          before = subst (λ (d : List ScriptLine). Matches objects name d n.sides) there n.before;
          means = n.means;
          place = n.place;
          on = n.on ∙ ap (on_after e.command) q.on;
          still = stays;
          ends = ap (λ (d : List ScriptLine). ends_unit_at (stand objects d) n.made_by) (sym there) ∙ n.ends;
          same = ap (λ (d : List ScriptLine). (stand objects d).held) (sym there) ∙ n.same ∙ q.same;
          moves = subst (λ (held : List Asked). MovesHeld (call_of e.command) held (stand objects n.next.done).held) q.same n.moves;
        }
      where
        stays : (earlier later : List ScriptLine) (m : ScriptLine) → l ∷ n.quiet ≡ earlier ++ m ∷ later
            → ends_unit_at (stand objects (done ++ earlier)) m ≡ false
        stays [] later m at =
            let one : l ≡ m = cc in
            subst (λ (k : ScriptLine). ends_unit_at (stand objects (done ++ [])) k ≡ false) one (q.unended (stand objects (done ++ [])))
        stays (k ∷ earlier) later m at =
            let one : l ≡ k = cc in
            let tail : n.quiet ≡ earlier ++ m ∷ later = cc in
            subst (λ (x : ScriptLine). ends_unit_at (stand objects (done ++ x ∷ earlier)) m ≡ false) one
            (subst (λ (d : List ScriptLine). ends_unit_at (stand objects d) m ≡ false) (one_further done earlier l)
            (n.still earlier later m tail))

    -- where it goes on, if it does from behind this line
    goes : ((more : List Private) → Stands (done ++ l ∷ []) ls more → Next (done ++ l ∷ []) ls more) → Next done (l ∷ ls) sides
    goes behind = by_rest p.place.rest
      where
        by_meaning : (m : Meaning) → Comes objects sides l m → meaning (setting objects sides) l ≡ m
            → GoesBy objects sides l ls (e ∷ calls) m → Next done (l ∷ ls) sides
        by_meaning m (ToCall k c made) is rest = call_here c made is rest
        by_meaning m (ToChange k more made) is rest =
            let q = quiet more made in
            call_behind more q
            (behind more (record { place = place_next more (e ∷ calls) rest q.after; off = λ s user logs. q.on ∙ p.off s user logs }))
        by_meaning m (ToRefusal k r) is rest = absurd rest
        by_meaning m (ToNothing k none) is rest = absurd (not_own none)
        by_meaning m (ToMonitor k shown none) is rest = absurd (not_own none)

        by_rest : (((e ∷ calls) ≡ []) ⊎ GoesBy objects sides l ls (e ∷ calls) (meaning (setting objects sides) l)) → Next done (l ∷ ls) sides
        by_rest (inl none) = absurd (cc)
        by_rest (inr rest) = by_meaning (meaning (setting objects sides) l) (comes objects sides l) refl rest

  goes_from : (left done : List ScriptLine) (sides : List Private) → Stands done left sides → Next done left sides
  goes_from [] done sides p = absurd (let none : (e ∷ calls) ≡ [] = p.place.rest in cc)
  goes_from (l ∷ ls) done sides p = goes l ls done sides p (λ more stands. goes_from ls (done ++ l ∷ []) more stands)

pub places_go_on : PlacesGoOn
places_go_on objects name p e calls at fits off =
    goes_from objects name e calls fits p.left p.done p.sides (record { place = at; off = off })
