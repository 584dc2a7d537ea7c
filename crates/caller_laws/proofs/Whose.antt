-- What is so of each call that the lines of an actor come to, and whose calls they are.
use Rattle.std.proofs.Common.{◌≡◌, ℕ, Bool, true, false, List, [], ◌∷◌, ◌++◌, cond, refl, sym, ap, ◌∙◌, subst, append-nil, append_assoc}
use Rattle.std.specs.Prelude.{IfSome, Option, Some, None, nat_le, if◌then◌else◌}
use Rattle.std.specs.List.{AllByRecursion}
use Rattle.caller_laws.specs.Doing.{DidLines, nothing_asked}
use Rattle.caller_laws.specs.Numbers.{IsNoBuffered}
use Rattle.caller_laws.proofs.Meanings.{Holds, IsCallOf, holds_all, holds_more, line_is_of}
use Rattle.enq_base.specs.declared.refusal.Refusal.TheVariants as refusal
use Rattle.hall_model.specs.History.{is_unrecorded}
use Rattle.hall_model.specs.declared.command.Command.{Command}
use Rattle.hall_model.specs.declared.command.Command.TheVariants as command
use Rattle.hall_model.specs.declared.command.Reply.{Reply}
use Rattle.hall_model.specs.declared.command.Who.{Who}
use Rattle.hall_model.specs.declared.command.Who.TheVariants as who
use Rattle.number_ranges.specs.Intervals.{is_buffered}
use Rattle.number_ranges.specs.declared.interval.Interval.{Interval}
use Rattle.script_actors.specs.Actors.{AddsPart, Deeds, DeskView, DoesLine, DoesLines, Given, IsGiven, IsGivenFor, Land, acts, asks, deeds, drawing, lines_of_actor, no_deeds, own_meaning, session_of}
use Rattle.script_actors.specs.Drawings.{Asking, Called, Declined, DeskCall, DeskEntry, Draws, Drew, IsDrawing, Makes, Ready, Refused, Reserved, Unkept, asking}
use Rattle.script_actors.specs.Drawings.{calls_in, calls_of, drawing_at, interval_at, uncommitted, with_called}
use Rattle.script_actors.specs.Doers.{is_done_by}
use Rattle.script_actors.specs.declared.actor.Said.{Said}
use Rattle.script_actors.specs.declared.line.NumberedLine.{NumberedLine}
use Rattle.script_runner.specs.Lines.{Silent, Shows, Calls, Declines, Changes, Meaning}
use Rattle.script_runner.specs.World.{setting}

-- ---- an actor's own lines

module _ (w : Who) where
  abbrev pub OwnLine : NumberedLine → Type 0
  OwnLine l = is_done_by w l.line ≡ true

  own_if : (l : NumberedLine) (rest : List NumberedLine) (b : Bool) → is_done_by w l.line ≡ b → AllByRecursion OwnLine rest
      → AllByRecursion OwnLine (cond b (l ∷ rest) rest)
  own_if l rest true is h = (is, h)
  own_if l rest false is h = h

  pub lines_own : (lines : List NumberedLine) → AllByRecursion OwnLine (lines_of_actor w lines)
  lines_own [] = tt
  lines_own (l ∷ lines) = own_if l (lines_of_actor w lines) (is_done_by w l.line) refl (lines_own lines)

  pub own_first : (first later : List NumberedLine) → AllByRecursion OwnLine (first ++ later) → AllByRecursion OwnLine first
  own_first [] later h = tt
  own_first (l ∷ first) later h = (h.0, own_first first later h.1)

-- the calls of one entry more
pub calls_more : (entries : List DeskEntry) (e : DeskEntry) → calls_in (entries ++ e ∷ []) ≡ calls_in entries ++ calls_of e
calls_more [] e = append-nil (calls_of e)
calls_more (x ∷ entries) e = ap (λ cs. calls_of x ++ cs) (calls_more entries e) ∙ sym (append_assoc (calls_of x) (calls_in entries) (calls_of e))

abbrev pub reserved_in : Option DeskCall → List DeskCall
reserved_in found = elim found [ None ↦ [] | Some c ↦ c ∷ [] ]

-- ---- what holds of each call

module _ (Q : Command → Type 0) where
  abbrev pub AllAre : List DeskCall → Type 0
  AllAre calls = AllByRecursion (λ (c : DeskCall). Q c.command) calls

  are_append : (calls more : List DeskCall) → AllAre calls → AllAre more → AllAre (calls ++ more)
  are_append [] more h k = k
  are_append (x ∷ calls) more h k = (h.0, are_append calls more h.1 k)

  are_more : (entries : List DeskEntry) (e : DeskEntry) → AllAre (calls_in entries) → AllAre (calls_of e) → AllAre (calls_in (entries ++ e ∷ []))
  are_more entries e h k = subst AllAre (sym (calls_more entries e)) (are_append (calls_in entries) (calls_of e) h k)

  -- of what a line asks: of its call, or of a reservation for this session
  abbrev pub AskHolds : List ℕ → Asking → Type 0
  AskHolds session (Makes c) = Q c
  AskHolds session (Draws i) = (n : ℕ) → Q (command.Reserve session i.object i.nr n)
  AskHolds session (Declined x) = Unit {0}

  number_asked : (session : List ℕ) (count : ℕ) (s object nr : List ℕ) (found : Option Interval)
      → ((i : Interval) (n : ℕ) → Q (command.Reserve session i.object i.nr n))
      → (IfSome found (λ i. is_buffered i ≡ false) → Q (command.Number s object nr))
      → AskHolds session (drawing_at count (command.Number s object nr) found)
  number_asked session count s object nr None reserve number = number tt
  number_asked session count s object nr (Some i) reserve number =
      elim (nat_le 64 count)
      as (λ b. AskHolds session (if b then Declined refusal.UnitTooLarge else if is_buffered i then Draws i else Makes (command.Number s object nr))) [
        | true ↦ tt
        | false ↦ by_buffer (is_buffered i) refl
      ]
    where
      by_buffer : (b : Bool) → is_buffered i ≡ b → AskHolds session (if b then Draws i else Makes (command.Number s object nr))
      by_buffer true is = reserve i
      by_buffer false is = number is

  called_are : (entries : List DeskEntry) (n : ℕ) (c : Command) (r : Reply) → Q c → AllAre (calls_in entries)
      → AllAre (calls_in (with_called entries n c r))
  called_are entries n c r own h =
      let call : DeskCall = record { line = n; command = c; reply = r } in
      elim (is_unrecorded r) as (λ b. AllAre (calls_in (if b then entries else entries ++ Called call ∷ []))) [
        | true ↦ h
        | false ↦ are_more entries (Called call) h (own, tt)
      ]

  drawing_is : (session : List ℕ) (i : Interval) (n : ℕ) (g : Given) → ((upto : ℕ) → Q (command.Reserve session i.object i.nr upto))
      → IsDrawing session i (drawing n i g) → AllAre (calls_of (Drew (drawing n i g)))
  drawing_is session i n g own (Ready x none replied) = subst (λ (o : Option DeskCall). AllAre (reserved_in o)) (sym none) tt
  drawing_is session i n g own (Reserved x level made replied) = subst (λ (o : Option DeskCall). AllAre (reserved_in o)) (sym made) (own x, tt)
  drawing_is session i n g own (Refused x y made replied) = subst (λ (o : Option DeskCall). AllAre (reserved_in o)) (sym made) (own x, tt)
  drawing_is session i n g own (Unkept x none replied unkept) = subst (λ (o : Option DeskCall). AllAre (reserved_in o)) (sym none) tt

  module _ (land : Land) (w : Who) where
    -- it holds of what each line asks
    abbrev pub LineHolds : Deeds → NumberedLine → Type 0
    LineHolds d l = Holds (λ c. AskHolds (session_of w) (asking land.intervals d.desk.entries c)) (own_meaning land.objects d.sides l)

    asks_are : (d : Deeds) (l : NumberedLine) (g : Given) (a : Asking) → AskHolds (session_of w) a → IsGivenFor w l.number g a
        → AllAre (calls_in d.desk.entries) → AllAre (calls_in (asks d l g a).desk.entries)
    asks_are d l g (Makes c) own given h = called_are d.desk.entries l.number c g.reply own h
    asks_are d l g (Draws i) own given h = are_more d.desk.entries (Drew (drawing l.number i g)) h (drawing_is (session_of w) i l.number g own given)
    asks_are d l g (Declined x) own given h = h

    acts_are : (d : Deeds) (l : NumberedLine) (g : Given) (m : Meaning)
        → Holds (λ c. AskHolds (session_of w) (asking land.intervals d.desk.entries c)) m → IsGiven land w d l g m
        → AllAre (calls_in d.desk.entries) → AllAre (calls_in (acts land.intervals d l g m).desk.entries)
    acts_are d l g (Calls c) own given h = asks_are d l g (asking land.intervals d.desk.entries c) own given h
    acts_are d l g Silent own given h = h
    acts_are d l g (Shows monitor) own given h = h
    acts_are d l g (Declines x) own given h = h
    acts_are d l g (Changes sides) own given h = h

    module _ (holds : (d : Deeds) (l : NumberedLine) → OwnLine w l → LineHolds d l) where
      does_are : (d e : Deeds) (l : NumberedLine) → OwnLine w l → AllAre (calls_in d.desk.entries) → DoesLine land w l d e
          → AllAre (calls_in e.desk.entries)
      does_are d e l own h did =
          let g = did.0 in
          let m = own_meaning land.objects d.sides l in
          subst (λ (x : Deeds). AllAre (calls_in x.desk.entries)) (sym did.2)
          (elim d.stopped as (λ b. AllAre (calls_in (if b then d else acts land.intervals d l g m).desk.entries)) [
            | true ↦ h
            | false ↦ acts_are d l g m (holds d l own) did.1 h
          ])

      lines_are : (lines : List NumberedLine) (old new : Deeds) → AllByRecursion (OwnLine w) lines → AllAre (calls_in old.desk.entries)
          → DoesLines land w lines old new → AllAre (calls_in new.desk.entries)
      lines_are [] old new own h did = subst (λ (d : Deeds). AllAre (calls_in d.desk.entries)) (sym did) h
      lines_are (l ∷ lines) old new own h did = lines_are lines did.0 new own.1 (does_are old did.0 l own.0 h did.1) did.2

      part_are : (lines : List NumberedLine) (view : DeskView) → AddsPart land w lines nothing_asked view → AllAre (calls_in view.entries)
      part_are lines view h =
          let first = h.1 in
          subst (λ (v : DeskView). AllAre (calls_in v.entries)) (sym h.2)
          (lines_are first.0 (no_deeds nothing_asked) h.0
          (own_first w first.0 first.1 (subst (AllByRecursion (OwnLine w)) first.2 (lines_own w lines))) tt first.3)

      pub did_are : (lines : List NumberedLine) (said : Option (List Said)) (view : DeskView) → DidLines land lines w said nothing_asked view
          → AllAre (calls_in view.entries)
      did_are lines None view did = part_are lines view did
      did_are lines (Some said) view did =
          lines_are (lines_of_actor w lines) (no_deeds nothing_asked) (deeds did.0 view said did.1) (lines_own w lines) tt did.2

-- ---- whose they are

own_asked : (w : Who) (intervals : List Interval) (entries : List DeskEntry) (c : Command) → IsCallOf w c
    → AskHolds (IsCallOf w) (session_of w) (asking intervals entries c)
own_asked w intervals entries (command.Number s object nr) own =
    number_asked (IsCallOf w) (session_of w) (uncommitted entries) s object nr (interval_at intervals object nr)
    (λ i n. subst (λ (x : Who). who.Session (session_of x) ≡ x) own refl) (λ none. own)
own_asked w intervals entries (command.Commit s parts stock) own = own
own_asked w intervals entries _ own = own

-- the calls of an actor's lines are the actor's
pub lines_are_own : (land : Land) (lines : List NumberedLine) (w : Who) (said : Option (List Said)) (view : DeskView)
    → DidLines land lines w said nothing_asked view → AllAre (IsCallOf w) (calls_in view.entries)
lines_are_own land lines w said view did =
    did_are (IsCallOf w) land w
    (λ d l own. holds_more (IsCallOf w) (λ c. AskHolds (IsCallOf w) (session_of w) (asking land.intervals d.desk.entries c))
    (own_asked w land.intervals d.desk.entries) (own_meaning land.objects d.sides l) (line_is_of (setting land.objects d.sides) w l.line own))
    lines said view did

-- ---- numbers of intervals with a buffer

plain_asked : (session : List ℕ) (intervals : List Interval) (entries : List DeskEntry) (c : Command)
    → AskHolds (IsNoBuffered intervals) session (asking intervals entries c)
plain_asked session intervals entries (command.Number s object nr) =
    number_asked (IsNoBuffered intervals) session (uncommitted entries) s object nr (interval_at intervals object nr) (λ i n. tt) (λ none. none)
plain_asked session intervals entries (command.Commit s parts stock) = tt
plain_asked session intervals entries _ = tt

-- none of the calls of an actor's lines is for one
pub none_buffered : (land : Land) (lines : List NumberedLine) (w : Who) (said : Option (List Said)) (view : DeskView)
    → DidLines land lines w said nothing_asked view → AllAre (IsNoBuffered land.intervals) (calls_in view.entries)
none_buffered land lines w said view did =
    did_are (IsNoBuffered land.intervals) land w
    (λ d l own. holds_all (λ c. AskHolds (IsNoBuffered land.intervals) (session_of w) (asking land.intervals d.desk.entries c))
    (plain_asked (session_of w) land.intervals d.desk.entries) (own_meaning land.objects d.sides l))
    lines said view did
