-- What the lines of a session draw from stocks, and which of its calls they make for that.
use Rattle.std.proofs.Common.{◌≡◌, inl, ℕ, Bool, true, false, cond, List, [], ◌∷◌, ◌++◌, map, refl, sym, ap, ◌∙◌, subst, append-nil, append_assoc, if◌then◌else◌}
use Rattle.std.proofs.lemmas.Bool.{and_parts}
use Rattle.std.proofs.lemmas.List.{map-append}
use Rattle.std.proofs.lemmas.List.Elements.{Contains-append_left, Contains-push, filter-append}
use Rattle.std.proofs.lemmas.Slice.Eq.{bytes_eq-Decides}
use Rattle.std.specs.List.{AllByRecursion, filter, find}
use Rattle.std.specs.Prelude.{Contains, IfSome, Option, Some, None, nat_le}
use Rattle.std.specs.Str.{bytes_eq}
use mathlib.Core.List.{IsPrefix}
use Rattle.enq_base.specs.declared.refusal.Refusal.TheVariants as refusal
use Rattle.hall_model.specs.Calls.{who_of}
use Rattle.hall_model.specs.History.{is_unrecorded}
use Rattle.hall_model.specs.declared.command.Command.{Command}
use Rattle.hall_model.specs.declared.command.Command.TheVariants as command
use Rattle.hall_model.specs.declared.command.PastEntry.{PastEntry}
use Rattle.hall_model.specs.declared.command.Reply.{Reply}
use Rattle.hall_model.specs.declared.command.Reply.TheVariants as reply
use Rattle.hall_model.specs.declared.command.Who.{Who}
use Rattle.hall_model.specs.declared.command.Who.TheVariants as who
use Rattle.number_ranges.specs.Intervals.{is_buffered, is_named}
use Rattle.number_ranges.specs.declared.interval.Interval.{Interval}
use Rattle.script_actors.specs.Actors.{Deeds, DeskView, DoesLine, DoesLines, Given, IsGiven, IsGivenFor, Land, acts, asks, deeds, drawing, is_stop}
use Rattle.script_actors.specs.Actors.{lines_of_actor, no_deeds, own_meaning, saying, with_answer, with_number}
use Rattle.script_actors.specs.Drawings.{Asking, Called, Declined, DeskCall, DeskEntry, Drawing, Draws, Drew, IsDrawing, Makes, Ready, Refused, Reserved}
use Rattle.script_actors.specs.Drawings.{Unkept, asking, calls_in, calls_of, drawing_at, drawn_at, drawn_in, interval_at, number_in, stock_of, uncommitted}
use Rattle.script_actors.specs.Drawings.{with_called}
use Rattle.script_actors.specs.declared.actor.Said.{Said}
use Rattle.script_actors.specs.declared.drawing.Drawing.{Drawing as Drawn}
use Rattle.script_actors.specs.declared.line.NumberedLine.{NumberedLine}
use Rattle.script_lang.specs.declared.script_line.ScriptLine.{ScriptLine}
use Rattle.script_lang.specs.declared.script_line.ScriptLine.TheVariants as line
use Rattle.script_runner.specs.Lines.{Silent, Shows, Calls, Declines, Changes, Meaning}
use Rattle.script_runner.specs.World.{setting}
use Rattle.turn_desks.specs.Parts.{IsPart}
use Rattle.turn_desks.proofs.lemmas.Parts.{part_append, part_longer}
use Rattle.caller_laws.specs.Doing.{DidLines, Left, LinesDid, desk_seen, nothing_asked}
use Rattle.caller_laws.specs.Numbers.{DrewNumbers, IsAnswered, IsLineDraw, LineDraw, drawings_of, is_reservation, is_reserve}
use Rattle.caller_laws.proofs.Everywhere.{all_append, all_weaker}
use Rattle.caller_laws.proofs.Meanings.{Holds, IsCallOf, IsFrom, line_is_from, line_is_of}
use Rattle.caller_laws.proofs.Whose.{OwnLine, calls_more, lines_own, own_first, reserved_in}

-- ---- entries

drawn_more : (entries : List DeskEntry) (e : DeskEntry) → drawn_in (entries ++ e ∷ []) ≡ drawn_in entries ++ drawn_in (e ∷ [])
drawn_more [] e = refl
drawn_more (Called c ∷ entries) e = drawn_more entries e
drawn_more (Drew d ∷ entries) e =
    let numbers : List Drawn = map (drawn_at d.line) (number_in d.object d.nr d.reply) in
    ap (λ (l : List Drawn). numbers ++ l) (drawn_more entries e) ∙ sym (append_assoc numbers (drawn_in entries) (drawn_in (e ∷ [])))

pub drawn_join : (xs ys : List DeskEntry) → drawn_in (xs ++ ys) ≡ drawn_in xs ++ drawn_in ys
drawn_join [] ys = refl
drawn_join (Called c ∷ xs) ys = drawn_join xs ys
drawn_join (Drew d ∷ xs) ys =
    let numbers : List Drawn = map (drawn_at d.line) (number_in d.object d.nr d.reply) in
    ap (λ (l : List Drawn). numbers ++ l) (drawn_join xs ys) ∙ sym (append_assoc numbers (drawn_in xs) (drawn_in ys))

calls_join : (xs ys : List DeskEntry) → calls_in (xs ++ ys) ≡ calls_in xs ++ calls_in ys
calls_join [] ys = refl
calls_join (x ∷ xs) ys = ap (λ cs. calls_of x ++ cs) (calls_join xs ys) ∙ sym (append_assoc (calls_of x) (calls_in xs) (calls_in ys))

prefix_on : {X : Type 0} (xs ys zs : List X) → IsPrefix xs ys → IsPrefix ys zs → IsPrefix xs zs
prefix_on xs ys zs p q = (p.0 ++ q.0, sym (append_assoc xs p.0 q.0) ∙ (ap (λ l. l ++ q.0) p.1 ∙ q.1))

-- ---- what a line says of what it asks

pub names_two : (object nr : List ℕ) (i : Interval) → is_named object nr i ≡ true → (i.object ≡ object) × (i.nr ≡ nr)
names_two object nr i h =
    let both = and_parts (bytes_eq i.object object) (bytes_eq i.nr nr) h in
    ((bytes_eq-Decides i.object object).0 both.0, (bytes_eq-Decides i.nr nr).0 both.1)

some_same : (x i : Interval) → Some x ≡ Some i → x ≡ i
some_same x i e = ap (λ (o : Option Interval). elim o [ None ↦ x | Some y ↦ y ]) e

pub found_named : (object nr : List ℕ) (intervals : List Interval) (i : Interval) → find (is_named object nr) intervals ≡ Some i → is_named object nr i ≡ true
found_named object nr [] i h = absurd cc
found_named object nr (x ∷ intervals) i h = go (is_named object nr x) refl h (λ e. found_named object nr intervals i e)
  where
    go : (b : Bool) → is_named object nr x ≡ b → cond b (Some x) (find (is_named object nr) intervals) ≡ Some i
        → (find (is_named object nr) intervals ≡ Some i → is_named object nr i ≡ true) → is_named object nr i ≡ true
    go true is e later = subst (λ (y : Interval). is_named object nr y ≡ true) (some_same x i e) is
    go false is e later = later e

-- a number of the interval is drawn for this call
abbrev DrawsFor : List Interval → Interval → Command → Type 0
DrawsFor intervals i (command.Number s object nr) = (interval_at intervals object nr ≡ Some i) × (is_buffered i ≡ true)
DrawsFor intervals i c = ⊥

no_draw : (c : Command) (i : Interval) → Makes c ≡ Draws i → ⊥
no_draw c i h = cc

declined_not : (i : Interval) → Declined refusal.UnitTooLarge ≡ Draws i → ⊥
declined_not i h = cc

drawn_same : (x i : Interval) → Draws x ≡ Draws i → x ≡ i
drawn_same x i h = ap (λ (a : Asking). elim a [ Makes c ↦ x | Draws y ↦ y | Declined r ↦ x ]) h

number_drawn : (intervals : List Interval) (count : ℕ) (s object nr : List ℕ) (i : Interval) (found : Option Interval) → interval_at intervals object nr ≡ found
    → drawing_at count (command.Number s object nr) found ≡ Draws i → (interval_at intervals object nr ≡ Some i) × (is_buffered i ≡ true)
number_drawn intervals count s object nr i None at h = absurd (no_draw (command.Number s object nr) i h)
number_drawn intervals count s object nr i (Some x) at h = by_count (nat_le 64 count) h
  where
    c : Command
    c = command.Number s object nr

    by_buffer : (b : Bool) → is_buffered x ≡ b → (if b then Draws x else Makes c) ≡ Draws i → (interval_at intervals object nr ≡ Some i) × (is_buffered i ≡ true)
    by_buffer true is e =
        let same : x ≡ i = drawn_same x i e in
        (at ∙ ap (λ (y : Interval). Some y) same, subst (λ (y : Interval). is_buffered y ≡ true) same is)
    by_buffer false is e = absurd (no_draw c i e)

    by_count : (b : Bool) → (if b then Declined refusal.UnitTooLarge else if is_buffered x then Draws x else Makes c) ≡ Draws i
        → (interval_at intervals object nr ≡ Some i) × (is_buffered i ≡ true)
    by_count true e = absurd (declined_not i e)
    by_count false e = by_buffer (is_buffered x) refl e

draws_for : (intervals : List Interval) (entries : List DeskEntry) (i : Interval) (c : Command) → asking intervals entries c ≡ Draws i
    → DrawsFor intervals i c
draws_for intervals entries i (command.Number s object nr) h =
    number_drawn intervals (uncommitted entries) s object nr i (interval_at intervals object nr) refl h
draws_for intervals entries i (command.Commit s parts stock) h = no_draw (command.Commit s parts (stock_of entries)) i h
draws_for intervals entries i c h = no_draw c i h

is_drawn : (session : List ℕ) (i : Interval) (d : Drawing) → IsDrawing session i d → filter is_reservation (calls_of (Drew d)) ≡ calls_of (Drew d)
is_drawn session i d (Ready n none replied) = subst (λ o. filter is_reservation (reserved_in o) ≡ reserved_in o) (sym none) refl
is_drawn session i d (Reserved n level made replied) = subst (λ o. filter is_reservation (reserved_in o) ≡ reserved_in o) (sym made) refl
is_drawn session i d (Refused n x made replied) = subst (λ o. filter is_reservation (reserved_in o) ≡ reserved_in o) (sym made) refl
is_drawn session i d (Unkept x none replied unkept) = subst (λ o. filter is_reservation (reserved_in o) ≡ reserved_in o) (sym none) refl

-- ---- what lines add

pub record Adds (intervals : List Interval) (session : List ℕ) (lines : List NumberedLine) (old new : Deeds) : Type 0 where
  pub draws : List LineDraw
  pub order : IsPart (map (λ (x : LineDraw). x.line) draws) lines
  pub each : AllByRecursion (IsLineDraw intervals session) draws
  pub reserved : filter is_reservation (calls_in new.desk.entries) ≡ filter is_reservation (calls_in old.desk.entries) ++ calls_in (drawings_of draws)
  pub drawn : drawn_in new.desk.entries ≡ drawn_in old.desk.entries ++ drawn_in (drawings_of draws)
  pub grew : IsPrefix old.said new.said
  pub answered : AllByRecursion (IsAnswered new.said) draws

module _ (intervals : List Interval) (session : List ℕ) where
  -- nothing was drawn
  quiet : (lines : List NumberedLine) (old new : Deeds) → filter is_reservation (calls_in new.desk.entries) ≡ filter is_reservation (calls_in old.desk.entries)
      → drawn_in new.desk.entries ≡ drawn_in old.desk.entries → IsPrefix old.said new.said → Adds intervals session lines old new
  quiet lines old new calls numbers grew = record {
    draws = [];
    order = tt;
    each = tt;
    reserved = calls ∙ sym (append-nil (filter is_reservation (calls_in old.desk.entries)));
    drawn = numbers ∙ sym (append-nil (drawn_in old.desk.entries));
    grew = grew;
    answered = tt;
  }

  still : (lines : List NumberedLine) (d : Deeds) → Adds intervals session lines d d
  still lines d = quiet lines d d refl refl ([], append-nil d.said)

  said_more : (lines : List NumberedLine) (sides : _) (d : Deeds) (n : ℕ) (r : Reply) (b : Bool)
      → Adds intervals session lines d (deeds sides d.desk (d.said ++ saying n r ∷ []) b)
  said_more lines sides d n r b = quiet lines d (deeds sides d.desk (d.said ++ saying n r ∷ []) b) refl refl (saying n r ∷ [], refl)

  -- ---- a call

  answer_grows : (said : List Said) (n : ℕ) (r : Reply) → IsPrefix said (with_answer said n r)
  answer_grows said n (reply.Refused refusal.Idle) = (saying n (reply.Refused refusal.Idle) ∷ [], refl)
  answer_grows said n _ = ([], append-nil said)

  plain_kept : (c : DeskCall) → is_reserve c.command ≡ false → filter is_reservation (c ∷ []) ≡ []
  plain_kept c off = ap (λ b. cond b (c ∷ []) []) off

  called_same : (entries : List DeskEntry) (n : ℕ) (c : Command) (r : Reply) → is_reserve c ≡ false
      → (filter is_reservation (calls_in (with_called entries n c r)) ≡ filter is_reservation (calls_in entries))
      × (drawn_in (with_called entries n c r) ≡ drawn_in entries)
  called_same entries n c r off =
      let call : DeskCall = record { line = n; command = c; reply = r } in
      elim (is_unrecorded r)
      as (λ b. (filter is_reservation (calls_in (if b then entries else entries ++ Called call ∷ [])) ≡ filter is_reservation (calls_in entries))
      × (drawn_in (if b then entries else entries ++ Called call ∷ []) ≡ drawn_in entries)) [
        | true ↦ (refl, refl)
        | false ↦ (
          ap (filter is_reservation) (calls_more entries (Called call)) ∙ filter-append is_reservation (calls_in entries) (call ∷ [])
              ∙ ap (λ cs. filter is_reservation (calls_in entries) ++ cs) (plain_kept call off)
              ∙ append-nil (filter is_reservation (calls_in entries)),
          drawn_more entries (Called call) ∙ append-nil (drawn_in entries),
        )
      ]

  -- ---- a drawing

  number_grows : (said : List Said) (n : ℕ) (r : Reply) → IsPrefix said (with_number said n r)
  number_grows said n r =
      elim (is_stop r) as (λ b. IsPrefix said (if b then said else said ++ saying n r ∷ [])) [ true ↦ ([], append-nil said) | false ↦ (saying n r ∷ [], refl) ]

  answered_now : (said : List Said) (n : ℕ) (r : Reply) → is_stop r ≡ false → Contains (with_number said n r) (saying n r)
  answered_now said n r off =
      subst (λ b. Contains (if b then said else said ++ saying n r ∷ []) (saying n r)) (sym off) (Contains-push said (saying n r))

  drawing_adds : (d : Deeds) (l : NumberedLine) (g : Given) (i : Interval)
      → IsLineDraw intervals session (record { line = l; drawing = drawing l.number i g })
      → Adds intervals session (l ∷ []) d (asks d l g (Draws i))
  drawing_adds d l g i one = record {
    draws = x ∷ [];
    order = inl (refl, tt);
    each = (one, tt);
    reserved =
        ap (filter is_reservation) (calls_more d.desk.entries (Drew x.drawing))
        ∙ filter-append is_reservation (calls_in d.desk.entries) (calls_of (Drew x.drawing))
        ∙ ap (λ cs. filter is_reservation (calls_in d.desk.entries) ++ cs)
        (is_drawn session one.interval x.drawing one.is ∙ sym (append-nil (calls_of (Drew x.drawing))));
    drawn = drawn_more d.desk.entries (Drew x.drawing);
    grew = number_grows d.said l.number g.reply;
    answered = (answered_now d.said l.number g.reply, tt);
  }
    where
      x : LineDraw
      x = record { line = l; drawing = drawing l.number i g }

-- ---- one line

module _ (land : Land) (session : List ℕ) where
  abbrev pub own : Who
  own = who.Session session

  session_same : (s : List ℕ) → who.Session s ≡ own → s ≡ session
  session_same s h = ap (λ (w : Who). named w) h
    where
      named : Who → List ℕ
      named (who.Session x) = x
      named w = s

  number_line : (d : Deeds) (l : NumberedLine) (g : Given) (i : Interval) (s object nr variable : List ℕ) → l.line ≡ line.Num s object nr variable
      → s ≡ session → interval_at land.intervals object nr ≡ Some i → is_buffered i ≡ true → IsDrawing session i (drawing l.number i g)
      → IsLineDraw land.intervals session (record { line = l; drawing = drawing l.number i g })
  number_line d l g i s object nr variable is mine found buffered answered =
      let names = names_two object nr i (found_named object nr land.intervals i found) in
      record {
        variable = variable;
        asks = is ∙ (λ k. line.Num (mine k) (sym names.0 k) (sym names.1 k) variable);
        number = refl;
        interval = i;
        found = (λ k. interval_at land.intervals (names.0 k) (names.1 k)) ∙ found;
        buffered = buffered;
        is = answered;
      }

  draw_line : (d : Deeds) (l : NumberedLine) (g : Given) (i : Interval) (c : Command) → IsFrom l.line c → who_of c ≡ own
      → DrawsFor land.intervals i c → IsDrawing session i (drawing l.number i g)
      → IsLineDraw land.intervals session (record { line = l; drawing = drawing l.number i g })
  draw_line d l g i (command.Number s object nr) from mine for answered =
      number_line d l g i s object nr from.0 from.1 (session_same s mine) for.0 for.1 answered
  draw_line d l g i _ from mine for answered = absurd for

  from_plain : (l : ScriptLine) (c : Command) → IsFrom l c → is_reserve c ≡ false
  from_plain l (command.Reserve s object nr upto) from = absurd from
  from_plain l _ from = refl

  -- what is asked is no reservation
  abbrev IsPlain : Asking → Type 0
  IsPlain (Makes c) = is_reserve c ≡ false
  IsPlain (Draws i) = Unit {0}
  IsPlain (Declined x) = Unit {0}

  number_plain : (count : ℕ) (s object nr : List ℕ) (found : Option Interval) → IsPlain (drawing_at count (command.Number s object nr) found)
  number_plain count s object nr None = refl
  number_plain count s object nr (Some i) =
      elim (nat_le 64 count)
      as (λ b. IsPlain (if b then Declined refusal.UnitTooLarge else if is_buffered i then Draws i else Makes (command.Number s object nr))) [
        | true ↦ tt
        | false ↦ elim (is_buffered i) as (λ b. IsPlain (if b then Draws i else Makes (command.Number s object nr))) [ true ↦ tt | false ↦ refl ]
      ]

  plain_asked : (entries : List DeskEntry) (c : Command) → is_reserve c ≡ false → IsPlain (asking land.intervals entries c)
  plain_asked entries (command.Number s object nr) off = number_plain (uncommitted entries) s object nr (interval_at land.intervals object nr)
  plain_asked entries (command.Commit s parts stock) off = refl
  plain_asked entries c off = off

  asks_adds : (d : Deeds) (l : NumberedLine) (g : Given) (c : Command) (a : Asking) → asking land.intervals d.desk.entries c ≡ a → IsPlain a
      → IsFrom l.line c → who_of c ≡ own → IsGivenFor own l.number g a → Adds land.intervals session (l ∷ []) d (asks d l g a)
  asks_adds d l g c (Makes x) is plain from mine given =
      let same = called_same land.intervals session d.desk.entries l.number x g.reply plain in
      quiet land.intervals session (l ∷ []) d (asks d l g (Makes x)) same.0 same.1 (answer_grows land.intervals session d.said l.number g.reply)
  asks_adds d l g c (Draws i) is plain from mine given =
      drawing_adds land.intervals session d l g i (draw_line d l g i c from mine (draws_for land.intervals d.desk.entries i c is) given)
  asks_adds d l g c (Declined x) is plain from mine given = said_more land.intervals session (l ∷ []) d.sides d l.number (reply.Refused x) false

  acts_adds : (d : Deeds) (l : NumberedLine) (g : Given) (m : Meaning) → Holds (IsFrom l.line) m → Holds (IsCallOf own) m → IsGiven land own d l g m
      → Adds land.intervals session (l ∷ []) d (acts land.intervals d l g m)
  acts_adds d l g (Calls c) from mine given =
      asks_adds d l g c (asking land.intervals d.desk.entries c) refl (plain_asked d.desk.entries c (from_plain l.line c from)) from mine given
  acts_adds d l g Silent from mine given = still land.intervals session (l ∷ []) d
  acts_adds d l g (Shows monitor) from mine given = still land.intervals session (l ∷ []) d
  acts_adds d l g (Declines x) from mine given = said_more land.intervals session (l ∷ []) d.sides d l.number (reply.Refused x) false
  acts_adds d l g (Changes sides) from mine given = said_more land.intervals session (l ∷ []) sides d l.number reply.Done false

  line_adds : (d e : Deeds) (l : NumberedLine) → OwnLine own l → DoesLine land own l d e → Adds land.intervals session (l ∷ []) d e
  line_adds d e l mine did =
      let g = did.0 in
      let m = own_meaning land.objects d.sides l in
      subst (Adds land.intervals session (l ∷ []) d) (sym did.2)
      (elim d.stopped as (λ b. Adds land.intervals session (l ∷ []) d (if b then d else acts land.intervals d l g m)) [
        | true ↦ still land.intervals session (l ∷ []) d
        | false ↦
            acts_adds d l g m (line_is_from (setting land.objects d.sides) l.line) (line_is_of (setting land.objects d.sides) own l.line mine) did.1
      ])

  -- ---- all lines

  answered_more : (said more : List Said) → IsPrefix said more → (x : LineDraw) → IsAnswered said x → IsAnswered more x
  answered_more said more p x h off =
      subst (λ all. Contains all (saying x.line.number x.drawing.reply)) p.1 (Contains-append_left said p.0 (saying x.line.number x.drawing.reply) (h off))

  both_add : (xs ys : List NumberedLine) (d e f : Deeds) → Adds land.intervals session xs d e → Adds land.intervals session ys e f
      → Adds land.intervals session (xs ++ ys) d f
  both_add xs ys d e f one more = record {
    draws = one.draws ++ more.draws;
    order = subst (λ ls. IsPart ls (xs ++ ys)) (sym (map-append line_of one.draws more.draws))
        (part_append (map line_of one.draws) xs (map line_of more.draws) ys one.order more.order);
    each = all_append (IsLineDraw land.intervals session) one.draws more.draws one.each more.each;
    reserved =
        more.reserved ∙ ap (λ cs. cs ++ calls_in (drawings_of more.draws)) one.reserved
        ∙ append_assoc (filter is_reservation (calls_in d.desk.entries)) (calls_in (drawings_of one.draws)) (calls_in (drawings_of more.draws))
        ∙ ap (λ cs. filter is_reservation (calls_in d.desk.entries) ++ cs)
        (sym (calls_join (drawings_of one.draws) (drawings_of more.draws)) ∙ ap calls_in (sym (map-append drew_of one.draws more.draws)));
    drawn =
        more.drawn ∙ ap (λ ns. ns ++ drawn_in (drawings_of more.draws)) one.drawn
        ∙ append_assoc (drawn_in d.desk.entries) (drawn_in (drawings_of one.draws)) (drawn_in (drawings_of more.draws))
        ∙ ap (λ ns. drawn_in d.desk.entries ++ ns)
        (sym (drawn_join (drawings_of one.draws) (drawings_of more.draws)) ∙ ap drawn_in (sym (map-append drew_of one.draws more.draws)));
    grew = prefix_on d.said e.said f.said one.grew more.grew;
    answered = all_append (IsAnswered f.said) one.draws more.draws
        (all_weaker (IsAnswered e.said) (IsAnswered f.said) (answered_more e.said f.said more.grew) one.draws one.answered) more.answered;
  }
    where
      line_of : LineDraw → NumberedLine
      line_of x = x.line

      drew_of : LineDraw → DeskEntry
      drew_of x = Drew x.drawing

  lines_add : (lines : List NumberedLine) (d e : Deeds) → AllByRecursion (OwnLine own) lines → DoesLines land own lines d e
      → Adds land.intervals session lines d e
  lines_add [] d e mine did = subst (Adds land.intervals session [] d) (sym did) (still land.intervals session [] d)
  lines_add (l ∷ lines) d e mine did =
      both_add (l ∷ []) lines d did.0 e (line_adds d did.0 l mine.0 did.1) (lines_add lines did.0 e mine.1 did.2)

  -- ---- of the session, by what it did

  pub did_draw : (lines : List NumberedLine) (past : List PastEntry) (left : Left) (full_at : Option ℕ) → LinesDid land lines past own left full_at
      → DrewNumbers land.intervals lines past session left
  did_draw lines past left full_at h = go left.said refl h.did
    where
      by_lines : (all : List NumberedLine) (e : Deeds) → e.desk.entries ≡ h.entries → ((rest : List NumberedLine) × (lines_of_actor own lines ≡ all ++ rest))
          → Adds land.intervals session all (no_deeds nothing_asked) e → IfSome left.said (λ said. said ≡ e.said)
          → DrewNumbers land.intervals lines past session left
      by_lines all e same front a said = record {
        draws = a.draws;
        order = subst (IsPart (map (λ (x : LineDraw). x.line) a.draws)) (sym front.1)
            (part_longer (map (λ (x : LineDraw). x.line) a.draws) all front.0 a.order);
        each = a.each;
        reserved = ap (filter is_reservation) (sym h.calls ∙ ap calls_in (sym same)) ∙ a.reserved;
        drawn = h.drawn ∙ ap drawn_in (sym same) ∙ a.drawn;
        answered = by_said left.said said;
      }
        where
          by_said : (o : Option (List Said)) → IfSome o (λ said. said ≡ e.said) → IfSome o (λ said. AllByRecursion (IsAnswered said) a.draws)
          by_said None is = tt
          by_said (Some said) is = subst (λ all. AllByRecursion (IsAnswered all) a.draws) (sym is) a.answered

      go : (o : Option (List Said)) → left.said ≡ o → DidLines land lines own o nothing_asked (desk_seen h.entries full_at)
          → DrewNumbers land.intervals lines past session left
      go None is did =
          let first = did.1 in
          by_lines first.0 did.0 (ap (λ (v : DeskView). v.entries) (sym did.2)) (first.1, first.2)
          (lines_add first.0 (no_deeds nothing_asked) did.0
          (own_first own first.0 first.1 (subst (AllByRecursion (OwnLine own)) first.2 (lines_own own lines))) first.3)
          (subst (λ x. IfSome x (λ said. said ≡ did.0.said)) (sym is) tt)
      go (Some said) is did =
          let e : Deeds = deeds did.0 (desk_seen h.entries full_at) said did.1 in
          by_lines (lines_of_actor own lines) e refl ([], sym (append-nil (lines_of_actor own lines)))
          (lines_add (lines_of_actor own lines) (no_deeds nothing_asked) e (lines_own own lines) did.2)
          (subst (λ x. IfSome x (λ all. all ≡ said)) (sym is) refl)
