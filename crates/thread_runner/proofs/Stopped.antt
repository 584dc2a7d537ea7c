-- An actor that nothing stopped has done all its lines.
use Rattle.std.proofs.Common.{◌≡◌, ℕ, Bool, true, false, true≢false, List, [], ◌∷◌, ◌++◌, refl, sym, ap, ◌∙◌, subst, append-nil, append_assoc}
use Rattle.std.proofs.lemmas.List.Folds.{list_any-append}
use Rattle.std.specs.Prelude.{◌||◌, cond, if◌then◌else◌, map, Option, None, Some, is_some}
use Rattle.std.specs.List.{filter, list_any}
use Rattle.enq_base.specs.declared.refusal.Refusal.TheVariants as refusal
use Rattle.hall_model.specs.History.{is_unrecorded}
use Rattle.hall_model.specs.declared.command.Command.{Command}
use Rattle.hall_model.specs.declared.command.PastEntry.{PastEntry}
use Rattle.hall_model.specs.declared.command.Reply.{Reply}
use Rattle.hall_model.specs.declared.command.Reply.TheVariants as reply
use Rattle.hall_model.specs.declared.command.Who.{Who}
use Rattle.number_ranges.specs.declared.interval.Interval.{Interval}
use Rattle.order_laws.specs.Behind.{is_no_memory, wants}
use Rattle.script_actors.specs.Actors.{AddsDone, DeskView, Deeds, DoesLine, DoesLines, Given, IsGiven, IsGivenFor, Land, acts, asks, drawing, full_after}
use Rattle.script_actors.specs.Actors.{is_full, is_stop, lines_of_actor, no_deeds, own_meaning, session_of, with_asked, with_drawn}
use Rattle.script_actors.specs.Drawings.{Asking, Called, Declined, DeskCall, DeskEntry, Drawing, Draws, Drew, IsDrawing, Makes, Ready, Refused, Reserved, Unkept, asking, calls_in, calls_of, desk_call}
use Rattle.script_actors.specs.declared.actor.Said.{Said}
use Rattle.script_actors.specs.declared.line.NumberedLine.{NumberedLine}
use Rattle.script_runner.specs.Lines.{Calls, Changes, Declines, Meaning}
use Rattle.caller_laws.specs.Callers.{is_by}
use Rattle.caller_laws.specs.Doing.{DidLines, Left, LinesDid, desk_seen, nothing_asked}
use Rattle.thread_runner.specs.Threads.{AllLinesDone}

abbrev wants_in : List DeskCall → Bool
wants_in calls = list_any (λ (c : DeskCall). is_no_memory c.reply) calls

abbrev is_hindered : DeskView → Bool
is_hindered v = is_some v.full_at || wants_in (calls_in v.entries)

-- what stopped it stands at its desk
abbrev Sound : Deeds → Type 0
Sound d = d.stopped ≡ true → is_hindered d.desk ≡ true

or_with : (a b : Bool) → b ≡ true → (a || b) ≡ true
or_with true b h = refl
or_with false b h = h

-- the calls of one entry more
calls_more : (entries : List DeskEntry) (e : DeskEntry) → calls_in (entries ++ e ∷ []) ≡ calls_in entries ++ calls_of e
calls_more [] e = append-nil (calls_of e)
calls_more (x ∷ entries) e = ap (λ cs. calls_of x ++ cs) (calls_more entries e) ∙ sym (append_assoc (calls_of x) (calls_in entries) (calls_of e))

wants_more : (entries : List DeskEntry) (e : DeskEntry) → wants_in (calls_of e) ≡ true → wants_in (calls_in (entries ++ e ∷ [])) ≡ true
wants_more entries e h =
    ap wants_in (calls_more entries e) ∙ list_any-append (λ (x : DeskCall). is_no_memory x.reply) (calls_in entries) (calls_of e)
    ∙ or_with (wants_in (calls_in entries)) (wants_in (calls_of e)) h

stops_wanting : (v : DeskView) (n : ℕ) (c : Command) → is_hindered (with_asked v n c (reply.Refused refusal.NoMemory)) ≡ true
stops_wanting v n c =
    let one : DeskCall = record { line = n; command = c; reply = reply.Refused refusal.NoMemory } in
    or_with (is_some v.full_at) (wants_in (calls_in (v.entries ++ Called one ∷ []))) (wants_more v.entries (Called one) refl)

called_sound : (d : Deeds) (l : NumberedLine) (c : Command) (g : Given) (r : Reply) → g.reply ≡ r → Sound (asks d l g (Makes c))
called_sound d l c g (reply.Refused refusal.NoMemory) is h =
    subst (λ (x : Reply). is_hindered (with_asked d.desk l.number c x) ≡ true) (sym is) (stops_wanting d.desk l.number c)
called_sound d l c g (reply.Refused refusal.LogFull) is h =
    ap (λ b. is_some (if b then Some l.number else d.desk.full_at) || wants_in (calls_in (with_asked d.desk l.number c g.reply).entries)) (ap is_full is)
called_sound d l c g _ is h = absurd (true≢false (sym h ∙ ap is_stop is))

abbrev reserved_in : Option DeskCall → List DeskCall
reserved_in found = elim found [ None ↦ [] | Some c ↦ c ∷ [] ]

-- a drawing for which memory was wanting has a reservation that was answered so
drawing_wants : (session : List ℕ) (i : Interval) (d : Drawing) → d.reply ≡ reply.Refused refusal.NoMemory → IsDrawing session i d
    → wants_in (calls_of (Drew d)) ≡ true
drawing_wants session i d is (Ready n none replied) = absurd (true≢false (sym (ap is_stop (sym replied ∙ is))))
drawing_wants session i d is (Reserved n level made replied) = absurd (true≢false (sym (ap is_stop (sym replied ∙ is))))
drawing_wants session i d is (Refused n x made replied) =
    ap (λ (o : Option DeskCall). wants_in (reserved_in o)) made ∙ ap (λ (r : Reply). is_no_memory r || false) (sym replied ∙ is)
drawing_wants session i d is (Unkept x none replied unkept) = absurd (true≢false (sym unkept ∙ ap is_unrecorded (sym replied ∙ is)))

drawn_sound : (v : DeskView) (session : List ℕ) (i : Interval) (d : Drawing) (r : Reply) → d.reply ≡ r → IsDrawing session i d → is_stop r ≡ true
    → is_hindered (with_drawn v d) ≡ true
drawn_sound v session i d (reply.Refused refusal.NoMemory) is drawn h =
    or_with (is_some (full_after v.full_at d.line d.reply)) (wants_in (calls_in (v.entries ++ Drew d ∷ [])))
    (wants_more v.entries (Drew d) (drawing_wants session i d is drawn))
drawn_sound v session i d (reply.Refused refusal.LogFull) is drawn h =
    ap (λ b. is_some (if b then Some d.line else v.full_at) || wants_in (calls_in (v.entries ++ Drew d ∷ []))) (ap is_full is)
drawn_sound v session i d _ is drawn h = absurd (true≢false (sym h))

asks_sound : (w : Who) (d : Deeds) (l : NumberedLine) (g : Given) (a : Asking) → IsGivenFor w l.number g a → Sound (asks d l g a)
asks_sound w d l g (Makes c) given = called_sound d l c g g.reply refl
asks_sound w d l g (Draws i) given = λ h. drawn_sound d.desk (session_of w) i (drawing l.number i g) g.reply refl given h
asks_sound w d l g (Declined x) given = λ h. absurd (true≢false (sym h))

acts_sound : (land : Land) (w : Who) (d : Deeds) (l : NumberedLine) (g : Given) (m : Meaning) → IsGiven land w d l g m → d.stopped ≡ false
    → Sound (acts land.intervals d l g m)
acts_sound land w d l g (Calls c) given off = asks_sound w d l g (asking land.intervals d.desk.entries c) given
acts_sound land w d l g (Declines x) given off = λ h. absurd (true≢false (sym h))
acts_sound land w d l g (Changes sides) given off = λ h. absurd (true≢false (sym h))
acts_sound land w d l g _ given off = λ h. absurd (true≢false (sym h ∙ off))

does_sound : (land : Land) (w : Who) (d e : Deeds) (l : NumberedLine) → Sound d → DoesLine land w l d e → Sound e
does_sound land w d e l sound did = subst Sound (sym did.2) (go d.stopped refl)
  where
    m : Meaning
    m = own_meaning land.objects d.sides l

    go : (b : Bool) → d.stopped ≡ b → Sound (if d.stopped then d else acts land.intervals d l did.0 m)
    go true e = subst Sound (sym (ap (λ b. if b then d else acts land.intervals d l did.0 m) e)) sound
    go false e = subst Sound (sym (ap (λ b. if b then d else acts land.intervals d l did.0 m) e)) (acts_sound land w d l did.0 m did.1 e)

all_sound : (land : Land) (w : Who) (lines : List NumberedLine) (d e : Deeds) → Sound d → DoesLines land w lines d e → Sound e
all_sound land w [] d e sound h = subst Sound (sym h) sound
all_sound land w (l ∷ lines) d e sound h = all_sound land w lines h.0 e (does_sound land w d h.0 l sound h.1) h.2

-- ---- of a caller whose calls the history has

or_left : (a b : Bool) → (a || b) ≡ false → a ≡ false
or_left true b h = h
or_left false b h = refl

or_right : (a b : Bool) → (a || b) ≡ false → b ≡ false
or_right true b h = absurd (true≢false h)
or_right false b h = h

calm_by : (p : PastEntry → Bool) (past : List PastEntry) → list_any wants past ≡ false → wants_in (map desk_call (filter p past)) ≡ false
calm_by p [] h = refl
calm_by p (e ∷ past) h = go (p e) refl (calm_by p past (or_right (wants e) (list_any wants past) h))
  where
    go : (b : Bool) → p e ≡ b → wants_in (map desk_call (filter p past)) ≡ false → wants_in (map desk_call (filter p (e ∷ past))) ≡ false
    go true on rest =
        ap (λ b. wants_in (map desk_call (cond b (e ∷ filter p past) (filter p past)))) on
        ∙ (ap (λ b. b || wants_in (map desk_call (filter p past))) (or_left (wants e) (list_any wants past) h) ∙ rest)
    go false off rest = ap (λ b. wants_in (map desk_call (cond b (e ∷ filter p past) (filter p past)))) off ∙ rest

not_true : (b : Bool) → (b ≡ true → ⊥) → b ≡ false
not_true true h = absurd (h refl)
not_true false h = refl

pub all_lines_done : (land : Land) (lines : List NumberedLine) (past : List PastEntry) (w : Who) (left : Left) → is_some left.said ≡ true
    → list_any wants past ≡ false → LinesDid land lines past w left None → AllLinesDone land lines past w left
all_lines_done land lines past w left some calm h = go left.said refl some h.did
  where
    none : wants_in (calls_in h.entries) ≡ false
    none = ap wants_in h.calls ∙ calm_by (is_by w) past calm

    whole : (said : List Said) → left.said ≡ Some said → AddsDone land w lines nothing_asked (desk_seen h.entries None) said
        → AllLinesDone land lines past w left
    whole said is did =
        let sound = all_sound land w (lines_of_actor w lines) (no_deeds nothing_asked) _ (λ on. absurd (true≢false (sym on))) did.2 in
        let off : did.1 ≡ false = not_true did.1 (λ on. true≢false (sym (sound on) ∙ none)) in
        record {
          sides = did.0;
          entries = h.entries;
          said = said;
          does = subst (λ b. DoesLines land w (lines_of_actor w lines) (no_deeds nothing_asked)
              (record { sides = did.0; desk = desk_seen h.entries None; said = said; stopped = b })) off did.2;
          calls = h.calls;
          drawn = h.drawn;
          told = is;
        }

    go : (o : Option (List Said)) → left.said ≡ o → is_some o ≡ true → DidLines land lines w o nothing_asked (desk_seen h.entries None)
        → AllLinesDone land lines past w left
    go None is on did = absurd (true≢false (sym on))
    go (Some said) is on did = whole said is did
