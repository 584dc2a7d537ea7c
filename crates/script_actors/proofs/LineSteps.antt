-- One line of an actor: what it asks of the desk, and what it comes to.
use Rattle.std.proofs.Common.{◌≡◌, ◌⊎◌, inl, inr, ℕ, ◌+◌, ◌≤◌, Bool, true, false, List, [], ◌∷◌, ◌++◌, cond, refl, sym, ap, ◌∙◌, subst, arith}
use Rattle.std.specs.Prelude.{count_by, if◌then◌else◌, is_some, Result, Ok, Err, Some, None}
use Rattle.std.proofs.lemmas.List.Sums.{sum_by-cons}
use Rattle.dialogue_session.specs.Filling.{filled}
use Rattle.dialogue_session.specs.Private.{Private}
use Rattle.dialogue_session.specs.declared.variables.Variable.{Variable}
use Rattle.enq_base.specs.declared.refusal.Refusal.{Refusal}
use Rattle.enq_base.specs.declared.refusal.Refusal.TheVariants as refusal
use Rattle.enq_base.specs.declared.unit.Deed.{Deed}
use Rattle.enq_base.specs.declared.unit.Deed.TheVariants as deed
use Rattle.enq_base.specs.declared.unit.Effect.{Effect}
use Rattle.hall_model.specs.declared.command.Command.{Command}
use Rattle.hall_model.specs.declared.command.Command.TheVariants as command
use Rattle.hall_model.specs.declared.command.Reply.{Reply}
use Rattle.hall_model.specs.declared.command.Reply.TheVariants as reply
use Rattle.hall_model.specs.declared.command.Who.{Who}
use Rattle.lock_objects.specs.Objects.{Object}
use Rattle.mode_rules.specs.declared.Mode.TheVariants as mode
use Rattle.number_ranges.specs.Intervals.{code_of, is_named}
use Rattle.number_ranges.specs.declared.interval.Interval.{Interval}
use Rattle.script_lang.specs.declared.script_line.ScriptLine.{ScriptLine}
use Rattle.script_lang.specs.declared.script_line.ScriptLine.TheVariants as line
use Rattle.script_runner.specs.Lines.{Meaning, Silent, Shows, Calls, Declines, Changes, and_next, asking, collected, collecting, effect_of, key_in, key_with}
use Rattle.script_runner.specs.Lines.{meaning, number_in, of_session, registered, registering, requesting, settled, text_in, then_deed, unless_refused}
use Rattle.script_runner.specs.Preparing.{HasRoomFor, IsPrepared, MayEnter}
use Rattle.script_runner.specs.Sides.{SidesView, side_of, variables_of}
use Rattle.script_runner.specs.World.{Setting, setting}
use Rattle.script_runner.specs.declared.preparing.Prepared.{Prepared}
use Rattle.script_actors.specs.Actors.{ComesTo, DeskView, DoesLine, DoneAs, Given, HasEnough, IsGiven, IsGivenFor, acts, asks, called_as, deeds, drawing}
use Rattle.script_actors.specs.Actors.{drawn_as, followed, is_number_of, is_stop, keeps_side, land_of, lines_of_actor, numbers_asked, own_meaning, refused_as}
use Rattle.script_actors.specs.Actors.{saying, session_of, with_answer, with_asked, with_drawn, with_number}
use Rattle.script_actors.specs.Carried.{AsksLine, DrewFor, IsCalled, IsCalledOrWanting, IsDrawnFrom, IsWanted, MayMake}
use Rattle.script_actors.specs.Doers.{is_done_by}
use Rattle.script_actors.specs.Drawings.{Asking, Declined, Draws, IsDrawing, Makes, Ready, interval_at, stock_of, with_stock}
use Rattle.script_actors.specs.Drawings.{asking as desk_asking}
use Rattle.script_actors.specs.declared.actor.Done.{Done}
use Rattle.script_actors.specs.declared.actor.Done.TheVariants as done
use Rattle.script_actors.specs.declared.actor.Said.{Said}
use Rattle.script_actors.specs.declared.line.NumberedLine.{NumberedLine}
use Rattle.script_actors.specs.declared.asking.Wanted.TheVariants as wanted
use Rattle.script_actors.proofs.Numbers.{found_named, found_there, no_call, wanted_call}

-- ---- a line that comes to a call

-- whatever a line is prepared as, there is the room that it wants
pub room_any : (l : ScriptLine) (made other : Prepared) (sides : SidesView) → HasRoomFor l (Ok made) sides → HasRoomFor l (Ok other) sides
room_any (line.Logon s user) made other sides h = h
room_any (line.Num s object nr variable) made other sides h = h
room_any (line.Read s table key variable) made other sides h = h
room_any _ made other sides h = tt

-- a session that keeps no side may enter
pub may_follow : (l : ScriptLine) (r : Reply) (made : Prepared) (sides : SidesView) → HasRoomFor l (Ok made) sides → keeps_side l sides.items ≡ false
    → MayEnter l r sides
may_follow (line.Logon s user) reply.Done made sides room free = (room, free)
may_follow (line.Num s object nr variable) (reply.Number number code) made sides room free = room
may_follow (line.Read s table key variable) (reply.Row (Some text)) made sides room free = room
may_follow _ _ made sides room free = tt

pub followed_kept : (l : ScriptLine) (r : Reply) (sides : List Private) → keeps_side l sides ≡ true → sides ≡ followed l r sides
followed_kept l r sides kept = sym (ap (λ b. if b then sides else settled l r sides) kept)

pub followed_settled : (l : ScriptLine) (r : Reply) (sides now : List Private) → keeps_side l sides ≡ false → now ≡ settled l r sides → now ≡ followed l r sides
followed_settled l r sides now free is = is ∙ sym (ap (λ b. if b then sides else settled l r sides) free)

-- ---- a line that asks for a number

abbrev IsNumbered : ScriptLine → Meaning → Type 0
IsNumbered l (Calls (command.Number s object nr)) = (i : Interval) → is_number_of i l ≡ is_named object nr i
IsNumbered l m = Unit {0}

session_numbered : (l : ScriptLine) (sides : List Private) (name : List ℕ) (m : Meaning) → IsNumbered l m → IsNumbered l (of_session sides name m)
session_numbered l sides name m h = elim (is_some (side_of sides name)) as (λ b. IsNumbered l (if b then m else Declines refusal.UnknownSession))
    [ true ↦ h | false ↦ tt ]

unless_numbered : {X : Type 0} (l : ScriptLine) (r : Result X Refusal) (next : X → Meaning) → ((x : X) → IsNumbered l (next x))
    → IsNumbered l (unless_refused r next)
unless_numbered l (Ok x) next h = h x
unless_numbered l (Err r) next h = tt

-- the effect of a line, with what it does
abbrev effect_doing : List Variable → (List ℕ → Result Deed Refusal) → List ℕ → List ℕ → List ℕ → Result Effect Refusal
effect_doing variables doing table key text =
    and_next (filled variables key) (λ k. and_next (filled variables text) (λ t. effect_of table (key_in k) (doing t)))

effect_numbered : (l : ScriptLine) (w : Setting) (n : List ℕ) (part : ℕ) (doing : List ℕ → Result Deed Refusal) (table key text : List ℕ)
    → IsNumbered l (of_session w.sides n (unless_refused (effect_doing (variables_of w.sides n) doing table key text) (registering w.sides n part)))
effect_numbered l w n part doing table key text =
    session_numbered l w.sides n _
    (unless_numbered l (effect_doing (variables_of w.sides n) doing table key text) (registering w.sides n part)
    (λ e. unless_numbered l (registered w.sides n part e) Changes (λ sides. tt)))

line_numbered : (w : Setting) (l : ScriptLine) → IsNumbered l (meaning w l)
line_numbered w (line.Logoff n) = session_numbered (line.Logoff n) w.sides n _ tt
line_numbered w (line.DeqAll n) = session_numbered (line.DeqAll n) w.sides n _ tt
line_numbered w (line.Flush n) = session_numbered (line.Flush n) w.sides n _ tt
line_numbered w (line.Reset n) = session_numbered (line.Reset n) w.sides n _ tt
line_numbered w (line.Rollback n) = session_numbered (line.Rollback n) w.sides n _ tt
line_numbered w (line.Commit n) = session_numbered (line.Commit n) w.sides n _ tt
line_numbered w (line.Enq n object m scope values) =
    session_numbered (line.Enq n object m scope values) w.sides n _
    (unless_numbered (line.Enq n object m scope values) (requesting (variables_of w.sides n) w.objects object m scope values)
    (λ rs. Calls (command.Ask n rs)) (λ rs. tt))
line_numbered w (line.Deq n object m scope values) =
    session_numbered (line.Deq n object m scope values) w.sides n _
    (unless_numbered (line.Deq n object m scope values) (requesting (variables_of w.sides n) w.objects object m scope values)
    (λ rs. Calls (command.Free n rs)) (λ rs. tt))
line_numbered w (line.Collect n object m scope values) =
    session_numbered (line.Collect n object m scope values) w.sides n _
    (unless_numbered (line.Collect n object m scope values) (requesting (variables_of w.sides n) w.objects object m scope values)
    (collecting w.sides n)
    (λ rs. unless_numbered (line.Collect n object m scope values) (collected w.sides n rs) Changes (λ sides. tt)))
line_numbered w (line.Convert n object values) =
    session_numbered (line.Convert n object values) w.sides n _
    (unless_numbered (line.Convert n object values) (asking (variables_of w.sides n) w.objects object mode.O values)
    (λ asked. Calls (command.Convert n asked)) (λ asked. tt))
line_numbered w (line.Num n object nr variable) = session_numbered (line.Num n object nr variable) w.sides n _ (λ i. refl)
line_numbered w (line.Read n table key variable) =
    session_numbered (line.Read n table key variable) w.sides n _
    (unless_numbered (line.Read n table key variable) (key_with (variables_of w.sides n) key) (λ k. Calls (command.Read n table k)) (λ k. tt))
line_numbered w (line.Put n part table key text) = effect_numbered (line.Put n part table key text) w n part (λ t. then_deed deed.Put (text_in t)) table key text
line_numbered w (line.Ins n part table key text) = effect_numbered (line.Ins n part table key text) w n part (λ t. then_deed deed.Ins (text_in t)) table key text
line_numbered w (line.Del n part table key) = effect_numbered (line.Del n part table key) w n part (λ t. Ok deed.Del) table key []
line_numbered w (line.Add n part table key number) = effect_numbered (line.Add n part table key number) w n part (λ t. then_deed deed.Add (number_in t)) table key number
line_numbered w _ = tt

abbrev bit_of : Bool → ℕ
bit_of b = cond b 1 0

-- an actor's own line is counted where it asks for a number
count_own : (w : Who) (l : NumberedLine) (i : Interval) → is_done_by w l.line ≡ true → is_number_of i l.line ≡ true → 1 ≤ numbers_asked i w (l ∷ [])
count_own w l i own asked =
    let whole = sum_by-cons (λ (x : NumberedLine). cond (is_number_of i x.line) 1 0) l [] in
    let one : bit_of (is_number_of i l.line) ≡ bit_of true = ap bit_of asked in
    let kept : numbers_asked i w (l ∷ []) ≡ count_by (λ (x : NumberedLine). is_number_of i x.line) (l ∷ []) =
    ap (λ b. count_by (λ (x : NumberedLine). is_number_of i x.line) (cond b (l ∷ []) [])) own in omega (arith, whole, one, kept)

-- what a line comes to may be asked of a desk that has enough left
pub may_make : (objects : List Object) (intervals : List Interval) (w : Who) (l : NumberedLine) (sides : List Private) (left : Interval → ℕ) (c : Command)
    → own_meaning objects sides l ≡ Calls c → is_done_by w l.line ≡ true → HasEnough intervals w (l ∷ []) left → MayMake intervals w l left c
may_make objects intervals w l sides left (command.Number s object nr) is own enough =
    let asked : (i : Interval) → is_number_of i l.line ≡ is_named object nr i = subst (IsNumbered l.line) is (line_numbered (setting objects sides) l.line) in (
      (λ i found buffered.
          let one = count_own w l i own (asked i ∙ found_named intervals object nr i found) in
          let few = enough i (found_there intervals object nr i found) buffered in omega (arith, one, few)),
      (λ i named. count_own w l i own (asked i ∙ named)),
    )
may_make objects intervals w l sides left _ is own enough = tt

-- ---- what a line asks is done

by_stop : (step : List Said → List Said → Bool → Type 0) (P : Done → Type 0) (b : Bool) (n : ℕ) (r : Reply)
    → ((h : (said : List Said) → step said said true) → P done.Stopped)
    → ((h : (said : List Said) → step said (said ++ saying n r ∷ []) false) → P (done.Answered r))
    → ((said : List Said) → step said (if b then said else said ++ saying n r ∷ []) b) → P (if b then done.Stopped else done.Answered r)
by_stop step P true n r stops answers h = stops h
by_stop step P false n r stops answers h = answers h

module _ (intervals : List Interval) (w : Who) (l : NumberedLine) (c : Command) (sides : List Private) (desk : DeskView) where
  abbrev Step : List Private → DeskView → List Said → List Said → Bool → Type 0
  Step sides_now desk_now said said_now stopped = AsksLine intervals w l c (deeds sides desk said false) (deeds sides_now desk_now said_now stopped)

  abbrev Comes : List Private → DeskView → Done → Type 0
  Comes sides_now desk_now result = ComesTo (AsksLine intervals w l c) l sides desk sides_now desk_now result

  asked_so : (a : Asking) (g : Given) (sides_now : List Private) (desk_now : DeskView) (said said_now : List Said) (stopped : Bool)
      → desk_asking intervals desk.entries c ≡ a → IsGivenFor w l.number g a
      → deeds sides_now desk_now said_now stopped ≡ asks (deeds sides desk said false) l g a → Step sides_now desk_now said said_now stopped
  asked_so a g sides_now desk_now said said_now stopped is given made =
      subst
      (λ (x : Asking). (y : Given) × IsGivenFor w l.number y x × (deeds sides_now desk_now said_now stopped ≡ asks (deeds sides desk said false) l y x))
      (sym is) (g, given, made)

  answered : (made : Command) (r : Reply) (sides_now : List Private) (desk_now : DeskView) → desk_asking intervals desk.entries c ≡ Makes made
      → sides_now ≡ followed l.line r sides → desk_now ≡ with_asked desk l.number made r
      → (said : List Said) → Step sides_now desk_now said (with_answer said l.number r) (is_stop r)
  answered made r sides_now desk_now is follows told said =
      asked_so (Makes made) (record { reply = r; reservation = None }) sides_now desk_now said (with_answer said l.number r) (is_stop r) is refl
      (λ i. deeds (follows i) (told i) (with_answer said l.number r) (is_stop r))

  called : (made : Command) (r : Reply) (sides_now : List Private) (desk_now : DeskView) → desk_asking intervals desk.entries c ≡ Makes made
      → sides_now ≡ followed l.line r sides → desk_now ≡ with_asked desk l.number made r → Comes sides_now desk_now (called_as r)
  called made (reply.Refused refusal.NoMemory) sides_now desk_now is follows told =
      answered made (reply.Refused refusal.NoMemory) sides_now desk_now is follows told
  called made (reply.Refused refusal.LogFull) sides_now desk_now is follows told =
      answered made (reply.Refused refusal.LogFull) sides_now desk_now is follows told
  called made (reply.Refused refusal.Idle) sides_now desk_now is follows told =
      answered made (reply.Refused refusal.Idle) sides_now desk_now is follows told
  called made r sides_now desk_now is follows told = answered made r sides_now desk_now is follows told

  -- a call
  pub does_call : (made : Command) (sides_now : List Private) (desk_now : DeskView) (result : Done) → desk_asking intervals desk.entries c ≡ Makes made
      → IsCalled l made sides desk sides_now desk_now result → Comes sides_now desk_now result
  does_call made sides_now desk_now result is h =
      subst (Comes sides_now desk_now) (sym h.comes) (called made h.reply sides_now desk_now is h.follows h.told)

  -- a number of a stock
  pub does_draw : (i : Interval) (sides_now : List Private) (desk_now : DeskView) (result : Done) → desk_asking intervals desk.entries c ≡ Draws i
      → IsDrawnFrom (session_of w) l i sides desk sides_now desk_now result → Comes sides_now desk_now result
  does_draw i sides_now desk_now result is h =
      let g = h.given in
      subst (Comes sides_now desk_now) (sym h.comes)
      (by_stop (Step sides_now desk_now) (Comes sides_now desk_now) (is_stop g.reply) l.number g.reply (λ f. f) (λ f. f)
      (λ said.
      asked_so (Draws i) g sides_now desk_now said (with_number said l.number g.reply) (is_stop g.reply) is h.is
      (λ k. deeds (h.follows k) (h.told k) (with_number said l.number g.reply) (is_stop g.reply))))

  -- a refusal, since the unit has no room
  pub does_decline : (x : Refusal) → desk_asking intervals desk.entries c ≡ Declined x → Comes sides desk (done.Answered (reply.Refused x))
  does_decline x is = λ said.
      asked_so (Declined x) (record { reply = reply.Done; reservation = None }) sides desk said (said ++ saying l.number (reply.Refused x) ∷ []) false is refl
      refl

module _ (intervals : List Interval) (w : Who) (l : NumberedLine) (sides : List Private) (desk : DeskView) (sides_now : List Private) (desk_now : DeskView)
    (came : Done) where
  abbrev Came : Command → Type 0
  Came c = ComesTo (AsksLine intervals w l c) l sides desk sides_now desk_now came

  -- what was asked is done, whatever it was
  pub comes_called : (c : Command) → IsWanted intervals desk.entries c wanted.Call
      → IsCalledOrWanting l (with_stock (stock_of desk.entries) c) sides desk sides_now desk_now came → Came c
  comes_called c h (inl quiet) = subst (λ (x : Done). ComesTo (AsksLine intervals w l c) l sides desk sides_now desk_now x) (sym quiet.0) quiet.1
  comes_called c h (inr called) =
      does_call intervals w l c sides desk (with_stock (stock_of desk.entries) c) sides_now desk_now came
      (wanted_call intervals w l desk.entries (λ i. 0) c h) called

  pub comes_drawn : (c : Command) → IsWanted intervals desk.entries c wanted.Number
      → DrewFor (session_of w) intervals l sides desk sides_now desk_now came c → Came c
  comes_drawn (command.Number s object nr) h drew =
      let d = h s in
      does_draw intervals w l (command.Number s object nr) sides desk d.interval sides_now desk_now came d.asks (drew d.interval d.found)
  comes_drawn _ h drew = no_call wanted.Number refl h

pub comes_declined : (intervals : List Interval) (w : Who) (l : NumberedLine) (sides : List Private) (desk : DeskView) (c : Command)
    → IsWanted intervals desk.entries c wanted.TooMany
    → ComesTo (AsksLine intervals w l c) l sides desk sides desk (done.Answered (reply.Refused refusal.UnitTooLarge))
comes_declined intervals w l sides desk (command.Number s object nr) h =
    does_decline intervals w l (command.Number s object nr) sides desk refusal.UnitTooLarge (h s)
comes_declined intervals w l sides desk _ h = no_call wanted.TooMany refl h

-- ---- one line

module _ (objects : List Object) (intervals : List Interval) (w : Who) (l : NumberedLine) (sides : List Private) (desk : DeskView)
    (sides_now : List Private) (desk_now : DeskView) where
  means : (m : Meaning) (g : Given) (said said_now : List Said) (stopped : Bool) → own_meaning objects sides l ≡ m
      → IsGiven (land_of objects intervals) w (deeds sides desk said false) l g m
      → deeds sides_now desk_now said_now stopped ≡ acts intervals (deeds sides desk said false) l g m
      → DoesLine (land_of objects intervals) w l (deeds sides desk said false) (deeds sides_now desk_now said_now stopped)
  means m g said said_now stopped is given made =
      subst
      (λ (x : Meaning). (y : Given) × IsGiven (land_of objects intervals) w (deeds sides desk said false) l y x
      × (deeds sides_now desk_now said_now stopped ≡ acts intervals (deeds sides desk said false) l y x))
      (sym is) (g, given, made)

  asked : (c : Command) (said said_now : List Said) (stopped : Bool) → own_meaning objects sides l ≡ Calls c
      → AsksLine intervals w l c (deeds sides desk said false) (deeds sides_now desk_now said_now stopped)
      → DoesLine (land_of objects intervals) w l (deeds sides desk said false) (deeds sides_now desk_now said_now stopped)
  asked c said said_now stopped is h = means (Calls c) h.0 said said_now stopped is h.1 h.2

  -- one that comes to a call
  pub does_asked : (c : Command) (result : Done) → own_meaning objects sides l ≡ Calls c
      → ComesTo (AsksLine intervals w l c) l sides desk sides_now desk_now result
      → DoneAs (land_of objects intervals) w l sides desk sides_now desk_now result
  does_asked c done.Called is h = λ said. asked c said said false is (h said)
  does_asked c (done.Answered r) is h = λ said. asked c said (said ++ saying l.number r ∷ []) false is (h said)
  does_asked c done.Stopped is h = λ said. asked c said said true is (h said)
  does_asked c done.Wanting is h = h

  -- one that changes the private side alone
  pub does_change : own_meaning objects sides l ≡ Changes sides_now → desk_now ≡ desk
      → DoneAs (land_of objects intervals) w l sides desk sides_now desk_now (done.Answered reply.Done)
  does_change is same = λ said.
      means (Changes sides_now) (record { reply = reply.Done; reservation = None }) said (said ++ saying l.number reply.Done ∷ []) false is tt
      (λ i. deeds sides_now (same i) (said ++ saying l.number reply.Done ∷ []) false)

  declines : (x : Refusal) → own_meaning objects sides l ≡ Declines x → sides_now ≡ sides → desk_now ≡ desk
      → DoneAs (land_of objects intervals) w l sides desk sides_now desk_now (done.Answered (reply.Refused x))
  declines x is kept same = λ said.
      means (Declines x) (record { reply = reply.Done; reservation = None }) said (said ++ saying l.number (reply.Refused x) ∷ []) false is tt
      (λ i. deeds (kept i) (same i) (said ++ saying l.number (reply.Refused x) ∷ []) false)

  -- one that is refused before any call
  pub does_refused : (grows : Bool) (x : Refusal) → IsPrepared (own_meaning objects sides l) grows sides sides_now (Err x) → desk_now ≡ desk
      → DoneAs (land_of objects intervals) w l sides desk sides_now desk_now (refused_as x)
  does_refused grows refusal.NoMemory h same = same
  does_refused grows x h same = declines x h.0 h.1 same
