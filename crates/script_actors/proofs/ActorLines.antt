-- The lines of an actor, done one behind another.
use Rattle.std.proofs.Common.{◌≡◌, ◌⊎◌, inl, inr, ℕ, Bool, true, false, List, [], ◌∷◌, ◌++◌, cond, refl, sym, ap, ◌∙◌, subst}
use Rattle.std.specs.Prelude.{if◌then◌else◌, MatchBool, OnErr, Result, Ok, Err, None}
use Rattle.dialogue_session.specs.Private.{Private}
use Rattle.hall_model.specs.declared.command.Reply.{Reply}
use Rattle.hall_model.specs.declared.command.Reply.TheVariants as reply
use Rattle.hall_model.specs.declared.command.Who.{Who}
use Rattle.number_ranges.specs.Intervals.{code_of}
use Rattle.script_lang.specs.declared.script_line.ScriptLine.{ScriptLine}
use Rattle.script_lang.specs.declared.script_line.ScriptLine.TheVariants as line
use Rattle.script_runner.specs.Lines.{Meaning, Calls, line_kind}
use Rattle.script_runner.specs.declared.monitor.LineKind.TheVariants as kind
use Rattle.script_actors.specs.Actors.{AddsDone, AddsPart, Deeds, DeskView, DoesFirst, DoesLine, DoesLines, Given, IsGiven, IsGivenFor, Land, TakesLine, deeds}
use Rattle.script_actors.specs.Actors.{lines_of_actor, no_deeds, own_meaning, saying}
use Rattle.script_actors.specs.Carried.{MayHaveTaken}
use Rattle.script_actors.specs.Doers.{is_done_by}
use Rattle.script_actors.specs.Drawings.{Asking, Draws, Ready, asking}
use Rattle.script_actors.specs.declared.actor.Said.{Said}
use Rattle.script_actors.specs.declared.line.NumberedLine.{NumberedLine}

-- a line that an actor does has a reply
pub replied : (w : Who) (l : ScriptLine) → is_done_by w l ≡ true → line_kind l ≡ kind.Replied
replied w line.Blank h = cc
replied w line.Sm12 h = cc
replied w line.Sm13 h = cc
replied w line.Snro h = cc
replied w line.Audit h = cc
replied w _ h = refl

pub takes_own : (land : Land) (w : Who) (l : NumberedLine) (old new : Deeds) → is_done_by w l.line ≡ true → DoesLine land w l old new
    → TakesLine land w l old new
takes_own land w l old new own does = subst (λ b. MatchBool b (DoesLine land w l old new) (new ≡ old)) (sym own) does

pub takes_other : (land : Land) (w : Who) (l : NumberedLine) (old : Deeds) → is_done_by w l.line ≡ false → TakesLine land w l old old
takes_other land w l old other = subst (λ b. MatchBool b (DoesLine land w l old old) (old ≡ old)) (sym other) refl

pub takes_answered : (land : Land) (w : Who) (l : NumberedLine) (old : Deeds) (sides : List Private) (desk : DeskView) (r : Reply) (said : List Said)
    → is_done_by w l.line ≡ true
    → DoesLine land w l old (deeds sides desk (old.said ++ saying l.number r ∷ []) false) → said ≡ old.said ++ saying l.number r ∷ []
    → TakesLine land w l old (deeds sides desk said false)
takes_answered land w l old sides desk r said own does says =
    takes_own land w l old (deeds sides desk said false) own (subst (λ xs. DoesLine land w l old (deeds sides desk xs false)) (sym says) does)

pub on_err : {X E P : Type 0} (r : Result X E) → P → OnErr r P
on_err (Ok x) h = tt
on_err (Err e) h = h

-- ---- one line behind others

-- Where the rest of the lines is done from here, all were from the start; and where the first of the rest are, so are the first of all.
pub record GoesOn (land : Land) (w : Who) (all rest : List NumberedLine) (start now : Deeds) : Type 0 where
  pub done : (d : Deeds) → DoesLines land w rest now d → DoesLines land w all start d
  pub begun : (d : Deeds) → DoesFirst land w rest now d → DoesFirst land w all start d

given_for : (w : Who) (n : ℕ) (a : Asking) → (g : Given) × IsGivenFor w n g a
given_for w n (Draws i) = (record { reply = reply.Number 0 (code_of i 0); reservation = None }, Ready 0 refl refl)
given_for w n _ = (record { reply = reply.Done; reservation = None }, refl)

some_given : (land : Land) (w : Who) (d : Deeds) (l : NumberedLine) (m : Meaning) → (g : Given) × IsGiven land w d l g m
some_given land w d l (Calls c) = given_for w l.number (asking land.intervals d.desk.entries c)
some_given land w d l _ = (record { reply = reply.Done; reservation = None }, tt)

module _ (land : Land) (w : Who) (all : List NumberedLine) where
  pub goes_first : (sides : List Private) (desk : DeskView) (said : List Said) → sides ≡ [] → said ≡ []
      → GoesOn land w all all (no_deeds desk) (deeds sides desk said false)
  goes_first sides desk said none quiet = record {
    done = λ d h. subst (λ x. DoesLines land w all x d) (λ i. deeds (none i) desk (quiet i) false) h;
    begun = λ d h. subst (λ x. DoesFirst land w all x d) (λ i. deeds (none i) desk (quiet i) false) h;
  }

  goes_if : (own : Bool) (l : NumberedLine) (rest : List NumberedLine) (start old new : Deeds) → GoesOn land w all (cond own (l ∷ rest) rest) start old
      → MatchBool own (DoesLine land w l old new) (new ≡ old) → GoesOn land w all rest start new
  goes_if true l rest start old new g does = record {
    done = λ d h. g.done d (new, does, h);
    begun = λ d h. g.begun d (l ∷ h.0, h.1, ap (λ ls. l ∷ ls) h.2, (new, does, h.3));
  }
  goes_if false l rest start old new g is = record {
    done = λ d h. g.done d (subst (λ x. DoesLines land w rest x d) is h);
    begun = λ d h. g.begun d (subst (λ x. DoesFirst land w rest x d) is h);
  }

  -- a line of the script more
  pub goes_on : (l : NumberedLine) (later : List NumberedLine) (start old new : Deeds) → GoesOn land w all (lines_of_actor w (l ∷ later)) start old
      → TakesLine land w l old new → GoesOn land w all (lines_of_actor w later) start new
  goes_on l later start old new g h = goes_if (is_done_by w l.line) l (lines_of_actor w later) start old new g h

  -- an actor that was stopped does no more
  stays : (lines : List NumberedLine) (sides : List Private) (desk : DeskView) (said : List Said)
      → DoesLines land w lines (deeds sides desk said true) (deeds sides desk said true)
  stays [] sides desk said = refl
  stays (l ∷ lines) sides desk said =
      let d = deeds sides desk said true in
      let answer = some_given land w d l (own_meaning land.objects sides l) in (d, (answer.0, answer.1, refl), stays lines sides desk said)

module _ (land : Land) (w : Who) (lines : List NumberedLine) (old : DeskView) where
  abbrev Behind : List NumberedLine → Deeds → Type 0
  Behind rest now = GoesOn land w (lines_of_actor w lines) rest (no_deeds old) now

  pub ends_stopped : (rest : List NumberedLine) (sides : List Private) (desk : DeskView) (said : List Said) → Behind rest (deeds sides desk said true)
      → AddsDone land w lines old desk said
  ends_stopped rest sides desk said g =
      (sides, true, g.done (deeds sides desk said true) (stays land w (lines_of_actor w lines) rest sides desk said))

  pub ends_whole : (sides : List Private) (desk : DeskView) (said : List Said) → Behind [] (deeds sides desk said false)
      → AddsDone land w lines old desk said
  ends_whole sides desk said g = (sides, false, g.done (deeds sides desk said false) refl)

  -- some of the first of its lines were done
  begun : (rest : List NumberedLine) (now : Deeds) (desk : DeskView) → Behind rest now → desk ≡ now.desk → AddsPart land w lines old desk
  begun rest now desk g same = (now, g.begun now ([], rest, refl, refl), same)

  pub ends_begun : (l : NumberedLine) (later : List NumberedLine) (now : Deeds) (desk : DeskView) → Behind (lines_of_actor w (l ∷ later)) now
      → MayHaveTaken land w l now desk → AddsPart land w lines old desk
  ends_begun l later now desk g (inl same) = begun (lines_of_actor w (l ∷ later)) now desk g same
  ends_begun l later now desk g (inr h) =
      begun (lines_of_actor w later) h.0 desk (goes_on land w (lines_of_actor w lines) l later (no_deeds old) now h.0 g h.1) h.2
