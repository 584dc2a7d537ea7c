-- What a desk did, woven of its calls and of the drawings that it noted.
use Rattle.std.specs.Prelude.{ℕ, List, [], ◌∷◌, ◌++◌, drop, length, map, max, nat_lt, take}
use Rattle.std.specs.Prelude.{Option, None, if◌then◌else◌, slice_get}
use mathlib.Core.List.{reverse}
use Rattle.enq_base.specs.declared.unit.Num.{Num}
use Rattle.hall_model.specs.declared.command.PastEntry.{PastEntry}
use Rattle.hall_model.specs.declared.command.Reply.{Reply}
use Rattle.script_actors.specs.Drawings.{Called, DeskCall, DeskEntry, Drawing, Drew, desk_call, number_in}
use Rattle.turn_lock.specs.declared.history.History.{Ghosts}
use Rattle.turn_lock.specs.declared.view.View.{View}
use Rattle.turn_lock.specs.Passes.{known}
use Rattle.turn_lock.specs.Rule.{own_entries}
use Rattle.turn_desks.specs.declared.noting.Note.{Note}

-- a drawing, and how many calls the desk had made before it and behind it
pub record Noted : Type 0 where
  pub line : ℕ
  pub object : List ℕ
  pub nr : List ℕ
  pub reply : Reply
  pub before : ℕ
  pub behind : ℕ

-- the reservation that it needed, if it did
abbrev pub made_for : Noted → List DeskCall → Option DeskCall
made_for n calls = if nat_lt n.before n.behind then slice_get calls n.before else None

abbrev pub drawing_of : Noted → List DeskCall → Drawing
drawing_of n calls =
    record { line = n.line; object = n.object; nr = n.nr; reservation = made_for n calls; reply = n.reply }

-- the calls, and these drawings among them, of which the last one stands first
abbrev pub woven : List Noted → List DeskCall → List DeskEntry
woven [] calls = map Called calls
woven (n ∷ earlier) calls =
    woven earlier (take n.before calls) ++ (Drew (drawing_of n calls) ∷ map Called (drop n.behind calls))

-- how many calls had been made before the last drawing and behind it
abbrev pub made_behind : List Noted → ℕ
made_behind [] = 0
made_behind (n ∷ earlier) = max n.before n.behind

-- ---- numbers that were drawn

abbrev pub numbers_of : DeskEntry → List Num
numbers_of (Called c) = []
numbers_of (Drew d) = number_in d.object d.nr d.reply

-- all numbers of stocks that were drawn, in order
abbrev pub numbers_in : List DeskEntry → List Num
numbers_in [] = []
numbers_in (e ∷ es) = numbers_of e ++ numbers_in es

abbrev pub numbers_told : List Noted → List Num
numbers_told [] = []
numbers_told (n ∷ ns) = number_in n.object n.nr n.reply ++ numbers_told ns

-- ---- a desk's notes

module _ {S : Type 0} {g : Ghosts S PastEntry} where
  abbrev pub noted : Note S g → Noted
  noted n = record {
    line = n.line;
    object = n.object;
    nr = n.nr;
    reply = n.reply.value;
    before = length (own_entries (known n.was.value));
    behind =
        length (own_entries (known n.is.value));
  }

  -- what a desk did with these notes, whose pass knows this
  abbrev pub desk_entries : List (Note S g) → View PastEntry → List DeskEntry
  desk_entries notes v = woven (reverse (map noted notes)) (map desk_call (own_entries v))
