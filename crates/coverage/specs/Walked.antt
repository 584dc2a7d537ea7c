-- What a cover has kept of the lines that it has walked.
use Rattle.std.specs.Prelude.{◌≡◌, ℕ, Bool, true, false, cond, ◌||◌, List, [], ◌∷◌, ◌++◌, length, map, set, Option}
use Rattle.std.specs.Prelude.{Some, None, is_some}
use Rattle.std.specs.List.{fold, list_any}
use Rattle.std.specs.Map.{lookup}
use Rattle.std.specs.Option.{option_map_or}
use Rattle.enq_base.specs.contracts.name.NamePartialEq.TheImpl as names
use Rattle.lock_entry.specs.declared.entry.Asked.{Asked}
use Rattle.lock_objects.specs.Objects.{Object}
use Rattle.script_lang.specs.declared.script_line.ScriptLine.{ScriptLine}
use Rattle.coverage.specs.declared.lack.Finding.{Finding}
use Rattle.coverage.specs.declared.lack.Watch.{Watch}
use Rattle.coverage.specs.declared.lack.Wish.{Wish}
use Rattle.coverage.specs.Lacks.{Fate, Numbered, Standing, Waiting, Dropped, Judged, after_line, abandons, commits}
use Rattle.coverage.specs.Lacks.{fate_of, findings, fresh, is_guarded, is_kept, is_met, is_of, on_table, own_finding}
use Rattle.coverage.specs.Lacks.{standing_of, table_read, uneven, wish_of}
use Rattle.script_lang.specs.Sessions.{session_of}

-- the watch over a wish that still waits
abbrev pub waiting : (place : ℕ) → Wish → Fate → List Watch
waiting place w (Waiting met) = record { place = place; wish = w; met = met } ∷ []
waiting place w Dropped = []
waiting place w (Judged met) = []

-- the wish of a line that lacks nothing by itself
abbrev pub wish_in : List Object → Numbered → Option Wish
wish_in objects x = cond (is_some (own_finding objects x)) None (wish_of x)

-- the watch over a line of the session
abbrev pub watch_at : List Object → List ℕ → (before : List Numbered) → Numbered → (after : List Numbered) → List Watch
watch_at objects s before x after =
    option_map_or (λ w. waiting (length before) w (fate_of objects s w before x after)) (wish_in objects x) []

abbrev pub watches_from : List Object → List ℕ → (before lines : List Numbered) → List Watch
watches_from objects s before [] = []
watches_from objects s before (x ∷ xs) =
    cond (is_of s x.1) (watch_at objects s before x xs) [] ++ watches_from objects s (before ++ x ∷ []) xs

-- a session: what it has, and the wishes of its unit
pub record SessionView : Type 0 where
  pub standing : Standing
  pub watches : List Watch

abbrev pub no_lines : SessionView
no_lines = record { standing = fresh; watches = [] }

abbrev pub session_after : List Object → List Numbered → List ℕ → SessionView
session_after objects lines s =
    record { standing = standing_of objects s lines; watches = watches_from objects s [] lines }

abbrev pub looked_after : List Asked → Watch → Watch
looked_after held x = record x { met = is_kept x.wish x.met held }

-- the watch over a line that was just read
abbrev pub new_watch : (place : ℕ) → Option Wish → List Asked → List Watch
new_watch place None held = []
new_watch place (Some w) held = record { place = place; wish = w; met = is_kept w true held } ∷ []

-- the watches that stand on after a line
abbrev pub watches_on : List Object → Standing → ScriptLine → List Watch → List Watch
watches_on objects st l watches =
    cond (commits st l || abandons l) [] (map (looked_after ((after_line objects st l).held)) watches)

-- a session after one more line of its own, with the line's wish
abbrev pub followed : List Object → (place : ℕ) → Option Wish → ScriptLine → SessionView → SessionView
followed objects place wish l v = record {
  standing = after_line objects v.standing l;
  watches = watches_on objects v.standing l v.watches ++ new_watch place wish ((after_line objects v.standing l).held);
}

-- what was found, with what a COMMIT tells of a watch
abbrev pub told_by : List Asked → List (Option Finding) → Watch → List (Option Finding)
told_by held found x =
    cond (is_met x.wish x.met held) found (set found x.place (Some (on_table x.wish.table x.wish.lack)))

abbrev pub told : List Asked → List Watch → List (Option Finding) → List (Option Finding)
told held watches found = fold (told_by held) found watches

-- what was found, with what one more line of a session tells
abbrev pub told_on : SessionView → ScriptLine → List (Option Finding) → List (Option Finding)
told_on v l found = cond (commits v.standing l) (told v.standing.held v.watches found) found

-- how a map compares names
abbrev pub name_eq : List ℕ → List ℕ → Bool
name_eq = (names.eq-value).it

-- the session of this name; any other has no lines
abbrev pub session_named : List (List ℕ × SessionView) → List ℕ → SessionView
session_named sessions n = option_map_or (λ v. v) (lookup (name_eq n) sessions) no_lines

abbrev pub is_among : List (List ℕ) → List ℕ → Bool
is_among names n = list_any (name_eq n) names

-- a cover: its objects, the tables that its lines read, its sessions, and what was found at each line
pub record CoverView : Type 0 where
  pub objects : List Object
  pub uneven : List (List ℕ)
  pub guards : List (List ℕ)
  pub sessions : List (List ℕ × SessionView)
  pub found : List (Option Finding)

abbrev pub is_named : List ℕ → Option (List ℕ) → Bool
is_named n name = option_map_or (λ m. name_eq m n) name false

-- what was found, with what one more line tells of its session
abbrev pub told_at : CoverView → ScriptLine → List (Option Finding)
told_at c l = option_map_or (λ s. told_on (session_named c.sessions s) l c.found) (session_of l) c.found

-- one more line
pub record StepsOn (x : Numbered) (before after : CoverView) : Type 0 where
  pub same_objects : after.objects ≡ before.objects
  pub same_lengths : after.uneven ≡ before.uneven
  pub guarded : (t : List ℕ) → is_among after.guards t ≡ (is_named t (table_read x.1) || is_among before.guards t)
  pub each_session : (s : List ℕ) → session_named after.sessions s ≡ cond (is_named s (session_of x.1))
      (followed before.objects (length before.found) (wish_in before.objects x) x.1 (session_named before.sessions s))
      (session_named before.sessions s)
  pub all_found : after.found ≡ told_at before x.1 ++ own_finding before.objects x ∷ []

-- it is what these lines make of it
pub record HasWalked (objects : List Object) (lines : List Numbered) (c : CoverView) : Type 0 where
  pub same_objects : c.objects ≡ objects
  pub lengths : c.uneven ≡ uneven objects
  pub guarded : (t : List ℕ) → is_among c.guards t ≡ is_guarded lines t
  pub each_session : (s : List ℕ) → session_named c.sessions s ≡ session_after objects lines s
  pub all_found : c.found ≡ findings objects lines
