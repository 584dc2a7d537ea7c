-- The rule of a lock that serves in turn, and what each step tells.
use Rattle.std.specs.Prelude.{◌≡◌, ◌≢◌, ◌⊎◌, ℕ, zero, suc, ◌+◌, ◌-◌, ◌^◌, ◌<◌, ◌≤◌, ◌==◌, Bool, true, false, ltb, List}
use Rattle.std.specs.Prelude.{[], ◌∷◌, ◌++◌, length, map, slice_get, if◌then◌else◌, All, Option, Some}
use Rattle.std.specs.List.{sum_by}
use mathlib.Core.Option.{some, none}
use mathlib.Core.List.{IsPrefix}
use lib.ListN.{get_elem?}
use Rattle.atomic_table.specs.Table.{State, Me, Step}
use Rattle.seat_sums.specs.Entries.{entries_at}
use Rattle.seat_sums.specs.Sums.{times, one_if, IsDistinct}
use Rattle.turn_lock.specs.declared.view.View.{View}
use Rattle.turn_lock.specs.declared.view.Turn.{Turn}
use Rattle.turn_lock.specs.declared.view.Turn.TheVariants.{Rests, Waits, Holds}

abbrev pub has_ticket : ℕ → Turn → Bool
has_ticket t Rests = false
has_ticket t (Waits k) = t == k
has_ticket t (Holds k) = t == k

abbrev pub ticket_of : Turn → ℕ
ticket_of Rests = 0
ticket_of (Waits k) = k
ticket_of (Holds k) = k

abbrev pub is_holding : Turn → Bool
is_holding Rests = false
is_holding (Waits k) = false
is_holding (Holds k) = true

-- this many numbers from the first on
abbrev pub numbers : ℕ → ℕ → List ℕ
numbers first zero = []
numbers first (suc n) = first ∷ numbers (suc first) n

module _ {E : Type 0} where
  -- the places of a list that lie behind its first entries
  abbrev pub places_from : List E → List E → List ℕ
  places_from first log = numbers (length first) (length log - length first)

module _ {E : Type 0} where
  -- who holds the state has the ticket that is served, and has seen the whole history
  abbrev pub TurnFits : ℕ → List E → List E → Turn → Type 0
  TurnFits serving log seen Rests = Unit {0}
  TurnFits serving log seen (Waits t) = Unit {0}
  TurnFits serving log seen (Holds t) = (t ≡ serving) × (seen ≡ log)

  -- What a pass saw begins the history, and its own entries stand there. A pass with no part is spent
  pub record Fits (serving : ℕ) (log : List E) (v : View E) : Type 0 where
    pub seen : IsPrefix v.seen log
    pub shorter : IsPrefix v.shorter v.seen
    pub own : All (λ k. k < length v.seen) v.own
    pub turn : TurnFits serving log v.seen v.turn
    pub spent : v.parts ≡ 0 → (v.turn ≡ Rests) × (v.own ≡ [])

module _ {S E : Type 0} where
  -- the state is at home, with the history, and no pass holds it
  abbrev pub IsHome : (S → List E) → List E → State (Option S) (View E) → Type 0
  IsHome past log s = (x : S) × (s.homes ≡ some (Some x) ∷ []) × (past x ≡ log)
      × (sum_by (λ v. one_if (is_holding v.turn)) s.views ≡ 0)

  -- one pass holds it
  abbrev pub IsOut : State (Option S) (View E) → Type 0
  IsOut s = (s.homes ≡ none ∷ []) × (sum_by (λ v. one_if (is_holding v.turn)) s.views ≡ 1)

-- The tickets below the next one were served, or stand in the views, each once. Each place of the history is one pass's
-- own, once. The passes have all parts
pub record Kept {S E : Type 0} (past : S → List E) (all : ℕ) (s : State (Option S) (View E)) : Type 0 where
  pub next : ℕ
  pub serving : ℕ
  pub log : List E
  pub words : s.words ≡ next ∷ serving ∷ []
  pub room : next < 2 ^ 64
  pub tickets : (t : ℕ) → one_if (ltb t serving) + sum_by (λ v. one_if (has_ticket t v.turn)) s.views ≡ one_if
      (ltb t next)
  pub place : IsHome past log s ⊎ IsOut s
  pub parts : sum_by (λ v. v.parts) s.views ≡ all
  pub own : (k : ℕ) → sum_by (λ v. times k v.own) s.views ≡ one_if (ltb k (length log))
  pub each : (seat : ℕ) (v : View E) → get_elem? s.views seat ≡ some v → Fits serving log v

module _ {E : Type 0} where
  abbrev pub opener : ℕ → List E → View E
  opener parts log = record { parts = parts; turn = Rests; seen = log; shorter = []; own = numbers 0 (length log) }

  abbrev pub spent : View E
  spent = record { parts = 0; turn = Rests; seen = []; shorter = []; own = [] }

  abbrev pub waits : ℕ → View E → View E
  waits t v = record { parts = v.parts; turn = Waits t; seen = v.seen; shorter = v.shorter; own = v.own }

  -- the state was taken, with this history
  abbrev pub took : ℕ → List E → View E → View E
  took t log v = record { parts = v.parts; turn = Holds t; seen = log; shorter = v.shorter; own = v.own }

  -- it was given back, with this history, in which what was added is the pass's own
  abbrev pub gave : List E → View E → View E
  gave log v = record {
    parts = v.parts;
    turn = Rests;
    seen = log;
    shorter = v.shorter;
    own =
        v.own ++ places_from v.seen log;
  }

  -- after a call that found the one history and left the other: the latter was seen, and what was added is the pass's
  -- own
  abbrev pub called : List E → List E → View E → View E
  called before after v =
      record {
        parts = v.parts;
        turn = Rests;
        seen = after;
        shorter = v.shorter;
        own =
            v.own ++ places_from before after;
      }

  -- the pass's own entries
  abbrev pub own_entries : View E → List E
  own_entries v = entries_at v.seen v.own

  -- the history has the pass's own entries, in order, at the places that are its own
  abbrev pub Stands : List E → View E → Type 0
  Stands log v = map (slice_get log) v.own ≡ map Some (own_entries v)

  -- this many parts are given away, to a new pass that has seen as much
  abbrev pub kept_of : ℕ → View E → View E
  kept_of parts v = record { parts = v.parts - parts; turn = v.turn; seen = v.seen; shorter = v.shorter; own = v.own }

  abbrev pub given_of : ℕ → View E → View E
  given_of parts v = record { parts = parts; turn = Rests; seen = v.seen; shorter = []; own = [] }

  abbrev pub longer_of : List E → List E → List E
  longer_of xs ys = if ltb (length xs) (length ys) then ys else xs

  abbrev pub shorter_of : List E → List E → List E
  shorter_of xs ys = if ltb (length xs) (length ys) then xs else ys

  abbrev pub both_of : View E → View E → View E
  both_of v w = record {
    parts = v.parts + w.parts;
    turn = v.turn;
    seen = longer_of v.seen w.seen;
    shorter =
        shorter_of v.seen w.seen;
    own = v.own ++ w.own;
  }

  -- what each view keeps
  abbrev pub IsSound : ℕ → View E → Type 0
  IsSound all v = (v.parts ≤ all) × IsPrefix v.shorter v.seen × IsDistinct v.own × All (λ k. k < length v.seen) v.own

-- what a seat of the lock's table has: its view, and the slot that it took
abbrev pub SeatState : Type 0 → Type 0 → Type 0
SeatState S E = Me (Option S) (View E)

module _ {S E : Type 0} where
  -- the ticket is served: the pass took the state, whose history begins with what it had seen
  abbrev pub IsServed : (S → List E) → ℕ → View E → SeatState S E → Type 0
  IsServed past ticket v w = (x : S) × (w ≡ (took ticket (past x) v, (0, Some x) ∷ [])) × IsPrefix v.seen (past x)

  -- the ticket was taken, if it was the next one
  abbrev pub Tickets : Step (Option S) → SeatState S E → ℕ → SeatState S E → Type 0
  Tickets st m found w = (found ≡ st.first → w ≡ (waits found m.0, m.1)) × (found ≢ st.first → w ≡ m)

  -- the state was taken, if the pass's ticket is served
  abbrev pub Looks : (S → List E) → Step (Option S) → SeatState S E → ℕ → SeatState S E → Type 0
  Looks past st m found w =
      (found ≡ ticket_of m.0.turn → (x : S) × (w ≡ (took found (past x) m.0, (0, Some x) ∷ m.1))
      × IsPrefix m.0.seen (past x))
      × (found ≢ ticket_of m.0.turn → w ≡ m)

  -- the state was given back
  abbrev pub Gives : (S → List E) → Step (Option S) → SeatState S E → ℕ → SeatState S E → Type 0
  Gives past st m found w = (x : S) → m.1 ≡ (0, Some x) ∷ [] → w ≡ (gave (past x) m.0, [])

  -- what a pass knows of itself
  abbrev pub Learns : ℕ → Step (Option S) → SeatState S E → ℕ → SeatState S E → Type 0
  Learns all st m found w = (w ≡ m) × (w.0.parts ≤ all) × IsPrefix w.0.shorter w.0.seen × IsDistinct w.0.own
      × All (λ k. k < length w.0.seen) w.0.own
