-- The numbers that are drawn from one interval.
use Rattle.std.specs.Prelude.{◌≡◌, ◌≢◌, ℕ, ◌+◌, ◌≤◌, ◌<◌, Bool, false, List, if◌then◌else◌, Option, Some, None, IfSome}
use Rattle.std.specs.Prelude.{IfNone}
use Rattle.std.specs.Str.{bytes_eq}
use Rattle.number_ranges.specs.declared.interval.Interval.{Interval}
use Rattle.number_ranges.specs.declared.interval.DrawFault.{DrawFault}
use Rattle.number_ranges.specs.declared.interval.DrawFault.TheVariants.{Busy, Overflow, Empty}
use Rattle.number_ranges.specs.Intervals.{IsInterval, with_level}

-- An interval, the session that it belongs to, how many numbers that session has drawn since, and the number that
-- memory hands out next where the interval is buffered.
pub record RangeState : Type 0 where
  pub interval : Interval
  pub holder : Option (List ℕ)
  pub drawn : ℕ
  pub next : ℕ

-- what is true of every range: an unbuffered interval alone belongs to a session, and to one that has drawn
pub record IsRange (r : RangeState) : Type 0 where
  pub interval : IsInterval r.interval
  pub free : IfNone r.holder (r.drawn ≡ 0)
  pub held : IfSome r.holder (λ session. (r.interval.buffer ≡ 0) × (1 ≤ r.drawn))
  pub fits : r.interval.level + r.drawn ≤ r.interval.to
  pub low : r.interval.from ≤ r.next
  pub high : r.next ≤ r.interval.to + 1

-- before the first draw
abbrev pub fresh : Interval → RangeState
fresh i = record { interval = i; holder = None; drawn = 0; next = i.level + 1 }

-- the next number of an unbuffered interval
abbrev pub plain_next : RangeState → ℕ
plain_next r = r.interval.level + r.drawn + 1

-- no other session holds the interval
abbrev pub IsFreeFor : List ℕ → RangeState → Type 0
IsFreeFor session r = IfSome r.holder (λ holder. holder ≡ session)

-- Why an unbuffered interval gives no number: another session holds it, or the next number is past the end.
abbrev pub IsPlainFault : List ℕ → RangeState → DrawFault → Type 0
IsPlainFault session r (Busy holder) = (r.holder ≡ Some holder) × (holder ≢ session)
IsPlainFault session r (Overflow end) = IsFreeFor session r × (end ≡ r.interval.to) × (r.interval.to < plain_next r)
IsPlainFault session r Empty = ⊥

-- Why a buffered interval gives no number: the next one is past the end, or else past the level.
abbrev pub IsBufferedFault : RangeState → DrawFault → Type 0
IsBufferedFault r (Busy holder) = ⊥
IsBufferedFault r (Overflow end) = (end ≡ r.interval.to) × (r.interval.to < r.next)
IsBufferedFault r Empty = (r.interval.level < r.next) × (r.next ≤ r.interval.to)

-- the session holds the interval and has one number more
abbrev pub with_draw : List ℕ → RangeState → RangeState
with_draw session r = record r { holder = Some session; drawn = r.drawn + 1 }

abbrev pub handed_out : RangeState → RangeState
handed_out r = record r { next = r.next + 1 }

abbrev pub is_held_by : List ℕ → Option (List ℕ) → Bool
is_held_by session None = false
is_held_by session (Some holder) = bytes_eq holder session

-- the interval belongs to no session
abbrev pub released : RangeState → RangeState
released r = record r { holder = None; drawn = 0 }

abbrev pub leveled : ℕ → RangeState → RangeState
leveled level r = record r { interval = with_level level r.interval }

-- the session's numbers are given back, so they are drawn again
abbrev pub given_back : List ℕ → RangeState → RangeState
given_back session r = if is_held_by session r.holder then released r else r

-- the session's numbers are recorded, so the level rises to the last of them
abbrev pub settled : List ℕ → RangeState → RangeState
settled session r = if is_held_by session r.holder then leveled (r.interval.level + r.drawn) (released r) else r

-- a level that a range may be set to: the present one where an unbuffered interval has draws
pub record IsLevelOf (r : RangeState) (level : ℕ) : Type 0 where
  pub begun : r.interval.from ≤ level + 1
  pub within : level ≤ r.interval.to
  pub kept : r.interval.buffer ≡ 0 → 0 < r.drawn → level ≡ r.interval.level
