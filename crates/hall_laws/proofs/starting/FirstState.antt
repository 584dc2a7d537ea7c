-- The first state of a start, which has the locks of the units that wait for their V1 part.
use Rattle.std.proofs.Common.{◌≡◌, ℕ, ◌≤◌, ◌<◌, ◌^◌, Bool, true, false, List, [], length, replicate, refl, sym, subst, arith}
use Rattle.std.specs.Prelude.{if◌then◌else◌, nat_le, Option, None}
use Rattle.std.proofs.lemmas.Bool.Decides.{nat_tests}
use Rattle.enq_base.specs.declared.condition.Condition.TheVariants as condition
use Rattle.enq_base.specs.declared.owner.UnitKey.{UnitKey}
use Rattle.enq_server.specs.Server.{larger, recovered}
use Rattle.lock_entry.specs.Table.{IsTable, Table}
use Rattle.number_ranges.specs.declared.interval.Interval.{Interval}
use Rattle.ledger_steps.specs.Views.{open_locks}
use Rattle.ledger_steps.specs.Levels.{first_ranges}
use Rattle.update_records.specs.Ledger.{Ledger}
use Rattle.hall_model.specs.Kept.{HasFew, HasOpenUnits, HasSoundLocks, IsKept, IsSteady}
use Rattle.hall_model.specs.OpenUnits.{open_entries}
use Rattle.hall_model.specs.State.{is_honest, opened, state_of}
use Rattle.hall_model.specs.declared.command.PastEntry.{PastEntry}
use Rattle.hall_model.specs.declared.command.Session.{Session}
use Rattle.hall_laws.proofs.starting.FirstKeeps.{AgreeWith, IsFirst, first_marks, first_started, first_stored, first_unheard, idle, no_orders, nothing_drawn}
use Rattle.hall_laws.proofs.open_units.StoredLocks.{first_held, first_owned}

-- the table with which a start begins
abbrev pub IsFirstTable : ℕ → Ledger → Type 0
IsFirstTable limit ledger = IsTable (recovered limit (open_locks ledger))

pub first_sound : (limit mark_limit : ℕ) (intervals : List Interval) (told link : Bool) (ledger : Ledger) → IsFirstTable limit ledger → IsFirst ledger
    → HasSoundLocks (opened limit mark_limit intervals told link ledger)
first_sound limit mark_limit intervals told link ledger good first = record { table = good; stored = first_stored ledger first }

up_to : (m n : ℕ) → nat_le m n ≡ true → m ≤ n
up_to m n h = grind (arith, nat_tests)

first_fits : (limit count : ℕ) → larger limit count < 2 ^ 32 → limit < 2 ^ 32
first_fits limit count h =
    elim (nat_le limit count) as (λ b. nat_le limit count ≡ b → (if b then count else limit) < 2 ^ 32 → limit < 2 ^ 32) [
      | true ↦ λ e k. let less = up_to limit count e in omega (arith, less, k)
      | false ↦ λ e k. k
    ] refl h

-- they are no more than fit
under : (n m : ℕ) → n ≤ m → m < 2 ^ 32 → n < 2 ^ 32
under n m h k = omega (arith, h, k)

pub first_steady : (limit mark_limit : ℕ) (intervals : List Interval) (told link : Bool) (ledger : Ledger) → mark_limit ≤ 1048576 → IsFirstTable limit ledger
    → AgreeWith intervals ledger → IsFirst ledger → IsSteady (opened limit mark_limit intervals told link ledger)
first_steady limit mark_limit intervals told link ledger limited good agree first = record {
  started = first_started ledger first;
  limited = limited;
  locks_fit = first_fits limit (length (open_entries ledger)) good.limit_fits;
  named = λ name. omega arith;
  drawn = nothing_drawn ledger intervals agree first;
  marked = first_marks ledger first;
  settled = refl;
  unknown = refl;
  unfailed = refl;
  known = tt;
  fresh = record { numbered = tt; ahead = tt; later = λ session luw from. first_unheard ledger first session luw };
  places = idle 256;
  orders = no_orders ledger 256;
  owned = first_owned (is_honest (opened limit mark_limit intervals told link ledger)) ledger first;
}

pub first_few : (limit mark_limit : ℕ) (intervals : List Interval) (told link : Bool) (ledger : Ledger)
    → HasFew 0 (opened limit mark_limit intervals told link ledger)
first_few limit mark_limit intervals told link ledger = record { sessions = omega arith; units = tt }

pub first_open : (limit mark_limit : ℕ) (intervals : List Interval) (told link : Bool) (ledger : Ledger) → IsFirstTable limit ledger → IsFirst ledger
    → HasOpenUnits (opened limit mark_limit intervals told link ledger)
first_open limit mark_limit intervals told link ledger good first = record {
  held = λ honest. first_held ledger (first_stored ledger first);
  stored = λ honest. record { together = good.sound; fit = under (length (open_entries ledger)) _ good.within good.limit_fits };
  in_flight = tt;
}

first_here : (told link : Bool) (max_locks mark_limit : ℕ) (intervals : List Interval) (ledger : Ledger) → mark_limit ≤ 1048576 → AgreeWith intervals ledger
    → IsFirst ledger → IsFirstTable max_locks ledger → IsKept (opened max_locks mark_limit intervals told link ledger)
first_here told link max_locks mark_limit intervals ledger limited agree first good =
    record {
      within = omega arith;
      few = first_few max_locks mark_limit intervals told link ledger;
      steady = first_steady max_locks mark_limit intervals told link ledger limited good agree first;
      sound = first_sound max_locks mark_limit intervals told link ledger good first;
      open_units = first_open max_locks mark_limit intervals told link ledger good first;
      state_in_flight = tt;
    }

pub first_kept : (told link : Bool) (table : Table) (max_locks mark_limit : ℕ) (intervals : List Interval) (ledger : Ledger) (sessions : List Session)
    (orders : List (Option UnitKey)) (past : List PastEntry) → mark_limit ≤ 1048576 → AgreeWith intervals ledger → IsFirst ledger → IsTable table
    → table ≡ recovered max_locks (open_locks ledger) → sessions ≡ [] → orders ≡ replicate 256 None → past ≡ []
    → IsKept (state_of told link false false condition.Up sessions 1 orders table [] max_locks mark_limit
    (first_ranges ledger.levels intervals) ledger None None None past)
first_kept told link table max_locks mark_limit intervals ledger sessions orders past limited agree first good free none unclaimed new =
    let ranges = first_ranges ledger.levels intervals in
    subst IsKept (λ i. state_of told link false false condition.Up (sym none i) 1 (sym unclaimed i) (sym free i) [] max_locks mark_limit ranges ledger
    None None None (sym new i))
    (first_here told link max_locks mark_limit intervals ledger limited agree first (subst IsTable free good))
