-- What is known of the units of a store while its marks are followed.
use Rattle.std.specs.Prelude.{◌≡◌, ◌≤◌, ◌<◌, true, List, length, IfSome}
use Rattle.std.specs.HashMap.{spare}
use Rattle.std.specs.List.{slice_get}
use Rattle.std.specs.Option.{option_and_then, option_map}
use Rattle.enq_base.specs.declared.owner.UnitKey.{UnitKey}
use Rattle.enq_base.specs.declared.unit.Status.TheVariants.{Open, Posted}
use Rattle.update_records.specs.Ledger.{recorded}
use Rattle.update_records.specs.Marks.{is_rec, may_follow, status_of, unit_at}
use Rattle.update_records.specs.declared.records.Mark.{Mark}
use Rattle.update_records.specs.declared.records.Unit.{Unit as UnitOfWork}
use Rattle.posting.specs.Standings.{Standings, standing_at}
use Rattle.ledger_steps.specs.Errors.{error_of}
use Rattle.posting.specs.Turns.{last_turn, turns_of}
use Rattle.posting.specs.declared.register.Standing.{Standing}
use Rattle.posting.specs.declared.restoring.Followed.{Followed}

-- standings and turns are those that the marks so far give, and so many units and marks came with them
pub record IsFollowed (followed : Followed) (units : List UnitOfWork) (before : List Mark) : Type 0 where
  pub status : (key : UnitKey) → option_map (λ (s : Standing). s.status)
      (standing_at followed.standings key) ≡ status_of units before key
  pub error : (key : UnitKey) → option_and_then (λ (s : Standing). s.error)
      (standing_at followed.standings key) ≡ error_of before key
  pub unit : (key : UnitKey) → IfSome (standing_at followed.standings key)
      (λ (s : Standing). slice_get units s.place ≡ unit_at units key)
  pub placed : (key : UnitKey) → IfSome (standing_at followed.standings key) (λ (s : Standing). s.place < length units)
  pub turn : (key : UnitKey) → option_map (λ (s : Standing). s.turn)
      (standing_at followed.standings key) ≡ last_turn key before
  pub v1_queue : followed.v1_queue.turns ≡ turns_of Open units before
  pub v2_queue : followed.v2_queue.turns ≡ turns_of Posted units before
  pub count_units : followed.units ≡ length (recorded before)
  pub count_marks : followed.marks ≡ length before

-- one mark more takes no memory
pub record HasRoom (followed : Followed) : Type 0 where
  pub standings : 1 ≤ spare followed.standings
  pub v1_queue : 1 ≤ followed.v1_queue.room
  pub v2_queue : 1 ≤ followed.v2_queue.room

-- one mark more can be counted
pub record HasTurnsLeft (followed : Followed) : Type 0 where
  pub units : followed.units < 1048576
  pub marks : followed.marks < 1048576
  pub v1_queue : length followed.v1_queue.turns < 1048576
  pub v2_queue : length followed.v2_queue.turns < 1048576

-- a mark that may come next: it follows the status that its unit has, and one that records tells of the next unit
pub record MayBeNext (units : List UnitOfWork) (before : List Mark) (m : Mark) : Type 0 where
  pub legal : may_follow (status_of units before m.unit) m.kind ≡ true
  pub there : is_rec m.kind ≡ true → slice_get units (length (recorded before)) ≡ unit_at units m.unit
  pub within : is_rec m.kind ≡ true → length (recorded before) < length units

-- the standings that all marks give
pub record AreStandings {S : Type 0} (standings : Standings S) (units : List UnitOfWork)
    (marks : List Mark) : Type 0 where
  pub status : (key : UnitKey) → option_map (λ (s : Standing). s.status)
      (standing_at standings key) ≡ status_of units marks key
  pub error : (key : UnitKey) → option_and_then (λ (s : Standing). s.error)
      (standing_at standings key) ≡ error_of marks key
  pub unit : (key : UnitKey) → option_and_then (λ (s : Standing). slice_get units s.place)
      (standing_at standings key) ≡ unit_at units key
  pub placed : (key : UnitKey) → IfSome (standing_at standings key) (λ (s : Standing). s.place < length units)
  pub turn : (key : UnitKey) → option_map (λ (s : Standing). s.turn) (standing_at standings key) ≡ last_turn key marks

-- the standings and the turns that all marks give
pub record AreFollowed (followed : Followed) (units : List UnitOfWork) (marks : List Mark) : Type 0 where
  pub standings : AreStandings followed.standings units marks
  pub v1_queue : followed.v1_queue.turns ≡ turns_of Open units marks
  pub v2_queue : followed.v2_queue.turns ≡ turns_of Posted units marks
