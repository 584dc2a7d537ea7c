-- What a hall shows at its gauges, and what is seen there.
use Rattle.std.specs.Prelude.{◌≡◌, ◌⊎◌, ◌<◌, ◌≤◌, ℕ, List, [], ◌∷◌, ◌++◌, All, length, map, take}
use Rattle.std.specs.List.{AllByRecursion}
use Rattle.std.specs.List.Sorted.{IsNonDecreasing}
use Rattle.atomic_table.specs.Seated.{TableId}
use Rattle.enq_base.specs.declared.condition.Readings.{Readings}
use Rattle.gauges.specs.declared.board.GaugePass.{GaugePass}
use Rattle.gauges.specs.declared.board.Gauges.{Gauges}
use Rattle.hall_model.specs.Recall.{AreModelAnswers, Made, calls_of, state_after}
use Rattle.hall_model.specs.State.{State}
use Rattle.hall_model.specs.Views.{readings_of}
use Rattle.seat_sums.specs.Entries.{entries_at}

-- which gauges they are
abbrev pub board_of : Gauges → TableId
board_of gauges = gauges.table.shared.table_id

-- a pass of these gauges
abbrev pub IsReaderAt : TableId → GaugePass → Type 0
IsReaderAt board p = p.seat.table_id ≡ board

-- these stand in what was told, in order
abbrev pub StandIn : List Readings → List Readings → Type 0
StandIn told seen = (places : List ℕ) × IsNonDecreasing places × (seen ≡ entries_at told places)

-- what is counted of the state behind so many of these calls
abbrev pub readings_behind : State → List Made → ℕ → Readings
readings_behind first made n = readings_of (state_after first (take n made))

-- The calls of a history led from the first state to this one, and these readings were shown one behind the other: each
-- behind so many of the calls, and none behind fewer than the one before.
pub record HasShown (first s : State) (shown : List Readings) : Type 0 where
  pub made : List Made
  pub calls : s.past ≡ calls_of made
  pub answers : AreModelAnswers first made
  pub state : s ≡ state_after first made
  pub places : List ℕ
  pub order : IsNonDecreasing places
  pub within : All (λ (n : ℕ). n ≤ length made) places
  pub are : shown ≡ map (readings_behind first made) places

-- A rest behind a history of this length is 64 looks at most, of which none but the last shows a longer one. The last
-- does, or there are 64.
pub record LooksUntil (past : ℕ) (old new : List Readings) : Type 0 where
  pub before : List Readings
  pub last : Readings
  pub looks : new ≡ old ++ (before ++ last ∷ [])
  pub none : AllByRecursion (λ (r : Readings). r.past ≤ past) before
  pub few : length before < 64
  pub ended : (past < last.past) ⊎ (length before ≡ 63)
