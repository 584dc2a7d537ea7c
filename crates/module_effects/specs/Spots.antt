-- Rows with their present texts, and the tables in which they stand.
use Rattle.std.specs.Prelude.{◌≡◌, Bool, ◌&&◌, List, [], ◌∷◌, Ok}
use Rattle.std.specs.List.{list_any, list_all, All}
use Rattle.std.specs.Str.{bytes_eq}
use Rattle.std.specs.FinMap.{get}
use Rattle.enq_base.specs.declared.unit.Effect.{Effect}
use Rattle.module_effects.specs.Effects.{applied, IsFaultOf}
use Rattle.module_effects.specs.Rows.{RowName, Tables, with_row, row_of}
use Rattle.module_effects.specs.declared.fault.EffectFault.{EffectFault}
use Rattle.module_effects.specs.declared.spot.Spot.{Spot}

abbrev pub row_at : Spot → RowName
row_at spot = (spot.table, spot.key)

-- whether the spot is of this row
abbrev pub is_at : RowName → Spot → Bool
is_at row spot = bytes_eq spot.table row.0 && bytes_eq spot.key row.1

-- whether the row of each effect has a spot
abbrev pub covers : List Spot → List Effect → Bool
covers spots effects = list_all (λ effect. list_any (is_at (row_of effect)) spots) effects

-- the tables have in each spot's row what the spot has
abbrev pub Agree : List Spot → Tables → Type 0
Agree spots tables = All (λ spot. get tables (row_at spot) ≡ spot.text) spots

-- the tables with each spot's text in its row
abbrev pub with_spots : List Spot → Tables → Tables
with_spots [] tables = tables
with_spots (spot ∷ spots) tables = with_row (with_spots spots tables) (row_at spot) spot.text

-- on all tables that agree with the spots, the effects leave the spots afterwards and all other rows as they were
abbrev pub IsDone : List Spot → List Effect → List Spot → Type 0
IsDone spots effects after = (tables : Tables) → Agree spots tables
    → applied effects tables ≡ Ok (with_spots after tables)

-- on all tables that agree with the spots, the effects are refused there
abbrev pub IsRefused : List Spot → List Effect → EffectFault → Type 0
IsRefused spots effects fault = (tables : Tables) → Agree spots tables → IsFaultOf (applied effects tables) fault

-- the spots laid over any tables become the spots afterwards, laid over the same tables
abbrev pub IsDoneOver : List Spot → List Effect → List Spot → Type 0
IsDoneOver spots effects after = (tables : Tables) → applied effects (with_spots spots tables) ≡ Ok
    (with_spots after tables)

-- the effects are refused there on the spots, laid over any tables
abbrev pub IsRefusedOver : List Spot → List Effect → EffectFault → Type 0
IsRefusedOver spots effects fault = (tables : Tables) → IsFaultOf (applied effects (with_spots spots tables)) fault
