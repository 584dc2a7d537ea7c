-- Where each unit stands, as it is looked up by its key.
use Rattle.std.specs.Prelude.{ℕ, ◌≡◌, ◌≤◌, List, length, Option, IfSome, ◌<◌, ◌*◌, ◌+◌, ◌^◌}
use Rattle.std.specs.HashMap.{HashMap, get}
use Rattle.std.specs.List.{All, slice_get}
use Rattle.std.specs.Option.{option_map, option_and_then}
use Rattle.enq_base.specs.declared.owner.UnitKey.{UnitKey}
use Rattle.enq_base.specs.declared.unit.Status.TheVariants.{Open, Posted}
use Rattle.update_records.specs.Business.{numbers_of}
use Rattle.enq_base.specs.Ids.{id_of, same_id}
use Rattle.update_records.specs.declared.records.Mark.{Mark}
use Rattle.update_records.specs.declared.records.Unit.{Unit as UnitOfWork}
use Rattle.update_records.specs.Marks.{status_of, unit_at}
use Rattle.enq_base.specs.declared.unit_id.UnitId.{UnitId}
use Rattle.posting.specs.Turns.{last_turn, turns_of}
use Rattle.posting.specs.declared.register.Standing.{Standing}
use Rattle.ledger_steps.specs.Errors.{error_of}

abbrev pub Standings : Type 0 → Type 0
Standings S = HashMap UnitId Standing S

abbrev pub standing_at : {S : Type 0} → Standings S → UnitKey → Option Standing
standing_at standings key = get same_id standings (id_of key)

-- a unit whose effects, numbers and locks can be counted in four bytes
pub record IsSmall (unit : UnitOfWork) : Type 0 where
  pub few : length unit.parts.v1 + length unit.parts.v2 ≤ 200
  pub few_numbers : length unit.numbers ≤ 64
  pub few_entries : length unit.entries < 2 ^ 32

-- what is kept beside the units and the marks agrees with them
pub record IsRegister {S : Type 0} (start : ℕ) (units : List UnitOfWork) (marks : List Mark) (standings : Standings S)
    (v1_queue v2_queue : List (Option UnitKey)) (numbers : ℕ) : Type 0 where
  pub begun : 1 ≤ length marks → 1 ≤ start
  pub few : length marks ≤ 1048576
  pub status : (key : UnitKey) → option_map (λ (s : Standing). s.status)
      (standing_at standings key) ≡ status_of units marks key
  pub error : (key : UnitKey) → option_and_then (λ (s : Standing). s.error)
      (standing_at standings key) ≡ error_of marks key
  pub unit : (key : UnitKey) → option_and_then (λ (s : Standing). slice_get units s.place)
      (standing_at standings key) ≡ unit_at units key
  pub placed : (key : UnitKey) → IfSome (standing_at standings key) (λ (s : Standing). s.place < length units)
  pub turn : (key : UnitKey) → option_map (λ (s : Standing). s.turn) (standing_at standings key) ≡ last_turn key marks
  pub waits : v1_queue ≡ turns_of Open units marks
  pub waits_again : v2_queue ≡ turns_of Posted units marks
  pub counted : numbers ≡ length (numbers_of units marks)
  pub few_numbers : numbers ≤ 64 * length marks
  pub small : All IsSmall units
