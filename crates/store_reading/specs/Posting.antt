-- What a run over the marks knows of parts and of business rows.
use Rattle.std.specs.Prelude.{ℕ, ◌≡◌, List, []}
use Rattle.std.specs.Global.{Vec}
use Rattle.std.specs.Option.{option_map_or}
use Rattle.std.specs.FinMap as map
use Rattle.std.specs.BTreeMap as tree
use Rattle.std.specs.BTreeMap.{BTreeMap}
use Rattle.std.specs.HashMap.{HashMap, get}
use Rattle.enq_base.specs.declared.owner.UnitKey.{UnitKey}
use Rattle.enq_base.specs.declared.unit.Effect.{Effect}
use Rattle.keeper_api.specs.declared.rows.Row.{Row}
use Rattle.module_effects.specs.Rows.{RowName, Tables, row_of}
use Rattle.module_effects.specs.declared.spot.Spot.{Spot}
use Rattle.update_records.specs.declared.stored.Record.{Record}
use Rattle.store_reading.specs.Ids.{part_id, same_part, text_id, text_cmp, text_name}
use Rattle.store_reading.specs.Posts.{effects_of}
use Rattle.store_reading.specs.declared.part_id.PartId.{PartId}
use Rattle.store_reading.specs.declared.text_id.TextId.{TextId}

-- the effects of a unit's part, by its key
abbrev pub effects_for : {S : Type 0} → HashMap PartId (Vec Effect) S → UnitKey → ℕ → List Effect
effects_for parts key part = option_map_or (λ (list : Vec Effect). list.items)
    (get same_part parts (part_id key part)) []

abbrev pub AreParts : {S : Type 0} → HashMap PartId (Vec Effect) S → List Record → Type 0
AreParts parts steps = (key : UnitKey) (part : ℕ) → effects_for parts key part ≡ effects_of steps key part

-- the text of each business row that there is
abbrev pub AreTexts : BTreeMap TextId (List ℕ) → Tables → Type 0
AreTexts texts tables = (name : RowName) → tree.get text_cmp texts (text_id name) ≡ map.get tables name

-- the row of an effect, with its text
abbrev pub spot_for : BTreeMap TextId (List ℕ) → Effect → Spot
spot_for texts effect =
    record { table = effect.table; key = effect.key; text = tree.get text_cmp texts (text_id (row_of effect)) }

-- the row of a text in table 6
abbrev pub text_row : TextId × List ℕ → Row
text_row e = record { key = text_name e.0; value = e.1 }
