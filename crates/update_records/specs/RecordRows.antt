-- The rows of the store: what stands in each table, and under which key.
use Rattle.std.specs.Prelude.{ℕ, ◌+◌, Bool, true, false, List, [], ◌∷◌, ◌++◌, length, Option, Some, None}
use Rattle.std.specs.List.{flat_map}
use Rattle.std.specs.Int.{cast_unsigned, w64}
use Rattle.byteorder.specs.Endian.{big_bytes}
use Rattle.keeper_api.specs.declared.rows.Change.{Change}
use Rattle.keeper_api.specs.declared.rows.Change.TheVariants as row
use Rattle.enq_base.specs.declared.owner.UnitKey.{UnitKey}
use Rattle.enq_base.specs.declared.unit.Deed.{Deed}
use Rattle.enq_base.specs.declared.unit.Deed.TheVariants.{Put, Ins, Del, Add}
use Rattle.enq_base.specs.declared.unit.Effect.{Effect}
use Rattle.enq_base.specs.declared.unit.Num.{Num as Number}
use Rattle.enq_base.specs.declared.unit.Reason.{Reason}
use Rattle.enq_base.specs.declared.unit.Reason.TheVariants.{Duplicate, Missing, NotNumber, Overflow}
use Rattle.lock_entry.specs.declared.entry.Entry.{Entry}
use Rattle.mode_rules.specs.declared.Mode.{Mode}
use Rattle.mode_rules.specs.Modes.{mode_number}
use Rattle.module_effects.specs.Rows.{RowName}
use Rattle.update_records.specs.declared.records.Mark.{Mark}
use Rattle.update_records.specs.declared.records.MarkKind.{MarkKind}
use Rattle.update_records.specs.declared.records.MarkKind.TheVariants.{Num, Rec, V1, Bad1, Again1, V2, Bad2, Again2}
use Rattle.update_records.specs.declared.records.MarkKind.TheVariants.{Gone}
use Rattle.update_records.specs.declared.records.Unit.{Unit as UnitOfWork}

-- a text with its length in front
abbrev pub short : List ℕ → List ℕ
short text = length text ∷ text

-- a table's name as a short text, and then the key's bytes
abbrev pub row_name : RowName → List ℕ
row_name name = short name.0 ++ name.1

abbrev pub unit_bytes : UnitKey → List ℕ
unit_bytes key = big_bytes 4 key.start ++ big_bytes 4 key.session ++ big_bytes 4 key.luw

-- table 0: the start number, and how many marks there are
abbrev pub meta_row : ℕ → ℕ → Change
meta_row start marks = row.Put 0 (83 ∷ []) (big_bytes 4 start ++ big_bytes 8 marks)

-- a number with its interval
abbrev pub number_bytes : Number → List ℕ
number_bytes num = short num.object ++ num.nr ++ big_bytes 8 num.number

abbrev pub numbers_bytes : List Number → List ℕ
numbers_bytes numbers = big_bytes 2 (length numbers) ++ flat_map number_bytes numbers

-- a user, the counts of the effects of both parts and of the locks, and the numbers
abbrev pub header_value : List ℕ → ℕ → ℕ → ℕ → List Number → List ℕ
header_value user v1 v2 locks numbers =
    short user ++ big_bytes 2 v1 ++ big_bytes 2 v2 ++ big_bytes 4 locks ++ numbers_bytes numbers

-- table 1: the header of a unit
abbrev pub header_row : UnitOfWork → Change
header_row unit = row.Put 1 (unit_bytes unit.key)
    (header_value unit.user (length unit.parts.v1) (length unit.parts.v2) (length unit.entries) unit.numbers)

-- table 2: how many effects a part has
abbrev pub module_row : UnitKey → ℕ → List Effect → Change
module_row key part effects = row.Put 2 (unit_bytes key ++ part ∷ []) (big_bytes 2 (length effects))

abbrev pub verb : Deed → ℕ
verb (Put text) = 1
verb (Ins text) = 2
verb Del = 3
verb (Add n) = 4

abbrev pub text_bytes : List ℕ → List ℕ
text_bytes text = big_bytes 2 (length text) ++ text

-- what stands behind the row of an effect; a number with a sign is written in two's complement
abbrev pub operand : Deed → List ℕ
operand (Put text) = text_bytes text
operand (Ins text) = text_bytes text
operand Del = []
operand (Add n) = big_bytes 8 (cast_unsigned w64 n)

-- table 3: an effect of a part, at its place from 1
abbrev pub step_row : UnitKey → ℕ → ℕ → Effect → Change
step_row key part index effect = row.Put 3 (unit_bytes key ++ part ∷ big_bytes 2 index)
    (verb effect.deed ∷ short effect.table ++ short effect.key ++ operand effect.deed)

abbrev pub step_rows : UnitKey → ℕ → ℕ → List Effect → List Change
step_rows key part index [] = []
step_rows key part index (effect ∷ effects) = step_row key part index effect ∷ step_rows key part (index + 1) effects

-- tables 2 and 3: a part, where it isn't empty
abbrev pub part_rows : UnitKey → ℕ → List Effect → List Change
part_rows key part [] = []
part_rows key part (effect ∷ effects) = module_row key part (effect ∷ effects) ∷ step_rows key part 1 (effect ∷ effects)

abbrev pub lock_value : List ℕ → Mode → ℕ → List ℕ → List ℕ
lock_value table mode count pattern = short table ++ mode_number mode ∷ big_bytes 2 count ++ short pattern

-- table 7: a lock of a unit, at its place from 1
abbrev pub lock_row : UnitKey → ℕ → Entry → Change
lock_row key index entry = row.Put 7 (unit_bytes key ++ big_bytes 4 index)
    (lock_value entry.table entry.mode entry.count entry.pattern)

abbrev pub lock_rows : UnitKey → ℕ → List Entry → List Change
lock_rows key index [] = []
lock_rows key index (entry ∷ entries) = lock_row key index entry ∷ lock_rows key (index + 1) entries

-- all rows of a unit but those of its marks
abbrev pub unit_rows : UnitOfWork → List Change
unit_rows unit = header_row unit ∷ part_rows unit.key 1 unit.parts.v1 ++ part_rows unit.key 2 unit.parts.v2 ++ lock_rows
    unit.key 1 unit.entries

abbrev pub kind_number : MarkKind → ℕ
kind_number (Num numbers) = 1
kind_number Rec = 2
kind_number V1 = 3
kind_number (Bad1 index reason) = 4
kind_number Again1 = 5
kind_number V2 = 6
kind_number (Bad2 index reason) = 7
kind_number Again2 = 8
kind_number Gone = 9

abbrev pub reason_number : Reason → ℕ
reason_number Duplicate = 1
reason_number Missing = 2
reason_number NotNumber = 3
reason_number Overflow = 4

-- what stands behind the unit in a mark
abbrev pub mark_tail : MarkKind → List ℕ
mark_tail (Num numbers) = numbers_bytes numbers
mark_tail (Bad1 index reason) = big_bytes 4 index ++ reason_number reason ∷ []
mark_tail (Bad2 index reason) = big_bytes 4 index ++ reason_number reason ∷ []
mark_tail kind = []

-- table 4: a mark
abbrev pub mark_row : Mark → Change
mark_row m = row.Put 4 (big_bytes 8 m.seq) (kind_number m.kind ∷ unit_bytes m.unit ++ mark_tail m.kind)

-- an interval of numbers whose level is stored
pub record Level : Type 0 where
  pub from : ℕ
  pub to : ℕ
  pub level : ℕ
  pub buffered : Bool

abbrev pub flag : Bool → ℕ
flag true = 1
flag false = 0

-- table 5: an interval
abbrev pub level_value : Level → List ℕ
level_value level = big_bytes 8 level.from ++ big_bytes 8 level.to ++ big_bytes 8 level.level ++ flag
    level.buffered ∷ []

abbrev pub level_row : RowName → Level → Change
level_row name level = row.Put 5 (row_name name) (level_value level)

-- table 6: a business row
abbrev pub business_row : RowName → List ℕ → Change
business_row name text = row.Put 6 (row_name name) text

-- the change that leaves this in a business row
abbrev pub row_left : RowName → Option (List ℕ) → Change
row_left name None = row.Del 6 (row_name name)
row_left name (Some text) = business_row name text
