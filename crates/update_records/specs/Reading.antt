-- Reading a row of each table.
use Rattle.std.specs.Prelude.{ℕ, Bool, true, false, ◌&&◌, nat_le, ◌==◌, List, Option, Some, None, if◌then◌else◌, ℤ}
use Rattle.std.specs.Int.{w16, w32, w64, cast_signed}
use Rattle.std.specs.List.{list_all}
use Rattle.enq_base.specs.Grammar.{is_name, is_key, is_text, is_pattern, is_digit}
use Rattle.enq_base.specs.declared.owner.UnitKey.{UnitKey}
use Rattle.enq_base.specs.declared.unit.Deed.{Deed}
use Rattle.enq_base.specs.declared.unit.Deed.TheVariants.{Put, Ins, Del, Add}
use Rattle.enq_base.specs.declared.unit.Effect.{Effect}
use Rattle.enq_base.specs.declared.unit.Num.{Num as Number}
use Rattle.enq_base.specs.declared.unit.Reason.{Reason}
use Rattle.enq_base.specs.declared.unit.Reason.TheVariants.{Duplicate, Missing, NotNumber, Overflow}
use Rattle.mode_rules.specs.declared.Mode.{Mode}
use Rattle.mode_rules.specs.Modes.{mode_of}
use Rattle.update_records.specs.declared.records.MarkKind.{MarkKind}
use Rattle.update_records.specs.declared.records.MarkKind.TheVariants.{Num, Rec, V1, Bad1, Again1, V2, Bad2, Again2}
use Rattle.update_records.specs.declared.records.MarkKind.TheVariants.{Gone}
use Rattle.update_records.specs.declared.stored.Record.{Record}
use Rattle.update_records.specs.declared.stored.Record.TheVariants as rec
use Rattle.byte_fields.specs.Fields.{◌>>=◌, Field, ◌then◌, ◌&◌, ◌giving◌, ◌if_it◌, whole, all_if, bytes_at}
use Rattle.byte_fields.specs.Fields.{number_at, code_at, many}

-- ---- fields

unfoldable pub byte_at : Field ℕ
byte_at = code_at (λ b. Some b)

-- a byte of length, and so many bytes
unfoldable pub short_at : Field (List ℕ)
short_at = byte_at then bytes_at giving λ x. x.1

unfoldable pub name_at : Field (List ℕ)
name_at = short_at if_it is_name

unfoldable pub key_at : Field (List ℕ)
key_at = short_at if_it is_key

unfoldable pub pattern_at : Field (List ℕ)
pattern_at = short_at if_it is_pattern

unfoldable pub unit_at : Field UnitKey
unit_at = number_at w32 & number_at w32 & number_at w32 giving λ x. record { start = x.0.0; session = x.0.1; luw = x.1 }

-- two digits
unfoldable pub nr_at : Field (List ℕ)
nr_at = bytes_at 2 if_it list_all is_digit

unfoldable pub part_at : Field ℕ
part_at = byte_at if_it λ b. nat_le 1 b && nat_le b 2

unfoldable pub num_at : Field Number
num_at = name_at & nr_at & number_at w64 giving λ x. record { object = x.0.0; nr = x.0.1; number = x.1 }

-- how many numbers there are, and each of them
unfoldable pub nums_at : Field (List Number)
nums_at = number_at w16 then many num_at giving λ x. x.1

-- ---- table 0

unfoldable pub meta_key : List ℕ → Option ℕ
meta_key = whole (byte_at if_it λ b. b == 83)

unfoldable pub meta_value : List ℕ → Option (ℕ × ℕ)
meta_value = whole (number_at w32 & number_at w64)

unfoldable pub meta_at : List ℕ → List ℕ → Option Record
meta_at key value = do
  k ← meta_key key
  v ← meta_value value
  Some (rec.Meta v.0 v.1)

-- ---- table 5

abbrev pub flag_of : ℕ → Option Bool
flag_of b = if b == 0 then Some false else (if b == 1 then Some true else None)

unfoldable pub level_key : List ℕ → Option (List ℕ × List ℕ)
level_key = whole (name_at & nr_at)

unfoldable pub level_tail : List ℕ → Option (((ℕ × ℕ) × ℕ) × Bool)
level_tail = whole (number_at w64 & number_at w64 & number_at w64 & code_at flag_of)

unfoldable pub level_at : List ℕ → List ℕ → Option Record
level_at key value = do
  k ← level_key key
  v ← level_tail value
  Some (rec.Level k.0 k.1 v.0.0.0 v.0.0.1 v.0.1 v.1)

-- ---- table 6

unfoldable pub business_key : List ℕ → Option (List ℕ × List ℕ)
business_key key = do
  table ← name_at key
  k ← all_if is_key table.1
  Some (table.0, k)

unfoldable pub business_at : List ℕ → List ℕ → Option Record
business_at key value = do
  k ← business_key key
  text ← all_if is_text value
  Some (rec.Business k.0 k.1 text)

-- ---- table 1

unfoldable pub unit_key : List ℕ → Option UnitKey
unit_key = whole unit_at

unfoldable pub header_tail : List ℕ → Option ((((List ℕ × ℕ) × ℕ) × ℕ) × List Number)
header_tail = whole (name_at & number_at w16 & number_at w16 & number_at w32 & nums_at)

unfoldable pub header_at : List ℕ → List ℕ → Option Record
header_at key value = do
  unit ← unit_key key
  v ← header_tail value
  Some (rec.Header unit v.0.0.0.0 v.0.0.0.1 v.0.0.1 v.0.1 v.1)

-- ---- table 2

unfoldable pub module_key : List ℕ → Option (UnitKey × ℕ)
module_key = whole (unit_at & part_at)

unfoldable pub module_tail : List ℕ → Option ℕ
module_tail = whole (number_at w16)

unfoldable pub module_at : List ℕ → List ℕ → Option Record
module_at key value = do
  k ← module_key key
  count ← module_tail value
  Some (rec.Module k.0 k.1 count)

-- ---- table 3

unfoldable pub step_key : List ℕ → Option ((UnitKey × ℕ) × ℕ)
step_key = whole (unit_at & part_at & (number_at w16 if_it nat_le 1))

-- a length in two bytes, and so many bytes
unfoldable pub text_at : Field (List ℕ)
text_at = number_at w16 then bytes_at giving (λ x. x.1) if_it is_text

unfoldable pub signed_at : Field ℤ
signed_at = number_at w64 giving cast_signed w64

-- what stands behind an effect's row, by its verb
unfoldable pub deed_at : ℕ → Field Deed
deed_at verb bytes =
    if verb == 1 then (text_at giving Put) bytes
    else (if verb == 2 then (text_at giving Ins) bytes
    else (if verb == 3 then Some (Del, bytes)
    else (if verb == 4 then (signed_at giving Add) bytes else None)))

unfoldable pub step_tail : List ℕ → Option Effect
step_tail =
    whole (byte_at & name_at & key_at then (λ x. deed_at x.0.0)
    giving λ x. record { table = x.0.0.1; key = x.0.1; deed = x.1 })

unfoldable pub step_at : List ℕ → List ℕ → Option Record
step_at key value = do
  k ← step_key key
  effect ← step_tail value
  Some (rec.Step k.0.0 k.0.1 k.1 effect)

-- ---- table 4

abbrev pub reason_of : ℕ → Option Reason
reason_of b =
    if b == 1 then Some Duplicate
    else (if b == 2 then Some Missing
    else (if b == 3 then Some NotNumber
    else (if b == 4 then Some Overflow else None)))

-- the place of the effect that was refused, and why
unfoldable pub refusal_at : Field (ℕ × Reason)
refusal_at = number_at w32 & code_at reason_of

-- the kinds of which no more is told
abbrev pub bare_kind : ℕ → Option MarkKind
bare_kind b =
    if b == 2 then Some Rec
    else (if b == 3 then Some V1
    else (if b == 5 then Some Again1
    else (if b == 6 then Some V2
    else (if b == 8 then Some Again2
    else (if b == 9 then Some Gone else None)))))

-- what stands behind the unit, by the kind's number
unfoldable pub kind_at : ℕ → Field MarkKind
kind_at b bytes =
    if b == 1 then (nums_at giving Num) bytes
    else (if b == 4 then (refusal_at giving λ x. Bad1 x.0 x.1) bytes
    else (if b == 7 then (refusal_at giving λ x. Bad2 x.0 x.1) bytes
    else (bare_kind b >>= λ kind. Some (kind, bytes))))

unfoldable pub mark_key : List ℕ → Option ℕ
mark_key = whole (number_at w64)

unfoldable pub mark_value : List ℕ → Option (UnitKey × MarkKind)
mark_value = whole (byte_at & unit_at then (λ x. kind_at x.0) giving λ x. (x.0.1, x.1))

unfoldable pub mark_at : List ℕ → List ℕ → Option Record
mark_at key value = do
  seq ← mark_key key
  v ← mark_value value
  Some (rec.Mark (record { seq = seq; unit = v.0; kind = v.1 }))

-- ---- table 7

unfoldable pub lock_key : List ℕ → Option (UnitKey × ℕ)
lock_key = whole (unit_at & (number_at w32 if_it nat_le 1))

unfoldable pub count_at : Field ℕ
count_at = number_at w16 if_it λ n. nat_le 1 n && nat_le n 9999

unfoldable pub lock_tail : List ℕ → Option (((List ℕ × Mode) × ℕ) × List ℕ)
lock_tail = whole (name_at & code_at mode_of & count_at & pattern_at)

unfoldable pub lock_at : List ℕ → List ℕ → Option Record
lock_at key value = do
  k ← lock_key key
  v ← lock_tail value
  Some (rec.Lock k.0 k.1 v.0.0.0 v.0.0.1 v.0.1 v.1)

-- ---- every table

unfoldable pub row_at : ℕ → List ℕ → List ℕ → Option Record
row_at table key value =
    if table == 0 then meta_at key value
    else (if table == 1 then header_at key value
    else (if table == 2 then module_at key value
    else (if table == 3 then step_at key value
    else (if table == 4 then mark_at key value
    else (if table == 5 then level_at key value
    else (if table == 6 then business_at key value
    else (if table == 7 then lock_at key value else None)))))))
