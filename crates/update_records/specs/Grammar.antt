-- Which units, numbers, locks and effects a store may have.
use Rattle.std.specs.Prelude.{ℕ, ◌≡◌, ◌+◌, ◌≤◌, ◌<◌, ◌^◌, Bool, true, false, List, length, IsTrue}
use Rattle.std.specs.List.{All, list_all}
use Rattle.enq_base.specs.Grammar.{is_name, is_key, is_text, is_pattern, is_digit}
use Rattle.enq_base.specs.declared.owner.Owner.TheVariants.{Upd}
use Rattle.enq_base.specs.declared.owner.UnitKey.{UnitKey}
use Rattle.enq_base.specs.declared.unit.Deed.{Deed}
use Rattle.enq_base.specs.declared.unit.Deed.TheVariants.{Put, Ins, Del, Add}
use Rattle.enq_base.specs.declared.unit.Effect.{Effect}
use Rattle.enq_base.specs.declared.unit.Num.{Num as Number}
use Rattle.lock_entry.specs.declared.entry.Entry.{Entry}
use Rattle.lock_entry.specs.Names.{has_distinct_names}
use Rattle.mode_rules.specs.declared.Mode.{Mode}
use Rattle.mode_rules.specs.declared.Mode.TheVariants.{S, E, X, O}
use Rattle.module_effects.specs.Integers.{is_i64}
use Rattle.update_records.specs.declared.records.MarkKind.{MarkKind}
use Rattle.update_records.specs.declared.records.MarkKind.TheVariants.{Num, Bad1, Bad2}
use Rattle.update_records.specs.declared.records.Unit.{Unit as UnitOfWork}

abbrev pub IsWord : ℕ → Type 0
IsWord n = n < 2 ^ 32

pub record IsUnitKey (key : UnitKey) : Type 0 where
  pub start : IsWord key.start
  pub session : IsWord key.session
  pub luw : IsWord key.luw

abbrev pub IsDeed : Deed → Type 0
IsDeed (Put text) = IsTrue (is_text text)
IsDeed (Ins text) = IsTrue (is_text text)
IsDeed Del = Unit {0}
IsDeed (Add n) = IsTrue (is_i64 n)

pub record IsEffect (effect : Effect) : Type 0 where
  pub table : IsTrue (is_name effect.table)
  pub key : IsTrue (is_key effect.key)
  pub deed : IsDeed effect.deed

-- the two digits of an interval
pub record IsNr (nr : List ℕ) : Type 0 where
  pub two : length nr ≡ 2
  pub digits : IsTrue (list_all is_digit nr)

pub record IsNumber (num : Number) : Type 0 where
  pub object : IsTrue (is_name num.object)
  pub nr : IsNr num.nr
  pub number : num.number < 2 ^ 64

abbrev pub is_optimistic : Mode → Bool
is_optimistic S = false
is_optimistic E = false
is_optimistic X = false
is_optimistic O = true

-- a lock that was handed to its unit
pub record IsEntryOf (unit : UnitOfWork) (entry : Entry) : Type 0 where
  pub owner : entry.owner ≡ Upd unit.key
  pub user : entry.user ≡ unit.user
  pub table : IsTrue (is_name entry.table)
  pub pattern : IsTrue (is_pattern entry.pattern)
  pub mode : is_optimistic entry.mode ≡ false
  pub low : 1 ≤ entry.count
  pub high : entry.count ≤ 9999
  pub handed : entry.handed ≡ true

-- a unit that can be recorded: 1 to 200 effects, at most 64 numbers, and locks with distinct names
pub record IsUnit (unit : UnitOfWork) : Type 0 where
  pub key : IsUnitKey unit.key
  pub user : IsTrue (is_name unit.user)
  pub some : 1 ≤ length unit.parts.v1 + length unit.parts.v2
  pub few : length unit.parts.v1 + length unit.parts.v2 ≤ 200
  pub first : All IsEffect unit.parts.v1
  pub second : All IsEffect unit.parts.v2
  pub few_numbers : length unit.numbers ≤ 64
  pub numbers : All IsNumber unit.numbers
  pub few_entries : length unit.entries < 2 ^ 32
  pub entries : All (IsEntryOf unit) unit.entries
  pub distinct : IsTrue (has_distinct_names unit.entries)

-- a mark of numbers alone has 1 to 64
abbrev pub IsKind : MarkKind → Type 0
IsKind (Num numbers) = (1 ≤ length numbers) × (length numbers ≤ 64) × All IsNumber numbers
IsKind (Bad1 index reason) = IsWord index
IsKind (Bad2 index reason) = IsWord index
IsKind kind = Unit {0}

-- ---- what the types of a unit and of a mark leave open

abbrev pub HasDigits : Number → Type 0
HasDigits num = IsNr num.nr

-- a lock that was handed to its unit, whatever its table and its argument are
pub record IsHeldBy (unit : UnitOfWork) (entry : Entry) : Type 0 where
  pub owner : entry.owner ≡ Upd unit.key
  pub user : entry.user ≡ unit.user
  pub mode : is_optimistic entry.mode ≡ false
  pub low : 1 ≤ entry.count
  pub high : entry.count ≤ 9999
  pub handed : entry.handed ≡ true

-- its table and its argument are in their grammars
abbrev pub HasNames : Entry → Type 0
HasNames entry = IsTrue (is_name entry.table) × IsTrue (is_pattern entry.pattern)

-- a mark of numbers alone has 1 to 64, each with two digits
abbrev pub MayMark : MarkKind → Type 0
MayMark (Num numbers) = (1 ≤ length numbers) × (length numbers ≤ 64) × All HasDigits numbers
MayMark kind = Unit {0}
