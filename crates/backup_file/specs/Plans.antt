-- How the log in force of a file is written anew.
use Rattle.std.specs.Prelude.{◌≡◌, ◌⊎◌, ℕ, ◌<◌, ◌+◌, ◌^◌, true, List, [], ◌∷◌, ◌++◌, length, Option, Some, None, Result}
use Rattle.std.specs.Prelude.{Ok, Err}
use Rattle.bk_disk.specs.Disk.{Only}
use Rattle.gate_log.specs.Gates.{IsShut}
use Rattle.gate_log.specs.Logs as logs
use Rattle.backup_file.specs.Compacting.{IsFree}
use Rattle.backup_file.specs.declared.fault.WriteFault.{WriteFault}
use Rattle.backup_file.specs.declared.fault.WriteFault.TheVariants.{Failed, NoMemory}
use Rattle.backup_file.specs.declared.handed.Handed.{Handed}
use Rattle.backup_file.specs.declared.plan.Plan.{Plan}
use Rattle.backup_file.specs.Migrating.{IsOpenedAs}
use Rattle.backup_file.specs.Slots.{slot_in}
use Rattle.backup_file.specs.File.{IsCompact, IsFrontAt, IsWornOut, compact, log_grammar}

-- it may be carried out, whatever the disk has
pub record MayBeCarried (p : Plan) : Type 0 where
  pub low : p.place.gate < 2 ^ 63
  pub young : (slot_in p.place.slots p.place.which).generation < 2 ^ 63
  pub free : IsFree p.place p.gate p.at (length p.text.items)
  pub short : p.at + length p.text.items < 2 ^ 64

-- nothing is to be done: the log in force has one hand of each list and no other record, or its generation is the last
abbrev pub IsDone : List ℕ → List Handed → Type 0
IsDone bytes l = IsCompact bytes l ⊎ IsWornOut bytes

-- the text is a log that has one hand of each list of these bytes and no other record, and is written where there is
-- room
pub record IsPlan (bytes : List ℕ) (p : Plan) : Type 0 where
  pub lists : List Handed
  pub front : List ℕ
  pub is_front : IsFrontAt p.place front lists
  pub shut : IsShut front bytes
  pub place : length front ≡ p.gate
  pub text : p.text.items ≡ compact lists ++ 0 ∷ []
  pub leads : logs.IsFront log_grammar (compact lists) lists
  pub fits : p.gate + 1 < 2 ^ 63
  pub carried : MayBeCarried p
  pub needed : IsDone bytes lists → ⊥

-- what was done with a file that stands for these lists: nothing, or its log was written anew, and its closed gate now
-- stands at this offset
abbrev pub IsCompacted : (before now : List ℕ) → (List ℕ → Type 0) → List Handed → Option ℕ → Type 0
IsCompacted before now images l None = (now ≡ before) × Only now images × IsDone before l
IsCompacted before now images l (Some gate) = IsOpenedAs now images gate true l

-- what a compaction leaves: a log in force that has one hand of each list and no other record, or, where its generation
-- was the last, the bytes as they were
abbrev pub IsLeftCompact : (before now : List ℕ) → List Handed → Type 0
IsLeftCompact before now l = IsCompact now l ⊎ ((now ≡ before) × IsWornOut before)

-- a log in force that has one hand of each list and no other record, unless the generation in force was at its end
-- before
abbrev pub IsShortened : (before now : List ℕ) → List Handed → Type 0
IsShortened before now l = IsCompact now l ⊎ IsWornOut before

-- P, where no memory was found
abbrev pub OnNoMemory : {T : Type 0} → Result T WriteFault → Type 0 → Type 0
OnNoMemory (Ok x) P = Unit {0}
OnNoMemory (Err Failed) P = Unit {0}
OnNoMemory (Err NoMemory) P = P
