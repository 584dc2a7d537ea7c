-- Reading a record from left to right.
use Rattle.std.specs.Prelude.{ℕ, Bool, true, List, [], ◌∷◌, length, take, drop, Option, Some, None}
use Rattle.std.specs.Prelude.{nat_lt, nat_le, ◌==◌, ◌&&◌, if◌then◌else◌}
use Rattle.std.specs.Int.{w16, w32}
use Rattle.byte_fields.specs.Fields.{◌>>=◌, Field, code_at, many, number_at}
use Rattle.enq_base.specs.Grammar.{is_name, is_pattern}
use Rattle.enq_base.specs.declared.owner.UnitKey.{UnitKey}
use Rattle.enq_base.specs.declared.owner.Owner.TheVariants.{Upd}
use Rattle.mode_rules.specs.declared.Mode.{Mode}
use Rattle.mode_rules.specs.Modes.{mode_of}
use Rattle.lock_entry.specs.declared.entry.Entry.{Entry}
use Rattle.backup_file.specs.declared.handed.Record.{Record}
use Rattle.backup_file.specs.declared.handed.Record.TheVariants.{Hand, Free}

-- A field is a value and the bytes after it.
unfoldable pub text_at : List ℕ → Option (List ℕ × List ℕ)
text_at [] = None
text_at (n ∷ rest) = if nat_lt (length rest) n then None else Some (take n rest, drop n rest)

unfoldable pub short_at : (List ℕ → Bool) → List ℕ → Option (List ℕ × List ℕ)
short_at spells bytes = do
  text ← text_at bytes
  if spells text.0 then Some text else None

unfoldable pub unit_at : List ℕ → Option (UnitKey × List ℕ)
unit_at bytes = do
  start ← number_at w32 bytes
  session ← number_at w32 start.1
  luw ← number_at w32 session.1
  Some (record { start = start.0; session = session.0; luw = luw.0 }, luw.1)

unfoldable pub mode_at : Field Mode
mode_at = code_at mode_of

unfoldable pub count_at : List ℕ → Option (ℕ × List ℕ)
count_at bytes = do
  n ← number_at w16 bytes
  if nat_le 1 n.0 && nat_le n.0 9999 then Some n else None

unfoldable pub entry_at : UnitKey → List ℕ → List ℕ → Option (Entry × List ℕ)
entry_at unit user bytes = do
  table ← short_at is_name bytes
  mode ← mode_at table.1
  count ← count_at mode.1
  pattern ← short_at is_pattern count.1
  Some (
    record {
      owner = Upd unit;
      user = user;
      table = table.0;
      pattern = pattern.0;
      mode = mode.0;
      count =
          count.0;
      handed = true;
    },
    pattern.1,
  )

-- all of the payload
unfoldable pub hand_of : List ℕ → Option Record
hand_of bytes = do
  unit ← unit_at bytes
  user ← short_at is_name unit.1
  n ← number_at w32 user.1
  entries ← many (entry_at unit.0 user.0) n.0 n.1
  if nat_le 1 n.0 && (length entries.1 == 0) then Some (Hand (record { unit = unit.0; entries = entries.0 })) else None

unfoldable pub free_of : List ℕ → Option Record
free_of bytes = do
  unit ← unit_at bytes
  if length unit.1 == 0 then Some (Free unit.0) else None

unfoldable pub payload_of : ℕ → List ℕ → Option Record
payload_of kind bytes = if kind == 1 then hand_of bytes else (if kind == 2 then free_of bytes else None)

unfoldable pub record_at : List ℕ → Option (Record × List ℕ)
record_at [] = None
record_at (kind ∷ rest) = do
  n ← number_at w32 rest
  if nat_lt (length n.1) n.0 then None else (payload_of kind (take n.0 n.1) >>= λ r. Some (r, drop n.0 n.1))
