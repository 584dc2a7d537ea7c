-- Why bytes are no text of a business row.
use Rattle.std.specs.Prelude.{◌≡◌, ℕ, Bool, true, false, ◌&&◌, nat_le, List, length}
use Rattle.std.specs.List.{list_all}
use Rattle.enq_base.specs.Grammar.{is_text_byte}
use Rattle.enq_base.specs.declared.text.TextFault.{TextFault}
use Rattle.enq_base.specs.declared.text.TextFault.TheVariants.{Length, Byte, NoMemory}

-- 1 to 512 bytes
abbrev pub has_text_length : List ℕ → Bool
has_text_length bytes = nat_le 1 (length bytes) && nat_le (length bytes) 512

-- the length is tested first
abbrev pub IsTextFault : List ℕ → TextFault → Type 0
IsTextFault bytes Length = has_text_length bytes ≡ false
IsTextFault bytes Byte = (has_text_length bytes ≡ true) × (list_all is_text_byte bytes ≡ false)
IsTextFault bytes NoMemory = Unit {0}
