-- The laws of the reader.
use Rattle.std.proofs.Common.{◌≡◌, ℕ, List, Option, Some, None, Result, Ok, Err, sym, ◌∙◌, subst}
use Rattle.std.specs.Prelude.{IfOk, IfSome}
use Rattle.std.proofs.lemmas.Option.{same_Some, none-some}
use Rattle.script_lang.specs.Reading.{Gives, line_of}
use Rattle.script_lang.specs.Spelling.{IsReading}
use Rattle.script_lang.specs.declared.read_fault.ReadFault.{ReadFault}
use Rattle.script_lang.specs.declared.read_fault.ReadFault.TheVariants as fault
use Rattle.script_lang.specs.declared.script_line.ScriptLine.{ScriptLine}
use Rattle.script_lang.proofs.lemmas.Again.{line_again}
use Rattle.script_lang.proofs.Spelled.{line_if}

found_at : (o : Option ScriptLine) (l : ScriptLine) (P : ScriptLine → Type 0) → IfSome o P → o ≡ Some l → P l
found_at None l P h e = absurd (none-some l e)
found_at (Some x) l P h e = subst P (same_Some x l e) h

-- what reading gives is a line that the bytes spell
pub line_found : (bytes : List ℕ) (l : ScriptLine) → line_of bytes ≡ Some l → IsReading bytes l
line_found bytes l e = found_at (line_of bytes) l (IsReading bytes) (line_if bytes) e

pub is_found : (bytes : List ℕ) (r : Result ScriptLine ReadFault) → Gives (λ (l : ScriptLine). l) r (line_of bytes) → IfOk r (IsReading bytes)
is_found bytes (Ok l) g = line_found bytes l g
is_found bytes (Err e) g = tt

pub is_bad : (bytes : List ℕ) (r : Result ScriptLine ReadFault) → Gives (λ (l : ScriptLine). l) r (line_of bytes) → r ≡ Err fault.BadLine → (l : ScriptLine)
    → IsReading bytes l → ⊥
is_bad bytes r g e l h =
    let n : line_of bytes ≡ None = subst (λ r. Gives (λ (l : ScriptLine). l) r (line_of bytes)) e g in
    none-some l (sym n ∙ line_again l bytes h.0 h.1)

pub is_one : (bytes : List ℕ) (a b : ScriptLine) → IsReading bytes a → IsReading bytes b → a ≡ b
is_one bytes a b h k = same_Some a b (sym (line_again a bytes h.0 h.1) ∙ line_again b bytes k.0 k.1)

pub is_reading : (bytes : List ℕ) (l : ScriptLine) → (line_of bytes ≡ Some l → IsReading bytes l) × (IsReading bytes l → line_of bytes ≡ Some l)
is_reading bytes l = (λ e. line_found bytes l e, λ h. line_again l bytes h.0 h.1)
