-- The lines by which rows are read and units committed.
use Rattle.std.proofs.Common.{◌≡◌, ℕ, true≢false, Bool, true, false, List, Result, Ok, refl, sym, ap, ◌∙◌}
use Rattle.std.specs.List.{list_all}
use Rattle.enq_base.specs.Grammar.{is_key_byte}
use Rattle.enq_base.specs.declared.refusal.Refusal.{Refusal}
use Rattle.enq_base.specs.declared.unit.Num.{Num}
use Rattle.enq_base.specs.declared.unit.Parts.{Parts}
use Rattle.lock_objects.specs.Objects.{Object}
use Rattle.dialogue_session.specs.Filling.{filled}
use Rattle.dialogue_session.specs.Private.{Private}
use Rattle.dialogue_session.specs.declared.variables.Variable.{Variable}
use Rattle.hall_model.specs.declared.command.Command.TheVariants as command
use Rattle.script_lang.specs.declared.script_line.ScriptLine.{ScriptLine}
use Rattle.script_runner.specs.Lines.{and_next, argument_in, has_key_length, key_in, key_with}
use Rattle.coverage.specs.Locks.{holds_dollar}
use Rattle.cover_laws.proofs.needed.LinesNeeded.{CommitsAreLines, IsCommitLine, IsReadLine, ReadsAreLines}
use Rattle.cover_laws.proofs.lines.LineCalls.{Commits, IsMade, OfOthers, Tells, call_made}
use Rattle.cover_laws.proofs.lines.PlainParts.{plain_fills}

-- a key is made of what stands in the line, and not changed
pub key_same : (written known : List ℕ) → key_in written ≡ Ok known → written ≡ known
key_same written known is = within (has_key_length written) (list_all is_key_byte written) is
  where
    within : (fits good : Bool) → argument_in fits good written ≡ Ok known → written ≡ known
    within true true is = cc
    within true false is = absurd (cc)
    within false good is = absurd (cc)

key_behind : (bytes : Result (List ℕ) Refusal) (written known : List ℕ) → bytes ≡ Ok written → and_next bytes key_in ≡ Ok known → written ≡ known
key_behind bytes written known plain is =
    key_same written known (sym (ap (λ (r : Result (List ℕ) Refusal). and_next r key_in) plain) ∙ is)

plain_key : (variables : List Variable) (written known : List ℕ) → holds_dollar written ≡ false → key_with variables written ≡ Ok known
    → written ≡ known
plain_key variables written known plain is = key_behind (filled variables written) written known (plain_fills variables written plain) is

row_read : (objects : List Object) (sides : List Private) (l : ScriptLine) (name table key : List ℕ)
    → IsMade objects sides l (command.Read name table key) → IsReadLine l name table key
row_read objects sides l name table key (Tells s t written variable known x at ok) = record {
  written = written;
  variable = variable;
  is = refl;
  plainly = λ plain. plain_key _ written known plain ok;
}
row_read objects sides l name table key (OfOthers m c none other) = absurd (true≢false other)

pub reads_are_lines : ReadsAreLines
reads_are_lines objects sides l name table key is = row_read objects sides l name table key (call_made objects sides l (command.Read name table key) is)

unit_committed : (objects : List Object) (sides : List Private) (l : ScriptLine) (name : List ℕ) (parts : Parts) (stock : List Num)
    → IsMade objects sides l (command.Commit name parts stock) → IsCommitLine l sides name parts
unit_committed objects sides l name parts stock (Commits s x at) = record { is = refl; parts_are = refl }
unit_committed objects sides l name parts stock (OfOthers m c none other) = absurd (true≢false other)

pub commits_are_lines : CommitsAreLines
commits_are_lines objects sides l name parts stock is =
    unit_committed objects sides l name parts stock (call_made objects sides l (command.Commit name parts stock) is)
