use Rattle.std.proofs.Common.{◌≡◌, ℕ, List, ◌++◌, length, sym, ap, subst, ◌∙◌, arith}
use Rattle.std.specs.Prelude.{IsTrue}
use Rattle.std.specs.List.{flat_map}
use Rattle.std.specs.Int.{w32, to_be_bytes}
use Rattle.enq_base.specs.Grammar.{is_name}
use Rattle.backup_file.specs.Spelling.{unit_bytes, short, entry_bytes, user_of, hand_bytes}
use Rattle.backup_file.specs.Handing.{handed_of}
use Rattle.backup_file.proofs.Handover.{user_of-first, hand_bytes-handed, is_hand}
use Rattle.backup_file.proofs.writing.hand_payload.Goals as goal

pub returns-clause-value : goal.returns-clause-value
returns-clause-value c =
    let unit = c.args.unit.now in
    let es = c.args.entries.now in
    let user-is : user_of es ≡ c.first-item.result.user = user_of-first es c.first-item.result c.requires.some c.first-item.is in
    let first : c.extend_from_slice.new.self.items ≡ unit_bytes unit = c.in_ok-extend_from_slice.ensures.items
    ∙ ap (λ (b : List ℕ). b ++ c.text_of_unit.result) c.new-out.ensures.items ∙ c.text_of_unit.ensures.value in
    let put : c.put_name.new.out.items ≡ unit_bytes unit ++ short c.first-item.result.user =
    c.in_ok-put_name.ensures.value ∙ ap (λ (b : List ℕ). b ++ short c.first-item.result.user) first in
    let out : c.put_entries.new.out.items ≡ unit_bytes unit ++ short c.first-item.result.user ++ to_be_bytes w32 (length es) ++ flat_map entry_bytes es =
    c.in_ok-put_entries.ensures.value
    ∙ ap (λ (b : List ℕ). b ++ flat_map entry_bytes es)
    (c.in_ok-extend_from_slice-2.ensures.items ∙ ap (λ (b : List ℕ). b ++ c.bytes_of_32.result) put
    ∙ ap (λ (b : List ℕ). unit_bytes unit ++ short c.first-item.result.user ++ b) c.bytes_of_32.ensures) in
    out ∙ ap (λ (u : List ℕ). unit_bytes unit ++ short u ++ to_be_bytes w32 (length es) ++ flat_map entry_bytes es) (sym user-is)
    ∙ sym (hand_bytes-handed unit es c.requires.some)

pub returns-clause-is_record : goal.returns-clause-is_record
returns-clause-is_record c =
    let unit = c.args.unit.now in
    let es = c.args.entries.now in
    let user-is : user_of es ≡ c.first-item.result.user = user_of-first es c.first-item.result c.requires.some c.first-item.is in
    let value : c.put_entries.new.out.items ≡ hand_bytes (handed_of unit es) = returns-clause-value c in
    record {
      held = is_hand unit es c.requires c.text_of_unit.ensures.is_unit (subst (λ (u : List ℕ). IsTrue (is_name u)) (sym user-is) c.put_name.ensures.is_name)
          (omega (arith, c.if-entries-gt4294967295.false)) c.in_ok-put_entries.ensures.named;
      fits = omega (arith, ap (λ (b : List ℕ). length b) value, c.if-len-gt4294967295.false, c.len.ensures);
    }
