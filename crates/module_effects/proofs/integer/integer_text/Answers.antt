use Rattle.std.proofs.Common.{◌≡◌, false, sym, ap, ◌∙◌, w64}
use Rattle.std.specs.Fmt.{signed_decimal}
use Rattle.std.proofs.lemmas.Int.{to_z-of_z}
use Rattle.std.specs.List.{list_all}
use Rattle.std.proofs.lemmas.Bool.{false≢true}
use Rattle.enq_base.specs.Grammar.{is_text_byte}
use Rattle.enq_base.specs.TextFaults.{has_text_length}
use Rattle.module_effects.proofs.lemmas.Integers.{integer_bytes, integer_length}
use Rattle.module_effects.proofs.integer.integer_text.Goals as goal

pub unreachable-requires : goal.unreachable-requires
unreachable-requires c =
    let fault : has_text_length c.as_bytes.result.now ≡ false = (rw c.in-Err-Length.field-0-is at c.in-Err-Length.ensures).fault in
    false≢true (sym fault ∙ ap has_text_length (c.as_bytes.ensures.value ∙ c.format.ensures.text)
    ∙ ap (λ z. has_text_length (signed_decimal z)) (to_z-of_z w64 c.args.number c.ranges.number) ∙ integer_length c.args.number c.ranges.number.sfits)

pub unreachable-requires-in-Err-Byte : goal.unreachable-requires-in-Err-Byte
unreachable-requires-in-Err-Byte c =
    let fault : list_all is_text_byte c.as_bytes.result.now ≡ false = (rw c.in-Err-Byte.field-0-is at c.in-Err-Byte.ensures).fault.1 in
    false≢true (sym fault ∙ ap (list_all is_text_byte) (c.as_bytes.ensures.value ∙ c.format.ensures.text)
    ∙ ap (λ z. list_all is_text_byte (signed_decimal z)) (to_z-of_z w64 c.args.number c.ranges.number) ∙ integer_bytes c.args.number c.ranges.number.sfits)
