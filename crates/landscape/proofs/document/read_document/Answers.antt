use Rattle.std.proofs.Common.{◌≡◌, length, false, nat_lt, eq-eqb}
use Rattle.std.proofs.lemmas.Bool.{le-ltb}
use Rattle.std.proofs.lemmas.Str.{utf8_valid_len-IsUtf8}
use Rattle.landscape.specs.Document.{document_of}
use Rattle.landscape.proofs.document.read_document.Goals as goal

pub returns-in-Ok-table_from_str : goal.returns-in-Ok-table_from_str
unfolding document_of
returns-in-Ok-table_from_str c =
    let u = c.in-Ok.ensures.cases in
    let valid = eq-eqb _ _ (utf8_valid_len-IsUtf8 c.args.bytes.now u.1) in
    let short : nat_lt 1048576 (length c.args.bytes.now) ≡ false = le-ltb 1048576 (length c.args.bytes.now) c.if-bytes-gt-MOST_BYTES.false in
    let parsed = rw u.0 at c.in-Ok-table_from_str.ensures.ok in
    rw (short, valid, parsed)
