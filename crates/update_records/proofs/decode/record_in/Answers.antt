use Rattle.std.proofs.Common.{arith}
use Rattle.byte_fields.proofs.lemmas.FieldLaws.{IsBytes}
use Rattle.update_records.proofs.lemmas.TableLaws.{is_read, is_bad, is_exact}
use Rattle.update_records.proofs.decode.record_in.Goals as goal

pub returns-clause-read : goal.returns-clause-read
returns-clause-read c =
    let key_fits : IsBytes c.args.key.now = λ i. omega (arith, c.type_inv.key i) in
    let value_fits : IsBytes c.args.value.now = λ i. omega (arith, c.type_inv.value i) in
    is_read c.args.table c.args.key.now c.args.value.now _ key_fits value_fits c.row_at.ensures.gives

pub returns-clause-bad : goal.returns-clause-bad
returns-clause-bad c = is_bad c.args.table c.args.key.now c.args.value.now _ c.row_at.ensures.gives

pub returns-clause-exact : goal.returns-clause-exact
returns-clause-exact c = is_exact c.args.table c.args.key.now c.args.value.now _ c.row_at.ensures.gives
