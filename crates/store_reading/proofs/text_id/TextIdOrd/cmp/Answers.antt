use Rattle.std.proofs.Common.{arith}
use Rattle.store_reading.proofs.lemmas.TextOrder.{name_cmp}
use Rattle.store_reading.proofs.text_id.TextIdOrd.cmp.Goals as goal

pub returns : goal.returns
returns c =
    let own = c.args.self.now in
    let other = c.args.other.now in
    grind (
      arith,
      c.then-2.ensures,
      c.then.ensures,
      c.cmp.ensures,
      c.cmp-2.ensures,
      c.cmp-3.ensures,
      c.bytes-own.ensures.same,
      c.bytes-others.ensures.same,
      c.bytes.ensures.same,
      c.bytes-2.ensures.same,
      name_cmp own.table other.table own.key other.key,
    )
