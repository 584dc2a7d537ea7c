use Rattle.std.proofs.Common.{◌++◌, ap, sym, subst, ◌∙◌}
use Rattle.std.proofs.lemmas.List.{append-nil}
use Rattle.store_reading.specs.Standings.{AreNames, AreTwins}
use Rattle.store_reading.proofs.Twins.{names_more, no_name, one_name, twins_more}
use Rattle.lock_entry.specs.declared.entry.Asked.{Asked}
use Rattle.store_reading.proofs.lock_names.add_lock.Goals as goal

pub returns-in_ok-add_name : goal.returns-in_ok-add_name
returns-in_ok-add_name c = λ headers names counts seen twins.
    let asked : Asked = record { table = c.in-Lock.table; pattern = c.in-Lock.pattern; mode = c.in-Lock.mode } in
    let new = one_name headers c.args.stored.now c.in-Lock.unit c.in-Lock.index c.in-Lock.count asked c.in-Lock.is
    (sym (c.is_counted.ensures headers counts) ∙ c.if-is_counted.true) in
    subst (λ ns. AreNames c.add_name.new.seen (names ++ ns) × AreTwins c.add_name.new.twins (names ++ ns)) (sym new) (
      names_more c.args.seen.now c.add_name.new.seen c.in-Lock.unit asked names c.lock_id.result c.lock_id.ensures seen c.in_ok-add_name.ensures.seen,
      twins_more c.args.seen.now c.args.twins.now c.add_name.new.twins c.in-Lock.unit asked names c.lock_id.result c.lock_id.ensures seen twins
          c.in_ok-add_name.ensures.twins,
    )

pub returns-else-is_counted : goal.returns-else-is_counted
returns-else-is_counted c = λ headers names counts seen twins.
    let asked : Asked = record { table = c.in-Lock.table; pattern = c.in-Lock.pattern; mode = c.in-Lock.mode } in
    let none = no_name headers c.args.stored.now c.in-Lock.unit c.in-Lock.index c.in-Lock.count asked c.in-Lock.is
    (sym (c.is_counted.ensures headers counts) ∙ c.if-is_counted.false) in
    subst (λ ns. AreNames c.args.seen.now ns × AreTwins c.args.twins.now ns) (sym (ap (λ ns. names ++ ns) none ∙ append-nil names)) (seen, twins)
