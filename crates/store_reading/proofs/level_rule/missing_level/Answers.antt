use Rattle.std.proofs.Common.{None, Some, ◌+◌, length, if◌then◌else◌, ap, sym, ◌∙◌}
use Rattle.std.specs.List.{list_all}
use Rattle.update_records.specs.Business.{interval_of}
use Rattle.store_reading.proofs.level_rule.missing_level.Goals as goal

pub returns-then-are_stored : goal.returns-then-are_stored
returns-then-are_stored c = λ stored.
    ap (λ b. if b then None else Some (record { table = 5; row = length c.args.levels.now + 1 }))
    (sym c.if-are_stored.true ∙ c.are_stored.ensures ∙ ap (λ test. list_all test c.args.numbers.now) (λ i num. stored (interval_of num) i))

pub returns : goal.returns
returns c = λ stored.
    ap (λ b. if b then None else Some (record { table = 5; row = length c.args.levels.now + 1 }))
    (sym c.if-are_stored.false ∙ c.are_stored.ensures ∙ ap (λ test. list_all test c.args.numbers.now) (λ i num. stored (interval_of num) i))
