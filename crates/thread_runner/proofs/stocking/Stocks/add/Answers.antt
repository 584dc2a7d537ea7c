use Rattle.std.proofs.Common.{◌++◌, ◌∷◌, [], true, true≢false, map, refl, sym, ap, ◌∙◌}
use Rattle.std.specs.Option.{option_copied}
use Rattle.number_ranges.specs.Intervals.{is_buffered}
use Rattle.turn_desks.specs.Stocks.{fact_of, is_of_stock}
use Rattle.thread_runner.proofs.Begun.{begun_added, new_there, none_there, same_there, with_buffer, without_buffer}
use Rattle.thread_runner.proofs.stocking.Stocks.add.Goals as goal
use Rattle.thread_runner.proofs.stocking.Stocks.add.Goals.{then-interval-eq0-via-then-interval-eq0, then-interval-eq0-via-else-interval-eq0+then-has_stock}

pub returns-in_default-clause-has : goal.returns-in_default-clause-has
returns-in_default-clause-has c = λ i at buffered.
    absurd (none_there c.args.self.now.ranges c.args.object.now c.args.nr i (sym c.find.ensures ∙ ap option_copied c.in_default.is) at)

pub returns-then-interval-eq0-clause-has : goal.returns-then-interval-eq0-clause-has
returns-then-interval-eq0-clause-has c = λ i at buffered.
    let object = c.args.object.now in
    let nr = c.args.nr in
    let range = c.in-Some.range.now in
    let there = sym c.find.ensures ∙ ap option_copied c.in-Some.is in
    let same = same_there c.args.self.now.ranges object nr range i there at in
    elim c.then-interval-eq0.branch [
      | then-interval-eq0-via-then-interval-eq0 w ↦
          absurd (true≢false (sym buffered ∙ (ap is_buffered (sym same) ∙ without_buffer range.interval w.if-interval-eq0.true)))
      | then-interval-eq0-via-else-interval-eq0+then-has_stock w ↦
          ap (λ ss. is_of_stock (map fact_of ss) object nr) (sym w.as_slice.ensures.value) ∙ (sym w.has_stock.ensures ∙ w.if-has_stock.true)
    ]

pub returns-clause-begun : goal.returns-clause-begun
returns-clause-begun c = λ s o found owned begun.
    let object = c.args.object.now in
    let nr = c.args.nr in
    let range = c.in-Some.range.now in
    let right = c.in_ok-stock.right in
    let made = c.in_ok-stock.ensures in
    let there = sym c.find.ensures ∙ ap option_copied c.in-Some.is in
    let none = ap (λ ss. is_of_stock (map fact_of ss) object nr) (sym c.as_slice.ensures.value) ∙ (sym c.has_stock.ensures ∙ c.if-has_stock.false) in
    begun_added c.lots_stay.ensures.opened s o c.args.found.now c.args.self.now.ranges c.args.self.now.list.items c.push.new.self.items
    c.args.self.now.rights.items c.push_reserved.new.self.items range _ right object nr found owned there refl
    (with_buffer range.interval c.if-interval-eq0.false)
    none c.next_of-base.ensures (record { own = made.seat; raises = made.hand.0; limit = made.hand.1; answered = made.hand.2 }) c.in_ok-push.ensures.items
    (c.push_reserved.ensures.items ∙ ap (λ l. l ++ right ∷ []) c.in_ok-reserve.ensures.items) begun

pub returns-clause-has : goal.returns-clause-has
returns-clause-has c = λ i at buffered.
    let there = sym c.find.ensures ∙ ap option_copied c.in-Some.is in
    new_there c.args.self.now.ranges c.args.self.now.list.items c.push.new.self.items c.in-Some.range.now _ c.in_ok-push.ensures.items c.args.object.now
    c.args.nr there refl
