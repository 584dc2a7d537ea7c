use Rattle.std.proofs.Common.{◌≡◌, ◌<◌, true, false, length, if◌then◌else◌, vec_len, vec_capacity, sym, ap, subst, arith, ◌∙◌}
use Rattle.std.specs.FinMap.{insert}
use Rattle.std.specs.List.{position_or_len, slice_get, slice_set, insert as list_insert}
use Rattle.std.specs.Option.{option_map_or}
use Rattle.update_records.specs.Ledger.{Levels}
use Rattle.ledger_steps.specs.Intervals.{AreInOrder, IntervalsView, is_called, is_past}
use Rattle.update_records.specs.Intervals.{level_of, named}
use Rattle.posting.proofs.StoredIntervals.{Here, inserted_at, kept_put, levels_put, replaced_at}
use Rattle.posting.proofs.interval_list.IntervalList.put.Goals as goal

pub invariant_of-self : goal.invariant_of-self
invariant_of-self c =
    let new = c.args.interval.now in
    let items = c.self.inside.items.items in
    let n = c.place_of-place.result in
    let at = c.place_of-place.ensures.place (subst AreInOrder (sym c.as_slice.ensures.value) c.self.invariant)
    ∙ ap (position_or_len (is_past (named new))) c.as_slice.ensures.value in
    let here : Here new items n ≡ true = ap (λ is. option_map_or (is_called (named new)) (slice_get is n) false) (sym c.as_slice-2.ensures.value)
    ∙ sym c.is_at.ensures ∙ c.if-is_at.true in
    kept_put new items (slice_set items n new) (replaced_at new items n at here) c.self.invariant

pub insert-requires : goal.insert-requires
insert-requires c =
    let items = c.self.inside.items.items in
    let same : length c.as_slice.result.now ≡ length items = ap length c.as_slice.ensures.value in
    omega (arith, same, c.place_of-place.ensures.within, c.as_slice.ensures.len)

pub invariant_of-self-else-is_at : goal.invariant_of-self-else-is_at
invariant_of-self-else-is_at c =
    let new = c.args.interval.now in
    let items = c.self.inside.items.items in
    let n = c.place_of-place.result in
    let at = c.place_of-place.ensures.place (subst AreInOrder (sym c.as_slice.ensures.value) c.self.invariant)
    ∙ ap (position_or_len (is_past (named new))) c.as_slice.ensures.value in
    let here : Here new items n ≡ false = ap (λ is. option_map_or (is_called (named new)) (slice_get is n) false) (sym c.as_slice-2.ensures.value)
    ∙ sym c.is_at.ensures ∙ c.if-is_at.false in
    let spare = ap (λ (v : IntervalsView). v.spare) c.self.view_is in
    let room : vec_len c.self.inside.items < vec_capacity c.self.inside.items = omega (arith, spare, c.requires) in
    let done = c.insert.ensures.items ∙ ap (λ b. if b then list_insert items n new else items) (c.insert.ensures.succeeds room) in
    kept_put new items c.insert.new.self.items (inserted_at new items c.insert.new.self.items n at here done) c.self.invariant

pub returns-then-is_at-clause-levels : goal.returns-then-is_at-clause-levels
returns-then-is_at-clause-levels c =
    let new = c.args.interval.now in
    let items = c.self.inside.items.items in
    let n = c.place_of-place.result in
    let at = c.place_of-place.ensures.place (subst AreInOrder (sym c.as_slice.ensures.value) c.self.invariant)
    ∙ ap (position_or_len (is_past (named new))) c.as_slice.ensures.value in
    let here : Here new items n ≡ true = ap (λ is. option_map_or (is_called (named new)) (slice_get is n) false) (sym c.as_slice-2.ensures.value)
    ∙ sym c.is_at.ensures ∙ c.if-is_at.true in
    levels_put new items (slice_set items n new) (replaced_at new items n at here)
    ∙ ap (λ (m : Levels). insert m (named new) (level_of new)) (ap (λ (v : IntervalsView). v.levels) c.self.view_is)

pub returns-else-is_at-clause-levels : goal.returns-else-is_at-clause-levels
returns-else-is_at-clause-levels c =
    let new = c.args.interval.now in
    let items = c.self.inside.items.items in
    let n = c.place_of-place.result in
    let at = c.place_of-place.ensures.place (subst AreInOrder (sym c.as_slice.ensures.value) c.self.invariant)
    ∙ ap (position_or_len (is_past (named new))) c.as_slice.ensures.value in
    let here : Here new items n ≡ false = ap (λ is. option_map_or (is_called (named new)) (slice_get is n) false) (sym c.as_slice-2.ensures.value)
    ∙ sym c.is_at.ensures ∙ c.if-is_at.false in
    let spare = ap (λ (v : IntervalsView). v.spare) c.self.view_is in
    let room : vec_len c.self.inside.items < vec_capacity c.self.inside.items = omega (arith, spare, c.requires) in
    let done = c.insert.ensures.items ∙ ap (λ b. if b then list_insert items n new else items) (c.insert.ensures.succeeds room) in
    levels_put new items c.insert.new.self.items (inserted_at new items c.insert.new.self.items n at here done)
    ∙ ap (λ (m : Levels). insert m (named new) (level_of new)) (ap (λ (v : IntervalsView). v.levels) c.self.view_is)
