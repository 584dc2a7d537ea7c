use Rattle.std.proofs.Common.{◌≡◌, ◌+◌, ◌≤◌, length, take, ap, subst, sym, ◌∙◌, arith}
use Rattle.number_ranges.specs.Intervals.{with_level}
use Rattle.number_ranges.specs.declared.interval.Interval.{Interval}
use Rattle.ledger_steps.specs.Drawn.{drawn_of, settled_rows, stored_as}
use Rattle.hall_calls.proofs.verdicts.Recording.{AreNone, settled_between, settled_buffered, settled_more, settled_none}
use Rattle.hall_calls.proofs.numbers.settled_rows.Goals.{then-interval-eq0+then-drawn-gt0+in_ok-push, else-interval-eq0}
use Rattle.hall_calls.proofs.numbers.settled_rows.Goals.{else-interval-eq0-via-then-interval-eq0+else-drawn-gt0, else-interval-eq0-via-else-interval-eq0}
use Rattle.hall_calls.proofs.numbers.settled_rows.Goals as goal

pub loop-place-init : goal.loop-place-init
loop-place-init g c =
    let levels = c.args.books.now.ledger.levels in
    let nums = c.args.numbers.now in
    let next = c.next_place-place in
    record {
      rows = subst (λ rs. c.new-rows.result.items ≡ settled_rows levels (take next.result rs) nums) (sym c.as_slice-list.ensures)
          (c.new-rows.ensures.items ∙ settled_between levels nums c.args.ranges.now 0 next.result next.ensures.low next.ensures.high next.ensures.none);
      within = subst (λ rs. next.result ≤ length rs) (sym c.as_slice-list.ensures) next.ensures.high;
    }

pub loop-place-preserved : goal.loop-place-preserved
loop-place-preserved g c =
    let levels = c.args.books.now.ledger.levels in
    let list = c.as_slice-list.result.now in
    let nums = c.args.numbers.now in
    let k = c.loop-place.place in
    let r = c.index-list-place.result in
    let within = c.loop-place-test.true in
    let at = c.index-list-place.is in
    let next = c.next_place-place-in-loop-place in
    let same = sym c.as_slice-list.ensures in
    let before = c.loop-place.invariant.rows in
    let buffer = ap (λ (i : Interval). i.buffer) c.present-interval.ensures in
    let drawn = c.drawn_of-drawn.ensures ∙ ap (λ i. drawn_of i nums) c.present-interval.ensures in
    let one : c.if-interval-eq0.rows.items ≡ settled_rows levels (take (k + 1) list) nums = elim c.if-interval-eq0.branch [
      | then-interval-eq0+then-drawn-gt0+in_ok-push w ↦
          settled_more levels nums list k r c.drawn_of-drawn.result c.loop-place.rows.items c.if-interval-eq0.rows.items w.stored_at.result within at
          (omega (arith, w.if-interval-eq0.true, buffer)) (omega (arith, w.if-drawn-gt0.true)) drawn before
          (w.stored_at.ensures ∙ (λ i. let j = c.present-interval.ensures i in stored_as (with_level (j.level + drawn i) j)))
          (ap (λ v. v.items) w.rows-is ∙ w.in_ok-push.ensures.items)
      | else-interval-eq0 w ↦
          elim w.else-interval-eq0.branch [
            | else-interval-eq0-via-then-interval-eq0+else-drawn-gt0 v ↦
                settled_none levels nums list k r c.drawn_of-drawn.result c.loop-place.rows.items c.if-interval-eq0.rows.items within at
                (omega (arith, v.if-drawn-gt0.false)) drawn before (ap (λ v. v.items) w.rows-is)
            | else-interval-eq0-via-else-interval-eq0 v ↦
                settled_buffered levels nums list k r c.loop-place.rows.items c.if-interval-eq0.rows.items within at
                (omega (arith, v.if-interval-eq0.false, buffer)) before (ap (λ v. v.items) w.rows-is)
          ]
    ] in
    record {
      rows = one
          ∙ settled_between levels nums list (k + 1) next.result next.ensures.low (subst (λ rs. next.result ≤ length rs) same next.ensures.high)
          (subst (λ rs. AreNone levels nums rs (k + 1) next.result) same next.ensures.none);
      within = subst (λ rs. next.result ≤ length rs) same next.ensures.high;
    }
