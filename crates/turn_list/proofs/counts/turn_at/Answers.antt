use Rattle.std.proofs.Common.{◌≡◌, ◌<◌, ◌≤◌, ◌+◌, ◌-◌, ◌⊎◌, length, get_or, inl, inr, ap, subst, arith}
use Rattle.turn_list.proofs.Finding.{IsNear, near_first, near_next, near_same, near_found}
use Rattle.turn_list.proofs.counts.turn_at.Goals as goal
use Rattle.turn_list.proofs.counts.turn_at.Goals.{else-end-slots-via-then-end-slots+else-counts-end, else-end-slots-via-else-end-slots}

pub loop-level-init : goal.loop-level-init
loop-level-init c = record { low = omega arith; near = near_first c.args.slots.now c.args.place c.requires.few }

pub loop-level-preserved-then-counts-end : goal.loop-level-preserved-then-counts-end
loop-level-preserved-then-counts-end c =
    let level = c.loop-level.level in
    let turn = c.loop-level.turn in
    let left = c.loop-level.left in
    let end = turn + c.width_of.result in
    let one : level ≡ level - 1 + 1 = omega (arith, c.loop-level-test.true) in
    let near = subst (λ l. IsNear c.args.slots.now c.args.place l turn left) one c.loop-level.invariant.near in
    record {
      low = omega (arith, c.loop-level.invariant.low);
      near = near_next c.args.slots.now c.args.counts.now c.args.place (level - 1) turn left end c.requires.counted
          (ap (λ w. turn + w) c.width_of.ensures) c.if-end-slots.true c.if-counts-end.true near;
    }

pub loop-level-preserved : goal.loop-level-preserved
loop-level-preserved c =
    let level = c.loop-level.level in
    let turn = c.loop-level.turn in
    let left = c.loop-level.left in
    let end = turn + c.width_of.result in
    let one : level ≡ level - 1 + 1 = omega (arith, c.loop-level-test.true) in
    let near = subst (λ l. IsNear c.args.slots.now c.args.place l turn left) one c.loop-level.invariant.near in
    let same = λ (past : (length c.args.slots.now < end) ⊎ ((end ≤ length c.args.slots.now) × (left < get_or c.args.counts.now (end - 1) 0))). near_same
    c.args.slots.now c.args.counts.now c.args.place (level - 1) turn left end c.requires.counted
    (ap (λ w. turn + w) c.width_of.ensures) past near in
    record {
      low = omega (arith, c.loop-level.invariant.low);
      near = elim c.else-end-slots.branch [
        | else-end-slots-via-then-end-slots+else-counts-end w ↦ same (inr (w.if-end-slots.true, w.if-counts-end.false))
        | else-end-slots-via-else-end-slots w ↦ same (inl w.if-end-slots.false)
      ];
    }

pub returns : goal.returns
returns c =
    let none : c.loop-level.level ≡ 0 = omega (arith, c.loop-level-test.false) in
    near_found c.args.slots.now c.args.place c.loop-level.turn c.loop-level.left
    (subst (λ l. IsNear c.args.slots.now c.args.place l c.loop-level.turn c.loop-level.left) none c.loop-level.invariant.near)
