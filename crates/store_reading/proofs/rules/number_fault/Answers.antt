use Rattle.std.proofs.Common.{◌≡◌, ◌+◌, ◌∙◌, ap, length, take, arith}
use Rattle.std.proofs.lemmas.List.{length-take-le}
use Rattle.store_reading.specs.Rules.{has_number}
use Rattle.store_reading.proofs.Firsts.{wrong_here, wrong_more, wrong_none}
use Rattle.store_reading.proofs.rules.number_fault.Goals as goal

pub loop-stored-preserved : goal.loop-stored-preserved
loop-stored-preserved c =
    let front : c.loop-stored.row ≡ length (take c.loop-stored.stored-index c.args.marks.now) + 1 =
    omega (arith, length-take-le c.loop-stored.stored-index c.args.marks.now (omega arith)) in
    record {
      place = omega arith;
      rest = wrong_more (λ before. has_number (length before + 1)) 4 c.args.marks.now c.loop-stored.stored-index c.loop-stored.row c.stored-item.result
          c.has_number.result _
          c.loop-stored-test.true c.stored-item.is c.loop-stored.invariant.place
          (c.has_number.ensures ∙ ap (λ n. has_number n c.stored-item.result) front) c.if-not-has_number.false c.loop-stored.invariant.rest;
    }

pub returns-then-not-has_number : goal.returns-then-not-has_number
returns-then-not-has_number c =
    let front : c.loop-stored.row ≡ length (take c.loop-stored.stored-index c.args.marks.now) + 1 =
    omega (arith, length-take-le c.loop-stored.stored-index c.args.marks.now (omega arith)) in
    wrong_here (λ before. has_number (length before + 1)) 4 c.args.marks.now c.loop-stored.stored-index c.loop-stored.row c.stored-item.result
    c.has_number.result _
    c.loop-stored-test.true c.stored-item.is c.loop-stored.invariant.place
    (c.has_number.ensures ∙ ap (λ n. has_number n c.stored-item.result) front) c.if-not-has_number.true c.loop-stored.invariant.rest

pub returns : goal.returns
returns c = wrong_none (λ before. has_number (length before + 1)) 4 c.args.marks.now c.loop-stored.stored-index _ c.loop-stored-test.false
    c.loop-stored.invariant.rest
