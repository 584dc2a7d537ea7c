use Rattle.std.proofs.Common.{◌≡◌, ◌<◌, ℕ, List, sym, ap, subst, ◌∙◌, All}
use Rattle.seat_sums.specs.Sums.{IsDistinct}
use Rattle.number_stock.specs.declared.hand.Hand.{Hand}
use Rattle.number_stock.specs.Rule.{IsJoined, IsSame, both_of, parted, rest_of, unused_of}
use Rattle.number_stock.specs.Seats.{hand}
use Rattle.number_stock.proofs.lemmas.Apart.{first_same, second_same, was_joined}
use Rattle.number_stock.proofs.stock.Stock.compare_as.Goals as goal

pub take_back-requires : goal.take_back-requires
take_back-requires g c =
    let right : Hand = hand c.args.right.now in
    let seat : Hand = hand c.args.seat.now in
    let over = c.hand_over.ensures in
    record {
      own = (over.own.0, over.own.1);
      joined = subst (λ (x : Hand × Hand). IsJoined x.0 x.1 (hand c.hand_over.new.to)) (λ i. (sym c.requires.told.0 i, sym c.requires.told.1 i))
          (was_joined right (rest_of seat) (hand c.hand_over.new.to) over.handed c.requires.second over.owns.0 over.owns.1);
      none = ap (λ (x : Hand). x.draws) c.requires.told.1;
    }

pub returns-clause-same : goal.returns-clause-same
returns-clause-same g c =
    let right : Hand = hand c.args.right.now in
    let seat : Hand = hand c.args.seat.now in
    let over = c.hand_over.ensures in
    let back = c.take_back.ensures in
    let whole : Hand = hand c.hand_over.new.to in
    let first : hand c.take_back.new.from ≡ parted right whole = back.kept ∙ ap (λ (x : Hand). parted x whole) c.requires.told.0 in
    let second : hand c.take_back.new.seat ≡ both_of (unused_of seat) (parted (rest_of seat) whole) =
    back.back ∙ (λ i. both_of (over.kept i) (parted (c.requires.told.1 i) whole)) in (
      subst (IsSame right) (sym first) (first_same right (rest_of seat) whole over.handed over.limit),
      subst (IsSame seat) (sym second) (second_same seat whole c.requires.second),
    )

pub returns-clause-once : goal.returns-clause-once
returns-clause-once g c = λ yes.
    let over = c.hand_over.ensures in
    let same = ap (λ (x : Hand). x.answered) over.handed in (
      subst IsDistinct same over.distinct.1,
      subst (λ (x : ℕ × List ℕ). All (λ t. t < x.0) x.1) (λ i. (over.limit yes i, same i)) over.below,
    )
