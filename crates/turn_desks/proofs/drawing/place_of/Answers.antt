use Rattle.std.proofs.Common.{◌≡◌, Some, false, length, map, refl, sym, ap, ◌∙◌, subst, arith}
use Rattle.std.specs.Prelude.{slice_get, slice_index_or}
use Rattle.std.proofs.lemmas.List.{length-map, take_all}
use Rattle.std.proofs.lemmas.Option.{slice_get_read}
use Rattle.turn_desks.specs.Stocks.{fact_of, is_of_stock}
use Rattle.turn_desks.proofs.Numbers.{none_more}
use Rattle.turn_desks.proofs.lemmas.Seating.{map_get}
use Rattle.turn_desks.proofs.drawing.place_of.Goals as goal

pub loop-place-init : goal.loop-place-init
loop-place-init c = record { none = refl }

pub loop-place-preserved : goal.loop-place-preserved
loop-place-preserved c =
    let stocks = c.args.stocks.now in
    let k = c.loop-place.place in
    let own = slice_index_or stocks k c.index-stocks-place.result in
    let at : slice_get stocks k ≡ Some own = slice_get_read stocks (length stocks) k c.index-stocks-place.result refl c.loop-place-test.true
    c.index-stocks-place.is ∙ ap Some c.index-stocks-place.is in
    record {
      none = none_more (map fact_of stocks) k (fact_of own) c.args.object.now c.args.nr (map_get fact_of stocks k own at) c.loop-place.invariant.none
          (sym c.is_named.ensures ∙ c.if-is_named.false);
    }

pub returns-then-is_named-clause-some : goal.returns-then-is_named-clause-some
returns-then-is_named-clause-some c =
    let stocks = c.args.stocks.now in
    let k = c.loop-place.place in
    let own = slice_index_or stocks k c.index-stocks-place.result in
    let at : slice_get stocks k ≡ Some own = slice_get_read stocks (length stocks) k c.index-stocks-place.result refl c.loop-place-test.true
    c.index-stocks-place.is ∙ ap Some c.index-stocks-place.is in
    record { fact = fact_of own; there = map_get fact_of stocks k own at; is = sym c.is_named.ensures ∙ c.if-is_named.true }

pub returns-clause-none : goal.returns-clause-none
returns-clause-none c =
    let facts = map fact_of c.args.stocks.now in
    let many = length-map c.args.stocks.now fact_of in
    subst (λ fs. is_of_stock fs c.args.object.now c.args.nr ≡ false) (take_all c.loop-place.place facts (omega (arith, many))) c.loop-place.invariant.none
