use Rattle.std.proofs.Common.{◌≡◌, suc, ◌+◌, ◌<◌, ℕ, List, length, map, arith, ap, rules, sym, ◌∙◌, slice_set}
use Rattle.std.specs.Prelude.{slice_index_or}
use Rattle.number_ranges.specs.Intervals.{is_named}
use Rattle.turn_desks.specs.Stocks.{StockFact, fact_of}
use Rattle.turn_desks.specs.declared.stocks.IntervalStock.{IntervalStock}
use Rattle.thread_runner.proofs.Counted.{bumped_end, bumped_no, bumped_to, bumped_yes, facts_at, facts_long}
use Rattle.thread_runner.proofs.equipping.bump.Goals as goal
use Rattle.thread_runner.proofs.equipping.bump.Goals.{then-is_named+in_ok-counts, else-is_named}

pub loop-place-preserved : goal.loop-place-preserved
loop-place-preserved c =
    let stocks : List IntervalStock = c.args.stocks.now in
    let facts : List StockFact = map fact_of stocks in
    let object = c.args.object.now in
    let nr = c.args.nr in
    let counts : List ℕ = c.args.counts.now.items in
    let place = c.loop-place.place in
    let stock : IntervalStock = c.index-stocks-place.result in
    let long = facts_long stocks in
    let within = c.loop-place-test.true in
    let next : suc place ≡ place + 1 = omega arith in
    let low : place < length facts = omega (arith, long, within) in
    let given = c.requires in
    let at = facts_at stocks place stock within c.index-stocks-place.is in
    let named = ap (λ (f : StockFact). is_named object nr f.interval) at ∙ ap (λ (s : IntervalStock). is_named object nr s.interval) c.index-stocks-place.is in
    elim c.if-is_named.branch [
      | then-is_named+in_ok-counts w ↦
          let e : ℕ = w.index.result.now in
          let m : ℕ = w.in_ok-counts.field-0 in
          let had = c.loop-place.invariant in
          let one : m ≡ slice_index_or c.loop-place.counts.items place e + 1 = search rules in
          ap (λ v. v.items) w.counts-is ∙ ap (λ xs. slice_set xs place m) had
          ∙ bumped_yes place facts object nr counts (fact_of stock) e m low (omega (arith, given, within)) (named ∙ sym c.is_named.ensures ∙ w.if-is_named.true)
          (one ∙ ap (λ xs. slice_index_or xs place e + 1) had)
          ∙ ap (λ n. bumped_to n facts object nr counts) next
      | else-is_named w ↦
          ap (λ v. v.items) w.counts-is ∙ c.loop-place.invariant
          ∙ bumped_no place facts object nr counts (fact_of stock) low (named ∙ sym c.is_named.ensures ∙ w.if-is_named.false)
          ∙ ap (λ n. bumped_to n facts object nr counts) next
    ]

pub returns : goal.returns
returns c =
    let stocks : List IntervalStock = c.args.stocks.now in
    let facts : List StockFact = map fact_of stocks in
    let object = c.args.object.now in
    let nr = c.args.nr in
    let counts : List ℕ = c.args.counts.now.items in
    let long = facts_long stocks in
    let given = c.requires in
    let end : c.loop-place.place ≡ length facts = omega (arith, long, c.loop-place.auto.place-end, c.loop-place-test.false) in
    c.loop-place.invariant ∙ ap (λ n. bumped_to n facts object nr counts) end
    ∙ bumped_end facts object nr counts (omega (arith, long, given))
