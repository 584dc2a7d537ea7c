use Rattle.std.proofs.Common.{◌≡◌, ◌+◌, ◌∷◌, ◌++◌, [], ℕ, List, length, length-append, map, take, arith, ap, sym, ◌∙◌}
use Rattle.std.proofs.lemmas.List.{take_all, take_more}
use Rattle.hall_model.specs.declared.command.Who.{Who}
use Rattle.script_actors.specs.declared.line.NumberedLine.{NumberedLine}
use Rattle.turn_desks.specs.Stocks.{StockFact, fact_of}
use Rattle.turn_desks.specs.declared.stocks.IntervalStock.{IntervalStock}
use Rattle.thread_runner.specs.Stocking.{asked_of, bumped_for}
use Rattle.thread_runner.proofs.Counted.{asked_long, asked_none, asked_other, asked_own, facts_long, zeros_more}
use Rattle.thread_runner.proofs.equipping.counts_for.Goals as goal
use Rattle.thread_runner.proofs.equipping.counts_for.Goals.{then-is_done_by+in_ok-bump_for, else-is_done_by}

pub loop-stock-preserved : goal.loop-stock-preserved
loop-stock-preserved c =
    let inv = c.loop-stock.invariant in
    let facts : List StockFact = map fact_of c.args.stocks.now in
    let long = facts_long c.args.stocks.now in
    let within = c.loop-stock-test.true in
    let push = c.push_reserved.ensures in
    let items = push.items in
    let was : List ℕ = c.loop-stock.counts.items in
    let more = ap length items in
    let one = length-append was (0 ∷ []) in
    let now = inv.long in
    let room = inv.room in
    let capacity = push.capacity in
    record {
      zeros = items ∙ ap (λ l. l ++ 0 ∷ []) inv.zeros
          ∙ sym (zeros_more facts c.loop-stock.stock-index (fact_of c.stock-item.result) (omega (arith, long, within)));
      long = omega (arith, more, one, now);
      room = omega (arith, room, capacity);
    }

pub loop-numbered-init : goal.loop-numbered-init
loop-numbered-init c =
    let facts : List StockFact = map fact_of c.args.stocks.now in
    let long = facts_long c.args.stocks.now in
    let past = c.loop-stock-test.false in
    c.loop-stock.invariant.zeros ∙ ap (map {B = ℕ} (λ f. 0)) (take_all c.loop-stock.stock-index facts (omega (arith, long, past)))
    ∙ sym (asked_none facts c.args.who.now)

pub bump_for-requires : goal.bump_for-requires
bump_for-requires c =
    let stocks : List IntervalStock = c.args.stocks.now in
    ap length c.loop-numbered.invariant
    ∙ asked_long (map fact_of stocks) c.args.who.now (take c.loop-numbered.numbered-index c.args.lines.now) ∙ facts_long stocks

pub loop-numbered-preserved : goal.loop-numbered-preserved
loop-numbered-preserved c =
    let stocks : List IntervalStock = c.args.stocks.now in
    let facts : List StockFact = map fact_of stocks in
    let w : Who = c.args.who.now in
    let lines : List NumberedLine = c.args.lines.now in
    let i = c.loop-numbered.numbered-index in
    let l : NumberedLine = c.numbered-item.result in
    let done : List NumberedLine = take i lines in
    let more : take (i + 1) lines ≡ done ++ l ∷ [] =
    take_more lines i l c.loop-numbered-test.true ∙ ap (λ x. done ++ x ∷ []) (sym c.numbered-item.is) in
    elim c.if-is_done_by.branch [
      | then-is_done_by+in_ok-bump_for v ↦
          ap (λ x. x.items) v.counts-is ∙ v.in_ok-bump_for.ensures ∙ ap (bumped_for facts l.line) c.loop-numbered.invariant
          ∙ sym (asked_own facts w done l (sym c.is_done_by.ensures ∙ v.if-is_done_by.true)) ∙ ap (asked_of facts w) (sym more)
      | else-is_done_by v ↦
          ap (λ x. x.items) v.counts-is ∙ c.loop-numbered.invariant
          ∙ sym (asked_other facts w done l (sym c.is_done_by.ensures ∙ v.if-is_done_by.false)) ∙ ap (asked_of facts w) (sym more)
    ]
