use Rattle.std.proofs.Common.{◌≡◌, ◌+◌, ◌++◌, ◌∷◌, [], List, map, take, sym, ap, ◌∙◌, subst}
use Rattle.std.proofs.lemmas.List.{take_more}
use Rattle.hall_model.specs.State.{State}
use Rattle.ledger_steps.specs.Levels.{AreIntervals, intervals_of}
use Rattle.number_ranges.specs.declared.interval.Interval.{Interval}
use Rattle.script_actors.specs.Drawings.{interval_at}
use Rattle.script_actors.specs.declared.line.NumberedLine.{NumberedLine}
use Rattle.turn_desks.specs.Stocks.{StockFact, fact_of}
use Rattle.thread_runner.specs.Stocking.{AreBegun, Cover}
use Rattle.thread_runner.proofs.Begun.{cover_more, num_covered, other_covered}
use Rattle.thread_runner.proofs.Opening.{opened_known}
use Rattle.thread_runner.proofs.stocking.open_stocks.Goals as goal
use Rattle.thread_runner.proofs.stocking.open_stocks.Goals.{in-Num+in_ok-add, in_default}

pub ranges_of-requires : goal.ranges_of-requires
ranges_of-requires g c =
    subst (λ rs. AreIntervals (intervals_of rs)) (sym (c.as_slice.ensures.value ∙ c.in_ok-found.ensures)) (opened_known c.args.hall.now.state c.requires.opened)

pub loop-numbered-preserved : goal.loop-numbered-preserved
loop-numbered-preserved g c =
    let inv = c.loop-numbered.invariant in
    let s : State = c.args.hall.now.state in
    let is : List Interval = intervals_of s.ranges in
    let lines : List NumberedLine = c.args.lines.now in
    let k = c.loop-numbered.numbered-index in
    let l : NumberedLine = c.numbered-item.result in
    let old = c.loop-numbered.stocks in
    let facts : List StockFact = map fact_of old.list.items in
    let more : take (k + 1) lines ≡ take k lines ++ l ∷ [] =
    take_more lines k l c.loop-numbered-test.true ∙ ap (λ x. take k lines ++ x ∷ []) (sym c.numbered-item.is) in
    let apart = (opened_known s c.requires.opened).apart in
    elim c.match-numbered.branch [
      | in-Num+in_ok-add w ↦
          let now = w.add.new.self in
          let done = w.in_ok-add.ensures in
          let found = w.as_slice-in-Num.ensures.value ∙ c.in_ok-found.ensures in
          record {
            ranges = ap (λ x. intervals_of x.ranges) w.stocks-is ∙ (ap intervals_of done.ranges ∙ inv.ranges);
            begun = subst (λ x. AreBegun s is (map fact_of x.list.items) x.rights.items) (sym w.stocks-is)
                (done.begun s c.requires.opened found inv.ranges inv.begun);
            cover = subst (λ x. Cover is (map fact_of x.list.items) (take (k + 1) lines)) (sym w.stocks-is)
                (subst (λ ls. Cover is (map fact_of now.list.items) ls) (sym more)
                (cover_more is facts (map fact_of now.list.items) (take k lines) l done.more
                (num_covered is (map fact_of now.list.items) _ _ _ _ l apart w.in-Num.is
                (λ j at buffered. done.has j (ap (λ js. interval_at js w.in-Num.object w.in-Num.nr) inv.ranges ∙ at) buffered)) inv.cover));
          }
      | in_default w ↦
          record {
            ranges = ap (λ x. intervals_of x.ranges) w.stocks-is ∙ inv.ranges;
            begun = subst (λ x. AreBegun s is (map fact_of x.list.items) x.rights.items) (sym w.stocks-is) inv.begun;
            cover = subst (λ x. Cover is (map fact_of x.list.items) (take (k + 1) lines)) (sym w.stocks-is)
                (subst (λ ls. Cover is facts ls) (sym more)
                (cover_more is facts facts (take k lines) l (λ object nr h. h)
                (λ i there buffered none. other_covered i l.line w.in_default.not-Num) inv.cover));
          }
    ]
