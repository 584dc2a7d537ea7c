use Rattle.std.proofs.Common.{Vec, Global, sym, ◌∙◌, subst}
use Rattle.std.specs.Prelude.{is_some, IsTrue}
use Rattle.number_stock.specs.declared.seat.StockSeat.{StockSeat}
use Rattle.script_actors.specs.Drawings.{settles, settling_of}
use Rattle.turn_desks.specs.Asking.{Asks}
use Rattle.turn_desks.specs.Stocks.{AreLeft, AreSeatsAt}
use Rattle.turn_desks.proofs.Turns.{asked_turn, full_kept, part_kept, same_parts, turn_of}
use Rattle.turn_desks.proofs.caller.Caller.ask.Goals as goal

pub invariant_of-self : goal.invariant_of-self
invariant_of-self g c =
    let past = g.S.History.past in
    let was = c.args.self.now in
    let ran = c.with-turned.ensures.ran in
    let r = c.with-turned.result.look.reply in
    let up = c.with-turned.result.look.is_up in
    let asked = asked_turn past c.args.at c.args.command r up _ _ (turn_of past _ (Asks past c.args.at c.args.command r up) _ _ (λ x y h. h.0.0) ran) in
    record {
      of_lock = was.of_lock;
      own = c.with-turned.ensures.own ∙ was.of_lock;
      one = same_parts past _ _ _ ran ∙ was.one;
      part = part_kept past _ _ _ ran was.part;
      full = λ yes.
          full_kept past c.args.at c.args.at c.args.command r up _ _ was.notes.full_at asked was.full
          (subst (λ o. IsTrue (is_some o)) c.note.ensures.full_at yes);
    }

pub returns-clause-asked : goal.returns-clause-asked
returns-clause-asked g c =
    let past = g.S.History.past in
    let r = c.with-turned.result.look.reply in
    let up = c.with-turned.result.look.is_up in
    asked_turn past c.args.at c.args.command r up _ _ (turn_of past _ (Asks past c.args.at c.args.command r up) _ _ (λ x y h. h.0.0) c.with-turned.ensures.ran)

pub returns-clause-seats : goal.returns-clause-seats
returns-clause-seats g c =
    subst (λ (v : Vec StockSeat Global). AreSeatsAt g.S.Serving.stocks v.items) (sym c.swap.ensures.x_after) c.with-turned.ensures.ran.ran.1

pub returns-clause-left : goal.returns-clause-left
returns-clause-left g c =
    let settled = settles (settling_of c.args.command) c.with-turned.result.look.reply in
    subst (λ (v : Vec StockSeat Global × Vec StockSeat Global). AreLeft settled v.0.items v.1.items)
    (λ i. (c.replace.ensures.value i, sym c.swap.ensures.x_after i)) c.with-turned.ensures.ran.ran.0.1
