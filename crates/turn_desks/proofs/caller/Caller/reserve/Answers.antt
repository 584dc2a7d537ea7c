use Rattle.std.proofs.Common.{Vec, Global, sym, ◌∙◌, subst}
use Rattle.std.specs.Prelude.{is_some, IsTrue}
use Rattle.number_stock.specs.declared.seat.StockSeat.{StockSeat}
use Rattle.turn_desks.specs.Asking.{Asks}
use Rattle.turn_desks.specs.Stocks.{AreSame, AreSeatsAt, HasHeard, reserving}
use Rattle.turn_desks.proofs.Turns.{asked_turn, full_kept, part_kept, same_parts, turn_of}
use Rattle.turn_desks.proofs.caller.Caller.reserve.Goals as goal

pub invariant_of-self : goal.invariant_of-self
invariant_of-self g c =
    let past = g.S.History.past in
    let was = c.args.self.now in
    let ran = c.with-look.ensures.ran in
    let r = c.with-look.result.reply in
    let up = c.with-look.result.is_up in
    let may = c.requires.may in
    let asks = reserving c.args.session c.args.upto may.fact in
    let asked = asked_turn past 0 asks r up _ _ (turn_of past _ (Asks past 0 asks r up) _ _ (λ x y h. h.asks may.fact may.there) ran) in
    record {
      of_lock = was.of_lock;
      own = c.with-look.ensures.own ∙ was.of_lock;
      one = same_parts past _ _ _ ran ∙ was.one;
      part = part_kept past _ _ _ ran was.part;
      full = λ yes.
          full_kept past 0 c.args.at asks r up _ _ was.notes.full_at asked was.full
          (subst (λ o. IsTrue (is_some o)) c.note.ensures.full_at yes);
    }

pub returns-clause-asked : goal.returns-clause-asked
returns-clause-asked g c = λ f there.
    let past = g.S.History.past in
    let r = c.with-look.result.reply in
    let up = c.with-look.result.is_up in
    let asks = reserving c.args.session c.args.upto f in
    asked_turn past 0 asks r up _ _ (turn_of past _ (Asks past 0 asks r up) _ _ (λ x y h. h.asks f there) c.with-look.ensures.ran)

pub returns-clause-answers : goal.returns-clause-answers
returns-clause-answers g c = c.with-look.ensures.ran.ran.answers

pub returns-clause-seats : goal.returns-clause-seats
returns-clause-seats g c =
    subst (λ (v : Vec StockSeat Global). AreSeatsAt g.S.Serving.stocks v.items) (sym c.swap.ensures.x_after) c.with-look.ensures.ran.ran.seats

pub returns-clause-same : goal.returns-clause-same
returns-clause-same g c =
    subst (λ (v : Vec StockSeat Global × Vec StockSeat Global). AreSame v.0.items v.1.items)
    (λ i. (c.replace.ensures.value i, sym c.swap.ensures.x_after i)) c.with-look.ensures.ran.ran.same

pub returns-clause-heard : goal.returns-clause-heard
returns-clause-heard g c = λ f there.
    subst (λ (v : Vec StockSeat Global). HasHeard v.items c.args.place c.args.upto c.with-look.result.reply f) (sym c.swap.ensures.x_after)
    (c.with-look.ensures.ran.ran.heard f there)
