use Rattle.std.proofs.Common.{rules, ◌≡◌, ℕ, suc, ◌+◌, ◌<◌, Bool, true, false, List, [], ◌∷◌, ◌++◌, length, length-append, map, set, arith, ap, refl, sym, ◌∙◌, subst}
use Rattle.std.specs.Prelude.{◌||◌, Some, slice_get}
use Rattle.number_stock.specs.Rule.{both_of}
use Rattle.number_stock.specs.Seats.{hand}
use Rattle.number_stock.specs.declared.seat.StockSeat.{StockSeat}
use Rattle.turn_desks.specs.Stocks.{StockFact, fact_of}
use Rattle.turn_desks.specs.declared.stocks.IntervalStock.{IntervalStock}
use Rattle.turn_desks.proofs.lemmas.Seating.{map_set_same, one_some, within_got}
use Rattle.thread_runner.specs.Stocking.{IsAbsorbed}
use Rattle.thread_runner.proofs.Begun.{mapped_long}
use Rattle.thread_runner.proofs.Counted.{facts_at, facts_long}
use Rattle.thread_runner.proofs.Joined.{AreTaken, all_taken, at_stock, got_so, last_there, seen_seat, taken_next}
use Rattle.thread_runner.proofs.joining.join_own.Goals as goal

pub absorb-requires : goal.absorb-requires
absorb-requires c =
    let stocks : List IntervalStock = c.args.stocks.now in
    let facts : List StockFact = map fact_of stocks in
    let own : List StockSeat = c.args.own.items in
    let rights : List StockSeat = c.loop-seat.rights.items in
    let rest : List StockSeat = c.pop.new.self.items in
    let place = c.len-place.result in
    let seat : StockSeat = c.in-Some.seat in
    let right : StockSeat = c.index_mut.result.now in
    let stock : IntervalStock = c.index-stocks-place.result in
    let held = c.pop.new.self.ok.0 in
    let said = c.len-place.ensures in
    let e : place ≡ length rest = omega (arith, said, held) in
    let was : c.loop-seat.own.items ≡ rest ++ seat ∷ [] = c.in-Some.ensures.items in
    let last = last_there (length c.loop-seat.own.items) own rest seat (sym was ∙ c.loop-seat.invariant.own) in
    let there : slice_get own place ≡ Some seat = subst (λ n. slice_get own n ≡ Some seat) (sym e) last.0 in
    let tall : length rights ≡ length facts = mapped_long _ _ rights facts c.loop-seat.invariant.rights in
    let long = facts_long stocks in
    let less = within_got own (length rest) seat last.0 in
    let wide = mapped_long _ _ own facts c.requires.own in
    let within : place < length stocks = omega (arith, less, wide, long, e) in
    let fact : slice_get facts place ≡ Some (fact_of stock) =
    got_so facts place (fact_of stock) (omega (arith, within, long)) (sym (facts_at stocks place stock within c.index-stocks-place.is)) in
    let got : slice_get rights place ≡ Some right = got_so rights place right (omega (arith, within, long, tall)) c.index_mut.ensures.value in
    let same = ap (λ (s : IntervalStock). s.stock.table.shared.table_id) c.index-stocks-place.is in
    record {
      own = (
        (at_stock true facts rights place right (fact_of stock) c.loop-seat.invariant.rights got fact).0 ∙ same,
        (at_stock false facts own place seat (fact_of stock) c.requires.own there fact).0 ∙ same,
      );
    }

pub returns-clause-absorbed : goal.returns-clause-absorbed
returns-clause-absorbed c =
    let none : c.loop-seat.own.items ≡ [] = search rules in
    all_taken c.args.rights.now.items c.args.own.items c.loop-seat.rights.items
    (subst (λ (xs : List StockSeat). AreTaken (length xs) c.args.rights.now.items c.args.own.items c.loop-seat.rights.items) none
    c.loop-seat.invariant.taken)

pub loop-seat-preserved : goal.loop-seat-preserved
loop-seat-preserved c =
    let stocks : List IntervalStock = c.args.stocks.now in
    let facts : List StockFact = map fact_of stocks in
    let first : List StockSeat = c.args.rights.now.items in
    let own : List StockSeat = c.args.own.items in
    let rights : List StockSeat = c.loop-seat.rights.items in
    let inv = c.loop-seat.invariant in
    let rest : List StockSeat = c.pop.new.self.items in
    let place = c.len-place.result in
    let seat : StockSeat = c.in-Some.seat in
    let right : StockSeat = c.index_mut.result.now in
    let now : StockSeat = c.absorb.new.seat in
    let stock : IntervalStock = c.index-stocks-place.result in
    let absorb = c.absorb.ensures in
    let held = c.pop.new.self.ok.0 in
    let said = c.len-place.ensures in
    let e : place ≡ length rest = omega (arith, said, held) in
    let was : c.loop-seat.own.items ≡ rest ++ seat ∷ [] = c.in-Some.ensures.items in
    let last = last_there (length c.loop-seat.own.items) own rest seat (sym was ∙ inv.own) in
    let tall : length rights ≡ length facts = mapped_long _ _ rights facts inv.rights in
    let long = facts_long stocks in
    let more : length c.loop-seat.own.items ≡ suc (length rest) =
    (let a = ap length was in let b = length-append rest (seat ∷ []) in omega (arith, a, b)) in
    let low = within_got own (length rest) seat last.0 in
    let wide = mapped_long _ _ own facts c.requires.own in
    let within : place < length stocks = omega (arith, low, wide, long, e) in
    let fact : slice_get facts place ≡ Some (fact_of stock) =
    got_so facts place (fact_of stock) (omega (arith, within, long)) (sym (facts_at stocks place stock within c.index-stocks-place.is)) in
    let got : slice_get rights place ≡ Some right = got_so rights place right (omega (arith, within, long, tall)) c.index_mut.ensures.value in
    let same = ap (λ (s : IntervalStock). s.stock.table.shared.table_id) c.index-stocks-place.is in
    let at = at_stock true facts rights place right (fact_of stock) inv.rights got fact in
    let table : now.seat.table_id ≡ right.seat.table_id = absorb.own ∙ sym (at.0 ∙ same) in
    let raises : (hand now).raises ≡ true = ap (λ h. h.raises) absorb.both ∙ (λ i. at.1 i || (hand seat).raises) in
    let got_rest : slice_get rights (length rest) ≡ Some right = subst (λ n. slice_get rights n ≡ Some right) e got in
    let less : length rest < length rights = (omega (arith, within, long, tall, e)) in
    let taken : AreTaken (suc (length rest)) first own rights = subst (λ n. AreTaken n first own rights) more inv.taken in
    record {
      rights = map_set_same seen_seat rights place right now got (λ i. (table i, (raises ∙ sym at.1) i)) ∙ inv.rights;
      own = last.1;
      taken = subst (λ n. AreTaken (length rest) first own (set rights n now)) (sym e)
          (taken_next (length rest) first own rights now taken less (λ r x here there.
          let is : r ≡ right = one_some r right (sym here ∙ sym (taken.still (length rest) (omega arith)) ∙ got_rest) in
          let its : seat ≡ x = one_some seat x (sym last.0 ∙ there) in
          subst (λ y. IsAbsorbed r y now) its (subst (λ z. IsAbsorbed z seat now) (sym is) (record {
            table = table;
            raises = raises;
            limit = absorb.limit.0 at.1;
            drawn = ap (λ h. h.drawn) absorb.both;
            once = absorb.drawn;
          }))));
    }
