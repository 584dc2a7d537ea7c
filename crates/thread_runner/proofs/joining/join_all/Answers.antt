use Rattle.std.proofs.Common.{rules, ◌≡◌, ◌∷◌, ◌++◌, [], List, length, map, ap, sym, ◌∙◌, subst}
use Rattle.std.proofs.lemmas.List.{map-append}
use Rattle.std.specs.Global.{Vec}
use Rattle.std.specs.List.{AllByRecursion}
use Rattle.number_stock.specs.Seats.{hand}
use Rattle.number_stock.specs.declared.seat.StockSeat.{StockSeat}
use Rattle.turn_desks.specs.Stocks.{AreSeatsAt, StockFact, fact_of}
use Rattle.turn_desks.proofs.lemmas.Places.{all_front, all_last}
use Rattle.thread_runner.proofs.Begun.{mapped_long}
use Rattle.thread_runner.proofs.Joined.{AreJoined, joined_end, joined_next, none_joined}
use Rattle.thread_runner.proofs.joining.join_all.Goals as goal

pub loop-own-init : goal.loop-own-init
loop-own-init c = record { rights = c.requires.rights; seats = c.requires.seats; joined = none_joined c.args.rights.items (map (λ (v : Vec StockSeat). v.items) c.args.seats.items) }

pub join_own-requires : goal.join_own-requires
join_own-requires c =
    let P : Vec StockSeat → Type 0 = λ v. AreSeatsAt (map fact_of c.args.stocks.now) v.items in
    record {
      rights = c.loop-own.invariant.rights;
      own = all_last P c.pop.new.self.items c.in-Some.own (subst (AllByRecursion P) c.in-Some.ensures.items c.loop-own.invariant.seats);
    }

pub loop-own-preserved : goal.loop-own-preserved
loop-own-preserved c =
    let inv = c.loop-own.invariant in
    let facts : List StockFact = map fact_of c.args.stocks.now in
    let P : Vec StockSeat → Type 0 = λ v. AreSeatsAt facts v.items in
    let items : List (Vec StockSeat) → List (List StockSeat) = map (λ v. v.items) in
    let own : Vec StockSeat = c.in-Some.own in
    let rest : List (Vec StockSeat) = c.pop.new.self.items in
    let was : c.loop-own.seats.items ≡ rest ++ own ∷ [] = c.in-Some.ensures.items in
    let first : List StockSeat = c.args.rights.items in
    let before : List StockSeat = c.loop-own.rights.items in
    let later : List StockSeat = c.join_own.new.rights.items in
    let each = subst (AllByRecursion P) was inv.seats in
    let own_long : length own.items ≡ length facts = mapped_long _ _ own.items facts (all_last P rest own each) in
    let before_long : length before ≡ length facts = mapped_long _ _ before facts inv.rights in
    let later_long : length later ≡ length facts = mapped_long _ _ later facts c.join_own.ensures.rights in
    record {
      rights = c.join_own.ensures.rights;
      seats = all_front P rest (own ∷ []) each;
      joined = joined_next first before later (items rest) (items c.args.seats.items) own.items (own_long ∙ sym before_long) (later_long ∙ sym before_long)
          c.join_own.ensures.absorbed
          (subst (λ xs. AreJoined first before xs (items c.args.seats.items)) (ap items was ∙ map-append (λ (v : Vec StockSeat). v.items) rest (own ∷ []))
          inv.joined);
    }

pub returns : goal.returns
returns c =
    let items : List (Vec StockSeat) → List (List StockSeat) = map (λ v. v.items) in
    let none : c.loop-own.seats.items ≡ [] = search rules in
    record {
      once =
          joined_end c.args.rights.items c.loop-own.rights.items (items c.args.seats.items)
          (subst (λ xs. AreJoined c.args.rights.items c.loop-own.rights.items xs (items c.args.seats.items)) (ap items none) c.loop-own.invariant.joined);
    }
