use Rattle.std.proofs.Common.{◌≡◌, ◌≤◌, ℕ, true, false, List, Option, Some, length, map, refl, sym, ap, ◌∙◌, subst, arith}
use Rattle.std.specs.Prelude.{slice_get}
use Rattle.std.proofs.lemmas.List.{length-map}
use Rattle.std.proofs.lemmas.Option.{slice_get_read}
use Rattle.number_stock.specs.declared.seat.StockSeat.{StockSeat}
use Rattle.script_actors.specs.Drawings.{desk_call, with_call}
use Rattle.turn_desks.specs.Handing.{IsRaisedBy, Reaches}
use Rattle.turn_desks.specs.Stocks.{AreLotsBy, AreRightsAt, AreSeatsAt, HasHeard, StockFact, fact_of, level_told, reserving}
use Rattle.turn_desks.proofs.HandingOver.{as_many_seats, seat_by}
use Rattle.turn_desks.proofs.Rights.{has_heard, level_reaches, lots_raised, reaches_lower, rights_still, seats_same, seats_still}
use Rattle.turn_desks.proofs.lemmas.Seating.{got_at, map_get, one_some, taken, within_got}
use Rattle.turn_desks.proofs.stocked_hall.StockedHallServing.reserve.Goals as goal

pub raise_at-requires : goal.raise_at-requires
raise_at-requires g c =
    let was = c.args.self.now in
    let facts = g.N.LockName.stocks in
    let stocks = was.stocks.now in
    let k = c.args.place in
    let own = c.index-stocks-place.result in
    let may = c.requires.may in
    let many_stocks = length-map stocks fact_of in
    let facts_many = ap length was.are in
    let less = within_got facts k may.fact may.there in
    let at : slice_get stocks k ≡ Some own =
    slice_get_read stocks (length stocks) k own refl (omega (arith, many_stocks, facts_many, less)) c.index-stocks-place.is in
    let there : slice_get facts k ≡ Some (fact_of own) = subst (λ fs. slice_get fs k ≡ Some (fact_of own)) was.are (map_get fact_of stocks k own at) in
    let behind : own.base ≤ c.args.upto = subst (λ (f : StockFact). f.base ≤ c.args.upto) (one_some may.fact (fact_of own) (sym may.there ∙ there))
    may.behind in
    let items = was.rights.items in
    let value = c.deref_mut.ensures.value in
    let rights_are = subst (λ fs. AreRightsAt fs items) (sym was.are) was.own in
    let seats_are = subst (λ fs. AreSeatsAt fs c.args.seats.now) (sym was.are) c.requires.seats in
    let rights_many = as_many_seats stocks true items rights_are in
    let seats_many = as_many_seats stocks false c.args.seats.now seats_are in
    let long = ap length value in
    let level = level_reaches c.levels_are_reserved.ensures.reserved was.shown.served.hall.state c.serve-look.new.self.served.hall.state c.args.session
    c.args.upto
    facts items k (fact_of own) c.serve-look.result.reply c.read_invariant.ensures was.own there c.serve-look.ensures.step was.lots in
    record {
      within = (omega (arith, many_stocks, facts_many, less, rights_many, long), omega (arith, many_stocks, facts_many, less, seats_many));
      right = λ s here. seat_by stocks true items k own at rights_are s (subst (λ (l : List StockSeat). slice_get l k ≡ Some s) value here);
      seat = seat_by stocks false c.args.seats.now k own at seats_are;
      reaches = subst (λ (o : Option ℕ). Reaches o own.base) (sym c.level_told-level.ensures)
          (reaches_lower (level_told c.serve-look.result.reply) own.base c.args.upto behind level);
    }

pub invariant_of-self : goal.invariant_of-self
invariant_of-self g c =
    let was = c.args.self.now in
    let facts = g.N.LockName.stocks in
    let stocks = was.stocks.now in
    let k = c.args.place in
    let own = c.index-stocks-place.result in
    let may = c.requires.may in
    let many_stocks = length-map stocks fact_of in
    let facts_many = ap length was.are in
    let less = within_got facts k may.fact may.there in
    let at : slice_get stocks k ≡ Some own =
    slice_get_read stocks (length stocks) k own refl (omega (arith, many_stocks, facts_many, less)) c.index-stocks-place.is in
    let there : slice_get facts k ≡ Some (fact_of own) = subst (λ fs. slice_get fs k ≡ Some (fact_of own)) was.are (map_get fact_of stocks k own at) in
    let behind : own.base ≤ c.args.upto = subst (λ (f : StockFact). f.base ≤ c.args.upto) (one_some may.fact (fact_of own) (sym may.there ∙ there))
    may.behind in
    let items = was.rights.items in
    let seats = c.args.seats.now in
    let value = c.deref_mut.ensures.value in
    let rights_are = subst (λ fs. AreRightsAt fs items) (sym was.are) was.own in
    let seats_are = subst (λ fs. AreSeatsAt fs seats) (sym was.are) c.requires.seats in
    let rights_many = as_many_seats stocks true items rights_are in
    let seats_many = as_many_seats stocks false seats seats_are in
    let right = got_at items k (omega (arith, many_stocks, facts_many, less, rights_many)) in
    let seat = got_at seats k (omega (arith, many_stocks, facts_many, less, seats_many)) in
    let r = c.serve-look.result.reply in
    let now = c.raise_at.new.rights in
    let seats_now = c.raise_at.new.seats in
    let done : IsRaisedBy own k (level_told r) items seats now seats_now right.0 seat.0 =
    subst (λ (x : Option ℕ × List StockSeat). IsRaisedBy own k x.0 x.1 seats now seats_now right.0 seat.0)
    (λ i. (c.level_told-level.ensures i, value i))
    (c.raise_at.ensures right.0 seat.0 (ap (λ (l : List StockSeat). slice_get l k) value ∙ right.1) seat.1) in
    let s = was.shown.served.hall.state in
    let t = c.serve-look.new.self.served.hall.state in
    let still = rights_still stocks own k at r items seats now seats_now right.0 seat.0 right.1 seat.1 done rights_are in
    let len : length items ≡ was.rights.len = sym (ap length value) ∙ c.deref_mut.ensures.len in
    let long : length now ≡ was.rights.len = as_many_seats stocks true now still ∙ (sym rights_many ∙ len) in
    let whole = taken was.rights.len now items long in
    record {
      are = was.are;
      own = subst (AreRightsAt facts) (sym whole) (subst (λ fs. AreRightsAt fs now) was.are still);
      lots = subst (λ (l : List StockSeat). ∥ AreLotsBy t facts l ∥₁) (sym whole)
          (lots_raised c.lots_stay.ensures.kept c.lots_stay.ensures.limit c.levels_are_reserved.ensures.reserved s t c.args.session c.args.upto facts items
          k own
          c.read_invariant.ensures was.own there behind r now seats seats_now right.0 seat.0 right.1 c.serve-look.ensures.step was.lots done);
    }

pub returns-clause-told : goal.returns-clause-told
returns-clause-told g c = λ f at_f.
    let was = c.args.self.now in
    let facts = g.N.LockName.stocks in
    let stocks = was.stocks.now in
    let k = c.args.place in
    let own = c.index-stocks-place.result in
    let may = c.requires.may in
    let many_stocks = length-map stocks fact_of in
    let facts_many = ap length was.are in
    let less = within_got facts k may.fact may.there in
    let at : slice_get stocks k ≡ Some own =
    slice_get_read stocks (length stocks) k own refl (omega (arith, many_stocks, facts_many, less)) c.index-stocks-place.is in
    let there : slice_get facts k ≡ Some (fact_of own) = subst (λ fs. slice_get fs k ≡ Some (fact_of own)) was.are (map_get fact_of stocks k own at) in
    let past = c.serve-look.new.self.served.hall.state.past in
    subst (λ (x : StockFact). map desk_call past
    ≡ with_call (map desk_call was.shown.served.hall.state.past) 0 (reserving c.args.session c.args.upto x) c.serve-look.result.reply)
    (one_some (fact_of own) f (sym there ∙ at_f)) c.serve-look.ensures.told

pub returns-clause-answers : goal.returns-clause-answers
returns-clause-answers g c = c.levels_are_reserved.ensures.answers _ _ _ _ _ _ _ _ c.serve-look.ensures.step

pub returns-clause-seats : goal.returns-clause-seats
returns-clause-seats g c =
    let was = c.args.self.now in
    let facts = g.N.LockName.stocks in
    let stocks = was.stocks.now in
    let k = c.args.place in
    let own = c.index-stocks-place.result in
    let may = c.requires.may in
    let many_stocks = length-map stocks fact_of in
    let facts_many = ap length was.are in
    let less = within_got facts k may.fact may.there in
    let at : slice_get stocks k ≡ Some own =
    slice_get_read stocks (length stocks) k own refl (omega (arith, many_stocks, facts_many, less)) c.index-stocks-place.is in
    let there : slice_get facts k ≡ Some (fact_of own) = subst (λ fs. slice_get fs k ≡ Some (fact_of own)) was.are (map_get fact_of stocks k own at) in
    let behind : own.base ≤ c.args.upto = subst (λ (f : StockFact). f.base ≤ c.args.upto) (one_some may.fact (fact_of own) (sym may.there ∙ there))
    may.behind in
    let items = was.rights.items in
    let seats = c.args.seats.now in
    let value = c.deref_mut.ensures.value in
    let rights_are = subst (λ fs. AreRightsAt fs items) (sym was.are) was.own in
    let seats_are = subst (λ fs. AreSeatsAt fs seats) (sym was.are) c.requires.seats in
    let rights_many = as_many_seats stocks true items rights_are in
    let seats_many = as_many_seats stocks false seats seats_are in
    let right = got_at items k (omega (arith, many_stocks, facts_many, less, rights_many)) in
    let seat = got_at seats k (omega (arith, many_stocks, facts_many, less, seats_many)) in
    let r = c.serve-look.result.reply in
    let now = c.raise_at.new.rights in
    let seats_now = c.raise_at.new.seats in
    let done : IsRaisedBy own k (level_told r) items seats now seats_now right.0 seat.0 =
    subst (λ (x : Option ℕ × List StockSeat). IsRaisedBy own k x.0 x.1 seats now seats_now right.0 seat.0)
    (λ i. (c.level_told-level.ensures i, value i))
    (c.raise_at.ensures right.0 seat.0 (ap (λ (l : List StockSeat). slice_get l k) value ∙ right.1) seat.1) in
    subst (λ fs. AreSeatsAt fs seats_now) was.are (seats_still stocks own k at r items seats now seats_now right.0 seat.0 right.1 seat.1 done seats_are)

pub returns-clause-same : goal.returns-clause-same
returns-clause-same g c =
    let was = c.args.self.now in
    let facts = g.N.LockName.stocks in
    let stocks = was.stocks.now in
    let k = c.args.place in
    let own = c.index-stocks-place.result in
    let may = c.requires.may in
    let many_stocks = length-map stocks fact_of in
    let facts_many = ap length was.are in
    let less = within_got facts k may.fact may.there in
    let at : slice_get stocks k ≡ Some own =
    slice_get_read stocks (length stocks) k own refl (omega (arith, many_stocks, facts_many, less)) c.index-stocks-place.is in
    let there : slice_get facts k ≡ Some (fact_of own) = subst (λ fs. slice_get fs k ≡ Some (fact_of own)) was.are (map_get fact_of stocks k own at) in
    let behind : own.base ≤ c.args.upto = subst (λ (f : StockFact). f.base ≤ c.args.upto) (one_some may.fact (fact_of own) (sym may.there ∙ there))
    may.behind in
    let items = was.rights.items in
    let seats = c.args.seats.now in
    let value = c.deref_mut.ensures.value in
    let rights_are = subst (λ fs. AreRightsAt fs items) (sym was.are) was.own in
    let seats_are = subst (λ fs. AreSeatsAt fs seats) (sym was.are) c.requires.seats in
    let rights_many = as_many_seats stocks true items rights_are in
    let seats_many = as_many_seats stocks false seats seats_are in
    let right = got_at items k (omega (arith, many_stocks, facts_many, less, rights_many)) in
    let seat = got_at seats k (omega (arith, many_stocks, facts_many, less, seats_many)) in
    let r = c.serve-look.result.reply in
    let now = c.raise_at.new.rights in
    let seats_now = c.raise_at.new.seats in
    let done : IsRaisedBy own k (level_told r) items seats now seats_now right.0 seat.0 =
    subst (λ (x : Option ℕ × List StockSeat). IsRaisedBy own k x.0 x.1 seats now seats_now right.0 seat.0)
    (λ i. (c.level_told-level.ensures i, value i))
    (c.raise_at.ensures right.0 seat.0 (ap (λ (l : List StockSeat). slice_get l k) value ∙ right.1) seat.1) in
    seats_same stocks own k at r items seats now seats_now right.0 seat.0 right.1 seat.1 done

pub returns-clause-heard : goal.returns-clause-heard
returns-clause-heard g c = λ f at_f.
    let was = c.args.self.now in
    let facts = g.N.LockName.stocks in
    let stocks = was.stocks.now in
    let k = c.args.place in
    let own = c.index-stocks-place.result in
    let may = c.requires.may in
    let many_stocks = length-map stocks fact_of in
    let facts_many = ap length was.are in
    let less = within_got facts k may.fact may.there in
    let at : slice_get stocks k ≡ Some own =
    slice_get_read stocks (length stocks) k own refl (omega (arith, many_stocks, facts_many, less)) c.index-stocks-place.is in
    let there : slice_get facts k ≡ Some (fact_of own) = subst (λ fs. slice_get fs k ≡ Some (fact_of own)) was.are (map_get fact_of stocks k own at) in
    let behind : own.base ≤ c.args.upto = subst (λ (f : StockFact). f.base ≤ c.args.upto) (one_some may.fact (fact_of own) (sym may.there ∙ there))
    may.behind in
    let items = was.rights.items in
    let seats = c.args.seats.now in
    let value = c.deref_mut.ensures.value in
    let rights_are = subst (λ fs. AreRightsAt fs items) (sym was.are) was.own in
    let seats_are = subst (λ fs. AreSeatsAt fs seats) (sym was.are) c.requires.seats in
    let rights_many = as_many_seats stocks true items rights_are in
    let seats_many = as_many_seats stocks false seats seats_are in
    let right = got_at items k (omega (arith, many_stocks, facts_many, less, rights_many)) in
    let seat = got_at seats k (omega (arith, many_stocks, facts_many, less, seats_many)) in
    let r = c.serve-look.result.reply in
    let now = c.raise_at.new.rights in
    let seats_now = c.raise_at.new.seats in
    let done : IsRaisedBy own k (level_told r) items seats now seats_now right.0 seat.0 =
    subst (λ (x : Option ℕ × List StockSeat). IsRaisedBy own k x.0 x.1 seats now seats_now right.0 seat.0)
    (λ i. (c.level_told-level.ensures i, value i))
    (c.raise_at.ensures right.0 seat.0 (ap (λ (l : List StockSeat). slice_get l k) value ∙ right.1) seat.1) in
    let level = level_reaches c.levels_are_reserved.ensures.reserved was.shown.served.hall.state c.serve-look.new.self.served.hall.state c.args.session
    c.args.upto
    facts items k (fact_of own) r c.read_invariant.ensures was.own there c.serve-look.ensures.step was.lots in
    subst (HasHeard seats_now k c.args.upto r) (one_some (fact_of own) f (sym there ∙ at_f))
    (has_heard own k c.args.upto r items seats now seats_now right.0 seat.0 behind done seat.1 level)
