use Rattle.std.proofs.Common.{◌≡◌, true, List, length, sym, ap, ◌∙◌, subst}
use Rattle.number_stock.specs.declared.seat.StockSeat.{StockSeat}
use Rattle.script_actors.specs.Drawings.{settles, settling_of}
use Rattle.script_actors.specs.declared.uncommitted.Settling.{Settling}
use Rattle.turn_desks.specs.Handing.{AreSameRights, FreeFor, handed_then}
use Rattle.turn_desks.specs.Stocks.{AreLotsBy, AreRightsAt, answered_of, limits_of}
use Rattle.turn_desks.proofs.HandingOver.{as_many_seats}
use Rattle.turn_desks.proofs.Rights.{lots_then, may_call}
use Rattle.turn_desks.proofs.lemmas.Seating.{taken}
use Rattle.turn_desks.proofs.stocked_hall.StockedHallServing.serve.Goals as goal

pub serve-look-requires : goal.serve-look-requires
serve-look-requires g c =
    let was = c.args.self.now in
    let facts = g.N.LockName.stocks in
    let seats = c.args.seats.now in
    let free = subst (λ (x : Settling × List StockSeat). FreeFor x.0 (limits_of x.1) (answered_of x.1) (answered_of seats))
    (λ i. (c.settling_of-settling.ensures i, c.deref_mut.ensures.value i)) c.tell_apart.ensures.free in
    record {
      may = may_call c.stocks_may_be_committed.ensures.may was.shown.served.hall.state facts was.rights.items seats c.args.command c.read_invariant.ensures
          was.own was.lots free c.requires.may;
    }

pub invariant_of-self : goal.invariant_of-self
invariant_of-self g c =
    let was = c.args.self.now in
    let facts = g.N.LockName.stocks in
    let stocks = was.stocks.now in
    let seats = c.args.seats.now in
    let items = was.rights.items in
    let mid = c.tell_apart.new.rights in
    let mid_seats = c.tell_apart.new.seats in
    let now = c.settle.new.rights in
    let s = was.shown.served.hall.state in
    let t = c.serve-look.new.self.served.hall.state in
    let command = c.args.command in
    let r = c.serve-look.result.reply in
    let value = c.deref_mut.ensures.value in
    let len : length items ≡ was.rights.len = sym (ap length value) ∙ c.deref_mut.ensures.len in
    let many : length items ≡ length stocks = as_many_seats stocks true items (subst (λ fs. AreRightsAt fs items) (sym was.are) was.own) in
    let mid_long : length mid ≡ was.rights.len = as_many_seats stocks true mid c.tell_apart.ensures.rights ∙ (sym many ∙ len) in
    let long : length now ≡ was.rights.len = as_many_seats stocks true now c.settle.ensures.rights ∙ (sym many ∙ len) in
    let mid_whole = taken was.rights.len mid items mid_long in
    let whole = taken was.rights.len now _ long in
    let free = subst (λ (x : Settling × List StockSeat). FreeFor x.0 (limits_of x.1) (answered_of x.1) (answered_of seats))
    (λ i. (c.settling_of-settling.ensures i, value i)) c.tell_apart.ensures.free in
    let same_rights = subst (λ (l : List StockSeat). AreSameRights l mid) value c.tell_apart.ensures.handed in
    let arg : c.deref_mut-2.result.now ≡ mid = c.deref_mut-2.ensures.value ∙ mid_whole in
    let settled : c.settles-settled.result ≡ settles (settling_of command) r =
    c.settles-settled.ensures ∙ ap (λ (x : Settling). settles x r) c.settling_of-settling.ensures in
    let limits : limits_of now ≡ limits_of mid = c.settle.ensures.limits ∙ ap limits_of arg in
    let handed : answered_of now ≡ handed_then (settles (settling_of command) r) (answered_of mid) (answered_of mid_seats) =
    c.settle.ensures.handed ∙ (λ i. handed_then (settled i) (answered_of (arg i)) (answered_of mid_seats)) in
    record {
      are = was.are;
      own = subst (AreRightsAt facts) (sym whole) (subst (λ fs. AreRightsAt fs now) was.are c.settle.ensures.rights);
      lots = subst (λ (l : List StockSeat). ∥ AreLotsBy t facts l ∥₁) (sym whole)
          (lots_then c.lots_stay.ensures.kept c.lots_stay.ensures.handed c.stocks_may_be_committed.ensures.share c.stocks_may_be_committed.ensures.answers
          s t c.args.line command r facts items seats mid mid_seats now c.read_invariant.ensures was.lots c.serve-look.ensures.step free c.requires.may
          same_rights c.tell_apart.ensures.same limits handed);
    }
