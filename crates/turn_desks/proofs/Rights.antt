-- Rights and seats behind a call of the hall that they belong to.
use Rattle.std.proofs.Common.{◌≡◌, ℕ, ◌+◌, ◌-◌, ◌≤◌, max, Bool, true, false, true≢false, List, [], map, set, refl, sym, ap, ◌∙◌, subst, arith}
use Rattle.std.specs.Prelude.{if◌then◌else◌, Option, Some, None, slice_get}
use Rattle.std.proofs.Math.Logic.{∥∥₁_elim, ∥∥₁_map}
use Rattle.std.specs.Coded.{le_prop, Unit-prop}
use Rattle.hall_model.specs.Calls.{call_of}
use Rattle.hall_model.specs.History.{IsStep}
use Rattle.hall_model.specs.Kept.{IsKept}
use Rattle.hall_model.specs.State.{State}
use Rattle.hall_model.specs.Stocks.{MayCall}
use Rattle.hall_model.specs.declared.command.Command.{Command}
use Rattle.hall_model.specs.declared.command.Reply.{Reply}
use Rattle.hall_model.specs.declared.command.Reply.TheVariants as reply
use Rattle.number_stock.specs.Seats.{hand}
use Rattle.number_stock.specs.declared.hand.Hand.{Hand}
use Rattle.number_stock.specs.declared.seat.StockSeat.{StockSeat}
use Rattle.script_actors.specs.Drawings.{settles, settling_of}
use Rattle.turn_desks.specs.Handing.{AreSameRights, FreeFor, IsRaisedBy, Reaches, handed_then, heard_by, raised_by}
use Rattle.turn_desks.specs.Stocks.{AreLeft, AreLots, AreLotsBy, AreRightsAt, AreSame, AreSeatsAt, HasHeard, MayServe, StockFact, answered_of, fact_of, level_told, limits_of, reserving}
use Rattle.turn_desks.specs.declared.stocks.IntervalStock.{IntervalStock}
use Rattle.turn_desks.proofs.Desks.{many_answered, many_limits}
use Rattle.turn_desks.proofs.HandingOver.{seat_by, still_by}
use Rattle.turn_desks.proofs.Lots.{AnswersLaw, HandedLaw, KeptLaw, LimitLaw, MayLaw, ReservedLaw, ShareLaw, among_at, free_for, may_of, may_prop, may_serve, quiet_any, raised_lots, served_lots}
use Rattle.turn_desks.proofs.lemmas.Seating.{get_set, map_get, map_set, map_set_same, one_some, set_seen}

-- ---- a call

pub may_call : MayLaw → (s : State) (facts : List StockFact) (rights seats : List StockSeat) (c : Command) → IsKept s → AreRightsAt facts rights
    → ∥ AreLotsBy s facts rights ∥₁ → FreeFor (settling_of c) (limits_of rights) (answered_of rights) (answered_of seats) → MayServe facts seats c
    → MayCall s (call_of c)
may_call law s facts rights seats c kept at lots free may =
    ∥∥₁_elim lots (may_prop s (call_of c))
    (λ h. may_serve law s facts (limits_of rights) (answered_of rights) (answered_of seats) c kept (many_limits true facts rights at)
    (many_answered true facts rights at) h (free_for (limits_of rights) (answered_of rights) (answered_of seats) c free) (may_of facts seats c may))

pub lots_then : KeptLaw → HandedLaw → ShareLaw → AnswersLaw → (s t : State) (line : ℕ) (c : Command) (r : Reply) (facts : List StockFact)
    (rights seats rights_then seats_then rights_now : List StockSeat) → IsKept s → ∥ AreLotsBy s facts rights ∥₁ → IsStep s t line c r
    → FreeFor (settling_of c) (limits_of rights) (answered_of rights) (answered_of seats) → MayServe facts seats c → AreSameRights rights rights_then
    → AreSame seats seats_then → limits_of rights_now ≡ limits_of rights_then
    → answered_of rights_now ≡ handed_then (settles (settling_of c) r) (answered_of rights_then) (answered_of seats_then)
    → ∥ AreLotsBy t facts rights_now ∥₁
lots_then law hand share answers s t line c r facts rights seats rights_then seats_then rights_now kept lots step free may same_rights same limits handed =
    let settled = settles (settling_of c) r in
    ∥∥₁_map lots (λ h. subst (λ (x : List ℕ × List (List ℕ)). AreLots t facts x.0 x.1)
    (λ i. (sym (limits ∙ same_rights.limits) i, sym (handed ∙ (λ j. handed_then settled (same_rights.handed j) (same.answered j))) i))
    (served_lots law hand share answers s t line r kept facts (limits_of rights) (answered_of rights) (answered_of seats) h c step
    (free_for (limits_of rights) (answered_of rights) (answered_of seats) c free) (may_of facts seats c may)))

pub left_then : (settled : Bool) (old mid now : List StockSeat) → AreSame old mid → AreLeft settled mid now → AreLeft settled old now
left_then settled old mid now same left = record {
  draws = left.draws ∙ same.draws;
  drawn = left.drawn ∙ same.drawn;
  answered = left.answered ∙ ap (map (λ (ts : List ℕ). if settled then [] else ts)) same.answered;
}

-- ---- a reservation

level_not_below : ReservedLaw → (s t : State) (session : List ℕ) (upto : ℕ) (facts : List StockFact) (rights : List StockSeat) (place : ℕ) (f : StockFact)
    (r : Reply) → IsKept s → AreRightsAt facts rights → slice_get facts place ≡ Some f → IsStep s t 0 (reserving session upto f) r → AreLotsBy s facts rights
    → Reaches (level_told r) upto
level_not_below law s t session upto facts rights place f (reply.Level level) kept at there step lots =
    let among = among_at s facts (limits_of rights) (answered_of rights) place f (many_limits true facts rights at) (many_answered true facts rights at)
    lots there in
    (law s t 0 session f.interval upto level kept among step).reached
level_not_below law s t session upto facts rights place f _ kept at there step lots = tt

reaches_prop : (o : Option ℕ) (n : ℕ) → IsProp (Reaches o n)
reaches_prop None n = Unit-prop
reaches_prop (Some level) n = le_prop

pub level_reaches : ReservedLaw → (s t : State) (session : List ℕ) (upto : ℕ) (facts : List StockFact) (rights : List StockSeat) (place : ℕ) (f : StockFact)
    (r : Reply) → IsKept s → AreRightsAt facts rights → slice_get facts place ≡ Some f → IsStep s t 0 (reserving session upto f) r
    → ∥ AreLotsBy s facts rights ∥₁ → Reaches (level_told r) upto
level_reaches law s t session upto facts rights place f r kept at there step lots =
    ∥∥₁_elim lots (reaches_prop (level_told r) upto) (λ h. level_not_below law s t session upto facts rights place f r kept at there step h)

pub reaches_lower : (o : Option ℕ) (low high : ℕ) → low ≤ high → Reaches o high → Reaches o low
reaches_lower None low high le h = tt
reaches_lower (Some level) low high le h = omega (arith, le, h)

module _ (kept_law : KeptLaw) (limit_law : LimitLaw) (law : ReservedLaw) (s t : State) (session : List ℕ) (upto : ℕ) (facts : List StockFact)
    (rights : List StockSeat) (place : ℕ) (own : IntervalStock) (kept : IsKept s) (at : AreRightsAt facts rights)
    (there : slice_get facts place ≡ Some (fact_of own)) (behind : own.base ≤ upto) where
  abbrev f : StockFact
  f = fact_of own

  raised_then : (r : Reply) (rights_now : List StockSeat) (right right_now : StockSeat) → slice_get rights place ≡ Some right
      → IsStep s t 0 (reserving session upto f) r → AreLotsBy s facts rights → rights_now ≡ set rights place right_now
      → hand right_now ≡ raised_by (level_told r) own.base (hand right) → AreLotsBy t facts rights_now
  raised_then (reply.Level level) rights_now right right_now at_right step lots are is =
      let limit : StockSeat → ℕ = λ x. (hand x).limit in
      let tickets : StockSeat → List ℕ = λ x. (hand x).answered in
      let quiet : AreLots t facts (limits_of rights) (answered_of rights) =
      quiet_any kept_law s t 0 (reserving session upto f) (reply.Level level) kept facts (limits_of rights) (answered_of rights) [] step tt tt lots in
      let among = among_at s facts (limits_of rights) (answered_of rights) place f (many_limits true facts rights at) (many_answered true facts rights at)
      lots there in
      let reached = law s t 0 session f.interval upto level kept among step in
      let low : own.base ≤ level = let high = reached.reached in omega (arith, high, behind) in
      let whole = raised_lots limit_law t facts (limits_of rights) (answered_of rights) place f (limit right) level there
      (map_get limit rights place right at_right)
      reached.stands low quiet in
      let limits : limits_of rights_now ≡ set (limits_of rights) place (max (limit right) (level + 1 - own.base)) =
      ap limits_of are ∙ (map_set limit rights place right_now ∙ ap (set (limits_of rights) place) (ap (λ (h : Hand). h.limit) is)) in
      let handed : answered_of rights_now ≡ answered_of rights =
      ap answered_of are ∙ map_set_same tickets rights place right right_now at_right (ap (λ (h : Hand). h.answered) is) in
      subst (λ (x : List ℕ × List (List ℕ)). AreLots t facts x.0 x.1) (λ i. (sym limits i, sym handed i)) whole
  raised_then _ rights_now right right_now at_right step lots are is =
      let limit : StockSeat → ℕ = λ x. (hand x).limit in
      let tickets : StockSeat → List ℕ = λ x. (hand x).answered in
      let quiet = quiet_any kept_law s t 0 (reserving session upto f) _ kept facts (limits_of rights) (answered_of rights) [] step tt tt lots in
      let limits : limits_of rights_now ≡ limits_of rights =
      ap limits_of are ∙ map_set_same limit rights place right right_now at_right (ap (λ (h : Hand). h.limit) is) in
      let handed : answered_of rights_now ≡ answered_of rights =
      ap answered_of are ∙ map_set_same tickets rights place right right_now at_right (ap (λ (h : Hand). h.answered) is) in
      subst (λ (x : List ℕ × List (List ℕ)). AreLots t facts x.0 x.1) (λ i. (sym limits i, sym handed i)) quiet

  pub lots_raised : (r : Reply) (rights_now seats seats_now : List StockSeat) (right seat : StockSeat) → slice_get rights place ≡ Some right
      → IsStep s t 0 (reserving session upto f) r → ∥ AreLotsBy s facts rights ∥₁
      → IsRaisedBy own place (level_told r) rights seats rights_now seats_now right seat
      → ∥ AreLotsBy t facts rights_now ∥₁
  lots_raised r rights_now seats seats_now right seat at_right step lots done =
      ∥∥₁_map lots (λ h. raised_then r rights_now right done.right_now at_right step h done.rights_are done.right_is)

-- ---- what a raise leaves

raises_kept : (o : Option ℕ) (base : ℕ) (h : Hand) → (raised_by o base h).raises ≡ h.raises
raises_kept None base h = refl
raises_kept (Some level) base h = refl

-- a seat that was told has all that it had
record IsToldBy (h now : Hand) : Type 0 where
  draws : now.draws ≡ h.draws
  tickets : now.tickets ≡ h.tickets
  answered : now.answered ≡ h.answered
  drawn : now.drawn ≡ h.drawn
  raises : now.raises ≡ h.raises

told_by : (o : Option ℕ) (limit : ℕ) (h : Hand) → IsToldBy h (heard_by o limit h)
told_by (Some level) limit h = record { draws = refl; tickets = refl; answered = refl; drawn = refl; raises = refl }
told_by None limit h = record { draws = refl; tickets = refl; answered = refl; drawn = refl; raises = refl }

module _ (stocks : List IntervalStock) (own : IntervalStock) (place : ℕ) (there : slice_get stocks place ≡ Some own) (r : Reply)
    (rights seats rights_now seats_now : List StockSeat) (right seat : StockSeat) (at_right : slice_get rights place ≡ Some right)
    (at_seat : slice_get seats place ≡ Some seat) (done : IsRaisedBy own place (level_told r) rights seats rights_now seats_now right seat) where
  pub rights_still : AreRightsAt (map fact_of stocks) rights → AreRightsAt (map fact_of stocks) rights_now
  rights_still are =
      subst (AreRightsAt (map fact_of stocks)) (sym done.rights_are)
      (still_by stocks true rights place own right done.right_now there at_right are done.own_are.0
      (ap (λ (h : Hand). h.raises) done.right_is ∙ (raises_kept (level_told r) own.base (hand right)
      ∙ (seat_by stocks true rights place own there are right at_right).1)))

  told : IsToldBy (hand seat) (hand done.seat_now)
  told = subst (IsToldBy (hand seat)) (sym done.seat_is) (told_by (level_told r) (hand done.right_now).limit (hand seat))

  pub seats_still : AreSeatsAt (map fact_of stocks) seats → AreSeatsAt (map fact_of stocks) seats_now
  seats_still are =
      subst (AreSeatsAt (map fact_of stocks)) (sym done.seats_are)
      (still_by stocks false seats place own seat done.seat_now there at_seat are done.own_are.1
      (told.raises ∙ (seat_by stocks false seats place own there are seat at_seat).1))

  pub seats_same : AreSame seats seats_now
  seats_same =
      let kept : (p : StockSeat → List ℕ) → p done.seat_now ≡ p seat → map p seats_now ≡ map p seats =
      λ p e. set_seen p seats seats_now place seat done.seat_now done.seats_are at_seat e in
      record {
        draws = set_seen (λ (x : StockSeat). (hand x).draws) seats seats_now place seat done.seat_now done.seats_are at_seat told.draws;
        tickets = kept (λ x. (hand x).tickets) told.tickets;
        answered = kept (λ x. (hand x).answered) told.answered;
        drawn = kept (λ x. (hand x).drawn) told.drawn;
      }

-- the seat then knows a limit above the ticket of the number
pub has_heard : (own : IntervalStock) (place upto : ℕ) (r : Reply) (rights seats rights_now seats_now : List StockSeat) (right seat : StockSeat)
    → own.base ≤ upto → IsRaisedBy own place (level_told r) rights seats rights_now seats_now right seat → slice_get seats place ≡ Some seat
    → Reaches (level_told r) upto
    → HasHeard seats_now place upto r (fact_of own)
has_heard own place upto (reply.Level level) rights seats rights_now seats_now right seat behind done at_seat reached on s at =
    let now : s ≡ done.seat_now = one_some s done.seat_now
    (sym at ∙ (ap (λ l. slice_get l place) done.seats_are ∙ get_set seats place seat done.seat_now at_seat)) in
    let limit : (hand s).limit ≡ max (hand seat).limit (hand done.right_now).limit = ap (λ (x : StockSeat). (hand x).limit) now
    ∙ ap (λ (h : Hand). h.limit) done.seat_is in
    let raised_to : (hand done.right_now).limit ≡ max (hand right).limit (level + 1 - own.base) = ap (λ (h : Hand). h.limit) done.right_is in
    omega (arith, limit, raised_to, reached, behind)
has_heard own place upto _ rights seats rights_now seats_now right seat behind done at_seat reached on s at = absurd (true≢false (sym on))
