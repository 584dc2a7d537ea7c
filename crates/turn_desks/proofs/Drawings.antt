-- A number is drawn, at once or behind a reservation.
use Rattle.std.proofs.Common.{◌≡◌, ℕ, zero, suc, ◌+◌, ◌-◌, ◌<◌, ◌≤◌, Bool, true, false, List, [], ◌∷◌, ◌++◌, append-nil, drop, length, map, set, take, refl, sym, ap, ◌∙◌, subst, arith}
use Rattle.std.specs.Prelude.{if◌then◌else◌, ltb, IfErr, Some, None, Result, Ok, Err, slice_get}
use Rattle.std.proofs.lemmas.Bool.Decides.{nat_tests}
use Rattle.std.proofs.lemmas.List.{length-set}
use Rattle.atomic_table.specs.Seated.{TableId}
use Rattle.enq_base.specs.declared.refusal.Refusal.{Refusal}
use Rattle.hall_model.specs.History.{is_unrecorded}
use Rattle.hall_model.specs.declared.command.PastEntry.{PastEntry}
use Rattle.hall_model.specs.declared.command.Reply.{Reply}
use Rattle.hall_model.specs.declared.command.Reply.TheVariants as reply
use Rattle.number_ranges.specs.Intervals.{code_of}
use Rattle.number_stock.specs.Rule.{IsUnanswered, drew, saw}
use Rattle.number_stock.specs.Seats.{IsLook, IsSeatOf, base_of, hand, number_of, ticket_of}
use Rattle.number_stock.specs.declared.answer.Drawn.{Drawn}
use Rattle.number_stock.specs.declared.answer.Dry.{Dry}
use Rattle.number_stock.specs.declared.hand.Hand.{Hand}
use Rattle.number_stock.specs.declared.seat.StockSeat.{StockSeat}
use Rattle.seat_sums.specs.Sums.{times}
use Rattle.script_actors.specs.Actors.{Given, drawing}
use Rattle.script_actors.specs.Drawings.{DeskCall, IsDrawing, Ready, Refused, Reserved, Unkept, desk_call, with_call}
use Rattle.turn_lock.specs.declared.view.View.{View}
use Rattle.turn_lock.specs.Rule.{own_entries}
use Rattle.turn_desks.specs.Draws.{HasAnswered, HasDrawn, HasReserved, HasTried, add_at, call_made, one_number, used_at}
use Rattle.turn_desks.specs.Stocks.{AreSame, AreSeatsAt, StockFact, answered_of, drawn_of, draws_of, fact_of, reserving}
use Rattle.turn_desks.specs.declared.stocks.IntervalStock.{IntervalStock}
use Rattle.turn_desks.proofs.lemmas.Seating.{at_both, get_set, map_get, map_set, map_set_same, none_is_not, one_some, taken}

is_below : (t limit : ℕ) → t < limit → ltb t limit ≡ true
is_below t limit h = grind (arith, nat_tests)

is_not_below : (t limit : ℕ) → limit ≤ t → ltb t limit ≡ false
is_not_below t limit h = grind (arith, nat_tests)

used_set : (ns : List ℕ) (k n : ℕ) → slice_get ns k ≡ Some n → set ns k (n - 1) ≡ used_at k ns
used_set [] k n at = absurd (none_is_not n at)
used_set (m ∷ ns) zero n at = ap (λ x. (x - 1) ∷ ns) (sym (one_some m n at))
used_set (m ∷ ns) (suc k) n at = ap (λ l. m ∷ l) (used_set ns k n at)

add_set : (tss : List (List ℕ)) (k : ℕ) (ts more : List ℕ) → slice_get tss k ≡ Some ts → set tss k (ts ++ more) ≡ add_at k more tss
add_set [] k ts more at = absurd (none_is_not ts at)
add_set (us ∷ tss) zero ts more at = ap (λ x. (x ++ more) ∷ tss) (sym (one_some us ts at))
add_set (us ∷ tss) (suc k) ts more at = ap (λ l. us ∷ l) (add_set tss k ts more at)

add_nothing : (k : ℕ) (tss : List (List ℕ)) → tss ≡ add_at k [] tss
add_nothing k [] = refl
add_nothing zero (ts ∷ tss) = ap (λ l. l ∷ tss) (sym (append-nil ts))
add_nothing (suc k) (ts ∷ tss) = ap (λ l. ts ∷ l) (add_nothing k tss)

-- ---- what a call of the stock says, by the base that stands beside it

pub look_from : (own : IntervalStock) (ticket : ℕ) (before after : Hand) (r : Result Drawn Dry) → IsLook (base_of own.stock) ticket before after r
    → IsLook own.base ticket before after r
look_from own ticket before after r look = subst (λ n. IsLook n ticket before after r) (sym own.based) look

pub fits_from : (own : IntervalStock) (r : Result Drawn Dry) → IfErr r (λ e. base_of own.stock + ticket_of e < 18446744073709551616)
    → IfErr r (λ e. own.base + ticket_of e < 18446744073709551616)
fits_from own r fits = subst (λ n. IfErr r (λ e. n + ticket_of e < 18446744073709551616)) (sym own.based) fits

-- the reply to a ticket that was answered
pub answered_at : (own : IntervalStock) (ticket n : ℕ) (r : Reply) → n ≡ base_of own.stock + ticket → r ≡ reply.Number n (code_of own.interval n)
    → r ≡ reply.Number (own.base + ticket) (code_of own.interval (own.base + ticket))
answered_at own ticket n r number is =
    is ∙ ap (λ m. reply.Number m (code_of own.interval m)) (number ∙ ap (λ m. m + ticket) (sym own.based))

-- a ticket below the limit that the seat knew isn't dry
pub never_dry : (base ticket : ℕ) (before after : Hand) (e : Dry) → IsLook base ticket before after (Err e) → ticket < before.limit → ⊥
never_dry base ticket before after e look below = let risen = look.risen in let past = look.replies.1 in omega (arith, risen, past, below)

-- ---- the seat at a place

abbrev seen_at : StockSeat → TableId × Bool
seen_at s = (s.seat.table_id, (hand s).raises)

abbrev fact_at : StockFact → TableId × Bool
fact_at f = (f.table, false)

module _ (facts : List StockFact) (own : IntervalStock) (place : ℕ) (at : slice_get facts place ≡ Some (fact_of own)) where
  pub plain_at : (seats : List StockSeat) (s : StockSeat) → AreSeatsAt facts seats → slice_get seats place ≡ Some s
      → IsSeatOf own.stock s × ((hand s).raises ≡ false)
  plain_at seats s are there =
      let e = at_both {Z = TableId × Bool} seen_at fact_at seats facts place s (fact_of own) are there at in
      (ap (λ (x : TableId × Bool). x.0) e, ap (λ (x : TableId × Bool). x.1) e)

  still_plain : (seats : List StockSeat) (s now : StockSeat) → AreSeatsAt facts seats → slice_get seats place ≡ Some s → IsSeatOf own.stock now
      → (hand now).raises ≡ (hand s).raises → AreSeatsAt facts (set seats place now)
  still_plain seats s now are there table raises =
      let was = plain_at seats s are there in
      map_set_same {Y = TableId × Bool} seen_at seats place s now there (λ i. ((table ∙ sym was.0) i, raises i)) ∙ are

  -- ---- answered at once

  -- what a look leaves of a hand
  saw_more : (ticket limit : ℕ) (h : Hand) → ticket < limit
      → ((saw ticket limit h).answered ≡ h.answered ++ ticket ∷ []) × ((saw ticket limit h).drawn ≡ h.drawn ++ ticket ∷ [])
  saw_more ticket limit h below =
      let on = is_below ticket limit below in (
        ap (λ b. if b then h.answered ++ ticket ∷ [] else h.answered) on,
        ap (λ b. if b then h.drawn ++ ticket ∷ [] else h.drawn) on,
      )

  saw_none : (ticket limit : ℕ) (h : Hand) → limit ≤ ticket → ((saw ticket limit h).answered ≡ h.answered) × ((saw ticket limit h).drawn ≡ h.drawn)
  saw_none ticket limit h past =
      let off = is_not_below ticket limit past in (
        ap (λ b. if b then h.answered ++ ticket ∷ [] else h.answered) off,
        ap (λ b. if b then h.drawn ++ ticket ∷ [] else h.drawn) off,
      )

  module _ (seats now : List StockSeat) (s : StockSeat) (are : AreSeatsAt facts seats) (there : slice_get seats place ≡ Some s) where
    draws_used : (r : Result Drawn Dry) (tried : HasTried own place seats now r s) → draws_of now ≡ used_at place (draws_of seats)
    draws_used r tried =
        let p : StockSeat → ℕ = λ x. (hand x).draws in
        ap draws_of tried.seats_are
        ∙ (map_set p seats place tried.seat_now
        ∙ (ap (set (draws_of seats) place) (ap (λ (h : Hand). h.draws) tried.look.knows)
        ∙ used_set (draws_of seats) place (hand s).draws (map_get p seats place s there)))

    pub tried_plain : (r : Result Drawn Dry) (tried : HasTried own place seats now r s) → AreSeatsAt facts now
    tried_plain r tried =
        subst (AreSeatsAt facts) (sym tried.seats_are)
        (still_plain seats s tried.seat_now are there tried.own_now (ap (λ (h : Hand). h.raises) tried.look.knows))

    -- the list of tickets at the place gets this one
    one_there : (p : StockSeat → List ℕ) (x : StockSeat) (more : List ℕ) → now ≡ set seats place x → p x ≡ p s ++ more
        → map p now ≡ add_at place more (map p seats)
    one_there p x more is e =
        ap (map p) is ∙ (map_set p seats place x ∙ (ap (set (map p seats) place) e ∙ add_set (map p seats) place (p s) more (map_get p seats place s there)))

    none_there : (p : StockSeat → List ℕ) (x : StockSeat) → now ≡ set seats place x → p x ≡ p s → map p now ≡ map p seats
    none_there p x is e = ap (map p) is ∙ map_set_same p seats place s x there e

    pub ready : (session : List ℕ) (line : ℕ) (v : View PastEntry) (d : Drawn) (n : ℕ) → HasTried own place seats now (Ok d) s → n ≡ number_of d
        → HasDrawn facts place session line seats now v v (reply.Number n (code_of own.interval n)) (fact_of own)
    ready session line v d n tried is =
        let look = tried.look in
        let t = tried.ticket in
        let below : t < look.limit = look.replies.1 in
        let more = saw_more t look.limit (drew t (hand s)) below in
        let given : Given = record { reply = reply.Number n (code_of own.interval n); reservation = None } in
        record {
          seats = tried_plain (Ok d) tried;
          draws = draws_used (Ok d) tried;
          tickets = t ∷ [];
          answered = one_there (λ x. (hand x).answered) tried.seat_now (t ∷ []) tried.seats_are (ap (λ (h : Hand). h.answered) look.knows ∙ more.0);
          drawn = one_there (λ x. (hand x).drawn) tried.seat_now (t ∷ []) tried.seats_are (ap (λ (h : Hand). h.drawn) look.knows ∙ more.1);
          numbers = ap (λ m. m ∷ []) (sym (is ∙ look.replies.0));
          given = given;
          reply = refl;
          is = Ready n refl refl;
          calls = sym (append-nil (map desk_call (own_entries v)));
        }

    -- ---- dry, and then reserved

    pub dry : (session : List ℕ) (line : ℕ) (v w : View PastEntry) (e : Dry) (later : List StockSeat) (r : Reply) → HasTried own place seats now (Err e) s
        → HasReserved facts place session line now later v w r (fact_of own)
        → HasDrawn facts place session line seats later v w r (fact_of own)
    dry session line v w e later r tried reserved =
        let look = tried.look in
        let t = tried.ticket in
        let none = saw_none t look.limit (drew t (hand s)) look.replies.1 in
        record {
          seats = reserved.seats;
          draws = reserved.draws ∙ draws_used (Err e) tried;
          tickets = reserved.tickets;
          answered = reserved.answered
              ∙ ap (add_at place reserved.tickets)
              (none_there (λ x. (hand x).answered) tried.seat_now tried.seats_are (ap (λ (h : Hand). h.answered) look.knows ∙ none.0));
          drawn = reserved.drawn
              ∙ ap (add_at place reserved.tickets)
              (none_there (λ x. (hand x).drawn) tried.seat_now tried.seats_are (ap (λ (h : Hand). h.drawn) look.knows ∙ none.1));
          numbers = reserved.numbers;
          given = reserved.given;
          reply = reserved.reply;
          is = reserved.is;
          calls = reserved.calls;
        }

    -- the ticket was answered behind a reservation
    pub answered_then : (session : List ℕ) (line : ℕ) (old : List StockSeat) (v w : View PastEntry) (ticket level : ℕ) (r : Reply) → AreSame old seats
        → HasAnswered own place ticket seats now r s
        → map desk_call (own_entries w) ≡ with_call (map desk_call (own_entries v)) 0 (reserving session (own.base + ticket) (fact_of own)) (reply.Level level)
        → HasReserved facts place session line old now v w r (fact_of own)
    answered_then session line old v w ticket level r same done calls =
        let n = own.base + ticket in
        let more = saw_more ticket done.limit (hand s) done.below in
        let call : DeskCall = record { line = 0; command = reserving session n (fact_of own); reply = reply.Level level } in
        let given : Given = record { reply = reply.Number n (code_of own.interval n); reservation = Some call } in
        let p : StockSeat → ℕ = λ x. (hand x).draws in
        record {
          seats = subst (AreSeatsAt facts) (sym done.seats_are)
              (still_plain seats s done.seat_now are there done.own_now (ap (λ (h : Hand). h.raises) done.knows));
          draws = ap draws_of done.seats_are
              ∙ (map_set_same p seats place s done.seat_now there (ap (λ (h : Hand). h.draws) done.knows) ∙ same.draws);
          tickets = ticket ∷ [];
          answered = one_there (λ x. (hand x).answered) done.seat_now (ticket ∷ []) done.seats_are (ap (λ (h : Hand). h.answered) done.knows ∙ more.0)
              ∙ ap (add_at place (ticket ∷ [])) same.answered;
          drawn = one_there (λ x. (hand x).drawn) done.seat_now (ticket ∷ []) done.seats_are (ap (λ (h : Hand). h.drawn) done.knows ∙ more.1)
              ∙ ap (add_at place (ticket ∷ [])) same.drawn;
          numbers = ap one_number (sym done.reply);
          given = given;
          reply = sym done.reply;
          is = Reserved n level refl refl;
          calls = calls;
        }

  kept_or : (session : List ℕ) (line n : ℕ) (x : Refusal) (v w : View PastEntry) (b : Bool) → is_unrecorded (reply.Refused x) ≡ b
      → map desk_call (own_entries w) ≡ with_call (map desk_call (own_entries v)) 0 (reserving session n (fact_of own)) (reply.Refused x)
      → (g : Given) × (g.reply ≡ reply.Refused x) × IsDrawing session own.interval (drawing line own.interval g)
      × (map desk_call (own_entries w) ≡ map desk_call (own_entries v) ++ call_made g.reservation)
  kept_or session line n x v w true off calls =
      let one : DeskCall = record { line = 0; command = reserving session n (fact_of own); reply = reply.Refused x } in
      let was = map desk_call (own_entries v) in (
        record { reply = reply.Refused x; reservation = None },
        refl,
        Unkept x refl refl off,
        calls ∙ (ap (λ b. if b then was else was ++ one ∷ []) off ∙ sym (append-nil was)),
      )
  kept_or session line n x v w false on calls =
      let one : DeskCall = record { line = 0; command = reserving session n (fact_of own); reply = reply.Refused x } in
      let was = map desk_call (own_entries v) in (
        record { reply = reply.Refused x; reservation = Some one },
        refl,
        Refused n x refl refl,
        calls ∙ ap (λ b. if b then was else was ++ one ∷ []) on,
      )

  -- the reservation was refused
  pub refused_then : (session : List ℕ) (line n : ℕ) (old now : List StockSeat) (x : Refusal) (v w : View PastEntry) → AreSame old now → AreSeatsAt facts now
      → map desk_call (own_entries w) ≡ with_call (map desk_call (own_entries v)) 0 (reserving session n (fact_of own)) (reply.Refused x)
      → HasReserved facts place session line old now v w (reply.Refused x) (fact_of own)
  refused_then session line n old now x v w same are calls =
      let given = kept_or session line n x v w (is_unrecorded (reply.Refused x)) refl calls in
      record {
        seats = are;
        draws = same.draws;
        tickets = [];
        answered = same.answered ∙ add_nothing place (answered_of old);
        drawn = same.drawn ∙ add_nothing place (drawn_of old);
        numbers = refl;
        given = given.0;
        reply = given.1;
        is = given.2;
        calls = given.3;
      }

-- ---- a vector whose slice was drawn from

pub tried_whole : (own : IntervalStock) (place : ℕ) (items now : List StockSeat) (r : Result Drawn Dry) (s : StockSeat) (n : ℕ) → length items ≡ n
    → HasTried own place items now r s → take n (now ++ drop (length now) items) ≡ now
tried_whole own place items now r s n long tried =
    taken n now items (ap length tried.seats_are ∙ (length-set items place tried.seat_now ∙ long))

pub answered_whole : (own : IntervalStock) (place ticket : ℕ) (items now : List StockSeat) (r : Reply) (s : StockSeat) (n : ℕ) → length items ≡ n
    → HasAnswered own place ticket items now r s → take n (now ++ drop (length now) items) ≡ now
answered_whole own place ticket items now r s n long done =
    taken n now items (ap length done.seats_are ∙ (length-set items place done.seat_now ∙ long))

-- a ticket that the seat has is unanswered also once it knows more
pub still_unanswered : (place ticket : ℕ) (old now : List StockSeat) (s x : StockSeat) → AreSame old now → slice_get old place ≡ Some s
    → slice_get now place ≡ Some x
    → IsUnanswered ticket (hand s) → IsUnanswered ticket (hand x)
still_unanswered place ticket old now s x same at there open_yet =
    let tickets = at_both (λ (y : StockSeat). (hand y).tickets) (λ (y : StockSeat). (hand y).tickets) now old place x s same.tickets there at in
    let answered = at_both (λ (y : StockSeat). (hand y).answered) (λ (y : StockSeat). (hand y).answered) now old place x s same.answered there at in
    subst (λ (l : List ℕ × List ℕ). times ticket l.0 < times ticket l.1) (λ i. (sym answered i, sym tickets i)) open_yet

-- the seat that was drawn with
pub tried_at : (own : IntervalStock) (place : ℕ) (items now : List StockSeat) (r : Result Drawn Dry) (s x : StockSeat) → slice_get items place ≡ Some s
    → (tried : HasTried own place items now r s) → slice_get now place ≡ Some x → (P : StockSeat → Type 0) → P tried.seat_now → P x
tried_at own place items now r s x at tried there P h =
    subst P (one_some tried.seat_now x (sym (ap (λ l. slice_get l place) tried.seats_are ∙ get_set items place s tried.seat_now at) ∙ there)) h

pub tried_long : (own : IntervalStock) (place : ℕ) (items now : List StockSeat) (r : Result Drawn Dry) (s : StockSeat) → place < length items
    → HasTried own place items now r s → place < length now
tried_long own place items now r s within tried =
    let same : length now ≡ length items = ap length tried.seats_are ∙ length-set items place tried.seat_now in omega (arith, within, same)
