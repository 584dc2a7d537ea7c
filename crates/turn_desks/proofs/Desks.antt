-- What is kept of a desk, with one call or one drawing more.
use Rattle.std.proofs.Common.{◌≡◌, ℕ, ◌+◌, ◌≤◌, Bool, true, false, true≢false, List, [], ◌∷◌, ◌++◌, append-nil, length, length-append, map, refl, sym, ap, ◌∙◌, arith}
use Rattle.std.specs.Prelude.{if◌then◌else◌, Option, Some, None, slice_get}
use Rattle.std.proofs.lemmas.List.{length-map}
use Rattle.std.proofs.lemmas.List.Sums.{fold-append}
use Rattle.atomic_table.specs.Seated.{TableId}
use Rattle.enq_base.specs.declared.refusal.Refusal.TheVariants as refusal
use Rattle.enq_base.specs.declared.unit.Num.{Num}
use Rattle.hall_model.specs.declared.command.Command.{Command}
use Rattle.hall_model.specs.declared.command.Reply.{Reply}
use Rattle.hall_model.specs.declared.command.Reply.TheVariants as reply
use Rattle.hall_model.specs.History.{is_unrecorded}
use Rattle.number_ranges.specs.Intervals.{is_named}
use Rattle.script_actors.specs.Actors.{drawing}
use Rattle.script_actors.specs.Drawings.{Called, DeskCall, DeskEntry, Drawing, Drew, calls_in, number_in, settles, settling_of, stock_behind, stock_of, with_call, with_called}
use Rattle.script_actors.specs.declared.uncommitted.Settling.{Settling}
use Rattle.script_actors.specs.declared.uncommitted.Settling.TheVariants as settling
use Rattle.number_stock.specs.Seats.{hand}
use Rattle.number_stock.specs.declared.seat.StockSeat.{StockSeat}
use Rattle.turn_desks.specs.Draws.{add_at, call_made, one_number}
use Rattle.turn_desks.specs.Stocks.{AreFresh, AreLeft, AreSeatsBy, StockFact, answered_of, are_apart, are_of_stocks, drawn_of, limits_of, numbered, numbers_by}
use Rattle.turn_desks.specs.Weaving.{Noted, made_behind, numbers_in, woven}
use Rattle.turn_desks.proofs.Numbers.{known_more, more_by, numbered_more, stock_at}
use Rattle.turn_desks.proofs.Woven.{calls_append, calls_with, drawn_more, no_fewer, numbers_append, numbers_with, with_one}

-- ---- the next COMMIT's numbers

unrecorded_keeps : (s : Settling) (r : Reply) → is_unrecorded r ≡ true → settles s r ≡ false
unrecorded_keeps settling.Neither r off = refl
unrecorded_keeps settling.Commits (reply.Refused refusal.LogFull) off = refl
unrecorded_keeps settling.Commits (reply.Refused refusal.Idle) off = refl
unrecorded_keeps settling.Commits r off = absurd (true≢false (sym off))
unrecorded_keeps settling.GivesUp (reply.Refused refusal.LogFull) off = refl
unrecorded_keeps settling.GivesUp (reply.Refused refusal.Idle) off = refl
unrecorded_keeps settling.GivesUp r off = absurd (true≢false (sym off))

abbrev left_of : Bool → List Num → List Num
left_of settled stock = if settled then [] else stock

stock_called : (es : List DeskEntry) (n : ℕ) (c : Command) (r : Reply) → stock_of (with_called es n c r) ≡ left_of (settles (settling_of c) r) (stock_of es)
stock_called es n c r = go (is_unrecorded r) refl
  where
    one : DeskCall
    one = record { line = n; command = c; reply = r }

    go : (b : Bool) → is_unrecorded r ≡ b → stock_of (with_called es n c r) ≡ left_of (settles (settling_of c) r) (stock_of es)
    go true e = ap (λ b. stock_of (if b then es else es ++ Called one ∷ [])) e ∙ sym (ap (λ b. left_of b (stock_of es)) (unrecorded_keeps (settling_of c) r e))
    go false e = ap (λ b. stock_of (if b then es else es ++ Called one ∷ [])) e ∙ fold-append stock_behind [] es (Called one ∷ [])

stock_drew : (es : List DeskEntry) (d : Drawing) → stock_of (es ++ Drew d ∷ []) ≡ stock_of es ++ number_in d.object d.nr d.reply
stock_drew es d = fold-append stock_behind [] es (Drew d ∷ [])

none_numbered : (facts : List StockFact) (tickets : List (List ℕ)) → length tickets ≡ length facts
    → numbers_by facts [] ≡ numbered facts (map (λ (ts : List ℕ). []) tickets)
none_numbered [] tickets long = refl
none_numbered (f ∷ fs) [] long = absurd (omega (arith, long))
none_numbered (f ∷ fs) (ts ∷ tss) long = ap (λ l. [] ∷ l) (none_numbered fs tss (omega (arith, long)))

all_kept : (tickets : List (List ℕ)) → map (λ (ts : List ℕ). ts) tickets ≡ tickets
all_kept [] = refl
all_kept (ts ∷ tss) = ap (λ l. ts ∷ l) (all_kept tss)

pending_left : (settled : Bool) (facts : List StockFact) (stock : List Num) (tickets : List (List ℕ)) → length tickets ≡ length facts
    → numbers_by facts stock ≡ numbered facts tickets
    → numbers_by facts (left_of settled stock) ≡ numbered facts (map (λ (ts : List ℕ). if settled then [] else ts) tickets)
pending_left true facts stock tickets long same = none_numbered facts tickets long
pending_left false facts stock tickets long same = same ∙ sym (ap (numbered facts) (all_kept tickets))

known_left : (settled : Bool) (facts : List StockFact) (stock : List Num) → are_of_stocks facts stock ≡ true
    → are_of_stocks facts (left_of settled stock) ≡ true
known_left true facts stock known = refl
known_left false facts stock known = known

-- ---- a desk

-- What is kept of a desk: with these notes, of which the last stands first, these calls and these numbers told, whose
-- seats have these tickets.
pub record IsDesk (facts : List StockFact) (ns : List Noted) (calls : List DeskCall) (told : List Num) (answered drawn : List (List ℕ)) : Type 0 where
  pub behind : made_behind ns ≤ length calls
  pub calls_are : calls_in (woven ns calls) ≡ calls
  pub known : are_of_stocks facts (stock_of (woven ns calls)) ≡ true
  pub pending : numbers_by facts (stock_of (woven ns calls)) ≡ numbered facts answered
  pub numbers : numbers_by facts (numbers_in (woven ns calls)) ≡ numbered facts drawn
  pub told_are : numbers_in (woven ns calls) ≡ told
  pub drawn_known : are_of_stocks facts (numbers_in (woven ns calls)) ≡ true

pub desk_called : (facts : List StockFact) (ns : List Noted) (calls now : List DeskCall) (told : List Num)
    (answered drawn answered_now drawn_now : List (List ℕ))
    (n : ℕ) (c : Command) (r : Reply) → length answered ≡ length facts → IsDesk facts ns calls told answered drawn → now ≡ with_call calls n c r
    → drawn_now ≡ drawn → answered_now ≡ map (λ (ts : List ℕ). if settles (settling_of c) r then [] else ts) answered
    → IsDesk facts ns now told answered_now drawn_now
desk_called facts ns calls now told answered drawn answered_now drawn_now n c r long desk is same left =
    let es = woven ns calls in
    let more : woven ns now ≡ with_called es n c r = with_one ns calls now n c r desk.behind is in
    let stock : stock_of (woven ns now) ≡ left_of (settles (settling_of c) r) (stock_of es) = ap stock_of more ∙ stock_called es n c r in
    let numbers : numbers_in (woven ns now) ≡ numbers_in es = ap numbers_in more ∙ numbers_with es n c r in
    record {
      behind = let few = no_fewer calls now n c r is in let was = desk.behind in omega (arith, few, was);
      calls_are = ap calls_in more ∙ (calls_with es n c r ∙ (ap (λ l. with_call l n c r) desk.calls_are ∙ sym is));
      known = ap (are_of_stocks facts) stock ∙ known_left (settles (settling_of c) r) facts (stock_of es) desk.known;
      pending = ap (numbers_by facts) stock
          ∙ (pending_left (settles (settling_of c) r) facts (stock_of es) answered long desk.pending ∙ sym (ap (numbered facts) left));
      numbers = ap (numbers_by facts) numbers ∙ (desk.numbers ∙ sym (ap (numbered facts) same));
      told_are = numbers ∙ desk.told_are;
      drawn_known = ap (are_of_stocks facts) numbers ∙ desk.drawn_known;
    }

pub desk_drew : (facts : List StockFact) (n : Noted) (ns : List Noted) (calls now : List DeskCall) (told : List Num)
    (answered drawn answered_now drawn_now : List (List ℕ)) (place : ℕ) (f : StockFact) (tickets : List ℕ) (o : Option DeskCall)
    → IsDesk facts ns calls told answered drawn → slice_get facts place ≡ Some f → are_apart facts ≡ true → n.object ≡ f.interval.object
    → n.nr ≡ f.interval.nr → is_named n.object n.nr f.interval ≡ true
    → now ≡ calls ++ call_made o → n.before ≡ length calls → n.behind ≡ length now
    → answered_now ≡ add_at place tickets answered → drawn_now ≡ add_at place tickets drawn → map (λ t. f.base + t) tickets ≡ one_number n.reply
    → IsDesk facts (n ∷ ns) now (told ++ number_in n.object n.nr n.reply) answered_now drawn_now
desk_drew facts n ns calls now told answered drawn answered_now drawn_now place f tickets o desk at apart object nr named is before behind ans drn numbers =
    let es = woven ns calls in
    let d : Drawing = record { line = n.line; object = n.object; nr = n.nr; reservation = o; reply = n.reply } in
    let num = number_in n.object n.nr n.reply in
    let more : woven (n ∷ ns) now ≡ es ++ Drew d ∷ [] = drawn_more n ns calls now o is before behind in
    let stock : stock_of (woven (n ∷ ns) now) ≡ stock_of es ++ num = ap stock_of more ∙ stock_drew es d in
    let all : numbers_in (woven (n ∷ ns) now) ≡ numbers_in es ++ num = ap numbers_in more
    ∙ (numbers_append es (Drew d ∷ []) ∙ ap (λ l. numbers_in es ++ l) (append-nil num)) in
    let own : number_in f.interval.object f.interval.nr n.reply ≡ num = λ i. number_in (sym object i) (sym nr i) n.reply in
    let adds : (nums : List Num) (tss : List (List ℕ)) → numbers_by facts nums ≡ numbered facts tss
    → numbers_by facts (nums ++ num) ≡ numbered facts (add_at place tickets tss) =
    λ nums tss same. sym (ap (λ l. numbers_by facts (nums ++ l)) own)
    ∙ (more_by facts place f nums n.reply at apart
    ∙ ((λ i. add_at place (sym numbers i) (same i)) ∙ sym (numbered_more facts place f tickets tss at))) in
    record {
      behind = omega (arith, before, behind, few is);
      calls_are = ap calls_in more ∙ (calls_append es (Drew d ∷ []) ∙ (made o ∙ sym is));
      known = ap (are_of_stocks facts) stock ∙ known_more facts (stock_of es) n.object n.nr n.reply desk.known (stock_at facts place f n.object n.nr at named);
      pending = ap (numbers_by facts) stock ∙ (adds (stock_of es) answered desk.pending ∙ sym (ap (numbered facts) ans));
      numbers = ap (numbers_by facts) all ∙ (adds (numbers_in es) drawn desk.numbers ∙ sym (ap (numbered facts) drn));
      told_are = all ∙ ap (λ l. l ++ num) desk.told_are;
      drawn_known = ap (are_of_stocks facts) all
          ∙ known_more facts (numbers_in es) n.object n.nr n.reply desk.drawn_known (stock_at facts place f n.object n.nr at named);
    }
  where
    few : now ≡ calls ++ call_made o → length calls ≤ length now
    few e = let long : length now ≡ length calls + length (call_made o) = ap length e ∙ length-append calls (call_made o) in omega (arith, long)

    made : (o : Option DeskCall)
        → calls_in (woven ns calls) ++ calls_in (Drew (record { line = n.line; object = n.object; nr = n.nr; reservation = o; reply = n.reply }) ∷ []) ≡
        calls ++ call_made o
    made None = ap (λ l. l ++ []) desk.calls_are
    made (Some c) = ap (λ l. l ++ c ∷ []) desk.calls_are

no_numbers : {X : Type 0} (facts : List StockFact) (xs : List X) → length xs ≡ length facts → numbers_by facts [] ≡ numbered facts (map (λ (x : X). []) xs)
no_numbers [] xs long = refl
no_numbers (f ∷ fs) [] long = absurd (omega (arith, long))
no_numbers (f ∷ fs) (x ∷ xs) long = ap (λ l. [] ∷ l) (no_numbers fs xs (omega (arith, long)))

-- one at which nothing was done
pub desk_fresh : (facts : List StockFact) (seats : List StockSeat) → length seats ≡ length facts → AreFresh seats
    → IsDesk facts [] [] [] (answered_of seats) (drawn_of seats)
desk_fresh facts seats long fresh = record {
  behind = omega arith;
  calls_are = refl;
  known = refl;
  pending = no_numbers facts seats long ∙ sym (ap (numbered facts) fresh.0);
  numbers = no_numbers facts seats long ∙ sym (ap (numbered facts) fresh.1);
  told_are = refl;
  drawn_known = refl;
}

-- there is a seat at each stock
pub as_many : (right : Bool) (facts : List StockFact) (seats : List StockSeat) → AreSeatsBy right facts seats → length seats ≡ length facts
as_many right facts seats at =
    sym (length-map {B = TableId × Bool} seats (λ (s : StockSeat). (s.seat.table_id, (hand s).raises)))
    ∙ (ap length at ∙ length-map {B = TableId × Bool} facts (λ (f : StockFact). (f.table, right)))

pub many_answered : (right : Bool) (facts : List StockFact) (seats : List StockSeat) → AreSeatsBy right facts seats → length (answered_of seats) ≡ length facts
many_answered right facts seats at = length-map seats (λ (s : StockSeat). (hand s).answered) ∙ as_many right facts seats at

pub many_limits : (right : Bool) (facts : List StockFact) (seats : List StockSeat) → AreSeatsBy right facts seats → length (limits_of seats) ≡ length facts
many_limits right facts seats at = length-map seats (λ (s : StockSeat). (hand s).limit) ∙ as_many right facts seats at

-- where nothing is settled seats are left as they are
pub left_alone : (settled : Bool) (seats : List StockSeat) → settled ≡ false → AreLeft settled seats seats
left_alone true seats e = absurd (true≢false e)
left_alone false seats e = record { draws = refl; drawn = refl; answered = sym (all_kept (answered_of seats)) }
