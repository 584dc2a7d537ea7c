-- What is sent over a wire that tells is what happens in a world.
use Rattle.std.proofs.Common.{◌≡◌, ℕ, zero, suc, ◌+◌, ◌<◌, Bool, true, ◌&&◌, ◌⊎◌, nat_eq, List, [], ◌∷◌, ◌++◌, length, get_or, Option, Some, None, refl, sym}
use Rattle.std.proofs.Common.{ap, ◌∙◌, subst, inl, inr, arith, append-nil, append_assoc, length-append}
use Rattle.std.specs.Prelude.{Contains, IfSome, fold, slice_get}
use Rattle.std.specs.List.{AllByRecursion}
use Rattle.std.proofs.lemmas.Bool.{and_from, cond-true, eq-eqb, false≢true}
use Rattle.std.proofs.lemmas.List.Elements.{recursion_from_All, Contains-append_left, Contains-append_right, Contains-push}
use Rattle.std.proofs.lemmas.List.Sums.{fold-append}
use Rattle.lock_entry.specs.declared.entry.Entry.{Entry}
use Rattle.replica_link.specs.declared.fault.LinkFault.{LinkFault}
use Rattle.replica_link.specs.declared.operation.TableOp.{TableOp}
use Rattle.lossy_link.specs.declared.packet.Ack.{Ack}
use Rattle.lossy_link.specs.declared.packet.Packet.{Packet}
use Rattle.lossy_link.specs.declared.packet.Packet.TheVariants.{Begin, Op}
use Rattle.lossy_link.specs.Packets.{Place, ack_of, answers, own_ack, taken, taken_all}
use Rattle.lossy_link.specs.Wired.{Event, Begins, Ships, Delivers, Answers, World, first_world, begun, shipped, moved, delivered, heard, after_event, wired}
use Rattle.lossy_link.specs.Wiring.{IsSent, Sender, counted, lost}
use Rattle.lossy_link.specs.Runs.{IsAt, GoesOn, Follows}
use Rattle.lossy_link.proofs.Sendings.{all_weaker}

got-contained : {X : Type 0} (xs : List X) (k : ℕ) (x : X) → k < length xs → get_or xs k x ≡ x → slice_get xs k ≡ Some x
got-contained [] k x b e = absurd (omega (arith, b))
got-contained (y ∷ ys) zero x b e = ap (λ z. Some z) e
got-contained (y ∷ ys) (suc k) x b e = got-contained ys k x (omega (arith, b)) e

-- the world after packets that came one by one
abbrev came : World → List Packet → World
came w ps = record w { place = taken_all w.place ps; answered = w.answered ++ answers w.place ps }

-- events that lead from one world to another
record Leads (w w' : World) : Type 0 where
  pub events : List Event
  pub led : fold after_event w events ≡ w'

leads-one : (w : World) (e : Event) (w' : World) → Leads (after_event w e) w' → Leads w w'
leads-one w e w' h = record { events = e ∷ h.events; led = h.led }

leads-more : (w w' w'' : World) → Leads w w' → Leads w' w'' → Leads w w''
leads-more w w' w'' h k =
    record { events = h.events ++ k.events; led = fold-append after_event w h.events k.events ∙ ap (λ (v : World). fold after_event v k.events) h.led ∙ k.led }

-- packets that were sent come to the replica
comes : (ps : List Packet) (w : World) → AllByRecursion (λ p. Contains w.sent p) ps → Leads w (came w ps)
comes [] w h = record { events = []; led = ap (λ (acks : List Ack). let v : World = record w { answered = acks } in v) (sym (append-nil w.answered)) }
comes (p ∷ ps) w h =
    let c = h.0 in
    let rest = comes ps (moved w (taken w.place p)) h.1 in
    record {
      events = Delivers c.0 ∷ rest.events;
      led =
          ap (λ (o : Option Packet). fold after_event (delivered w o) rest.events) (got-contained w.sent c.0 p c.1 c.2)
          ∙ rest.led
          ∙ ap (λ (acks : List Ack). let v : World = record w { place = taken_all w.place (p ∷ ps); answered = acks } in v)
          (append_assoc w.answered (ack_of (taken w.place p) ∷ []) (answers (taken w.place p) ps));
    }

-- an acknowledgement that was answered comes to the sender
hears : (w : World) (a : Ack) → Contains w.answered a → Leads w (heard w (Some a))
hears w a c = record { events = Answers c.0 ∷ []; led = ap (heard w) (got-contained w.answered c.0 a c.1 c.2) }

module _ {W : Type 0} (place : W → Place) (may_bring : W → Packet → Type 0) (may_answer : W → Ack → Type 0) where
  -- these events lead on
  goes_on : (events : List Event) (s : Sender W) (w : World) → Leads (wired events) w → IsAt place may_bring may_answer s w
      → GoesOn place may_bring may_answer events s
  goes_on events s w h at =
      record {
        more = h.events;
        at = subst (λ (v : World). IsAt place may_bring may_answer s v)
            (sym (fold-append after_event first_world events h.events ∙ h.led)) at;
      }

  -- Nothing comes to the replica, and the sender knows no more than before.
  pub rests : (old new : Sender W) → new.epoch ≡ old.epoch → place new.wire ≡ place old.wire
      → ((p : Packet) → may_bring new.wire p → may_bring old.wire p) → ((a : Ack) → may_answer new.wire a → may_answer old.wire a)
      → (new.attached ≡ true → (old.attached ≡ true) × (old.seq ≡ new.seq)) → Follows place may_bring may_answer old new
  rests old new same there brings answering follows events at =
      goes_on events new (wired events) (record { events = []; led = refl })
      (record {
        same_epoch = at.same_epoch ∙ sym same;
        stands = at.stands ∙ sym there;
        brings = λ p b. at.brings p (brings p b);
        answers = λ a b. at.answers a (answering a b);
        acknowledged = λ t. let f = follows t in at.acknowledged f.0 ∙ f.1;
        shipped = λ t. let f = follows t in at.shipped f.0 ∙ f.1;
      })

  -- only its counts are others
  pub recounted : (old mid new : Sender W) (fault : LinkFault) → new ≡ counted fault mid → Follows place may_bring may_answer old mid
      → Follows place may_bring may_answer old new
  recounted old mid new fault is h events at =
      let on = h events at in
      record {
        more = on.more;
        at = subst (λ (s : Sender W). IsAt place may_bring may_answer s (wired (events ++ on.more))) (sym is)
            (record {
              same_epoch = on.at.same_epoch;
              stands = on.at.stands;
              brings = on.at.brings;
              answers = on.at.answers;
              acknowledged =
                  on.at.acknowledged;
              shipped = on.at.shipped;
            });
      }

  -- and no replica follows any longer
  pub lost-after : (old mid new : Sender W) (fault : LinkFault) → new ≡ lost fault mid → Follows place may_bring may_answer old mid
      → Follows place may_bring may_answer old new
  lost-after old mid new fault is h events at =
      let on = h events at in
      record {
        more = on.more;
        at = subst (λ (s : Sender W). IsAt place may_bring may_answer s (wired (events ++ on.more))) (sym is)
            (record {
              same_epoch = on.at.same_epoch;
              stands = on.at.stands;
              brings = on.at.brings;
              answers = on.at.answers;
              acknowledged =
                  λ t. absurd (false≢true t);
              shipped = λ t. absurd (false≢true t);
            });
      }

  -- nothing was sent
  pub lost-follows : (old new : Sender W) (fault : LinkFault) → new ≡ lost fault old → Follows place may_bring may_answer old new
  lost-follows old new fault is = lost-after old old new fault is (rests old old refl refl (λ p b. b) (λ a b. b) (λ t. (t, refl)))

  -- the packet is sent in the world, and what comes to the replica comes in it too
  module _ (packet : Packet) (answer : Option Ack) (old new : W) (sent : IsSent place may_bring may_answer packet answer old new) (w : World)
      (there : w.place ≡ place old) (bringing : (p : Packet) → may_bring old p → Contains w.sent p) (own : Contains w.sent packet)
      (answering : (a : Ack) → may_answer old a → Contains w.answered a) where
    sent-known : (p : Packet) → may_bring old p ⊎ (p ≡ packet) → Contains w.sent p
    sent-known p (inl b) = bringing p b
    sent-known p (inr e) = subst (λ (q : Packet). Contains w.sent q) (sym e) own

    sent-leads : Leads w (came w sent.packets)
    sent-leads =
        comes sent.packets w
        (all_weaker (λ p. may_bring old p ⊎ (p ≡ packet)) (λ p. Contains w.sent p) sent-known sent.packets
        (recursion_from_All (λ p. may_bring old p ⊎ (p ≡ packet)) sent.packets sent.known))

    sent-stands : (came w sent.packets).place ≡ place new
    sent-stands = ap (λ (r : Place). taken_all r sent.packets) there ∙ sym sent.stands

    sent-brings : (p : Packet) → may_bring new p → Contains w.sent p
    sent-brings p b = sent-known p (sent.brings p b)

    sent-answered : (a : Ack) → may_answer old a ⊎ Contains (answers (place old) sent.packets) a → Contains (came w sent.packets).answered a
    sent-answered a (inl b) = Contains-append_left w.answered (answers w.place sent.packets) a (answering a b)
    sent-answered a (inr c) = Contains-append_right w.answered (answers w.place sent.packets) a
        (subst (λ (r : Place). Contains (answers r sent.packets) a) (sym there) c)

    sent-answers : (a : Ack) → may_answer new a → Contains (came w sent.packets).answered a
    sent-answers a b = sent-answered a (sent.answering a b)

    sent-hears : (a : Ack) → answer ≡ Some a → Leads (came w sent.packets) (heard (came w sent.packets) (Some a))
    sent-hears a is =
        hears (came w sent.packets) a
        (sent-answered a (subst (λ (o : Option Ack). IfSome o (λ b. may_answer old b ⊎ Contains (answers (place old) sent.packets) b)) is sent.hears))

  -- a snapshot is sent, with which an epoch begins
  module _ (old new : Sender W) (entries : List Entry) (answer : Option Ack)
      (sent : IsSent place may_bring may_answer (Begin (old.epoch + 1) entries) answer old.wire new.wire)
      (next : new.epoch ≡ old.epoch + 1) (first : new.attached ≡ true → new.seq ≡ 0) (events : List Event)
      (at : IsAt place may_bring may_answer old (wired events)) where
    abbrev first_packet : Packet
    first_packet = Begin (old.epoch + 1) entries

    abbrev after_begin : World
    after_begin = begun (wired events) entries

    begin-bringing : (p : Packet) → may_bring old.wire p → Contains after_begin.sent p
    begin-bringing p b = Contains-append_left (wired events).sent (Begin ((wired events).epoch + 1) entries ∷ []) p (at.brings p b)

    begin-own : Contains after_begin.sent first_packet
    begin-own = subst (λ n. Contains after_begin.sent (Begin (n + 1) entries)) at.same_epoch
        (Contains-push (wired events).sent (Begin ((wired events).epoch + 1) entries))

    begins-on : GoesOn place may_bring may_answer events new
    begins-on =
        goes_on events new (came after_begin sent.packets)
        (leads-one (wired events) (Begins entries) (came after_begin sent.packets)
        (sent-leads first_packet answer old.wire new.wire sent after_begin at.stands begin-bringing begin-own at.answers))
        (record {
          same_epoch = ap (λ n. n + 1) at.same_epoch ∙ sym next;
          stands = sent-stands first_packet answer old.wire new.wire sent after_begin at.stands begin-bringing begin-own at.answers;
          brings = sent-brings first_packet answer old.wire new.wire sent after_begin at.stands begin-bringing begin-own at.answers;
          answers = sent-answers first_packet answer old.wire new.wire sent after_begin at.stands begin-bringing begin-own at.answers;
          acknowledged = λ t. sym (first t);
          shipped = λ t. sym (first t);
        })

  pub begins-follows : (old new : Sender W) (entries : List Entry) (answer : Option Ack)
      → IsSent place may_bring may_answer (Begin (old.epoch + 1) entries) answer old.wire new.wire
      → new.epoch ≡ old.epoch + 1 → (new.attached ≡ true → new.seq ≡ 0) → Follows place may_bring may_answer old new
  begins-follows old new entries answer sent next first events at = begins-on old new entries answer sent next first events at

  -- an operation is sent to a replica that follows
  module _ (old new : Sender W) (number : ℕ) (op : TableOp) (answer : Option Ack)
      (sent : IsSent place may_bring may_answer (Op old.epoch number op) answer old.wire new.wire)
      (follows : old.attached ≡ true) (next : number ≡ old.seq + 1) (same : new.epoch ≡ old.epoch) (events : List Event)
      (at : IsAt place may_bring may_answer old (wired events)) where
    abbrev op_packet : Packet
    op_packet = Op old.epoch number op

    abbrev after_ship : World
    after_ship = record (wired events)
        { ops = (wired events).ops ++ op ∷ []; sent = (wired events).sent ++ Op (wired events).epoch (length (wired events).ops + 1) op ∷ [] }

    ship-is : shipped (wired events) op ≡ after_ship
    ship-is = cond-true (nat_eq (wired events).acked (length (wired events).ops)) after_ship (wired events)
        (eq-eqb (wired events).acked (length (wired events).ops) (at.acknowledged follows ∙ sym (at.shipped follows)))

    ship-leads : (w : World) → Leads after_ship w → Leads (wired events) w
    ship-leads w h = record { events = Ships op ∷ h.events; led = ap (λ (v : World). fold after_event v h.events) ship-is ∙ h.led }

    ship-bringing : (p : Packet) → may_bring old.wire p → Contains after_ship.sent p
    ship-bringing p b = Contains-append_left (wired events).sent (Op (wired events).epoch (length (wired events).ops + 1) op ∷ []) p (at.brings p b)

    ship-number : length (wired events).ops + 1 ≡ number
    ship-number = ap (λ n. n + 1) (at.shipped follows) ∙ sym next

    ship-own : Contains after_ship.sent op_packet
    ship-own =
        subst (λ n. Contains after_ship.sent (Op old.epoch n op)) ship-number
        (subst (λ n. Contains after_ship.sent (Op n (length (wired events).ops + 1) op)) at.same_epoch
        (Contains-push (wired events).sent (Op (wired events).epoch (length (wired events).ops + 1) op)))

    abbrev after_turns : World
    after_turns = came after_ship sent.packets

    turns-lead : Leads (wired events) after_turns
    turns-lead = ship-leads after_turns (sent-leads op_packet answer old.wire new.wire sent after_ship at.stands ship-bringing ship-own at.answers)

    -- it wasn't acknowledged
    unshipped-on : (new.attached ≡ true → ⊥) → GoesOn place may_bring may_answer events new
    unshipped-on detached =
        goes_on events new after_turns turns-lead
        (record {
          same_epoch = at.same_epoch ∙ sym same;
          stands = sent-stands op_packet answer old.wire new.wire sent after_ship at.stands ship-bringing ship-own at.answers;
          brings = sent-brings op_packet answer old.wire new.wire sent after_ship at.stands ship-bringing ship-own at.answers;
          answers = sent-answers op_packet answer old.wire new.wire sent after_ship at.stands ship-bringing ship-own at.answers;
          acknowledged = λ t. absurd (detached t);
          shipped = λ t. absurd (detached t);
        })

    abbrev after_answer : World
    after_answer = record after_turns { acked = number }

    ship-longer : length after_ship.ops ≡ number
    ship-longer = length-append (wired events).ops (op ∷ []) ∙ ship-number

    answer-is : heard after_turns (Some (own_ack op_packet)) ≡ after_answer
    answer-is =
        cond-true (nat_eq old.epoch (wired events).epoch && nat_eq number (length after_ship.ops)) after_answer after_turns
        (and_from (nat_eq old.epoch (wired events).epoch) (nat_eq number (length after_ship.ops)) (eq-eqb old.epoch (wired events).epoch (sym at.same_epoch))
        (eq-eqb number (length after_ship.ops) (sym ship-longer)))

    -- it was acknowledged
    shipped-on : answer ≡ Some (own_ack op_packet) → new.seq ≡ number → GoesOn place may_bring may_answer events new
    shipped-on is up =
        goes_on events new after_answer
        (subst (Leads (wired events)) answer-is
        (leads-more (wired events) after_turns (heard after_turns (Some (own_ack op_packet))) turns-lead
        (sent-hears op_packet answer old.wire new.wire sent after_ship at.stands ship-bringing ship-own at.answers (own_ack op_packet) is)))
        (record {
          same_epoch = at.same_epoch ∙ sym same;
          stands = sent-stands op_packet answer old.wire new.wire sent after_ship at.stands ship-bringing ship-own at.answers;
          brings = sent-brings op_packet answer old.wire new.wire sent after_ship at.stands ship-bringing ship-own at.answers;
          answers = sent-answers op_packet answer old.wire new.wire sent after_ship at.stands ship-bringing ship-own at.answers;
          acknowledged = λ t. sym up;
          shipped = λ t. ship-longer ∙ sym up;
        })

  pub ships-follows : (old new : Sender W) (number : ℕ) (op : TableOp) → IsSent place may_bring may_answer (Op old.epoch number op)
      (Some (own_ack (Op old.epoch number op))) old.wire new.wire
      → old.attached ≡ true → number ≡ old.seq + 1 → new.epoch ≡ old.epoch → new.seq ≡ number → Follows place may_bring may_answer old new
  ships-follows old new number op sent follows next same up events at =
      shipped-on old new number op (Some (own_ack (Op old.epoch number op))) sent follows next same events at refl up

  pub unshipped-follows : (old new : Sender W) (number : ℕ) (op : TableOp) (answer : Option Ack)
      → IsSent place may_bring may_answer (Op old.epoch number op) answer old.wire new.wire
      → old.attached ≡ true → number ≡ old.seq + 1 → new.epoch ≡ old.epoch → (new.attached ≡ true → ⊥) → Follows place may_bring may_answer old new
  unshipped-follows old new number op answer sent follows next same detached events at =
      unshipped-on old new number op answer sent follows next same events at detached
