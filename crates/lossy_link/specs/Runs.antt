-- What a sender over a wire does is what a world does.
use Rattle.std.specs.Prelude.{◌≡◌, ℕ, true, List, ◌++◌, length, Contains}
use Rattle.lossy_link.specs.declared.packet.Ack.{Ack}
use Rattle.lossy_link.specs.declared.packet.Packet.{Packet}
use Rattle.lossy_link.specs.Packets.{Place}
use Rattle.lossy_link.specs.Wired.{Event, World, wired}
use Rattle.lossy_link.specs.Wiring.{Sender}

-- The world has the sender's epoch and the wire's replica. What may still come was sent in this world, and what may
-- still be answered was answered in it. As long as the replica follows, each operation is acknowledged.
pub record IsAt {W : Type 0} (place : W → Place) (may_bring : W → Packet → Type 0) (may_answer : W → Ack → Type 0)
    (s : Sender W) (w : World) : Type 0 where
  pub same_epoch : w.epoch ≡ s.epoch
  pub stands : w.place ≡ place s.wire
  pub brings : (p : Packet) → may_bring s.wire p → Contains w.sent p
  pub answers : (a : Ack) → may_answer s.wire a → Contains w.answered a
  pub acknowledged : s.attached ≡ true → w.acked ≡ s.seq
  pub shipped : s.attached ≡ true → length w.ops ≡ s.seq

-- after some events more
pub record GoesOn {W : Type 0} (place : W → Place) (may_bring : W → Packet → Type 0) (may_answer : W → Ack → Type 0)
    (events : List Event) (s : Sender W) : Type 0 where
  pub more : List Event
  pub at : IsAt place may_bring may_answer s (wired (events ++ more))

-- whatever events led to the sender as it was, these and some more lead to it as it is
abbrev pub Follows : {W : Type 0} → (place : W → Place) → (may_bring : W → Packet → Type 0)
    → (may_answer : W → Ack → Type 0) → (old new : Sender W) → Type 0
Follows place may_bring may_answer old new = (events : List Event) → IsAt place may_bring may_answer old (wired events)
    → GoesOn place may_bring may_answer events new
