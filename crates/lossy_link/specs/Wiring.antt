-- What a wire does with a packet, and what a sender over it knows.
use Rattle.std.specs.Prelude.{◌≡◌, ◌⊎◌, ℕ, ◌+◌, ◌-◌, ◌^◌, ◌≤◌, min, Bool, true, false, List, Option, Some, None, IfSome}
use Rattle.std.specs.Prelude.{Result, Ok, Err, All, Contains, if◌then◌else◌}
use Rattle.enq_base.specs.Causes.{Rose, one_more}
use Rattle.lock_entry.specs.declared.entry.Entry.{Entry}
use Rattle.replica_link.specs.declared.fault.LinkFault.{LinkFault}
use Rattle.replica_link.specs.declared.fault.LinkFault.TheVariants.{Failed, NoMemory}
use Rattle.lossy_link.specs.declared.packet.Ack.{Ack}
use Rattle.lossy_link.specs.declared.packet.Packet.{Packet}
use Rattle.lossy_link.specs.Packets.{Place, ack_of, answers, first_place, own_ack, taken_all}

-- Packets come to the replica one by one, each of them this one or one that might still come. What may come later might
-- before, or is this packet; and what may be answered later, or was heard, might be answered before, or is the
-- replica's answer to one that came.
pub record IsSent {W : Type 0} (place : W → Place) (may_bring : W → Packet → Type 0) (may_answer : W → Ack → Type 0)
    (packet : Packet) (heard : Option Ack) (old new : W) : Type 0 where
  pub packets : List Packet
  pub known : All (λ p. may_bring old p ⊎ (p ≡ packet)) packets
  pub stands : place new ≡ taken_all (place old) packets
  pub brings : (p : Packet) → may_bring new p → may_bring old p ⊎ (p ≡ packet)
  pub answering : (a : Ack) → may_answer new a → may_answer old a ⊎ Contains (answers (place old) packets) a
  pub hears : IfSome heard (λ a. may_answer old a ⊎ Contains (answers (place old) packets) a)

-- what the sender heard in a turn
abbrev pub heard_in : Result (Option Ack) LinkFault → Option Ack
heard_in (Ok answer) = answer
heard_in (Err fault) = None

-- the packet's own acknowledgement, where it came
abbrev pub heard_of : {T : Type 0} → Packet → Result T LinkFault → Option Ack
heard_of packet (Ok x) = Some (own_ack packet)
heard_of packet (Err fault) = None

-- the same, of an answer whether it came
abbrev pub heard_if : {E : Type 0} → Packet → Result Bool E → Option Ack
heard_if packet (Ok true) = Some (own_ack packet)
heard_if packet (Ok false) = None
heard_if packet (Err e) = None

-- how many calls have failed, after one that gave up so
abbrev pub faults_with : LinkFault → ℕ → ℕ
faults_with Failed count = one_more count
faults_with NoMemory count = count

-- how many were refused for want of memory
abbrev pub refusals_with : LinkFault → ℕ → ℕ
refusals_with Failed count = count
refusals_with NoMemory count = one_more count

-- how many have failed after a call with this answer
abbrev pub faults_after : {T : Type 0} → Result T LinkFault → ℕ → ℕ
faults_after (Ok x) count = count
faults_after (Err fault) count = faults_with fault count

abbrev pub refusals_after : {T : Type 0} → Result T LinkFault → ℕ → ℕ
refusals_after (Ok x) count = count
refusals_after (Err fault) count = refusals_with fault count

-- the count has risen so often, or stands at its type's end
abbrev pub RoseBy : (times before now : ℕ) → Type 0
RoseBy times before now = min (before + times) (2 ^ 64 - 1) ≤ now

abbrev pub epoch_of : Packet → ℕ
epoch_of packet = (own_ack packet).epoch

-- a place of an earlier epoch, or of this one up to this operation
pub record IsUpTo (epoch seq : ℕ) (at : Ack) : Type 0 where
  pub no_later : at.epoch ≤ epoch
  pub no_further : at.epoch ≡ epoch → at.seq ≤ seq

-- Nothing that may still come or be answered is of a later epoch than the sender's; and as long as the replica follows
-- it stands where the sender knows it, and nothing goes further.
pub record IsKnown (place : Place) (may_bring : Packet → Type 0) (may_answer : Ack → Type 0) (epoch seq : ℕ)
    (attached : Bool) : Type 0 where
  pub behind : place.epoch ≤ epoch
  pub sent : (p : Packet) → may_bring p → epoch_of p ≤ epoch
  pub answered : (a : Ack) → may_answer a → a.epoch ≤ epoch
  pub stands : attached ≡ true → ack_of place ≡ record { epoch = epoch; seq = seq }
  pub brings : attached ≡ true → (p : Packet) → may_bring p → IsUpTo epoch seq (own_ack p)
  pub answers : attached ≡ true → (a : Ack) → may_answer a → IsUpTo epoch seq a

-- the wire, the epoch, the last operation that was acknowledged, whether the replica follows, and how many calls have
-- failed or were refused
pub record Sender (W : Type 0) : Type 0 where
  pub wire : W
  pub epoch : ℕ
  pub seq : ℕ
  pub attached : Bool
  pub faults : ℕ
  pub refusals : ℕ

-- nothing was sent over the wire yet, and its replica took nothing
pub record IsUnused (place : Place) (may_bring : Packet → Type 0) (may_answer : Ack → Type 0) : Type 0 where
  pub stands : place ≡ first_place
  pub brings : (p : Packet) → may_bring p → ⊥
  pub answers : (a : Ack) → may_answer a → ⊥

-- the count of the fault rises
abbrev pub counted : {W : Type 0} → LinkFault → Sender W → Sender W
counted fault s = record s { faults = faults_with fault s.faults; refusals = refusals_with fault s.refusals }

-- the same, and no replica follows
abbrev pub lost : {W : Type 0} → LinkFault → Sender W → Sender W
lost fault s = record (counted fault s) { attached = false }

-- a call that goes well leaves the link's own counts, and one that gives up raises the count of its fault by one
pub record IsCounted {W T : Type 0} (old new : Sender W) (result : Result T LinkFault) : Type 0 where
  pub faults_are : new.faults ≡ faults_after result old.faults
  pub refusals_are : new.refusals ≡ refusals_after result old.refusals

-- why a packet wasn't acknowledged: there was no number for it, and nothing was sent, or each of eight turns failed
abbrev pub IsUnheard : {W : Type 0} → (faults : W → ℕ) → (old new : Sender W) → (no_number : Type 0) → Type 0
IsUnheard faults old new no_number = (no_number × (new ≡ lost Failed old))
    ⊎ RoseBy 8 (faults old.wire) (faults new.wire)

-- why no list was handed over: the wire failed, or the wire did well and the replica stands elsewhere than the link
-- knows
abbrev pub IsElsewhere : {W : Type 0} → (place : W → Place) → (faults : W → ℕ) → (old new : Sender W) → Type 0
IsElsewhere place faults old new =
    Rose (faults old.wire) (faults new.wire)
    ⊎ ((ack_of (place old.wire) ≡ record { epoch = old.epoch; seq = old.seq } → ⊥)
    × (faults new.wire ≡ faults old.wire))

-- the number of the next operation, where the replica follows
abbrev pub next_op : {W : Type 0} → Sender W → Option ℕ
next_op s = if s.attached then (Some (s.seq + 1)) else None

-- the replica's list, over a wire that tells
abbrev pub told_list : (tells : Bool) → Place → Option (List Entry)
told_list true place = Some place.list
told_list false place = None

pub tells_what_it_gives : (tells : Bool) (place : Place) → IfSome (told_list tells place) (λ list. place.list ≡ list)
tells_what_it_gives true place = λ i. place.list
tells_what_it_gives false place = tt

-- neither count has fallen
pub record IsLater {W : Type 0} (faults refusals : W → ℕ) (old new : W) : Type 0 where
  pub faults_later : faults old ≤ faults new
  pub refusals_later : refusals old ≤ refusals new
