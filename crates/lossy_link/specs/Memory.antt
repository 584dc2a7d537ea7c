-- A wire in memory, each of whose turns has a fate.
use Rattle.std.specs.Prelude.{◌≡◌, ◌⊎◌, ℕ, ◌-◌, nat_eq, nat_lt, if◌then◌else◌, List, [], ◌∷◌, ◌++◌, length, Contains}
use Rattle.std.specs.Prelude.{slice_get, Option, Some, None, option_map, unwrap_or}
use Rattle.enq_base.specs.Causes.{one_more}
use Rattle.io_edge.specs.declared.fate.Fate.{Fate}
use Rattle.io_edge.specs.declared.fate.Fate.TheVariants.{Pass, LosePacket, LoseAck, Twice, Old}
use Rattle.lossy_link.specs.declared.packet.Ack.{Ack}
use Rattle.lossy_link.specs.declared.packet.Packet.{Packet}
use Rattle.lossy_link.specs.Packets.{Place, first_place, ack_of, taken, taken_all}

-- where the replica stands, the fates, the turns made, the packets sent in turns with a planned fate, and the counts
pub record MemWireState : Type 0 where
  pub place : Place
  pub plan : List Fate
  pub turns : ℕ
  pub sent : List Packet
  pub faults : ℕ
  pub refusals : ℕ

abbrev pub unused : List Fate → MemWireState
unused plan = record { place = first_place; plan = plan; turns = 0; sent = []; faults = 0; refusals = 0 }

-- a packet that was kept may come once more
abbrev pub may_bring : MemWireState → Packet → Type 0
may_bring wire packet = Contains wire.sent packet

-- an acknowledgement comes back at once, or never
abbrev pub may_answer : MemWireState → Ack → Type 0
may_answer wire ack = ⊥

-- the fate of the turn that comes
abbrev pub next_fate : MemWireState → Fate
next_fate wire = unwrap_or (slice_get wire.plan wire.turns) Pass

-- the packets that were sent, with this one
abbrev pub noted : MemWireState → Packet → List Packet
noted wire packet = if nat_lt wire.turns (length wire.plan) then wire.sent ++ packet ∷ [] else wire.sent

-- the packet of this number, counted from 1
abbrev pub numbered : List Packet → ℕ → Option Packet
numbered sent number = if nat_eq number 0 then None else slice_get sent (number - 1)

abbrev pub just : Option Packet → List Packet
just None = []
just (Some packet) = packet ∷ []

-- the packets that come to the replica in a turn of this fate
abbrev pub coming : Fate → (sent : List Packet) → Packet → List Packet
coming Pass sent packet = packet ∷ []
coming LosePacket sent packet = []
coming LoseAck sent packet = packet ∷ []
coming Twice sent packet = packet ∷ (packet ∷ [])
coming (Old number) sent packet = just (numbered sent number)

-- what is answered in it, to a replica that stood here
abbrev pub answer_in : Fate → (sent : List Packet) → Packet → Place → Option Ack
answer_in Pass sent packet place = Some (ack_of (taken place packet))
answer_in LosePacket sent packet place = None
answer_in LoseAck sent packet place = None
answer_in Twice sent packet place = Some (ack_of (taken (taken place packet) packet))
answer_in (Old number) sent packet place = option_map (λ old. ack_of (taken place old)) (numbered sent number)

-- what is answered in the turn that comes
abbrev pub answer_of : Packet → MemWireState → Option Ack
answer_of packet wire = answer_in (next_fate wire) (noted wire packet) packet wire.place

-- the wire after the turn that comes
abbrev pub played : Packet → MemWireState → MemWireState
played packet wire =
    record wire {
      place = taken_all wire.place (coming (next_fate wire) (noted wire packet) packet);
      turns = one_more wire.turns;
      sent = noted wire packet;
    }

-- In a turn for which there was no memory the packet came once or not at all, and was kept or not.
pub record IsCutShort (packet : Packet) (old new : MemWireState) : Type 0 where
  pub stands : (new.place ≡ old.place) ⊎ (new.place ≡ taken old.place packet)
  pub kept : (new.sent ≡ old.sent) ⊎ (new.sent ≡ noted old packet)
  pub counted : new.turns ≡ one_more old.turns
  pub planned : new.plan ≡ old.plan
  pub faults_stay : new.faults ≡ old.faults
  pub refusals_stay : new.refusals ≡ old.refusals

abbrev pub faulted : MemWireState → MemWireState
faulted wire = record wire { faults = one_more wire.faults }

abbrev pub refused : MemWireState → MemWireState
refused wire = record wire { refusals = one_more wire.refusals }

-- the same wire with another count of faults
abbrev pub counted_in : MemWireState → ℕ → MemWireState
counted_in wire faults = record wire { faults = faults }
