-- What each step of a compaction leaves, done or cut short.
use Rattle.std.proofs.Common.{◌≡◌, ◌≢◌, ℕ, ◌+◌, ◌-◌, ◌<◌, ◌^◌, List, [], ◌∷◌, ◌++◌, length, take, drop, refl, sym, ap, subst, ◌∙◌, append_assoc, arith, inl, inr, length-append}
use Rattle.std.specs.Int.{w64, from_be_bytes, to_be_bytes}
use Rattle.std.proofs.lemmas.Bool.{cases_eq}
use Rattle.std.proofs.lemmas.List.{take-append-drop, length-take, length-drop}
use Rattle.bk_disk.specs.Disk.{written, Torn, Follows, Only}
use Rattle.byte_fields.proofs.lemmas.FieldLaws.{wide64}
use Rattle.gate_log.proofs.Parts.{torn_inside, written_inside}
use Rattle.backup_file.specs.Compacting.{IsLaid, IsLaidBeside, IsNextSlot, IsShutSlot, NamesLog, next_place}
use Rattle.backup_file.specs.declared.handed.Handed.{Handed}
use Rattle.backup_file.specs.declared.places.Place.{Place}
use Rattle.backup_file.specs.declared.places.Slot.{Slot}
use Rattle.backup_file.specs.declared.places.Slots.{Slots}
use Rattle.backup_file.specs.declared.places.Which.{Which}
use Rattle.backup_file.specs.Slots.{IsSlot, other, slot_at, slot_in, with_slot}
use Rattle.backup_file.specs.File.{AreSlotted, Stands}
use Rattle.backup_file.proofs.lemmas.Slotted.{HasSlot, beside_stands, force_newer, has_slot, laid_stands, that_slot, with_itself, with_twice}

-- what a crash leaves of what was on the disk before a write
pub from_only : (step : List ℕ → List ℕ → Type 0) (bytes : List ℕ) (before now : List ℕ → Type 0) → Only bytes before → Follows step before now → (c : List ℕ)
    → now c → step bytes c
from_only step bytes before now only follows c left = let from = follows c left in subst (λ b. step b c) (only from.0 from.1) from.2

torn_at : (o n at size : ℕ) → o ≡ at → n ≡ size → (images now : List ℕ → Type 0) → Follows (Torn o n) images now → Follows (Torn at size) images now
torn_at o n at size there same images now follows =
    subst (λ k. Follows (Torn k size) images now) there (subst (λ k. Follows (Torn o k) images now) same follows)

pub numbers_length : (a b : ℕ) → length (to_be_bytes w64 a ++ to_be_bytes w64 b) ≡ 16
numbers_length a b = omega (arith, length-append (to_be_bytes w64 a) (to_be_bytes w64 b), wide64.len a, wide64.len b)

-- ---- a write of one slot

module _ (gate : ℕ) (s : Slots) (w : Which) (rest bytes : List ℕ) (head : List ℕ) (whole : bytes ≡ head ++ rest) (sl : AreSlotted gate s head) where
  abbrev slot : HasSlot gate s head w
  slot = has_slot gate s head sl w

  -- another slot in its place
  module _ (x : Slot) (raw : List ℕ) (is : IsSlot raw x) (c : List ℕ) (parts : c ≡ slot.before ++ (raw ++ (slot.after ++ rest))) where
    abbrev new_head : List ℕ
    new_head = slot.before ++ (raw ++ slot.after)

    new_whole : c ≡ new_head ++ rest
    new_whole = parts ∙ ap (λ (b : List ℕ). slot.before ++ b) (sym (append_assoc raw slot.after rest)) ∙ sym (append_assoc slot.before (raw ++ slot.after) rest)

    new_slotted : AreSlotted gate (with_slot s w x) new_head
    new_slotted = slot.again x raw is

  abbrev numbers : List ℕ
  numbers = slot.slot.number ++ slot.slot.offset

  raw_parts : bytes ≡ slot.before ++ (((slot_in s w).gate ∷ numbers) ++ (slot.after ++ rest))
  raw_parts =
      whole ∙ ap (λ (b : List ℕ). b ++ rest) slot.parts ∙ append_assoc slot.before (slot.raw ++ slot.after) rest
      ∙ ap (λ (b : List ℕ). slot.before ++ b) (append_assoc slot.raw slot.after rest)
      ∙ ap (λ (b : List ℕ). slot.before ++ (b ++ (slot.after ++ rest))) slot.slot.parts

  abbrev with_gate : ℕ → Slot
  with_gate b = record { gate = b; generation = (slot_in s w).generation; start = (slot_in s w).start }

  gate_slot : (b : ℕ) → IsSlot (b ∷ numbers) (with_gate b)
  gate_slot b = record {
    number = slot.slot.number;
    offset = slot.slot.offset;
    parts = refl;
    eight = slot.slot.eight;
    as_many = slot.slot.as_many;
    generation = slot.slot.generation;
    start = slot.slot.start;
  }

  one_byte : (k : List ℕ) → length k ≡ 1 → (b : ℕ) × (k ≡ b ∷ [])
  one_byte [] e = absurd (omega (arith, e))
  one_byte (b ∷ []) e = (b, refl)
  one_byte (b ∷ d ∷ k) e = absurd (omega (arith, e))

  -- a write of its gate leaves some byte there
  gate_torn : (c : List ℕ) → Torn (slot_at gate w) 1 bytes c → (b : ℕ) × (c ≡ slot.before ++ ((b ∷ numbers) ++ (slot.after ++ rest)))
  gate_torn c torn =
      let t = torn_inside slot.before ((slot_in s w).gate ∷ []) (numbers ++ (slot.after ++ rest)) bytes raw_parts (slot_at gate w) 1 slot.place refl c torn in
      let one = one_byte t.0 t.2 in
      (one.0, t.1 ∙ ap (λ (k : List ℕ). slot.before ++ (k ++ (numbers ++ (slot.after ++ rest)))) one.1)

  gate_written : (b : ℕ) → written bytes (slot_at gate w) (b ∷ []) ≡ slot.before ++ ((b ∷ numbers) ++ (slot.after ++ rest))
  gate_written b =
      written_inside slot.before ((slot_in s w).gate ∷ []) (numbers ++ (slot.after ++ rest)) bytes raw_parts (slot_at gate w) 1 slot.place refl (b ∷ []) refl

  behind_gate : bytes ≡ (slot.before ++ (slot_in s w).gate ∷ []) ++ (numbers ++ (slot.after ++ rest))
  behind_gate = raw_parts ∙ sym (append_assoc slot.before ((slot_in s w).gate ∷ []) (numbers ++ (slot.after ++ rest)))

  gate_size : length (slot.before ++ (slot_in s w).gate ∷ []) ≡ slot_at gate w + 1
  gate_size = omega (arith, length-append slot.before ((slot_in s w).gate ∷ []), slot.place)

  numbers_size : length numbers ≡ 16
  numbers_size = omega (arith, length-append slot.slot.number slot.slot.offset, slot.slot.eight, slot.slot.as_many)

  in_place : (k : List ℕ) → (slot.before ++ (slot_in s w).gate ∷ []) ++ (k ++ (slot.after ++ rest))
      ≡ slot.before ++ (((slot_in s w).gate ∷ k) ++ (slot.after ++ rest))
  in_place k = append_assoc slot.before ((slot_in s w).gate ∷ []) (k ++ (slot.after ++ rest))

  abbrev read_as : List ℕ → Slot
  read_as k = record { gate = (slot_in s w).gate; generation = from_be_bytes w64 (take 8 k); start = from_be_bytes w64 (drop 8 k) }

  any_slot : (k : List ℕ) → length k ≡ 16 → IsSlot ((slot_in s w).gate ∷ k) (read_as k)
  any_slot k size = record {
    number = take 8 k;
    offset = drop 8 k;
    parts = ap (λ (b : List ℕ). (slot_in s w).gate ∷ b) (sym (take-append-drop 8 k));
    eight = omega (arith, length-take 8 k, size);
    as_many = omega (arith, length-drop 8 k, size);
    generation = refl;
    start = refl;
  }

  -- a write of its numbers leaves some there
  numbers_torn : (c : List ℕ) → Torn (slot_at gate w + 1) 16 bytes c → (k : List ℕ)
      × (c ≡ slot.before ++ (((slot_in s w).gate ∷ k) ++ (slot.after ++ rest))) × (length k ≡ 16)
  numbers_torn c torn =
      let t = torn_inside (slot.before ++ (slot_in s w).gate ∷ []) numbers (slot.after ++ rest) bytes behind_gate
      (slot_at gate w + 1) 16 gate_size numbers_size c
      torn in
      (t.0, t.1 ∙ in_place t.0, t.2)

  numbers_written : (k : List ℕ) → length k ≡ 16
      → written bytes (slot_at gate w + 1) k ≡ slot.before ++ (((slot_in s w).gate ∷ k) ++ (slot.after ++ rest))
  numbers_written k size =
      written_inside (slot.before ++ (slot_in s w).gate ∷ []) numbers (slot.after ++ rest) bytes behind_gate
      (slot_at gate w + 1) 16 gate_size numbers_size k size
      ∙ in_place k

-- ---- the other slot is closed

module _ (p : Place) (rest : List ℕ) (l : List Handed) (bytes : List ℕ) (images : List ℕ → Type 0) (names : NamesLog p rest l) where
  abbrev beside : Which
  beside = other p.which

  -- the file as it is, whatever the other slot is
  pub laid_now : IsLaid p.gate p.slots rest bytes images → Stands bytes l
  laid_now laid =
      inr (laid_stands p.gate p.slots p.which laid.head rest names.log bytes names.offset l laid.slotted names.force names.starts names.has laid.whole)

  pub laid_left : IsLaid p.gate p.slots rest bytes images → (now : List ℕ → Type 0) → ((c : List ℕ) → now c → images c) → (c : List ℕ) → now c → Stands c l
  laid_left laid now fewer c left = subst (λ b. Stands b l) (sym (laid.durable c (fewer c left))) (laid_now laid)

  pub is_shut : IsLaid p.gate p.slots rest bytes images → (slot_in p.slots beside).gate ≢ 1 → IsLaidBeside p IsShutSlot rest bytes images
  is_shut laid shut = record {
    slot = slot_in p.slots beside;
    holds = shut;
    laid = subst (λ (s : Slots). IsLaid p.gate s rest bytes images) (sym (with_itself p.slots beside)) laid;
  }

  pub shutting_left : (laid : IsLaid p.gate p.slots rest bytes images) → (slot_in p.slots beside).gate ≡ 1 → (o n : ℕ) → o ≡ slot_at p.gate beside → n ≡ 1
      → (now : List ℕ → Type 0)
      → Follows (Torn o n) images now → (c : List ℕ) → now c → Stands c l
  shutting_left laid open_gate o n there one now follows c left =
      let torn = from_only (Torn (slot_at p.gate beside) 1) bytes images now laid.durable (torn_at o n (slot_at p.gate beside) 1 there one images now follows) c
      left in
      let t = gate_torn p.gate p.slots beside rest bytes laid.head laid.whole laid.slotted c torn in
      let x = with_gate p.gate p.slots beside rest bytes laid.head laid.whole laid.slotted t.0 in
      let is = gate_slot p.gate p.slots beside rest bytes laid.head laid.whole laid.slotted t.0 in
      let raw : List ℕ = t.0 ∷ numbers p.gate p.slots beside rest bytes laid.head laid.whole laid.slotted in
      beside_stands p rest l names x (new_head p.gate p.slots beside rest bytes laid.head laid.whole laid.slotted x raw is c t.1) c
      (new_slotted p.gate p.slots beside rest bytes laid.head laid.whole laid.slotted x raw is c t.1)
      (new_whole p.gate p.slots beside rest bytes laid.head laid.whole laid.slotted x raw is c t.1)
      (inr (names.force.newest open_gate))

  pub shut_now : (laid : IsLaid p.gate p.slots rest bytes images) → (o : ℕ) (text new : List ℕ) (left : List ℕ → Type 0) → o ≡ slot_at p.gate beside
      → text ≡ 0 ∷ [] → new ≡ written bytes o text → Only new left → IsLaidBeside p IsShutSlot rest new left
  shut_now laid o text new left there zero is only =
      let parts = is ∙ ap (λ (k : ℕ). written bytes k text) there ∙ ap (λ (b : List ℕ). written bytes (slot_at p.gate beside) b) zero
      ∙ gate_written p.gate p.slots beside rest bytes laid.head laid.whole laid.slotted 0 in
      let x = with_gate p.gate p.slots beside rest bytes laid.head laid.whole laid.slotted 0 in
      let is_x = gate_slot p.gate p.slots beside rest bytes laid.head laid.whole laid.slotted 0 in
      let raw : List ℕ = 0 ∷ numbers p.gate p.slots beside rest bytes laid.head laid.whole laid.slotted in
      record {
        slot = x;
        holds = λ e. cc;
        laid = record {
          head = new_head p.gate p.slots beside rest bytes laid.head laid.whole laid.slotted x raw is_x new parts;
          whole = new_whole p.gate p.slots beside rest bytes laid.head laid.whole laid.slotted x raw is_x new parts;
          slotted = new_slotted p.gate p.slots beside rest bytes laid.head laid.whole laid.slotted x raw is_x new parts;
          durable = only;
        };
      }

  -- ---- it gets its numbers

  module _ (b : IsLaidBeside p IsShutSlot rest bytes images) where
    abbrev slots : Slots
    slots = with_slot p.slots beside b.slot

    is_slot : slot_in slots beside ≡ b.slot
    is_slot = that_slot p.slots p.which b.slot

    stays_shut : (slot_in slots beside).gate ≢ 1
    stays_shut e = b.holds (ap (λ (x : Slot). x.gate) (sym is_slot) ∙ e)

    pub filling_left : (o n : ℕ) → o ≡ slot_at p.gate beside + 1 → n ≡ 16 → (now : List ℕ → Type 0) → Follows (Torn o n) images now → (c : List ℕ) → now c
        → Stands c l
    filling_left o n there size now follows c left =
        let torn = from_only (Torn (slot_at p.gate beside + 1) 16) bytes images now b.laid.durable
        (torn_at o n (slot_at p.gate beside + 1) 16 there size images now follows) c left in
        let t = numbers_torn p.gate slots beside rest bytes b.laid.head b.laid.whole b.laid.slotted c torn in
        let x = read_as p.gate slots beside rest bytes b.laid.head b.laid.whole b.laid.slotted t.0 in
        let is = any_slot p.gate slots beside rest bytes b.laid.head b.laid.whole b.laid.slotted t.0 t.2 in
        let raw : List ℕ = (slot_in slots beside).gate ∷ t.0 in
        let head = new_head p.gate slots beside rest bytes b.laid.head b.laid.whole b.laid.slotted x raw is c t.1 in
        beside_stands p rest l names x head c
        (subst (λ (s : Slots). AreSlotted p.gate s head) (with_twice p.slots p.which b.slot x)
        (new_slotted p.gate slots beside rest bytes b.laid.head b.laid.whole b.laid.slotted x raw is c t.1))
        (new_whole p.gate slots beside rest bytes b.laid.head b.laid.whole b.laid.slotted x raw is c t.1) (inl stays_shut)

    pub filled_now : (at generation o : ℕ) (text new : List ℕ) (left : List ℕ → Type 0) → o ≡ slot_at p.gate beside + 1
        → generation ≡ (slot_in p.slots p.which).generation + 1
        → generation < 2 ^ 64 → at < 2 ^ 64 → text ≡ to_be_bytes w64 generation ++ to_be_bytes w64 at
        → new ≡ written bytes o text → Only new left → IsLaidBeside p (IsNextSlot p at) rest new left
    filled_now at generation o text new left there next low room spelled is only =
        let k : List ℕ = to_be_bytes w64 generation ++ to_be_bytes w64 at in
        let size : length k ≡ 16 = omega (arith, length-append (to_be_bytes w64 generation) (to_be_bytes w64 at), wide64.len generation, wide64.len at) in
        let parts = is ∙ ap (λ (k : ℕ). written bytes k text) there ∙ ap (λ (t : List ℕ). written bytes (slot_at p.gate beside + 1) t) spelled
        ∙ numbers_written p.gate slots beside rest bytes b.laid.head b.laid.whole b.laid.slotted k size in
        let x : Slot = record { gate = (slot_in slots beside).gate; generation = generation; start = at } in
        let is_x : IsSlot ((slot_in slots beside).gate ∷ k) x = record {
          number = to_be_bytes w64 generation;
          offset = to_be_bytes w64 at;
          parts = refl;
          eight = wide64.len generation;
          as_many = wide64.len at;
          generation = sym (wide64.again generation low);
          start = sym (wide64.again at room);
        } in
        let raw : List ℕ = (slot_in slots beside).gate ∷ k in
        let head = new_head p.gate slots beside rest bytes b.laid.head b.laid.whole b.laid.slotted x raw is_x new parts in
        record {
          slot = x;
          holds = record { shut = stays_shut; generation = next; start = refl };
          laid = record {
            head = head;
            whole = new_whole p.gate slots beside rest bytes b.laid.head b.laid.whole b.laid.slotted x raw is_x new parts;
            slotted = subst (λ (s : Slots). AreSlotted p.gate s head) (with_twice p.slots p.which b.slot x)
                (new_slotted p.gate slots beside rest bytes b.laid.head b.laid.whole b.laid.slotted x raw is_x new parts);
            durable = only;
          };
        }

  -- ---- and is opened

  module _ (at : ℕ) (b : IsLaidBeside p (IsNextSlot p at) rest bytes images) where
    abbrev next_slots : Slots
    next_slots = with_slot p.slots beside b.slot

    is_next : slot_in next_slots beside ≡ b.slot
    is_next = that_slot p.slots p.which b.slot

    abbrev gated : ℕ → Slot
    gated g = record { gate = g; generation = (slot_in p.slots p.which).generation + 1; start = at }

    as_gated : (g : ℕ) → with_gate p.gate next_slots beside rest bytes b.laid.head b.laid.whole b.laid.slotted g ≡ gated g
    as_gated g = λ i. record {
      gate = g;
      generation = (ap (λ (x : Slot). x.generation) is_next ∙ b.holds.generation) i;
      start = (ap (λ (x : Slot). x.start) is_next ∙ b.holds.start) i;
    }

    module _ (g : ℕ) (c : List ℕ)
        (parts : c ≡ (slot p.gate next_slots beside rest bytes b.laid.head b.laid.whole b.laid.slotted).before
        ++ ((g ∷ numbers p.gate next_slots beside rest bytes b.laid.head b.laid.whole b.laid.slotted)
        ++ ((slot p.gate next_slots beside rest bytes b.laid.head b.laid.whole b.laid.slotted).after ++ rest))) where
      abbrev opened_head : List ℕ
      opened_head = new_head p.gate next_slots beside rest bytes b.laid.head b.laid.whole b.laid.slotted
          (with_gate p.gate next_slots beside rest bytes b.laid.head b.laid.whole b.laid.slotted g)
          (g ∷ numbers p.gate next_slots beside rest bytes b.laid.head b.laid.whole b.laid.slotted)
          (gate_slot p.gate next_slots beside rest bytes b.laid.head b.laid.whole b.laid.slotted g) c parts

      opened_whole : c ≡ opened_head ++ rest
      opened_whole = new_whole p.gate next_slots beside rest bytes b.laid.head b.laid.whole b.laid.slotted
          (with_gate p.gate next_slots beside rest bytes b.laid.head b.laid.whole b.laid.slotted g)
          (g ∷ numbers p.gate next_slots beside rest bytes b.laid.head b.laid.whole b.laid.slotted)
          (gate_slot p.gate next_slots beside rest bytes b.laid.head b.laid.whole b.laid.slotted g) c parts

      opened_slotted : AreSlotted p.gate (with_slot p.slots beside (gated g)) opened_head
      opened_slotted =
          subst (λ (s : Slots). AreSlotted p.gate s opened_head)
          (with_twice p.slots p.which b.slot (with_gate p.gate next_slots beside rest bytes b.laid.head b.laid.whole b.laid.slotted g)
          ∙ ap (λ (x : Slot). with_slot p.slots beside x) (as_gated g))
          (new_slotted p.gate next_slots beside rest bytes b.laid.head b.laid.whole b.laid.slotted
          (with_gate p.gate next_slots beside rest bytes b.laid.head b.laid.whole b.laid.slotted g)
          (g ∷ numbers p.gate next_slots beside rest bytes b.laid.head b.laid.whole b.laid.slotted)
          (gate_slot p.gate next_slots beside rest bytes b.laid.head b.laid.whole b.laid.slotted g) c parts)

      -- whichever slot that leaves in force
      opened_stands : NamesLog (next_place p at) rest l → Stands c l
      opened_stands newer =
          let one_more : (slot_in p.slots p.which).generation < (slot_in p.slots p.which).generation + 1 = omega arith in
          elim (cases_eq g 1) [
            | inl open_gate ↦ inr
                (laid_stands p.gate (with_slot p.slots beside (gated g)) beside opened_head rest newer.log c newer.offset l opened_slotted
                (force_newer p.slots p.which (gated g) open_gate one_more)
                (newer.starts ∙ ap (λ (x : Slot). x.start) (that_slot p.slots p.which (gated 1))
                ∙ sym (ap (λ (x : Slot). x.start) (that_slot p.slots p.which (gated g))))
                newer.has opened_whole)
            | inr shut ↦ beside_stands p rest l names (gated g) opened_head c opened_slotted opened_whole (inl shut)
          ]

    pub opening_left : NamesLog (next_place p at) rest l → (o n : ℕ) → o ≡ slot_at p.gate beside → n ≡ 1 → (now : List ℕ → Type 0)
        → Follows (Torn o n) images now → (c : List ℕ) → now c → Stands c l
    opening_left newer o n there one now follows c left =
        let torn = from_only (Torn (slot_at p.gate beside) 1) bytes images now b.laid.durable
        (torn_at o n (slot_at p.gate beside) 1 there one images now follows) c left in
        let t = gate_torn p.gate next_slots beside rest bytes b.laid.head b.laid.whole b.laid.slotted c torn in
        opened_stands t.0 c t.1 newer

    pub opened_now : (o : ℕ) (text new : List ℕ) (left : List ℕ → Type 0) → o ≡ slot_at p.gate beside → text ≡ 1 ∷ [] → new ≡ written bytes o text
        → Only new left → IsLaid p.gate (next_place p at).slots rest new left
    opened_now o text new left there one is only =
        let parts = is ∙ ap (λ (k : ℕ). written bytes k text) there ∙ ap (λ (t : List ℕ). written bytes (slot_at p.gate beside) t) one
        ∙ gate_written p.gate next_slots beside rest bytes b.laid.head b.laid.whole b.laid.slotted 1 in
        record { head = opened_head 1 new parts; whole = opened_whole 1 new parts; slotted = opened_slotted 1 new parts; durable = only }
