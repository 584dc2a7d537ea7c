-- Slots that are written, one at a time, and logs that they name.
use Rattle.std.proofs.Common.{◌≡◌, ◌≢◌, ◌⊎◌, ℕ, ◌+◌, ◌<◌, List, [], ◌∷◌, ◌++◌, length, refl, sym, ap, ◌∙◌, append_assoc, append-nil, arith, inl, inr, length-append}
use Rattle.backup_file.specs.Compacting.{HasLog, NamesLog, next_place}
use Rattle.backup_file.specs.declared.handed.Handed.{Handed}
use Rattle.backup_file.specs.declared.places.Place.{Place}
use Rattle.backup_file.specs.declared.places.Slot.{Slot}
use Rattle.backup_file.specs.declared.places.Slots.{Slots}
use Rattle.backup_file.specs.declared.places.Which.{Which}
use Rattle.backup_file.specs.declared.places.Which.TheVariants.{One, Two}
use Rattle.backup_file.specs.Slots.{IsInForce, IsSlot, other, slot_at, slot_in, slots_head, with_slot}
use Rattle.backup_file.specs.File.{AreSlotted, IsVersion2, Stands}
use Rattle.backup_file.proofs.lemmas.Meaning.{slot_size}

-- ---- one slot among the bytes

-- where a slot stands, and that another may stand in its place
pub record HasSlot (gate : ℕ) (s : Slots) (head : List ℕ) (w : Which) : Type 0 where
  pub before : List ℕ
  pub raw : List ℕ
  pub after : List ℕ
  pub parts : head ≡ before ++ (raw ++ after)
  pub place : length before ≡ slot_at gate w
  pub slot : IsSlot raw (slot_in s w)
  pub again : (x : Slot) (bytes : List ℕ) → IsSlot bytes x → AreSlotted gate (with_slot s w x) (before ++ (bytes ++ after))

pub has_slot : (gate : ℕ) (s : Slots) (head : List ℕ) → AreSlotted gate s head → (w : Which) → HasSlot gate s head w
has_slot gate s head sl One = record {
  before = sl.front ++ 1 ∷ slots_head;
  raw = sl.one;
  after = sl.two;
  parts = sl.spelled ∙ sym (append_assoc sl.front (1 ∷ slots_head) (sl.one ++ sl.two));
  place = omega (arith, length-append sl.front (1 ∷ slots_head), sl.place);
  slot = sl.first;
  again = λ x bytes is. record {
    front = sl.front;
    lists = sl.lists;
    is_front = sl.is_front;
    place = sl.place;
    one = bytes;
    two = sl.two;
    spelled = append_assoc sl.front (1 ∷ slots_head) (bytes ++ sl.two);
    first = is;
    second = sl.second;
  };
}
has_slot gate s head sl Two = record {
  before = sl.front ++ 1 ∷ (slots_head ++ sl.one);
  raw = sl.two;
  after = [];
  parts = sl.spelled ∙ ap (λ (b : List ℕ). sl.front ++ 1 ∷ (slots_head ++ (sl.one ++ b))) (sym (append-nil sl.two))
      ∙ sym (append_assoc sl.front (1 ∷ (slots_head ++ sl.one)) (sl.two ++ []));
  place = omega (
    arith,
    length-append sl.front (1 ∷ (slots_head ++ sl.one)),
    length-append slots_head sl.one,
    slot_size sl.one s.one sl.first,
    sl.place,
  );
  slot = sl.second;
  again = λ x bytes is. record {
    front = sl.front;
    lists = sl.lists;
    is_front = sl.is_front;
    place = sl.place;
    one = sl.one;
    two = bytes;
    spelled = append_assoc sl.front (1 ∷ (slots_head ++ sl.one)) (bytes ++ [])
        ∙ ap (λ (b : List ℕ). sl.front ++ 1 ∷ (slots_head ++ (sl.one ++ b))) (append-nil bytes);
    first = sl.first;
    second = is;
  };
}

-- ---- which one is in force then

pub force_shut : (s : Slots) (w : Which) (x : Slot) → IsInForce s w → x.gate ≢ 1 → IsInForce (with_slot s (other w) x) w
force_shut s One x f shut = record { opened = f.opened; newest = λ e. absurd (shut e) }
force_shut s Two x f shut = record { opened = f.opened; newest = λ e. absurd (shut e) }

pub force_older : (s : Slots) (w : Which) (x : Slot) → IsInForce s w → x.generation < (slot_in s w).generation → IsInForce (with_slot s (other w) x) w
force_older s One x f less = record { opened = f.opened; newest = λ e. less }
force_older s Two x f less = record { opened = f.opened; newest = λ e. less }

pub force_newer : (s : Slots) (w : Which) (x : Slot) → x.gate ≡ 1 → (slot_in s w).generation < x.generation → IsInForce (with_slot s (other w) x) (other w)
force_newer s One x open_gate more = record { opened = open_gate; newest = λ e. more }
force_newer s Two x open_gate more = record { opened = open_gate; newest = λ e. more }

pub same_slot : (s : Slots) (w : Which) (x : Slot) → slot_in (with_slot s (other w) x) w ≡ slot_in s w
same_slot s One x = refl
same_slot s Two x = refl

pub that_slot : (s : Slots) (w : Which) (x : Slot) → slot_in (with_slot s (other w) x) (other w) ≡ x
that_slot s One x = refl
that_slot s Two x = refl

pub with_twice : (s : Slots) (w : Which) (x y : Slot) → with_slot (with_slot s (other w) x) (other w) y ≡ with_slot s (other w) y
with_twice s One x y = refl
with_twice s Two x y = refl

pub with_itself : (s : Slots) (w : Which) → with_slot s w (slot_in s w) ≡ s
with_itself s One = refl
with_itself s Two = refl

-- ---- a file stands for what the log leads to that its slot in force names

pub laid_stands : (gate : ℕ) (s : Slots) (w : Which) (head rest log bytes : List ℕ) (offset : ℕ) (l : List Handed) → AreSlotted gate s head → IsInForce s w
    → gate + 40 + offset ≡ (slot_in s w).start → HasLog rest offset log l → bytes ≡ head ++ rest → IsVersion2 bytes l
laid_stands gate s w head rest log bytes offset l slotted force starts h whole = record {
  place = record { gate = gate; slots = s; which = w };
  front = head ++ (h.before ++ log);
  is_front = record {
    head = head;
    gap = h.before;
    log = log;
    parts = refl;
    slotted = slotted;
    force = force;
    starts = ap (λ (n : ℕ). gate + 40 + n) h.sized ∙ starts;
    is_log = h.is_log;
  };
  shut = record {
    byte = h.byte;
    rest = h.more;
    whole = whole ∙ ap (λ (b : List ℕ). head ++ b) (h.parts ∙ sym (append_assoc h.before log (h.byte ∷ h.more)))
        ∙ sym (append_assoc head (h.before ++ log) (h.byte ∷ h.more));
    closed = h.closed;
  };
}

-- whatever the other slot is, as long as it isn't in force
pub beside_stands : (p : Place) (rest : List ℕ) (l : List Handed) → NamesLog p rest l → (x : Slot) (head c : List ℕ)
    → AreSlotted p.gate (with_slot p.slots (other p.which) x) head → c ≡ head ++ rest
    → (x.gate ≢ 1) ⊎ (x.generation < (slot_in p.slots p.which).generation) → Stands c l
beside_stands p rest l names x head c slotted whole (inl shut) =
    inr (laid_stands p.gate (with_slot p.slots (other p.which) x) p.which head rest names.log c names.offset l slotted
    (force_shut p.slots p.which x names.force shut)
    (names.starts ∙ ap (λ (y : Slot). y.start) (sym (same_slot p.slots p.which x))) names.has whole)
beside_stands p rest l names x head c slotted whole (inr less) =
    inr (laid_stands p.gate (with_slot p.slots (other p.which) x) p.which head rest names.log c names.offset l slotted
    (force_older p.slots p.which x names.force less)
    (names.starts ∙ ap (λ (y : Slot). y.start) (sym (same_slot p.slots p.which x))) names.has whole)

-- once it is in force the other slot names the new log
pub next_force : (p : Place) (at : ℕ) → IsInForce p.slots p.which → IsInForce (next_place p at).slots (next_place p at).which
next_force p at force =
    let x : Slot = record { gate = 1; generation = (slot_in p.slots p.which).generation + 1; start = at } in
    let one_more : (slot_in p.slots p.which).generation < (slot_in p.slots p.which).generation + 1 = omega arith in
    force_newer p.slots p.which x refl one_more

pub next_starts : (p : Place) (at offset : ℕ) → p.gate + 40 + offset ≡ at
    → p.gate + 40 + offset ≡ (slot_in (next_place p at).slots (next_place p at).which).start
next_starts p at offset starts =
    let x : Slot = record { gate = 1; generation = (slot_in p.slots p.which).generation + 1; start = at } in
    starts ∙ ap (λ (y : Slot). y.start) (sym (that_slot p.slots p.which x))

pub newer_names : (p : Place) (at : ℕ) (rest log : List ℕ) (offset : ℕ) (l : List Handed) → NamesLog p rest l → HasLog rest offset log l
    → p.gate + 40 + offset ≡ at → NamesLog (next_place p at) rest l
newer_names p at rest log offset l names has starts =
    record { force = next_force p at names.force; log = log; offset = offset; has = has; starts = next_starts p at offset starts }
