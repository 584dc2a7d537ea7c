-- Bytes of either version stand for one list of lists at most, or break at one offset.
use Rattle.std.proofs.Common.{◌≡◌, ℕ, ◌+◌, ◌<◌, ◌≤◌, List, ◌∷◌, ◌++◌, length, take, drop, get_or, refl, sym, ap, subst, ◌∙◌, append_assoc, arith, inl, inr, length-append}
use Rattle.std.proofs.lemmas.List.{take_at, drop_at}
use Rattle.std.specs.Int.{w64, from_be_bytes}
use Rattle.std.specs.List.{flat_map}
use Rattle.gate_log.specs.Gates.{IsShut}
use Rattle.gate_log.specs.Grammars.{IsReader}
use Rattle.gate_log.specs.Logs as logs
use Rattle.gate_log.proofs.lemmas.Logs.{bad_once, breaks_once, shut_once, shut_unbroken, stands_once, stands_unbroken}
use Rattle.backup_file.specs.declared.handed.Handed.{Handed}
use Rattle.backup_file.specs.declared.handed.Record.{Record}
use Rattle.backup_file.specs.declared.handed.Record.TheVariants.{Hand, Free}
use Rattle.backup_file.specs.declared.places.Slot.{Slot}
use Rattle.backup_file.specs.declared.places.Slots.{Slots}
use Rattle.backup_file.specs.declared.places.Which.{Which}
use Rattle.backup_file.specs.declared.places.Which.TheVariants.{One, Two}
use Rattle.backup_file.specs.File.{AreSlotted, EndsAtSlots, HasSlots, IsBad, IsVersion2, Keeps, Stands, front_grammar, log_grammar, name}
use Rattle.backup_file.specs.Reading.{record_at}
use Rattle.backup_file.specs.Slots.{IsInForce, IsSlot, IsUndecided, slot_at, slot_in, slots_head}
use Rattle.backup_file.specs.Spelling.{spelling}
use Rattle.backup_file.specs.File as versions
use Rattle.backup_file.proofs.lemmas.Records.{record_again, record_takes}

pub front_reader : IsReader front_grammar record_at
front_reader = record {
  takes = λ bytes r rest fits e. let t = record_takes bytes r rest fits e in (t.0.parts, t.1);
  again = record_again;
}

pub log_reader : IsReader log_grammar record_at
log_reader = record {
  takes = λ bytes r rest fits e. let t = record_takes bytes r rest fits e in (t.0.parts, t.1);
  again = record_again;
}

-- ---- parts of one length

pub same_parts : (a b x y : List ℕ) → a ++ x ≡ b ++ y → length a ≡ length b → (a ≡ b) × (x ≡ y)
same_parts a b x y e n = (
  sym (take_at a x (length b) n) ∙ ap (λ (l : List ℕ). take (length b) l) e ∙ take_at b y (length b) refl,
  sym (drop_at a x (length b) n) ∙ ap (λ (l : List ℕ). drop (length b) l) e ∙ drop_at b y (length b) refl,
)

first_alike : (b c : ℕ) (x y : List ℕ) → b ∷ x ≡ c ∷ y → (b ≡ c) × (x ≡ y)
first_alike b c x y e = (cc, cc)

-- ---- slots

slot_parts : (x y : Slot) → x.gate ≡ y.gate → x.generation ≡ y.generation → x.start ≡ y.start → x ≡ y
slot_parts x y gate generation start = λ i. record { gate = gate i; generation = generation i; start = start i }

pub slot_once : (bytes : List ℕ) (x y : Slot) → IsSlot bytes x → IsSlot bytes y → x ≡ y
slot_once bytes x y a b =
    let all = first_alike x.gate y.gate (a.number ++ a.offset) (b.number ++ b.offset) (sym a.parts ∙ b.parts) in
    let parts = same_parts a.number b.number a.offset b.offset all.1 (a.eight ∙ sym b.eight) in
    slot_parts x y all.0 (a.generation ∙ ap (λ l. from_be_bytes w64 l) parts.0 ∙ sym b.generation)
    (a.start ∙ ap (λ l. from_be_bytes w64 l) parts.1 ∙ sym b.start)

pub slot_size : (bytes : List ℕ) (x : Slot) → IsSlot bytes x → length bytes ≡ 17
slot_size bytes x s = omega (arith, ap (λ (l : List ℕ). length l) s.parts, length-append s.number s.offset, s.eight, s.as_many)

slots_no_record : (r : Record) (x y : List ℕ) → slots_head ++ x ≡ spelling r ++ y → ⊥
slots_no_record (Hand h) x y e = let odd : 3 ≡ 1 = ap (λ (l : List ℕ). get_or l 0 0) e in absurd (omega (arith, odd))
slots_no_record (Free u) x y e = let odd : 3 ≡ 2 = ap (λ (l : List ℕ). get_or l 0 0) e in absurd (omega (arith, odd))

pub head_size : (gate : ℕ) (s : Slots) (head : List ℕ) → AreSlotted gate s head → length head ≡ gate + 40
head_size gate s head sl =
    omega (
      arith,
      ap (λ (l : List ℕ). length l) sl.spelled,
      length-append sl.front (1 ∷ (slots_head ++ (sl.one ++ sl.two))),
      length-append slots_head (sl.one ++ sl.two),
      length-append sl.one sl.two,
      slot_size sl.one s.one sl.first,
      slot_size sl.two s.two sl.second,
      sl.place,
    )

module _ (bytes : List ℕ) (gate : ℕ) (s : Slots) (has : HasSlots bytes gate s) where
  behind : bytes ≡ has.slotted.front ++ 1 ∷ (slots_head ++ ((has.slotted.one ++ has.slotted.two) ++ has.rest))
  behind =
      let sl = has.slotted in
      has.whole ∙ ap (λ (l : List ℕ). l ++ has.rest) sl.spelled
      ∙ append_assoc sl.front (1 ∷ (slots_head ++ (sl.one ++ sl.two))) has.rest

  -- slots are no record, so the front log breaks at their gate
  pub slots_break : logs.BreaksAt front_grammar bytes gate
  slots_break =
      let sl = has.slotted in
      record {
        front = sl.front;
        state = sl.lists;
        rest = 1 ∷ (slots_head ++ ((sl.one ++ sl.two) ++ has.rest));
        whole = behind;
        place = sl.place;
        is_front = sl.is_front;
        ends = (refl, λ r more is legal same. slots_no_record r ((sl.one ++ sl.two) ++ has.rest) more same);
      }

  pub slots_named : take 8 bytes ≡ name
  slots_named =
      let f = has.slotted.is_front in
      let tail : List ℕ = 1 ∷ (slots_head ++ ((has.slotted.one ++ has.slotted.two) ++ has.rest)) in
      let rest : List ℕ = flat_map (logs.opened front_grammar) f.records in
      ap (λ (b : List ℕ). take 8 b) (behind ∙ ap (λ (b : List ℕ). b ++ tail) f.spelled ∙ append_assoc name rest tail)
      ∙ take_at name (rest ++ tail) 8 refl

  pub slots_long : versions.IsLong bytes
  slots_long =
      let long : 9 < length bytes =
      omega (arith, ap (λ (l : List ℕ). length l) has.whole, length-append has.head has.rest, head_size gate s has.head has.slotted) in
      long

  pub slots_bad : logs.IsBad front_grammar bytes gate
  slots_bad = record { long = slots_long; broken = inr slots_break }

-- there is one pair of slots at most
pub slots_once : (bytes : List ℕ) (g h : ℕ) (s t : Slots) → HasSlots bytes g s → HasSlots bytes h t → (g ≡ h) × (s ≡ t)
slots_once bytes g h s t a b =
    let gates : g ≡ h = breaks_once front_grammar record_at front_reader bytes g h (slots_break bytes g s a) (slots_break bytes h t b) in
    let sl = a.slotted in
    let tl = b.slotted in
    let heads = same_parts a.head b.head a.rest b.rest (sym a.whole ∙ b.whole) (head_size g s a.head sl ∙ ap (λ (n : ℕ). n + 40) gates ∙ sym
    (head_size h t b.head tl)) in
    let fronts = same_parts sl.front tl.front (1 ∷ (slots_head ++ (sl.one ++ sl.two))) (1 ∷ (slots_head ++ (tl.one ++ tl.two)))
    (sym sl.spelled ∙ heads.0 ∙ tl.spelled) (sl.place ∙ gates ∙ sym tl.place) in
    let tails : sl.one ++ sl.two ≡ tl.one ++ tl.two = ap (λ (l : List ℕ). drop 6 l) fronts.1 in
    let slots = same_parts sl.one tl.one sl.two tl.two tails (slot_size sl.one s.one sl.first ∙ sym (slot_size tl.one t.one tl.first)) in
    let ones : s.one ≡ t.one = slot_once tl.one s.one t.one (subst (λ l. IsSlot l s.one) slots.0 sl.first) tl.first in
    let twos : s.two ≡ t.two = slot_once tl.two s.two t.two (subst (λ l. IsSlot l s.two) slots.1 sl.second) tl.second in
    (gates, λ i. record { one = ones i; two = twos i })

-- and one in force of two
pub force_once : (s : Slots) (v w : Which) → IsInForce s v → IsInForce s w → v ≡ w
force_once s One One a b = refl
force_once s Two Two a b = refl
force_once s One Two a b = absurd (omega (arith, a.newest b.opened, b.newest a.opened))
force_once s Two One a b = absurd (omega (arith, a.newest b.opened, b.newest a.opened))

undecided_none : (s : Slots) (w : Which) → IsUndecided s → IsInForce s w → ⊥
undecided_none s One (inl shut) f = shut.0 f.opened
undecided_none s Two (inl shut) f = shut.1 f.opened
undecided_none s One (inr same) f = absurd (omega (arith, f.newest same.1, same.2))
undecided_none s Two (inr same) f = absurd (omega (arith, f.newest same.0, same.2))

-- ---- version 2

module _ (bytes : List ℕ) (l : List Handed) (v : IsVersion2 bytes l) where
  all_parts : bytes ≡ v.is_front.head ++ (v.is_front.gap ++ (v.is_front.log ++ v.shut.byte ∷ v.shut.rest))
  all_parts =
      let f = v.is_front in
      let tail : List ℕ = v.shut.byte ∷ v.shut.rest in
      v.shut.whole ∙ ap (λ (b : List ℕ). b ++ tail) f.parts ∙ append_assoc f.head (f.gap ++ f.log) tail
      ∙ ap (λ (b : List ℕ). f.head ++ b) (append_assoc f.gap f.log tail)

  pub version2_slots : HasSlots bytes v.place.gate v.place.slots
  version2_slots = record {
    head = v.is_front.head;
    rest = v.is_front.gap ++ (v.is_front.log ++ v.shut.byte ∷ v.shut.rest);
    whole = all_parts;
    slotted = v.is_front.slotted;
  }

  pub version2_log : IsShut v.is_front.log (drop (slot_in v.place.slots v.place.which).start bytes)
  version2_log =
      let f = v.is_front in
      let tail : List ℕ = v.shut.byte ∷ v.shut.rest in
      let size : length (f.head ++ f.gap) ≡ (slot_in v.place.slots v.place.which).start =
      omega (arith, length-append f.head f.gap, head_size v.place.gate v.place.slots f.head f.slotted, f.starts) in
      record {
        byte = v.shut.byte;
        rest = v.shut.rest;
        whole = ap (λ (b : List ℕ). drop (slot_in v.place.slots v.place.which).start b) (all_parts ∙ sym (append_assoc f.head f.gap (f.log ++ tail)))
            ∙ drop_at (f.head ++ f.gap) (f.log ++ tail) (slot_in v.place.slots v.place.which).start size;
        closed = v.shut.closed;
      }

  pub version2_from : v.place.gate + 40 ≤ (slot_in v.place.slots v.place.which).start
  version2_from = omega (arith, v.is_front.starts)

  pub version2_within : (slot_in v.place.slots v.place.which).start < length bytes
  version2_within =
      let f = v.is_front in
      let tail : List ℕ = v.shut.byte ∷ v.shut.rest in
      omega (
        arith,
        ap (λ (b : List ℕ). length b) all_parts,
        length-append f.head (f.gap ++ (f.log ++ tail)),
        length-append f.gap (f.log ++ tail),
        length-append f.log tail,
        head_size v.place.gate v.place.slots f.head f.slotted,
        f.starts,
      )

-- the start of the slot in force is one
pub starts_once : (bytes : List ℕ) (g h : ℕ) (s t : Slots) (v w : Which) → HasSlots bytes g s → HasSlots bytes h t → IsInForce s v → IsInForce t w
    → (slot_in s v).start ≡ (slot_in t w).start
starts_once bytes g h s t v w a b f e =
    let same = (slots_once bytes g h s t a b).1 in
    let which : v ≡ w = force_once t v w (subst (λ (k : Slots). IsInForce k v) same f) e in
    ap (λ (k : Slots). (slot_in k v).start) same ∙ ap (λ (k : Which). (slot_in t k).start) which

version2_once : (bytes : List ℕ) (l m : List Handed) → IsVersion2 bytes l → IsVersion2 bytes m → l ≡ m
version2_once bytes l m a b =
    let start = starts_once bytes a.place.gate b.place.gate a.place.slots b.place.slots a.place.which b.place.which (version2_slots bytes l a)
    (version2_slots bytes m b) a.is_front.force b.is_front.force in
    shut_once log_grammar record_at log_reader (drop (slot_in b.place.slots b.place.which).start bytes) a.is_front.log b.is_front.log l m
    a.is_front.is_log
    (subst (λ n. IsShut a.is_front.log (drop n bytes)) start (version2_log bytes l a)) b.is_front.is_log (version2_log bytes m b)

-- a file of version 1 has no slots
pub first_without_slots : (bytes : List ℕ) (l : List Handed) (gate : ℕ) (s : Slots) → logs.Stands front_grammar bytes l → HasSlots bytes gate s → ⊥
first_without_slots bytes l gate s stands has = stands_unbroken front_grammar record_at front_reader bytes l gate stands (slots_bad bytes gate s has)

pub both_once : (bytes : List ℕ) (l m : List Handed) → Stands bytes l → Stands bytes m → l ≡ m
both_once bytes l m (inl a) (inl b) = stands_once front_grammar record_at front_reader bytes l m a b
both_once bytes l m (inl a) (inr b) = absurd (first_without_slots bytes l b.place.gate b.place.slots a (version2_slots bytes m b))
both_once bytes l m (inr a) (inl b) = absurd (first_without_slots bytes m a.place.gate a.place.slots b (version2_slots bytes l a))
both_once bytes l m (inr a) (inr b) = version2_once bytes l m a b

-- ---- files that stand for nothing

-- where slots stand the front log breaks at no other offset
no_other_break : (bytes : List ℕ) (at gate : ℕ) (s : Slots) → logs.IsBad front_grammar bytes at → ((t : Slots) → HasSlots bytes at t → ⊥)
    → HasSlots bytes gate s → ⊥
no_other_break bytes at gate s bad none has =
    let same : gate ≡ at = bad_once front_grammar record_at front_reader bytes gate at (slots_bad bytes gate s has) bad in
    none s (subst (λ n. HasSlots bytes n s) same has)

ends_unlike : (bytes : List ℕ) (l : List Handed) (at : ℕ) (v : IsVersion2 bytes l) (gate : ℕ) (s : Slots) → HasSlots bytes gate s → EndsAtSlots bytes gate s at
    → ⊥
ends_unlike bytes l at v gate s has (inl none) =
    let same = (slots_once bytes v.place.gate gate v.place.slots s (version2_slots bytes l v) has).1 in
    undecided_none s v.place.which none.0 (subst (λ (k : Slots). IsInForce k v.place.which) same v.is_front.force)
ends_unlike bytes l at v gate s has (inr (w, force, inl outside)) =
    let gates = (slots_once bytes v.place.gate gate v.place.slots s (version2_slots bytes l v) has).0 in
    let start = starts_once bytes v.place.gate gate v.place.slots s v.place.which w (version2_slots bytes l v) has v.is_front.force force in
    elim outside.0 [
      | inl low ↦ absurd (omega (arith, low, start, gates, version2_from bytes l v))
      | inr high ↦ absurd (omega (arith, high, start, version2_within bytes l v))
    ]
ends_unlike bytes l at v gate s has (inr (w, force, inr broken)) =
    let start = starts_once bytes v.place.gate gate v.place.slots s v.place.which w (version2_slots bytes l v) has v.is_front.force force in
    shut_unbroken log_grammar record_at log_reader (drop (slot_in s w).start bytes) v.is_front.log l broken.into v.is_front.is_log
    (subst (λ n. IsShut v.is_front.log (drop n bytes)) start (version2_log bytes l v)) broken.breaks

pub both_unbroken : (bytes : List ℕ) (l : List Handed) (at : ℕ) → Stands bytes l → IsBad bytes at → ⊥
both_unbroken bytes l at (inl a) (inl b) = stands_unbroken front_grammar record_at front_reader bytes l at a b.0
both_unbroken bytes l at (inl a) (inr b) = first_without_slots bytes l b.gate b.slots a b.has
both_unbroken bytes l at (inr a) (inl b) = no_other_break bytes at a.place.gate a.place.slots b.0 b.1 (version2_slots bytes l a)
both_unbroken bytes l at (inr a) (inr b) = ends_unlike bytes l at a b.gate b.slots b.has b.ends

ends_once : (bytes : List ℕ) (at here gate : ℕ) (s : Slots) → EndsAtSlots bytes gate s at → EndsAtSlots bytes gate s here → at ≡ here
ends_once bytes at here gate s (inl a) (inl b) = a.1 ∙ sym b.1
ends_once bytes at here gate s (inl a) (inr b) = absurd (undecided_none s b.0 a.0 b.1)
ends_once bytes at here gate s (inr a) (inl b) = absurd (undecided_none s a.0 b.0 a.1)
ends_once bytes at here gate s (inr (v, f, inl a)) (inr (w, g, inl b)) = a.1 ∙ ap (λ (k : Which). slot_at gate k) (force_once s v w f g) ∙ sym b.1
ends_once bytes at here gate s (inr (v, f, inl a)) (inr (w, g, inr b)) =
    let same : (slot_in s v).start ≡ (slot_in s w).start = ap (λ (k : Which). (slot_in s k).start) (force_once s v w f g) in
    elim a.0 [ inl low ↦ absurd (omega (arith, low, same, b.from)) | inr high ↦ absurd (omega (arith, high, same, b.within)) ]
ends_once bytes at here gate s (inr (v, f, inr a)) (inr (w, g, inl b)) =
    let same : (slot_in s v).start ≡ (slot_in s w).start = ap (λ (k : Which). (slot_in s k).start) (force_once s v w f g) in
    elim b.0 [ inl low ↦ absurd (omega (arith, low, same, a.from)) | inr high ↦ absurd (omega (arith, high, same, a.within)) ]
ends_once bytes at here gate s (inr (v, f, inr a)) (inr (w, g, inr b)) =
    let same : (slot_in s v).start ≡ (slot_in s w).start = ap (λ (k : Which). (slot_in s k).start) (force_once s v w f g) in
    let into = breaks_once log_grammar record_at log_reader (drop (slot_in s w).start bytes) a.into b.into
    (subst (λ n. logs.BreaksAt log_grammar (drop n bytes) a.into) same a.breaks) b.breaks in
    omega (arith, a.place, b.place, same, into)

pub both_bad_once : (bytes : List ℕ) (at here : ℕ) → IsBad bytes at → IsBad bytes here → at ≡ here
both_bad_once bytes at here (inl a) (inl b) = bad_once front_grammar record_at front_reader bytes at here a.0 b.0
both_bad_once bytes at here (inl a) (inr b) = absurd (no_other_break bytes at b.gate b.slots a.0 a.1 b.has)
both_bad_once bytes at here (inr a) (inl b) = absurd (no_other_break bytes here a.gate a.slots b.0 b.1 a.has)
both_bad_once bytes at here (inr a) (inr b) =
    let same = slots_once bytes b.gate a.gate b.slots a.slots b.has a.has in
    ends_once bytes at here a.gate a.slots a.ends
    (subst (λ (k : Slots). EndsAtSlots bytes a.gate k here) same.1 (subst (λ n. EndsAtSlots bytes n b.slots here) same.0 b.ends))

-- ---- what stays

pub keeps_same : (old new : List ℕ) → new ≡ old → Keeps old new
keeps_same old new same = record { states = λ l stands. subst (λ b. Stands b l) (sym same) stands; bytes = λ at bad. same }

pub keeps_lists : (old new : List ℕ) (l : List Handed) → Stands old l → Stands new l → Keeps old new
keeps_lists old new l was is = record {
  states = λ m stands. subst (λ (k : List Handed). Stands new k) (both_once old l m was stands) is;
  bytes = λ at bad. absurd (both_unbroken old l at was bad);
}
