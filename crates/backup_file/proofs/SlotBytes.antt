-- Slots in their bytes.
use Rattle.std.proofs.Common.{◌≡◌, ℕ, ◌+◌, ◌-◌, ◌<◌, ◌≤◌, ◌^◌, List, ◌∷◌, ◌++◌, length, take, drop, get_or, refl, sym, ap, ◌∙◌, arith, inl, inr, length-append}
use Rattle.std.specs.Prelude.{Option, Some, None, IfNone}
use Rattle.std.specs.Int.{w64, to_be_bytes}
use Rattle.std.proofs.lemmas.Bool.{cases_eq, cases_lt}
use Rattle.std.proofs.lemmas.List.{take_at, take-append-drop, drop-drop, drop_more, length-take, length-drop, take_all}
use Rattle.byteorder.specs.Endian.{big_number}
use Rattle.byte_fields.proofs.BigEndian.{number_of_8}
use Rattle.byte_fields.proofs.lemmas.FieldLaws.{wide64}
use Rattle.backup_file.specs.declared.places.Slot.{Slot}
use Rattle.backup_file.specs.declared.places.Slots.{Slots}
use Rattle.backup_file.specs.Slots.{AreSlots, IsSlot, IsUndecided, LeadsOver, slot_bytes, slots_head}
use Rattle.backup_file.proofs.lemmas.Meaning.{slot_size}

pub slots_sized : (bytes : List ℕ) (s : Slots) → AreSlots bytes s → 39 ≤ length bytes
slots_sized bytes s at =
    omega (
      arith,
      ap (λ (b : List ℕ). length b) at.parts,
      length-append slots_head (at.one ++ (at.two ++ at.rest)),
      length-append at.one (at.two ++ at.rest),
      length-append at.two at.rest,
      slot_size at.one s.one at.first,
      slot_size at.two s.two at.second,
    )

pub slots_headed : (bytes : List ℕ) (s : Slots) → AreSlots bytes s → take 5 bytes ≡ slots_head
slots_headed bytes s at = ap (λ (b : List ℕ). take 5 b) at.parts ∙ take_at slots_head (at.one ++ (at.two ++ at.rest)) 5 refl

-- the bytes between two offsets, and those behind
cut : (bytes : List ℕ) (n k m : ℕ) → n + k ≡ m → drop n bytes ≡ take k (drop n bytes) ++ drop m bytes
cut bytes n k m e = sym (take-append-drop k (drop n bytes))
    ∙ ap (λ (b : List ℕ). take k (drop n bytes) ++ b) (drop-drop k n bytes ∙ ap (λ (j : ℕ). drop j bytes) e)

pub slots_cut : (bytes : List ℕ) → take 5 bytes ≡ slots_head → (x y : Slot) → IsSlot (take 17 (drop 5 bytes)) x
    → IsSlot (take 17 (drop 22 bytes)) y → AreSlots bytes (record { one = x; two = y })
slots_cut bytes headed x y first second = record {
  one = take 17 (drop 5 bytes);
  two = take 17 (drop 22 bytes);
  rest = drop 39 bytes;
  parts = sym (take-append-drop 5 bytes) ∙ ap (λ (b : List ℕ). b ++ drop 5 bytes) headed
      ∙ ap (λ (b : List ℕ). slots_head ++ b)
      (cut bytes 5 17 22 refl ∙ ap (λ (b : List ℕ). take 17 (drop 5 bytes) ++ b) (cut bytes 22 17 39 refl));
  first = first;
  second = second;
}

pub slot_cut : (bytes : List ℕ) (gate generation start : ℕ) → length bytes ≡ 17 → gate ≡ get_or bytes 0 0
    → generation ≡ big_number 8 (take 8 (drop 1 bytes)) → start ≡ big_number 8 (take 8 (drop 9 bytes))
    → IsSlot bytes (record { gate = gate; generation = generation; start = start })
slot_cut bytes gate generation start size is counts begins = record {
  number = take 8 (drop 1 bytes);
  offset = take 8 (drop 9 bytes);
  parts = drop_more bytes 0 0 (omega (arith, size)) ∙ ap (λ (b : ℕ). b ∷ drop 1 bytes) (sym is)
      ∙ ap (λ (b : List ℕ). gate ∷ b)
      (cut bytes 1 8 9 refl ∙ ap (λ (b : List ℕ). take 8 (drop 1 bytes) ++ b)
      (sym (take_all 8 (drop 9 bytes) (omega (arith, length-drop 9 bytes, size)))));
  eight = omega (arith, length-take 8 (drop 1 bytes), length-drop 1 bytes, size);
  as_many = omega (arith, length-take 8 (drop 9 bytes), length-drop 9 bytes, size);
  generation = counts ∙ number_of_8 (take 8 (drop 1 bytes));
  start = begins ∙ number_of_8 (take 8 (drop 9 bytes));
}

-- a slot that is written
pub slot_written : (x : Slot) → x.generation < 2 ^ 64 → x.start < 2 ^ 64 → IsSlot (slot_bytes x) x
slot_written x counts begins = record {
  number = to_be_bytes w64 x.generation;
  offset = to_be_bytes w64 x.start;
  parts = refl;
  eight = wide64.len x.generation;
  as_many = wide64.len x.start;
  generation = sym (wide64.again x.generation counts);
  start = sym (wide64.again x.start begins);
}

-- ---- which slot is in force

beaten : (x y : Slot) → (LeadsOver x y → ⊥) → (x.gate ≡ 1) → (y.gate ≡ 1) × (x.generation ≤ y.generation)
beaten x y none open_gate = elim (cases_eq y.gate 1) [
  | inl too ↦ (
    too,
    elim (cases_lt y.generation x.generation) [
      | inl less ↦ absurd (none (open_gate, λ e. less))
      | inr more ↦ more
    ],
  )
  | inr shut ↦ absurd (none (open_gate, λ e. absurd (shut e)))
]

pub undecided : (s : Slots) → (LeadsOver s.one s.two → ⊥) → (LeadsOver s.two s.one → ⊥) → IsUndecided s
undecided s no_one no_two = elim (cases_eq s.one.gate 1) [
  | inl one ↦ (let b = beaten s.one s.two no_one one in
      let a = beaten s.two s.one no_two b.0 in
      inr (one, b.0, omega (arith, a.1, b.1)))
  | inr shut ↦ inl (shut, λ two. let a = beaten s.two s.one no_two two in shut a.0)
]

pub none_then : {X : Type 0} (r : Option X) {P Q : Type 0} → IfNone r P → (P → Q) → IfNone r Q
none_then (Some x) h f = tt
none_then None h f = f h
