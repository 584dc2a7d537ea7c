-- A file of version 1 that becomes one of version 2.
use Rattle.std.proofs.Common.{◌≡◌, ◌⊎◌, ℕ, ◌+◌, ◌<◌, ◌^◌, Bool, List, [], ◌∷◌, ◌++◌, length, Option, Some, None, refl, sym, ap, subst, ◌∙◌, append_assoc, arith, inl, inr, length-append}
use Rattle.std.specs.Prelude.{IfErr, IsErrOf, IsSome, Result, Ok, Err}
use Rattle.bk_disk.specs.Disk.{FitsDisk, Follows, Only}
use Rattle.gate_log.specs.Gates.{AreShort, IsAtRest, IsShut}
use Rattle.gate_log.specs.Logs as logs
use Rattle.gate_log.proofs.lemmas.Logs.{shut_stands}
use Rattle.backup_file.specs.declared.fault.BackFault.{BackFault}
use Rattle.backup_file.specs.declared.fault.BackFault.TheVariants.{Failed, Bad, NoMemory}
use Rattle.backup_file.specs.declared.handed.Handed.{Handed}
use Rattle.backup_file.specs.File.{IsFrontAt, IsShort, IsVersion2, Keeps, Stands, compact, front_grammar, name}
use Rattle.backup_file.specs.Opening.{HasBackCause, OnBad}
use Rattle.backup_file.specs.Migrating.{IsOpenedAs, first_place}
use Rattle.backup_file.specs.declared.places.Place.{Place}
use Rattle.backup_file.specs.ReadLogs.{IsReadAs, IsReadBehind, IsReadFirst}
use Rattle.backup_file.specs.Slots.{first_slots, slot_bytes, slots_record}
use Rattle.backup_file.proofs.Compacts.{compact_front, led_apart, led_lists}
use Rattle.backup_file.proofs.SlotBytes.{slot_written}
use Rattle.backup_file.proofs.lemmas.Meaning.{first_without_slots, keeps_lists, keeps_same, version2_slots}

pub migrated_front : (front : List ℕ) (gate : ℕ) (l : List Handed) → logs.IsFront front_grammar front l → length front ≡ gate → gate + 40 < 2 ^ 64
    → (f : IsFrontAt (first_place gate) (front ++ 1 ∷ (slots_record (first_slots gate) ++ compact l)) l) × (f.log ≡ compact l)
migrated_front front gate l is place few =
    let s = first_slots gate in (
      record {
        head = front ++ 1 ∷ slots_record s;
        gap = [];
        log = compact l;
        parts = sym (append_assoc front (1 ∷ slots_record s) (compact l));
        slotted = record {
          front = front;
          lists = l;
          is_front = is;
          place = place;
          one = slot_bytes s.one;
          two = slot_bytes s.two;
          spelled = refl;
          first = slot_written s.one (omega arith) few;
          second = slot_written s.two (omega arith) (omega arith);
        };
        force = record { opened = refl; newest = λ e. cc };
        starts = omega arith;
        is_log = compact_front l (led_apart name 150 is.records l is.leads) (led_lists name 150 is.records l is.leads);
      },
      refl,
    )

-- a closed gate behind a front of either version
pub first_stands : (front c : List ℕ) (l : List Handed) → logs.IsFront front_grammar front l → IsShut front c → Stands c l
first_stands front c l is shut = inl (shut_stands front_grammar front c l is shut)

-- behind an open gate stand the slots, the first log and a closed gate
pub text_parts : (gate : ℕ) (l : List Handed) (text : List ℕ) → text ≡ 1 ∷ (slots_record (first_slots gate) ++ (compact l ++ 0 ∷ []))
    → text ≡ 1 ∷ ((slots_record (first_slots gate) ++ compact l) ++ 0 ∷ [])
text_parts gate l text is = is ∙ ap (λ (b : List ℕ). 1 ∷ b) (sym (append_assoc (slots_record (first_slots gate)) (compact l) (0 ∷ [])))

module _ (front : List ℕ) (gate : ℕ) (l : List Handed) (bytes : List ℕ) (images : List ℕ → Type 0) (is : logs.IsFront front_grammar front l)
    (rest : IsAtRest bytes images gate front) (few : gate + 40 < 2 ^ 64) where
  pub unmigrated : Stands bytes l
  unmigrated = first_stands front bytes l is (record { byte = rest.byte; rest = rest.more; whole = rest.whole; closed = rest.closed })

  pub unmigrated_left : (c : List ℕ) → images c → Stands c l
  unmigrated_left c left = subst (λ b. Stands b l) (sym (rest.durable c left)) unmigrated

  pub migrating_left : (c : List ℕ) → IsShut front c ⊎ IsShut (front ++ 1 ∷ (slots_record (first_slots gate) ++ compact l)) c → Stands c l
  migrating_left c (inl shut) = first_stands front c l is shut
  migrating_left c (inr shut) =
      let f = migrated_front front gate l is rest.place few in
      inr
      (record {
        place = first_place gate;
        front = front ++ 1 ∷ (slots_record (first_slots gate) ++ compact l);
        is_front = f.0;
        shut = shut;
      })

  pub migrated_now : (next : ℕ) (new : List ℕ) (left : List ℕ → Type 0) (is_compact : Bool)
      → IsAtRest new left next (front ++ 1 ∷ (slots_record (first_slots gate) ++ compact l)) → IsOpenedAs new left next is_compact l
  migrated_now next new left is_compact at_rest =
      let f = migrated_front front gate l is rest.place few in
      record {
        place = first_place gate;
        front = front ++ 1 ∷ (slots_record (first_slots gate) ++ compact l);
        is_front = f.0;
        at_rest = at_rest;
        same = λ told. f.1;
      }

-- ---- what was read

pub read_within : (bytes : List ℕ) (place : Option Place) (gate : ℕ) (is_compact : Bool) (l : List Handed) → IsReadAs bytes place gate is_compact l
    → gate < length bytes
read_within bytes None gate is_compact l is =
    omega (arith, ap (λ (b : List ℕ). length b) is.shut.whole, length-append is.front (is.shut.byte ∷ is.shut.rest), is.place)
read_within bytes (Some p) gate is_compact l is =
    omega (arith, ap (λ (b : List ℕ). length b) is.shut.whole, length-append is.front (is.shut.byte ∷ is.shut.rest), is.place)

-- the closed gate, with all of it on the disk
at_rest_read : (bytes front : List ℕ) (gate : ℕ) (images : List ℕ → Type 0) → IsShut front bytes → length front ≡ gate → FitsDisk bytes → Only bytes images
    → IsAtRest bytes images gate front
at_rest_read bytes front gate images shut place fits only = record {
  byte = shut.byte;
  more = shut.rest;
  whole = shut.whole;
  closed = shut.closed;
  place = place;
  fits = omega (arith, ap (λ (b : List ℕ). length b) shut.whole, length-append front (shut.byte ∷ shut.rest), place, fits);
  durable = only;
}

module _ (bytes : List ℕ) (images : List ℕ → Type 0) (gate : ℕ) (is_compact : Bool) (l : List Handed) (only : Only bytes images) (fits : FitsDisk bytes) where
  pub first_at_rest : (is : IsReadFirst bytes gate l) → IsAtRest bytes images gate is.front
  first_at_rest is = at_rest_read bytes is.front gate images is.shut is.place fits only

  pub opened_read : (p : Place) → IsReadBehind p bytes gate is_compact l → IsOpenedAs bytes images gate is_compact l
  opened_read p is = record {
    place = p;
    front = is.front;
    is_front = is.is_front;
    at_rest = at_rest_read bytes is.front gate images is.shut is.place fits only;
    same = is.compact;
  }

-- in either version the bytes that were read stand for the lists
pub stands_read : (bytes : List ℕ) (place : Option Place) (gate : ℕ) (is_compact : Bool) (l : List Handed) → IsReadAs bytes place gate is_compact l
    → Stands bytes l
stands_read bytes None gate is_compact l is = first_stands is.front bytes l is.is_front is.shut
stands_read bytes (Some p) gate is_compact l is = inr (record { place = p; front = is.front; is_front = is.is_front; shut = is.shut })

pub stands_left : (bytes : List ℕ) (images : List ℕ → Type 0) (l : List Handed) → Only bytes images → Stands bytes l → (c : List ℕ) → images c → Stands c l
stands_left bytes images l only stands c left = subst (λ b. Stands b l) (sym (only c left)) stands

-- a file of version 2 is read as one
pub read_second : (bytes : List ℕ) (place : Option Place) (gate : ℕ) (is_compact : Bool) (l m : List Handed) → IsReadAs bytes place gate is_compact l
    → IsVersion2 bytes m → IsSome place
read_second bytes None gate is_compact l m is second = absurd
    (first_without_slots bytes l second.place.gate second.place.slots (shut_stands front_grammar is.front bytes l is.is_front is.shut)
    (version2_slots bytes m second))
read_second bytes (Some p) gate is_compact l m is second = refl

-- ---- images

pub keeps_all : (old : List ℕ) (l : List Handed) (before now : List ℕ → Type 0) → before old → Stands old l → ((c : List ℕ) → now c → Stands c l)
    → Follows Keeps before now
keeps_all old l before now was stood all c left = (old, was, keeps_lists old c l stood (all c left))

pub keeps_none : (before now : List ℕ → Type 0) → ((c : List ℕ) → now c → before c) → Follows Keeps before now
keeps_none before now fewer c left = (c, fewer c left, keeps_same c c refl)

pub short_stands : (bytes : List ℕ) (l : List Handed) → IsShort bytes → l ≡ [] → Stands bytes l
short_stands bytes l short none = inl (inl (short, none))

-- all that may be left of a short file stands for no lists, as do the name and a closed gate
pub shorts_stand : (images : List ℕ → Type 0) → AreShort 9 images → (c : List ℕ) → images c → Stands c []
shorts_stand images short c left = inl (inl (short c left, refl))

-- ---- answers

pub never_bad : {T : Type 0} (P : ℕ → Type 0) (r : Result T BackFault) → ((at : ℕ) → IsErrOf r (Bad at) → ⊥) → IfErr r (OnBad P)
never_bad P (Ok x) none = tt
never_bad P (Err Failed) none = tt
never_bad P (Err (Bad at)) none = absurd (none at refl)
never_bad P (Err NoMemory) none = tt

pub cause_since : {T : Type 0} (before between now : ℕ) (r : Result T BackFault) → between ≡ before → HasBackCause between now r → HasBackCause before now r
cause_since before between now r same cause = subst (λ n. HasBackCause n now r) same cause
