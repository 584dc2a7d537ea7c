-- The generation in force in a file.
use Rattle.std.proofs.Common.{◌≡◌, ℕ, ◌≤◌, ◌^◌, List, arith, subst}
use Rattle.gate_log.specs.Gates.{IsAtRest, IsShut}
use Rattle.backup_file.specs.declared.handed.Handed.{Handed}
use Rattle.backup_file.specs.declared.places.Place.{Place}
use Rattle.backup_file.specs.File.{IsFrontAt, IsNoOlder, IsVersion2, IsWornOut}
use Rattle.backup_file.specs.Slots.{IsInForce, slot_in}
use Rattle.backup_file.proofs.lemmas.Meaning.{force_once, slots_once, version2_slots}

module _ (bytes : List ℕ) (l : List Handed) (v : IsVersion2 bytes l) where
  pub worn_in_force : IsWornOut bytes → 2 ^ 63 ≤ (slot_in v.place.slots v.place.which).generation
  worn_in_force w =
      let same = slots_once bytes w.gate v.place.gate w.slots v.place.slots w.has (version2_slots bytes l v) in
      let which = force_once v.place.slots w.which v.place.which (subst (λ s. IsInForce s w.which) same.1 w.force) v.is_front.force in
      subst (λ x. 2 ^ 63 ≤ (slot_in v.place.slots x).generation) which (subst (λ s. 2 ^ 63 ≤ (slot_in s w.which).generation) same.1 w.worn)

  pub worn_out : 2 ^ 63 ≤ (slot_in v.place.slots v.place.which).generation → IsWornOut bytes
  worn_out worn = record {
    gate = v.place.gate;
    slots = v.place.slots;
    has = version2_slots bytes l v;
    which = v.place.which;
    force = v.is_front.force;
    worn = worn;
  }

pub rest_shut : (bytes : List ℕ) (images : List ℕ → Type 0) (gate : ℕ) (front : List ℕ) → IsAtRest bytes images gate front → IsShut front bytes
rest_shut bytes images gate front rest = record { byte = rest.byte; rest = rest.more; whole = rest.whole; closed = rest.closed }

-- what has the same slots has the same generation in force
pub no_older : (p : Place) (front next old new : List ℕ) (l m : List Handed) → IsFrontAt p front l → IsFrontAt p next m → IsShut front old → IsShut next new
    → IsNoOlder old new
no_older p front next old new l m f n was is worn =
    worn_out old l (record { place = p; front = front; is_front = f; shut = was })
    (worn_in_force new m (record { place = p; front = next; is_front = n; shut = is }) worn)

-- it isn't at its end where it is the first
pub young : (p : Place) (front bytes : List ℕ) (l : List Handed) → IsFrontAt p front l → IsShut front bytes → (slot_in p.slots p.which).generation ≡ 1
    → IsWornOut bytes → ⊥
young p front bytes l f shut first worn =
    let old = worn_in_force bytes l (record { place = p; front = front; is_front = f; shut = shut }) worn in
    omega (arith, old, first)
