-- A file that is opened.
use Rattle.std.specs.Prelude.{◌≡◌, ℕ, Bool, true, List}
use Rattle.gate_log.specs.Gates.{IsAtRest}
use Rattle.backup_file.specs.declared.handed.Handed.{Handed}
use Rattle.backup_file.specs.declared.places.Place.{Place}
use Rattle.backup_file.specs.declared.places.Which.TheVariants.{One}
use Rattle.backup_file.specs.Slots.{first_slots}
use Rattle.backup_file.specs.File.{IsFrontAt, compact}

-- The file is of version 2 and stands for these lists, with a closed gate at this offset, and all of it is on the disk.
-- The log in force has one hand of each list and no other record, where that is told.
pub record IsOpenedAs (bytes : List ℕ) (images : List ℕ → Type 0) (gate : ℕ) (is_compact : Bool) (l : List Handed)
    : Type 0 where
  pub place : Place
  pub front : List ℕ
  pub is_front : IsFrontAt place front l
  pub at_rest : IsAtRest bytes images gate front
  pub same : is_compact ≡ true → is_front.log ≡ compact l

abbrev pub first_place : ℕ → Place
first_place gate = record { gate = gate; slots = first_slots gate; which = One }
