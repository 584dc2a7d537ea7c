-- What is taken of a source, and what is answered.
use Rattle.std.specs.Prelude.{◌≡◌, ℕ, ◌≤◌, List, ◌++◌, length, Option, Result, Ok, Err}
use Rattle.std.specs.Global.{Vec}
use Rattle.std.specs.Io.KnownBytes.{Consumes, IsAtEnd}
use Rattle.enq_base.specs.Causes.{Rose}
use Rattle.landscape.specs.Document.{most_bytes}
use Rattle.landscape.specs.Landscape.{landscape_of}
use Rattle.landscape.specs.declared.land_fault.LandFault.{LandFault}
use Rattle.landscape.specs.declared.land_fault.LandFault.TheVariants.{Bad, Failed, NoMemory}
use Rattle.landscape.specs.declared.landscape.Landscape.{Landscape}

-- the bytes are all that were left, or they are more than a document may have
abbrev pub IsEnough : Option (List ℕ) → List ℕ → Type 0
IsEnough left bytes = length bytes ≤ most_bytes → IsAtEnd left

-- what the answer says of the bytes that were taken
abbrev pub IsAnswer : Option (List ℕ) → ℕ → ℕ → List ℕ → Result Landscape LandFault → Type 0
IsAnswer left before now taken (Ok land) =
    (landscape_of taken ≡ Ok land) × IsEnough left taken × (now ≡ before)
IsAnswer left before now taken (Err (Bad rule place)) =
    (landscape_of taken ≡ Err (record { rule = rule; place = place })) × IsEnough left taken × (now ≡ before)
IsAnswer left before now taken (Err Failed) = Rose before now
IsAnswer left before now taken (Err NoMemory) = now ≡ before

-- at most one byte more than a document may have was taken, and the answer is that of the bytes taken
pub record ReadsLandscape (left_before left_after : Option (List ℕ)) (before now : ℕ)
    (result : Result Landscape LandFault) : Type 0 where
  pub taken : List ℕ
  pub consumed : Consumes left_before left_after taken
  pub most : length taken ≤ 1048577
  pub answer : IsAnswer left_after before now taken result

-- the answer is that of these bytes, unless the source failed or memory ran out
abbrev pub Answers : Result Landscape LandFault → List ℕ → Type 0
Answers (Ok land) bytes = landscape_of bytes ≡ Ok land
Answers (Err (Bad rule place)) bytes = landscape_of bytes ≡ Err (record { rule = rule; place = place })
Answers (Err Failed) bytes = Unit {0}
Answers (Err NoMemory) bytes = Unit {0}

-- ---- the parts of reading

-- what one call took of a source and put behind the bytes
abbrev pub IsMore : Option (List ℕ) → ℕ → ℕ → List ℕ → List ℕ → List ℕ → Result ℕ LandFault → Type 0
IsMore left before now old new more (Ok n) =
    (new ≡ old ++ more) × (length more ≡ n) × (n ≡ 0 → IsAtEnd left) × (now ≡ before)
IsMore left before now old new more (Err (Bad rule place)) = ⊥
IsMore left before now old new more (Err Failed) = Rose before now
IsMore left before now old new more (Err NoMemory) = now ≡ before

pub record TakesMore (left_before left_after : Option (List ℕ)) (before now room : ℕ) (old new : List ℕ)
    (result : Result ℕ LandFault) : Type 0 where
  pub more : List ℕ
  pub consumed : Consumes left_before left_after more
  pub fits : length more ≤ room
  pub answer : IsMore left_after before now old new more result

-- all that was left, or more than a document may have
abbrev pub IsAll : Option (List ℕ) → ℕ → ℕ → List ℕ → Result (Vec ℕ) LandFault → Type 0
IsAll left before now taken (Ok bytes) = (bytes.items ≡ taken) × IsEnough left taken × (now ≡ before)
IsAll left before now taken (Err (Bad rule place)) = ⊥
IsAll left before now taken (Err Failed) = Rose before now
IsAll left before now taken (Err NoMemory) = now ≡ before

pub record TakesAll (left_before left_after : Option (List ℕ)) (before now : ℕ)
    (result : Result (Vec ℕ) LandFault) : Type 0 where
  pub taken : List ℕ
  pub consumed : Consumes left_before left_after taken
  pub most : length taken ≤ 1048577
  pub answer : IsAll left_after before now taken result
