-- How the words `cover` end, and what is written then.
use Rattle.std.specs.Prelude.{◌≡◌, ◌⊎◌, ℕ, ◌<◌, List, Option, Ok, Err, IfSome}
use Rattle.std.specs.Io.KnownBytes.{Appends, Consumes}
use Rattle.coverage.specs.Lacks.{lacks}
use Rattle.enq_base.specs.Causes.{Rose}
use Rattle.io_edge.specs.Known.{AppendsFirst}
use Rattle.io_edge.specs.Lines.{lines_of}
use Rattle.landscape.specs.Landscape.{landscape_of}
use Rattle.landscape.specs.declared.land_fault.LandFault.{LandFault}
use Rattle.landscape.specs.declared.land_fault.LandFault.TheVariants as land_fault
use Rattle.landscape.specs.declared.landscape.Landscape.{Landscape}
use Rattle.lock_objects.specs.Objects.{Object}
use Rattle.script_runner.specs.declared.runner.Why.{Why}
use Rattle.script_runner.specs.declared.runner.Why.TheVariants.{Done, BadLandscape, SourceFault, SinkFault, NoMemory}
use Rattle.cover_cmd.specs.Lines.{numbered}
use Rattle.cover_cmd.specs.Reading.{IsRead, IsReadingEnd}
use Rattle.cover_cmd.specs.Texts.{cover_text}

-- why the words end where the landscape isn't read
abbrev pub land_end : LandFault → Why
land_end (land_fault.Bad rule place) = BadLandscape rule place
land_end land_fault.Failed = SourceFault
land_end land_fault.NoMemory = NoMemory

-- this is the landscape of some bytes: those of its source, where it tells them
pub record IsLanded (left : Option (List ℕ)) (before now : ℕ) (land : Landscape) : Type 0 where
  pub bytes : List ℕ
  pub gives : landscape_of bytes ≡ Ok land
  pub told : IfSome left (λ all. all ≡ bytes)
  pub quiet : now ≡ before

-- the first rule that such bytes break
pub record IsBroken (left : Option (List ℕ)) (rule place : ℕ) : Type 0 where
  pub bytes : List ℕ
  pub breaks : landscape_of bytes ≡ Err (record { rule = rule; place = place })
  pub known : rule < 15
  pub told : IfSome left (λ all. all ≡ bytes)

-- the text that tells what the script lacks, which was read to its end
pub record IsTextOf (objects : List Object) (left after : Option (List ℕ)) (before now : ℕ)
    (text : List ℕ) : Type 0 where
  pub bytes : List ℕ
  pub consumed : Consumes left after bytes
  pub read : IsRead bytes after
  pub tells : text ≡ cover_text (lacks objects (numbered 0 (lines_of bytes)))
  pub quiet : now ≡ before

-- a text was written, or some of its first bytes, and then the sink failed
abbrev pub Puts : Option (List ℕ) → Option (List ℕ) → ℕ → ℕ → List ℕ → Why → Type 0
Puts old new before now text Done = Appends old new text × (now ≡ before)
Puts old new before now text SinkFault = AppendsFirst old new text × Rose before now
Puts old new before now text why = ⊥

-- The whole text was written; or some of its first bytes, and then the sink failed; or there is none, since the reading
-- of the script ended so, or memory was wanting.
abbrev pub Tells : List Object → (left after : Option (List ℕ)) → (before now : ℕ) → (old new : Option (List ℕ))
    → (faults faults_now : ℕ) → Why → Type 0
Tells objects left after before now old new faults faults_now Done =
    (text : List ℕ) × IsTextOf objects left after before now text × Puts old new faults faults_now text Done
Tells objects left after before now old new faults faults_now SinkFault =
    (text : List ℕ) × IsTextOf objects left after before now text × Puts old new faults faults_now text SinkFault
Tells objects left after before now old new faults faults_now why =
    (bytes : List ℕ) × Consumes left after bytes × IsReadingEnd bytes after before now why

-- With the landscape that was read, the script was told of; or the landscape breaks a rule, or its source failed, or
-- memory was wanting.
abbrev pub Covers : (land_left : Option (List ℕ)) → (land_before land_now : ℕ) → (left after : Option (List ℕ))
    → (before now : ℕ)
    → (old new : Option (List ℕ)) → (faults faults_now : ℕ) → Why → Type 0
Covers land_left land_before land_now left after before now old new faults faults_now (BadLandscape rule place) =
    IsBroken land_left rule place
Covers land_left land_before land_now left after before now old new faults faults_now NoMemory = Unit {0}
Covers land_left land_before land_now left after before now old new faults faults_now SourceFault =
    Rose land_before land_now
    ⊎ ((land : Landscape) × IsLanded land_left land_before land_now land
    × Tells land.objects left after before now old new faults faults_now SourceFault)
Covers land_left land_before land_now left after before now old new faults faults_now why =
    (land : Landscape) × IsLanded land_left land_before land_now land
    × Tells land.objects left after before now old new faults faults_now why
