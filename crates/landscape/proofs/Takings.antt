-- What is taken of a source, call by call.
use Rattle.std.proofs.Common.{◌≡◌, ℕ, ◌-◌, ◌≤◌, List, ◌++◌, length, Option, Err, subst, ◌∙◌, arith, length-append}
use Rattle.std.proofs.KnownBytes.{Consumes-trans}
use Rattle.std.specs.Io.KnownBytes.{Consumes}
use Rattle.enq_base.specs.Causes.{Rose}
use Rattle.landscape.specs.Reading.{IsAll, IsMore, TakesAll, TakesMore}
use Rattle.landscape.specs.declared.land_fault.LandFault.{LandFault}
use Rattle.landscape.specs.declared.land_fault.LandFault.TheVariants as fault

same_fault : (left : Option (List ℕ)) (start before now : ℕ) (old new more taken : List ℕ) (f : LandFault) → before ≡ start
    → IsMore left before now old new more (Err f) → IsAll left start now taken (Err f)
same_fault left start before now old new more taken (fault.Bad r p) e h = h
same_fault left start before now old new more taken fault.Failed e h = subst (λ b. Rose b now) e h
same_fault left start before now old new more taken fault.NoMemory e h = h ∙ e

-- a call that failed, behind those before it
pub taken_by_failed : (first left_before left_after : Option (List ℕ)) (start before now room : ℕ) (old new : List ℕ) (f : LandFault)
    → Consumes first left_before old → length old ≤ 1048577 → before ≡ start → room ≤ 1048577 - length old
    → TakesMore left_before left_after before now room old new (Err f) → TakesAll first left_after start now (Err f)
taken_by_failed first left_before left_after start before now room old new f c m e r t = record {
  taken = old ++ t.more;
  consumed = Consumes-trans first left_before left_after old t.more c t.consumed;
  most = omega (arith, length-append old t.more, t.fits);
  answer = same_fault left_after start before now old new t.more (old ++ t.more) f e t.answer;
}
