-- What is known of a landscape that was read, and of one that wasn't.
use Rattle.std.proofs.Common.{◌≡◌, ℕ, ◌<◌, true, List, [], ◌∷◌, Option, Some, None, IfSome, Result, Ok, Err, refl, sym, ◌∙◌, subst, ap, arith}
use Rattle.std.specs.List.{AllByRecursion}
use Rattle.std.proofs.lemmas.Bool.{and_parts}
use Rattle.enq_base.specs.Grammar.{is_digit}
use Rattle.update_records.specs.Grammar.{IsNr}
use Rattle.number_ranges.specs.declared.interval.Interval.{Interval}
use Rattle.ledger_steps.specs.Levels.{AreApart, AreIntervals, IsUnused}
use Rattle.landscape.specs.Broken.{Broken}
use Rattle.landscape.specs.Landscape.{landscape_of}
use Rattle.landscape.specs.Ranges.{is_nr}
use Rattle.landscape.specs.Reading.{Answers, ReadsLandscape}
use Rattle.landscape.specs.declared.land_fault.LandFault.{LandFault}
use Rattle.landscape.specs.declared.land_fault.LandFault.TheVariants as fault
use Rattle.landscape.specs.declared.landscape.Landscape.{Landscape}
use Rattle.landscape.proofs.lemmas.Limits.{HasLimits, HaveOwnNames, IsRange, broken_rules, read_limits}
use Rattle.enq_cmd.specs.Main.{IsLandEnd, IsRead, IsUnfitEnd, land_end}
use Rattle.keeper_api.specs.Rows.{Rows}

-- ---- a landscape that was read

two_digits : (nr : List ℕ) → is_nr nr ≡ true → IsNr nr
two_digits [] h = absurd (cc)
two_digits (a ∷ []) h = absurd (cc)
two_digits (a ∷ b ∷ []) h =
    let digits = and_parts (is_digit a) (is_digit b) h in
    record { two = refl; digits = rw (digits.0, digits.1) refl }
two_digits (a ∷ b ∷ c ∷ cs) h = absurd (cc)

are_unused : (ranges : List Interval) → AllByRecursion IsRange ranges → AllByRecursion IsUnused ranges
are_unused [] h = tt
are_unused (i ∷ is) h = (record { object = h.0.object; nr = two_digits i.nr h.0.nr; interval = h.0.interval; first = h.0.first }, are_unused is h.1)

are_apart : (ranges : List Interval) → HaveOwnNames ranges → AreApart ranges
are_apart [] h = tt
are_apart (i ∷ is) h = (h.0, are_apart is h.1)

-- the ranges of a landscape are intervals over which a server can be opened
pub landed_intervals : (land : Landscape) → HasLimits land → AreIntervals land.ranges
landed_intervals land h = record { each = are_unused land.ranges h.ranges.each; apart = are_apart land.ranges h.ranges.apart }

-- what was read of a source keeps the limits of a landscape
pub landed_limits : (left after : Option (List ℕ)) (before now : ℕ) (land : Landscape) → ReadsLandscape left after before now (Ok land) → HasLimits land
landed_limits left after before now land reads = read_limits reads.taken land reads.answer.0

told_as : (left : Option (List ℕ)) (land : Landscape) (taken : List ℕ) → landscape_of taken ≡ Ok land → IfSome left (Answers (Ok land)) → IsRead left land
told_as None land taken gives exact = record { bytes = taken; gives = gives; told = tt }
told_as (Some bytes) land taken gives exact = record { bytes = bytes; gives = exact; told = refl }

-- it is that of the bytes that the source tells
pub landed_read : (left after : Option (List ℕ)) (before now : ℕ) (land : Landscape) → ReadsLandscape left after before now (Ok land)
    → IfSome left (Answers (Ok land)) → IsRead left land
landed_read left after before now land reads exact = told_as left land reads.taken reads.answer.0 exact

-- no other landscape is that of these bytes
pub landed_one : (left : Option (List ℕ)) (bytes : List ℕ) (land other : Landscape) → IsRead left land → left ≡ Some bytes → landscape_of bytes ≡ Ok other
    → other ≡ land
landed_one left bytes land other read is gives =
    let same : bytes ≡ read.bytes = subst (λ o. IfSome o (λ all. all ≡ read.bytes)) is read.told in
    same_ok other land (sym gives ∙ ap landscape_of same ∙ read.gives)
  where
    same_ok : (x y : Landscape) → ◌≡◌ {A = Result Landscape Broken} (Ok x) (Ok y) → x ≡ y
    same_ok x y e = cc

-- ---- one that wasn't

-- why a landscape wasn't read
pub land_ends : (left after : Option (List ℕ)) (before now : ℕ) (f : LandFault) → ReadsLandscape left after before now (Err f)
    → IsLandEnd before now (land_end f)
land_ends left after before now (fault.Bad rule place) reads = broken_rules reads.taken (record { rule = rule; place = place }) reads.answer.0
land_ends left after before now fault.Failed reads = reads.answer
land_ends left after before now fault.NoMemory reads = tt

-- rule 15 is none of a document
pub land_unfit : (o : Option Rows) (source left after : Option (List ℕ)) (may_be : Rows → Type 0) (before now : ℕ) (f : LandFault)
    → ReadsLandscape left after before now (Err f) → IfSome o (λ _. IsUnfitEnd source may_be (land_end f))
land_unfit None source left after may_be before now f reads = tt
land_unfit (Some rows) source left after may_be before now (fault.Bad rule place) reads =
    λ is. absurd (below rule is (broken_rules reads.taken (record { rule = rule; place = place }) reads.answer.0))
  where
    below : (rule : ℕ) → rule ≡ 15 → rule < 15 → ⊥
    below rule is low = omega (arith, is, low)
land_unfit (Some rows) source left after may_be before now fault.Failed reads = tt
land_unfit (Some rows) source left after may_be before now fault.NoMemory reads = tt
