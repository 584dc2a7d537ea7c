-- A landscape is that of all bytes of its source.
use Rattle.std.proofs.Common.{◌≡◌, ℕ, ◌<◌, List, [], ◌++◌, length, nat_lt, true, Option, None, Some, Result, Ok, Err, refl, sym, ap, ◌∙◌, arith, length-append, inl, inr}
use Rattle.std.proofs.lemmas.Bool.{cases_Bool, lt-ltb, ltb-true, ltb-false}
use Rattle.std.proofs.lemmas.List.{append-nil}
use Rattle.std.specs.Prelude.{IfSome}
use Rattle.std.specs.Global.{Vec}
use Rattle.std.specs.Io.KnownBytes.{Consumes}
use Rattle.landscape.specs.Broken.{Gives}
use Rattle.landscape.specs.Document.{document_of}
use Rattle.landscape.specs.Landscape.{landscape_of}
use Rattle.landscape.specs.Reading.{Answers, IsEnough, TakesAll}
use Rattle.landscape.specs.declared.land_fault.LandFault.{LandFault}
use Rattle.landscape.specs.declared.land_fault.LandFault.TheVariants as fault
use Rattle.landscape.specs.declared.landscape.Landscape.{Landscape}

too_long : (bs : List ℕ) → nat_lt 1048576 (length bs) ≡ true → landscape_of bs ≡ Err (record { rule = 1; place = 0 })
unfolding landscape_of document_of
too_long bs h = rw h refl

-- the bytes behind a document that is too long don't count
same_landscape : (left : Option (List ℕ)) (xs taken : List ℕ) → Consumes (Some xs) left taken → IsEnough left taken
    → landscape_of xs ≡ landscape_of taken
same_landscape None xs taken c n = absurd c
same_landscape (Some ys) xs taken c n =
    elim (cases_Bool (nat_lt 1048576 (length taken))) [
      | inl long ↦
          let more : 1048576 < length xs = omega (arith, ap length c, length-append taken ys, ltb-true 1048576 (length taken) long) in
          too_long xs (lt-ltb 1048576 (length xs) more) ∙ sym (too_long taken long)
      | inr short ↦
          let none : ys ≡ [] = n (ltb-false 1048576 (length taken) short) in
          ap landscape_of (c ∙ ap (λ zs. taken ++ zs) none ∙ append-nil taken)
    ]

answered : (result : Result Landscape LandFault) (xs bs : List ℕ) → landscape_of xs ≡ landscape_of bs
    → Gives (λ (l : Landscape). l) result (landscape_of bs) → Answers result xs
answered (Ok land) xs bs e g = e ∙ g
answered (Err (fault.Bad r p)) xs bs e g = e ∙ g
answered (Err fault.Failed) xs bs e g = tt
answered (Err fault.NoMemory) xs bs e g = tt

-- what is answered of the bytes that were taken is answered of all
pub answers_all : (first last : Option (List ℕ)) (before now : ℕ) (bytes : Vec ℕ) (result : Result Landscape LandFault)
    → TakesAll first last before now (Ok bytes) → Gives (λ (l : Landscape). l) result (landscape_of bytes.items)
    → IfSome first (Answers result)
answers_all None last before now bytes result t g = tt
answers_all (Some xs) last before now bytes result t g =
    answered result xs bytes.items (same_landscape last xs t.taken t.consumed t.answer.1 ∙ ap landscape_of (sym t.answer.0)) g
