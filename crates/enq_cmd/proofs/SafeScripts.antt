-- A script of which nothing is told but that it is covered lacks nothing, and so it is safe.
use Rattle.std.proofs.Common.{◌≡◌, ◌≢◌, ℕ, ◌+◌, List, [], ◌∷◌, ◌++◌, length, refl, sym, ap, ◌∙◌, subst, arith, codes, Option, Some}
use Rattle.std.specs.Prelude.{Result, Ok, IfSome}
use Rattle.std.specs.Io.KnownBytes.{Appends}
use Rattle.std.specs.List.{flat_map}
use Rattle.std.proofs.KnownBytes.{Consumes-all}
use Rattle.std.proofs.lemmas.List.{append_cancel_left, length-append}
use Rattle.cover_cmd.specs.Covering.{Covers}
use Rattle.cover_cmd.specs.Lines.{numbered}
use Rattle.cover_cmd.specs.Texts.{cover_text, lack_line}
use Rattle.cover_laws.specs.Safe.{Safe}
use Rattle.coverage.specs.Lacks.{Numbered, lacks}
use Rattle.coverage.specs.declared.lack.Lack.{Lack}
use Rattle.io_edge.specs.Lines.{lines_of}
use Rattle.landscape.specs.Broken.{Broken}
use Rattle.landscape.specs.Landscape.{landscape_of}
use Rattle.landscape.specs.declared.landscape.Landscape.{Landscape}
use Rattle.lock_objects.specs.Objects.{Object}
use Rattle.script_runner.specs.declared.runner.Why.TheVariants.{Done}

-- more is told where something lacks
told_more : (l : Lack) (ls : List Lack) → cover_text (l ∷ ls) ≢ codes "COVERED\n"
told_more l ls e =
    let front = flat_map lack_line (l ∷ ls) in
    let counted : length front + 12 ≡ 8 = sym (length-append front (codes "NOT COVERED\n")) ∙ ap length e in
    absurd (omega (arith, counted))

lacks_none : (ls : List Lack) → cover_text ls ≡ codes "COVERED\n" → ls ≡ []
lacks_none [] e = refl
lacks_none (l ∷ ls) e = absurd (told_more l ls e)

pub safe_told : (land_left : Option (List ℕ)) (land_before land_now : ℕ) (left after : Option (List ℕ)) (before now : ℕ) (old new : Option (List ℕ))
    (faults faults_now : ℕ)
    (document bytes front : List ℕ) (land : Landscape) → ((objects : List Object) (lines : List Numbered) → lacks objects lines ≡ [] → Safe objects lines)
    → land_left ≡ Some document → landscape_of document ≡ Ok land → left ≡ Some bytes → old ≡ Some front → new ≡ Some (front ++ codes "COVERED\n")
    → Covers land_left land_before land_now left after before now old new faults faults_now Done → Safe land.objects (numbered 0 (lines_of bytes))
safe_told land_left land_before land_now left after before now old new faults faults_now document bytes front land law told gives source was is h =
    let read = h.2.1.bytes in
    let text = h.2.0 in
    let covered = codes "COVERED\n" in
    let document_is : document ≡ h.1.bytes = subst (λ l. IfSome l (λ all. all ≡ h.1.bytes)) told h.1.told in
    let both : ◌≡◌ {A = Result Landscape Broken} (Ok land) (Ok h.0) = sym gives ∙ ap landscape_of document_is ∙ h.1.gives in
    let same_land : land ≡ h.0 = cc in
    let read_is : read ≡ bytes = subst (λ l. IfSome l (λ xs. read ≡ xs)) source (Consumes-all left after read [] read h.2.1.consumed h.2.1.read.end refl) in
    let added : front ++ covered ≡ front ++ text = subst (λ o. Appends o (Some (front ++ covered)) text) was (subst (λ n. Appends old n text) is h.2.2.0) in
    let text_is : covered ≡ text = append_cancel_left front covered text added in
    let none : lacks h.0.objects (numbered 0 (lines_of read)) ≡ [] = lacks_none _ (sym h.2.1.tells ∙ sym text_is) in
    subst (λ b. Safe land.objects (numbered 0 (lines_of b))) read_is
    (subst (λ l. Safe l.objects (numbered 0 (lines_of read))) (sym same_land) (law h.0.objects (numbered 0 (lines_of read)) none))
