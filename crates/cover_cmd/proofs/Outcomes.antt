-- How the words end, by what was read and what was written.
use Rattle.std.proofs.Common.{◌⊎◌, inl, inr, ◌≡◌, ◌≢◌, ℕ, List, refl, sym, ap, ◌∙◌, subst}
use Rattle.std.specs.Prelude.{Option, Some, None, Result, Ok, Err, IfSome, IfOk, IfErr}
use Rattle.std.specs.Global.{Vec}
use Rattle.coverage.specs.Lacks.{Numbered}
use Rattle.coverage.specs.Walked.{CoverView, HasWalked}
use Rattle.coverage.specs.declared.lack.Lack.{Lack}
use Rattle.enq_base.specs.Causes.{Rose}
use Rattle.io_edge.specs.Lines.{lines_of}
use Rattle.landscape.specs.Broken.{Broken}
use Rattle.landscape.specs.Landscape.{landscape_of}
use Rattle.landscape.specs.Reading.{Answers, ReadsLandscape}
use Rattle.landscape.specs.declared.land_fault.LandFault.{LandFault}
use Rattle.landscape.specs.declared.land_fault.LandFault.TheVariants as land_fault
use Rattle.landscape.specs.declared.landscape.Landscape.{Landscape}
use Rattle.landscape.proofs.lemmas.Limits.{broken_rules}
use Rattle.lock_objects.specs.Objects.{Object}
use Rattle.script_runner.specs.LineFaults.{IsToBlame}
use Rattle.script_runner.specs.Whole.{IsScript}
use Rattle.script_runner.specs.declared.runner.Why.{Why}
use Rattle.script_runner.specs.declared.runner.Why.TheVariants.{Done, BadLandscape, BadLine, LongLine, ManyLines, SourceFault, SinkFault, NoMemory}
use Rattle.cover_cmd.specs.Covering.{Covers, IsBroken, IsLanded, IsTextOf, Puts, Tells, land_end}
use Rattle.cover_cmd.specs.Lines.{numbered}
use Rattle.cover_cmd.specs.Reading.{HasLacks, HasText, IsReadingEnd, ReadsAll}
use Rattle.cover_cmd.specs.Texts.{cover_text}
use Rattle.cover_cmd.proofs.Ends.{tells_all}
use Rattle.cover_cmd.proofs.Loop.{IsWalked, Stops}

-- ---- the lacks, and their text

-- the walk was asked for what the lines lack
pub finds : (objects : List Object) (old next : Option (List ℕ)) (f g : ℕ) (cover : CoverView) (r : Result (Vec Lack) Why)
    → IsWalked objects old next f g cover
    → ((os : List Object) (lines : List Numbered) → HasWalked os lines cover → IfOk r (HasLacks os lines)) → IfErr r (λ why. why ≡ NoMemory)
    → ReadsAll (HasLacks objects) old next f g r
finds objects old next f g cover (Ok found) w h memory =
    (w.bytes, w.read, (w.whole, h objects (numbered 0 (lines_of w.bytes)) w.walked, w.quiet))
finds objects old next f g cover (Err why) w h memory = (w.bytes, w.read, subst (λ x. IsReadingEnd w.bytes next f g x) (sym memory) tt)

pub texts : (objects : List Object) (old next : Option (List ℕ)) (f g : ℕ) (found : Vec Lack) (shown : List Lack) (r : Result (Vec ℕ) Why)
    → shown ≡ found.items
    → ReadsAll (HasLacks objects) old next f g (Ok found) → IfOk r (λ text. text.items ≡ cover_text shown) → IfErr r (λ why. why ≡ NoMemory)
    → ReadsAll (HasText objects) old next f g r
texts objects old next f g found shown (Ok text) same h is memory =
    (h.0, h.1, (h.2.0, is ∙ ap (λ x. cover_text x) (same ∙ h.2.1), h.2.2))
texts objects old next f g found shown (Err why) same h is memory = (h.0, h.1, subst (λ x. IsReadingEnd h.0 next f g x) (sym memory) tt)

-- ---- what was written

text_of : (objects : List Object) (left after : Option (List ℕ)) (f g : ℕ) (text : Vec ℕ) (shown : List ℕ) → shown ≡ text.items
    → ReadsAll (HasText objects) left after f g (Ok text) → IsTextOf objects left after f g shown
text_of objects left after f g text shown same h = record { bytes = h.0; consumed = h.1; read = h.2.0; tells = same ∙ h.2.1; quiet = h.2.2 }

pub written : (objects : List Object) (left after : Option (List ℕ)) (f g : ℕ) (old new : Option (List ℕ)) (t t' : ℕ) (text : Vec ℕ) (shown : List ℕ)
    (why : Why)
    → shown ≡ text.items → ReadsAll (HasText objects) left after f g (Ok text) → Puts old new t t' shown why → Tells objects left after f g old new t t' why
written objects left after f g old new t t' text shown Done same h puts = (shown, text_of objects left after f g text shown same h, puts)
written objects left after f g old new t t' text shown SinkFault same h puts = (shown, text_of objects left after f g text shown same h, puts)
written objects left after f g old new t t' text shown _ same h puts = absurd puts

-- a text that is put ends well, or the sink fails
pub put_ends : {X : Type 0} (old new : Option (List ℕ)) (t t' : ℕ) (text : List ℕ) (why : Why) → Puts old new t t' text why → why ≢ Done → why ≢ SinkFault → X
put_ends old new t t' text Done h a b = absurd (a refl)
put_ends old new t t' text SinkFault h a b = absurd (b refl)
put_ends old new t t' text _ h a b = absurd h

pub unwritten : (objects : List Object) (left after : Option (List ℕ)) (f g : ℕ) (old new : Option (List ℕ)) (t t' : ℕ) (why : Why)
    → Stops left after f g why → Tells objects left after f g old new t t' why
unwritten objects left after f g old new t t' Done h = absurd h.2
unwritten objects left after f g old new t t' SinkFault h = absurd h.2
unwritten objects left after f g old new t t' _ h = h

-- a script that is told of has no landscape that breaks a rule
pub unbroken : {X : Type 0} (objects : List Object) (left after : Option (List ℕ)) (f g : ℕ) (old new : Option (List ℕ)) (t t' rule place : ℕ) (why : Why)
    → Tells objects left after f g old new t t' why → why ≡ BadLandscape rule place → X
unbroken objects left after f g old new t t' rule place why h is =
    let h : Tells objects left after f g old new t t' (BadLandscape rule place) = subst (Tells objects left after f g old new t t') is h in
    absurd h.2

-- ---- what that says of all bytes of the script

pub blames : (objects : List Object) (left after : Option (List ℕ)) (f g : ℕ) (old new : Option (List ℕ)) (t t' : ℕ) (why : Why) (bytes : List ℕ)
    → left ≡ Some bytes
    → Tells objects left after f g old new t t' why → IsToBlame why bytes
blames objects left after f g old new t t' Done bytes is h = tt
blames objects left after f g old new t t' SinkFault bytes is h = tt
blames objects left after f g old new t t' (BadLine n) bytes is h = (tells_all bytes h.0 left after f g (BadLine n) is h.1 h.2).blamed
blames objects left after f g old new t t' (LongLine n) bytes is h = (tells_all bytes h.0 left after f g (LongLine n) is h.1 h.2).blamed
blames objects left after f g old new t t' ManyLines bytes is h = (tells_all bytes h.0 left after f g ManyLines is h.1 h.2).blamed
blames objects left after f g old new t t' SourceFault bytes is h = (tells_all bytes h.0 left after f g SourceFault is h.1 h.2).blamed
blames objects left after f g old new t t' NoMemory bytes is h = (tells_all bytes h.0 left after f g NoMemory is h.1 h.2).blamed
blames objects left after f g old new t t' _ bytes is h = absurd h.2

pub completes : (objects : List Object) (left after : Option (List ℕ)) (f g : ℕ) (old new : Option (List ℕ)) (t t' : ℕ) (why : Why) (bytes : List ℕ)
    → left ≡ Some bytes
    → Tells objects left after f g old new t t' why → IsScript bytes → ¬ Rose f g → ¬ Rose t t' → (why ≡ Done) ⊎ (why ≡ NoMemory)
completes objects left after f g old new t t' Done bytes is h script quiet calm = inl refl
completes objects left after f g old new t t' SinkFault bytes is h script quiet calm = absurd (calm h.2.1)
completes objects left after f g old new t t' (BadLine n) bytes is h script quiet calm =
    inr ((tells_all bytes h.0 left after f g (BadLine n) is h.1 h.2).complete script quiet)
completes objects left after f g old new t t' (LongLine n) bytes is h script quiet calm =
    inr ((tells_all bytes h.0 left after f g (LongLine n) is h.1 h.2).complete script quiet)
completes objects left after f g old new t t' ManyLines bytes is h script quiet calm =
    inr ((tells_all bytes h.0 left after f g ManyLines is h.1 h.2).complete script quiet)
completes objects left after f g old new t t' SourceFault bytes is h script quiet calm =
    inr ((tells_all bytes h.0 left after f g SourceFault is h.1 h.2).complete script quiet)
completes objects left after f g old new t t' NoMemory bytes is h script quiet calm =
    inr ((tells_all bytes h.0 left after f g NoMemory is h.1 h.2).complete script quiet)
completes objects left after f g old new t t' _ bytes is h script quiet calm = absurd h.2

-- ---- the landscape

told_as : (left : Option (List ℕ)) (f g : ℕ) (land : Landscape) (taken : List ℕ) → landscape_of taken ≡ Ok land → IfSome left (Answers (Ok land)) → g ≡ f
    → IsLanded left f g land
told_as None f g land taken gives exact quiet = record { bytes = taken; gives = gives; told = tt; quiet = quiet }
told_as (Some bytes) f g land taken gives exact quiet = record { bytes = bytes; gives = exact; told = refl; quiet = quiet }

pub landed : (left after : Option (List ℕ)) (f g : ℕ) (land : Landscape) → ReadsLandscape left after f g (Ok land) → IfSome left (Answers (Ok land))
    → IsLanded left f g land
landed left after f g land reads exact = told_as left f g land reads.taken reads.answer.0 exact reads.answer.2

breaks_as : (left : Option (List ℕ)) (rule place : ℕ) (taken : List ℕ) → landscape_of taken ≡ Err (record { rule = rule; place = place })
    → IfSome left (Answers (Err (land_fault.Bad rule place))) → IsBroken left rule place
breaks_as None rule place taken breaks exact =
    record { bytes = taken; breaks = breaks; known = broken_rules taken (record { rule = rule; place = place }) breaks; told = tt }
breaks_as (Some bytes) rule place taken breaks exact =
    record { bytes = bytes; breaks = exact; known = broken_rules bytes (record { rule = rule; place = place }) exact; told = refl }

-- the landscape wasn't read
pub unlanded : (land_left land_after : Option (List ℕ)) (l l' : ℕ) (left after : Option (List ℕ)) (f g : ℕ) (old new : Option (List ℕ)) (t t' : ℕ)
    (fault : LandFault) (why : Why)
    → why ≡ land_end fault → ReadsLandscape land_left land_after l l' (Err fault) → IfSome land_left (Answers (Err fault))
    → Covers land_left l l' left after f g old new t t' why
unlanded land_left land_after l l' left after f g old new t t' fault why is reads exact =
    subst (λ w. Covers land_left l l' left after f g old new t t' w) (sym is) (ends fault reads exact)
  where
    ends : (fault : LandFault) → ReadsLandscape land_left land_after l l' (Err fault) → IfSome land_left (Answers (Err fault))
        → Covers land_left l l' left after f g old new t t' (land_end fault)
    ends (land_fault.Bad rule place) reads exact = breaks_as land_left rule place reads.taken reads.answer.0 exact
    ends land_fault.Failed reads exact = inl reads.answer
    ends land_fault.NoMemory reads exact = tt

-- it was read, and the script was told of with it
covers_with : (land_left : Option (List ℕ)) (l l' : ℕ) (left after : Option (List ℕ)) (f g : ℕ) (old new : Option (List ℕ)) (t t' : ℕ) (land : Landscape)
    (why : Why)
    → IsLanded land_left l l' land → Tells land.objects left after f g old new t t' why → Covers land_left l l' left after f g old new t t' why
covers_with land_left l l' left after f g old new t t' land (BadLandscape rule place) is h = absurd h.2
covers_with land_left l l' left after f g old new t t' land NoMemory is h = tt
covers_with land_left l l' left after f g old new t t' land SourceFault is h = inr (land, is, h)
covers_with land_left l l' left after f g old new t t' land _ is h = (land, is, h)

pub covers : (land_left : Option (List ℕ)) (l l' : ℕ) (left after : Option (List ℕ)) (f g : ℕ) (old new : Option (List ℕ)) (t t' : ℕ) (land : Landscape)
    (objects : List Object) (why : Why)
    → IsLanded land_left l l' land → objects ≡ land.objects → Tells objects left after f g old new t t' why
    → Covers land_left l l' left after f g old new t t' why
covers land_left l l' left after f g old new t t' land objects why is same h =
    covers_with land_left l l' left after f g old new t t' land why is (subst (λ o. Tells o left after f g old new t t' why) same h)

-- no line is to blame where the landscape wasn't read
pub no_blame : (fault : LandFault) (why : Why) (bytes : List ℕ) → why ≡ land_end fault → IsToBlame why bytes
no_blame fault why bytes is = subst (λ w. IsToBlame w bytes) (sym is) (ends fault)
  where
    ends : (fault : LandFault) → IsToBlame (land_end fault) bytes
    ends (land_fault.Bad rule place) = tt
    ends land_fault.Failed = tt
    ends land_fault.NoMemory = tt

both : (x : Landscape) (y : Broken) (r : Result Landscape Broken) → r ≡ Ok x → r ≡ Err y → ⊥
both x y (Ok z) e f = cc
both x y (Err z) e f = cc

-- a landscape that breaks no rule is read, unless a count rose or memory was wanting
pub unlanded_ends : (land_left after : Option (List ℕ)) (l l' : ℕ) (fault : LandFault) (why : Why) (document : List ℕ) (land : Landscape)
    → why ≡ land_end fault
    → land_left ≡ Some document → landscape_of document ≡ Ok land → ¬ Rose l l' → ReadsLandscape land_left after l l' (Err fault)
    → IfSome land_left (Answers (Err fault)) → (why ≡ Done) ⊎ (why ≡ NoMemory)
unlanded_ends land_left after l l' (land_fault.Bad rule place) why document land is told gives calm reads exact =
    let broken = subst (λ o. IfSome o (Answers (Err (land_fault.Bad rule place)))) told exact in
    absurd (both land (record { rule = rule; place = place }) (landscape_of document) gives broken)
unlanded_ends land_left after l l' land_fault.Failed why document land is told gives calm reads exact = absurd (calm reads.answer)
unlanded_ends land_left after l l' land_fault.NoMemory why document land is told gives calm reads exact = inr is
