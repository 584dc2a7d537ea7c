-- The rows of a part, as far as a loop over its effects has come.
use Rattle.std.proofs.Common.{◌≡◌, ℕ, ◌+◌, ◌<◌, List, [], ◌∷◌, ◌++◌, length, drop, get_or, refl, sym, ap, ◌∙◌, arith, append_assoc}
use Rattle.std.proofs.lemmas.List.{at_drop_more}
use Rattle.std.specs.List.{All, flat_map}
use Rattle.std.proofs.lemmas.List.Concat.{flat_map-cons}
use Rattle.std.proofs.Common.{take}
use Rattle.std.proofs.lemmas.List.{take_more}
use Rattle.std.proofs.lemmas.List.Elements.{All-push}
use Rattle.std.proofs.Common.{subst}
use Rattle.keeper_api.specs.declared.rows.Change.{Change}
use Rattle.enq_base.specs.declared.owner.UnitKey.{UnitKey}
use Rattle.enq_base.specs.declared.unit.Effect.{Effect}
use Rattle.enq_base.specs.declared.unit.Num.{Num as Number}
use Rattle.lock_entry.specs.declared.entry.Entry.{Entry as Lock}
use Rattle.update_records.specs.RecordRows.{number_bytes, lock_row, lock_rows, module_row, step_row, step_rows, part_rows}

pub steps_go_on : (key : UnitKey) (part index i : ℕ) (effects : List Effect) (item : Effect) (change : Change) (old new all : List Change) → i < length effects
    → item ≡ get_or effects i item → change ≡ step_row key part index item
    → new ≡ old ++ change ∷ [] → old ++ step_rows key part index (drop i effects) ≡ all → new ++ step_rows key part (index + 1) (drop (i + 1) effects) ≡ all
steps_go_on key part index i effects item change old new all h is made pushed whole =
    let rest = step_rows key part (index + 1) (drop (i + 1) effects) in
    ap (λ n. n ++ rest) pushed ∙ append_assoc old (change ∷ []) rest
    ∙ ap (λ c. old ++ c ∷ rest) (made ∙ ap (step_row key part index) is)
    ∙ ap (λ r. old ++ r) (sym (at_drop_more (step_rows key part index) effects i item h))
    ∙ whole

pub part_is : (key : UnitKey) (part : ℕ) (effects : List Effect) → 0 < length effects
    → part_rows key part effects ≡ module_row key part effects ∷ step_rows key part 1 effects
part_is key part [] h = absurd (omega arith)
part_is key part (effect ∷ effects) h = refl

pub part_whole : (key : UnitKey) (part : ℕ) (effects : List Effect) (change : Change) (old mid new : List Change) → 0 < length effects
    → change ≡ module_row key part effects
    → mid ≡ old ++ change ∷ [] → new ≡ mid ++ step_rows key part 1 effects → new ≡ old ++ part_rows key part effects
part_whole key part effects change old mid new h made pushed steps =
    steps ∙ ap (λ m. m ++ step_rows key part 1 effects) pushed ∙ append_assoc old (change ∷ []) _
    ∙ ap (λ c. old ++ c ∷ step_rows key part 1 effects) made ∙ ap (λ r. old ++ r) (sym (part_is key part effects h))

pub locks_go_on : (key : UnitKey) (index i : ℕ) (locks : List Lock) (item : Lock) (change : Change) (old new all : List Change) → i < length locks
    → item ≡ get_or locks i item → change ≡ lock_row key index item
    → new ≡ old ++ change ∷ [] → old ++ lock_rows key index (drop i locks) ≡ all → new ++ lock_rows key (index + 1) (drop (i + 1) locks) ≡ all
locks_go_on key index i locks item change old new all h is made pushed whole =
    let rest = lock_rows key (index + 1) (drop (i + 1) locks) in
    ap (λ n. n ++ rest) pushed ∙ append_assoc old (change ∷ []) rest
    ∙ ap (λ c. old ++ c ∷ rest) (made ∙ ap (lock_row key index) is)
    ∙ ap (λ r. old ++ r) (sym (at_drop_more (lock_rows key index) locks i item h))
    ∙ whole

pub all_more : {X : Type 0} (P : X → Type 0) (xs : List X) (i : ℕ) (x : X) → i < length xs → x ≡ get_or xs i x → All P (take i xs) → P x
    → All P (take (i + 1) xs)
all_more P xs i x h is before this = subst (All P) (sym (take_more xs i x h ∙ ap (λ y. take i xs ++ y ∷ []) (sym is))) (All-push P (take i xs) x before this)

pub numbers_go_on : (i : ℕ) (numbers : List Number) (item : Number) (old new all : List ℕ) → i < length numbers → item ≡ get_or numbers i item
    → new ≡ old ++ number_bytes item
    → old ++ flat_map number_bytes (drop i numbers) ≡ all → new ++ flat_map number_bytes (drop (i + 1) numbers) ≡ all
numbers_go_on i numbers item old new all h is pushed whole =
    let rest = flat_map number_bytes (drop (i + 1) numbers) in
    ap (λ n. n ++ rest) pushed ∙ append_assoc old (number_bytes item) rest
    ∙ ap (λ (n : Number). old ++ (number_bytes n ++ rest)) is
    ∙ ap (λ r. old ++ r)
    (sym (at_drop_more (flat_map number_bytes) numbers i item h ∙ flat_map-cons number_bytes (get_or numbers i item) (drop (i + 1) numbers)))
    ∙ whole
