-- The lists after some records, found from the last record on.
use Rattle.std.proofs.Common.{◌≡◌, Bool, true, false, not, ◌||◌, cond, List, [], ◌∷◌, ◌++◌, reverse, refl, sym, ap, ◌∙◌, append_assoc, inl, inr}
use Rattle.std.specs.List.{filter, fold}
use Rattle.std.proofs.lemmas.Bool.{cases_Bool}
use Rattle.std.proofs.lemmas.List.{append-nil}
use Rattle.std.proofs.lemmas.List.Elements.{filter-append}
use Rattle.enq_base.specs.Owners.{same_unit}
use Rattle.enq_base.specs.declared.owner.UnitKey.{UnitKey}
use Rattle.backup_file.specs.declared.handed.Handed.{Handed}
use Rattle.backup_file.specs.declared.handed.Record.{Record}
use Rattle.backup_file.specs.declared.handed.Record.TheVariants.{Hand, Free}
use Rattle.enq_base.specs.declared.unit_id.UnitId.{UnitId}
use Rattle.backup_file.specs.Lists.{AreTouched, after, hands, is_known, is_touched, unit_of, without}
use Rattle.backup_file.proofs.lemmas.Units.{flipped}

-- what of these lists stands after the records
abbrev spared : List Record → List Handed → List Handed
spared rs l = filter (λ (h : Handed). not (is_touched h.unit rs)) l

all_spared : (l : List Handed) → spared [] l ≡ l
all_spared [] = refl
all_spared (h ∷ l) = ap (λ r. h ∷ r) (all_spared l)

neither : (s t : Bool) (x : Handed) (xs ys : List Handed) → xs ≡ ys → cond (not (s || t)) (x ∷ xs) xs ≡ cond (not (s || t)) (x ∷ ys) ys
neither s t x xs ys e = ap (λ zs. cond (not (s || t)) (x ∷ zs) zs) e

-- a record's own unit goes first, and then those of the later ones
spared_more : (r : Record) (rs : List Record) (l : List Handed) → spared rs (without (unit_of r) l) ≡ spared (r ∷ rs) l
spared_more r rs [] = refl
spared_more r rs (h ∷ l) =
    elim (cases_Bool (same_unit h.unit (unit_of r))) [
      | inl own ↦
          ap (λ b. spared rs (cond (not b) (h ∷ without (unit_of r) l) (without (unit_of r) l))) own
          ∙ spared_more r rs l
          ∙ sym (ap (λ b. cond (not (b || is_touched h.unit rs)) (h ∷ spared (r ∷ rs) l) (spared (r ∷ rs) l)) (flipped (unit_of r) h.unit ∙ own))
      | inr other ↦
          ap (λ b. spared rs (cond (not b) (h ∷ without (unit_of r) l) (without (unit_of r) l))) other
          ∙ ap (λ zs. cond (not (is_touched h.unit rs)) (h ∷ zs) zs) (spared_more r rs l)
          ∙ sym (ap (λ b. cond (not (b || is_touched h.unit rs)) (h ∷ spared (r ∷ rs) l) (spared (r ∷ rs) l)) (flipped (unit_of r) h.unit ∙ other))
    ]

joined : (b : Bool) (h : Handed) (xs : List Handed) → cond (not b) (h ∷ []) [] ++ xs ≡ cond b xs (h ∷ xs)
joined true h xs = refl
joined false h xs = refl

-- after the records stand the lists from before that none of them is of, and then the hands that none follows
pub after_all : (rs : List Record) (l : List Handed) → fold after l rs ≡ spared rs l ++ hands rs
after_all [] l = sym (append-nil (spared [] l) ∙ all_spared l)
after_all (Hand h ∷ rs) l =
    after_all rs (without h.unit l ++ h ∷ [])
    ∙ ap (λ zs. zs ++ hands rs) (filter-append (λ (k : Handed). not (is_touched k.unit rs)) (without h.unit l) (h ∷ []))
    ∙ append_assoc (spared rs (without h.unit l)) (cond (not (is_touched h.unit rs)) (h ∷ []) []) (hands rs)
    ∙ ap (λ zs. zs ++ (cond (not (is_touched h.unit rs)) (h ∷ []) [] ++ hands rs)) (spared_more (Hand h) rs l)
    ∙ ap (λ zs. spared (Hand h ∷ rs) l ++ zs) (joined (is_touched h.unit rs) h (hands rs))
after_all (Free u ∷ rs) l = after_all rs (without u l) ∙ ap (λ zs. zs ++ hands rs) (spared_more (Free u) rs l)

pub hands_stand : (rs : List Record) → fold after [] rs ≡ hands rs
hands_stand rs = after_all rs []

-- one more unit is noted
pub touched_more : (old new : List UnitId) (r : Record) (rs : List Record) → AreTouched old rs
    → ((u : UnitKey) → is_known u new ≡ (same_unit (unit_of r) u || is_known u old)) → AreTouched new (r ∷ rs)
touched_more old new r rs are more = λ u. more u ∙ ap (λ b. same_unit (unit_of r) u || b) (are u)

pub hands_put : (b : Bool) (h : Handed) (rs : List Record) → is_touched h.unit rs ≡ false → h ∷ hands rs ≡ hands (Hand h ∷ rs)
hands_put b h rs free = sym (ap (λ t. cond t (hands rs) (h ∷ hands rs)) free)

pub hands_replaced : (h : Handed) (rs : List Record) → is_touched h.unit rs ≡ true → hands rs ≡ hands (Hand h ∷ rs)
hands_replaced h rs gone = sym (ap (λ t. cond t (hands rs) (h ∷ hands rs)) gone)

-- some last records were read, and what stands of them is listed from the last on
pub record IsReadBack (all left : List Record) (seen : List UnitId) (lists : List Handed) : Type 0 where
  pub later : List Record
  pub whole : all ≡ left ++ later
  pub touched : AreTouched seen later
  pub listed : reverse lists ≡ hands later
