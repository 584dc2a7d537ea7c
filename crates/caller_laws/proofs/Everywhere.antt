-- What holds of each entry of a list, and whose an entry is.
use Rattle.std.proofs.Common.{◌≡◌, inl, inr, Bool, true, false, true≢false, List, [], ◌∷◌, ◌++◌, refl, sym, ap, ◌∙◌, subst}
use Rattle.std.proofs.lemmas.Slice.Eq.{bytes_eq-Decides}
use Rattle.std.specs.Cmp.{unsigned_Decides}
use Rattle.std.specs.List.{AllByRecursion}
use mathlib.Core.List.{IsPrefix}
use Rattle.hall_model.specs.Calls.{who_of}
use Rattle.hall_model.specs.declared.command.PastEntry.{PastEntry}
use Rattle.hall_model.specs.declared.command.Who.{Who}
use Rattle.hall_model.specs.declared.command.Who.TheVariants as caller
use Rattle.script_actors.specs.Doers.{is_same}
use Rattle.turn_desks.specs.Parts.{IsPart}
use Rattle.turn_desks.proofs.lemmas.Parts.{AreOf, NoneOf}
use Rattle.caller_laws.specs.Callers.{is_by}
use Rattle.caller_laws.proofs.Meanings.{same_caller}

module _ {X : Type 0} (P : X → Type 0) where
  pub all_append : (xs ys : List X) → AllByRecursion P xs → AllByRecursion P ys → AllByRecursion P (xs ++ ys)
  all_append [] ys h k = k
  all_append (x ∷ xs) ys h k = (h.0, all_append xs ys h.1 k)

  pub all_front : (xs ys : List X) → AllByRecursion P (xs ++ ys) → AllByRecursion P xs
  all_front [] ys h = tt
  all_front (x ∷ xs) ys h = (h.0, all_front xs ys h.1)

  pub all_back : (xs ys : List X) → AllByRecursion P (xs ++ ys) → AllByRecursion P ys
  all_back [] ys h = h
  all_back (x ∷ xs) ys h = all_back xs ys h.1

  pub all_of_part : (xs ys : List X) → IsPart xs ys → AllByRecursion P ys → AllByRecursion P xs
  all_of_part [] ys h all = tt
  all_of_part (x ∷ xs) [] h all = absurd h
  all_of_part (x ∷ xs) (y ∷ ys) (inl h) all = (subst P (sym h.0) all.0, all_of_part xs ys h.1 all.1)
  all_of_part (x ∷ xs) (y ∷ ys) (inr h) all = all_of_part (x ∷ xs) ys h all.1

  pub all_of_prefix : (xs ys : List X) → IsPrefix xs ys → AllByRecursion P ys → AllByRecursion P xs
  all_of_prefix xs ys p all = all_front xs p.0 (subst (AllByRecursion P) (sym p.1) all)

  pub all_weaker : (Q : X → Type 0) → ((x : X) → P x → Q x) → (xs : List X) → AllByRecursion P xs → AllByRecursion Q xs
  all_weaker Q f [] h = tt
  all_weaker Q f (x ∷ xs) h = (f x h.0, all_weaker Q f xs h.1)

-- the call says whose it is
abbrev pub Says : PastEntry → Type 0
Says e = e.who ≡ who_of e.command

-- ---- the same caller

pub same_itself : (w : Who) → is_same w w ≡ true
same_itself (caller.Session name) = (bytes_eq-Decides name name).1 refl
same_itself (caller.Worker n) = (unsigned_Decides n n).1 refl
same_itself caller.Admin = refl

pub apart_turned : (a b : Who) → is_same a b ≡ false → is_same b a ≡ false
apart_turned a b h = go (is_same b a) refl
  where
    go : (found : Bool) → is_same b a ≡ found → is_same b a ≡ false
    go false e = e
    go true e = absurd (true≢false (sym (ap (λ (x : Who). is_same x b) (sym (same_caller b a e)) ∙ same_itself b) ∙ h))

-- ---- entries of one caller

abbrev pub IsOf : Who → PastEntry → Type 0
IsOf w e = e.who ≡ w

pub by_own : (w : Who) (e : PastEntry) → IsOf w e → is_by w e ≡ true
by_own w e h = ap (is_same w) h ∙ same_itself w

pub by_other : (w x : Who) → is_same w x ≡ false → (e : PastEntry) → IsOf x e → is_by w e ≡ false
by_other w x apart e h = ap (is_same w) h ∙ apart

pub are_of : (p : PastEntry → Bool) (es : List PastEntry) → AllByRecursion (λ e. p e ≡ true) es → AreOf p es
are_of p [] h = tt
are_of p (e ∷ es) h = (h.0, are_of p es h.1)

pub none_of : (p : PastEntry → Bool) (es : List PastEntry) → AllByRecursion (λ e. p e ≡ false) es → NoneOf p es
none_of p [] h = tt
none_of p (e ∷ es) h = (h.0, none_of p es h.1)
