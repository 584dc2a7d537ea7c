-- Given entries, one after another.
use Rattle.std.proofs.Common.{◌≡◌, ℕ, zero, suc, ◌+◌, ◌<◌, ◌≤◌, List, [], ◌∷◌, ◌++◌, Bool, true, false, cond, not, length, map, take, drop, get_or, Option, None, sym, ◌∙◌, ap, refl, arith}
use Rattle.std.specs.Prelude.{is_some}
use Rattle.std.specs.List.{list_all, filter, find, position}
use Rattle.std.specs.Option.{option_or}
use Rattle.std.proofs.lemmas.Bool.{and_parts}
use Rattle.std.proofs.lemmas.List.{take_more, drop_more, length-append}
use Rattle.std.proofs.lemmas.List.Elements.{filter-append}
use Rattle.enq_base.specs.declared.owner.Owner.{Owner}
use Rattle.lock_entry.specs.declared.entry.Asker.{Asker}
use Rattle.lock_entry.specs.declared.entry.Entry.{Entry}
use Rattle.lock_entry.specs.Names.{asked_of, name_of, named, has_name, is_of, stands}
use Rattle.lock_entry.specs.Barring.{bars}
use Rattle.lock_entry.specs.Granting.{first_bar, newcomers}
use Rattle.lock_entry.proofs.lemmas.Naming.{same_owner-same}
use Rattle.lock_table.proofs.HalfLists.{is_some-place}

-- an owner's entry among those that are all the owner's
of_owner : (owner : Owner) (gs : List Entry) (i : ℕ) (e : Entry) → list_all (is_of owner) gs ≡ true → i < length gs → e ≡ get_or gs i e → is_of owner e ≡ true
of_owner owner [] i e all below read = absurd (omega arith)
of_owner owner (g ∷ gs) zero e all below read = let s : e ≡ g = read in ap (is_of owner) s ∙ (and_parts (is_of owner g) (list_all (is_of owner) gs) all).0
of_owner owner (g ∷ gs) (suc i) e all below read = of_owner owner gs i e (and_parts (is_of owner g) (list_all (is_of owner) gs) all).1 (omega arith) read

own_name : (owner : Owner) (e : Entry) → is_of owner e ≡ true → named owner (asked_of e) ≡ name_of e
own_name owner e h = ap (λ (o : Owner). named o (asked_of e)) (sym (same_owner-same e.owner owner h))

one_more_length : (b : Bool) (e : Entry) → length (cond (not b) (e ∷ []) []) ≡ cond b 0 1
one_more_length true e = refl
one_more_length false e = refl

-- one more given entry, whose place was looked for under its owner's name
pub newcomers-more : (owner : Owner) (es gs : List Entry) (i : ℕ) (e : Entry) (place : Option ℕ) (added one : ℕ) → list_all (is_of owner) gs ≡ true
    → i < length gs → e ≡ get_or gs i e → place ≡ position (has_name (named owner (asked_of e))) es → one ≡ cond (is_some place) 0 1
    → added ≡ length (newcomers es (take i gs)) → added + one ≡ length (newcomers es (take (i + 1) gs))
newcomers-more owner es gs i e place added one all below read at more so_far =
    let longer : take (i + 1) gs ≡ take i gs ++ e ∷ [] = take_more gs i e below ∙ ap (λ (x : Entry). take i gs ++ x ∷ []) (sym read) in
    let known : is_some place ≡ stands es (name_of e) =
    ap is_some at ∙ is_some-place es (named owner (asked_of e)) ∙ ap (stands es) (own_name owner e (of_owner owner gs i e all below read)) in
    let long : length (newcomers es (take (i + 1) gs)) ≡ length (newcomers es (take i gs)) + cond (stands es (name_of e)) 0 1 =
    ap (λ (r : List Entry). length (newcomers es r)) longer
    ∙ ap length (filter-append (λ x. not (stands es (name_of x))) (take i gs) (e ∷ []))
    ∙ length-append (newcomers es (take i gs)) (filter (λ x. not (stands es (name_of x))) (e ∷ []))
    ∙ ap (λ (n : ℕ). length (newcomers es (take i gs)) + n) (one_more_length (stands es (name_of e)) e) in
    ap (λ (n : ℕ). added + n) (more ∙ ap (λ b. cond b 0 1) known) ∙ ap (λ (n : ℕ). n + cond (stands es (name_of e)) 0 1) so_far ∙ sym long

pub one_at_most : (b : Bool) (n i : ℕ) → n ≡ cond b 0 1 → i + n ≤ i + 1
one_at_most true n i h = omega arith
one_at_most false n i h = omega arith

-- an entry that isn't barred is passed over
pub first_bar-more : (es : List Entry) (asker : Asker) (gs : List Entry) (i : ℕ) (e : Entry) → i < length gs → e ≡ get_or gs i e
    → find (bars asker (asked_of e)) es ≡ None → first_bar es asker (map asked_of (drop i gs)) ≡ first_bar es asker (map asked_of (drop (i + 1) gs))
first_bar-more es asker gs i e below read none =
    let split : drop i gs ≡ e ∷ drop (i + 1) gs = drop_more gs i e below ∙ ap (λ (x : Entry). x ∷ drop (i + 1) gs) (sym read) in
    ap (λ (r : List Entry). first_bar es asker (map asked_of r)) split
    ∙ ap (λ (o : Option Entry). option_or o (first_bar es asker (map asked_of (drop (i + 1) gs)))) none
