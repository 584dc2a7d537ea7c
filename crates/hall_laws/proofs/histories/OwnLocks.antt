-- The locks of one owner stay the same list, whatever is done to the locks of others.
use Rattle.std.proofs.Common.{◌≡◌, ℕ, Bool, true, false, not, ◌&&◌, cond, List, [], ◌∷◌, ◌++◌, map, fold, inl, inr, refl, sym, ap, ◌∙◌}
use Rattle.std.specs.Prelude.{nat_le, Option, Some, None}
use Rattle.std.specs.List.{AllByRecursion, cons_option, filter, filter_map, list_all, list_any}
use Rattle.std.proofs.lemmas.Bool.{and_left, and_parts, cases_Bool, or_from}
use Rattle.std.proofs.lemmas.List.{append-nil}
use Rattle.std.proofs.lemmas.List.Elements.{filter-append}
use Rattle.enq_base.specs.Owners.{same_owner}
use Rattle.enq_base.specs.declared.owner.Owner.{Owner}
use Rattle.enq_base.specs.declared.owner.Owner.TheVariants.{Upd}
use Rattle.enq_base.specs.declared.owner.UnitKey.{UnitKey}
use Rattle.lock_entry.proofs.lemmas.Naming.{same_name-same, same_owner-same, same_owner-sym}
use Rattle.lock_entry.specs.Barring.{places_meet}
use Rattle.lock_entry.specs.Converting.{conversion, gives_way, turns}
use Rattle.lock_entry.specs.Freeing.{freed, freed_owner, handed_over}
use Rattle.lock_entry.specs.Granting.{granted, new_entry, new_names, raised}
use Rattle.lock_entry.specs.Names.{asked_of, halves, has_name, is_of, name_of, same_asked, same_name, stands}
use Rattle.lock_entry.specs.Pairs.{in_pair}
use Rattle.lock_entry.specs.Turning.{turned_by, turned_entry}
use Rattle.lock_entry.specs.declared.entry.Asked.{Asked}
use Rattle.lock_entry.specs.declared.entry.Asker.{Asker}
use Rattle.lock_entry.specs.declared.entry.Entry.{Entry}
use Rattle.lock_entry.specs.declared.entry.LockName.{LockName}
use Rattle.lock_entry.specs.declared.entry.Request.{Request}
use Rattle.mode_rules.specs.declared.Mode.TheVariants.{O}
use Rattle.mode_rules.specs.Modes.{same_mode}
use Rattle.hall_model.specs.Kept.{is_firm}
use Rattle.model_laws.proofs.LockLists.{raised_same}
use Rattle.hall_laws.proofs.histories.LockUsers.{NamesOf, OnSome, of_halves, of_once, turned_one}
use Rattle.model_laws.proofs.EachLock.{every_filter}

-- ---- lists

skipped : {X : Type 0} (p : X → Bool) (x : X) (xs : List X) → p x ≡ false → filter p (x ∷ xs) ≡ filter p xs
skipped p x xs h = ap (λ b. cond b (x ∷ filter p xs) (filter p xs)) h

pub filter_all : {X : Type 0} (p : X → Bool) (xs : List X) → list_all p xs ≡ true → filter p xs ≡ xs
filter_all p [] h = refl
filter_all p (x ∷ xs) h =
    let parts = and_parts (p x) (list_all p xs) h in
    ap (λ b. cond b (x ∷ filter p xs) (filter p xs)) parts.0 ∙ ap (λ ys. x ∷ ys) (filter_all p xs parts.1)

-- what is of one owner is of no other
other_owner : (o p : Owner) (e : Entry) → same_owner o p ≡ false → is_of o e ≡ true → is_of p e ≡ false
other_owner o p e apart own = ap (λ x. same_owner x p) (same_owner-same e.owner o own) ∙ apart

-- locks of another owner
pub none_of_others : (o p : Owner) (es : List Entry) → same_owner p o ≡ false → list_all (is_of p) es ≡ true → filter (is_of o) es ≡ []
none_of_others o p [] apart h = refl
none_of_others o p (e ∷ es) apart h =
    let parts = and_parts (is_of p e) (list_all (is_of p) es) h in
    skipped (is_of o) e es (other_owner p o e apart parts.0) ∙ none_of_others o p es apart parts.1

-- ---- all locks of an owner go

pub none_stay : (o : Owner) (es : List Entry) → filter (is_of o) (freed_owner es o) ≡ []
none_stay o [] = refl
none_stay o (e ∷ es) =
    elim (cases_Bool (is_of o e)) [
      | inl own ↦ rw own (none_stay o es)
      | inr other ↦ rw (other, other) (none_stay o es)
    ]

pub its_freed_owner : (o p : Owner) (es : List Entry) → same_owner o p ≡ false → filter (is_of o) (freed_owner es p) ≡ filter (is_of o) es
its_freed_owner o p [] apart = refl
its_freed_owner o p (e ∷ es) apart =
    let rest = its_freed_owner o p es apart in
    elim (cases_Bool (is_of o e)) [
      | inl own ↦ let other : is_of p e ≡ false = other_owner o p e apart own in rw (other, own) (ap (λ ys. e ∷ ys) rest)
      | inr away ↦ elim (cases_Bool (is_of p e)) [ inl gone ↦ rw (gone, away) rest | inr kept ↦ rw (kept, away) rest ]
    ]

-- ---- locks are handed over

pub its_handed_over : (o : Owner) (unit : UnitKey) (es : List Entry) → same_owner o (Upd unit) ≡ false
    → filter (is_of o) (handed_over es unit) ≡ filter (is_of o) es
its_handed_over o unit [] apart = refl
its_handed_over o unit (e ∷ es) apart =
    let rest = its_handed_over o unit es apart in
    elim (cases_Bool (is_of o e)) [
      | inl own ↦ let other : is_of (Upd unit) e ≡ false = other_owner o (Upd unit) e apart own in rw (other, other, own) (ap (λ ys. e ∷ ys) rest)
      | inr away ↦ elim (cases_Bool (is_of (Upd unit) e)) [
        | inl given ↦ elim (cases_Bool (same_mode e.mode O)) [ inl mild ↦ rw (given, mild, away) rest | inr firm ↦ rw (given, firm, given, away) rest ]
        | inr other ↦ rw (other, other, away) rest
      ]
    ]

-- ---- names of others are freed and granted

abbrev pub IsOther : Owner → Owner → Type 0
IsOther o owner = same_owner owner o ≡ false

abbrev pub AreOfOthers : Owner → List LockName → Type 0
AreOfOthers o names = AllByRecursion (NamesOf (IsOther o)) names

-- the halves of a pair's requests
pub halves_of_others : (o : Owner) (asker : Asker) (rs : List Request) → IsOther o asker.dialogue → IsOther o asker.update → AreOfOthers o (halves asker rs)
halves_of_others o asker rs dialogue update = of_halves (IsOther o) asker rs dialogue update

its_freed_one : (o : Owner) (n : LockName) (es : List Entry) → IsOther o n.owner → filter (is_of o) (freed es n) ≡ filter (is_of o) es
its_freed_one o n [] apart = refl
its_freed_one o n (e ∷ es) apart =
    elim (cases_Bool (has_name n e)) [
      | inl named ↦
          let is : n ≡ name_of e = same_name-same n (name_of e) named in
          let away : is_of o e ≡ false = ap (λ (m : LockName). same_owner m.owner o) (sym is) ∙ apart in
          elim (cases_Bool (nat_le e.count 1)) [ inl last ↦ rw (named, last, away) refl | inr more ↦ rw (named, more, away) refl ]
      | inr other ↦ rw other (ap (λ ys. cond (is_of o e) (e ∷ ys) ys) (its_freed_one o n es apart))
    ]

pub its_freed : (o : Owner) (es : List Entry) (names : List LockName) → AreOfOthers o names → filter (is_of o) (fold freed es names) ≡ filter (is_of o) es
its_freed o es [] h = refl
its_freed o es (n ∷ ns) h = its_freed o (freed es n) ns h.1 ∙ its_freed_one o n es h.0

-- none of them names a lock of the owner
unnamed : (o : Owner) (e : Entry) (names : List LockName) → is_of o e ≡ true → AreOfOthers o names → list_any (same_name (name_of e)) names ≡ false
unnamed o e [] own h = refl
unnamed o e (n ∷ ns) own h =
    let apart : same_owner e.owner n.owner ≡ false = ap (λ x. same_owner x n.owner) (same_owner-same e.owner o own) ∙ same_owner-sym o n.owner ∙ h.0 in
    or_from (same_name (name_of e) n) _ (and_left (same_owner e.owner n.owner) (same_asked (asked_of e) n.asked) apart) (unnamed o e ns own h.1)

its_raised : (o : Owner) (names : List LockName) (es : List Entry) → AreOfOthers o names → filter (is_of o) (map (raised names) es) ≡ filter (is_of o) es
its_raised o names [] h = refl
its_raised o names (e ∷ es) h =
    let rest = its_raised o names es h in
    elim (cases_Bool (is_of o e)) [
      | inl own ↦ let same = raised_same names e (unnamed o e names own h) in rw own (λ i. same i ∷ rest i)
      | inr away ↦ rw away rest
    ]

none_new : (o : Owner) (user : List ℕ) (names ns : List LockName) → AreOfOthers o ns → filter (is_of o) (map (new_entry user names) ns) ≡ []
none_new o user names [] h = refl
none_new o user names (n ∷ ns) h = skipped (is_of o) (new_entry user names n) (map (new_entry user names) ns) h.0 ∙ none_new o user names ns h.1

pub its_granted : (o : Owner) (es : List Entry) (user : List ℕ) (names : List LockName) → AreOfOthers o names
    → filter (is_of o) (granted es user names) ≡ filter (is_of o) es
its_granted o es user names h =
    let before = map (raised names) es in
    let new = map (new_entry user names) (new_names es names) in
    let others : AreOfOthers o (new_names es names) = of_once (IsOther o) _ (every_filter (NamesOf (IsOther o)) (λ n. not (stands es n)) names h) in
    filter-append (is_of o) before new
    ∙ ap (λ ys. filter (is_of o) before ++ ys) (none_new o user names (new_names es names) others)
    ∙ append-nil (filter (is_of o) before)
    ∙ its_raised o names es h

-- ---- locks of others are converted

abbrev IsNot : Owner → Entry → Type 0
IsNot o e = is_of o e ≡ false

passed_over : (o : Owner) (stays : Entry → Bool) (r : Option Entry) (rest : List Entry) → OnSome (IsNot o) r
    → filter (is_of o) (filter stays (cons_option r rest)) ≡ filter (is_of o) (filter stays rest)
passed_over o stays None rest h = refl
passed_over o stays (Some x) rest h =
    let away : is_of o x ≡ false = h in
    elim (cases_Bool (stays x)) [ inl here ↦ rw (here, away) refl | inr gone ↦ rw gone refl ]

its_turned : (o : Owner) (stays : Entry → Bool) (turn : Entry → Option Entry) → ((e : Entry) → is_of o e ≡ false → OnSome (IsNot o) (turn e))
    → ((e : Entry) → is_of o e ≡ true → is_firm e ≡ true → (turn e ≡ Some e) × (stays e ≡ true))
    → (es : List Entry) → list_all is_firm (filter (is_of o) es) ≡ true → filter (is_of o) (filter stays (filter_map turn es)) ≡ filter (is_of o) es
its_turned o stays turn others its [] firm = refl
its_turned o stays turn others its (e ∷ es) firm =
    elim (cases_Bool (is_of o e)) [
      | inl own ↦
          let both : (is_firm e && list_all is_firm (filter (is_of o) es)) ≡ true = rw own at firm in
          let parts = and_parts (is_firm e) _ both in
          let keeps = its e own parts.0 in
          let turned = keeps.0 in
          let stayed = keeps.1 in
          let rest = its_turned o stays turn others its es parts.1 in
          rw (turned, stayed, own) (ap (λ ys. e ∷ ys) rest)
      | inr away ↦
          let rest = its_turned o stays turn others its es (rw away at firm) in
          passed_over o stays (turn e) (filter_map turn es) (others e away) ∙ rest ∙ sym (skipped (is_of o) e es away)
    ]

mode_of_firm : (handed optimistic : Bool) → (handed && not optimistic) ≡ true → optimistic ≡ false
mode_of_firm true true h = cc
mode_of_firm true false h = refl
mode_of_firm false optimistic h = cc

-- the owner has no optimistic lock that would give way
pub its_conversion : (o : Owner) (es : List Entry) (asker : Asker) (asked : List Asked) → in_pair asker o ≡ false
    → list_all is_firm (filter (is_of o) es) ≡ true → filter (is_of o) (conversion es asker asked).entries ≡ filter (is_of o) es
its_conversion o es asker asked outside firm =
    let test = turns asker asked in
    its_turned o (λ e. not (gives_way asker asked e)) (turned_entry test es)
    (λ e away. turned_one (λ owner user. IsOther o owner) test es e away)
    (λ e own is.
    let apart : in_pair asker e.owner ≡ false = ap (in_pair asker) (same_owner-same e.owner o own) ∙ outside in
    let sure : same_mode e.mode O ≡ false = mode_of_firm e.handed (same_mode e.mode O) is in
    let stays : gives_way asker asked e ≡ false =
    ap (λ b. not (in_pair asker e.owner) && (b && list_any (places_meet (asked_of e)) asked)) sure ∙ ap (λ b. not b && false) apart in (
      ap (λ b. cond b (turned_by e.mode es e) (Some e)) (and_left (in_pair asker e.owner) _ apart),
      ap not stays,
    ))
    es firm
