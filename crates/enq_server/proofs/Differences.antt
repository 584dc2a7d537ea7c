-- Where two lists differ first, and units whose lists are looked at in order.
use Rattle.std.proofs.Common.{◌≡◌, inl, inr, ℕ, suc, ◌+◌, ◌-◌, ◌<◌, ◌≤◌, Bool, true, false, ◌||◌, List, [], ◌∷◌, ◌++◌, Option, Some, length, take, drop, get_or}
use Rattle.std.proofs.Common.{if◌then◌else◌, refl, sym, ap, subst, ◌∙◌, arith}
use Rattle.std.specs.List.{All}
use Rattle.std.specs.Option.{option_map_or}
use Rattle.std.proofs.lemmas.Bool.{cases_Bool}
use Rattle.std.proofs.lemmas.List.{take_more, take-append-drop}
use Rattle.std.proofs.lemmas.List.Elements.{All-push}
use Rattle.std.proofs.lemmas.Option.{slice_get_read}
use Rattle.std.proofs.Math.Seq.{drop-cons}
use Rattle.enq_base.specs.Owners.{same_unit}
use Rattle.enq_base.specs.declared.owner.UnitKey.{UnitKey}
use Rattle.lock_entry.specs.declared.entry.Entry.{Entry}
use Rattle.lock_entry.specs.declared.entry.UnitLocks.{UnitLocks}
use Rattle.backup_file.specs.Lists.{is_known}
use Rattle.backup_file.specs.declared.handed.Handed.{Handed}
use Rattle.enq_base.specs.declared.unit_id.UnitId.{UnitId}
use Rattle.enq_server.specs.Recovery.{Agrees, AreKnown, IsFirstDifference, IsMissing, entries_at, entries_of, is_one_of}

chosen : (b : Bool) (p q : Option ℕ) → b ≡ false → (if b then p else q) ≡ q
chosen true p q h = cc
chosen false p q h = refl

found : (b : Bool) (p q : Option ℕ) → b ≡ true → (if b then p else q) ≡ p
found true p q h = refl
found false p q h = cc

chosen_entries : (b : Bool) (xs ys : List Entry) → b ≡ false → (if b then xs else ys) ≡ ys
chosen_entries true xs ys h = cc
chosen_entries false xs ys h = refl

found_entries : (b : Bool) (xs ys : List Entry) → b ≡ true → (if b then xs else ys) ≡ xs
found_entries true xs ys h = refl
found_entries false xs ys h = cc

-- the list before the last ones is noted
pub places_more : (l : List Handed) (left : ℕ) (h : Handed) (u : UnitKey) (old : Option ℕ) → 0 < left → left ≤ length l → h ≡ get_or l (left - 1) h
    → entries_at l old ≡ entries_of (drop left l) u
    → entries_at l (if same_unit h.unit u then Some (left - 1) else old) ≡ entries_of (drop (left - 1) l) u
places_more l left h u old some within is before =
    let low : left - 1 < length l = omega arith in
    let next : suc (left - 1) ≡ left = omega arith in
    let rest : drop (left - 1) l ≡ h ∷ drop left l = drop-cons l (left - 1) h low ∙ (λ i. sym is i ∷ drop (next i) l) in
    elim (cases_Bool (same_unit h.unit u)) [
      | inl own ↦
          ap (entries_at l) (found (same_unit h.unit u) (Some (left - 1)) old own)
          ∙ ap (λ o. option_map_or (λ (x : Handed). x.entries) o []) (slice_get_read l (length l) (left - 1) h refl low is)
          ∙ sym (found_entries (same_unit h.unit u) h.entries (entries_of (drop left l) u) own)
          ∙ ap (λ xs. entries_of xs u) (sym rest)
      | inr apart ↦
          ap (entries_at l) (chosen (same_unit h.unit u) (Some (left - 1)) old apart)
          ∙ before
          ∙ sym (chosen_entries (same_unit h.unit u) h.entries (entries_of (drop left l) u) apart)
          ∙ ap (λ xs. entries_of xs u) (sym rest)
    ]

-- a unit more is known
pub known_more : (ids new : List UnitId) (units : List UnitLocks) (i : ℕ) (one : UnitLocks) → i < length units → one ≡ get_or units i one
    → AreKnown ids (take i units)
    → ((u : UnitKey) → is_known u new ≡ (same_unit one.unit u || is_known u ids)) → AreKnown new (take (i + 1) units)
known_more ids new units i one low is are more = λ u.
    more u
    ∙ ap (λ b. same_unit one.unit u || b) (are u)
    ∙ sym (one_of_push (take i units) one u)
    ∙ ap (λ us. is_one_of us u) (ap (λ x. take i units ++ x ∷ []) is ∙ sym (take_more units i one low))
  where
    swapped : (a b c : Bool) → (a || (b || c)) ≡ (b || (a || c))
    swapped true true c = refl
    swapped true false c = refl
    swapped false b c = refl

    one_of_push : (us : List UnitLocks) (x : UnitLocks) (u : UnitKey) → is_one_of (us ++ x ∷ []) u ≡ (same_unit x.unit u || is_one_of us u)
    one_of_push [] x u = refl
    one_of_push (y ∷ us) x u = ap (λ b. same_unit y.unit u || b) (one_of_push us x u) ∙ swapped (same_unit y.unit u) (same_unit x.unit u) (is_one_of us u)

pub agree_more : (l : List Handed) (units : List UnitLocks) (i : ℕ) (u : UnitLocks) → i < length units → u ≡ get_or units i u → Agrees l u
    → All (Agrees l) (take i units) → All (Agrees l) (take (i + 1) units)
agree_more l units i u low is one all =
    subst (All (Agrees l)) (ap (λ x. take i units ++ x ∷ []) is ∙ sym (take_more units i u low)) (All-push (Agrees l) (take i units) u all one)

pub missing_here : (l : List Handed) (units : List UnitLocks) (i : ℕ) (u : UnitLocks) (at : ℕ) → i < length units → u ≡ get_or units i u
    → All (Agrees l) (take i units) → IsFirstDifference u.entries (entries_of l u.unit) at → IsMissing l units u.unit at
missing_here l units i u at low is all difference = record {
  front = take i units;
  found = u;
  rest = drop (suc i) units;
  whole = sym (take-append-drop i units) ∙ ap (λ xs. take i units ++ xs) (drop-cons units i u low ∙ ap (λ x. x ∷ drop (suc i) units) (sym is));
  agree = all;
  named = refl;
  difference = difference;
}
