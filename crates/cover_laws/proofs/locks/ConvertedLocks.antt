-- A conversion takes nothing from the count of an exclusive lock.
use Rattle.std.proofs.Common.{◌≡◌, ◌+◌, ◌≤◌, Bool, true, false, cond, not, ◌&&◌, nat_lt, List, [], ◌∷◌, sym, ap, ◌∙◌, refl, arith, inl, inr}
use Rattle.std.specs.Prelude.{Option, Some, None, Result, Ok, Err}
use Rattle.std.specs.List.{cons_option, filter, filter_map, find, list_any}
use Rattle.std.specs.Option.{option_map_or}
use Rattle.std.proofs.lemmas.Bool.{cases_Bool, and_left, and_right, ltb-false, not_from_false, or_parts}
use Rattle.mode_rules.specs.Modes.{same_mode}
use Rattle.mode_rules.specs.declared.Mode.{Mode}
use Rattle.mode_rules.specs.declared.Mode.TheVariants.{S, E, X, O}
use Rattle.lock_entry.specs.Converting.{Conversion, conversion, converted, first_withstanding, gives_way, is_lost, sum_exceeds, turns}
use Rattle.lock_entry.specs.Names.{count_at, has_name, name_of, stands}
use Rattle.lock_entry.specs.Pairs.{in_pair}
use Rattle.lock_entry.specs.Turning.{name_in, turned_by, turned_entry, with_count_of}
use Rattle.lock_entry.specs.declared.entry.Asked.{Asked}
use Rattle.lock_entry.specs.declared.entry.Asker.{Asker}
use Rattle.lock_entry.specs.declared.entry.Entry.{Entry}
use Rattle.lock_entry.specs.declared.entry.LockName.{LockName}
use Rattle.lock_entry.specs.declared.fault.AskFault.{AskFault}
use Rattle.lock_entry.specs.declared.fault.AskFault.TheVariants.{Count, Lost}
use Rattle.lock_laws.proofs.Grants.{unless_barred-Ok}
use Rattle.lock_entry.proofs.lemmas.Naming.{same_name-same}
use Rattle.coverage.specs.Locks.{is_exclusive}
use Rattle.cover_laws.proofs.locks.LockCounts.{count-none}

-- an answer is none of the refusals before it
pub passed-Ok : {X : Type 0} (b : Bool) (fault : AskFault) (r : Result X AskFault) (x : X) → cond b (Err fault) r ≡ Ok x → (b ≡ false) × (r ≡ Ok x)
passed-Ok true fault r x h = absurd (cc)
passed-Ok false fault r x h = (refl, h)

pub exclusive-firm : (m : Mode) → is_exclusive m ≡ true → same_mode m O ≡ false
exclusive-firm S h = absurd (cc)
exclusive-firm E h = refl
exclusive-firm X h = refl
exclusive-firm O h = absurd (cc)

-- ---- any change of entries one by one

-- the entry stays under its name, with its count or a larger one
record Stays (n : LockName) (kept : Entry → Bool) (e : Entry) (found : Option Entry) : Type 0 where
  after : Entry
  is : found ≡ Some after
  stays : kept after ≡ true
  same : has_name n after ≡ true
  more : e.count ≤ after.count

-- an entry of another name gets this one from no change
unnamed-more : (n : LockName) (kept : Entry → Bool) (es : List Entry) (found : Option Entry)
    → ((e : Entry) → found ≡ Some e → has_name n e ≡ false) → count_at (filter kept (cons_option found es)) n ≡ count_at (filter kept es) n
unnamed-more n kept es None k = refl
unnamed-more n kept es (Some e) k =
    let other = k e refl in
    elim (cases_Bool (kept e)) [ inl stays ↦ rw (stays, other) refl | inr goes ↦ rw goes refl ]

named-more : (n : LockName) (kept : Entry → Bool) (es : List Entry) (e : Entry) (found : Option Entry) → Stays n kept e found
    → e.count ≤ count_at (filter kept (cons_option found es)) n
named-more n kept es e found s =
    let more = s.more in
    rw (s.is, s.stays, s.same) more

module _ (n : LockName) (kept exceeds : Entry → Bool) (change : Entry → Option Entry)
    (stay : (e : Entry) → has_name n e ≡ true → exceeds e ≡ false → Stays n kept e (change e))
    (others : (e after : Entry) → has_name n e ≡ false → change e ≡ Some after → has_name n after ≡ false) where
  count-changed : (es : List Entry) → list_any exceeds es ≡ false → count_at es n ≤ count_at (filter kept (filter_map change es)) n
  count-changed [] h = omega arith
  count-changed (e ∷ es) h =
      let hs = or_parts (exceeds e) (list_any exceeds es) h in
      let rest : count_at es n ≤ count_at (filter kept (filter_map change es)) n = count-changed es hs.1 in
      elim (cases_Bool (has_name n e)) [
        | inl here ↦ rw here (named-more n kept (filter_map change es) e (change e) (stay e here hs.0))
        | inr other ↦
            let same : count_at (filter kept (cons_option (change e) (filter_map change es))) n ≡ count_at (filter kept (filter_map change es)) n =
            unnamed-more n kept (filter_map change es) (change e) (λ after k. others e after other k) in
            rw other (omega arith)
      ]

-- ---- a conversion

module _ (all : List Entry) (asker : Asker) (asked : List Asked) where
  abbrev stays : Entry → Bool
  stays e = not (gives_way asker asked e)

  abbrev exceeds : Entry → Bool
  exceeds e = turns asker asked e && (same_mode e.mode E && nat_lt 9999 (e.count + count_at all (name_in O e)))

  abbrev after_turn : Entry → Option Entry
  after_turn e = turned_entry (turns asker asked) all e

  firm-stays : (e : Entry) → same_mode e.mode O ≡ false → stays e ≡ true
  firm-stays e firm = not_from_false (gives_way asker asked e) (and_right (not (in_pair asker e.owner)) _ (and_left (same_mode e.mode O) _ firm))

  itself : (n : LockName) (e : Entry) → has_name n e ≡ true → same_mode e.mode O ≡ false → Stays n stays e (Some e)
  itself n e h firm = record { after = e; is = refl; stays = firm-stays e firm; same = h; more = omega arith }

  -- an E entry takes the count of the O entry
  joins : (n : LockName) (e : Entry) → has_name n e ≡ true → same_mode e.mode O ≡ false
      → nat_lt 9999 (e.count + count_at all (name_in O e)) ≡ false
      → Stays n stays e (Some (option_map_or (with_count_of e) (find (has_name (name_in O e)) all) e))
  joins n e h firm fits = go (find (has_name (name_in O e)) all) fits
    where
      go : (found : Option Entry) → nat_lt 9999 (e.count + option_map_or (λ (x : Entry). x.count) found 0) ≡ false
          → Stays n stays e (Some (option_map_or (with_count_of e) found e))
      go None k = itself n e h firm
      go (Some o) k =
          let low : e.count + o.count ≤ 9999 = ltb-false 9999 (e.count + o.count) k in
          record { after = with_count_of e o; is = refl; stays = firm-stays (with_count_of e o) firm; same = h; more = omega arith }

  turned-stays : (n : LockName) (m : Mode) (e : Entry) → is_exclusive m ≡ true → e.mode ≡ m → has_name n e ≡ true
      → (same_mode e.mode E && nat_lt 9999 (e.count + count_at all (name_in O e))) ≡ false → Stays n stays e (turned_by m all e)
  turned-stays n S e x at h fits = absurd (cc)
  turned-stays n E e x at h fits =
      let sum = nat_lt 9999 (e.count + count_at all (name_in O e)) in
      joins n e h (ap (λ (m : Mode). same_mode m O) at) (ap (λ (m : Mode). same_mode m E && sum) (sym at) ∙ fits)
  turned-stays n X e x at h fits = itself n e h (ap (λ (m : Mode). same_mode m O) at)
  turned-stays n O e x at h fits = absurd (cc)

  -- an exclusive entry stays, with its count or a larger one
  exclusive-stays : (n : LockName) → is_exclusive n.asked.mode ≡ true → (e : Entry) → has_name n e ≡ true → exceeds e ≡ false
      → Stays n stays e (after_turn e)
  exclusive-stays n exclusive e h fits =
      let own : is_exclusive e.mode ≡ true = ap (λ (k : LockName). is_exclusive k.asked.mode) (sym (same_name-same n (name_of e) h)) ∙ exclusive in
      elim (cases_Bool (turns asker asked e)) [
        | inl t ↦ rw t (turned-stays n e.mode e own refl h (rw t at fits))
        | inr f ↦ rw f (itself n e h (exclusive-firm e.mode own))
      ]

  -- no other entry gets its name
  turned-unnamed : (n : LockName) → stands all n ≡ true → (m : Mode) (e after : Entry) → has_name n e ≡ false
      → turned_by m all e ≡ Some after → has_name n after ≡ false
  turned-unnamed n stood S e after h k = let same : e ≡ after = cc in ap (has_name n) (sym same) ∙ h
  turned-unnamed n stood X e after h k = let same : e ≡ after = cc in ap (has_name n) (sym same) ∙ h
  turned-unnamed n stood E e after h k = go (find (has_name (name_in O e)) all) k
    where
      go : (found : Option Entry) → Some (option_map_or (with_count_of e) found e) ≡ Some after → has_name n after ≡ false
      go None j = let same : e ≡ after = cc in ap (has_name n) (sym same) ∙ h
      go (Some o) j = let same : with_count_of e o ≡ after = cc in ap (has_name n) (sym same) ∙ h
  turned-unnamed n stood O e after h k =
      let turned : Entry = record e { mode = E } in
      elim (cases_Bool (stands all (name_in E e))) [
        | inl twin ↦ absurd (let j = rw twin at k in cc)
        | inr alone ↦
            let j = rw alone at k in
            let same : turned ≡ after = cc in
            elim (cases_Bool (has_name n turned)) [
              | inl takes ↦ absurd (let other = ap (stands all) (same_name-same n (name_in E e) takes) in cc)
              | inr leaves ↦ ap (has_name n) (sym same) ∙ leaves
            ]
      ]

  others-unnamed : (n : LockName) → stands all n ≡ true → (e after : Entry) → has_name n e ≡ false → after_turn e ≡ Some after
      → has_name n after ≡ false
  others-unnamed n stood e after h k =
      elim (cases_Bool (turns asker asked e)) [
        | inl t ↦ turned-unnamed n stood e.mode e after h (rw t at k)
        | inr f ↦ let j = rw f at k in let same : e ≡ after = cc in ap (has_name n) (sym same) ∙ h
      ]

  count-conversion : (n : LockName) → is_exclusive n.asked.mode ≡ true → sum_exceeds all asker asked ≡ false
      → count_at all n ≤ count_at (conversion all asker asked).entries n
  count-conversion n exclusive fits =
      elim (cases_Bool (stands all n)) [
        | inl stood ↦ count-changed n stays exceeds after_turn (exclusive-stays n exclusive) (others-unnamed n stood) all fits
        | inr absent ↦ let none : count_at all n ≡ 0 = count-none all n absent in omega arith
      ]

pub count-converted : (es : List Entry) (asker : Asker) (asked : List Asked) (c : Conversion) (n : LockName)
    → is_exclusive n.asked.mode ≡ true → converted es asker asked ≡ Ok c → count_at es n ≤ count_at c.entries n
unfolding converted
count-converted es asker asked c n exclusive h =
    let new = conversion es asker asked in
    let found = passed-Ok (is_lost es asker asked) Lost _ c h in
    let free = unless_barred-Ok (first_withstanding es asker asked) _ c found.1 in
    let fits = passed-Ok (sum_exceeds es asker asked) Count (Ok new) c free.1 in
    let is : new ≡ c = let ok = fits.1 in cc in
    let kept : count_at es n ≤ count_at new.entries n = count-conversion es asker asked n exclusive fits.0 in
    let same : count_at new.entries n ≡ count_at c.entries n = ap (λ (d : Conversion). count_at d.entries n) is in
    omega arith
