-- Freeing and handing over keep a table good.
use Rattle.std.proofs.Common.{◌≡◌, ◌+◌, ◌-◌, ◌<◌, ◌≤◌, List, [], ◌∷◌, ◌++◌, Bool, true, false, not, nat_le, length, map, refl, arith, inl, inr}
use Rattle.std.specs.List.{list_all, filter}
use Rattle.std.proofs.lemmas.Bool.{cases_Bool, and_parts, and_from, leb-true, leb-false, le-leb}
use Rattle.std.proofs.lemmas.List.{length-map, length-append}
use Rattle.std.proofs.lemmas.List.Folds.{list_all-append}
use Rattle.enq_base.specs.declared.owner.Owner.{Owner}
use Rattle.enq_base.specs.declared.owner.Owner.TheVariants.{Upd}
use Rattle.enq_base.specs.declared.owner.UnitKey.{UnitKey}
use Rattle.lock_entry.specs.declared.entry.Entry.{Entry}
use Rattle.lock_entry.specs.declared.entry.LockName.{LockName}
use Rattle.lock_entry.specs.Names.{has_name, is_of, all_pairs}
use Rattle.lock_entry.specs.Sound.{has_count, are_apart, IsSound}
use Rattle.lock_entry.specs.Table.{Table, IsTable, with_entries}
use Rattle.lock_entry.specs.Freeing.{lowered, replace_first, freed, freed_owner, flagged, handed_over, without_optimistic}
use Rattle.lock_entry.proofs.lemmas.Lists.{length-filter_le}
use Rattle.lock_laws.proofs.Sounds.{sound-apart, sound-from, IsSound-filter, IsSound-map}

-- a good table stays good without some of its entries
pub IsTable-filter : (t : Table) (p : Entry → Bool) → IsTable t → IsTable (with_entries t (filter p t.entries))
IsTable-filter t p h =
    let short : length (filter p t.entries) ≤ length t.entries = length-filter_le p t.entries in
    let within = h.within in
    record { sound = IsSound-filter p t.entries h.sound; within = omega arith; limit_fits = h.limit_fits }

pub IsTable-freed_owner : (t : Table) (owner : Owner) → IsTable t → IsTable (with_entries t (freed_owner t.entries owner))
IsTable-freed_owner t owner h = IsTable-filter t (λ e. not (is_of owner e)) h

flagged-apart : (owner : Owner) (a b : Entry) → are_apart (flagged owner a) (flagged owner b) ≡ are_apart a b
flagged-apart owner a b =
    elim (cases_Bool (is_of owner a)) [
      | inl x ↦ elim (cases_Bool (is_of owner b)) [ inl y ↦ rw (x, y) refl | inr y ↦ rw (x, y) refl ]
      | inr x ↦ elim (cases_Bool (is_of owner b)) [ inl y ↦ rw (x, y) refl | inr y ↦ rw (x, y) refl ]
    ]

flagged-counts : (owner : Owner) (e : Entry) → has_count e ≡ true → has_count (flagged owner e) ≡ true
flagged-counts owner e h = elim (cases_Bool (is_of owner e)) [ inl x ↦ rw x h | inr x ↦ rw x h ]

pub IsTable-handed_over : (t : Table) (unit : UnitKey) → IsTable t → IsTable (with_entries t (handed_over t.entries unit))
IsTable-handed_over t unit h =
    let kept = without_optimistic t.entries (Upd unit) in
    let h' = IsTable-filter t _ h in
    let long : length (map (flagged (Upd unit)) kept) ≡ length kept = length-map kept (flagged (Upd unit)) in
    let within : length kept ≤ t.limit = h'.within in
    record {
      sound = IsSound-map (flagged (Upd unit)) (flagged-apart (Upd unit)) (flagged-counts (Upd unit)) kept h'.sound;
      within = omega arith;
      limit_fits = h.limit_fits;
    }

length-lowered : (e : Entry) → length (lowered e) ≤ 1
length-lowered e = elim (cases_Bool (nat_le e.count 1)) [ inl c ↦ rw c (omega arith) | inr c ↦ rw c (omega arith) ]

-- a test that an entry passes with one taken, where it passed before
list_all-replace : (q p : Entry → Bool) → ((e : Entry) → q e ≡ true → list_all q (lowered e) ≡ true) → (es : List Entry) → list_all q es ≡ true
    → list_all q (replace_first p lowered es) ≡ true
list_all-replace q p k [] h = refl
list_all-replace q p k (e ∷ es) h =
    let hs = and_parts (q e) (list_all q es) h in
    elim (cases_Bool (p e)) [
      | inl t ↦ rw (t, list_all-append q (lowered e) es) (and_from _ _ (k e hs.0) hs.1)
      | inr t ↦ rw t (and_from _ _ hs.0 (list_all-replace q p k es hs.1))
    ]

-- what stands apart from an entry stands apart from it with one taken
apart-lowered : (a e : Entry) → are_apart a e ≡ true → list_all (are_apart a) (lowered e) ≡ true
apart-lowered a e h = elim (cases_Bool (nat_le e.count 1)) [ inl c ↦ rw c refl | inr c ↦ rw c (and_from _ _ h refl) ]

abbrev one_less : Entry → Entry
one_less e = record e { count = e.count - 1 }

has_count-lowered : (e : Entry) → has_count e ≡ true → list_all has_count (lowered e) ≡ true
has_count-lowered e h =
    let hs = and_parts (nat_le 1 e.count) (nat_le e.count 9999) h in
    elim (cases_Bool (nat_le e.count 1)) [
      | inl c ↦ rw c refl
      | inr c ↦
          let low : 1 < e.count = leb-false e.count 1 c in
          let high : e.count ≤ 9999 = leb-true e.count 9999 hs.1 in
          let good : has_count (one_less e) ≡ true = and_from (nat_le 1 (e.count - 1)) (nat_le (e.count - 1) 9999) (le-leb 1 (e.count - 1) (omega arith))
          (le-leb (e.count - 1) 9999 (omega arith)) in
          rw c (and_from (has_count (one_less e)) true good refl)
    ]

all_pairs-lowered : (e : Entry) (es : List Entry) → list_all (are_apart e) es ≡ true → all_pairs are_apart es ≡ true
    → all_pairs are_apart (lowered e ++ es) ≡ true
all_pairs-lowered e es a s =
    elim (cases_Bool (nat_le e.count 1)) [
      | inl c ↦ rw c s
      | inr c ↦
          let b : list_all (are_apart (one_less e)) es ≡ true = a in
          rw c (and_from (list_all (are_apart (one_less e)) es) (all_pairs are_apart es) b s)
    ]

all_pairs-replace : (p : Entry → Bool) (es : List Entry) → all_pairs are_apart es ≡ true → all_pairs are_apart (replace_first p lowered es) ≡ true
all_pairs-replace p [] h = refl
all_pairs-replace p (e ∷ es) h =
    let hs = and_parts (list_all (are_apart e) es) (all_pairs are_apart es) h in
    elim (cases_Bool (p e)) [
      | inl t ↦ rw t (all_pairs-lowered e es hs.0 hs.1)
      | inr t ↦ rw t (and_from _ _ (list_all-replace (are_apart e) p (apart-lowered e) es hs.0) (all_pairs-replace p es hs.1))
    ]

length-replace : (p : Entry → Bool) (es : List Entry) → length (replace_first p lowered es) ≤ length es
length-replace p [] = omega arith
length-replace p (e ∷ es) =
    let rest : length (replace_first p lowered es) ≤ length es = length-replace p es in
    let here : length (lowered e) ≤ 1 = length-lowered e in
    let joined : length (lowered e ++ es) ≡ length (lowered e) + length es = length-append (lowered e) es in
    elim (cases_Bool (p e)) [ inl t ↦ rw t (omega arith) | inr t ↦ rw t (omega arith) ]

pub IsTable-freed : (t : Table) (n : LockName) → IsTable t → IsTable (with_entries t (freed t.entries n))
IsTable-freed t n h =
    let short : length (freed t.entries n) ≤ length t.entries = length-replace (has_name n) t.entries in
    let within = h.within in
    let counts : list_all has_count (freed t.entries n) ≡ true = list_all-replace has_count (has_name n) has_count-lowered t.entries h.sound.counts in
    record {
      sound = sound-from (freed t.entries n) counts (all_pairs-replace (has_name n) t.entries (sound-apart t.entries h.sound));
      within = omega arith;
      limit_fits = h.limit_fits;
    }
