-- A list is sound where its counts are good and each two of its entries may stand together.
use Rattle.std.proofs.Common.{◌≡◌, List, [], ◌∷◌, Bool, true, not, map, refl}
use Rattle.std.specs.List.{list_all, filter}
use Rattle.std.proofs.lemmas.Bool.{and_parts, and_from}
use Rattle.lock_entry.specs.declared.entry.Entry.{Entry}
use Rattle.lock_entry.specs.Names.{all_pairs, names_differ}
use Rattle.lock_entry.specs.Sound.{has_count, in_conflict, are_apart, IsSound}
use Rattle.lock_entry.proofs.lemmas.Lists.{list_all-filter, all_pairs-both, all_pairs-weaken, all_pairs-filter, all_pairs-map}

pub sound-apart : (es : List Entry) → IsSound es → all_pairs are_apart es ≡ true
sound-apart es h = all_pairs-both names_differ (λ a b. not (in_conflict a b)) es h.names h.conflicts

pub sound-from : (es : List Entry) → list_all has_count es ≡ true → all_pairs are_apart es ≡ true → IsSound es
sound-from es c a = record {
  names = all_pairs-weaken are_apart names_differ (λ x y h. (and_parts (names_differ x y) (not (in_conflict x y)) h).0) es a;
  counts = c;
  conflicts = all_pairs-weaken are_apart (λ x y. not (in_conflict x y)) (λ x y h. (and_parts (names_differ x y) (not (in_conflict x y)) h).1) es a;
}

pub IsSound-filter : (p : Entry → Bool) (es : List Entry) → IsSound es → IsSound (filter p es)
IsSound-filter p es h = sound-from (filter p es) (list_all-filter has_count p es h.counts) (all_pairs-filter are_apart p es (sound-apart es h))

list_all-counts : (f : Entry → Entry) → ((e : Entry) → has_count e ≡ true → has_count (f e) ≡ true) → (es : List Entry) → list_all has_count es ≡ true
    → list_all has_count (map f es) ≡ true
list_all-counts f k [] h = refl
list_all-counts f k (e ∷ es) h = let hs = and_parts (has_count e) (list_all has_count es) h in and_from _ _ (k e hs.0) (list_all-counts f k es hs.1)

-- f changes no name, and leaves good counts good
pub IsSound-map : (f : Entry → Entry) → ((a b : Entry) → are_apart (f a) (f b) ≡ are_apart a b) → ((e : Entry) → has_count e ≡ true → has_count (f e) ≡ true)
    → (es : List Entry) → IsSound es → IsSound (map f es)
IsSound-map f k c es h = sound-from (map f es) (list_all-counts f c es h.counts) (all_pairs-map are_apart f k es (sound-apart es h))
