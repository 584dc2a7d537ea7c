-- The numbers that a map has under a key.
use Rattle.std.specs.Prelude.{◌≡◌, ℕ, Bool, nat_eq, ◌&&◌, ◌||◌, not, true, false, List, [], ◌∷◌, Option, None, Some}
use Rattle.std.specs.List.{list_any}
use Rattle.std.specs.Option.{option_map_or}
use Rattle.indexmap.specs.IndexMap.{IndexMap, get}
use Rattle.indexmap.specs.IndexSet.{IndexSet}
use Rattle.lock_index.specs.declared.key.Key.{Key}
use Rattle.lock_index.specs.declared.members.NumberMap.{NumberMap}
use Rattle.lock_index.specs.Keys.{same_key}

module _ {S T : Type 0} where
  -- the numbers of the set under the key
  abbrev pub set_members : IndexMap Key (IndexSet ℕ S) T → Key → List ℕ
  set_members m k = option_map_or (λ s. s.keys) (get same_key m k) []

  -- the number stands in the set under this key too, and all else is as it was
  abbrev pub AddsToSet : IndexMap Key (IndexSet ℕ S) T → IndexMap Key (IndexSet ℕ S) T → Key → ℕ → Type 0
  AddsToSet old new key n = (k : Key) (i : ℕ) → list_any (nat_eq i)
      (set_members new k) ≡ (list_any (nat_eq i) (set_members old k) || (same_key key k && nat_eq n i))

  -- the number stands no longer in the set under this key, and all else is as it was
  abbrev pub TakesFromSet : IndexMap Key (IndexSet ℕ S) T → IndexMap Key (IndexSet ℕ S) T → Key → ℕ → Type 0
  TakesFromSet old new key n = (k : Key) (i : ℕ) → list_any (nat_eq i)
      (set_members new k) ≡ (list_any (nat_eq i) (set_members old k) && not (same_key key k && nat_eq n i))

  abbrev pub KeepsSets : IndexMap Key (IndexSet ℕ S) T → IndexMap Key (IndexSet ℕ S) T → Type 0
  KeepsSets old new = (k : Key) (i : ℕ) → list_any (nat_eq i) (set_members new k) ≡ list_any (nat_eq i)
      (set_members old k)

-- a number that stands alone, or those of a set
abbrev pub alone_or : Option ℕ → List ℕ → List ℕ
alone_or None ns = ns
alone_or (Some n) ns = n ∷ []

-- the numbers under the key, in no certain order
abbrev pub members : NumberMap → Key → List ℕ
members m k = alone_or (get same_key m.alone k) (set_members m.sets k)

abbrev pub has : NumberMap → Key → ℕ → Bool
has m k i = list_any (nat_eq i) (members m k)

-- the number stands under the key, if there is one
abbrev pub is_under : NumberMap → Option Key → ℕ → Bool
is_under m None i = false
is_under m (Some k) i = has m k i

-- the number stands under this key too, and all else is as it was
abbrev pub Adds : NumberMap → NumberMap → Key → ℕ → Type 0
Adds old new key n = (k : Key) (i : ℕ) → has new k i ≡ (has old k i || (same_key key k && nat_eq n i))

-- the number stands no longer under this key, and all else is as it was
abbrev pub Takes : NumberMap → NumberMap → Key → ℕ → Type 0
Takes old new key n = (k : Key) (i : ℕ) → has new k i ≡ (has old k i && not (same_key key k && nat_eq n i))

abbrev pub Keeps : NumberMap → NumberMap → Type 0
Keeps old new = (k : Key) (i : ℕ) → has new k i ≡ has old k i

-- the number stands under each of the keys too, and all else is as it was
abbrev pub AddsAll : NumberMap → NumberMap → List Key → ℕ → Type 0
AddsAll old new keys n = (k : Key) (i : ℕ) → has new k
    i ≡ (has old k i || (list_any (λ q. same_key q k) keys && nat_eq n i))

-- it stands under some of them too, and all else is as it was
abbrev pub AddsSome : NumberMap → NumberMap → List Key → ℕ → Type 0
AddsSome old new keys n = (k : Key) (i : ℕ) → (has old k i ≡ true → has new k i ≡ true)
    × (has new k i ≡ true → (has old k i || (list_any (λ q. same_key q k) keys && nat_eq n i)) ≡ true)

abbrev pub TakesAll : NumberMap → NumberMap → List Key → ℕ → Type 0
TakesAll old new keys n = (k : Key) (i : ℕ) → has new k
    i ≡ (has old k i && not (list_any (λ q. same_key q k) keys && nat_eq n i))
