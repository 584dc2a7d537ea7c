-- The entries that meet an argument are among its candidates.
use Rattle.std.proofs.Common.{◌≡◌, ℕ, ◌≤◌, List, [], ◌∷◌, Bool, true, false, cond, not, ◌&&◌, ◌||◌, nat_eq, nat_le, nat_lt, length, take, Option, Some, None}
use Rattle.std.proofs.Common.{sym, ◌∙◌, ap, refl, arith, inl, inr, subst}
use Rattle.std.specs.List.{list_any, position}
use Rattle.std.specs.Str.{bytes_eq}
use denote.Ref.{Bor}
use Rattle.std.proofs.lemmas.Bool.{cases_Bool, and_parts, and_from, or_left, or_right, eqb-true, eq-eqb, leb-true, le-ltb}
use Rattle.mode_rules.specs.Modes.{same_mode, modes_clash}
use Rattle.enq_base.specs.Owners.{same_owner}
use Rattle.lock_entry.specs.declared.entry.Asked.{Asked}
use Rattle.lock_entry.specs.declared.entry.Entry.{Entry}
use Rattle.lock_entry.specs.declared.entry.LockName.{LockName}
use Rattle.lock_entry.specs.Argument.{bytes_meet, meets}
use Rattle.lock_entry.specs.Barring.{places_meet, modes_bar}
use Rattle.lock_entry.specs.Names.{asked_of, name_of, same_name, same_place, same_asked, has_name}
use Rattle.lock_entry.specs.Pairs.{in_pair, are_related}
use Rattle.lock_entry.specs.Sound.{in_conflict}
use Rattle.lock_entry.proofs.lemmas.Naming.{bytes_eq-refl, bytes_eq-same}
use Rattle.lock_entry.proofs.lemmas.Lists.{list_any-weaken}
use Rattle.lock_index.specs.declared.members.NumberMap.{NumberMap}
use Rattle.lock_index.specs.declared.search.Search.{Search}
use Rattle.lock_index.specs.declared.search.Search.TheVariants.{Bars, Withstands, GivesWay, Against, Named}
use Rattle.lock_index.specs.Keys.{literal, is_generic, digest, has_key, same_key, owner_key, spot_at, spot_key, stretch_at, stretch_key, lengths_key}
use Rattle.lock_index.specs.Members.{members, has, is_under}
use Rattle.lock_index.specs.Sameness.{same_key-refl}
use Rattle.lock_index.specs.Searches.{finds, place_of, candidates, oldest_of, oldest_over}
use Rattle.lock_index.specs.Slots.{slot_at, on_some, IsShown}
use Rattle.lock_index.proofs.Literals.{literal-le, meets-length, meets-prefix}
use Rattle.lock_index.proofs.Oldest.{IsOldest, oldest-same, oldest-one, oldest-over, position-oldest, oldest-of}

pub meets-refl : (p : List ℕ) → meets p p ≡ true
meets-refl [] = refl
meets-refl (x ∷ xs) = and_from (bytes_meet x x) (meets xs xs) (or_left (nat_eq x x) _ (eq-eqb x x refl)) (meets-refl xs)

named-meets : (n : LockName) (e : Entry) → has_name n e ≡ true → places_meet (asked_of e) n.asked ≡ true
named-meets n e h =
    let ns = and_parts (same_owner n.owner e.owner) (same_asked n.asked (asked_of e)) h in
    let ps = and_parts (same_place n.asked (asked_of e)) (same_mode n.asked.mode e.mode) ns.1 in
    let ts = and_parts (bytes_eq n.asked.table e.table) (bytes_eq n.asked.pattern e.pattern) ps.0 in
    let t : n.asked.table ≡ e.table = bytes_eq-same n.asked.table e.table ts.0 in
    let p : n.asked.pattern ≡ e.pattern = bytes_eq-same n.asked.pattern e.pattern ts.1 in
    and_from (bytes_eq e.table n.asked.table) (meets e.pattern n.asked.pattern) (ap (bytes_eq e.table) t ∙ bytes_eq-refl e.table)
    (ap (meets e.pattern) p ∙ meets-refl e.pattern)

pub finds-meets : (s : Search) (e : Entry) → finds s e ≡ true → places_meet (asked_of e) (place_of s) ≡ true
finds-meets (Bars asker asked) e h = (and_parts (places_meet (asked_of e) asked.now) (modes_bar (in_pair asker.now e.owner) e.mode asked.now.mode) h).0
finds-meets (Withstands asker asked) e h = (and_parts _ (places_meet (asked_of e) asked.now) (and_parts (not (in_pair asker.now e.owner)) _ h).1).1
finds-meets (GivesWay asker asked) e h = (and_parts _ (places_meet (asked_of e) asked.now) (and_parts (not (in_pair asker.now e.owner)) _ h).1).1
finds-meets (Named n) e h = named-meets n.now e h
finds-meets (Against r) e h =
    let f = r.now in
    elim (cases_Bool (same_name (name_of e) (name_of f))) [
      | inl n ↦
          let ns = and_parts (same_owner e.owner f.owner) (same_asked (asked_of e) (asked_of f)) n in
          let ps = and_parts (same_place (asked_of e) (asked_of f)) (same_mode e.mode f.mode) ns.1 in
          let ts = and_parts (bytes_eq e.table f.table) (bytes_eq e.pattern f.pattern) ps.0 in
          let p : e.pattern ≡ f.pattern = bytes_eq-same e.pattern f.pattern ts.1 in
          and_from (bytes_eq e.table f.table) (meets e.pattern f.pattern) ts.0 (ap (λ q. meets q f.pattern) p ∙ meets-refl f.pattern)
      | inr n ↦
          let k : (not (not (in_conflict e f))) ≡ true = ap (λ b. not (not b && not (in_conflict e f))) (sym n) ∙ h in
          let c : in_conflict e f ≡ true = twice (in_conflict e f) k in
          (and_parts (places_meet (asked_of e) (asked_of f)) (modes_clash e.mode f.mode) (and_parts (not (are_related e.owner f.owner)) _ c).1).0
    ]
  where
    twice : (b : Bool) → not (not b) ≡ true → b ≡ true
    twice true h = refl
    twice false h = absurd (cc)

any-equal : (g : ℕ → Bool) (n : ℕ) (ns : List ℕ) → g n ≡ true → list_any (nat_eq n) ns ≡ true → list_any g ns ≡ true
any-equal g n ns h t = list_any-weaken (nat_eq n) g (λ k e. subst (λ i. g i ≡ true) (eqb-true n k e) h) ns t

module _ (slots : List (Option Entry)) (m : NumberMap) (shown : IsShown slots m) where
  -- an entry that meets the argument stands under the key for its number of literal bytes
  among : (a : Asked) (e : Entry) (j : ℕ) → slot_at slots j ≡ Some e → places_meet (asked_of e) a ≡ true → (s : Search)
      → is_under m (candidates a (literal e.pattern)) j ≡ true
  among a e j at h s =
      let hs = and_parts (bytes_eq e.table a.table) (meets e.pattern a.pattern) h in
      let n = literal e.pattern in
      let table : e.table ≡ a.table = bytes_eq-same e.table a.table hs.0 in
      let long : length e.pattern ≡ length a.pattern = meets-length e.pattern a.pattern hs.1 in
      let least : n ≤ length e.pattern = literal-le is_generic e.pattern in
      let within : nat_lt (length a.pattern) n ≡ false = le-ltb (length a.pattern) n (omega arith) in
      elim (cases_Bool (nat_le n (literal a.pattern))) [
        | inl l ↦
            let k = spot_at a.table (take n a.pattern) in
            let is : candidates a n ≡ Some k = ap (λ b. cond b None (cond (nat_le n (literal a.pattern)) (Some k) (Some (stretch_at a.table n)))) within
            ∙ ap (λ b. cond b (Some k) (Some (stretch_at a.table n))) l in
            let le : n ≤ literal a.pattern = leb-true n (literal a.pattern) l in
            let prefix : take n a.pattern ≡ take n e.pattern = meets-prefix e.pattern a.pattern hs.1 le in
            let own : same_key (spot_key e.table e.pattern) k ≡ true = eq-eqb (digest e.table (take n e.pattern)) (digest a.table (take n a.pattern))
            (λ i. digest (table i) (sym prefix i)) in
            ap (λ o. is_under m o j) is ∙ shown.exact k j refl ∙ ap (on_some (has_key k)) at
            ∙ or_right (same_key (owner_key e.owner) k) _ (or_left (same_key (spot_key e.table e.pattern) k) _ own)
        | inr l ↦
            let k = stretch_at a.table n in
            let is : candidates a n ≡ Some k = ap (λ b. cond b None (cond (nat_le n (literal a.pattern)) (Some (spot_at a.table (take n a.pattern))) (Some k)))
            within ∙ ap (λ b. cond b (Some (spot_at a.table (take n a.pattern))) (Some k)) l in
            let own : same_key (stretch_key e.table e.pattern) k ≡ true =
            and_from (nat_eq (digest e.table []) (digest a.table [])) (nat_eq n n)
            (eq-eqb (digest e.table []) (digest a.table []) (ap (λ t. digest t []) table)) (eq-eqb n n refl) in
            ap (λ o. is_under m o j) is ∙ shown.exact k j refl ∙ ap (on_some (has_key k)) at
            ∙ or_right (same_key (owner_key e.owner) k) _
            (or_right (same_key (spot_key e.table e.pattern) k) _ (or_left (same_key (stretch_key e.table e.pattern) k) _ own))
      ]

  all-among : (s : Search) (j : ℕ) → on_some (finds s) (slot_at slots j) ≡ true
      → list_any (λ n. is_under m (candidates (place_of s) n) j) (members m (lengths_key (place_of s).table)) ≡ true
  all-among s j h = go (slot_at slots j) refl h
    where
      go : (o : Option Entry) → slot_at slots j ≡ o → on_some (finds s) o ≡ true
          → list_any (λ n. is_under m (candidates (place_of s) n) j) (members m (lengths_key (place_of s).table)) ≡ true
      go None at t = absurd (cc)
      go (Some e) at t =
          let meet = finds-meets s e t in
          let a = place_of s in
          let table : e.table ≡ a.table = bytes_eq-same e.table a.table (and_parts (bytes_eq e.table a.table) (meets e.pattern a.pattern) meet).0 in
          let known : list_any (nat_eq (literal e.pattern)) (members m (lengths_key a.table)) ≡ true =
          ap (λ x. has m (lengths_key x) (literal e.pattern)) (sym table) ∙ shown.lengths j e at in
          any-equal (λ n. is_under m (candidates a n) j) (literal e.pattern) (members m (lengths_key a.table)) (among a e j at meet s) known

  -- what is found is among them
  pub found-among : (s : Search) (j : ℕ)
      → (list_any (λ n. is_under m (candidates (place_of s) n) j) (members m (lengths_key (place_of s).table)) && on_some (finds s) (slot_at slots j)) ≡ on_some
      (finds s) (slot_at slots j)
  found-among s j = same (list_any (λ n. is_under m (candidates (place_of s) n) j) (members m (lengths_key (place_of s).table)))
      (on_some (finds s) (slot_at slots j)) (all-among s j)
    where
      same : (b f : Bool) → (f ≡ true → b ≡ true) → (b && f) ≡ f
      same true f h = refl
      same false true h = h refl
      same false false h = refl

  pub oldest-is : (s : Search) → oldest_over slots m s None (members m (lengths_key (place_of s).table)) ≡ position (on_some (finds s)) slots
  oldest-is s =
      let ns = members m (lengths_key (place_of s).table) in
      let found : ℕ → Bool = λ j. on_some (finds s) (slot_at slots j) in
      let looked : IsOldest (λ j. false || (list_any (λ n. is_under m (candidates (place_of s) n) j) ns && found j)) (oldest_over slots m s None ns) =
      oldest-over slots s m ns (λ j. false) None (λ i. refl) in
      oldest-one found (oldest_over slots m s None ns) (position (on_some (finds s)) slots)
      (oldest-same (λ j. false || (list_any (λ n. is_under m (candidates (place_of s) n) j) ns && found j)) found
      (λ j. same (list_any (λ n. is_under m (candidates (place_of s) n) j) ns) (found j) (all-among s j)) (oldest_over slots m s None ns) looked)
      (position-oldest (finds s) slots)
    where
      same : (b f : Bool) → (f ≡ true → b ≡ true) → (false || (b && f)) ≡ f
      same true f h = refl
      same false true h = h refl
      same false false h = refl

  -- an entry of this name stands under the key of its literal bytes
  pub named-is : (r : Bor LockName) → oldest_of slots (Named r) None (members m (spot_key r.now.asked.table r.now.asked.pattern)) ≡ position
      (on_some (has_name r.now)) slots
  named-is r =
      let n = r.now in
      let k = spot_key n.asked.table n.asked.pattern in
      let found : ℕ → Bool = λ j. on_some (has_name n) (slot_at slots j) in
      oldest-one found (oldest_of slots (Named r) None (members m k)) (position (on_some (has_name n)) slots)
      (oldest-same (λ j. false || (has m k j && found j)) found (λ j. same (has m k j) (found j) (λ t. under-spot n j t))
      (oldest_of slots (Named r) None (members m k))
      (oldest-of slots (Named r) (members m k) (λ j. false) None (λ i. refl)))
      (position-oldest (has_name n) slots)
    where
      same : (b f : Bool) → (f ≡ true → b ≡ true) → (false || (b && f)) ≡ f
      same true f h = refl
      same false true h = h refl
      same false false h = refl

      under-spot : (n : LockName) (j : ℕ) → on_some (has_name n) (slot_at slots j) ≡ true → has m (spot_key n.asked.table n.asked.pattern) j ≡ true
      under-spot n j t = go (slot_at slots j) refl t
        where
          go : (o : Option Entry) → slot_at slots j ≡ o → on_some (has_name n) o ≡ true → has m (spot_key n.asked.table n.asked.pattern) j ≡ true
          go None at h = absurd (cc)
          go (Some e) at h =
              let k = spot_key n.asked.table n.asked.pattern in
              let ns = and_parts (same_owner n.owner e.owner) (same_asked n.asked (asked_of e)) h in
              let ps = and_parts (same_place n.asked (asked_of e)) (same_mode n.asked.mode e.mode) ns.1 in
              let ts = and_parts (bytes_eq n.asked.table e.table) (bytes_eq n.asked.pattern e.pattern) ps.0 in
              let t : n.asked.table ≡ e.table = bytes_eq-same n.asked.table e.table ts.0 in
              let p : n.asked.pattern ≡ e.pattern = bytes_eq-same n.asked.pattern e.pattern ts.1 in
              let is : spot_key e.table e.pattern ≡ k = λ i. spot_key (sym t i) (sym p i) in
              shown.exact k j refl ∙ ap (on_some (has_key k)) at
              ∙ or_right (same_key (owner_key e.owner) k) _ (or_left (same_key (spot_key e.table e.pattern) k) _ (ap (λ q. same_key q k) is ∙ same_key-refl k))
