-- Puts that follow a grant.
use Rattle.std.proofs.Common.{◌≡◌, ◌⊎◌, ℕ, Bool, true, false, cond, not, ◌||◌, List, [], ◌∷◌, ◌++◌, map, length, drop, Option, Some, None, refl, sym, ap, ◌∙◌, subst, inl, inr, append_assoc, arith}
use Rattle.std.specs.List.{list_all, find}
use Rattle.std.specs.Option.{option_map_or}
use Rattle.std.proofs.lemmas.Bool.{false≢true, cases_Bool, and_parts, and_from, or_parts, or_left, or_right}
use Rattle.std.proofs.lemmas.List.{length-map, map-append, append-nil}
use Rattle.enq_base.specs.Owners.{same_owner}
use Rattle.enq_base.specs.declared.owner.Owner.{Owner}
use Rattle.lock_entry.specs.declared.entry.Asker.{Asker}
use Rattle.lock_entry.specs.declared.entry.Entry.{Entry}
use Rattle.lock_entry.specs.declared.entry.LockName.{LockName}
use Rattle.lock_entry.specs.Names.{same_name, has_name, name_of, stands, is_of, names_differ, has_distinct_names}
use Rattle.lock_entry.specs.Freeing.{freed_owner}
use Rattle.lock_entry.specs.Granting.{new_names, new_entry, raised, granted}
use Rattle.lock_entry.specs.Sound.{ReadmitsOnly}
use Rattle.lock_entry.proofs.lemmas.Naming.{same_name-refl, same_name-same, same_name-sym}
use Rattle.lock_entry.proofs.lemmas.Lists.{find-None, all_pairs-filter, all_pairs-append}
use Rattle.replica_link.specs.declared.operation.TableOp.{TableOp}
use Rattle.replica_link.specs.declared.operation.TableOp.TheVariants.{Put}
use Rattle.replica_link.specs.Operations.{after_ops, instead_of}
use Rattle.replica_link.specs.Shipping.{granted_ops, owner_ops, readmitted_ops}
use Rattle.replica_link.proofs.Distinct.{AreDistinct, distinct_from, found_here, found_later, found_named}
use Rattle.replica_link.proofs.lemmas.Drops.{after_ops-append, owner_ops-freed_owner}
use Rattle.replica_link.proofs.Names.{is_in, newcomers, newcomers-new_names, is_in-stands, times_none, granted-distinct}

-- the table has the list's names first and in order, and differs from it only at entries that the names name
abbrev Precedes : List LockName → List Entry → List Entry → Type 0
Precedes ns [] table = Unit {0}
Precedes ns (x ∷ list) [] = ⊥
Precedes ns (x ∷ list) (y ∷ table) = (name_of x ≡ name_of y) × ((x ≡ y) ⊎ (is_in (name_of y) ns ≡ true)) × Precedes ns list table

-- old entries keep their places, and new ones follow in order of first naming
record IsGrant (ns : List LockName) (list table : List Entry) : Type 0 where
  places : Precedes ns list table
  news : map name_of (drop (length list) table) ≡ newcomers (map name_of list) ns
  distinct : AreDistinct table

-- the first entry of its name is found by it
found_first : (y : Entry) (table : List Entry) → find (has_name (name_of y)) (y ∷ table) ≡ Some y
found_first y table = ap (λ b. cond b (Some y) (find (has_name (name_of y)) table)) (same_name-refl (name_of y))

or_other : (a b : Bool) → (a || b) ≡ true → a ≡ false → b ≡ true
or_other true b h f = absurd (false≢true (sym f))
or_other false b h f = h

apart : (a b : LockName) → same_name a b ≡ false → same_name b a ≡ false
apart a b h = same_name-sym b a ∙ h

-- x's name isn't n, so y's isn't either
not_named : (n : LockName) (x y : Entry) → has_name n x ≡ false → name_of x ≡ name_of y → same_name (name_of y) n ≡ false
not_named n x y h e = apart n (name_of y) (ap (same_name n) (sym e) ∙ h)

drop_name : (m n : LockName) (ns : List LockName) → same_name m n ≡ false → is_in m (n ∷ ns) ≡ true → is_in m ns ≡ true
drop_name m n ns other named = or_other (same_name m n) (is_in m ns) named other

-- nothing is left to ship
none_left : (list table : List Entry) → Precedes [] list table → map name_of (drop (length list) table) ≡ [] → list ≡ table
none_left [] [] places news = refl
none_left [] (y ∷ table) places news = cc
none_left (x ∷ list) [] places news = absurd places
none_left (x ∷ list) (y ∷ table) places news =
    elim places.1 [
      | inl is ↦ ap (λ (e : Entry). e ∷ list) is ∙ ap (λ (r : List Entry). y ∷ r) (none_left list table places.2 news)
      | inr named ↦ absurd (false≢true named)
    ]

-- a name that no entry of the list has needn't be shipped for its places
other_places : (n : LockName) (ns : List LockName) (list table : List Entry) → stands list n ≡ false → Precedes (n ∷ ns) list table → Precedes ns list table
other_places n ns [] table none places = tt
other_places n ns (x ∷ list) [] none places = places
other_places n ns (x ∷ list) (y ∷ table) none places =
    let hs = or_parts (has_name n x) (stands list n) none in (
      places.0,
      elim places.1 [ inl is ↦ inl is | inr named ↦ inr (drop_name (name_of y) n ns (not_named n x y hs.0 places.0) named) ],
      other_places n ns list
          table hs.1 places.2,
    )

-- behind the entry of this name nothing has it
places_rest : (n : LockName) (ns : List LockName) (e : Entry) (list table : List Entry) → n ≡ name_of e → stands table (name_of e) ≡ false
    → Precedes (n ∷ ns) list table → Precedes ns (map (instead_of e) list) table
places_rest n ns e [] table is none places = tt
places_rest n ns e (x ∷ list) [] is none places = places
places_rest n ns e (x ∷ list) (y ∷ table) is none places =
    let hs = or_parts (has_name (name_of e) y) (stands table (name_of e)) none in
    let here : has_name (name_of e) x ≡ false = ap (same_name (name_of e)) places.0 ∙ hs.0 in
    let other : same_name (name_of y) n ≡ false = apart n (name_of y) (ap (λ m. same_name m (name_of y)) is ∙ hs.0) in
    subst (λ b. Precedes ns (cond b e x ∷ map (instead_of e) list) (y ∷ table)) (sym here)
    (places.0, elim places.1 [ inl same ↦ inl same | inr named ↦ inr (drop_name (name_of y) n ns other named) ], places_rest n ns e list table is hs.1 places.2)

-- the list with the table's entry of this name in its place
places_put : (n : LockName) (ns : List LockName) (e : Entry) (list table : List Entry) → n ≡ name_of e → AreDistinct table → find (has_name n) table ≡ Some e
    → Precedes (n ∷ ns) list table → Precedes ns (map (instead_of e) list) table
places_put n ns e [] table is distinct found places = tt
places_put n ns e (x ∷ list) [] is distinct found places = places
places_put n ns e (x ∷ list) (y ∷ table) is distinct found places =
    elim (cases_Bool (has_name (name_of e) x)) [
      | inl named ↦
          let here : has_name n y ≡ true = ap (λ m. same_name m (name_of y)) is ∙ ap (same_name (name_of e)) (sym places.0) ∙ named in
          let same : y ≡ e = found_here n y e table here found in
          subst (λ b. Precedes ns (cond b e x ∷ map (instead_of e) list) (y ∷ table)) (sym named)
          (ap name_of (sym same), inl (sym same), places_rest n ns e list table is (ap (stands table) (ap name_of (sym same)) ∙ distinct.0) places.2)
      | inr other ↦
          let away : has_name n y ≡ false = ap (λ m. same_name m (name_of y)) is ∙ ap (same_name (name_of e)) (sym places.0) ∙ other in
          subst (λ b. Precedes ns (cond b e x ∷ map (instead_of e) list) (y ∷ table)) (sym other) (
            places.0,
            elim places.1 [ inl same ↦ inl same | inr named ↦ inr (drop_name (name_of y) n ns (apart n (name_of y) away) named) ],
            places_put n ns e list table is distinct.1 (found_later n y e table away found) places.2,
          )
    ]

names_instead : (e : Entry) (list : List Entry) → map name_of (map (instead_of e) list) ≡ map name_of list
names_instead e [] = refl
names_instead e (x ∷ list) =
    elim (cases_Bool (has_name (name_of e) x)) [
      | inl named ↦
          ap (λ b. name_of (cond b e x) ∷ map name_of (map (instead_of e) list)) named
          ∙ ap (λ (m : LockName). m ∷ map name_of (map (instead_of e) list)) (same_name-same (name_of e) (name_of x) named)
          ∙ ap (λ (r : List LockName). name_of x ∷ r) (names_instead e list)
      | inr other ↦
          ap (λ b. name_of (cond b e x) ∷ map name_of (map (instead_of e) list)) other
          ∙ ap (λ (r : List LockName). name_of x ∷ r) (names_instead e list)
    ]

-- a name of the list is one of the table
stands_too : (n : LockName) (ns : List LockName) (list table : List Entry) → Precedes ns list table → stands list n ≡ true → stands table n ≡ true
stands_too n ns [] table places stood = absurd (false≢true stood)
stands_too n ns (x ∷ list) [] places stood = absurd places
stands_too n ns (x ∷ list) (y ∷ table) places stood =
    elim (cases_Bool (has_name n x)) [
      | inl named ↦ or_left (has_name n y) (stands table n) (ap (same_name n) (sym places.0) ∙ named)
      | inr other ↦ or_right (has_name n y) (stands table n) (stands_too n ns list table places.2 (or_other (has_name n x) (stands list n) stood other))
    ]

-- the first entry behind the list's is found by its name
find_behind : (n : LockName) (ns : List LockName) (list table rest : List Entry) (y : Entry) → Precedes ns list table → stands list n ≡ false
    → drop (length list) table ≡ y ∷ rest → name_of y ≡ n → find (has_name n) table ≡ Some y
find_behind n ns [] table rest y places none behind is = ap (find (has_name n)) behind ∙ ap (λ m. find (has_name m) (y ∷ rest)) (sym is) ∙ found_first y rest
find_behind n ns (x ∷ list) [] rest y places none behind is = absurd places
find_behind n ns (x ∷ list) (z ∷ table) rest y places none behind is =
    let hs = or_parts (has_name n x) (stands list n) none in
    ap (λ b. cond b (Some z) (find (has_name n) table)) (ap (same_name n) (sym places.0) ∙ hs.0)
    ∙ find_behind n ns list table rest y places.2 hs.1 behind is

places_push : (ns : List LockName) (list table rest : List Entry) (y : Entry) → Precedes ns list table → drop (length list) table ≡ y ∷ rest
    → Precedes ns (list ++ y ∷ []) table
places_push ns [] table rest y places behind = subst (Precedes ns (y ∷ [])) (sym behind) (refl, inl refl, tt)
places_push ns (x ∷ list) [] rest y places behind = places
places_push ns (x ∷ list) (z ∷ table) rest y places behind = (places.0, places.1, places_push ns list table rest y places.2 behind)

drop_push : (list table rest : List Entry) (y : Entry) → drop (length list) table ≡ y ∷ rest → drop (length (list ++ y ∷ [])) table ≡ rest
drop_push [] table rest y behind = ap (drop 1) behind
drop_push (x ∷ list) [] rest y behind = cc
drop_push (x ∷ list) (z ∷ table) rest y behind = drop_push list table rest y behind

-- what is shipped for one name, where it was found
abbrev one_put : Option Entry → List TableOp
one_put o = option_map_or (λ e. Put e ∷ []) o []

granted_ops-grant : (ns : List LockName) (list table : List Entry) → IsGrant ns list table → after_ops list (granted_ops table ns) ≡ table
granted_ops-grant [] list table g = none_left list table g.places g.news
granted_ops-grant (n ∷ ns) list table g =
    elim (cases_Bool (is_in n (map name_of list))) [
      | inl known ↦
          let stood : stands list n ≡ true = sym (is_in-stands n list) ∙ known in
          (elim (find (has_name n) table) as (λ o. find (has_name n) table ≡ o → after_ops list (one_put o ++ granted_ops table ns) ≡ table) [
            | None ↦ λ none. absurd (false≢true (sym (find-None (has_name n) table none) ∙ stands_too n (n ∷ ns) list table g.places stood))
            | Some e ↦ λ found.
                ap (λ b. after_ops (cond b (map (instead_of e) list) (list ++ e ∷ [])) (granted_ops table ns))
                (ap (stands list) (sym (found_named n table e found)) ∙ stood)
                ∙ granted_ops-grant ns (map (instead_of e) list) table (record {
                  places = places_put n ns e list table (found_named n table e found) g.distinct found g.places;
                  news =
                      ap (λ k. map name_of (drop k table)) (length-map list (instead_of e))
                      ∙ g.news
                      ∙ ap (λ b. cond b (newcomers (map name_of list) ns) (n ∷ newcomers (map name_of list ++ n ∷ []) ns)) known
                      ∙ ap (λ k. newcomers k ns) (sym (names_instead e list));
                  distinct = g.distinct;
                })
          ] refl)
      | inr new ↦
          let none : stands list n ≡ false = sym (is_in-stands n list) ∙ new in
          let news = g.news ∙ ap (λ b. cond b (newcomers (map name_of list) ns) (n ∷ newcomers (map name_of list ++ n ∷ []) ns)) new in
          (elim (drop (length list) table)
          as (λ d. drop (length list) table ≡ d → map name_of d ≡ n ∷ newcomers (map name_of list ++ n ∷ []) ns
          → after_ops list (granted_ops table (n ∷ ns)) ≡ table) [
            | [] ↦ λ behind names. absurd (cc)
            | y ∷ rest ↦ λ behind names.
                let is : name_of y ≡ n = cc in
                let tail : map name_of rest ≡ newcomers (map name_of list ++ n ∷ []) ns = cc in
                let found = find_behind n (n ∷ ns) list table rest y g.places none behind is in
                ap (λ (o : Option Entry). after_ops list (one_put o ++ granted_ops table ns)) found
                ∙ ap (λ b. after_ops (cond b (map (instead_of y) list) (list ++ y ∷ [])) (granted_ops table ns)) (ap (stands list) is ∙ none)
                ∙ granted_ops-grant ns (list ++ y ∷ []) table (record {
                  places = places_push ns list table rest y (other_places n ns list table none g.places) behind;
                  news =
                      ap (map name_of) (drop_push list table rest y behind)
                      ∙ tail
                      ∙ ap (λ k. newcomers k ns) (ap (λ m. map name_of list ++ m ∷ []) (sym is) ∙ sym (map-append name_of list (y ∷ [])));
                  distinct = g.distinct;
                })
          ] refl news)
    ]

-- an entry that isn't named keeps its count
raised_or_named : (ns : List LockName) (e : Entry) → (e ≡ raised ns e) ⊎ (is_in (name_of e) ns ≡ true)
raised_or_named ns e =
    elim (cases_Bool (is_in (name_of e) ns)) [
      | inl named ↦ inr named
      | inr other ↦ inl (ap (λ k. record e { count = k }) (omega (arith, times_none (name_of e) ns other)))
    ]

raised_places : (ns : List LockName) (list more : List Entry) → Precedes ns list (map (raised ns) list ++ more)
raised_places ns [] more = tt
raised_places ns (e ∷ list) more = (refl, raised_or_named ns e, raised_places ns list more)

drop_raised : (ns : List LockName) (list more : List Entry) → drop (length list) (map (raised ns) list ++ more) ≡ more
drop_raised ns [] more = refl
drop_raised ns (e ∷ list) more = drop_raised ns list more

new_entry-names : (user : List ℕ) (names ns : List LockName) → map name_of (map (new_entry user names) ns) ≡ ns
new_entry-names user names [] = refl
new_entry-names user names (n ∷ ns) = ap (λ (r : List LockName). n ∷ r) (new_entry-names user names ns)

pub granted_ops-granted : (list : List Entry) (user : List ℕ) (names : List LockName) → has_distinct_names list ≡ true
    → after_ops list (granted_ops (granted list user names) names) ≡ granted list user names
granted_ops-granted list user names distinct =
    granted_ops-grant names list (granted list user names) (record {
      places = raised_places names list (map (new_entry user names) (new_names list names));
      news =
          ap (map name_of) (drop_raised names list (map (new_entry user names) (new_names list names)))
          ∙ new_entry-names user names (new_names list names)
          ∙ sym (newcomers-new_names list names);
      distinct = distinct_from (granted list user names) (granted-distinct list user names distinct);
    })

behind_none : (n : LockName) (r es : List Entry) (e : Entry) → stands (r ++ e ∷ es) n ≡ false → has_name n e ≡ false
behind_none n [] es e none = (or_parts (has_name n e) (stands es n) none).0
behind_none n (x ∷ r) es e none = behind_none n r es e (or_parts (has_name n x) (stands (r ++ e ∷ es) n) none).1

not_before : (r es : List Entry) (e : Entry) → AreDistinct (r ++ e ∷ es) → stands r (name_of e) ≡ false
not_before [] es e distinct = refl
not_before (x ∷ r) es e distinct =
    ap (λ b. b || stands r (name_of e)) (apart (name_of x) (name_of e) (behind_none (name_of x) r es e distinct.0))
    ∙ not_before r es e distinct.1

puts_last : (es r : List Entry) → AreDistinct (r ++ es) → after_ops r (map Put es) ≡ r ++ es
puts_last [] r distinct = sym (append-nil r)
puts_last (e ∷ es) r distinct =
    ap (λ b. after_ops (cond b (map (instead_of e) r) (r ++ e ∷ [])) (map Put es)) (not_before r es e distinct)
    ∙ puts_last es (r ++ e ∷ []) (subst AreDistinct (sym (append_assoc r (e ∷ []) es)) distinct)
    ∙ append_assoc r (e ∷ []) es

-- an entry of another owner has another name
other_owner : (owner : Owner) (x : Entry) (es : List Entry) → is_of owner x ≡ false → list_all (is_of owner) es ≡ true → list_all (names_differ x) es ≡ true
other_owner owner x [] other all = refl
other_owner owner x (e ∷ es) other all =
    let hs = and_parts (is_of owner e) (list_all (is_of owner) es) all in
    and_from _ _ (one (same_name (name_of x) (name_of e)) refl hs.0) (other_owner owner x es other hs.1)
  where
    one : (b : Bool) → same_name (name_of x) (name_of e) ≡ b → is_of owner e ≡ true → not b ≡ true
    one false h own = refl
    one true h own = absurd (false≢true (sym other ∙ ap (λ (n : LockName). same_owner n.owner owner) (same_name-same (name_of x) (name_of e) h) ∙ own))

others_differ : (owner : Owner) (t es : List Entry) → list_all (is_of owner) es ≡ true
    → list_all (λ x. list_all (names_differ x) es) (freed_owner t owner) ≡ true
others_differ owner [] es all = refl
others_differ owner (x ∷ t) es all =
    elim (cases_Bool (is_of owner x)) [
      | inl own ↦ rw own (others_differ owner t es all)
      | inr other ↦ rw other (and_from _ _ (other_owner owner x es other all) (others_differ owner t es all))
    ]

pub readmitted_ops-readmitted : (t : List Entry) (asker : Asker) (given : List Entry) → has_distinct_names t ≡ true → ReadmitsOnly asker given
    → after_ops t (readmitted_ops t asker.update given) ≡ freed_owner t asker.update ++ given
readmitted_ops-readmitted t asker given distinct only =
    let others = freed_owner t asker.update in
    after_ops-append t (owner_ops t asker.update) (map Put given)
    ∙ ap (λ (r : List Entry). after_ops r (map Put given)) (owner_ops-freed_owner t asker.update)
    ∙ puts_last given others
    (distinct_from (others ++ given)
    (all_pairs-append names_differ others given (all_pairs-filter names_differ (λ e. not (is_of asker.update e)) t distinct) only.names
    (others_differ asker.update t given only.owners)))
