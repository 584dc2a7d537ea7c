-- A call that ships something leaves another table.
use Rattle.std.proofs.Common.{◌≡◌, ◌⊎◌, inl, inr, ℕ, suc, ◌+◌, ◌-◌, ◌<◌, ◌≤◌, nat_le, nat_lt, Bool, true, false, true≢false, cond, not, ◌&&◌, ◌||◌}
use Rattle.std.proofs.Common.{if◌then◌else◌, IsTrue, List, [], ◌∷◌, ◌++◌, length, map, drop, take, Option, Some, None, Result, Ok, Err, refl, sym, ap, subst}
use Rattle.std.proofs.Common.{◌∙◌, arith}
use Rattle.std.specs.List.{cons_option, filter, filter_map, find, flat_map, list_all, list_any}
use Rattle.std.specs.Option.{option_map_or}
use Rattle.std.proofs.Math.Seq.{drop-append_seam}
use Rattle.std.proofs.lemmas.Bool.{and_from, and_parts, cases_Bool, leb-false, or_from, or_left, or_parts}
use Rattle.std.proofs.lemmas.Bool.Decides.{nat_tests}
use Rattle.std.proofs.lemmas.List.{append-nil, length-append, length-map, take-append-drop}
use Rattle.std.proofs.lemmas.List.Elements.{filter-append}
use Rattle.std.proofs.lemmas.List.Filters.{length-filter_both}
use Rattle.enq_base.specs.declared.owner.Owner.{Owner}
use Rattle.enq_base.specs.declared.owner.Owner.TheVariants.{Upd}
use Rattle.enq_base.specs.declared.owner.UnitKey.{UnitKey}
use Rattle.mode_rules.specs.declared.Mode.{Mode}
use Rattle.mode_rules.specs.declared.Mode.TheVariants.{S, E, X, O}
use Rattle.mode_rules.specs.Modes.{same_mode}
use Rattle.lock_entry.specs.Converting.{Conversion, converted, gives_way, is_lost, is_optimistic, turns}
use Rattle.lock_entry.specs.Freeing.{flagged, freed, freed_owner, handed_over, has_unhanded, lowered, without_optimistic}
use Rattle.lock_entry.specs.Granting.{asked, granted, new_entry, new_names, raised, readmitted}
use Rattle.lock_entry.specs.Names.{asked_of, each_once, halves, has_name, is_of, name_of, same_name, same_place, stands, times}
use Rattle.lock_entry.specs.Pairs.{in_pair}
use Rattle.lock_entry.specs.Sound.{ReadmitsOnly}
use Rattle.lock_entry.specs.Table.{IsTable, Table, with_entries}
use Rattle.lock_entry.specs.Turning.{name_in, turned, turned_by, turned_entry, with_count_of}
use Rattle.lock_entry.specs.declared.entry.Asked.{Asked}
use Rattle.lock_entry.specs.declared.entry.Asker.{Asker}
use Rattle.lock_entry.specs.declared.entry.Entry.{Entry}
use Rattle.lock_entry.specs.declared.entry.LockName.{LockName}
use Rattle.lock_entry.specs.declared.entry.Request.{Request}
use Rattle.lock_entry.specs.declared.fault.AskFault.{AskFault}
use Rattle.lock_entry.specs.declared.fault.AskFault.TheVariants as ask
use Rattle.lock_entry.proofs.lemmas.Lists.{count_by-any, length-filter_le, list_any-filter, list_any-weaken}
use Rattle.lock_entry.proofs.lemmas.Naming.{same_name-refl, same_name-same}
use Rattle.replica_link.specs.Operations.{after_ops}
use Rattle.replica_link.specs.Shipping.{drop_of, freed_ops, granted_ops, lowered_op, owner_ops, put_ops, turn_ops}
use Rattle.replica_link.specs.declared.operation.TableOp.{TableOp}
use Rattle.replica_link.specs.declared.operation.TableOp.TheVariants.{Put}
use Rattle.enq_server.specs.Server.{put_back}
use Rattle.enq_server.proofs.Shipped.{converted_is, granted_is, readmitted_at, readmitted_is}

tails : {X : Type 0} (x y : X) (xs ys : List X) → x ∷ xs ≡ y ∷ ys → xs ≡ ys
tails x y xs ys same = cc

heads : {X : Type 0} (x y : X) (xs ys : List X) → x ∷ xs ≡ y ∷ ys → x ≡ y
heads x y xs ys same = cc

-- ---- an entry that loses one

lowered_other : (e : Entry) (es : List Entry) → lowered e ++ es ≡ e ∷ es → ⊥
lowered_other e es same =
    elim (cases_Bool (nat_le e.count 1)) [
      | inl last ↦
          let gone : es ≡ e ∷ es = sym (ap (λ b. cond b [] (record e { count = e.count - 1 } ∷ []) ++ es) last) ∙ same in
          let less : length es ≡ suc (length es) = ap length gone in
          omega (arith, less)
      | inr more ↦
          let less : record e { count = e.count - 1 } ∷ es ≡ e ∷ es =
          sym (ap (λ b. cond b [] (record e { count = e.count - 1 } ∷ []) ++ es) more) ∙ same in
          let head : record e { count = e.count - 1 } ≡ e = heads (record e { count = e.count - 1 }) e es es less in
          let count : e.count - 1 ≡ e.count = ap (λ (x : Entry). x.count) head in
          let many = leb-false e.count 1 more in
          omega (arith, count, many)
    ]

pub freed_other : (n : LockName) (es : List Entry) → 1 ≤ length (freed_ops es n) → freed es n ≡ es → ⊥
freed_other n [] some same = omega (arith, some)
freed_other n (e ∷ es) some same =
    elim (cases_Bool (has_name n e)) [
      | inl here ↦ lowered_other e es (sym (ap (λ b. cond b (lowered e ++ es) (e ∷ freed es n)) here) ∙ same)
      | inr other ↦
          let rest : 1 ≤ length (freed_ops es n) =
          subst (λ b. 1 ≤ length (option_map_or (λ (x : Entry). lowered_op x ∷ []) (cond b (Some e) (find (has_name n) es)) [])) other some in
          freed_other n es rest (tails e e (freed es n) es (sym (ap (λ b. cond b (lowered e ++ es) (e ∷ freed es n)) other) ∙ same))
    ]

-- ---- an owner's entries that go

-- the owner's entries and the others are all of them
parts : (owner : Owner) (es : List Entry) → length (filter (is_of owner) es) + length (freed_owner es owner) ≡ length es
parts owner es = length-filter_both (is_of owner) (λ e. not (is_of owner e)) (λ e. refl) es

pub owner_other : (owner : Owner) (es : List Entry) → 1 ≤ length (owner_ops es owner) → freed_owner es owner ≡ es → ⊥
owner_other owner es some same =
    let own : length (owner_ops es owner) ≡ length (filter (is_of owner) es) = length-map (filter (is_of owner) es) drop_of in
    let all = parts owner es in
    let stay : length (freed_owner es owner) ≡ length es = ap length same in
    omega (arith, some, own, all, stay)

-- ---- requests that are granted

named_once : (n : LockName) (ns : List LockName) → 1 ≤ times (n ∷ ns) n
named_once n ns = count_by-any (same_name n) (n ∷ ns) (or_left (same_name n n) (list_any (same_name n) ns) (same_name-refl n))

not_more : (c k : ℕ) → 1 ≤ k → c + k ≡ c → ⊥
not_more c k some same = omega (arith, some, same)

-- an entry that a half names rises
rises : (names : List LockName) (n : LockName) (es more : List Entry) → 1 ≤ times names n → stands es n ≡ true → map (raised names) es ++ more ≡ es → ⊥
rises names n [] more some here same = true≢false (sym here)
rises names n (e ∷ es) more some here same =
    elim (cases_Bool (has_name n e)) [
      | inl this ↦
          let is : n ≡ name_of e = same_name-same n (name_of e) this in
          let count : e.count + times names (name_of e) ≡ e.count =
          ap (λ (x : Entry). x.count) (heads (raised names e) e (map (raised names) es ++ more) es same) in
          not_more e.count (times names (name_of e)) (subst (λ m. 1 ≤ times names m) is some) count
      | inr other ↦
          rises names n es more some (sym (ap (λ b. b || stands es n) other) ∙ here)
          (tails (raised names e) e (map (raised names) es ++ more) es same)
    ]

new_some : (es : List Entry) (user : List ℕ) (n : LockName) (ns : List LockName) → stands es n ≡ false → granted es user (n ∷ ns) ≡ es → ⊥
new_some es user n ns free same =
    let names = n ∷ ns in
    let rest = filter (λ (m : LockName). not (stands es m)) ns in
    let kept : new_names es names ≡ each_once (n ∷ rest) = ap (λ b. each_once (cond (not b) (n ∷ rest) rest)) free in
    let added : length (new_names es names) ≡ suc (length (filter (λ m. not (same_name n m)) (each_once rest))) = ap length kept in
    let sizes : length (granted es user names) ≡ length es + length (new_names es names) =
    length-append (map (raised names) es) (map (new_entry user names) (new_names es names))
    ∙ (λ i. length-map es (raised names) i + length-map (new_names es names) (new_entry user names) i) in
    let stay : length (granted es user names) ≡ length es = ap length same in
    omega (arith, added, sizes, stay)

some_granted : (es : List Entry) (user : List ℕ) (n : LockName) (ns : List LockName) → granted es user (n ∷ ns) ≡ es → ⊥
some_granted es user n ns same =
    elim (cases_Bool (stands es n)) [
      | inl here ↦ rises (n ∷ ns) n es (map (new_entry user (n ∷ ns)) (new_names es (n ∷ ns))) (named_once n ns) here same
      | inr free ↦ new_some es user n ns free same
    ]

granted_other : (es after : List Entry) (user : List ℕ) (names : List LockName) → 1 ≤ length (granted_ops after names) → granted es user names ≡ es → ⊥
granted_other es after user [] some same = omega (arith, some)
granted_other es after user (n ∷ ns) some same = some_granted es user n ns same

pub asked_other : (t : Table) (asker : Asker) (user : List ℕ) (requests : List Request) (es : List Entry) → asked t asker user requests ≡ Ok es
    → 1 ≤ length (granted_ops es (halves asker requests)) → es ≡ t.entries → ⊥
asked_other t asker user requests es h some same =
    granted_other t.entries es user (halves asker requests) some (sym (granted_is t asker user requests es h) ∙ same)

-- ---- entries that are granted again

-- a filter that leaves as many leaves all
filter_whole : {X : Type 0} (p : X → Bool) (xs : List X) → length xs ≤ length (filter p xs) → filter p xs ≡ xs
filter_whole p [] h = refl
filter_whole p (x ∷ xs) h =
    elim (cases_Bool (p x)) [
      | inl kept_so ↦
          let kept : filter p (x ∷ xs) ≡ x ∷ filter p xs = ap (λ b. cond b (x ∷ filter p xs) (filter p xs)) kept_so in
          let size : length (filter p (x ∷ xs)) ≡ suc (length (filter p xs)) = ap length kept in
          let rest : length xs ≤ length (filter p xs) = omega (arith, h, size) in
          kept ∙ ap (λ ys. x ∷ ys) (filter_whole p xs rest)
      | inr off ↦
          let kept : filter p (x ∷ xs) ≡ filter p xs = ap (λ b. cond b (x ∷ filter p xs) (filter p xs)) off in
          let size : length (filter p (x ∷ xs)) ≡ length (filter p xs) = ap length kept in
          let most = length-filter_le p xs in
          absurd (omega (arith, h, size, most))
    ]

filter_none : {X : Type 0} (p : X → Bool) (xs : List X) → list_all (λ x. not (p x)) xs ≡ true → filter p xs ≡ []
filter_none p [] h = refl
filter_none p (x ∷ xs) h =
    let hs = and_parts (not (p x)) (list_all (λ y. not (p y)) xs) h in
    ap (λ b. cond b (x ∷ filter p xs) (filter p xs)) (not_true (p x) hs.0) ∙ filter_none p xs hs.1
  where
    not_true : (b : Bool) → not b ≡ true → b ≡ false
    not_true true e = absurd (true≢false (sym e))
    not_true false e = refl

filter_all : {X : Type 0} (p : X → Bool) (xs : List X) → list_all p xs ≡ true → filter p xs ≡ xs
filter_all p [] h = refl
filter_all p (x ∷ xs) h =
    let hs = and_parts (p x) (list_all p xs) h in
    ap (λ b. cond b (x ∷ filter p xs) (filter p xs)) hs.0 ∙ ap (λ ys. x ∷ ys) (filter_all p xs hs.1)

-- those that pass stay, and no others are among them
others_gone : (owner : Owner) (given : List Entry) → list_all (is_of owner) given ≡ true → freed_owner given owner ≡ []
others_gone owner given all =
    filter_none (λ e. not (is_of owner e)) given (subst (λ b. b ≡ true) (twice given) all)
  where
    same_bool : (b : Bool) → b ≡ not (not b)
    same_bool true = refl
    same_bool false = refl

    twice : (es : List Entry) → list_all (is_of owner) es ≡ list_all (λ e. not (not (is_of owner e))) es
    twice [] = refl
    twice (e ∷ es) = (λ i. same_bool (is_of owner e) i && twice es i)

behind_front : (owner : Owner) (front given : List Entry) → list_all (is_of owner) given ≡ true
    → length (filter (is_of owner) (front ++ given)) ≡ length given → put_back (front ++ given) owner given ≡ front ++ given
behind_front owner front given all size =
    let cut : length (filter (is_of owner) (front ++ given)) ≡ length (filter (is_of owner) front) + length given =
    ap length (filter-append (is_of owner) front given)
    ∙ length-append (filter (is_of owner) front) (filter (is_of owner) given)
    ∙ ap (λ xs. length (filter (is_of owner) front) + length xs) (filter_all (is_of owner) given all) in
    let both = parts owner front in
    let whole : length front ≤ length (freed_owner front owner) = omega (arith, size, cut, both) in
    ap (λ xs. xs ++ given)
    (filter-append (λ e. not (is_of owner e)) front given
    ∙ (λ i. filter_whole (λ e. not (is_of owner e)) front whole i ++ others_gone owner given all i)
    ∙ append-nil front)

-- the table ends with them, and the owner has no others
pub back_same : (es own given : List Entry) (owner : Owner) → own ≡ filter (is_of owner) es → length own ≡ length given → list_all (is_of owner) given ≡ true
    → drop (length es - length given) es ≡ given → put_back es owner given ≡ es
back_same es own given owner is size all last =
    let front = take (length es - length given) es in
    let split : front ++ given ≡ es = ap (λ xs. front ++ xs) (sym last) ∙ take-append-drop (length es - length given) es in
    subst (λ xs. put_back xs owner given ≡ xs) split
    (behind_front owner front given all (ap (λ xs. length (filter (is_of owner) xs)) split ∙ sym (ap length is) ∙ size))

-- where they leave the table as it is they are as many
pub back_sizes : (es own given : List Entry) (owner : Owner) → own ≡ filter (is_of owner) es → put_back es owner given ≡ es → length own ≡ length given
back_sizes es own given owner is same =
    let both = parts owner es in
    let mine : length own ≡ length (filter (is_of owner) es) = ap length is in
    let all : length (freed_owner es owner) + length given ≡ length es =
    sym (length-append (freed_owner es owner) given) ∙ ap length same in
    omega (arith, both, mine, all)

-- they are no more than all
pub own_few : (es own : List Entry) (owner : Owner) → own ≡ filter (is_of owner) es → length own ≤ length es
own_few es own owner is = subst (λ xs. length xs ≤ length es) (sym is) (length-filter_le (is_of owner) es)

-- and the last
pub back_last : (es given : List Entry) (owner : Owner) → put_back es owner given ≡ es → drop (length es - length given) es ≡ given
back_last es given owner same =
    let front = freed_owner es owner in
    let all : length front + length given ≡ length es = sym (length-append front given) ∙ ap length same in
    let place : length es - length given ≡ length front = omega (arith, all) in
    (λ i. drop (place i) (sym same i)) ∙ drop-append_seam front given

-- what is sent where they are granted, unless they stay as they are
pub readmits_at : (t : Table) (asker : Asker) (own given es : List Entry) (stays : Bool) → IsTable t → ReadmitsOnly asker given
    → own ≡ filter (is_of asker.update) t.entries → (IsTrue stays → put_back t.entries asker.update given ≡ t.entries)
    → readmitted t asker given ≡ Ok es → (if stays then t.entries else after_ops (after_ops t.entries (map drop_of own)) (map Put given)) ≡ es
readmits_at t asker own given es true good only is same h = sym (same refl) ∙ sym (readmitted_is t asker given es h)
readmits_at t asker own given es false good only is same h = readmitted_at t asker own given es good only is h

pub readmits_other : (t : Table) (asker : Asker) (own given es : List Entry) (stays : Bool) → readmitted t asker given ≡ Ok es
    → (stays ≡ false → 1 ≤ length own + length given → put_back t.entries asker.update given ≡ t.entries → ⊥)
    → 1 ≤ length (if stays then [] else map drop_of own ++ map Put given) → es ≡ t.entries → ⊥
readmits_other t asker own given es true h other some same = omega (arith, some)
readmits_other t asker own given es false h other some same =
    let size : length (map drop_of own ++ map Put given) ≡ length own + length given =
    length-append (map drop_of own) (map Put given) ∙ (λ i. length-map own drop_of i + length-map given Put i) in
    other refl (subst (λ n. 1 ≤ n) size some) (sym (readmitted_is t asker given es h) ∙ same)

-- ---- a unit that is handed over

flagged_handed : (owner : Owner) (e : Entry) → (is_of owner (flagged owner e) && not (flagged owner e).handed) ≡ false
flagged_handed owner e = by (cases_Bool (is_of owner e))
  where
    by : (is_of owner e ≡ true) ⊎ (is_of owner e ≡ false) → (is_of owner (flagged owner e) && not (flagged owner e).handed) ≡ false
    by (inl own) =
        ap (λ b. is_of owner (cond b (record e { handed = true }) e) && not (cond b (record e { handed = true }) e).handed) own
        ∙ ap (λ b. b && false) own
    by (inr other) =
        ap (λ b. is_of owner (cond b (record e { handed = true }) e) && not (cond b (record e { handed = true }) e).handed) other
        ∙ ap (λ b. b && not e.handed) other

none_unhanded : (owner : Owner) (es : List Entry) → has_unhanded owner (map (flagged owner) es) ≡ false
none_unhanded owner [] = refl
none_unhanded owner (e ∷ es) = or_from _ _ (flagged_handed owner e) (none_unhanded owner es)

flagged_same : (owner : Owner) (e : Entry) → (is_of owner e && not e.handed) ≡ false → flagged owner e ≡ e
flagged_same owner e h = by (cases_Bool (is_of owner e))
  where
    handed : (b : Bool) → not b ≡ false → b ≡ true
    handed true off = refl
    handed false off = absurd (true≢false off)

    by : (is_of owner e ≡ true) ⊎ (is_of owner e ≡ false) → flagged owner e ≡ e
    by (inl own) =
        let flag : e.handed ≡ true = handed e.handed (sym (ap (λ b. b && not e.handed) own) ∙ h) in
        ap (λ b. cond b (record e { handed = true }) e) own ∙ (λ i. record e { handed = sym flag i })
    by (inr other) = ap (λ b. cond b (record e { handed = true }) e) other

all_flagged : (owner : Owner) (es : List Entry) → has_unhanded owner es ≡ false → map (flagged owner) es ≡ es
all_flagged owner [] h = refl
all_flagged owner (e ∷ es) h =
    let hs = or_parts (is_of owner e && not e.handed) (has_unhanded owner es) h in
    (λ i. flagged_same owner e hs.0 i ∷ all_flagged owner es hs.1 i)

-- whether a handover changes an entry or removes one
abbrev hands_some : UnitKey → List Entry → Bool
hands_some unit es = has_unhanded (Upd unit) es || nat_lt (length (handed_over es unit)) (length es)

hands_none : (unit : UnitKey) (es : List Entry) → hands_some unit es ≡ false → handed_over es unit ≡ es
hands_none unit es h =
    let owner : Owner = Upd unit in
    let hs = or_parts (has_unhanded owner es) (nat_lt (length (handed_over es unit)) (length es)) h in
    let size : length (handed_over es unit) ≡ length (without_optimistic es owner) = length-map (without_optimistic es owner) (flagged owner) in
    let many : length es ≤ length (handed_over es unit) = not_less (length (handed_over es unit)) (length es) hs.1 in
    let whole : without_optimistic es owner ≡ es =
    filter_whole (λ e. not (is_of owner e && same_mode e.mode O)) es (subst (λ n. length es ≤ n) size many) in
    ap (map (flagged owner)) whole ∙ all_flagged owner es hs.0
  where
    not_less : (a b : ℕ) → nat_lt a b ≡ false → b ≤ a
    not_less a b off = grind (arith, nat_tests)

hands_other : (unit : UnitKey) (es : List Entry) → hands_some unit es ≡ true → handed_over es unit ≡ es → ⊥
hands_other unit es h same =
    let owner : Owner = Upd unit in
    let none : has_unhanded owner es ≡ false = ap (has_unhanded owner) (sym same) ∙ none_unhanded owner (without_optimistic es owner) in
    let short : nat_lt (length (handed_over es unit)) (length es) ≡ true =
    sym (ap (λ b. b || nat_lt (length (handed_over es unit)) (length es)) none) ∙ h in
    not_shorter (length (handed_over es unit)) (length es) short (ap length same)
  where
    not_shorter : (a b : ℕ) → nat_lt a b ≡ true → a ≡ b → ⊥
    not_shorter a b less is =
        let low : a < b = grind (arith, nat_tests) in
        omega (arith, low, is)

-- by what a table tells before and after
module _ (unit : UnitKey) (t after : Table) (unhanded test : Bool) (before now : ℕ) (is : after ≡ with_entries t (handed_over t.entries unit))
    (some : unhanded ≡ has_unhanded (Upd unit) t.entries) (had : before ≡ length t.entries) (has : now ≡ length after.entries)
    (tested : test ≡ (unhanded || nat_lt now before)) where
  count : now ≡ length (handed_over t.entries unit)
  count = has ∙ ap (λ (x : Table). length x.entries) is

  tests : test ≡ hands_some unit t.entries
  tests = tested ∙ (λ i. some i || nat_lt (count i) (had i))

  pub handed_same : test ≡ false → after.entries ≡ t.entries
  handed_same off = ap (λ (x : Table). x.entries) is ∙ hands_none unit t.entries (sym tests ∙ off)

  pub handed_other : test ≡ true → after ≡ t → ⊥
  handed_other on same =
      hands_other unit t.entries (sym tests ∙ on) (sym (ap (λ (x : Table). x.entries) is) ∙ ap (λ (x : Table). x.entries) same)

-- ---- entries that turn

-- an O entry of the pair that turns
abbrev turns_yet : Asker → List Asked → Entry → Bool
turns_yet asker asked e = same_mode e.mode O && turns asker asked e

and_false : (b : Bool) → (b && false) ≡ false
and_false true = refl
and_false false = refl

module _ (asker : Asker) (asked : List Asked) where
  other_mode : (e : Entry) (m : Mode) → e.mode ≡ m → same_mode m O ≡ false → turns_yet asker asked e ≡ false
  other_mode e m is off = ap (λ b. b && turns asker asked e) (ap (λ k. same_mode k O) is ∙ off)

  mode_kept : (e : Entry) (o : Option Entry) → (option_map_or (with_count_of e) o e).mode ≡ e.mode
  mode_kept e None = refl
  mode_kept e (Some x) = refl

  abbrev turn_yet : Option Entry → Bool
  turn_yet o = option_map_or (turns_yet asker asked) o false

  turned_mode : (e : Entry) (es : List Entry) (m : Mode) → e.mode ≡ m → turn_yet (turned_by m es e) ≡ false
  turned_mode e es S is = other_mode e S is refl
  turned_mode e es E is =
      let joined = option_map_or (with_count_of e) (find (has_name (name_in O e)) es) e in
      other_mode joined E (mode_kept e (find (has_name (name_in O e)) es) ∙ is) refl
  turned_mode e es X is = other_mode e X is refl
  turned_mode e es O is =
      elim (stands es (name_in E e)) as (λ b. turn_yet (cond b None (Some (record e { mode = E }))) ≡ false) [ true ↦ refl | false ↦ refl ]

  turned_each : (e : Entry) (es : List Entry) → turn_yet (turned_entry (turns asker asked) es e) ≡ false
  turned_each e es = by (cases_Bool (turns asker asked e))
    where
      by : (turns asker asked e ≡ true) ⊎ (turns asker asked e ≡ false) → turn_yet (turned_entry (turns asker asked) es e) ≡ false
      by (inl own) = ap (λ b. turn_yet (cond b (turned_by e.mode es e) (Some e))) own ∙ turned_mode e es e.mode refl
      by (inr off) =
          ap (λ b. turn_yet (cond b (turned_by e.mode es e) (Some e))) off ∙ ap (λ b. same_mode e.mode O && b) off ∙ and_false (same_mode e.mode O)

  cons_none : (o : Option Entry) (es : List Entry) → turn_yet o ≡ false → list_any (turns_yet asker asked) es ≡ false
      → list_any (turns_yet asker asked) (cons_option o es) ≡ false
  cons_none None es first rest = rest
  cons_none (Some e) es first rest = or_from _ _ first rest

  turned_none : (es xs : List Entry) → list_any (turns_yet asker asked) (filter_map (turned_entry (turns asker asked) es) xs) ≡ false
  turned_none es [] = refl
  turned_none es (x ∷ xs) = cons_none (turned_entry (turns asker asked) es x) _ (turned_each x es) (turned_none es xs)

not_lost : {X : Type 0} (b : Bool) (rest : Result X AskFault) (r : X) → cond b (Err ask.Lost) rest ≡ Ok r → b ≡ false
not_lost true rest r h = absurd (cc)
not_lost false rest r h = refl

found_any : (b : Bool) → not b ≡ false → b ≡ true
found_any true h = refl
found_any false h = absurd (true≢false h)

-- the pair has an O entry that turns
some_turns : (es : List Entry) (asker : Asker) (a : Asked) (rest : List Asked) → is_lost es asker (a ∷ rest) ≡ false
    → list_any (turns_yet asker (a ∷ rest)) es ≡ true
some_turns es asker a rest here =
    let some = found_any (list_any (is_optimistic asker a) es) (or_parts _ _ here).0 in
    list_any-weaken (is_optimistic asker a) (turns_yet asker (a ∷ rest))
    (λ e h.
    let hs = and_parts (same_mode e.mode O) _ h in
    let ps = and_parts (in_pair asker e.owner) (same_place a (asked_of e)) hs.1 in
    and_from _ _ hs.0 (and_from _ _ ps.0 (or_left _ _ ps.1)))
    es some

lost_not : (es : List Entry) (asker : Asker) (asked : List Asked) (r : Conversion) → converted es asker asked ≡ Ok r → is_lost es asker asked ≡ false
unfolding converted
lost_not es asker asked r h = not_lost (is_lost es asker asked) _ r h

some_converted : (es : List Entry) (asker : Asker) (a : Asked) (rest : List Asked) (r : Conversion) → converted es asker (a ∷ rest) ≡ Ok r
    → r.entries ≡ es → ⊥
some_converted es asker a rest r h same =
    let asked = a ∷ rest in
    let is : filter (λ e. not (gives_way asker asked e)) (turned es (turns asker asked)) ≡ es =
    ap (λ (c : Conversion). c.entries) (converted_is es asker asked r h) ∙ same in
    let still : list_any (turns_yet asker asked) (filter (λ e. not (gives_way asker asked e)) (turned es (turns asker asked))) ≡ true =
    ap (list_any (turns_yet asker asked)) is ∙ some_turns es asker a rest (lost_not es asker asked r h) in
    true≢false (sym (list_any-filter (turns_yet asker asked) (λ e. not (gives_way asker asked e)) (turned es (turns asker asked)) still)
    ∙ turned_none asker asked es es)

none_gives_way : (asker : Asker) (es : List Entry) → filter (gives_way asker []) es ≡ []
none_gives_way asker [] = refl
none_gives_way asker (e ∷ es) =
    let off : gives_way asker [] e ≡ false =
    ap (λ b. not (in_pair asker e.owner) && b) (and_false (same_mode e.mode O)) ∙ and_false (not (in_pair asker e.owner)) in
    ap (λ b. cond b (e ∷ filter (gives_way asker []) es) (filter (gives_way asker []) es)) off ∙ none_gives_way asker es

pub converted_other : (es : List Entry) (asker : Asker) (asked : List Asked) (r : Conversion) → converted es asker asked ≡ Ok r
    → 1 ≤ length (flat_map (turn_ops asker) asked ++ map drop_of r.removed) → r.entries ≡ es → ⊥
converted_other es asker [] r h some same =
    let none : r.removed ≡ [] = sym (ap (λ (c : Conversion). c.removed) (converted_is es asker [] r h)) ∙ none_gives_way asker es in
    let nothing : length (map drop_of r.removed) ≡ 0 = ap (λ xs. length (map drop_of xs)) none in
    omega (arith, some, nothing)
converted_other es asker (a ∷ rest) r h some same = some_converted es asker a rest r h same
