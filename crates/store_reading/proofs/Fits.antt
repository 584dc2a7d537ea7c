-- A recorded unit is one that may be recorded.
use Rattle.std.proofs.Common.{◌≡◌, ℕ, ◌+◌, ◌^◌, ◌<◌, ◌≤◌, inl, inr, Bool, true, false, cond, ◌&&◌, nat_eq, nat_le, List, [], ◌∷◌, ◌++◌, map, length, if◌then◌else◌, refl, sym, ap, subst, ◌∙◌, arith}
use Rattle.std.specs.Prelude.{IsTrue}
use Rattle.std.specs.List.{All, AllByRecursion, filter, flat_map, list_all}
use Rattle.std.proofs.lemmas.Bool.{and_parts, leb-true}
use Rattle.std.proofs.lemmas.List.Elements.{All-from_recursion}
use Rattle.std.proofs.lemmas.List.Folds.{list_all-map}
use Rattle.enq_base.specs.Owners.{same_unit}
use Rattle.enq_base.specs.declared.owner.Owner.TheVariants.{Upd}
use Rattle.enq_base.specs.declared.owner.UnitKey.{UnitKey}
use Rattle.enq_base.specs.declared.unit.Effect.{Effect}
use Rattle.lock_entry.specs.Names.{all_pairs, name_of, names_differ}
use Rattle.lock_entry.specs.declared.entry.Entry.{Entry}
use Rattle.lock_entry.specs.declared.entry.LockName.{LockName}
use Rattle.update_records.specs.Grammar.{IsEffect, IsEntryOf, IsNumber, IsUnit}
use Rattle.enq_base.specs.Grammar.{is_name}
use Rattle.update_records.specs.Spelling.{IsRecord}
use Rattle.update_records.specs.declared.records.Unit.{Unit as UnitOfWork}
use Rattle.update_records.specs.declared.stored.Record.{Record}
use Rattle.update_records.specs.declared.stored.Record.TheVariants as rec
use Rattle.store_reading.specs.Posts.{effects_of}
use Rattle.store_reading.specs.Stores.{entry_in, user_at}
use Rattle.store_reading.specs.Units.{counts_at, differ, has_distinct_locks, has_few, has_parts, has_rows, is_counted, is_named_for, is_recorded, names_in}
use Rattle.store_reading.proofs.Heads.{Head, header_with}
use Rattle.store_reading.proofs.Places.{entry_at}
use Rattle.store_reading.proofs.Rising.{AreIn, In, in_all, table_of}
use Rattle.store_reading.proofs.UnitFacts.{AreWhole, recorded_head, unit_at_key, unit_read, unit_whole}
use Rattle.record_laws.proofs.Status.{one_unit}

effect_here : (b : Bool) (e : Effect) (rest : List Effect) → IsEffect e → AllByRecursion IsEffect rest
    → AllByRecursion IsEffect ((if b then e ∷ [] else []) ++ rest)
effect_here true e rest is all = (is, all)
effect_here false e rest is all = all

effects_fit : (key : UnitKey) (part : ℕ) (steps : List Record) → AreIn 3 steps → AllByRecursion IsEffect (effects_of steps key part)
effects_fit key part [] all = tt
effects_fit key part (rec.Step u p i e ∷ steps) all = effect_here (same_unit u key && nat_eq p part) e (effects_of steps key part) all.0.0.3
    (effects_fit key part steps all.1)
effects_fit key part (r ∷ steps) all = effects_fit key part steps all.1

entry_here : (b : Bool) (unit : UnitOfWork) (e : Entry) (rest : List Entry) → (b ≡ true → IsEntryOf unit e) → AllByRecursion (IsEntryOf unit) rest
    → AllByRecursion (IsEntryOf unit) ((if b then e ∷ [] else []) ++ rest)
entry_here true unit e rest is all = (is refl, all)
entry_here false unit e rest is all = all

entries_fit : (unit : UnitOfWork) (locks : List Record) → AreIn 7 locks → AllByRecursion (IsEntryOf unit) (flat_map (entry_in unit.user unit.key) locks)
entries_fit unit [] all = tt
entries_fit unit (rec.Lock u i table mode count pattern ∷ locks) all =
    let is : IsRecord (rec.Lock u i table mode count pattern) = all.0.0 in
    let bounds = is.4 in
    entry_here (same_unit u unit.key) unit (entry_at unit.user u table mode count pattern) (flat_map (entry_in unit.user unit.key) locks)
    (λ same. record {
      owner = ap Upd (one_unit u unit.key same);
      user = refl;
      table = is.2;
      pattern = is.5;
      mode = is.3;
      low = bounds.0;
      high = omega (arith, bounds.1);
      handed = refl;
    })
    (entries_fit unit locks all.1)
entries_fit unit (r ∷ locks) all = entries_fit unit locks all.1

-- ---- names

name_here : (b : Bool) (key u : UnitKey) (n : LockName) (e : Entry) (names : List LockName) (entries : List Entry) → name_of e ≡ n
    → filter (is_named_for key) names ≡ map name_of entries
    → cond b (n ∷ filter (is_named_for key) names) (filter (is_named_for key) names) ≡ map name_of ((if b then e ∷ [] else []) ++ entries)
name_here true key u n e names entries is same = ap (λ ns. n ∷ ns) same ∙ ap (λ x. x ∷ map name_of entries) (sym is)
name_here false key u n e names entries is same = same

names_are : (headers : List Record) (user : List ℕ) (key : UnitKey) (locks : List Record) → AreIn 7 locks
    → ((r : Record) → In locks r → is_counted headers r ≡ true)
    → filter (is_named_for key) (flat_map (names_in headers) locks) ≡ map name_of (flat_map (entry_in user key) locks)
names_are headers user key [] all counted = refl
names_are headers user key (rec.Lock u i table mode count pattern ∷ locks) all counted =
    let e = entry_at user u table mode count pattern in
    ap (λ b. filter (is_named_for key) ((if b then name_of e ∷ [] else []) ++ flat_map (names_in headers) locks))
    (counted (rec.Lock u i table mode count pattern) (inl refl))
    ∙ name_here (same_unit u key) key u (name_of e) e (flat_map (names_in headers) locks) (flat_map (entry_in user key) locks) refl
    (names_are headers user key locks all.1 (λ r h. counted r (inr h)))
names_are headers user key (r ∷ locks) all counted = let odd = all.0.1 in cc

pairs_map : (entries : List Entry) → all_pairs differ (map name_of entries) ≡ all_pairs names_differ entries
pairs_map [] = refl
pairs_map (e ∷ entries) =
    ap (λ b. b && all_pairs differ (map name_of entries)) (list_all-map (differ (name_of e)) name_of entries)
    ∙ ap (λ b. list_all (names_differ e) entries && b) (pairs_map entries)

-- ---- units

pub unit_fits : (t : ℕ → List Record) → AreWhole t → (key : UnitKey) → is_recorded (t 4) key ≡ true → IsUnit (unit_at_key t key)
unit_fits t w key known =
    let head = recorded_head t w key known in
    let h : Head = head.0 in
    let read = unit_read t w key head in
    let is = (in_all (λ r. IsRecord r × (table_of r ≡ 1)) (t 1) (header_with key h) w.of_headers head.1.there).0 in
    let parts = and_parts (has_few (counts_at (t 1) key)) _ (unit_whole t w key known) in
    let others = (and_parts (has_parts (t 2) (t 3) key (counts_at (t 1) key)) _ parts.1).1 in
    let apart = (and_parts (has_rows (t 7) key 0 (counts_at (t 1) key).locks) (has_distinct_locks (t 1) (t 7) key) others).1 in
    let few : (nat_le 1 (h.v1 + h.v2) && (nat_le (h.v1 + h.v2) 200 && nat_le (length h.numbers) 64)) ≡ true = ap has_few (sym head.1.counts) ∙ parts.0 in
    let a = and_parts (nat_le 1 (h.v1 + h.v2)) _ few in
    let b = and_parts (nat_le (h.v1 + h.v2) 200) (nat_le (length h.numbers) 64) a.1 in
    let low : 1 ≤ h.v1 + h.v2 = leb-true 1 (h.v1 + h.v2) a.0 in
    let high : h.v1 + h.v2 ≤ 200 = leb-true (h.v1 + h.v2) 200 b.0 in
    let numbers : length h.numbers ≤ 64 = leb-true (length h.numbers) 64 b.1 in
    let first : length (effects_of (t 3) key 1) ≡ h.v1 = read.first in
    let second : length (effects_of (t 3) key 2) ≡ h.v2 = read.second in
    let unit = unit_at_key t key in
    record {
      key = is.0;
      user = subst (λ u. IsTrue (is_name u)) (sym head.1.user) is.1;
      some = omega arith;
      few = omega arith;
      first = All-from_recursion IsEffect unit.parts.v1 (effects_fit key 1 (t 3) w.of_steps);
      second = All-from_recursion IsEffect unit.parts.v2 (effects_fit key 2 (t 3) w.of_steps);
      few_numbers = subst (λ ns. length ns ≤ 64) (sym head.1.numbers) numbers;
      numbers = subst (All IsNumber) (sym head.1.numbers) is.5.each;
      few_entries = subst (λ n. n < 2 ^ 32) (sym read.locks) is.4;
      entries = All-from_recursion (IsEntryOf unit) unit.entries (entries_fit unit (t 7) w.of_locks);
      distinct = sym (pairs_map unit.entries) ∙ ap (all_pairs differ) (sym (names_are (t 1) (user_at (t 1) key) key (t 7) w.of_locks w.locks)) ∙ apart;
    }
