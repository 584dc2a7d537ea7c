-- A good store breaks no rule on units.
use Rattle.std.proofs.Common.{◌≡◌, ℕ, ◌+◌, ◌≤◌, ◌<◌, ⊎_elim, Bool, true, false, cond, ◌&&◌, ◌||◌, nat_eq, nat_le, map, List, [], ◌∷◌, ◌++◌, length, Option}
use Rattle.std.proofs.Common.{Some, None, filter, flat_map, if◌then◌else◌, Contains, refl, sym, ap, subst, ◌∙◌, arith}
use Rattle.std.specs.List.{AllByRecursion, list_all, range_with_len}
use Rattle.std.specs.Option.{option_or}
use Rattle.std.proofs.lemmas.Bool.{and_from, eq-eqb, le-leb}
use Rattle.std.proofs.lemmas.List.Elements.{All-contains, filter-append, recursion_from_All}
use Rattle.enq_base.specs.Owners.{same_unit}
use Rattle.enq_base.specs.declared.owner.Owner.TheVariants.{Upd}
use Rattle.enq_base.specs.declared.owner.UnitKey.{UnitKey}
use Rattle.enq_base.specs.declared.unit.Effect.{Effect}
use Rattle.lock_entry.specs.Names.{all_pairs, asked_of, name_of, names_differ}
use Rattle.lock_entry.specs.declared.entry.Entry.{Entry}
use Rattle.lock_entry.specs.declared.entry.LockName.{LockName}
use Rattle.update_records.specs.Grammar.{IsEntryOf, IsKind}
use Rattle.update_records.specs.Ledger.{Ledger, IsLawful, IsMarkUnder, recorded}
use Rattle.update_records.specs.Marks.{is_rec}
use Rattle.update_records.specs.Spelling.{locks_of, part_of, records_of, steps_of}
use Rattle.update_records.specs.declared.records.Mark.{Mark}
use Rattle.update_records.specs.declared.records.MarkKind.{MarkKind}
use Rattle.update_records.specs.declared.records.MarkKind.TheVariants.{Num, Rec, V1, Bad1, Again1, V2, Bad2, Again2, Gone}
use Rattle.update_records.specs.declared.records.Unit.{Unit as UnitOfWork}
use Rattle.update_records.specs.declared.stored.Record.{Record}
use Rattle.update_records.specs.declared.stored.Record.TheVariants as rec
use Rattle.record_laws.proofs.Books.{is_unit_table}
use Rattle.store_reading.specs.First.{first_wrong, AreRight}
use Rattle.store_reading.specs.Rules.{marks_in}
use Rattle.store_reading.specs.Told.{records_in}
use Rattle.store_reading.specs.Units.{counts_at, differ, effects_in, has_distinct_locks, has_few, has_part, has_parts, has_row, has_rows, is_counted}
use Rattle.store_reading.specs.Units.{is_named_for, is_recorded_header, is_right_unit, is_row, is_whole, names_in, unit_fault}
use Rattle.store_reading.specs.declared.counts.Counts.{Counts}
use Rattle.store_reading.specs.declared.rules.Place.{Place}
use Rattle.store_reading.proofs.lemmas.BooksStand.{first_recorded, key_recorded, keys_after}
use Rattle.store_reading.proofs.lemmas.Elements.{contains_cases, contains_here, contains_map, contains_none, contains_there, of_map}
use Rattle.store_laws.proofs.GoodHeaders.{counts_are, counts_for, header_told}
use Rattle.store_laws.proofs.GoodRecords.{is_lock, lock_table, mark_table, same_part}
use Rattle.store_laws.proofs.GoodTables.{first_in, lock_is, locks_in, of_unit, second_in, side, step_is, table_in, told_unit, unit_cases, AreRecordsOf, HasPart}
use Rattle.store_laws.proofs.KeysApart.{keys_of}
use Rattle.store_laws.proofs.LedgerRecords.{mark_records, unit_law}
use Rattle.store_reading.proofs.lemmas.Legal.{none_wrong}
use Rattle.store_reading.proofs.lemmas.Shelved.{any_contained}

-- ---- rules of one record

-- where each record passes the test none is wrong
pub right_each : (test : Record → Bool) (before records : List Record) → ((r : Record) → Contains records r → test r ≡ true)
    → AreRight (λ before. test) before records
right_each test before [] h = tt
right_each test before (r ∷ records) h =
    (h r (contains_here r records), right_each test (before ++ r ∷ []) records (λ s at. h s (contains_there r records s at)))

pub no_place : (a b : Option Place) → a ≡ None → b ≡ None → option_or a b ≡ None
no_place None b none other = other
no_place (Some place) b none other = cc

pub none_breaks : (test : Record → Bool) (table : ℕ) (records : List Record) → ((r : Record) → Contains records r → test r ≡ true)
    → first_wrong (λ before. test) table [] records ≡ None
none_breaks test table records h = none_wrong (λ before. test) table [] records (right_each test [] records h)

-- ---- marks

pub marks_back : (marks : List Mark) → marks_in (mark_records marks) ≡ marks
marks_back [] = refl
marks_back (m ∷ marks) = ap (m ∷◌) (marks_back marks)

behind_key : (b : Bool) (unit key : UnitKey) (keys : List UnitKey) → Contains keys key → Contains (keys_after b unit keys) key
behind_key true unit key keys h = contains_there unit keys key h
behind_key false unit key keys h = h

first_key : (b : Bool) (key : UnitKey) (keys : List UnitKey) → b ≡ true → Contains (keys_after b key keys) key
first_key true key keys is = contains_here key keys
first_key false key keys is = cc

-- the unit of a mark that records it is one of the recorded
recorded_has : (marks : List Mark) (m : Mark) → Contains marks m → is_rec m.kind ≡ true → Contains (recorded marks) m.unit
recorded_has [] m h is = absurd (contains_none m h)
recorded_has (x ∷ marks) m h is =
    subst (λ keys. Contains keys m.unit) (sym (first_recorded x marks))
    (⊎_elim
    (λ e. subst (λ (y : Mark). Contains (keys_after (is_rec x.kind) x.unit (recorded marks)) y.unit) e
    (first_key (is_rec x.kind) x.unit (recorded marks) (ap (λ (y : Mark). is_rec y.kind) e ∙ is)))
    (λ there. behind_key (is_rec x.kind) x.unit m.unit (recorded marks) (recorded_has marks m there is))
    (contains_cases x marks m h))

right_kind : (headers modules steps locks : List Record) (seq : ℕ) (unit : UnitKey) (kind : MarkKind) → IsKind kind
    → (is_rec kind ≡ true → is_whole headers modules steps locks unit ≡ true)
    → is_right_unit headers modules steps locks (rec.Mark (record { seq = seq; unit = unit; kind = kind })) ≡ true
right_kind headers modules steps locks seq unit (Num numbers) is whole =
    and_from (nat_le 1 (length numbers)) (nat_le (length numbers) 64) (le-leb 1 (length numbers) is.0) (le-leb (length numbers) 64 is.1)
right_kind headers modules steps locks seq unit Rec is whole = whole refl
right_kind headers modules steps locks seq unit V1 is whole = refl
right_kind headers modules steps locks seq unit (Bad1 index reason) is whole = refl
right_kind headers modules steps locks seq unit Again1 is whole = refl
right_kind headers modules steps locks seq unit V2 is whole = refl
right_kind headers modules steps locks seq unit (Bad2 index reason) is whole = refl
right_kind headers modules steps locks seq unit Again2 is whole = refl
right_kind headers modules steps locks seq unit Gone is whole = refl

-- ---- rows of a part and of locks

same_place : (key : UnitKey) (part n : ℕ) → ((same_unit key key && nat_eq part part) && nat_eq n n) ≡ true
same_place key part n = and_from (same_unit key key && nat_eq part part) (nat_eq n n) (same_part key part) (eq-eqb n n refl)

steps_there : (steps : List Record) (key : UnitKey) (part index : ℕ) (effects : List Effect)
    → ((r : Record) → Contains (steps_of key part index effects) r → Contains steps r)
    → list_all (has_row steps key part) (range_with_len index (length effects)) ≡ true
steps_there steps key part index [] h = refl
steps_there steps key part index (e ∷ effects) h =
    let r = rec.Step key part index e in
    and_from (has_row steps key part index) (list_all (has_row steps key part) (range_with_len (index + 1) (length effects)))
    (any_contained (is_row key part index) steps r (same_place key part index) (h r (contains_here r (steps_of key part (index + 1) effects))))
    (steps_there steps key part (index + 1) effects (λ s at. h s (contains_there r (steps_of key part (index + 1) effects) s at)))

locks_there : (locks : List Record) (key : UnitKey) (index : ℕ) (entries : List Entry)
    → ((r : Record) → Contains (locks_of key index entries) r → Contains locks r)
    → list_all (has_row locks key 0) (range_with_len index (length entries)) ≡ true
locks_there locks key index [] h = refl
locks_there locks key index (e ∷ entries) h =
    let r = rec.Lock key index e.table e.mode e.count e.pattern in
    and_from (has_row locks key 0 index) (list_all (has_row locks key 0) (range_with_len (index + 1) (length entries)))
    (any_contained (is_row key 0 index) locks r (same_place key 0 index) (h r (contains_here r (locks_of key (index + 1) entries))))
    (locks_there locks key (index + 1) entries (λ s at. h s (contains_there r (locks_of key (index + 1) entries) s at)))

some_rows : (a b : Bool) → b ≡ true → (a || b) ≡ true
some_rows true b h = refl
some_rows false b h = h

part_there : (modules steps : List Record) (key : UnitKey) (part : ℕ) (effects : List Effect)
    → ((r : Record) → Contains (part_of key part effects) r → table_in r ≡ 2 → Contains modules r)
    → ((r : Record) → Contains (part_of key part effects) r → table_in r ≡ 3 → Contains steps r) → has_part modules steps key part (length effects) ≡ true
part_there modules steps key part [] in_modules in_steps = refl
part_there modules steps key part (e ∷ effects) in_modules in_steps =
    let n = length (e ∷ effects) in
    let r = rec.Module key part n in
    let rest = steps_of key part 1 (e ∷ effects) in
    some_rows (nat_eq n 0) (has_row modules key part n && has_rows steps key part n)
    (and_from (has_row modules key part n) (has_rows steps key part n)
    (any_contained (is_row key part n) modules r (same_place key part n) (in_modules r (contains_here r rest) refl))
    (steps_there steps key part 1 (e ∷ effects)
    (λ s at. let step = step_is key part 1 (e ∷ effects) s at in in_steps s (contains_there r rest s at) (ap table_in (sym step.is)))))

-- ---- names of locks

named_one : (b c : Bool) (key : UnitKey) (name : LockName) → is_named_for key name ≡ c
    → filter (is_named_for key) (if b then name ∷ [] else []) ≡ (if c then (if b then name ∷ [] else []) else [])
named_one true true key name is = ap (λ t. cond t (name ∷ []) []) is
named_one true false key name is = ap (λ t. cond t (name ∷ []) []) is
named_one false true key name is = refl
named_one false false key name is = refl

named_rest : (headers : List Record) (c : Bool) (r : Record) (locks : List Record)
    → (if c then names_in headers r else []) ++ flat_map (names_in headers) locks ≡ flat_map (names_in headers) (cond c (r ∷ locks) locks)
named_rest headers true r locks = refl
named_rest headers false r locks = refl

abbrev names_of : List Record → List Record → List LockName
names_of headers locks = flat_map (names_in headers) locks

-- the names of a unit are those of its locks
names_kept : (headers : List Record) (key : UnitKey) (locks : List Record)
    → filter (is_named_for key) (names_of headers locks) ≡ names_of headers (filter (is_lock key) locks)
names_kept headers key [] = refl
names_kept headers key (rec.Lock u index table mode count pattern ∷ locks) =
    let r = rec.Lock u index table mode count pattern in
    let name : LockName = record { owner = Upd u; asked = record { table = table; pattern = pattern; mode = mode } } in
    filter-append (is_named_for key) (names_in headers r) (names_of headers locks)
    ∙ ap (λ (ns : List LockName). ns ++ filter (is_named_for key) (names_of headers locks)) (named_one (is_counted headers r) (same_unit u key) key name refl)
    ∙ ap (λ (ns : List LockName). (if same_unit u key then names_in headers r else []) ++ ns) (names_kept headers key locks)
    ∙ named_rest headers (same_unit u key) r (filter (is_lock key) locks)
names_kept headers key (rec.Meta s n ∷ locks) = names_kept headers key locks
names_kept headers key (rec.Header u user v1 v2 count numbers ∷ locks) = names_kept headers key locks
names_kept headers key (rec.Module u part count ∷ locks) = names_kept headers key locks
names_kept headers key (rec.Step u part index effect ∷ locks) = names_kept headers key locks
names_kept headers key (rec.Mark m ∷ locks) = names_kept headers key locks
names_kept headers key (rec.Level object nr from to level buffered ∷ locks) = names_kept headers key locks
names_kept headers key (rec.Business table k text ∷ locks) = names_kept headers key locks

lock_names : (headers : List Record) (unit : UnitOfWork) (index : ℕ) (entries : List Entry) → AllByRecursion (IsEntryOf unit) entries
    → ((i : ℕ) → i < index + length entries → nat_le i (counts_at headers unit.key).locks ≡ true)
    → names_of headers (locks_of unit.key index entries) ≡ map name_of entries
lock_names headers unit index [] are counted = refl
lock_names headers unit index (e ∷ entries) are counted =
    let name : LockName = record { owner = Upd unit.key; asked = asked_of e } in
    ap (λ b. (if b then name ∷ [] else []) ++ names_of headers (locks_of unit.key (index + 1) entries)) (counted index (omega arith))
    ∙ ap (name ∷◌) (lock_names headers unit (index + 1) entries are.1 (λ i low. counted i (omega arith)))
    ∙ ap (λ owner. record { owner = owner; asked = asked_of e } ∷ map name_of entries) (sym are.0.owner)

all_named : (e : Entry) (entries : List Entry) → list_all (differ (name_of e)) (map name_of entries) ≡ list_all (names_differ e) entries
all_named e [] = refl
all_named e (x ∷ entries) = ap (λ b. names_differ e x && b) (all_named e entries)

pairs_named : (entries : List Entry) → all_pairs differ (map name_of entries) ≡ all_pairs names_differ entries
pairs_named [] = refl
pairs_named (e ∷ entries) = ap (λ b. b && all_pairs differ (map name_of entries)) (all_named e entries)
    ∙ ap (λ b. list_all (names_differ e) entries && b) (pairs_named entries)

-- ---- the rule

side_length : (unit : UnitOfWork) (part : ℕ) → effects_in (counts_for unit) part ≡ length (side part unit)
side_length unit part =
    elim (nat_eq part 1) as (λ b. (if b then length unit.parts.v1 else length unit.parts.v2) ≡ length (if b then unit.parts.v1 else unit.parts.v2))
    [ true ↦ refl | false ↦ refl ]

module _ (records : List (List Record)) (ledger : Ledger) (law : IsLawful ledger) (are : AreRecordsOf records ledger) where
  few_of : (unit : UnitOfWork) → Contains ledger.units unit → has_few (counts_for unit) ≡ true
  few_of unit h =
      let is = unit_law ledger law unit h in
      let n = length unit.parts.v1 + length unit.parts.v2 in
      and_from (nat_le 1 n) (nat_le n 200 && nat_le (length unit.numbers) 64) (le-leb 1 n is.some)
      (and_from (nat_le n 200) (nat_le (length unit.numbers) 64) (le-leb n 200 is.few) (le-leb (length unit.numbers) 64 is.few_numbers))

  stands_at : (unit : UnitOfWork) (r : Record) (n : ℕ) → Contains ledger.units unit → Contains (records_of unit) r → table_in r ≡ n
      → Contains (records_in records n) r
  stands_at unit r n in_units h table = subst (λ k. Contains (records_in records k) r) table (are.there r (told_unit ledger unit r in_units h))

  part_stands : (unit : UnitOfWork) (part : ℕ) → Contains ledger.units unit → HasPart unit part
      → has_part (records_in records 2) (records_in records 3) unit.key part (length (side part unit)) ≡ true
  part_stands unit part h has =
      part_there (records_in records 2) (records_in records 3) unit.key part (side part unit)
      (λ r at table. stands_at unit r 2 h (has r at) table)
      (λ r at table. stands_at unit r 3 h (has r at) table)

  locks_stand : (unit : UnitOfWork) → Contains ledger.units unit → has_rows (records_in records 7) unit.key 0 (length unit.entries) ≡ true
  locks_stand unit h =
      locks_there (records_in records 7) unit.key 1 unit.entries
      (λ r at. let l = lock_is unit.key 1 unit.entries r at in stands_at unit r 7 h (locks_in unit r at) (ap table_in (sym l.is)))

  distinct_locks : (unit : UnitOfWork) → Contains ledger.units unit → has_distinct_locks (records_in records 1) (records_in records 7) unit.key ≡ true
  distinct_locks unit h =
      let is = unit_law ledger law unit h in
      ap (all_pairs differ) (
      names_kept (records_in records 1) unit.key (records_in records 7)
      ∙ ap (names_of (records_in records 1)) (lock_table records ledger law are unit h)
      ∙ lock_names (records_in records 1) unit 1 unit.entries (recursion_from_All (IsEntryOf unit) unit.entries is.entries)
      (λ i low. ap (λ (c : Counts). nat_le i c.locks) (counts_are records ledger law are unit h) ∙ le-leb i (length unit.entries) (omega arith)))
      ∙ pairs_named unit.entries
      ∙ is.distinct

  -- each unit has all rows that its header counts
  whole_unit : (unit : UnitOfWork) → Contains ledger.units unit → is_whole (records_in records 1) (records_in records 2) (records_in records 3)
      (records_in records 7) unit.key ≡ true
  whole_unit unit h =
      let modules = records_in records 2 in
      let steps = records_in records 3 in
      let locks = records_in records 7 in
      let distinct = has_distinct_locks (records_in records 1) locks unit.key in
      let c = counts_for unit in
      ap (λ (c : Counts). has_few c && (has_parts modules steps unit.key c && (has_rows locks unit.key 0 c.locks && distinct)))
      (counts_are records ledger law are unit h)
      ∙ and_from (has_few c) (has_parts modules steps unit.key c && (has_rows locks unit.key 0 c.locks && distinct)) (few_of unit h)
      (and_from (has_parts modules steps unit.key c) (has_rows locks unit.key 0 c.locks && distinct)
      (and_from (has_part modules steps unit.key 1 c.v1) (has_part modules steps unit.key 2 c.v2) (part_stands unit 1 h (first_in unit))
      (part_stands unit 2 h (second_in unit)))
      (and_from (has_rows locks unit.key 0 c.locks) distinct (locks_stand unit h) (distinct_locks unit h)))

  right_mark : (r : Record) → Contains (records_in records 4) r → is_right_unit (records_in records 1) (records_in records 2) (records_in records 3)
      (records_in records 7) r ≡ true
  right_mark r h =
      let headers = records_in records 1 in
      let modules = records_in records 2 in
      let steps = records_in records 3 in
      let locks = records_in records 7 in
      let at = of_map (λ (m : Mark). rec.Mark m) ledger.marks r (subst (λ (rs : List Record). Contains rs r) (mark_table records ledger law are) h) in
      let m = at.0 in
      let under = All-contains (IsMarkUnder ledger.start) ledger.marks m law.marks at.1 in
      subst (λ x. is_right_unit headers modules steps locks x ≡ true) at.2
      (right_kind headers modules steps locks m.seq m.unit m.kind under.kind (λ is.
      let key = of_map (λ (u : UnitOfWork). u.key) ledger.units m.unit
      (subst (λ keys. Contains keys m.unit) (sym law.recorded) (recorded_has ledger.marks m at.1 is)) in
      subst (λ k. is_whole headers modules steps locks k ≡ true) key.2 (whole_unit key.0 key.1)))

  right_header : (r : Record) → Contains (records_in records 1) r → is_recorded_header (records_in records 4) r ≡ true
  right_header r h =
      let at = header_told records ledger law are r h in
      let unit = at.0 in
      let marks : marks_in (records_in records 4) ≡ ledger.marks = ap marks_in (mark_table records ledger law are) ∙ marks_back ledger.marks in
      let key : Contains (keys_of ledger.units) unit.key = contains_map (λ (u : UnitOfWork). u.key) ledger.units unit at.1 in
      let there : Contains (recorded (marks_in (records_in records 4))) unit.key =
      subst (λ keys. Contains keys unit.key) (law.recorded ∙ ap recorded (sym marks)) key in
      subst (λ x. is_recorded_header (records_in records 4) x ≡ true) at.2 (key_recorded (records_in records 4) unit.key there)

  counted_by : (unit : UnitOfWork) (f : Counts → ℕ) (i : ℕ) → Contains ledger.units unit → i ≤ f (counts_for unit)
      → nat_le i (f (counts_at (records_in records 1) unit.key)) ≡ true
  counted_by unit f i h low = ap (λ (c : Counts). nat_le i (f c)) (counts_are records ledger law are unit h) ∙ le-leb i (f (counts_for unit)) low

  -- each row of a unit is one that its header counts
  right_row : (table : ℕ) → table < 8 → is_unit_table table ≡ true → (1 ≡ table → ⊥) → (r : Record) → Contains (records_in records table) r
      → is_counted (records_in records 1) r ≡ true
  right_row table low units other r h =
      let headers = records_in records 1 in
      let here = are.table table low r h in
      let at = of_unit ledger r table (are.told table low r h) here units in
      let unit = at.0 in
      unit_cases unit r (is_counted headers r ≡ true) at.2
      (λ same. absurd (other (ap table_in same ∙ here)))
      (λ part some same. subst (λ x. is_counted headers x ≡ true) same
      (counted_by unit (λ (c : Counts). effects_in c part) 1 at.1 (subst (λ n. 1 ≤ n) (sym (side_length unit part)) some)))
      (λ part steps.
      let s = step_is unit.key part 1 (side part unit) r steps in
      let high = s.high in
      let within : s.at ≤ length (side part unit) = omega arith in
      subst (λ x. is_counted headers x ≡ true) s.is
      (counted_by unit (λ (c : Counts). effects_in c part) s.at at.1 (subst (λ n. s.at ≤ n) (sym (side_length unit part)) within)))
      (λ locks.
      let l = lock_is unit.key 1 unit.entries r locks in
      let high = l.high in
      subst (λ x. is_counted headers x ≡ true) l.is (counted_by unit (λ (c : Counts). c.locks) l.at at.1 (omega arith)))

  pub units_right : unit_fault (records_in records 1) (records_in records 2) (records_in records 3) (records_in records 4) (records_in records 7) ≡ None
  units_right =
      let headers = records_in records 1 in
      no_place _ _
      (no_place _ _
      (no_place _ _
      (no_place _ _
      (none_breaks (is_right_unit headers (records_in records 2) (records_in records 3) (records_in records 7)) 4 (records_in records 4) right_mark)
      (none_breaks (is_recorded_header (records_in records 4)) 1 headers right_header))
      (none_breaks (is_counted headers) 2 (records_in records 2) (right_row 2 (omega arith) refl (λ e. cc))))
      (none_breaks (is_counted headers) 3 (records_in records 3) (right_row 3 (omega arith) refl (λ e. cc))))
      (none_breaks (is_counted headers) 7 (records_in records 7) (right_row 7 (omega arith) refl (λ e. cc)))
