-- Records whose units are right have exactly the rows of the recorded units.
use Rattle.std.proofs.Common.{◌≡◌, ℕ, zero, suc, ◌≤◌, ◌⊎◌, inl, inr, Bool, true, false, cond, ◌&&◌, ◌||◌, nat_eq, List, [], ◌∷◌, ◌++◌, map, length}
use Rattle.std.proofs.Common.{if◌then◌else◌, Some, None, refl, sym, ap, subst, ◌∙◌, arith}
use Rattle.std.specs.List.{filter, flat_map, list_any}
use Rattle.std.specs.Option.{option_map_or}
use Rattle.std.proofs.lemmas.Bool.{and_from, and_parts, eqb-true, eq-eqb, leb-true, or_cases}
use Rattle.enq_base.specs.Owners.{same_unit}
use Rattle.enq_base.specs.declared.owner.UnitKey.{UnitKey}
use Rattle.enq_base.specs.declared.unit.Effect.{Effect}
use Rattle.lock_entry.specs.declared.entry.Entry.{Entry}
use Rattle.update_records.specs.Ledger.{recorded}
use Rattle.update_records.specs.Marks.{is_rec, unit_at, v1_of, v2_of}
use Rattle.update_records.specs.Spelling.{IsPart, IsRecord, header_of, locks_of, part_of, records_of, steps_of}
use Rattle.update_records.specs.declared.records.Mark.{Mark}
use Rattle.update_records.specs.declared.records.MarkKind.{MarkKind}
use Rattle.update_records.specs.declared.records.MarkKind.TheVariants.{Rec}
use Rattle.update_records.specs.declared.records.Unit.{Unit as UnitOfWork}
use Rattle.update_records.specs.declared.stored.Record.{Record}
use Rattle.update_records.specs.declared.stored.Record.TheVariants as rec
use Rattle.record_laws.proofs.Status.{one_unit, unit_refl}
use Rattle.store_reading.specs.Posts.{effects_of}
use Rattle.store_reading.specs.Rules.{marks_in}
use Rattle.store_reading.specs.Stores.{entry_in, unit_in, user_at}
use Rattle.store_reading.specs.Units.{counts_at, effects_in, has_few, has_part, has_parts, has_row, has_rows, is_counted, is_recorded, is_recorded_header}
use Rattle.store_reading.specs.Units.{is_right_unit, is_row, is_whole, no_counts, records_unit}
use Rattle.store_reading.specs.declared.counts.Counts.{Counts}
use Rattle.store_reading.proofs.Heads.{Head, HasHead, IsBare, IsHeaded, counted, head_or_none, headed, header_with}
use Rattle.store_reading.proofs.Places.{is_own, locks_are, own_rows, place_of, run_own, steps_are}
use Rattle.store_reading.proofs.Rising.{AreIn, In, Rise, any_in, filter_in, in_all, in_either, in_filter, in_left, in_right, one_record, table_of}

-- what is known of the records of each table where no rule on units is broken
pub record AreWhole (t : ℕ → List Record) : Type 0 where
  pub of_headers : AreIn 1 (t 1)
  pub of_modules : AreIn 2 (t 2)
  pub of_steps : AreIn 3 (t 3)
  pub of_marks : AreIn 4 (t 4)
  pub of_locks : AreIn 7 (t 7)
  pub rise_headers : Rise (t 1)
  pub rise_modules : Rise (t 2)
  pub rise_steps : Rise (t 3)
  pub rise_locks : Rise (t 7)
  pub whole : (r : Record) → In (t 4) r → is_right_unit (t 1) (t 2) (t 3) (t 7) r ≡ true
  pub known : (r : Record) → In (t 1) r → is_recorded_header (t 4) r ≡ true
  pub modules : (r : Record) → In (t 2) r → is_counted (t 1) r ≡ true
  pub steps : (r : Record) → In (t 3) r → is_counted (t 1) r ≡ true
  pub locks : (r : Record) → In (t 7) r → is_counted (t 1) r ≡ true

-- ---- recorded units

whole_of : (headers modules steps locks : List Record) (m : Mark) (kind : MarkKind) → m.kind ≡ kind → is_rec kind ≡ true
    → is_right_unit headers modules steps locks (rec.Mark m) ≡ true → is_whole headers modules steps locks m.unit ≡ true
whole_of headers modules steps locks m Rec is recs right =
    ap (λ (k : MarkKind). is_right_unit headers modules steps locks (rec.Mark (record m { kind = k }))) (sym is) ∙ right
whole_of headers modules steps locks m kind is recs right = let odd : false ≡ true = recs in cc

whole_mark : (headers modules steps locks : List Record) (key : UnitKey) (r : Record) → records_unit key r ≡ true
    → is_right_unit headers modules steps locks r ≡ true
    → is_whole headers modules steps locks key ≡ true
whole_mark headers modules steps locks key (rec.Mark m) is right =
    let both = and_parts (is_rec m.kind) (same_unit m.unit key) is in
    subst (λ k. is_whole headers modules steps locks k ≡ true) (one_unit m.unit key both.1) (whole_of headers modules steps locks m m.kind refl both.0 right)
whole_mark headers modules steps locks key r is right = let odd : false ≡ true = is in cc

pub unit_whole : (t : ℕ → List Record) → AreWhole t → (key : UnitKey) → is_recorded (t 4) key ≡ true → is_whole (t 1) (t 2) (t 3) (t 7) key ≡ true
unit_whole t w key h =
    let found = any_in (records_unit key) (t 4) h in
    whole_mark (t 1) (t 2) (t 3) (t 7) key found.0 found.2 (w.whole found.0 found.1)

pub head_recorded : (t : ℕ → List Record) → AreWhole t → (key : UnitKey) → HasHead (t 1) key → is_recorded (t 4) key ≡ true
head_recorded t w key head = w.known (header_with key head.0) head.1.there

pub recorded_head : (t : ℕ → List Record) → AreWhole t → (key : UnitKey) → is_recorded (t 4) key ≡ true → HasHead (t 1) key
recorded_head t w key h = elim (head_or_none (t 1) key w.rise_headers) as (λ _. HasHead (t 1) key) [
  | inl head ↦ head
  | inr bare ↦
      let few = (and_parts (has_few (counts_at (t 1) key)) _ (unit_whole t w key h)).0 in
      let odd : false ≡ true = ap has_few (sym bare.counts) ∙ few in cc
]

-- ---- parts and locks

pub record Stand (t : ℕ → List Record) (key : UnitKey) (counts : Counts) : Type 0 where
  pub parts : has_parts (t 2) (t 3) key counts ≡ true
  pub locks : has_rows (t 7) key 0 counts.locks ≡ true

pub rows_stand : (t : ℕ → List Record) → AreWhole t → (key : UnitKey) → Stand t key (counts_at (t 1) key)
rows_stand t w key = elim (head_or_none (t 1) key w.rise_headers) as (λ _. Stand t key (counts_at (t 1) key)) [
  | inl head ↦
      let whole = (and_parts (has_few (counts_at (t 1) key)) _ (unit_whole t w key (head_recorded t w key head))).1 in
      let both = and_parts (has_parts (t 2) (t 3) key (counts_at (t 1) key)) _ whole in
      record { parts = both.0; locks = (and_parts (has_rows (t 7) key 0 (counts_at (t 1) key).locks) _ both.1).0 }
  | inr bare ↦ subst (Stand t key) (sym bare.counts) (record { parts = refl; locks = refl })
]

pub cases_part : (part : ℕ) → IsPart part → (part ≡ 1) ⊎ (part ≡ 2)
cases_part part is = elim (nat_eq part 1) as (λ b. nat_eq part 1 ≡ b → (part ≡ 1) ⊎ (part ≡ 2)) [
  | true ↦ λ e. inl (eqb-true part 1 e)
  | false ↦ λ e. inr
      (elim (nat_eq part 2) as (λ b. nat_eq part 2 ≡ b → part ≡ 2) [ true ↦ λ f. eqb-true part 2 f | false ↦ λ f. absurd (neither part is e f) ] refl)
] refl
  where
    neither : (part : ℕ) → IsPart part → nat_eq part 1 ≡ false → nat_eq part 2 ≡ false → ⊥
    neither zero is e f = omega arith
    neither (suc zero) is e f = let odd : true ≡ false = e in cc
    neither (suc (suc zero)) is e f = let odd : true ≡ false = f in cc
    neither (suc (suc (suc n))) is e f = omega arith

pub part_stands : (t : ℕ → List Record) → AreWhole t → (key : UnitKey) (part : ℕ) → IsPart part
    → has_part (t 2) (t 3) key part (effects_in (counts_at (t 1) key) part) ≡ true
part_stands t w key part is =
    let both = and_parts (has_part (t 2) (t 3) key 1 (counts_at (t 1) key).v1) _ (rows_stand t w key).parts in
    elim (cases_part part is) as (λ _. has_part (t 2) (t 3) key part (effects_in (counts_at (t 1) key) part) ≡ true) [
      | inl e ↦ subst (λ p. has_part (t 2) (t 3) key p (effects_in (counts_at (t 1) key) p) ≡ true) (sym e) both.0
      | inr e ↦ subst (λ p. has_part (t 2) (t 3) key p (effects_in (counts_at (t 1) key) p) ≡ true) (sym e) both.1
    ]

part_rows : (modules steps : List Record) (key : UnitKey) (part n : ℕ) → has_part modules steps key part n ≡ true → has_rows steps key part n ≡ true
part_rows modules steps key part n h =
    elim (or_cases (nat_eq n 0) (has_row modules key part n && has_rows steps key part n) h) as (λ _. has_rows steps key part n ≡ true) [
      | inl e ↦ subst (λ k. has_rows steps key part k ≡ true) (sym (eqb-true n 0 e)) refl
      | inr e ↦ (and_parts (has_row modules key part n) (has_rows steps key part n) e).1
    ]

part_module : (modules steps : List Record) (key : UnitKey) (part n : ℕ) → 1 ≤ n → has_part modules steps key part n ≡ true → has_row modules key part n ≡ true
part_module modules steps key part n low h =
    elim (or_cases (nat_eq n 0) (has_row modules key part n && has_rows steps key part n) h) as (λ _. has_row modules key part n ≡ true) [
      | inl e ↦ let none = eqb-true n 0 e in absurd (omega arith)
      | inr e ↦ (and_parts (has_row modules key part n) (has_rows steps key part n) e).0
    ]

step_within : (headers : List Record) (key : UnitKey) (part : ℕ) (r : Record) → IsRecord r → table_of r ≡ 3 → is_own key part r ≡ true
    → is_counted headers r ≡ true
    → (1 ≤ place_of r) × (place_of r ≤ effects_in (counts_at headers key) part)
step_within headers key part (rec.Step u p i e) is table own counted =
    let both = and_parts (same_unit u key) (nat_eq p part) own in
    let high : i ≤ effects_in (counts_at headers u) p = leb-true i (effects_in (counts_at headers u) p) counted in (
      is.2.0,
      subst (λ n. i ≤ effects_in (counts_at headers key) n) (eqb-true p part both.1)
          (subst (λ k. i ≤ effects_in (counts_at headers k) p) (one_unit u key both.0) high),
    )
step_within headers key part r is table own counted = cc

lock_within : (headers : List Record) (key : UnitKey) (r : Record) → IsRecord r → table_of r ≡ 7 → is_own key 0 r ≡ true → is_counted headers r ≡ true
    → (1 ≤ place_of r) × (place_of r ≤ (counts_at headers key).locks)
lock_within headers key (rec.Lock u i table mode count pattern) is at own counted =
    let both = and_parts (same_unit u key) (nat_eq 0 0) own in
    let high : i ≤ (counts_at headers u).locks = leb-true i (counts_at headers u).locks counted in
    (is.1.0, subst (λ k. i ≤ (counts_at headers k).locks) (one_unit u key both.0) high)
lock_within headers key r is at own counted = cc

abbrev InGrammar : ℕ → Record → Type 0
InGrammar table r = IsRecord r × (table_of r ≡ table)

-- the effects of a part are those of its rows, of which there are as many as the header counts
pub record IsPartRead (t : ℕ → List Record) (key : UnitKey) (part : ℕ) : Type 0 where
  pub rows : own_rows key part (t 3) ≡ steps_of key part 1 (effects_of (t 3) key part)
  pub many : length (effects_of (t 3) key part) ≡ effects_in (counts_at (t 1) key) part

pub part_read : (t : ℕ → List Record) → AreWhole t → (key : UnitKey) (part : ℕ) → IsPart part → IsPartRead t key part
part_read t w key part is =
    let n = effects_in (counts_at (t 1) key) part in
    let run = run_own key part 3 (t 3) n (λ e. cc) w.of_steps w.rise_steps
    (λ r h own. let here = in_all (InGrammar 3) (t 3) r w.of_steps h in step_within (t 1) key part r here.0 here.1 own (w.steps r h))
    (part_rows (t 2) (t 3) key part n (part_stands t w key part is)) in
    let are = steps_are key part (t 3) 1 n w.of_steps run in
    record { rows = are.0; many = are.1 }

abbrev pub entries_of : (t : ℕ → List Record) → UnitKey → List Entry
entries_of t key = flat_map (entry_in (user_at (t 1) key) key) (t 7)

pub record AreLocksRead (t : ℕ → List Record) (key : UnitKey) : Type 0 where
  pub rows : own_rows key 0 (t 7) ≡ locks_of key 1 (entries_of t key)
  pub many : length (entries_of t key) ≡ (counts_at (t 1) key).locks

pub locks_read : (t : ℕ → List Record) → AreWhole t → (key : UnitKey) → AreLocksRead t key
locks_read t w key =
    let n = (counts_at (t 1) key).locks in
    let run = run_own key 0 7 (t 7) n (λ e. cc) w.of_locks w.rise_locks
    (λ r h own. let here = in_all (InGrammar 7) (t 7) r w.of_locks h in lock_within (t 1) key r here.0 here.1 own (w.locks r h))
    (rows_stand t w key).locks in
    let are = locks_are (user_at (t 1) key) key (t 7) 1 n w.of_locks run in
    record { rows = are.0; many = are.1 }

module_is : (key : UnitKey) (part n : ℕ) (r : Record) → table_of r ≡ 2 → is_row key part n r ≡ true → r ≡ rec.Module key part n
module_is key part n (rec.Module u p count) table is =
    let both = and_parts (same_unit u key && nat_eq p part) (nat_eq count n) is in
    let own = and_parts (same_unit u key) (nat_eq p part) both.0 in
    let unit : u ≡ key = one_unit u key own.0 in
    let one : p ≡ part = eqb-true p part own.1 in
    let many : count ≡ n = eqb-true count n both.1 in
    cc
module_is key part n r table is = cc

-- the module row of a part with effects
pub module_there : (t : ℕ → List Record) → AreWhole t → (key : UnitKey) (part : ℕ) → IsPart part → 1 ≤ effects_in (counts_at (t 1) key) part
    → In (t 2) (rec.Module key part (effects_in (counts_at (t 1) key) part))
module_there t w key part is low =
    let n = effects_in (counts_at (t 1) key) part in
    let found = any_in (is_row key part n) (t 2) (part_module (t 2) (t 3) key part n low (part_stands t w key part is)) in
    let here = in_all (InGrammar 2) (t 2) found.0 w.of_modules found.1 in
    subst (In (t 2)) (module_is key part n found.0 here.1 found.2) found.1

-- ---- every row of a recorded unit stands

abbrev pub unit_at_key : (t : ℕ → List Record) → UnitKey → UnitOfWork
unit_at_key t key = unit_in (t 1) (t 3) (t 7) key

pub one_is_part : IsPart 1
one_is_part = (omega arith, omega arith)

pub two_is_part : IsPart 2
two_is_part = (omega arith, omega arith)

-- what is known of a recorded unit: what its header tells is what its rows are
pub record IsRead (t : ℕ → List Record) (key : UnitKey) (head : Head) : Type 0 where
  pub headed : IsHeaded (t 1) key head
  pub first : length (effects_of (t 3) key 1) ≡ head.v1
  pub second : length (effects_of (t 3) key 2) ≡ head.v2
  pub locks : length (entries_of t key) ≡ head.locks

pub unit_read : (t : ℕ → List Record) → AreWhole t → (key : UnitKey) (head : HasHead (t 1) key) → IsRead t key head.0
unit_read t w key head = record {
  headed = head.1;
  first = (part_read t w key 1 one_is_part).many ∙ ap (λ (c : Counts). c.v1) head.1.counts;
  second = (part_read t w key 2 two_is_part).many ∙ ap (λ (c : Counts). c.v2) head.1.counts;
  locks = (locks_read t w key).many ∙ ap (λ (c : Counts). c.locks) head.1.counts;
}

pub header_is : (t : ℕ → List Record) (key : UnitKey) (head : Head) → IsRead t key head → header_of (unit_at_key t key) ≡ header_with key head
header_is t key head read = λ i. rec.Header key (read.headed.user i) (read.first i) (read.second i) (read.locks i) (read.headed.numbers i)

abbrev IsThere : (t : ℕ → List Record) → Record → Type 0
IsThere t r = In (t (table_of r)) r

there_at : (t : ℕ → List Record) (table : ℕ) (r : Record) → AreIn table (t table) → In (t table) r → IsThere t r
there_at t table r all h = let here = in_all (InGrammar table) (t table) r all h in subst (λ n. In (t n) r) (sym here.1) h

part_there : (t : ℕ → List Record) → AreWhole t → (key : UnitKey) (part : ℕ) → IsPart part → (effects : List Effect) → effects_of (t 3) key part ≡ effects
    → (r : Record) → In (part_of key part effects) r → IsThere t r
part_there t w key part is [] same r h = absurd h
part_there t w key part is (e ∷ es) same r (inl at) =
    let read = part_read t w key part is in
    let many : effects_in (counts_at (t 1) key) part ≡ length (e ∷ es) = sym read.many ∙ ap length same in
    let low : 1 ≤ effects_in (counts_at (t 1) key) part = omega arith in
    subst (IsThere t) at (subst (λ n. In (t 2) (rec.Module key part n)) many (module_there t w key part is low))
part_there t w key part is (e ∷ es) same r (inr h) =
    let read = part_read t w key part is in
    let own : In (own_rows key part (t 3)) r = subst (λ xs. In xs r) (sym (read.rows ∙ ap (steps_of key part 1) same)) h in
    there_at t 3 r w.of_steps (filter_in (is_own key part) (t 3) r own).0

pub unit_there : (t : ℕ → List Record) → AreWhole t → (key : UnitKey) → is_recorded (t 4) key ≡ true → (r : Record) → In (records_of (unit_at_key t key)) r
    → IsThere t r
unit_there t w key h r (inl at) =
    let head = recorded_head t w key h in
    subst (IsThere t) (sym (header_is t key head.0 (unit_read t w key head)) ∙ at) head.1.there
unit_there t w key h r (inr rest) =
    let v1 = effects_of (t 3) key 1 in
    let v2 = effects_of (t 3) key 2 in
    elim (in_either (part_of key 1 v1 ++ part_of key 2 v2) (locks_of key 1 (entries_of t key)) r rest) as (λ _. IsThere t r) [
      | inl parts ↦ elim (in_either (part_of key 1 v1) (part_of key 2 v2) r parts) as (λ _. IsThere t r) [
        | inl a ↦ part_there t w key 1 one_is_part v1 refl r a
        | inr b ↦ part_there t w key 2 two_is_part v2 refl r b
      ]
      | inr locks ↦
          let own : In (own_rows key 0 (t 7)) r = subst (λ xs. In xs r) (sym (locks_read t w key).rows) locks in
          there_at t 7 r w.of_locks (filter_in (is_own key 0) (t 7) r own).0
    ]

-- ---- every row is one of a recorded unit

-- a recorded unit has this row
abbrev pub IsOfUnit : (t : ℕ → List Record) → Record → Type 0
IsOfUnit t r = (key : UnitKey) × (is_recorded (t 4) key ≡ true) × In (records_of (unit_at_key t key)) r

pub header_back : (t : ℕ → List Record) → AreWhole t → (r : Record) → IsRecord r → table_of r ≡ 1 → In (t 1) r → IsOfUnit t r
header_back t w (rec.Header key user v1 v2 locks numbers) is at h =
    let head : Head = record { user = user; v1 = v1; v2 = v2; locks = locks; numbers = numbers } in
    let has : HasHead (t 1) key = (head, headed (t 1) key head w.rise_headers h) in
    (key, head_recorded t w key has, inl (header_is t key head (unit_read t w key has)))
header_back t w r is at h = cc

-- a unit that counts effects or locks has a header
counting_head : (t : ℕ → List Record) → AreWhole t → (key : UnitKey) (count : Counts → ℕ) → count no_counts ≡ 0 → 1 ≤ count (counts_at (t 1) key)
    → HasHead (t 1) key
counting_head t w key count none low = elim (head_or_none (t 1) key w.rise_headers) as (λ _. HasHead (t 1) key) [
  | inl head ↦ head
  | inr bare ↦ let nothing : count (counts_at (t 1) key) ≡ 0 = ap count bare.counts ∙ none in absurd (omega arith)
]

no_effects : (part : ℕ) → effects_in no_counts part ≡ 0
no_effects part = elim (nat_eq part 1) as (λ b. cond b no_counts.v1 no_counts.v2 ≡ 0) [ true ↦ refl | false ↦ refl ]

in_unit : (t : ℕ → List Record) (key : UnitKey) (part : ℕ) (r : Record) → IsPart part → In (part_of key part (effects_of (t 3) key part)) r
    → In (records_of (unit_at_key t key)) r
in_unit t key part r is h =
    let v1 = part_of key 1 (effects_of (t 3) key 1) in
    let v2 = part_of key 2 (effects_of (t 3) key 2) in
    let locks = locks_of key 1 (entries_of t key) in
    elim (cases_part part is) as (λ _. In (records_of (unit_at_key t key)) r) [
      | inl e ↦ inr (in_left (v1 ++ v2) locks r (in_left v1 v2 r (subst (λ n. In (part_of key n (effects_of (t 3) key n)) r) e h)))
      | inr e ↦ inr (in_left (v1 ++ v2) locks r (in_right v1 v2 r (subst (λ n. In (part_of key n (effects_of (t 3) key n)) r) e h)))
    ]

module_in : (key : UnitKey) (part : ℕ) (effects : List Effect) (n : ℕ) → length effects ≡ n → 1 ≤ n → In (part_of key part effects) (rec.Module key part n)
module_in key part [] n same low = absurd (omega arith)
module_in key part (e ∷ es) n same low = inl (ap (rec.Module key part) same)

pub module_back : (t : ℕ → List Record) → AreWhole t → (r : Record) → IsRecord r → table_of r ≡ 2 → In (t 2) r → IsOfUnit t r
module_back t w (rec.Module key part count) is at h =
    let n = effects_in (counts_at (t 1) key) part in
    let low : 1 ≤ n = leb-true 1 n (w.modules (rec.Module key part count) h) in
    let has = counting_head t w key (λ c. effects_in c part) (no_effects part) low in
    let same : rec.Module key part n ≡ rec.Module key part count =
    one_record (t 2) (rec.Module key part n) (rec.Module key part count) w.rise_modules (module_there t w key part is.1 low) h refl in
    let there = in_unit t key part (rec.Module key part n) is.1 (module_in key part (effects_of (t 3) key part) n (part_read t w key part is.1).many low) in
    (key, head_recorded t w key has, subst (In (records_of (unit_at_key t key))) same there)
module_back t w r is at h = cc

step_in : (key : UnitKey) (part : ℕ) (effects : List Effect) (r : Record) → In (steps_of key part 1 effects) r → In (part_of key part effects) r
step_in key part [] r h = absurd h
step_in key part (e ∷ es) r h = inr h

pub step_back : (t : ℕ → List Record) → AreWhole t → (r : Record) → IsRecord r → table_of r ≡ 3 → In (t 3) r → IsOfUnit t r
step_back t w (rec.Step key part i e) is at h =
    let n = effects_in (counts_at (t 1) key) part in
    let high : i ≤ n = leb-true i n (w.steps (rec.Step key part i e) h) in
    let bounds = is.2 in
    let low : 1 ≤ n = omega (arith, bounds.0) in
    let has = counting_head t w key (λ c. effects_in c part) (no_effects part) low in
    let own = in_filter (is_own key part) (t 3) (rec.Step key part i e) h
    (and_from (same_unit key key) (nat_eq part part) (unit_refl key) (eq-eqb part part refl)) in
    let there = subst (λ xs. In xs (rec.Step key part i e)) (part_read t w key part is.1).rows own in (
      key,
      head_recorded t w key has,
      in_unit t key part (rec.Step key part i e) is.1
          (step_in key part (effects_of (t 3) key part) (rec.Step key part i e) there),
    )
step_back t w r is at h = cc

pub lock_back : (t : ℕ → List Record) → AreWhole t → (r : Record) → IsRecord r → table_of r ≡ 7 → In (t 7) r → IsOfUnit t r
lock_back t w (rec.Lock key i table mode count pattern) is at h =
    let n = (counts_at (t 1) key).locks in
    let r = rec.Lock key i table mode count pattern in
    let high : i ≤ n = leb-true i n (w.locks r h) in
    let bounds = is.1 in
    let low : 1 ≤ n = omega (arith, bounds.0) in
    let has = counting_head t w key (λ c. c.locks) refl low in
    let own = in_filter (is_own key 0) (t 7) r h (and_from (same_unit key key) (nat_eq 0 0) (unit_refl key) refl) in
    let there = subst (λ xs. In xs r) (locks_read t w key).rows own in
    let v1 = part_of key 1 (effects_of (t 3) key 1) in
    let v2 = part_of key 2 (effects_of (t 3) key 2) in
    (key, head_recorded t w key has, inr (in_right (v1 ++ v2) (locks_of key 1 (entries_of t key)) r there))
lock_back t w r is at h = cc

-- ---- the units in the order of their marks

abbrev pub units_by : (t : ℕ → List Record) → List UnitOfWork
units_by t = map (unit_at_key t) (recorded (marks_in (t 4)))

recorded_step : (b : Bool) (key : UnitKey) (m : Mark) (keys : List UnitKey) (rest : Bool) → list_any (λ k. same_unit k key) keys ≡ rest
    → list_any (λ k. same_unit k key) (cond b (m.unit ∷ keys) keys) ≡ ((b && same_unit m.unit key) || rest)
recorded_step true key m keys rest same = ap (λ r. same_unit m.unit key || r) same
recorded_step false key m keys rest same = same

cond_map : (b : Bool) (m : Mark) (marks : List Mark) → map (λ (x : Mark). x.unit) (cond b (m ∷ marks) marks) ≡ cond b
    (m.unit ∷ map (λ (x : Mark). x.unit) marks) (map (λ (x : Mark). x.unit) marks)
cond_map true m marks = refl
cond_map false m marks = refl

pub recorded_is : (key : UnitKey) (marks : List Record) → list_any (λ k. same_unit k key) (recorded (marks_in marks)) ≡ is_recorded marks key
recorded_is key [] = refl
recorded_is key (rec.Mark m ∷ marks) =
    ap (list_any (λ k. same_unit k key)) (cond_map (is_rec m.kind) m (filter (λ (x : Mark). is_rec x.kind) (marks_in marks)))
    ∙ recorded_step (is_rec m.kind) key m (recorded (marks_in marks)) (is_recorded marks key) (recorded_is key marks)
recorded_is key (r ∷ marks) = recorded_is key marks

pub find_unit : (make : UnitKey → UnitOfWork) → ((k : UnitKey) → (make k).key ≡ k) → (key : UnitKey) (keys : List UnitKey)
    → unit_at (map make keys) key ≡ (if list_any (λ k. same_unit k key) keys then Some (make key) else None)
find_unit make own key [] = refl
find_unit make own key (k ∷ keys) =
    ap (λ u. cond (same_unit u key) (Some (make k)) (unit_at (map make keys) key)) (own k)
    ∙ ap (cond (same_unit k key) (Some (make k))) (find_unit make own key keys)
    ∙ elim (same_unit k key) as (λ b. same_unit k key ≡ b → cond b (Some (make k)) (if list_any (λ k. same_unit k key) keys then Some (make key) else None)
    ≡ (if b || list_any (λ k. same_unit k key) keys then Some (make key) else None)) [
      | true ↦ λ e. ap (λ u. Some (make u)) (one_unit k key e)
      | false ↦ λ e. refl
    ] refl

pub unit_by : (t : ℕ → List Record) (key : UnitKey) → unit_at (units_by t) key ≡ (if is_recorded (t 4) key then Some (unit_at_key t key) else None)
unit_by t key = find_unit (unit_at_key t) (λ k. refl) key (recorded (marks_in (t 4)))
    ∙ ap (λ b. if b then Some (unit_at_key t key) else None) (recorded_is key (t 4))

none_of : {X : Type 0} (xs : List X) → length xs ≡ 0 → xs ≡ []
none_of [] h = refl
none_of (x ∷ xs) h = absurd (omega arith)

-- a unit that isn't recorded has no header, so nothing is told of it
pub unknown_bare : (t : ℕ → List Record) → AreWhole t → (key : UnitKey) → is_recorded (t 4) key ≡ false → IsBare (t 1) key
unknown_bare t w key h = elim (head_or_none (t 1) key w.rise_headers) as (λ _. IsBare (t 1) key) [
  | inl head ↦ let odd : true ≡ false = sym (head_recorded t w key head) ∙ h in cc
  | inr bare ↦ bare
]

pub unknown_part : (t : ℕ → List Record) → AreWhole t → (key : UnitKey) (part : ℕ) → IsPart part → is_recorded (t 4) key ≡ false
    → effects_of (t 3) key part ≡ []
unknown_part t w key part is h =
    let bare = unknown_bare t w key h in
    none_of (effects_of (t 3) key part) ((part_read t w key part is).many ∙ ap (λ c. effects_in c part) bare.counts ∙ no_effects part)

pub first_is : (t : ℕ → List Record) → AreWhole t → (key : UnitKey) → effects_of (t 3) key 1 ≡ v1_of (units_by t) key
first_is t w key = elim (is_recorded (t 4) key) as (λ b. is_recorded (t 4) key ≡ b → effects_of (t 3) key 1 ≡ v1_of (units_by t) key) [
  | true ↦ λ e. sym (ap (λ u. option_map_or (λ (x : UnitOfWork). x.parts.v1) u []) (unit_by t key ∙ ap (λ b. if b then Some (unit_at_key t key) else None) e))
  | false ↦ λ e. unknown_part t w key 1 one_is_part e
      ∙ sym (ap (λ u. option_map_or (λ (x : UnitOfWork). x.parts.v1) u []) (unit_by t key ∙ ap (λ b. if b then Some (unit_at_key t key) else None) e))
] refl

pub second_is : (t : ℕ → List Record) → AreWhole t → (key : UnitKey) → effects_of (t 3) key 2 ≡ v2_of (units_by t) key
second_is t w key = elim (is_recorded (t 4) key) as (λ b. is_recorded (t 4) key ≡ b → effects_of (t 3) key 2 ≡ v2_of (units_by t) key) [
  | true ↦ λ e. sym (ap (λ u. option_map_or (λ (x : UnitOfWork). x.parts.v2) u []) (unit_by t key ∙ ap (λ b. if b then Some (unit_at_key t key) else None) e))
  | false ↦ λ e. unknown_part t w key 2 two_is_part e
      ∙ sym (ap (λ u. option_map_or (λ (x : UnitOfWork). x.parts.v2) u []) (unit_by t key ∙ ap (λ b. if b then Some (unit_at_key t key) else None) e))
] refl
