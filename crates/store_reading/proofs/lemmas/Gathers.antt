-- What is looked up of units, with one record more.
use Rattle.std.proofs.Common.{◌≡◌, ℕ, zero, suc, ◌+◌, ◌<◌, Bool, true, false, cond, ◌&&◌, ◌||◌, List, [], ◌∷◌, ◌++◌, length, map, take, get_or, Option, Some}
use Rattle.std.proofs.Common.{None, IsSome, if◌then◌else◌, refl, sym, ap, subst, ◌∙◌, arith}
use Rattle.std.specs.HashMap.{HashMap, get}
use Rattle.std.specs.List.{filter, find, flat_map}
use Rattle.std.specs.Option.{option_map, option_or}
use Rattle.std.proofs.lemmas.List.{append-nil, take_more}
use Rattle.std.proofs.lemmas.List.Folds.{find-append}
use Rattle.enq_base.specs.Owners.{same_unit}
use Rattle.enq_base.specs.declared.owner.UnitKey.{UnitKey}
use Rattle.lock_entry.specs.declared.entry.Entry.{Entry}
use Rattle.enq_base.specs.Ids.{id_of, same_id}
use Rattle.update_records.specs.Ledger.{recorded}
use Rattle.update_records.specs.Marks.{is_rec}
use Rattle.update_records.specs.declared.records.Mark.{Mark}
use Rattle.update_records.specs.declared.records.Unit.{Unit as UnitOfWork}
use Rattle.update_records.specs.declared.stored.Record.{Record}
use Rattle.update_records.specs.declared.stored.Record.TheVariants as rec
use Rattle.enq_base.specs.declared.unit_id.UnitId.{UnitId}
use Rattle.store_reading.specs.Gathered.{key_in, user_in, AreUsers}
use Rattle.store_reading.specs.Rules.{mark_in, marks_in}
use Rattle.store_reading.specs.Stores.{entry_in, is_header, user_at, user_told}
use Rattle.store_reading.specs.Units.{is_recorded, records_unit}
use Rattle.record_laws.proofs.Status.{unit_refl}
use Rattle.store_reading.proofs.Twins.{names_on}

either_true : (a b : Bool) → b ≡ true → (a || b) ≡ true
either_true true b h = refl
either_true false b h = h

map_or : {X Y : Type 0} (f : X → Y) (a : Option X) (b : Bool) (r : X) → option_or (option_map f a) (if b then Some (f r) else None) ≡ option_map f
    (option_or a (if b then Some r else None))
map_or f None true r = refl
map_or f None false r = refl
map_or f (Some x) true r = refl
map_or f (Some x) false r = refl

one_found : (p : Record → Bool) (r : Record) → find p (r ∷ []) ≡ (if p r then Some r else None)
one_found p r = refl

pub users_more : {S T : Type 0} (old : HashMap UnitId (List ℕ) S) (new : HashMap UnitId (List ℕ) T) (headers : List Record) (i : ℕ) (r : Record)
    → i < length headers → r ≡ get_or headers i r
    → ((key : UnitKey) → get same_id new (id_of key) ≡ option_or (get same_id old (id_of key)) (user_in key r)) → AreUsers old (take i headers)
    → AreUsers new (take (i + 1) headers)
users_more old new headers i r h is added known = λ key.
    let front : take i headers ++ r ∷ [] ≡ take (i + 1) headers = ap (λ x. take i headers ++ x ∷ []) is ∙ sym (take_more headers i r h) in
    added key
    ∙ ap (λ o. option_or o (user_in key r)) (known key)
    ∙ map_or user_told (find (is_header key) (take i headers)) (is_header key r) r
    ∙ ap (option_map user_told) (sym (find-append (is_header key) (take i headers) (r ∷ [])) ∙ ap (find (is_header key)) front)

pub entries_more : (headers locks : List Record) (i : ℕ) (r : Record) (key : UnitKey) (before now : List Entry) → i < length locks → r ≡ get_or locks i r
    → now ≡ before ++ entry_in (user_at headers key) key r → before ≡ flat_map (entry_in (user_at headers key) key) (take i locks)
    → now ≡ flat_map (entry_in (user_at headers key) key) (take (i + 1) locks)
entries_more headers locks i r key before now h is added known =
    added ∙ ap (λ es. es ++ entry_in (user_at headers key) key r) known ∙ sym (names_on (entry_in (user_at headers key) key) locks i r h is)

-- ---- the keys that marks record

pub recorded_on : (xs ys : List Mark) → recorded (xs ++ ys) ≡ recorded xs ++ recorded ys
recorded_on [] ys = refl
recorded_on (x ∷ xs) ys =
    elim (is_rec x.kind)
    as (λ b. map (λ (y : Mark). y.unit) (cond b (x ∷ filter (λ (y : Mark). is_rec y.kind) (xs ++ ys)) (filter (λ (y : Mark). is_rec y.kind) (xs ++ ys)))
    ≡ map (λ (y : Mark). y.unit) (cond b (x ∷ filter (λ (y : Mark). is_rec y.kind) xs) (filter (λ (y : Mark). is_rec y.kind) xs)) ++ recorded ys) [
      | true ↦ ap (λ keys. x.unit ∷ keys) (recorded_on xs ys)
      | false ↦ recorded_on xs ys
    ]

abbrev pub keys_in : Record → List UnitKey
keys_in r = elim (key_in r) [ None ↦ [] | Some key ↦ key ∷ [] ]

one_key : (r : Record) → recorded (mark_in r) ≡ keys_in r
one_key (rec.Mark m) =
    elim (is_rec m.kind) as (λ b. map (λ (y : Mark). y.unit) (cond b (m ∷ []) []) ≡ elim (if b then Some m.unit else None) [ None ↦ [] | Some key ↦ key ∷ [] ])
    [ true ↦ refl | false ↦ refl ]
one_key (rec.Meta s n) = refl
one_key (rec.Header u user v1 v2 locks numbers) = refl
one_key (rec.Module u part count) = refl
one_key (rec.Step u part index effect) = refl
one_key (rec.Level object nr from to level buffered) = refl
one_key (rec.Business table key text) = refl
one_key (rec.Lock u index table mode count pattern) = refl

pub keys_more : (marks : List Record) (i : ℕ) (r : Record) → i < length marks → r ≡ get_or marks i r
    → recorded (marks_in (take (i + 1) marks)) ≡ recorded (marks_in (take i marks)) ++ keys_in r
keys_more marks i r h is =
    ap recorded (names_on mark_in marks i r h is) ∙ recorded_on (marks_in (take i marks)) (mark_in r)
    ∙ ap (λ keys. recorded (marks_in (take i marks)) ++ keys) (one_key r)

map_push : (f : UnitKey → UnitOfWork) (xs : List UnitKey) (x : UnitKey) → map f (xs ++ x ∷ []) ≡ map f xs ++ f x ∷ []
map_push f [] x = refl
map_push f (y ∷ xs) x = ap (λ us. f y ∷ us) (map_push f xs x)

pub units_more : (f : UnitKey → UnitOfWork) (marks : List Record) (i : ℕ) (r : Record) (key : UnitKey) (unit : UnitOfWork) (before now : List UnitOfWork)
    → i < length marks → r ≡ get_or marks i r → key_in r ≡ Some key
    → unit ≡ f key → now ≡ before ++ unit ∷ [] → before ≡ map f (recorded (marks_in (take i marks))) → now ≡ map f (recorded (marks_in (take (i + 1) marks)))
units_more f marks i r key unit before now h is there made pushed known =
    pushed ∙ ap (λ us. us ++ unit ∷ []) known ∙ ap (λ u. map f (recorded (marks_in (take i marks))) ++ u ∷ []) made
    ∙ sym (map_push f (recorded (marks_in (take i marks))) key)
    ∙ ap (map f) (sym (keys_more marks i r h is ∙ ap (λ o. recorded (marks_in (take i marks)) ++ elim o [ None ↦ [] | Some k ↦ k ∷ [] ]) there))

pub units_same : (f : UnitKey → UnitOfWork) (marks : List Record) (i : ℕ) (r : Record) (before : List UnitOfWork) → i < length marks → r ≡ get_or marks i r
    → key_in r ≡ None
    → before ≡ map f (recorded (marks_in (take i marks))) → before ≡ map f (recorded (marks_in (take (i + 1) marks)))
units_same f marks i r before h is none known =
    known ∙ ap (map f)
    (sym (keys_more marks i r h is ∙ ap (λ o. recorded (marks_in (take i marks)) ++ elim o [ None ↦ [] | Some k ↦ k ∷ [] ]) none ∙ append-nil _))

-- ---- a recorded unit has its user

some_key : (a b : UnitKey) → Some a ≡ Some b → a ≡ b
some_key a b h = cc

records_key : (r : Record) (key : UnitKey) → key_in r ≡ Some key → records_unit key r ≡ true
records_key (rec.Mark m) key = elim (is_rec m.kind) as (λ b. (if b then Some m.unit else None) ≡ Some key → (b && same_unit m.unit key) ≡ true) [
  | true ↦ λ h. subst (λ k. same_unit m.unit k ≡ true) (some_key m.unit key h) (unit_refl m.unit)
  | false ↦ λ h. cc
]
records_key (rec.Meta s n) key = λ h. cc
records_key (rec.Header u user v1 v2 locks numbers) key = λ h. cc
records_key (rec.Module u part count) key = λ h. cc
records_key (rec.Step u part index effect) key = λ h. cc
records_key (rec.Level object nr from to level buffered) key = λ h. cc
records_key (rec.Business table key' text) key = λ h. cc
records_key (rec.Lock u index table mode count pattern) key = λ h. cc

recorded_among : (marks : List Record) (i : ℕ) (r : Record) (key : UnitKey) → i < length marks → r ≡ get_or marks i r → records_unit key r ≡ true
    → is_recorded marks key ≡ true
recorded_among [] i r key h is records = absurd (omega arith)
recorded_among (x ∷ marks) zero r key h is records = ap (λ b. b || is_recorded marks key) (subst (λ y. records_unit key y ≡ true) is records)
recorded_among (x ∷ marks) (suc i) r key h is records = either_true (records_unit key x) (is_recorded marks key)
    (recorded_among marks i r key (omega arith) is records)

pub recorded_at : (marks : List Record) (i : ℕ) (r : Record) (key : UnitKey) → i < length marks → r ≡ get_or marks i r → key_in r ≡ Some key
    → is_recorded marks key ≡ true
recorded_at marks i r key h is there = recorded_among marks i r key h is (records_key r key there)

pub no_user : (o : Option Record) → IsSome o → option_map user_told o ≡ None → ⊥
no_user None some h = cc
no_user (Some r) some h = cc
