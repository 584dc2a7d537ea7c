-- The ledger that is read from a store that breaks no rule.
use Rattle.std.proofs.Common.{◌≡◌, inl, inr, Bool, true, false, List, [], ◌∷◌, Option, None, Some, IfSome, IsSome, Result, Ok, Err, IfOk, IfErr, refl, sym, ap, subst, ◌∙◌, if◌then◌else◌, cond, arith}
use Rattle.std.specs.List.{find}
use Rattle.enq_base.specs.declared.owner.UnitKey.{UnitKey}
use Rattle.keeper_api.specs.Rows.{Rows}
use Rattle.update_records.specs.Ledger.{StandFor}
use Rattle.update_records.specs.declared.stored.Record.{Record}
use Rattle.record_laws.proofs.Status.{unit_refl}
use Rattle.store_reading.specs.Faults.{OnBad}
use Rattle.store_reading.specs.Good.{IsBadPlace, IsSound, ledger_of}
use Rattle.store_reading.specs.Stores.{is_bare, is_header, ledger_in, rule_fault, store_fault}
use Rattle.store_reading.specs.Told.{AreRead, SpellAll, records_in}
use Rattle.store_reading.specs.Units.{is_recorded}
use Rattle.store_reading.specs.declared.fault.ReadingFault.{ReadingFault}
use Rattle.store_reading.specs.declared.fault.ReadingFault.TheVariants.{Failed, Bad, NoMemory}
use Rattle.store_reading.specs.declared.ledger.StoredLedger.{StoredLedger}
use Rattle.store_reading.proofs.Bare.{bare_table}
use Rattle.store_reading.proofs.lemmas.BooksStand.{AreUnits}
use Rattle.store_reading.proofs.Exact.{ledger_bare, stand_for}
use Rattle.store_reading.proofs.Faultless.{are_whole, breaks_none, each_stands, first_part, headers_have, locks_have, modules_have, second_part, steps_have}
use Rattle.store_reading.proofs.Heads.{HasHead, header_with}
use Rattle.store_reading.proofs.Lawfully.{ledger_lawful}
use Rattle.store_reading.proofs.Rising.{In}
use Rattle.store_reading.proofs.UnitFacts.{recorded_head}

pub units_right : (records : List (List Record)) → AreRead records → rule_fault records ≡ None → AreUnits records
units_right records read none = record {
  stand = each_stands records read none;
  headers = headers_have records read none;
  modules = modules_have records read none;
  steps = steps_have records read none;
  locks = locks_have records read none;
  effects = record { first = first_part records read none; second = second_part records read none };
}

-- ---- each recorded unit has a header

found_in : (p : Record → Bool) (xs : List Record) (r : Record) → In xs r → p r ≡ true → IsSome (find p xs)
found_in p [] r h is = absurd h
found_in p (x ∷ xs) r h is = elim (p x) as (λ b. p x ≡ b → IsSome (cond b (Some x) (find p xs))) [
  | true ↦ λ e. refl
  | false ↦ λ e. elim h as (λ _. IsSome (find p xs)) [
    | inl same ↦ (let odd : true ≡ false = sym is ∙ ap p (sym same) ∙ e in cc)
    | inr later ↦ found_in p xs r later is
  ]
] refl

found_head : (headers : List Record) (key : UnitKey) → HasHead headers key → IsSome (find (is_header key) headers)
found_head headers key head = found_in (is_header key) headers (header_with key head.0) head.1.there (unit_refl key)

pub headers_found : (records : List (List Record)) → AreRead records → store_fault records ≡ None → (key : UnitKey)
    → is_recorded (records_in records 4) key ≡ true → IsSome (find (is_header key) (records_in records 1))
headers_found records read none key known =
    elim (is_bare records)
    as (λ b. is_bare records ≡ b → (if b then None else rule_fault records) ≡ None → IsSome (find (is_header key) (records_in records 1))) [
      | true ↦ λ is kept. (let odd : false ≡ true = ap (λ marks. is_recorded marks key) (sym (bare_table records 4 (omega arith) is)) ∙ known in cc)
      | false ↦ λ is kept. found_head (records_in records 1) key
          (recorded_head (records_in records) (are_whole records read (breaks_none records kept)) key known)
    ] refl none

-- ---- the ledger is sound, and the rows stand for it

abbrev Read : Type 0
Read = Result StoredLedger ReadingFault

sound_ledger : (records : List (List Record)) → AreRead records → store_fault records ≡ None → IsSound (ledger_in records)
sound_ledger records read none =
    elim (is_bare records) as (λ b. is_bare records ≡ b → (if b then None else rule_fault records) ≡ None → IsSound (ledger_in records)) [
      | true ↦ λ is kept. inl (ledger_bare records is)
      | false ↦ λ is kept. inr (ledger_lawful records read is kept)
    ] refl none

pub read_sound : (records : List (List Record)) (r : Read) → AreRead records
    → IfOk r (λ stored. (store_fault records ≡ None) × (ledger_of stored ≡ ledger_in records)) → IfOk r (λ stored. IsSound (ledger_of stored))
read_sound records (Err fault) read right = tt
read_sound records (Ok stored) read right = subst IsSound (sym right.1) (sound_ledger records read right.0)

pub read_stands : (held : Option Rows) (records : List (List Record)) (r : Read) → AreRead records → IfSome held (λ rows. SpellAll rows records)
    → IfOk r (λ stored. (store_fault records ≡ None) × (ledger_of stored ≡ ledger_in records))
    → IfOk r (λ stored. IfSome held (λ rows. StandFor rows (ledger_of stored)))
read_stands held records (Err fault) read all right = tt
read_stands None records (Ok stored) read all right = tt
read_stands (Some rows) records (Ok stored) read all right =
    subst (StandFor rows) (sym right.1)
    (stand_for rows records all right.0 (λ some none. record { units = units_right records read none; lawful = ledger_lawful records read some none }))

pub read_bad : (held : Option Rows) (records : List (List Record)) (r : Read) → IfSome held (λ rows. SpellAll rows records)
    → IfErr r (λ fault. OnBad fault (λ table row. store_fault records ≡ Some (record { table = table; row = row })))
    → IfErr r (λ fault. IfSome held (λ rows. OnBad fault (IsBadPlace rows)))
read_bad held records (Ok stored) all bad = tt
read_bad None records (Err fault) all bad = tt
read_bad (Some rows) records (Err Failed) all bad = tt
read_bad (Some rows) records (Err NoMemory) all bad = tt
read_bad (Some rows) records (Err (Bad table row)) all bad = inr (records, all, bad)
