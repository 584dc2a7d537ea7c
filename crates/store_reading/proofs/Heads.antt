-- What the header of a unit tells, and that there is one at most.
use Rattle.std.proofs.Common.{◌≡◌, ℕ, ◌⊎◌, inl, inr, Bool, true, false, cond, ◌&&◌, ◌||◌, nat_le, List, [], ◌∷◌, length, Some, if◌then◌else◌, refl, sym, ap, subst, ◌∙◌}
use Rattle.std.specs.List.{AllByRecursion, find, list_any}
use Rattle.std.specs.Option.{option_map_or}
use Rattle.std.proofs.lemmas.Bool.{or_parts, false_from_ne_true}
use Rattle.enq_base.specs.Owners.{same_unit}
use Rattle.enq_base.specs.declared.owner.UnitKey.{UnitKey}
use Rattle.enq_base.specs.declared.unit.Num.{Num as Number}
use Rattle.update_records.specs.RecordRows.{unit_bytes}
use Rattle.record_laws.proofs.Status.{one_unit, unit_refl}
use Rattle.update_records.specs.declared.stored.Record.{Record}
use Rattle.update_records.specs.declared.stored.Record.TheVariants as rec
use Rattle.store_reading.specs.Intervals.{numbers_after, numbers_at}
use Rattle.store_reading.specs.Rules.{has_second}
use Rattle.store_reading.specs.Stores.{is_header, user_at, user_told}
use Rattle.store_reading.specs.Units.{counts_after, counts_at, no_counts}
use Rattle.store_reading.specs.declared.counts.Counts.{Counts}
use Rattle.store_reading.proofs.Rising.{In, IsAbove, Rise, any_in, key_of, not_again}

abbrev pub header : UnitKey → List ℕ → ℕ → ℕ → ℕ → List Number → Record
header key user v1 v2 locks numbers = rec.Header key user v1 v2 locks numbers

-- what headers tell of a unit, where this was told before
pub record IsTold (headers : List Record) (key : UnitKey) (before after : Counts) (none all : List Number) (has : Bool) (users : List ℕ) : Type 0 where
  pub counts : counts_after key before headers ≡ after
  pub numbers : numbers_after key none headers ≡ all
  pub second : has_second headers key ≡ has
  pub user : option_map_or user_told (find (is_header key) headers) [] ≡ users

abbrev pub counted : ℕ → ℕ → ℕ → List Number → Counts
counted v1 v2 locks numbers = record { v1 = v1; v2 = v2; locks = locks; numbers = length numbers }

-- ---- no header

abbrev pub HasNoHeader : UnitKey → List Record → Type 0
HasNoHeader key headers = list_any (is_header key) headers ≡ false

pub none_told : (headers : List Record) (key : UnitKey) (before : Counts) (none : List Number) → HasNoHeader key headers
    → IsTold headers key before before none none false []
none_told [] key before none h = record { counts = refl; numbers = refl; second = refl; user = refl }
none_told (rec.Header u user v1 v2 locks numbers ∷ headers) key before none h =
    let parts = or_parts (same_unit u key) (list_any (is_header key) headers) h in
    let rest = none_told headers key before none parts.1 in
    record {
      counts = ap (λ b. counts_after key (if b then counted v1 v2 locks numbers else before) headers) parts.0 ∙ rest.counts;
      numbers = ap (λ b. numbers_after key (if b then numbers else none) headers) parts.0 ∙ rest.numbers;
      second = ap (λ b. (b && nat_le 1 v2) || has_second headers key) parts.0 ∙ rest.second;
      user = ap (λ b. option_map_or user_told (cond b (Some (header u user v1 v2 locks numbers)) (find (is_header key) headers)) []) parts.0 ∙ rest.user;
    }
none_told (r ∷ headers) key before none h =
    let rest = none_told headers key before none h in record { counts = rest.counts; numbers = rest.numbers; second = rest.second; user = rest.user }

-- ---- one header

header_key : (key : UnitKey) (r : Record) → is_header key r ≡ true → key_of r ≡ unit_bytes key
header_key key (rec.Header u user v1 v2 locks numbers) h = ap unit_bytes (one_unit u key h)
header_key key r h = let odd : false ≡ true = h in cc

none_behind : (key : UnitKey) (r : Record) (headers : List Record) → key_of r ≡ unit_bytes key → AllByRecursion (IsAbove (key_of r)) headers
    → HasNoHeader key headers
none_behind key r headers is above = false_from_ne_true (list_any (is_header key) headers) (λ e.
    let found = any_in (is_header key) headers e in
    not_again r found.0 headers above found.1 (is ∙ sym (header_key key found.0 found.2)))

no_or : (a b c : Bool) → b ≡ false → (a && c) || b ≡ (a && c)
no_or true b true h = refl
no_or true b false h = h
no_or false b c h = h

told_first : (key : UnitKey) (user : List ℕ) (v1 v2 locks : ℕ) (numbers : List Number) (headers : List Record) (before : Counts) (none : List Number)
    → AllByRecursion (IsAbove (unit_bytes key)) headers → IsTold (header key user v1 v2 locks numbers ∷ headers) key before
    (counted v1 v2 locks numbers) none numbers (nat_le 1 v2) user
told_first key user v1 v2 locks numbers headers before none above =
    let rest = none_told headers key (counted v1 v2 locks numbers) numbers (none_behind key (header key user v1 v2 locks numbers) headers refl above) in
    record {
      counts = ap (λ b. counts_after key (if b then counted v1 v2 locks numbers else before) headers) (unit_refl key) ∙ rest.counts;
      numbers = ap (λ b. numbers_after key (if b then numbers else none) headers) (unit_refl key) ∙ rest.numbers;
      second = no_or (same_unit key key) (has_second headers key) (nat_le 1 v2) rest.second ∙ ap (λ b. b && nat_le 1 v2) (unit_refl key);
      user = ap (λ b. option_map_or user_told (cond b (Some (header key user v1 v2 locks numbers)) (find (is_header key) headers)) []) (unit_refl key);
    }

pub one_told : (headers : List Record) (key : UnitKey) (user : List ℕ) (v1 v2 locks : ℕ) (numbers : List Number) (before : Counts) (none : List Number)
    → Rise headers → In headers (header key user v1 v2 locks numbers) → IsTold headers key before (counted v1 v2 locks numbers) none numbers (nat_le 1 v2) user
one_told [] key user v1 v2 locks numbers before none rise h = absurd h
one_told (r ∷ headers) key user v1 v2 locks numbers before none rise (inl e) =
    subst (λ x. IsTold (x ∷ headers) key before (counted v1 v2 locks numbers) none numbers (nat_le 1 v2) user) (sym e)
    (told_first key user v1 v2 locks numbers headers before none (subst (λ x. AllByRecursion (IsAbove (key_of x)) headers) e rise.0))
one_told (rec.Header u other w1 w2 count nums ∷ headers) key user v1 v2 locks numbers before none rise (inr h) =
    let rest = one_told headers key user v1 v2 locks numbers before none rise.1 h in
    let differ : same_unit u key ≡ false = false_from_ne_true (same_unit u key)
    (λ e. not_again (header u other w1 w2 count nums) (header key user v1 v2 locks numbers) headers rise.0 h (ap unit_bytes (one_unit u key e))) in
    record {
      counts = ap (λ b. counts_after key (if b then counted w1 w2 count nums else before) headers) differ ∙ rest.counts;
      numbers = ap (λ b. numbers_after key (if b then nums else none) headers) differ ∙ rest.numbers;
      second = ap (λ b. (b && nat_le 1 w2) || has_second headers key) differ ∙ rest.second;
      user = ap (λ b. option_map_or user_told (cond b (Some (header u other w1 w2 count nums)) (find (is_header key) headers)) []) differ ∙ rest.user;
    }
one_told (r ∷ headers) key user v1 v2 locks numbers before none rise (inr h) =
    let rest = one_told headers key user v1 v2 locks numbers before none rise.1 h in
    record { counts = rest.counts; numbers = rest.numbers; second = rest.second; user = rest.user }

-- ---- each unit

-- the fields of a header
pub record Head : Type 0 where
  pub user : List ℕ
  pub v1 : ℕ
  pub v2 : ℕ
  pub locks : ℕ
  pub numbers : List Number

abbrev pub header_with : UnitKey → Head → Record
header_with key h = header key h.user h.v1 h.v2 h.locks h.numbers

-- the header of a unit stands, and tells this
pub record IsHeaded (headers : List Record) (key : UnitKey) (h : Head) : Type 0 where
  pub there : In headers (header_with key h)
  pub counts : counts_at headers key ≡ counted h.v1 h.v2 h.locks h.numbers
  pub numbers : numbers_at headers key ≡ h.numbers
  pub second : has_second headers key ≡ nat_le 1 h.v2
  pub user : user_at headers key ≡ h.user

abbrev pub HasHead : List Record → UnitKey → Type 0
HasHead headers key = (h : Head) × IsHeaded headers key h

pub headed : (headers : List Record) (key : UnitKey) (h : Head) → Rise headers → In headers (header_with key h) → IsHeaded headers key h
headed headers key h rise there =
    let told = one_told headers key h.user h.v1 h.v2 h.locks h.numbers no_counts [] rise there in
    record { there = there; counts = told.counts; numbers = told.numbers; second = told.second; user = told.user }

-- no header counts anything, and tells no number
pub record IsBare (headers : List Record) (key : UnitKey) : Type 0 where
  pub counts : counts_at headers key ≡ no_counts
  pub numbers : numbers_at headers key ≡ []
  pub second : has_second headers key ≡ false

found_header : (headers : List Record) (key : UnitKey) (r : Record) → Rise headers → In headers r → is_header key r ≡ true → HasHead headers key
found_header headers key (rec.Header u user v1 v2 locks numbers) rise h is =
    let fields : Head = record { user = user; v1 = v1; v2 = v2; locks = locks; numbers = numbers } in
    (fields, headed headers key fields rise (subst (λ k. In headers (header_with k fields)) (one_unit u key is) h))
found_header headers key r rise h is = let odd : false ≡ true = is in cc

-- a unit has one header, or nothing is told of it
pub head_or_none : (headers : List Record) (key : UnitKey) → Rise headers → HasHead headers key ⊎ IsBare headers key
head_or_none headers key rise = elim (list_any (is_header key) headers) as
    (λ b. list_any (is_header key) headers ≡ b → HasHead headers key ⊎ IsBare headers key) [
      | true ↦ λ e. let found = any_in (is_header key) headers e in inl (found_header headers key found.0 rise found.1 found.2)
      | false ↦ λ e. let told = none_told headers key no_counts [] e in inr (record { counts = told.counts; numbers = told.numbers; second = told.second })
    ] refl
