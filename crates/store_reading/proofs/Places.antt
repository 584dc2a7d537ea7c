-- The rows of a unit's part, or of its locks, have the places 1 to n, each once: so they are those of a list.
use Rattle.std.proofs.Common.{◌≡◌, ℕ, zero, suc, ◌+◌, ◌^◌, ◌<◌, ◌≤◌, inl, inr, Bool, true, false, cond, ◌&&◌, nat_eq, List, [], ◌∷◌, ◌++◌, map, length, if◌then◌else◌, refl, sym, ap, subst, ◌∙◌, arith}
use Rattle.std.specs.List.{AllByRecursion, filter, flat_map, list_all, range_with_len}
use Rattle.std.proofs.lemmas.Bool.{and_parts, eqb-true, eq-eqb}
use Rattle.byteorder.specs.Endian.{big_bytes}
use Rattle.enq_base.specs.Owners.{same_unit}
use Rattle.enq_base.specs.declared.owner.Owner.TheVariants.{Upd}
use Rattle.enq_base.specs.declared.owner.UnitKey.{UnitKey}
use Rattle.enq_base.specs.declared.unit.Effect.{Effect}
use Rattle.keeper_api.specs.Rows.{is_below}
use Rattle.lock_entry.specs.declared.entry.Entry.{Entry}
use Rattle.mode_rules.specs.declared.Mode.{Mode}
use Rattle.update_records.specs.RecordRows.{unit_bytes}
use Rattle.update_records.specs.Spelling.{IsRecord, locks_of, steps_of}
use Rattle.update_records.specs.declared.stored.Record.{Record}
use Rattle.update_records.specs.declared.stored.Record.TheVariants as rec
use Rattle.store_reading.specs.Posts.{effects_of}
use Rattle.store_reading.specs.Stores.{entry_in}
use Rattle.store_reading.specs.Units.{has_row, has_rows, is_row}
use Rattle.store_reading.proofs.Rising.{AreIn, In, IsAbove, Rise, all_filter, any_in, below_behind, filter_in, in_all, in_filter, key_of, number_rises, table_of}
use Rattle.record_laws.proofs.Status.{one_unit}

-- ---- numbers

-- each number is below each later one
abbrev pub Ups : List ℕ → Type 0
Ups [] = Unit {0}
Ups (n ∷ ns) = AllByRecursion (λ m. n < m) ns × Ups ns

-- numbers that rise within these bounds, and are all there, are a run
run_of : (ns : List ℕ) (k len : ℕ) → Ups ns → ((m : ℕ) → In ns m → (k ≤ m) × (m < k + len)) → ((m : ℕ) → k ≤ m → m < k + len → In ns m)
    → ns ≡ range_with_len k len
run_of [] k zero ups within all = refl
run_of [] k (suc len) ups within all = absurd (all k (omega arith) (omega arith))
run_of (n ∷ ns) k zero ups within all = let bounds = within n (inl refl) in absurd (omega arith)
run_of (n ∷ ns) k (suc len) ups within all =
    let bounds = within n (inl refl) in
    let first : n ≡ k = elim (all k (omega arith) (omega arith)) as (λ _. n ≡ k)
    [ inl e ↦ e | inr h ↦ let low = in_all (λ m. n < m) ns k ups.0 h in absurd (omega arith) ] in
    let rest : ns ≡ range_with_len (k + 1) len = run_of ns (k + 1) len ups.1
    (λ m h. let low = in_all (λ m. n < m) ns m ups.0 h in let high = within m (inr h) in (omega arith, omega arith))
    (λ m low high. elim (all m (omega arith) (omega arith)) as (λ _. In ns m) [ inl e ↦ absurd (omega arith) | inr h ↦ h ]) in
    cc

range_all : (test : ℕ → Bool) (k len m : ℕ) → list_all test (range_with_len k len) ≡ true → k ≤ m → m < k + len → test m ≡ true
range_all test k zero m h low high = absurd (omega arith)
range_all test k (suc len) m h low high =
    let parts = and_parts (test k) (list_all test (range_with_len (k + 1) len)) h in
    elim (nat_eq k m) as (λ b. nat_eq k m ≡ b → test m ≡ true) [
      | true ↦ λ e. subst (λ n. test n ≡ true) (eqb-true k m e) parts.0
      | false ↦ λ e. range_all test (k + 1) len m parts.1 (let apart : (k ≡ m) → ⊥ = (λ s. let same : nat_eq k m ≡ true = eq-eqb k m s in cc) in omega arith)
          (omega arith)
    ] refl

pub in_map : {X Y : Type 0} (f : X → Y) (xs : List X) (x : X) → In xs x → In (map f xs) (f x)
in_map f [] x h = absurd h
in_map f (y ∷ ys) x (inl e) = inl (ap f e)
in_map f (y ∷ ys) x (inr h) = inr (in_map f ys x h)

pub map_in : {X Y : Type 0} (f : X → Y) (xs : List X) (y : Y) → In (map f xs) y → (x : X) × In xs x × (f x ≡ y)
map_in f [] y h = absurd h
map_in f (x ∷ xs) y (inl e) = (x, inl refl, e)
map_in f (x ∷ xs) y (inr h) = let rest = map_in f xs y h in (rest.0, inr rest.1, rest.2)

pub all_of : {X : Type 0} (P : X → Type 0) (xs : List X) → ((x : X) → In xs x → P x) → AllByRecursion P xs
all_of P [] h = tt
all_of P (x ∷ xs) h = (h x (inl refl), all_of P xs (λ y k. h y (inr k)))

-- ---- the rows of one part

abbrev pub is_own : UnitKey → ℕ → Record → Bool
is_own key part (rec.Step unit p index effect) = same_unit unit key && nat_eq p part
is_own key part (rec.Lock unit index table mode count pattern) = same_unit unit key && nat_eq 0 part
is_own key part r = false

abbrev pub place_of : Record → ℕ
place_of (rec.Step unit p index effect) = index
place_of (rec.Lock unit index table mode count pattern) = index
place_of r = 0

abbrev pub own_rows : UnitKey → ℕ → List Record → List Record
own_rows key part records = filter (is_own key part) records

abbrev pub places : UnitKey → ℕ → List Record → List ℕ
places key part records = map place_of (own_rows key part records)

row_is : (key : UnitKey) (part n : ℕ) (r : Record) → (table_of r ≡ 2 → ⊥) → is_row key part n r ≡ (is_own key part r && nat_eq (place_of r) n)
row_is key part n (rec.Module u p count) other = absurd (other refl)
row_is key part n r other = refl

step_rises : (u v : UnitKey) (p q i j : ℕ) (key : UnitKey) (part : ℕ) → i < 2 ^ 16 → j < 2 ^ 16 → (same_unit u key && nat_eq p part) ≡ true
    → (same_unit v key && nat_eq q part) ≡ true
    → is_below (unit_bytes u ++ p ∷ big_bytes 2 i) (unit_bytes v ++ q ∷ big_bytes 2 j) ≡ true → i < j
step_rises u v p q i j key part fits_i fits_j own_i own_j above =
    let a = and_parts (same_unit u key) (nat_eq p part) own_i in
    let b = and_parts (same_unit v key) (nat_eq q part) own_j in
    let units : u ≡ v = one_unit u key a.0 ∙ sym (one_unit v key b.0) in
    let parts : p ≡ q = eqb-true p part a.1 ∙ sym (eqb-true q part b.1) in
    let same : is_below (unit_bytes v ++ q ∷ big_bytes 2 i) (unit_bytes v ++ q ∷ big_bytes 2 j) ≡ true =
    ap (λ k. is_below (unit_bytes k ++ q ∷ big_bytes 2 i) (unit_bytes v ++ q ∷ big_bytes 2 j)) (sym units)
    ∙ ap (λ n. is_below (unit_bytes u ++ n ∷ big_bytes 2 i) (unit_bytes v ++ q ∷ big_bytes 2 j)) (sym parts) ∙ above in
    number_rises 2 i j (omega arith) (omega arith) (sym (below_behind (unit_bytes v ++ q ∷ []) (big_bytes 2 i) (big_bytes 2 j)) ∙ same)

lock_rises : (u v : UnitKey) (i j : ℕ) (key : UnitKey) (part : ℕ) → i < 2 ^ 32 → j < 2 ^ 32 → (same_unit u key && nat_eq 0 part) ≡ true
    → (same_unit v key && nat_eq 0 part) ≡ true
    → is_below (unit_bytes u ++ big_bytes 4 i) (unit_bytes v ++ big_bytes 4 j) ≡ true → i < j
lock_rises u v i j key part fits_i fits_j own_i own_j above =
    let a = and_parts (same_unit u key) (nat_eq 0 part) own_i in
    let b = and_parts (same_unit v key) (nat_eq 0 part) own_j in
    let units : u ≡ v = one_unit u key a.0 ∙ sym (one_unit v key b.0) in
    let same : is_below (unit_bytes v ++ big_bytes 4 i) (unit_bytes v ++ big_bytes 4 j) ≡ true =
    ap (λ k. is_below (unit_bytes k ++ big_bytes 4 i) (unit_bytes v ++ big_bytes 4 j)) (sym units) ∙ above in
    number_rises 4 i j (omega arith) (omega arith) (sym (below_behind (unit_bytes v) (big_bytes 4 i) (big_bytes 4 j)) ∙ same)

-- a later row of a part has a later place
place_rises : (key : UnitKey) (part : ℕ) (r s : Record) → IsRecord r → IsRecord s → table_of r ≡ table_of s → is_own key part r ≡ true
    → is_own key part s ≡ true → IsAbove (key_of r) s → place_of r < place_of s
place_rises key part (rec.Step u p i e) (rec.Step v q j f) is_r is_s same own_r own_s above =
    step_rises u v p q i j key part is_r.2.1 is_s.2.1 own_r own_s above
place_rises key part (rec.Lock u i t m c w) (rec.Lock v j t' m' c' w') is_r is_s same own_r own_s above =
    lock_rises u v i j key part is_r.1.1 is_s.1.1 own_r own_s above
place_rises key part (rec.Step u p i e) (rec.Lock v j t' m' c' w') is_r is_s same own_r own_s above = cc
place_rises key part (rec.Lock u i t m c w) (rec.Step v q j f) is_r is_s same own_r own_s above = cc
place_rises key part (rec.Step u p i e) s is_r is_s same own_r own_s above = let odd : false ≡ true = own_s in cc
place_rises key part (rec.Lock u i t m c w) s is_r is_s same own_r own_s above = let odd : false ≡ true = own_s in cc
place_rises key part r s is_r is_s same own_r own_s above = let odd : false ≡ true = own_r in cc

pub rise_filter : (test : Record → Bool) (records : List Record) → Rise records → Rise (filter test records)
rise_filter test [] rise = tt
rise_filter test (r ∷ records) rise =
    elim (test r) as (λ b. Rise (cond b (r ∷ filter test records) (filter test records))) [
      | true ↦ (all_filter (IsAbove (key_of r)) test records rise.0, rise_filter test records rise.1)
      | false ↦ rise_filter test records rise.1
    ]

-- each is a row of this part, in one table
abbrev AreOwn : UnitKey → ℕ → ℕ → List Record → Type 0
AreOwn key part table records = (r : Record) → In records r → IsRecord r × (table_of r ≡ table) × (is_own key part r ≡ true)

ups_own : (key : UnitKey) (part table : ℕ) (records : List Record) → AreOwn key part table records → Rise records → Ups (map place_of records)
ups_own key part table [] own rise = tt
ups_own key part table (r ∷ records) own rise = (
  all_of (λ m. place_of r < m) (map place_of records) (λ m h.
      let found = map_in place_of records m h in
      let a = own r (inl refl) in
      let b = own found.0 (inr found.1) in
      subst (λ n. place_of r < n) found.2
      (place_rises key part r found.0 a.0 b.0 (a.1 ∙ sym b.1) a.2 b.2 (in_all (IsAbove (key_of r)) records found.0 rise.0 found.1))),
  ups_own key part table records (λ s h. own s (inr h)) rise.1,
)

own_there : (key : UnitKey) (part table : ℕ) (records : List Record) (m : ℕ) → (table ≡ 2 → ⊥) → AreIn table records → has_row records key part m ≡ true
    → In (places key part records) m
own_there key part table records m other all h =
    let found = any_in (is_row key part m) records h in
    let here = in_all (λ r. IsRecord r × (table_of r ≡ table)) records found.0 all found.1 in
    let both = and_parts (is_own key part found.0) (nat_eq (place_of found.0) m) (sym (row_is key part m found.0 (λ e. other (sym here.1 ∙ e))) ∙ found.2) in
    subst (In (places key part records)) (eqb-true (place_of found.0) m both.1)
    (in_map place_of (own_rows key part records) found.0 (in_filter (is_own key part) records found.0 found.1 both.0))

-- so many rows, of which each stands, have the places from 1 on
pub run_own : (key : UnitKey) (part table : ℕ) (records : List Record) (n : ℕ) → (table ≡ 2 → ⊥) → AreIn table records → Rise records
    → ((r : Record) → In records r → is_own key part r ≡ true → (1 ≤ place_of r) × (place_of r ≤ n)) → has_rows records key part n ≡ true
    → places key part records ≡ range_with_len 1 n
run_own key part table records n other all rise within there =
    let own : AreOwn key part table (own_rows key part records) = (λ r h.
    let both = filter_in (is_own key part) records r h in
    let here = in_all (λ r. IsRecord r × (table_of r ≡ table)) records r all both.0 in
    (here.0, here.1, both.1)) in
    run_of (places key part records) 1 n (ups_own key part table (own_rows key part records) own (rise_filter (is_own key part) records rise))
    (λ m h.
    let found = map_in place_of (own_rows key part records) m h in
    let both = filter_in (is_own key part) records found.0 found.1 in
    let bounds = within found.0 both.0 both.1 in
    let is : place_of found.0 ≡ m = found.2 in
    (omega arith, omega arith))
    (λ m low high. own_there key part table records m other all (range_all (has_row records key part) 1 n m there low high))

-- ---- they are those of a list

abbrev AreSteps : UnitKey → ℕ → ℕ → ℕ → List Record → List Effect → Type 0
AreSteps key part k len own effects = (own ≡ steps_of key part k effects) × (length effects ≡ len)

step_here : (b : Bool) (u key : UnitKey) (p part i k len : ℕ) (e : Effect) (own : List Record) (effects : List Effect) → (same_unit u key && nat_eq p part) ≡ b
    → ((k len : ℕ) → map place_of own ≡ range_with_len k len → AreSteps key part k len own effects)
    → map place_of (cond b (rec.Step u p i e ∷ own) own) ≡ range_with_len k len
    → AreSteps key part k len (cond b (rec.Step u p i e ∷ own) own) ((if b then e ∷ [] else []) ++ effects)
step_here false u key p part i k len e own effects is rest run = rest k len run
step_here true u key p part i k zero e own effects is rest run = cc
step_here true u key p part i k (suc len) e own effects is rest run =
    let both = and_parts (same_unit u key) (nat_eq p part) is in
    let unit : u ≡ key = one_unit u key both.0 in
    let one : p ≡ part = eqb-true p part both.1 in
    let first : i ≡ k = cc in
    let tails : map place_of own ≡ range_with_len (k + 1) len = cc in
    let more = rest (k + 1) len tails in
    let records : own ≡ steps_of key part (k + 1) effects = more.0 in
    let count : length effects ≡ len = more.1 in
    (cc, ap suc count)

pub steps_are : (key : UnitKey) (part : ℕ) (records : List Record) (k len : ℕ) → AreIn 3 records → places key part records ≡ range_with_len k len
    → AreSteps key part k len (own_rows key part records) (effects_of records key part)
steps_are key part [] k zero all run = (refl, refl)
steps_are key part [] k (suc len) all run = cc
steps_are key part (rec.Step u p i e ∷ records) k len all run =
    step_here (same_unit u key && nat_eq p part) u key p part i k len e (own_rows key part records) (effects_of records key part) refl
    (λ k' len' run'. steps_are key part records k' len' all.1 run') run
steps_are key part (r ∷ records) k len all run = let odd = all.0.1 in cc

abbrev AreLocks : UnitKey → ℕ → ℕ → List Record → List Entry → Type 0
AreLocks key k len own entries = (own ≡ locks_of key k entries) × (length entries ≡ len)

abbrev pub entry_at : List ℕ → UnitKey → List ℕ → Mode → ℕ → List ℕ → Entry
entry_at user unit table mode count pattern =
    record { owner = Upd unit; user = user; table = table; pattern = pattern; mode = mode; count = count; handed = true }

lock_here : (b : Bool) (user : List ℕ) (u key : UnitKey) (i k len : ℕ) (table : List ℕ) (mode : Mode) (count : ℕ) (pattern : List ℕ) (own : List Record)
    (entries : List Entry) → same_unit u key ≡ b
    → ((k len : ℕ) → map place_of own ≡ range_with_len k len → AreLocks key k len own entries)
    → map place_of (cond (b && true) (rec.Lock u i table mode count pattern ∷ own) own) ≡ range_with_len k len
    → AreLocks key k len (cond (b && true) (rec.Lock u i table mode count pattern ∷ own) own)
    ((if b then entry_at user u table mode count pattern ∷ [] else []) ++ entries)
lock_here false user u key i k len table mode count pattern own entries is rest run = rest k len run
lock_here true user u key i k zero table mode count pattern own entries is rest run = cc
lock_here true user u key i k (suc len) table mode count pattern own entries is rest run =
    let unit : u ≡ key = one_unit u key is in
    let first : i ≡ k = cc in
    let tails : map place_of own ≡ range_with_len (k + 1) len = cc in
    let more = rest (k + 1) len tails in
    let records : own ≡ locks_of key (k + 1) entries = more.0 in
    let all : length entries ≡ len = more.1 in
    (cc, ap suc all)

pub locks_are : (user : List ℕ) (key : UnitKey) (records : List Record) (k len : ℕ) → AreIn 7 records → places key 0 records ≡ range_with_len k len
    → AreLocks key k len (own_rows key 0 records) (flat_map (entry_in user key) records)
locks_are user key [] k zero all run = (refl, refl)
locks_are user key [] k (suc len) all run = cc
locks_are user key (rec.Lock u i table mode count pattern ∷ records) k len all run =
    lock_here (same_unit u key) user u key i k len table mode count pattern (own_rows key 0 records) (flat_map (entry_in user key) records) refl
    (λ k' len' run'. locks_are user key records k' len' all.1 run') run
locks_are user key (r ∷ records) k len all run = let odd = all.0.1 in cc
