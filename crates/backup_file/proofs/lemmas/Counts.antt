-- A log that has one hand of each list is read as just so many records.
use Rattle.std.proofs.Common.{◌≡◌, ◌≢◌, ℕ, suc, List, [], ◌∷◌, ◌++◌, length, map, drop, get_or, Option, Some, None, refl, sym, ap, ◌∙◌, append_assoc}
use Rattle.std.specs.List.{AllByRecursion, flat_map}
use Rattle.std.proofs.lemmas.List.{length-map}
use Rattle.std.proofs.lemmas.List.Concat.{flat_map-cons}
use Rattle.std.proofs.lemmas.List.Elements.{recursion_from_All}
use Rattle.gate_log.specs.Gates.{IsShut}
use Rattle.gate_log.specs.Logs as logs
use Rattle.backup_file.specs.declared.handed.Handed.{Handed}
use Rattle.backup_file.specs.declared.handed.Record.{Record}
use Rattle.backup_file.specs.declared.handed.Record.TheVariants.{Hand}
use Rattle.backup_file.specs.declared.places.Slots.{Slots}
use Rattle.backup_file.specs.declared.places.Which.{Which}
use Rattle.backup_file.specs.File.{HasSlots, IsCompact, grammar_of, log_grammar}
use Rattle.backup_file.specs.Handing.{IsList}
use Rattle.backup_file.specs.Lists.{after, lists_behind}
use Rattle.backup_file.specs.ReadLogs.{IsReadSoFar}
use Rattle.backup_file.specs.Reading.{record_at}
use Rattle.backup_file.specs.Slots.{IsInForce, slot_in}
use Rattle.backup_file.specs.Spelling.{IsRecord, spelling}
use Rattle.backup_file.proofs.Compacts.{hands_spelled, led_lists}
use Rattle.backup_file.proofs.lemmas.Meaning.{starts_once, version2_log, version2_slots}
use Rattle.backup_file.proofs.lemmas.Records.{record_again}

abbrev gates : List Record → List ℕ
gates rs = flat_map (logs.opened log_grammar) rs

abbrev behind : Option (Record × List ℕ) → List ℕ
behind None = []
behind (Some p) = p.1

-- what stands behind a record is one
rest_once : (r s : Record) (m n : List ℕ) → IsRecord r → IsRecord s → spelling r ++ m ≡ spelling s ++ n → m ≡ n
rest_once r s m n is also e = ap behind (sym (record_again r m is) ∙ ap record_at e ∙ record_again s n also)

split : (r : Record) (rs : List Record) (x : List ℕ) → gates (r ∷ rs) ++ x ≡ 1 ∷ (spelling r ++ (gates rs ++ x))
split r rs x = ap (λ (b : List ℕ). b ++ x) (flat_map-cons (logs.opened log_grammar) r rs) ∙ append_assoc (1 ∷ spelling r) (gates rs) x

first_byte : (a : ℕ) (x y : List ℕ) → a ∷ x ≡ 1 ∷ y → a ≡ 1
first_byte a x y e = ap (λ (b : List ℕ). get_or b 0 0) e

-- records that spell the same bytes up to a closed gate are as many
as_many : (rs ss : List Record) (a b : ℕ) (x y : List ℕ) → AllByRecursion IsRecord rs → AllByRecursion IsRecord ss
    → gates rs ++ a ∷ x ≡ gates ss ++ b ∷ y → a ≢ 1 → b ≢ 1 → length rs ≡ length ss
as_many [] [] a b x y are also e closed shut = refl
as_many [] (s ∷ ss) a b x y are also e closed shut = absurd (closed (first_byte a x (spelling s ++ (gates ss ++ b ∷ y)) (e ∙ split s ss (b ∷ y))))
as_many (r ∷ rs) [] a b x y are also e closed shut =
    absurd (shut (first_byte b y (spelling r ++ (gates rs ++ a ∷ x)) (sym e ∙ split r rs (a ∷ x))))
as_many (r ∷ rs) (s ∷ ss) a b x y are also e closed shut =
    let same : 1 ∷ (spelling r ++ (gates rs ++ a ∷ x)) ≡ 1 ∷ (spelling s ++ (gates ss ++ b ∷ y)) = sym (split r rs (a ∷ x)) ∙ e ∙ split s ss (b ∷ y) in
    let rest = rest_once r s (gates rs ++ a ∷ x) (gates ss ++ b ∷ y) are.0 also.0 (ap (λ (l : List ℕ). drop 1 l) same) in
    ap (λ (n : ℕ). suc n) (as_many rs ss a b x y are.1 also.1 rest closed shut)

led_records : (most : ℕ) (rs : List Record) (l m : List Handed) → logs.Leads (grammar_of [] most) l rs m → AllByRecursion IsRecord rs
led_records most [] l m leads = tt
led_records most (r ∷ rs) l m leads = (leads.0, led_records most rs (after l r) m leads.2)

hands_are : (l : List Handed) → AllByRecursion IsList l → AllByRecursion IsRecord (map Hand l)
hands_are [] are = tt
hands_are (h ∷ l) are = (are.0.is_record, hands_are l are.1)

pub compact_count : (bytes : List ℕ) (l : List Handed) → IsCompact bytes l → (gate : ℕ) (s : Slots) (w : Which) → HasSlots bytes gate s → IsInForce s w
    → (start : ℕ) → start ≡ (slot_in s w).start → (rest : List ℕ) (records : List Record) → IsReadSoFar 255 (drop start bytes) rest records → IsShut [] rest
    → length records ≡ length l
compact_count bytes l c gate s w has force start named rest records read shut =
    let v = c.version in
    let p = v.place in
    let from : (slot_in p.slots p.which).start ≡ start =
    starts_once bytes p.gate gate p.slots s p.which w (version2_slots bytes l v) has v.is_front.force force ∙ sym named in
    let log = version2_log bytes l v in
    let hands : List Record = map Hand l in
    let f = v.is_front.is_log in
    let there : drop start bytes ≡ gates hands ++ log.byte ∷ log.rest =
    ap (λ (n : ℕ). drop n bytes) (sym from) ∙ log.whole
    ∙ ap (λ (b : List ℕ). b ++ log.byte ∷ log.rest) (c.same ∙ sym (hands_spelled l)) in
    let here : drop start bytes ≡ gates records ++ shut.byte ∷ shut.rest =
    read.whole ∙ ap (λ (b : List ℕ). b ++ rest) read.spelled ∙ ap (λ (b : List ℕ). gates records ++ b) shut.whole in
    as_many records hands shut.byte log.byte shut.rest log.rest (led_records 255 records [] (lists_behind records) read.leads)
    (hands_are l (recursion_from_All IsList l (led_lists [] 255 f.records l f.leads))) (sym here ∙ there) shut.closed log.closed
    ∙ length-map l Hand
