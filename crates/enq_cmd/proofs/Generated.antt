-- The script that is made from a number is in order.
use Rattle.std.proofs.Common.{◌≡◌, ◌≢◌, ℕ, zero, suc, ◌+◌, ◌-◌, ◌*◌, ◌≤◌, ◌<◌, ◌^◌, true, false, List, [], ◌∷◌, ◌++◌, length, replicate, refl, sym, ap, ◌∙◌}
use Rattle.std.proofs.Common.{subst, arith, codes, decimal, nat_eq, append_assoc, length-append, lit<, ne_eqb}
use Rattle.std.specs.Prelude.{IsTrue, is_some, flat_map, nat_le}
use Rattle.std.specs.List.{AllByRecursion, list_all, range_with_len}
use Rattle.std.proofs.lemmas.Bool.{and_parts, and_from, le-leb}
use Rattle.std.proofs.lemmas.Bool.Decides.{nat_tests}
use Rattle.std.proofs.lemmas.Fmt.{decimal_digit, digits_decimal, length-decimal-le}
use Rattle.std.proofs.lemmas.List.{append-nil, length-replicate}
use Rattle.std.proofs.lemmas.List.Elements.{All-from_recursion, recursion_from_All}
use Rattle.std.proofs.lemmas.List.Folds.{list_all-append}
use Rattle.enq_base.proofs.lemmas.Numbers.{digits_model}
use Rattle.enq_base.specs.Grammar.{is_digit, is_key_byte, is_name, is_name_byte, is_text_byte}
use Rattle.enq_base.specs.declared.owner.Scope.TheVariants.{Two}
use Rattle.io_edge.specs.Lines.{lines_of, onto_first}
use Rattle.load_gen.specs.Script.{commit_line, header_line, item_line, line_text, lines_by, lines_of_unit, lock_line, logon_line, logon_lines, number_line}
use Rattle.load_gen.specs.Script.{order_digits, script_of, session, session_of, statistics_line, text_of, unit_lines, work_lines}
use Rattle.mode_rules.specs.declared.Mode.TheVariants.{E}
use Rattle.script_lang.proofs.lemmas.Again.{line_again}
use Rattle.script_lang.specs.Spelling.{Spells}
use Rattle.script_lang.specs.Spelling.{IsLine as IsScriptLine}
use Rattle.script_lang.specs.declared.script_line.RawValue.{RawValue}
use Rattle.script_lang.specs.declared.script_line.ScriptLine.{ScriptLine}
use Rattle.script_lang.specs.declared.script_line.ScriptLine.TheVariants as line
use Rattle.script_runner.specs.LineFaults.{IsFirstBad, IsFirstLong, IsToBlame}
use Rattle.script_runner.specs.Lines.{line_in}
use Rattle.script_runner.specs.Whole.{IsGood, IsScript}
use Rattle.script_runner.specs.declared.runner.Why.{Why}
use Rattle.script_runner.specs.declared.runner.Why.TheVariants.{Done, BadWords, BadLandscape, BadLine, SourceFault, SinkFault, LongLine, ManyLines, StoreFault}
use Rattle.script_runner.specs.declared.runner.Why.TheVariants.{BackupFault, BadStore, BadBackup, NoStart, NoMemory, LogFull}

-- ---- bytes of a line

-- bytes of a text
abbrev IsPlain : List ℕ → Type 0
IsPlain bs = list_all is_text_byte bs ≡ true

plain_both : (xs ys : List ℕ) → IsPlain xs → IsPlain ys → IsPlain (xs ++ ys)
plain_both xs ys h k = list_all-append is_text_byte xs ys ∙ rw (h, k) refl

broken_byte : (b : ℕ) → is_text_byte b ≡ true → b ≢ 10
broken_byte b h e = absurd (let t = subst (λ x. is_text_byte x ≡ true) e h in cc)

unbroken : (bs : List ℕ) → IsPlain bs → AllByRecursion (λ b. b ≢ 10) bs
unbroken [] h = tt
unbroken (b ∷ bs) h = let p = and_parts (is_text_byte b) (list_all is_text_byte bs) h in (broken_byte b p.0, unbroken bs p.1)

-- a line in front of other bytes
first_of : (xs rest : List ℕ) → IsPlain xs → lines_of (xs ++ 10 ∷ rest) ≡ xs ∷ lines_of rest
first_of [] rest h = refl
first_of (b ∷ bs) rest h =
    let p = and_parts (is_text_byte b) (list_all is_text_byte bs) h in
    let off : nat_eq b 10 ≡ false = ne_eqb b 10 (broken_byte b p.0) in
    rw off (ap (onto_first b) (first_of bs rest p.1))

name_text_byte : (b : ℕ) → is_name_byte b ≡ true → is_text_byte b ≡ true
name_text_byte b h = grind (arith, nat_tests)

plain_names : (bs : List ℕ) → list_all is_name_byte bs ≡ true → IsPlain bs
plain_names [] h = refl
plain_names (b ∷ bs) h = let p = and_parts (is_name_byte b) (list_all is_name_byte bs) h in
    and_from (is_text_byte b) (list_all is_text_byte bs) (name_text_byte b p.0) (plain_names bs p.1)

digit_name_byte : (b : ℕ) → is_digit b ≡ true → is_name_byte b ≡ true
digit_name_byte b h = grind (arith, nat_tests)

digit_key_byte : (b : ℕ) → is_digit b ≡ true → is_key_byte b ≡ true
digit_key_byte b h = grind (arith, nat_tests)

digit_names : (bs : List ℕ) → list_all is_digit bs ≡ true → list_all is_name_byte bs ≡ true
digit_names [] h = refl
digit_names (b ∷ bs) h = let p = and_parts (is_digit b) (list_all is_digit bs) h in
    and_from (is_name_byte b) (list_all is_name_byte bs) (digit_name_byte b p.0) (digit_names bs p.1)

digit_keys : (bs : List ℕ) → list_all is_digit bs ≡ true → list_all is_key_byte bs ≡ true
digit_keys [] h = refl
digit_keys (b ∷ bs) h = let p = and_parts (is_digit b) (list_all is_digit bs) h in
    and_from (is_key_byte b) (list_all is_key_byte bs) (digit_key_byte b p.0) (digit_keys bs p.1)

-- ---- digits

-- digits that a line has room for
record AreDigits (ds : List ℕ) : Type 0 where
  digits : list_all is_digit ds ≡ true
  few : length ds ≤ 20

plain_digits : (ds : List ℕ) → AreDigits ds → IsPlain ds
plain_digits ds h = plain_names ds (digit_names ds h.digits)

decimal_digits : (k : ℕ) → k < 2 ^ 32 → AreDigits (decimal k)
decimal_digits k small =
    record {
      digits = digits_decimal digits_model k (omega (arith, small));
      few =
          length-decimal-le 20 k (omega arith) (omega (arith, small)) (omega (arith, small));
    }

zeros : (n : ℕ) → list_all is_digit (replicate n 48) ≡ true
zeros zero = refl
zeros (suc n) = zeros n

padded_digits : (k : ℕ) → k < 2 ^ 32 → AreDigits (order_digits k)
padded_digits k small =
    let d = decimal_digits k small in
    let ten = length-decimal-le 10 k (omega arith) (omega (arith, small)) (omega (arith, small)) in
    record {
      digits = list_all-append is_digit (replicate (10 - length (decimal k)) 48) (decimal k) ∙ rw (zeros (10 - length (decimal k)), d.digits) refl;
      few = omega (arith, ten, length-append (replicate (10 - length (decimal k)) 48) (decimal k), length-replicate {A = ℕ} (10 - length (decimal k)) 48);
    }

-- ---- lines

known_line : (bytes : List ℕ) (l : ScriptLine) → IsScriptLine l → Spells bytes l → IsTrue (is_some (line_in bytes))
unfolding line_in
known_line bytes l h k = rw (line_again l bytes h k) refl

-- words whose text is a line that can be done
record EndsGood (words : List (List ℕ)) : Type 0 where
  line : List ℕ
  plain : IsPlain line
  text : line_text words ≡ line ++ 10 ∷ []
  good : IsGood line

good_plain : (bytes : List ℕ) → IsPlain bytes → length bytes ≤ 1024 → IsTrue (is_some (line_in bytes)) → IsGood bytes
good_plain bytes plain short known =
    record { fits = record { unbroken = All-from_recursion (λ b. b ≢ 10) bytes (unbroken bytes plain); fits = short }; known = known }

-- a session's name
record IsSession (s : List ℕ) : Type 0 where
  name : IsTrue (is_name s)
  plain : IsPlain s
  few : length s ≤ 21

session_named : (s : ℕ) → s < 2 ^ 32 → IsSession (session s)
session_named s small =
    let d = decimal_digits s small in
    record {
      name = and_from _ _ (digit_names (decimal s) d.digits) (short_name (decimal s) d.few);
      plain = plain_digits (decimal s) d;
      few = omega (arith, d.few);
    }
  where
    short_name : (ds : List ℕ) → length ds ≤ 20 → IsTrue (nat_le (length (83 ∷ ds)) 30)
    short_name ds few = le-leb (length (83 ∷ ds)) 30 (omega (arith, few))

-- a line of a session, with what stands behind its name
session_line : (s tail : List ℕ) (words : List (List ℕ)) (l : ScriptLine) → IsSession s → IsPlain tail → length tail ≤ 100
    → line_text words ≡ s ++ 32 ∷ (tail ++ 10 ∷ [])
    → IsScriptLine l → Spells (s ++ 32 ∷ tail) l → EndsGood words
session_line s tail words l h plain short text line spells = record {
  line = s ++ 32 ∷ tail;
  plain = plain_both s (32 ∷ tail) h.plain plain;
  text = text ∙ sym (append_assoc s (32 ∷ tail) (10 ∷ []));
  good = good_plain (s ++ 32 ∷ tail) (plain_both s (32 ∷ tail) h.plain plain) (omega (arith, h.few, short, length-append s (32 ∷ tail)))
      (known_line (s ++ 32 ∷ tail) l line spells);
}

logon_ends : (s : ℕ) → s < 2 ^ 32 → EndsGood (logon_line s)
unfolding line_text
logon_ends s small =
    let d = decimal_digits s small in
    let user = user_named (decimal s) d in
    session_line (session s) (codes "LOGON" ++ 32 ∷ (85 ∷ decimal s)) (logon_line s) (line.Logon (session s) (85 ∷ decimal s)) (session_named s small)
    (plain_digits (decimal s) d) (omega (arith, d.few)) refl
    ((session_named s small).name, user) refl
  where
    short_name : (ds : List ℕ) → length ds ≤ 20 → nat_le (length (85 ∷ ds)) 30 ≡ true
    short_name ds few = le-leb (length (85 ∷ ds)) 30 (omega (arith, few))

    user_named : (ds : List ℕ) → AreDigits ds → IsTrue (is_name (85 ∷ ds))
    user_named ds d = and_from _ _ (digit_names ds d.digits) (short_name ds d.few)

lock_ends : (s k : ℕ) → s < 2 ^ 32 → k < 2 ^ 32 → EndsGood (lock_line s k)
unfolding line_text
lock_ends s k small fits =
    let d = padded_digits k fits in
    let values : List RawValue = record { field = codes "MANDT"; raw = codes "100" } ∷ record { field = codes "ORDNR"; raw = order_digits k } ∷ [] in
    session_line (session s) (codes "ENQ EZORDER E 2 MANDT=100 ORDNR=" ++ order_digits k) (lock_line s k) (line.Enq (session s) (codes "EZORDER") E Two values)
    (session_named s small)
    (plain_digits (order_digits k) d) (omega (arith, d.few)) refl
    ((session_named s small).name, refl, ((refl, refl), ((refl, digit_keys (order_digits k) d.digits), tt)))
    (ap (λ ds. session s ++ 32 ∷ (codes "ENQ EZORDER E 2 MANDT=100 ORDNR=" ++ ds)) (sym (append-nil (order_digits k))))

number_ends : (s : ℕ) → s < 2 ^ 32 → EndsGood (number_line s)
unfolding line_text
number_ends s small =
    session_line (session s) (codes "NUM ZORDNR 01 N") (number_line s) (line.Num (session s) (codes "ZORDNR") (codes "01") (codes "N")) (session_named s small)
    refl (omega arith) refl ((session_named s small).name, refl, refl, refl) refl

header_ends : (s k : ℕ) → s < 2 ^ 32 → k < 2 ^ 32 → EndsGood (header_line s k)
unfolding line_text
header_ends s k small fits =
    let d = decimal_digits k fits in
    session_line (session s) (codes "V1 INS VBAK $N ORDER " ++ decimal k) (header_line s k)
    (line.Ins (session s) 1 (codes "VBAK") (codes "$N") (codes "ORDER " ++ decimal k)) (session_named s small)
    (plain_digits (decimal k) d) (omega (arith, d.few)) refl
    ((session_named s small).name, (omega arith, omega arith), refl, refl, plain_digits (decimal k) d) refl

item_ends : (s k : ℕ) → s < 2 ^ 32 → k < 2 ^ 32 → EndsGood (item_line s k)
unfolding line_text
item_ends s k small fits =
    let d = decimal_digits k fits in
    session_line (session s) (codes "V1 INS VBAP $N-10 ITEM " ++ decimal k) (item_line s k)
    (line.Ins (session s) 1 (codes "VBAP") (codes "$N-10") (codes "ITEM " ++ decimal k)) (session_named s small)
    (plain_digits (decimal k) d) (omega (arith, d.few)) refl
    ((session_named s small).name, (omega arith, omega arith), refl, refl, plain_digits (decimal k) d) refl

statistics_ends : (s : ℕ) → s < 2 ^ 32 → EndsGood (statistics_line s)
unfolding line_text
statistics_ends s small =
    session_line (session s) (codes "V2 ADD STAT ORDERS 1") (statistics_line s) (line.Add (session s) 2 (codes "STAT") (codes "ORDERS") (codes "1"))
    (session_named s small)
    refl (omega arith) refl ((session_named s small).name, (omega arith, omega arith), refl, refl, refl) refl

commit_ends : (s : ℕ) → s < 2 ^ 32 → EndsGood (commit_line s)
unfolding line_text
commit_ends s small =
    session_line (session s) (codes "COMMIT") (commit_line s) (line.Commit (session s)) (session_named s small)
    refl (omega arith) refl (session_named s small).name refl

worker_ends : (call : List ℕ) (l : ScriptLine) → IsPlain call → length call ≤ 100 → IsScriptLine l → Spells (codes "@1 " ++ call) l
    → EndsGood (codes "@1" ∷ call ∷ [])
unfolding line_text
worker_ends call l plain short is spells = record {
  line = codes "@1 " ++ call;
  plain = plain;
  text = refl;
  good = good_plain (codes "@1 " ++ call) plain (omega (arith, short)) (known_line (codes "@1 " ++ call) l is spells);
}

one_worker : IsScriptLine (line.Take1 1)
one_worker = (omega arith, omega arith)

one_digit : decimal 1 ≡ 49 ∷ []
one_digit = decimal_digit 1 (lit< tt)

work_ends : AllByRecursion EndsGood work_lines
work_ends =
    let take1 = worker_ends (codes "TAKE1") (line.Take1 1) refl (omega arith) one_worker (rw one_digit refl) in
    let do1 = worker_ends (codes "DO1") (line.Do1 1) refl (omega arith) one_worker (rw one_digit refl) in
    let take2 = worker_ends (codes "TAKE2") (line.Take2 1) refl (omega arith) one_worker (rw one_digit refl) in
    let do2 = worker_ends (codes "DO2") (line.Do2 1) refl (omega arith) one_worker (rw one_digit refl) in
    (take1, (do1, (take2, (do2, tt))))

unit_ends : (s k : ℕ) → s < 2 ^ 32 → k < 2 ^ 32 → AllByRecursion EndsGood (lines_by s k)
unit_ends s k small fits = (
  lock_ends s k small fits,
  (number_ends s small, (header_ends s k small fits, (item_ends s k small fits, (statistics_ends s small, (commit_ends s small, work_ends))))),
)

-- ---- the whole

both_end : (xs ys : List (List (List ℕ))) → AllByRecursion EndsGood xs → AllByRecursion EndsGood ys → AllByRecursion EndsGood (xs ++ ys)
both_end [] ys h k = k
both_end (x ∷ xs) ys h k = (h.0, both_end xs ys h.1 k)

-- the lines of n units from unit a on
units_end : (n a : ℕ) → a + n ≤ 10001 → AllByRecursion EndsGood (flat_map lines_of_unit (range_with_len a n))
units_end zero a h = tt
units_end (suc n) a h =
    both_end (lines_of_unit a) (flat_map lines_of_unit (range_with_len (a + 1) n)) (unit_ends (session_of a) a (omega arith) (omega (arith, h)))
    (units_end n (a + 1) (omega (arith, h)))

units_count : (n a : ℕ) → length (flat_map lines_of_unit (range_with_len a n)) ≡ 10 * n
units_count zero a = refl
units_count (suc n) a =
    let below = units_count n (a + 1) in
    let first = length-append (lines_of_unit a) (flat_map lines_of_unit (range_with_len (a + 1) n)) in
    omega (arith, below, first)

-- the lines of a text of such words
record HasGood (ls : List (List (List ℕ))) : Type 0 where
  each : AllByRecursion IsGood (lines_of (text_of ls))
  count : length (lines_of (text_of ls)) ≡ length ls

first_line_of : (words : List (List ℕ)) (rest : List ℕ) (h : EndsGood words) → lines_of (line_text words ++ rest) ≡ h.line ∷ lines_of rest
first_line_of words rest h =
    ap lines_of (ap (λ t. t ++ rest) h.text ∙ append_assoc h.line (10 ∷ []) rest) ∙ first_of h.line rest h.plain

has_good : (ls : List (List (List ℕ))) → AllByRecursion EndsGood ls → HasGood ls
has_good [] h = record { each = tt; count = refl }
has_good (words ∷ ls) h =
    let below = has_good ls h.1 in
    let is = first_line_of words (text_of ls) h.0 in
    record {
      each = subst (AllByRecursion IsGood) (sym is) (h.0.good, below.each);
      count = ap length is ∙ ap suc below.count;
    }

-- each line of the script can be done
pub is_script : (n : ℕ) → n ≤ 10000 → IsScript (script_of n)
is_script n few =
    let all : HasGood (logon_lines ++ unit_lines n) = has_good (logon_lines ++ unit_lines n) (
      logon_ends 1 (omega arith),
      (logon_ends 2 (omega arith), (logon_ends 3 (omega arith), (logon_ends 4 (omega arith), units_end n 1 (omega (arith, few))))),
    ) in
    record {
      each = All-from_recursion IsGood (lines_of (script_of n)) all.each;
      few = omega (arith, few, all.count, units_count n 1);
    }

-- ---- no line is to blame

good_at : (xs ys : List (List ℕ)) (line : List ℕ) → AllByRecursion IsGood (xs ++ line ∷ ys) → IsGood line
good_at [] ys line all = all.0
good_at (x ∷ xs) ys line all = good_at xs ys line all.1

good_line : (bytes : List ℕ) → IsScript bytes → (earlier later : List (List ℕ)) (line : List ℕ) → lines_of bytes ≡ earlier ++ line ∷ later → IsGood line
good_line bytes script earlier later line is = good_at earlier later line
    (subst (AllByRecursion IsGood) is (recursion_from_All IsGood (lines_of bytes) script.each))

none_bad : (bytes : List ℕ) (k : ℕ) → IsScript bytes → IsFirstBad k bytes → ⊥
none_bad bytes k script bad =
    let known = (good_line bytes script bad.earlier bad.at.later bad.line bad.at.lines).known in
    absurd (let none = subst (λ o. IsTrue (is_some o)) bad.bad known in cc)

none_long : (bytes : List ℕ) (k : ℕ) → IsScript bytes → IsFirstLong k bytes → ⊥
none_long bytes k script long =
    let fits = (good_line bytes script long.earlier long.at.later long.line long.at.lines).fits in
    omega (arith, fits.fits, long.long)

-- a script that is in order has no line that is to blame for an end
pub blameless : (bytes other : List ℕ) (why : Why) → IsScript bytes → IsToBlame why bytes → IsToBlame why other
blameless bytes other (BadLine k) script h = absurd (none_bad bytes k script h)
blameless bytes other (LongLine k) script h = absurd (none_long bytes k script h)
blameless bytes other ManyLines script h = absurd (omega (arith, h, script.few))
blameless bytes other Done script h = tt
blameless bytes other BadWords script h = tt
blameless bytes other (BadLandscape rule place) script h = tt
blameless bytes other SourceFault script h = tt
blameless bytes other SinkFault script h = tt
blameless bytes other (StoreFault k) script h = tt
blameless bytes other (BackupFault k) script h = tt
blameless bytes other (BadStore table row) script h = tt
blameless bytes other (BadBackup place) script h = tt
blameless bytes other NoStart script h = tt
blameless bytes other NoMemory script h = tt
blameless bytes other LogFull script h = tt
