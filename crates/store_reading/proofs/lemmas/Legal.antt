-- What it says of marks that none of them is wrong.
use Rattle.std.proofs.Common.{◌≡◌, ℕ, ◌+◌, Bool, true, false, not, cond, ◌&&◌, nat_le, List, [], ◌∷◌, ◌++◌, length, Some, None, refl, sym, ap, subst, ◌∙◌}
use Rattle.std.proofs.Common.{append_assoc, map, length-append, Option, suc}
use Rattle.std.specs.List.{All, range_with_len}
use Rattle.std.specs.Option.{option_or}
use Rattle.std.proofs.lemmas.Bool.{eqb-true, leb-true}
use Rattle.std.proofs.lemmas.List.{append-nil}
use Rattle.std.proofs.lemmas.List.Elements.{All-cons, All-from_recursion, All-head, All-tail}
use Rattle.enq_base.specs.declared.owner.UnitKey.{UnitKey}
use Rattle.update_records.specs.Grammar.{IsKind}
use Rattle.update_records.specs.Ledger.{IsMarkUnder}
use Rattle.update_records.specs.Spelling.{HasFields, IsRecord}
use Rattle.update_records.specs.declared.records.Mark.{Mark}
use Rattle.update_records.specs.declared.records.MarkKind.{MarkKind}
use Rattle.update_records.specs.declared.records.MarkKind.TheVariants.{Num, Rec, V1, Bad1, Again1, V2, Bad2, Again2, Gone}
use Rattle.update_records.specs.Marks.{has_no_v2, may_follow, status_after, IsLegalAfter}
use Rattle.update_records.specs.declared.records.Unit.{Unit as UnitOfWork}
use Rattle.update_records.specs.declared.stored.Record.{Record}
use Rattle.update_records.specs.declared.stored.Record.TheVariants as rec
use Rattle.store_reading.specs.First.{first_wrong, AreRight, IsFirstWrong}
use Rattle.store_reading.specs.Rules.{has_number, has_second, is_right_mark, marks_in, status_in}
use Rattle.store_reading.specs.Units.{is_right_unit, unit_fault}
use Rattle.store_reading.specs.declared.rules.Place.{Place}
use Rattle.store_reading.proofs.lemmas.Statuses.{marks_push}

abbrev Test : Type 0
Test = List Record → Record → Bool

-- ---- no wrong record

pub all_right : (is_right : Test) (table : ℕ) (before records : List Record) → first_wrong is_right table before records ≡ None
    → AreRight is_right before records
all_right is_right table before [] h = tt
all_right is_right table before (r ∷ records) h =
    elim (is_right before r)
    as (λ b. is_right before r ≡ b → cond b (first_wrong is_right table (before ++ r ∷ []) records)
    (Some (record { table = table; row = length before + 1 })) ≡ None → AreRight is_right before (r ∷ records)) [
      | true ↦ λ is e. (is, all_right is_right table (before ++ r ∷ []) records e)
      | false ↦ λ is e. cc
    ] refl h

pub none_wrong : (is_right : Test) (table : ℕ) (before records : List Record) → AreRight is_right before records
    → first_wrong is_right table before records ≡ None
none_wrong is_right table before [] h = refl
none_wrong is_right table before (r ∷ records) h =
    ap (λ b. cond b (first_wrong is_right table (before ++ r ∷ []) records) (Some (record { table = table; row = length before + 1 }))) h.0
    ∙ none_wrong is_right table (before ++ r ∷ []) records h.1

-- ---- the first wrong record

right_push : (is_right : Test) (before records : List Record) (r : Record) → AreRight is_right before records → is_right (before ++ records) r ≡ true
    → AreRight is_right before (records ++ r ∷ [])
right_push is_right before [] r h here = (subst (λ xs. is_right xs r ≡ true) (append-nil before) here, tt)
right_push is_right before (x ∷ records) r h here =
    (h.0, right_push is_right (before ++ x ∷ []) records r h.1 (subst (λ xs. is_right xs r ≡ true) (sym (append_assoc before (x ∷ []) records)) here))

some_is : (a b : Place) → Some a ≡ Some b → b ≡ a
some_is a b h = cc

pub is_first : (is_right : Test) (table : ℕ) (before records : List Record) (place : Place) → AreRight is_right [] before
    → first_wrong is_right table before records ≡ Some place
    → IsFirstWrong is_right table (before ++ records) place
is_first is_right table before [] place done h = cc
is_first is_right table before (r ∷ records) place done h =
    elim (is_right before r)
    as (λ b. is_right before r ≡ b → cond b (first_wrong is_right table (before ++ r ∷ []) records)
    (Some (record { table = table; row = length before + 1 })) ≡ Some place
    → IsFirstWrong is_right table (before ++ r ∷ records) place) [
      | true ↦ λ is e. subst (λ xs. IsFirstWrong is_right table xs place) (append_assoc before (r ∷ []) records)
          (is_first is_right table (before ++ r ∷ []) records place (right_push is_right [] before r done is) e)
      | false ↦ λ is e. record { front = before; wrong = r; rest = records; whole = refl; right = done; fails = is; there = some_is _ place e }
    ] refl h

-- ---- marks

pub second_true : (a b : Bool) → (a && b) ≡ true → b ≡ true
second_true true b h = h
second_true false b h = cc

-- where no mark is wrong, each is legal among units whose headers these are
pub legal_from : (start : ℕ) (headers : List Record) (units : List UnitOfWork) (before records : List Record)
    → ((key : UnitKey) → has_no_v2 units key ≡ not (has_second headers key))
    → AreRight (is_right_mark start headers) before records → IsLegalAfter units (marks_in before) (marks_in records)
legal_from start headers units before [] same h = tt
legal_from start headers units before (rec.Mark m ∷ records) same h =
    let follows : may_follow (status_in headers (marks_in before) m.unit) m.kind ≡ true =
    second_true (nat_le m.unit.start start) _ (second_true (nat_le 1 m.unit.start) _ h.0) in (
      ap (λ b. may_follow (status_after b m.unit None (marks_in before)) m.kind) (same m.unit) ∙ follows,
      subst (λ ms. IsLegalAfter units ms (marks_in records)) (marks_push before m)
          (legal_from start headers units (before ++ rec.Mark m ∷ []) records same h.1),
    )
legal_from start headers units before (rec.Meta s n ∷ records) same h = let odd : false ≡ true = h.0 in cc
legal_from start headers units before (rec.Header u user v1 v2 locks numbers ∷ records) same h = let odd : false ≡ true = h.0 in cc
legal_from start headers units before (rec.Module u part count ∷ records) same h = let odd : false ≡ true = h.0 in cc
legal_from start headers units before (rec.Step u part index effect ∷ records) same h = let odd : false ≡ true = h.0 in cc
legal_from start headers units before (rec.Level object nr from to level buffered ∷ records) same h = let odd : false ≡ true = h.0 in cc
legal_from start headers units before (rec.Business table key text ∷ records) same h = let odd : false ≡ true = h.0 in cc
legal_from start headers units before (rec.Lock u index table mode count pattern ∷ records) same h = let odd : false ≡ true = h.0 in cc

-- ---- their numbers

numbered_from : (before records : List Record) → AreRight (λ before. has_number (length before + 1)) before records
    → map (λ (m : Mark). m.seq) (marks_in records) ≡ range_with_len (length before + 1) (length records)
numbered_from before [] h = refl
numbered_from before (rec.Mark m ∷ records) h =
    let longer : length (before ++ rec.Mark m ∷ []) ≡ length before + 1 = length-append before (rec.Mark m ∷ []) in
    let rest = numbered_from (before ++ rec.Mark m ∷ []) records h.1 in
    ap (λ xs. m.seq ∷ xs) (rest ∙ ap (λ n. range_with_len (n + 1) (length records)) longer)
    ∙ ap (λ n. n ∷ range_with_len (length before + 1 + 1) (length records)) (eqb-true m.seq (length before + 1) h.0)
numbered_from before (rec.Meta s n ∷ records) h = let odd : false ≡ true = h.0 in cc
numbered_from before (rec.Header u user v1 v2 locks numbers ∷ records) h = let odd : false ≡ true = h.0 in cc
numbered_from before (rec.Module u part count ∷ records) h = let odd : false ≡ true = h.0 in cc
numbered_from before (rec.Step u part index effect ∷ records) h = let odd : false ≡ true = h.0 in cc
numbered_from before (rec.Level object nr from to level buffered ∷ records) h = let odd : false ≡ true = h.0 in cc
numbered_from before (rec.Business table key text ∷ records) h = let odd : false ≡ true = h.0 in cc
numbered_from before (rec.Lock u index table mode count pattern ∷ records) h = let odd : false ≡ true = h.0 in cc

pub all_marks : (before records : List Record) → AreRight (λ before. has_number (length before + 1)) before records → length (marks_in records) ≡ length records
all_marks before [] h = refl
all_marks before (rec.Mark m ∷ records) h = ap suc (all_marks (before ++ rec.Mark m ∷ []) records h.1)
all_marks before (rec.Meta s n ∷ records) h = let odd : false ≡ true = h.0 in cc
all_marks before (rec.Header u user v1 v2 locks numbers ∷ records) h = let odd : false ≡ true = h.0 in cc
all_marks before (rec.Module u part count ∷ records) h = let odd : false ≡ true = h.0 in cc
all_marks before (rec.Step u part index effect ∷ records) h = let odd : false ≡ true = h.0 in cc
all_marks before (rec.Level object nr from to level buffered ∷ records) h = let odd : false ≡ true = h.0 in cc
all_marks before (rec.Business table key text ∷ records) h = let odd : false ≡ true = h.0 in cc
all_marks before (rec.Lock u index table mode count pattern ∷ records) h = let odd : false ≡ true = h.0 in cc

pub numbered : (records : List Record) → AreRight (λ before. has_number (length before + 1)) [] records
    → map (λ (m : Mark). m.seq) (marks_in records) ≡ range_with_len 1 (length (marks_in records))
numbered records h = numbered_from [] records h ∙ ap (range_with_len 1) (sym (all_marks [] records h))

-- ---- their units and kinds

pub first_true : (a b : Bool) → (a && b) ≡ true → a ≡ true
first_true true b h = refl
first_true false b h = cc

kind_of : (headers modules steps locks : List Record) (m : Mark) (kind : MarkKind) → m.kind ≡ kind → HasFields kind
    → is_right_unit headers modules steps locks (rec.Mark m) ≡ true → IsKind kind
kind_of headers modules steps locks m (Num numbers) is has right =
    let few : (nat_le 1 (length numbers) && nat_le (length numbers) 64) ≡ true =
    ap (λ (k : MarkKind). is_right_unit headers modules steps locks (rec.Mark (record m { kind = k }))) (sym is) ∙ right in (
      leb-true 1 (length numbers) (first_true (nat_le 1 (length numbers)) _ few),
      leb-true (length numbers) 64
          (second_true (nat_le 1 (length numbers)) _ few),
      has.each,
    )
kind_of headers modules steps locks m Rec is has right = tt
kind_of headers modules steps locks m V1 is has right = tt
kind_of headers modules steps locks m (Bad1 index reason) is has right = has
kind_of headers modules steps locks m Again1 is has right = tt
kind_of headers modules steps locks m V2 is has right = tt
kind_of headers modules steps locks m (Bad2 index reason) is has right = has
kind_of headers modules steps locks m Again2 is has right = tt
kind_of headers modules steps locks m Gone is has right = tt

under_one : (start : ℕ) (headers modules steps locks before : List Record) (m : Mark) → IsRecord (rec.Mark m)
    → is_right_mark start headers before (rec.Mark m) ≡ true
    → is_right_unit headers modules steps locks (rec.Mark m) ≡ true → IsMarkUnder start m
under_one start headers modules steps locks before m grammar right whole =
    let within = second_true (nat_le 1 m.unit.start) _ right in
    record {
      kind = kind_of headers modules steps locks m m.kind refl grammar.2 whole;
      first = leb-true 1 m.unit.start (first_true (nat_le 1 m.unit.start) _ right);
      last = leb-true m.unit.start start (first_true (nat_le m.unit.start start) _ within);
      session = grammar.1.session;
      luw = grammar.1.luw;
    }

pub under_from : (start : ℕ) (headers modules steps locks before records : List Record) → All IsRecord records
    → AreRight (is_right_mark start headers) before records
    → AreRight (λ before. is_right_unit headers modules steps locks) before records → All (IsMarkUnder start) (marks_in records)
under_from start headers modules steps locks before [] each h whole = All-from_recursion (IsMarkUnder start) [] tt
under_from start headers modules steps locks before (rec.Mark m ∷ records) each h whole =
    All-cons (IsMarkUnder start) m (marks_in records)
    (under_one start headers modules steps locks before m (All-head IsRecord (rec.Mark m) records each) h.0 whole.0)
    (under_from start headers modules steps locks (before ++ rec.Mark m ∷ []) records (All-tail IsRecord (rec.Mark m) records each) h.1 whole.1)
under_from start headers modules steps locks before (rec.Meta s n ∷ records) each h whole = let odd : false ≡ true = h.0 in cc
under_from start headers modules steps locks before (rec.Header u user v1 v2 c numbers ∷ records) each h whole = let odd : false ≡ true = h.0 in cc
under_from start headers modules steps locks before (rec.Module u part count ∷ records) each h whole = let odd : false ≡ true = h.0 in cc
under_from start headers modules steps locks before (rec.Step u part index effect ∷ records) each h whole = let odd : false ≡ true = h.0 in cc
under_from start headers modules steps locks before (rec.Level object nr from to level buffered ∷ records) each h whole = let odd : false ≡ true = h.0 in cc
under_from start headers modules steps locks before (rec.Business table key text ∷ records) each h whole = let odd : false ≡ true = h.0 in cc
under_from start headers modules steps locks before (rec.Lock u index table mode count pattern ∷ records) each h whole = let odd : false ≡ true = h.0 in cc

pub first_none : (a b : Option Place) → option_or a b ≡ None → a ≡ None
first_none None b h = refl
first_none (Some place) b h = cc

pub no_wrong_unit : (headers modules steps marks locks : List Record) → unit_fault headers modules steps marks locks ≡ None
    → AreRight (λ before. is_right_unit headers modules steps locks) [] marks
no_wrong_unit headers modules steps marks locks h =
    all_right (λ before. is_right_unit headers modules steps locks) 4 [] marks (first_none _ _ (first_none _ _ (first_none _ _ (first_none _ _ h))))
