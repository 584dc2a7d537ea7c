-- A ledger stays lawful with one unit more, and with one mark more of a recorded unit.
use Rattle.std.proofs.Common.{◌≡◌, ℕ, zero, suc, ◌+◌, Bool, true, false, cond, not, ◌&&◌, List, [], ◌∷◌, ◌++◌, map, length, if◌then◌else◌, Option, Some, None}
use Rattle.std.proofs.Common.{IsSome, IsOk, refl, sym, ap, subst, ◌∙◌, arith, length-append}
use Rattle.std.specs.List.{All, AllByRecursion, filter, range_with_len}
use Rattle.std.specs.Option.{option_map_or}
use Rattle.std.specs.FinMap.{empty}
use Rattle.std.proofs.lemmas.List.{append-nil}
use Rattle.std.proofs.lemmas.List.Elements.{All-push, recursion_from_All}
use Rattle.std.proofs.lemmas.Bool.{false≢true}
use Rattle.enq_base.specs.Owners.{same_unit}
use Rattle.enq_base.specs.declared.owner.UnitKey.{UnitKey}
use Rattle.enq_base.specs.declared.unit.Num.{Num as Number}
use Rattle.enq_base.specs.declared.unit.Status.{Status}
use Rattle.module_effects.specs.Rows.{Tables}
use Rattle.module_effects.specs.Effects.{applied}
use Rattle.update_records.specs.declared.records.Mark.{Mark}
use Rattle.update_records.specs.declared.records.MarkKind.{MarkKind}
use Rattle.update_records.specs.declared.records.MarkKind.TheVariants.{Num, Rec, V1, Bad1, Again1, V2, Bad2, Again2, Gone}
use Rattle.update_records.specs.declared.records.Unit.{Unit as UnitOfWork}
use Rattle.update_records.specs.Business.{posted, part_of, tables_after, tables_of, IsRightMark, AreRight, numbers_of}
use Rattle.update_records.specs.Grammar.{IsUnit, IsUnitKey, IsKind, IsNumber}
use Rattle.update_records.specs.Growing.{next_mark, with_mark, with_unit}
use Rattle.update_records.specs.Ledger.{Ledger, IsLawful, IsMarkUnder, LevelsAgree, recorded}
use Rattle.update_records.specs.Marks.{v1_of, v2_of, given, status_after, status_of, may_follow, is_rec, draws_alone}
use Rattle.ledger_steps.specs.Intervals.{MayStore, with_intervals, with_levels}
use Rattle.ledger_steps.specs.Steps.{IsDrawing, IsNewUnit, MayGet, HasMarksLeft, IsSpelt}
use Rattle.update_records.specs.declared.stored.StoredInterval.{StoredInterval}
use Rattle.record_laws.proofs.CommittedNumbers.{draws_nothing, numbers_push, numbers_recorded, numbers_same}
use Rattle.posting.proofs.RegisterAgrees.{may_not_draw}
use Rattle.record_laws.proofs.Books.{other_part, plain}
use Rattle.record_laws.proofs.Status.{NoneOf, none_of, unit_other, flip, legal_grows, legal_push, not_rec, status_grows, one_unit}
use Rattle.record_laws.proofs.UnmarkedUnits.{not_there}

range_push : (a n : ℕ) → range_with_len a n ++ (a + n) ∷ [] ≡ range_with_len a (n + 1)
range_push a zero = ap (λ k. k ∷ []) (omega arith)
range_push a (suc n) =
    let next : a + suc n ≡ (a + 1) + n = omega arith in
    let more : suc (n + 1) ≡ suc n + 1 = omega arith in
    ap (λ r. a ∷ r) (ap (λ k. range_with_len (a + 1) n ++ k ∷ []) next ∙ range_push (a + 1) n) ∙ ap (range_with_len a) more

seqs_push : (marks : List Mark) (m : Mark) → map (λ (x : Mark). x.seq) (marks ++ m ∷ []) ≡ map (λ (x : Mark). x.seq) marks ++ m.seq ∷ []
seqs_push [] m = refl
seqs_push (x ∷ marks) m = ap (λ r. x.seq ∷ r) (seqs_push marks m)

numbered_push : (marks : List Mark) (key : UnitKey) (kind : MarkKind) → map (λ (x : Mark). x.seq) marks ≡ range_with_len 1 (length marks)
    → map (λ (x : Mark). x.seq) (marks ++ (record { seq = length marks + 1; unit = key; kind = kind }) ∷ []) ≡ range_with_len 1
    (length (marks ++ (record { seq = length marks + 1; unit = key; kind = kind }) ∷ []))
numbered_push marks key kind h =
    let m : Mark = record { seq = length marks + 1; unit = key; kind = kind } in
    seqs_push marks m ∙ ap (λ s. s ++ (length marks + 1) ∷ []) h ∙ ap (λ k. range_with_len 1 (length marks) ++ k ∷ []) (omega arith)
    ∙ range_push 1 (length marks)
    ∙ ap (range_with_len 1) (sym (length-append marks (m ∷ [])))

keys_push : (units : List UnitOfWork) (u : UnitOfWork) → map (λ (x : UnitOfWork). x.key) (units ++ u ∷ []) ≡ map (λ (x : UnitOfWork). x.key) units ++ u.key ∷ []
keys_push [] u = refl
keys_push (x ∷ units) u = ap (λ r. x.key ∷ r) (keys_push units u)

keep_one : (b : Bool) (x : UnitKey) (m : Mark) (rest : List Mark) (more : List UnitKey) → x ≡ m.unit
    → map (λ (y : Mark). y.unit) (cond b (m ∷ rest) rest) ++ more ≡ cond b (x ∷ (map (λ (y : Mark). y.unit) rest ++ more))
    (map (λ (y : Mark). y.unit) rest ++ more)
keep_one true x m rest more is = ap (λ k. k ∷ (map (λ (y : Mark). y.unit) rest ++ more)) (sym is)
keep_one false x m rest more is = refl

split : (b : Bool) (x : Mark) (rest : List Mark) → map (λ (y : Mark). y.unit) (cond b (x ∷ rest) rest) ≡ cond b (x.unit ∷ map (λ (y : Mark). y.unit) rest)
    (map (λ (y : Mark). y.unit) rest)
split true x rest = refl
split false x rest = refl

pub recorded_push : (marks : List Mark) (m : Mark) → recorded (marks ++ m ∷ []) ≡ recorded marks ++ (if is_rec m.kind then m.unit ∷ [] else [])
recorded_push [] m = elim (is_rec m.kind) as (λ b. map (λ (y : Mark). y.unit) (cond b (m ∷ []) []) ≡ (if b then m.unit ∷ [] else []))
    [ true ↦ refl | false ↦ refl ]
recorded_push (x ∷ marks) m =
    let more = if is_rec m.kind then m.unit ∷ [] else [] in
    split (is_rec x.kind) x (filter (λ (y : Mark). is_rec y.kind) (marks ++ m ∷ []))
    ∙ ap (λ r. cond (is_rec x.kind) (x.unit ∷ r) r) (recorded_push marks m)
    ∙ sym (keep_one (is_rec x.kind) x.unit x (filter (λ (y : Mark). is_rec y.kind) marks) more refl)

right_push : (units : List UnitOfWork) (tables : Tables) (marks : List Mark) (m : Mark) → AreRight units tables marks
    → IsRightMark units (tables_after units tables marks) m → AreRight units tables (marks ++ m ∷ [])
right_push units tables [] m h last = (last, tt)
right_push units tables (x ∷ marks) m h last = (h.0, right_push units (posted (part_of units x) tables) marks m h.1 last)

other_v1 : (units : List UnitOfWork) (u : UnitOfWork) (key : UnitKey) → same_unit key u.key ≡ false → v1_of (units ++ u ∷ []) key ≡ v1_of units key
other_v1 units u key h = ap (λ o. option_map_or (λ (x : UnitOfWork). x.parts.v1) o []) (unit_other units u key (flip u.key key h))

other_v2 : (units : List UnitOfWork) (u : UnitOfWork) (key : UnitKey) → same_unit key u.key ≡ false → v2_of (units ++ u ∷ []) key ≡ v2_of units key
other_v2 units u key h = ap (λ o. option_map_or (λ (x : UnitOfWork). x.parts.v2) o []) (unit_other units u key (flip u.key key h))

other_right : (units : List UnitOfWork) (u : UnitOfWork) (tables : Tables) (seq : ℕ) (key : UnitKey) (kind : MarkKind)
    → (same_unit key u.key && not (draws_alone kind)) ≡ false
    → IsRightMark units tables (record { seq = seq; unit = key; kind = kind })
    → IsRightMark (units ++ u ∷ []) tables (record { seq = seq; unit = key; kind = kind })
other_right units u tables seq key V1 h r = subst (λ part. IsOk (applied part tables)) (sym (other_v1 units u key (plain (same_unit key u.key) h))) r
other_right units u tables seq key V2 h r = subst (λ part. IsOk (applied part tables)) (sym (other_v2 units u key (plain (same_unit key u.key) h))) r
other_right units u tables seq key (Bad1 i reason) h r = ap (λ part. applied part tables) (other_v1 units u key (plain (same_unit key u.key) h)) ∙ r
other_right units u tables seq key (Bad2 i reason) h r = ap (λ part. applied part tables) (other_v2 units u key (plain (same_unit key u.key) h)) ∙ r
other_right units u tables seq key (Num numbers) h r = tt
other_right units u tables seq key Rec h r = tt
other_right units u tables seq key Again1 h r = tt
other_right units u tables seq key Again2 h r = tt
other_right units u tables seq key Gone h r = tt

right_grows : (units : List UnitOfWork) (u : UnitOfWork) (tables : Tables) (marks : List Mark) → NoneOf u.key marks → AreRight units tables marks
    → AreRight (units ++ u ∷ []) tables marks
right_grows units u tables [] none h = tt
right_grows units u tables (m ∷ marks) none h = (
  other_right units u tables m.seq m.unit m.kind none.0 h.0,
  subst (λ part. AreRight (units ++ u ∷ []) (posted part tables) marks) (sym (other_part units u m.seq m.unit m.kind none.0))
      (right_grows units u (posted (part_of units m) tables) marks none.1 h.1),
)

new_unit : (ledger : Ledger) (unit : UnitOfWork) → IsNewUnit ledger unit → IsSpelt unit → IsUnit unit
new_unit ledger unit new spelt = record {
  key = spelt.key;
  user = spelt.user;
  some = new.some;
  few = new.few;
  first = spelt.first;
  second = spelt.second;
  few_numbers = new.few_numbers;
  numbers = spelt.numbers;
  few_entries = new.few_entries;
  entries = spelt.entries;
  distinct = new.distinct;
}

-- the ledger stays lawful with one unit more
pub unit_lawful : (ledger : Ledger) (unit : UnitOfWork) (intervals : List StoredInterval) → IsLawful ledger → HasMarksLeft ledger → IsNewUnit ledger unit
    → MayStore ledger intervals unit.numbers → IsSpelt unit → IsLawful (with_intervals intervals (with_unit ledger unit))
unit_lawful ledger unit intervals law few new may spelt =
    let m : Mark = next_mark ledger unit.key Rec in
    let units = ledger.units ++ unit ∷ [] in
    let none : NoneOf unit.key ledger.marks = none_of _ unit.key ledger.marks new.fresh in
    let absent = not_there ledger unit.key law.recorded none in
    let n = length-append ledger.marks (m ∷ []) in
    record {
      started = law.started;
      start = law.start;
      few = omega (arith, n, few);
      numbered = numbered_push ledger.marks unit.key Rec law.numbered;
      marks = All-push (IsMarkUnder ledger.start) ledger.marks m law.marks
          (record { kind = tt; first = new.first; last = new.last; session = spelt.key.session; luw = spelt.key.luw });
      legal = legal_push units [] ledger.marks m (legal_grows ledger.units unit [] ledger.marks tt none law.legal)
          (ap (λ s. may_follow s Rec) (status_grows ledger.units unit ledger.marks unit.key none ∙ new.fresh));
      units = All-push IsUnit ledger.units unit law.units (new_unit ledger unit new spelt);
      recorded = keys_push ledger.units unit ∙ ap (λ r. r ++ unit.key ∷ []) law.recorded ∙ sym (recorded_push ledger.marks m);
      right = right_push units empty ledger.marks m (right_grows ledger.units unit empty ledger.marks none law.right) tt;
      levels = subst (LevelsAgree (with_levels intervals ledger.levels)) (sym (numbers_recorded ledger.units unit ledger.marks m.seq none absent))
          (may.agree law.levels);
    }

known_key : (start seq : ℕ) (b : Bool) (key : UnitKey) (kind : MarkKind) (s : Status) (marks : List Mark) → IsKind kind
    → AllByRecursion (IsMarkUnder start) marks → status_after b key None marks ≡ Some s → IsMarkUnder start (record { seq = seq; unit = key; kind = kind })
known_key start seq b key kind s [] is all h = cc
known_key start seq b key kind s (m ∷ marks) is all h =
    elim (same_unit m.unit key)
    as (λ t. same_unit m.unit key ≡ t → status_after b key (if t then given b m.kind None else None) marks ≡ Some s
    → IsMarkUnder start (record { seq = seq; unit = key; kind = kind })) [
      | true ↦ λ e h2. subst (λ k. IsMarkUnder start (record { seq = seq; unit = k; kind = kind })) (one_unit m.unit key e)
          (record { kind = is; first = all.0.first; last = all.0.last; session = all.0.session; luw = all.0.luw })
      | false ↦ λ e h2. known_key start seq b key kind s marks is all.1 h2
    ] refl h

recorded_key : (start seq : ℕ) (b : Bool) (key : UnitKey) (kind : MarkKind) (o : Option Status) (marks : List Mark) → IsKind kind
    → AllByRecursion (IsMarkUnder start) marks → status_after b key None marks ≡ o → IsSome o
    → IsMarkUnder start (record { seq = seq; unit = key; kind = kind })
recorded_key start seq b key kind None marks is all h some = cc
recorded_key start seq b key kind (Some s) marks is all h some = known_key start seq b key kind s marks is all h

no_recording : (o : Option Status) (kind : MarkKind) → IsSome o → may_follow o kind ≡ true → is_rec kind ≡ false
no_recording None kind some h = cc
no_recording (Some s) kind some h = not_rec s kind h

no_rec_kind : (kind : MarkKind) → is_rec kind ≡ false → kind ≡ Rec → ⊥
no_rec_kind kind h e = false≢true (sym h ∙ ap is_rec e)

-- the ledger stays lawful with one more mark of a recorded unit
pub note_lawful : (ledger : Ledger) (key : UnitKey) (kind : MarkKind) → IsLawful ledger → HasMarksLeft ledger → MayGet ledger key kind → IsKind kind
    → IsRightMark ledger.units (tables_of ledger.units ledger.marks) (next_mark ledger key kind) → IsLawful (with_mark ledger key kind)
note_lawful ledger key kind law few may is right =
    let m : Mark = next_mark ledger key kind in
    let n = length-append ledger.marks (m ∷ []) in
    let no_rec : is_rec kind ≡ false = no_recording (status_of ledger.units ledger.marks key) kind may.recorded may.follows in
    record {
      started = law.started;
      start = law.start;
      few = omega (arith, n, few);
      numbered = numbered_push ledger.marks key kind law.numbered;
      marks = All-push (IsMarkUnder ledger.start) ledger.marks m law.marks
          (recorded_key ledger.start (length ledger.marks + 1) _ key kind (status_of ledger.units ledger.marks key) ledger.marks is
          (recursion_from_All (IsMarkUnder ledger.start) ledger.marks law.marks) refl may.recorded);
      legal = legal_push ledger.units [] ledger.marks m law.legal may.follows;
      units = law.units;
      recorded = law.recorded ∙ sym (append-nil (recorded ledger.marks)) ∙ ap (λ b. recorded ledger.marks ++ (if b then key ∷ [] else [])) (sym no_rec)
          ∙ sym (recorded_push ledger.marks m);
      right = right_push ledger.units empty ledger.marks m law.right right;
      levels = subst (LevelsAgree ledger.levels)
          (sym (numbers_same ledger.units ledger.marks m
          (draws_nothing ledger.units (length ledger.marks + 1) key kind (may_not_draw ledger key kind may) (no_rec_kind kind no_rec)))) law.levels;
    }

-- the ledger stays lawful with one mark more of numbers alone
pub draw_lawful : (ledger : Ledger) (key : UnitKey) (numbers : List Number) (intervals : List StoredInterval) → IsLawful ledger → HasMarksLeft ledger
    → IsDrawing ledger key numbers → MayStore ledger intervals numbers → IsUnitKey key → All IsNumber numbers
    → IsLawful (with_intervals intervals (with_mark ledger key (Num numbers)))
draw_lawful ledger key numbers intervals law few draws may spelt each =
    let m : Mark = next_mark ledger key (Num numbers) in
    let n = length-append ledger.marks (m ∷ []) in
    record {
      started = law.started;
      start = law.start;
      few = omega (arith, n, few);
      numbered = numbered_push ledger.marks key (Num numbers) law.numbered;
      marks = All-push (IsMarkUnder ledger.start) ledger.marks m law.marks
          (record { kind = (draws.some, draws.few, each); first = draws.first; last = draws.last; session = spelt.session; luw = spelt.luw });
      legal = legal_push ledger.units [] ledger.marks m law.legal (ap (λ s. may_follow s (Num numbers)) draws.fresh);
      units = law.units;
      recorded = law.recorded ∙ sym (append-nil (recorded ledger.marks)) ∙ sym (recorded_push ledger.marks m);
      right = right_push ledger.units empty ledger.marks m law.right tt;
      levels = subst (LevelsAgree (with_levels intervals ledger.levels)) (sym (numbers_push ledger.units ledger.marks m)) (may.agree law.levels);
    }

-- the ledger stays lawful with an interval stored anew
pub level_lawful : (ledger : Ledger) (intervals : List StoredInterval) → IsLawful ledger → MayStore ledger intervals []
    → IsLawful (with_intervals intervals ledger)
level_lawful ledger intervals law may = record {
  started = law.started;
  start = law.start;
  few = law.few;
  numbered = law.numbered;
  marks = law.marks;
  legal = law.legal;
  units = law.units;
  recorded = law.recorded;
  right = law.right;
  levels = subst (LevelsAgree (with_levels intervals ledger.levels)) (append-nil (numbers_of ledger.units ledger.marks)) (may.agree law.levels);
}
