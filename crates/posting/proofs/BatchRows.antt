-- A prepared batch makes the rows of the ledger after its step.
use Rattle.std.proofs.Common.{◌≡◌, ◌⊎◌, inl, inr, ℕ, ◌+◌, ◌≤◌, true, false, List, [], ◌∷◌, ◌++◌, length, Option, Some, None, IfSome, IsSome, refl, sym, ap, subst, ◌∙◌, arith, append_assoc}
use Rattle.keeper_api.specs.declared.rows.Change.{Change}
use Rattle.keeper_api.specs.Batch.{changed, IsBatch}
use Rattle.keeper_api.specs.Rows.{Rows}
use Rattle.keeper_api.specs.RowLaws.{AreApart, changed_append, tables_append}
use Rattle.std.specs.List.{All}
use Rattle.enq_base.specs.declared.unit.Num.{Num as Number}
use Rattle.enq_base.specs.declared.owner.UnitKey.{UnitKey}
use Rattle.module_effects.specs.declared.spot.Spot.{Spot}
use Rattle.update_records.specs.Business.{tables_of}
use Rattle.update_records.specs.Grammar.{IsKind, IsNumber, IsUnitKey}
use Rattle.update_records.specs.Growing.{next_mark, with_mark, with_unit}
use Rattle.update_records.specs.Ledger.{Ledger, no_ledger, map_rows, own, rows_of, IsLawful, StandFor}
use Rattle.update_records.specs.Marks.{draws_alone, status_of}
use Rattle.update_records.specs.RecordRows.{unit_rows, mark_row, meta_row}
use Rattle.update_records.specs.Spelling.{HasFields}
use Rattle.update_records.specs.declared.records.Mark.{Mark}
use Rattle.update_records.specs.declared.records.MarkKind.{MarkKind}
use Rattle.update_records.specs.declared.records.MarkKind.TheVariants.{Num, Rec, V1, Bad1, Again1, V2, Bad2, Again2, Gone}
use Rattle.update_records.specs.declared.records.Unit.{Unit as UnitOfWork}
use Rattle.ledger_steps.specs.Posts.{HasDistinctRows, IsNote, note_changes, row_changes}
use Rattle.ledger_steps.specs.Intervals.{HasDistinctIntervals, MayStore, draw_changes, interval_rows, with_intervals}
use Rattle.ledger_steps.specs.Steps.{IsDrawing, IsNewUnit, HasMarksLeft, IsSpelt, MayGet}
use Rattle.update_records.specs.declared.stored.StoredInterval.{StoredInterval}
use Rattle.record_laws.proofs.Books.{unit_batch, unit_in, unit_written, mark_written, is_book_table, is_business_table}
use Rattle.record_laws.proofs.Apart.{unit_own, unit_changes, own_append, own_keys, distinct_append, none_distinct, closing_distinct, tables_apart, is_closing_table, at_number}
use Rattle.posting.proofs.LawfulLedger.{draw_lawful, level_lawful, unit_lawful, note_lawful}
use Rattle.posting.proofs.lemmas.LevelRows.{levels_behind, levels_own, levels_written}
use Rattle.record_laws.proofs.Own.{AreOwn, own_changed}
use Rattle.posting.proofs.PostedRows.{rows_are, rows_distinct, rows_in, rows_own}
use Rattle.posting.proofs.RegisterAgrees.{may_not_draw}
use Rattle.record_laws.proofs.Status.{none_of}

-- a ledger with a start number is lawful
started_lawful : (ledger : Ledger) → 1 ≤ ledger.start → (ledger ≡ no_ledger) ⊎ IsLawful ledger → IsLawful ledger
started_lawful ledger h known = elim known [
  | inl none ↦ let zero_start : ledger.start ≡ 0 = ap (λ (l : Ledger). l.start) none in absurd (omega arith)
  | inr law ↦ law
]

-- intervals behind a batch that makes a ledger
behind : (rows : Rows) (ledger after : Ledger) (batch : List Change) (intervals : List StoredInterval) → AreOwn batch
    → changed batch (rows_of ledger) ≡ rows_of after → own rows ≡ rows_of ledger
    → own (changed (batch ++ interval_rows intervals) rows) ≡ rows_of (with_intervals intervals after)
behind rows ledger after batch intervals all_own made exact =
    own_changed (batch ++ interval_rows intervals) rows (own_append batch (interval_rows intervals) all_own (levels_own intervals))
    ∙ ap (changed (batch ++ interval_rows intervals)) exact ∙ changed_append batch (interval_rows intervals) (rows_of ledger)
    ∙ ap (changed (interval_rows intervals)) made ∙ levels_written intervals after

unit_stands : (rows : Rows) (ledger : Ledger) (unit : UnitOfWork) (intervals : List StoredInterval) → HasMarksLeft ledger → IsNewUnit ledger unit
    → MayStore ledger intervals unit.numbers → IsSpelt unit → StandFor rows ledger
    → StandFor (changed (unit_batch ledger unit ++ interval_rows intervals) rows) (with_intervals intervals (with_unit ledger unit))
unit_stands rows ledger unit intervals few new may spelt h =
    let started : 1 ≤ ledger.start = omega (arith, new.first, new.last) in
    let none = none_of _ unit.key ledger.marks new.fresh in
    record {
      exact = behind rows ledger (with_unit ledger unit) (unit_batch ledger unit) intervals
          (unit_own unit ledger.start (length ledger.marks + 1) (next_mark ledger unit.key Rec)) (unit_written ledger unit started none) h.exact;
      lawful = inr (unit_lawful ledger unit intervals (started_lawful ledger started h.lawful) few new may spelt);
    }

pub pushed_two : {X : Type 0} (old mid new : List X) (x y first second : X) → mid ≡ old ++ x ∷ [] → new ≡ mid ++ y ∷ [] → x ≡ first → y ≡ second
    → new ≡ old ++ first ∷ second ∷ []
pushed_two old mid new x y first second a b is_first is_second =
    b ∙ ap (λ m. m ++ y ∷ []) a ∙ append_assoc old (x ∷ []) (y ∷ []) ∙ ap (λ z. old ++ z ∷ y ∷ []) is_first ∙ ap (λ z. old ++ first ∷ z ∷ []) is_second

abbrev pub unit_rows_at : ℕ → ℕ → UnitOfWork → List StoredInterval → List Change
unit_rows_at start n unit intervals = (unit_rows unit ++ mark_row (record { seq = n + 1; unit = unit.key; kind = Rec }) ∷ meta_row start (n + 1) ∷ [])
    ++ interval_rows intervals

pub unit_makes : (held : Option Rows) (ledger : Ledger) (unit : UnitOfWork) (intervals copies : List StoredInterval) (batch : List Change) (start n : ℕ)
    → HasMarksLeft ledger → IsNewUnit ledger unit → MayStore ledger intervals unit.numbers → IsSpelt unit
    → start ≡ ledger.start → n ≡ length ledger.marks → copies ≡ intervals → batch ≡ unit_rows_at start n unit intervals
    → IfSome held (λ rows. StandFor rows ledger) → IfSome held (λ rows. StandFor (changed batch rows) (with_intervals copies (with_unit ledger unit)))
unit_makes None ledger unit intervals copies batch start n few new may spelt s m all is h = tt
unit_makes (Some rows) ledger unit intervals copies batch start n few new may spelt s m all is h =
    subst (λ ls. StandFor (changed batch rows) (with_intervals ls (with_unit ledger unit))) (sym all)
    (subst (λ b. StandFor (changed b rows) (with_intervals intervals (with_unit ledger unit)))
    (sym (is ∙ ap (λ k. unit_rows_at k n unit intervals) s ∙ ap (λ k. unit_rows_at ledger.start k unit intervals) m))
    (unit_stands rows ledger unit intervals few new may spelt h))

pub unit_is_batch : (ledger : Ledger) (unit : UnitOfWork) (intervals : List StoredInterval) (batch : List Change) (start n : ℕ) → IsNewUnit ledger unit
    → HasDistinctIntervals intervals → batch ≡ unit_rows_at start n unit intervals → IsBatch batch
unit_is_batch ledger unit intervals batch start n new apart is =
    let m : Mark = record { seq = n + 1; unit = unit.key; kind = Rec } in
    let close = mark_row m ∷ meta_row start (n + 1) ∷ [] in
    subst IsBatch (sym is)
    (levels_behind (unit_rows unit ++ close) intervals (unit_own unit start (n + 1) m) (unit_changes unit new.few_entries new.few start (n + 1) m).distinct
    (tables_append is_book_table (unit_rows unit) close (unit_in is_book_table refl refl refl refl unit) (refl, (refl, tt))) apart)

-- ---- numbers alone, and intervals alone

close_own : (start : ℕ) (m : Mark) → AreOwn (mark_row m ∷ meta_row start m.seq ∷ [])
close_own start m = (refl, (refl, tt))

pub draw_is_batch : (start : ℕ) (m : Mark) (intervals : List StoredInterval) (batch : List Change) → HasDistinctIntervals intervals
    → batch ≡ draw_changes start m intervals → IsBatch batch
draw_is_batch start m intervals batch apart is =
    subst IsBatch (sym is)
    (levels_behind (mark_row m ∷ meta_row start m.seq ∷ []) intervals (close_own start m) (closing_distinct start m.seq m) (refl, (refl, tt)) apart)

draw_stands : (rows : Rows) (ledger : Ledger) (key : UnitKey) (numbers : List Number) (intervals : List StoredInterval) → HasMarksLeft ledger
    → IsDrawing ledger key numbers → MayStore ledger intervals numbers → IsUnitKey key → All IsNumber numbers → StandFor rows ledger
    → StandFor (changed (draw_changes ledger.start (next_mark ledger key (Num numbers)) intervals) rows)
    (with_intervals intervals (with_mark ledger key (Num numbers)))
draw_stands rows ledger key numbers intervals few draws may spelt each h =
    let m = next_mark ledger key (Num numbers) in
    let started : 1 ≤ ledger.start = omega (arith, draws.first, draws.last) in
    record {
      exact = behind rows ledger (with_mark ledger key (Num numbers)) (mark_row m ∷ meta_row ledger.start m.seq ∷ []) intervals (close_own ledger.start m)
          (mark_written ledger key (Num numbers) [] started tt refl) h.exact;
      lawful = inr (draw_lawful ledger key numbers intervals (started_lawful ledger started h.lawful) few draws may spelt each);
    }

pub draw_makes : (held : Option Rows) (ledger : Ledger) (key : UnitKey) (numbers copy : List Number) (intervals copies : List StoredInterval)
    (batch : List Change) (start : ℕ) (m : Mark) → HasMarksLeft ledger → IsDrawing ledger key numbers → MayStore ledger intervals numbers
    → IsUnitKey m.unit → HasFields m.kind → start ≡ ledger.start → m ≡ next_mark ledger key (Num numbers) → copy ≡ numbers → copies ≡ intervals
    → batch ≡ draw_changes start m intervals → IfSome held (λ rows. StandFor rows ledger)
    → IfSome held (λ rows. StandFor (changed batch rows) (with_intervals copies (with_mark ledger key (Num copy))))
draw_makes None ledger key numbers copy intervals copies batch start m few draws may unit fields s is same all made h = tt
draw_makes (Some rows) ledger key numbers copy intervals copies batch start m few draws may unit fields s is same all made h =
    let spelt = subst (λ (x : Mark). IsUnitKey x.unit) is unit in
    let each = subst (λ (x : Mark). HasFields x.kind) is fields in
    subst (λ ns. StandFor (changed batch rows) (with_intervals copies (with_mark ledger key (Num ns)))) (sym same)
    (subst (λ ls. StandFor (changed batch rows) (with_intervals ls (with_mark ledger key (Num numbers)))) (sym all)
    (subst (λ b. StandFor (changed b rows) (with_intervals intervals (with_mark ledger key (Num numbers))))
    (sym (made ∙ ap (λ n. draw_changes n m intervals) s ∙ ap (λ x. draw_changes ledger.start x intervals) is))
    (draw_stands rows ledger key numbers intervals few draws may spelt each.each h)))

pub level_is_batch : (intervals : List StoredInterval) (batch : List Change) → HasDistinctIntervals intervals → batch ≡ interval_rows intervals → IsBatch batch
level_is_batch intervals batch apart is = subst IsBatch (sym is) (levels_behind [] intervals tt none_distinct tt apart)

level_stands : (rows : Rows) (ledger : Ledger) (intervals : List StoredInterval) → 1 ≤ ledger.start → MayStore ledger intervals [] → StandFor rows ledger
    → StandFor (changed (interval_rows intervals) rows) (with_intervals intervals ledger)
level_stands rows ledger intervals started may h = record {
  exact = behind rows ledger ledger [] intervals tt refl h.exact;
  lawful = inr (level_lawful ledger intervals (started_lawful ledger started h.lawful) may);
}

pub level_makes : (held : Option Rows) (ledger : Ledger) (interval : StoredInterval) (batch : List Change) → 1 ≤ ledger.start
    → MayStore ledger (interval ∷ []) [] → batch ≡ interval_rows (interval ∷ []) → IfSome held (λ rows. StandFor rows ledger)
    → IfSome held (λ rows. StandFor (changed batch rows) (with_intervals (interval ∷ []) ledger))
level_makes None ledger interval batch started may is h = tt
level_makes (Some rows) ledger interval batch started may is h = subst (λ b. StandFor (changed b rows) (with_intervals (interval ∷ []) ledger)) (sym is)
    (level_stands rows ledger (interval ∷ []) started may h)

business_and_closing : AreApart is_business_table is_closing_table
business_and_closing n a b = let h : is_closing_table 6 ≡ true = at_number is_closing_table 6 n a b in cc

-- ---- one more mark

recorded_lawful : (ledger : Ledger) (key : UnitKey) (kind : MarkKind) → MayGet ledger key kind → (ledger ≡ no_ledger) ⊎ IsLawful ledger → IsLawful ledger
recorded_lawful ledger key kind may known = elim known [
  | inl none ↦ let nothing : IsSome (status_of (no_ledger).units (no_ledger).marks key) =
      subst (λ (l : Ledger). IsSome (status_of l.units l.marks key)) none may.recorded in cc
  | inr law ↦ law
]

note_own : (start : ℕ) (spots : List Spot) (m : Mark) → AreOwn (note_changes start spots m)
note_own start spots m = own_append (row_changes spots) (mark_row m ∷ meta_row start m.seq ∷ []) (rows_own spots) (refl, (refl, tt))

pub note_is_batch : (start : ℕ) (spots : List Spot) (m : Mark) (batch : List Change) → HasDistinctRows spots → batch ≡ note_changes start spots m
    → IsBatch batch
note_is_batch start spots m batch distinct is = subst IsBatch (sym is) (record {
  keys = own_keys (note_changes start spots m) (note_own start spots m);
  distinct = distinct_append (row_changes spots) (mark_row m ∷ meta_row start m.seq ∷ []) (rows_distinct spots distinct) (closing_distinct start m.seq m)
      (tables_apart is_business_table is_closing_table business_and_closing (row_changes spots) (mark_row m ∷ meta_row start m.seq ∷ []) (rows_in spots)
      (refl, (refl, tt)));
})

is_kind : (kind : MarkKind) → draws_alone kind ≡ false → HasFields kind → IsKind kind
is_kind (Num numbers) h is = cc
is_kind Rec h is = tt
is_kind V1 h is = tt
is_kind (Bad1 i r) h is = is
is_kind Again1 h is = tt
is_kind V2 h is = tt
is_kind (Bad2 i r) h is = is
is_kind Again2 h is = tt
is_kind Gone h is = tt

note_stands : (rows : Rows) (ledger : Ledger) (key : UnitKey) (kind : MarkKind) (spots : List Spot) → HasMarksLeft ledger → MayGet ledger key kind
    → HasFields kind → HasDistinctRows spots → IsNote ledger (next_mark ledger key kind) spots → StandFor rows ledger
    → StandFor (changed (note_changes ledger.start spots (next_mark ledger key kind)) rows) (with_mark ledger key kind)
note_stands rows ledger key kind spots few may fields distinct note h =
    let m = next_mark ledger key kind in
    let law = recorded_lawful ledger key kind may h.lawful in
    let tables = tables_of ledger.units ledger.marks in
    record {
      exact = own_changed (note_changes ledger.start spots m) rows (note_own ledger.start spots m) ∙ ap (changed (note_changes ledger.start spots m)) h.exact
          ∙ mark_written ledger key kind (row_changes spots) law.started (rows_in spots)
          (rows_are ledger.levels spots tables distinct ∙ ap (map_rows ledger.levels) (sym note.leaves));
      lawful = inr (note_lawful ledger key kind law few may (is_kind kind (may_not_draw ledger key kind may) fields) note.right);
    }

pub note_makes : (held : Option Rows) (ledger : Ledger) (key : UnitKey) (kind : MarkKind) (spots : List Spot) (batch : List Change) (start : ℕ) (m : Mark)
    → HasMarksLeft ledger → MayGet ledger key kind → HasFields kind → HasDistinctRows spots
    → start ≡ ledger.start → m ≡ next_mark ledger key kind → batch ≡ note_changes start spots m
    → IsNote ledger (next_mark ledger key kind) spots → IfSome held (λ rows. StandFor rows ledger)
    → IfSome held (λ rows. StandFor (changed batch rows) (with_mark ledger key kind))
note_makes None ledger key kind spots batch start m few may fields distinct s is made note h = tt
note_makes (Some rows) ledger key kind spots batch start m few may fields distinct s is made note h =
    subst (λ b. StandFor (changed b rows) (with_mark ledger key kind))
    (sym (made ∙ ap (λ n. note_changes n spots m) s ∙ ap (note_changes ledger.start spots) is))
    (note_stands rows ledger key kind spots few may fields distinct note h)
