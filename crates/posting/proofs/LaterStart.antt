-- A store at a later start.
use Rattle.std.proofs.Common.{◌≡◌, ℕ, ◌+◌, ◌^◌, ◌≤◌, ◌<◌, List, [], ◌∷◌, length, map, Option, Some, None, IfSome, inl, inr, refl, sym, ap, subst, ◌∙◌, arith}
use Rattle.std.specs.List.{flat_map, AllByRecursion}
use Rattle.std.proofs.lemmas.List.Elements.{All-from_recursion, recursion_from_All}
use Rattle.keeper_api.specs.declared.rows.Change.{Change}
use Rattle.keeper_api.specs.Rows.{Rows}
use Rattle.keeper_api.specs.Batch.{changed, changed_once}
use Rattle.keeper_api.specs.RowLaws.{once_over}
use Rattle.update_records.specs.declared.records.Mark.{Mark}
use Rattle.update_records.specs.Business.{tables_of}
use Rattle.update_records.specs.Growing.{with_start}
use Rattle.update_records.specs.Ledger.{Ledger, IsLawful, IsMarkUnder, StandFor, map_rows, rows_of}
use Rattle.update_records.specs.RecordRows.{mark_row, meta_row, unit_rows}
use Rattle.record_laws.proofs.Books.{meta_is, parts_of}
use Rattle.record_laws.proofs.Own.{own_changed}
use Rattle.posting.proofs.UsableBooks.{first_makes}

raised_rows : (ledger : Ledger) (start : ℕ) → 1 ≤ ledger.start → 1 ≤ start
    → changed (meta_row start (length ledger.marks) ∷ []) (rows_of ledger) ≡ rows_of (with_start ledger start)
raised_rows ledger start begun h =
    let n = length ledger.marks in
    let base = map_rows ledger.levels (tables_of ledger.units ledger.marks) in
    let books = changed (map mark_row ledger.marks) (changed (flat_map unit_rows ledger.units) base) in
    ap (changed_once (meta_row start n))
    (parts_of ledger.units ledger.marks ledger.start n base ∙ ap (λ cs. changed cs books) (meta_is ledger.start n begun))
    ∙ once_over (meta_row start n) (meta_row ledger.start n) books refl
    ∙ sym (parts_of ledger.units ledger.marks start n base ∙ ap (λ cs. changed cs books) (meta_is start n h))

later_mark : (old new : ℕ) (m : Mark) → old ≤ new → IsMarkUnder old m → IsMarkUnder new m
later_mark old new m h under = record {
  kind = under.kind;
  first = under.first;
  last = omega (arith, h, under.last);
  session = under.session;
  luw = under.luw;
}

later_marks : (old new : ℕ) (marks : List Mark) → old ≤ new → AllByRecursion (IsMarkUnder old) marks → AllByRecursion (IsMarkUnder new) marks
later_marks old new [] h all = tt
later_marks old new (m ∷ marks) h all = (later_mark old new m h all.0, later_marks old new marks h all.1)

raised_lawful : (ledger : Ledger) (start : ℕ) → ledger.start ≤ start → start < 2 ^ 32 → IsLawful ledger → IsLawful (with_start ledger start)
raised_lawful ledger start later small law = record {
  started = omega (arith, law.started, later);
  start = small;
  few = law.few;
  numbered = law.numbered;
  marks = All-from_recursion (IsMarkUnder start) ledger.marks
      (later_marks ledger.start start ledger.marks later (recursion_from_All (IsMarkUnder ledger.start) ledger.marks law.marks));
  legal = law.legal;
  units = law.units;
  recorded = law.recorded;
  right = law.right;
  levels = law.levels;
}

raised_stands : (rows : Rows) (ledger : Ledger) (start : ℕ) → start ≡ ledger.start + 1 → start < 2 ^ 32 → StandFor rows ledger
    → StandFor (changed (meta_row start (length ledger.marks) ∷ []) rows) (with_start ledger start)
raised_stands rows ledger start is small stands =
    elim stands.lawful as (λ _. StandFor (changed (meta_row start (length ledger.marks) ∷ []) rows) (with_start ledger start)) [
      | inl none ↦
          let one : start ≡ 1 = is ∙ ap (λ (l : Ledger). l.start + 1) none in
          let here = first_makes (Some rows) (meta_row 1 0 ∷ []) ledger none refl stands in
          subst (λ k. StandFor (changed (meta_row k (length ledger.marks) ∷ []) rows) (with_start ledger k)) (sym one)
          (subst (λ n. StandFor (changed (meta_row 1 n ∷ []) rows) (with_start ledger 1)) (sym (ap (λ (l : Ledger). length l.marks) none)) here)
      | inr law ↦ record {
        exact = own_changed (meta_row start (length ledger.marks) ∷ []) rows (refl, tt) ∙ ap (changed (meta_row start (length ledger.marks) ∷ [])) stands.exact
            ∙ raised_rows ledger start law.started (omega (arith, is));
        lawful = inr (raised_lawful ledger start (omega (arith, is)) small law);
      }
    ]

-- the batch of a later start makes its rows
pub start_makes : (held : Option Rows) (batch : List Change) (ledger : Ledger) (start : ℕ) → start ≡ ledger.start + 1 → start < 2 ^ 32
    → batch ≡ meta_row start (length ledger.marks) ∷ []
    → IfSome held (λ rows. StandFor rows ledger) → IfSome held (λ rows. StandFor (changed batch rows) (with_start ledger start))
start_makes None batch ledger start is small made h = tt
start_makes (Some rows) batch ledger start is small made h = subst (λ b. StandFor (changed b rows) (with_start ledger start)) (sym made)
    (raised_stands rows ledger start is small h)
