-- Business rows through a quiet call: which stand as they were, and what a reading is answered with.
use Rattle.std.proofs.Common.{◌≡◌, ℕ, ◌+◌, Bool, true, false, cond, List, [], ◌∷◌, ◌++◌, refl, sym, ap, ◌∙◌, subst}
use Rattle.std.specs.Prelude.{◌&&◌, if◌then◌else◌, Option, Some, None, Result, Ok, Err}
use Rattle.std.proofs.lemmas.Bool.{or_parts}
use Rattle.std.proofs.lemmas.Map.Lookups.{exact_pairs}
use Rattle.std.specs.Cmp.{Equal-is, IsTotalOrder, on_total, then_total}
use Rattle.std.specs.Cmp.Lexicographic.{nat_list_cmp_total, slice_cmp}
use Rattle.std.specs.FinMap.{IsAntisymmetric, empty, get, get-insert, get-remove, nat_cmp-IsAntisymmetric, slice_cmp-IsAntisymmetric}
use Rattle.std.specs.List.{list_any}
use Rattle.std.specs.Ordering.{eq_by_cmp, nat_cmp}
use Rattle.std.specs.Str.{bytes_eq}
use Rattle.enq_base.specs.declared.owner.UnitKey.{UnitKey}
use Rattle.enq_base.specs.declared.refusal.Refusal.{Refusal}
use Rattle.enq_base.specs.declared.unit.Effect.{Effect}
use Rattle.lock_entry.proofs.lemmas.Naming.{bytes_eq-refl}
use Rattle.module_effects.specs.Effects.{applied, applied_from, row_after}
use Rattle.module_effects.specs.Rows.{RowName, Tables, row_cmp, row_of, with_row}
use Rattle.module_effects.specs.declared.fault.EffectFault.{EffectFault}
use Rattle.module_effects.specs.declared.fault.EffectFault.TheVariants as fault
use Rattle.ledger_steps.specs.Posts.{kind_for}
use Rattle.ledger_steps.specs.declared.step.Outcome.{Outcome}
use Rattle.ledger_steps.specs.declared.step.Outcome.TheVariants as outcome
use Rattle.record_laws.proofs.Books.{tables_grow, tables_push}
use Rattle.record_laws.proofs.Status.{none_of}
use Rattle.update_records.specs.Business.{part_of, posted, tables_of, tables_or}
use Rattle.update_records.specs.Growing.{next_mark, with_mark, with_unit}
use Rattle.update_records.specs.Ledger.{Ledger}
use Rattle.update_records.specs.Marks.{has_no_v2}
use Rattle.update_records.specs.declared.records.MarkKind.{MarkKind}
use Rattle.update_records.specs.declared.records.MarkKind.TheVariants as mark
use Rattle.update_records.specs.declared.records.Unit.{Unit as UnitOfWork}
use Rattle.hall_laws.proofs.keeping.UnitsToCome.{open_unheard}
use Rattle.model_laws.proofs.OtherStatuses.{status_in}
use Rattle.hall_model.specs.Calls.{OfSession, Reads, call_of}
use Rattle.hall_model.specs.Devices.{MayRead, Reading, AsKnown, Shows, Reopens, Hands, IsTold, found_by}
use Rattle.hall_model.specs.History.{judged}
use Rattle.hall_model.specs.Kept.{IsSteady}
use Rattle.hall_model.specs.Sessions.{session_at}
use Rattle.hall_model.specs.State.{State}
use Rattle.hall_model.specs.Step.{Found, Verdict, call_verdict, called, posted_reply, row_in, unavailable, unit_of, unless_refused}
use Rattle.hall_model.specs.declared.command.Reply.{Reply}
use Rattle.hall_model.specs.declared.command.Reply.TheVariants as reply
use Rattle.hall_model.specs.declared.command.Session.{Session}
use Rattle.cover_laws.proofs.calls.MarkedCalls.{OfMarks, by_marks}
use Rattle.cover_laws.proofs.calls.QuietCalls.{by_stored, none_in_flight}
use Rattle.cover_laws.proofs.needed.HallNeeded.{ReadsTell, RowsStay, effects_posted, names_row}
use Rattle.ledger_steps.specs.declared.part.Part.{Part}
use Rattle.ledger_steps.specs.Parts.{is_first}

-- ---- rows that no effect names

rows_total : IsTotalOrder row_cmp
rows_total = then_total (on_total (λ s. s.0) nat_list_cmp_total) (on_total (λ s. s.1) nat_list_cmp_total)

exact_rows : IsAntisymmetric row_cmp
exact_rows =
    exact_pairs (slice_cmp nat_cmp) (slice_cmp nat_cmp) (slice_cmp-IsAntisymmetric nat_cmp-IsAntisymmetric)
    (slice_cmp-IsAntisymmetric nat_cmp-IsAntisymmetric)

-- an effect names its own row
names_own : (e : Effect) (table key : List ℕ) → (table, key) ≡ row_of e → names_row table key e ≡ true
names_own e table key same =
    let of_table : table ≡ e.table = ap (λ (r : RowName). r.0) same in
    let of_key : key ≡ e.key = ap (λ (r : RowName). r.1) same in
    subst (λ t. (bytes_eq e.table t && bytes_eq e.key key) ≡ true) (sym of_table)
    (subst (λ k. (bytes_eq e.table e.table && bytes_eq e.key k) ≡ true) (sym of_key)
    (ap (λ b. b && bytes_eq e.key e.key) (bytes_eq-refl e.table) ∙ bytes_eq-refl e.key))

apart_rows : (e : Effect) (table key : List ℕ) → names_row table key e ≡ false → eq_by_cmp row_cmp (table, key) (row_of e) ≡ false
apart_rows e table key off =
    elim (eq_by_cmp row_cmp (table, key) (row_of e)) as (λ b. eq_by_cmp row_cmp (table, key) (row_of e) ≡ b → b ≡ false) [
      | true ↦ λ t. sym (names_own e table key (exact_rows (table, key) (row_of e) ((Equal-is (row_cmp (table, key) (row_of e))).0 t))) ∙ off
      | false ↦ λ t. refl
    ] refl

other_row : (tables : Tables) (row : RowName) (text : Option (List ℕ)) (q : RowName) → eq_by_cmp row_cmp q row ≡ false
    → get (with_row tables row text) q ≡ get tables q
other_row tables row None q apart = get-remove rows_total tables row q ∙ ap (λ b. cond b None (get tables q)) apart
other_row tables row (Some text) q apart = get-insert rows_total tables row text q ∙ ap (λ b. cond b (Some text) (get tables q)) apart

-- the row has in tables that effects come to what it has in these
abbrev KeepsRow : RowName → Tables → Result Tables EffectFault → Type 0
KeepsRow q tables (Ok after) = get after q ≡ get tables q
KeepsRow q tables (Err fault) = Unit {0}

keeps_on : (q : RowName) (before tables : Tables) (r : Result Tables EffectFault) → get tables q ≡ get before q → KeepsRow q tables r → KeepsRow q before r
keeps_on q before tables (Ok after) h k = k ∙ h
keeps_on q before tables (Err fault) h k = tt

applied_keeps : (index : ℕ) (effects : List Effect) (tables : Tables) (table key : List ℕ) → list_any (names_row table key) effects ≡ false
    → KeepsRow (table, key) tables (applied_from index effects tables)
applied_keeps index [] tables table key off = refl
applied_keeps index (e ∷ effects) tables table key off =
    let offs = or_parts (names_row table key e) (list_any (names_row table key) effects) off in
    elim (row_after (get tables (row_of e)) e.deed)
    as (λ r. KeepsRow (table, key) tables (elim r [
      | Ok row ↦ applied_from (index + 1) effects (with_row tables (row_of e) row)
      | Err reason ↦ Err (fault.Refused index reason)
    ])) [
      | Ok row ↦
          let now = with_row tables (row_of e) row in
          keeps_on (table, key) tables now (applied_from (index + 1) effects now)
          (other_row tables (row_of e) row (table, key) (apart_rows e table key offs.0)) (applied_keeps (index + 1) effects now table key offs.1)
      | Err reason ↦ tt
    ]

or_keeps : (q : RowName) (tables : Tables) (r : Result Tables EffectFault) → KeepsRow q tables r → get (tables_or tables r) q ≡ get tables q
or_keeps q tables (Ok after) h = h
or_keeps q tables (Err fault) h = refl

posted_keeps : (effects : List Effect) (tables : Tables) (table key : List ℕ) → list_any (names_row table key) effects ≡ false
    → get (posted effects tables) (table, key) ≡ get tables (table, key)
posted_keeps effects tables table key off = or_keeps (table, key) tables (applied effects tables) (applied_keeps 1 effects tables table key off)

-- ---- marks

marked_keeps : (ledger : Ledger) (unit : UnitKey) (kind : MarkKind) (table key : List ℕ)
    → list_any (names_row table key) (part_of ledger.units (next_mark ledger unit kind)) ≡ false
    → row_in (with_mark ledger unit kind) table key ≡ row_in ledger table key
marked_keeps ledger unit kind table key off =
    ap (λ tables. get tables (table, key)) (tables_push ledger.units empty ledger.marks (next_mark ledger unit kind))
    ∙ posted_keeps (part_of ledger.units (next_mark ledger unit kind)) (tables_of ledger.units ledger.marks) table key off

-- a unit of which nothing was heard posts nothing
recorded_keeps : (ledger : Ledger) (unit : UnitOfWork) (table key : List ℕ) → status_in ledger unit.key ≡ None
    → row_in (with_unit ledger unit) table key ≡ row_in ledger table key
recorded_keeps ledger unit table key fresh =
    let units = ledger.units ++ unit ∷ [] in
    ap (λ tables. get tables (table, key)) (tables_push units empty ledger.marks (next_mark ledger unit.key mark.Rec))
    ∙ ap (λ tables. get tables (table, key))
    (tables_grow ledger.units unit empty ledger.marks (none_of (has_no_v2 ledger.units unit.key) unit.key ledger.marks fresh))

-- where no effect that the answer tells of names the row it stands as it was
abbrev RowKept : (table key : List ℕ) → Ledger → Ledger → Reply → Type 0
RowKept table key before after r =
    list_any (names_row table key) (effects_posted before r) ≡ false → row_in after table key ≡ row_in before table key

abbrev KeptBy : (table key : List ℕ) → Ledger → UnitKey → MarkKind → MarkKind → Reply → Reply → Bool → Type 0
KeptBy table key ledger unit one two r q first =
    RowKept table key ledger (with_mark ledger unit (if first then one else two)) (if first then r else q)

part_keeps : (part : Part) (ledger : Ledger) (unit : UnitKey) (o : Outcome) (table key : List ℕ)
    → RowKept table key ledger (with_mark ledger unit (kind_for part o)) (posted_reply part unit o)
part_keeps part ledger unit outcome.Done table key =
    elim (is_first part) as (KeptBy table key ledger unit mark.V1 mark.V2 (reply.Posted unit) (reply.Closed unit)) [
      | true ↦ λ off. marked_keeps ledger unit mark.V1 table key off
      | false ↦ λ off. marked_keeps ledger unit mark.V2 table key off
    ]
part_keeps part ledger unit (outcome.Refused index reason) table key =
    elim (is_first part)
    as (KeptBy table key ledger unit (mark.Bad1 index reason) (mark.Bad2 index reason) (reply.Bad unit index reason) (reply.Bad2 unit index reason)) [
      | true ↦ λ off. marked_keeps ledger unit (mark.Bad1 index reason) table key refl
      | false ↦ λ off. marked_keeps ledger unit (mark.Bad2 index reason) table key refl
    ]

keeps_rows : (found : Found) (s : State) (table key : List ℕ) → IsSteady s → OfMarks (λ call ledger r. RowKept table key s.stored ledger r) found s
keeps_rows found s table key steady = record {
  none = λ call levels r plain off. refl;
  numbers = λ call unit numbers levels off. marked_keeps s.stored unit (mark.Num numbers) table key refl;
  records = λ name x parts stock levels at off.
      recorded_keeps s.stored (unit_of s.stored.start s.locks x parts (x.draws ++ stock)) table key (open_unheard s name x at steady.fresh);
  posts = λ worker part unit waits. part_keeps part s.stored unit (found.part part unit) table key;
  cancels = λ unit was here may off. marked_keeps s.stored unit mark.Gone table key refl;
  reopens = λ unit here off. marked_keeps s.stored unit mark.Again1 table key refl;
  reposts = λ unit here off. marked_keeps s.stored unit mark.Again2 table key refl;
}

pub rows_stay : RowsStay
rows_stay s m table key quiet =
    let found = found_by m.outcome.reading s in
    by_stored (RowKept table key s.stored) s m quiet (λ r off. refl)
    (by_marks (λ call ledger r. RowKept table key s.stored ledger r) found s
    (none_in_flight s m quiet) (keeps_rows found s table key quiet.reached.steady) (call_of m.call.command))

-- ---- readings

-- the row has the text of the answer
abbrev TellsRow : State → (table key : List ℕ) → Reply → Type 0
TellsRow s table key r = (text : Option (List ℕ)) → r ≡ reply.Row text → row_in s.stored table key ≡ text

refused_tells : (s : State) (table key : List ℕ) (r : Refusal) → TellsRow s table key (reply.Refused r)
refused_tells s table key r text e = cc

one_text : (a b : Option (List ℕ)) → reply.Row a ≡ reply.Row b → a ≡ b
one_text a b e = cc

found_tells : (reading : Reading) (s : State) (name table key : List ℕ) → s.told ≡ true → MayRead reading s (OfSession name (Reads table key))
    → row_in s.stored table key ≡ (found_by reading s).row table key
found_tells AsKnown s name table key told may = refl
found_tells (Shows text) s name table key told may = sym (subst (λ b. IsTold b (text ≡ row_in s.stored table key)) told may)
found_tells (Reopens taken) s name table key told may = absurd may
found_tells (Hands list) s name table key told may = absurd may

unless_tells : (s : State) (table key : List ℕ) (o : Option Refusal) (v : Verdict) → TellsRow s table key (judged s v).reply
    → TellsRow s table key (judged s (unless_refused o v)).reply
unless_tells s table key None v h = h
unless_tells s table key (Some r) v h = refused_tells s table key r

called_tells : (found : Found) (s : State) (table key : List ℕ) (x : Option Session) → row_in s.stored table key ≡ found.row table key
    → TellsRow s table key (judged s (called found s (Reads table key) x)).reply
called_tells found s table key None known = refused_tells s table key _
called_tells found s table key (Some x) known = λ text e. known ∙ one_text (found.row table key) text e

reading_tells : (found : Found) (s : State) (name table key : List ℕ) → row_in s.stored table key ≡ found.row table key
    → TellsRow s table key (judged s (call_verdict found s (OfSession name (Reads table key)))).reply
unfolding call_verdict
reading_tells found s name table key known =
    unless_tells s table key (unavailable s (OfSession name (Reads table key))) _
    (called_tells found s table key (session_at s.sessions name) known)

pub reads_tell : ReadsTell
reads_tell s m name table key text quiet is told =
    let reading = m.outcome.reading in
    let asks : call_of m.call.command ≡ OfSession name (Reads table key) = ap call_of is in
    let may = subst (MayRead reading s) asks quiet.answer.allowed.possible.reading in
    by_stored (λ ledger r. TellsRow s table key r) s m quiet (refused_tells s table key)
    (subst (λ call. TellsRow s table key (judged s (call_verdict (found_by reading s) s call)).reply) (sym asks)
    (reading_tells (found_by reading s) s name table key (found_tells reading s name table key quiet.told may)))
    text told
