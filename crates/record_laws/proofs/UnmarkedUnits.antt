-- A unit of which no mark tells.
use Rattle.std.proofs.Common.{◌≡◌, false, cond, not, ◌&&◌, List, [], ◌∷◌, map, Some, None, refl, sym, ap, subst, ◌∙◌}
use Rattle.std.specs.List.{AllByRecursion, filter}
use Rattle.enq_base.specs.Owners.{same_unit}
use Rattle.enq_base.specs.declared.owner.UnitKey.{UnitKey}
use Rattle.update_records.specs.declared.records.Mark.{Mark}
use Rattle.update_records.specs.declared.records.MarkKind.{MarkKind}
use Rattle.update_records.specs.declared.records.MarkKind.TheVariants.{Num, Rec, V1, Bad1, Again1, V2, Bad2, Again2, Gone}
use Rattle.update_records.specs.declared.records.Unit.{Unit as UnitOfWork}
use Rattle.update_records.specs.Ledger.{Ledger, recorded}
use Rattle.update_records.specs.Marks.{unit_at, is_rec, draws_alone}
use Rattle.record_laws.proofs.Books.{plain}
use Rattle.record_laws.proofs.Status.{NoneOf}

pub rec_case : (key unit : UnitKey) (kind : MarkKind) (rest : List Mark) (m : Mark) → m.unit ≡ unit → (same_unit unit key && not (draws_alone kind)) ≡ false
    → AllByRecursion (λ k. same_unit k key ≡ false) (map (λ (y : Mark). y.unit) rest)
    → AllByRecursion (λ k. same_unit k key ≡ false) (map (λ (y : Mark). y.unit) (cond (is_rec kind) (m ∷ rest) rest))
rec_case key unit Rec rest m is h all = (ap (λ k. same_unit k key) is ∙ plain (same_unit unit key) h, all)
rec_case key unit (Num numbers) rest m is h all = all
rec_case key unit V1 rest m is h all = all
rec_case key unit (Bad1 i r) rest m is h all = all
rec_case key unit Again1 rest m is h all = all
rec_case key unit V2 rest m is h all = all
rec_case key unit (Bad2 i r) rest m is h all = all
rec_case key unit Again2 rest m is h all = all
rec_case key unit Gone rest m is h all = all

pub none_recorded : (key : UnitKey) (marks : List Mark) → NoneOf key marks → AllByRecursion (λ k. same_unit k key ≡ false) (recorded marks)
none_recorded key [] none = tt
none_recorded key (m ∷ marks) none = rec_case key m.unit m.kind (filter (λ (y : Mark). is_rec y.kind) marks) m refl none.0 (none_recorded key marks none.1)

pub none_among : (key : UnitKey) (units : List UnitOfWork) → AllByRecursion (λ k. same_unit k key ≡ false) (map (λ (x : UnitOfWork). x.key) units)
    → unit_at units key ≡ None
none_among key [] h = refl
none_among key (u ∷ units) h = ap (λ b. cond b (Some u) (unit_at units key)) h.0 ∙ none_among key units h.1

-- a unit of which no mark tells isn't there
pub not_there : (ledger : Ledger) (key : UnitKey) → map (λ (x : UnitOfWork). x.key) ledger.units ≡ recorded ledger.marks → NoneOf key ledger.marks
    → unit_at ledger.units key ≡ None
not_there ledger key same none =
    none_among key ledger.units (subst (λ ks. AllByRecursion (λ k. same_unit k key ≡ false) ks) (sym same) (none_recorded key ledger.marks none))
