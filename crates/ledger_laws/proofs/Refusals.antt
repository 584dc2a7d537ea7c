-- A refusal is told of a unit just where its status is that of one.
use Rattle.std.proofs.Common.{◌≡◌, ℕ, Bool, true, false, List, [], ◌∷◌, Option, None, refl}
use Rattle.std.specs.Prelude.{if◌then◌else◌, is_some, map}
use Rattle.std.specs.List.{All, AllByRecursion}
use Rattle.std.specs.Option.{unwrap_or}
use Rattle.std.proofs.lemmas.List.Elements.{All-from_recursion}
use Rattle.enq_base.specs.Owners.{same_unit}
use Rattle.enq_base.specs.declared.owner.UnitKey.{UnitKey}
use Rattle.enq_base.specs.declared.unit.Reason.{Reason}
use Rattle.enq_base.specs.declared.unit.Status.{Status}
use Rattle.enq_base.specs.declared.unit.Status.TheVariants.{Open, Posted, Closed}
use Rattle.ledger_steps.specs.Errors.{error_after, told}
use Rattle.ledger_steps.specs.Views.{TellsRefusal, view_of, views_of, was_refused}
use Rattle.update_records.specs.Ledger.{Ledger}
use Rattle.update_records.specs.Marks.{given, has_no_v2, status_after}
use Rattle.update_records.specs.declared.records.Mark.{Mark}
use Rattle.update_records.specs.declared.records.MarkKind.{MarkKind}
use Rattle.update_records.specs.declared.records.MarkKind.TheVariants.{Num, Rec, V1, Bad1, Again1, V2, Bad2, Again2, Gone}
use Rattle.update_records.specs.declared.records.Unit.{Unit as UnitOfWork}

-- a refusal that the marks so far tell goes with the status that they give
abbrev GoesWith : Option (ℕ × Reason) → Option Status → Type 0
GoesWith error status = is_some error ≡ was_refused (unwrap_or status Open)

by_mark : (no_v2 : Bool) (kind : MarkKind) (error : Option (ℕ × Reason)) (status : Option Status) → GoesWith error status
    → GoesWith (told kind error) (given no_v2 kind status)
by_mark no_v2 (Num numbers) error status same = same
by_mark no_v2 Rec error status same = refl
by_mark no_v2 V1 error status same = elim no_v2 as (λ b. false ≡ was_refused (if b then Closed else Posted)) [ true ↦ refl | false ↦ refl ]
by_mark no_v2 (Bad1 index reason) error status same = refl
by_mark no_v2 Again1 error status same = refl
by_mark no_v2 V2 error status same = refl
by_mark no_v2 (Bad2 index reason) error status same = refl
by_mark no_v2 Again2 error status same = refl
by_mark no_v2 Gone error status same = refl

-- a mark of another unit changes neither
by_own : (own no_v2 : Bool) (kind : MarkKind) (error : Option (ℕ × Reason)) (status : Option Status) → GoesWith error status
    → GoesWith (if own then told kind error else error) (if own then given no_v2 kind status else status)
by_own true no_v2 kind error status same = by_mark no_v2 kind error status same
by_own false no_v2 kind error status same = same

by_marks : (no_v2 : Bool) (key : UnitKey) (error : Option (ℕ × Reason)) (status : Option Status) (marks : List Mark) → GoesWith error status
    → GoesWith (error_after key error marks) (status_after no_v2 key status marks)
by_marks no_v2 key error status [] same = same
by_marks no_v2 key error status (m ∷ marks) same =
    let own = same_unit m.unit key in
    by_marks no_v2 key (if own then told m.kind error else error) (if own then given no_v2 m.kind status else status) marks
    (by_own own no_v2 m.kind error status same)

view_tells : (ledger : Ledger) (unit : UnitOfWork) → TellsRefusal (view_of ledger unit)
view_tells ledger unit = by_marks (has_no_v2 ledger.units unit.key) unit.key None None ledger.marks refl

each_tells : (ledger : Ledger) (units : List UnitOfWork) → AllByRecursion TellsRefusal (map (view_of ledger) units)
each_tells ledger [] = tt
each_tells ledger (unit ∷ units) = (view_tells ledger unit, each_tells ledger units)

-- whatever marks a ledger has
pub views_tell : (ledger : Ledger) → All TellsRefusal (views_of ledger)
views_tell ledger = All-from_recursion TellsRefusal (views_of ledger) (each_tells ledger ledger.units)
