-- What one more mark makes of the status of each unit.
use Rattle.std.proofs.Common.{◌≡◌, Bool, true, false, not, List, [], ◌∷◌, ◌++◌, if◌then◌else◌, Option, refl, sym, ap, ◌∙◌}
use Rattle.std.specs.HashMap.{HashMap, get}
use Rattle.std.specs.HashSet.{HashSet, contains}
use Rattle.std.proofs.lemmas.List.Concat.{flat_map-append}
use Rattle.enq_base.specs.Owners.{same_unit}
use Rattle.enq_base.specs.declared.owner.UnitKey.{UnitKey}
use Rattle.enq_base.specs.declared.unit.Status.{Status}
use Rattle.record_laws.proofs.Status.{one_unit}
use Rattle.update_records.specs.Marks.{given, status_after}
use Rattle.update_records.specs.declared.records.Mark.{Mark}
use Rattle.update_records.specs.declared.stored.Record.{Record}
use Rattle.update_records.specs.declared.stored.Record.TheVariants as rec
use Rattle.enq_base.specs.Ids.{id_of, same_id}
use Rattle.store_reading.specs.Rules.{has_second, mark_in, marks_in, status_in}
use Rattle.store_reading.specs.Standings.{AreSecond, AreStatuses}
use Rattle.enq_base.specs.declared.unit_id.UnitId.{UnitId}

-- the status with one mark more
pub status_push : (b : Bool) (key : UnitKey) (s : Option Status) (marks : List Mark) (m : Mark)
    → status_after b key s (marks ++ m ∷ []) ≡ (if same_unit m.unit key then given b m.kind (status_after b key s marks) else status_after b key s marks)
status_push b key s [] m = refl
status_push b key s (x ∷ marks) m = status_push b key (if same_unit x.unit key then given b x.kind s else s) marks m

pub marks_push : (marks : List Record) (m : Mark) → marks_in (marks ++ rec.Mark m ∷ []) ≡ marks_in marks ++ m ∷ []
marks_push marks m = flat_map-append mark_in marks (rec.Mark m ∷ [])

given_here : (headers : List Record) (m : Mark) (other : UnitKey) (b : Bool) (s : Option Status) → b ≡ has_second headers m.unit
    → (if same_unit m.unit other then given (not b) m.kind s else s) ≡ (if same_unit m.unit other then given (not (has_second headers other)) m.kind s else s)
given_here headers m other b s is =
    elim (same_unit m.unit other)
    as (λ t. same_unit m.unit other ≡ t → (if t then given (not b) m.kind s else s) ≡ (if t then given (not (has_second headers other)) m.kind s else s)) [
      | true ↦ λ e. ap (λ x. given (not x) m.kind s) (is ∙ ap (has_second headers) (one_unit m.unit other e))
      | false ↦ λ e. refl
    ] refl

-- the statuses, once the unit of one mark more has its own
pub statuses_more : {S T : Type 0} (second : HashSet UnitId S) (old new : HashMap UnitId Status T) (headers marks : List Record) (m : Mark) (b : Bool)
    → AreSecond second headers → AreStatuses old headers marks → b ≡ contains same_id second (id_of m.unit)
    → ((other : UnitKey)
    → get same_id new
    (id_of other) ≡ (if same_unit m.unit other then given (not b) m.kind (get same_id old (id_of other)) else get same_id old (id_of other)))
    → AreStatuses new headers (marks ++ rec.Mark m ∷ [])
statuses_more second old new headers marks m b seconds known is sets other =
    sets other
    ∙ ap (λ s. if same_unit m.unit other then given (not b) m.kind s else s) (known other)
    ∙ given_here headers m other b (status_in headers (marks_in marks) other) (is ∙ seconds m.unit)
    ∙ sym (status_push (not (has_second headers other)) other _ (marks_in marks) m)
    ∙ ap (λ ms. status_in headers ms other) (sym (marks_push marks m))
