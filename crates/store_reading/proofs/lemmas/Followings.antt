-- What the marks make of the business tables, told by the records and told by the units.
use Rattle.std.proofs.Common.{◌≡◌, ℕ, List, [], ◌∷◌, fold, refl, ap, ◌∙◌}
use Rattle.std.specs.FinMap.{empty}
use Rattle.enq_base.specs.declared.owner.UnitKey.{UnitKey}
use Rattle.enq_base.specs.declared.unit.Effect.{Effect}
use Rattle.module_effects.specs.Rows.{Tables}
use Rattle.update_records.specs.Business.{part_of, posted, tables_after, tables_of}
use Rattle.update_records.specs.Marks.{v1_of, v2_of}
use Rattle.update_records.specs.declared.records.MarkKind.{MarkKind}
use Rattle.update_records.specs.declared.records.MarkKind.TheVariants.{Num, Rec, V1, Bad1, Again1, V2, Bad2, Again2, Gone}
use Rattle.update_records.specs.declared.records.Unit.{Unit as UnitOfWork}
use Rattle.update_records.specs.declared.stored.Record.{Record}
use Rattle.update_records.specs.declared.stored.Record.TheVariants as rec
use Rattle.store_reading.specs.Posts.{effects_of, tables_by, tables_with}
use Rattle.store_reading.specs.Rules.{marks_in}

-- the units have the effects that the steps tell
pub record HaveEffects (steps : List Record) (units : List UnitOfWork) : Type 0 where
  pub first : (key : UnitKey) → effects_of steps key 1 ≡ v1_of units key
  pub second : (key : UnitKey) → effects_of steps key 2 ≡ v2_of units key

pub one_follows : (steps : List Record) (units : List UnitOfWork) → HaveEffects steps units → (tables : Tables) (seq : ℕ) (unit : UnitKey) (kind : MarkKind)
    → tables_with steps tables (rec.Mark (record { seq = seq; unit = unit; kind = kind })) ≡ posted
    (part_of units (record { seq = seq; unit = unit; kind = kind })) tables
one_follows steps units have tables seq unit (Num numbers) = refl
one_follows steps units have tables seq unit Rec = refl
one_follows steps units have tables seq unit V1 = ap (λ (effects : List Effect). posted effects tables) (have.first unit)
one_follows steps units have tables seq unit (Bad1 index reason) = refl
one_follows steps units have tables seq unit Again1 = refl
one_follows steps units have tables seq unit V2 = ap (λ (effects : List Effect). posted effects tables) (have.second unit)
one_follows steps units have tables seq unit (Bad2 index reason) = refl
one_follows steps units have tables seq unit Again2 = refl
one_follows steps units have tables seq unit Gone = refl

all_follow : (steps : List Record) (units : List UnitOfWork) → HaveEffects steps units → (marks : List Record) (tables : Tables)
    → fold (tables_with steps) tables marks ≡ tables_after units tables (marks_in marks)
all_follow steps units have [] tables = refl
all_follow steps units have (rec.Mark m ∷ marks) tables =
    all_follow steps units have marks (tables_with steps tables (rec.Mark m))
    ∙ ap (λ t. tables_after units t (marks_in marks)) (one_follows steps units have tables m.seq m.unit m.kind)
all_follow steps units have (rec.Meta s n ∷ marks) tables = all_follow steps units have marks tables
all_follow steps units have (rec.Header u user v1 v2 locks numbers ∷ marks) tables = all_follow steps units have marks tables
all_follow steps units have (rec.Module u part count ∷ marks) tables = all_follow steps units have marks tables
all_follow steps units have (rec.Step u part index effect ∷ marks) tables = all_follow steps units have marks tables
all_follow steps units have (rec.Level object nr from to level buffered ∷ marks) tables = all_follow steps units have marks tables
all_follow steps units have (rec.Business table key text ∷ marks) tables = all_follow steps units have marks tables
all_follow steps units have (rec.Lock u index table mode count pattern ∷ marks) tables = all_follow steps units have marks tables

-- the tables that the records make are those of the units and of their marks
pub tables_follow : (steps : List Record) (units : List UnitOfWork) → HaveEffects steps units → (marks : List Record)
    → tables_by steps marks ≡ tables_of units (marks_in marks)
tables_follow steps units have marks = all_follow steps units have marks empty
