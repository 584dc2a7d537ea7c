-- Parts that are applied to what was read.
use Rattle.std.proofs.Common.{◌≡◌, ℕ, Bool, true, false, List, [], Some, IsOk, if◌then◌else◌, refl, sym, ap, subst}
use Rattle.std.specs.Option.{option_map_or}
use Rattle.enq_base.specs.declared.owner.UnitKey.{UnitKey}
use Rattle.enq_base.specs.declared.unit.Effect.{Effect}
use Rattle.module_effects.specs.Effects.{applied}
use Rattle.module_effects.specs.Rows.{Tables}
use Rattle.module_effects.specs.Spots.{Agree, IsRefused, with_spots}
use Rattle.module_effects.specs.declared.spot.Spot.{Spot}
use Rattle.module_effects.specs.declared.fault.EffectFault.TheVariants as effect_fault
use Rattle.enq_base.specs.declared.unit.Reason.{Reason}
use Rattle.update_records.specs.Business.{tables_of, tables_or}
use Rattle.update_records.specs.Growing.{next_mark}
use Rattle.update_records.specs.Ledger.{Ledger}
use Rattle.update_records.specs.Marks.{unit_at, v1_of, v2_of}
use Rattle.update_records.specs.declared.records.MarkKind.{MarkKind}
use Rattle.update_records.specs.declared.records.MarkKind.TheVariants as kinds
use Rattle.update_records.specs.declared.records.Unit.{Unit as UnitOfWork}
use Rattle.ledger_steps.specs.Posts.{IsNote, IsPost, effects_of, kind_for, post2_kind}
use Rattle.ledger_steps.specs.Steps.{IsOutcome, IsSetByHand, post_kind}
use Rattle.ledger_steps.specs.declared.step.Outcome.{Outcome}
use Rattle.ledger_steps.specs.declared.step.Outcome.TheVariants.{Done, Refused}
use Rattle.posting.specs.Mirrors.{business}
use Rattle.ledger_steps.specs.declared.part.Part.{Part}
use Rattle.ledger_steps.specs.Parts.{is_first}

-- ---- what a part comes to

-- on rows that have what the spots have
pub refused_post : (spots : List Spot) (effects : List Effect) (index : ℕ) (reason : Reason)
    → IsRefused spots effects (effect_fault.Refused index reason)
    → (tables : Tables) → Agree spots tables → IsPost effects tables (Refused index reason) []
refused_post spots effects index reason refused tables agree = (refused tables agree, refl)

-- ---- the mark of what a part came to

outcome_is : (effects : List Effect) (tables : Tables) (outcome : Outcome) (spots : List Spot) → IsPost effects tables outcome spots
    → IsOutcome (applied effects tables) outcome
outcome_is effects tables Done spots h = subst (λ r. IsOutcome r Done) (sym h) refl
outcome_is effects tables (Refused index reason) spots h = subst (λ r. IsOutcome r (Refused index reason)) (sym h.0) refl

note_first : (ledger : Ledger) (key : UnitKey) (outcome : Outcome) (spots : List Spot)
    → IsPost (v1_of ledger.units key) (tables_of ledger.units ledger.marks) outcome spots → IsNote ledger (next_mark ledger key (post_kind outcome)) spots
note_first ledger key Done spots h = record { right = subst IsOk (sym h) refl; leaves = ap (tables_or (tables_of ledger.units ledger.marks)) h }
note_first ledger key (Refused index reason) spots h = record { right = h.0; leaves = ap (λ ss. with_spots ss (tables_of ledger.units ledger.marks)) (sym h.1) }

note_second : (ledger : Ledger) (key : UnitKey) (outcome : Outcome) (spots : List Spot)
    → IsPost (v2_of ledger.units key) (tables_of ledger.units ledger.marks) outcome spots → IsNote ledger (next_mark ledger key (post2_kind outcome)) spots
note_second ledger key Done spots h = record { right = subst IsOk (sym h) refl; leaves = ap (tables_or (tables_of ledger.units ledger.marks)) h }
note_second ledger key (Refused index reason) spots h =
    record { right = h.0; leaves = ap (λ ss. with_spots ss (tables_of ledger.units ledger.marks)) (sym h.1) }

note_either : (first : Bool) (ledger : Ledger) (key : UnitKey) (outcome : Outcome) (spots : List Spot)
    → IsPost (if first then v1_of ledger.units key else v2_of ledger.units key) (tables_of ledger.units ledger.marks) outcome spots
    → IsNote ledger (next_mark ledger key (if first then post_kind outcome else post2_kind outcome)) spots
note_either true ledger key outcome spots h = note_first ledger key outcome spots h
note_either false ledger key outcome spots h = note_second ledger key outcome spots h

pub post_noted : (part : Part) (given ledger : Ledger) (key : UnitKey) (outcome : Outcome) (spots : List Spot) (kind : MarkKind) → given ≡ ledger
    → kind ≡ kind_for part outcome → IsPost (effects_of part given.units key) (business given) outcome spots → IsNote ledger (next_mark ledger key kind) spots
post_noted part given ledger key outcome spots kind same is post =
    subst (λ k. IsNote ledger (next_mark ledger key k) spots) (sym is)
    (note_either (is_first part) ledger key outcome spots (subst (λ (l : Ledger). IsPost (effects_of part l.units key) (business l) outcome spots) same post))

-- a mark that is set by hand leaves no row
pub note_by_hand : (ledger : Ledger) (key : UnitKey) (kind : MarkKind) → IsSetByHand kind → IsNote ledger (next_mark ledger key kind) []
note_by_hand ledger key (kinds.Num numbers) h = absurd h
note_by_hand ledger key kinds.Rec h = absurd h
note_by_hand ledger key kinds.V1 h = absurd h
note_by_hand ledger key (kinds.Bad1 index reason) h = absurd h
note_by_hand ledger key kinds.Again1 h = record { right = tt; leaves = refl }
note_by_hand ledger key kinds.V2 h = absurd h
note_by_hand ledger key (kinds.Bad2 index reason) h = absurd h
note_by_hand ledger key kinds.Again2 h = record { right = tt; leaves = refl }
note_by_hand ledger key kinds.Gone h = record { right = tt; leaves = refl }

-- the effects of a unit that is there
pub part_is : (part : Part) (units : List UnitOfWork) (key : UnitKey) (unit : UnitOfWork) → unit_at units key ≡ Some unit
    → (if is_first part then unit.parts.v1 else unit.parts.v2) ≡ effects_of part units key
part_is part units key unit there =
    let first = ap (λ o. option_map_or (λ (x : UnitOfWork). x.parts.v1) o []) (sym there) in
    let second = ap (λ o. option_map_or (λ (x : UnitOfWork). x.parts.v2) o []) (sym there) in
    elim (is_first part) as (λ b. (if b then unit.parts.v1 else unit.parts.v2) ≡ (if b then v1_of units key else v2_of units key))
    [ true ↦ first | false ↦ second ]

pub post_outcome : (part : Part) (given ledger : Ledger) (key : UnitKey) (outcome : Outcome) (spots : List Spot) → given ≡ ledger
    → IsPost (effects_of part given.units key) (business given) outcome spots
    → IsOutcome (applied (effects_of part ledger.units key) (business ledger)) outcome
post_outcome part given ledger key outcome spots same post =
    subst (λ (l : Ledger). IsOutcome (applied (effects_of part l.units key) (business l)) outcome) same
    (outcome_is (effects_of part given.units key) (business given) outcome spots post)
