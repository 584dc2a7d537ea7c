-- Drafts, and what they came to.
use Rattle.std.proofs.Common.{◌≡◌, List, IsTrue, refl, sym, subst}
use Rattle.enq_base.specs.declared.owner.UnitKey.{UnitKey}
use Rattle.enq_base.specs.declared.unit.Effect.{Effect}
use Rattle.module_effects.specs.Rows.{Tables}
use Rattle.module_effects.specs.Spots.{Agree, covers}
use Rattle.module_effects.specs.declared.spot.Spot.{Spot}
use Rattle.ledger_steps.specs.Posts.{HasDistinctRows, IsPost}
use Rattle.ledger_steps.specs.declared.step.Outcome.{Outcome}
use Rattle.posting.specs.Drafts.{DraftView, IsDraftOf, IsWorked}

-- rows that were looked up, and effects that were copied, are a draft
pub drafted : (key : UnitKey) (effects part : List Effect) (tables : Tables) (touched rows : List Spot) → part ≡ effects → rows ≡ touched
    → IsTrue (covers touched effects) → HasDistinctRows touched → Agree touched tables
    → IsDraftOf key effects tables (record { unit = key; effects = part; rows = rows })
drafted key effects part tables touched rows part_is rows_are covered once present = record {
  unit = refl;
  part = part_is;
  touched = record {
    covered = subst (λ ss. IsTrue (covers ss part)) (sym rows_are) (subst (λ es. IsTrue (covers touched es)) (sym part_is) covered);
    once = subst HasDistinctRows (sym rows_are) once;
  };
  present = subst (λ ss. Agree ss tables) (sym rows_are) present;
}

-- what the drafted effects come to on the drafted rows
pub worked : (draft : DraftView) (spots : List Spot) (effects : List Effect) (after rows : List Spot) (outcome : Outcome) → spots ≡ draft.rows
    → effects ≡ draft.effects → rows ≡ after → ((tables : Tables) → Agree spots tables → IsPost effects tables outcome after)
    → HasDistinctRows after → IsWorked (record { draft = draft; outcome = outcome; rows = rows })
worked draft spots effects after rows outcome spots_are effects_are rows_are comes once = record {
  comes = λ tables agree.
      subst (λ ss. IsPost draft.effects tables outcome ss) (sym rows_are)
      (subst (λ es. IsPost es tables outcome after) effects_are (comes tables (subst (λ ss. Agree ss tables) (sym spots_are) agree)));
  once = subst HasDistinctRows (sym rows_are) once;
}
