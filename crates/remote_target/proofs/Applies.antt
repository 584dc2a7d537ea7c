-- One effect that is applied to its own row.
use Rattle.std.proofs.Common.{◌≡◌, ℕ, cond, map, List, [], ◌∷◌, Option, Some, None, Result, Ok, Err, IfSome, refl, sym, ap, subst, ◌∙◌}
use Rattle.std.specs.FinMap.{get}
use Rattle.std.proofs.lemmas.List.Elements.{All-cons, All-nil}
use Rattle.enq_base.specs.declared.unit.Effect.{Effect}
use Rattle.enq_base.specs.declared.unit.Reason.{Reason}
use Rattle.module_effects.specs.Effects.{row_after}
use Rattle.module_effects.specs.Rows.{RowName, Tables, row_of, with_row}
use Rattle.module_effects.specs.Spots.{Agree, IsDone, IsRefused, row_at}
use Rattle.module_effects.specs.declared.fault.EffectFault.{EffectFault}
use Rattle.module_effects.specs.declared.fault.EffectFault.TheVariants as effect_fault
use Rattle.module_effects.specs.declared.spot.Spot.{Spot}
use Rattle.module_effects.proofs.lemmas.Tables.{get-with_row, same_row-Decides}
use Rattle.remote_target.specs.declared.call.CallOutcome.{CallOutcome}
use Rattle.remote_target.specs.declared.call.CallOutcome.TheVariants.{Done, Refused}
use Rattle.keeper_api.specs.Rows.{Rows, value_at}
use Rattle.remote_target.specs.Calls.{effect_of, outcome_after, outcome_by}
use Rattle.remote_target.specs.Runs.{Ran}
use Rattle.remote_target.specs.Targets.{Comes}
use Rattle.remote_target.specs.Rows.{Makes, StandFor, row_if, row_key, row_left, rows_by}

-- what a row was set to
got : (t : Tables) (name : RowName) (row : Option (List ℕ)) → get (with_row t name row) name ≡ row
got t name row = get-with_row t name row name ∙ ap (λ b. cond b row (get t name)) ((same_row-Decides name name).1 refl)

set_alike : (t : Tables) (a b : RowName) (row other : Option (List ℕ)) → b ≡ a → with_row t a row ≡ with_row t b other → row ≡ other
set_alike t a b row other same h =
    sym (got t a row) ∙ ap (λ (ts : Tables). get ts a) h ∙ ap (get (with_row t b other)) (sym same) ∙ got t b other

abbrev pub one_applied : RowName → Tables → Result (Option (List ℕ)) Reason → Result Tables EffectFault
one_applied name t res = elim res [ Ok row ↦ Ok (with_row t name row) | Err reason ↦ Err (effect_fault.Refused 1 reason) ]

done_row : (t : Tables) (name : RowName) (spot : Spot) (res : Result (Option (List ℕ)) Reason) → row_at spot ≡ name
    → one_applied name t res ≡ Ok (with_row t (row_at spot) spot.text) → res ≡ Ok spot.text
done_row t name spot (Ok row) same h =
    let alike : with_row t name row ≡ with_row t (row_at spot) spot.text = cc in
    ap Ok (set_alike t name (row_at spot) row spot.text same alike)
done_row t name spot (Err reason) same h = cc

refused_row : (t : Tables) (name : RowName) (res : Result (Option (List ℕ)) Reason) (index : ℕ) (reason : Reason)
    → one_applied name t res ≡ Err (effect_fault.Refused index reason) → res ≡ Err reason
refused_row t name (Ok row) index reason h = cc
refused_row t name (Err other) index reason h = let same : other ≡ reason = cc in ap Err same

abbrev pub own_spot : Effect → Option (List ℕ) → Spot
own_spot e text = record { table = e.table; key = e.key; text = text }

agrees : (e : Effect) (text : Option (List ℕ)) (t : Tables) → get t (row_of e) ≡ text → Agree (own_spot e text ∷ []) t
agrees e text t h = All-cons (λ (spot : Spot). get t (row_at spot) ≡ spot.text) (own_spot e text) [] h
    (All-nil (λ (spot : Spot). get t (row_at spot) ≡ spot.text))

made_of : (e : Effect) (t : Tables) (spot : Spot) → row_at spot ≡ row_of e → row_after (get t (row_of e)) e.deed ≡ Ok spot.text → Makes e t Done (Some spot)
made_of e t spot same is = record {
  comes = sym (ap outcome_after is);
  writes = ap (λ (n : RowName). row_left n spot.text ∷ []) same ∙ sym (ap (row_if (row_of e)) is);
}

-- the one row that is left
pub done_makes : (e : Effect) (text : Option (List ℕ)) (after : List Spot) (made : Option Spot) → IsDone (own_spot e text ∷ []) (e ∷ []) after
    → map row_at after ≡ row_of e ∷ []
    → ((spot : Spot) → after ≡ spot ∷ [] → made ≡ Some spot) → (t : Tables) → get t (row_of e) ≡ text → Makes e t Done made
done_makes e text [] made isdone names last t h = cc
done_makes e text (spot ∷ []) made isdone names last t h =
    let same : row_at spot ≡ row_of e = cc in
    subst (Makes e t Done) (sym (last spot refl))
    (made_of e t spot same (done_row t (row_of e) spot (row_after (get t (row_of e)) e.deed) same (isdone t (agrees e text t h))))
done_makes e text (spot ∷ other ∷ more) made isdone names last t h = cc

refused_of : (e : Effect) (t : Tables) (reason : Reason) → row_after (get t (row_of e)) e.deed ≡ Err reason → Makes e t (Refused reason) None
refused_of e t reason is = record {
  comes = sym (ap outcome_after is);
  writes = sym (ap (row_if (row_of e)) is);
}

pub refused_makes : (e : Effect) (text : Option (List ℕ)) (index : ℕ) (reason : Reason)
    → IsRefused (own_spot e text ∷ []) (e ∷ []) (effect_fault.Refused index reason)
    → (t : Tables) → get t (row_of e) ≡ text → Makes e t (Refused reason) None
refused_makes e text index reason refused t h =
    refused_of e t reason (refused_row t (row_of e) (row_after (get t (row_of e)) e.deed) index reason (refused t (agrees e text t h)))

-- where the effect's row was read, the text comes to what was made of it
pub text_comes : (held : Option Rows) (text : List ℕ) (e : Effect) (row : Option (List ℕ)) (outcome : CallOutcome) (made : Option Spot)
    → effect_of text ≡ Some e
    → IfSome held (λ rows. row ≡ value_at rows 1 (row_key (row_of e))) → ((t : Tables) → get t (row_of e) ≡ row → Makes e t outcome made)
    → IfSome held (λ rows. (r : Ran) → StandFor rows r → Comes text r.tables outcome made)
text_comes None text e row outcome made is read makes = tt
text_comes (Some rows) text e row outcome made is read makes = λ r stands.
    let m = makes r.tables (sym (stands.texts (row_of e)) ∙ sym read) in
    record {
      comes = m.comes ∙ sym (ap (λ x. outcome_by x r.tables) is);
      writes = m.writes ∙ sym (ap (λ x. rows_by x r.tables) is);
    }
