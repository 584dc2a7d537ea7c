-- Rows with their texts, as posts leave them.
use Rattle.std.proofs.Common.{◌≡◌, ℕ, zero, suc, ◌+◌, ◌-◌, ◌<◌, Bool, true, false, ◌&&◌, ◌||◌, List, [], ◌∷◌, map, length, get_or, drop, Result, Ok, Err, IfOk, IfErr, refl, sym, ap, ◌∙◌, arith}
use Rattle.std.specs.Global.{Vec}
use Rattle.std.specs.FinMap.{get}
use Rattle.std.specs.BTreeMap.{BTreeMap}
use Rattle.std.specs.List.{list_any}
use Rattle.std.proofs.lemmas.List.{at_drop_more}
use Rattle.enq_base.specs.declared.unit.Effect.{Effect}
use Rattle.module_effects.specs.Effects.{applied, IsFaultOf}
use Rattle.module_effects.specs.Rows.{Tables, row_of, with_row}
use Rattle.module_effects.specs.Spots.{covers, is_at, row_at, with_spots, Agree, IsDone, IsRefused}
use Rattle.module_effects.specs.declared.fault.EffectFault.{EffectFault}
use Rattle.module_effects.specs.declared.spot.Spot.{Spot}
use Rattle.module_effects.proofs.lemmas.Tables.{is_at-Decides}
use Rattle.store_reading.specs.Posting.{spot_for, AreTexts}
use Rattle.store_reading.specs.declared.text_id.TextId.{TextId}

either : (a b : Bool) → b ≡ true → (a || b) ≡ true
either true b h = refl
either false b h = h

here : (a b : Bool) → a ≡ true → (a || b) ≡ true
here true b h = refl
here false b h = cc

both : (a b : Bool) → a ≡ true → b ≡ true → (a && b) ≡ true
both true b h k = k
both false b h k = cc

first_of : (a b : Bool) → (a && b) ≡ true → a ≡ true
first_of true b h = refl
first_of false b h = cc

second_of : (a b : Bool) → (a && b) ≡ true → b ≡ true
second_of true b h = h
second_of false b h = cc

covers_more : (spot : Spot) (spots : List Spot) (effects : List Effect) → covers spots effects ≡ true → covers (spot ∷ spots) effects ≡ true
covers_more spot spots [] h = refl
covers_more spot spots (e ∷ effects) h =
    both (is_at (row_of e) spot || list_any (is_at (row_of e)) spots) (covers (spot ∷ spots) effects)
    (either (is_at (row_of e) spot) _ (first_of (list_any (is_at (row_of e)) spots) (covers spots effects) h))
    (covers_more spot spots effects (second_of (list_any (is_at (row_of e)) spots) (covers spots effects) h))

-- each effect's row has its spot
pub covered : (texts : BTreeMap TextId (List ℕ)) (effects : List Effect) → covers (map (spot_for texts) effects) effects ≡ true
covered texts [] = refl
covered texts (e ∷ effects) =
    both (is_at (row_of e) (spot_for texts e) || list_any (is_at (row_of e)) (map (spot_for texts) effects))
    (covers (map (spot_for texts) (e ∷ effects)) effects)
    (here (is_at (row_of e) (spot_for texts e)) _ ((is_at-Decides (row_of e) (spot_for texts e)).1 refl))
    (covers_more (spot_for texts e) (map (spot_for texts) effects) effects (covered texts effects))

agree_at : (texts : BTreeMap TextId (List ℕ)) (tables : Tables) → AreTexts texts tables → (effects : List Effect) (k : ℕ) (d : Spot)
    → k < length (map (spot_for texts) effects)
    → get tables (row_at (get_or (map (spot_for texts) effects) k d)) ≡ (get_or (map (spot_for texts) effects) k d).text
agree_at texts tables are [] k d h = absurd (omega arith)
agree_at texts tables are (e ∷ effects) zero d h = sym (are (row_of e))
agree_at texts tables are (e ∷ effects) (suc k) d h = agree_at texts tables are effects k d (omega arith)

agree : (texts : BTreeMap TextId (List ℕ)) (tables : Tables) → AreTexts texts tables → (effects : List Effect) → Agree (map (spot_for texts) effects) tables
agree texts tables are effects = agree_at texts tables are effects

pub done_for : (texts : BTreeMap TextId (List ℕ)) (effects : List Effect) (result : Result (Vec Spot) EffectFault)
    → IfOk result (λ after. IsDone (map (spot_for texts) effects) effects after.items)
    → IfOk result (λ after. (tables : Tables) → AreTexts texts tables → applied effects tables ≡ Ok (with_spots after.items tables))
done_for texts effects (Ok after) done = λ tables are. done tables (agree texts tables are effects)
done_for texts effects (Err fault) done = tt

pub refused_for : (texts : BTreeMap TextId (List ℕ)) (effects : List Effect) (result : Result (Vec Spot) EffectFault)
    → IfErr result (IsRefused (map (spot_for texts) effects) effects)
    → IfErr result (λ fault. (tables : Tables) → AreTexts texts tables → IsFaultOf (applied effects tables) fault)
refused_for texts effects (Ok after) refused = tt
refused_for texts effects (Err fault) refused = λ tables are. refused tables (agree texts tables are effects)

-- one spot more is laid over the tables
pub spots_more : (spots : List Spot) (done : ℕ) (place : ℕ) (spot : Spot) (tables : Tables) → done < length spots → place ≡ length spots - 1 - done
    → spot ≡ get_or spots place spot
    → with_spots (drop (length spots - (done + 1)) spots) tables ≡ with_row (with_spots (drop (length spots - done) spots) tables) (row_at spot) spot.text
spots_more spots done place spot tables low is there =
    let here : length spots - (done + 1) ≡ place = omega arith in
    let next : place + 1 ≡ length spots - done = omega arith in
    ap (λ k. with_spots (drop k spots) tables) here
    ∙ at_drop_more (λ ss. with_spots ss tables) spots place spot (omega arith)
    ∙ ap (λ (s : Spot). with_row (with_spots (drop (place + 1) spots) tables) (row_at s) s.text) (sym there)
    ∙ ap (λ k. with_row (with_spots (drop k spots) tables) (row_at spot) spot.text) next
