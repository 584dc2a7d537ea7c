-- The business tables after one mark more.
use Rattle.std.proofs.Common.{◌≡◌, ℕ, Bool, true, List, [], ◌∷◌, ◌++◌, Result, Ok, Err, IfOk, refl, sym, ap, subst, ◌∙◌}
use Rattle.std.specs.FinMap.{empty, get-empty}
use Rattle.std.specs.BTreeMap.{BTreeMap, is_at}
use Rattle.std.proofs.lemmas.List.Sums.{fold-append}
use Rattle.std.specs.Map.{lookup}
use Rattle.enq_base.specs.declared.unit.Effect.{Effect}
use Rattle.enq_base.specs.declared.unit.Reason.{Reason}
use Rattle.module_effects.specs.Effects.{applied}
use Rattle.module_effects.specs.Rows.{row_cmp}
use Rattle.update_records.specs.Business.{posted}
use Rattle.update_records.specs.declared.records.Mark.{Mark}
use Rattle.update_records.specs.declared.records.MarkKind.{MarkKind}
use Rattle.update_records.specs.declared.records.MarkKind.TheVariants.{V1, Bad1, V2, Bad2}
use Rattle.update_records.specs.declared.stored.Record.{Record}
use Rattle.update_records.specs.declared.stored.Record.TheVariants as rec
use Rattle.store_reading.specs.Ids.{text_cmp, text_id}
use Rattle.store_reading.specs.Posting.{AreTexts}
use Rattle.store_reading.specs.Posts.{effects_of, is_done, is_refused, is_right_post, tables_by, tables_with}
use Rattle.store_reading.specs.declared.text_id.TextId.{TextId}

tables_push : (steps before : List Record) (r : Record) → tables_by steps (before ++ r ∷ []) ≡ tables_with steps (tables_by steps before) r
tables_push steps before r = fold-append (tables_with steps) empty before (r ∷ [])

abbrev as_kind : Mark → MarkKind → Mark
as_kind m kind = record { seq = m.seq; unit = m.unit; kind = kind }

kinded : (r : Record) (m : Mark) (kind : MarkKind) → r ≡ rec.Mark m → m.kind ≡ kind → r ≡ rec.Mark (as_kind m kind)
kinded r m kind is own = is ∙ ap (λ k. rec.Mark (as_kind m k)) own

-- the record is right where the result says so, and the texts are then those of the tables after it
abbrev Follows : {E : Type 0} → BTreeMap TextId (List ℕ) → List Record → List Record → Record → Result Bool E → Type 0
Follows new steps before r result =
    IfOk result (λ right. (right ≡ is_right_post steps before r) × (right ≡ true → AreTexts new (tables_by steps (before ++ r ∷ []))))

abbrev Posts : {E : Type 0} → BTreeMap TextId (List ℕ) → List Record → List Record → List Effect → Result Bool E → Type 0
Posts new steps before effects result =
    IfOk result (λ done. (done ≡ is_done (applied effects (tables_by steps before))) × (done ≡ true → AreTexts new (posted effects (tables_by steps before))))

done_more : {E : Type 0} (new : BTreeMap TextId (List ℕ)) (steps before : List Record) (r : Record) (effects : List Effect) (result : Result Bool E)
    → is_right_post steps before r ≡ is_done (applied effects (tables_by steps before))
    → tables_with steps (tables_by steps before) r ≡ posted effects (tables_by steps before)
    → Posts new steps before effects result → Follows new steps before r result
done_more new steps before r effects (Ok done) is makes h = (h.0 ∙ sym is, λ t. subst (AreTexts new) (sym (tables_push steps before r ∙ makes)) (h.1 t))
done_more new steps before r effects (Err e) is makes h = tt

refused_more : {E : Type 0} (texts : BTreeMap TextId (List ℕ)) (steps before : List Record) (r : Record) (answer : Bool) (result : Result Bool E)
    → is_right_post steps before r ≡ answer → tables_with steps (tables_by steps before) r ≡ tables_by steps before → AreTexts texts (tables_by steps before)
    → IfOk result (λ refused. refused ≡ answer) → Follows texts steps before r result
refused_more texts steps before r answer (Ok refused) is makes known h =
    (h ∙ sym is, λ t. subst (AreTexts texts) (sym (tables_push steps before r ∙ makes)) known)
refused_more texts steps before r answer (Err e) is makes known h = tt

pub v1_more : {E : Type 0} (new : BTreeMap TextId (List ℕ)) (steps before : List Record) (r : Record) (m : Mark) (effects : List Effect)
    (result : Result Bool E)
    → r ≡ rec.Mark m → m.kind ≡ V1 → effects ≡ effects_of steps m.unit 1 → Posts new steps before effects result → Follows new steps before r result
v1_more new steps before r m effects result is kind own h =
    subst (λ x. Follows new steps before x result) (sym (kinded r m V1 is kind))
    (done_more new steps before (rec.Mark (as_kind m V1)) (effects_of steps m.unit 1) result refl refl (subst (λ es. Posts new steps before es result) own h))

pub v2_more : {E : Type 0} (new : BTreeMap TextId (List ℕ)) (steps before : List Record) (r : Record) (m : Mark) (effects : List Effect)
    (result : Result Bool E)
    → r ≡ rec.Mark m → m.kind ≡ V2 → effects ≡ effects_of steps m.unit 2 → Posts new steps before effects result → Follows new steps before r result
v2_more new steps before r m effects result is kind own h =
    subst (λ x. Follows new steps before x result) (sym (kinded r m V2 is kind))
    (done_more new steps before (rec.Mark (as_kind m V2)) (effects_of steps m.unit 2) result refl refl (subst (λ es. Posts new steps before es result) own h))

pub bad1_more : {E : Type 0} (texts : BTreeMap TextId (List ℕ)) (steps before : List Record) (r : Record) (m : Mark) (index : ℕ) (reason : Reason)
    (effects : List Effect) (result : Result Bool E)
    → r ≡ rec.Mark m → m.kind ≡ Bad1 index reason → effects ≡ effects_of steps m.unit 1 → AreTexts texts (tables_by steps before)
    → IfOk result (λ refused. refused ≡ is_refused index reason (applied effects (tables_by steps before))) → Follows texts steps before r result
bad1_more texts steps before r m index reason effects result is kind own known h =
    subst (λ x. Follows texts steps before x result) (sym (kinded r m (Bad1 index reason) is kind))
    (refused_more texts steps before (rec.Mark (as_kind m (Bad1 index reason)))
    (is_refused index reason (applied (effects_of steps m.unit 1) (tables_by steps before))) result refl refl known
    (subst (λ es. IfOk result (λ refused. refused ≡ is_refused index reason (applied es (tables_by steps before)))) own h))

pub bad2_more : {E : Type 0} (texts : BTreeMap TextId (List ℕ)) (steps before : List Record) (r : Record) (m : Mark) (index : ℕ) (reason : Reason)
    (effects : List Effect) (result : Result Bool E)
    → r ≡ rec.Mark m → m.kind ≡ Bad2 index reason → effects ≡ effects_of steps m.unit 2 → AreTexts texts (tables_by steps before)
    → IfOk result (λ refused. refused ≡ is_refused index reason (applied effects (tables_by steps before))) → Follows texts steps before r result
bad2_more texts steps before r m index reason effects result is kind own known h =
    subst (λ x. Follows texts steps before x result) (sym (kinded r m (Bad2 index reason) is kind))
    (refused_more texts steps before (rec.Mark (as_kind m (Bad2 index reason)))
    (is_refused index reason (applied (effects_of steps m.unit 2) (tables_by steps before))) result refl refl known
    (subst (λ es. IfOk result (λ refused. refused ≡ is_refused index reason (applied es (tables_by steps before)))) own h))

pub no_texts : (texts : BTreeMap TextId (List ℕ)) → texts.entries ≡ [] → AreTexts texts empty
no_texts texts none = λ name. ap (lookup (is_at (text_cmp (text_id name)))) none ∙ sym (get-empty row_cmp name)
