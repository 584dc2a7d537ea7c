-- Parts and values of lines with texts in place of variables.
use Rattle.std.proofs.Common.{◌≡◌, inl, inr, ℕ, true, List, [], ◌∷◌, ◌++◌, Some, refl, sym, ap, ◌∙◌, subst, append_assoc}
use Rattle.std.specs.Prelude.{Result, Ok, Err, IfOk, IfErr, Option, None, is_some, if◌then◌else◌}
use Rattle.std.specs.Option.{option_map_or}
use Rattle.enq_base.specs.declared.owner.Scope.{Scope}
use Rattle.enq_base.specs.declared.refusal.Refusal.{Refusal}
use Rattle.enq_base.specs.declared.refusal.Refusal.TheVariants as refusal
use Rattle.enq_base.specs.declared.unit.Effect.{Effect}
use Rattle.lock_entry.specs.declared.entry.Request.{Request}
use Rattle.lock_objects.specs.declared.value.FieldValue.{FieldValue}
use Rattle.lock_objects.specs.declared.value.Value.{Value}
use Rattle.dialogue_session.specs.Filling.{IsRefusedAs}
use Rattle.dialogue_session.specs.Private.{Private}
use Rattle.dialogue_session.specs.declared.variables.Variable.{Variable}
use Rattle.mode_rules.specs.declared.Mode.{Mode}
use Rattle.script_lang.specs.declared.script_line.RawValue.{RawValue}
use Rattle.script_lang.specs.declared.script_line.ScriptLine.TheVariants as line
use Rattle.script_runner.specs.Answers.{IsGivenBy, IsRefusedBy}
use Rattle.script_runner.specs.Lines.{Meaning, Changes, Declines, collected, collecting, effect_line, effect_with, effecting, field_values, given_value, meaning}
use Rattle.script_runner.specs.Lines.{of_session, registered, registering, requesting, unless_refused, value_before}
use Rattle.script_runner.specs.Preparing.{IsPrepared}
use Rattle.script_runner.specs.World.{Setting}
use Rattle.script_runner.specs.declared.effects.Verb.{Verb}
use Rattle.script_runner.specs.declared.effects.Verb.TheVariants as verb
use Rattle.script_runner.specs.Sides.{side_of, variables_of}
use Rattle.script_runner.proofs.SideLemmas.{refused_as}

pub given : (rule r : Result (List ℕ) Refusal) → IfOk r (λ text. rule ≡ Ok text) → IfErr r (IsRefusedAs rule) → IsGivenBy (λ (text : List ℕ). text) rule r
given rule (Ok text) ok err = ok
given rule (Err e) ok (inl h) = refused_as rule e h
given rule (Err e) ok (inr h) = subst (λ x. IsRefusedBy rule x) (sym h) tt

-- ---- values

-- values in front of those behind them, or the refusal of these
abbrev pub values_behind : List FieldValue → Result (List FieldValue) Refusal → Result (List FieldValue) Refusal
values_behind front (Ok rest) = Ok (front ++ rest)
values_behind front (Err r) = Err r

one_more : (front : List FieldValue) (field : List ℕ) (v : Value) (r : Result (List FieldValue) Refusal)
    → values_behind (front ++ record { field = field; value = v } ∷ []) r ≡ values_behind front (value_before field (Ok v) r)
one_more front field v (Ok rest) = ap Ok (append_assoc front (record { field = field; value = v } ∷ []) rest)
one_more front field v (Err r) = refl

pub values-step : (vs : List Variable) (front all : List FieldValue) (raw : RawValue) (v : Value) (bytes : List ℕ) (rest after : List RawValue)
    (whole : Result (List FieldValue) Refusal) → rest ≡ raw ∷ after → bytes ≡ raw.raw → given_value vs bytes ≡ Ok v
    → all ≡ front ++ record { field = raw.field; value = v } ∷ [] → values_behind front (field_values vs rest) ≡ whole
    → values_behind all (field_values vs after) ≡ whole
values-step vs front all raw v bytes rest after whole split same is put h =
    ap (λ xs. values_behind xs (field_values vs after)) put ∙ one_more front raw.field v (field_values vs after)
    ∙ ap (λ x. values_behind front (value_before raw.field x (field_values vs after))) (sym is ∙ ap (given_value vs) same)
    ∙ ap (λ xs. values_behind front (field_values vs xs)) (sym split) ∙ h

-- ---- sides

-- the line of a session that has a side
pub with_its_side : (sides : List Private) (s : List ℕ) (p : Private) (m : List Variable → Meaning) → Some p ≡ side_of sides s
    → of_session sides s (m (variables_of sides s)) ≡ m p.variables
with_its_side sides s p m is = at (side_of sides s) is
  where
    at : (o : Option Private) → Some p ≡ o → (if is_some o then m (option_map_or (λ (x : Private). x.variables) o []) else Declines refusal.UnknownSession) ≡ m
        p.variables
    at (Some q) e =
        let same : p ≡ q = cc in
        ap (λ (x : Private). m x.variables) (sym same)
    at None e = absurd (cc)

-- an effect that is refused before it is registered
abbrev of_effect : Setting → List ℕ → ℕ → Verb → List ℕ → List ℕ → List ℕ → List Variable → Meaning
of_effect w s part v table key text vs = unless_refused (effect_with vs v table key text) (registering w.sides s part)

means_effect : (w : Setting) (s : List ℕ) (part : ℕ) (v : Verb) (table key text : List ℕ) → (v ≡ verb.Del → text ≡ [])
    → meaning w (effect_line v s part table key text) ≡ effecting w s part v table key text
means_effect w s part verb.Put table key text nothing = refl
means_effect w s part verb.Ins table key text nothing = refl
means_effect w s part verb.Del table key text nothing = ap (effecting w s part verb.Del table key) (sym (nothing refl))
means_effect w s part verb.Add table key text nothing = refl

declined : {X : Type 0} (rule : Result X Refusal) (next : X → Meaning) (sides : List Private) (r : Refusal) → IsRefusedBy rule r
    → IsPrepared (unless_refused rule next) true sides sides (Err r)
declined rule next sides refusal.NoMemory h = (refl, refl)
declined rule next sides r h = (ap (λ x. unless_refused x next) h, refl)

pub effect_declined : (w : Setting) (s : List ℕ) (part : ℕ) (v : Verb) (table key text : List ℕ) (p : Private) (r : Refusal) → (v ≡ verb.Del → text ≡ [])
    → Some p ≡ side_of w.sides s → IsRefusedBy (effect_with p.variables v table key text) r
    → IsPrepared (meaning w (effect_line v s part table key text)) true w.sides w.sides (Err r)
effect_declined w s part v table key text p r nothing is refused =
    subst (λ m. IsPrepared m true w.sides w.sides (Err r))
    (sym (means_effect w s part v table key text nothing ∙ with_its_side w.sides s p (of_effect w s part v table key text) is))
    (declined (effect_with p.variables v table key text) (registering w.sides s part) w.sides r refused)

-- ---- a step that is taken, and then one that changes the sides

module _ {X : Type 0} (rule : Result X Refusal) (x : X) (is : rule ≡ Ok x) (next : X → Result (List Private) Refusal) where
  then_changes : (after : List Private) → next x ≡ Ok after → unless_refused rule (λ y. unless_refused (next y) Changes) ≡ Changes after
  then_changes after made =
      ap (λ o. unless_refused o (λ y. unless_refused (next y) Changes)) is ∙ ap (λ o. unless_refused o Changes) made

  then_declined : (before after : List Private) (r : Refusal) → IsRefusedBy (next x) r → after ≡ before
      → IsPrepared (unless_refused rule (λ y. unless_refused (next y) Changes)) true before after (Err r)
  then_declined before after r refused same =
      subst (λ m. IsPrepared m true before after (Err r)) (sym (ap (λ o. unless_refused o (λ y. unless_refused (next y) Changes)) is))
      (subst (λ l. IsPrepared (unless_refused (next x) Changes) true before l (Err r)) (sym same) (declined (next x) Changes before r refused))

module _ (w : Setting) (s : List ℕ) (part : ℕ) (v : Verb) (table key text : List ℕ) (p : Private) (effect : Effect) (nothing : v ≡ verb.Del → text ≡ [])
    (at : Some p ≡ side_of w.sides s) (is : effect_with p.variables v table key text ≡ Ok effect) where
  pub effect_changes : (after : List Private) → registered w.sides s part effect ≡ Ok after
      → meaning w (effect_line v s part table key text) ≡ Changes after
  effect_changes after made =
      means_effect w s part v table key text nothing ∙ with_its_side w.sides s p (of_effect w s part v table key text) at
      ∙ then_changes (effect_with p.variables v table key text) effect is (registered w.sides s part) after made

  pub effect_too_much : (after : List Private) (r : Refusal) → IsRefusedBy (registered w.sides s part effect) r → after ≡ w.sides
      → IsPrepared (meaning w (effect_line v s part table key text)) true w.sides after (Err r)
  effect_too_much after r refused same =
      subst (λ m. IsPrepared m true w.sides after (Err r))
      (sym (means_effect w s part v table key text nothing ∙ with_its_side w.sides s p (of_effect w s part v table key text) at))
      (then_declined (effect_with p.variables v table key text) effect is (registered w.sides s part) w.sides after r refused same)

-- requests that are refused before they are collected
abbrev of_requests : Setting → List ℕ → List ℕ → Mode → Scope → List RawValue → List Variable → Meaning
of_requests w s object m scope values vs = unless_refused (requesting vs w.objects object m scope values) (collecting w.sides s)

module _ (w : Setting) (s object : List ℕ) (m : Mode) (scope : Scope) (values : List RawValue) (p : Private) (at : Some p ≡ side_of w.sides s) where
  pub requests_declined : (r : Refusal) → IsRefusedBy (requesting p.variables w.objects object m scope values) r
      → IsPrepared (meaning w (line.Collect s object m scope values)) true w.sides w.sides (Err r)
  requests_declined r refused =
      subst (λ t. IsPrepared t true w.sides w.sides (Err r)) (sym (with_its_side w.sides s p (of_requests w s object m scope values) at))
      (declined (requesting p.variables w.objects object m scope values) (collecting w.sides s) w.sides r refused)

  module _ (requests : List Request) (is : requesting p.variables w.objects object m scope values ≡ Ok requests) where
    pub requests_changes : (after : List Private) → collected w.sides s requests ≡ Ok after
        → meaning w (line.Collect s object m scope values) ≡ Changes after
    requests_changes after made =
        with_its_side w.sides s p (of_requests w s object m scope values) at
        ∙ then_changes (requesting p.variables w.objects object m scope values) requests is (collected w.sides s) after made

    pub requests_too_many : (after : List Private) (r : Refusal) → IsRefusedBy (collected w.sides s requests) r → after ≡ w.sides
        → IsPrepared (meaning w (line.Collect s object m scope values)) true w.sides after (Err r)
    requests_too_many after r refused same =
        subst (λ t. IsPrepared t true w.sides after (Err r)) (sym (with_its_side w.sides s p (of_requests w s object m scope values) at))
        (then_declined (requesting p.variables w.objects object m scope values) requests is (collected w.sides s) w.sides after r refused same)
