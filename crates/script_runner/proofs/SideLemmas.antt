-- What a private side of a session is given.
use Rattle.std.proofs.Common.{◌≡◌, ◌⊎◌, inl, inr, ℕ, ◌+◌, ◌<◌, ◌≤◌, Bool, true, false, List, [], length, refl, sym, ap, ◌∙◌, subst}
use Rattle.std.specs.Prelude.{◌↔◌, nat_le, nat_lt, if◌then◌else◌, Some, None, is_some, Result, Ok, Err, IfErr, IsErrOf, IsOk, OnErr, OnOk, Option}
use Rattle.std.specs.Option.{option_map_or}
use Rattle.std.proofs.lemmas.Bool.{leb-true, le-leb, ltb-true, lt-ltb}
use Rattle.enq_base.specs.declared.refusal.Refusal.{Refusal}
use Rattle.enq_base.specs.declared.refusal.Refusal.TheVariants as refusal
use Rattle.enq_base.specs.declared.unit.Effect.{Effect}
use Rattle.dialogue_session.specs.Private.{Private, effect_count, with_effect, with_requests}
use Rattle.hall_model.specs.Step.{effects_in}
use Rattle.lock_entry.specs.declared.entry.Request.{Request}
use Rattle.script_runner.specs.Answers.{IsGivenBy, IsRefusedBy}
use Rattle.script_runner.specs.Lines.{collected, registered}
use Rattle.script_runner.specs.Sides.{container_of, parts_in, parts_of, side_of, with_side}

pub side_is_missing : (name : List ℕ) (xs : List Private) → side_of xs name ≡ None → is_some (side_of xs name) ≡ true → ⊥
side_is_missing name xs none some =
    let wrong : true ≡ false = sym some ∙ ap is_some none in
    cc

ok_err : (why : Refusal) (done : Unit) → IsErrOf {T = Unit} (Ok done) why → ⊥
ok_err why done e = cc

pub refused_as : {X : Type 0} (rule : Result X Refusal) (why : Refusal) → rule ≡ Err why → IsRefusedBy rule why
refused_as rule refusal.NoMemory is = tt
refused_as rule _ is = is

-- there is no room, or what is to go in does
room : (full : Bool) (why : Refusal) (r : Result Unit Refusal) (rule : Result (List Private) Refusal) (after : List Private)
    → rule ≡ (if full then Err why else Ok after) → (full ≡ true → IsErrOf r why) → (IsErrOf r why → full ≡ true)
    → IfErr r (λ e. (e ≡ why) ⊎ (e ≡ refusal.NoMemory)) → IsGivenBy (λ _. after) rule r
room true why (Ok done) rule after is on only fault = absurd (ok_err why done (on refl))
room false why (Ok done) rule after is on only fault = is
room true why (Err r) rule after is on only (inl e) = subst (λ x. IsRefusedBy rule x) (sym e) (refused_as rule why is)
room false why (Err r) rule after is on only (inl e) = absurd (let wrong : false ≡ true = only (ap Err e) in cc)
room b why (Err r) rule after is on only (inr e) = subst (λ x. IsRefusedBy rule x) (sym e) tt

given_more : {X Y : Type 0} (f g : Y → X) (rule : Result X Refusal) (r : Result Y Refusal) → OnOk r ((y : Y) → f y ≡ g y) → IsGivenBy f rule r
    → IsGivenBy g rule r
given_more f g rule (Ok y) same h = h ∙ ap Ok (same y)
given_more f g rule (Err e) same h = h

when_done : {P Q : Type 0} (r : Result Unit Refusal) → (P → Q) → OnOk r P → OnOk r Q
when_done (Ok done) f h = f h
when_done (Err e) f h = tt

-- the side of the session is changed to y where y is a change of x
abbrev Puts : List ℕ → List Private → Private → Private → List Private → Type 0
Puts name xs x y new = (change : Private → Private) → y ≡ change x → new ≡ with_side name change xs

pub when_refused : {P Q : Type 0} (r : Result Unit Refusal) → (P → Q) → OnErr r P → OnErr r Q
when_refused (Ok done) f h = tt
when_refused (Err e) f h = f h

pub either_way : {P Q R : Type 0} (r : Result Unit Refusal) → OnOk r P → OnErr r Q → (P → R) → (Q → R) → R
either_way (Ok done) h k f g = f h
either_way (Err e) h k f g = g k

pub where_done : {X E P : Type 0} (r : Result X E) → IsOk r → OnOk r P → P
where_done (Ok x) ok h = h
where_done (Err e) ok h = absurd (cc)

pub none_of : {X : Type 0} (o : Option X) → is_some o ≡ false → o ≡ None
none_of None h = refl
none_of (Some x) h = absurd (cc)

pub collects : (name : List ℕ) (rs : List Request) (xs : List Private) (x y : Private) (new : List Private) (r : Result Unit Refusal) → side_of xs name ≡ Some x
    → Puts name xs x y new → OnOk r (y ≡ with_requests rs x) → (64 < length x.container + length rs) ↔ IsErrOf r refusal.ContainerFull
    → IfErr r (λ e. (e ≡ refusal.ContainerFull) ⊎ (e ≡ refusal.NoMemory)) → IsGivenBy (λ _. new) (collected xs name rs) r
collects name rs xs x y new r found put done full fault =
    let n = length x.container + length rs in
    let after = with_side name (with_requests rs) xs in
    let container : container_of xs name ≡ x.container = ap (λ o. option_map_or (λ (p : Private). p.container) o []) found in
    let rule : collected xs name rs ≡ (if nat_lt 64 n then Err refusal.ContainerFull else Ok after) =
    ap (λ c. if nat_lt 64 (length c + length rs) then Err refusal.ContainerFull else Ok after) container in
    given_more (λ _. after) (λ _. new) (collected xs name rs) r
    (when_done r (λ e _. sym (put (with_requests rs) e)) done)
    (room (nat_lt 64 n) refusal.ContainerFull r (collected xs name rs) after rule (λ t. full.0 (ltb-true 64 n t)) (λ e. lt-ltb 64 n (full.1 e)) fault)

pub registers : (name : List ℕ) (part : ℕ) (effect : Effect) (xs : List Private) (x y : Private) (new : List Private) (r : Result Unit Refusal)
    → side_of xs name ≡ Some x → Puts name xs x y new → OnOk r (y ≡ with_effect part effect x) → (200 ≤ effect_count x) ↔ IsErrOf r refusal.UnitTooLarge
    → IfErr r (λ e. (e ≡ refusal.UnitTooLarge) ⊎ (e ≡ refusal.NoMemory)) → IsGivenBy (λ _. new) (registered xs name part effect) r
registers name part effect xs x y new r found put done full fault =
    let n = effect_count x in
    let after = with_side name (with_effect part effect) xs in
    let parts : parts_of xs name ≡ parts_in x = ap (λ o. option_map_or parts_in o (record { v1 = []; v2 = [] })) found in
    let rule : registered xs name part effect ≡ (if nat_le 200 n then Err refusal.UnitTooLarge else Ok after) =
    ap (λ c. if nat_le 200 (effects_in c) then Err refusal.UnitTooLarge else Ok after) parts in
    given_more (λ _. after) (λ _. new) (registered xs name part effect) r
    (when_done r (λ e _. sym (put (with_effect part effect) e)) done)
    (room (nat_le 200 n) refusal.UnitTooLarge r (registered xs name part effect) after rule (λ t. full.0 (leb-true 200 n t))
    (λ e. le-leb 200 n (full.1 e)) fault)
