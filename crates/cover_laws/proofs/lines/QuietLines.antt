-- What a line of a session that makes no call makes of what the session keeps.
use Rattle.std.proofs.Common.{◌≡◌, ℕ, ◌≤◌, arith, Bool, true, false, List, [], ◌∷◌, ◌++◌, map, Option, Some, None, Result, Ok, Err, refl, sym, ap, ◌∙◌, subst}
use Rattle.std.specs.Prelude.{⊤, if◌then◌else◌, is_some, nat_eq}
use Rattle.std.specs.List.{filter}
use Rattle.std.proofs.lemmas.List.{map-append}
use Rattle.std.proofs.lemmas.List.Elements.{filter-append}
use Rattle.enq_base.specs.declared.owner.Scope.{Scope}
use Rattle.enq_base.specs.declared.refusal.Refusal.{Refusal}
use Rattle.enq_base.specs.declared.unit.Deed.{Deed}
use Rattle.enq_base.specs.declared.unit.Effect.{Effect}
use Rattle.mode_rules.specs.declared.Mode.{Mode}
use Rattle.lock_entry.specs.declared.entry.Asked.{Asked}
use Rattle.lock_entry.specs.declared.entry.Request.{Request}
use Rattle.lock_objects.specs.Objects.{Object}
use Rattle.dialogue_session.specs.Filling.{filled}
use Rattle.dialogue_session.specs.Private.{Private, with_effect, with_requests, without_requests}
use Rattle.dialogue_session.specs.declared.variables.Variable.{Variable}
use Rattle.script_lang.specs.declared.script_line.RawValue.{RawValue}
use Rattle.script_lang.specs.declared.script_line.ScriptLine.{ScriptLine}
use Rattle.script_lang.specs.declared.script_line.ScriptLine.TheVariants as line
use Rattle.script_runner.specs.Lines.{and_next, effect_of, key_in}
use Rattle.script_runner.specs.Sides.{side_of, variables_of, with_side}
use Rattle.coverage.specs.Lacks.{Standing, after_line}
use Rattle.script_lang.specs.Sessions.{session_of}
use Rattle.coverage.specs.Locks.{covering_locks}
use Rattle.cover_laws.proofs.needed.CoverageNeeded.{RowEffect, ends_unit_at, stand}
use Rattle.cover_laws.proofs.needed.LinesNeeded.{Matches}
use Rattle.cover_laws.proofs.needed.LocksNeeded.{often, update_asked}
use Rattle.cover_laws.proofs.lines.LineCalls.{Collects, IsChange, IsEffectLine, Registers, Resets, effect_by}
use Rattle.cover_laws.proofs.locks.OftenAsked.{often-append}
use Rattle.cover_laws.proofs.lines.OwnSides.{side_changed}
use Rattle.cover_laws.proofs.lines.PlainParts.{covering_part, plain_fills}
use Rattle.cover_laws.proofs.lines.RegisteredEffects.{Goes, IsNamed, goes_along, goes_further, goes_on, matches_so, stand_more}
use Rattle.cover_laws.proofs.lines.RowLines.{key_same}

pub record IsQuietLine (objects : List Object) (s : List ℕ) (done : List ScriptLine) (sides : List Private) (l : ScriptLine) (more : List Private)
    : Type 0 where
  pub after : Matches objects s (done ++ l ∷ []) more
  pub on : is_some (side_of more s) ≡ is_some (side_of sides s)
  pub unended : (st : Standing) → ends_unit_at st l ≡ false
  pub same : (stand objects (done ++ l ∷ [])).held ≡ (stand objects done).held

abbrev pub QuietOf : List Object → List ScriptLine → List Private → ScriptLine → List Private → Option (List ℕ) → Type 0
QuietOf objects done sides l more None = ⊤
QuietOf objects done sides l more (Some s) = Matches objects s done sides → IsQuietLine objects s done sides l more

-- ---- requests that are collected

update_more : (old more : List Request) → update_asked (old ++ more) ≡ update_asked old ++ update_asked more
update_more old more =
    ap (map (λ (r : Request). r.asked)) (filter-append (λ (r : Request). r.update) old more)
    ∙ map-append (λ (r : Request). r.asked) (filter (λ (r : Request). r.update) old) (filter (λ (r : Request). r.update) more)

part_more : (held added : List Asked) (old more : List Request) (a : Asked) → often held a ≤ often (update_asked old) a
    → often added a ≤ often (update_asked more) a → often (held ++ added) a ≤ often (update_asked (old ++ more)) a
part_more held added old more a first second =
    let left = often-append held added a in
    let right = ap (λ (xs : List Asked). often xs a) (update_more old more) ∙ often-append (update_asked old) (update_asked more) a in
    omega arith

-- ---- effects that are registered

effect_names : (variables : List Variable) (does : List ℕ → Result Deed Refusal) (row : RowEffect) (text : List ℕ) (effect : Effect)
    → effect_by variables does row.table row.key text ≡ Ok effect → IsNamed row effect
effect_names variables does row text effect is = by_key (filled variables row.key) refl is
  where
    by_deed : (known : List ℕ) (deed : Result Deed Refusal) → effect_of row.table (Ok known) deed ≡ Ok effect
        → (row.table ≡ effect.table) × (known ≡ effect.key)
    by_deed known (Ok d) made =
        let whole : record { table = row.table; key = known; deed = d } ≡ effect = cc in
        (ap (λ (e : Effect). e.table) whole, ap (λ (e : Effect). e.key) whole)
    by_deed known (Err r) made = absurd (cc)

    by_known : (written : List ℕ) (known : Result (List ℕ) Refusal) (deed : Result Deed Refusal) → key_in written ≡ known
        → effect_of row.table known deed ≡ Ok effect → (row.table ≡ effect.table) × (written ≡ effect.key)
    by_known written (Ok known) deed key made =
        let both = by_deed known deed made in
        (both.0, key_same written known key ∙ both.1)
    by_known written (Err r) deed key made = absurd (cc)

    by_text : (written : List ℕ) (bytes : Result (List ℕ) Refusal) → and_next bytes (λ t. effect_of row.table (key_in written) (does t)) ≡ Ok effect
        → (row.table ≡ effect.table) × (written ≡ effect.key)
    by_text written (Ok t) made = by_known written (key_in written) (does t) refl made
    by_text written (Err r) made = absurd (cc)

    by_key : (bytes : Result (List ℕ) Refusal) → filled variables row.key ≡ bytes
        → and_next bytes (λ k. and_next (filled variables text) (λ t. effect_of row.table (key_in k) (does t))) ≡ Ok effect
        → IsNamed row effect
    by_key (Ok written) fills made =
        let both = by_text written (filled variables text) made in
        record {
          table = both.0;
          key = λ plain.
              let whole : Ok row.key ≡ Ok written = sym (plain_fills variables row.key plain) ∙ fills in
              let one : row.key ≡ written = cc in
              one ∙ both.1;
        }
    by_key (Err r) fills made = absurd (cc)

-- ---- lines

module _ (objects : List Object) (done : List ScriptLine) (sides : List Private) where
  abbrev now : Standing
  now = stand objects done

  kept : (l : ScriptLine) (s : List ℕ) (x : Private) (change : Private → Private) (st : Standing) → side_of sides s ≡ Some x
      → ((y : Private) → (change y).session ≡ y.session) → ((t : Standing) → ends_unit_at t l ≡ false) → after_line objects now l ≡ st
      → st.held ≡ now.held → Goes objects (done ++ l ∷ []) st (Some (change x)) → IsQuietLine objects s done sides l (with_side s change sides)
  kept l s x change st at still unended is same goes =
      let there : side_of (with_side s change sides) s ≡ Some (change x) = side_changed s change still sides x at in
      let new : stand objects (done ++ l ∷ []) ≡ st = stand_more objects done l ∙ is in
      record {
        after = matches_so objects s (done ++ l ∷ []) (with_side s change sides) st (Some (change x)) new there goes;
        on = ap is_some there ∙ sym (ap is_some at);
        unended = unended;
        same = ap (λ (t : Standing). t.held) new ∙ same;
      }

  module _ (s : List ℕ) (x : Private) (at : side_of sides s ≡ Some x) (m : Matches objects s done sides) where
    abbrev along : Goes objects done now (Some x)
    along = goes_along objects s done sides (Some x) at m

    resets : IsQuietLine objects s done sides (line.Reset s) (with_side s without_requests sides)
    resets =
        let l = line.Reset s in
        let st : Standing = record now { container = [] } in
        kept l s x without_requests st at (λ y. refl) (λ t. refl) refl refl (goes_on objects done l refl st x x.variables [] along refl (λ a. omega arith))

    collects : (object : List ℕ) (mode : Mode) (scope : Scope) (values : List RawValue) (rs : List Request)
        → ((a : Asked) → often (covering_locks objects object mode scope values) a ≤ often (update_asked rs) a)
        → IsQuietLine objects s done sides (line.Collect s object mode scope values) (with_side s (with_requests rs) sides)
    collects object mode scope values rs part =
        let l = line.Collect s object mode scope values in
        let added : List Asked = covering_locks objects object mode scope values in
        let st : Standing = record now { container = now.container ++ added } in
        kept l s x (with_requests rs) st at (λ y. refl) (λ t. refl) refl refl
        (goes_on objects done l refl st x x.variables (x.container ++ rs) along refl
        (λ a. part_more now.container added x.container rs a (along.container a) (part a)))

    registers : (l : ScriptLine) (row : RowEffect) (effect : Effect) → IsEffectLine l s row → IsNamed row effect
        → IsQuietLine objects s done sides l (with_side s (with_effect row.part effect) sides)
    registers l row effect effects names =
        let st : Standing = record now { effects = true } in
        kept l s x (with_effect row.part effect) st at (still (nat_eq row.part 1)) effects.unended (effects.after objects now) refl
        (goes_further objects done l (effects.unended now) row effect effects.names names x along)
      where
        still : (b : Bool) (y : Private)
            → (if b then record y { v1 = y.v1 ++ effect ∷ [] } else record y { v2 = y.v2 ++ effect ∷ [] }).session ≡ y.session
        still true y = refl
        still false y = refl

  -- each line of a session that changes its private side
  pub quiet_line : (l : ScriptLine) (more : List Private) → IsChange objects sides l more → QuietOf objects done sides l more (session_of l)
  quiet_line l more (Resets s x at) = λ m. resets s x at m
  quiet_line l more (Collects s object mode scope values rs x at ok) = λ m.
      collects s x at m object mode scope values rs (covering_part objects _ object mode scope values rs ok)
  quiet_line l more (Registers k s row does text effect x effects at ok) =
      subst (QuietOf objects done sides k (with_side s (with_effect row.part effect) sides)) (sym effects.own)
      (λ m. registers s x at m k row effect effects (effect_names (variables_of sides s) does row text effect ok))
