-- What a session keeps to itself goes with its lines, line by line: its container, and the effects of its unit.
use Rattle.std.proofs.Common.{◌≡◌, inl, inr, ℕ, ◌+◌, ◌≤◌, zero, suc, arith, Bool, true, false, List, [], ◌∷◌, ◌++◌, length, Option, Some, None, refl, sym, ap, ◌∙◌, subst, append_assoc}
use Rattle.std.specs.Prelude.{Contains, if◌then◌else◌, nat_eq, nat_lt}
use Rattle.std.specs.Option.{option_map_or}
use Rattle.std.proofs.lemmas.Bool.{lt-ltb}
use Rattle.std.proofs.lemmas.List.{append-nil, length-append}
use Rattle.std.proofs.lemmas.List.Elements.{Contains-append_cases}
use Rattle.std.proofs.lemmas.List.Sums.{fold-append}
use Rattle.std.proofs.Math.Seq.{append_snoc}
use Rattle.enq_base.specs.declared.unit.Effect.{Effect}
use Rattle.lock_entry.specs.declared.entry.Asked.{Asked}
use Rattle.lock_entry.specs.declared.entry.Request.{Request}
use Rattle.lock_objects.specs.Objects.{Object}
use Rattle.dialogue_session.specs.Private.{Private, with_effect}
use Rattle.dialogue_session.specs.declared.variables.Variable.{Variable}
use Rattle.hall_model.specs.Step.{effects_in}
use Rattle.script_lang.specs.declared.script_line.ScriptLine.{ScriptLine}
use Rattle.script_runner.specs.Sides.{parts_in, side_of}
use Rattle.coverage.specs.Lacks.{Standing, after_line, fresh}
use Rattle.coverage.specs.Locks.{holds_dollar}
use Rattle.cover_laws.proofs.needed.CoverageNeeded.{RowEffect, Unended, effect_at, ends_unit_at, stand}
use Rattle.cover_laws.proofs.needed.LinesNeeded.{FirstPlaces, IsRegistered, Matches}
use Rattle.cover_laws.proofs.needed.LocksNeeded.{often, update_asked}
use Rattle.cover_laws.proofs.Lists.{never_empty, same_head, same_tail, split_in_two}

-- ---- lists

none_there : {X : Type 0} (x : X) → Contains [] x → ⊥
none_there x (k, within, at) = absurd (omega (arith, within))

only_there : {X : Type 0} (y x : X) → Contains (y ∷ []) x → y ≡ x
only_there y x (zero, within, at) = at
only_there y x (suc k, within, at) = absurd (omega (arith, within))

only_last : {X : Type 0} (y : X) (front rest : List X) (x : X) → y ∷ [] ≡ front ++ x ∷ rest → (front ≡ []) × (y ≡ x)
only_last y [] rest x is = (refl, same_head y x [] rest is)
only_last y (z ∷ front) rest x is = absurd (never_empty front rest x (same_tail y z [] (front ++ x ∷ rest) is))

-- an effect of a line is one on the row that the line names
pub record IsNamed (row : RowEffect) (effect : Effect) : Type 0 where
  pub table : row.table ≡ effect.table
  pub key : holds_dollar row.key ≡ false → row.key ≡ effect.key

-- ---- what a session keeps, by its side and by what stands after its lines

pub record Goes (objects : List Object) (done : List ScriptLine) (st : Standing) (side : Option Private) : Type 0 where
  pub none : side ≡ None → st ≡ fresh
  pub container : (a : Asked) → often st.container a ≤ often (update_asked (option_map_or (λ (p : Private). p.container) side [])) a
  pub effects : st.effects ≡ nat_lt 0 (effects_in (option_map_or parts_in side (record { v1 = []; v2 = [] })))
  pub first : (e : Effect) → Contains (option_map_or parts_in side (record { v1 = []; v2 = [] })).v1 e → IsRegistered objects done true e
  pub second : (e : Effect) → Contains (option_map_or parts_in side (record { v1 = []; v2 = [] })).v2 e → IsRegistered objects done false e

pub goes_along : (objects : List Object) (name : List ℕ) (done : List ScriptLine) (sides : List Private) (side : Option Private)
    → side_of sides name ≡ side → Matches objects name done sides → Goes objects done (stand objects done) side
goes_along objects name done sides side at m =
    let whole : Goes objects done (stand objects done) (side_of sides name) = record {
      none = m.none;
      container = m.container;
      effects = m.effects;
      first = m.first;
      second = m.second;
    } in
    subst (Goes objects done (stand objects done)) at whole

pub matches_so : (objects : List Object) (name : List ℕ) (done : List ScriptLine) (sides : List Private) (st : Standing) (side : Option Private)
    → stand objects done ≡ st → side_of sides name ≡ side → Goes objects done st side → Matches objects name done sides
matches_so objects name done sides st side is at g =
    let there : Goes objects done (stand objects done) side = subst (λ (t : Standing). Goes objects done t side) (sym is) g in
    let whole : Goes objects done (stand objects done) (side_of sides name) = subst (Goes objects done (stand objects done)) (sym at) there in
    record { none = whole.none; container = whole.container; effects = whole.effects; first = whole.first; second = whole.second }

-- without a side
pub goes_without : (objects : List Object) (done : List ScriptLine) → Goes objects done fresh None
goes_without objects done = record {
  none = λ is. refl;
  container = λ a. omega arith;
  effects = refl;
  first = λ e among. absurd (none_there e among);
  second = λ e among. absurd (none_there e among);
}

pub first_places : FirstPlaces
first_places objects name = matches_so objects name [] [] fresh None refl refl (goes_without objects [])

-- without effects
pub goes_bare : (objects : List Object) (done : List ScriptLine) (st : Standing) (session : List ℕ) (variables : List Variable)
    (container : List Request) → st.effects ≡ false → ((a : Asked) → often st.container a ≤ often (update_asked container) a)
    → Goes objects done st (Some (record { session = session; variables = variables; v1 = []; v2 = []; container = container }))
goes_bare objects done st session variables container quiet part = record {
  none = λ is. absurd (cc);
  container = part;
  effects = quiet;
  first = λ e among. absurd (none_there e among);
  second = λ e among. absurd (none_there e among);
}

module _ (objects : List Object) (done : List ScriptLine) (l : ScriptLine) where
  pub stand_more : stand objects (done ++ l ∷ []) ≡ after_line objects (stand objects done) l
  stand_more = fold-append (after_line objects) fresh done (l ∷ [])

  module _ (unended : ends_unit_at (stand objects done) l ≡ false) where
    stays_unended : (before after : List ScriptLine) → before ++ after ≡ done → Unended objects before after
        → Unended objects before (after ++ l ∷ [])
    stays_unended before after whole u earlier later m is =
        elim (split_in_two after (l ∷ []) earlier later m is) [
          | inl (mid, stood) ↦ u earlier mid m stood
          | inr (mid, both) ↦
              let last = only_last l mid later m both.1 in
              let all : earlier ≡ after = both.0 ∙ ap (λ (ls : List ScriptLine). after ++ ls) last.0 ∙ append-nil after in
              let there : before ++ earlier ≡ done = ap (λ (ls : List ScriptLine). before ++ ls) all ∙ whole in
              subst (λ (ls : List ScriptLine). ends_unit_at (stand objects ls) m ≡ false) (sym there)
              (subst (λ (k : ScriptLine). ends_unit_at (stand objects done) k ≡ false) last.1 unended)
        ]

    stays_registered : (first : Bool) (e : Effect) → IsRegistered objects done first e → IsRegistered objects (done ++ l ∷ []) first e
    stays_registered first e r = record {
      before = r.before;
      after = r.after ++ l ∷ [];
      made_by = r.made_by;
      row = r.row;
      where_ = ap (λ (ls : List ScriptLine). ls ++ l ∷ []) r.where_ ∙ append_assoc r.before (r.made_by ∷ r.after) (l ∷ []);
      names = r.names;
      part = r.part;
      table = r.table;
      key = r.key;
      unended = stays_unended (r.before ++ r.made_by ∷ []) r.after (append_snoc r.before r.made_by r.after ∙ sym r.where_) r.unended;
    }

    -- where the line leaves the effects
    pub goes_on : (st : Standing) (x : Private) (variables : List Variable) (container : List Request)
        → Goes objects done (stand objects done) (Some x) → st.effects ≡ (stand objects done).effects
        → ((a : Asked) → often st.container a ≤ often (update_asked container) a)
        → Goes objects (done ++ l ∷ []) st (Some (record x { variables = variables; container = container }))
    goes_on st x variables container g same part = record {
      none = λ is. absurd (cc);
      container = part;
      effects = same ∙ g.effects;
      first = λ e among. stays_registered true e (g.first e among);
      second = λ e among. stays_registered false e (g.second e among);
    }

    -- the line registers this effect on the row
    module _ (row : RowEffect) (new : Effect) (at : effect_at l ≡ Some row) (names : IsNamed row new) where
      registered_here : (first : Bool) → nat_eq row.part 1 ≡ first → IsRegistered objects (done ++ l ∷ []) first new
      registered_here first part = record {
        before = done;
        after = [];
        made_by = l;
        row = row;
        where_ = refl;
        names = at;
        part = part;
        table = names.table;
        key = names.key;
        unended = λ earlier later m is. absurd (never_empty earlier later m is);
      }

      registered_more : (first : Bool) (old : List Effect) → nat_eq row.part 1 ≡ first
          → ((e : Effect) → Contains old e → IsRegistered objects done first e) → (e : Effect) → Contains (old ++ new ∷ []) e
          → IsRegistered objects (done ++ l ∷ []) first e
      registered_more first old part before e among =
          elim (Contains-append_cases old (new ∷ []) e among) [
            | inl stood ↦ stays_registered first e (before e stood)
            | inr last ↦
                subst (λ (x : Effect). IsRegistered objects (done ++ l ∷ []) first x) (only_there new e last) (registered_here first part)
          ]

      -- where it registers one more
      pub goes_further : (x : Private) → Goes objects done (stand objects done) (Some x)
          → Goes objects (done ++ l ∷ []) (record (stand objects done) { effects = true }) (Some (with_effect row.part new x))
      goes_further x g = by_part (nat_eq row.part 1) refl
        where
          by_part : (b : Bool) → nat_eq row.part 1 ≡ b
              → Goes objects (done ++ l ∷ []) (record (stand objects done) { effects = true })
              (Some (if b then record x { v1 = x.v1 ++ new ∷ [] } else record x { v2 = x.v2 ++ new ∷ [] }))
          by_part true part =
              let long : length (x.v1 ++ new ∷ []) ≡ length x.v1 + 1 = length-append x.v1 (new ∷ []) in
              record {
                none = λ is. absurd (cc);
                container = g.container;
                effects = sym (lt-ltb 0 (length (x.v1 ++ new ∷ []) + length x.v2) (omega arith));
                first = registered_more true x.v1 part g.first;
                second = λ e among. stays_registered false e (g.second e among);
              }
          by_part false part =
              let long : length (x.v2 ++ new ∷ []) ≡ length x.v2 + 1 = length-append x.v2 (new ∷ []) in
              record {
                none = λ is. absurd (cc);
                container = g.container;
                effects = sym (lt-ltb 0 (length x.v1 + length (x.v2 ++ new ∷ [])) (omega arith));
                first = λ e among. stays_registered true e (g.first e among);
                second = registered_more false x.v2 part g.second;
              }
