-- An effect on a guarded table in a unit that is committed is covered at the COMMIT.
use Rattle.std.proofs.Common.{◌≡◌, ℕ, Bool, true, false, true≢false, cond, List, [], ◌∷◌, ◌++◌, nat_eq, Option, Some, None, refl, sym, ap, ◌∙◌, subst}
use Rattle.std.specs.Prelude.{option_and_then}
use Rattle.std.specs.List.{fold}
use Rattle.std.specs.Option.{option_or}
use Rattle.std.specs.Str.{bytes_eq}
use Rattle.std.specs.Cmp.Lexicographic.{bytes_decides}
use Rattle.std.proofs.lemmas.Bool.{or_parts}
use Rattle.std.proofs.lemmas.List.Sums.{fold-append}
use Rattle.std.proofs.lemmas.Option.{same_Some}
use Rattle.enq_base.specs.Grammar.{is_key}
use Rattle.lock_entry.specs.declared.entry.Asked.{Asked}
use Rattle.lock_objects.specs.Objects.{Object}
use Rattle.script_lang.specs.declared.script_line.ScriptLine.{ScriptLine}
use Rattle.script_lang.specs.declared.script_line.ScriptLine.TheVariants as line
use Rattle.coverage.specs.declared.lack.Finding.{Finding}
use Rattle.coverage.specs.declared.lack.Lack.TheVariants as lack
use Rattle.coverage.specs.declared.lack.Want.TheVariants as want
use Rattle.coverage.specs.declared.lack.Wish.{Wish}
use Rattle.coverage.specs.Faults.{is_wrong, is_wrong_key, is_wrong_number, is_wrong_text}
use Rattle.coverage.specs.Lacks.{Judged, Numbered, Standing, after_line, anywhere, effect_wish, fate_of, finding, fresh, is_guarded, is_kept, is_met, is_of}
use Rattle.coverage.specs.Lacks.{judged, lack_in, lacks, on_table, where_dollar}
use Rattle.coverage.specs.Locks.{covered, holds_dollar}
use Rattle.cover_laws.proofs.needed.CoverageNeeded.{EffectsAreCovered, RowEffect, effect_at, stand}
use Rattle.cover_laws.proofs.script.Findings.{is_met_there, is_plain, is_right_key, none_found}
use Rattle.cover_laws.proofs.script.OwnLines.{HasPlace, own_fate, place_of}
use Rattle.cover_laws.proofs.script.CommittedUnits.{effects_stay, judged_there, met_after, unended_behind}

-- ---- lines with an effect

-- what a line with an effect lacks by itself, or else for want of locks
abbrev found_for : (wrong : Bool) → ℕ → RowEffect → (Wish → Option Finding) → Option Finding
found_for wrong n e by =
    option_or (cond wrong (Some (anywhere (lack.Line n))) (where_dollar (holds_dollar e.key) (on_table e.table (lack.Variable n))))
    (option_and_then by (effect_wish n e.part e.table e.key))

abbrev judged_by : List Object → List ℕ → (before : List Numbered) → Numbered → (after : List Numbered) → Wish → Option Finding
judged_by os s before x after w = judged w (fate_of os s w before x after)

record IsEffect (os : List Object) (s : List ℕ) (l : ScriptLine) (e : RowEffect) : Type 0 where
  found : (n : ℕ) (before after : List Numbered) → finding os before (n, l) after ≡ found_for (is_wrong os l) n e (judged_by os s before (n, l) after)
  right : is_wrong os l ≡ false → is_wrong_key e.key ≡ false
  begins : (st : Standing) → (after_line os st l).effects ≡ true

module _ (os : List Object) (s : List ℕ) where
  is_effect : (l : ScriptLine) (t : List ℕ) (e f : RowEffect) → bytes_eq t s ≡ true → e ≡ f
      → ((n : ℕ) (before after : List Numbered) → finding os before (n, l) after ≡ found_for (is_wrong os l) n e (judged_by os t before (n, l) after))
      → (is_wrong os l ≡ false → is_wrong_key e.key ≡ false) → ((st : Standing) → (after_line os st l).effects ≡ true) → IsEffect os s l f
  is_effect l t e f mine is found right begins =
      subst (IsEffect os s l) is (record {
        found = λ n before after.
            found n before after
            ∙ ap (λ (u : List ℕ). found_for (is_wrong os l) n e (judged_by os u before (n, l) after)) ((bytes_decides t s).0 mine);
        right = right;
        begins = begins;
      })

  is_effect_of : (l : ScriptLine) (e : RowEffect) → is_of s l ≡ true → effect_at l ≡ Some e → IsEffect os s l e
  is_effect_of (line.Put t part table key text) e mine at =
      is_effect (line.Put t part table key text) t (record { part = part; table = table; key = key }) e mine (same_Some _ e at) (λ n before after. refl)
      (λ h. (or_parts (is_wrong_key key) (is_wrong_text text) h).0) (λ st. refl)
  is_effect_of (line.Ins t part table key text) e mine at =
      is_effect (line.Ins t part table key text) t (record { part = part; table = table; key = key }) e mine (same_Some _ e at) (λ n before after. refl)
      (λ h. (or_parts (is_wrong_key key) (is_wrong_text text) h).0) (λ st. refl)
  is_effect_of (line.Del t part table key) e mine at =
      is_effect (line.Del t part table key) t (record { part = part; table = table; key = key }) e mine (same_Some _ e at) (λ n before after. refl)
      (λ h. h) (λ st. refl)
  is_effect_of (line.Add t part table key number) e mine at =
      is_effect (line.Add t part table key number) t (record { part = part; table = table; key = key }) e mine (same_Some _ e at) (λ n before after. refl)
      (λ h. (or_parts (is_wrong_key key) (is_wrong_number number) h).0) (λ st. refl)
  is_effect_of l e mine at = absurd (cc)

-- ---- their wishes

-- the wish of an effect of the V1 part, or else of the V2 part
abbrev wish_by : (first : Bool) → ℕ → RowEffect → Wish
wish_by first n e = record {
  want = cond first want.AtCommit want.Never;
  table = e.table;
  key = e.key;
  lack = cond first (lack.Write n) (lack.SecondPart n);
}

wish_with_key : (first key : Bool) (n : ℕ) (e : RowEffect) → key ≡ true
    → cond first (cond key (Some (wish_by true n e)) None) (cond key (Some (wish_by false n e)) None) ≡ Some (wish_by first n e)
wish_with_key true key n e h = ap (λ (k : Bool). cond k (Some (wish_by true n e)) None) h
wish_with_key false key n e h = ap (λ (k : Bool). cond k (Some (wish_by false n e)) None) h

first_and_covered : (first : Bool) (n : ℕ) (e : RowEffect) (met : Bool) (held : List Asked) → is_met (wish_by first n e) met held ≡ true
    → (first ≡ true) × (covered e.table e.key held ≡ true)
first_and_covered true n e met held h = (refl, h)
first_and_covered false n e met held h = absurd (true≢false (sym h))

module _ (os : List Object) (lines : List Numbered) (s : List ℕ) (l : ScriptLine) (e : RowEffect) (a b : List ScriptLine)
    (p : HasPlace s lines a l b) (effect : IsEffect os s l e) where
  abbrev there : Numbered
  there = (p.number, l)

  abbrev wished : Wish
  wished = wish_by (nat_eq e.part 1) p.number e

  record EffectIsRight : Type 0 where
    plain : holds_dollar e.key ≡ false
    met : (m : Bool) → fate_of os s wished p.before there p.after ≡ Judged m → m ≡ true

  effect_is_right : lacks os lines ≡ [] → is_guarded lines e.table ≡ true → EffectIsRight
  effect_is_right clean guarded =
      let g : List ℕ → Bool = is_guarded lines in
      let judged_as : Wish → Option Finding = judged_by os s p.before there p.after in
      let found = sym (ap (lack_in g) (effect.found p.number p.before p.after)) ∙ none_found os lines clean p.before there p.after p.splits in
      let rest : Option Finding = option_and_then judged_as (effect_wish p.number e.part e.table e.key) in
      let by = is_plain g p.number e.table guarded (is_wrong os l) (holds_dollar e.key) rest found in
      let key : is_key e.key ≡ true = is_right_key e.key (effect.right by.right) by.plain in
      let quiet : lack_in g (judged_as wished) ≡ [] =
      sym (ap (λ (o : Option Wish). lack_in g (option_and_then judged_as o)) (wish_with_key (nat_eq e.part 1) (is_key e.key) p.number e key)) ∙ by.quiet in
      record {
        plain = by.plain;
        met = λ m is. is_met_there g p.number e.table guarded wished (fate_of os s wished p.before there p.after) m refl is quiet;
      }

pub effects_are_covered : EffectsAreCovered
effects_are_covered os lines s before between after l e clean own at unended guarded =
    let p = place_of s lines before l (between ++ line.Commit s ∷ after) own in
    let effect = is_effect_of os s l e p.mine at in
    let right = effect_is_right os lines s l e before (between ++ line.Commit s ∷ after) p effect clean guarded in
    let st : Standing = after_line os (stand os before) l in
    let wish : Wish = wish_by (nat_eq e.part 1) p.number e in
    let first : Bool = is_kept wish true st.held in
    let u = unended_behind os before l between unended in
    let at_end = judged_there os wish st first s between after u (effects_stay os st between (effect.begins (stand os before)) u) in
    let fate = own_fate os s lines before l (between ++ line.Commit s ∷ after) p wish ∙ at_end in
    let held : List Asked = (fold (after_line os) st between).held in
    let both = first_and_covered (nat_eq e.part 1) p.number e (met_after os wish st first between) held (right.met _ fate) in
    record {
      first = both.0;
      plain = right.plain;
      covers = ap (λ (t : Standing). covered e.table e.key t.held) (fold-append (after_line os) fresh before (l ∷ between)) ∙ both.1;
    }
