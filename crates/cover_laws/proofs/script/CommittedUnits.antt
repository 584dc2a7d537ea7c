-- How a wish fares in a unit that ends with a COMMIT.
use Rattle.std.proofs.Common.{◌≡◌, ℕ, Bool, true, false, true≢false, cond, ◌&&◌, ◌||◌, List, [], ◌∷◌, ◌++◌, refl, sym, ap, ◌∙◌, subst}
use Rattle.std.specs.Prelude.{⊤}
use Rattle.std.specs.List.{fold}
use Rattle.std.proofs.lemmas.Bool.{and_parts, or_parts}
use Rattle.std.proofs.lemmas.List.Sums.{fold-append}
use Rattle.lock_objects.specs.Objects.{Object}
use Rattle.script_lang.specs.declared.script_line.ScriptLine.{ScriptLine}
use Rattle.script_lang.specs.declared.script_line.ScriptLine.TheVariants as line
use Rattle.coverage.specs.declared.lack.Lack.{Lack}
use Rattle.coverage.specs.declared.lack.Want.TheVariants as want
use Rattle.coverage.specs.declared.lack.Wish.{Wish}
use Rattle.coverage.specs.Lacks.{Course, Fate, Waiting, Dropped, Judged, Standing, abandons, after_line, commits, fresh, is_kept, is_met, next_fate}
use Rattle.coverage.specs.Locks.{covered}
use Rattle.cover_laws.proofs.needed.CoverageNeeded.{Unended, ends_unit_at}
use Rattle.cover_laws.proofs.script.OwnLines.{own_course}

-- none of the lines ends the unit of a session that has this
abbrev pub IsUnended : List Object → Standing → List ScriptLine → Type 0
IsUnended os st [] = ⊤
IsUnended os st (l ∷ ls) = (ends_unit_at st l ≡ false) × IsUnended os (after_line os st l) ls

unended_from : (os : List Object) (st : Standing) (ls : List ScriptLine)
    → ((earlier later : List ScriptLine) (l : ScriptLine) → ls ≡ earlier ++ l ∷ later → ends_unit_at (fold (after_line os) st earlier) l ≡ false)
    → IsUnended os st ls
unended_from os st [] u = tt
unended_from os st (l ∷ ls) u =
    (u [] ls l refl, unended_from os (after_line os st l) ls (λ earlier later m e. u (l ∷ earlier) later m (ap (λ (ms : List ScriptLine). l ∷ ms) e)))

-- behind a line of the unit
pub unended_behind : (os : List Object) (before : List ScriptLine) (l : ScriptLine) (ls : List ScriptLine) → Unended os (before ++ l ∷ []) ls
    → IsUnended os (after_line os (fold (after_line os) fresh before) l) ls
unended_behind os before l ls u =
    unended_from os _ ls (λ earlier later m e.
    subst (λ (st : Standing). ends_unit_at st m ≡ false)
    (fold-append (after_line os) fresh (before ++ l ∷ []) earlier
    ∙ ap (λ (st : Standing). fold (after_line os) st earlier) (fold-append (after_line os) fresh before (l ∷ [])))
    (u earlier later m e))

-- ---- effects stay until the unit ends

both_ways : (b : Bool) → b ≡ true → (b || false) ≡ false → ⊥
both_ways true there gone = true≢false gone
both_ways false there gone = true≢false (sym there)

effects_next : (os : List Object) (st : Standing) (l : ScriptLine) → st.effects ≡ true → ends_unit_at st l ≡ false → (after_line os st l).effects ≡ true
effects_next os st (line.Commit s) h u = absurd (both_ways st.effects h u)
effects_next os st (line.Rollback s) h u = absurd (true≢false u)
effects_next os st (line.Logoff s) h u = absurd (true≢false u)
effects_next os st (line.Put s part table key text) h u = refl
effects_next os st (line.Ins s part table key text) h u = refl
effects_next os st (line.Del s part table key) h u = refl
effects_next os st (line.Add s part table key number) h u = refl
effects_next os st l h u = h

pub effects_stay : (os : List Object) (st : Standing) (ls : List ScriptLine) → st.effects ≡ true → IsUnended os st ls
    → (fold (after_line os) st ls).effects ≡ true
effects_stay os st [] h u = h
effects_stay os st (l ∷ ls) h u = effects_stay os (after_line os st l) ls (effects_next os st l h u.0) u.1

-- ---- a wish up to the COMMIT

-- a wish that waits
abbrev pub waiting_at : Standing → Bool → Course
waiting_at st met = record { standing = st; fate = Waiting met }

-- whether it can still be met after these lines
abbrev pub met_after : List Object → Wish → Standing → Bool → List ScriptLine → Bool
met_after os w st met [] = met
met_after os w st met (l ∷ ls) = met_after os w (after_line os st l) (is_kept w met (after_line os st l).held) ls

module _ (os : List Object) (w : Wish) where
  next_waiting : (st : Standing) (met : Bool) (l : ScriptLine) → ends_unit_at st l ≡ false
      → next_fate os w st l (Waiting met) ≡ Waiting (is_kept w met (after_line os st l).held)
  next_waiting st met l u =
      let parts = or_parts (commits st l) (abandons l) u in
      let next : Fate = Waiting (is_kept w met (after_line os st l).held) in
      ap (λ (b : Bool). cond b (Judged (is_met w met st.held)) (cond (abandons l) Dropped next)) parts.0
      ∙ ap (λ (b : Bool). cond b Dropped next) parts.1

  waits_on : (st : Standing) (met : Bool) (ls : List ScriptLine) → IsUnended os st ls
      → fold (own_course os w) (waiting_at st met) ls ≡ waiting_at (fold (after_line os) st ls) (met_after os w st met ls)
  waits_on st met [] u = refl
  waits_on st met (l ∷ ls) u =
      ap (λ (f : Fate). let c : Course = record { standing = after_line os st l; fate = f } in fold (own_course os w) c ls) (next_waiting st met l u.0)
      ∙ waits_on (after_line os st l) (is_kept w met (after_line os st l).held) ls u.1

  stays_judged : (st : Standing) (met : Bool) (ls : List ScriptLine)
      → (let c : Course = record { standing = st; fate = Judged met } in (fold (own_course os w) c ls).fate) ≡ Judged met
  stays_judged st met [] = refl
  stays_judged st met (l ∷ ls) = stays_judged (after_line os st l) met ls

  -- it is judged there
  pub judged_there : (st : Standing) (met : Bool) (s : List ℕ) (between after : List ScriptLine) → IsUnended os st between
      → (fold (after_line os) st between).effects ≡ true
      → (fold (own_course os w) (waiting_at st met) (between ++ line.Commit s ∷ after)).fate
      ≡ Judged (is_met w (met_after os w st met between) (fold (after_line os) st between).held)
  judged_there st met s between after u effects =
      let end : Standing = fold (after_line os) st between in
      let last : Bool = met_after os w st met between in
      let behind : Standing = after_line os end (line.Commit s) in
      let course_with : Bool → Course =
      λ b. record { standing = behind; fate = cond b (Judged (is_met w last end.held)) (Waiting (is_kept w last behind.held)) } in
      ap (λ (c : Course). c.fate)
      (fold-append (own_course os w) (waiting_at st met) between (line.Commit s ∷ after)
      ∙ ap (λ (c : Course). fold (own_course os w) c (line.Commit s ∷ after)) (waits_on st met between u))
      ∙ ap (λ (b : Bool). (fold (own_course os w) (course_with b) after).fate) effects
      ∙ stays_judged behind (is_met w last end.held) after

-- ---- a wish that has to be met throughout

module _ (os : List Object) (table key : List ℕ) (l : Lack) where
  abbrev pub throughout : Wish
  throughout = record { want = want.Throughout; table = table; key = key; lack = l }

  met_before : (st : Standing) (met : Bool) (ls : List ScriptLine) → met_after os throughout st met ls ≡ true → met ≡ true
  met_before st met [] h = h
  met_before st met (m ∷ ls) h = (and_parts met _ (met_before (after_line os st m) (met && covered table key (after_line os st m).held) ls h)).0

  pub covered_throughout : (st : Standing) (met : Bool) (ls earlier later : List ScriptLine) → (met ≡ true → covered table key st.held ≡ true)
      → met_after os throughout st met ls ≡ true → ls ≡ earlier ++ later → covered table key (fold (after_line os) st earlier).held ≡ true
  covered_throughout st met ls [] later here h e = here (met_before st met ls h)
  covered_throughout st met [] (m ∷ earlier) later here h e = absurd (cc)
  covered_throughout st met (n ∷ ls) (m ∷ earlier) later here h e =
      let is : n ≡ m = cc in
      let rest : ls ≡ earlier ++ later = cc in
      subst (λ (o : ScriptLine). covered table key (fold (after_line os) (after_line os st o) earlier).held ≡ true) is
      (covered_throughout (after_line os st n) (met && covered table key (after_line os st n).held) ls earlier later
      (λ both. (and_parts met _ both).1) h rest)
