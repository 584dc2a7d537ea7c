-- A READ in a unit that is committed is covered up to its COMMIT.
use Rattle.std.proofs.Common.{◌≡◌, ℕ, Bool, true, false, cond, List, [], ◌∷◌, ◌++◌, Option, Some, None, refl, sym, ap, ◌∙◌}
use Rattle.std.specs.Prelude.{option_and_then}
use Rattle.std.specs.Cmp.Lexicographic.{bytes_decides}
use Rattle.std.specs.List.{fold}
use Rattle.std.proofs.lemmas.Bool.{or_left, or_right}
use Rattle.std.proofs.lemmas.List.Sums.{fold-append}
use Rattle.lock_objects.specs.Objects.{Object}
use Rattle.script_lang.specs.declared.script_line.ScriptLine.{ScriptLine}
use Rattle.script_lang.specs.declared.script_line.ScriptLine.TheVariants as line
use Rattle.coverage.specs.declared.lack.Finding.{Finding}
use Rattle.coverage.specs.declared.lack.Lack.TheVariants as lack
use Rattle.coverage.specs.declared.lack.Want.TheVariants as want
use Rattle.coverage.specs.declared.lack.Wish.{Wish}
use Rattle.coverage.specs.Faults.{is_wrong_key}
use Rattle.coverage.specs.Lacks.{Judged, Numbered, Standing, after_line, fate_of, fresh, is_guarded, judged, lack_in, lacks, reads_table, wish_on}
use Rattle.coverage.specs.Locks.{covered, holds_dollar}
use Rattle.cover_laws.proofs.needed.CoverageNeeded.{ReadsAreCovered, ReadsGuard, stand}
use Rattle.cover_laws.proofs.script.Findings.{is_met_there, is_plain, is_right_key, none_found}
use Rattle.cover_laws.proofs.script.OwnLines.{HasPlace, own_fate, place_among, place_of}
use Rattle.cover_laws.proofs.script.CommittedUnits.{covered_throughout, judged_there, met_after, throughout, unended_behind}

guarded_there : (table : List ℕ) (before : List Numbered) (x : Numbered) (after : List Numbered) → reads_table table x.1 ≡ true
    → is_guarded (before ++ x ∷ after) table ≡ true
guarded_there table [] x after h = or_left (reads_table table x.1) (is_guarded after table) h
guarded_there table (y ∷ before) x after h = or_right (reads_table table y.1) (is_guarded (before ++ x ∷ after) table) (guarded_there table before x after h)

guarded_by : (lines : List Numbered) (s table key variable : List ℕ) (a b : List ScriptLine) → HasPlace s lines a (line.Read s table key variable) b
    → is_guarded lines table ≡ true
guarded_by lines s table key variable a b p =
    ap (λ (ls : List Numbered). is_guarded ls table) p.splits
    ∙ guarded_there table p.before (p.number, line.Read s table key variable) p.after ((bytes_decides table table).1 refl)

pub reads_guard : ReadsGuard
reads_guard lines s table key variable among =
    let found = place_among s lines (line.Read s table key variable) among in
    guarded_by lines s table key variable found.earlier found.later found.place

module _ (os : List Object) (lines : List Numbered) (s table key variable : List ℕ) (a b : List ScriptLine)
    (p : HasPlace s lines a (line.Read s table key variable) b) where
  abbrev there : Numbered
  there = (p.number, line.Read s table key variable)

  abbrev read_wish : Wish
  read_wish = throughout os table key (lack.Read p.number)

  record ReadIsRight : Type 0 where
    plain : holds_dollar key ≡ false
    met : (m : Bool) → fate_of os s read_wish p.before there p.after ≡ Judged m → m ≡ true

  read_is_right : lacks os lines ≡ [] → ReadIsRight
  read_is_right clean =
      let guarded = guarded_by lines s table key variable a b p in
      let judged_as : Option Wish → Option Finding = λ o. option_and_then (λ (w : Wish). judged w (fate_of os s w p.before there p.after)) o in
      let rest : Option Finding = judged_as (wish_on table key want.Throughout (lack.Read p.number)) in
      let found = none_found os lines clean p.before there p.after p.splits in
      let by = is_plain (is_guarded lines) p.number table guarded (is_wrong_key key) (holds_dollar key) rest found in
      let quiet : lack_in (is_guarded lines) (judged_as (Some read_wish)) ≡ [] =
      sym (ap (λ (k : Bool). lack_in (is_guarded lines) (judged_as (cond k (Some read_wish) None))) (is_right_key key by.right by.plain)) ∙ by.quiet in
      record {
        plain = by.plain;
        met = λ m is. is_met_there (is_guarded lines) p.number table guarded read_wish (fate_of os s read_wish p.before there p.after) m refl is quiet;
      }

pub reads_are_covered : ReadsAreCovered
reads_are_covered os lines s before between after table key variable clean own unended effects =
    let read : ScriptLine = line.Read s table key variable in
    let p = place_of s lines before read (between ++ line.Commit s ∷ after) own in
    let right = read_is_right os lines s table key variable before (between ++ line.Commit s ∷ after) p clean in
    let st : Standing = after_line os (stand os before) read in
    let wish : Wish = throughout os table key (lack.Read p.number) in
    let first : Bool = covered table key st.held in
    let behind : (ls : List ScriptLine) → stand os (before ++ read ∷ ls) ≡ fold (after_line os) st ls =
    λ ls. fold-append (after_line os) fresh before (read ∷ ls) in
    let acts : (fold (after_line os) st between).effects ≡ true = sym (ap (λ (t : Standing). t.effects) (behind between)) ∙ effects in
    let at_end = judged_there os wish st first s between after (unended_behind os before read between unended) acts in
    let fate = own_fate os s lines before read (between ++ line.Commit s ∷ after) p wish ∙ at_end in
    let met : met_after os wish st first between ≡ true = right.met (met_after os wish st first between) fate in
    record {
      plain = right.plain;
      covers = λ earlier later e.
          ap (λ (t : Standing). covered table key t.held) (behind earlier)
          ∙ covered_throughout os table key (lack.Read p.number) st first between earlier later (λ h. h) met e;
    }
