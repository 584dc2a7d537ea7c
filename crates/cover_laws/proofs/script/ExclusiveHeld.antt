-- What holds of each lock that lines ask for holds of each that is held.
use Rattle.std.proofs.Common.{◌≡◌, Bool, true, cond, not, ◌&&◌, List, [], ◌∷◌, map, ℕ, All, Option, Some, None, refl}
use Rattle.std.specs.Prelude.{is_some}
use Rattle.std.specs.List.{fold, list_all}
use Rattle.std.specs.Option.{option_map_or}
use Rattle.std.proofs.lemmas.Bool.{cond_both, and_from}
use Rattle.std.proofs.lemmas.List.Elements.{All-append, All-cons, All-head, All-nil, All-tail, All-map}
use Rattle.enq_base.specs.declared.owner.Scope.{Scope}
use Rattle.mode_rules.specs.declared.Mode.{Mode}
use Rattle.lock_entry.specs.Freeing.{replace_first}
use Rattle.lock_entry.specs.Names.{same_asked}
use Rattle.lock_entry.specs.declared.entry.Asked.{Asked}
use Rattle.lock_objects.specs.Arguments.{arguments, asked_of, values_fault}
use Rattle.lock_objects.specs.Objects.{Object}
use Rattle.lock_objects.specs.declared.value.ArgFault.{ArgFault}
use Rattle.lock_objects.specs.declared.value.FieldValue.{FieldValue}
use Rattle.owner_scope.specs.Halves.{names_update}
use Rattle.script_lang.specs.declared.script_line.RawValue.{RawValue}
use Rattle.script_lang.specs.declared.script_line.ScriptLine.{ScriptLine}
use Rattle.script_lang.specs.declared.script_line.ScriptLine.TheVariants as line
use Rattle.coverage.specs.Lacks.{Standing, after_line, fresh, without}
use Rattle.coverage.specs.Locks.{any_dollar, covering_locks, field_value, is_exclusive, locks_at, named_locks, object_named, unit_locks}
use Rattle.cover_laws.proofs.needed.CoverageNeeded.{HeldIsExclusive, stand}

-- ---- the locks that a line asks for

module _ (P : Asked → Type 0) where
  of_object : (m : Mode) (values : List FieldValue) (o : Object) → (values_fault o.fields values ≡ None → All P (arguments o values m))
      → All P (locks_at m values o)
  of_object m values o each = by_fault (values_fault o.fields values) each
    where
      by_fault : (f : Option ArgFault) → (f ≡ None → All P (arguments o values m)) → All P (cond (is_some f) [] (arguments o values m))
      by_fault None each = each refl
      by_fault (Some f) each = All-nil P

  of_named : (m : Mode) (values : List FieldValue) (found : Option Object)
      → ((o : Object) → found ≡ Some o → values_fault o.fields values ≡ None → All P (arguments o values m))
      → All P (option_map_or (locks_at m values) found [])
  of_named m values None each = All-nil P
  of_named m values (Some o) each = of_object m values o (each o refl)

  -- it holds of the arguments that right values make of an object, in an exclusive mode
  abbrev pub OfArguments : List Object → Type 0
  OfArguments os =
      (o : Object) (values : List FieldValue) (m : Mode) (name : List ℕ) → object_named os name ≡ Some o
      → values_fault o.fields values ≡ None → is_exclusive m ≡ true → All P (arguments o values m)

  -- and of the locks that a line asks for
  abbrev pub OfAsked : List Object → Type 0
  OfAsked os =
      (object : List ℕ) (m : Mode) (scope : Scope) (values : List RawValue) → All P (covering_locks os object m scope values)

  pub of_covering : (os : List Object) → OfArguments os → OfAsked os
  of_covering os each object m scope values =
      cond_both (is_exclusive m) (unit_locks os object m scope values) [] (All P)
      (λ exclusive. cond_both (names_update scope && not (any_dollar values)) (named_locks os object m values) [] (All P)
      (λ h. of_named m (map field_value values) (object_named os object) (λ o found right. each o (map field_value values) m object found right exclusive))
      (λ h. All-nil P))
      (λ h. All-nil P)

-- ---- what a session has

module _ (P : Asked → Type 0) where
  pub record HasOnly (st : Standing) : Type 0 where
    pub holds : All P st.held
    pub collects : All P st.container

  less : (test : Asked → Bool) (locks : List Asked) → All P locks → All P (replace_first test (λ a. []) locks)
  less test [] h = h
  less test (a ∷ locks) h =
      cond_both (test a) locks (a ∷ replace_first test (λ b. []) locks) (All P)
      (λ here. All-tail P a locks h)
      (λ later. All-cons P a (replace_first test (λ b. []) locks) (All-head P a locks h) (less test locks (All-tail P a locks h)))

  left_over : (held named : List Asked) → All P held → All P (without held named)
  left_over held [] h = h
  left_over held (a ∷ named) h = left_over (replace_first (same_asked a) (λ b. []) held) named (less (same_asked a) held h)

  fresh_has : HasOnly fresh
  fresh_has = record { holds = All-nil P; collects = All-nil P }

  module _ (os : List Object) (asked : OfAsked P os) where
    after_has : (st : Standing) (l : ScriptLine) → HasOnly st → HasOnly (after_line os st l)
    after_has st (line.Enq s object m scope values) h =
        record { holds = All-append P st.held _ h.holds (asked object m scope values); collects = h.collects }
    after_has st (line.Collect s object m scope values) h =
        record { holds = h.holds; collects = All-append P st.container _ h.collects (asked object m scope values) }
    after_has st (line.Deq s object m scope values) h =
        record { holds = left_over st.held (unit_locks os object m scope values) h.holds; collects = h.collects }
    after_has st (line.Flush s) h = record { holds = All-append P st.held st.container h.holds h.collects; collects = All-nil P }
    after_has st (line.DeqAll s) h = record { holds = All-nil P; collects = h.collects }
    after_has st (line.Reset s) h = record { holds = h.holds; collects = All-nil P }
    after_has st (line.Commit s) h =
        cond_both st.effects (record fresh { container = st.container }) st HasOnly (λ ends. record { holds = All-nil P; collects = h.collects }) (λ stays. h)
    after_has st (line.Rollback s) h = fresh_has
    after_has st (line.Logoff s) h = fresh_has
    after_has st (line.Put s part table key text) h = record { holds = h.holds; collects = h.collects }
    after_has st (line.Ins s part table key text) h = record { holds = h.holds; collects = h.collects }
    after_has st (line.Del s part table key) h = record { holds = h.holds; collects = h.collects }
    after_has st (line.Add s part table key number) h = record { holds = h.holds; collects = h.collects }
    after_has st l h = h

    folds_on : (st : Standing) (lines : List ScriptLine) → HasOnly st → HasOnly (fold (after_line os) st lines)
    folds_on st [] h = h
    folds_on st (l ∷ lines) h = folds_on (after_line os st l) lines (after_has st l h)

    pub all_held : (lines : List ScriptLine) → All P (stand os lines).held
    all_held lines = (folds_on fresh lines fresh_has).holds

-- ---- exclusive locks

abbrev HasExclusive : Asked → Type 0
HasExclusive a = is_exclusive a.mode ≡ true

exclusive_arguments : (o : Object) (values : List FieldValue) (m : Mode) → is_exclusive m ≡ true → All HasExclusive (arguments o values m)
exclusive_arguments o values m exclusive = All-map HasExclusive (asked_of o.fields values m) o.tables (λ k t within. exclusive)

each_passes : (test : Asked → Bool) (locks : List Asked) → All (λ a. test a ≡ true) locks → list_all test locks ≡ true
each_passes test [] h = refl
each_passes test (a ∷ locks) h =
    and_from (test a) (list_all test locks) (All-head (λ b. test b ≡ true) a locks h) (each_passes test locks (All-tail (λ b. test b ≡ true) a locks h))

pub held_is_exclusive : HeldIsExclusive
held_is_exclusive os lines =
    each_passes (λ (a : Asked). is_exclusive a.mode) (stand os lines).held
    (all_held HasExclusive os (of_covering HasExclusive os (λ o values m name found right exclusive. exclusive_arguments o values m exclusive)) lines)
