-- What is needed of a script that lacks nothing: what its session holds where it reads, and where it commits.
use Rattle.std.proofs.Common.{◌≡◌, ℕ, Bool, true, false, List, [], ◌∷◌, ◌++◌}
use Rattle.std.specs.Prelude.{◌||◌, nat_eq, Contains, IsTrue, Option, Some, None, fold, length}
use Rattle.std.specs.List.{list_all}
use Rattle.mode_rules.specs.declared.Mode.{Mode}
use Rattle.enq_base.specs.declared.owner.Scope.{Scope}
use Rattle.lock_entry.specs.declared.entry.Asked.{Asked}
use Rattle.lock_objects.specs.Objects.{Object}
use Rattle.script_lang.specs.declared.script_line.RawValue.{RawValue}
use Rattle.script_lang.specs.declared.script_line.ScriptLine.{ScriptLine}
use Rattle.script_lang.specs.declared.script_line.ScriptLine.TheVariants as line
use Rattle.coverage.specs.Lacks.{Numbered, Standing, abandons, after_line, commits, fresh, is_guarded, lacks}
use Rattle.coverage.specs.Locks.{any_dollar, covered, holds_dollar, is_exclusive}
use Rattle.cover_laws.specs.Own.{own_lines}

-- what a session has after these lines of its own
abbrev pub stand : List Object → List ScriptLine → Standing
stand objects lines = fold (after_line objects) fresh lines

-- a lock that lines of a session may ask for
abbrev pub IsGiven : List Object → Asked → Type 0
IsGiven objects a = (lines : List ScriptLine) × Contains (stand objects lines).held a

-- a line that ends the unit of a session that has this
abbrev pub ends_unit_at : Standing → ScriptLine → Bool
ends_unit_at st l = commits st l || abandons l

-- none of these lines, behind those, ends a unit
abbrev pub Unended : List Object → (before lines : List ScriptLine) → Type 0
Unended objects before lines =
    (earlier later : List ScriptLine) (l : ScriptLine) → lines ≡ earlier ++ l ∷ later
    → ends_unit_at (stand objects (before ++ earlier)) l ≡ false

-- the part of the unit, the table and the key of the row that a line changes
pub record RowEffect : Type 0 where
  pub part : ℕ
  pub table : List ℕ
  pub key : List ℕ

abbrev pub effect_at : ScriptLine → Option RowEffect
effect_at (line.Put s part table key text) = Some (record { part = part; table = table; key = key })
effect_at (line.Ins s part table key text) = Some (record { part = part; table = table; key = key })
effect_at (line.Del s part table key) = Some (record { part = part; table = table; key = key })
effect_at (line.Add s part table key number) = Some (record { part = part; table = table; key = key })
effect_at _ = None

-- A row that is read in a unit that ends with a COMMIT is covered from then on up to that.
pub record ReadIsCovered (objects : List Object) (before between : List ScriptLine) (read : ScriptLine) (table key : List ℕ) : Type 0 where
  pub plain : holds_dollar key ≡ false
  pub covers : (earlier later : List ScriptLine) → between ≡ earlier ++ later
      → IsTrue (covered table key (stand objects (before ++ read ∷ earlier)).held)

abbrev pub ReadsAreCovered : Type 0
ReadsAreCovered =
    (objects : List Object) (lines : List Numbered) (s : List ℕ) (before between after : List ScriptLine) (table key variable : List ℕ)
    → lacks objects lines ≡ []
    → own_lines s lines ≡ before ++ line.Read s table key variable ∷ (between ++ line.Commit s ∷ after)
    → Unended objects (before ++ line.Read s table key variable ∷ []) between
    → (stand objects (before ++ line.Read s table key variable ∷ between)).effects ≡ true
    → ReadIsCovered objects before between (line.Read s table key variable) table key

-- A row of a guarded table that a unit changes which ends with a COMMIT is covered there, and one of its V1 part.
pub record EffectIsCovered (objects : List Object) (before between : List ScriptLine) (l : ScriptLine) (e : RowEffect) : Type 0 where
  pub first : nat_eq e.part 1 ≡ true
  pub plain : holds_dollar e.key ≡ false
  pub covers : IsTrue (covered e.table e.key (stand objects (before ++ l ∷ between)).held)

abbrev pub EffectsAreCovered : Type 0
EffectsAreCovered =
    (objects : List Object) (lines : List Numbered) (s : List ℕ) (before between after : List ScriptLine) (l : ScriptLine) (e : RowEffect)
    → lacks objects lines ≡ []
    → own_lines s lines ≡ before ++ l ∷ (between ++ line.Commit s ∷ after) → effect_at l ≡ Some e
    → Unended objects (before ++ l ∷ []) between → is_guarded lines e.table ≡ true
    → EffectIsCovered objects before between l e

-- a DEQ has no variable
abbrev pub FreesArePlain : Type 0
FreesArePlain =
    (objects : List Object) (lines : List Numbered) (s object : List ℕ) (m : Mode) (scope : Scope) (values : List RawValue)
    → lacks objects lines ≡ [] → Contains (own_lines s lines) (line.Deq s object m scope values) → any_dollar values ≡ false

-- the table of a READ is guarded
abbrev pub ReadsGuard : Type 0
ReadsGuard =
    (lines : List Numbered) (s table key variable : List ℕ) → Contains (own_lines s lines) (line.Read s table key variable)
    → is_guarded lines table ≡ true

-- all that a session holds is exclusive
abbrev pub HeldIsExclusive : Type 0
HeldIsExclusive =
    (objects : List Object) (lines : List ScriptLine)
    → IsTrue (list_all (λ (a : Asked). is_exclusive a.mode) (stand objects lines).held)

-- two locks on one table that sessions hold have arguments of one length
abbrev pub HeldIsEven : Type 0
HeldIsEven =
    (objects : List Object) (lines : List Numbered) (first second : List ScriptLine) (a b : Asked)
    → lacks objects lines ≡ [] → Contains (stand objects first).held a → Contains (stand objects second).held b
    → a.table ≡ b.table → length a.pattern ≡ length b.pattern
