-- What the bytes of a log stand for.
use Rattle.std.specs.Prelude.{◌≡◌, ◌⊎◌, ◌≢◌, ℕ, ◌+◌, ◌<◌, ◌≤◌, List, [], ◌∷◌, ◌++◌, length, take}
use Rattle.std.specs.List.{flat_map}
use Rattle.gate_log.specs.Gates.{IsShut}
use Rattle.gate_log.specs.Grammars.{Grammar}

module _ {R S : Type 0} (g : Grammar R S) where
  -- these records lead from a state to a state
  abbrev pub Leads : S → List R → S → Type 0
  Leads s [] t = s ≡ t
  Leads s (r ∷ rs) t = g.is_record r × g.is_legal s r × Leads (g.after s r) rs t

  -- an open gate and a record
  abbrev pub opened : R → List ℕ
  opened r = 1 ∷ g.spelling r

  -- the name and open records that lead to this state
  pub record IsFront (front : List ℕ) (s : S) : Type 0 where
    pub records : List R
    pub spelled : front ≡ g.name ++ flat_map opened records
    pub leads : Leads g.first records s

  -- a name and at most one gate stand for the first state, whatever they hold
  abbrev pub IsShort : List ℕ → Type 0
  IsShort bytes = length bytes ≤ length g.name + 1

  abbrev pub IsLong : List ℕ → Type 0
  IsLong bytes = length g.name + 1 < length bytes

  -- The bytes stand for this state.
  abbrev pub Stands : List ℕ → S → Type 0
  Stands bytes s = (IsShort bytes × (s ≡ g.first))
      ⊎ (IsLong bytes × ((front : List ℕ) × IsFront front s × IsShut front bytes))

  -- no gate, or an open one without a whole record behind it that may follow the state
  abbrev pub EndsBadly : S → List ℕ → Type 0
  EndsBadly s [] = Unit {0}
  EndsBadly s (gate ∷ rest) =
      (gate ≡ 1) × ((r : R) (more : List ℕ) → g.is_record r → g.is_legal s r → rest ≡ g.spelling r ++ more → ⊥)

  -- the records up to this offset are whole, and what comes then is not
  pub record BreaksAt (bytes : List ℕ) (at : ℕ) : Type 0 where
    pub front : List ℕ
    pub state : S
    pub rest : List ℕ
    pub whole : bytes ≡ front ++ rest
    pub place : length front ≡ at
    pub is_front : IsFront front state
    pub ends : EndsBadly state rest

  -- The bytes stand for nothing, and this is the offset where they break.
  pub record IsBad (bytes : List ℕ) (at : ℕ) : Type 0 where
    pub long : IsLong bytes
    pub broken : ((take (length g.name) bytes ≢ g.name) × (at ≡ 0)) ⊎ BreaksAt bytes at

  -- the records up to the rest lead to this state
  pub record IsReadUpTo (bytes rest : List ℕ) (s : S) : Type 0 where
    pub front : List ℕ
    pub whole : bytes ≡ front ++ rest
    pub is_front : IsFront front s

  -- the same bytes, or both stand for the first state
  abbrev pub SameOrFirst : List ℕ → List ℕ → Type 0
  SameOrFirst old new = (new ≡ old) ⊎ (Stands old g.first × Stands new g.first)

  -- what old stands for new stands for, and bytes that stand for nothing stay
  pub record Keeps (old new : List ℕ) : Type 0 where
    pub states : (s : S) → Stands old s → Stands new s
    pub bytes : (at : ℕ) → IsBad old at → new ≡ old
