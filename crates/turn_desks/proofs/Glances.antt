-- The looks of a rest, one behind another.
use Rattle.std.proofs.Common.{◌≡◌, inl, inr, ℕ, ◌+◌, ◌<◌, ◌≤◌, List, [], ◌∷◌, ◌++◌, append-nil, append_assoc, length, length-append, refl, sym, ap, ◌∙◌, arith}
use Rattle.std.specs.List.{AllByRecursion}
use Rattle.enq_base.specs.declared.condition.Readings.{Readings}
use Rattle.turn_desks.specs.Watching.{LooksUntil}
use Rattle.turn_desks.proofs.lemmas.Places.{all_more}

-- so many looks, none of which shows a longer history
pub record LooksSoFar (past : ℕ) (old new : List Readings) (n : ℕ) : Type 0 where
  pub before : List Readings
  pub looks : new ≡ old ++ before
  pub none : AllByRecursion (λ (r : Readings). r.past ≤ past) before
  pub count : length before ≡ n
  pub few : n ≤ 63

pub none_yet : (past : ℕ) (old : List Readings) → LooksSoFar past old old 0
none_yet past old = record { before = []; looks = sym (append-nil old); none = tt; count = refl; few = omega arith }

longer : (old new later before : List Readings) (r : Readings) → new ≡ old ++ before → later ≡ new ++ r ∷ [] → later ≡ old ++ (before ++ r ∷ [])
longer old new later before r e f = f ∙ (ap (λ l. l ++ r ∷ []) e ∙ append_assoc old before (r ∷ []))

pub one_more : (past : ℕ) (old new later : List Readings) (n : ℕ) (r : Readings) → LooksSoFar past old new n → n < 63 → later ≡ new ++ r ∷ []
    → r.past ≤ past → LooksSoFar past old later (n + 1)
one_more past old new later n r h below is low = record {
  before = h.before ++ r ∷ [];
  looks = longer old new later h.before r h.looks is;
  none = all_more (λ (x : Readings). x.past ≤ past) h.before (r ∷ []) h.none (low, tt);
  count = let a = h.count in let b = length-append h.before (r ∷ []) in omega (arith, a, b);
  few = omega (arith, below);
}

-- the next look shows one
pub found_longer : (past : ℕ) (old new later : List Readings) (n : ℕ) (r : Readings) → LooksSoFar past old new n → later ≡ new ++ r ∷ []
    → past < r.past → LooksUntil past old later
found_longer past old new later n r h is high = record {
  before = h.before;
  last = r;
  looks = longer old new later h.before r h.looks is;
  none = h.none;
  few = let a = h.count in let b = h.few in omega (arith, a, b);
  ended = inl high;
}

-- or it is the last
pub looked_last : (past : ℕ) (old new later : List Readings) (n : ℕ) (r : Readings) → LooksSoFar past old new n → 63 ≤ n → later ≡ new ++ r ∷ []
    → LooksUntil past old later
looked_last past old new later n r h all is = record {
  before = h.before;
  last = r;
  looks = longer old new later h.before r h.looks is;
  none = h.none;
  few = let a = h.count in let b = h.few in omega (arith, a, b);
  ended = inr (let a = h.count in let b = h.few in omega (arith, a, b, all));
}
