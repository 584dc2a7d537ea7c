-- Reading a log record by record.
use Rattle.std.proofs.Common.{◌≡◌, ℕ, suc, ◌-◌, ◌<◌, List, [], ◌∷◌, ◌++◌, length, take, drop, Option, Some, None, refl, sym, ap, subst, ◌∙◌, append_assoc, arith, inr, length-append, take-append-drop}
use Rattle.gate_log.specs.Gates.{IsShut}
use Rattle.gate_log.specs.Grammars.{Grammar, IsReader, IsBytes}
use Rattle.gate_log.specs.Logs.{opened, IsLong, EndsBadly, IsBad, IsReadUpTo}
use Rattle.gate_log.proofs.lemmas.Logs.{some_is, none_is, front-push, first_front}

pub bytes-rest : (b : ℕ) (bytes : List ℕ) → IsBytes (b ∷ bytes) → IsBytes bytes
bytes-rest b bytes h i = h (suc i)

-- the rest of bytes are bytes
pub rest_fits : (front rest bytes : List ℕ) → bytes ≡ front ++ rest → IsBytes bytes → IsBytes rest
rest_fits [] rest bytes whole fits = subst IsBytes whole fits
rest_fits (b ∷ front) rest bytes whole fits = rest_fits front rest (front ++ rest) refl (bytes-rest b (front ++ rest) (subst IsBytes whole fits))

module _ {R S : Type 0} (g : Grammar R S) where
  pub starts : (bytes : List ℕ) → take (length g.name) bytes ≡ g.name → IsReadUpTo g bytes (drop (length g.name) bytes) g.first
  starts bytes named = record {
    front = g.name;
    whole = sym (take-append-drop (length g.name) bytes) ∙ ap (λ (l : List ℕ). l ++ drop (length g.name) bytes) named;
    is_front = first_front g;
  }

  pub no_gate : (s : S) (rest : List ℕ) → length rest ≡ 0 → EndsBadly g s rest
  no_gate s [] e = tt
  no_gate s (b ∷ rest) e = absurd (omega arith)

  module _ (bytes rest : List ℕ) (s : S) (upto : IsReadUpTo g bytes rest s) where
    pub place : length upto.front ≡ length bytes - length rest
    place = omega (arith, ap (λ (b : List ℕ). length b) upto.whole, length-append upto.front rest)

    pub breaks : IsLong g bytes → EndsBadly g s rest → IsBad g bytes (length bytes - length rest)
    breaks long ends =
        record {
          long = long;
          broken =
              inr (record { front = upto.front; state = s; rest = rest; whole = upto.whole; place = place; is_front = upto.is_front; ends = ends });
        }

  pub closed_gate : (bytes rest : List ℕ) (s : S) (upto : IsReadUpTo g bytes rest s) → 0 < length rest → ((behind : List ℕ) → rest ≡ 1 ∷ behind → ⊥)
      → IsShut upto.front bytes
  closed_gate bytes [] s upto some shut = absurd (omega arith)
  closed_gate bytes (gate ∷ more) s upto some shut =
      record { byte = gate; rest = more; whole = upto.whole; closed = λ e. shut more (ap (λ (b : ℕ). b ∷ more) e) }

  module _ (read : List ℕ → Option (R × List ℕ)) (reader : IsReader g read) (bytes rest : List ℕ) (s : S) (upto : IsReadUpTo g bytes rest s) (behind : List ℕ)
      (open_gate : rest ≡ 1 ∷ behind) where
    takes : IsBytes bytes → (r : R) (next : List ℕ) → read behind ≡ Some (r, next) → (behind ≡ g.spelling r ++ next) × g.is_record r
    takes fits r next e = reader.takes behind r next (bytes-rest 1 behind (subst IsBytes open_gate (rest_fits upto.front rest bytes upto.whole fits))) e

    pub goes_on : IsBytes bytes → (r : R) (next : List ℕ) → read behind ≡ Some (r, next) → g.is_legal s r → IsReadUpTo g bytes next (g.after s r)
    goes_on fits r next e legal =
        let t = takes fits r next e in
        record {
          front = upto.front ++ opened g r;
          whole = upto.whole ∙ ap (λ (b : List ℕ). upto.front ++ b) (open_gate ∙ ap (λ (b : List ℕ). 1 ∷ b) t.0)
              ∙ sym (append_assoc upto.front (opened g r) next);
          is_front = front-push g upto.front s r upto.is_front t.1 legal;
        }

    pub shorter : IsBytes bytes → (r : R) (next : List ℕ) → read behind ≡ Some (r, next) → length next < length rest
    shorter fits r next e =
        let t = takes fits r next e in
        omega (arith, ap (λ (b : List ℕ). length b) open_gate, ap (λ (b : List ℕ). length b) t.0, length-append (g.spelling r) next)

    ends_none : read behind ≡ None → EndsBadly g s (1 ∷ behind)
    ends_none e = (refl, λ r more is legal same. none_is (r, more) (sym e ∙ ap read same ∙ reader.again r more is))

    pub no_record : IsLong g bytes → read behind ≡ None → IsBad g bytes (length bytes - length rest)
    no_record long e = breaks bytes rest s upto long (subst (EndsBadly g s) (sym open_gate) (ends_none e))

    ends_illegal : (r : R) (next : List ℕ) → read behind ≡ Some (r, next) → (g.is_legal s r → ⊥) → EndsBadly g s (1 ∷ behind)
    ends_illegal r next e illegal = (
      refl,
      λ q more is legal same.
          let pair = some_is (r, next) (q, more) (sym e ∙ ap read same ∙ reader.again q more is) in
          illegal (subst (λ (k : R). g.is_legal s k) (sym (ap (λ (p : R × List ℕ). p.0) pair)) legal),
    )

    pub illegal_record : IsLong g bytes → (r : R) (next : List ℕ) → read behind ≡ Some (r, next) → (g.is_legal s r → ⊥)
        → IsBad g bytes (length bytes - length rest)
    illegal_record long r next e illegal = breaks bytes rest s upto long (subst (EndsBadly g s) (sym open_gate) (ends_illegal r next e illegal))
