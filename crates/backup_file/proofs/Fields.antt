-- A field that is read is the field that was written, and what was written is read again.
use Rattle.std.proofs.Common.{◌≡◌, ℕ, ◌^◌, ◌<◌, ◌≤◌, Bool, true, false, ◌&&◌, cond, ltb, leb, List, [], ◌∷◌, ◌++◌, length, take, drop, Some, None, refl, sym, ap, subst, arith}
use Rattle.std.specs.Prelude.{IsTrue}
use Rattle.std.specs.Int.{Width, w16, w32, to_be_bytes}
use Rattle.std.proofs.lemmas.Bool.{ltb-false, le-ltb, leb-true, le-leb}
use Rattle.std.proofs.lemmas.List.{take_at, drop_at, take-append-drop, length-append, length-take}
use Rattle.byte_fields.specs.Fields.{◌>>=◌, number_at}
use Rattle.byte_fields.proofs.lemmas.FieldLaws.{IsBytes-drop, IsBytes-rest, bind_some, guard_some, pass_some, some_is, IsCode, is_code, Takes, Takes-then, IsWide, wide16, wide32, is_number}
use Rattle.enq_base.specs.declared.owner.UnitKey.{UnitKey}
use Rattle.gate_log.specs.Grammars.{IsBytes}
use Rattle.mode_rules.specs.declared.Mode.{Mode}
use Rattle.mode_rules.specs.Modes.{mode_number, mode_of}
use Rattle.mode_rules.proofs.lemmas.ModeNumbers.{again, read}
use Rattle.backup_file.specs.Spelling.{unit_bytes, short, IsUnit}
use Rattle.backup_file.specs.Reading.{text_at, short_at, unit_at, mode_at, count_at}

pub both_true : (a b : Bool) → (a && b) ≡ true → (a ≡ true) × (b ≡ true)
both_true true b e = (refl, e)
both_true false b e = absurd cc

-- ---- numbers

pub number_takes : (w : Width) (limit : ℕ) (wide : IsWide w limit) (bytes : List ℕ) (n : ℕ) (rest : List ℕ) → IsBytes bytes → number_at w bytes ≡ Some (n, rest)
    → Takes bytes (to_be_bytes w n) rest × (n < limit)
number_takes w limit wide bytes n rest fits e = (is_number w limit wide).takes bytes (n, rest) fits e

pub number_again : (w : Width) (limit : ℕ) (wide : IsWide w limit) (n : ℕ) (rest : List ℕ) → n < limit → number_at w (to_be_bytes w n ++ rest) ≡ Some (n, rest)
number_again w limit wide n rest lt = (is_number w limit wide).again n rest lt

-- ---- short texts

text_takes : (bytes text rest : List ℕ) → IsBytes bytes → text_at bytes ≡ Some (text, rest) → Takes bytes (short text) rest
unfolding text_at
text_takes [] text rest fits e = absurd cc
text_takes (n ∷ more) text rest fits e =
    let g = guard_some (ltb (length more) n) (take n more, drop n more) (text, rest) e in
    let long : n ≤ length more = ltb-false _ _ g.0 in
    let len : length (take n more) ≡ n = omega (arith, length-take n more) in
    let whole : Takes (n ∷ more) (short (take n more)) (drop n more) =
    record { parts = rw len (ap (λ (l : List ℕ). n ∷ l) (sym (take-append-drop n more))); rest_fits = IsBytes-drop n more (IsBytes-rest n more fits) } in
    subst (λ (p : List ℕ × List ℕ). Takes (n ∷ more) (short p.0) p.1) g.1 whole

text_again : (text rest : List ℕ) → text_at (short text ++ rest) ≡ Some (text, rest)
unfolding text_at
text_again text rest =
    let long : ltb (length (text ++ rest)) (length text) ≡ false = le-ltb _ _ (omega (arith, length-append text rest)) in
    rw (long, take_at text rest (length text) refl, drop_at text rest (length text) refl) refl

pub short_takes : (p : List ℕ → Bool) (bytes text rest : List ℕ) → IsBytes bytes → short_at p bytes ≡ Some (text, rest) → Takes bytes (short text) rest
    × IsTrue (p text)
unfolding short_at
short_takes p bytes text rest fits e =
    let b = bind_some (text_at bytes) (λ t. cond (p t.0) (Some t) None) (text, rest) e in
    let g = pass_some (p b.0.0) b.0 (text, rest) b.2 in
    let t = text_takes bytes b.0.0 b.0.1 fits b.1 in
    subst (λ (q : List ℕ × List ℕ). Takes bytes (short q.0) q.1 × IsTrue (p q.0)) g.1 (t, g.0)

pub short_again : (p : List ℕ → Bool) (text rest : List ℕ) → IsTrue (p text) → short_at p (short text ++ rest) ≡ Some (text, rest)
unfolding short_at
short_again p text rest h = rw (text_again text rest, h) refl

-- ---- modes and counts

is_mode : IsCode (λ (m : Mode). 0 < mode_number m) mode_number mode_of
is_mode = record { takes = λ b m lt e. read b m e; again = λ m past. again m (mode_number m) refl past }

pub mode_takes : (bytes : List ℕ) (m : Mode) (rest : List ℕ) → IsBytes bytes → mode_at bytes ≡ Some (m, rest) → Takes bytes (mode_number m ∷ []) rest
    × (0 < mode_number m)
unfolding mode_at
mode_takes bytes m rest fits e = (is_code is_mode).takes bytes (m, rest) fits e

pub mode_again : (m : Mode) (rest : List ℕ) → 0 < mode_number m → mode_at (mode_number m ∷ rest) ≡ Some (m, rest)
unfolding mode_at
mode_again m rest past = (is_code is_mode).again m rest past

pub count_takes : (bytes : List ℕ) (n : ℕ) (rest : List ℕ) → IsBytes bytes → count_at bytes ≡ Some (n, rest) → Takes bytes (to_be_bytes w16 n) rest × (0 < n)
    × (n ≤ 9999)
unfolding count_at
count_takes bytes n rest fits e =
    let b = bind_some (number_at w16 bytes) (λ x. cond (leb 1 x.0 && leb x.0 9999) (Some x) None) (n, rest) e in
    let g = pass_some (leb 1 b.0.0 && leb b.0.0 9999) b.0 (n, rest) b.2 in
    let t = number_takes w16 (2 ^ 16) wide16 bytes b.0.0 b.0.1 fits b.1 in
    let h = both_true (leb 1 b.0.0) (leb b.0.0 9999) g.0 in
    subst (λ (q : ℕ × List ℕ). Takes bytes (to_be_bytes w16 q.0) q.1 × (0 < q.0) × (q.0 ≤ 9999)) g.1
    (t.0, omega (arith, leb-true 1 b.0.0 h.0), leb-true b.0.0 9999 h.1)

pub count_again : (n : ℕ) (rest : List ℕ) → 0 < n → n ≤ 9999 → count_at (to_be_bytes w16 n ++ rest) ≡ Some (n, rest)
unfolding count_at
count_again n rest some few =
    rw (number_again w16 (2 ^ 16) wide16 n rest (omega arith), le-leb 1 n (omega arith), le-leb n 9999 few) refl

-- ---- units

pub unit_takes : (bytes : List ℕ) (u : UnitKey) (rest : List ℕ) → IsBytes bytes → unit_at bytes ≡ Some (u, rest) → Takes bytes (unit_bytes u) rest × IsUnit u
unfolding unit_at
unit_takes bytes u rest fits e =
    let a = bind_some (number_at w32 bytes)
    (λ start. number_at w32 start.1 >>= λ session. number_at w32 session.1 >>= λ luw. Some
    (record { start = start.0; session = session.0; luw = luw.0 }, luw.1)) (u, rest) e in
    let b = bind_some (number_at w32 a.0.1)
    (λ session. number_at w32 session.1 >>= λ luw. Some (record { start = a.0.0; session = session.0; luw = luw.0 }, luw.1)) (u, rest) a.2 in
    let c = bind_some (number_at w32 b.0.1) (λ luw. Some (record { start = a.0.0; session = b.0.0; luw = luw.0 }, luw.1)) (u, rest) b.2 in
    let t0 = number_takes w32 (2 ^ 32) wide32 bytes a.0.0 a.0.1 fits a.1 in
    let t1 = number_takes w32 (2 ^ 32) wide32 a.0.1 b.0.0 b.0.1 t0.0.rest_fits b.1 in
    let t2 = number_takes w32 (2 ^ 32) wide32 b.0.1 c.0.0 c.0.1 t1.0.rest_fits c.1 in
    let t01 = Takes-then bytes (to_be_bytes w32 a.0.0) a.0.1 (to_be_bytes w32 b.0.0) b.0.1 t0.0 t1.0 in
    let t02 = Takes-then bytes (to_be_bytes w32 a.0.0 ++ to_be_bytes w32 b.0.0) b.0.1 (to_be_bytes w32 c.0.0) c.0.1 t01 t2.0 in
    let made : UnitKey × List ℕ = (record { start = a.0.0; session = b.0.0; luw = c.0.0 }, c.0.1) in
    subst (λ (y : UnitKey × List ℕ). Takes bytes (unit_bytes y.0) y.1 × IsUnit y.0) (some_is made (u, rest) c.2)
    (t02, record { start = t0.1; session = t1.1; luw = t2.1 })

pub unit_again : (u : UnitKey) (rest : List ℕ) → IsUnit u → unit_at (unit_bytes u ++ rest) ≡ Some (u, rest)
unfolding unit_at
unit_again u rest fits =
    rw (
      number_again w32 (2 ^ 32) wide32 u.start (to_be_bytes w32 u.session ++ (to_be_bytes w32 u.luw ++ rest)) fits.start,
      number_again w32
          (2 ^ 32) wide32 u.session (to_be_bytes w32 u.luw ++ rest) fits.session,
      number_again w32 (2 ^ 32) wide32 u.luw rest fits.luw,
    ) refl
