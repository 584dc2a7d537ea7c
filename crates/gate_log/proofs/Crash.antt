-- What a crash leaves in each of the two steps that add a record.
use Rattle.std.proofs.Common.{◌≡◌, ◌⊎◌, ℕ, ◌+◌, ◌-◌, ◌<◌, ◌≤◌, ◌^◌, min, List, [], ◌∷◌, ◌++◌, length, take, drop, get_or, replicate, sym, ap, subst, ◌∙◌, append_assoc, arith, inl, inr, length-append}
use Rattle.std.proofs.lemmas.Bool.{cases_eq}
use Rattle.std.proofs.lemmas.List.{take_at, drop_at, drop_more, take-append-drop, append-nil}
use Rattle.bk_disk.specs.Disk.{written, Torn, Follows, Only}
use Rattle.gate_log.specs.Gates.{IsShut, IsSynced, IsAtRest}

-- a write within the bytes leaves no gap
pub written_within : (at : ℕ) (bytes text : List ℕ) → at ≤ length bytes → written bytes at text ≡ take at bytes ++ text ++ drop (at + length text) bytes
written_within at bytes text le =
    let none : at - length bytes ≡ 0 = omega arith in
    ap (λ (k : ℕ). take at bytes ++ replicate k 0 ++ text ++ drop (at + length text) bytes) none
    ∙ ap (λ (l : List ℕ). l ++ text ++ drop (at + length text) bytes) (append-nil (take at bytes))

module _ (front : List ℕ) (gate byte : ℕ) (rest bytes : List ℕ) (whole : bytes ≡ front ++ byte ∷ rest) (place : length front ≡ gate) where
  size : length bytes ≡ gate + 1 + length rest
  size = omega (arith, ap (λ (b : List ℕ). length b) whole, length-append front (byte ∷ rest), place)

  split : bytes ≡ (front ++ byte ∷ []) ++ rest
  split = whole ∙ sym (append_assoc front (byte ∷ []) rest)

  size_front : length (front ++ byte ∷ []) ≡ gate + 1
  size_front = omega (arith, length-append front (byte ∷ []), place)

  up_to_gate : take gate bytes ≡ front
  up_to_gate = ap (λ (b : List ℕ). take gate b) whole ∙ take_at front (byte ∷ rest) gate place

  with_gate : take (gate + 1) bytes ≡ front ++ byte ∷ []
  with_gate = ap (λ (b : List ℕ). take (gate + 1) b) split ∙ take_at (front ++ byte ∷ []) rest (gate + 1) size_front

  behind_gate : drop (gate + 1) bytes ≡ rest
  behind_gate = ap (λ (b : List ℕ). drop (gate + 1) b) split ∙ drop_at (front ++ byte ∷ []) rest (gate + 1) size_front

  -- the gate stands in each outcome of a write behind it
  torn_behind : (n : ℕ) (c : List ℕ) → Torn (gate + 1) n bytes c → c ≡ front ++ byte ∷ drop (gate + 1) c
  torn_behind n c torn =
      let within : min (gate + 1) (length bytes) ≡ gate + 1 = omega (arith, size) in
      let same : take (gate + 1) c ≡ front ++ byte ∷ [] = ap (λ (k : ℕ). take k c) (sym within) ∙ torn.before ∙ with_gate in
      sym (take-append-drop (gate + 1) c) ∙ ap (λ (l : List ℕ). l ++ drop (gate + 1) c) same ∙ append_assoc front (byte ∷ []) (drop (gate + 1) c)

  written_behind : (text : List ℕ) → written bytes (gate + 1) text ≡ front ++ byte ∷ (text ++ drop (gate + 1 + length text) bytes)
  written_behind text =
      written_within (gate + 1) bytes text (omega (arith, size))
      ∙ append_assoc (take (gate + 1) bytes) text (drop (gate + 1 + length text) bytes)
      ∙ ap (λ (l : List ℕ). l ++ (text ++ drop (gate + 1 + length text) bytes)) with_gate
      ∙ append_assoc front (byte ∷ []) (text ++ drop (gate + 1 + length text) bytes)

  -- what stands behind the gate is whole in each outcome of a write on it
  torn_gate : (c : List ℕ) → Torn gate 1 bytes c → c ≡ front ++ get_or c gate 0 ∷ rest
  torn_gate c torn =
      let within : min gate (length bytes) ≡ gate = omega (arith, size) in
      let same : take gate c ≡ front = ap (λ (k : ℕ). take k c) (sym within) ∙ torn.before ∙ up_to_gate in
      let tail : drop gate c ≡ get_or c gate 0 ∷ rest = drop_more c gate 0 (omega (arith, torn.no_shorter, size))
      ∙ ap (λ (l : List ℕ). get_or c gate 0 ∷ l) (torn.after ∙ behind_gate) in
      sym (take-append-drop gate c) ∙ ap (λ (l : List ℕ). l ++ drop gate c) same ∙ ap (λ (l : List ℕ). front ++ l) tail

  written_gate : written bytes gate (1 ∷ []) ≡ front ++ 1 ∷ rest
  written_gate =
      written_within gate bytes (1 ∷ []) (omega (arith, size))
      ∙ append_assoc (take gate bytes) (1 ∷ []) (drop (gate + 1) bytes)
      ∙ ap (λ (l : List ℕ). l ++ 1 ∷ drop (gate + 1) bytes) up_to_gate
      ∙ ap (λ (l : List ℕ). front ++ 1 ∷ l) behind_gate

-- ---- the first step: bytes behind the closed gate

module _ (bytes : List ℕ) (images : List ℕ → Type 0) (gate : ℕ) (front : List ℕ) (s : IsAtRest bytes images gate front) where
  -- the gate stays closed
  pub staged_crash : (at n : ℕ) (new : List ℕ → Type 0) → at ≡ gate + 1 → Follows (Torn at n) images new → (c : List ℕ) → new c → IsShut front c
  staged_crash at n new is follows c left =
      let from = follows c left in
      let torn = subst (λ (k : ℕ). Torn k n bytes c) is (subst (λ (b : List ℕ). Torn at n b c) (s.durable from.0 from.1) from.2) in
      record { byte = s.byte; rest = drop (gate + 1) c; whole = torn_behind front gate s.byte s.more bytes s.whole s.place n c torn; closed = s.closed }

  pub staged : (at : ℕ) (text new : List ℕ) (left : List ℕ → Type 0) → at ≡ gate + 1 → new ≡ written bytes at text → at + length text < 2 ^ 63 → Only new left
      → IsSynced new left gate front text
  staged at text new left is e fits only = record {
    byte = s.byte;
    more = drop (gate + 1 + length text) bytes;
    whole = e ∙ ap (λ (k : ℕ). written bytes k text) is ∙ written_behind front gate s.byte s.more bytes s.whole s.place text;
    closed = s.closed;
    place = s.place;
    fits = omega (arith, is, fits);
    durable = only;
  }

-- ---- the second: the gate is opened

-- a front that goes on with an open gate, a body and a closed gate
goes_on : (front body more bytes : List ℕ) → bytes ≡ front ++ 1 ∷ ((body ++ 0 ∷ []) ++ more) → bytes ≡ (front ++ 1 ∷ body) ++ 0 ∷ more
goes_on front body more bytes whole =
    whole ∙ ap (λ (b : List ℕ). front ++ 1 ∷ b) (append_assoc body (0 ∷ []) more) ∙ sym (append_assoc front (1 ∷ body) (0 ∷ more))

module _ (bytes : List ℕ) (images : List ℕ → Type 0) (gate : ℕ) (front body : List ℕ) (s : IsSynced bytes images gate front (body ++ 0 ∷ [])) where
  -- the gate is closed, or open with the body behind it
  either : (byte : ℕ) (c : List ℕ) → c ≡ front ++ byte ∷ ((body ++ 0 ∷ []) ++ s.more) → IsShut front c ⊎ IsShut (front ++ 1 ∷ body) c
  either byte c whole = elim (cases_eq byte 1) [
    | inl open_gate ↦ inr
        (record {
          byte = 0;
          rest = s.more;
          whole = goes_on front body s.more c
              (whole ∙ ap (λ (b : ℕ). front ++ b ∷ ((body ++ 0 ∷ []) ++ s.more)) open_gate);
          closed = λ e. cc;
        })
    | inr shut ↦ inl (record { byte = byte; rest = (body ++ 0 ∷ []) ++ s.more; whole = whole; closed = shut })
  ]

  pub opened_crash : (gate_byte : List ℕ) (new : List ℕ → Type 0) → gate_byte ≡ 1 ∷ [] → Follows (Torn gate (length gate_byte)) images new → (c : List ℕ)
      → new c → IsShut front c ⊎ IsShut (front ++ 1 ∷ body) c
  opened_crash gate_byte new is follows c left =
      let from = follows c left in
      let torn = subst (λ (k : List ℕ). Torn gate (length k) bytes c) is
      (subst (λ (b : List ℕ). Torn gate (length gate_byte) b c) (s.durable from.0 from.1) from.2) in
      either (get_or c gate 0) c (torn_gate front gate s.byte ((body ++ 0 ∷ []) ++ s.more) bytes s.whole s.place c torn)

  pub opened : (gate_byte new : List ℕ) (left : List ℕ → Type 0) → gate_byte ≡ 1 ∷ [] → new ≡ written bytes gate gate_byte → Only new left
      → IsAtRest new left (gate + 1 + length body) (front ++ 1 ∷ body)
  opened gate_byte new left is e only = record {
    byte = 0;
    more = s.more;
    whole = goes_on front body s.more new
        (e ∙ ap (λ (g : List ℕ). written bytes gate g) is ∙ written_gate front gate s.byte ((body ++ 0 ∷ []) ++ s.more) bytes s.whole s.place);
    closed = λ e. cc;
    place = omega (arith, length-append front (1 ∷ body), s.place);
    fits = omega (arith, s.fits, length-append body (0 ∷ []));
    durable = only;
  }
