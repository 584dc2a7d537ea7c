-- What a write or a cut leaves of bytes whose parts are known.
use Rattle.std.proofs.Common.{◌≡◌, ℕ, ◌+◌, ◌-◌, ◌≤◌, min, List, [], ◌++◌, length, take, drop, replicate, sym, ap, ◌∙◌, append_assoc, arith, length-append}
use Rattle.std.proofs.lemmas.List.{take_at, drop_at, drop_all, take-append-drop, take-take, append-nil, length-take, length-drop}
use Rattle.bk_disk.specs.Disk.{written, resized, Torn, Cut}
use Rattle.gate_log.proofs.Crash.{written_within}

module _ (x m y bytes : List ℕ) (whole : bytes ≡ x ++ (m ++ y)) (at n : ℕ) (place : length x ≡ at) (size : length m ≡ n) where
  total : length bytes ≡ at + n + length y
  total = omega (arith, ap (λ (b : List ℕ). length b) whole, length-append x (m ++ y), length-append m y, place, size)

  front : take at bytes ≡ x
  front = ap (λ (b : List ℕ). take at b) whole ∙ take_at x (m ++ y) at place

  tail : drop (at + n) bytes ≡ y
  tail = ap (λ (b : List ℕ). drop (at + n) b) (whole ∙ sym (append_assoc x m y))
      ∙ drop_at (x ++ m) y (at + n) (omega (arith, length-append x m, place, size))

  -- a write in the middle changes that alone
  pub torn_inside : (c : List ℕ) → Torn at n bytes c → (k : List ℕ) × (c ≡ x ++ (k ++ y)) × (length k ≡ n)
  torn_inside c torn =
      let within : min at (length bytes) ≡ at = omega (arith, total) in
      let before : take at c ≡ x = ap (λ (j : ℕ). take j c) (sym within) ∙ torn.before ∙ front in
      let after : drop (at + n) c ≡ y = torn.after ∙ tail in
      let long : at + n ≤ length c = omega (arith, torn.no_shorter, total) in
      let split : take (at + n) c ≡ take at c ++ drop at (take (at + n) c) =
      sym (take-append-drop at (take (at + n) c)) ∙ ap (λ (l : List ℕ). l ++ drop at (take (at + n) c)) (take-take at (at + n) c (omega arith)) in (
        drop at (take (at + n) c),
        sym (take-append-drop (at + n) c) ∙ ap (λ (l : List ℕ). l ++ drop (at + n) c) split
            ∙ append_assoc (take at c) (drop at (take (at + n) c)) (drop (at + n) c)
            ∙ ap (λ (l : List ℕ). l ++ (drop at (take (at + n) c) ++ drop (at + n) c)) before
            ∙ ap (λ (l : List ℕ). x ++ (drop at (take (at + n) c) ++ l)) after,
        omega (arith, length-drop at (take (at + n) c), length-take (at + n) c, long),
      )

  pub written_inside : (text : List ℕ) → length text ≡ n → written bytes at text ≡ x ++ (text ++ y)
  written_inside text same =
      written_within at bytes text (omega (arith, total))
      ∙ append_assoc (take at bytes) text (drop (at + length text) bytes)
      ∙ ap (λ (l : List ℕ). l ++ (text ++ drop (at + length text) bytes)) front
      ∙ ap (λ (k : ℕ). x ++ (text ++ drop (at + k) bytes)) same
      ∙ ap (λ (l : List ℕ). x ++ (text ++ l)) tail

module _ (x y bytes : List ℕ) (whole : bytes ≡ x ++ y) (at : ℕ) (place : length x ≡ at) where
  size : length bytes ≡ at + length y
  size = omega (arith, ap (λ (b : List ℕ). length b) whole, length-append x y, place)

  begins : take at bytes ≡ x
  begins = ap (λ (b : List ℕ). take at b) whole ∙ take_at x y at place

  -- a write leaves what stands before it
  pub torn_behind : (n : ℕ) (c : List ℕ) → Torn at n bytes c → c ≡ x ++ drop at c
  torn_behind n c torn =
      let within : min at (length bytes) ≡ at = omega (arith, size) in
      let same : take at c ≡ x = ap (λ (j : ℕ). take j c) (sym within) ∙ torn.before ∙ begins in
      sym (take-append-drop at c) ∙ ap (λ (l : List ℕ). l ++ drop at c) same

  pub written_behind : (text : List ℕ) → written bytes at text ≡ x ++ (text ++ drop (at + length text) bytes)
  written_behind text =
      written_within at bytes text (omega (arith, size))
      ∙ append_assoc (take at bytes) text (drop (at + length text) bytes)
      ∙ ap (λ (l : List ℕ). l ++ (text ++ drop (at + length text) bytes)) begins

  -- and a cut behind it too
  pub cut_behind : (c : List ℕ) → Cut at bytes c → c ≡ x ++ drop at c
  cut_behind c cut =
      let long : at ≤ length c = omega (arith, cut.no_shorter, size) in
      let same : take at (take (length bytes) c) ≡ take at (take (length c) bytes) = ap (λ (l : List ℕ). take at l) cut.same in
      let left : take at (take (length bytes) c) ≡ take at c = take-take at (length bytes) c (omega (arith, size)) in
      let right : take at (take (length c) bytes) ≡ x = take-take at (length c) bytes long ∙ begins in
      sym (take-append-drop at c) ∙ ap (λ (l : List ℕ). l ++ drop at c) (sym left ∙ same ∙ right)

  pub resized_at : resized bytes at ≡ x
  resized_at =
      let none : at - length bytes ≡ 0 = omega (arith, size) in
      ap (λ (k : ℕ). take at bytes ++ replicate k 0) none ∙ append-nil (take at bytes) ∙ begins

-- behind the last byte
pub written_last : (x bytes : List ℕ) → bytes ≡ x → (at : ℕ) → length x ≡ at → (text : List ℕ) → written bytes at text ≡ x ++ text
written_last x bytes whole at place text =
    let same = whole ∙ sym (append-nil x) in
    let none : drop (at + length text) bytes ≡ [] = drop_all (at + length text) bytes (omega (arith, ap (λ (b : List ℕ). length b) whole, place)) in
    written_behind x [] bytes same at place text ∙ ap (λ (l : List ℕ). x ++ (text ++ l)) none ∙ ap (λ (l : List ℕ). x ++ l) (append-nil text)
