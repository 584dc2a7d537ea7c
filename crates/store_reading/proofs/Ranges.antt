-- A test of the numbers from 1 on, as far as a loop over them has come.
use Rattle.std.proofs.Common.{◌≡◌, ℕ, suc, ◌+◌, ◌-◌, ◌<◌, ◌≤◌, Bool, true, false, ◌&&◌, sym, ap, ◌∙◌, arith}
use Rattle.std.specs.List.{list_all, range_with_len}

all_at : (test : ℕ → Bool) (k count : ℕ) → k < count
    → list_all test (range_with_len (k + 1) (count - k)) ≡ (test (k + 1) && list_all test (range_with_len (k + 1 + 1) (count - (k + 1))))
all_at test k count h =
    let more : count - k ≡ suc (count - (k + 1)) = omega arith in
    ap (λ n. list_all test (range_with_len (k + 1) n)) more

pub all_more : (test : ℕ → Bool) (k count : ℕ) (b all : Bool) → k < count → b ≡ test (k + 1) → b ≡ true
    → list_all test (range_with_len (k + 1) (count - k)) ≡ all → list_all test (range_with_len (k + 1 + 1) (count - (k + 1))) ≡ all
all_more test k count b all h is right rest =
    sym (all_at test k count h ∙ ap (λ t. t && list_all test (range_with_len (k + 1 + 1) (count - (k + 1)))) (sym is ∙ right)) ∙ rest

pub all_fails : (test : ℕ → Bool) (k count : ℕ) (b all : Bool) → k < count → b ≡ test (k + 1) → b ≡ false
    → list_all test (range_with_len (k + 1) (count - k)) ≡ all → false ≡ all
all_fails test k count b all h is wrong rest =
    sym (all_at test k count h ∙ ap (λ t. t && list_all test (range_with_len (k + 1 + 1) (count - (k + 1)))) (sym is ∙ wrong)) ∙ rest

pub all_done : (test : ℕ → Bool) (k count : ℕ) (all : Bool) → count ≤ k
    → list_all test (range_with_len (k + 1) (count - k)) ≡ all → true ≡ all
all_done test k count all h rest =
    let none : count - k ≡ 0 = omega arith in
    sym (ap (λ n. list_all test (range_with_len (k + 1) n)) none) ∙ rest
