-- Each turn is the last one of just one block.
use Rattle.std.proofs.Common.{◌≡◌, ◌<◌, ◌≤◌, ◌+◌, ◌-◌, ◌*◌, ◌/◌, ◌%◌, ◌^◌, ℕ, zero, suc, ap, refl, arith, ◌∙◌}
use Rattle.std.proofs.Math.Nat.{pow-suc}
use Rattle.std.proofs.lemmas.Nat.{pow_pos, div-mul-add, div-add-mod', mod_below}
use Rattle.turn_list.specs.Counts.{start_of, end_of}

-- a level up, each width is doubled
pub width_up : (level : ℕ) → 2 ^ (level + 1) ≡ 2 ^ level + 2 ^ level
width_up level = let e : level + 1 ≡ suc level = omega arith in
    let p = pow-suc 2 level in
    let up : 2 ^ (level + 1) ≡ 2 ^ suc level = ap (λ l. 2 ^ l) e in
    omega arith

pub start_is : (level block : ℕ) → start_of level block ≡ (block + block) * 2 ^ level
start_is level block = ap (λ w. block * w) (width_up level) ∙ omega arith

end_up : (level block : ℕ) → end_of (suc level) block ≡ end_of level block + end_of level block
end_up level block =
    let e : suc level ≡ level + 1 = omega arith in
    let one : end_of (suc level) block ≡ end_of (level + 1) block = ap (λ l. end_of l block) e in
    let other : end_of (level + 1) block ≡ block * (2 ^ (level + 1) + 2 ^ (level + 1)) + 2 ^ (level + 1) =
    ap (λ w. block * w + 2 ^ (level + 1)) (width_up (level + 1)) in
    let w = width_up level in
    omega arith

end_odd : (block : ℕ) → end_of 0 block ≡ block + block + 1
end_odd block = omega arith

pub one_level : (level other block another : ℕ) → end_of level block ≡ end_of other another → level ≡ other
one_level zero zero block another e = refl
one_level zero (suc other) block another e =
    let odd = end_odd block in
    let even = end_up other another in
    omega arith
one_level (suc level) zero block another e =
    let odd = end_odd another in
    let even = end_up level block in
    omega arith
one_level (suc level) (suc other) block another e =
    let up = end_up level block in
    let above = end_up other another in
    ap suc (one_level level other block another (omega arith))

-- a number of widths, even or odd
pub end_at : (level block : ℕ) → end_of level block ≡ (block + block + 1) * 2 ^ level
end_at level block = let start = start_is level block in omega arith

-- the block around a turn
pub around : (level block turn : ℕ) → start_of level block ≤ turn → turn < end_of level block → turn / 2 ^ level ≡ block + block
around level block turn from to =
    let start = start_is level block in
    let rest : turn ≡ (block + block) * 2 ^ level + (turn - start_of level block) = omega arith in
    ap (λ t. t / 2 ^ level) rest ∙ div-mul-add (block + block) (2 ^ level) (turn - start_of level block) (omega arith)

pub one_block : (level block another turn : ℕ) → start_of level block ≤ turn → turn < end_of level block
    → start_of level another ≤ turn → turn < end_of level another → block ≡ another
one_block level block another turn from to from' to' =
    let one = around level block turn from to in
    let other = around level another turn from' to' in
    omega arith

pub quotient : (level n : ℕ) → (n * 2 ^ level) / 2 ^ level ≡ n
quotient level n = let e : n * 2 ^ level ≡ n * 2 ^ level + 0 = omega arith in
    ap (λ t. t / 2 ^ level) e ∙ div-mul-add n (2 ^ level) 0 (pow_pos level)

-- a turn whose quotient is even is in a block
pub within_even : (level turn block : ℕ) → turn / 2 ^ level ≡ block + block
    → (start_of level block ≤ turn) × (turn < end_of level block) × ((turn / 2 ^ level + 1) * 2 ^ level ≡ end_of level block)
within_even level turn block e =
    let start = start_is level block in
    let parts = div-add-mod' turn (2 ^ level) in
    let rest = mod_below turn (2 ^ level) (pow_pos level) in
    let whole : turn / 2 ^ level * 2 ^ level ≡ (block + block) * 2 ^ level = ap (λ q. q * 2 ^ level) e in
    let last : (turn / 2 ^ level + 1) * 2 ^ level ≡ (block + block + 1) * 2 ^ level = ap (λ q. (q + 1) * 2 ^ level) e in
    (omega arith, omega arith, omega arith)

pub even : (n : ℕ) → n % 2 ≡ 0 → n ≡ n / 2 + n / 2
even n h = omega arith

pub odd : (n : ℕ) → n % 2 ≡ 1 → n ≡ n / 2 + n / 2 + 1
odd n h = omega arith

pub even_else : (n : ℕ) → (n % 2 ≡ 1 → ⊥) → n % 2 ≡ 0
even_else n h = omega arith
