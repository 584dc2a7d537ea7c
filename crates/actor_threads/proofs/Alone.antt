-- A call of a worker at the hall itself.
use Rattle.std.proofs.Common.{◌≡◌, ℕ, ◌+◌, ◌≤◌, Bool, true, false, List, length, refl, sym, ap, ◌∙◌, subst, arith, length-append}
use Rattle.std.specs.Prelude.{if◌then◌else◌, Option, Some, is_some, IsTrue}
use mathlib.Core.List.{IsPrefix}
use Rattle.hall_model.specs.declared.command.PastEntry.{PastEntry}
use Rattle.hall_model.specs.declared.command.Reply.{Reply}
use Rattle.script_actors.specs.Actors.{full_after, is_full}

either : (P : Type 0) (b : Bool) → (b ≡ true → P) → (b ≡ false → P) → P
either P true f g = f refl
either P false f g = g refl

-- where a call found the history full, it is as long as it may be behind the next call too
pub full_kept : (past now : List PastEntry) (n : ℕ) (r : Reply) (before after : Option ℕ) → IsPrefix past now → (is_full r ≡ true → 262144 ≤ length now)
    → after ≡ full_after before n r → (IsTrue (is_some before) → 262144 ≤ length past) → IsTrue (is_some after) → 262144 ≤ length now
full_kept past now n r before after grew full noted was said =
    either (262144 ≤ length now) (is_full r) full
    (λ off. let same : after ≡ before = noted ∙ ap (λ b. if b then Some n else before) off in
    let had : 262144 ≤ length past = was (subst (λ o. IsTrue (is_some o)) same said) in
    let more : length now ≡ length past + length grew.0 = ap length (sym grew.1) ∙ length-append past grew.0 in
    omega (arith, had, more))
