-- Words behind a text.
use Rattle.std.proofs.lemmas.List.{at_drop_more}
use Rattle.std.proofs.Common.{◌≡◌, ℕ, ◌+◌, ◌≤◌, ◌<◌, drop, map, get_or, List, ◌∷◌, ◌++◌, length, sym, ap, ◌∙◌, append_assoc, arith, length-append}
use Rattle.script_runner.specs.Texts.{spaced}

-- the next word fits, where all that are left do
pub word_fits : (text all word : List ℕ) (words : List (List ℕ)) → text ++ spaced (word ∷ words) ≡ all → length all ≤ 1024
    → length text + (1 + length word) ≤ 1024
word_fits text all word words e fits =
    omega (arith, ap length e, length-append text (spaced (word ∷ words)), length-append word (spaced words))

-- one word more
pub word_more : (new text all word : List ℕ) (words : List (List ℕ)) → new ≡ text ++ 32 ∷ word → text ++ spaced (word ∷ words) ≡ all → new ++ spaced words ≡ all
word_more new text all word words is e = ap (λ t. t ++ spaced words) is ∙ append_assoc text (32 ∷ word) (spaced words) ∙ e

-- the words from a place on, with the next one in front
pub word_step : {W : Type 0} (now : W → List ℕ) (text all : List ℕ) (words : List W) (i : ℕ) (d : W) → i < length words
    → text ++ spaced (map now (drop i words)) ≡ all → text ++ spaced (now (get_or words i d) ∷ map now (drop (i + 1) words)) ≡ all
word_step now text all words i d h e =
    sym (ap (λ s. text ++ s) (at_drop_more (λ ws. spaced (map now ws)) words i d h)) ∙ e
