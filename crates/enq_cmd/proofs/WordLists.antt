-- What the words of the command line name.
use Rattle.std.proofs.Common.{◌≡◌, ◌≢◌, inl, inr, ℕ, ◌<◌, ◌^◌, Bool, true, false, List, [], ◌∷◌, ◌++◌, length, refl, sym, ap, ◌∙◌, subst, arith, codes, decimal, Option, Some, None}
use Rattle.std.specs.Prelude.{IfNone}
use Rattle.std.specs.Str.{bytes_eq}
use Rattle.std.proofs.lemmas.Fmt.{decimal_injective}
use Rattle.enq_cmd.specs.Running.{ReadsScript, RunsWords}
use Rattle.enq_cmd.specs.Words.{IsCount, IsCrew, NamesNone, NamesWork, cover_words, gen_words, load_words, replay_words, run_words, run_words_joined}
use Rattle.enq_cmd.specs.declared.words.Work.TheVariants.{Replays, Generates, Loads, Runs, Covers}

second_is : (a b c d : List ℕ) → ◌≡◌ {A = List (List ℕ)} (a ∷ b ∷ []) (c ∷ d ∷ []) → b ≡ d
second_is a b c d e = cc

-- a number that isn't a number of units is spelled as none
pub outside : (text : List ℕ) (m : ℕ) → m < 2 ^ 64 → text ≡ decimal m → ¬ IsCount m → (n : ℕ) → IsCount n → text ≢ decimal n
outside text m small is out n count e =
    let same : m ≡ n = decimal_injective m n small (omega (arith, count.1)) (sym is ∙ e) in
    out (subst IsCount (sym same) count)

-- ---- the words name one thing

same_count : (n m : ℕ) → IsCount n → IsCount m → decimal n ≡ decimal m → n ≡ m
same_count n m c d e = decimal_injective n m (omega (arith, c.1)) (omega (arith, d.1)) e

pub same_gen : (words : List (List ℕ)) (n m : ℕ) → NamesWork words (Generates n) → NamesWork words (Generates m) → n ≡ m
same_gen words n m h k = same_count n m h.0 k.0 (second_is _ _ _ _ (sym h.1 ∙ k.1))

pub same_load : (words : List (List ℕ)) (n m : ℕ) → NamesWork words (Loads n) → NamesWork words (Loads m) → n ≡ m
same_load words n m h k = same_count n m h.0 k.0 (second_is _ _ _ _ (sym h.1 ∙ k.1))

pub if_none : {A : Type 0} (P Q : Type 0) (r : Option A) → IfNone r P → (P → Q) → IfNone r Q
if_none P Q None h f = f h
if_none P Q (Some x) h f = tt

-- ---- those by which threads do a script

-- a number that isn't a number of workers is spelled as none
pub outside_crew : (text : List ℕ) (m : ℕ) → m < 2 ^ 64 → text ≡ decimal m → ¬ IsCrew m → (n : ℕ) → IsCrew n → text ≢ decimal n
outside_crew text m small is out n crew e =
    let same : m ≡ n = decimal_injective m n small (omega (arith, crew.1)) (sym is ∙ e) in
    out (subst IsCrew (sym same) crew)

same_crew : (n m : ℕ) → IsCrew n → IsCrew m → decimal n ≡ decimal m → n ≡ m
same_crew n m c d e = decimal_injective n m (omega (arith, c.1)) (omega (arith, d.1)) e

third_is : (a b c d e f : List ℕ) → ◌≡◌ {A = List (List ℕ)} (a ∷ b ∷ c ∷ []) (d ∷ e ∷ f ∷ []) → c ≡ f
third_is a b c d e f h = cc

behind : (xs ys zs : List ℕ) → xs ++ ys ≡ xs ++ zs → ys ≡ zs
behind [] ys zs e = e
behind (x ∷ xs) ys zs e = behind xs ys zs (let more : ◌≡◌ {A = List ℕ} (x ∷ (xs ++ ys)) (x ∷ (xs ++ zs)) = e in cc)

-- two words aren't three
two_three : (n m : ℕ) → run_words n ≡ run_words_joined m → ⊥
two_three n m e = let wrong : ◌≡◌ {A = ℕ} 3 2 = ap length e in absurd cc

pub same_run : (words : List (List ℕ)) (n m : ℕ) → NamesWork words (Runs n) → NamesWork words (Runs m) → n ≡ m
same_run words n m (c, inl h) (d, inl k) = same_crew n m c d (third_is _ _ _ _ _ _ (sym h ∙ k))
same_run words n m (c, inl h) (d, inr k) = absurd (two_three n m (sym h ∙ k))
same_run words n m (c, inr h) (d, inl k) = absurd (two_three m n (sym k ∙ h))
same_run words n m (c, inr h) (d, inr k) = same_crew n m c d (behind (codes "--workers=") (decimal n) (decimal m) (second_is _ _ _ _ (sym h ∙ k)))

abbrev is_first : List ℕ → List (List ℕ) → Bool
is_first word [] = false
is_first word (w ∷ ws) = bytes_eq w word

runs_first : (words : List (List ℕ)) → RunsWords words → is_first (codes "run") words ≡ true
runs_first words (n, (crew, inl is)) = ap (is_first (codes "run")) is
runs_first words (n, (crew, inr is)) = ap (is_first (codes "run")) is

other_words : (words others : List (List ℕ)) → words ≡ others → is_first (codes "run") others ≡ false → RunsWords words → ⊥
other_words words others is other runs =
    let wrong : true ≡ false = sym (runs_first words runs) ∙ ap (is_first (codes "run")) is ∙ other in absurd cc

-- no other words do so
pub replays_alone : (words : List (List ℕ)) → words ≡ replay_words → RunsWords words → ⊥
replays_alone words is runs = other_words words replay_words is refl runs

pub generates_alone : (words : List (List ℕ)) (n : ℕ) → NamesWork words (Generates n) → RunsWords words → ⊥
generates_alone words n h runs = other_words words (gen_words n) h.1 refl runs

pub loads_alone : (words : List (List ℕ)) (n : ℕ) → NamesWork words (Loads n) → RunsWords words → ⊥
loads_alone words n h runs = other_words words (load_words n) h.1 refl runs

pub covers_alone : (words : List (List ℕ)) → words ≡ cover_words → RunsWords words → ⊥
covers_alone words is runs = other_words words cover_words is refl runs

-- words that name this name nothing else
first_apart : (words one other : List (List ℕ)) → words ≡ one → words ≡ other → is_first (codes "cover") one ≡ true → is_first (codes "cover") other ≡ false → ⊥
first_apart words one other is also here there =
    let wrong : true ≡ false = sym here ∙ ap (is_first (codes "cover")) (sym is ∙ also) ∙ there in absurd cc

pub cover_not_replay : (words : List (List ℕ)) → words ≡ cover_words → words ≡ replay_words → ⊥
cover_not_replay words is also = first_apart words cover_words replay_words is also refl refl

pub cover_not_gen : (words : List (List ℕ)) (n : ℕ) → words ≡ cover_words → NamesWork words (Generates n) → ⊥
cover_not_gen words n is also = first_apart words cover_words (gen_words n) is also.1 refl refl

pub cover_not_load : (words : List (List ℕ)) (n : ℕ) → words ≡ cover_words → NamesWork words (Loads n) → ⊥
cover_not_load words n is also = first_apart words cover_words (load_words n) is also.1 refl refl

-- ---- words that name nothing

-- two words, the first of which is run, name nothing but work for threads
pub none_joined : (last : List ℕ) → ((n : ℕ) → IsCrew n → last ≢ codes "--workers=" ++ decimal n) → NamesNone (codes "run" ∷ last ∷ [])
none_joined last none Replays e = let wrong : ◌≡◌ {A = ℕ} 2 1 = ap length e in absurd cc
none_joined last none (Generates n) h = let wrong : true ≡ false = ap (is_first (codes "run")) h.1 in absurd cc
none_joined last none (Loads n) h = let wrong : true ≡ false = ap (is_first (codes "run")) h.1 in absurd cc
none_joined last none Covers e = let wrong : ◌≡◌ {A = ℕ} 2 1 = ap length e in absurd cc
none_joined last none (Runs n) (crew, inl is) = let wrong : ◌≡◌ {A = ℕ} 2 3 = ap length is in absurd cc
none_joined last none (Runs n) (crew, inr is) = none n crew (second_is _ _ _ _ is)

pub runs_none : (words : List (List ℕ)) → NamesNone words → RunsWords words → ⊥
runs_none words none runs = none (Runs runs.0) runs.1

pub reads_none : (words : List (List ℕ)) → NamesNone words → ReadsScript words → ⊥
reads_none words none (inl is) = none Replays is
reads_none words none (inr (inl is)) = none Covers is
reads_none words none (inr (inr runs)) = runs_none words none runs

pub where_none : {A : Type 0} (P : Type 0) (r : Option A) → P → IfNone r P
where_none P None h = h
where_none P (Some x) h = tt
