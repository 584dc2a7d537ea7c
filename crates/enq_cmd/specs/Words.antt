-- The words of the command line.
use Rattle.std.specs.Prelude.{◌≡◌, ◌⊎◌, ℕ, ◌≤◌, List, [], ◌∷◌, ◌++◌, codes, decimal}
use Rattle.enq_cmd.specs.declared.words.Work.{Work}
use Rattle.enq_cmd.specs.declared.words.Work.TheVariants.{Replays, Generates, Loads, Runs, Covers}

-- the script that is read is done
abbrev pub replay_words : List (List ℕ)
replay_words = codes "replay" ∷ []

-- the script of n units is written
abbrev pub gen_words : ℕ → List (List ℕ)
gen_words n = codes "gen" ∷ decimal n ∷ []

-- the script of n units is done
abbrev pub load_words : ℕ → List (List ℕ)
load_words n = codes "load" ∷ decimal n ∷ []

-- what the script lacks that is read is written
abbrev pub cover_words : List (List ℕ)
cover_words = codes "cover" ∷ []

-- how many units a script may be made of
abbrev pub IsCount : ℕ → Type 0
IsCount n = (1 ≤ n) × (n ≤ 10000)

-- The script that is read is done by threads, with n workers. There are two ways to say so.
abbrev pub run_words : ℕ → List (List ℕ)
run_words n = codes "run" ∷ codes "--workers" ∷ decimal n ∷ []

abbrev pub run_words_joined : ℕ → List (List ℕ)
run_words_joined n = codes "run" ∷ (codes "--workers=" ++ decimal n) ∷ []

-- how many workers may work at once
abbrev pub IsCrew : ℕ → Type 0
IsCrew n = (1 ≤ n) × (n ≤ 16)

-- what the words name
abbrev pub NamesWork : List (List ℕ) → Work → Type 0
NamesWork words Replays = words ≡ replay_words
NamesWork words (Generates n) = IsCount n × (words ≡ gen_words n)
NamesWork words (Loads n) = IsCount n × (words ≡ load_words n)
NamesWork words (Runs n) = IsCrew n × ((words ≡ run_words n) ⊎ (words ≡ run_words_joined n))
NamesWork words Covers = words ≡ cover_words

-- words that name nothing
abbrev pub NamesNone : List (List ℕ) → Type 0
NamesNone words = (work : Work) → ¬ NamesWork words work

-- words by which the store is opened
abbrev pub OpensStore : List (List ℕ) → Type 0
OpensStore words =
    (words ≡ replay_words) ⊎ (((n : ℕ) × NamesWork words (Loads n)) ⊎ ((n : ℕ) × NamesWork words (Runs n)))
