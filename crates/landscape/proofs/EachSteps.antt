-- Items that are read one after another.
use Rattle.std.proofs.Common.{◌≡◌, ℕ, List, [], ◌∷◌, ◌++◌, refl, sym, ap, ◌∙◌, append_assoc, Option, Some, None, option_map, Err}
use Rattle.std.proofs.lemmas.List.{append-nil}
use Rattle.enq_base.specs.Number.{◌>>=◌}
use Rattle.toml.specs.Data.{Data}
use Rattle.landscape.specs.Broken.{Follows}
use Rattle.landscape.specs.Objects.{each}
use Rattle.landscape.specs.declared.rule_fault.RuleFault.{RuleFault}
use Rattle.landscape.specs.declared.rule_fault.RuleFault.TheVariants as fault

-- more in front of what was read
abbrev pub behind : {A : Type 0} → List A → Option (List A) → Option (List A)
behind {A} front o = option_map (λ (xs : List A). front ++ xs) o

-- the first of these and the others
abbrev pub joined : {A : Type 0} → Option A → Option (List A) → Option (List A)
joined {A} o rest = o >>= λ (x : A). rest >>= λ (xs : List A). Some (x ∷ xs)

each-more : {A : Type 0} (read : Data → Option A) (d : Data) (ds : List Data) → each read (d ∷ ds) ≡ joined (read d) (each read ds)
unfolding each
each-more read d ds = refl

behind-joined : {A : Type 0} (front : List A) (x : A) (o : Option (List A)) → behind front (joined (Some x) o) ≡ behind (front ++ x ∷ []) o
behind-joined front x None = refl
behind-joined front x (Some xs) = ap Some (sym (append_assoc front (x ∷ []) xs))

-- after one more
pub each-step : {A : Type 0} (read : Data → Option A) (front : List A) (x : A) (d : Data) (ds left : List Data) (all : Option (List A)) → left ≡ d ∷ ds
    → read d ≡ Some x → behind front (each read left) ≡ all → behind (front ++ x ∷ []) (each read ds) ≡ all
each-step read front x d ds left all q e h =
    sym (behind-joined front x (each read ds)) ∙ sym (ap (λ o. behind front (joined o (each read ds))) e)
    ∙ sym (ap (behind front) (ap (each read) q ∙ each-more read d ds)) ∙ h

-- where one can't be read, none are
pub each-stop : {A : Type 0} (read : Data → Option A) (front : List A) (d : Data) (ds left : List Data) (all : Option (List A)) → left ≡ d ∷ ds → read d ≡ None
    → behind front (each read left) ≡ all → all ≡ None
each-stop read front d ds left all q e h =
    sym h ∙ ap (behind front) (ap (each read) q ∙ each-more read d ds) ∙ ap (λ o. behind front (joined o (each read ds))) e

-- after the last one
pub each-end : {A : Type 0} (read : Data → Option A) (front : List A) (left : List Data) (all : Option (List A)) → left ≡ []
    → behind front (each read left) ≡ all → all ≡ Some front
unfolding each
each-end read front left all q h = sym h ∙ ap (λ ds. behind front (each read ds)) q ∙ ap Some (append-nil front)

-- where one isn't read, none are, for the same cause
pub each-halt : {A B X : Type 0} (view : X → A) (whole : B → List A) (read : Data → Option A) (rule : ℕ) (front : List A) (f : RuleFault) (d : Data)
    (ds left : List Data) (all : Option (List A)) → left ≡ d ∷ ds → Follows view rule (Err f) (read d) → behind front (each read left) ≡ all
    → Follows whole rule (Err f) all
each-halt view whole read rule front (fault.Broken r) d ds left all q e h = (e.0, each-stop read front d ds left all q e.1 h)
each-halt view whole read rule front fault.NoMemory d ds left all q e h = tt
