-- Items that are read in turn.
use Rattle.std.proofs.Common.{◌≡◌, ℕ, ◌+◌, List, [], ◌∷◌, ◌++◌, length, refl, sym, ap, ◌∙◌, Result, Ok, Err}
use Rattle.std.specs.Global.{Vec}
use Rattle.toml.specs.Data.{Data}
use Rattle.landscape.specs.Broken.{Broken, Gives, IsBad, in_turn}
use Rattle.landscape.specs.declared.land_fault.LandFault.{LandFault}
use Rattle.landscape.specs.declared.land_fault.LandFault.TheVariants as fault

-- after one more
pub turn-step : {A : Type 0} (read : List A → Data → Result A ℕ) (front : List A) (x : A) (d : Data) (ds left : List Data) (all : Result (List A) Broken)
    → left ≡ d ∷ ds → read front d ≡ Ok x → in_turn read front left ≡ all → in_turn read (front ++ x ∷ []) ds ≡ all
unfolding in_turn
turn-step read front x d ds left all q e h =
    let step : in_turn read front (d ∷ ds) ≡ in_turn read (front ++ x ∷ []) ds = rw (in_turn, e) refl in
    sym step ∙ ap (in_turn read front) (sym q) ∙ h

-- where an item breaks a rule
pub turn-stop : {A : Type 0} (read : List A → Data → Result A ℕ) (front : List A) (rule : ℕ) (d : Data) (ds left : List Data) (all : Result (List A) Broken)
    (f : LandFault) → left ≡ d ∷ ds → read front d ≡ Err rule → in_turn read front left ≡ all → IsBad f rule (length front + 1)
    → Gives (λ (v : Vec A). v.items) (Err f) all
unfolding in_turn
turn-stop read front rule d ds left all (fault.Bad r p) q e h b =
    let stop : in_turn read front (d ∷ ds) ≡ Err (record { rule = rule; place = length front + 1 }) = rw (in_turn, e) refl in
    sym h ∙ ap (in_turn read front) q ∙ stop ∙ ap (λ x. Err (record { rule = x; place = length front + 1 })) (sym b.0)
    ∙ ap (λ x. Err (record { rule = r; place = x })) (sym b.1)
turn-stop read front rule d ds left all fault.NoMemory q e h b = tt
turn-stop read front rule d ds left all fault.Failed q e h b = b

-- after the last one
pub turn-end : {A : Type 0} (read : List A → Data → Result A ℕ) (front : List A) (left : List Data) (all : Result (List A) Broken) → left ≡ []
    → in_turn read front left ≡ all → all ≡ Ok front
unfolding in_turn
turn-end read front left all q h = sym h ∙ ap (in_turn read front) q
