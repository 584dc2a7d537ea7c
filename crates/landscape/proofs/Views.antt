-- Tables and arrays, and what they are seen as.
use Rattle.std.proofs.Common.{◌≡◌, ℕ, suc, ◌+◌, ◌<◌, List, [], ◌∷◌, length, map, drop, get_or, refl, sym, ap, ◌∙◌, String, Global, Bool, ◌&&◌, string_bytes}
use Rattle.std.proofs.lemmas.List.{drop_more}
use Rattle.std.specs.List.{list_all}
use Rattle.toml.specs.Data.{Data}
use Rattle.toml.specs.View.{view, members_view, items_view}
use Rattle.toml.specs.declared.value.Value.{Value}
use Rattle.landscape.specs.Tables.{key_count, keys_of, list_of}

pub key_count-view : (es : List (String Global × Value)) → key_count (members_view es) ≡ length es
key_count-view [] = refl
key_count-view (e ∷ es) = ap suc (key_count-view es)

pub list_of_view : (vs : List Value) → list_of (items_view vs) ≡ map view vs
list_of_view [] = refl
list_of_view (v ∷ vs) = ap (λ ds. view v ∷ ds) (list_of_view vs)

pub all_list_of : (p : Data → Bool) (vs : List Value) → list_all p (list_of (items_view vs)) ≡ list_all (λ v. p (view v)) vs
all_list_of p [] = refl
all_list_of p (v ∷ vs) = ap (λ b. p (view v) && b) (all_list_of p vs)

pub all_map : (p : Data → Bool) (vs : List Value) → list_all p (map view vs) ≡ list_all (λ v. p (view v)) vs
all_map p [] = refl
all_map p (v ∷ vs) = ap (λ b. p (view v) && b) (all_map p vs)

-- the value of this turn, and those behind it
pub next : (vs : List Value) (i : ℕ) (v : Value) → i < length vs → v ≡ get_or vs i v → map view (drop i vs) ≡ view v ∷ map view (drop (i + 1) vs)
next vs i v h e = ap (map view) (drop_more vs i v h) ∙ ap (λ x. view x ∷ map view (drop (i + 1) vs)) (sym e)

pub all_keys : (p : List ℕ → Bool) (es : List (String Global × Value)) → list_all p (keys_of (members_view es)) ≡ list_all (λ k. p (string_bytes k))
    (map (λ e. e.0) es)
all_keys p [] = refl
all_keys p (e ∷ es) = ap (λ b. p (string_bytes e.0) && b) (all_keys p es)
