-- Values in a row.
use Rattle.std.proofs.Common.{◌≡◌, ℕ, true, false, cond, List, [], ◌∷◌, ◌++◌, refl, sym, ap, ◌∙◌, Option, Some, None, Err, append_assoc, option_map, nat_eq}
use Rattle.std.specs.List.{slice_split, onto_first}
use Rattle.script_lang.specs.declared.script_line.RawValue.{RawValue}
use Rattle.script_lang.specs.declared.read_fault.ReadFault.{ReadFault}
use Rattle.script_lang.specs.declared.read_fault.ReadFault.TheVariants as fault
use Rattle.enq_base.specs.Cut.{cut, onto}
use Rattle.enq_base.specs.Number.{◌>>=◌}
use Rattle.script_lang.specs.Reading.{Gives, value_of, values_of, values_in}

-- the parts between separators, where the first one is cut so
abbrev pub parts_after : ℕ → List ℕ → Option (List ℕ × List ℕ) → List (List ℕ)
parts_after c bs None = bs ∷ []
parts_after c bs (Some x) = x.0 ∷ slice_split (λ b. nat_eq b c) x.1

pub split-cut : (c : ℕ) (bs : List ℕ) → slice_split (λ b. nat_eq b c) bs ≡ parts_after c bs (cut c bs)
unfolding cut
split-cut c [] = refl
split-cut c (b ∷ bs) =
    elim (nat_eq b c)
    as (λ v. cond v ([] ∷ slice_split (λ b. nat_eq b c) bs) (onto_first b (slice_split (λ b. nat_eq b c) bs)) ≡ parts_after c (b ∷ bs)
    (cond v (Some ([], bs)) (option_map (onto b) (cut c bs)))) [
      | true ↦ refl
      | false ↦ ap (onto_first b) (split-cut c bs)
          ∙ (elim (cut c bs) as (λ o. onto_first b (parts_after c bs o) ≡ parts_after c (b ∷ bs) (option_map (onto b) o)) [ None ↦ refl | Some x ↦ refl ])
    ]

-- more values in front
abbrev pub behind : List RawValue → Option (List RawValue) → Option (List RawValue)
behind front o = option_map (λ (vs : List RawValue). front ++ vs) o

abbrev one_more : RawValue → List RawValue → Option (List RawValue)
one_more v vs = Some (v ∷ vs)

pub values_in-more : (text : List ℕ) (part rest : List ℕ) → cut 32 text ≡ Some (part, rest)
    → values_in text ≡ (value_of part >>= λ v. values_in rest >>= one_more v)
unfolding values_in values_of
values_in-more text part rest h = ap values_of (split-cut 32 text ∙ ap (parts_after 32 text) h)

pub values_in-last : (text : List ℕ) → cut 32 text ≡ None → values_in text ≡ (value_of text >>= λ v. Some (v ∷ []))
unfolding values_in values_of
values_in-last text h = ap values_of (split-cut 32 text ∙ ap (parts_after 32 text) h)

-- after one more value
pub values-step : (front : List RawValue) (v : RawValue) (text rest part after : List ℕ) → Some (part, after) ≡ cut 32 rest → value_of part ≡ Some v
    → behind front (values_in rest) ≡ values_in text → behind (front ++ v ∷ []) (values_in after) ≡ values_in text
values-step front v text rest part after h e i =
    (elim (values_in after) as (λ o. behind (front ++ v ∷ []) o ≡ behind front (o >>= one_more v))
    [ None ↦ refl | Some vs ↦ ap Some (append_assoc front (v ∷ []) vs) ])
    ∙ sym (ap (λ o. behind front (o >>= λ v. values_in after >>= one_more v)) e)
    ∙ sym (ap (behind front) (values_in-more rest part after (sym h))) ∙ i

-- where a value can't be read, none are
pub values-stop : (front : List RawValue) (e : ReadFault) (text rest part after : List ℕ) → Some (part, after) ≡ cut 32 rest
    → Gives (λ (v : RawValue). v) (Err e) (value_of part) → behind front (values_in rest) ≡ values_in text
    → Gives (λ (vs : List RawValue). vs) (Err e) (values_in text)
values-stop front fault.NoMemory text rest part after h e i = tt
values-stop front fault.BadLine text rest part after h e i =
    sym i ∙ ap (behind front) (values_in-more rest part after (sym h)) ∙ ap (λ o. behind front (o >>= λ v. values_in after >>= one_more v)) e

-- the last value
pub values-end : (front : List RawValue) (v : RawValue) (text rest : List ℕ) → None ≡ cut 32 rest → value_of rest ≡ Some v
    → behind front (values_in rest) ≡ values_in text → values_in text ≡ Some (front ++ v ∷ [])
values-end front v text rest h e i = sym i ∙ ap (behind front) (values_in-last rest (sym h)) ∙ ap (λ o. behind front (o >>= λ v. Some (v ∷ []))) e

pub values-stop_last : (front : List RawValue) (e : ReadFault) (text rest : List ℕ) → None ≡ cut 32 rest → Gives (λ (v : RawValue). v) (Err e) (value_of rest)
    → behind front (values_in rest) ≡ values_in text → Gives (λ (vs : List RawValue). vs) (Err e) (values_in text)
values-stop_last front fault.NoMemory text rest h e i = tt
values-stop_last front fault.BadLine text rest h e i =
    sym i ∙ ap (behind front) (values_in-last rest (sym h)) ∙ ap (λ o. behind front (o >>= λ v. Some (v ∷ []))) e
