-- Elements of lists of locks, what a grant comes to, and what a handover leaves.
use Rattle.std.proofs.Common.{◌≡◌, ◌⊎◌, ℕ, zero, suc, ◌+◌, ◌<◌, Bool, true, false, not, cond, ◌&&◌, List, [], ◌∷◌, length, map, get_or, refl, sym, ap, ◌∙◌, subst, arith, inl, inr}
use Rattle.std.specs.Prelude.{Option, Some, None, Result, Ok, Err, Contains}
use Rattle.std.specs.List.{list_all, list_any, filter}
use Rattle.std.proofs.lemmas.Bool.{and_parts}
use Rattle.enq_base.specs.Owners.{same_owner}
use Rattle.enq_base.specs.declared.owner.Owner.{Owner}
use Rattle.enq_base.specs.declared.owner.Owner.TheVariants.{Upd}
use Rattle.enq_base.specs.declared.owner.UnitKey.{UnitKey}
use Rattle.lock_entry.specs.declared.entry.Asked.{Asked}
use Rattle.lock_entry.specs.declared.entry.Asker.{Asker}
use Rattle.lock_entry.specs.declared.entry.Entry.{Entry}
use Rattle.lock_entry.specs.declared.entry.LockName.{LockName}
use Rattle.lock_entry.specs.declared.entry.Request.{Request}
use Rattle.lock_entry.specs.declared.fault.AskFault.{AskFault}
use Rattle.lock_entry.specs.Converting.{Conversion, conversion, converted, first_withstanding, is_lost, sum_exceeds}
use Rattle.lock_entry.specs.Freeing.{flagged, handed_over, without_optimistic}
use Rattle.lock_entry.specs.Granting.{asked, first_bar, granted, is_full, is_over, new_names, raised, unless_barred}
use Rattle.lock_entry.specs.Names.{halves, is_of, name_of, same_name, times}
use Rattle.lock_entry.specs.Table.{Table}
use Rattle.lock_entry.proofs.lemmas.Lists.{count_by-none}
use Rattle.lock_entry.proofs.lemmas.Naming.{same_owner-refl}
use Rattle.mode_rules.specs.declared.Mode.TheVariants.{O}
use Rattle.mode_rules.specs.Modes.{same_mode}

-- x is one of the elements
abbrev pub Among : {X : Type 0} → List X → X → Type 0
Among [] x = ⊥
Among (y ∷ ys) x = (y ≡ x) ⊎ Among ys x

among_at : {X : Type 0} (xs : List X) (x : X) (k : ℕ) → k < length xs → get_or xs k x ≡ x → Among xs x
among_at [] x k h e = absurd (omega arith)
among_at (y ∷ ys) x zero h e = inl e
among_at (y ∷ ys) x (suc k) h e = inr (among_at ys x k (omega arith) e)

pub among_from : {X : Type 0} (xs : List X) (x : X) → Contains xs x → Among xs x
among_from xs x h = among_at xs x h.0 h.1 h.2

pub contains_from : {X : Type 0} (xs : List X) (x : X) → Among xs x → Contains xs x
contains_from [] x h = absurd h
contains_from (y ∷ ys) x (inl e) = (0, omega arith, e)
contains_from (y ∷ ys) x (inr h) = let r = contains_from ys x h in let low = r.1 in (suc r.0, omega arith, r.2)

-- ---- elements that stay

pub kept_filter : {X : Type 0} (p : X → Bool) (xs : List X) (x : X) → p x ≡ true → Among xs x → Among (filter p xs) x
kept_filter p [] x h k = k
kept_filter p (y ∷ ys) x h (inl e) = subst (λ b. Among (cond b (y ∷ filter p ys) (filter p ys)) x) (sym (ap p e ∙ h)) (inl e)
kept_filter p (y ∷ ys) x h (inr k) =
    let rest = kept_filter p ys x h k in
    elim (p y) as (λ b. Among (cond b (y ∷ filter p ys) (filter p ys)) x) [ true ↦ inr rest | false ↦ rest ]

pub kept_map : {X Y : Type 0} (f : X → Y) (xs : List X) (x : X) → Among xs x → Among (map f xs) (f x)
kept_map f [] x k = k
kept_map f (y ∷ ys) x (inl e) = inl (ap f e)
kept_map f (y ∷ ys) x (inr k) = inr (kept_map f ys x k)

-- what a map makes comes from an element
pub map_source : {X Y : Type 0} (f : X → Y) (xs : List X) (y : Y) → Among (map f xs) y → (x : X) × Among xs x × (f x ≡ y)
map_source f [] y k = absurd k
map_source f (x ∷ xs) y (inl e) = (x, inl refl, e)
map_source f (x ∷ xs) y (inr k) = let r = map_source f xs y k in (r.0, inr r.1, r.2)

-- what a filter keeps stood there, and passes
pub filter_source : {X : Type 0} (p : X → Bool) (xs : List X) (x : X) → Among (filter p xs) x → Among xs x × (p x ≡ true)
filter_source p [] x k = absurd k
filter_source p (y ∷ ys) x k =
    elim (p y) as (λ b. p y ≡ b → Among (cond b (y ∷ filter p ys) (filter p ys)) x → Among (y ∷ ys) x × (p x ≡ true)) [
      | true ↦ λ t j.
          elim j as (λ _. Among (y ∷ ys) x × (p x ≡ true)) [
            | inl e ↦ (inl e, ap p (sym e) ∙ t)
            | inr i ↦ let r = filter_source p ys x i in (inr r.0, r.1)
          ]
      | false ↦ λ t j. let r = filter_source p ys x j in (inr r.0, r.1)
    ] refl k

pub all_among : {X : Type 0} (p : X → Bool) (xs : List X) (x : X) → list_all p xs ≡ true → Among xs x → p x ≡ true
all_among p [] x h k = absurd k
all_among p (y ∷ ys) x h (inl e) = ap p (sym e) ∙ (and_parts (p y) (list_all p ys) h).0
all_among p (y ∷ ys) x h (inr k) = all_among p ys x (and_parts (p y) (list_all p ys) h).1 k

-- ---- a lock that no name of a grant names

pub raised_same : (names : List LockName) (e : Entry) → list_any (same_name (name_of e)) names ≡ false → raised names e ≡ e
raised_same names e h =
    let none : times names (name_of e) ≡ 0 = count_by-none (same_name (name_of e)) names h in
    let same : e.count + times names (name_of e) ≡ e.count = omega arith in
    ap (λ (n : ℕ). record e { count = n }) same

-- ---- what a grant or a conversion comes to where it isn't refused

abbrev pub Allows : {X : Type 0} → (X → Type 0) → Result X AskFault → Type 0
Allows P (Ok x) = P x
Allows P (Err f) = Unit {0}

-- what holds of what a rule allows holds of what it gives
pub allowed : {X : Type 0} (Q : X → Type 0) (r : Result X AskFault) (x : X) → Allows Q r → r ≡ Ok x → Q x
allowed Q r x h e = subst (Allows Q) e h

barred_allows : {X : Type 0} (P : X → Type 0) (o : Option Entry) (r : Result X AskFault) → Allows P r → Allows P (unless_barred o r)
barred_allows P None r h = h
barred_allows P (Some e) r h = tt

cond_allows : {X : Type 0} (P : X → Type 0) (b : Bool) (f : AskFault) (r : Result X AskFault) → Allows P r → Allows P (cond b (Err f) r)
cond_allows P true f r h = tt
cond_allows P false f r h = h

pub asked_allows : (P : List Entry → Type 0) (t : Table) (asker : Asker) (user : List ℕ) (rs : List Request) → P (granted t.entries user (halves asker rs))
    → Allows P (asked t asker user rs)
unfolding asked
asked_allows P t asker user rs h =
    let names = halves asker rs in
    barred_allows P (first_bar t.entries asker (map (λ r. r.asked) rs)) _
    (cond_allows P (is_full t (length (new_names t.entries names))) _ _ (cond_allows P (is_over t.entries names) _ _ h))

pub converted_allows : (P : Conversion → Type 0) (es : List Entry) (asker : Asker) (asked : List Asked) → P (conversion es asker asked)
    → Allows P (converted es asker asked)
unfolding converted
converted_allows P es asker asked h =
    cond_allows P (is_lost es asker asked) _ _
    (barred_allows P (first_withstanding es asker asked) _ (cond_allows P (sum_exceeds es asker asked) _ _ h))

-- ---- locks that are handed over

abbrev stays_firm : Owner → Entry → Bool
stays_firm owner e = not (is_of owner e && same_mode e.mode O)

firm_stays : (b c : Bool) → c ≡ false → not (b && c) ≡ true
firm_stays true c h = ap not h
firm_stays false c h = refl

pub hands_over : (es : List Entry) (unit : UnitKey) (e : Entry) → is_of (Upd unit) e ≡ true → same_mode e.mode O ≡ false → Among es e
    → Among (handed_over es unit) (record e { handed = true })
hands_over es unit e own firm k =
    let owner = Upd unit in
    let turned_to : flagged owner e ≡ record e { handed = true } = ap (λ b. cond b (record e { handed = true }) e) own in
    subst (Among (handed_over es unit)) turned_to
    (kept_map (flagged owner) (without_optimistic es owner) e (kept_filter (stays_firm owner) es e (firm_stays (is_of owner e) _ firm) k))

flagged_owner : (owner : Owner) (e : Entry) → (flagged owner e).owner ≡ e.owner
flagged_owner owner e = elim (is_of owner e) as (λ b. (cond b (record e { handed = true }) e).owner ≡ e.owner) [ true ↦ refl | false ↦ refl ]

no_mode : (b c : Bool) → b ≡ true → not (b && c) ≡ true → c ≡ false
no_mode true true h k = cc
no_mode true false h k = refl
no_mode false c h k = cc

-- a lock of the unit that stands behind the handover, as it stood before
pub handed_source : (es : List Entry) (unit : UnitKey) (e : Entry) → e.owner ≡ Upd unit → Among (handed_over es unit) e → (x : Entry) × Among es x
    × (x.owner ≡ Upd unit) × (same_mode x.mode O ≡ false) × (e ≡ record x { handed = true })
handed_source es unit e own k =
    let owner = Upd unit in
    let made = map_source (flagged owner) (without_optimistic es owner) e k in
    let x : Entry = made.0 in
    let stood = filter_source (stays_firm owner) es x made.1 in
    let its : x.owner ≡ Upd unit = sym (flagged_owner owner x) ∙ ap (λ (z : Entry). z.owner) made.2 ∙ own in
    let is : is_of owner x ≡ true = ap (λ o. same_owner o owner) its ∙ same_owner-refl owner in
    (x, stood.0, its, no_mode (is_of owner x) (same_mode x.mode O) is stood.1, sym made.2 ∙ ap (λ b. cond b (record x { handed = true }) x) is)
