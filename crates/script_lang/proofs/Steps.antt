-- Steps of a reading: what holds of what a step gives holds behind it.
use Rattle.std.proofs.Common.{◌≡◌, ℕ, Bool, true, false, cond, List, [], ◌∷◌, sym, subst, Option, Some, None, option_map, refl}
use Rattle.std.specs.Prelude.{IfSome}
use Rattle.std.specs.List.{AllByRecursion}
use Rattle.std.specs.Str.{bytes_eq}
use Rattle.std.proofs.lemmas.Bool.{cond_both}
use Rattle.std.proofs.lemmas.Slice.Eq.{bytes_eq-Decides}
use Rattle.enq_base.specs.Cut.{cut}
use Rattle.enq_base.specs.Number.{◌>>=◌}
use Rattle.enq_base.proofs.lemmas.Cuts.{IsCut, cut_takes}
use Rattle.script_lang.specs.Reading.{passing}
use Rattle.script_lang.specs.Words.{named}

pub bind_if : {A B : Type 0} {Q : A → Type 0} (f : A → Option B) (P : B → Type 0) (o : Option A) → IfSome o Q → ((x : A) → Q x → IfSome (f x) P)
    → IfSome (o >>= f) P
bind_if f P None q h = tt
bind_if f P (Some x) q h = h x q

pub map_if : {A B : Type 0} {Q : A → Type 0} (f : A → B) (P : B → Type 0) (o : Option A) → IfSome o Q → ((x : A) → Q x → P (f x)) → IfSome (option_map f o) P
map_if f P None q h = tt
map_if f P (Some x) q h = h x q

pub weaker_if : {A : Type 0} (Q P : A → Type 0) (o : Option A) → IfSome o Q → ((x : A) → Q x → P x) → IfSome o P
weaker_if Q P None q h = tt
weaker_if Q P (Some x) q h = h x q

pub test_then : {B : Type 0} (b : Bool) (x : Option B) (P : B → Type 0) → (b ≡ true → IfSome x P) → IfSome (cond b x None) P
test_then true x P h = h refl
test_then false x P h = tt

pub cut_if : (c : ℕ) (bs : List ℕ) → IfSome (cut c bs) (IsCut c bs)
cut_if c bs = elim (cut c bs) as (λ o. ((x : List ℕ × List ℕ) → o ≡ Some x → IsCut c bs x) → IfSome o (IsCut c bs)) [ None ↦ λ h. tt | Some x ↦ λ h. h x refl ]
    (λ x e. cut_takes c bs x e)

pub cut_then : {B : Type 0} (c : ℕ) (bs : List ℕ) (f : List ℕ × List ℕ → Option B) (P : B → Type 0) → ((x : List ℕ × List ℕ) → IsCut c bs x → IfSome (f x) P)
    → IfSome (cut c bs >>= f) P
cut_then c bs f P h = bind_if f P (cut c bs) (cut_if c bs) h

-- a choice by whether something stands behind the first part
pub by_cut : {B : Type 0} (text : List ℕ) (P : B → Type 0) (whole : Option B) (parts : List ℕ × List ℕ → Option B) → IfSome whole P
    → ((x : List ℕ × List ℕ) → IsCut 32 text x → IfSome (parts x) P) → IfSome (elim (cut 32 text) [ None ↦ whole | Some x ↦ parts x ]) P
by_cut text P whole parts p q =
    elim (cut 32 text) as (λ o. IfSome o (IsCut 32 text) → IfSome (elim o [ None ↦ whole | Some x ↦ parts x ]) P) [ None ↦ λ _. p | Some x ↦ λ h. q x h ]
    (cut_if 32 text)

pub pass_then : {B : Type 0} (test : List ℕ → Bool) (t : List ℕ) (f : List ℕ → Option B) (P : B → Type 0) → (test t ≡ true → IfSome (f t) P)
    → IfSome (passing test t >>= f) P
pass_then test t f P h = cond_both (test t) (Some t) None (λ o. IfSome (o >>= f) P) h (λ e. tt)

pub named_if : {A : Type 0} (P : List ℕ → A → Type 0) (ns : List (List ℕ × A)) (t : List ℕ) → AllByRecursion (λ n. P n.0 n.1) ns → IfSome (named ns t) (P t)
named_if P [] t h = tt
named_if P (n ∷ ns) t h =
    cond_both (bytes_eq t n.0) (Some n.1) (named ns t) (λ o. IfSome o (P t)) (λ e. subst (λ x. P x n.1) (sym ((bytes_eq-Decides t n.0).0 e)) h.0)
    (λ e. named_if P ns t h.1)
