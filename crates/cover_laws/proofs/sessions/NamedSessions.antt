-- The session of a name, behind what calls do to the sessions.
use Rattle.std.proofs.Common.{◌≡◌, ℕ, ◌<◌, true, false, not, cond, ◌||◌, ◌&&◌, List, [], ◌∷◌, ◌++◌, map, inl, inr, refl, sym, ap, ◌∙◌, subst, arith}
use Rattle.std.specs.Prelude.{if◌then◌else◌, nat_eq, Option, Some, None, is_some}
use Rattle.std.specs.Cmp.Lexicographic.{bytes_decides}
use Rattle.std.specs.Option.{option_map}
use Rattle.std.specs.Str.{bytes_eq}
use Rattle.std.proofs.lemmas.Bool.{and_left, and_right, cases_Bool}
use Rattle.std.proofs.lemmas.Bool.Decides.{nat_tests}
use Rattle.enq_base.specs.Owners.{same_owner}
use Rattle.enq_base.specs.declared.owner.Owner.TheVariants.{Upd}
use Rattle.hall_model.specs.declared.command.Session.{Session}
use Rattle.hall_model.specs.Kept.{AreNumbered}
use Rattle.hall_model.specs.Sessions.{bereft, bereft_if, is_called, loses, session_at, unit_key, with_session, without_session}
use Rattle.model_laws.proofs.FoundSessions.{equal_session, found_in, found_name}

-- the session has the name by which it is found
pub name_of : (name : List ℕ) (xs : List Session) (x : Session) → session_at xs name ≡ Some x → x.name ≡ name
name_of name xs x at = (bytes_decides x.name name).0 (found_name name xs x at)

-- one of another name isn't called so
apart_from : (own name other : List ℕ) → bytes_eq own name ≡ true → bytes_eq name other ≡ false → bytes_eq own other ≡ false
apart_from own name other same apart = ap (λ n. bytes_eq n other) ((bytes_decides own name).0 same) ∙ apart

-- a change of a session that leaves its name
abbrev pub KeepsNames : (Session → Session) → Type 0
KeepsNames change = (name : List ℕ) (x : Session) → is_called name (change x) ≡ is_called name x

pub bereft_named : (caller : Option (List ℕ)) → KeepsNames (bereft_if caller)
bereft_named caller name x =
    elim (loses caller x) as (λ b. is_called name (if b then bereft x else x) ≡ is_called name x) [ true ↦ refl | false ↦ refl ]

-- ---- one of the sessions is changed

pub found_beside : (change : Session → Session) → KeepsNames change → (own name : List ℕ) → bytes_eq own name ≡ false → (xs : List Session)
    → session_at (with_session own change xs) name ≡ session_at xs name
found_beside change keeps own name apart [] = refl
found_beside change keeps own name apart (x ∷ xs) =
    elim (is_called own x) as (λ b. is_called own x ≡ b
    → session_at (cond b (change x ∷ xs) (x ∷ with_session own change xs)) name ≡ session_at (x ∷ xs) name) [
      | true ↦ λ t.
          let away : is_called name x ≡ false = apart_from x.name own name t apart in
          ap (λ b. cond b (Some (change x)) (session_at xs name)) (keeps name x ∙ away)
          ∙ sym (ap (λ b. cond b (Some x) (session_at xs name)) away)
      | false ↦ λ t. ap (λ o. cond (is_called name x) (Some x) o) (found_beside change keeps own name apart xs)
    ] refl

pub found_changed : (change : Session → Session) → KeepsNames change → (name : List ℕ) (xs : List Session)
    → session_at (with_session name change xs) name ≡ option_map change (session_at xs name)
found_changed change keeps name [] = refl
found_changed change keeps name (x ∷ xs) =
    elim (is_called name x) as (λ b. is_called name x ≡ b
    → session_at (cond b (change x ∷ xs) (x ∷ with_session name change xs)) name ≡ option_map change (cond b (Some x) (session_at xs name))) [
      | true ↦ λ t. ap (λ b. cond b (Some (change x)) (session_at xs name)) (keeps name x ∙ t)
      | false ↦ λ t. ap (λ b. cond b (Some x) (session_at (with_session name change xs) name)) t ∙ found_changed change keeps name xs
    ] refl

-- the session that is found by the name
pub with_found : (change : Session → Session) → KeepsNames change → (name : List ℕ) (xs : List Session) (x : Session) → session_at xs name ≡ Some x
    → session_at (with_session x.name change xs) name ≡ Some (change x)
with_found change keeps name xs x at =
    ap (λ k. session_at (with_session k change xs) name) (name_of name xs x at) ∙ found_changed change keeps name xs ∙ ap (option_map change) at

-- each of them is
pub found_mapped : (change : Session → Session) → KeepsNames change → (name : List ℕ) (xs : List Session)
    → session_at (map change xs) name ≡ option_map change (session_at xs name)
found_mapped change keeps name [] = refl
found_mapped change keeps name (x ∷ xs) =
    let later = session_at (map change xs) name in
    elim (is_called name x) as (λ b. is_called name x ≡ b
    → cond (is_called name (change x)) (Some (change x)) later ≡ option_map change (cond b (Some x) (session_at xs name))) [
      | true ↦ λ t. ap (λ b. cond b (Some (change x)) later) (keeps name x ∙ t)
      | false ↦ λ t. ap (λ b. cond b (Some (change x)) later) (keeps name x ∙ t) ∙ found_mapped change keeps name xs
    ] refl

-- ---- a session comes or goes

pub left_own : (n : List ℕ) (xs : List Session) → session_at (without_session n xs) n ≡ None
left_own n [] = refl
left_own n (x ∷ xs) =
    let rest = without_session n xs in
    elim (is_called n x) as (λ b. is_called n x ≡ b → session_at (cond (not b) (x ∷ rest) rest) n ≡ None) [
      | true ↦ λ e. left_own n xs
      | false ↦ λ e. ap (λ b. cond b (Some x) (session_at rest n)) e ∙ left_own n xs
    ] refl

pub found_left : (own name : List ℕ) → bytes_eq own name ≡ false → (xs : List Session)
    → session_at (without_session own xs) name ≡ session_at xs name
found_left own name apart [] = refl
found_left own name apart (x ∷ xs) =
    elim (is_called own x) as (λ b. is_called own x ≡ b
    → session_at (cond (not b) (x ∷ without_session own xs) (without_session own xs)) name ≡ session_at (x ∷ xs) name) [
      | true ↦ λ t.
          found_left own name apart xs ∙ sym (ap (λ b. cond b (Some x) (session_at xs name)) (apart_from x.name own name t apart))
      | false ↦ λ t. ap (λ o. cond (is_called name x) (Some x) o) (found_left own name apart xs)
    ] refl

pub found_entered : (name : List ℕ) (y : Session) → is_called name y ≡ false → (xs : List Session)
    → session_at (xs ++ y ∷ []) name ≡ session_at xs name
found_entered name y apart [] = ap (λ b. cond b (Some y) None) apart
found_entered name y apart (x ∷ xs) = ap (λ o. cond (is_called name x) (Some x) o) (found_entered name y apart xs)

pub on_last : (n : List ℕ) (xs : List Session) (y : Session)
    → is_some (session_at (xs ++ y ∷ []) n) ≡ (is_some (session_at xs n) || is_called n y)
on_last n [] y = elim (is_called n y) as (λ b. is_some (cond b (Some y) None) ≡ (false || b)) [ true ↦ refl | false ↦ refl ]
on_last n (x ∷ xs) y =
    elim (is_called n x) as (λ b. is_some (cond b (Some x) (session_at (xs ++ y ∷ []) n)) ≡ (is_some (cond b (Some x) (session_at xs n)) || is_called n y)) [
      | true ↦ refl
      | false ↦ on_last n xs y
    ]

-- ---- sessions of two names have two numbers, and so two owners

below : (m n : ℕ) → m < n → nat_eq m n ≡ false
below m n h = grind (arith, nat_tests)

above : (m n : ℕ) → n < m → nat_eq m n ≡ false
above m n h = grind (arith, nat_tests)

numbers_differ : (n : ℕ) (one other : List ℕ) (x y : Session) (zs : List Session) → bytes_eq one other ≡ false
    → session_at zs one ≡ Some x → session_at zs other ≡ Some y → AreNumbered n zs → nat_eq x.number y.number ≡ false
numbers_differ n one other x y [] apart here there numbered = absurd (cc)
numbers_differ n one other x y (z ∷ zs) apart here there numbered =
    elim (cases_Bool (is_called one z)) [
      | inl t ↦
          let away : is_called other z ≡ false = apart_from z.name one other t apart in
          let same : z ≡ x = equal_session z x (sym (ap (λ b. cond b (Some z) (session_at zs one)) t) ∙ here) in
          let later : session_at zs other ≡ Some y = sym (ap (λ b. cond b (Some z) (session_at zs other)) away) ∙ there in
          let less : z.number < y.number = found_in (λ (w : Session). z.number < w.number) (is_called other) zs y later numbered.1 in
          below x.number y.number (subst (λ (w : Session). w.number < y.number) same less)
      | inr t ↦
          let rest : session_at zs one ≡ Some x = sym (ap (λ b. cond b (Some z) (session_at zs one)) t) ∙ here in
          elim (cases_Bool (is_called other z)) [
            | inl u ↦
                let same : z ≡ y = equal_session z y (sym (ap (λ b. cond b (Some z) (session_at zs other)) u) ∙ there) in
                let less : z.number < x.number = found_in (λ (w : Session). z.number < w.number) (is_called one) zs x rest numbered.1 in
                above x.number y.number (subst (λ (w : Session). w.number < x.number) same less)
            | inr u ↦
                let later : session_at zs other ≡ Some y = sym (ap (λ b. cond b (Some z) (session_at zs other)) u) ∙ there in
                numbers_differ n one other x y zs apart rest later numbered.2
          ]
    ]

-- the open unit of the one is another than that of the other
pub updates_differ : (start n : ℕ) (one other : List ℕ) (x y : Session) (zs : List Session) → bytes_eq one other ≡ false
    → session_at zs one ≡ Some x → session_at zs other ≡ Some y → AreNumbered n zs
    → same_owner (Upd (unit_key start x)) (Upd (unit_key start y)) ≡ false
updates_differ start n one other x y zs apart here there numbered =
    and_left (nat_eq start start && nat_eq x.number y.number) (nat_eq x.luw y.luw)
    (and_right (nat_eq start start) (nat_eq x.number y.number) (numbers_differ n one other x y zs apart here there numbered))
