-- A session that is found by its name.
use Rattle.std.proofs.Common.{◌≡◌, ℕ, Bool, true, false, cond, List, [], ◌∷◌, refl, subst}
use Rattle.std.specs.Prelude.{Some}
use Rattle.std.specs.List.{AllByRecursion, find}
use Rattle.hall_model.specs.declared.command.Session.{Session}
use Rattle.hall_model.specs.Sessions.{is_called}

pub equal_session : (y x : Session) → Some y ≡ Some x → y ≡ x
equal_session y x e = cc

pub found_in : (Q : Session → Type 0) (p : Session → Bool) (xs : List Session) (x : Session) → find p xs ≡ Some x → AllByRecursion Q xs → Q x
found_in Q p [] x h all = cc
found_in Q p (y ∷ xs) x h all =
    elim (p y) as (λ b. cond b (Some y) (find p xs) ≡ Some x → Q x) [
      | true ↦ λ e. subst Q (equal_session y x e) all.0
      | false ↦ λ e. found_in Q p xs x e all.1
    ] h

-- the session that is found has the name that it is found by
pub found_name : (name : List ℕ) (xs : List Session) (x : Session) → find (is_called name) xs ≡ Some x → is_called name x ≡ true
found_name name [] x h = cc
found_name name (y ∷ xs) x h =
    elim (is_called name y) as (λ b. is_called name y ≡ b → cond b (Some y) (find (is_called name) xs) ≡ Some x → is_called name x ≡ true) [
      | true ↦ λ t e. subst (λ z. is_called name z ≡ true) (equal_session y x e) t
      | false ↦ λ t e. found_name name xs x e
    ] refl h
