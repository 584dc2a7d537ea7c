-- Actors that are hired one behind another, and the callers of a run.
use Rattle.std.proofs.Common.{◌≡◌, ℕ, zero, suc, ◌+◌, ◌<◌, ◌≤◌, List, [], ◌∷◌, ◌++◌, length, map, refl, sym, ap, ◌∙◌, subst, arith, append_assoc, Bool, true, false}
use Rattle.std.specs.Prelude.{◌||◌, slice_index_or}
use Rattle.std.specs.List.{AllByRecursion, list_any}
use Rattle.hall_model.specs.declared.command.PastEntry.{PastEntry}
use Rattle.hall_model.specs.declared.command.Who.{Who}
use Rattle.hall_model.specs.declared.command.Who.TheVariants as caller
use Rattle.script_actors.specs.declared.line.NumberedLine.{NumberedLine}
use Rattle.actor_threads.specs.Working.{IsFresh}
use Rattle.actor_threads.specs.declared.actor.Actor.{Actor}
use Rattle.caller_laws.specs.Callers.{actors_of, threads_of, workers_to}
use Rattle.number_ranges.specs.declared.interval.Interval.{Interval}
use Rattle.turn_desks.specs.Stocks.{StockFact}
use Rattle.turn_desks.specs.declared.names.LockName.{Ghosts as Names}
use Rattle.turn_desks.specs.declared.serving.Serving.{Ghosts as Stocks}
use Rattle.turn_lock.specs.declared.history.History.{Ghosts}
use Rattle.thread_runner.specs.Writing.{is_worker}
use Rattle.whole_script.specs.Lines.{names_in}
use Rattle.thread_runner.specs.Acting.{AreSmall, HasWorker, IsSmall}
use Rattle.thread_runner.specs.Hiring.{AreHired, IsHired}

module _ {N S R G : Type 0} {n : Names N} {s : Stocks S} {g : Ghosts S PastEntry} (stocks : List StockFact) (intervals : List Interval)
    (lines : List NumberedLine) where
  -- an actor of one caller more
  pub hired_last : (ws : List Who) (actors : List (Actor N S R G n s g)) (w : Who) (a : Actor N S R G n s g) → AreHired stocks intervals lines ws actors
      → IsHired stocks intervals lines w a → AreHired stocks intervals lines (ws ++ w ∷ []) (actors ++ a ∷ [])
  hired_last [] actors w a h k = subst (λ l. AreHired stocks intervals lines (w ∷ []) (l ++ a ∷ [])) (sym h) (k, refl)
  hired_last (x ∷ ws) [] w a h k = absurd h
  hired_last (x ∷ ws) (y ∷ actors) w a h k = (h.0, hired_last ws actors w a h.1 k)

  pub hired_length : (ws : List Who) (actors : List (Actor N S R G n s g)) → AreHired stocks intervals lines ws actors → length actors ≡ length ws
  hired_length [] actors h = ap length h
  hired_length (w ∷ ws) [] h = absurd h
  hired_length (w ∷ ws) (a ∷ actors) h = ap suc (hired_length ws actors h.1)

  -- none of them did anything
  pub hired_fresh : (ws : List Who) (actors : List (Actor N S R G n s g)) → AreHired stocks intervals lines ws actors
      → (i : ℕ) (d : Actor N S R G n s g) → i < length actors → IsFresh stocks intervals lines (slice_index_or actors i d)
  hired_fresh [] actors h i d lt = let none : length actors ≡ 0 = ap length h in absurd (omega (arith, lt, none))
  hired_fresh (w ∷ ws) [] h i d lt = absurd h
  hired_fresh (w ∷ ws) (a ∷ actors) h zero d lt = h.0.fresh
  hired_fresh (w ∷ ws) (a ∷ actors) h (suc i) d lt = hired_fresh ws actors h.1 i d (omega (arith, lt))

pub whos_length : {X Y : Type 0} (f : X → Y) (xs : List X) → length (map f xs) ≡ length xs
whos_length f [] = refl
whos_length f (x ∷ xs) = ap suc (whos_length f xs)

-- ---- the callers of a run

sessions_small : (names : List (List ℕ)) (rest : List Who) → AreSmall rest → AreSmall (map (λ (name : List ℕ). caller.Session name) names ++ rest)
sessions_small [] rest h = h
sessions_small (name ∷ names) rest h = (tt, sessions_small names rest h)

all_append : (P : Who → Type 0) (xs ys : List Who) → AllByRecursion P xs → AllByRecursion P ys → AllByRecursion P (xs ++ ys)
all_append P [] ys a b = b
all_append P (x ∷ xs) ys a b = (a.0, all_append P xs ys a.1 b)

workers_small : (n : ℕ) → n < 256 → AreSmall (workers_to n)
workers_small zero few = tt
workers_small (suc n) few = all_append IsSmall (workers_to n) (caller.Worker (suc n) ∷ []) (workers_small n (omega (arith, few))) (few, tt)

pub callers_small : (lines : List NumberedLine) (n : ℕ) → n < 256 → AreSmall (threads_of lines n)
callers_small lines n few =
    all_append IsSmall (actors_of lines) (workers_to n) (sessions_small (names_in lines) (caller.Admin ∷ []) (tt, tt)) (workers_small n few)

pub callers_are : (callers : List Who) (names : List (List ℕ)) (lines : List NumberedLine) (n : ℕ)
    → callers ≡ map (λ (name : List ℕ). caller.Session name) names ++ caller.Admin ∷ workers_to n → names ≡ names_in lines → callers ≡ threads_of lines n
callers_are callers names lines n is named =
    is ∙ ap (λ ws. map (λ (name : List ℕ). caller.Session name) ws ++ caller.Admin ∷ workers_to n) named
    ∙ sym (append_assoc (map (λ (name : List ℕ). caller.Session name) (names_in lines)) (caller.Admin ∷ []) (workers_to n))

or_with : (a b : Bool) → b ≡ true → (a || b) ≡ true
or_with true b h = refl
or_with false b h = h

any_behind : (xs ys : List Who) → list_any is_worker ys ≡ true → list_any is_worker (xs ++ ys) ≡ true
any_behind [] ys h = h
any_behind (x ∷ xs) ys h = or_with (is_worker x) (list_any is_worker (xs ++ ys)) (any_behind xs ys h)

pub some_worker : (lines : List NumberedLine) (n : ℕ) → 1 ≤ n → HasWorker (threads_of lines n)
some_worker lines zero some = absurd (omega (arith, some))
some_worker lines (suc n) some = any_behind (actors_of lines) (workers_to (suc n)) (any_behind (workers_to n) (caller.Worker (suc n) ∷ []) refl)
