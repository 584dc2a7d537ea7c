-- Calls that are made one after another, each as the model answers it where all goes well.
use Rattle.std.proofs.Common.{◌≡◌, ◌≢◌, ℕ, false, List, [], ◌∷◌, ◌++◌, refl, sym, ◌∙◌, subst, arith}
use Rattle.std.specs.List.{AllByRecursion}
use Rattle.enq_base.specs.declared.condition.Condition.{Condition}
use Rattle.enq_base.specs.declared.condition.Condition.TheVariants as condition
use Rattle.hall_model.specs.Calls.{call_of}
use Rattle.hall_model.specs.Devices.{MayBeDone, all_well}
use Rattle.hall_model.specs.History.{Served, after_of, entry_of, step}
use Rattle.hall_model.specs.Recall.{AreModelAnswers, IsModelAnswer, Made, recalled, state_after}
use Rattle.hall_model.specs.State.{State}
use Rattle.hall_model.specs.Step.{Verdict}
use Rattle.hall_model.specs.Stocks.{IsStockIn, MayCall}
use Rattle.hall_model.specs.declared.command.Command.{Command}
use Rattle.hall_model.specs.declared.command.Reply.{Reply}
use Rattle.cover_laws.specs.Safe.{StaysSure}
use Rattle.cover_example.proofs.Lists.{never_empty, same_head, same_tail}

-- a call with its line and its answer
pub record Asked : Type 0 where
  pub line : ℕ
  pub command : Command
  pub reply : Reply

abbrev pub answer : State → Asked → Served
answer s x = step all_well s x.line x.command

abbrev pub made_at : State → Asked → Made
made_at s x = record { call = entry_of x.line x.command x.reply (after_of false (answer s x).state); outcome = all_well }

abbrev pub chain : State → List Asked → List Made
chain s [] = []
chain s (x ∷ xs) = made_at s x ∷ chain (recalled s (made_at s x)) xs

-- each is answered so
abbrev pub AreRight : State → List Asked → Type 0
AreRight s [] = Unit {0}
AreRight s (x ∷ xs) = ((answer s x).reply ≡ x.reply) × AreRight (recalled s (made_at s x)) xs

-- a call that may be made in any state, and may be done
pub record MayAlways (x : Asked) : Type 0 where
  pub call : (s : State) → MayCall s (call_of x.command)
  pub done : (v : Verdict) → MayBeDone (call_of x.command) v

-- a commit without numbers of a stock is one
pub no_stock : (s : State) → IsStockIn s []
no_stock s = record { reserved = tt; once = λ i stands number. omega arith; fresh = λ i stands number more. absurd (omega (arith, more)) }

made_right : (s : State) (x : Asked) → MayAlways x → (answer s x).reply ≡ x.reply → IsModelAnswer s (made_at s x)
made_right s x may right = record {
  who = refl;
  reply = right;
  after = refl;
  allowed = record { call = may.call s; possible = record { reading = tt; event = may.done _; lost = tt } };
}

pub chain_right : (s : State) (xs : List Asked) → AllByRecursion MayAlways xs → AreRight s xs → AreModelAnswers s (chain s xs)
chain_right s [] may right earlier later m e = absurd (never_empty earlier later m e)
chain_right s (x ∷ xs) may right [] later m e =
    subst (IsModelAnswer s) (same_head (made_at s x) m (chain (recalled s (made_at s x)) xs) later e) (made_right s x may.0 right.0)
chain_right s (x ∷ xs) may right (y ∷ ys) later m e =
    let made : Made = made_at s x in
    let rest : List Made = chain (recalled s made) xs in
    subst (λ z. IsModelAnswer (state_after (recalled s z) ys) m) (same_head made y rest (ys ++ m ∷ later) e)
    (chain_right (recalled s made) xs may.1 right.1 ys later m (same_tail made y rest (ys ++ m ∷ later) e))

-- ---- a server that is up all the time

abbrev pub StaysUp : State → List Made → Type 0
StaysUp s [] = s.condition ≡ condition.Up
StaysUp s (m ∷ ms) = (s.condition ≡ condition.Up) × StaysUp (recalled s m) ms

up_now : (s : State) (ms : List Made) → StaysUp s ms → s.condition ≡ condition.Up
up_now s [] h = h
up_now s (m ∷ ms) h = h.0

up_at : (s : State) (earlier later : List Made) → StaysUp s (earlier ++ later) → (state_after s earlier).condition ≡ condition.Up
up_at s [] later h = up_now s later h
up_at s (m ∷ ms) later h = up_at (recalled s m) ms later h.1

no_doubt : (k : Condition) (n : ℕ) → k ≡ condition.Up → k ≢ condition.Doubt n
no_doubt k n up doubt = let wrong : condition.Up ≡ condition.Doubt n = sym up ∙ doubt in cc

pub stays_sure : (s : State) (made : List Made) → StaysUp s made → StaysSure s made
stays_sure s made h earlier later k e = no_doubt _ k (up_at s earlier later (subst (StaysUp s) e h))
