-- How a commit is answered.
use Rattle.std.proofs.Common.{◌≡◌, ℕ, true, List, ◌++◌, length, refl, sym, subst}
use Rattle.std.specs.Prelude.{◌&&◌, ◌||◌, Option, Some, None, nat_eq, nat_le, nat_lt}
use Rattle.enq_base.specs.declared.unit.Num.{Num}
use Rattle.enq_base.specs.declared.unit.Parts.{Parts}
use Rattle.model_laws.proofs.ByCall.{by_event}
use Rattle.model_laws.proofs.NotedCalls.{by_noting}
use Rattle.hall_model.specs.Calls.{Commits, OfSession}
use Rattle.hall_model.specs.History.{IsStep, Served, judged, served, takes_flight}
use Rattle.hall_model.specs.Sessions.{session_at}
use Rattle.hall_model.specs.State.{State}
use Rattle.hall_model.specs.Step.{Found, Verdict, call_verdict, called, commit, effects_in, own_verdict, passing, unavailable, unless_refused}
use Rattle.hall_model.specs.declared.command.Command.TheVariants as command
use Rattle.hall_model.specs.declared.command.Reply.{Reply}
use Rattle.hall_model.specs.declared.command.Session.{Session}
use Rattle.stock_laws.proofs.Reserving.{one_of}
use Rattle.stock_laws.specs.Stocked.{answers_commit}

abbrev Answers : Served → Type 0
Answers r = answers_commit r.reply ≡ true

module _ (s : State) (parts : Parts) (stock : List Num) where
  abbrev Passed : Verdict → Type 0
  Passed v = Answers (judged s (passing stock v))

  of_commit : (x : Session) → Answers (judged s (commit s x parts stock))
  of_commit x =
      let numbers = x.draws ++ stock in
      one_of Passed (nat_lt 64 (length numbers) || nat_lt 200 (effects_in parts)) _ _ (λ e. refl)
      (λ e. one_of Passed (nat_eq (effects_in parts) 0 && nat_eq (length numbers) 0) _ _ (λ e. refl)
      (λ e. one_of Passed (nat_le s.mark_limit (length s.stored.marks)) _ _ (λ e. refl)
      (λ e. one_of Passed (nat_eq (effects_in parts) 0) _ _ (λ e. refl) (λ e. refl))))

  of_session : (found : Found) (o : Option Session) → Answers (judged s (called found s (Commits parts stock) o))
  of_session found None = refl
  of_session found (Some x) = of_commit x

  of_verdict : (found : Found) (name : List ℕ) → Answers (judged s (call_verdict found s (OfSession name (Commits parts stock))))
  unfolding call_verdict
  of_verdict found name =
      let call = OfSession name (Commits parts stock) in
      elim (unavailable s call) as (λ o. Answers (judged s (unless_refused o (own_verdict found s call)))) [
        | None ↦ of_session found (session_at s.sessions name)
        | Some r ↦ refl
      ]

pub commit_answers : (s t : State) (line : ℕ) (session : List ℕ) (parts : Parts) (stock : List Num) (r : Reply)
    → IsStep s t line (command.Commit session parts stock) r → answers_commit r ≡ true
commit_answers s t line session parts stock r made =
    let c = command.Commit session parts stock in
    let o = made.outcome in
    let k : Answers (served o s c) =
    by_event Answers o s c (λ lost x k. k) (λ found. of_verdict s parts stock found session) refl refl (λ reading. refl) (λ reading. refl) (λ read x. refl) in
    subst Answers (sym made.same) (by_noting Answers line c (takes_flight o) (served o s c) k k)
