-- How a call of a session is answered that isn't refused.
use Rattle.std.proofs.Common.{◌≡◌, inl, inr, ℕ, true, false, List, refl, sym, ◌∙◌, subst}
use Rattle.enq_base.specs.declared.unit.Num.{Num}
use Rattle.enq_base.specs.declared.unit.Parts.{Parts}
use Rattle.model_laws.proofs.ByCall.{OfEach, by_call}
use Rattle.model_laws.proofs.NotedCalls.{of_server}
use Rattle.hall_model.specs.Devices.{found_by}
use Rattle.hall_model.specs.Calls.{Call, LogsOn, OfSession, OfWorker, OfAdmin, LogsOff, Asks, Frees, FreesAll, Converts, Draws, Reserves, Reads, Commits, RollsBack, call_of}
use Rattle.hall_model.specs.History.{judged}
use Rattle.hall_model.specs.Sessions.{unit_key}
use Rattle.hall_model.specs.State.{State}
use Rattle.hall_model.specs.Step.{Found, Verdict, call_verdict, verdict}
use Rattle.hall_model.specs.declared.command.Command.{Command}
use Rattle.hall_model.specs.declared.command.Command.TheVariants as command
use Rattle.hall_model.specs.declared.command.Reply.{Reply}
use Rattle.hall_model.specs.declared.command.Reply.TheVariants as reply
use Rattle.std.specs.Prelude.{Option}
use Rattle.cover_laws.proofs.needed.HallNeeded.{FitsReply, RepliesFit}
use Rattle.cover_laws.specs.Histories.{is_refused}
use Rattle.cover_laws.proofs.calls.QuietCalls.{by_commit, by_quiet, by_session, by_whom, is_own, is_served, of_false}

-- the same of all calls of a session but a commit
abbrev FitsCall : Call → Reply → Type 0
FitsCall (LogsOn name user) r = r ≡ reply.Done
FitsCall (OfSession name LogsOff) r = r ≡ reply.Done
FitsCall (OfSession name (Asks rs)) r = r ≡ reply.Done
FitsCall (OfSession name (Frees rs)) r = r ≡ reply.Done
FitsCall (OfSession name FreesAll) r = r ≡ reply.Done
FitsCall (OfSession name (Converts wanted)) r = r ≡ reply.Done
FitsCall (OfSession name (Draws object nr)) r = is_refused r ≡ false
FitsCall (OfSession name (Reserves object nr upto)) r = is_refused r ≡ false
FitsCall (OfSession name (Reads table key)) r = (text : Option (List ℕ)) × (r ≡ reply.Row text)
FitsCall (OfSession name (Commits parts stock)) r = Unit {0}
FitsCall (OfSession name RollsBack) r = r ≡ reply.Done
FitsCall (OfWorker worker call) r = Unit {0}
FitsCall (OfAdmin call) r = Unit {0}

abbrev IsFit : (Reply → Type 0) → Reply → Type 0
IsFit P r = is_refused r ≡ false → P r

each_fits : (found : Found) (s : State) → OfEach (λ call v. IsFit (FitsCall call) (judged s v).reply) found s
each_fits found s = record {
  refuses = λ call r plain served. of_server served;
  enters = λ name user free served. refl;
  logs_off = λ name x at served. refl;
  grants = λ name x rs locks at e served. refl;
  lowers = λ name x rs at served. refl;
  frees = λ name x at served. refl;
  converts = λ name x wanted c at e served. refl;
  draws = λ name x object nr r at can served. refl;
  reserves = λ name x object nr upto r at can served. refl;
  reads = λ name x table key at served. (found.row table key, refl);
  commits_nothing = λ name x parts stock at served. tt;
  commits_numbers = λ name x parts stock at served. tt;
  commits = λ name x parts stock at served. tt;
  rolls_back = λ name x at served. refl;
  takes = λ worker part unit free e served. tt;
  posts = λ worker part unit e served. tt;
  drops = λ worker unit e served. tt;
  kills = λ up served. tt;
  fails_over = λ can served. tt;
  strays = λ first second none served. tt;
  attaches = λ up served. tt;
  restarts = λ off served. tt;
  cancels = λ unit status can served. tt;
  reopens = λ unit es here stand served. tt;
  reposts = λ unit here served. tt;
}

call_fits : (found : Found) (s : State) (call : Call) → is_refused (judged s (call_verdict found s call)).reply ≡ false
    → FitsCall call (judged s (call_verdict found s call)).reply
call_fits found s call = by_call (λ c v. IsFit (FitsCall c) (judged s v).reply) found s (each_fits found s) call

commit_fits : (found : Found) (s : State) (name : List ℕ) (parts : Parts) (stock : List Num)
    → IsFit (FitsReply (command.Commit name parts stock)) (judged s (verdict found s (command.Commit name parts stock))).reply
commit_fits found s name parts stock =
    let Q : Verdict → Type 0 = λ v. IsFit (FitsReply (command.Commit name parts stock)) (judged s v).reply in
    by_session Q found s name (Commits parts stock) (λ r served. of_server served)
    (λ x at. by_commit Q s x parts stock (record {
      refuses = λ r served. of_server served;
      nothing = λ none served. inr (none, refl);
      numbers = λ none served. inr (none, refl);
      records = λ one served. inl (one, (unit_key s.stored.start x, refl));
    }))

verdict_fits : (found : Found) (s : State) (name : List ℕ) (c : Command) → is_own name (call_of c) ≡ true
    → IsFit (FitsReply c) (judged s (verdict found s c)).reply
verdict_fits found s name (command.Logon session user) own = call_fits found s _
verdict_fits found s name (command.Logoff session) own = call_fits found s _
verdict_fits found s name (command.Ask session requests) own = call_fits found s _
verdict_fits found s name (command.Free session requests) own = call_fits found s _
verdict_fits found s name (command.FreeAll session) own = call_fits found s _
verdict_fits found s name (command.Convert session asked) own = call_fits found s _
verdict_fits found s name (command.Number session object nr) own = call_fits found s _
verdict_fits found s name (command.Reserve session object nr upto) own = call_fits found s _
verdict_fits found s name (command.Read session table key) own = call_fits found s _
verdict_fits found s name (command.Commit session parts stock) own = commit_fits found s session parts stock
verdict_fits found s name (command.Rollback session) own = call_fits found s _
verdict_fits found s name (command.Take1 worker) own = of_false own
verdict_fits found s name (command.Take2 worker) own = of_false own
verdict_fits found s name (command.Do1 worker) own = of_false own
verdict_fits found s name (command.Do2 worker) own = of_false own
verdict_fits found s name (command.DropOrder worker) own = of_false own
verdict_fits found s name command.Kill own = of_false own
verdict_fits found s name command.FailOver own = of_false own
verdict_fits found s name command.Restart own = of_false own
verdict_fits found s name command.Attach own = of_false own
verdict_fits found s name (command.Cancel unit) own = of_false own
verdict_fits found s name (command.Resubmit unit) own = of_false own

pub replies_fit : RepliesFit
replies_fit s m name quiet is =
    let c = m.call.command in
    let own = sym (by_whom s m name quiet.answer) ∙ is in
    subst (FitsReply c) quiet.answer.reply
    (by_quiet (λ r. IsFit (FitsReply c) r.reply) s m quiet (λ lost done h. h) (λ taken r h. h) (verdict_fits (found_by m.outcome.reading s) s name c own)
    (λ served. of_server served) (λ served. of_server served) (is_served s m name quiet is))
