-- How a run ends whose script was done to its end.
use Rattle.std.proofs.Common.{◌≡◌, ℕ, false, List, ◌++◌, refl, sym, ap, subst, append_assoc}
use Rattle.std.specs.Prelude.{Option, Some, None}
use Rattle.std.specs.Option.{option_map_or}
use Rattle.std.specs.Io.KnownBytes.{Appends}
use Rattle.enq_base.specs.declared.condition.Bad.TheVariants as bad
use Rattle.enq_base.specs.declared.condition.Condition.{Condition}
use Rattle.enq_base.specs.declared.condition.Condition.TheVariants.{Up, NoServer, Doubt}
use Rattle.enq_base.specs.declared.refusal.Refusal.TheVariants as refusal
use Rattle.hall_model.specs.State.{State, doubt_in}
use Rattle.hall_model.specs.declared.command.Reply.{Reply}
use Rattle.hall_model.specs.declared.command.Who.{Who}
use Rattle.hall_model.specs.declared.command.Reply.TheVariants as reply
use Rattle.script_actors.specs.Actors.{Land}
use Rattle.run_report.specs.Report.{past_text, said_text, shows_text}
use Rattle.script_actors.specs.declared.actor.Said.{Said}
use Rattle.script_actors.specs.declared.line.NumberedLine.{NumberedLine}
use Rattle.script_runner.specs.Faults.{answer_at, doubt_end, end_of, tells_other}
use Rattle.script_runner.specs.Replay.{doubt_of}
use Rattle.script_runner.specs.declared.runner.Why.{Why}
use Rattle.script_runner.specs.declared.runner.Why.TheVariants.{StoreFault}
use Rattle.thread_runner.specs.Deeds.{Deeds}
use Rattle.thread_runner.specs.Threads.{BeginsReport, EndsWorked, IsDoneWhole, IsEndOfRun, IsReported, Output, all_answers}

-- a whole report begins with the history
pub begun_of : (lines : List NumberedLine) (s : State) (all : List Said) (old new : Output) → IsReported lines s all old new → BeginsReport s old new
begun_of lines s all old new r = record {
  rest = said_text r.said ++ shows_text lines s;
  text = subst (Appends old.written new.written) (append_assoc (past_text 0 s.past) (said_text r.said) (shows_text lines s)) r.text;
  quiet = r.quiet;
}

module _ (land : Land) (lines : List NumberedLine) (s : State) (callers : List Who) (did : Deeds land lines s.past callers) (old new : Output)
    (whole : IsDoneWhole land lines s callers did old new) (worked : EndsWorked s) where
  -- in doubt since call k, by how that was answered
  answered_end : (k : ℕ) (r : Reply) → doubt_of s ≡ Some k → answer_at s.past k ≡ Some r → IsEndOfRun land lines s callers did old new (doubt_end k r)
  answered_end k (reply.Refused refusal.BackupFault) doubt is = (whole, (doubt, is))
  answered_end k (reply.Refused (refusal.Unsound (bad.Store table row))) doubt is = (whole, (k, (doubt, is)))
  answered_end k (reply.Refused (refusal.Unsound (bad.Backup place))) doubt is = (whole, (k, (doubt, is)))
  answered_end k (reply.Refused refusal.NoMemory) doubt is = begun_of lines s (all_answers land lines s.past callers did) old new whole.0
  answered_end k _ doubt is = (whole, doubt, ap (λ o. option_map_or tells_other o false) is)

  at_end : (c : Condition) → s.condition ≡ c → IsEndOfRun land lines s callers did old new (end_of c s.past)
  at_end Up e = (whole, ap doubt_in e, worked)
  at_end NoServer e = (whole, ap doubt_in e, worked)
  at_end (Doubt k) e = in_doubt (answer_at s.past k) refl
    where
      in_doubt : (o : Option Reply) → answer_at s.past k ≡ o → IsEndOfRun land lines s callers did old new (option_map_or (doubt_end k) o (StoreFault k))
      in_doubt None is = (whole, ap doubt_in e, ap (λ o. option_map_or tells_other o false) is)
      in_doubt (Some r) is = answered_end k r (ap doubt_in e) is

  -- the end that the condition tells
  pub ended : (why : Why) → why ≡ end_of s.condition s.past → IsEndOfRun land lines s callers did old new why
  ended why is = subst (IsEndOfRun land lines s callers did old new) (sym is) (at_end s.condition refl)
