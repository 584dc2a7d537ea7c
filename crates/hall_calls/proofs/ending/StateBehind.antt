-- The state behind a call that writes the store or makes a lock server anew, answered or in doubt.
use Rattle.std.proofs.Common.{◌≡◌, ℕ, List, [], ◌∷◌, refl, sym, ap, ◌∙◌, subst}
use Rattle.std.specs.Prelude.{Option, Some, None}
use Rattle.std.specs.List.{AllByRecursion}
use Rattle.std.specs.Option.{option_map}
use Rattle.enq_base.specs.declared.condition.Condition.{Condition}
use Rattle.enq_base.specs.declared.unit.Num.{Num}
use Rattle.enq_base.specs.declared.unit.Parts.{Parts}
use Rattle.enq_server.specs.Replica.{told_list}
use Rattle.enq_server.specs.Server.{Server}
use Rattle.lock_entry.specs.Table.{Table}
use Rattle.lock_entry.specs.declared.entry.Entry.{Entry}
use Rattle.ledger_steps.specs.Steps.{after_step}
use Rattle.ledger_steps.specs.declared.step.Step.{Step}
use Rattle.ledger_steps.specs.Drawn.{passed}
use Rattle.ledger_steps.specs.declared.range.NumberRange.{NumberRange}
use Rattle.update_records.specs.Ledger.{Ledger}
use Rattle.hall_model.specs.Acts.{Admits, IsAct}
use Rattle.hall_calls.specs.Written.{IsWritten, OnFailure, ranges_behind, written_reply}
use Rattle.hall_model.specs.Calls.{Call, LogsOn, OfSession, OfWorker, OfAdmin, call_of, take_of, LogsOff, Asks, Frees, FreesAll, Converts, Draws, Reserves, Reads, Commits, RollsBack}
use Rattle.hall_model.specs.Devices.{MayBeDone}
use Rattle.hall_model.specs.History.{caller_behind, doubted, judged, unfiled, without_stock}
use Rattle.hall_calls.specs.Remaking.{flight_over}
use Rattle.hall_model.specs.Sessions.{has_one_of, with_marks}
use Rattle.hall_model.specs.State.{State, table_for, unhanded}
use Rattle.hall_model.specs.Step.{found_in, own_verdict, take}
use Rattle.hall_model.specs.declared.command.Command.{Command}
use Rattle.hall_model.specs.declared.command.Reply.{Reply}
use Rattle.hall_model.specs.declared.command.Session.{Session}
use Rattle.hall_calls.specs.declared.units.Failure.{Failure}
use Rattle.hall_calls.specs.declared.units.Written.{Written}
use Rattle.hall_calls.specs.declared.units.Written.TheVariants.{Answered, Failed, Unfiled}
use Rattle.hall_calls.proofs.verdicts.EachCall.{tells}
use Rattle.ledger_steps.specs.declared.part.Part.{Part}
use Rattle.model_laws.proofs.PartOrders.{take_is}

abbrev pub written_state : State → Call → State → Written → State
written_state s call after (Answered r) = after
written_state s call after (Failed change) = doubted (without_stock call s) call None (option_map (after_step s.stored) change)
written_state s call after Unfiled = unfiled s call None after.stored

pub written_act : (s : State) (c : Command) (after : State) (w : Written) → IsWritten s c after w
    → IsAct s c (written_state s (call_of c) after w) (written_reply w)
written_act s c after (Answered r) h = h
written_act s c after (Failed change) h = h
written_act s c after Unfiled h = h

-- the numbers that memory hands out where the store failed
abbrev pub ranges_without : Call → List NumberRange → List NumberRange
ranges_without (OfSession session (Commits parts stock)) ranges = passed stock ranges
ranges_without call ranges = ranges

-- the ranges that a call leaves where a device fails
abbrev pub HasRanges : Call → Written → (before now : List NumberRange) → Type 0
HasRanges call (Answered r) before now = Unit {0}
HasRanges call (Failed change) before now = now ≡ ranges_without call before
HasRanges call Unfiled before now = now ≡ before

pub same_ranges : (call : Call) (w : Written) (ranges : List NumberRange) → ranges_without call ranges ≡ ranges → HasRanges call w ranges ranges
same_ranges call (Answered r) ranges is = tt
same_ranges call (Failed change) ranges is = sym is
same_ranges call Unfiled ranges is = refl

pub kept_ranges : (call : Call) (w : Written) (before now : List NumberRange) → ranges_without call before ≡ before → OnFailure w (now ≡ before)
    → HasRanges call w before now
kept_ranges call (Answered r) before now is h = tt
kept_ranges call (Failed change) before now is h = h ∙ sym is
kept_ranges call Unfiled before now is h = h

pub commit_ranges : (session : List ℕ) (parts : Parts) (stock : List Num) (w : Written) (before now : List NumberRange)
    → OnFailure w (now ≡ ranges_behind stock before w)
    → HasRanges (OfSession session (Commits parts stock)) w before now
commit_ranges session parts stock (Answered r) before now h = tt
commit_ranges session parts stock (Failed change) before now h = h
commit_ranges session parts stock Unfiled before now h = h

-- and its session, if one makes it
abbrev pub caller_of : Call → Option (List ℕ)
caller_of call = caller_behind None call

pub without_as : (call : Call) (s : State) → without_stock call s ≡ record s { ranges = ranges_without call s.ranges }
without_as (LogsOn name user) s = refl
without_as (OfSession session (Commits parts stock)) s = refl
without_as (OfSession session LogsOff) s = refl
without_as (OfSession session (Asks rs)) s = refl
without_as (OfSession session (Frees rs)) s = refl
without_as (OfSession session FreesAll) s = refl
without_as (OfSession session (Converts wanted)) s = refl
without_as (OfSession session (Draws object nr)) s = refl
without_as (OfSession session (Reserves object nr upto)) s = refl
without_as (OfSession session (Reads table key)) s = refl
without_as (OfSession session RollsBack) s = refl
without_as (OfWorker worker call) s = refl
without_as (OfAdmin call) s = refl

pub caller_as : (before : Option (List ℕ)) (call : Call) → before ≡ None → caller_behind before call ≡ caller_of call
caller_as before call none = ap (λ b. caller_behind b call) none

-- ---- sessions with their marks

-- each session loses as before
abbrev pub LoseAlike : (start : ℕ) → (old new : List Entry) → List Session → Type 0
LoseAlike start old new sessions = AllByRecursion (λ x. has_one_of start (unhanded new) x ≡ has_one_of start (unhanded old) x) sessions

pub marks_alike : (start : ℕ) (old new : List Entry) (xs : List Session) → LoseAlike start old new xs
    → with_marks (has_one_of start (unhanded new)) xs ≡ with_marks (has_one_of start (unhanded old)) xs
marks_alike start old new [] h = refl
marks_alike start old new (x ∷ xs) h = λ i. record x { marked = h.0 i } ∷ marks_alike start old new xs h.1 i

-- the marks that they have
pub marks_kept : (xs : List Session) → with_marks (λ x. x.marked) xs ≡ xs
marks_kept [] = refl
marks_kept (x ∷ xs) = ap (λ ys. x ∷ ys) (marks_kept xs)

pub none_before : (f : Failure) (l : Ledger) → flight_over l f ≡ None → f.in_flight ≡ None
none_before f l none = by_case f.in_flight none
  where
    by_case : (p : Option Step) → option_map (after_step l) p ≡ None → p ≡ None
    by_case None h = refl
    by_case (Some step) h = cc

pub same_flight : (f : Failure) (l l' : Ledger) → flight_over l f ≡ None → flight_over l' f ≡ flight_over l f
same_flight f l l' none = ap (option_map (after_step l')) (none_before f l none) ∙ sym none

-- the table of a server, or what a replica would make of the list that followed one
abbrev pub locks_of : {D L : Type 0} → (applied : L → Option (List Entry)) → Condition → (max_locks : ℕ) → Server D L → Table
locks_of applied k max_locks locks = table_for k max_locks locks.table (told_list applied locks.replica)

-- an order that is answered as its command says
pub taken_call : (part : Part) (s : State) (worker : ℕ) (after : State) (r : Reply) → Admits s (take_of part worker)
    → judged s (take part s worker) ≡ record { state = after; reply = r } → IsAct s (take_of part worker) after r
taken_call part s worker after r room h =
    tells s (take_of part worker) (take part s worker) after r
    (subst (λ call. MayBeDone call (take part s worker)) (sym (take_is part worker)) tt) room
    (ap (own_verdict (found_in s) s) (take_is part worker)) h
