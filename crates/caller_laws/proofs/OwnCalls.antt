-- The calls of one thread, as its pass knows them.
use Rattle.std.proofs.Common.{◌≡◌, ℕ, Bool, List, [], ◌∷◌, ◌++◌, drop, length, map, sym, ap, ◌∙◌, subst}
use Rattle.std.proofs.Math.Seq.{drop-append_seam}
use Rattle.std.specs.Prelude.{if◌then◌else◌, true, false, Option, None}
use Rattle.std.specs.List.{AllByRecursion}
use Rattle.hall_model.specs.Calls.{who_of}
use Rattle.hall_model.specs.History.{is_unrecorded}
use Rattle.hall_model.specs.declared.command.PastEntry.{PastEntry}
use Rattle.hall_model.specs.declared.command.Who.{Who}
use Rattle.hall_model.specs.declared.command.Who.TheVariants as caller
use Rattle.order_workers.specs.Orders.{Leads, Made, Stays, Then}
use Rattle.script_actors.specs.Actors.{DeskView, Land}
use Rattle.script_actors.specs.Drawings.{DeskCall, calls_in, desk_call, with_call}
use Rattle.script_actors.specs.declared.actor.Said.{Said}
use Rattle.script_actors.specs.declared.line.NumberedLine.{NumberedLine}
use Rattle.turn_lock.specs.Rule.{own_entries}
use Rattle.turn_lock.specs.declared.view.View.{View}
use Rattle.caller_laws.specs.Callers.{AreTheirs}
use Rattle.caller_laws.specs.Doing.{DidAs, DidAtDesk, DidLines, IsThread, Known, LeadsTurn, Left, Thread, desk_known, desk_seen, nothing_asked}
use Rattle.caller_laws.proofs.Everywhere.{IsOf, Says, all_append, all_of_part, all_of_prefix}
use Rattle.caller_laws.proofs.Loops.{IsMadeBy, made_front, made_last, work_theirs}
use Rattle.caller_laws.proofs.Marks.{IsOwnTurn, Marked, marked_first, marked_more}

-- the calls of lines are the actor's
abbrev pub LinesAreOwn : Type 0
LinesAreOwn = (land : Land) (lines : List NumberedLine) (w : Who) (said : Option (List Said)) (view : DeskView)
    → DidLines land lines w said nothing_asked view → AllByRecursion (λ (c : DeskCall). who_of c.command ≡ w) (calls_in view.entries)

none_yet : (v : View PastEntry) → v.own ≡ [] → own_entries v ≡ []
none_yet v none = ap (λ l. own_entries (record v { own = l })) none

-- ---- of a worker

abbrev IsCallOf : Who → DeskCall → Type 0
IsCallOf w c = who_of c.command ≡ w

with_theirs : (w : ℕ) (calls : List DeskCall) (m : Made) → IsMadeBy w m → AllByRecursion (IsCallOf (caller.Worker w)) calls
    → AllByRecursion (IsCallOf (caller.Worker w)) (with_call calls 0 m.command m.reply)
with_theirs w calls m h all = go (is_unrecorded m.reply)
  where
    the_call : DeskCall
    the_call = record { line = 0; command = m.command; reply = m.reply }

    go : (b : Bool) → AllByRecursion (IsCallOf (caller.Worker w)) (if b then calls else calls ++ the_call ∷ [])
    go true = all
    go false = all_append (IsCallOf (caller.Worker w)) calls (the_call ∷ []) all (h, tt)

module _ {S : Type 0} (past : S → List PastEntry) where
  leads_theirs : (w : ℕ) (k l : Known) (calls : List Made) → Leads (LeadsTurn past) k calls l → AllByRecursion (IsMadeBy w) calls → k.view.own ≡ []
      → AllByRecursion (IsCallOf (caller.Worker w)) (map desk_call (own_entries l.view))
  leads_theirs w k l calls (Stays x) all none =
      subst (λ es. AllByRecursion (IsCallOf (caller.Worker w)) (map desk_call es)) (sym (none_yet x.view none)) tt
  leads_theirs w k l calls (Then x y z cs m g one) all none =
      subst (AllByRecursion (IsCallOf (caller.Worker w))) (sym one.asked.own)
      (with_theirs w (map desk_call (own_entries y.view)) m (made_last w cs m all)
      (leads_theirs w x y cs g (made_front w cs m all) none))

  turn_of : (k l : Known) (m : Made) → LeadsTurn past k m l
      → IsOwnTurn m k.view.seen l.view.seen (own_entries k.view) (own_entries l.view)
  turn_of k l m h =
      let t = h.asked.turn in
      let now : l.view.seen ≡ past t.after = ap (λ (v : View PastEntry). v.seen) t.knows in
      record {
        before = past t.before;
        began = t.began;
        added = t.grew.0;
        grew = t.grew.1 ∙ sym now;
        told = ap (map desk_call) now ∙ t.ran.0;
        up = h.asked.seen;
        grown = t.own
            ∙ ap (λ es. own_entries k.view ++ es)
            (ap (drop (length (past t.before))) (sym t.grew.1) ∙ drop-append_seam (past t.before) t.grew.0);
      }

  -- what its pass has seen has the worker's calls, each with a mark
  pub leads_marked : (k l : Known) (calls : List Made) → Leads (LeadsTurn past) k calls l → k.view.own ≡ []
      → Marked l.view.seen (own_entries l.view) calls
  leads_marked k l calls (Stays x) none = subst (λ es. Marked x.view.seen es []) (sym (none_yet x.view none)) (marked_first x.view.seen)
  leads_marked k l calls (Then x y z cs m g one) none =
      marked_more m y.view.seen z.view.seen (own_entries y.view) (own_entries z.view) cs (leads_marked x y cs g none) (turn_of y z m one)

  -- ---- of any thread

  pub fresh_desk : (k : Known) → k.entries ≡ [] → k.full_at ≡ None → desk_known k ≡ nothing_asked
  fresh_desk k none full = λ i. desk_seen (none i) (full i)

  lines_theirs : LinesAreOwn → (land : Land) (lines : List NumberedLine) (w : Who) (left : Left) (k l : Known) → DidAtDesk land lines w left k l
      → k.full_at ≡ None → AllByRecursion (IsCallOf w) (map desk_call (own_entries l.view))
  lines_theirs whose land lines w left k l h full =
      subst (AllByRecursion (IsCallOf w)) h.calls
      (whose land lines w left.said (desk_known l)
      (subst (λ v. DidLines land lines w left.said v (desk_known l)) (fresh_desk k h.fresh full) h.did))

  thread_calls : LinesAreOwn → (land : Land) (lines : List NumberedLine) (who : Who) (left : Left) (k l : Known)
      → DidAs past land lines who left k l → k.view.own ≡ [] → k.full_at ≡ None → AllByRecursion (IsCallOf who) (map desk_call (own_entries l.view))
  thread_calls whose land lines (caller.Worker w) left k l did none full = leads_theirs w k l did.0 did.1 (work_theirs w left.rests did.0 did.2) none
  thread_calls whose land lines (caller.Session s) left k l did none full = lines_theirs whose land lines (caller.Session s) left k l did full
  thread_calls whose land lines caller.Admin left k l did none full = lines_theirs whose land lines caller.Admin left k l did full

  entries_theirs : (w : Who) (es : List PastEntry) → AreTheirs es → AllByRecursion (IsCallOf w) (map desk_call es) → AllByRecursion (IsOf w) es
  entries_theirs w [] theirs all = tt
  entries_theirs w (e ∷ es) theirs all = (theirs.0 ∙ all.0, entries_theirs w es theirs.1 all.1)

  -- each of its entries in the history is its own
  pub thread_entries : LinesAreOwn → (land : Land) (lines : List NumberedLine) (log : List PastEntry) (t : Thread) → AreTheirs log
      → IsThread past land lines log t → AllByRecursion (IsOf t.who) (own_entries t.now.view)
  thread_entries whose land lines log t theirs h =
      entries_theirs t.who (own_entries t.now.view)
      (all_of_part Says (own_entries t.now.view) t.now.view.seen h.part (all_of_prefix Says t.now.view.seen log h.begins theirs))
      (thread_calls whose land lines t.who t.left t.began t.now h.did h.fresh h.none_full)
