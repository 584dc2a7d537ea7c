-- What holds of the verdict of each call holds of any call.
use Rattle.std.proofs.Common.{◌≡◌, ℕ, Bool, true, false, cond, List, [], ◌∷◌, ◌++◌, length, map, refl, sym, ◌∙◌, subst, arith}
use Rattle.std.specs.Prelude.{◌&&◌, ◌||◌, not, if◌then◌else◌, nat_eq, nat_le, nat_lt, Option, Some, None, Result, Ok, Err, is_some}
use Rattle.std.proofs.lemmas.Bool.{and_parts, eqb-true}
use Rattle.std.proofs.lemmas.List.{length-append}
use Rattle.enq_base.specs.declared.condition.Condition.{Condition}
use Rattle.enq_base.specs.declared.condition.Condition.TheVariants as condition
use Rattle.enq_base.specs.declared.owner.UnitKey.{UnitKey}
use Rattle.enq_base.specs.declared.refusal.Refusal.{Refusal}
use Rattle.enq_base.specs.declared.refusal.Refusal.TheVariants as refusal
use Rattle.enq_base.specs.declared.unit.Num.{Num}
use Rattle.enq_base.specs.declared.unit.Parts.{Parts}
use Rattle.enq_base.specs.declared.unit.Status.{Status}
use Rattle.enq_base.specs.declared.unit.Status.TheVariants.{Bad, Bad2}
use Rattle.lock_entry.specs.Converting.{Conversion, converted, first_withstanding, is_lost, sum_exceeds}
use Rattle.lock_entry.specs.Granting.{asked, first_bar, is_full as has_no_room, is_over, new_names, readmitted, unless_barred}
use Rattle.lock_entry.specs.Names.{halves}
use Rattle.lock_entry.specs.Sound.{first_clash}
use Rattle.lock_entry.specs.Table.{Table}
use Rattle.lock_entry.specs.declared.entry.Asked.{Asked}
use Rattle.lock_entry.specs.declared.entry.Asker.{Asker}
use Rattle.lock_entry.specs.declared.entry.Entry.{Entry}
use Rattle.lock_entry.specs.declared.entry.Request.{Request}
use Rattle.lock_entry.specs.declared.fault.AskFault.{AskFault}
use Rattle.ledger_steps.specs.Posts.{entries_of, kind_for}
use Rattle.ledger_steps.specs.Steps.{waiting_for}
use Rattle.update_records.specs.Marks.{status_of}
use Rattle.hall_model.specs.Calls.{Call, LogsOn, OfSession, OfWorker, OfAdmin, Kills, FailsOver, Restarts, Attaches, Cancels, Resubmits, Takes, Posts, Drops}
use Rattle.hall_model.specs.Calls.{SessionCall, LogsOff, Asks, Frees, FreesAll, Converts, Draws, Reserves, Reads, Commits, RollsBack, call_of, restarts}
use Rattle.hall_model.specs.Calls.{wants_server}
use Rattle.hall_model.specs.Devices.{DeviceOutcome, AllWell, Wanting, StoreFails, BackupFails, LinkFails, NotRemade, Reading, fault_told, found_by}
use Rattle.hall_model.specs.History.{Served, doubted, ends_in, in_flight_after, judged, losing, read_anew, refused, served, stored_before_file, unfiled, without_stock}
use Rattle.hall_model.specs.Orders.{first_unclaimed, order_for, order_of, without_order}
use Rattle.hall_model.specs.Sessions.{owners_of, pair_of, session_at, unit_key}
use Rattle.hall_model.specs.Numbers.{drawn, next_number, other_holder, raised_to, stocked}
use Rattle.hall_model.specs.State.{State}
use Rattle.hall_model.specs.Stocks.{MayCall}
use Rattle.number_ranges.specs.Intervals.{block_level, code_of, is_buffered}
use Rattle.ledger_steps.specs.Levels.{present, range_at}
use Rattle.ledger_steps.specs.declared.range.NumberRange.{NumberRange}
use Rattle.hall_model.specs.Step.{Found, Verdict, Refuses, Leaves, ask_refusal, attached, barred, called, clashing, caller_refusal, call_verdict, cancelled}
use Rattle.hall_model.specs.Step.{commit, committed, converting, detached, down_refusal, drawing, effects_in, entered, followed_over, freed_all, from_replica}
use Rattle.hall_model.specs.Step.{giving, granting, handing, is_full, is_sound, is_taken, killed, logged_off, logon, lowered, marked, not_over, numbered}
use Rattle.hall_model.specs.Step.{or_else, own_verdict, passing, posted_reply, posting, reopened, reposted, reserving, restart, restarted, rolled_back}
use Rattle.hall_model.specs.Step.{session_call, session_refusal, taken, taking, unavailable, unless_refused, verdict, with_room, server_refusal}
use Rattle.hall_model.specs.declared.command.Command.{Command}
use Rattle.hall_model.specs.declared.command.Reply.TheVariants as reply
use Rattle.hall_model.specs.declared.command.Session.{Session}
use Rattle.update_records.specs.Ledger.{Ledger}
use Rattle.model_laws.proofs.Cancels.{CanBeCancelled, by_cancel}
use Rattle.model_laws.proofs.PlainRefusals.{IsOfRule, IsPlain}
use Rattle.model_laws.proofs.Resubmissions.{by_resubmit, table_in}
use Rattle.ledger_steps.specs.declared.part.Part.{Part}

-- a number may be drawn from this range
pub record CanDraw (s : State) (x : Session) (object nr : List ℕ) (r : NumberRange) : Type 0 where
  pub range : range_at s.ranges object nr ≡ Some r
  pub few : nat_le 64 (length x.draws) ≡ false
  pub free : other_holder s.sessions x.name (present s.stored.levels r.interval) ≡ None
  pub within : nat_lt r.interval.to (next_number r (present s.stored.levels r.interval) x) ≡ false

-- numbers up to this one may be reserved of this range
pub record CanReserve (s : State) (object nr : List ℕ) (upto : ℕ) (r : NumberRange) : Type 0 where
  pub range : range_at s.ranges object nr ≡ Some r
  pub buffered : not (is_buffered r.interval) ≡ false
  pub within : nat_lt r.interval.to upto ≡ false

-- a replica that followed hands over a list whose locks may stand together
pub record IsHandedOver (found : Found) (s : State) : Type 0 where
  pub none : s.condition ≡ condition.NoServer
  pub followed : s.attached ≡ true
  pub sound : is_sound found.list ≡ true

-- and one whose locks may not
pub record IsStray (found : Found) (s : State) : Type 0 where
  pub none : s.condition ≡ condition.NoServer
  pub astray : is_sound found.list ≡ false

-- What each call comes to, by the cases that there are: a property is shown for each of them once. The refusals of all
-- calls are one case.
pub record OfEach (P : Call → Verdict → Type 0) (found : Found) (s : State) : Type 0 where
  pub refuses : (call : Call) (r : Refusal) → IsPlain r → P call (Refuses r)
  pub enters : (name user : List ℕ) → is_some (session_at s.sessions name) ≡ false → P (LogsOn name user) (Leaves (entered s name user) reply.Done)
  pub logs_off : (name : List ℕ) (x : Session) → session_at s.sessions name ≡ Some x → P (OfSession name LogsOff) (Leaves (logged_off s x) reply.Done)
  pub grants : (name : List ℕ) (x : Session) (rs : List Request) (locks : List Entry) → session_at s.sessions name ≡ Some x
      → asked (table_in s) (pair_of s.stored.start x) x.user rs ≡ Ok locks → P (OfSession name (Asks rs)) (Leaves (record s { locks = locks }) reply.Done)
  pub lowers : (name : List ℕ) (x : Session) (rs : List Request) → session_at s.sessions name ≡ Some x
      → P (OfSession name (Frees rs)) (Leaves (lowered s x rs) reply.Done)
  pub frees : (name : List ℕ) (x : Session) → session_at s.sessions name ≡ Some x → P (OfSession name FreesAll) (Leaves (freed_all s x) reply.Done)
  pub converts : (name : List ℕ) (x : Session) (wanted : List Asked) (c : Conversion) → session_at s.sessions name ≡ Some x
      → converted s.locks (pair_of s.stored.start x) wanted ≡ Ok c → P (OfSession name (Converts wanted)) (Leaves (record s { locks = c.entries }) reply.Done)
  pub draws : (name : List ℕ) (x : Session) (object nr : List ℕ) (r : NumberRange) → session_at s.sessions name ≡ Some x → CanDraw s x object nr r
      → P (OfSession name (Draws object nr))
      (Leaves (drawn s x (present s.stored.levels r.interval) (next_number r (present s.stored.levels r.interval) x))
      (reply.Number (next_number r (present s.stored.levels r.interval) x)
      (code_of (present s.stored.levels r.interval) (next_number r (present s.stored.levels r.interval) x))))
  pub reserves : (name : List ℕ) (x : Session) (object nr : List ℕ) (upto : ℕ) (r : NumberRange) → session_at s.sessions name ≡ Some x
      → CanReserve s object nr upto r → P (OfSession name (Reserves object nr upto))
      (Leaves (record s { stored = raised_to (present s.stored.levels r.interval) upto s.stored })
      (reply.Level (block_level (present s.stored.levels r.interval) upto)))
  pub reads : (name : List ℕ) (x : Session) (table key : List ℕ) → session_at s.sessions name ≡ Some x
      → P (OfSession name (Reads table key)) (Leaves s (reply.Row (found.row table key)))
  pub commits_nothing : (name : List ℕ) (x : Session) (parts : Parts) (stock : List Num) → session_at s.sessions name ≡ Some x
      → P (OfSession name (Commits parts stock)) (Leaves s reply.Done)
  pub commits_numbers : (name : List ℕ) (x : Session) (parts : Parts) (stock : List Num) → session_at s.sessions name ≡ Some x
      → P (OfSession name (Commits parts stock)) (Leaves (stocked stock (numbered s x (x.draws ++ stock))) reply.Done)
  pub commits : (name : List ℕ) (x : Session) (parts : Parts) (stock : List Num) → session_at s.sessions name ≡ Some x
      → P (OfSession name (Commits parts stock)) (Leaves (stocked stock (committed s x parts (x.draws ++ stock))) (reply.Unit (unit_key s.stored.start x)))
  pub rolls_back : (name : List ℕ) (x : Session) → session_at s.sessions name ≡ Some x → P (OfSession name RollsBack) (Leaves (rolled_back s x) reply.Done)
  pub takes : (worker : ℕ) (part : Part) (unit : UnitKey) → order_of s.orders worker ≡ None → first_unclaimed s.orders (waiting_for part s.stored) ≡ Some unit
      → P (OfWorker worker (Takes part)) (Leaves (taken s worker unit) (reply.Unit unit))
  pub posts : (worker : ℕ) (part : Part) (unit : UnitKey) → order_for part s.stored s.orders worker ≡ Some unit
      → P (OfWorker worker (Posts part))
      (Leaves (marked part s worker unit (kind_for part (found.part part unit))) (posted_reply part unit (found.part part unit)))
  pub drops : (worker : ℕ) (unit : UnitKey) → order_of s.orders worker ≡ Some unit
      → P (OfWorker worker Drops) (Leaves (record s { orders = without_order s.orders worker }) (reply.Unit unit))
  pub kills : s.condition ≡ condition.Up → P (OfAdmin Kills) (Leaves (killed s) reply.Done)
  pub fails_over : IsHandedOver found s → P (OfAdmin FailsOver) (Leaves (followed_over found.list s) reply.Done)
  pub strays : (first second : ℕ) → IsStray found s → P (OfAdmin FailsOver) (not_over s first second)
  pub restarts : (s.condition ≡ condition.Up → ⊥) → P (OfAdmin Restarts) (Leaves (restarted (is_taken found.anew) s) reply.Done)
  pub attaches : s.condition ≡ condition.Up → P (OfAdmin Attaches) (Leaves (attached s) reply.Done)
  pub cancels : (unit : UnitKey) (status : Status) → CanBeCancelled s.stored s.orders s.mark_limit unit status
      → P (OfAdmin (Cancels unit)) (Leaves (cancelled s unit status) (reply.Unit unit))
  pub reopens : (unit : UnitKey) (es : List Entry) → status_of s.stored.units s.stored.marks unit ≡ Some Bad
      → readmitted (table_in s) (owners_of unit) (entries_of s.stored.units unit) ≡ Ok es
      → P (OfAdmin (Resubmits unit)) (Leaves (reopened s unit es) (reply.Unit unit))
  pub reposts : (unit : UnitKey) → status_of s.stored.units s.stored.marks unit ≡ Some Bad2
      → P (OfAdmin (Resubmits unit)) (Leaves (reposted s unit) (reply.Unit unit))

-- ---- choices

one_of : (Q : Verdict → Type 0) (b : Bool) (v w : Verdict) → (b ≡ true → Q v) → (b ≡ false → Q w) → Q (if b then v else w)
one_of Q true v w p q = p refl
one_of Q false v w p q = q refl

-- a call that adds a mark: what holds where the store has no room for it, and where it has
pub by_room : (Q : Verdict → Type 0) (s : State) (v : Verdict) → Q (Refuses (refusal.StoreFull s.mark_limit)) → Q v → Q (with_room s v)
by_room Q s v full room = one_of Q (nat_le s.mark_limit (length s.stored.marks)) _ v (λ e. full) (λ e. room)

-- the grant rule refuses for its own reasons alone
barred-of_rule : {X : Type 0} (o : Option Entry) (r : Result X AskFault) → IsOfRule r → IsOfRule (unless_barred o r)
barred-of_rule None r h = h
barred-of_rule (Some e) r h = refl

cond-of_rule : {X : Type 0} (b : Bool) (x y : Result X AskFault) → IsOfRule x → IsOfRule y → IsOfRule (cond b x y)
cond-of_rule true x y h k = h
cond-of_rule false x y h k = k

asked-of_rule : (t : Table) (asker : Asker) (user : List ℕ) (rs : List Request) → IsOfRule (asked t asker user rs)
unfolding asked
asked-of_rule t asker user rs =
    barred-of_rule (first_bar t.entries asker (map (λ r. r.asked) rs)) _
    (cond-of_rule (has_no_room t (length (new_names t.entries (halves asker rs)))) _ _ refl
    (cond-of_rule (is_over t.entries (halves asker rs)) _ _ refl tt))

converted-of_rule : (entries : List Entry) (asker : Asker) (wanted : List Asked) → IsOfRule (converted entries asker wanted)
unfolding converted
converted-of_rule entries asker wanted =
    cond-of_rule (is_lost entries asker wanted) _ _ refl
    (barred-of_rule (first_withstanding entries asker wanted) _ (cond-of_rule (sum_exceeds entries asker wanted) _ _ refl tt))

-- ---- one kind after the other

by_grant : (Q : Verdict → Type 0) (s : State) (r : Result (List Entry) AskFault) → IsOfRule r → ((f : Refusal) → IsPlain f → Q (Refuses f))
    → ((locks : List Entry) → r ≡ Ok locks → Q (Leaves (record s { locks = locks }) reply.Done)) → Q (granting s r)
by_grant Q s (Ok locks) own refuse grant = grant locks refl
by_grant Q s (Err f) own refuse grant = refuse (ask_refusal f) own

by_conversion : (Q : Verdict → Type 0) (s : State) (r : Result Conversion AskFault) → IsOfRule r → ((f : Refusal) → IsPlain f → Q (Refuses f))
    → ((c : Conversion) → r ≡ Ok c → Q (Leaves (record s { locks = c.entries }) reply.Done)) → Q (converting s r)
by_conversion Q s (Ok c) own refuse convert = convert c refl
by_conversion Q s (Err f) own refuse convert = refuse (ask_refusal f) own

-- only a lock server that is there is ended
kills_up : (full : Bool) (k : Condition)
    → or_else (if full then Some refusal.LogFull else down_refusal k (OfAdmin Kills)) (or_else None (server_refusal k (OfAdmin Kills))) ≡ None
    → k ≡ condition.Up
kills_up true k e = cc
kills_up false condition.Up e = refl
kills_up false condition.NoServer e = cc
kills_up false (condition.Doubt n) e = cc

-- and a replica follows one
attaches_up : (full : Bool) (k : Condition)
    → or_else (if full then Some refusal.LogFull else down_refusal k (OfAdmin Attaches)) (or_else None (server_refusal k (OfAdmin Attaches))) ≡ None
    → k ≡ condition.Up
attaches_up true k e = cc
attaches_up false condition.Up e = refl
attaches_up false condition.NoServer e = cc
attaches_up false (condition.Doubt n) e = cc

no_server_up : condition.NoServer ≡ condition.Up → ⊥
no_server_up e = cc

in_doubt_up : (n : ℕ) → condition.Doubt n ≡ condition.Up → ⊥
in_doubt_up n e = cc

module _ (P : Call → Verdict → Type 0) (found : Found) (s : State) (each : OfEach P found s) where
  -- without numbers there are none of a stock
  nothing-holds : (name : List ℕ) (x : Session) (parts : Parts) (stock : List Num) → session_at s.sessions name ≡ Some x → length (x.draws ++ stock) ≡ 0
      → P (OfSession name (Commits parts stock)) (Leaves (stocked stock s) reply.Done)
  nothing-holds name x parts [] at none = each.commits_nothing name x parts [] at
  nothing-holds name x parts (num ∷ stock) at none =
      let long = length-append x.draws (num ∷ stock) in
      absurd (omega (arith, long, none))

  commit-holds : (name : List ℕ) (x : Session) (parts : Parts) (stock : List Num) → session_at s.sessions name ≡ Some x
      → P (OfSession name (Commits parts stock)) (commit s x parts stock)
  commit-holds name x parts stock at =
      let numbers = x.draws ++ stock in
      let Q : Verdict → Type 0 = λ v. P (OfSession name (Commits parts stock)) (passing stock v) in
      one_of Q (nat_lt 64 (length numbers) || nat_lt 200 (effects_in parts)) _ _ (λ e. each.refuses _ _ refl)
      (λ e. one_of Q (nat_eq (effects_in parts) 0 && nat_eq (length numbers) 0) _ _
      (λ f. nothing-holds name x parts stock at (eqb-true (length numbers) 0 (and_parts (nat_eq (effects_in parts) 0) (nat_eq (length numbers) 0) f).1))
      (λ f. by_room Q s _ (each.refuses _ _ refl)
      (one_of Q (nat_eq (effects_in parts) 0) _ _ (λ g. each.commits_numbers name x parts stock at) (λ g. each.commits name x parts stock at))))

  giving-holds : (name : List ℕ) (x : Session) (object nr : List ℕ) (r : NumberRange) → session_at s.sessions name ≡ Some x
      → range_at s.ranges object nr ≡ Some r → nat_le 64 (length x.draws) ≡ false → other_holder s.sessions x.name (present s.stored.levels r.interval) ≡ None
      → P (OfSession name (Draws object nr)) (giving s x (present s.stored.levels r.interval) (next_number r (present s.stored.levels r.interval) x))
  giving-holds name x object nr r at range few free =
      one_of (P (OfSession name (Draws object nr))) (nat_lt r.interval.to (next_number r (present s.stored.levels r.interval) x)) _ _
      (λ e. each.refuses _ _ refl)
      (λ e. each.draws name x object nr r at (record { range = range; few = few; free = free; within = e }))

  holder-holds : (name : List ℕ) (x : Session) (object nr : List ℕ) (r : NumberRange) (o : Option Session) → session_at s.sessions name ≡ Some x
      → range_at s.ranges object nr ≡ Some r → nat_le 64 (length x.draws) ≡ false → other_holder s.sessions x.name (present s.stored.levels r.interval) ≡ o
      → P (OfSession name (Draws object nr))
      (elim o [
        | Some y ↦ Refuses (refusal.IntervalBusy y.name)
        | None ↦ giving s x (present s.stored.levels r.interval)
            (next_number r (present s.stored.levels r.interval) x)
      ])
  holder-holds name x object nr r None at range few free = giving-holds name x object nr r at range few free
  holder-holds name x object nr r (Some y) at range few busy = each.refuses _ _ refl

  drawing-holds : (name : List ℕ) (x : Session) (object nr : List ℕ) (o : Option NumberRange) → session_at s.sessions name ≡ Some x
      → range_at s.ranges object nr ≡ o
      → P (OfSession name (Draws object nr)) (elim o [ None ↦ Refuses refusal.IntervalNotFound | Some r ↦ drawing s x r (present s.stored.levels r.interval) ])
  drawing-holds name x object nr None at range = each.refuses _ _ refl
  drawing-holds name x object nr (Some r) at range =
      one_of (P (OfSession name (Draws object nr))) (nat_le 64 (length x.draws)) _ _ (λ e. each.refuses _ _ refl)
      (λ few. holder-holds name x object nr r (other_holder s.sessions x.name (present s.stored.levels r.interval)) at range few refl)

  reserving-holds : (name : List ℕ) (x : Session) (object nr : List ℕ) (upto : ℕ) (o : Option NumberRange) → session_at s.sessions name ≡ Some x
      → range_at s.ranges object nr ≡ o
      → P (OfSession name (Reserves object nr upto))
      (elim o [ None ↦ Refuses refusal.IntervalNotFound | Some r ↦ reserving s (present s.stored.levels r.interval) upto ])
  reserving-holds name x object nr upto None at range = each.refuses _ _ refl
  reserving-holds name x object nr upto (Some r) at range =
      let Q = P (OfSession name (Reserves object nr upto)) in
      one_of Q (not (is_buffered r.interval)) _ _ (λ e. each.refuses _ _ refl)
      (λ buffered. one_of Q (nat_lt r.interval.to upto) _ _ (λ e. each.refuses _ _ refl)
      (λ within. each.reserves name x object nr upto r at (record { range = range; buffered = buffered; within = within })))

  session-holds : (name : List ℕ) (x : Session) (call : SessionCall) → session_at s.sessions name ≡ Some x
      → P (OfSession name call) (session_call found s x call)
  session-holds name x LogsOff at = each.logs_off name x at
  session-holds name x (Asks rs) at =
      by_grant (P (OfSession name (Asks rs))) s _ (asked-of_rule (table_in s) (pair_of s.stored.start x) x.user rs) (each.refuses _)
      (λ locks e. each.grants name x rs locks at e)
  session-holds name x (Frees rs) at = each.lowers name x rs at
  session-holds name x FreesAll at = each.frees name x at
  session-holds name x (Converts wanted) at =
      by_conversion (P (OfSession name (Converts wanted))) s _ (converted-of_rule s.locks (pair_of s.stored.start x) wanted) (each.refuses _)
      (λ c e. each.converts name x wanted c at e)
  session-holds name x (Draws object nr) at = drawing-holds name x object nr (range_at s.ranges object nr) at refl
  session-holds name x (Reserves object nr upto) at = reserving-holds name x object nr upto (range_at s.ranges object nr) at refl
  session-holds name x (Reads table key) at = each.reads name x table key at
  session-holds name x (Commits parts stock) at = commit-holds name x parts stock at
  session-holds name x RollsBack at = each.rolls_back name x at

  called-holds : (name : List ℕ) (call : SessionCall) (o : Option Session) → session_at s.sessions name ≡ o → P (OfSession name call) (called found s call o)
  called-holds name call None at = each.refuses _ _ refl
  called-holds name call (Some x) at = session-holds name x call at

  taking-holds : (worker : ℕ) (part : Part) (o : Option UnitKey) → order_of s.orders worker ≡ None → first_unclaimed s.orders (waiting_for part s.stored) ≡ o
      → P (OfWorker worker (Takes part)) (taking s worker o)
  taking-holds worker part None free e = each.refuses _ _ refl
  taking-holds worker part (Some unit) free e = each.takes worker part unit free e

  take-holds : (worker : ℕ) (part : Part) (o : Option UnitKey) → order_of s.orders worker ≡ o
      → P (OfWorker worker (Takes part))
      (elim o [ Some unit ↦ Refuses (refusal.WorkerBusy unit) | None ↦ taking s worker (first_unclaimed s.orders (waiting_for part s.stored)) ])
  take-holds worker part None e = taking-holds worker part (first_unclaimed s.orders (waiting_for part s.stored)) e refl
  take-holds worker part (Some unit) e = each.refuses _ _ refl

  post-holds : (worker : ℕ) (part : Part) (o : Option UnitKey) → order_for part s.stored s.orders worker ≡ o
      → P (OfWorker worker (Posts part))
      (elim o [ None ↦ Refuses refusal.NoOrder | Some unit ↦ with_room s (posting part s worker unit (found.part part unit)) ])
  post-holds worker part None e = each.refuses _ _ refl
  post-holds worker part (Some unit) e = by_room (P (OfWorker worker (Posts part))) s _ (each.refuses _ _ refl) (each.posts worker part unit e)

  drop-holds : (worker : ℕ) (o : Option UnitKey) → order_of s.orders worker ≡ o
      → P (OfWorker worker Drops)
      (elim o [ None ↦ Refuses refusal.NoOrder | Some unit ↦ Leaves (record s { orders = without_order s.orders worker }) (reply.Unit unit) ])
  drop-holds worker None e = each.refuses _ _ refl
  drop-holds worker (Some unit) e = each.drops worker unit e

  logon-holds : (name user : List ℕ) → P (LogsOn name user) (logon s name user)
  logon-holds name user =
      let Q = P (LogsOn name user) in
      one_of Q (is_some (session_at s.sessions name)) _ _ (λ e. each.refuses _ _ refl)
      (λ free. one_of Q (nat_le 1024 (length s.sessions)) _ _ (λ e. each.refuses _ _ refl) (λ e. each.enters name user free))

  restart-holds : (k : Condition) → s.condition ≡ k → P (OfAdmin Restarts) (elim k [
    | condition.Up ↦ Refuses refusal.ServerUp
    | condition.NoServer ↦ Leaves (restarted (is_taken found.anew) s) reply.Done
    | condition.Doubt n ↦ Leaves (restarted (is_taken found.anew) s) reply.Done
  ])
  restart-holds condition.Up up = each.refuses _ _ refl
  restart-holds condition.NoServer none = each.restarts (λ up. no_server_up (sym none ∙ up))
  restart-holds (condition.Doubt n) down = each.restarts (λ up. in_doubt_up n (sym down ∙ up))

  clashing-holds : (o : Option (ℕ × ℕ)) → IsStray found s → P (OfAdmin FailsOver) (clashing s o)
  clashing-holds None stray = each.strays 0 0 stray
  clashing-holds (Some places) stray = each.strays places.0 places.1 stray

  handing-holds : s.condition ≡ condition.NoServer → s.attached ≡ true → P (OfAdmin FailsOver) (handing s found.list)
  handing-holds none followed =
      let list = found.list in
      let Q = P (OfAdmin FailsOver) in
      one_of Q (is_sound list) _ _
      (λ sound. each.fails_over (record { none = none; followed = followed; sound = sound }))
      (λ e. clashing-holds (first_clash list) (record { none = none; astray = e }))

  over-holds : (k : Condition) → s.condition ≡ k → P (OfAdmin FailsOver) (elim k [
    | condition.Up ↦ Refuses refusal.ServerUp
    | condition.NoServer ↦ from_replica found s
    | condition.Doubt n ↦ Refuses (refusal.Down n)
  ])
  over-holds condition.Up up = each.refuses _ _ refl
  over-holds condition.NoServer none =
      one_of (P (OfAdmin FailsOver)) s.attached _ _ (λ followed. handing-holds none followed) (λ e. each.refuses _ _ refl)
  over-holds (condition.Doubt n) down = each.refuses _ _ refl

  own-holds : (call : Call) → unavailable s call ≡ None → P call (own_verdict found s call)
  own-holds (LogsOn name user) free = logon-holds name user
  own-holds (OfSession name call) free = called-holds name call (session_at s.sessions name) refl
  own-holds (OfWorker worker (Takes part)) free = take-holds worker part (order_of s.orders worker) refl
  own-holds (OfWorker worker (Posts part)) free = post-holds worker part (order_for part s.stored s.orders worker) refl
  own-holds (OfWorker worker Drops) free = drop-holds worker (order_of s.orders worker) refl
  own-holds (OfAdmin Kills) free = each.kills (kills_up (is_full s) s.condition free)
  own-holds (OfAdmin FailsOver) free = over-holds s.condition refl
  own-holds (OfAdmin Restarts) free = restart-holds s.condition refl
  own-holds (OfAdmin Attaches) free = each.attaches (attaches_up (is_full s) s.condition free)
  own-holds (OfAdmin (Cancels unit)) free = by_cancel (P (OfAdmin (Cancels unit))) s unit (each.refuses _) (each.cancels unit)
  own-holds (OfAdmin (Resubmits unit)) free = by_resubmit (P (OfAdmin (Resubmits unit))) s unit (each.refuses _) (each.reopens unit) (each.reposts unit)

-- ---- why a call isn't served

-- a refusal is plain, if there is one
abbrev pub ArePlain : Option Refusal → Type 0
ArePlain None = Unit {0}
ArePlain (Some r) = IsPlain r

plain_if : (b : Bool) (r : Refusal) (o : Option Refusal) → IsPlain r → ArePlain o → ArePlain (if b then Some r else o)
plain_if true r o p q = p
plain_if false r o p q = q

plain_else : (o p : Option Refusal) → ArePlain o → ArePlain p → ArePlain (or_else o p)
plain_else None p h k = k
plain_else (Some r) p h k = h

plain_unless : (b : Bool) (r : Refusal) → IsPlain r → ArePlain (if b then None else Some r)
plain_unless true r p = tt
plain_unless false r p = p

plain_down : (k : Condition) (call : Call) → ArePlain (down_refusal k call)
plain_down condition.Up call = tt
plain_down condition.NoServer call = tt
plain_down (condition.Doubt n) call = plain_unless (restarts call) (refusal.Down n) refl

plain_server : (k : Condition) (call : Call) → ArePlain (server_refusal k call)
plain_server condition.Up call = tt
plain_server condition.NoServer call = plain_if (wants_server call) refusal.SystemFailure None refl tt
plain_server (condition.Doubt n) call = tt

plain_session : (call : SessionCall) (o : Option Session) → ArePlain (session_refusal call o)
plain_session call None = refl
plain_session call (Some x) = plain_if _ refusal.LocksLost None refl tt

plain_caller : (sessions : List Session) (call : Call) → ArePlain (caller_refusal sessions call)
plain_caller sessions (LogsOn name user) = tt
plain_caller sessions (OfSession name call) = plain_session call (session_at sessions name)
plain_caller sessions (OfWorker worker call) = tt
plain_caller sessions (OfAdmin call) = tt

pub plain_unavailable : (s : State) (call : Call) → ArePlain (unavailable s call)
plain_unavailable s call =
    plain_else (barred s call) _ (plain_if _ refusal.LogFull _ refl (plain_down s.condition call))
    (plain_else (caller_refusal s.sessions call) _ (plain_caller s.sessions call) (plain_server s.condition call))

unless_holds : (Q : Verdict → Type 0) (o : Option Refusal) (v : Verdict) → ArePlain o → ((r : Refusal) → IsPlain r → Q (Refuses r)) → (o ≡ None → Q v)
    → Q (unless_refused o v)
unless_holds Q None v plain refuse h = h refl
unless_holds Q (Some r) v plain refuse h = refuse r plain

-- ---- any call

pub by_call : (P : Call → Verdict → Type 0) (found : Found) (s : State) → OfEach P found s → (call : Call) → P call (call_verdict found s call)
unfolding call_verdict
by_call P found s each call =
    unless_holds (P call) (unavailable s call) (own_verdict found s call) (plain_unavailable s call) (each.refuses call) (own-holds P found s each call)

-- a restart, and all other calls
pub by_restart : (Q : Call → Type 0) → Q (OfAdmin Restarts) → ((call : Call) → restarts call ≡ false → Q call) → (call : Call) → Q call
by_restart Q anew other (LogsOn name user) = other _ refl
by_restart Q anew other (OfSession name call) = other _ refl
by_restart Q anew other (OfWorker worker call) = other _ refl
by_restart Q anew other (OfAdmin Kills) = other _ refl
by_restart Q anew other (OfAdmin FailsOver) = other _ refl
by_restart Q anew other (OfAdmin Attaches) = other _ refl
by_restart Q anew other (OfAdmin Restarts) = anew
by_restart Q anew other (OfAdmin (Cancels unit)) = other _ refl
by_restart Q anew other (OfAdmin (Resubmits unit)) = other _ refl

-- as `by_call`, of a call that may be made
pub by_made : (P : Call → Verdict → Type 0) (found : Found) (s : State) → OfEach (λ call v. MayCall s call → P call v) found s → (call : Call) → MayCall s call
    → P call (call_verdict found s call)
by_made P found s each call may = by_call (λ c v. MayCall s c → P c v) found s each call may

-- ---- a server in doubt

none_first : (o later : Option Refusal) → or_else o later ≡ None → o ≡ None
none_first None later e = refl
none_first (Some r) later e = cc

down_if : (anew : Bool) (n : ℕ) → anew ≡ false → (if anew then None else Some (refusal.Down n)) ≡ None → ⊥
down_if true n off e = cc
down_if false n off e = cc

not_barred : (full : Bool) (o : Option Refusal) → (o ≡ None → ⊥) → (if full then Some refusal.LogFull else o) ≡ None → ⊥
not_barred true o shut e = cc
not_barred false o shut e = shut e

-- a call but for a restart isn't served
pub shut_in_doubt : (s : State) (n : ℕ) (call : Call) → s.condition ≡ condition.Doubt n → restarts call ≡ false → unavailable s call ≡ None → ⊥
shut_in_doubt s n call down off e =
    not_barred (is_full s) (down_refusal s.condition call)
    (λ free. down_if (restarts call) n off (subst (λ k. down_refusal k call ≡ None) down free))
    (none_first (barred s call) _ e)

refuses_where : (Q : Verdict → Type 0) (o : Option Refusal) (v : Verdict) → (o ≡ None → ⊥) → ((r : Refusal) → Q (Refuses r)) → Q (unless_refused o v)
refuses_where Q None v shut refuse = absurd (shut refl)
refuses_where Q (Some r) v shut refuse = refuse r

-- it is refused
pub in_doubt_refused : (Q : Verdict → Type 0) (found : Found) (s : State) (n : ℕ) (call : Call) → s.condition ≡ condition.Doubt n → restarts call ≡ false
    → ((r : Refusal) → Q (Refuses r)) → Q (call_verdict found s call)
unfolding call_verdict
in_doubt_refused Q found s n call down off refuse =
    refuses_where Q (unavailable s call) (own_verdict found s call) (shut_in_doubt s n call down off) refuse

anew_in : (Q : Verdict → Type 0) (found : Found) (s : State) → ((r : Refusal) → Q (Refuses r)) → Q (Leaves (restarted (is_taken found.anew) s) reply.Done)
    → Q (restart found s)
anew_in Q found s refuse anew =
    elim s.condition as (λ k. Q (elim k [
      | condition.Up ↦ Refuses refusal.ServerUp
      | condition.NoServer ↦ Leaves (restarted (is_taken found.anew) s) reply.Done
      | condition.Doubt n ↦ Leaves (restarted (is_taken found.anew) s) reply.Done
    ])) [
      | condition.Up ↦ refuse refusal.ServerUp
      | condition.NoServer ↦ anew
      | condition.Doubt n ↦ anew
    ]

-- a restart is refused, or makes a lock server anew
pub by_anew : (Q : Verdict → Type 0) (found : Found) (s : State) → ((r : Refusal) → Q (Refuses r)) → Q (Leaves (restarted (is_taken found.anew) s) reply.Done)
    → Q (call_verdict found s (OfAdmin Restarts))
unfolding call_verdict
by_anew Q found s refuse anew =
    elim (unavailable s (OfAdmin Restarts)) as (λ o. Q (unless_refused o (own_verdict found s (OfAdmin Restarts)))) [
      | None ↦ anew_in Q found s refuse anew
      | Some r ↦ refuse r
    ]

-- what is called in doubt
pub by_doubt : (Q : Call → Verdict → Type 0) (found : Found) (s : State) (n : ℕ) (call : Call) → s.condition ≡ condition.Doubt n
    → ((c : Call) (r : Refusal) → Q c (Refuses r)) → Q (OfAdmin Restarts) (Leaves (restarted (is_taken found.anew) s) reply.Done)
    → Q call (call_verdict found s call)
by_doubt Q found s n call down refuse anew =
    by_restart (λ c. Q c (call_verdict found s c)) (by_anew (Q (OfAdmin Restarts)) found s (refuse (OfAdmin Restarts)) anew)
    (λ c off. in_doubt_refused (Q c) found s n c down off (refuse c)) call

-- where the store fails in doubt the change in flight stays the one before
pub in_flight_stays : (found : Found) (s : State) (n : ℕ) (call : Call) → s.condition ≡ condition.Doubt n
    → in_flight_after s call (call_verdict found s call) ≡ s.in_flight
in_flight_stays found s n call down = by_doubt (λ c v. in_flight_after s c v ≡ s.in_flight) found s n call down (λ c r. refl) refl

-- numbers of a stock aren't handed out again, and any other call leaves the ranges
pub by_stock : (Q : Call → State → Type 0) (s : State)
    → ((name : List ℕ) (parts : Parts) (stock : List Num) → Q (OfSession name (Commits parts stock)) (stocked stock s)) → ((call : Call) → Q call s)
    → (call : Call) → Q call (without_stock call s)
by_stock Q s commits other (LogsOn name user) = other _
by_stock Q s commits other (OfSession name LogsOff) = other _
by_stock Q s commits other (OfSession name (Asks rs)) = other _
by_stock Q s commits other (OfSession name (Frees rs)) = other _
by_stock Q s commits other (OfSession name FreesAll) = other _
by_stock Q s commits other (OfSession name (Converts wanted)) = other _
by_stock Q s commits other (OfSession name (Draws object nr)) = other _
by_stock Q s commits other (OfSession name (Reserves object nr upto)) = other _
by_stock Q s commits other (OfSession name (Reads table key)) = other _
by_stock Q s commits other (OfSession name (Commits parts stock)) = commits name parts stock
by_stock Q s commits other (OfSession name RollsBack) = other _
by_stock Q s commits other (OfWorker worker call) = other _
by_stock Q s commits other (OfAdmin call) = other _

-- ---- any event

-- What is shown of what a call comes to, of want of memory, of a link that failed, and of a server in doubt, is shown of what is
-- served, where it stays so without the replica.
pub by_event : (Q : Served → Type 0) (o : DeviceOutcome) (s : State) (c : Command) → ((lost : Bool) (done : Served) → Q done → Q (losing lost done))
    → ((found : Found) → Q (judged s (verdict found s c)))
    → Q (refused s refusal.NoMemory)
    → Q (refused (detached s) refusal.LinkFault)
    → ((reading : Reading) → Q (refused (doubted (without_stock (call_of c) s) (call_of c) None
    (in_flight_after s (call_of c) (verdict (found_by reading s) s c))) refusal.StoreFault))
    → ((reading : Reading) → Q (refused (unfiled s (call_of c) (read_anew reading)
    (stored_before_file s (call_of c) (verdict (found_by reading s) s c))) refusal.BackupFault))
    → ((read : Option Bool) (r : Refusal) → Q (refused (doubted s (call_of c) read s.in_flight) r)) → Q (served o s c)
by_event Q o s c loses well wanting unlinked fails unfiles remakes =
    let found = found_by o.reading s in
    loses o.lost (ends_in o.event o.reading s (call_of c) (verdict found s c))
    (elim o.event as (λ e. Q (ends_in e o.reading s (call_of c) (verdict found s c))) [
      | AllWell ↦ well found
      | Wanting ↦ wanting
      | StoreFails ↦ fails o.reading
      | BackupFails ↦ unfiles o.reading
      | LinkFails ↦ unlinked
      | NotRemade fault ↦ remakes (read_anew o.reading) (fault_told fault)
    ])

-- What the store has where the disk of the backup file fails: what it had, or with the mark of a post or of a cancelling.
pub by_filing : (P : Ledger → Type 0) (found : Found) (s : State) (call : Call) → P s.stored
    → ((worker : ℕ) (part : Part) (unit : UnitKey) → order_for part s.stored s.orders worker ≡ Some unit
    → P (marked part s worker unit (kind_for part (found.part part unit))).stored)
    → ((unit : UnitKey) (status : Status) → CanBeCancelled s.stored s.orders s.mark_limit unit status → P (cancelled s unit status).stored)
    → P (stored_before_file s call (call_verdict found s call))
by_filing P found s call same posts cancels =
    by_call (λ c v. P (stored_before_file s c v)) found s (record {
      refuses = λ c r plain. same;
      enters = λ name user free. same;
      logs_off = λ name x at. same;
      grants = λ name x rs locks at e. same;
      lowers = λ name x rs at. same;
      frees = λ name x at. same;
      converts = λ name x wanted c at e. same;
      draws = λ name x object nr r at can. same;
      reserves = λ name x object nr upto r at can. same;
      reads = λ name x table key at. same;
      commits_nothing = λ name x parts stock at. same;
      commits_numbers = λ name x parts stock at. same;
      commits = λ name x parts stock at. same;
      rolls_back = λ name x at. same;
      takes = λ worker part unit free e. same;
      posts = λ worker part unit e. posts worker part unit e;
      drops = λ worker unit e. same;
      kills = λ up. same;
      fails_over = λ can. same;
      strays = λ first second none. same;
      attaches = λ up. same;
      restarts = λ off. same;
      cancels = λ unit status can. cancels unit status can;
      reopens = λ unit es here stand. same;
      reposts = λ unit here. same;
    }) call
