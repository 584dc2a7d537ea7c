-- A call comes to what its command's verdict says.
use Rattle.std.proofs.Common.{◌≡◌, ℕ, ◌+◌, Bool, true, false, List, [], ◌∷◌, ◌++◌, length, fold, refl, sym, ap, ◌∙◌, subst}
use Rattle.std.specs.Prelude.{nat_le, if◌then◌else◌, Option, Some, None, is_some, Result, Ok, Err, IsTrue}
use Rattle.enq_base.specs.declared.refusal.Refusal.{Refusal}
use Rattle.enq_base.specs.declared.refusal.Refusal.TheVariants as refusal
use Rattle.enq_server.specs.Faults.{IsRefusal}
use Rattle.enq_server.specs.declared.fault.ServerFault.{ServerFault}
use Rattle.enq_server.specs.declared.fault.ServerFault.TheVariants as server
use Rattle.lock_entry.specs.declared.entry.Asker.{Asker}
use Rattle.lock_entry.specs.declared.fault.AskFault.{AskFault}
use Rattle.lock_entry.specs.declared.fault.AskFault.TheVariants as fault
use Rattle.lock_entry.specs.declared.entry.Entry.{Entry}
use Rattle.lock_entry.specs.declared.entry.Request.{Request}
use Rattle.lock_entry.specs.declared.entry.Asked.{Asked}
use Rattle.lock_entry.specs.Converting.{Conversion, converted}
use Rattle.lock_entry.specs.Granting.{asked}
use Rattle.lock_entry.specs.Freeing.{freed, freed_owner}
use Rattle.lock_entry.specs.Names.{halves}
use Rattle.lock_entry.specs.Table.{Table, IsFaultOf}
use Rattle.hall_model.specs.declared.command.Command.{Command}
use Rattle.hall_model.specs.declared.command.Command.TheVariants as command
use Rattle.hall_model.specs.declared.command.Reply.{Reply}
use Rattle.hall_model.specs.declared.command.Reply.TheVariants as reply
use Rattle.hall_model.specs.declared.command.Session.{Session}
use Rattle.hall_model.specs.Acts.{Admits, IsAct}
use Rattle.hall_model.specs.Calls.{Call, LogsOn, OfSession, OfWorker, OfAdmin, Kills, FailsOver, Restarts, Attaches, Cancels, Resubmits, SessionCall, LogsOff}
use Rattle.hall_model.specs.Calls.{Asks, Frees, FreesAll, Converts, RollsBack, call_of, only_reads, writes_store_first}
use Rattle.hall_model.specs.Devices.{BackupFails, MayBeDone, StoreFails, Wanting, all_well, may_want, only, uses_file, uses_store}
use Rattle.hall_model.specs.History.{doubted, in_flight_after, judged, refused, stored_before_file, unfiled, without_stock}
use Rattle.hall_model.specs.Sessions.{begun, session_at, without_session, with_session, with_fresh_unit, pair_of}
use Rattle.hall_model.specs.State.{State}
use Rattle.hall_model.specs.Step.{Found, Verdict, Refuses, Leaves, answer_of, ask_refusal, call_verdict, called, converting, entered, fault_refusal, found_in}
use Rattle.hall_model.specs.Step.{granting, leaves, logon, own_verdict, session_call, unavailable, unless_refused, verdict}

-- a call that nothing bars comes to what it asks for
pub admitted : (found : Found) (s : State) (c : Command) → Admits s c → call_verdict found s (call_of c) ≡ own_verdict found s (call_of c)
unfolding call_verdict
admitted found s c h = ap (λ o. unless_refused o (own_verdict found s (call_of c))) h.served

-- ---- what calls come to

-- where a call is refused nothing more is asked
pub refused_done : (call : Call) (r : Refusal) → MayBeDone call (Refuses r)
refused_done (LogsOn name user) r = tt
refused_done (OfSession name call) r = tt
refused_done (OfWorker worker call) r = tt
refused_done (OfAdmin Kills) r = tt
refused_done (OfAdmin FailsOver) r = tt
refused_done (OfAdmin Restarts) r = tt
refused_done (OfAdmin Attaches) r = tt
refused_done (OfAdmin (Cancels unit)) r = tt
refused_done (OfAdmin (Resubmits unit)) r = tt

-- the devices did well
pub tells : (s : State) (c : Command) (v : Verdict) (after : State) (r : Reply) → MayBeDone (call_of c) v → Admits s c
    → own_verdict (found_in s) s (call_of c) ≡ v → judged s v ≡ record { state = after; reply = r } → IsAct s c after r
tells s c v after r may h e j =
    let is = admitted (found_in s) s c h ∙ e in
    record {
      outcome = all_well;
      possible = record { reading = tt; event = subst (MayBeDone (call_of c)) (sym is) may; lost = tt };
      same = ap (judged s) is ∙ j;
    }

pub refuses : (s : State) (c : Command) (r : Refusal) → Admits s c → own_verdict (found_in s) s (call_of c) ≡ Refuses r → IsAct s c s (reply.Refused r)
refuses s c r h e = tells s c (Refuses r) s (reply.Refused r) (refused_done (call_of c) r) h e refl

pub leaves_as : (s : State) (c : Command) (after : State) (r : Reply) → MayBeDone (call_of c) (Leaves after r) → Admits s c
    → own_verdict (found_in s) s (call_of c) ≡ Leaves after r → IsAct s c after r
leaves_as s c after r may h e = tells s c (Leaves after r) after r may h e refl

pub is_done : (s : State) (c : Command) (after : State) → MayBeDone (call_of c) (Leaves after reply.Done) → Admits s c
    → own_verdict (found_in s) s (call_of c) ≡ Leaves after reply.Done → IsAct s c after reply.Done
is_done s c after may h e = leaves_as s c after reply.Done may h e

-- memory was wanting
pub is_wanting : (s : State) (c : Command) → unavailable s (call_of c) ≡ None → IsTrue (may_want s (verdict (found_in s) s c) (call_of c))
    → IsAct s c s (reply.Refused refusal.NoMemory)
is_wanting s c free may = record { outcome = only Wanting; possible = record { reading = tt; event = (free, may); lost = tt }; same = refl }

-- the store failed
pub fails : (s : State) (c : Command) (after : State) (r : Reply) → Admits s c → own_verdict (found_in s) s (call_of c) ≡ Leaves after r
    → IsTrue (uses_store s (call_of c)) → only_reads (call_of c) ≡ false
    → IsAct s c (doubted (without_stock (call_of c) s) (call_of c) None (Some after.stored)) (reply.Refused refusal.StoreFault)
fails s c after r h e uses writes =
    let v = admitted (found_in s) s c h ∙ e in
    record {
      outcome = only StoreFails;
      possible = record { reading = tt; event = (ap leaves v, uses); lost = tt };
      same = ap (λ x. refused (doubted (without_stock (call_of c) s) (call_of c) None (in_flight_after s (call_of c) x)) refusal.StoreFault) v
          ∙ ap (λ b. refused (doubted (without_stock (call_of c) s) (call_of c) None (if b then s.in_flight else Some after.stored)) refusal.StoreFault) writes;
    }

-- the disk of the backup file failed
pub fails_filing : (s : State) (c : Command) (after : State) (r : Reply) → Admits s c → own_verdict (found_in s) s (call_of c) ≡ Leaves after r
    → IsTrue (uses_file s (call_of c))
    → IsAct s c (unfiled s (call_of c) None (if writes_store_first (call_of c) then after.stored else s.stored)) (reply.Refused refusal.BackupFault)
fails_filing s c after r h e uses =
    let v = admitted (found_in s) s c h ∙ e in
    record {
      outcome = only BackupFails;
      possible = record { reading = tt; event = (ap leaves v, uses); lost = tt };
      same = ap (λ x. refused (unfiled s (call_of c) None (stored_before_file s (call_of c) x)) refusal.BackupFault) v;
    }

pub at_state : (s : State) (c : Command) (after other : State) (r : Reply) → after ≡ other → IsAct s c after r → IsAct s c other r
at_state s c after other r e h = subst (λ x. IsAct s c x r) e h

-- by another name
pub act_as : {s after : State} {c d : Command} {r : Reply} → c ≡ d → IsAct s d after r → IsAct s c after r
act_as {s = s} {after = after} {r = r} is act = subst (λ x. IsAct s x after r) (sym is) act

-- a call that leaves the sessions, with these as its own
pub same_sessions : {s : State} {c : Command} {r : Reply} {sessions : List Session} {locks : List Entry} → s.sessions ≡ sessions
    → IsAct s c (record s { locks = locks }) r → IsAct s c (record s { sessions = sessions; locks = locks }) r
same_sessions {s = s} {c = c} {r = r} {locks = locks} is act =
    subst (λ after. IsAct s c after r) (λ i. record s { sessions = is i; locks = locks }) act

pub found_at : (s : State) (sessions : List Session) (name : List ℕ) (o : Option Session) → s.sessions ≡ sessions → session_at sessions name ≡ o
    → session_at s.sessions name ≡ o
found_at s sessions name o e f = ap (λ xs. session_at xs name) e ∙ f

-- ---- logging on

pub logs_on_twice : (s : State) (sessions : List Session) (next : ℕ) (name user : List ℕ) → s.sessions ≡ sessions → s.next_session ≡ next
    → Admits s (command.Logon name user) → is_some (session_at sessions name) ≡ true
    → IsAct s (command.Logon name user) (record s { sessions = sessions; next_session = next }) (reply.Refused refusal.SessionExists)
logs_on_twice s sessions next name user e f room there =
    let there : is_some (session_at s.sessions name) ≡ true = ap (λ xs. is_some (session_at xs name)) e ∙ there in
    at_state _ _ s _ _ (λ i. record s { sessions = e i; next_session = f i })
    (refuses s (command.Logon name user) refusal.SessionExists room
    (ap (λ b. if b then Refuses
    refusal.SessionExists else (if nat_le 1024 (length s.sessions) then Refuses refusal.SessionsFull else Leaves (entered s name user) reply.Done)) there))

-- the name is free, and there is room or none
abbrev entering : State → List ℕ → List ℕ → Bool → Verdict
entering s name user full = if full then Refuses refusal.SessionsFull else Leaves (entered s name user) reply.Done

logon_free : (s : State) (name user : List ℕ) (full : Bool) → is_some (session_at s.sessions name) ≡ false → nat_le 1024 (length s.sessions) ≡ full
    → logon s name user ≡ entering s name user full
logon_free s name user full free limit =
    ap (λ b. if b then Refuses refusal.SessionExists else entering s name user (nat_le 1024 (length s.sessions))) free ∙ ap (entering s name user) limit

pub logs_on_full : (s : State) (sessions : List Session) (next : ℕ) (name user : List ℕ) → s.sessions ≡ sessions → s.next_session ≡ next
    → Admits s (command.Logon name user) → is_some (session_at sessions name) ≡ false → nat_le 1024 (length sessions) ≡ true
    → IsAct s (command.Logon name user) (record s { sessions = sessions; next_session = next }) (reply.Refused refusal.SessionsFull)
logs_on_full s sessions next name user e f room free full =
    let free : is_some (session_at s.sessions name) ≡ false = ap (λ xs. is_some (session_at xs name)) e ∙ free in
    let full : nat_le 1024 (length s.sessions) ≡ true = ap (λ xs. nat_le 1024 (length xs)) e ∙ full in
    at_state _ _ s _ _ (λ i. record s { sessions = e i; next_session = f i })
    (refuses s (command.Logon name user) refusal.SessionsFull room (logon_free s name user true free full))

pub logs_on_wanting : (s : State) (sessions : List Session) (next : ℕ) (name user : List ℕ) → s.sessions ≡ sessions → s.next_session ≡ next
    → Admits s (command.Logon name user) → is_some (session_at sessions name) ≡ false → nat_le 1024 (length sessions) ≡ false
    → IsAct s (command.Logon name user) (record s { sessions = sessions; next_session = next }) (reply.Refused refusal.NoMemory)
logs_on_wanting s sessions next name user e f room free limit =
    let free : is_some (session_at s.sessions name) ≡ false = ap (λ xs. is_some (session_at xs name)) e ∙ free in
    let limit : nat_le 1024 (length s.sessions) ≡ false = ap (λ xs. nat_le 1024 (length xs)) e ∙ limit in
    at_state _ _ s _ _ (λ i. record s { sessions = e i; next_session = f i })
    (is_wanting s (command.Logon name user) room.served
    (ap leaves (admitted (found_in s) s (command.Logon name user) room ∙ logon_free s name user false free limit)))

pub logs_on : (s : State) (sessions : List Session) (next : ℕ) (name user : List ℕ) → s.sessions ≡ sessions → s.next_session ≡ next
    → Admits s (command.Logon name user) → is_some (session_at sessions name) ≡ false → nat_le 1024 (length sessions) ≡ false
    → IsAct s (command.Logon name user) (record s { sessions = sessions ++ begun name user next ∷ []; next_session = next + 1 }) reply.Done
logs_on s sessions next name user e f room free limit =
    let free : is_some (session_at s.sessions name) ≡ false = ap (λ xs. is_some (session_at xs name)) e ∙ free in
    let limit : nat_le 1024 (length s.sessions) ≡ false = ap (λ xs. nat_le 1024 (length xs)) e ∙ limit in
    at_state _ _ (entered s name user) _ _ (λ i. record s { sessions = e i ++ begun name user (f i) ∷ []; next_session = f i + 1 })
    (is_done s (command.Logon name user) (entered s name user) tt room (logon_free s name user false free limit))

-- ---- calls of a session

pub knows_no_session : (s : State) (sessions : List Session) (name : List ℕ) (call : SessionCall) (c : Command) → call_of c ≡ OfSession name call
    → s.sessions ≡ sessions → Admits s c → session_at sessions name ≡ None → IsAct s c s (reply.Refused refusal.UnknownSession)
knows_no_session s sessions name call c own e room none =
    refuses s c refusal.UnknownSession room (ap (own_verdict (found_in s) s) own ∙ ap (called (found_in s) s call) (found_at s sessions name None e none))

-- what is known of a session's call, whatever it is
pub record Caller (s : State) (start : ℕ) (sessions : List Session) (name : List ℕ) (x : Session) (pair : Asker) : Type 0 where
  pub started : s.stored.start ≡ start
  pub sessions_are : s.sessions ≡ sessions
  pub found : session_at sessions name ≡ Some x
  pub pair_is : pair ≡ pair_of start x

own_pair : (s : State) (start : ℕ) (sessions : List Session) (name : List ℕ) (x : Session) (pair : Asker) → Caller s start sessions name x pair
    → pair_of s.stored.start x ≡ pair
own_pair s start sessions name x pair k = ap (λ n. pair_of n x) k.started ∙ sym k.pair_is

of_session : (s : State) (start : ℕ) (sessions : List Session) (name : List ℕ) (x : Session) (pair : Asker) (call : SessionCall)
    → Caller s start sessions name x pair → own_verdict (found_in s) s (OfSession name call) ≡ session_call (found_in s) s x call
of_session s start sessions name x pair call k = ap (called (found_in s) s call) (found_at s sessions name (Some x) k.sessions_are k.found)

pub frees : (s : State) (start : ℕ) (sessions : List Session) (name : List ℕ) (x : Session) (pair : Asker) (requests : List Request) (entries : List Entry)
    → Caller s start sessions name x pair → Admits s (command.Free name requests) → entries ≡ fold freed s.locks (halves pair requests)
    → IsAct s (command.Free name requests) (record s { locks = entries }) reply.Done
frees s start sessions name x pair requests entries k room e =
    let own = own_pair s start sessions name x pair k in
    is_done s (command.Free name requests) (record s { locks = entries }) tt room
    (of_session s start sessions name x pair (Frees requests) k ∙ ap (λ p. Leaves (record s { locks = fold freed s.locks (halves p requests) }) reply.Done) own
    ∙ ap (λ l. Leaves (record s { locks = l }) reply.Done) (sym e))

pub logs_off : (s : State) (start : ℕ) (sessions : List Session) (name : List ℕ) (x : Session) (pair : Asker) (after : List Session) (entries : List Entry)
    → Caller s start sessions name x pair → Admits s (command.Logoff name) → after ≡ without_session x.name sessions
    → entries ≡ freed_owner (freed_owner s.locks pair.dialogue) pair.update
    → IsAct s (command.Logoff name) (record s { sessions = after; locks = entries }) reply.Done
logs_off s start sessions name x pair after entries k room e f =
    let own = own_pair s start sessions name x pair k in
    let rest : after ≡ without_session x.name s.sessions = e ∙ ap (without_session x.name) (sym k.sessions_are) in
    is_done s (command.Logoff name) (record s { sessions = after; locks = entries }) tt room
    (of_session s start sessions name x pair LogsOff k
    ∙ ap (λ p. Leaves (record s { sessions = without_session x.name s.sessions; locks = freed_owner (freed_owner s.locks p.dialogue) p.update }) reply.Done)
    own
    ∙ (λ i. Leaves (record s { sessions = sym rest i; locks = sym f i }) reply.Done))

pub frees_all : (s : State) (start : ℕ) (sessions : List Session) (name : List ℕ) (x : Session) (pair : Asker) (entries : List Entry)
    → Caller s start sessions name x pair → Admits s (command.FreeAll name) → entries ≡ freed_owner (freed_owner s.locks pair.dialogue) pair.update
    → IsAct s (command.FreeAll name) (record s { locks = entries }) reply.Done
frees_all s start sessions name x pair entries k room f =
    let own = own_pair s start sessions name x pair k in
    is_done s (command.FreeAll name) (record s { locks = entries }) tt room
    (of_session s start sessions name x pair FreesAll k
    ∙ ap (λ p. Leaves (record s { locks = freed_owner (freed_owner s.locks p.dialogue) p.update }) reply.Done) own
    ∙ ap (λ l. Leaves (record s { locks = l }) reply.Done) (sym f))

pub rolls_back : (s : State) (start : ℕ) (sessions : List Session) (name : List ℕ) (x : Session) (pair : Asker) (after : List Session) (entries : List Entry)
    → Caller s start sessions name x pair → Admits s (command.Rollback name) → after ≡ with_session x.name with_fresh_unit sessions
    → entries ≡ freed_owner s.locks pair.update → IsAct s (command.Rollback name) (record s { sessions = after; locks = entries }) reply.Done
rolls_back s start sessions name x pair after entries k room e f =
    let own = own_pair s start sessions name x pair k in
    let next : after ≡ with_session x.name with_fresh_unit s.sessions = e ∙ ap (with_session x.name with_fresh_unit) (sym k.sessions_are) in
    is_done s (command.Rollback name) (record s { sessions = after; locks = entries }) tt room
    (of_session s start sessions name x pair RollsBack k
    ∙ ap (λ p. Leaves (record s { sessions = with_session x.name with_fresh_unit s.sessions; locks = freed_owner s.locks p.update }) reply.Done) own
    ∙ (λ i. Leaves (record s { sessions = sym next i; locks = sym f i }) reply.Done))

-- ---- what the lock server refuses

-- the fault of the table that it tells; where the backup file failed there is none
abbrev pub table_fault : ServerFault → AskFault
table_fault (server.Ask f) = f
table_fault server.Failed = fault.NoMemory
table_fault server.NoMemory = fault.NoMemory

-- the table's rule refuses so, unless memory was wanting
pub of_table : {X : Type 0} (rule : Result X AskFault) (f : ServerFault) → IsRefusal rule f → IsFaultOf rule (table_fault f)
of_table rule (server.Ask (fault.Foreign e)) h = h
of_table rule (server.Ask (fault.Full used most)) h = h
of_table rule (server.Ask fault.Count) h = h
of_table rule (server.Ask fault.Lost) h = h
of_table rule (server.Ask fault.NoMemory) h = tt
of_table rule server.Failed h = absurd h
of_table rule server.NoMemory h = tt

-- and it is told as the table's
pub told_alike : {X : Type 0} (rule : Result X AskFault) (f : ServerFault) → IsRefusal rule f → fault_refusal f ≡ ask_refusal (table_fault f)
told_alike rule (server.Ask f) h = refl
told_alike rule server.Failed h = absurd h
told_alike rule server.NoMemory h = refl

-- ---- converting

turning : (s : State) (start : ℕ) (sessions : List Session) (name : List ℕ) (x : Session) (pair : Asker) (asked : List Asked) (entries : List Entry)
    (answer : Result Conversion AskFault) → Caller s start sessions name x pair → s.locks ≡ entries → converted entries pair asked ≡ answer
    → own_verdict (found_in s) s (OfSession name (Converts asked)) ≡ converting s answer
turning s start sessions name x pair asked entries answer k locks e =
    let own = own_pair s start sessions name x pair k in
    of_session s start sessions name x pair (Converts asked) k
    ∙ (λ i. converting s (converted (locks i) (own i) asked)) ∙ ap (converting s) e

pub converts : (s : State) (start : ℕ) (sessions : List Session) (name : List ℕ) (x : Session) (pair : Asker) (asked : List Asked) (entries : List Entry)
    (c : Conversion) → Caller s start sessions name x pair → s.locks ≡ entries → Admits s (command.Convert name asked) → converted entries pair asked ≡ Ok c
    → IsAct s (command.Convert name asked) (record s { locks = c.entries }) reply.Done
converts s start sessions name x pair asked entries c k locks room e =
    is_done s (command.Convert name asked) (record s { locks = c.entries }) tt room (turning s start sessions name x pair asked entries (Ok c) k locks e)

not_converted : (s : State) (start : ℕ) (sessions : List Session) (name : List ℕ) (x : Session) (pair : Asker) (asked : List Asked) (entries : List Entry)
    (f : AskFault) → Caller s start sessions name x pair → s.locks ≡ entries → Admits s (command.Convert name asked)
    → IsFaultOf (converted entries pair asked) f → IsAct s (command.Convert name asked) s (reply.Refused (ask_refusal f))
not_converted s start sessions name x pair asked entries (fault.Foreign e) k locks room h =
    refuses s (command.Convert name asked) _ room (turning s start sessions name x pair asked entries _ k locks h)
not_converted s start sessions name x pair asked entries (fault.Full used most) k locks room h =
    refuses s (command.Convert name asked) _ room (turning s start sessions name x pair asked entries _ k locks h)
not_converted s start sessions name x pair asked entries fault.Count k locks room h =
    refuses s (command.Convert name asked) _ room (turning s start sessions name x pair asked entries _ k locks h)
not_converted s start sessions name x pair asked entries fault.Lost k locks room h =
    refuses s (command.Convert name asked) _ room (turning s start sessions name x pair asked entries _ k locks h)
not_converted s start sessions name x pair asked entries fault.NoMemory k locks room h =
    is_wanting s (command.Convert name asked) room.served refl

pub converts_in_vain : (s : State) (start : ℕ) (sessions : List Session) (name : List ℕ) (x : Session) (pair : Asker) (asked : List Asked)
    (entries : List Entry) (f : AskFault) (r : Refusal) (after : List Entry) → Caller s start sessions name x pair → s.locks ≡ entries
    → Admits s (command.Convert name asked) → IsFaultOf (converted entries pair asked) f → after ≡ entries → r ≡ ask_refusal f
    → IsAct s (command.Convert name asked) (record s { locks = after }) (reply.Refused r)
converts_in_vain s start sessions name x pair asked entries f r after k locks room h same is =
    let stays : s.locks ≡ after = locks ∙ sym same in
    subst (λ a. IsAct s (command.Convert name asked) (record s { locks = after }) (reply.Refused a)) (sym is)
    (at_state _ _ s _ _ (λ i. record s { locks = stays i }) (not_converted s start sessions name x pair asked entries f k locks room h))

-- ---- asking

asking : (s : State) (start : ℕ) (sessions : List Session) (name : List ℕ) (x : Session) (pair : Asker) (requests : List Request) (t : Table)
    (answer : Result (List Entry) AskFault) → Caller s start sessions name x pair → s.locks ≡ t.entries → s.limit ≡ t.limit
    → asked t pair x.user requests ≡ answer → own_verdict (found_in s) s (OfSession name (Asks requests)) ≡ granting s answer
asking s start sessions name x pair requests t answer k locks limit e =
    let own = own_pair s start sessions name x pair k in
    of_session s start sessions name x pair (Asks requests) k
    ∙ (λ i. granting s (asked (record { entries = locks i; limit = limit i }) (own i) x.user requests)) ∙ ap (granting s) e

pub asks : (s : State) (start : ℕ) (sessions : List Session) (name : List ℕ) (x : Session) (pair : Asker) (requests : List Request) (t : Table)
    (entries : List Entry) → Caller s start sessions name x pair → s.locks ≡ t.entries → s.limit ≡ t.limit → Admits s (command.Ask name requests)
    → asked t pair x.user requests ≡ Ok entries → IsAct s (command.Ask name requests) (record s { locks = entries }) reply.Done
asks s start sessions name x pair requests t entries k locks limit room e =
    is_done s (command.Ask name requests) (record s { locks = entries }) tt room (asking s start sessions name x pair requests t (Ok entries) k locks limit e)

is_refused : (s : State) (start : ℕ) (sessions : List Session) (name : List ℕ) (x : Session) (pair : Asker) (requests : List Request) (t : Table) (f : AskFault)
    → Caller s start sessions name x pair → s.locks ≡ t.entries → s.limit ≡ t.limit → Admits s (command.Ask name requests)
    → IsFaultOf (asked t pair x.user requests) f → IsAct s (command.Ask name requests) s (reply.Refused (ask_refusal f))
is_refused s start sessions name x pair requests t (fault.Foreign e) k locks limit room h =
    refuses s (command.Ask name requests) _ room (asking s start sessions name x pair requests t _ k locks limit h)
is_refused s start sessions name x pair requests t (fault.Full used most) k locks limit room h =
    refuses s (command.Ask name requests) _ room (asking s start sessions name x pair requests t _ k locks limit h)
is_refused s start sessions name x pair requests t fault.Count k locks limit room h =
    refuses s (command.Ask name requests) _ room (asking s start sessions name x pair requests t _ k locks limit h)
is_refused s start sessions name x pair requests t fault.Lost k locks limit room h =
    refuses s (command.Ask name requests) _ room (asking s start sessions name x pair requests t _ k locks limit h)
is_refused s start sessions name x pair requests t fault.NoMemory k locks limit room h =
    is_wanting s (command.Ask name requests) room.served refl

pub asks_in_vain : (s : State) (start : ℕ) (sessions : List Session) (name : List ℕ) (x : Session) (pair : Asker) (requests : List Request) (t : Table)
    (f : AskFault) (r : Refusal) (entries : List Entry) → Caller s start sessions name x pair → s.locks ≡ t.entries → s.limit ≡ t.limit
    → Admits s (command.Ask name requests) → IsFaultOf (asked t pair x.user requests) f → entries ≡ t.entries → r ≡ ask_refusal f
    → IsAct s (command.Ask name requests) (record s { locks = entries }) (reply.Refused r)
asks_in_vain s start sessions name x pair requests t f r entries k locks limit room h same is =
    let stays : s.locks ≡ entries = locks ∙ sym same in
    subst (λ a. IsAct s (command.Ask name requests) (record s { locks = entries }) (reply.Refused a)) (sym is)
    (at_state _ _ s _ _ (λ i. record s { locks = stays i }) (is_refused s start sessions name x pair requests t f k locks limit room h))

-- an unknown session changes nothing
pub unknown_session : (s : State) (sessions : List Session) (name : List ℕ) (call : SessionCall) (c : Command) (after : State) (answer : Result Unit Refusal)
    (r : Refusal) → call_of c ≡ OfSession name call → s.sessions ≡ sessions → Admits s c → session_at sessions name ≡ None → s ≡ after → answer ≡ Err r
    → r ≡ refusal.UnknownSession → IsAct s c after (answer_of answer)
unknown_session s sessions name call c after answer r own e room none same is what =
    let said : reply.Refused refusal.UnknownSession ≡ answer_of answer = sym (ap answer_of is ∙ ap reply.Refused what) in
    subst (λ a. IsAct s c after a) said (at_state s c s after _ same (knows_no_session s sessions name call c own e room none))
