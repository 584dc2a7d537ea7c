-- A worker that didn't find the history full ends because nothing is left to do.
use Rattle.std.proofs.Common.{◌≡◌, inl, inr, ℕ, ◌<◌, Bool, true, false, List, [], ◌∷◌, ◌++◌, append_assoc, refl, sym, ap, ◌∙◌, subst}
use Rattle.std.specs.Prelude.{◌&&◌, ◌||◌, not, None}
use Rattle.std.specs.List.{list_any}
use Rattle.std.proofs.lemmas.Bool.{and_from, or_parts}
use Rattle.std.proofs.lemmas.List.{map-append}
use Rattle.std.proofs.lemmas.List.Folds.{list_any-append}
use Rattle.std.proofs.lemmas.List.Sums.{fold-append}
use Rattle.enq_base.specs.declared.condition.Condition.TheVariants as condition
use Rattle.enq_base.specs.declared.owner.UnitKey.{UnitKey}
use Rattle.enq_base.specs.declared.refusal.Refusal.{Refusal}
use Rattle.enq_base.specs.declared.refusal.Refusal.TheVariants as refusal
use Rattle.hall_model.specs.Calls.{Call, LogsOn, OfSession, OfWorker, OfAdmin, Takes, call_of, who_calls, post_of, take_of}
use Rattle.hall_model.specs.History.{Served, is_unrecorded}
use Rattle.hall_model.specs.Orders.{order_of}
use Rattle.hall_model.specs.Recall.{IsModelAnswer, Made, calls_of, recalled, state_after}
use Rattle.hall_model.specs.State.{State}
use Rattle.hall_model.specs.declared.command.After.{After}
use Rattle.hall_model.specs.declared.command.PastEntry.{PastEntry}
use Rattle.hall_model.specs.declared.command.Reply.{Reply}
use Rattle.hall_model.specs.declared.command.Reply.TheVariants as reply
use Rattle.hall_model.specs.declared.command.Who.TheVariants as caller
use Rattle.hall_laws.proofs.histories.NotedSteps.{AnswersFrom, answers_before, answers_behind}
use Rattle.caller_laws.specs.Callers.{AreTheirs, is_by}
use Rattle.caller_laws.specs.Doing.{NoIdlePosts, NoneFull, WorkerDid, is_idle_post}
use Rattle.caller_laws.specs.Seen.{IsEntryOf}
use Rattle.order_laws.proofs.OrderLists.{some_none}
use Rattle.order_laws.proofs.OrdersTold.{orders_are_told}
use Rattle.order_laws.proofs.StandingOrders.{orders_stand}
use Rattle.order_laws.proofs.WorkerAnswers.{post_answered, post_full, take_step}
use Rattle.order_laws.specs.Behind.{is_post, is_trouble, is_up, order_after, up_after, wants}
use Rattle.order_laws.specs.Resting.{GoBeside}
use Rattle.order_laws.specs.Resting.{is_by as is_of}
use Rattle.order_workers.specs.Orders.{Ends, Goes, IsTaken, Stops, is_idle, is_order, is_refused}
use Rattle.order_workers.specs.Orders.{Drops, LastDone, Untaken}
use Rattle.order_workers.specs.Orders.{IsIdle as FoundNone}
use Rattle.order_workers.specs.Orders.{Made as MadeByWorker}
use Rattle.ledger_steps.specs.declared.part.Part.{Part}
use Rattle.script_actors.specs.Actors.{is_full}
use Rattle.script_actors.specs.Doers.{is_same}
use Rattle.caller_laws.specs.Rest.{WentWell}
use Rattle.caller_laws.proofs.Histories.{answers_all, told_up, well_up}
use Rattle.caller_laws.proofs.LastCalls.{KeptLast, Last, NoneOf, Saw, flip_number, goes_free, never, seen_last}
use Rattle.caller_laws.proofs.Splits.{all_before, all_behind, headed, split}
use Rattle.model_laws.proofs.PartOrders.{post_is, take_is}

-- ---- where an entry stands

-- the history up to an entry, and the rest of it
pub record Place (made : List Made) (before : List PastEntry) (entry : PastEntry) (after : List PastEntry) : Type 0 where
  pub earlier : List Made
  pub call : Made
  pub later : List Made
  pub whole : made ≡ earlier ++ call ∷ later
  pub first : calls_of earlier ≡ before
  pub here : call.call ≡ entry
  pub last : calls_of later ≡ after

place_of : (made : List Made) (before : List PastEntry) (entry : PastEntry) (after : List PastEntry) → calls_of made ≡ before ++ entry ∷ after
    → Place made before entry after
place_of made before entry after e =
    let call : Made → PastEntry = λ (m : Made). m.call in
    let parts = split call made before (entry ∷ after) e in
    let one = headed call parts.back entry after parts.last in
    record {
      earlier = parts.front;
      call = one.head;
      later = one.rest;
      whole = parts.same ∙ ap (λ ms. parts.front ++ ms) one.same;
      first = parts.first;
      here = one.first;
      last = one.last;
    }

-- ---- what a take is answered

-- a worker without an order gets one, or its take leaves no entry
abbrev TakeGives : State → ℕ → Served → Type 0
TakeGives s w r = order_of s.orders w ≡ None → (is_order r.reply || is_unrecorded r.reply) ≡ true

take_gives : (s : State) (m : Made) (w : ℕ) (part : Part) → s.condition ≡ condition.Up → call_of m.call.command ≡ OfWorker w (Takes part) → IsModelAnswer s m
    → order_of s.orders w ≡ None → (is_order m.call.reply || is_unrecorded m.call.reply) ≡ true
take_gives s m w part up is answer free =
    subst (λ r. (is_order r || is_unrecorded r) ≡ true) answer.reply
    (take_step (TakeGives s w) m.outcome s m.call.line m.call.command w part up is answer.allowed.possible (record {
      full = λ none. refl;
      busy = λ unit has none. absurd (some_none unit (sym has ∙ none));
      idle = λ none empty given. refl;
      takes = λ unit none found given. refl;
    }) free)

unrecorded_idle : (r : Reply) → is_unrecorded r ≡ true → is_full r ≡ false → is_idle r ≡ true
unrecorded_idle (reply.Refused refusal.LogFull) h k = absurd (never (sym k))
unrecorded_idle (reply.Refused refusal.Idle) h k = refl
unrecorded_idle _ h k = absurd (never h)

order_kept : (r : Reply) → is_order r ≡ true → is_unrecorded r ≡ false
order_kept (reply.Unit unit) h = refl
order_kept _ h = absurd (never h)

done_kept : (r : Reply) → is_refused r ≡ false → is_unrecorded r ≡ false
done_kept (reply.Refused x) h = absurd (never (sym h))
done_kept _ h = refl

-- the unit of an order
pub record Given (r : Reply) : Type 0 where
  pub unit : UnitKey
  pub is : r ≡ reply.Unit unit

given : (r : Reply) → is_order r ≡ true → Given r
given (reply.Unit unit) h = record { unit = unit; is = refl }
given _ h = absurd (never h)

pub record Denied (r : Reply) : Type 0 where
  pub why : Refusal
  pub is : r ≡ reply.Refused why

denied : (r : Reply) → is_refused r ≡ true → Denied r
denied (reply.Refused x) h = record { why = x; is = refl }
denied _ h = absurd (never h)

-- ---- others' calls

by_who : (w : ℕ) (call : Call) → is_same (caller.Worker w) (who_calls call) ≡ false → is_of w call ≡ false
by_who w (LogsOn name user) off = refl
by_who w (OfSession name call) off = refl
by_who w (OfWorker other call) off = flip_number w other off
by_who w (OfAdmin call) off = refl

-- calls of others, with the server up behind each
pub others_beside : (s : State) (w : ℕ) (made : List Made) → AnswersFrom s made
    → ((earlier later : List Made) → made ≡ earlier ++ later → (state_after s earlier).condition ≡ condition.Up) → AreTheirs (calls_of made)
    → NoneOf w (calls_of made) → GoBeside w (calls_of made)
others_beside s w [] answers up theirs none = refl
others_beside s w (m ∷ ms) answers up theirs none =
    let parts = or_parts (is_by (caller.Worker w) m.call) _ none in
    let off : is_of w (call_of m.call.command) ≡ false =
    by_who w (call_of m.call.command) (sym (ap (is_same (caller.Worker w)) theirs.0) ∙ parts.0) in
    let on : is_up m.call.after.condition ≡ true =
    ap (λ (a : After). is_up a.condition) answers.0.after ∙ ap is_up (up (m ∷ []) ms refl) in
    and_from _ _ (and_from _ _ (ap not off) on)
    (others_beside (recalled s m) w ms answers.1 (λ earlier later e. up (m ∷ earlier) later (ap (λ es. m ∷ es) e)) theirs.1 parts.1)

-- ---- the calls before the last

-- the history before a worker's last call
record Earlier (w : ℕ) (past : List PastEntry) (done : List MadeByWorker) : Type 0 where
  before : List PastEntry
  after : List PastEntry
  place : past ≡ before ++ after
  seen : Saw w before done

earlier_seen : (w : ℕ) (past : List PastEntry) (done : List MadeByWorker) (m : MadeByWorker) → Last w past done m → Earlier w past done
earlier_seen w past done m (inl h) = record { before = h.before; after = h.entry ∷ h.after; place = h.place; seen = h.seen }
earlier_seen w past done m (inr h) = record { before = h.before; after = h.after; place = h.place; seen = h.seen }

post_not_idle : (w : ℕ) (part : Part) (post : MadeByWorker) → post.command ≡ post_of part w → is_idle_post post ≡ false → is_idle post.reply ≡ false
post_not_idle w part post at none =
    sym (ap (λ c. is_post (call_of c) && is_idle post.reply) at ∙ ap (λ c. is_post c && is_idle post.reply) (post_is part w)) ∙ none

-- ---- what holds at a place

none_here : (p : PastEntry → Bool) (made earlier later : List Made) (m : Made) → list_any p (calls_of made) ≡ false → made ≡ earlier ++ m ∷ later
    → p m.call ≡ false
none_here p made earlier later m none whole =
    let all : list_any p (calls_of earlier ++ m.call ∷ calls_of later) ≡ false =
    sym (ap (list_any p) (map-append (λ (x : Made). x.call) earlier (m ∷ later))) ∙ sym (ap (λ ms. list_any p (calls_of ms)) whole) ∙ none in
    (or_parts (p m.call) _ (or_parts (list_any p (calls_of earlier)) _ (sym (list_any-append p (calls_of earlier) (m.call ∷ calls_of later)) ∙ all)).1).0

module _ (first : State) (made : List Made) (w : ℕ) (well : WentWell first made) (theirs : AreTheirs (calls_of made)) (few : w < 256) where
  theirs_to : (before after : List PastEntry) → calls_of made ≡ before ++ after → AreTheirs before
  theirs_to before after e = all_before _ before after (subst AreTheirs e theirs)

  up_to : (before after : List PastEntry) → calls_of made ≡ before ++ after → up_after before ≡ true
  up_to before after e =
      let parts = split (λ (m : Made). m.call) made before after e in
      subst (λ es. up_after es ≡ true) parts.first (told_up first made parts.front parts.back well parts.same)

  -- a take that gave no order
  untaken_kept : (part : Part) (done : List MadeByWorker) (take : MadeByWorker) → Goes w done part → take.command ≡ take_of part w
      → is_order take.reply ≡ false → KeptLast w (calls_of made) done take → ⊥
  untaken_kept part done take goes at off h =
      let p = place_of made h.before h.entry h.after h.place in
      let s = state_after first p.earlier in
      let before = answers_all first p.earlier (answers_before first made p.earlier (p.call ∷ p.later) well.answers p.whole) in
      let none : order_of s.orders w ≡ None =
      orders_are_told first p.earlier w well.fresh before few ∙ ap (order_after w) p.first
      ∙ goes_free w done part goes h.before (theirs_to h.before (h.entry ∷ h.after) h.place) h.seen in
      let is : call_of p.call.call.command ≡ OfWorker w (Takes part) =
      ap (λ (e : PastEntry). call_of e.command) p.here ∙ ap call_of (h.is.command ∙ at) ∙ take_is part w in
      let told : p.call.call.reply ≡ take.reply = ap (λ (e : PastEntry). e.reply) p.here ∙ h.is.reply in
      let gives = take_gives s p.call w part (well_up first made well p.earlier (p.call ∷ p.later) p.whole) is
      (well.answers p.earlier p.later p.call p.whole) none in
      let gives_it : (is_order take.reply || is_unrecorded take.reply) ≡ true = subst (λ r. (is_order r || is_unrecorded r) ≡ true) told gives in
      never (sym (ap (λ b. b || is_unrecorded take.reply) off ∙ h.kept) ∙ gives_it)

  untaken : (part : Part) (done : List MadeByWorker) (take : MadeByWorker) → Goes w done part → take.command ≡ take_of part w
      → is_order take.reply ≡ false → (FoundNone w part take → ⊥) → is_full take.reply ≡ false → Last w (calls_of made) done take → ⊥
  untaken part done take goes at off not_idle room (inl h) = untaken_kept part done take goes at off h
  untaken part done take goes at off not_idle room (inr h) =
      not_idle (at, unrecorded_idle take.reply h.unkept room, h.up ∙ up_to h.before h.after h.place)

  -- an order that is done, and then the server isn't up
  last_done : (done : List MadeByWorker) (post : MadeByWorker) → is_refused post.reply ≡ false → post.is_up ≡ false → Last w (calls_of made) done post → ⊥
  last_done done post fine down (inl h) =
      never (sym down ∙ h.up ∙ up_to (h.before ++ h.entry ∷ []) h.after (h.place ∙ sym (append_assoc h.before (h.entry ∷ []) h.after)))
  last_done done post fine down (inr h) = never (sym (done_kept post.reply fine) ∙ h.unkept)

  -- an order that is refused
  module _ (part : Part) (take post : MadeByWorker) (taken : IsTaken w part take) (at : post.command ≡ post_of part w) (off : is_refused post.reply ≡ true)
      (room : is_full post.reply ≡ false) where
    refused_at : (earlier between later : List Made) (one other : Made) → made ≡ earlier ++ one ∷ (between ++ other ∷ later)
        → NoneOf w (calls_of between) → IsEntryOf one.call take → IsEntryOf other.call post → ⊥
    refused_at earlier between later one other whole others is_take is_post_of =
        let unit = given take.reply taken.1 in
        let up = well_up first made well in
        let same : (done : List Made) → state_after first (earlier ++ one ∷ done) ≡ state_after (recalled (state_after first earlier) one) done =
        λ done. fold-append recalled first earlier (one ∷ done) in
        let theirs_between : AreTheirs (calls_of between) =
        all_before _ (calls_of between) (calls_of (other ∷ later))
        (subst AreTheirs (map-append (λ (x : Made). x.call) between (other ∷ later))
        (all_behind _ (calls_of earlier) (calls_of (one ∷ (between ++ other ∷ later)))
        (subst AreTheirs (ap calls_of whole ∙ map-append (λ (x : Made). x.call) earlier (one ∷ (between ++ other ∷ later))) theirs)).1) in
        let beside : GoBeside w (calls_of between) =
        others_beside (recalled (state_after first earlier) one) w between
        (answers_behind first made earlier between (other ∷ later) one well.answers whole)
        (λ a b e. subst (λ (x : State). x.condition ≡ condition.Up) (same a)
        (up (earlier ++ one ∷ a) (b ++ other ∷ later)
        (whole ∙ ap (λ ms. earlier ++ one ∷ (ms ++ other ∷ later)) e ∙ ap (λ ms. earlier ++ one ∷ ms) (append_assoc a b (other ∷ later))
        ∙ sym (append_assoc earlier (one ∷ a) (b ++ other ∷ later)))))
        theirs_between others in
        let has = orders_stand first made well.fresh well.answers earlier between (other ∷ later) one w part unit.unit whole few
        (told_up first made earlier (one ∷ (between ++ other ∷ later)) well whole)
        (ap call_of (is_take.command ∙ taken.0) ∙ take_is part w) (is_take.reply ∙ unit.is) beside in
        let there : made ≡ (earlier ++ one ∷ between) ++ other ∷ later = whole ∙ sym (append_assoc earlier (one ∷ between) (other ∷ later)) in
        let call = ap call_of (is_post_of.command ∙ at) ∙ post_is part w in
        let done = post_answered (state_after first (earlier ++ one ∷ between)) other w part unit.unit
        (up (earlier ++ one ∷ between) (other ∷ later) there) has call (well.answers (earlier ++ one ∷ between) later other there) in
        let why = denied post.reply off in
        let full = post_full other.call why.why (ap is_post call) done (is_post_of.reply ∙ why.is)
        (none_here is_trouble made (earlier ++ one ∷ between) later other well.calm there)
        (none_here wants made (earlier ++ one ∷ between) later other well.memory there) in
        never (sym room ∙ ap is_full (why.is ∙ ap reply.Refused full))

    refused_behind : (done : List MadeByWorker) (before after : List PastEntry) → calls_of made ≡ before ++ after
        → (h : KeptLast w before (done ++ take ∷ []) post) → KeptLast w h.before done take → ⊥
    refused_behind done before after place h k =
        let rest = h.after ++ after in
        let here : calls_of made ≡ k.before ++ k.entry ∷ (k.after ++ h.entry ∷ rest) =
        place ∙ ap (λ es. es ++ after) h.place ∙ append_assoc h.before (h.entry ∷ h.after) after
        ∙ ap (λ es. es ++ h.entry ∷ rest) k.place ∙ append_assoc k.before (k.entry ∷ k.after) (h.entry ∷ rest) in
        let p = place_of made k.before k.entry (k.after ++ h.entry ∷ rest) here in
        let q = place_of p.later k.after h.entry rest p.last in
        refused_at p.earlier q.earlier q.later p.call q.call (p.whole ∙ ap (λ ms. p.earlier ++ p.call ∷ ms) q.whole)
        (subst (NoneOf w) (sym q.first) k.others) (subst (λ e. IsEntryOf e take) (sym p.here) k.is) (subst (λ e. IsEntryOf e post) (sym q.here) h.is)

    refused_taken : (done : List MadeByWorker) (before after : List PastEntry) → calls_of made ≡ before ++ after
        → (h : KeptLast w before (done ++ take ∷ []) post) → Last w h.before done take → ⊥
    refused_taken done before after place h (inl k) = refused_behind done before after place h k
    refused_taken done before after place h (inr k) = never (sym (order_kept take.reply taken.1) ∙ k.unkept)

    refused : (done : List MadeByWorker) (before after : List PastEntry) → calls_of made ≡ before ++ after → is_idle_post post ≡ false
        → Last w before (done ++ take ∷ []) post → ⊥
    refused done before after place none (inl h) =
        refused_taken done before after place h (seen_last w h.before (done ++ take ∷ []) h.seen done take refl)
    refused done before after place none (inr h) =
        never (sym (post_not_idle w part post at none) ∙ unrecorded_idle post.reply h.unkept room)

  ends_never : (part : Part) (last : List MadeByWorker) → Ends w part last → (done : List MadeByWorker) → Goes w done part
      → Saw w (calls_of made) (done ++ last) → NoneFull last → NoIdlePosts last → ⊥
  ends_never part last (Untaken take at off not_idle) done goes seen rooms none =
      untaken part done take goes at off not_idle rooms.0 (seen_last w (calls_of made) (done ++ take ∷ []) seen done take refl)
  ends_never part last (Drops take post drop taken at off dropped) done goes seen rooms none =
      let more = earlier_seen w (calls_of made) (done ++ take ∷ post ∷ []) drop
      (seen_last w (calls_of made) (done ++ take ∷ post ∷ drop ∷ []) seen (done ++ take ∷ post ∷ []) drop
      (sym (append_assoc done (take ∷ post ∷ []) (drop ∷ [])))) in
      refused part take post taken at off rooms.1.0 done more.before more.after more.place none.1.0
      (seen_last w more.before (done ++ take ∷ post ∷ []) more.seen (done ++ take ∷ []) post (sym (append_assoc done (take ∷ []) (post ∷ []))))
  ends_never part last (LastDone take post taken posted down) done goes seen rooms none =
      last_done (done ++ take ∷ []) post posted.1 down
      (seen_last w (calls_of made) (done ++ take ∷ post ∷ []) seen (done ++ take ∷ []) post (sym (append_assoc done (take ∷ []) (post ∷ []))))

  stops_never : (calls : List MadeByWorker) → Saw w (calls_of made) calls → Stops w calls → NoneFull calls → NoIdlePosts calls → ⊥
  stops_never calls seen h rooms none =
      ends_never h.part h.last h.ends h.done h.goes (subst (Saw w (calls_of made)) h.all seen)
      (all_behind _ h.done h.last (subst NoneFull h.all rooms)) (all_behind _ h.done h.last (subst NoIdlePosts h.all none))

-- where nothing goes wrong a worker rests
pub rests_at_end : (first : State) (made : List Made) (w : ℕ) (rests : Bool) → WentWell first made → AreTheirs (calls_of made) → w < 256
    → WorkerDid (calls_of made) w rests None → rests ≡ true
rests_at_end first made w true well theirs few did = refl
rests_at_end first made w false well theirs few did =
    absurd (stops_never first made w well theirs few did.calls did.seen did.ended (did.full refl) did.posts)
