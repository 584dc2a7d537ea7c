-- One call more of a hall that calls led somewhere.
use Rattle.std.proofs.Common.{◌≡◌, ℕ, Bool, true, false, List, [], ◌∷◌, ◌++◌, append-nil, map, refl, sym, ap, ◌∙◌, subst}
use Rattle.std.specs.Prelude.{IsTrue, if◌then◌else◌}
use Rattle.std.proofs.lemmas.List.Sums.{fold-append}
use Rattle.std.proofs.lemmas.List.{map-append}
use mathlib.Core.List.{IsPrefix}
use Rattle.hall_model.specs.Calls.{Call, Commits, LogsOn, OfAdmin, OfSession, OfWorker, SessionCall}
use Rattle.hall_model.specs.Stocks.{IsStockIn, MayCall, SessionMayCall}
use Rattle.hall_laws.proofs.keeping.DrawnNumbers.{no_stock_in}
use Rattle.hall_model.specs.Devices.{DeviceOutcome, IsAllowed}
use Rattle.hall_calls.specs.Filing.{HasFileCause}
use Rattle.hall_model.specs.History.{IsStep, Served, after_of, is_unrecorded, past_entry, served, step, takes_flight, with_entry}
use Rattle.hall_calls.specs.Leaving.{HasCounted, HasStoreCause}
use Rattle.hall_model.specs.Recall.{IsModelAnswer, Made, calls_of, recalled, state_after}
use Rattle.hall_model.specs.State.{State}
use Rattle.hall_model.specs.declared.command.Command.{Command}
use Rattle.hall_model.specs.declared.command.Reply.{Reply}
use Rattle.hall_model.specs.declared.command.Reply.TheVariants as reply
use Rattle.enq_base.specs.declared.refusal.Refusal.TheVariants as refusal
use Rattle.hall_laws.proofs.keeping.Unchanged.{served-past}
use Rattle.hall_laws.proofs.histories.NotedSteps.{AnswersFrom, IsTold, answers_before, told-answers}
use Rattle.hall_calls.proofs.lemmas.Replies.{step_counts, step_file_counts, unnoted_same}
use Rattle.script_actors.specs.Drawings.{DeskCall, desk_call, with_call}
use Rattle.script_runner.specs.Faults.{NoneUnsound, NoneUnsoundReplica, NoneUnsoundStore}
use Rattle.script_runner.specs.Counts.{CountsCalls, file_fails_in_call, store_fails_in_call}
use Rattle.turn_desks.specs.Asking.{HasNoStock, HasNoStockIn}
use Rattle.turn_desks.specs.Led.{Counts, IsLed}
use Rattle.script_runner.specs.Replicas.{CountsLinkEach, GoesOnLinked, HasLinked, LinkCounts, follows_behind}
use Rattle.script_runner.proofs.lemmas.Kept.{same_counts}

session_may : (s : State) (call : SessionCall) → HasNoStockIn call → SessionMayCall s call
session_may s (Commits parts stock) h = subst (IsStockIn s) (sym h) (no_stock_in s)
session_may s _ h = tt

-- a call with no numbers of a stock may always be made
pub no_stock_may : (s : State) (call : Call) → HasNoStock call → MayCall s call
no_stock_may s (LogsOn session user) h = tt
no_stock_may s (OfSession session call) h = session_may s call h
no_stock_may s (OfWorker worker call) h = tt
no_stock_may s (OfAdmin call) h = tt

pub begun_is_prefix : {E : Type 0} (old new : List E) → ((added : List E) × (new ≡ old ++ added)) → IsPrefix old new
begun_is_prefix old new h = (h.0, sym h.1)

counts_more : (fails : Made → Bool) (made : List Made) (m : Made) (f g h : ℕ) → CountsCalls fails made f g
    → HasCounted (fails m) g h → CountsCalls fails (made ++ m ∷ []) f h
counts_more fails [] m f g h none k = (h, (subst (λ n. HasCounted (fails m) n h) none k, refl))
counts_more fails (t ∷ ts) m f g h each k = (each.0, (each.1.0, counts_more fails ts m each.0 g h each.1.1 k))

counts_same : (fails : Made → Bool) (made : List Made) (f g h : ℕ) → CountsCalls fails made f g → h ≡ g → CountsCalls fails made f h
counts_same fails made f g h each k = subst (CountsCalls fails made f) (sym k) each

-- calls that aren't kept touch no device
unrecorded_store : (r : Reply) (f g : ℕ) → is_unrecorded r ≡ true → HasStoreCause f g r → g ≡ f
unrecorded_store (reply.Refused refusal.StoreFault) f g off h = cc
unrecorded_store _ f g off h = h

unrecorded_file : (r : Reply) (f g : ℕ) → is_unrecorded r ≡ true → HasFileCause f g r → g ≡ f
unrecorded_file (reply.Refused refusal.BackupFault) f g off h = cc
unrecorded_file _ f g off h = h

pub answers_more : (s : State) (ms : List Made) (m : Made) → AnswersFrom s ms → IsModelAnswer (state_after s ms) m → AnswersFrom s (ms ++ m ∷ [])
answers_more s [] m h k = (k, tt)
answers_more s (x ∷ ms) m h k = (h.0, answers_more (recalled s x) ms m h.1 k)

none_linked : (attached : Bool) (counts : LinkCounts) (s : State) → s.past ≡ [] → s.attached ≡ attached → HasLinked attached counts s counts
none_linked attached counts s none same = record {
  counted = subst (λ past. CountsLinkEach attached past counts counts) (sym none) (same_counts counts);
  follows = ap (follows_behind attached) none ∙ sym same;
}

-- nothing was called yet
pub led_first : (told tells linked : Bool) (first : State) (counts : Counts) → first.past ≡ [] → IsLed told tells linked first counts first counts
led_first told tells linked first counts none = record {
  made = [];
  calls = none;
  answers = told-answers first first (record { made = []; calls = none; answers = tt; state = refl });
  state = refl;
  store = refl;
  file = refl;
  link = none_linked first.attached counts.link first none refl;
  good_file = λ on yes. subst NoneUnsound (sym none) refl;
  good_store = λ yes. subst NoneUnsoundStore (sym none) refl;
  good_replica = λ yes. subst NoneUnsoundReplica (sym none) refl;
}

-- the same, as a hall's own counts tell it
pub led_fresh : (told tells linked : Bool) (first : State) (before : Counts) (s : State) (now : Counts) → s ≡ first → s.past ≡ [] → now ≡ before
    → ∥ IsLed told tells linked first before s now ∥₁
led_fresh told tells linked first before s now at none same =
    ∣ subst (λ x. IsLed told tells linked x before s now) at (subst (λ x. IsLed told tells linked s x s now) same (led_first told tells linked s now none)) ∣₁

-- what one call does to the counts of the devices, and what it doesn't find
pub record CallCounts (told tells linked : Bool) (s t : State) (a b : Counts) (r : Reply) : Type 0 where
  pub store : HasStoreCause a.store b.store r
  pub file : HasFileCause a.file b.file r
  pub link : GoesOnLinked s t a.link b.link
  pub good_file : linked ≡ true → IsTrue tells → NoneUnsound s.past → NoneUnsound t.past
  pub good_store : told ≡ true → NoneUnsoundStore s.past → NoneUnsoundStore t.past
  pub good_replica : linked ≡ true → NoneUnsoundReplica s.past → NoneUnsoundReplica t.past

either : (P : Type 0) (b : Bool) → (b ≡ true → P) → (b ≡ false → P) → P
either P true f g = f refl
either P false f g = g refl

module _ (told tells linked : Bool) (first : State) (before : Counts) (s : State) (now : Counts) (o : DeviceOutcome) (n : ℕ) (c : Command) (next : Counts)
    (h : IsLed told tells linked first before s now) (allowed : IsAllowed o s c)
    (does : CallCounts told tells linked s (step o s n c).state now next (step o s n c).reply) where
  abbrev made : Served
  made = served o s c

  abbrev entered : Served
  entered = record (served o s c) { state = with_entry n c (takes_flight o) (served o s c) }

  abbrev the_call : Made
  the_call = record { call = past_entry n c (takes_flight o) made; outcome = o }

  store_counted : HasCounted (store_fails_in_call the_call) now.store next.store
  store_counted = step_counts o s n c now.store next.store does.store

  file_counted : HasCounted (file_fails_in_call the_call) now.file next.file
  file_counted = step_file_counts o s n c now.file next.file does.file

  led_noted : is_unrecorded made.reply ≡ false → IsLed told tells linked first before (step o s n c).state next
  led_noted on =
      let stepped : step o s n c ≡ entered = ap (λ b. if b then made else entered) on in
      let answer : IsModelAnswer s the_call = record {
        who = refl;
        reply = ap (λ (x : Served). x.reply) stepped;
        after = sym (ap (λ (x : Served). after_of (takes_flight o) x.state) stepped);
        allowed = allowed;
      } in
      let leads : state_after first (h.made ++ the_call ∷ []) ≡ (step o s n c).state =
      fold-append recalled first h.made (the_call ∷ []) ∙ ap (λ x. recalled x the_call) (sym h.state) in
      let past : entered.state.past ≡ calls_of (h.made ++ the_call ∷ []) =
      ap (λ es. es ++ the_call.call ∷ []) (served-past o s c ∙ h.calls) ∙ sym (map-append (λ (x : Made). x.call) h.made (the_call ∷ [])) in
      let calls : (step o s n c).state.past ≡ calls_of (h.made ++ the_call ∷ []) = ap (λ (x : Served). x.state.past) stepped ∙ past in
      let answers : AnswersFrom first (h.made ++ the_call ∷ []) =
      answers_more first h.made the_call (answers_before first h.made h.made [] h.answers (sym (append-nil h.made)))
      (subst (λ x. IsModelAnswer x the_call) h.state answer) in
      let all : IsTold first (step o s n c).state = record { made = h.made ++ the_call ∷ []; calls = calls; answers = answers; state = sym leads } in
      record {
        made = h.made ++ the_call ∷ [];
        calls = calls;
        answers = told-answers first (step o s n c).state all;
        state = sym leads;
        store = counts_more store_fails_in_call h.made the_call before.store now.store next.store h.store store_counted;
        file = counts_more file_fails_in_call h.made the_call before.file now.file next.file h.file file_counted;
        link = does.link first.attached before.link h.link;
        good_file = λ on yes. does.good_file on yes (h.good_file on yes);
        good_store = λ yes. does.good_store yes (h.good_store yes);
        good_replica = λ yes. does.good_replica yes (h.good_replica yes);
      }

  -- a call that isn't kept is one that is refused before any device is used
  led_unnoted : is_unrecorded made.reply ≡ true → IsLed told tells linked first before (step o s n c).state next
  led_unnoted off =
      let stepped : step o s n c ≡ made = ap (λ b. if b then made else entered) off in
      let same : (step o s n c).state ≡ s = ap (λ (x : Served). x.state) stepped ∙ unnoted_same o s c allowed.possible.lost off in
      let told_reply : (step o s n c).reply ≡ made.reply = ap (λ (x : Served). x.reply) stepped in
      record {
        made = h.made;
        calls = ap (λ (x : State). x.past) same ∙ h.calls;
        answers = h.answers;
        state = same ∙ h.state;
        store = counts_same store_fails_in_call h.made before.store now.store next.store h.store
            (unrecorded_store made.reply now.store next.store off (subst (HasStoreCause now.store next.store) told_reply does.store));
        file = counts_same file_fails_in_call h.made before.file now.file next.file h.file
            (unrecorded_file made.reply now.file next.file off (subst (HasFileCause now.file next.file) told_reply does.file));
        link = does.link first.attached before.link h.link;
        good_file = λ on yes. does.good_file on yes (h.good_file on yes);
        good_store = λ yes. does.good_store yes (h.good_store yes);
        good_replica = λ yes. does.good_replica yes (h.good_replica yes);
      }

  led_step : IsLed told tells linked first before (step o s n c).state next
  led_step = either _ (is_unrecorded made.reply) led_unnoted led_noted

-- one call more was led
pub led_call : (told tells linked : Bool) (first : State) (before : Counts) (s t : State) (now next : Counts) (n : ℕ) (c : Command) (r : Reply)
    → IsStep s t n c r → CallCounts told tells linked s t now next r → IsLed told tells linked first before s now → IsLed told tells linked first before t next
led_call told tells linked first before s t now next n c r h does led =
    let same : t ≡ (step h.outcome s n c).state = ap (λ (x : Served). x.state) h.same in
    let reply_same : r ≡ (step h.outcome s n c).reply = ap (λ (x : Served). x.reply) h.same in
    let moved : CallCounts told tells linked s (step h.outcome s n c).state now next (step h.outcome s n c).reply =
    subst (λ x. CallCounts told tells linked s x now next (step h.outcome s n c).reply) same
    (subst (λ x. CallCounts told tells linked s t now next x) reply_same does) in
    subst (λ x. IsLed told tells linked first before x next) (sym same) (led_step told tells linked first before s now h.outcome n c next led h.allowed moved)

-- ---- what a call adds to the history

abbrev PastAs : State → ℕ → Command → Served → Type 0
PastAs s n c x = map desk_call x.state.past ≡ with_call (map desk_call s.past) n c x.reply

desk_noted : (o : DeviceOutcome) (s : State) (n : ℕ) (c : Command) → IsAllowed o s c → PastAs s n c (step o s n c)
desk_noted o s n c allowed =
    let r = served o s c in
    let entered : Served = record r { state = with_entry n c (takes_flight o) r } in
    let before : map desk_call r.state.past ≡ map desk_call s.past = ap (map desk_call) (served-past o s c) in
    let mine : DeskCall = record { line = n; command = c; reply = r.reply } in
    either (PastAs s n c (step o s n c)) (is_unrecorded r.reply)
    (λ off. let stepped : step o s n c ≡ r = ap (λ b. if b then r else entered) off in
    subst (PastAs s n c) (sym stepped) (before ∙ sym (ap (λ b. if b then map desk_call s.past else map desk_call s.past ++ mine ∷ []) off)))
    (λ on. let stepped : step o s n c ≡ entered = ap (λ b. if b then r else entered) on in
    subst (PastAs s n c) (sym stepped)
    (map-append desk_call r.state.past (past_entry n c (takes_flight o) r ∷ []) ∙ ap (λ es. es ++ mine ∷ []) before
    ∙ sym (ap (λ b. if b then map desk_call s.past else map desk_call s.past ++ mine ∷ []) on)))

-- a call stands last in the history with its reply, unless none is kept that is answered so
pub desk_step : (s t : State) (n : ℕ) (c : Command) (r : Reply) → IsStep s t n c r → map desk_call t.past ≡ with_call (map desk_call s.past) n c r
desk_step s t n c r h = subst (PastAs s n c) (sym h.same) (desk_noted h.outcome s n c h.allowed)
