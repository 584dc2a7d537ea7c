-- No call of a run is for a number of an interval with a buffer.
use Rattle.std.proofs.Common.{◌≡◌, ℕ, Bool, true, false, true≢false, cond, List, [], ◌∷◌, ◌++◌, map, refl, sym, ap, ◌∙◌, subst}
use Rattle.std.specs.Prelude.{◌||◌, IsTrue, Option}
use Rattle.std.specs.List.{AllByRecursion, filter, list_any}
use Rattle.hall_model.specs.Calls.{who_of}
use Rattle.hall_model.specs.declared.command.Command.{Command}
use Rattle.hall_model.specs.declared.command.Command.TheVariants as command
use Rattle.hall_model.specs.declared.command.PastEntry.{PastEntry}
use Rattle.hall_model.specs.declared.command.Who.{Who}
use Rattle.hall_model.specs.declared.command.Who.TheVariants as caller
use Rattle.number_ranges.specs.declared.interval.Interval.{Interval}
use Rattle.script_actors.specs.Actors.{DeskView, Land}
use Rattle.script_actors.specs.Drawings.{DeskCall, calls_in, desk_call}
use Rattle.script_actors.specs.declared.actor.Said.{Said}
use Rattle.script_actors.specs.declared.line.NumberedLine.{NumberedLine}
use Rattle.caller_laws.specs.Callers.{AreAmong, AreTheirs, entries_by, is_by}
use Rattle.caller_laws.specs.Doing.{Did, DidLines, Left, LinesDid, nothing_asked}
use Rattle.caller_laws.specs.Numbers.{DrewNumbers, IsNoBuffered, NoneBuffered}
use Rattle.caller_laws.proofs.Meanings.{same_caller}
use Rattle.actor_threads.specs.declared.actor.Deed.{Deed}
use Rattle.thread_runner.specs.Hiring.{DidDeed, left_of}

-- ---- what the laws of numbers say

abbrev pub NoneLaw : Type 0
NoneLaw = (land : Land) (lines : List NumberedLine) (w : Who) (said : Option (List Said)) (view : DeskView)
    → DidLines land lines w said nothing_asked view → AllByRecursion (λ (c : DeskCall). IsNoBuffered land.intervals c.command) (calls_in view.entries)

abbrev pub DrewLaw : Type 0
DrewLaw = (land : Land) (lines : List NumberedLine) (past : List PastEntry) (session : List ℕ) (left : Left) (full_at : Option ℕ)
    → LinesDid land lines past (caller.Session session) left full_at → DrewNumbers land.intervals lines past session left

-- ---- entries of one caller, of several, and of all

module _ (intervals : List Interval) where
  abbrev IsPlain : PastEntry → Type 0
  IsPlain e = IsNoBuffered intervals e.command

  -- what holds of those that are filtered holds of each that passes the filter
  unfiltered : (p : PastEntry → Bool) (past : List PastEntry)
      → AllByRecursion (λ (c : DeskCall). IsNoBuffered intervals c.command) (map desk_call (filter p past))
      → AllByRecursion (λ (e : PastEntry). p e ≡ true → IsPlain e) past
  unfiltered p [] h = tt
  unfiltered p (e ∷ past) h = go (p e) refl (unfiltered p past) h
    where
      go : (b : Bool) → p e ≡ b
          → (AllByRecursion (λ (c : DeskCall). IsNoBuffered intervals c.command) (map desk_call (filter p past))
          → AllByRecursion (λ (x : PastEntry). p x ≡ true → IsPlain x) past)
          → AllByRecursion (λ (c : DeskCall). IsNoBuffered intervals c.command) (map desk_call (cond (p e) (e ∷ filter p past) (filter p past)))
          → (p e ≡ true → IsPlain e) × AllByRecursion (λ (x : PastEntry). p x ≡ true → IsPlain x) past
      go true on later all =
          let both = subst (λ b. AllByRecursion (λ (c : DeskCall). IsNoBuffered intervals c.command) (map desk_call (cond b (e ∷ filter p past) (filter p past)))) on all in
          ((λ yes. both.0), later both.1)
      go false off later all =
          let rest = subst (λ b. AllByRecursion (λ (c : DeskCall). IsNoBuffered intervals c.command) (map desk_call (cond b (e ∷ filter p past) (filter p past)))) off all in
          ((λ yes. absurd (true≢false (sym yes ∙ off))), later rest)

  -- a worker calls for no number
  worker_plain : (w : ℕ) (c : Command) → who_of c ≡ caller.Worker w → IsNoBuffered intervals c
  worker_plain w (command.Number s object nr) h = absurd (no_session s w h)
    where
      no_session : (s : List ℕ) (w : ℕ) → caller.Session s ≡ caller.Worker w → ⊥
      no_session s w e = cc
  worker_plain w _ h = tt

  workers_plain : (w : ℕ) (past : List PastEntry) → AreTheirs past → AllByRecursion (λ (e : PastEntry). is_by (caller.Worker w) e ≡ true → IsPlain e) past
  workers_plain w [] theirs = tt
  workers_plain w (e ∷ past) theirs =
      ((λ yes. worker_plain w e.command (sym theirs.0 ∙ sym (same_caller (caller.Worker w) e.who yes))), workers_plain w past theirs.1)

  deed_plain : (land : Land) (lines : List NumberedLine) (past : List PastEntry) → land.intervals ≡ intervals → AreTheirs past → NoneLaw → (w : Who)
      (left : Left) (full_at : Option ℕ) → Did land lines past w left full_at → AllByRecursion (λ (e : PastEntry). is_by w e ≡ true → IsPlain e) past
  deed_plain land lines past at theirs law (caller.Worker w) left full_at h = workers_plain w past theirs
  deed_plain land lines past at theirs law (caller.Session s) left full_at h =
      unfiltered (is_by (caller.Session s)) past
      (subst (λ is. AllByRecursion (λ (c : DeskCall). IsNoBuffered is c.command) (map desk_call (entries_by (caller.Session s) past))) at
      (subst (AllByRecursion (λ (c : DeskCall). IsNoBuffered land.intervals c.command)) h.calls (law land lines (caller.Session s) left.said _ h.did)))
  deed_plain land lines past at theirs law caller.Admin left full_at h =
      unfiltered (is_by caller.Admin) past
      (subst (λ is. AllByRecursion (λ (c : DeskCall). IsNoBuffered is c.command) (map desk_call (entries_by caller.Admin past))) at
      (subst (AllByRecursion (λ (c : DeskCall). IsNoBuffered land.intervals c.command)) h.calls (law land lines caller.Admin left.said _ h.did)))

  either : (w : Who) (ws : List Who) (past : List PastEntry) → AllByRecursion (λ (e : PastEntry). is_by w e ≡ true → IsPlain e) past
      → AllByRecursion (λ (e : PastEntry). list_any (λ (x : Who). is_by x e) ws ≡ true → IsPlain e) past
      → AllByRecursion (λ (e : PastEntry). list_any (λ (x : Who). is_by x e) (w ∷ ws) ≡ true → IsPlain e) past
  either w ws [] h k = tt
  either w ws (e ∷ past) h k = (by (is_by w e) refl h.0 k.0, either w ws past h.1 k.1)
    where
      by : (b : Bool) → is_by w e ≡ b → (is_by w e ≡ true → IsPlain e) → (list_any (λ (x : Who). is_by x e) ws ≡ true → IsPlain e)
          → (is_by w e || list_any (λ (x : Who). is_by x e) ws) ≡ true → IsPlain e
      by true is one later hit = one is
      by false is one later hit = later (ap (λ b. b || list_any (λ (x : Who). is_by x e) ws) (sym is) ∙ hit)

  none_of_none : (past : List PastEntry) → AllByRecursion (λ (e : PastEntry). list_any (λ (x : Who). is_by x e) [] ≡ true → IsPlain e) past
  none_of_none [] = tt
  none_of_none (e ∷ past) = ((λ yes. absurd (true≢false (sym yes))), none_of_none past)

  all_plain : (callers : List Who) (past : List PastEntry) → AreAmong callers past
      → AllByRecursion (λ (e : PastEntry). list_any (λ (x : Who). is_by x e) callers ≡ true → IsPlain e) past → AllByRecursion IsPlain past
  all_plain callers [] among h = tt
  all_plain callers (e ∷ past) among h = (h.0 among.0, all_plain callers past among.1 h.1)

pub none_at : (law : NoneLaw) (land : Land) (lines : List NumberedLine) (past : List PastEntry) (deeds : List Deed) → AreTheirs past
    → AllByRecursion (DidDeed land lines past) deeds → AreAmong (map (λ (d : Deed). d.who) deeds) past → NoneBuffered land.intervals past
none_at law land lines past deeds theirs did among = all_plain land.intervals (map (λ (d : Deed). d.who) deeds) past among (go deeds did)
  where
    go : (ds : List Deed) → AllByRecursion (DidDeed land lines past) ds
        → AllByRecursion (λ (e : PastEntry). list_any (λ (x : Who). is_by x e) (map (λ (d : Deed). d.who) ds) ≡ true → IsNoBuffered land.intervals e.command)
        past
    go [] h = none_of_none land.intervals past
    go (d ∷ ds) h =
        either land.intervals d.who (map (λ (x : Deed). x.who) ds) past
        (deed_plain land.intervals land lines past refl theirs law d.who (left_of d) d.full_at h.0.did) (go ds h.1)
