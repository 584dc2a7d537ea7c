-- A script that was done by threads over an open server.
use Rattle.std.proofs.Common.{◌≡◌, ◌⊎◌, inl, inr, Bool, true, false, ℕ, zero, suc, List, [], replicate, Option, Some, None, Result, Ok, Err, refl, sym, ap, ◌∙◌, subst}
use Rattle.std.proofs.Math.Logic.{∥∥₁_elim, ∥∥₁_map, ∥∥₁_prop}
use Rattle.std.specs.Prelude.{is_some, IfSome, IsTrue}
use Rattle.enq_base.specs.Causes.{Rose}
use Rattle.hall_calls.specs.Filing.{LeavesLists}
use Rattle.hall_calls.specs.Leaving.{LeavesState}
use Rattle.hall_calls.specs.View.{View}
use Rattle.hall_model.specs.Kept.{HasOpenUnits}
use Rattle.hall_model.specs.Orders.{order_of}
use Rattle.hall_model.specs.Recall.{state_after}
use Rattle.hall_model.specs.State.{State}
use Rattle.hall_model.specs.declared.command.PastEntry.{PastEntry}
use Rattle.keeper_api.specs.Rows.{Rows}
use Rattle.landscape.specs.Broken.{Broken}
use Rattle.landscape.specs.Landscape.{landscape_of}
use Rattle.landscape.specs.declared.landscape.Landscape.{Landscape}
use Rattle.lock_entry.specs.declared.entry.Entry.{Entry}
use Rattle.lock_objects.specs.Objects.{Object}
use Rattle.order_laws.specs.Behind.{NoneHasOrder}
use Rattle.script_actors.specs.declared.drawing.Drawing.{Drawing}
use Rattle.script_runner.specs.Faults.{NoneUnsound, NoneUnsoundStore}
use Rattle.script_runner.specs.Replay.{Seen, seen}
use Rattle.script_runner.specs.Replicas.{CountsLinkEach, LinkCounts, link_counts}
use Rattle.script_runner.specs.declared.runner.Why.{Why}
use Rattle.thread_runner.specs.Threads.{RunsThreads}
use Rattle.turn_desks.specs.Led.{Counts, IsLed, counts_of}
use Rattle.update_records.specs.Ledger.{Ledger}
use Rattle.whole_script.specs.Reading.{BlamesFirst}
use Rattle.enq_cmd.proofs.LinkCounts.{counts_found}
use Rattle.enq_cmd.proofs.Served.{promises_by}
use Rattle.enq_cmd.proofs.ThreadEnds.{opening_blames}
use Rattle.enq_cmd.specs.Main.{IsLandEnd, IsRead, IsUnopened, IsUntouched, first_state, found_in, left_in}
use Rattle.enq_cmd.specs.Opening.{IsLandedAlone, IsOpened, IsUnlanded}
use Rattle.enq_cmd.specs.Running.{HasThreads, IsServedByThreads}

module _ {K D L : Type 0} (held : K → Option Rows) (may_leave : K → Rows → Type 0) (faults : K → ℕ) (tells : Bool) (reads : D → List ℕ)
    (images : D → List ℕ → Type 0) (file_faults : D → ℕ)
    (applied : L → Option (List Entry)) (link_faults refusals : L → ℕ) (left : Option (List ℕ)) (keeper : K) (disk : D) (link : L) (hall : View K D L)
    (objects : List Object)
    (o : IsOpened held may_leave faults tells reads file_faults applied left keeper disk link hall objects) where
  abbrev first : State
  first = first_state o.land (is_some (held keeper)) (is_some (applied link)) hall.state.stored

  abbrev counted : K → D → L → Counts
  counted k d l = counts_of faults file_faults link_faults refusals k d l

  -- the counts of the site are those of the server that was opened over it
  counts_from : counted hall.keeper hall.file.disk hall.replica.link ≡ counted keeper disk link
  counts_from =
      λ i. record { store = o.counts i; file = o.file_counts i; link = record { faults = link_faults (o.linked i); refusals = refusals (o.linked i) } }

  -- what the server that was opened was led to, said of its first state
  abbrev Leads : State → Counts → Counts → Type 0
  Leads s before now = IsLed (is_some (held hall.keeper)) tells (is_some (applied hall.replica.link)) first before s now

  pub leads_from : (s : State) (now : Counts) → IsLed (is_some (held hall.keeper)) tells (is_some (applied hall.replica.link)) hall.state
      (counted hall.keeper hall.file.disk hall.replica.link) s now → Leads s (counted keeper disk link) now
  leads_from s now h =
      subst (λ x. IsLed (is_some (held hall.keeper)) tells (is_some (applied hall.replica.link)) x (counted keeper disk link) s now) o.first
      (subst (λ b. IsLed (is_some (held hall.keeper)) tells (is_some (applied hall.replica.link)) hall.state b s now) counts_from h)

  module _ (after : View K D L) (keeper_now : K) (disk_now : D) (link_now : L) (kept : keeper_now ≡ after.keeper) (kept_disk : disk_now ≡ after.file.disk)
      (kept_link : link_now ≡ after.replica.link) (past : List PastEntry) (history : past ≡ after.state.past)
      (led : ∥ IsLed (is_some (held hall.keeper)) tells (is_some (applied hall.replica.link)) hall.state
      (counted hall.keeper hall.file.disk hall.replica.link)
      after.state (counted after.keeper after.file.disk after.replica.link) ∥₁) where
    counts_to : counted after.keeper after.file.disk after.replica.link ≡ counted keeper_now disk_now link_now
    counts_to = λ i. record {
      store = faults (sym kept i);
      file = file_faults (sym kept_disk i);
      link =
          record { faults = link_faults (sym kept_link i); refusals = refusals (sym kept_link i) };
    }

    leads : ∥ Leads after.state (counted keeper disk link) (counted keeper_now disk_now link_now) ∥₁
    leads = ∥∥₁_map led
        (λ h. subst (Leads after.state (counted keeper disk link)) counts_to
        (leads_from after.state (counted after.keeper after.file.disk after.replica.link) h))

    -- the link's counts, call by call
    linked_past : (counts counts_now : Counts) → Leads after.state counts counts_now → CountsLinkEach false past counts.link counts_now.link
    linked_past counts counts_now h = subst (λ p. CountsLinkEach false p counts.link counts_now.link) (sym history) h.link.counted

    pub threads_linked : CountsLinkEach false past (counted keeper disk link).link (counted keeper_now disk_now link_now).link
    threads_linked =
        counts_found false past (counted keeper disk link).link (counted keeper_now disk_now link_now).link
        (∥∥₁_map leads (linked_past (counted keeper disk link) (counted keeper_now disk_now link_now)))

    -- what the calls found of devices that tell what they hold
    pub threads_good : is_some (applied hall.replica.link) ≡ true → IsTrue tells → ∥ NoneUnsound after.state.past ∥₁
    threads_good on is_told = ∥∥₁_map led (λ h. h.good_file on is_told)

    pub threads_sound : is_some (held hall.keeper) ≡ true → ∥ NoneUnsoundStore after.state.past ∥₁
    threads_sound is_told = ∥∥₁_map led (λ h. h.good_store is_told)

    module _ (told : is_some (held after.keeper) ≡ is_some (held hall.keeper)) (leaves : LeavesState held may_leave after)
        (lists : LeavesLists tells images after)
        (units : HasOpenUnits after.state) (replica : Option (List Entry))
        (follows : after.state.attached ≡ true → IfSome replica (λ list. list ≡ after.state.locks))
        (known : List Object) (same : known ≡ objects) (workers : ℕ) (rest rest_now written written_now : Option (List ℕ)) (source source_now sink sink_now : ℕ)
        (drawn told_drawn : List Drawing) (drew : told_drawn ≡ drawn) (why end : Why) (ends : end ≡ why) where
      abbrev seen_old : K → D → Seen
      seen_old k d = seen rest written source sink (faults k) (file_faults d)

      abbrev seen_new : K → D → Seen
      seen_new k d = seen rest_now written_now source_now sink_now (faults k) (file_faults d)

      old_from : seen_old hall.keeper hall.file.disk ≡ seen_old keeper disk
      old_from = λ i. seen rest written source sink (o.counts i) (o.file_counts i)

      new_to : seen_new after.keeper after.file.disk ≡ seen_new keeper_now disk_now
      new_to = λ i. seen rest_now written_now source_now sink_now (faults (sym kept i)) (file_faults (sym kept_disk i))

      -- a run of the server that was opened is one from its first state, with the landscape's lock objects
      runs_from : (s : State) → after.state ≡ s → RunsThreads known workers hall.state after.state drawn (seen_old hall.keeper hall.file.disk)
          (seen_new after.keeper after.file.disk) why
          → RunsThreads o.land.objects workers first s told_drawn (seen_old keeper disk) (seen_new keeper_now disk_now) end
      runs_from s is h =
          subst (λ ds. RunsThreads o.land.objects workers first s ds (seen_old keeper disk) (seen_new keeper_now disk_now) end) (sym drew)
          (subst (λ w. RunsThreads o.land.objects workers first s drawn (seen_old keeper disk) (seen_new keeper_now disk_now) w) (sym ends)
          (subst (λ n. RunsThreads o.land.objects workers first s drawn (seen_old keeper disk) n why) new_to
          (subst (λ n. RunsThreads o.land.objects workers first s drawn n (seen_new after.keeper after.file.disk) why) old_from
          (subst (λ x. RunsThreads o.land.objects workers first x drawn (seen_old hall.keeper hall.file.disk) (seen_new after.keeper after.file.disk) why) is
          (subst (λ x. RunsThreads o.land.objects workers x after.state drawn (seen_old hall.keeper hall.file.disk) (seen_new after.keeper after.file.disk) why)
          o.first
          (subst (λ os. RunsThreads os workers hall.state after.state drawn (seen_old hall.keeper hall.file.disk) (seen_new after.keeper after.file.disk) why)
          (same ∙ o.known) h))))))

      served_so : Leads after.state (counted keeper disk link) (counted keeper_now disk_now link_now)
          → RunsThreads known workers hall.state after.state drawn (seen_old hall.keeper hall.file.disk) (seen_new after.keeper after.file.disk) why
          → IsServedByThreads o.land workers (found_in held may_leave tells reads images applied keeper disk link)
          (record { rows = may_leave keeper_now; images = images disk_now; list = replica })
          (seen_old keeper disk) (seen_new keeper_now disk_now) (link_counts link_faults refusals link)
          (link_counts link_faults refusals link_now) past told_drawn end
      served_so h run = record {
        stored = hall.state.stored;
        made = h.made;
        promises = promises_by held may_leave faults tells reads images file_faults applied left keeper disk link hall objects o
            after keeper_now disk_now kept kept_disk told leaves lists units replica follows h.good_file h.good_store h.good_replica
            (seen_old keeper disk) (seen_new keeper_now disk_now) past history h.made (history ∙ h.calls) h.answers h.state h.store h.file;
        history = ap (λ (s : State). s.past) (sym h.state) ∙ sym history;
        runs = runs_from (state_after first h.made) h.state run;
        link = linked_past (counted keeper disk link) (counted keeper_now disk_now link_now) h;
      }

      pub threads_by : ∥ RunsThreads known workers hall.state after.state drawn (seen_old hall.keeper hall.file.disk)
          (seen_new after.keeper after.file.disk) why ∥₁
          → ∥ HasThreads workers left (found_in held may_leave tells reads images applied keeper disk link)
          (record { rows = may_leave keeper_now; images = images disk_now; list = replica }) disk disk_now link link_now
          (seen_old keeper disk) (seen_new keeper_now disk_now) (link_counts link_faults refusals link)
          (link_counts link_faults refusals link_now) past told_drawn end ∥₁
      threads_by runs =
          ∥∥₁_elim leads ∥∥₁_prop (λ h. ∥∥₁_map runs (λ run. record {
            land = o.land;
            read = o.read;
            serves = inl (served_so h run);
          }))

-- a site of which no server came, beside a script and a sink that nobody touched
pub unthreaded : {S T K D L : Type 0} (held : K → Option Rows) (may_leave : K → Rows → Type 0) (faults : K → ℕ) (tells : Bool) (reads : D → List ℕ)
    (images : D → List ℕ → Type 0) (file_faults : D → ℕ) (applied : L → Option (List Entry))
    (workers : ℕ) (left : Option (List ℕ)) (before now : ℕ) (script : S) (sink : T) (keeper keeper_now : K) (disk disk_now : D) (link link_now : L)
    (rest written : Option (List ℕ)) (source_faults sink_faults : ℕ) (counts counts_now : LinkCounts) (past : List PastEntry) (drawn : List Drawing) (why : Why)
    → past ≡ [] → drawn ≡ [] → link_now ≡ link
    → IsUnlanded before now keeper keeper_now disk disk_now why ⊎ IsLandedAlone held may_leave faults tells reads images file_faults applied left
    keeper keeper_now disk disk_now link link_now why
    → ∥ HasThreads workers left (found_in held may_leave tells reads images applied keeper disk link)
    (left_in may_leave images applied keeper_now disk_now link_now)
    disk disk_now link link_now (seen rest written source_faults sink_faults (faults keeper) (file_faults disk))
    (seen rest written source_faults sink_faults (faults keeper_now) (file_faults disk_now)) counts counts_now past drawn why ∥₁
    ⊎ (IsLandEnd before now why × IsUntouched script script sink sink keeper keeper_now disk disk_now link link_now past × (drawn ≡ []))
unthreaded held may_leave faults tells reads images file_faults applied workers left before now script sink keeper keeper_now disk disk_now link link_now
    rest written source_faults sink_faults counts counts_now past drawn why none undrawn same (inl u) =
    inr (u.end, record { reading = refl; writing = refl; storing = u.storing; filing = u.filing; linking = same; none = none }, undrawn)
unthreaded held may_leave faults tells reads images file_faults applied workers left before now script sink keeper keeper_now disk disk_now link link_now
    rest written source_faults sink_faults counts counts_now past drawn why none undrawn same (inr a) =
    inl ∣ record {
      land = a.land;
      read = a.read;
      serves = inr (
        subst
            (λ p. IsUnopened (found_in held may_leave tells reads images applied keeper disk link) (left_in may_leave images applied keeper_now disk_now link_now)
            disk disk_now link link_now (seen rest written source_faults sink_faults (faults keeper) (file_faults disk))
            (seen rest written source_faults sink_faults (faults keeper_now) (file_faults disk_now)) p why) (sym none)
            (a.unopened rest written source_faults sink_faults),
        undrawn,
      );
    } ∣₁

-- for its end no line is to blame
pub unthreaded_blames : {K D L : Type 0} (held : K → Option Rows) (may_leave : K → Rows → Type 0) (faults : K → ℕ) (tells : Bool) (reads : D → List ℕ)
    (images : D → List ℕ → Type 0) (file_faults : D → ℕ) (applied : L → Option (List Entry))
    (left : Option (List ℕ)) (before now : ℕ) (keeper keeper_now : K) (disk disk_now : D) (link link_now : L) (why : Why) (bytes : List ℕ)
    → IsUnlanded before now keeper keeper_now disk disk_now why ⊎ IsLandedAlone held may_leave faults tells reads images file_faults applied left
    keeper keeper_now disk disk_now link link_now why
    → BlamesFirst bytes why
unthreaded_blames held may_leave faults tells reads images file_faults applied left before now keeper keeper_now disk disk_now link link_now why bytes (inl u) =
    opening_blames bytes before now why (inl u.end)
unthreaded_blames held may_leave faults tells reads images file_faults applied left before now keeper keeper_now disk disk_now link link_now why bytes (inr a) =
    opening_blames bytes before now why (inr (a.unopened None None 0 0).end)

-- ---- a first state

no_order : (n w : ℕ) → order_of (replicate n None) w ≡ None
no_order zero w = refl
no_order (suc n) zero = refl
no_order (suc n) (suc w) = no_order n w

-- no worker has an order in it
pub first_free : (land : Landscape) (told linked : Bool) (l : Ledger) (s : State) → s ≡ first_state land told linked l → NoneHasOrder s
first_free land told linked l s is = subst NoneHasOrder (sym is) (λ worker few. no_order 256 worker)

-- a count that rose under other names
pub rose_as : (a b c d : ℕ) → a ≡ c → b ≡ d → Rose a b → Rose c d
rose_as a b c d from to rose = subst (λ n. Rose n d) from (subst (λ n. Rose a n) to rose)

-- no bytes of a landscape that was read break a rule
pub never_broken : (left : Option (List ℕ)) (land : Landscape) (bytes : List ℕ) (broken : Broken) → IsRead left land → left ≡ Some bytes
    → landscape_of bytes ≡ Err broken → ⊥
never_broken left land bytes broken read is breaks =
    let same : bytes ≡ read.bytes = subst (λ o. IfSome o (λ all. all ≡ read.bytes)) is read.told in
    let wrong : ◌≡◌ {A = Result Landscape Broken} (Ok land) (Err broken) = sym read.gives ∙ ap landscape_of (sym same) ∙ breaks in
    absurd cc
