use Rattle.std.proofs.Common.{◌≡◌, true, inl, inr, length, sym, ap, ◌∙◌, subst}
use Rattle.std.specs.Prelude.{IfSome, is_some}
use Rattle.hall_model.specs.Unsound.{is_unsound_file}
use Rattle.script_runner.specs.Faults.{is_link_fault}
use Rattle.thread_runner.specs.Threads.{EndsWhole}
use Rattle.whole_script.specs.Reading.{BlamesFirst}
use Rattle.enq_cmd.proofs.LinkCounts.{quiet_each}
use Rattle.enq_cmd.proofs.Served.{none_answered, none_linked, still_by}
use Rattle.enq_cmd.proofs.ThreadEnds.{IsThreadsEnd, ends_whole, not_words, threads_broken, threads_document, threads_file, threads_full, threads_kind}
use Rattle.enq_cmd.proofs.ThreadEnds.{threads_last, threads_place, threads_sink, threads_source, threads_store, threads_unfit}
use Rattle.enq_cmd.proofs.ThreadRuns.{first_free, never_broken, rose_as, threads_by, threads_good, threads_linked, threads_sound, unthreaded, unthreaded_blames}
use Rattle.enq_cmd.proofs.running.run_site.Goals as goal

pub run-hall-requires-clause-none : goal.run-hall-requires-clause-none
run-hall-requires-clause-none g c = λ κs within. ap (λ s. s.past) c.in-Ok.ensures.opened.first

pub run-hall-requires-clause-up : goal.run-hall-requires-clause-up
run-hall-requires-clause-up g c = λ κs within. ap (λ s. s.condition) c.in-Ok.ensures.opened.first

pub run-hall-requires-clause-free : goal.run-hall-requires-clause-free
run-hall-requires-clause-free g c = λ κs within. first_free c.in-Ok.ensures.opened.land _ _ c.in-Ok.hall.state.stored c.in-Ok.hall.state
    c.in-Ok.ensures.opened.first

pub run-hall-requires-clause-opened : goal.run-hall-requires-clause-opened
run-hall-requires-clause-opened g c = λ κs within.
    let o = c.in-Ok.ensures.opened in record {
      max_locks = o.land.max_locks;
      mark_limit = o.land.max_marks;
      intervals = o.land.ranges;
      told = is_some (g.K.Keeper.held c.args.site.keeper);
      linked = is_some (g.L.Link.applied c.args.site.link);
      is = o.first;
      known = o.intervals;
      fits = o.fits;
      sound = o.sound;
    }

pub returns-in-Ok-clause-words : goal.returns-in-Ok-clause-words
returns-in-Ok-clause-words g c =
    not_words c.make_ended.result.why
    (subst IsThreadsEnd (sym c.make_ended.ensures.why) (threads_kind _ _ _ _ _ _ _ c.run-hall.result.2 c.run-hall.ensures.runs))

pub returns-in-Ok-clause-threads : goal.returns-in-Ok-clause-threads
returns-in-Ok-clause-threads g c =
    let held = g.K.Keeper.held in
    let may_leave = g.K.Keeper.may_leave in
    let faults = g.K.Keeper.faults in
    let disk_faults = g.D.Disk.faults in
    let applied = g.L.Link.applied in
    let o = c.in-Ok.ensures.opened in
    let kept = c.make_ended.ensures.keeper ∙ c.into_site-keeper.ensures.keeper in
    let kept_disk = c.make_ended.ensures.disk ∙ c.into_site-keeper.ensures.disk in
    let kept_link = c.make_ended.ensures.link ∙ c.into_site-keeper.ensures.link in
    let history = c.make_ended.ensures.past ∙ c.into_site-keeper.ensures.past in
    inl (threads_by held may_leave faults g.D.Disk.tells g.D.Disk.reads g.D.Disk.may_leave disk_faults applied g.L.Link.faults g.L.Link.refusals _
    c.args.site.keeper c.args.site.disk c.args.site.link c.in-Ok.hall c.in-Ok.objects o
    c.run-hall.result.0 c.make_ended.result.site.keeper c.make_ended.result.site.disk c.make_ended.result.site.link kept kept_disk kept_link
    c.make_ended.result.past history c.run-hall.ensures.led
    (c.run-hall.ensures.told) c.into_site-keeper.ensures.left c.into_site-keeper.ensures.lists c.into_site-keeper.ensures.open_units
    (applied c.make_ended.result.site.link)
    (subst (λ l. c.run-hall.result.0.state.attached ≡ true → IfSome (applied l) (λ list. list ≡ c.run-hall.result.0.state.locks))
    (sym c.make_ended.ensures.link) c.into_site-keeper.ensures.replica)
    c.as_slice.result.now c.as_slice.ensures c.args.workers _ _ _ _ _ _ _ _ c.run-hall.result.1.items c.make_ended.result.drawn c.make_ended.ensures.drawn
    c.run-hall.result.2 c.make_ended.result.why c.make_ended.ensures.why
    c.run-hall.ensures.runs)

pub returns-in-Ok-clause-told : goal.returns-in-Ok-clause-told
returns-in-Ok-clause-told g c =
    ap (λ k. is_some (g.K.Keeper.held k)) (c.make_ended.ensures.keeper ∙ c.into_site-keeper.ensures.keeper) ∙ c.run-hall.ensures.told
    ∙ c.in-Ok.ensures.opened.told

pub returns-in-Ok-clause-link_told : goal.returns-in-Ok-clause-link_told
returns-in-Ok-clause-link_told g c =
    ap (λ l. is_some (g.L.Link.applied l)) (c.make_ended.ensures.link ∙ c.into_site-keeper.ensures.link) ∙ c.run-hall.ensures.link_told
    ∙ ap (λ l. is_some (g.L.Link.applied l)) c.in-Ok.ensures.opened.linked

pub returns-in-Ok-clause-bad_landscape : goal.returns-in-Ok-clause-bad_landscape
returns-in-Ok-clause-bad_landscape g c bytes left broken breaks =
    absurd (never_broken _ c.in-Ok.ensures.opened.land bytes broken c.in-Ok.ensures.opened.read left breaks)

pub returns-in-Ok-clause-broken_rule : goal.returns-in-Ok-clause-broken_rule
returns-in-Ok-clause-broken_rule g c bytes left =
    threads_broken bytes c.make_ended.result.why
    (subst IsThreadsEnd (sym c.make_ended.ensures.why) (threads_kind _ _ _ _ _ _ _ c.run-hall.result.2 c.run-hall.ensures.runs))

pub returns-in-Ok-clause-unfit_interval : goal.returns-in-Ok-clause-unfit_interval
returns-in-Ok-clause-unfit_interval g c =
    threads_unfit _ _ _ c.make_ended.result.why
    (subst IsThreadsEnd (sym c.make_ended.ensures.why) (threads_kind _ _ _ _ _ _ _ c.run-hall.result.2 c.run-hall.ensures.runs))

pub returns-in-Ok-clause-no_landing : goal.returns-in-Ok-clause-no_landing
returns-in-Ok-clause-no_landing g c (inl moved) = absurd (moved c.in-Ok.ensures.steady)
returns-in-Ok-clause-no_landing g c (inr bad) =
    absurd (threads_document c.make_ended.result.why
    (subst IsThreadsEnd (sym c.make_ended.ensures.why) (threads_kind _ _ _ _ _ _ _ c.run-hall.result.2 c.run-hall.ensures.runs)) bad)

pub returns-in-Ok-clause-line_fault : goal.returns-in-Ok-clause-line_fault
returns-in-Ok-clause-line_fault g c bytes left =
    subst (BlamesFirst bytes) (sym c.make_ended.ensures.why) (c.run-hall.ensures.blamed bytes left)

pub returns-in-Ok-clause-complete : goal.returns-in-Ok-clause-complete
returns-in-Ok-clause-complete g c bytes left script document told_document other gives told good fit on tells file steady calm quiet stays still =
    let held = g.K.Keeper.held in
    let may_leave = g.K.Keeper.may_leave in
    let faults = g.K.Keeper.faults in
    let disk_faults = g.D.Disk.faults in
    let applied = g.L.Link.applied in
    let o = c.in-Ok.ensures.opened in
    let kept = c.make_ended.ensures.keeper ∙ c.into_site-keeper.ensures.keeper in
    let kept_disk = c.make_ended.ensures.disk ∙ c.into_site-keeper.ensures.disk in
    let kept_link = c.make_ended.ensures.link ∙ c.into_site-keeper.ensures.link in
    let history = c.make_ended.ensures.past ∙ c.into_site-keeper.ensures.past in
    ends_whole (may_leave c.args.site.keeper) c.make_ended.result.past c.make_ended.result.why
    (λ is. ap length history ∙ threads_full _ _ _ _ _ _ _ c.run-hall.result.2 c.run-hall.ensures.runs (sym c.make_ended.ensures.why ∙ is))
    (subst EndsWhole (sym c.make_ended.ensures.why) (c.run-hall.ensures.complete bytes left script calm quiet
    (still_by (faults c.in-Ok.hall.keeper) (faults c.run-hall.result.0.keeper) (faults c.args.site.keeper) (faults c.make_ended.result.site.keeper) o.counts
    (ap faults (sym kept)) stays)
    (still_by (disk_faults c.in-Ok.hall.file.disk) (disk_faults c.run-hall.result.0.file.disk) (disk_faults c.args.site.disk)
    (disk_faults c.make_ended.result.site.disk) o.file_counts (ap disk_faults (sym kept_disk)) still)
    (o.told ∙ told) (ap (λ l. is_some (applied l)) o.linked ∙ on) tells))

pub returns-in-Ok-clause-full : goal.returns-in-Ok-clause-full
returns-in-Ok-clause-full g c is =
    ap length (c.make_ended.ensures.past ∙ c.into_site-keeper.ensures.past)
    ∙ threads_full _ _ _ _ _ _ _ c.run-hall.result.2 c.run-hall.ensures.runs (sym c.make_ended.ensures.why ∙ is)

pub returns-in-Ok-clause-source_fault : goal.returns-in-Ok-clause-source_fault
returns-in-Ok-clause-source_fault g c is =
    inr (threads_source _ _ _ _ _ _ _ c.run-hall.result.2 c.run-hall.ensures.runs (sym c.make_ended.ensures.why ∙ is))

pub returns-in-Ok-clause-sink_fault : goal.returns-in-Ok-clause-sink_fault
returns-in-Ok-clause-sink_fault g c is =
    threads_sink _ _ _ _ _ _ _ c.run-hall.result.2 c.run-hall.ensures.runs (sym c.make_ended.ensures.why ∙ is)

pub returns-in-Ok-clause-store_fault : goal.returns-in-Ok-clause-store_fault
returns-in-Ok-clause-store_fault g c call is =
    let faults = g.K.Keeper.faults in
    rose_as (faults c.in-Ok.hall.keeper) (faults c.run-hall.result.0.keeper) (faults c.args.site.keeper)
    (faults c.make_ended.result.site.keeper) c.in-Ok.ensures.opened.counts
    (ap faults (sym (c.make_ended.ensures.keeper ∙ c.into_site-keeper.ensures.keeper)))
    (c.run-hall.ensures.store_fault call (sym c.make_ended.ensures.why ∙ is))

pub returns-in-Ok-clause-backup_fault : goal.returns-in-Ok-clause-backup_fault
returns-in-Ok-clause-backup_fault g c call is =
    let faults = g.D.Disk.faults in
    rose_as (faults c.in-Ok.hall.file.disk) (faults c.run-hall.result.0.file.disk) (faults c.args.site.disk)
    (faults c.make_ended.result.site.disk) c.in-Ok.ensures.opened.file_counts
    (ap faults (sym (c.make_ended.ensures.disk ∙ c.into_site-keeper.ensures.disk))) (c.run-hall.ensures.file_fault call (sym c.make_ended.ensures.why ∙ is))

pub returns-in-Ok-clause-link_fault : goal.returns-in-Ok-clause-link_fault
returns-in-Ok-clause-link_fault g c calm =
    let held = g.K.Keeper.held in
    let may_leave = g.K.Keeper.may_leave in
    let faults = g.K.Keeper.faults in
    let disk_faults = g.D.Disk.faults in
    let applied = g.L.Link.applied in
    let o = c.in-Ok.ensures.opened in
    let kept = c.make_ended.ensures.keeper ∙ c.into_site-keeper.ensures.keeper in
    let kept_disk = c.make_ended.ensures.disk ∙ c.into_site-keeper.ensures.disk in
    let kept_link = c.make_ended.ensures.link ∙ c.into_site-keeper.ensures.link in
    let history = c.make_ended.ensures.past ∙ c.into_site-keeper.ensures.past in
    quiet_each _ c.make_ended.result.past _ _
    (threads_linked held may_leave faults g.D.Disk.tells g.D.Disk.reads g.D.Disk.may_leave disk_faults applied g.L.Link.faults g.L.Link.refusals _
    c.args.site.keeper c.args.site.disk c.args.site.link c.in-Ok.hall c.in-Ok.objects o
    c.run-hall.result.0 c.make_ended.result.site.keeper c.make_ended.result.site.disk c.make_ended.result.site.link kept kept_disk kept_link
    c.make_ended.result.past history c.run-hall.ensures.led) calm

pub returns-in-Ok-clause-link_counts : goal.returns-in-Ok-clause-link_counts
returns-in-Ok-clause-link_counts g c =
    let held = g.K.Keeper.held in
    let may_leave = g.K.Keeper.may_leave in
    let faults = g.K.Keeper.faults in
    let disk_faults = g.D.Disk.faults in
    let applied = g.L.Link.applied in
    let o = c.in-Ok.ensures.opened in
    let kept = c.make_ended.ensures.keeper ∙ c.into_site-keeper.ensures.keeper in
    let kept_disk = c.make_ended.ensures.disk ∙ c.into_site-keeper.ensures.disk in
    let kept_link = c.make_ended.ensures.link ∙ c.into_site-keeper.ensures.link in
    let history = c.make_ended.ensures.past ∙ c.into_site-keeper.ensures.past in
    threads_linked held may_leave faults g.D.Disk.tells g.D.Disk.reads g.D.Disk.may_leave disk_faults applied g.L.Link.faults g.L.Link.refusals _
    c.args.site.keeper c.args.site.disk c.args.site.link c.in-Ok.hall c.in-Ok.objects o
    c.run-hall.result.0 c.make_ended.result.site.keeper c.make_ended.result.site.disk c.make_ended.result.site.link kept kept_disk kept_link
    c.make_ended.result.past history c.run-hall.ensures.led

pub returns-in-Ok-clause-bad_store : goal.returns-in-Ok-clause-bad_store
returns-in-Ok-clause-bad_store g c =
    let held = g.K.Keeper.held in
    let may_leave = g.K.Keeper.may_leave in
    let faults = g.K.Keeper.faults in
    let disk_faults = g.D.Disk.faults in
    let applied = g.L.Link.applied in
    let o = c.in-Ok.ensures.opened in
    let kept = c.make_ended.ensures.keeper ∙ c.into_site-keeper.ensures.keeper in
    let kept_disk = c.make_ended.ensures.disk ∙ c.into_site-keeper.ensures.disk in
    let kept_link = c.make_ended.ensures.link ∙ c.into_site-keeper.ensures.link in
    let history = c.make_ended.ensures.past ∙ c.into_site-keeper.ensures.past in
    threads_place (held c.make_ended.result.site.keeper) c.make_ended.result.why
    (subst IsThreadsEnd (sym c.make_ended.ensures.why) (threads_kind _ _ _ _ _ _ _ c.run-hall.result.2 c.run-hall.ensures.runs))
    (λ yes table row is.
    let told = sym c.run-hall.ensures.told ∙ ap (λ k. is_some (held k)) (sym kept) ∙ yes in
    threads_store _ _ _ _ _ _ _ c.run-hall.result.2 table row c.run-hall.ensures.runs (sym c.make_ended.ensures.why ∙ is)
    (threads_sound held may_leave faults g.D.Disk.tells g.D.Disk.reads g.D.Disk.may_leave disk_faults applied g.L.Link.faults g.L.Link.refusals _
    c.args.site.keeper c.args.site.disk c.args.site.link c.in-Ok.hall c.in-Ok.objects o
    c.run-hall.result.0 c.make_ended.result.site.keeper c.make_ended.result.site.disk c.make_ended.result.site.link kept kept_disk kept_link
    c.make_ended.result.past history c.run-hall.ensures.led told))

pub returns-in-Ok-clause-bad_backup : goal.returns-in-Ok-clause-bad_backup
returns-in-Ok-clause-bad_backup g c on is_told place is =
    let held = g.K.Keeper.held in
    let may_leave = g.K.Keeper.may_leave in
    let faults = g.K.Keeper.faults in
    let disk_faults = g.D.Disk.faults in
    let applied = g.L.Link.applied in
    let o = c.in-Ok.ensures.opened in
    let kept = c.make_ended.ensures.keeper ∙ c.into_site-keeper.ensures.keeper in
    let kept_disk = c.make_ended.ensures.disk ∙ c.into_site-keeper.ensures.disk in
    let kept_link = c.make_ended.ensures.link ∙ c.into_site-keeper.ensures.link in
    let history = c.make_ended.ensures.past ∙ c.into_site-keeper.ensures.past in
    absurd (threads_file _ _ _ _ _ _ _ c.run-hall.result.2 place c.run-hall.ensures.runs (sym c.make_ended.ensures.why ∙ is)
    (threads_good held may_leave faults g.D.Disk.tells g.D.Disk.reads g.D.Disk.may_leave disk_faults applied g.L.Link.faults g.L.Link.refusals _
    c.args.site.keeper c.args.site.disk c.args.site.link c.in-Ok.hall c.in-Ok.objects o
    c.run-hall.result.0 c.make_ended.result.site.keeper c.make_ended.result.site.disk c.make_ended.result.site.link kept kept_disk kept_link
    c.make_ended.result.past history c.run-hall.ensures.led (ap (λ l. is_some (applied l)) o.linked ∙ on) is_told))

pub returns-in-Ok-clause-bad_file : goal.returns-in-Ok-clause-bad_file
returns-in-Ok-clause-bad_file g c is_told none place is =
    absurd (threads_file _ _ _ _ _ _ _ c.run-hall.result.2 place c.run-hall.ensures.runs (sym c.make_ended.ensures.why ∙ is)
    ∣ none_answered is_unsound_file c.run-hall.result.0.state.past (sym (c.make_ended.ensures.past ∙ c.into_site-keeper.ensures.past) ∙ none) ∣₁)

pub returns-in-Ok-clause-no_start : goal.returns-in-Ok-clause-no_start
returns-in-Ok-clause-no_start g c =
    threads_last _ c.make_ended.result.why
    (subst IsThreadsEnd (sym c.make_ended.ensures.why) (threads_kind _ _ _ _ _ _ _ c.run-hall.result.2 c.run-hall.ensures.runs))

pub returns-in-Err-clause-threads : goal.returns-in-Err-clause-threads
returns-in-Err-clause-threads g c =
    unthreaded g.K.Keeper.held g.K.Keeper.may_leave g.K.Keeper.faults g.D.Disk.tells g.D.Disk.reads g.D.Disk.may_leave g.D.Disk.faults
    g.L.Link.applied c.args.workers _ _ _ c.args.script.now c.args.sink.now
    c.args.site.keeper c.in-Err.ended.site.keeper c.args.site.disk c.in-Err.ended.site.disk c.args.site.link c.in-Err.ended.site.link _ _ _ _ _ _ _ _ _
    c.in-Err.ensures.past c.in-Err.ensures.drawn c.in-Err.ensures.linked c.in-Err.ensures.unserved

pub returns-in-Err-clause-line_fault : goal.returns-in-Err-clause-line_fault
returns-in-Err-clause-line_fault g c bytes left =
    unthreaded_blames g.K.Keeper.held g.K.Keeper.may_leave g.K.Keeper.faults g.D.Disk.tells g.D.Disk.reads g.D.Disk.may_leave g.D.Disk.faults
    g.L.Link.applied _ _ _ c.args.site.keeper c.in-Err.ended.site.keeper c.args.site.disk c.in-Err.ended.site.disk c.args.site.link c.in-Err.ended.site.link
    c.in-Err.ended.why bytes c.in-Err.ensures.unserved

pub returns-in-Err-clause-complete : goal.returns-in-Err-clause-complete
returns-in-Err-clause-complete g c bytes left script document told_document other gives told good fit on tells file steady calm quiet kept still =
    inl (c.in-Err.ensures.complete document told_document other gives told good fit tells file steady kept still)

pub returns-in-Err-clause-full : goal.returns-in-Err-clause-full
returns-in-Err-clause-full g c is =
    absurd (c.in-Err.ensures.full is)

pub returns-in-Err-clause-link_told : goal.returns-in-Err-clause-link_told
returns-in-Err-clause-link_told g c =
    ap (λ l. is_some (g.L.Link.applied l)) c.in-Err.ensures.linked

pub returns-in-Err-clause-link_fault : goal.returns-in-Err-clause-link_fault
returns-in-Err-clause-link_fault g c quiet =
    none_answered is_link_fault c.in-Err.ended.past c.in-Err.ensures.past

pub returns-in-Err-clause-link_counts : goal.returns-in-Err-clause-link_counts
returns-in-Err-clause-link_counts g c =
    none_linked g.L.Link.faults g.L.Link.refusals c.args.site.link c.in-Err.ended.site.link c.in-Err.ended.past c.in-Err.ensures.linked c.in-Err.ensures.past
