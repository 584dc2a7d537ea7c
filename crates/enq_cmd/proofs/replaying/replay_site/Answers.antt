use Rattle.std.proofs.Common.{◌≡◌, true, inl, inr, refl, sym, ap, ◌∙◌, subst}
use Rattle.std.specs.Prelude.{IfSome, is_some}
use Rattle.enq_base.specs.declared.condition.Bad.TheVariants as bad
use Rattle.hall_model.specs.Unsound.{is_unsound_file, is_unsound_store}
use Rattle.script_runner.specs.Replay.{seen}
use Rattle.script_runner.specs.Faults.{is_link_fault}
use Rattle.enq_cmd.proofs.Served.{link_quiet, none_answered, none_linked, run_document, run_kind, run_linked, run_place, served_by, still_by, unserved}
use Rattle.enq_cmd.proofs.Tellings.{HasRun, completes_as, first_sound, never_bad, served_seen}
use Rattle.enq_cmd.specs.Main.{found_in, left_in}
use Rattle.enq_cmd.proofs.replaying.replay_site.Goals as goal

pub returns-in-Ok-clause-served : goal.returns-in-Ok-clause-served
returns-in-Ok-clause-served g c =
    let source = g.S.Source in
    let sink = g.T.Sink in
    let held = g.K.Keeper.held in
    let may_leave = g.K.Keeper.may_leave in
    let faults = g.K.Keeper.faults in
    let disk_faults = g.D.Disk.faults in
    let o = c.in-Ok.ensures.opened in
    let kept = c.make_ended.ensures.keeper ∙ c.into_site-keeper.ensures.keeper in
    let kept_disk = c.make_ended.ensures.disk ∙ c.into_site-keeper.ensures.disk in
    let t = is_some (held c.args.site.keeper) in
    let linked = is_some (g.L.Link.applied c.args.site.link) in
    let run : HasRun o.land t linked _ _ _ _ _ _ _ _ = record {
      first = o.first;
      known = c.as_slice.ensures ∙ o.known;
      history = c.make_ended.ensures.past ∙ c.into_site-keeper.ensures.past;
      runs = c.replay-why.ensures.run;
      complete = λ bytes left script calm. c.replay-why.ensures.complete bytes left script calm.source calm.sink calm.store calm.file;
    } in
    let from : seen _ _ _ _ (faults c.in-Ok.hall.keeper) (disk_faults c.in-Ok.hall.file.disk) ≡ seen _ _ _ _ (faults c.args.site.keeper)
    (disk_faults c.args.site.disk) =
    (λ i. seen (source.left c.args.script.now) (sink.written c.args.sink.now) (source.faults c.args.script.now) (sink.faults c.args.sink.now) (o.counts i)
    (o.file_counts i)) in
    let to : seen _ _ _ _ (faults c.replay-why.new.hall.keeper) (disk_faults c.replay-why.new.hall.file.disk) ≡ seen _ _ _ _
    (faults c.make_ended.result.site.keeper) (disk_faults c.make_ended.result.site.disk) =
    (λ i. seen (source.left c.replay-why.new.source) (sink.written c.replay-why.new.sink) (source.faults c.replay-why.new.source)
    (sink.faults c.replay-why.new.sink) (faults (sym kept i)) (disk_faults (sym kept_disk i))) in
    let served = served_by held may_leave faults g.D.Disk.tells g.D.Disk.reads g.D.Disk.may_leave disk_faults g.L.Link.applied _ c.args.site.keeper
    c.args.site.disk c.args.site.link c.in-Ok.hall c.in-Ok.objects o
    c.replay-why.new.hall c.make_ended.result.site.keeper c.make_ended.result.site.disk kept kept_disk c.replay-why.ensures.told
    c.into_site-keeper.ensures.left c.into_site-keeper.ensures.lists c.into_site-keeper.ensures.open_units
    (g.L.Link.applied c.make_ended.result.site.link)
    (subst (λ l. c.replay-why.new.hall.state.attached ≡ true → IfSome (g.L.Link.applied l) (λ list. list ≡ c.replay-why.new.hall.state.locks))
    (sym c.make_ended.ensures.link) c.into_site-keeper.ensures.replica)
    c.replay-why.ensures.good_file c.replay-why.ensures.good_store c.replay-why.ensures.good_replica _ _ _ _ _ run in
    inl (record {
      land = o.land;
      read = o.read;
      serves = inl (served_seen o.land
          (found_in held may_leave g.D.Disk.tells g.D.Disk.reads g.D.Disk.may_leave g.L.Link.applied c.args.site.keeper c.args.site.disk c.args.site.link)
          (left_in may_leave g.D.Disk.may_leave g.L.Link.applied c.make_ended.result.site.keeper c.make_ended.result.site.disk c.make_ended.result.site.link)
          _ _ _ _ _ _ _ from to (sym c.make_ended.ensures.why) served.0);
    })

pub returns-in-Ok-clause-no_landing : goal.returns-in-Ok-clause-no_landing
returns-in-Ok-clause-no_landing g c (inl moved) = absurd (moved c.in-Ok.ensures.steady)
returns-in-Ok-clause-no_landing g c (inr bad) =
    absurd (run_document c.make_ended.result.why
    (run_kind c.in-Ok.hall.state c.replay-why.new.hall.state _ _ _ c.replay-why.result c.make_ended.result.why c.make_ended.ensures.why
    c.replay-why.ensures.run) bad)

pub returns-in-Err-clause-served : goal.returns-in-Err-clause-served
returns-in-Err-clause-served g c =
    unserved g.K.Keeper.held g.K.Keeper.may_leave g.K.Keeper.faults g.D.Disk.tells g.D.Disk.reads g.D.Disk.may_leave g.D.Disk.faults
    g.L.Link.applied _ _ _ c.args.script.now c.args.sink.now
    c.args.site.keeper c.in-Err.ended.site.keeper c.args.site.disk c.in-Err.ended.site.disk c.args.site.link c.in-Err.ended.site.link _ _ _ _ _ _
    c.in-Err.ensures.past c.in-Err.ensures.linked c.in-Err.ensures.unserved

pub returns-in-Err-clause-complete : goal.returns-in-Err-clause-complete
returns-in-Err-clause-complete g c bytes left script document told_document other gives told good fit on tells file steady calm quiet kept still =
    c.in-Err.ensures.complete document told_document other gives told good fit tells file steady kept still

pub returns-in-Ok-clause-complete : goal.returns-in-Ok-clause-complete
returns-in-Ok-clause-complete g c bytes left script document told_document other gives told good fit on tells file steady calm quiet kept still =
    let held = g.K.Keeper.held in
    let faults = g.K.Keeper.faults in
    let disk_faults = g.D.Disk.faults in
    let o = c.in-Ok.ensures.opened in
    let t = is_some (held c.args.site.keeper) in
    let linked = is_some (g.L.Link.applied c.args.site.link) in
    completes_as (g.K.Keeper.may_leave c.args.site.keeper) o.land t linked c.in-Ok.hall.state.stored _ c.in-Ok.hall.state c.replay-why.new.hall.state bytes _ _
    c.replay-why.result c.make_ended.result.why o.first (sym c.make_ended.ensures.why)
    (c.replay-why.ensures.good_file (ap (λ l. is_some (g.L.Link.applied l)) o.linked ∙ on) tells
    (first_sound is_unsound_file o.land t linked c.in-Ok.hall.state.stored c.in-Ok.hall.state o.first))
    (c.replay-why.ensures.good_store (o.told ∙ told) (first_sound is_unsound_store o.land t linked c.in-Ok.hall.state.stored c.in-Ok.hall.state o.first))
    (c.replay-why.ensures.complete bytes left script calm quiet
    (still_by (faults c.in-Ok.hall.keeper) (faults c.replay-why.new.hall.keeper) (faults c.args.site.keeper) (faults c.make_ended.result.site.keeper) o.counts
    (ap faults (sym (c.make_ended.ensures.keeper ∙ c.into_site-keeper.ensures.keeper))) kept)
    (still_by (disk_faults c.in-Ok.hall.file.disk) (disk_faults c.replay-why.new.hall.file.disk) (disk_faults c.args.site.disk)
    (disk_faults c.make_ended.result.site.disk) o.file_counts (ap disk_faults (sym (c.make_ended.ensures.disk ∙ c.into_site-keeper.ensures.disk))) still))

pub returns-in-Ok-clause-bad_store : goal.returns-in-Ok-clause-bad_store
returns-in-Ok-clause-bad_store g c =
    let held = g.K.Keeper.held in
    let o = c.in-Ok.ensures.opened in
    let before = c.in-Ok.hall.state in
    let t = is_some (held c.args.site.keeper) in
    let linked = is_some (g.L.Link.applied c.args.site.link) in
    run_place _ c.make_ended.result.why
    (run_kind before c.replay-why.new.hall.state _ _ _ c.replay-why.result c.make_ended.result.why c.make_ended.ensures.why c.replay-why.ensures.run)
    (λ yes table row is.
    let told = sym c.replay-why.ensures.told ∙ ap (λ k. is_some (held k)) (sym (c.make_ended.ensures.keeper ∙ c.into_site-keeper.ensures.keeper)) ∙ yes in
    never_bad is_unsound_store o.land t linked before.stored before c.replay-why.new.hall.state (bad.Store table row) refl o.first
    (c.replay-why.ensures.good_store told (first_sound is_unsound_store o.land t linked before.stored before o.first))
    (c.replay-why.ensures.bad_store table row (sym c.make_ended.ensures.why ∙ is)))

pub returns-in-Ok-clause-bad_backup : goal.returns-in-Ok-clause-bad_backup
returns-in-Ok-clause-bad_backup g c on is_told place is =
    let o = c.in-Ok.ensures.opened in
    let before = c.in-Ok.hall.state in
    let t = is_some (g.K.Keeper.held c.args.site.keeper) in
    let linked = is_some (g.L.Link.applied c.args.site.link) in
    absurd (never_bad is_unsound_file o.land t linked before.stored before c.replay-why.new.hall.state (bad.Backup place) refl o.first
    (c.replay-why.ensures.good_file (ap (λ l. is_some (g.L.Link.applied l)) o.linked ∙ on) is_told
    (first_sound is_unsound_file o.land t linked before.stored before o.first))
    (c.replay-why.ensures.bad_backup place (sym c.make_ended.ensures.why ∙ is)))

pub returns-in-Ok-clause-bad_file : goal.returns-in-Ok-clause-bad_file
returns-in-Ok-clause-bad_file g c is_told none place is =
    let o = c.in-Ok.ensures.opened in
    let before = c.in-Ok.hall.state in
    let t = is_some (g.K.Keeper.held c.args.site.keeper) in
    let linked = is_some (g.L.Link.applied c.args.site.link) in
    absurd (never_bad is_unsound_file o.land t linked before.stored before c.replay-why.new.hall.state (bad.Backup place) refl o.first
    (none_answered is_unsound_file c.replay-why.new.hall.state.past (sym (c.make_ended.ensures.past ∙ c.into_site-keeper.ensures.past) ∙ none))
    (c.replay-why.ensures.bad_backup place (sym c.make_ended.ensures.why ∙ is)))

pub returns-in-Ok-clause-link_told : goal.returns-in-Ok-clause-link_told
returns-in-Ok-clause-link_told g c =
    ap (λ l. is_some (g.L.Link.applied l)) (c.make_ended.ensures.link ∙ c.into_site-keeper.ensures.link) ∙ c.replay-why.ensures.link.told
    ∙ ap (λ l. is_some (g.L.Link.applied l)) c.in-Ok.ensures.opened.linked

pub returns-in-Err-clause-link_told : goal.returns-in-Err-clause-link_told
returns-in-Err-clause-link_told g c = ap (λ l. is_some (g.L.Link.applied l)) c.in-Err.ensures.linked

pub returns-in-Ok-clause-link_fault : goal.returns-in-Ok-clause-link_fault
returns-in-Ok-clause-link_fault g c =
    let faults = g.L.Link.faults in
    let o = c.in-Ok.ensures.opened in
    link_quiet o.land (is_some (g.K.Keeper.held c.args.site.keeper)) (is_some (g.L.Link.applied c.args.site.link)) c.in-Ok.hall.state.stored
    c.in-Ok.hall.state c.replay-why.new.hall.state c.make_ended.result.past
    (faults c.in-Ok.hall.replica.link) (faults c.replay-why.new.hall.replica.link) (faults c.args.site.link) (faults c.make_ended.result.site.link)
    o.first (c.make_ended.ensures.past ∙ c.into_site-keeper.ensures.past) (ap faults o.linked)
    (ap faults (sym (c.make_ended.ensures.link ∙ c.into_site-keeper.ensures.link)))
    c.replay-why.ensures.link_fault

pub returns-in-Err-clause-link_fault : goal.returns-in-Err-clause-link_fault
returns-in-Err-clause-link_fault g c quiet = none_answered is_link_fault c.in-Err.ended.past c.in-Err.ensures.past

pub returns-in-Ok-clause-link_counts : goal.returns-in-Ok-clause-link_counts
returns-in-Ok-clause-link_counts g c =
    let o = c.in-Ok.ensures.opened in
    let old = c.in-Ok.hall in
    let new = c.replay-why.new.hall in
    run_linked g.L.Link.faults g.L.Link.refusals o.land (is_some (g.K.Keeper.held c.args.site.keeper))
    (is_some (g.L.Link.applied c.args.site.link)) old.state.stored old.state new.state
    c.make_ended.result.past c.args.site.link old.replica.link new.replica.link c.make_ended.result.site.link
    o.first (c.make_ended.ensures.past ∙ c.into_site-keeper.ensures.past) o.linked (c.make_ended.ensures.link ∙ c.into_site-keeper.ensures.link)
    c.replay-why.ensures.link_counts

pub returns-in-Err-clause-link_counts : goal.returns-in-Err-clause-link_counts
returns-in-Err-clause-link_counts g c =
    none_linked g.L.Link.faults g.L.Link.refusals c.args.site.link c.in-Err.ended.site.link c.in-Err.ended.past c.in-Err.ensures.linked c.in-Err.ensures.past
