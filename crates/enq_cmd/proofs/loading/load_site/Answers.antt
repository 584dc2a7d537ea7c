use Rattle.std.proofs.Common.{◌≡◌, true, inl, inr, refl, sym, ap, ◌∙◌, subst}
use Rattle.std.specs.Prelude.{IfSome, is_some}
use Rattle.load_gen.specs.Script.{script_of}
use Rattle.script_runner.specs.LineFaults.{IsToBlame}
use Rattle.enq_cmd.proofs.Generated.{blameless, is_script}
use Rattle.script_runner.specs.Faults.{is_link_fault}
use Rattle.enq_cmd.proofs.Served.{calm_load, link_quiet, load_ends, load_run, none_answered, none_linked, run_document, run_linked, run_place, run_unfit, served_by, unloaded}
use Rattle.enq_base.specs.declared.condition.Bad.TheVariants as bad
use Rattle.hall_model.specs.Unsound.{is_unsound_file, is_unsound_store}
use Rattle.enq_cmd.proofs.Tellings.{completes_as, first_sound, never_bad}
use Rattle.enq_cmd.specs.Loading.{IsRunEnd, ShowsCounts}
use Rattle.enq_cmd.proofs.loading.load_site.Goals as goal

pub returns-in-Ok-open_hall-clause-loaded : goal.returns-in-Ok-open_hall-clause-loaded
returns-in-Ok-open_hall-clause-loaded g c =
    let held = g.K.Keeper.held in
    let faults = g.K.Keeper.faults in
    let disk_faults = g.D.Disk.faults in
    let sink = g.T.Sink in
    let o = c.in-Ok-open_hall.ensures.opened in
    let r = c.load-why.ensures.run in
    let kept = c.make_ended.ensures.keeper ∙ c.into_site-keeper.ensures.keeper in
    let kept_disk = c.make_ended.ensures.disk ∙ c.into_site-keeper.ensures.disk in
    let known = c.as_slice.result.now in
    let run = load_run held g.K.Keeper.may_leave faults g.D.Disk.tells g.D.Disk.reads disk_faults g.L.Link.applied _ c.args.site.keeper c.args.site.disk
    c.args.site.link c.in-Ok-open_hall.hall c.in-Ok-open_hall.objects o
    c.load-why.new.hall c.make_ended.result.site.keeper c.make_ended.result.site.disk kept kept_disk known c.as_slice.ensures c.make_ended.result.past
    (c.make_ended.ensures.past ∙ c.into_site-keeper.ensures.past)
    c.in-Ok.source (script_of c.args.units) c.in-Ok.ensures _ _ _ _ _ r in
    let served = served_by held g.K.Keeper.may_leave faults g.D.Disk.tells g.D.Disk.reads g.D.Disk.may_leave disk_faults g.L.Link.applied _ c.args.site.keeper
    c.args.site.disk c.args.site.link c.in-Ok-open_hall.hall c.in-Ok-open_hall.objects o
    c.load-why.new.hall c.make_ended.result.site.keeper c.make_ended.result.site.disk kept kept_disk c.load-why.ensures.told
    c.into_site-keeper.ensures.left c.into_site-keeper.ensures.lists c.into_site-keeper.ensures.open_units
    (g.L.Link.applied c.make_ended.result.site.link)
    (subst (λ l. c.load-why.new.hall.state.attached ≡ true → IfSome (g.L.Link.applied l) (λ list. list ≡ c.load-why.new.hall.state.locks))
    (sym c.make_ended.ensures.link) c.into_site-keeper.ensures.replica)
    c.load-why.ensures.good_file c.load-why.ensures.good_store c.load-why.ensures.good_replica known _ _ c.make_ended.result.past r.end run in
    inl (record {
      land = o.land;
      read = o.read;
      loads = inl (record {
        end = r.end;
        rest = r.rest;
        served = served.0;
        shown = subst (λ s. ShowsCounts r.end s (sink.written c.args.sink.now) (sink.written c.load-why.new.sink) (sink.faults c.args.sink.now)
            (sink.faults c.load-why.new.sink) c.make_ended.result.why) served.1
            (subst (λ w. ShowsCounts r.end c.load-why.new.hall.state (sink.written c.args.sink.now) (sink.written c.load-why.new.sink)
            (sink.faults c.args.sink.now) (sink.faults c.load-why.new.sink) w) (sym c.make_ended.ensures.why) r.shown);
      });
    })

pub returns-clause-loaded : goal.returns-clause-loaded
returns-clause-loaded g c =
    unloaded g.K.Keeper.held g.K.Keeper.may_leave g.K.Keeper.faults g.D.Disk.tells g.D.Disk.reads g.D.Disk.may_leave g.D.Disk.faults
    g.L.Link.applied c.args.units _ _ _ c.args.sink.now
    c.args.site.keeper c.in-Err.ended.site.keeper c.args.site.disk c.in-Err.ended.site.disk c.args.site.link c.in-Err.ended.site.link _ _ _ _
    c.in-Err.ensures.past c.in-Err.ensures.linked c.in-Err.ensures.unserved

pub returns-in-Ok-open_hall-clause-unfit_interval : goal.returns-in-Ok-open_hall-clause-unfit_interval
returns-in-Ok-open_hall-clause-unfit_interval g c = run_unfit _ _ _ c.make_ended.result.why
    (subst IsRunEnd (sym c.make_ended.ensures.why) c.load-why.ensures.kind)

pub returns-in-Ok-open_hall-clause-bad_store : goal.returns-in-Ok-open_hall-clause-bad_store
returns-in-Ok-open_hall-clause-bad_store g c =
    let held = g.K.Keeper.held in
    let o = c.in-Ok-open_hall.ensures.opened in
    let before = c.in-Ok-open_hall.hall.state in
    let t = is_some (held c.args.site.keeper) in
    let linked = is_some (g.L.Link.applied c.args.site.link) in
    run_place _ c.make_ended.result.why (subst IsRunEnd (sym c.make_ended.ensures.why) c.load-why.ensures.kind)
    (λ yes table row is.
    let told = sym c.load-why.ensures.told ∙ ap (λ k. is_some (held k)) (sym (c.make_ended.ensures.keeper ∙ c.into_site-keeper.ensures.keeper)) ∙ yes in
    never_bad is_unsound_store o.land t linked before.stored before c.load-why.new.hall.state (bad.Store table row) refl o.first
    (c.load-why.ensures.good_store told (first_sound is_unsound_store o.land t linked before.stored before o.first))
    (c.load-why.ensures.bad_store table row (sym c.make_ended.ensures.why ∙ is)))

pub returns-in-Ok-open_hall-clause-no_landing : goal.returns-in-Ok-open_hall-clause-no_landing
returns-in-Ok-open_hall-clause-no_landing g c (inl moved) = absurd (moved c.in-Ok-open_hall.ensures.steady)
returns-in-Ok-open_hall-clause-no_landing g c (inr bad) =
    absurd (run_document c.make_ended.result.why (subst IsRunEnd (sym c.make_ended.ensures.why) c.load-why.ensures.kind) bad)

pub returns-in-Ok-open_hall-clause-line_fault : goal.returns-in-Ok-open_hall-clause-line_fault
returns-in-Ok-open_hall-clause-line_fault g c bytes =
    blameless (script_of c.args.units) bytes c.make_ended.result.why (is_script c.args.units c.requires.count)
    (subst (λ w. IsToBlame w (script_of c.args.units)) (sym c.make_ended.ensures.why)
    (subst (IsToBlame c.load-why.result) c.in-Ok.ensures c.load-why.ensures.line_fault))

pub returns-in-Ok-open_hall-clause-complete : goal.returns-in-Ok-open_hall-clause-complete
returns-in-Ok-open_hall-clause-complete g c document told_document other gives told good fit on tells file steady quiet kept still =
    let held = g.K.Keeper.held in
    let faults = g.K.Keeper.faults in
    let disk_faults = g.D.Disk.faults in
    let sink = g.T.Sink in
    let o = c.in-Ok-open_hall.ensures.opened in
    let r = c.load-why.ensures.run in
    let text = script_of c.args.units in
    let run = load_run held g.K.Keeper.may_leave faults g.D.Disk.tells g.D.Disk.reads disk_faults g.L.Link.applied _ c.args.site.keeper c.args.site.disk
    c.args.site.link c.in-Ok-open_hall.hall c.in-Ok-open_hall.objects o
    c.load-why.new.hall c.make_ended.result.site.keeper c.make_ended.result.site.disk (c.make_ended.ensures.keeper ∙ c.into_site-keeper.ensures.keeper)
    (c.make_ended.ensures.disk ∙ c.into_site-keeper.ensures.disk)
    c.as_slice.result.now c.as_slice.ensures c.make_ended.result.past (c.make_ended.ensures.past ∙ c.into_site-keeper.ensures.past)
    c.in-Ok.source text c.in-Ok.ensures _ _ _ _ _ r in
    let end = completes_as (g.K.Keeper.may_leave c.args.site.keeper) o.land (is_some (held c.args.site.keeper))
    (is_some (g.L.Link.applied c.args.site.link)) _ _ _ _ text _ _ r.end r.end o.first refl
    (c.load-why.ensures.good_file (ap (λ l. is_some (g.L.Link.applied l)) o.linked ∙ on) tells
    (first_sound is_unsound_file o.land (is_some (held c.args.site.keeper))
    (is_some (g.L.Link.applied c.args.site.link)) c.in-Ok-open_hall.hall.state.stored c.in-Ok-open_hall.hall.state o.first))
    (c.load-why.ensures.good_store (o.told ∙ told)
    (first_sound is_unsound_store o.land (is_some (held c.args.site.keeper))
    (is_some (g.L.Link.applied c.args.site.link)) c.in-Ok-open_hall.hall.state.stored c.in-Ok-open_hall.hall.state o.first))
    (run.complete text refl (is_script c.args.units c.requires.count) (calm_load text r.rest _ _ _ _ kept still)) in
    load_ends (g.K.Keeper.may_leave c.args.site.keeper) r.end c.make_ended.result.why c.load-why.new.hall.state (sink.written c.args.sink.now)
    (sink.written c.load-why.new.sink) (sink.faults c.args.sink.now) (sink.faults c.load-why.new.sink) end
    (subst (ShowsCounts r.end c.load-why.new.hall.state (sink.written c.args.sink.now) (sink.written c.load-why.new.sink) (sink.faults c.args.sink.now)
    (sink.faults c.load-why.new.sink)) (sym c.make_ended.ensures.why) r.shown) quiet

pub returns-clause-complete : goal.returns-clause-complete
returns-clause-complete g c document told_document other gives told good fit on tells file steady quiet kept still =
    c.in-Err.ensures.complete document told_document other gives told good fit tells file steady kept still

pub returns-in-Ok-open_hall-clause-bad_backup : goal.returns-in-Ok-open_hall-clause-bad_backup
returns-in-Ok-open_hall-clause-bad_backup g c on is_told place is =
    let o = c.in-Ok-open_hall.ensures.opened in
    let before = c.in-Ok-open_hall.hall.state in
    let t = is_some (g.K.Keeper.held c.args.site.keeper) in
    let linked = is_some (g.L.Link.applied c.args.site.link) in
    absurd (never_bad is_unsound_file o.land t linked before.stored before c.load-why.new.hall.state (bad.Backup place) refl o.first
    (c.load-why.ensures.good_file (ap (λ l. is_some (g.L.Link.applied l)) o.linked ∙ on) is_told
    (first_sound is_unsound_file o.land t linked before.stored before o.first))
    (c.load-why.ensures.bad_backup place (sym c.make_ended.ensures.why ∙ is)))

pub returns-in-Ok-open_hall-clause-bad_file : goal.returns-in-Ok-open_hall-clause-bad_file
returns-in-Ok-open_hall-clause-bad_file g c is_told none place is =
    let o = c.in-Ok-open_hall.ensures.opened in
    let before = c.in-Ok-open_hall.hall.state in
    let t = is_some (g.K.Keeper.held c.args.site.keeper) in
    let linked = is_some (g.L.Link.applied c.args.site.link) in
    absurd (never_bad is_unsound_file o.land t linked before.stored before c.load-why.new.hall.state (bad.Backup place) refl o.first
    (none_answered is_unsound_file c.load-why.new.hall.state.past (sym (c.make_ended.ensures.past ∙ c.into_site-keeper.ensures.past) ∙ none))
    (c.load-why.ensures.bad_backup place (sym c.make_ended.ensures.why ∙ is)))

pub returns-in-Ok-open_hall-clause-link_told : goal.returns-in-Ok-open_hall-clause-link_told
returns-in-Ok-open_hall-clause-link_told g c =
    ap (λ l. is_some (g.L.Link.applied l)) (c.make_ended.ensures.link ∙ c.into_site-keeper.ensures.link) ∙ c.load-why.ensures.link.told
    ∙ ap (λ l. is_some (g.L.Link.applied l)) c.in-Ok-open_hall.ensures.opened.linked

pub returns-clause-link_told : goal.returns-clause-link_told
returns-clause-link_told g c = ap (λ l. is_some (g.L.Link.applied l)) c.in-Err.ensures.linked

pub returns-in-Ok-open_hall-clause-link_fault : goal.returns-in-Ok-open_hall-clause-link_fault
returns-in-Ok-open_hall-clause-link_fault g c =
    let faults = g.L.Link.faults in
    let o = c.in-Ok-open_hall.ensures.opened in
    link_quiet o.land (is_some (g.K.Keeper.held c.args.site.keeper)) (is_some (g.L.Link.applied c.args.site.link)) c.in-Ok-open_hall.hall.state.stored
    c.in-Ok-open_hall.hall.state c.load-why.new.hall.state c.make_ended.result.past
    (faults c.in-Ok-open_hall.hall.replica.link) (faults c.load-why.new.hall.replica.link) (faults c.args.site.link) (faults c.make_ended.result.site.link)
    o.first (c.make_ended.ensures.past ∙ c.into_site-keeper.ensures.past) (ap faults o.linked)
    (ap faults (sym (c.make_ended.ensures.link ∙ c.into_site-keeper.ensures.link)))
    c.load-why.ensures.link_fault

pub returns-clause-link_fault : goal.returns-clause-link_fault
returns-clause-link_fault g c quiet = none_answered is_link_fault c.in-Err.ended.past c.in-Err.ensures.past

pub returns-in-Ok-open_hall-clause-link_counts : goal.returns-in-Ok-open_hall-clause-link_counts
returns-in-Ok-open_hall-clause-link_counts g c =
    let o = c.in-Ok-open_hall.ensures.opened in
    let old = c.in-Ok-open_hall.hall in
    let new = c.load-why.new.hall in
    run_linked g.L.Link.faults g.L.Link.refusals o.land (is_some (g.K.Keeper.held c.args.site.keeper))
    (is_some (g.L.Link.applied c.args.site.link)) old.state.stored old.state new.state
    c.make_ended.result.past c.args.site.link old.replica.link new.replica.link c.make_ended.result.site.link
    o.first (c.make_ended.ensures.past ∙ c.into_site-keeper.ensures.past) o.linked (c.make_ended.ensures.link ∙ c.into_site-keeper.ensures.link)
    c.load-why.ensures.link_counts

pub returns-clause-link_counts : goal.returns-clause-link_counts
returns-clause-link_counts g c =
    none_linked g.L.Link.faults g.L.Link.refusals c.args.site.link c.in-Err.ended.site.link c.in-Err.ended.past c.in-Err.ensures.linked c.in-Err.ensures.past
