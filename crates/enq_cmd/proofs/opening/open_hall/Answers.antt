use Rattle.std.proofs.Common.{◌≡◌, inl, inr, refl, sym, ap, ◌∙◌, subst}
use Rattle.std.specs.Prelude.{is_some, true, IfSome}
use Rattle.enq_base.specs.Causes.{Rose}
use Rattle.hall.specs.Faults.{CountsFileFault, CountsHallFault, IsBadFile, IsHallFault, OnKept}
use Rattle.hall_model.specs.State.{opened}
use Rattle.keeper_api.specs.Keeping.{IsWithin}
use Rattle.keeper_api.specs.Rows.{Rows}
use Rattle.landscape.specs.declared.landscape.Landscape.{Landscape}
use Rattle.posting.specs.Reopening.{MayBeLeftBy}
use Rattle.ledger_steps.specs.Levels.{AreIntervals, FitRows}
use Rattle.enq_cmd.proofs.Lands.{land_ends, land_unfit, landed_intervals, landed_limits, landed_one, landed_read}
use Rattle.enq_cmd.proofs.Openings.{IsCause, IsFileLeft, bad_file, land_not_file, opening_completes, opening_last, opening_place, opening_unfit, unopened}
use Rattle.enq_cmd.specs.Main.{FitAll, HasNoStart, IsBadStore, IsLandEnd, IsUnfitEnd, TellsBadFile}
use Rattle.enq_cmd.proofs.opening.open_hall.Goals as goal

pub open-requires-clause-marks : goal.open-requires-clause-marks
open-requires-clause-marks g c = (landed_limits _ _ _ _ c.in-Ok.land c.in-Ok.ensures.reads).marks

pub open-requires-clause-intervals : goal.open-requires-clause-intervals
open-requires-clause-intervals g c =
    subst AreIntervals (sym c.into_vec.ensures) (landed_intervals c.in-Ok.land (landed_limits _ _ _ _ c.in-Ok.land c.in-Ok.ensures.reads))

pub returns-in-Err-clause-unserved : goal.returns-in-Err-clause-unserved
returns-in-Err-clause-unserved g c =
    let why = c.left_alone.ensures.why ∙ c.land_end.ensures in
    inl (record {
      end = subst (IsLandEnd (g.A.Source.faults c.args.landscape.now) (g.A.Source.faults c.read_landscape.new.source)) (sym why)
          (land_ends _ _ _ _ c.in-Err.fault c.in-Err.ensures.reads);
      storing = c.left_alone.ensures.keeper;
      filing = c.left_alone.ensures.disk;
    })

pub returns-in-Err-clause-unfit_interval : goal.returns-in-Err-clause-unfit_interval
returns-in-Err-clause-unfit_interval g c =
    let why = c.left_alone.ensures.why ∙ c.land_end.ensures in
    let may_leave = g.K.Keeper.may_leave c.args.site.keeper in
    let held = g.K.Keeper.held c.left_alone.result.site.keeper in
    let left = g.A.Source.left c.args.landscape.now in
    subst (λ w. IfSome held (λ _. IsUnfitEnd left may_leave w)) (sym why) (land_unfit held left _ _ may_leave _ _ c.in-Err.fault c.in-Err.ensures.reads)

pub returns-in-Ok-open-clause-opened : goal.returns-in-Ok-open-clause-opened
returns-in-Ok-open-clause-opened g c =
    let land : Landscape = c.in-Ok.land in
    let t = is_some (g.K.Keeper.held c.args.site.keeper) in
    let linked = is_some (g.L.Link.applied c.args.site.link) in
    record {
      land = land;
      read = landed_read _ _ _ _ land c.in-Ok.ensures.reads c.in-Ok.ensures.exact;
      known = refl;
      first = c.in-Ok-open.ensures.state ∙ ap (λ is. opened land.max_locks land.max_marks is t linked c.in-Ok-open.hall.state.stored) c.into_vec.ensures;
      intervals = landed_intervals land (landed_limits _ _ _ _ land c.in-Ok.ensures.reads);
      sound = c.in-Ok-open.ensures.sound;
      stored = c.in-Ok-open.ensures.stored;
      fits = subst (λ is. FitRows is c.in-Ok-open.hall.state.stored.levels) c.into_vec.ensures c.in-Ok-open.ensures.fits;
      table = c.in-Ok-open.ensures.table;
      filed = λ tells. let h = c.in-Ok-open.ensures.file tells in (h.freed.lists, h.freed.stood, h.freed.agree);
      told = c.in-Ok-open.ensures.told;
      counts = c.in-Ok-open.ensures.counts;
      file_counts = c.in-Ok-open.ensures.file_counts;
      linked = c.in-Ok-open.ensures.link;
    }

pub returns-in-Err-open-clause-unserved : goal.returns-in-Err-open-clause-unserved
returns-in-Err-open-clause-unserved g c =
    let held = g.K.Keeper.held in
    let may_leave = g.K.Keeper.may_leave in
    let land : Landscape = c.in-Ok.land in
    inr (record {
      land = land;
      read = landed_read _ _ _ _ land c.in-Ok.ensures.reads c.in-Ok.ensures.exact;
      unopened = λ rest written source sink.
          unopened c.in-Err-open.fault (is_some (held c.args.site.keeper)) (held c.in-Err-open.keeper) (may_leave c.args.site.keeper)
          (may_leave c.make_ended.result.site.keeper)
          g.D.Disk.tells g.D.Disk.may_leave c.args.site.disk c.make_ended.result.site.disk c.args.site.link c.make_ended.result.site.link _ _ _ _
          (c.make_ended.ensures.why ∙ c.opening_end.ensures) c.in-Err-open.ensures.told_after refl c.in-Err-open.ensures.untold_fault
          (subst (λ k. CountsHallFault c.in-Err-open.fault (g.K.Keeper.faults c.args.site.keeper) (g.K.Keeper.faults k))
          (sym c.make_ended.ensures.keeper) c.in-Err-open.ensures.cause)
          (subst (λ d. CountsFileFault c.in-Err-open.fault (g.D.Disk.faults c.args.site.disk) (g.D.Disk.faults d))
          (sym c.make_ended.ensures.disk) c.in-Err-open.ensures.file_cause)
          refl
          (subst (λ k. IfSome (held c.in-Err-open.keeper) (λ _. (rows : Rows) → may_leave k rows → MayBeLeftBy (may_leave c.args.site.keeper) true rows))
          (sym c.make_ended.ensures.keeper) c.in-Err-open.ensures.left_after)
          (subst (λ k. OnKept c.in-Err-open.fault (IsWithin (may_leave k) (may_leave c.args.site.keeper)))
          (sym c.make_ended.ensures.keeper) c.in-Err-open.ensures.unchanged)
          (subst (IsFileLeft g.D.Disk.may_leave g.D.Disk.tells (held c.in-Err-open.keeper) (may_leave c.args.site.keeper) c.in-Err-open.fault c.args.site.disk)
          (sym c.make_ended.ensures.disk)
          (record { unfiled = c.in-Err-open.ensures.unfiled; images = c.in-Err-open.ensures.images }))
          (c.make_ended.ensures.link ∙ c.in-Err-open.ensures.link);
    })

pub returns-in-Err-open-clause-unfit_interval : goal.returns-in-Err-open-clause-unfit_interval
returns-in-Err-open-clause-unfit_interval g c =
    let held = g.K.Keeper.held in
    let may_leave = g.K.Keeper.may_leave c.args.site.keeper in
    let left = g.A.Source.left c.args.landscape.now in
    let land : Landscape = c.in-Ok.land in
    let cause : IsCause land may_leave c.in-Err-open.fault (held c.in-Err-open.keeper) =
    subst (λ is. IfSome (held c.in-Err-open.keeper) (λ rows. IsHallFault is may_leave rows c.in-Err-open.fault)) c.into_vec.ensures
    c.in-Err-open.ensures.fault in
    subst (λ k. IfSome (held k) (λ _. IsUnfitEnd left may_leave c.make_ended.result.why)) (sym c.make_ended.ensures.keeper)
    (subst (λ w. IfSome (held c.in-Err-open.keeper) (λ _. IsUnfitEnd left may_leave w)) (sym (c.make_ended.ensures.why ∙ c.opening_end.ensures))
    (opening_unfit left land may_leave c.in-Err-open.fault (held c.in-Err-open.keeper)
    (landed_read _ _ _ _ land c.in-Ok.ensures.reads c.in-Ok.ensures.exact) cause))

pub returns-in-Err-open-clause-bad_store : goal.returns-in-Err-open-clause-bad_store
returns-in-Err-open-clause-bad_store g c =
    let held = g.K.Keeper.held in
    let may_leave = g.K.Keeper.may_leave c.args.site.keeper in
    let land : Landscape = c.in-Ok.land in
    let cause : IsCause land may_leave c.in-Err-open.fault (held c.in-Err-open.keeper) =
    subst (λ is. IfSome (held c.in-Err-open.keeper) (λ rows. IsHallFault is may_leave rows c.in-Err-open.fault)) c.into_vec.ensures
    c.in-Err-open.ensures.fault in
    subst (λ k. IfSome (held k) (λ rows. IsBadStore rows c.make_ended.result.why)) (sym c.make_ended.ensures.keeper)
    (subst (λ w. IfSome (held c.in-Err-open.keeper) (λ rows. IsBadStore rows w)) (sym (c.make_ended.ensures.why ∙ c.opening_end.ensures))
    (opening_place land may_leave c.in-Err-open.fault (held c.in-Err-open.keeper) cause))

pub returns-in-Err-open-clause-bad_file : goal.returns-in-Err-open-clause-bad_file
returns-in-Err-open-clause-bad_file g c = λ tells place is.
    let held = g.K.Keeper.held in
    let may_leave = g.K.Keeper.may_leave c.args.site.keeper in
    let left = g.A.Source.left c.args.landscape.now in
    let bytes = g.D.Disk.reads c.args.site.disk in
    let land : Landscape = c.in-Ok.land in
    subst (λ k. TellsBadFile left (held k) may_leave bytes place) (sym c.make_ended.ensures.keeper)
    (bad_file left land (held c.in-Err-open.keeper) may_leave bytes c.in-Err-open.fault place
    (landed_read _ _ _ _ land c.in-Ok.ensures.reads c.in-Ok.ensures.exact) c.in-Err-open.ensures.untold_fault
    (subst (λ is. IsBadFile is (held c.in-Err-open.keeper) may_leave bytes c.in-Err-open.fault) c.into_vec.ensures (c.in-Err-open.ensures.file_fault tells))
    (sym (c.make_ended.ensures.why ∙ c.opening_end.ensures) ∙ is))

pub returns-in-Err-clause-bad_file : goal.returns-in-Err-clause-bad_file
returns-in-Err-clause-bad_file g c = λ tells place is. absurd (land_not_file c.in-Err.fault place (sym (c.left_alone.ensures.why ∙ c.land_end.ensures) ∙ is))

pub returns-in-Err-open-clause-no_start : goal.returns-in-Err-open-clause-no_start
returns-in-Err-open-clause-no_start g c =
    let held = g.K.Keeper.held in
    let may_leave = g.K.Keeper.may_leave c.args.site.keeper in
    let land : Landscape = c.in-Ok.land in
    let cause : IsCause land may_leave c.in-Err-open.fault (held c.in-Err-open.keeper) =
    subst (λ is. IfSome (held c.in-Err-open.keeper) (λ rows. IsHallFault is may_leave rows c.in-Err-open.fault)) c.into_vec.ensures
    c.in-Err-open.ensures.fault in
    subst (λ k. IfSome (held k) (λ rows. HasNoStart rows c.make_ended.result.why)) (sym c.make_ended.ensures.keeper)
    (subst (λ w. IfSome (held c.in-Err-open.keeper) (λ rows. HasNoStart rows w)) (sym (c.make_ended.ensures.why ∙ c.opening_end.ensures))
    (opening_last land may_leave c.in-Err-open.fault (held c.in-Err-open.keeper) cause))

pub returns-in-Err-open-clause-complete : goal.returns-in-Err-open-clause-complete
returns-in-Err-open-clause-complete g c document told_document other gives told good fit tells file steady kept still =
    let faults = g.K.Keeper.faults in
    let held = g.K.Keeper.held in
    let may_leave = g.K.Keeper.may_leave c.args.site.keeper in
    let land : Landscape = c.in-Ok.land in
    let same : other ≡ land = landed_one _ document land other (landed_read _ _ _ _ land c.in-Ok.ensures.reads c.in-Ok.ensures.exact) told_document gives in
    let cause : IsCause land may_leave c.in-Err-open.fault (held c.in-Err-open.keeper) =
    subst (λ is. IfSome (held c.in-Err-open.keeper) (λ rows. IsHallFault is may_leave rows c.in-Err-open.fault)) c.into_vec.ensures
    c.in-Err-open.ensures.fault in
    opening_completes land may_leave (held c.args.site.keeper) (held c.in-Err-open.keeper) c.in-Err-open.fault (faults c.args.site.keeper)
    (faults c.in-Err-open.keeper)
    (g.D.Disk.reads c.args.site.disk) (g.D.Disk.faults c.args.site.disk) (g.D.Disk.faults c.in-Err-open.disk) _
    (c.make_ended.ensures.why ∙ c.opening_end.ensures)
    c.in-Err-open.ensures.told_after told good (subst (λ l. FitAll l may_leave) same fit) cause c.in-Err-open.ensures.found c.in-Err-open.ensures.cause
    (λ rose. kept (subst (λ k. Rose (faults c.args.site.keeper) (faults k)) (sym c.make_ended.ensures.keeper) rose))
    (record {
      good = file;
      bad = subst (λ is. IsBadFile is (held c.in-Err-open.keeper) may_leave (g.D.Disk.reads c.args.site.disk) c.in-Err-open.fault) c.into_vec.ensures
          (c.in-Err-open.ensures.file_fault tells);
      counts = c.in-Err-open.ensures.file_cause;
      calm = λ rose. still (subst (λ d. Rose (g.D.Disk.faults c.args.site.disk) (g.D.Disk.faults d)) (sym c.make_ended.ensures.disk) rose);
    })
