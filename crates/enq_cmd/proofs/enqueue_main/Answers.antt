use Rattle.std.proofs.Common.{◌≡◌, inl, inr, refl, sym, ◌∙◌, subst}
use Rattle.load_gen.specs.Script.{script_of}
use Rattle.enq_cmd.proofs.Coverings.{no_bad_store, no_last_start}
use Rattle.enq_cmd.specs.Covering.{IsCoverEnd}
use Rattle.enq_cmd.proofs.Served.{loaded_as}
use Rattle.enq_cmd.proofs.WordLists.{cover_not_gen, cover_not_load, cover_not_replay, covers_alone, generates_alone, loads_alone, reads_none, replays_alone, runs_none, same_gen, same_load, same_run}
use Rattle.enq_cmd.specs.Writing.{WritesText}
use Rattle.script_runner.specs.declared.runner.Why.TheVariants.{BadWords, LogFull}
use Rattle.enq_cmd.specs.declared.words.Work.TheVariants.{Replays, Generates, Loads, Runs, Covers}
use Rattle.enq_cmd.proofs.enqueue_main.Goals as goal

pub returns-in-None-clause-generated : goal.returns-in-None-clause-generated
returns-in-None-clause-generated g c n names = absurd (c.in-None.ensures.none (Generates n) names)

pub returns-in-None-clause-loaded : goal.returns-in-None-clause-loaded
returns-in-None-clause-loaded g c n names = absurd (c.in-None.ensures.none (Loads n) names)

pub returns-in-None-clause-served : goal.returns-in-None-clause-served
returns-in-None-clause-served g c words = absurd (c.in-None.ensures.none Replays words)

pub returns-in-None-clause-bad_landscape : goal.returns-in-None-clause-bad_landscape
returns-in-None-clause-bad_landscape g c words = absurd (reads_none c.args.words.now c.in-None.ensures.none words)

pub returns-in-None-clause-complete : goal.returns-in-None-clause-complete
returns-in-None-clause-complete g c words = absurd (c.in-None.ensures.none Replays words)

pub returns-in-Some-Generates-clause-generated : goal.returns-in-Some-Generates-clause-generated
returns-in-Some-Generates-clause-generated g c n names =
    let same = same_gen c.args.words.now c.in-Some-Generates.units n (rw c.in-Some-Generates.field-0-is at c.in-Some-Generates.ensures.named) names in
    let written = g.T.Sink.written in
    let faults = g.T.Sink.faults in
    subst (WritesText (written c.args.sink.now) (written c.write_script-why.new.sink) (faults c.args.sink.now) (faults c.write_script-why.new.sink)
    (script_of n)) (sym c.left_alone-in-Some-Generates.ensures.why)
    (subst (λ k. WritesText (written c.args.sink.now) (written c.write_script-why.new.sink) (faults c.args.sink.now) (faults c.write_script-why.new.sink)
    (script_of k) c.write_script-why.result) same c.write_script-why.ensures.written)

pub returns-in-Some-Loads-clause-loaded : goal.returns-in-Some-Loads-clause-loaded
returns-in-Some-Loads-clause-loaded g c n names =
    loaded_as c.in-Some-Loads.units n
    (same_load c.args.words.now c.in-Some-Loads.units n (rw c.in-Some-Loads.field-0-is at c.in-Some-Loads.ensures.named) names) _ _ _ _ _ _ _
    _ _ _ _ _ _ _ _ _ _ _ _ refl c.load_site.ensures.loaded

pub returns-in-None-clause-load_complete : goal.returns-in-None-clause-load_complete
returns-in-None-clause-load_complete g c n names = absurd (c.in-None.ensures.none (Loads n) names)

pub returns-in-None-clause-threads : goal.returns-in-None-clause-threads
returns-in-None-clause-threads g c n names = absurd (c.in-None.ensures.none (Runs n) names)

pub returns-in-None-clause-run_line_fault : goal.returns-in-None-clause-run_line_fault
returns-in-None-clause-run_line_fault g c words = absurd (runs_none c.args.words.now c.in-None.ensures.none words)

pub returns-in-None-clause-run_complete : goal.returns-in-None-clause-run_complete
returns-in-None-clause-run_complete g c words = absurd (runs_none c.args.words.now c.in-None.ensures.none words)

pub returns-in-None-clause-full : goal.returns-in-None-clause-full
returns-in-None-clause-full g c is = absurd (let e : BadWords ≡ LogFull = sym c.left_alone.ensures.why ∙ is in cc)

pub returns-in-Some-Replays-clause-threads : goal.returns-in-Some-Replays-clause-threads
returns-in-Some-Replays-clause-threads g c n names =
    absurd (replays_alone c.args.words.now (rw c.in-Some-Replays.field-0-is at c.in-Some-Replays.ensures.named) (n, names))

pub returns-in-Some-Replays-clause-run_line_fault : goal.returns-in-Some-Replays-clause-run_line_fault
returns-in-Some-Replays-clause-run_line_fault g c words =
    absurd (replays_alone c.args.words.now (rw c.in-Some-Replays.field-0-is at c.in-Some-Replays.ensures.named) words)

pub returns-in-Some-Replays-clause-run_complete : goal.returns-in-Some-Replays-clause-run_complete
returns-in-Some-Replays-clause-run_complete g c words =
    absurd (replays_alone c.args.words.now (rw c.in-Some-Replays.field-0-is at c.in-Some-Replays.ensures.named) words)

pub returns-in-Some-Generates-clause-threads : goal.returns-in-Some-Generates-clause-threads
returns-in-Some-Generates-clause-threads g c n names =
    absurd (generates_alone c.args.words.now c.in-Some-Generates.units (rw c.in-Some-Generates.field-0-is at c.in-Some-Generates.ensures.named) (n, names))

pub returns-in-Some-Generates-clause-run_line_fault : goal.returns-in-Some-Generates-clause-run_line_fault
returns-in-Some-Generates-clause-run_line_fault g c words =
    absurd (generates_alone c.args.words.now c.in-Some-Generates.units (rw c.in-Some-Generates.field-0-is at c.in-Some-Generates.ensures.named) words)

pub returns-in-Some-Generates-clause-run_complete : goal.returns-in-Some-Generates-clause-run_complete
returns-in-Some-Generates-clause-run_complete g c words =
    absurd (generates_alone c.args.words.now c.in-Some-Generates.units (rw c.in-Some-Generates.field-0-is at c.in-Some-Generates.ensures.named) words)

pub returns-in-Some-Loads-clause-threads : goal.returns-in-Some-Loads-clause-threads
returns-in-Some-Loads-clause-threads g c n names =
    absurd (loads_alone c.args.words.now c.in-Some-Loads.units (rw c.in-Some-Loads.field-0-is at c.in-Some-Loads.ensures.named) (n, names))

pub returns-in-Some-Loads-clause-run_line_fault : goal.returns-in-Some-Loads-clause-run_line_fault
returns-in-Some-Loads-clause-run_line_fault g c words =
    absurd (loads_alone c.args.words.now c.in-Some-Loads.units (rw c.in-Some-Loads.field-0-is at c.in-Some-Loads.ensures.named) words)

pub returns-in-Some-Loads-clause-run_complete : goal.returns-in-Some-Loads-clause-run_complete
returns-in-Some-Loads-clause-run_complete g c words =
    absurd (loads_alone c.args.words.now c.in-Some-Loads.units (rw c.in-Some-Loads.field-0-is at c.in-Some-Loads.ensures.named) words)

pub returns-in-Some-Replays-clause-full : goal.returns-in-Some-Replays-clause-full
returns-in-Some-Replays-clause-full g c is = absurd (c.replay_site.ensures.full is)

pub returns-in-Some-Loads-clause-full : goal.returns-in-Some-Loads-clause-full
returns-in-Some-Loads-clause-full g c is = absurd (c.load_site.ensures.full is)

pub returns-in-Some-Generates-clause-full : goal.returns-in-Some-Generates-clause-full
returns-in-Some-Generates-clause-full g c is = absurd (c.write_script-why.ensures.full (sym c.left_alone-in-Some-Generates.ensures.why ∙ is))

pub returns-in-Some-Runs-clause-threads : goal.returns-in-Some-Runs-clause-threads
returns-in-Some-Runs-clause-threads g c n names =
    rw (same_run c.args.words.now c.in-Some-Runs.workers n (rw c.in-Some-Runs.field-0-is at c.in-Some-Runs.ensures.named) names) at c.run_site.ensures.threads

pub returns-in-Some-Runs-clause-served : goal.returns-in-Some-Runs-clause-served
returns-in-Some-Runs-clause-served g c words =
    absurd (replays_alone c.args.words.now words (c.in-Some-Runs.workers, (rw c.in-Some-Runs.field-0-is at c.in-Some-Runs.ensures.named)))

pub returns-in-Some-Runs-clause-complete : goal.returns-in-Some-Runs-clause-complete
returns-in-Some-Runs-clause-complete g c words =
    absurd (replays_alone c.args.words.now words (c.in-Some-Runs.workers, (rw c.in-Some-Runs.field-0-is at c.in-Some-Runs.ensures.named)))

pub returns-in-Some-Runs-clause-generated : goal.returns-in-Some-Runs-clause-generated
returns-in-Some-Runs-clause-generated g c n names =
    absurd (generates_alone c.args.words.now n names (c.in-Some-Runs.workers, (rw c.in-Some-Runs.field-0-is at c.in-Some-Runs.ensures.named)))

pub returns-in-Some-Runs-clause-loaded : goal.returns-in-Some-Runs-clause-loaded
returns-in-Some-Runs-clause-loaded g c n names =
    absurd (loads_alone c.args.words.now n names (c.in-Some-Runs.workers, (rw c.in-Some-Runs.field-0-is at c.in-Some-Runs.ensures.named)))

pub returns-in-Some-Runs-clause-load_complete : goal.returns-in-Some-Runs-clause-load_complete
returns-in-Some-Runs-clause-load_complete g c n names =
    absurd (loads_alone c.args.words.now n names (c.in-Some-Runs.workers, (rw c.in-Some-Runs.field-0-is at c.in-Some-Runs.ensures.named)))

pub returns-in-Some-Runs-clause-line_fault : goal.returns-in-Some-Runs-clause-line_fault
returns-in-Some-Runs-clause-line_fault g c not = absurd (not (c.in-Some-Runs.workers, (rw c.in-Some-Runs.field-0-is at c.in-Some-Runs.ensures.named)))

pub returns-in-Some-Runs-clause-full : goal.returns-in-Some-Runs-clause-full
returns-in-Some-Runs-clause-full g c is = ((c.in-Some-Runs.workers, (rw c.in-Some-Runs.field-0-is at c.in-Some-Runs.ensures.named)), c.run_site.ensures.full is)

pub returns-in-None-clause-covered : goal.returns-in-None-clause-covered
returns-in-None-clause-covered g c words = absurd (c.in-None.ensures.none Covers words)

pub returns-in-Some-Replays-clause-covered : goal.returns-in-Some-Replays-clause-covered
returns-in-Some-Replays-clause-covered g c words =
    absurd (cover_not_replay c.args.words.now words (rw c.in-Some-Replays.field-0-is at c.in-Some-Replays.ensures.named))

pub returns-in-Some-Generates-clause-covered : goal.returns-in-Some-Generates-clause-covered
returns-in-Some-Generates-clause-covered g c words =
    absurd (cover_not_gen c.args.words.now c.in-Some-Generates.units words (rw c.in-Some-Generates.field-0-is at c.in-Some-Generates.ensures.named))

pub returns-in-Some-Loads-clause-covered : goal.returns-in-Some-Loads-clause-covered
returns-in-Some-Loads-clause-covered g c words =
    absurd (cover_not_load c.args.words.now c.in-Some-Loads.units words (rw c.in-Some-Loads.field-0-is at c.in-Some-Loads.ensures.named))

pub returns-in-Some-Runs-clause-covered : goal.returns-in-Some-Runs-clause-covered
returns-in-Some-Runs-clause-covered g c words =
    absurd (covers_alone c.args.words.now words (c.in-Some-Runs.workers, (rw c.in-Some-Runs.field-0-is at c.in-Some-Runs.ensures.named)))

pub returns-in-None-clause-cover_unwritten : goal.returns-in-None-clause-cover_unwritten
returns-in-None-clause-cover_unwritten g c words = absurd (c.in-None.ensures.none Covers words)

pub returns-in-Some-Replays-clause-cover_unwritten : goal.returns-in-Some-Replays-clause-cover_unwritten
returns-in-Some-Replays-clause-cover_unwritten g c words =
    absurd (cover_not_replay c.args.words.now words (rw c.in-Some-Replays.field-0-is at c.in-Some-Replays.ensures.named))

pub returns-in-Some-Generates-clause-cover_unwritten : goal.returns-in-Some-Generates-clause-cover_unwritten
returns-in-Some-Generates-clause-cover_unwritten g c words =
    absurd (cover_not_gen c.args.words.now c.in-Some-Generates.units words (rw c.in-Some-Generates.field-0-is at c.in-Some-Generates.ensures.named))

pub returns-in-Some-Loads-clause-cover_unwritten : goal.returns-in-Some-Loads-clause-cover_unwritten
returns-in-Some-Loads-clause-cover_unwritten g c words =
    absurd (cover_not_load c.args.words.now c.in-Some-Loads.units words (rw c.in-Some-Loads.field-0-is at c.in-Some-Loads.ensures.named))

pub returns-in-Some-Runs-clause-cover_unwritten : goal.returns-in-Some-Runs-clause-cover_unwritten
returns-in-Some-Runs-clause-cover_unwritten g c words =
    absurd (covers_alone c.args.words.now words (c.in-Some-Runs.workers, (rw c.in-Some-Runs.field-0-is at c.in-Some-Runs.ensures.named)))

pub returns-in-None-clause-cover_complete : goal.returns-in-None-clause-cover_complete
returns-in-None-clause-cover_complete g c words = absurd (c.in-None.ensures.none Covers words)

pub returns-in-Some-Replays-clause-cover_complete : goal.returns-in-Some-Replays-clause-cover_complete
returns-in-Some-Replays-clause-cover_complete g c words =
    absurd (cover_not_replay c.args.words.now words (rw c.in-Some-Replays.field-0-is at c.in-Some-Replays.ensures.named))

pub returns-in-Some-Generates-clause-cover_complete : goal.returns-in-Some-Generates-clause-cover_complete
returns-in-Some-Generates-clause-cover_complete g c words =
    absurd (cover_not_gen c.args.words.now c.in-Some-Generates.units words (rw c.in-Some-Generates.field-0-is at c.in-Some-Generates.ensures.named))

pub returns-in-Some-Loads-clause-cover_complete : goal.returns-in-Some-Loads-clause-cover_complete
returns-in-Some-Loads-clause-cover_complete g c words =
    absurd (cover_not_load c.args.words.now c.in-Some-Loads.units words (rw c.in-Some-Loads.field-0-is at c.in-Some-Loads.ensures.named))

pub returns-in-Some-Runs-clause-cover_complete : goal.returns-in-Some-Runs-clause-cover_complete
returns-in-Some-Runs-clause-cover_complete g c words =
    absurd (covers_alone c.args.words.now words (c.in-Some-Runs.workers, (rw c.in-Some-Runs.field-0-is at c.in-Some-Runs.ensures.named)))

pub returns-in-Some-Covers-clause-generated : goal.returns-in-Some-Covers-clause-generated
returns-in-Some-Covers-clause-generated g c n names =
    absurd (cover_not_gen c.args.words.now n (rw c.in-Some-Covers.field-0-is at c.in-Some-Covers.ensures.named) names)

pub returns-in-Some-Covers-clause-served : goal.returns-in-Some-Covers-clause-served
returns-in-Some-Covers-clause-served g c words =
    absurd (cover_not_replay c.args.words.now (rw c.in-Some-Covers.field-0-is at c.in-Some-Covers.ensures.named) words)

pub returns-in-Some-Covers-clause-complete : goal.returns-in-Some-Covers-clause-complete
returns-in-Some-Covers-clause-complete g c words =
    absurd (cover_not_replay c.args.words.now (rw c.in-Some-Covers.field-0-is at c.in-Some-Covers.ensures.named) words)

pub returns-in-Some-Covers-clause-loaded : goal.returns-in-Some-Covers-clause-loaded
returns-in-Some-Covers-clause-loaded g c n names =
    absurd (cover_not_load c.args.words.now n (rw c.in-Some-Covers.field-0-is at c.in-Some-Covers.ensures.named) names)

pub returns-in-Some-Covers-clause-load_complete : goal.returns-in-Some-Covers-clause-load_complete
returns-in-Some-Covers-clause-load_complete g c n names =
    absurd (cover_not_load c.args.words.now n (rw c.in-Some-Covers.field-0-is at c.in-Some-Covers.ensures.named) names)

pub returns-in-Some-Covers-clause-threads : goal.returns-in-Some-Covers-clause-threads
returns-in-Some-Covers-clause-threads g c n names =
    absurd (covers_alone c.args.words.now (rw c.in-Some-Covers.field-0-is at c.in-Some-Covers.ensures.named) (n, names))

pub returns-in-Some-Covers-clause-run_line_fault : goal.returns-in-Some-Covers-clause-run_line_fault
returns-in-Some-Covers-clause-run_line_fault g c words =
    absurd (covers_alone c.args.words.now (rw c.in-Some-Covers.field-0-is at c.in-Some-Covers.ensures.named) words)

pub returns-in-Some-Covers-clause-run_complete : goal.returns-in-Some-Covers-clause-run_complete
returns-in-Some-Covers-clause-run_complete g c words =
    absurd (covers_alone c.args.words.now (rw c.in-Some-Covers.field-0-is at c.in-Some-Covers.ensures.named) words)

pub returns-in-Some-Covers-clause-no_landscape : goal.returns-in-Some-Covers-clause-no_landscape
returns-in-Some-Covers-clause-no_landscape g c other = absurd (other (inr (rw c.in-Some-Covers.field-0-is at c.in-Some-Covers.ensures.named)))

pub returns-in-Some-Covers-clause-no_reading : goal.returns-in-Some-Covers-clause-no_reading
returns-in-Some-Covers-clause-no_reading g c other = absurd (other (inr (inl (rw c.in-Some-Covers.field-0-is at c.in-Some-Covers.ensures.named))))

pub returns-in-Some-Covers-clause-no_writing : goal.returns-in-Some-Covers-clause-no_writing
returns-in-Some-Covers-clause-no_writing g c none = absurd (none Covers (rw c.in-Some-Covers.field-0-is at c.in-Some-Covers.ensures.named))

pub returns-in-Some-Runs-clause-no_reading : goal.returns-in-Some-Runs-clause-no_reading
returns-in-Some-Runs-clause-no_reading g c other =
    absurd (other (inr (inr (c.in-Some-Runs.workers, (rw c.in-Some-Runs.field-0-is at c.in-Some-Runs.ensures.named)))))

pub returns-in-Some-Runs-clause-no_landscape : goal.returns-in-Some-Runs-clause-no_landscape
returns-in-Some-Runs-clause-no_landscape g c other =
    absurd (other (inl (inr (inr (c.in-Some-Runs.workers, (rw c.in-Some-Runs.field-0-is at c.in-Some-Runs.ensures.named))))))

pub returns-in-Some-Loads-clause-no_landscape : goal.returns-in-Some-Loads-clause-no_landscape
returns-in-Some-Loads-clause-no_landscape g c other =
    absurd (other (inl (inr (inl (c.in-Some-Loads.units, (rw c.in-Some-Loads.field-0-is at c.in-Some-Loads.ensures.named))))))

pub returns-in-Some-Replays-clause-no_landscape : goal.returns-in-Some-Replays-clause-no_landscape
returns-in-Some-Replays-clause-no_landscape g c other = absurd (other (inl (inl (rw c.in-Some-Replays.field-0-is at c.in-Some-Replays.ensures.named))))

pub returns-in-Some-Replays-clause-no_reading : goal.returns-in-Some-Replays-clause-no_reading
returns-in-Some-Replays-clause-no_reading g c other = absurd (other (inl (rw c.in-Some-Replays.field-0-is at c.in-Some-Replays.ensures.named)))

pub returns-in-Some-Covers-clause-no_landing : goal.returns-in-Some-Covers-clause-no_landing
returns-in-Some-Covers-clause-no_landing g c why =
    let same = c.cover_site.ensures.no_landing why in
    record {
      reading = same.0;
      writing = same.1;
      storing = c.cover_site.ensures.keeper;
      filing = c.cover_site.ensures.disk;
      linking =
          c.cover_site.ensures.link;
      none = c.cover_site.ensures.past;
    }

pub returns-in-Some-Covers-clause-store_fault : goal.returns-in-Some-Covers-clause-store_fault
returns-in-Some-Covers-clause-store_fault g c call is = absurd (let end = subst IsCoverEnd is c.cover_site.ensures.ends in end)

pub returns-in-Some-Covers-clause-backup_fault : goal.returns-in-Some-Covers-clause-backup_fault
returns-in-Some-Covers-clause-backup_fault g c call is = absurd (let end = subst IsCoverEnd is c.cover_site.ensures.ends in end)

pub returns-in-Some-Covers-clause-full : goal.returns-in-Some-Covers-clause-full
returns-in-Some-Covers-clause-full g c is = absurd (let end = subst IsCoverEnd is c.cover_site.ensures.ends in end)

pub returns-in-Some-Covers-clause-bad_store : goal.returns-in-Some-Covers-clause-bad_store
returns-in-Some-Covers-clause-bad_store g c = no_bad_store (g.K.Keeper.held c.cover_site.result.site.keeper) c.cover_site.result.why c.cover_site.ensures.ends

pub returns-in-Some-Covers-clause-no_start : goal.returns-in-Some-Covers-clause-no_start
returns-in-Some-Covers-clause-no_start g c = no_last_start (g.K.Keeper.held c.cover_site.result.site.keeper) c.cover_site.result.why c.cover_site.ensures.ends

pub returns-in-None-clause-safe : goal.returns-in-None-clause-safe
returns-in-None-clause-safe g c words = absurd (c.in-None.ensures.none Covers words)

pub returns-in-Some-Replays-clause-safe : goal.returns-in-Some-Replays-clause-safe
returns-in-Some-Replays-clause-safe g c words =
    absurd (cover_not_replay c.args.words.now words (rw c.in-Some-Replays.field-0-is at c.in-Some-Replays.ensures.named))

pub returns-in-Some-Generates-clause-safe : goal.returns-in-Some-Generates-clause-safe
returns-in-Some-Generates-clause-safe g c words =
    absurd (cover_not_gen c.args.words.now c.in-Some-Generates.units words (rw c.in-Some-Generates.field-0-is at c.in-Some-Generates.ensures.named))

pub returns-in-Some-Loads-clause-safe : goal.returns-in-Some-Loads-clause-safe
returns-in-Some-Loads-clause-safe g c words =
    absurd (cover_not_load c.args.words.now c.in-Some-Loads.units words (rw c.in-Some-Loads.field-0-is at c.in-Some-Loads.ensures.named))

pub returns-in-Some-Runs-clause-safe : goal.returns-in-Some-Runs-clause-safe
returns-in-Some-Runs-clause-safe g c words =
    absurd (covers_alone c.args.words.now words (c.in-Some-Runs.workers, (rw c.in-Some-Runs.field-0-is at c.in-Some-Runs.ensures.named)))
