use Rattle.std.proofs.Common.{refl, sym, ap, ◌∙◌, subst}
use Rattle.script_runner.specs.Faults.{end_of}
use Rattle.script_runner.specs.Run.{begun}
use Rattle.script_runner.specs.Sides.{AreLoggedOn}
use Rattle.script_runner.specs.World.{World}
use Rattle.script_runner.proofs.Counted.{link_on, same_link, tells_on}
use Rattle.script_runner.proofs.Loop.{begins, goes_on, ends_done, ends_fault, ends_turn}
use Rattle.script_runner.proofs.LoggedSides.{run_logged}
use Rattle.script_runner.proofs.TurnLemmas.{taken_at}
use Rattle.script_runner.proofs.runner.replay_lines.Goals as goal

pub lines-init : goal.lines-init
lines-init g c = (
  begins _ _ _ c.new-reader.ensures.number c.new-reader.ensures.reading,
  refl,
  λ linked yes none. none,
  λ yes none. none,
  same_link _ _ _ _,
  λ quiet none. none,
  λ yes none. none,
  λ attached first h. h,
)

pub take_turn-requires : goal.take_turn-requires
take_turn-requires g c =
    let run = c.lines.invariant.0 in
    record {
      logged_on = subst (λ (w : World). AreLoggedOn w.hall.sessions w.sides) (sym run.world) (run_logged (begun _) run.turns c.requires.logged_on);
    }

pub lines-preserved : goal.lines-preserved
lines-preserved g c = (
  goes_on _ _ _ _ _ _ _ _ _ _ _ _ _ refl refl c.lines.invariant.0
      (λ e. rw c.in-Ok-true.field-0-test at (c.in-Ok-true.ensures.reads e))
      (rw c.in-Ok-true.field-0-test at c.in-Ok-true.ensures.again)
      c.next.ensures.later
      (taken_at _ _ _ _ _ _ _ _ _ _ _ _ _ c.number.ensures c.line.ensures c.in_default.ensures.turn)
      c.take_turn.ensures.later,
  c.in_default.ensures.turn.devices.told ∙ c.lines.invariant.1,
  λ linked yes none. c.take_turn.ensures.good_file (c.lines.invariant.4.told ∙ linked) yes (c.lines.invariant.2 linked yes none),
  λ yes none. c.take_turn.ensures.good_store (c.lines.invariant.1 ∙ yes) (c.lines.invariant.3 yes none),
  link_on _ _ _ _ _ _ c.lines.invariant.4 c.take_turn.ensures.link,
  tells_on _ _ _ c.args.hall.now.state.past c.lines.hall.state.past c.take_turn.new.hall.state.past c.lines.invariant.4.faults_later
      c.take_turn.ensures.link.faults_later c.lines.invariant.5 c.take_turn.ensures.good_link,
  λ yes none. c.take_turn.ensures.good_replica (c.lines.invariant.4.told ∙ yes) (c.lines.invariant.6 yes none),
  λ attached first h. c.take_turn.ensures.link_counts attached first (c.lines.invariant.7 attached first h),
)

pub returns-in-Ok-false-clause-run : goal.returns-in-Ok-false-clause-run
returns-in-Ok-false-clause-run g c =
    ends_done _ _ _ _ _ _ _ _ c.lines.invariant.0
    (λ e. rw c.in-Ok-false.field-0-test at (c.in-Ok-false.ensures.reads e))
    (λ n. ap g.S.Source.left (c.next.ensures.untouched n))
    (λ n. ap g.S.Source.faults (c.next.ensures.untouched n))
    _ (c.end_of.ensures ∙ (λ i. end_of (c.condition.ensures i) (c.past.ensures i)))

pub returns-in-Err-clause-run : goal.returns-in-Err-clause-run
returns-in-Err-clause-run g c =
    ends_fault _ _ _ _ _ _ _ _ c.in-Err.fault _ c.why_of.ensures c.lines.invariant.0 c.in-Err.ensures.reads c.in-Err.ensures.again

pub returns-in-Err-take_turn-clause-run : goal.returns-in-Err-take_turn-clause-run
returns-in-Err-take_turn-clause-run g c =
    ends_turn _ _ _ _ _ _ _ _ _ _ _ _ _ _ refl refl c.lines.invariant.0
    (λ e. rw c.in-Ok-true.field-0-test at (c.in-Ok-true.ensures.reads e))
    (rw c.in-Ok-true.field-0-test at c.in-Ok-true.ensures.again)
    (taken_at _ _ _ _ _ _ _ _ _ _ _ _ _ c.number.ensures c.line.ensures c.in-Err-take_turn.ensures.turn)

pub returns-in-Err-take_turn-clause-told : goal.returns-in-Err-take_turn-clause-told
returns-in-Err-take_turn-clause-told g c = c.in-Err-take_turn.ensures.turn.devices.told ∙ c.lines.invariant.1

pub returns-in-Ok-false-clause-good_file : goal.returns-in-Ok-false-clause-good_file
returns-in-Ok-false-clause-good_file g c = c.lines.invariant.2

pub returns-in-Err-clause-good_file : goal.returns-in-Err-clause-good_file
returns-in-Err-clause-good_file g c = c.lines.invariant.2

pub returns-in-Err-take_turn-clause-good_file : goal.returns-in-Err-take_turn-clause-good_file
returns-in-Err-take_turn-clause-good_file g c =
    λ linked yes none. c.take_turn.ensures.good_file (c.lines.invariant.4.told ∙ linked) yes (c.lines.invariant.2 linked yes none)

pub returns-in-Ok-false-clause-good_store : goal.returns-in-Ok-false-clause-good_store
returns-in-Ok-false-clause-good_store g c = c.lines.invariant.3

pub returns-in-Err-clause-good_store : goal.returns-in-Err-clause-good_store
returns-in-Err-clause-good_store g c = c.lines.invariant.3

pub returns-in-Err-take_turn-clause-good_store : goal.returns-in-Err-take_turn-clause-good_store
returns-in-Err-take_turn-clause-good_store g c = λ yes none. c.take_turn.ensures.good_store (c.lines.invariant.1 ∙ yes) (c.lines.invariant.3 yes none)

pub returns-in-Ok-false-clause-link : goal.returns-in-Ok-false-clause-link
returns-in-Ok-false-clause-link g c = c.lines.invariant.4

pub returns-in-Err-clause-link : goal.returns-in-Err-clause-link
returns-in-Err-clause-link g c = c.lines.invariant.4

pub returns-in-Err-take_turn-clause-link : goal.returns-in-Err-take_turn-clause-link
returns-in-Err-take_turn-clause-link g c = link_on _ _ _ _ _ _ c.lines.invariant.4 c.take_turn.ensures.link

pub returns-in-Ok-false-clause-link_fault : goal.returns-in-Ok-false-clause-link_fault
returns-in-Ok-false-clause-link_fault g c = c.lines.invariant.5

pub returns-in-Err-clause-link_fault : goal.returns-in-Err-clause-link_fault
returns-in-Err-clause-link_fault g c = c.lines.invariant.5

pub returns-in-Err-take_turn-clause-link_fault : goal.returns-in-Err-take_turn-clause-link_fault
returns-in-Err-take_turn-clause-link_fault g c =
    tells_on _ _ _ c.args.hall.now.state.past c.lines.hall.state.past c.take_turn.new.hall.state.past c.lines.invariant.4.faults_later
    c.take_turn.ensures.link.faults_later c.lines.invariant.5 c.take_turn.ensures.good_link

pub returns-in-Ok-false-clause-good_replica : goal.returns-in-Ok-false-clause-good_replica
returns-in-Ok-false-clause-good_replica g c = c.lines.invariant.6

pub returns-in-Err-clause-good_replica : goal.returns-in-Err-clause-good_replica
returns-in-Err-clause-good_replica g c = c.lines.invariant.6

pub returns-in-Err-take_turn-clause-good_replica : goal.returns-in-Err-take_turn-clause-good_replica
returns-in-Err-take_turn-clause-good_replica g c = λ yes none. c.take_turn.ensures.good_replica (c.lines.invariant.4.told ∙ yes) (c.lines.invariant.6 yes none)

pub returns-in-Ok-false-clause-link_counts : goal.returns-in-Ok-false-clause-link_counts
returns-in-Ok-false-clause-link_counts g c = c.lines.invariant.7

pub returns-in-Err-clause-link_counts : goal.returns-in-Err-clause-link_counts
returns-in-Err-clause-link_counts g c = c.lines.invariant.7

pub returns-in-Err-take_turn-clause-link_counts : goal.returns-in-Err-take_turn-clause-link_counts
returns-in-Err-take_turn-clause-link_counts g c = λ attached first h. c.take_turn.ensures.link_counts attached first (c.lines.invariant.7 attached first h)
